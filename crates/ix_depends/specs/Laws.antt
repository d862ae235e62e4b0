-- Laws on what the effects of behaviours of extensions that break no rule depend on.
use Rattle.std.specs.Prelude.{◌≡◌, ℕ, ◌<◌, ◌≤◌, List, get_or, slice_get, slice_index, slice_index_or, Some, None, false}
use Rattle.ix_graph.specs.declared.graph.Op.{Op}
use Rattle.ix_graph.specs.declared.kind.Kind.TheVariants.{RdMem, WrMem, WrPC, WrRD}
use Rattle.ix_sheet.specs.declared.sheet.Sheet.{Sheet}
use Rattle.ix_sheet.specs.Sheets.{IsValidSheet}
use Rattle.ix_tree.specs.TypedTrees.{TypedTextTree}
use Rattle.ix_extension.specs.Extensions.{ExtensionTree}
use Rattle.ix_extension.specs.WellFormed.{IsOf}
use Rattle.ix_mean.specs.Meaning.{Inputs}
use Rattle.ix_mean.specs.Typing.{AreInputs}
use Rattle.ix_behaviour.specs.declared.which.Which.{Which}
use Rattle.ix_behaviour.specs.declared.which.Which.TheVariants as W
use Rattle.ix_behaviour.specs.Behaviours.{HasBehaviour, targets_at, effect_by_name}
use Rattle.ix_flow.specs.Flows.{AreOpsOf, target_of}
use Rattle.ix_graph_laws.specs.Operations.{operations_at}
use Rattle.ix_plan.specs.declared.design.Plan.{Plan}
use Rattle.ix_standing.specs.Standing.{IsPlanned}
use Rattle.ix_depends.specs.Depends.{Agrees, IsSameWhereLow}

-- where two inputs agree on what the operations read, the behaviour does the same under both
abbrev pub DependsLaw : Type 0
DependsLaw =
    (t : TypedTextTree) (x : ExtensionTree) (w : Which) (ops : List Op) (i j : Inputs) → IsOf t x → HasBehaviour x w → AreOpsOf (operations_at x w) (operations_at x w) ops →
    AreInputs (targets_at x w) i → AreInputs (targets_at x w) j → ((n : ℕ) (o : Op) → slice_get ops n ≡ Some o → Agrees i j o.kind) → IsSameWhereLow x w ops i j (λ n. Unit {0})

-- the time of the operation is below MEM
abbrev pub IsBeforeMemory : Sheet → Plan → ℕ → Type 0
IsBeforeMemory sheet p k = slice_index p.times k < sheet.shape.mem

-- where they agree but for the memory, it does the same before MEM
abbrev pub BeforeMemoryLaw : Type 0
BeforeMemoryLaw =
    (t : TypedTextTree) (x : ExtensionTree) (sheet : Sheet) (w : Which) (p : Plan) (i j : Inputs) → IsOf t x → HasBehaviour x w → IsValidSheet sheet → IsPlanned x sheet w p →
    AreInputs (targets_at x w) i → AreInputs (targets_at x w) j → ((n : ℕ) (o : Op) → slice_get p.graph.ops n ≡ Some o → (o.kind ≡ RdMem → ⊥) → Agrees i j o.kind) →
    IsSameWhereLow x w p.graph.ops i j (IsBeforeMemory sheet p)

-- loads and stores are at EX, no x register is written before EX, what stores or writes the pc is not spawned, and no time is past 64
pub record AreTimely (sheet : Sheet) (p : Plan) : Type 0 where
  pub loads : (k : ℕ) (o : Op) → slice_get p.graph.ops k ≡ Some o → o.kind ≡ RdMem → slice_index p.times k ≤ sheet.shape.ex
  pub stores : (k : ℕ) (o : Op) → slice_get p.graph.ops k ≡ Some o → o.kind ≡ WrMem → slice_index p.times k ≤ sheet.shape.ex
  pub results : (k : ℕ) (o : Op) → slice_get p.graph.ops k ≡ Some o → o.kind ≡ WrRD → sheet.shape.ex ≤ slice_index p.times k
  pub stays : (k : ℕ) (o : Op) → slice_get p.graph.ops k ≡ Some o → o.kind ≡ WrMem → slice_index_or p.graph.spawned k false ≡ false
  pub jumps : (k : ℕ) (o : Op) → slice_get p.graph.ops k ≡ Some o → o.kind ≡ WrPC → slice_index_or p.graph.spawned k false ≡ false
  pub last : p.last ≤ 64

abbrev pub TimesLaw : Type 0
TimesLaw =
    (t : TypedTextTree) (x : ExtensionTree) (sheet : Sheet) (w : Which) (p : Plan) → IsOf t x → HasBehaviour x w → IsValidSheet sheet → IsPlanned x sheet w p → AreTimely sheet p

-- a target is written by at most one operation
abbrev pub SingleLaw : Type 0
SingleLaw =
    (t : TypedTextTree) (x : ExtensionTree) (sheet : Sheet) (w : Which) (p : Plan) → IsOf t x → HasBehaviour x w → IsPlanned x sheet w p →
    (n j m : ℕ) (o q : Op) → slice_get p.graph.ops j ≡ Some o → slice_get p.graph.ops m ≡ Some q → target_of o.kind ≡ Some n → target_of q.kind ≡ Some n → j ≡ m

-- other operands and another memory
abbrev pub seeing : Inputs → ℕ → ℕ → (ℕ → ℕ → ℕ) → Inputs
seeing i first second memory = record { word = i.word; rs1 = first; rs2 = second; pc = i.pc; custom = i.custom; memory = memory }

-- an always-block does the same whatever operands and memory there are
abbrev pub BlindLaw : Type 0
BlindLaw =
    (t : TypedTextTree) (x : ExtensionTree) (n : ℕ) (i : Inputs) (first second : ℕ) (memory : ℕ → ℕ → ℕ) → IsOf t x → HasBehaviour x (W.Block n) →
    effect_by_name x (W.Block n) i ≡ effect_by_name x (W.Block n) (seeing i first second memory)

-- a target that no operation writes is not written
abbrev pub UnwrittenLaw : Type 0
UnwrittenLaw =
    (t : TypedTextTree) (x : ExtensionTree) (w : Which) (ops : List Op) (i : Inputs) → IsOf t x → HasBehaviour x w → AreOpsOf (operations_at x w) (operations_at x w) ops →
    AreInputs (targets_at x w) i → (n : ℕ) → ((m : ℕ) (o : Op) → slice_get ops m ≡ Some o → target_of o.kind ≡ Some n → ⊥) → get_or (effect_by_name x w i) n None ≡ None
