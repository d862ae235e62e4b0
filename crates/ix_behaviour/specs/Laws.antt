-- Laws of the behaviours of extensions that break no rule, and of the values in loops' heads.
use Rattle.std.specs.Prelude.{◌≡◌, ℕ, ◌+◌, ◌^◌, ◌<◌, ◌≤◌, ℤ, Bool, List, [], ◌∷◌, length, Option, Some, None}
use Rattle.ix_tree.specs.LoopHeads.{Binding, Valued, value_in, head_value}
use Rattle.ix_tree.specs.TypedTrees.{TypedExprTree, TypedStmtTree, TypedTextTree, type_of, erased}
use Rattle.ix_typing.specs.declared.state.Setting.{Setting}
use Rattle.ix_typing.specs.declared.state.State.{State}
use Rattle.ix_typing.specs.Laws.{AreVariables}
use Rattle.ix_typed.specs.Expressions.{IsExpr}
use Rattle.ix_extension.specs.Extensions.{ExtensionTree}
use Rattle.ix_extension.specs.WellFormed.{IsOf}
use Rattle.ix_mean.specs.Meaning.{Inputs, Write}
use Rattle.ix_mean.specs.Effects.{effect, effect_reads}
use Rattle.ix_mean.specs.Typing.{IsTypedStatement}
use Rattle.ix_mean.specs.ByName.{Names, Local, local_in, table_in, number_by_name}
use Rattle.ix_mean.specs.ResolvingStatements.{Scope, step, outside, IsResolvedStatement}
use Rattle.ix_behaviour.specs.declared.which.Which.{Which}
use Rattle.ix_behaviour.specs.Behaviours.{HasBehaviour, body_at, names_at, statement_at, frame_at, accesses_in, effect_by_name, reads_by_name}

-- each statement has its names resolved in the scope behind those before it
abbrev pub AreResolved : Names → List TypedStmtTree → Scope → Type 0
AreResolved ns [] sc = Unit {0}
AreResolved ns (x ∷ xs) sc = IsResolvedStatement ns x sc × AreResolved ns xs (step ns x sc).scope

-- the names of a behaviour are resolved
abbrev pub ResolvedLaw : Type 0
ResolvedLaw = (t : TypedTextTree) (x : ExtensionTree) (w : Which) → IsOf t x → HasBehaviour x w → AreResolved (names_at x w) (body_at x w) outside

-- and what it is resolved to is typed
abbrev pub TypedBehaviourLaw : Type 0
TypedBehaviourLaw = (t : TypedTextTree) (x : ExtensionTree) (w : Which) → IsOf t x → HasBehaviour x w → IsTypedStatement (frame_at x w) (statement_at x w)

-- what the resolved behaviour writes is what the behaviour does by its names
abbrev pub BehaviourEffectLaw : Type 0
BehaviourEffectLaw = (t : TypedTextTree) (x : ExtensionTree) (w : Which) (i : Inputs) → IsOf t x → HasBehaviour x w → i.word < 2 ^ 32
    → (effect (frame_at x w) (statement_at x w) i).targets ≡ effect_by_name x w i

-- and what it reads of memory is what the behaviour reads by its names
abbrev pub BehaviourReadsLaw : Type 0
BehaviourReadsLaw = (t : TypedTextTree) (x : ExtensionTree) (w : Which) (i : Inputs) → IsOf t x → HasBehaviour x w → i.word < 2 ^ 32
    → effect_reads (frame_at x w) (statement_at x w) i ≡ reads_by_name x w i

-- memory, the first target, is written
abbrev pub stores : List (Option Write) → ℕ
stores [] = 0
stores (None ∷ ts) = 0
stores (Some w ∷ ts) = 1

-- in a behaviour stands at most one read or store of memory, so that at most one is done
pub record HasOneAccess (x : ExtensionTree) (w : Which) : Type 0 where
  pub stands : accesses_in (statement_at x w) ≤ 1
  pub is_done : (i : Inputs) → length (effect_reads (frame_at x w) (statement_at x w) i) + stores (effect (frame_at x w) (statement_at x w) i).targets ≤ 1

abbrev pub OneAccessLaw : Type 0
OneAccessLaw = (t : TypedTextTree) (x : ExtensionTree) (w : Which) → IsOf t x → HasBehaviour x w → HasOneAccess x w

-- there are few registers, instructions and always-blocks
pub record IsFew (x : ExtensionTree) : Type 0 where
  pub registers : length x.registers ≤ 16
  pub instructions : length x.instructions ≤ 64
  pub blocks : length x.blocks ≤ 8

abbrev pub FewLaw : Type 0
FewLaw = (t : TypedTextTree) (x : ExtensionTree) → IsOf t x → IsFew x

-- ---- loops' heads
-- a loop's variable is a local with this number, and no table has its name
pub record IsVariable (ns : Names) (ls : List Local) (n : List ℕ) (z : ℤ) : Type 0 where
  pub variable : Local
  pub is : local_in ls n ≡ Some variable
  pub number_is : variable.number ≡ z
  pub no_table : table_in 0 ns.tables n ≡ None

abbrev pub HaveValues : Names → List Local → List Binding → Type 0
HaveValues ns ls bs = (n : List ℕ) (z : ℤ) → value_in bs n ≡ Some z → IsVariable ns ls n z

-- the expression has this type and this number
pub record IsNumber (ns : Names) (i : Inputs) (ls : List Local) (e : TypedExprTree) (v : Valued) : Type 0 where
  pub ty_is : type_of e ≡ v.ty
  pub number_is : number_by_name ns i ls e ≡ v.number

-- the value of a typed expression in a loop's head, if it has one, is its number where the loops' variables have their values
abbrev pub ConstantsLaw : Type 0
ConstantsLaw = (g : Setting) (st : State) (a c : Bool) (e : TypedExprTree) (bs : List Binding) (v : Valued) (ns : Names) (ls : List Local) (i : Inputs)
    → AreVariables bs st → HaveValues ns ls bs → IsExpr g st a e c → head_value (erased e) bs ≡ Some v → IsNumber ns i ls e v
