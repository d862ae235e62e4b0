-- The effects of a behaviour under two inputs, by the operations of its graph.
use Rattle.std.proofs.Common.{true, false, ◌≡◌, refl, sym, ap, ◌∙◌, ℕ, ◌^◌, ◌<◌, ◌≤◌, subst, List, map, get_or, Option, Some, None, ℤ}
use Rattle.std.specs.Prelude.{slice_get}
use Rattle.ix_graph.specs.declared.kind.Kind.TheVariants as k
use Rattle.ix_graph.specs.declared.graph.Op.{Op}
use Rattle.ix_tree.specs.TypedTrees.{TypedTextTree}
use Rattle.ix_extension.specs.Extensions.{ExtensionTree}
use Rattle.ix_extension.specs.WellFormed.{IsOf}
use Rattle.ix_mean.specs.Core.{u32}
use Rattle.ix_mean.specs.Meaning.{Inputs, Write, Numbers}
use Rattle.ix_mean.specs.Terms.{Entry, Load, one_term, loads, entry_value}
use Rattle.ix_mean.specs.Order.{roots}
use Rattle.ix_mean.specs.Typing.{AreInputs}
use Rattle.ix_mean.specs.Effects.{start, effect_terms}
use Rattle.ix_mean.proofs.Effecting.{effect_kept}
use Rattle.ix_flow.specs.Flows.{AreOpsOf, target_of, flag_of}
use Rattle.ix_behaviour.specs.declared.which.Which.{Which}
use Rattle.ix_behaviour.specs.Behaviours.{HasBehaviour, statement_at, frame_at, targets_at, effect_by_name}
use Rattle.ix_behaviour.specs.Laws.{TypedBehaviourLaw, BehaviourEffectLaw}
use Rattle.ix_graph.specs.declared.graph.Graph.{Graph}
use Rattle.ix_graph.specs.Graphs.{IsValidGraph}
use Rattle.ix_sheet.specs.declared.sheet.Sheet.{Sheet}
use Rattle.ix_behaviour.specs.Flags.{flags_at}
use Rattle.ix_graph_laws.specs.Laws.{ValidLaw}
use Rattle.ix_graph_laws.specs.Operations.{operations_at, entries_in, IsGraphOf}
use Rattle.ix_graphs.specs.Graphed.{IsGraphAt}
use Rattle.ix_plan.specs.declared.design.Plan.{Plan}
use Rattle.ix_standing.specs.Standing.{IsPlanned}
use Rattle.ix_depends.specs.Laws.{DependsLaw, BeforeMemoryLaw, TimesLaw, SingleLaw, UnwrittenLaw}
use Rattle.ix_spawns.specs.Targets.{RegistersLaw}
use Rattle.ix_depends.proofs.Unspawned.{memory_unspawned, pc_unspawned, flag_there}
use Rattle.ix_depends.proofs.Times.{IsEarly, IsEarlyNoLoad, early_closed, load_time, store_time, result_time, last_most}
use Rattle.ix_depends.specs.Depends.{Agrees, IsClosed, value_written, IsSameWhereLow}
use Rattle.ix_depends.proofs.Agreeing.{target_same, memory_same, reads_same, unwritten}
use Rattle.ix_depends.proofs.Single.{one_write}

module _ (typed : TypedBehaviourLaw) (effects : BehaviourEffectLaw) (t : TypedTextTree) (x : ExtensionTree) (w : Which) (of : IsOf t x) (has : HasBehaviour x w) where
  abbrev the_loads : List Load
  the_loads = loads one_term (statement_at x w) (start (frame_at x w))

  abbrev the_entries : List Entry
  the_entries = (effect_terms (frame_at x w) (statement_at x w)).targets

  named : (i : Inputs) → AreInputs (targets_at x w) i → map (entry_value i) the_entries ≡ effect_by_name x w i
  named i inputs =
      let word : i.word < 2 ^ 32 = inputs k.RdInstr u32 refl in
      ap (λ (z : Numbers). z.targets) (effect_kept (frame_at x w) (statement_at x w) i (typed t x w of has) inputs).writes ∙ effects t x w i of has word

  pub never_written : (os : List Op) → AreOpsOf (operations_at x w) (operations_at x w) os → (i : Inputs) → AreInputs (targets_at x w) i → (n : ℕ)
      → ((m : ℕ) (o : Op) → slice_get os m ≡ Some o → target_of o.kind ≡ Some n → ⊥) → get_or (effect_by_name x w i) n None ≡ None
  never_written os are i inputs n never =
      let rs = roots the_loads the_entries in
      let nothing : IsClosed os i i (λ m. ⊥) (λ m. ⊥) = record { down = λ m o a e c l. l; low = λ m g. g; agrees = λ m o e g. absurd g } in
      ap (λ (ws : List (Option Write)). get_or ws n None) (sym (named i inputs)) ∙ unwritten rs os are i i (λ m. ⊥) (λ m. ⊥) nothing the_loads the_entries refl n never

  pub same_where_low : (os : List Op) → AreOpsOf (operations_at x w) (operations_at x w) os → (i j : Inputs) → AreInputs (targets_at x w) i → AreInputs (targets_at x w) j
      → (Low Good : ℕ → Type 0) → IsClosed os i j Low Good → IsSameWhereLow x w os i j Low
  same_where_low os are i j left right Low Good closed =
      let rs = roots the_loads the_entries in
      let f = frame_at x w in
      let s = statement_at x w in
      let value : ℕ → List (Option Write) → Option ℤ = λ n ws. value_written ws n in
      record {
        values = λ n l. ap (value n) (sym (named i left)) ∙ target_same rs os are i j Low Good closed the_loads the_entries refl n l ∙ ap (value n) (named j right);
        store = λ l. ap (λ (ws : List (Option Write)). get_or ws 0 None) (sym (named i left)) ∙ memory_same rs os are i j Low Good closed the_loads the_entries refl l ∙ ap (λ (ws : List (Option Write)). get_or ws 0 None) (named j right);
        reads = λ l.
            sym (effect_kept f s i (typed t x w of has) left).reads_are ∙ reads_same rs os are i j Low Good closed the_loads the_entries refl l ∙ (effect_kept f s j (typed t x w of has) right).reads_are;
      }

all_closed : (os : List Op) (i j : Inputs) → ((n : ℕ) (o : Op) → slice_get os n ≡ Some o → Agrees i j o.kind) → IsClosed os i j (λ n. Unit {0}) (λ n. Unit {0})
all_closed os i j h = record { down = λ k o n e c l. tt; low = λ n g. tt; agrees = λ n o e g. h n o e }

pub depends_law : TypedBehaviourLaw → BehaviourEffectLaw → DependsLaw
depends_law typed effects t x w os i j of has are left right agree =
    same_where_low typed effects t x w of has os are i j left right (λ n. Unit {0}) (λ n. Unit {0}) (all_closed os i j agree)

graph_is : (x : ExtensionTree) (w : Which) (g : Graph) → IsGraphAt x w (map entries_in x.tables) g → IsGraphOf x w g
graph_is x w g h = record { ops = h.ops; few = h.few; flags = h.flags; tables_are = h.tables_are }

valid_of : ValidLaw → (t : TypedTextTree) (x : ExtensionTree) (sheet : Sheet) (w : Which) (p : Plan) → IsOf t x → HasBehaviour x w → IsPlanned x sheet w p → IsValidGraph p.graph
valid_of law t x sheet w p of has planned = law t x w p.graph of has (graph_is x w p.graph planned.graph)

pub before_memory_law : TypedBehaviourLaw → BehaviourEffectLaw → ValidLaw → BeforeMemoryLaw
before_memory_law typed effects law t x sheet w p i j of has right planned left other agree =
    let valid = valid_of law t x sheet w p of has planned in
    same_where_low typed effects t x w of has p.graph.ops planned.graph.ops i j left other (IsEarly p.graph sheet p.mode valid right p.times planned.schedule)
    (IsEarlyNoLoad p.graph sheet p.mode valid right p.times planned.schedule) (early_closed p.graph sheet p.mode valid right p.times planned.schedule i j agree)

pub times_law : ValidLaw → RegistersLaw → TimesLaw
times_law law registers t x sheet w p of has right planned =
    let valid = valid_of law t x sheet w p of has planned in
    let none = registers t x w of has in
    let flag = flag_there (flag_of (flags_at x w)) p.graph.ops p.graph.spawned in
    record {
      loads = λ k o e is. (load_time p.graph sheet p.mode valid right p.times planned.schedule k o e is).1;
      stores = λ k o e is.
          (store_time p.graph sheet p.mode valid right p.times planned.schedule k o e is
          (flag k o true planned.graph.flags e ∙ memory_unspawned x w o none (ap target_of is))).1;
      results = λ k o e is. result_time p.graph sheet p.mode valid right p.times planned.schedule k o e is;
      stays = λ k o e is. flag k o false planned.graph.flags e ∙ memory_unspawned x w o none (ap target_of is);
      jumps = λ k o e is. flag k o false planned.graph.flags e ∙ pc_unspawned x w o none (ap target_of is);
      last = subst (λ (n : ℕ). n ≤ 64) (sym planned.last) (last_most p.graph sheet p.mode valid right p.times planned.schedule);
    }

pub single_law : ValidLaw → SingleLaw
single_law law t x sheet w p of has planned =
    one_write (loads one_term (statement_at x w) (start (frame_at x w))) (effect_terms (frame_at x w) (statement_at x w)).targets p.graph planned.graph.ops (valid_of law t x sheet w p of has planned)

pub unwritten_law : TypedBehaviourLaw → BehaviourEffectLaw → UnwrittenLaw
unwritten_law typed effects t x w os i of has are inputs n never = never_written typed effects t x w of has os are i inputs n never
