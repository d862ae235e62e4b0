-- From the extension to the resolved behaviour.
use Rattle.std.proofs.Common.{◌≡◌, ℕ, ◌+◌, ◌<◌, ◌≤◌, sym, ap, subst, ◌∙◌, arith, Bool, List, [], ◌∷◌, ◌++◌, length, map, get_or, drop, append_assoc, Result, Ok, Err}
use Rattle.std.proofs.lemmas.List.{append-nil, drop_all, drop_more, length-map}
use Rattle.ix_bits.specs.declared.number.Bits.{Bits}
use Rattle.ix_graph.specs.declared.graph.Graph.{Graph}
use Rattle.ix_tree.specs.declared.extension.Table.{Table}
use Rattle.ix_mean.specs.Core.{Statement}
use Rattle.ix_mean.specs.Terms.{Term, one_term, loads}
use Rattle.ix_mean.specs.Order.{operations, roots}
use Rattle.ix_mean.specs.Effects.{start, effect_terms}
use Rattle.ix_mean.specs.Typing.{Frame, IsTypedStatement}
use Rattle.ix_mean.specs.View.{view_statements, frame_of}
use Rattle.ix_mean.specs.declared.resolved.ResolvedStmt.{ResolvedStmt}
use Rattle.ix_extension.specs.Extensions.{ExtensionTree}
use Rattle.ix_behaviour.specs.declared.which.Which.{Which}
use Rattle.ix_behaviour.specs.Behaviours.{statement_at, frame_at, type_of_register}
use Rattle.ix_slots.specs.Found.{entries_in, entries_of}
use Rattle.ix_behaviour.specs.Flags.{flags_at}
use Rattle.ix_terms.specs.declared.source.Source.{Source}
use Rattle.ix_flow.specs.Flows.{AreOpsOf, flag_of, FlowsTo}
use Rattle.ix_flow.specs.declared.error.FlowErr.{FlowErr}
use Rattle.ix_flow.specs.declared.error.FlowErr.TheVariants.{TooManyOps, Memory}
use Rattle.ix_graphs.specs.Graphed.{GraphsTo}

-- ---- the entries of tables, one by one
pub entries_step : (tables : List Table) (i : ℕ) (t : Table) (b : List Bits) (out made : List (List Bits)) → i < length tables → t ≡ get_or tables i t → b ≡ entries_in t
    → out ++ map entries_in (drop i tables) ≡ map entries_in tables → made ≡ out ++ b ∷ [] → made ++ map entries_in (drop (i + 1) tables) ≡ map entries_in tables
entries_step tables i t b out made l e f h g =
    ap (λ (xs : List (List Bits)). xs ++ map entries_in (drop (i + 1) tables)) g ∙ append_assoc out (b ∷ []) (map entries_in (drop (i + 1) tables))
    ∙ ap (λ (x : List Bits). out ++ (x ∷ map entries_in (drop (i + 1) tables))) (f ∙ ap entries_in e)
    ∙ ap (λ (ts : List Table). out ++ map entries_in ts) (sym (drop_more tables i t l)) ∙ h

pub entries_end : (tables : List Table) (i : ℕ) (out : List (List Bits)) → length tables ≤ i → out ++ map entries_in (drop i tables) ≡ map entries_in tables → out ≡ entries_of tables
entries_end tables i out l h = sym (append-nil out) ∙ ap (λ (ts : List Table). out ++ map entries_in ts) (sym (drop_all i tables l)) ∙ h

-- ---- what the resolved behaviour is
pub statement_is : (x : ExtensionTree) (w : Which) (tables entries : List (List Bits)) (body all : List ResolvedStmt) → tables ≡ entries → all ≡ body → view_statements entries body ≡ statement_at x w → view_statements tables all ≡ statement_at x w
statement_is x w tables entries body all e f h = ap (λ (ts : List (List Bits)). view_statements ts all) e ∙ ap (view_statements entries) f ∙ h

pub typed_at : (f g : Frame) (s t : Statement) → f ≡ g → s ≡ t → IsTypedStatement g t → IsTypedStatement f s
typed_at f g s t e h k = subst (λ (z : Frame). IsTypedStatement z s) (sym e) (subst (IsTypedStatement g) (sym h) k)

pub targets_few : (x : ExtensionTree) (w : Which) (f : Frame) → f ≡ frame_at x w → length x.registers ≤ 16 → length f.targets ≤ 19
targets_few x w f e n =
    let a : length f.targets ≡ length (frame_at x w).targets = ap (λ (z : Frame). length z.targets) e in
    let b = length-map x.registers type_of_register in
    omega (arith, a, b, n)

pub tables_few : (tables : List (List Bits)) (ts : List Table) (n : ℕ) → tables ≡ entries_of ts → n ≡ length ts → n ≤ 65536 → length tables ≤ 65536
tables_few tables ts n e f l =
    let a : length tables ≡ length (entries_of ts) = ap (λ (z : List (List Bits)). length z) e in
    let b = length-map ts entries_in in
    omega (arith, a, b, f, l)

operations_same : (f g : Frame) (s t : Statement) → f ≡ g → s ≡ t
    → operations (roots (loads one_term s (start f)) (effect_terms f s).targets) ≡ operations (roots (loads one_term t (start g)) (effect_terms g t).targets)
operations_same f g s t e h =
    ap (λ (z : Frame). operations (roots (loads one_term s (start z)) (effect_terms z s).targets)) e ∙ ap (λ (z : Statement). operations (roots (loads one_term z (start g)) (effect_terms g z).targets)) h

pub graph_told : (x : ExtensionTree) (w : Which) (entries : List (List Bits)) (f : Source) (s : Statement) (flags : List Bool) (r : Result Graph FlowErr) → frame_of f.types ≡ frame_at x w → f.tables ≡ entries → s ≡ statement_at x w → flags ≡ flags_at x w
    → FlowsTo f s flags r → GraphsTo x w entries r
graph_told x w entries f s flags (Ok g) e t h b k =
    let same = operations_same (frame_of f.types) (frame_at x w) s (statement_at x w) e h in
    record {
      ops = subst (λ (ts : List Term). AreOpsOf ts ts g.ops) same k.ops;
      few = subst (λ (ts : List Term). length ts ≤ 256) same k.few;
      flags = k.flags ∙ ap (λ (z : List Bool). map (flag_of z) g.ops) b;
      tables_are = k.tables ∙ t;
    }
graph_told x w entries f s flags (Err TooManyOps) e t h b k = subst (λ (ts : List Term). 256 < length ts) (operations_same (frame_of f.types) (frame_at x w) s (statement_at x w) e h) k
graph_told x w entries f s flags (Err Memory) e t h b k = tt
