-- The graphs of the behaviours of an extension that breaks no rule.
use Rattle.std.proofs.Common.{◌≡◌, refl, sym, ap, subst, ◌∙◌, inl, inr, ℕ, zero, suc, ◌^◌, ◌<◌, arith, List, [], ◌∷◌, map, get_or, Option, Some, None}
use Rattle.std.specs.Prelude.{slice_get, All}
use Rattle.std.specs.List.{AllByRecursion}
use Rattle.std.proofs.lemmas.Option.{get_or_from_slice_get}
use Rattle.std.proofs.lemmas.List.{length-map}
use Rattle.std.proofs.lemmas.List.Elements.{All-nil, All-cons, recursion_from_All}
use Rattle.ix_bits.specs.declared.number.Ty.{Ty}
use Rattle.ix_bits.specs.Operators.{value_of}
use Rattle.ix_graph.specs.declared.kind.Kind.{Kind}
use Rattle.ix_graph.specs.declared.kind.Kind.TheVariants as k
use Rattle.ix_graph.specs.declared.graph.Op.{Op}
use Rattle.ix_graph.specs.declared.graph.Graph.{Graph}
use Rattle.ix_graph.specs.Graphs.{IsWrite, HasOneWidth, IsValidGraph}
use Rattle.ix_tree.specs.declared.extension.Table.{Table}
use Rattle.ix_tree.specs.TypedTrees.{TypedTextTree}
use Rattle.ix_extension.specs.Extensions.{ExtensionTree}
use Rattle.ix_extension.specs.WellFormed.{IsOf}
use Rattle.ix_mean.specs.Core.{Statement}
use Rattle.ix_mean.specs.Meaning.{Inputs, Write, Numbers}
use Rattle.ix_mean.specs.Terms.{Term, type_of, value, zero_term, Entry, entry_value}
use Rattle.ix_mean.specs.Order.{write_root}
use Rattle.ix_mean.specs.Typing.{IsTypedStatement, AreInputs}
use Rattle.ix_mean.specs.Effects.{effect}
use Rattle.ix_mean.specs.GraphValues.{IsMeaning}
use Rattle.ix_mean.proofs.Effecting.{effect_kept}
use Rattle.ix_flow.specs.Flows.{kind_of_term}
use Rattle.ix_behaviour.specs.declared.which.Which.{Which}
use Rattle.ix_behaviour.specs.Behaviours.{HasBehaviour, body_at, names_at, statement_at, stored_type, type_of_register, targets_at, frame_at, at_start, effect_by_name}
use Rattle.ix_behaviour.specs.Flags.{flags_at}
use Rattle.ix_behaviour.specs.Laws.{TypedBehaviourLaw, BehaviourEffectLaw, OneAccessLaw, FewLaw}
use Rattle.ix_behaviour.specs.Accesses.{AccessesAreTyped, AccessesLaw, StoredTypeLaw}
use Rattle.ix_behaviour.specs.Tables.{HaveWidthOf, TablesAreRead, TablesLaw, WidthsLaw}
use Rattle.ix_graph_laws.specs.Operations.{entries_in, operations_at, IsGraphOf}
use Rattle.ix_graph_laws.specs.GraphEffects.{AreReads, read_raw}
use Rattle.ix_graph_laws.specs.Laws.{DoesTheSame, HasValues}
use Rattle.ix_graph_laws.proofs.Addresses.{without, all_plain, start_plain, plain_target}
use Rattle.ix_graph_laws.proofs.Valid.{AreTargets, op_at, Is, what, write_is, graph_valid}
use Rattle.ix_graph_laws.proofs.Running.{gives}
use Rattle.ix_graph_laws.proofs.Under.{AreFit, has_meaning, has_reads, term_below, write_never}
use Rattle.ix_graph.specs.Roles.{role_of}
use Rattle.ix_terms.specs.Places.{IsOperation}
use Rattle.ix_graph_laws.proofs.Doing.{writes_are, reads_are}

wide_all : (ts : List Table) → AllByRecursion (λ table. HaveWidthOf table.ty table.entries) ts → All HasOneWidth (map entries_in ts)
wide_all [] h = All-nil HasOneWidth
wide_all (t ∷ ts) h = All-cons HasOneWidth t.entries (map entries_in ts) (t.ty.width, h.0) (wide_all ts h.1)

write_writes : (n : ℕ) (e : Entry) → IsWrite (kind_of_term (write_root n e))
write_writes zero e = tt
write_writes (suc zero) e = tt
write_writes (suc (suc zero)) e = tt
write_writes (suc (suc (suc r))) e = tt

-- all that laws of behaviours say of one
pub record IsLawful (x : ExtensionTree) (w : Which) : Type 0 where
  pub typed : IsTypedStatement (frame_at x w) (statement_at x w)
  pub accesses : AccessesAreTyped (statement_at x w)
  pub tables : TablesAreRead x.tables (statement_at x w)
  pub widths : All (λ table. HaveWidthOf table.ty table.entries) x.tables
  pub targets : AreTargets (frame_at x w) (statement_at x w) x.tables typed accesses tables

pub lawful : TypedBehaviourLaw → FewLaw → AccessesLaw → StoredTypeLaw → TablesLaw → WidthsLaw → (t : TypedTextTree) (x : ExtensionTree) (w : Which) → IsOf t x → HasBehaviour x w → IsLawful x w
lawful typed few accesses stored tables widths t x w h b =
    let count = length-map x.registers type_of_register in
    let most = (few t x h).registers in
    record {
      typed = typed t x w h b;
      accesses = accesses t x w h b;
      tables = tables t x w h b;
      widths = widths t x h;
      targets = record { stored = stored_type (statement_at x w); registers = map type_of_register x.registers; are = refl; access = stored t x w h b; few = omega (arith, count, most) };
    }

pub valid_graph : (x : ExtensionTree) (w : Which) (g : Graph) → IsLawful x w → IsGraphOf x w g → IsValidGraph g
valid_graph x w g l h =
    graph_valid (frame_at x w) (statement_at x w) x.tables l.typed l.accesses l.tables l.targets g h.ops h.tables_are (flags_at x w) h.few h.flags
    (wide_all x.tables (recursion_from_All (λ (table : Table). HaveWidthOf table.ty table.entries) x.tables l.widths))

module _ (x : ExtensionTree) (w : Which) (g : Graph) (l : IsLawful x w) (h : IsGraphOf x w g) (i : Inputs) (inputs : AreInputs (targets_at x w) i) (terms : ℕ → ℕ) (means : IsMeaning g terms)
    (reads : AreReads g i terms) where
  values_same : (n : ℕ) (o : Op) → slice_get g.ops n ≡ Some o → (IsWrite o.kind → ⊥) → value_of o.ty (terms n) ≡ value i (get_or (operations_at x w) n zero_term)
  values_same n o e never =
      let r = op_at (operations_at x w) (operations_at x w) g.ops n o h.ops e in
      by r.term r.there r.is.kind_is r.is.ty_is (what (frame_at x w) (statement_at x w) x.tables l.typed l.accesses l.tables l.targets g h.ops h.tables_are n r.term r.there)
    where
      by : (u : Term) → slice_get (operations_at x w) n ≡ Some u → o.kind ≡ kind_of_term u → o.ty ≡ type_of u → Is (frame_at x w) (statement_at x w) x.tables l.typed l.accesses l.tables l.targets g h.ops h.tables_are u
          → value_of o.ty (terms n) ≡ value i (get_or (operations_at x w) n zero_term)
      by u p d y (inl q) =
          ap (λ (z : Ty). value_of z (terms n)) y
          ∙ gives (frame_at x w) (statement_at x w) x.tables l.typed l.accesses l.tables l.targets g h.ops h.tables_are (valid_graph x w g l h) i inputs terms means reads n u p q
          ∙ ap (value i) (sym (get_or_from_slice_get (operations_at x w) n u zero_term p))
      by u p d y (inr q) =
          let s = write_is (frame_at x w) (statement_at x w) x.tables l.typed l.accesses l.tables l.targets g h.ops h.tables_are u q in
          absurd (never (subst IsWrite (sym (d ∙ ap kind_of_term s)) (write_writes q.place q.entry)))

  pub does_same : (t : TypedTextTree) → IsOf t x → HasBehaviour x w → BehaviourEffectLaw → OneAccessLaw → DoesTheSame x w i g terms
  does_same t of has law access =
      let f = frame_at x w in
      let s = statement_at x w in
      let kept = effect_kept f s i l.typed inputs in
      let word : i.word < 2 ^ 32 = inputs k.RdInstr Rattle.ix_mean.specs.Core.u32 refl in
      let targets : map (entry_value i) (Rattle.ix_mean.specs.Effects.effect_terms f s).targets ≡ effect_by_name x w i = ap (λ (z : Numbers). z.targets) kept.writes ∙ law t x w i of has word in
      let plain = all_plain (names_at x w) i (body_at x w) (at_start x w) (start_plain (targets_at x w)) in
      record {
        values = values_same;
        writes = λ n.
            writes_are f s x.tables l.typed l.accesses l.tables l.targets g h.ops h.tables_are (valid_graph x w g l h) i inputs terms means reads n
            ∙ ap (λ (z : List (Option Write)). without n (get_or z n None)) targets ∙ plain_target (effect_by_name x w i) n plain;
        reads = reads_are f s x.tables l.typed l.accesses l.tables l.targets g h.ops h.tables_are (valid_graph x w g l h) i inputs terms means reads (access t x w of has).stands ∙ kept.reads_are;
      }

-- ---- under all inputs there are values
module _ (x : ExtensionTree) (w : Which) (g : Graph) (l : IsLawful x w) (h : IsGraphOf x w g) (i : Inputs) (inputs : AreInputs (targets_at x w) i) where
  are_fit : AreFit g i
  are_fit n o e r xs =
      let d = op_at (operations_at x w) (operations_at x w) g.ops n o h.ops e in
      by d.term d.is.kind_is d.is.ty_is d.is.operation (what (frame_at x w) (statement_at x w) x.tables l.typed l.accesses l.tables l.targets g h.ops h.tables_are n d.term d.there)
    where
      by : (u : Term) → o.kind ≡ kind_of_term u → o.ty ≡ type_of u → IsOperation u → Is (frame_at x w) (statement_at x w) x.tables l.typed l.accesses l.tables l.targets g h.ops h.tables_are u
          → read_raw i o.kind o.ty xs < 2 ^ o.ty.width
      by u d y p (inl q) =
          let there = term_below (targets_at x w) i inputs u xs q.typed p (ap role_of (sym d) ∙ r) in
          let K : Kind → Type 0 = λ z. read_raw i z (type_of u) xs < 2 ^ (type_of u).width in
          let T : Ty → Type 0 = λ z. read_raw i o.kind z xs < 2 ^ z.width in
          subst T (sym y) (subst K (sym d) there)
      by u d y p (inr q) =
          let s = write_is (frame_at x w) (statement_at x w) x.tables l.typed l.accesses l.tables l.targets g h.ops h.tables_are u q in
          absurd (write_never q.place q.entry (ap (λ (z : Term). role_of (kind_of_term z)) (sym s) ∙ ap role_of (sym d) ∙ r))

  pub has_values : HasValues g i
  has_values = record { meaning = has_meaning g i (valid_graph x w g l h) are_fit; reads = has_reads g i (valid_graph x w g l h) }
