-- What the step at a place of the run loads is what the operation of its graph reads that loads.
use Rattle.std.proofs.Common.{◌≡◌, refl, sym, ap, subst, ◌∙◌, ℕ, zero, suc, ◌/◌, ◌%◌, ◌^◌, ◌<◌, arith, ℤ, pos, Bool, true, false, cond, List, [], ◌∷◌, ◌++◌, map, get_or, Option, Some, None, inl, inr}
use Rattle.std.specs.Prelude.{slice_get, option_map, if◌then◌else◌, IfSome}
use Rattle.std.specs.List.{AllByRecursion}
use native.Mathlib.Nat.{mod-eq_of_lt}
use Rattle.std.proofs.lemmas.Nat.{pow_pos}
use Rattle.std.proofs.lemmas.List.{append-nil}
use Rattle.std.proofs.lemmas.List.Elements.{recursion_from_All}
use Rattle.ix_bits.specs.declared.number.Ty.{Ty}
use Rattle.ix_bits.specs.declared.number.Bits.{Bits}
use Rattle.ix_bits.specs.Operators.{pattern_of, is_true}
use Rattle.ix_bits.specs.Types.{number_of}
use Rattle.ix_bits.proofs.Patterns.{pattern_of_number}
use Rattle.ix_bits.proofs.Remainders.{rem_below_lem}
use Rattle.ix_graph.specs.declared.kind.Kind.{Kind}
use Rattle.ix_graph.specs.declared.kind.Kind.TheVariants as k
use Rattle.ix_graph.specs.declared.args.Arg.{Arg}
use Rattle.ix_graph.specs.declared.args.Arg.TheVariants as arg
use Rattle.ix_graph.specs.declared.graph.Op.{Op}
use Rattle.ix_graph.specs.declared.graph.Graph.{Graph}
use Rattle.ix_graph.specs.declared.role.Role.{Role}
use Rattle.ix_graph.specs.declared.role.Role.TheVariants.{Read, Compute, Write}
use Rattle.ix_graph.specs.Graphs.{IsWrite, IsUnsigned, IsLoadable, arg_type, IsTyped, IsArgument, IsValidGraph}
use Rattle.ix_graph.specs.Roles.{role_of, same_kind}
use Rattle.ix_graph.proofs.SameKinds.{same_kind_law}
use Rattle.ix_mean.specs.GraphValues.{arg_raw, by_one, by_two, by_choice, by_entry, kind_value, MeansAs, IsMeaning}
use Rattle.ix_mean.specs.Meaning.{Inputs, Access}
use Rattle.ix_mean.specs.View.{raw_of}
use Rattle.ix_mean.specs.Effects.{effect_reads}
use Rattle.ix_behaviour.specs.declared.which.Which.TheVariants as W
use Rattle.ix_behaviour.specs.Behaviours.{statement_at, frame_at}
use Rattle.ix_eval.specs.Evaluated.{read_of, effect_at}
use Rattle.ix_eval.specs.Readings.{first_of}
use Rattle.ix_eval.specs.declared.access.Access.{Access as Place}
use Rattle.ix_graph_laws.specs.GraphEffects.{typed_number, arg_number, numbers_of, memory_raw, accessed, reads_by}
use Rattle.ix_graph_laws.specs.Laws.{DoesTheSame}
use Rattle.rv_seq.specs.Memory.{peeked}
use Rattle.rv_seq.specs.declared.decoded.Decoded.{Decoded}
use Rattle.rv_seq.specs.declared.decoded.Decoded.TheVariants as D
use Rattle.rv_seq.specs.Decoding.{decoded_in}
use Rattle.rv_seq.specs.WordEffects.{effect_of}
use Rattle.rv_seq.specs.declared.answer.StepAnswer.{StepAnswer}
use Rattle.rv_seq.specs.declared.commit.Stop.{Stop}
use Rattle.rv_seq.specs.States.{state_at, inputs_at}
use Rattle.rv_seq.specs.Interrupts.{return_to}
use Rattle.rv_seq.specs.Steps.{word_at, own_effect, unless_stopped, attempted, of_decoded}
use Rattle.rv_seq.specs.Stops.{stop_of}
use Rattle.rv_tried.specs.declared.trial.Trial.{Trial}
use Rattle.rv_tried.specs.Tried.{load_unless, tried_instruction, tried}
use Rattle.rv_holds.specs.Tokens.{stop_in}
use Rattle.rv_lawful.specs.Settings.{run_trial}
use Rattle.rv_ports.specs.Seats.{loaded}
use Rattle.rv_engine.specs.Settings.{Setting, tree_of}
use Rattle.rv_machine.specs.Placed.{run, entries_of}
use Rattle.rv_machine.proofs.Runs.{answer, step_word, trial_word}

-- ---- at most one operation loads

abbrev pub OneLoad : Graph → Type 0
OneLoad g = (j m : ℕ) (o q : Op) → slice_get g.ops j ≡ Some o → slice_get g.ops m ≡ Some q → o.kind ≡ k.RdMem → q.kind ≡ k.RdMem → j ≡ m

module _ (g : Graph) (terms : ℕ → ℕ) where
  none_read : (os : List Op) → ((j : ℕ) (o : Op) → slice_get os j ≡ Some o → o.kind ≡ k.RdMem → ⊥) → reads_by g terms os ≡ []
  none_read [] h = refl
  none_read (o ∷ os) h = by (same_kind o.kind k.RdMem) refl (none_read os (λ j p e. h (suc j) p e))
    where
      by : (b : Bool) → same_kind o.kind k.RdMem ≡ b → reads_by g terms os ≡ [] → cond b (accessed o.ty (numbers_of g terms o)) [] ++ reads_by g terms os ≡ []
      by true f r = absurd (h 0 o refl ((same_kind_law o.kind k.RdMem).0 f))
      by false f r = r

  one_read : (os : List Op) (m : ℕ) (p : Op) → slice_get os m ≡ Some p → p.kind ≡ k.RdMem → ((j : ℕ) (o : Op) → slice_get os j ≡ Some o → o.kind ≡ k.RdMem → j ≡ m)
      → reads_by g terms os ≡ accessed p.ty (numbers_of g terms p)
  one_read [] m p e t h = cc
  one_read (o ∷ os) zero p e t h =
      let same : o ≡ p = cc in
      let rest : reads_by g terms os ≡ [] = none_read os (λ j q d s. (let no : suc j ≡ 0 = h (suc j) q d s in omega (arith, no))) in
      let first : same_kind o.kind k.RdMem ≡ true = (same_kind_law o.kind k.RdMem).1 (ap (λ (z : Op). z.kind) same ∙ t) in
      ap (λ (b : Bool). cond b (accessed o.ty (numbers_of g terms o)) [] ++ reads_by g terms os) first
      ∙ ap (λ (z : List Access). accessed o.ty (numbers_of g terms o) ++ z) rest
      ∙ append-nil (accessed o.ty (numbers_of g terms o)) ∙ ap (λ (z : Op). accessed z.ty (numbers_of g terms z)) same
  one_read (o ∷ os) (suc m) p e t h =
      by (same_kind o.kind k.RdMem) refl (one_read os m p e t (λ j q d s. (let s : suc j ≡ suc m = h (suc j) q d s in omega (arith, s))))
    where
      by : (b : Bool) → same_kind o.kind k.RdMem ≡ b → reads_by g terms os ≡ accessed p.ty (numbers_of g terms p)
          → cond b (accessed o.ty (numbers_of g terms o)) [] ++ reads_by g terms os ≡ accessed p.ty (numbers_of g terms p)
      by true f r = (let no : 0 ≡ suc m = h 0 o refl ((same_kind_law o.kind k.RdMem).0 f) in absurd (omega (arith, no)))
      by false f r = r

-- ---- values are patterns of their widths

pattern_below : (w : ℕ) (z : ℤ) → pattern_of w z < 2 ^ w
pattern_below w z = rem_below_lem (2 ^ w) z (pow_pos w)

one_below : (kind : Kind) (types : List (Option Ty)) (raws : List ℕ) (ty : Ty) → by_one kind types raws ty < 2 ^ ty.width
one_below kind (Some a ∷ []) (x ∷ []) ty = pattern_below ty.width _
one_below kind _ _ ty = pow_pos ty.width

two_below : (kind : Kind) (types : List (Option Ty)) (raws : List ℕ) (ty : Ty) → by_two kind types raws ty < 2 ^ ty.width
two_below kind (Some a ∷ Some b ∷ []) (x ∷ y ∷ []) ty = pattern_below ty.width _
two_below kind _ _ ty = pow_pos ty.width

choice_below : (types : List (Option Ty)) (raws : List ℕ) (ty : Ty) → by_choice types raws ty < 2 ^ ty.width
choice_below (Some c ∷ Some a ∷ Some b ∷ []) (s ∷ x ∷ y ∷ []) ty = pattern_below ty.width _
choice_below _ _ ty = pow_pos ty.width

entry_below : (entries : List Bits) (width n : ℕ) → AllByRecursion (λ (entry : Bits). entry.width ≡ width) entries → get_or (map raw_of entries) n 0 < 2 ^ width
entry_below [] width n h = pow_pos width
entry_below (b ∷ entries) width zero h = subst (λ w. b.raw < 2 ^ w) h.0 b.in_width
entry_below (b ∷ entries) width (suc n) h = entry_below entries width n h.1

module _ (g : Graph) (valid : IsValidGraph g) (terms : ℕ → ℕ) (means : IsMeaning g terms) where
  rom_below : (table : ℕ) (args : List Arg) (raws : List ℕ) (ty : Ty) → IsTyped g (k.Rom table) args ty → by_entry (slice_get g.tables table) raws < 2 ^ ty.width
  rom_below table args raws ty typed =
      let entries = typed.2.0 in
      let is = typed.2.1 in
      subst (λ (o : Option (List Bits)). by_entry o raws < 2 ^ ty.width) (sym is) (by raws) where
        by : (raws : List ℕ) → by_entry (Some typed.2.0) raws < 2 ^ ty.width
        by (x ∷ []) = entry_below typed.2.0 ty.width x (recursion_from_All (λ (entry : Bits). entry.width ≡ ty.width) typed.2.0 typed.2.2.entries)
        by _ = pow_pos ty.width

  kind_below : (kind : Kind) (args : List Arg) (types : List (Option Ty)) (raws : List ℕ) (ty : Ty) → IsTyped g kind args ty → kind_value g.tables kind types raws ty < 2 ^ ty.width
  unfolding kind_value
  kind_below k.Not args types raws ty h = one_below k.Not types raws ty
  kind_below k.Neg args types raws ty h = one_below k.Neg types raws ty
  kind_below k.Lnot args types raws ty h = one_below k.Lnot types raws ty
  kind_below (k.Range hi lo) args types raws ty h = one_below (k.Range hi lo) types raws ty
  kind_below k.Cast args types raws ty h = one_below k.Cast types raws ty
  kind_below k.Mux args types raws ty h = choice_below types raws ty
  kind_below (k.Rom table) args types raws ty h = rom_below table args raws ty h
  kind_below kind args types raws ty h = two_below kind types raws ty

  writes_role : (kind : Kind) → role_of kind ≡ Write → IsWrite kind
  writes_role k.WrRD e = tt
  writes_role k.WrPC e = tt
  writes_role (k.WrCustReg r) e = tt
  writes_role k.WrMem e = tt
  writes_role kind e = cc

  term_below : (m : ℕ) (o : Op) → slice_get g.ops m ≡ Some o → (IsWrite o.kind → ⊥) → terms m < 2 ^ o.ty.width
  term_below m o e never = by (role_of o.kind) refl (means m o e) where
    by : (r : Role) → role_of o.kind ≡ r → MeansAs r g terms m o → terms m < 2 ^ o.ty.width
    by Read q h = h
    by Compute q h = subst (λ n. n < 2 ^ o.ty.width) (sym h) (kind_below o.kind o.args (map (arg_type g.ops) o.args) (map (arg_raw terms) o.args) o.ty (valid.ops m o e).typed)
    by Write q h = absurd (never (writes_role o.kind q))

  -- so is an argument
  arg_below : (j : ℕ) (u : Arg) (a : Ty) → IsArgument g.ops j u → arg_type g.ops u ≡ Some a → arg_raw terms u < 2 ^ a.width
  arg_below j (arg.Const ty bits) a h e =
      let same : ty ≡ a = cc in
      subst (λ (z : Ty). bits.raw < 2 ^ z.width) same (subst (λ w. bits.raw < 2 ^ w) h bits.in_width)
  arg_below j (arg.Op m) a h e = by (slice_get g.ops m) refl h.1 e where
    by : (o : Option Op) → slice_get g.ops m ≡ o → IfSome o (λ op. IsWrite op.kind → ⊥) → option_map (λ (op : Op). op.ty) o ≡ Some a → terms m < 2 ^ a.width
    by None q f d = cc
    by (Some op) q f d = (let same : op.ty ≡ a = cc in subst (λ (z : Ty). terms m < 2 ^ z.width) same (term_below m op q f))

-- ---- what a load gives

same_address : (raw : ℕ) → raw < 2 ^ 32 → pattern_of 32 (pos raw) ≡ raw
same_address raw lt = pattern_of_number false 32 raw (omega arith) lt

abbrev Loads : List ℕ → Ty → ℕ → Type 0
Loads mem ty raw = loaded mem (Some (read_of (record { ty = ty; at = pos raw }))) ≡ peeked mem raw (ty.width / 8)

load_sized : (mem : List ℕ) (ty : Ty) (raw : ℕ) → IsLoadable ty → raw < 2 ^ 32 → Loads mem ty raw
load_sized mem ty raw (inl h) lt = by ty.width h.wide where
  by : (w : ℕ) → w ≡ 8 → loaded mem (Some (Rattle.ix_eval.specs.Sizes.sized (w / 8) (pattern_of 32 (pos raw)))) ≡ peeked mem raw (w / 8)
  by w e = subst (λ w. loaded mem (Some (Rattle.ix_eval.specs.Sizes.sized (w / 8) (pattern_of 32 (pos raw)))) ≡ peeked mem raw (w / 8)) (sym e) (ap (λ at. peeked mem at 1) (same_address raw lt))
load_sized mem ty raw (inr (inl h)) lt = by ty.width h.wide where
  by : (w : ℕ) → w ≡ 16 → loaded mem (Some (Rattle.ix_eval.specs.Sizes.sized (w / 8) (pattern_of 32 (pos raw)))) ≡ peeked mem raw (w / 8)
  by w e = subst (λ w. loaded mem (Some (Rattle.ix_eval.specs.Sizes.sized (w / 8) (pattern_of 32 (pos raw)))) ≡ peeked mem raw (w / 8)) (sym e) (ap (λ at. peeked mem at 2) (same_address raw lt))
load_sized mem ty raw (inr (inr h)) lt = by ty.width h.wide where
  by : (w : ℕ) → w ≡ 32 → loaded mem (Some (Rattle.ix_eval.specs.Sizes.sized (w / 8) (pattern_of 32 (pos raw)))) ≡ peeked mem raw (w / 8)
  by w e = subst (λ w. loaded mem (Some (Rattle.ix_eval.specs.Sizes.sized (w / 8) (pattern_of 32 (pos raw)))) ≡ peeked mem raw (w / 8)) (sym e) (ap (λ at. peeked mem at 4) (same_address raw lt))

-- the datum of what is accessed, in as many bits as its type has
module _ (g : Graph) (valid : IsValidGraph g) (terms : ℕ → ℕ) (means : IsMeaning g terms) (i : Inputs) (mem : List ℕ) (memory : i.memory ≡ peeked mem) where
  abbrev Datum : Ty → List ℤ → Type 0
  Datum ty numbers = loaded mem (option_map read_of (first_of (accessed ty numbers))) % 2 ^ ty.width ≡ memory_raw i ty numbers

  by_condition : (ty : Ty) (raw : ℕ) (c : ℤ) → IsLoadable ty → raw < 2 ^ 32 → Datum ty (pos raw ∷ c ∷ [])
  by_condition ty raw c loadable lt = by (is_true c) where
    by : (b : Bool) → loaded mem (option_map read_of (first_of (if b then record { ty = ty; at = pos raw } ∷ [] else []))) % 2 ^ ty.width ≡ (if b then i.memory raw (ty.width / 8) % 2 ^ ty.width else 0)
    by true = ap (λ v. v % 2 ^ ty.width) (load_sized mem ty raw loadable lt ∙ sym (ap (λ (f : ℕ → ℕ → ℕ). f raw (ty.width / 8)) memory))
    by false = mod-eq_of_lt (pow_pos ty.width)

  pub datum_is : (j : ℕ) (op : Op) → slice_get g.ops j ≡ Some op → op.kind ≡ k.RdMem → Datum op.ty (numbers_of g terms op)
  datum_is j op e is =
      let v = valid.ops j op e in
      let typed : IsTyped g k.RdMem op.args op.ty = subst (λ z. IsTyped g z op.args op.ty) is v.typed in
      by op.args typed.0.0 typed.0.1 typed.0.2 typed.0.3.0 (recursion_from_All (IsArgument g.ops j) op.args v.arguments) where
        loadable : IsLoadable op.ty
        loadable = (subst (λ z. IsTyped g z op.args op.ty) is (valid.ops j op e).typed).1

        some_same : (a b : Ty) (xs ys : List (Option Ty)) → ◌≡◌ {A = List (Option Ty)} (Some a ∷ xs) (Some b ∷ ys) → a ≡ b
        some_same a b xs ys q = cc

        by : (args : List Arg) (a b : Ty) → map (arg_type g.ops) args ≡ Some a ∷ Some b ∷ [] → IsUnsigned 32 a → AllByRecursion (IsArgument g.ops j) args → Datum op.ty (map (arg_number g terms) args)
        by [] a b q u all = cc
        by (x ∷ []) a b q u all = cc
        by (x ∷ y ∷ z ∷ args) a b q u all = cc
        by (x ∷ y ∷ []) a b q u all =
            let first : arg_type g.ops x ≡ Some a = cc in
            let low : arg_raw terms x < 2 ^ 32 = subst (λ w. arg_raw terms x < 2 ^ w) u.wide (arg_below g valid terms means j x a all.0 first) in
            let number : arg_number g terms x ≡ pos (arg_raw terms x) = ap (λ (o : Option Ty). typed_number o (arg_raw terms x)) first ∙ ap (λ (s : Bool). number_of s a.width (arg_raw terms x)) u.unsigned in
            subst (λ n. Datum op.ty (n ∷ arg_number g terms y ∷ [])) (sym number) (by_condition op.ty (arg_raw terms x) (arg_number g terms y) loadable low)

-- ---- the step at a place

-- what an instruction of the extension loads that does not stop is its first read
module _ (s : Setting) (p word n : ℕ) (there : word_at s.image (run s p).pc ≡ Some word) (own : decoded_in (tree_of s) word ≡ Some (D.Own n)) (goes : stop_in (answer s p) ≡ None) where
  abbrev i : Inputs
  i = inputs_at word (run s p)

  stops_not : (o : Option Stop) (done : StepAnswer) → stop_in (unless_stopped o done) ≡ None → o ≡ None
  stops_not None done e = refl
  stops_not (Some stop) done e = cc

  no_stop : stop_of (D.Own n) (own_effect (tree_of s) (run s p) word (D.Own n)) ≡ None
  unfolding attempted
  no_stop =
      stops_not (stop_of (D.Own n) (own_effect (tree_of s) (run s p) word (D.Own n))) _
      (ap (λ (o : Option Decoded). stop_in (of_decoded (tree_of s) (run s p) word o)) (sym own) ∙ ap stop_in (sym (step_word s p word there)) ∙ goes)

  own_load : (effect_of (tree_of s) (D.Own n) i).load ≡ option_map read_of (first_of (effect_reads (frame_at (tree_of s) (W.Instruction n)) (statement_at (tree_of s) (W.Instruction n)) i))
  unfolding effect_of effect_at
  own_load = refl

  tried_load : (tried (tree_of s) (state_at word (run s p)) (run s p).mem (return_to word (run s p).trap) (Some (D.Own n))).load ≡ load_unless (stop_of (D.Own n) (own_effect (tree_of s) (run s p) word (D.Own n))) (effect_of (tree_of s) (D.Own n) i).load
  unfolding tried tried_instruction
  tried_load = refl

  pub run_load_is : (run_trial (tree_of s) s.image (entries_of s) p).load ≡ option_map read_of (first_of (effect_reads (frame_at (tree_of s) (W.Instruction n)) (statement_at (tree_of s) (W.Instruction n)) i))
  run_load_is =
      ap (λ (t : Trial). t.load) (trial_word s p word there)
      ∙ ap (λ (o : Option Decoded). (tried (tree_of s) (state_at word (run s p)) (run s p).mem (return_to word (run s p).trap) o).load) own
      ∙ tried_load
      ∙ ap (λ (o : Option Stop). load_unless o (effect_of (tree_of s) (D.Own n) i).load) no_stop
      ∙ own_load

  -- so it is what the graph reads
  pub load_term : (g : Graph) (terms : ℕ → ℕ) (mem : List ℕ) → IsValidGraph g → IsMeaning g terms → DoesTheSame (tree_of s) (W.Instruction n) i g terms → OneLoad g → mem ≡ (run s p).mem
      → (j : ℕ) (op : Op) → slice_get g.ops j ≡ Some op → op.kind ≡ k.RdMem → loaded mem (run_trial (tree_of s) s.image (entries_of s) p).load % 2 ^ op.ty.width ≡ memory_raw i op.ty (numbers_of g terms op)
  load_term g terms mem valid means same one is j op e kind =
      let reads : effect_reads (frame_at (tree_of s) (W.Instruction n)) (statement_at (tree_of s) (W.Instruction n)) i ≡ accessed op.ty (numbers_of g terms op) =
      sym same.reads ∙ one_read g terms g.ops j op e kind (λ m q d h. one m j q op d e h kind) in
      ap (λ (o : Option Place). loaded mem o % 2 ^ op.ty.width) (run_load_is ∙ ap (λ l. option_map read_of (first_of l)) reads)
      ∙ datum_is g valid terms means i mem (ap peeked (sym is)) j op e kind
