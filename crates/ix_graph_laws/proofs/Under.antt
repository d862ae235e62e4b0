-- The graph of a behaviour has values under all inputs.
use Rattle.std.proofs.Common.{◌≡◌, refl, sym, ap, subst, ◌∙◌, ⊎_elim, ℕ, zero, suc, ◌+◌, ◌/◌, ◌%◌, ◌^◌, ◌<◌, ◌≤◌, arith, ℤ, Bool, true, false, cond, List, [], ◌∷◌, ◌++◌, length, map, get_or, Some}
use Rattle.std.specs.Prelude.{slice_get, unsigned_abs}
use Rattle.std.specs.List.{AllByRecursion}
use Rattle.std.proofs.lemmas.Bool.{cases_lt}
use Rattle.std.proofs.lemmas.Nat.{pow_pos, mod_below}
use Rattle.std.proofs.lemmas.List.{length_push, get_or_append_left, get_or-append-add}
use Rattle.std.proofs.lemmas.List.Elements.{recursion_from_All}
use Rattle.ix_bits.specs.declared.number.Ty.{Ty}
use Rattle.ix_bits.specs.Operators.{is_true}
use Rattle.ix_graph.specs.declared.kind.Kind.{Kind}
use Rattle.ix_graph.specs.declared.kind.Kind.TheVariants as k
use Rattle.ix_graph.specs.declared.args.Arg.{Arg}
use Rattle.ix_graph.specs.declared.args.Arg.TheVariants as arg
use Rattle.ix_graph.specs.declared.graph.Op.{Op}
use Rattle.ix_graph.specs.declared.graph.Graph.{Graph}
use Rattle.ix_graph.specs.declared.role.Role.{Role}
use Rattle.ix_graph.specs.declared.role.Role.TheVariants.{Read, Compute, Write}
use Rattle.ix_graph.specs.Graphs.{IsArgument, arg_type, IsValidGraph}
use Rattle.ix_graph.specs.Roles.{role_of}
use Rattle.ix_mean.specs.Meaning.{Inputs}
use Rattle.ix_mean.specs.Terms.{Term, t_const, t_read, t_one, t_entry, t_two, t_three, type_of, Entry}
use Rattle.ix_mean.specs.Order.{write_root}
use Rattle.ix_mean.specs.Typing.{IsRead, IsOne, IsTwo, IsThree, IsTerm, AreInputs}
use Rattle.ix_mean.specs.GraphValues.{arg_raw, kind_value, MeansAs, IsMeaning}
use Rattle.ix_terms.specs.Places.{IsOperation}
use Rattle.ix_flow.specs.Flows.{kind_of_term}
use Rattle.ix_graph_laws.specs.GraphEffects.{arg_number, numbers_of, memory_raw, read_raw, AreReads, under_as, under_at, under_upto, values_under}

-- ---- values stay what they were
module _ (g : Graph) (i : Inputs) where
  count : (n : ℕ) → length (under_upto g i n) ≡ n
  count zero = refl
  count (suc n) = length_push (under_upto g i n) (under_at g i (under_upto g i n) (slice_get g.ops n)) ∙ (let h = count n in omega arith)

  last_value : (n : ℕ) → values_under g i n ≡ under_at g i (under_upto g i n) (slice_get g.ops n)
  last_value n =
      let v = under_at g i (under_upto g i n) (slice_get g.ops n) in
      let e : n ≡ length (under_upto g i n) + 0 = (let h = count n in omega arith) in
      ap (λ j. get_or (under_upto g i n ++ v ∷ []) j 0) e ∙ get_or-append-add (under_upto g i n) (v ∷ []) 0 0

  stays : (n j : ℕ) → j < n → get_or (under_upto g i n) j 0 ≡ values_under g i j
  stays zero j l = absurd (omega arith)
  stays (suc n) j l =
      ⊎_elim
      (λ (before : j < n). get_or_append_left (under_upto g i n) (under_at g i (under_upto g i n) (slice_get g.ops n) ∷ []) 0 j (let h = count n in omega arith) ∙ stays n j before)
      (λ (here : n ≤ j). (let e : j ≡ n = omega arith in let P : ℕ → Type 0 = λ m. get_or (under_upto g i (suc n)) m 0 ≡ values_under g i m in subst P (sym e) refl))
      (cases_lt j n)

  raws : (n : ℕ) (args : List Arg) → AllByRecursion (IsArgument g.ops n) args → map (arg_raw (λ j. get_or (under_upto g i n) j 0)) args ≡ map (arg_raw (values_under g i)) args
  raws n [] h = refl
  raws n (arg.Op j ∷ args) h = (let a = stays n j h.0.0 in let b = raws n args h.1 in cc)
  raws n (arg.Const ty bits ∷ args) h = ap (λ z. bits.raw ∷ z) (raws n args h.1)

  number_same : (n : ℕ) (a : Arg) → IsArgument g.ops n a → arg_number g (λ j. get_or (under_upto g i n) j 0) a ≡ arg_number g (values_under g i) a
  number_same n (arg.Op j) h = ap (λ (raw : ℕ). Rattle.ix_graph_laws.specs.GraphEffects.typed_number (arg_type g.ops (arg.Op j)) raw) (stays n j h.0)
  number_same n (arg.Const ty bits) h = refl

  numbers : (n : ℕ) (args : List Arg) → AllByRecursion (IsArgument g.ops n) args → map (arg_number g (λ j. get_or (under_upto g i n) j 0)) args ≡ map (arg_number g (values_under g i)) args
  numbers n [] h = refl
  numbers n (a ∷ args) h =
      ap (λ (z : ℤ). z ∷ map (arg_number g (λ j. get_or (under_upto g i n) j 0)) args) (number_same n a h.0) ∙ ap (λ (z : List ℤ). arg_number g (values_under g i) a ∷ z) (numbers n args h.1)

  at_op : (n : ℕ) (op : Op) → slice_get g.ops n ≡ Some op → values_under g i n ≡ under_as (role_of op.kind) g i (under_upto g i n) op
  at_op n op h = last_value n ∙ ap (under_at g i (under_upto g i n)) h

  -- what reads give fits their types
  abbrev pub AreFit : Type 0
  AreFit = (n : ℕ) (op : Op) → slice_get g.ops n ≡ Some op → role_of op.kind ≡ Read → (xs : List ℤ) → read_raw i op.kind op.ty xs < 2 ^ op.ty.width

  means : (n : ℕ) (op : Op) (r : Role) → IsValidGraph g → AreFit → slice_get g.ops n ≡ Some op → role_of op.kind ≡ r → values_under g i n ≡ under_as r g i (under_upto g i n) op → MeansAs r g (values_under g i) n op
  means n op Read valid fit h e v =
      let f = fit n op h e (numbers_of g (λ j. get_or (under_upto g i n) j 0) op) in
      let P : ℕ → Type 0 = λ m. m < 2 ^ op.ty.width in
      subst P (sym v) f
  means n op Compute valid fit h e v =
      v ∙ ap (λ z. kind_value g.tables op.kind (map (arg_type g.ops) op.args) z op.ty) (raws n op.args (recursion_from_All (IsArgument g.ops n) op.args (valid.ops n op h).arguments))
  means n op Write valid fit h e v = tt

  pub has_meaning : IsValidGraph g → AreFit → IsMeaning g (values_under g i)
  has_meaning valid fit n op h = means n op (role_of op.kind) valid fit h refl (at_op n op h)

  pub has_reads : IsValidGraph g → AreReads g i (values_under g i)
  has_reads valid n op h e =
      at_op n op h ∙ ap (λ (r : Role). under_as r g i (under_upto g i n) op) e
      ∙ ap (read_raw i op.kind op.ty) (numbers n op.args (recursion_from_All (IsArgument g.ops n) op.args (valid.ops n op h).arguments))

-- ---- what is read fits
memory_below : (i : Inputs) (ty : Ty) (xs : List ℤ) → memory_raw i ty xs < 2 ^ ty.width
memory_below i ty [] = pow_pos ty.width
memory_below i ty (a ∷ []) = pow_pos ty.width
memory_below i ty (a ∷ c ∷ []) = by (is_true c)
  where
    by : (b : Bool) → cond b (i.memory (unsigned_abs a) (ty.width / 8) % 2 ^ ty.width) 0 < 2 ^ ty.width
    by true = mod_below (i.memory (unsigned_abs a) (ty.width / 8)) (2 ^ ty.width) (pow_pos ty.width)
    by false = pow_pos ty.width
memory_below i ty (a ∷ c ∷ d ∷ xs) = pow_pos ty.width

module _ (types : List Ty) (i : Inputs) (inputs : AreInputs types i) where
  read_below : (kind : Kind) (ty : Ty) (xs : List ℤ) → IsRead types kind ty → read_raw i kind ty xs < 2 ^ ty.width
  read_below k.RdInstr ty xs h = inputs k.RdInstr ty h
  read_below k.RdRS1 ty xs h = inputs k.RdRS1 ty h
  read_below k.RdRS2 ty xs h = inputs k.RdRS2 ty h
  read_below k.RdPC ty xs h = inputs k.RdPC ty h
  read_below (k.RdCustReg r) ty xs h = inputs (k.RdCustReg r) ty h
  read_below _ ty xs h = absurd h

  one_never : (kind : Kind) (a ty : Ty) → IsOne kind a ty → role_of kind ≡ Read → ⊥
  one_never kind a ty h e = let no : Compute ≡ Read = sym (Rattle.ix_graph_laws.proofs.Running.one_role kind a ty h) ∙ e in cc

  two_below : (kind : Kind) (a c ty : Ty) (xs : List ℤ) → IsTwo kind a c ty → role_of kind ≡ Read → read_raw i kind ty xs < 2 ^ ty.width
  two_below k.RdMem a c ty xs h e = memory_below i ty xs
  two_below kind a c ty xs h e = let no : Compute ≡ Read = sym (Rattle.ix_graph_laws.proofs.Running.operator_role kind a c ty h) ∙ e in cc

  three_never : (kind : Kind) (c a d ty : Ty) → IsThree kind c a d ty → role_of kind ≡ Read → ⊥
  three_never k.Mux c a d ty h e = cc
  three_never _ c a d ty h e = absurd h

  pub term_below : (t : Term) (xs : List ℤ) → IsTerm types t → IsOperation t → role_of (kind_of_term t) ≡ Read → read_raw i (kind_of_term t) (type_of t) xs < 2 ^ (type_of t).width
  term_below (t_const ty raw) xs h o e = absurd o
  term_below (t_read kind ty) xs h o e = read_below kind ty xs h
  term_below (t_one kind ty a) xs h o e = absurd (one_never kind (type_of a) ty h.1 e)
  term_below (t_entry n es ty a) xs h o e = cc
  term_below (t_two kind ty a c) xs h o e = two_below kind (type_of a) (type_of c) ty xs h.2 e
  term_below (t_three kind ty a c d) xs h o e = absurd (three_never kind (type_of a) (type_of c) (type_of d) ty h.3 e)

pub write_never : (n : ℕ) (e : Entry) → role_of (kind_of_term (write_root n e)) ≡ Read → ⊥
write_never zero e h = cc
write_never (suc zero) e h = cc
write_never (suc (suc zero)) e h = cc
write_never (suc (suc (suc r))) e h = cc
