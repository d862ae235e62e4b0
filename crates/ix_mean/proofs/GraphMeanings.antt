-- A valid graph has values for all that its reads may give.
use Rattle.std.proofs.Common.{◌≡◌, ⊎_elim, ℕ, ◌+◌, ◌<◌, ◌≤◌, ◌^◌, zero, suc, List, [], ◌∷◌, ◌++◌, Some, length, map, get_or, arith, refl, ap, sym, ◌∙◌, subst}
use Rattle.std.specs.Prelude.{slice_get}
use Rattle.std.specs.List.{AllByRecursion}
use Rattle.std.proofs.lemmas.Bool.{cases_lt}
use Rattle.std.proofs.lemmas.List.{length_push, get_or_append_left, get_or-append-add}
use Rattle.std.proofs.lemmas.List.Elements.{recursion_from_All}
use Rattle.ix_graph.specs.declared.args.Arg.{Arg}
use Rattle.ix_graph.specs.declared.args.Arg.TheVariants as arg
use Rattle.ix_graph.specs.declared.graph.Op.{Op}
use Rattle.ix_graph.specs.declared.graph.Graph.{Graph}
use Rattle.ix_graph.specs.Graphs.{IsValidGraph, IsArgument, arg_type}
use Rattle.ix_graph.specs.declared.role.Role.{Role}
use Rattle.ix_graph.specs.declared.role.Role.TheVariants.{Read, Compute, Write}
use Rattle.ix_graph.specs.Roles.{role_of}
use Rattle.ix_mean.specs.GraphValues.{arg_raw, kind_value, MeansAs, value_as, value_at, values_upto, terms_of, FitReads, GraphsHaveMeanings}

module _ (g : Graph) (reads : ℕ → ℕ) where
  count : (n : ℕ) → length (values_upto g reads n) ≡ n
  count zero = refl
  count (suc n) = length_push (values_upto g reads n) (value_at g reads (values_upto g reads n) n (slice_get g.ops n)) ∙ (let h = count n in omega arith)

  last_value : (n : ℕ) → terms_of g reads n ≡ value_at g reads (values_upto g reads n) n (slice_get g.ops n)
  last_value n =
      let v = value_at g reads (values_upto g reads n) n (slice_get g.ops n) in
      let e : n ≡ length (values_upto g reads n) + 0 = (let h = count n in omega arith) in
      ap (λ i. get_or (values_upto g reads n ++ v ∷ []) i 0) e ∙ get_or-append-add (values_upto g reads n) (v ∷ []) 0 0

  -- a value stays what it was
  stays : (n j : ℕ) → j < n → get_or (values_upto g reads n) j 0 ≡ terms_of g reads j
  stays zero j l = absurd (omega arith)
  stays (suc n) j l =
      ⊎_elim
      (λ (before : j < n). get_or_append_left (values_upto g reads n) (value_at g reads (values_upto g reads n) n (slice_get g.ops n) ∷ []) 0 j (let h = count n in omega arith) ∙ stays n j before)
      (λ (here : n ≤ j). (let e : j ≡ n = omega arith in let P : ℕ → Type 0 = λ i. get_or (values_upto g reads (suc n)) i 0 ≡ terms_of g reads i in subst P (sym e) refl))
      (cases_lt j n)

  raws : (k : ℕ) (args : List Arg) → AllByRecursion (IsArgument g.ops k) args → map (arg_raw (λ i. get_or (values_upto g reads k) i 0)) args ≡ map (arg_raw (terms_of g reads)) args
  raws k [] h = refl
  raws k (arg.Op j ∷ args) h = (let a = stays k j h.0.0 in let b = raws k args h.1 in cc)
  raws k (arg.Const ty bits ∷ args) h = ap (λ z. bits.raw ∷ z) (raws k args h.1)

  at_op : (k : ℕ) (op : Op) → slice_get g.ops k ≡ Some op → terms_of g reads k ≡ value_as (role_of op.kind) g reads (values_upto g reads k) k op
  at_op k op h = last_value k ∙ ap (value_at g reads (values_upto g reads k) k) h

  means : (k : ℕ) (op : Op) (r : Role) → IsValidGraph g → FitReads g reads → slice_get g.ops k ≡ Some op → role_of op.kind ≡ r
      → terms_of g reads k ≡ value_as r g reads (values_upto g reads k) k op → MeansAs r g (terms_of g reads) k op
  means k op Read valid fit h e v = (let f = fit k op h e in let P : ℕ → Type 0 = λ n. n < 2 ^ op.ty.width in subst P (sym v) f)
  means k op Compute valid fit h e v =
      v ∙ ap (λ z. kind_value g.tables op.kind (map (arg_type g.ops) op.args) z op.ty) (raws k op.args (recursion_from_All (IsArgument g.ops k) op.args (valid.ops k op h).arguments))
  means k op Write valid fit h e v = tt

pub have_meanings : GraphsHaveMeanings
have_meanings g reads valid fit = (
  λ k op h. means g reads k op (role_of op.kind) valid fit h refl (at_op g reads k op h),
  λ k op h e. at_op g reads k op h ∙ ap (λ r. value_as r g reads (values_upto g reads k) k op) e,
)
