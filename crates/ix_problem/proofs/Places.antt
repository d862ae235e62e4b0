-- The places of the windows in the list of constraints.
use Rattle.std.proofs.Common.{◌≡◌, ℕ, ◌+◌, ◌<◌, List, ◌++◌, length, get_or, map, sym, ◌∙◌, ap, arith, Some, slice_get}
use Rattle.std.specs.List.{range_with_len}
use Rattle.std.proofs.lemmas.List.{get_or_append_left, get_or-append-add, length-append}
use Rattle.std.proofs.lemmas.List.FromFn.{length-map-range_with_len, get_or-map-range_with_len}
use Rattle.std.proofs.lemmas.Option.{slice_get-get_or}
use Rattle.ix_sheet.specs.declared.problem.Bound.{Bound}
use Rattle.ix_sheet.specs.declared.problem.Bound.TheVariants.{Early, Late, Dep, Chain}
use Rattle.ix_sheet.specs.declared.problem.Problem.{Problem}
use Rattle.ix_problem.specs.Constraints.{bounds_with}

module _ (p : Problem) (paths : List (List ℕ)) where
  abbrev count : ℕ
  count = length p.ops

  abbrev earlies : List Bound
  earlies = map Early (range_with_len 0 count)

  abbrev lates : List Bound
  lates = map Late (range_with_len 0 count)

  abbrev rest : List Bound
  rest = map (λ e. Dep e.0 e.1) p.edges ++ map Chain paths

  pub early_at : (k : ℕ) → k < count → slice_get (bounds_with p paths) k ≡ Some (Early k)
  early_at k h =
      let size = length-map-range_with_len Early 0 count in
      let here : get_or (bounds_with p paths) k (Early 0) ≡ Early k =
      get_or_append_left earlies (lates ++ rest) (Early 0) k (omega arith) ∙ get_or-map-range_with_len Early 0 count k k (Early 0) h (omega arith)
      in
      slice_get-get_or (bounds_with p paths) k (Early 0) (omega (arith, size, length-append earlies (lates ++ rest))) ∙ ap Some here

  pub late_at : (k : ℕ) → k < count → slice_get (bounds_with p paths) (count + k) ≡ Some (Late k)
  late_at k h =
      let size = length-map-range_with_len Early 0 count in
      let more = length-map-range_with_len Late 0 count in
      let here : get_or (bounds_with p paths) (length earlies + k) (Early 0) ≡ Late k =
      get_or-append-add earlies (lates ++ rest) k (Early 0)
      ∙ get_or_append_left lates rest (Early 0) k (omega arith) ∙ get_or-map-range_with_len Late 0 count k k (Early 0) h (omega arith)
      in
      let moved : get_or (bounds_with p paths) (count + k) (Early 0) ≡ Late k = ap (λ (n : ℕ). get_or (bounds_with p paths) (n + k) (Early 0)) (sym size) ∙ here in
      slice_get-get_or (bounds_with p paths) (count + k) (Early 0) (omega (arith, size, more, length-append earlies (lates ++ rest), length-append lates rest)) ∙ ap Some moved
