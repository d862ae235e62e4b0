-- What a net that is driven by rows has at its inputs in each cycle.
use Rattle.std.proofs.Common.{◌≡◌, ℕ, zero, suc, ◌+◌, ◌<◌, List, [], ◌∷◌, ◌++◌, length, map, take, get_or, Some, refl, sym, ap, ◌∙◌, arith, length-append}
use Rattle.std.specs.Prelude.{slice_get}
use Rattle.std.proofs.lemmas.List.{get_or_append_left, get_or-append-add, get_or-map, length-map}
use Rattle.std.proofs.lemmas.Option.{get_or_from_slice_get}
use Rattle.ix_net.specs.declared.netlist.Net.{Net}
use Rattle.ix_net.specs.Run.{cycle_at}
use Rattle.ix_net.specs.Valuation.{inputs_of}
use Rattle.ix_plan.specs.declared.design.Plan.{Plan}
use Rattle.rv_trace.specs.declared.row.Row.{Row}
use Rattle.rv_lawful.specs.Entering.{places}
use Rattle.rv_ports.specs.Driven.{Driving, inputs_over, IsDriven}
use Rattle.rv_ports.specs.Inputs.{module_of, inputs_by}
use Rattle.rv_ports.specs.Seats.{shown_by}

module _ (by : Driving) (n : ℕ) (p : Plan) where
  pub over_length : (rows : List Row) → length (inputs_over by n p rows) ≡ length rows
  unfolding inputs_over
  over_length [] = refl
  over_length (row ∷ earlier) =
      let e = over_length earlier in
      let l = length-append (inputs_over by n p earlier) (inputs_by (module_of (by (places earlier)) n p) p (shown_by (by (places earlier)) earlier row) ∷ []) in
      omega (arith, e, l)

  -- the cycle of a row has as its number how many rows are before it
  pub over_at : (newer older : List Row) (row : Row) → get_or (inputs_over by n p (newer ++ (row ∷ older))) (length older) [] ≡ inputs_by (module_of (by (places older)) n p) p (shown_by (by (places older)) older row)
  unfolding inputs_over
  over_at [] older row =
      let e = over_length older in
      let z : length older ≡ length (inputs_over by n p older) + 0 = omega (arith, e) in
      ap (λ i. get_or (inputs_over by n p older ++ inputs_by (module_of (by (places older)) n p) p (shown_by (by (places older)) older row) ∷ []) i []) z
      ∙ get_or-append-add (inputs_over by n p older) (inputs_by (module_of (by (places older)) n p) p (shown_by (by (places older)) older row) ∷ []) 0 []
  over_at (r ∷ newer) older row =
      let rest = newer ++ (row ∷ older) in
      let e = over_length rest in
      let l = length-append newer (row ∷ older) in
      get_or_append_left (inputs_over by n p rest) (inputs_by (module_of (by (places rest)) n p) p (shown_by (by (places rest)) rest r) ∷ []) [] (length older) (omega (arith, e, l))
      ∙ over_at newer older row

  -- so the inputs of a net in the cycle of a row are what the row drives
  pub driven_at : (net : Net) (newer older : List Row) (row : Row) (cycles : List (List ℕ)) → IsDriven by n p net (newer ++ (row ∷ older)) cycles →
      inputs_of net (cycle_at cycles (length older)) ≡ inputs_by (module_of (by (places older)) n p) p (shown_by (by (places older)) older row)
  driven_at net newer older row cycles h =
      let rows = newer ++ (row ∷ older) in
      let e = over_length rows in
      let l = length-append newer (row ∷ older) in
      let m = length-map cycles (inputs_of net) in
      let s : length (map (inputs_of net) cycles) ≡ length (inputs_over by n p rows) = ap (λ (xs : List (List ℕ)). length xs) h.inputs in
      sym (get_or-map (inputs_of net) cycles (length older) [] [] (omega (arith, e, l, m, s)))
      ∙ ap (λ (xs : List (List ℕ)). get_or xs (length older) []) h.inputs
      ∙ over_at newer older row

-- an input has the value that is driven at its place
pub input_at : (net : Net) (values inputs : List ℕ) (i v : ℕ) → inputs_of net values ≡ inputs → i < length net.inputs → slice_get inputs i ≡ Some v → get_or values i 0 ≡ v
input_at net values inputs i v e lt h =
    sym (taken (length net.inputs) values i lt) ∙ ap (λ (xs : List ℕ). get_or xs i 0) e ∙ get_or_from_slice_get inputs i v 0 h where
      taken : (n : ℕ) (xs : List ℕ) (i : ℕ) → i < n → get_or (take n xs) i 0 ≡ get_or xs i 0
      taken zero xs i lt = absurd (omega (arith, lt))
      taken (suc n) [] i lt = refl
      taken (suc n) (x ∷ xs) zero lt = refl
      taken (suc n) (x ∷ xs) (suc i) lt = taken n xs i (omega (arith, lt))
