-- What the enables of a module are in a cycle that a row drives.
use Rattle.std.proofs.Common.{◌≡◌, ◌≢◌, ℕ, zero, suc, ◌+◌, ◌-◌, ◌<◌, ◌≤◌, ◌^◌, List, [], ◌∷◌, ◌++◌, map, length, drop, get_or, Option, Some, None, Bool, true, false, cond, refl, sym, ap, ◌∙◌, arith, inl, inr}
use Rattle.std.specs.Prelude.{option_map, unwrap_or, slice_index}
use Rattle.std.specs.List.{position_from, range_with_len}
use Rattle.std.specs.Str.{bytes_eq}
use Rattle.std.proofs.lemmas.Bool.{cases_lt}
use Rattle.std.proofs.lemmas.Fmt.{decimal_injective}
use Rattle.std.proofs.lemmas.List.{length-append, get_or_append_left, get_or-map, get_or-take}
use Rattle.std.proofs.lemmas.List.FromFn.{length-map-range_with_len, get_or-map-range_with_len}
use Rattle.std.proofs.Math.Seq.{get_or-append_seam}
use Rattle.std.proofs.lemmas.Slice.Eq.{bytes_eq-Decides}
use Rattle.ix_graph.specs.declared.graph.Op.{Op}
use Rattle.ix_graph.specs.declared.role.Role.{Role}
use Rattle.ix_graph.specs.declared.role.Role.TheVariants as role
use Rattle.ix_graph.specs.Roles.{role_of}
use Rattle.ix_net.specs.declared.netlist.Net.{Net}
use Rattle.ix_net.specs.declared.netlist.Port.{Port}
use Rattle.ix_net.specs.Run.{cycle_at}
use Rattle.ix_net.specs.Signals.{place_of}
use Rattle.ix_net.specs.Valuation.{inputs_of}
use Rattle.ix_plan.specs.declared.design.Plan.{Plan}
use Rattle.ix_plan.specs.Service.{enable_at}
use Rattle.ix_ports.specs.Ports.{enable_name, input_name, enable_port, enable_ports, read_port, read_ports, input_ports, last_from}
use Rattle.rv_trace.specs.declared.row.Row.{Row}
use Rattle.rv_ports.specs.declared.modules.Module.{Module}
use Rattle.rv_ports.specs.declared.shown.Shown.{Shown}
use Rattle.rv_lawful.specs.Entering.{places}
use Rattle.rv_ports.specs.Seats.{shown_by}
use Rattle.rv_ports.specs.Inputs.{bit, enable_value, enable_values, read_values, inputs_by, module_of}
use Rattle.rv_ports.specs.Driven.{Driving, inputs_over}

-- ---- where an enable stands among the inputs

-- it is the port that the search looks for
abbrev named : ℕ → Port → Bool
named t p = bytes_eq (enable_name t) p.name

same_enable : (t : ℕ) → bytes_eq (enable_name t) (enable_name t) ≡ true
same_enable t = (bytes_eq-Decides (enable_name t) (enable_name t)).1 refl

false_of : (b : Bool) → (b ≡ true → ⊥) → b ≡ false
false_of true h = absurd (h refl)
false_of false h = refl

other_enable : (t u : ℕ) → t < 2 ^ 64 → u < 2 ^ 64 → t ≢ u → bytes_eq (enable_name t) (enable_name u) ≡ false
other_enable t u bt bu ne = false_of (bytes_eq (enable_name t) (enable_name u)) (λ e. ne (decimal_injective t u bt bu (ap (drop 2) ((bytes_eq-Decides (enable_name t) (enable_name u)).0 e))))

no_enable : (t k : ℕ) → bytes_eq (enable_name t) (input_name k) ≡ false
no_enable t k = false_of (bytes_eq (enable_name t) (input_name k)) (λ e. apart (ap (λ (l : List ℕ). get_or l 0 0) ((bytes_eq-Decides (enable_name t) (input_name k)).0 e))) where
  apart : ◌≡◌ {A = ℕ} 101 105 → ⊥
  apart e = omega (arith, e)

-- inputs of reads are no enables
no_read : (ops : List Op) (k at t : ℕ) → position_from (named t) at (read_ports k ops) ≡ None
no_read [] k at t = refl
no_read (op ∷ ops) k at t = by_role (role_of op.kind) (λ i. no_read ops (k + 1) i t) where
  by_role : (r : Role) → ((i : ℕ) → position_from (named t) i (read_ports (k + 1) ops) ≡ None) → position_from (named t) at (read_port k op r ++ read_ports (k + 1) ops) ≡ None
  by_role role.Read rest = ap (λ b. cond b (Some at) (position_from (named t) (at + 1) (read_ports (k + 1) ops))) (no_enable t k) ∙ rest (at + 1)
  by_role role.Compute rest = rest at
  by_role role.Write rest = rest at

-- an enable of these times stands at the place of its time
place_in : (rest : List Port) (n rd at t : ℕ) → rd ≤ t → t < rd + n → rd + n < 2 ^ 64 → position_from (named t) at (map enable_port (range_with_len rd n) ++ rest) ≡ Some (at + (t - rd))
place_in rest zero rd at t low high bound = absurd (omega (arith, low, high))
place_in rest (suc n) rd at t low high bound = elim (cases_lt rd t) [
  | inl lt ↦
      let bt : t < 2 ^ 64 = omega (arith, high, bound) in
      let br : rd < 2 ^ 64 = omega (arith, lt, bt) in
      let ne : t ≢ rd = λ e. omega (arith, e, lt) in
      let off : at + 1 + (t - (rd + 1)) ≡ at + (t - rd) = omega (arith, lt) in
      ap (λ b. cond b (Some at) (position_from (named t) (at + 1) (map enable_port (range_with_len (rd + 1) n) ++ rest))) (other_enable t rd bt br ne)
      ∙ place_in rest n (rd + 1) (at + 1) t (omega (arith, lt)) (omega (arith, high)) (omega (arith, bound))
      ∙ ap (λ i. Some i) off
  | inr le ↦
      let same : rd ≡ t = omega (arith, low, le) in
      let off : at ≡ at + (t - rd) = omega (arith, same) in
      ap (λ b. cond b (Some at) (position_from (named t) (at + 1) (map enable_port (range_with_len (rd + 1) n) ++ rest))) (ap (λ i. bytes_eq (enable_name t) (enable_name i)) same ∙ same_enable t)
      ∙ ap (λ i. Some i) off
]

-- one of no such time does not
place_out : (rest : List Port) (n rd at t : ℕ) → ((u : ℕ) → rd ≤ u → u < rd + n → t ≢ u) → t < 2 ^ 64 → rd + n < 2 ^ 64 → position_from (named t) at (map enable_port (range_with_len rd n) ++ rest) ≡ position_from (named t) (at + n) rest
place_out rest zero rd at t ne bt bound = let z : at ≡ at + 0 = omega arith in ap (λ i. position_from (named t) i rest) z
place_out rest (suc n) rd at t ne bt bound =
    let br : rd < 2 ^ 64 = omega (arith, bound) in
    let off : at + 1 + n ≡ at + suc n = omega arith in
    ap (λ b. cond b (Some at) (position_from (named t) (at + 1) (map enable_port (range_with_len (rd + 1) n) ++ rest))) (other_enable t rd bt br (ne rd (omega arith) (omega arith)))
    ∙ place_out rest n (rd + 1) (at + 1) t (λ u low high. ne u (omega (arith, low)) (omega (arith, high))) bt (omega (arith, bound))
    ∙ ap (λ i. position_from (named t) i rest) off

-- ---- what it is

zero_off : (o : Option ℕ) (values : List ℕ) → o ≡ None → unwrap_or (option_map (λ i. slice_index values i) o) 0 ≡ 0
zero_off o values e = ap (λ z. unwrap_or (option_map (λ i. slice_index values i) z) 0) e

one_is_none : ◌≡◌ {A = ℕ} 0 1 → ⊥
one_is_none e = omega (arith, e)

module _ (m : Module) (p : Plan) (net : Net) (w : Shown) (values : List ℕ)
    (same : net.inputs ≡ input_ports m.shape.rd p.graph.ops p.times) (driven : inputs_of net values ≡ inputs_by m p w) (bound : last_from m.shape.rd p.times ≤ 64) (low_rd : m.shape.rd ≤ 64) where
  abbrev count : ℕ
  count = last_from m.shape.rd p.times - m.shape.rd

  sum_bound : m.shape.rd + count < 2 ^ 64
  sum_bound = omega (arith, bound, low_rd)

  -- in range it is what the row says
  pub enable_is : (t : ℕ) → m.shape.rd ≤ t → t < last_from m.shape.rd p.times → enable_at net values t ≡ bit (enable_value m w t)
  unfolding inputs_by
  enable_is t low high =
      let rest : List Port = read_ports 0 p.graph.ops in
      let i : ℕ = t - m.shape.rd in
      let less : i < count = omega (arith, low, high) in
      let back : m.shape.rd + i ≡ t = omega (arith, low) in
      let none_before : 0 + (t - m.shape.rd) ≡ i = omega arith in
      let at : place_of net.inputs (enable_name t) ≡ Some i = ap (λ (l : List Port). place_of l (enable_name t)) same ∙ place_in rest count m.shape.rd 0 t low (omega (arith, low, high)) sum_bound ∙ ap (λ j. Some j) none_before in
      let long : length net.inputs ≡ count + length rest =
      ap (λ (l : List Port). length l) same ∙ length-append (enable_ports m.shape.rd (last_from m.shape.rd p.times)) rest ∙ ap (λ n. n + length rest) (length-map-range_with_len enable_port m.shape.rd count) in
      let inside : i < length net.inputs = omega (arith, less, long) in
      let short : i < length (enable_values m p.times w) = (let q = length-map-range_with_len (λ u. bit (enable_value m w u)) m.shape.rd count in omega (arith, less, q)) in
      ap (λ o. unwrap_or (option_map (λ j. slice_index values j) o) 0) at
      ∙ sym (get_or-take (length net.inputs) values i 0 inside)
      ∙ ap (λ (l : List ℕ). get_or l i 0) driven
      ∙ get_or_append_left (enable_values m p.times w) (read_values m p.times w 0 p.graph.ops) 0 i short
      ∙ get_or-map-range_with_len (λ u. bit (enable_value m w u)) m.shape.rd count i t 0 less back

  pub enable_set : (t : ℕ) → m.shape.rd ≤ t → t < last_from m.shape.rd p.times → enable_value m w t ≡ true → enable_at net values t ≡ 1
  enable_set t low high e = enable_is t low high ∙ ap bit e

  -- where the row says no, or no such port is there, it is not 1
  pub enable_clear : (t : ℕ) → t < 2 ^ 64 → enable_value m w t ≡ false → enable_at net values t ≢ 1
  enable_clear t bt e one = elim (cases_lt t m.shape.rd) [
    | inl lt ↦ outside (λ u low high q. omega (arith, lt, low, q))
    | inr le ↦ elim (cases_lt t (last_from m.shape.rd p.times)) [
      | inl high ↦ one_is_none (sym (enable_is t le high ∙ ap bit e) ∙ one)
      | inr past ↦ outside (λ u low high q. omega (arith, past, low, high, q))
    ]
  ] where
    outside : ((u : ℕ) → m.shape.rd ≤ u → u < m.shape.rd + count → t ≢ u) → ⊥
    outside ne =
        let rest : List Port = read_ports 0 p.graph.ops in
        let none : place_of net.inputs (enable_name t) ≡ None = ap (λ (l : List Port). place_of l (enable_name t)) same ∙ place_out rest count m.shape.rd 0 t ne bt sum_bound ∙ no_read p.graph.ops 0 (0 + count) t in
        one_is_none (sym (zero_off (place_of net.inputs (enable_name t)) values none) ∙ one)

-- ---- rows from the newest, cycles from the oldest

module _ (by : Driving) (n : ℕ) (p : Plan) where
  pub over_length : (rows : List Row) → length (inputs_over by n p rows) ≡ length rows
  unfolding inputs_over
  over_length [] = refl
  over_length (row ∷ earlier) =
      let l = length-append (inputs_over by n p earlier) (inputs_by (module_of (by (places earlier)) n p) p (shown_by (by (places earlier)) earlier row) ∷ []) in
      let rest = over_length earlier in
      omega (arith, l, rest)

  -- the row behind so many has the inputs of that cycle
  over_at : (newer older : List Row) (row : Row) → get_or (inputs_over by n p (newer ++ (row ∷ older))) (length older) [] ≡ inputs_by (module_of (by (places older)) n p) p (shown_by (by (places older)) older row)
  unfolding inputs_over
  over_at [] older row =
      let x : List ℕ = inputs_by (module_of (by (places older)) n p) p (shown_by (by (places older)) older row) in
      ap (λ i. get_or (inputs_over by n p older ++ x ∷ []) i []) (sym (over_length older)) ∙ get_or-append_seam (inputs_over by n p older) x [] []
  over_at (next ∷ newer) older row =
      let all : List Row = newer ++ (row ∷ older) in
      let l = over_length all in
      let q = length-append newer (row ∷ older) in
      get_or_append_left (inputs_over by n p all) (inputs_by (module_of (by (places all)) n p) p (shown_by (by (places all)) all next) ∷ []) [] (length older) (omega (arith, l, q)) ∙ over_at newer older row

  pub cycles_length : (net : Net) (cycles : List (List ℕ)) (rows : List Row) → map (inputs_of net) cycles ≡ inputs_over by n p rows → length cycles ≡ length rows
  cycles_length net cycles rows e = sym (mapped cycles) ∙ ap (λ (l : List (List ℕ)). length l) e ∙ over_length rows where
    mapped : (l : List (List ℕ)) → length (map (inputs_of net) l) ≡ length l
    mapped [] = refl
    mapped (x ∷ l) = ap suc (mapped l)

  pub driven_at : (net : Net) (cycles : List (List ℕ)) (newer older : List Row) (row : Row) → map (inputs_of net) cycles ≡ inputs_over by n p (newer ++ (row ∷ older)) →
      inputs_of net (cycle_at cycles (length older)) ≡ inputs_by (module_of (by (places older)) n p) p (shown_by (by (places older)) older row)
  driven_at net cycles newer older row e =
      let l = cycles_length net cycles (newer ++ (row ∷ older)) e in
      let q = length-append newer (row ∷ older) in
      sym (get_or-map (inputs_of net) cycles (length older) [] [] (omega (arith, l, q))) ∙ ap (λ (x : List (List ℕ)). get_or x (length older) []) e ∙ over_at newer older row
