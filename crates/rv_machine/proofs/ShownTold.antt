-- What a machine shows the modules in a row is what the row shows.
use Rattle.std.proofs.Common.{◌≡◌, ◌≢◌, ℕ, zero, suc, ◌+◌, ◌-◌, ◌<◌, ◌≤◌, List, [], ◌∷◌, ◌++◌, drop, length, get_or, map, Option, Some, None, Bool, true, false, refl, sym, ap, ◌∙◌, subst, arith, inl, inr}
use Rattle.std.specs.Prelude.{◌&&◌, ◌||◌, not, if◌then◌else◌, ◌==◌, is_some, is_none, nat_lt, option_map, slice_get, slice_index, max, unwrap_or}
use Rattle.std.proofs.lemmas.Bool.{cases_lt}
use Rattle.std.proofs.lemmas.Bool.Decides.{nat_tests}
use Rattle.ix_bits.specs.declared.number.Bits.{Bits}
use Rattle.ix_eval.specs.declared.access.Access.{Access}
use Rattle.ix_eval.specs.Tables.{table}
use Rattle.ix_eval.proofs.Tables.{table_length, table_at, table_is}
use Rattle.ix_plan.specs.Units.{Slots as UnitSlots, unit_written, frozen_with}
use Rattle.rv_isa.specs.Fields.{rs1_of, rs2_of}
use Rattle.rv_seq.specs.Decoding.{decoded_in}
use Rattle.rv_seq.specs.declared.arch.Arch.{Arch}
use Rattle.rv_seq.specs.declared.commit.Stop.{Stop}
use Rattle.rv_seq.specs.declared.commit.Stop.TheVariants.{Fetch}
use Rattle.rv_seq.specs.Steps.{word_at}
use Rattle.rv_trace.specs.declared.row.Cell.{Cell}
use Rattle.rv_trace.specs.declared.row.Hold.{Hold}
use Rattle.rv_trace.specs.declared.row.Row.{Row}
use Rattle.rv_trace.specs.Trace.{has_serial, place, retirements}
use Rattle.rv_trace.specs.RowParts.{leaves, name_of}
use Rattle.rv_asks.specs.declared.asks.Asks.{Asks}
use Rattle.rv_tried.specs.declared.trial.Trial.{Trial}
use Rattle.rv_unit.specs.Entries.{is_frozen}
use Rattle.rv_unit.specs.Numbering.{lasts_of}
use Rattle.rv_unit.specs.Slots.{units_from}
use Rattle.rv_unit.specs.Timed.{AreUnits}
use Rattle.rv_unit.proofs.Showing.{frozen_law, none_frozen}
use Rattle.rv_ports.specs.declared.shown.Seat.{Seat}
use Rattle.rv_ports.specs.declared.shown.Shown.{Shown}
use Rattle.rv_ports.specs.Drives.{Drives, drives_of, own_number}
use Rattle.rv_ports.specs.Seats.{passed as rows_passed, forwarded as rows_forwarded, filed, operand_of, is_silent, goes, time_of, seat_in, cell_at, loaded, datum_of, is_frozen as is_unit_frozen, freezes, shown_by}
use Rattle.rv_holds.specs.declared.token.Token.{Token}
use Rattle.rv_holds.specs.Tokens.{Slots, cell_of, cells_of, stop_of, or_else}
use Rattle.rv_holds.specs.Forwarding.{x_tried, forwarded}
use Rattle.rv_holds.specs.Holds.{stops_now, own_hold}
use Rattle.rv_holds.specs.Flushing.{struck, freed, unheld, cleared, slot_stop, remains}
use Rattle.rv_engine.specs.Settings.{Setting, Machine, shape_of, tree_of, outstanding_in}
use Rattle.rv_engine.specs.Rows.{loaded_by, turn_by, seen_by, fetch_by, outstanding_by, is_owing, stop_after, IsRowOf}
use Rattle.rv_engine.specs.Showing.{time_by, operand_by, seat_by, slot_seat, load_tried, slot_load, shown_of}
use Rattle.rv_lawful.specs.Settings as Lawful
use Rattle.rv_lawful.specs.Settings.{run_trial, is_tail}
use Rattle.rv_lawful.specs.Outstanding.{architecture, units_after}
use Rattle.rv_lawful.specs.Forwarding.{x_written, writes_x, reach_of, is_there}
use Rattle.rv_lawful.specs.Future.{cell_in, future_file}
use Rattle.rv_core.specs.declared.Shape.{Shape}
use Rattle.rv_machine.specs.Owing.{judged}
use Rattle.rv_machine.specs.Placed.{run, count, expected, Placed, Serials, IsPlaced, IsReady, Inv, entries_of}
use Rattle.rv_machine.specs.Told.{NoStops}
use Rattle.rv_machine.proofs.Before as B
use Rattle.rv_machine.proofs.Clearing.{cleared_drop}
use Rattle.rv_machine.proofs.Flushing as F
use Rattle.rv_machine.proofs.Forwarding.{Passes}
use Rattle.rv_machine.proofs.Holds.{not_flushed}
use Rattle.rv_machine.proofs.NextRow as N
use Rattle.rv_machine.proofs.Passing.{seen_passes}
use Rattle.rv_machine.proofs.Past as P
use Rattle.rv_machine.proofs.Places.{serials_drop}
use Rattle.rv_machine.proofs.Alike.{Alike, AlikeSlot, IsAlike}
use Rattle.rv_machine.proofs.Standing.{placed_drop, slice_get-drop, cells_drop}
use Rattle.rv_machine.proofs.Telling as T
use Rattle.rv_machine.proofs.UnitHolds.{slots_from-one}

-- ---- slots by their stages

drop_get : (l : Slots) (n : ℕ) (t : Token) → get_or l n None ≡ Some t → drop n l ≡ Some t ∷ drop (suc n) l
drop_get [] n t e = cc
drop_get (s ∷ l) zero t e = ap (λ (o : Option Token). o ∷ l) e
drop_get (s ∷ l) (suc n) t e = drop_get l n t e

slice_of : (l : Slots) (n : ℕ) (t : Token) → get_or l n None ≡ Some t → slice_get l n ≡ Some (Some t)
slice_of [] n t e = cc
slice_of (s ∷ l) zero t e = ap (λ (o : Option Token). Some o) e
slice_of (s ∷ l) (suc n) t e = slice_of l n t e

plain_at : (n : ℕ) (l : Slots) → cell_in (slice_get (cells_of l) n) ≡ cell_of (get_or l n None)
plain_at n [] = refl
plain_at zero (s ∷ l) = refl
plain_at (suc n) (s ∷ l) = plain_at n l

unheld_below : (n f : ℕ) (l : Slots) → n < f → f ≤ length l → cell_in (slice_get (cells_of (unheld f l)) n) ≡ cell_of (freed (get_or l n None))
unheld_below n zero l lt le = absurd (omega (arith, lt))
unheld_below n (suc f) [] lt le = absurd (omega (arith, le))
unheld_below zero (suc f) (s ∷ l) lt le = refl
unheld_below (suc n) (suc f) (s ∷ l) lt le = unheld_below n f l (omega (arith, lt)) (omega (arith, le))

unheld_above : (n f : ℕ) (l : Slots) → f ≤ n → f ≤ length l → cell_in (slice_get (cells_of (unheld f l)) n) ≡ cell_of (get_or l n None)
unheld_above n zero [] le long = refl
unheld_above n zero (s ∷ l) le long = plain_at n (s ∷ l)
unheld_above n (suc f) [] le long = absurd (omega (arith, long))
unheld_above zero (suc f) (s ∷ l) le long = absurd (omega (arith, le))
unheld_above (suc n) (suc f) (s ∷ l) le long = unheld_above n f l (omega (arith, le)) (omega (arith, long))

unheld_drop : (n f : ℕ) (l : Slots) → f ≤ n → f ≤ length l → drop n (unheld f l) ≡ drop n l
unheld_drop n zero l le long = refl
unheld_drop n (suc f) [] le long = absurd (omega (arith, long))
unheld_drop zero (suc f) (s ∷ l) le long = absurd (omega (arith, le))
unheld_drop (suc n) (suc f) (s ∷ l) le long = unheld_drop n f l (omega (arith, le)) (omega (arith, long))

drop_twice : (a b : ℕ) (l : List (Option Cell)) → drop b (drop a l) ≡ drop (a + b) l
drop_twice zero b l = (let z : b ≡ 0 + b = omega arith in ap (λ i. drop i l) z)
drop_twice (suc a) b [] = dropped b (suc a + b) where
  dropped : (i j : ℕ) → ◌≡◌ {A = List (Option Cell)} (drop i []) (drop j [])
  dropped zero zero = refl
  dropped zero (suc j) = refl
  dropped (suc i) zero = refl
  dropped (suc i) (suc j) = refl
drop_twice (suc a) b (s ∷ l) = (let z : suc (a + b) ≡ suc a + b = omega arith in drop_twice a b l ∙ ap (λ i. drop i (s ∷ l)) z)

-- ---- what is passed on

-- flushed cells pass on nothing
skipped : (d : Drives) (earlier : List Row) (row : Row) (i j stage : ℕ) (l : List (Option Cell)) (value : ℕ) → ((n : ℕ) (c : Cell) → n < j → slice_get l n ≡ Some (Some c) → has_serial row.flushed c.serial ≡ true)
    → rows_forwarded d earlier row i stage l value ≡ rows_forwarded d earlier row i (stage + j) (drop j l) value
skipped d earlier row i zero stage l value h = (let z : stage ≡ stage + 0 = omega arith in ap (λ b. rows_forwarded d earlier row i b l value) z)
skipped d earlier row i (suc j) stage [] value h = refl
skipped d earlier row i (suc j) stage (None ∷ l) value h =
    let z : suc stage + j ≡ stage + suc j = omega arith in
    skipped d earlier row i j (suc stage) l value (λ n c lt e. h (suc n) c (omega (arith, lt)) e) ∙ ap (λ b. rows_forwarded d earlier row i b (drop j l) value) z
skipped d earlier row i (suc j) stage (Some c ∷ l) value h =
    let z : suc stage + j ≡ stage + suc j = omega arith in
    ap (λ (b : Bool). if b then rows_forwarded d earlier row i (suc stage) l value else unwrap_or (rows_passed d earlier row i stage c) (rows_forwarded d earlier row i (suc stage) l value)) (h 0 c (omega arith) refl)
    ∙ skipped d earlier row i j (suc stage) l value (λ n e lt q. h (suc n) e (omega (arith, lt)) q)
    ∙ ap (λ b. rows_forwarded d earlier row i b (drop j l) value) z

-- what a cell passes on is what its token does
same_passed : (w : Asks) (a : Asks) (k : Shape) (i stage reach : ℕ) (o p : Option ℕ) → a ≡ w → (is_there k stage reach a ≡ true → a.destination ≢ 0 → p ≡ o) → (if writes_x w i && is_there k stage reach w then o else None) ≡ (if writes_x a i && is_there k stage reach a then p else None)
same_passed w a k i stage reach o p e h = ap (λ (x : Asks). if writes_x x i && is_there k stage reach x then o else None) (sym e) ∙ by_case (i == 0) refl (a.destination == i) refl (is_there k stage reach a) refl where
  some : (x y : ℕ) → (y == 0) ≡ false → (x == y) ≡ true → x ≢ 0
  some x y f g = λ z. grind (arith, nat_tests)

  by_case : (b : Bool) → (i == 0) ≡ b → (c : Bool) → (a.destination == i) ≡ c → (t : Bool) → is_there k stage reach a ≡ t → (if (not b && c) && t then o else None) ≡ (if (not b && c) && t then p else None)
  by_case true f c g t q = refl
  by_case false f false g t q = refl
  by_case false f true g false q = refl
  by_case false f true g true q = sym (h q (some a.destination i f g))

same_forwarded : (k : Setting) (earlier : List Row) (row : Row) (i stage : ℕ) (l : Slots) (value : ℕ) → Placed k (retirements earlier) stage l → Passes k true (retirements earlier) stage l → Serials (row ∷ earlier) (retirements earlier) l
    → rows_forwarded (drives_of k.design k.image k.waits k.lines k.places) earlier row i stage (cells_of l) value ≡ forwarded (shape_of k) true i stage l value
same_forwarded k earlier row i stage [] value placed passes serials = refl
same_forwarded k earlier row i stage (None ∷ l) value placed passes serials = same_forwarded k earlier row i (suc stage) l value placed.1 passes.1 serials
same_forwarded k earlier row i stage (Some t ∷ l) value placed passes serials =
    let d = drives_of k.design k.image k.waits k.lines k.places in
    let rest = same_forwarded k earlier row i (suc stage) l value placed.1 passes.1 serials.1 in
    ap (λ (b : Bool). if b then rows_forwarded d earlier row i (suc stage) (cells_of l) value else unwrap_or (rows_passed d earlier row i stage t.cell) (rows_forwarded d earlier row i (suc stage) (cells_of l) value)) (not_flushed row earlier t.cell.serial serials.0.1)
    ∙ ap (λ v. unwrap_or (rows_passed d earlier row i stage t.cell) v) rest
    ∙ ap (λ p. unwrap_or (if writes_x ((judged k).asks t.cell.word) i && is_there (shape_of k) stage (reach_of stage t.cell.hold) ((judged k).asks t.cell.word) then x_written ((judged k).course.answer p) else None) (forwarded (shape_of k) true i (suc stage) l value)) serials.0.0
    ∙ ap (λ o. unwrap_or o (forwarded (shape_of k) true i (suc stage) l value))
    (same_passed ((judged k).asks t.cell.word) t.asks (shape_of k) i stage (reach_of stage t.cell.hold) (x_written ((judged k).course.answer (retirements earlier + count l))) (x_tried t.trial) placed.0.asks passes.0)

pub passes_drop : (k : Setting) (decided : Bool) (r stage n : ℕ) (l : Slots) → Passes k decided r stage l → Passes k decided r (stage + n) (drop n l)
passes_drop k decided r stage zero l h = (let z : stage ≡ stage + 0 = omega arith in subst (λ b. Passes k decided r b l) z h)
passes_drop k decided r stage (suc n) [] h = tt
passes_drop k decided r stage (suc n) (s ∷ l) h = (let z : suc stage + n ≡ stage + suc n = omega arith in subst (λ b. Passes k decided r b (drop n l)) z (passes_drop k decided r (suc stage) n l h.1))

-- where one of two alike lists begins with a token, so does the other
alike_first : (a b rest : Slots) (t : Token) → Alike a b → b ≡ Some t ∷ rest → (u : Token) × (more : Slots) × (a ≡ Some u ∷ more)
alike_first [] [] rest t h e = cc
alike_first [] (s ∷ b) rest t h e = absurd h
alike_first (s ∷ a) [] rest t h e = absurd h
alike_first (Some u ∷ a) (s ∷ b) rest t h e = (u, a, refl)
alike_first (None ∷ a) (Some s ∷ b) rest t h e = absurd h.0
alike_first (None ∷ a) (None ∷ b) rest t h e = cc

alike_second : (a b rest : Slots) (t : Token) → Alike a b → a ≡ Some t ∷ rest → (u : Token) × (more : Slots) × (b ≡ Some u ∷ more)
alike_second [] [] rest t h e = cc
alike_second [] (s ∷ b) rest t h e = absurd h
alike_second (s ∷ a) [] rest t h e = absurd h
alike_second (s ∷ a) (Some u ∷ b) rest t h e = (u, b, refl)
alike_second (Some s ∷ a) (None ∷ b) rest t h e = absurd h.0
alike_second (None ∷ a) (None ∷ b) rest t h e = cc

slice_first : (n : ℕ) (l rest : Slots) (t : Token) → drop n l ≡ Some t ∷ rest → slice_get l n ≡ Some (Some t)
slice_first zero [] rest t e = cc
slice_first zero (s ∷ l) rest t e = ap (λ (o : Slots). slice_get o 0) e
slice_first (suc n) [] rest t e = cc
slice_first (suc n) (s ∷ l) rest t e = slice_first n l rest t e

-- ---- numbers

below_true : (a b : ℕ) → a < b → nat_lt a b ≡ true
below_true a b h = grind (arith, nat_tests)

below_false : (a b : ℕ) → b ≤ a → nat_lt a b ≡ false
below_false a b h = grind (arith, nat_tests)

and_true : (b : Bool) → (b && true) ≡ b
and_true true = refl
and_true false = refl

and_false : (b : Bool) → (b && false) ≡ false
and_false true = refl
and_false false = refl

same_number : (a b : ℕ) → (a == b) ≡ true → a ≡ b
same_number a b e = grind (arith, nat_tests)

apart_number : (a b : ℕ) → (a == b) ≡ false → a ≡ b → ⊥
apart_number a b e same = grind (arith, nat_tests)

-- ---- stops

slot_none : (k : Setting) (stage : ℕ) (l : Slots) → NoStops k stage l → slot_stop (shape_of k) stage l ≡ None
slot_none k stage [] h = refl
slot_none k stage (None ∷ l) h = slot_none k (suc stage) l h
slot_none k stage (Some t ∷ l) h = ap (λ (b : Bool). if b then stop_of t else slot_stop (shape_of k) (suc stage) l) h.0 ∙ slot_none k (suc stage) l h.1

-- only a token of EX stops the run
stops_at : (k : Setting) (stage : ℕ) (l : Slots) → ((n : ℕ) (t : Token) (older : Slots) → drop n l ≡ Some t ∷ older → stage + n ≡ (shape_of k).ex → stops_now (shape_of k) (stage + n) t older ≡ false) → NoStops k stage l
stops_at k stage [] h = tt
stops_at k stage (None ∷ l) h = stops_at k (suc stage) l (λ n t older e at. let z : stage + suc n ≡ suc stage + n = omega arith in subst (λ i. stops_now (shape_of k) i t older ≡ false) z (h (suc n) t older e (omega (arith, at))))
stops_at k stage (Some t ∷ l) h = (
  by_stage (stage == (shape_of k).ex) refl,
  stops_at k (suc stage) l (λ n u older e at. let z : stage + suc n ≡ suc stage + n = omega arith in subst (λ i. stops_now (shape_of k) i u older ≡ false) z (h (suc n) u older e (omega (arith, at)))),
) where
  by_stage : (b : Bool) → (stage == (shape_of k).ex) ≡ b → stops_now (shape_of k) stage t l ≡ false
  by_stage false e = ap (λ (b : Bool). b && is_some (stop_of t) && is_none (own_hold (shape_of k) stage t l)) e
  by_stage true e =
      let same = same_number stage (shape_of k).ex e in
      let z : stage + 0 ≡ stage = omega arith in
      subst (λ i. stops_now (shape_of k) i t l ≡ false) z (h 0 t l refl (omega (arith, same)))

drop_none : (n : ℕ) → ◌≡◌ {A = Slots} (drop n []) []
drop_none zero = refl
drop_none (suc n) = refl

-- a token that is not in the last stage remains
remains_there : (n : ℕ) (l older : Slots) (t : Token) → drop n l ≡ Some t ∷ older → 0 < length older → remains l ≡ true
remains_there zero [] older t e lt = cc
remains_there zero (None ∷ l) older t e lt = cc
remains_there zero (Some s ∷ []) older t e lt = (let same : length {A = Option Token} (Some s ∷ []) ≡ length (Some t ∷ older) = ap (λ (o : Slots). length o) e in absurd (omega (arith, same, lt)))
remains_there zero (Some s ∷ u ∷ l) older t e lt = refl
remains_there (suc n) [] older t e lt = cc
remains_there (suc n) (None ∷ l) older t e lt = remains_there n l older t e lt
remains_there (suc n) (Some s ∷ []) older t e lt = cc (sym (drop_none n) ∙ e)
remains_there (suc n) (Some s ∷ u ∷ l) older t e lt = refl

module _ (k : Setting) (ready : IsReady k) (earlier : List Row) (m : Machine) (row : Row) (inv : Inv k earlier m) (is : IsRowOf k m row) where
  abbrev r : ℕ
  r = retirements earlier

  abbrev d : Drives
  d = drives_of k.design k.image k.waits k.lines k.places

  abbrev flushed : ℕ
  flushed = struck (turn_by k m)

  inside : struck (turn_by k m) ≤ length (loaded_by k m)
  inside = B.struck_inside k ready earlier m inv

  -- a token of the loaded slots stands in its place
  token_placed : (n : ℕ) (t : Token) → get_or (loaded_by k m) n None ≡ Some t → IsPlaced k (r + count (drop (suc n) (loaded_by k m))) (expected k r (suc n) (drop (suc n) (loaded_by k m))) n (drop (suc n) (loaded_by k m)) t
  token_placed n t e =
      let z : 0 + n ≡ n = omega arith in
      let p : Placed k r n (drop n (loaded_by k m)) = subst (λ i. Placed k r i (drop n (loaded_by k m))) z (placed_drop k r 0 n (loaded_by k m) (B.loaded_placed k ready earlier m inv)) in
      (subst (λ l. Placed k r n l) (drop_get (loaded_by k m) n t e) p).0

  -- the rows for which its module still goes on
  token_tail : (n : ℕ) (t : Token) → get_or (loaded_by k m) n None ≡ Some t → t.tail + Lawful.tailed (judged k) earlier t.cell.serial ≡ t.asks.tail
  token_tail n t e = T.loaded_tails k ready earlier m row inv is n t (slice_of (loaded_by k m) n t e)

  time_told : (n : ℕ) (t : Token) → get_or (loaded_by k m) n None ≡ Some t → time_by (shape_of k) n t ≡ (if suc n == (shape_of k).stages then n + Lawful.tailed (judged k) earlier t.cell.serial else n)
  time_told n t e =
      let tail = token_tail n t e in
      let rest : t.asks.tail - t.tail ≡ Lawful.tailed (judged k) earlier t.cell.serial = omega (arith, tail) in
      ap (λ i. if suc n == (shape_of k).stages then n + i else n) rest

  filed_told : (i : ℕ) → slice_index m.arch.x i ≡ filed d earlier i
  filed_told i = ap (λ (s : Arch). slice_index s.x i) (sym inv.state)

  -- what is older than a token and not flushed stands from this stage on
  pub operand_told : (n i : ℕ) → operand_by (shape_of k) m.arch.x (struck (turn_by k m)) (loaded_by k m) n i ≡ operand_of d earlier row n i
  operand_told n i = by_case (shape_of k).forward where
    from : ℕ
    from = max (suc n) flushed

    more : ℕ
    more = max (suc n) flushed - suc n

    from_is : suc n + more ≡ from
    from_is = grind arith

    above : flushed ≤ from
    above = grind arith

    -- the tokens from there on
    kept : drop from (seen_by k m) ≡ drop from (loaded_by k m)
    kept = cleared_drop flushed from (loaded_by k m) above inside

    tokens : (value : ℕ) → rows_forwarded d earlier row i from (cells_of (drop from (loaded_by k m))) value ≡ forwarded (shape_of k) true i from (drop from (loaded_by k m)) value
    tokens value =
        let z : 0 + from ≡ from = omega arith in
        let placed : Placed k r from (drop from (seen_by k m)) = subst (λ b. Placed k r b (drop from (seen_by k m))) z (placed_drop k r 0 from (seen_by k m) (B.seen_placed k ready earlier m inv)) in
        let passes : Passes k true r from (drop from (seen_by k m)) =
        subst (λ b. Passes k true r b (drop from (seen_by k m))) z
        (passes_drop k true r 0 from (seen_by k m)
        (seen_passes k ready r 0 (seen_by k m) (B.seen_placed k ready earlier m inv) (B.seen_decided k ready earlier m inv) (B.seen_loaded k ready earlier m inv) (B.seen_ripe k ready earlier m inv))) in
        let serials = serials_drop (row ∷ earlier) r from (seen_by k m) (F.seen_serials k ready earlier m row inv is) in
        same_forwarded k earlier row i from (drop from (loaded_by k m)) value
        (subst (λ l. Placed k r from l) kept placed) (subst (λ l. Passes k true r from l) kept passes) (subst (λ l. Serials (row ∷ earlier) r l) kept serials)

    -- the row has their cells, behind flushed ones
    gone : (j : ℕ) (c : Cell) → j < more → slice_get (drop (suc n) (Lawful.stages_of (judged k) row)) j ≡ Some (Some c) → has_serial row.flushed c.serial ≡ true
    gone j c lt e =
        let below : suc n + j < flushed = grind arith in
        (F.stands_flushed k ready earlier m row inv is (suc n + j) c below (sym (slice_get-drop (Lawful.stages_of (judged k) row) (suc n) j) ∙ e)).1

    cells : drop more (drop (suc n) (Lawful.stages_of (judged k) row)) ≡ cells_of (drop from (loaded_by k m))
    cells =
        drop_twice (suc n) more (Lawful.stages_of (judged k) row)
        ∙ ap (λ b. drop b (Lawful.stages_of (judged k) row)) from_is
        ∙ ap (λ l. drop from l) is.cells
        ∙ cells_drop from (unheld flushed (loaded_by k m))
        ∙ ap cells_of (unheld_drop from flushed (loaded_by k m) above inside)

    by_rows : (value : ℕ) → rows_forwarded d earlier row i (suc n) (drop (suc n) (Lawful.stages_of (judged k) row)) value ≡ forwarded (shape_of k) true i from (drop from (loaded_by k m)) value
    by_rows value =
        skipped d earlier row i more (suc n) (drop (suc n) (Lawful.stages_of (judged k) row)) value gone
        ∙ ap (λ b. rows_forwarded d earlier row i b (drop more (drop (suc n) (Lawful.stages_of (judged k) row))) value) from_is
        ∙ ap (λ l. rows_forwarded d earlier row i from l value) cells
        ∙ tokens value

    by_case : (b : Bool)
        → (if b then forwarded (shape_of k) true i from (drop from (loaded_by k m)) (slice_index m.arch.x i) else slice_index m.arch.x i)
        ≡ (if b then rows_forwarded d earlier row i (suc n) (drop (suc n) (Lawful.stages_of (judged k) row)) (filed d earlier i) else filed d earlier i)
    by_case true =
        sym (by_rows (slice_index m.arch.x i)) ∙ ap (λ v. rows_forwarded d earlier row i (suc n) (drop (suc n) (Lawful.stages_of (judged k) row)) v) (filed_told i)
    by_case false = filed_told i

  number_told : (n : ℕ) (t : Token) → get_or (loaded_by k m) n None ≡ Some t → own_number t.decoded ≡ own_number (decoded_in (tree_of k) t.cell.word)
  number_told n t e = ap own_number (token_placed n t e).decoded

  -- the token of EX stops the run exactly where the row has a stop
  stop_told : (n : ℕ) (t : Token) → get_or (loaded_by k m) n None ≡ Some t → struck (turn_by k m) ≤ n → t.cell.hold ≡ None → stops_now (shape_of k) n t (drop (suc n) (loaded_by k m)) ≡ ((n == (shape_of k).ex) && is_some row.stop)
  stop_told n t e le free = by_stage (n == (shape_of k).ex) refl where
    older : Slots
    older = drop (suc n) (loaded_by k m)

    seen_drop : drop n (seen_by k m) ≡ Some t ∷ drop (suc n) (loaded_by k m)
    seen_drop = cleared_drop (struck (turn_by k m)) n (loaded_by k m) le inside ∙ drop_get (loaded_by k m) n t e

    rest : Bool → Bool
    rest b = b && is_some (stop_of t) && is_none (own_hold (shape_of k) n t (drop (suc n) (loaded_by k m)))

    -- with no stop of the row it does not stop
    none_now : (l : Slots) (i stage : ℕ) → NoStops k stage l → drop i l ≡ Some t ∷ drop (suc n) (loaded_by k m) → stops_now (shape_of k) (stage + i) t (drop (suc n) (loaded_by k m)) ≡ false
    none_now [] i stage h q = cc (sym (drop_none i) ∙ q)
    none_now (s ∷ l) (suc i) stage h q = (let z : suc stage + i ≡ stage + suc i = omega arith in subst (λ j. stops_now (shape_of k) j t (drop (suc n) (loaded_by k m)) ≡ false) z (none_now l i (suc stage) (tail_of s h) q)) where
      tail_of : (s : Option Token) → NoStops k stage (s ∷ l) → NoStops k (suc stage) l
      tail_of None h = h
      tail_of (Some u) h = h.1
    none_now (s ∷ l) zero stage h q =
        let z : stage ≡ stage + 0 = omega arith in
        subst (λ j. stops_now (shape_of k) j t (drop (suc n) (loaded_by k m)) ≡ false) z (subst (λ (o : Slots). NoStops k stage o) q h).0

    -- with none of its own the row has none
    stopless : n ≡ (shape_of k).ex → stops_now (shape_of k) n t (drop (suc n) (loaded_by k m)) ≡ false → row.stop ≡ None
    stopless at q =
        let a = ready.ex_last in
        let long = B.seen_length k ready earlier m inv in
        let stops = stops_at k 0 (seen_by k m) (λ i u o g is_ex. at_ex i u o g is_ex) in
        let count : 0 < length (drop (suc n) (loaded_by k m)) = omega (arith, past (seen_by k m) n t seen_drop, long, a, at) in
        is.stop
        ∙ ap (λ o. or_else o (if remains (seen_by k m) || rest_of then None else Some Fetch)) (slot_none k 0 (seen_by k m) stops)
        ∙ ap (λ (b : Bool). if b || rest_of then None else Some Fetch) (remains_there n (seen_by k m) (drop (suc n) (loaded_by k m)) t seen_drop count) where
          rest_of : Bool
          rest_of = is_owing (outstanding_by k m).owed || is_some (word_at k.image (fetch_by k m))

          past : (l : Slots) (i : ℕ) (u : Token) → drop i l ≡ Some u ∷ drop (suc n) (loaded_by k m) → i + suc (length (drop (suc n) (loaded_by k m))) ≡ length l
          past [] i u g = cc (sym (drop_none i) ∙ g)
          past (s ∷ l) zero u g = (let z : 0 + suc (length (drop (suc n) (loaded_by k m))) ≡ suc (length (drop (suc n) (loaded_by k m))) = omega arith in z ∙ ap (λ (o : Slots). length o) (sym g))
          past (s ∷ l) (suc i) u g = (let z : suc i + suc (length (drop (suc n) (loaded_by k m))) ≡ suc (i + suc (length (drop (suc n) (loaded_by k m)))) = omega arith in z ∙ ap suc (past l i u g))

          at_ex : (i : ℕ) (u : Token) (o : Slots) → drop i (seen_by k m) ≡ Some u ∷ o → 0 + i ≡ (shape_of k).ex → stops_now (shape_of k) (0 + i) u o ≡ false
          at_ex i u o g is_ex =
              let same : n ≡ 0 + i = omega (arith, at, is_ex) in
              let z : 0 + i ≡ i = omega arith in
              let here : Some t ∷ drop (suc n) (loaded_by k m) ≡ Some u ∷ o = sym seen_drop ∙ ap (λ j. drop j (seen_by k m)) (same ∙ z) ∙ g in
              let token : t ≡ u = cc here in
              let behind : drop (suc n) (loaded_by k m) ≡ o = cc here in
              sym (ap (λ j. stops_now (shape_of k) j u o) same) ∙ sym (ap (λ (l : Slots). stops_now (shape_of k) n u l) behind) ∙ sym (ap (λ (v : Token). stops_now (shape_of k) n v (drop (suc n) (loaded_by k m))) token) ∙ q

    by_stage : (b : Bool) → (n == (shape_of k).ex) ≡ b → stops_now (shape_of k) n t (drop (suc n) (loaded_by k m)) ≡ ((n == (shape_of k).ex) && is_some row.stop)
    by_stage false q = ap rest q ∙ sym (ap (λ (b : Bool). b && is_some row.stop) q)
    by_stage true q = by_stop (stops_now (shape_of k) n t (drop (suc n) (loaded_by k m))) refl row.stop refl ∙ sym (ap (λ (b : Bool). b && is_some row.stop) q) where
      by_stop : (b : Bool) → stops_now (shape_of k) n t (drop (suc n) (loaded_by k m)) ≡ b → (o : Option Stop) → row.stop ≡ o → stops_now (shape_of k) n t (drop (suc n) (loaded_by k m)) ≡ is_some row.stop
      by_stop true p (Some stop) g = p ∙ sym (ap (λ (x : Option Stop). is_some x) g)
      by_stop true p None g = (let z : 0 + n ≡ n = omega arith in let no = subst (λ j. stops_now (shape_of k) j t (drop (suc n) (loaded_by k m)) ≡ false) z (none_now (seen_by k m) n 0 (N.no_stop k ready earlier m row inv is g) seen_drop) in cc (p, no))
      by_stop false p o g = p ∙ sym (ap (λ (x : Option Stop). is_some x) (stopless (same_number n (shape_of k).ex q) p))

  abbrev seat : Option ℕ → ℕ → ℕ → ℕ → ℕ → ℕ → Bool → Bool → Bool → Seat
  seat behaviour time at word first second silent tails moves =
      record { behaviour = behaviour; time = time; at = at; word = word; first = first; second = second; silent = silent; tails = tails; moves = moves }

  -- a seat is what its fields are
  same_seat : (a b : Seat) → a.behaviour ≡ b.behaviour → a.time ≡ b.time → a.at ≡ b.at → a.word ≡ b.word → a.first ≡ b.first → a.second ≡ b.second → a.silent ≡ b.silent → a.tails ≡ b.tails → a.moves ≡ b.moves → a ≡ b
  same_seat a b e f g h i j l n o =
      ap (λ v. seat v a.time a.at a.word a.first a.second a.silent a.tails a.moves) e
      ∙ ap (λ v. seat b.behaviour v a.at a.word a.first a.second a.silent a.tails a.moves) f
      ∙ ap (λ v. seat b.behaviour b.time v a.word a.first a.second a.silent a.tails a.moves) g
      ∙ ap (λ v. seat b.behaviour b.time b.at v a.first a.second a.silent a.tails a.moves) h
      ∙ ap (λ v. seat b.behaviour b.time b.at b.word v a.second a.silent a.tails a.moves) i
      ∙ ap (λ v. seat b.behaviour b.time b.at b.word b.first v a.silent a.tails a.moves) j
      ∙ ap (λ v. seat b.behaviour b.time b.at b.word b.first b.second v a.tails a.moves) l
      ∙ ap (λ v. seat b.behaviour b.time b.at b.word b.first b.second b.silent v a.moves) n
      ∙ ap (λ v. seat b.behaviour b.time b.at b.word b.first b.second b.silent b.tails v) o

  -- what a token shows that is flushed
  flushed_seat : (n : ℕ) (t : Token) → get_or (loaded_by k m) n None ≡ Some t → n < struck (turn_by k m)
      → option_map (seat_by (shape_of k) m.arch.x (struck (turn_by k m)) (loaded_by k m) n) (Some t) ≡ seat_in d earlier row n (cell_of (freed (Some t)))
  flushed_seat n t e lt =
      let below = below_true n (struck (turn_by k m)) lt in
      let gone = F.flushes_first k ready earlier m row inv is n t lt (slice_of (loaded_by k m) n t e) in
      ap (λ s. Some s)
      (same_seat _ _ (number_told n t e) (time_told n t e) refl refl (operand_told n (rs1_of t.cell.word)) (operand_told n (rs2_of t.cell.word))
      (ap (λ (b : Bool). is_silent t.cell.hold && not b) below ∙ and_false (is_silent t.cell.hold))
      (ap (λ (b : Bool). is_tail t.cell.hold && not b) below ∙ and_false (is_tail t.cell.hold))
      (ap (λ (b : Bool). (is_none t.cell.hold && not b) && not (stops_now (shape_of k) n t (drop (suc n) (loaded_by k m)))) below
      ∙ ap (λ (b : Bool). b && not (stops_now (shape_of k) n t (drop (suc n) (loaded_by k m)))) (and_false (is_none t.cell.hold))
      ∙ sym (ap (λ (b : Bool). is_some (if b then None else name_of (Some t.cell)) && not ((n == (shape_of k).ex) && is_some row.stop)) gone)))

  -- and one that is left
  left_seat : (n : ℕ) (t : Token) → get_or (loaded_by k m) n None ≡ Some t → struck (turn_by k m) ≤ n
      → option_map (seat_by (shape_of k) m.arch.x (struck (turn_by k m)) (loaded_by k m) n) (Some t) ≡ seat_in d earlier row n (cell_of (Some t))
  left_seat n t e le =
      let above = below_false n (struck (turn_by k m)) le in
      let kept = F.none_below k ready earlier m row inv is n t le (slice_of (loaded_by k m) n t e) t.cell.serial (omega arith) in
      ap (λ s. Some s)
      (same_seat _ _ (number_told n t e) (time_told n t e) refl refl (operand_told n (rs1_of t.cell.word)) (operand_told n (rs2_of t.cell.word))
      (ap (λ (b : Bool). is_silent t.cell.hold && not b) above ∙ and_true (is_silent t.cell.hold))
      (ap (λ (b : Bool). is_tail t.cell.hold && not b) above ∙ and_true (is_tail t.cell.hold))
      (ap (λ (b : Bool). (is_none t.cell.hold && not b) && not (stops_now (shape_of k) n t (drop (suc n) (loaded_by k m)))) above
      ∙ ap (λ (b : Bool). b && not (stops_now (shape_of k) n t (drop (suc n) (loaded_by k m)))) (and_true (is_none t.cell.hold))
      ∙ by_hold t.cell.hold refl
      ∙ sym (ap (λ (b : Bool). is_some (if is_some t.cell.hold || b then None else name_of (Some t.cell)) && not ((n == (shape_of k).ex) && is_some row.stop)) kept))) where
        by_hold : (o : Option Hold) → t.cell.hold ≡ o
            → (is_none t.cell.hold && not (stops_now (shape_of k) n t (drop (suc n) (loaded_by k m)))) ≡ (is_some (if is_some t.cell.hold || false then None else name_of (Some t.cell)) && not ((n == (shape_of k).ex) && is_some row.stop))
        by_hold (Some h) q = ap (λ (o : Option Hold). is_none o && not (stops_now (shape_of k) n t (drop (suc n) (loaded_by k m)))) q ∙ sym (ap (λ (o : Option Hold). is_some (if is_some o || false then None else name_of (Some t.cell)) && not ((n == (shape_of k).ex) && is_some row.stop)) q)
        by_hold None q =
            ap (λ (o : Option Hold). is_none o && not (stops_now (shape_of k) n t (drop (suc n) (loaded_by k m)))) q
            ∙ ap not (stop_told n t e le q)
            ∙ sym (ap (λ (o : Option Hold). is_some (if is_some o || false then None else name_of (Some t.cell)) && not ((n == (shape_of k).ex) && is_some row.stop)) q)

  cell_is : (n : ℕ) → cell_at (judged k) row n ≡ cell_in (slice_get (cells_of (unheld (struck (turn_by k m)) (loaded_by k m))) n)
  cell_is n = ap (λ l. cell_in (slice_get l n)) is.cells

  seat_told : (n : ℕ) → slot_seat (shape_of k) m.arch.x (struck (turn_by k m)) (loaded_by k m) n ≡ seat_in d earlier row n (cell_at (judged k) row n)
  seat_told n = elim (cases_lt n (struck (turn_by k m))) [
    | inl lt ↦ below lt (get_or (loaded_by k m) n None) refl ∙ sym (ap (seat_in d earlier row n) (cell_is n ∙ unheld_below n (struck (turn_by k m)) (loaded_by k m) lt inside))
    | inr le ↦ above le (get_or (loaded_by k m) n None) refl ∙ sym (ap (seat_in d earlier row n) (cell_is n ∙ unheld_above n (struck (turn_by k m)) (loaded_by k m) le inside))
  ] where
    by : Option Token → Option Seat
    by s = option_map (seat_by (shape_of k) m.arch.x (struck (turn_by k m)) (loaded_by k m) n) s

    below : n < struck (turn_by k m) → (s : Option Token) → get_or (loaded_by k m) n None ≡ s → by (get_or (loaded_by k m) n None) ≡ seat_in d earlier row n (cell_of (freed (get_or (loaded_by k m) n None)))
    below lt None e = ap by e ∙ sym (ap (λ s. seat_in d earlier row n (cell_of (freed s))) e)
    below lt (Some t) e = ap by e ∙ flushed_seat n t e lt ∙ sym (ap (λ s. seat_in d earlier row n (cell_of (freed s))) e)

    above : struck (turn_by k m) ≤ n → (s : Option Token) → get_or (loaded_by k m) n None ≡ s → by (get_or (loaded_by k m) n None) ≡ seat_in d earlier row n (cell_of (get_or (loaded_by k m) n None))
    above le None e = ap by e ∙ sym (ap (λ s. seat_in d earlier row n (cell_of s)) e)
    above le (Some t) e = ap by e ∙ left_seat n t e le ∙ sym (ap (λ s. seat_in d earlier row n (cell_of s)) e)

  -- ---- what MEM loads

  -- no flushed token stands in MEM
  unflushed : (t : Token) → get_or (loaded_by k m) (shape_of k).mem None ≡ Some t → struck (turn_by k m) ≤ (shape_of k).mem
  unflushed t e =
      let lt = ready.ex_mem in
      let z : suc ((shape_of k).mem - 1) ≡ (shape_of k).mem = omega (arith, lt) in
      let here : drop (suc ((shape_of k).mem - 1)) (loaded_by k m) ≡ Some t ∷ drop (suc (shape_of k).mem) (loaded_by k m) = ap (λ i. drop i (loaded_by k m)) z ∙ drop_get (loaded_by k m) (shape_of k).mem t e in
      let before = alike_first (drop (suc ((shape_of k).mem - 1)) m.slots) (drop (suc ((shape_of k).mem - 1)) (loaded_by k m)) (drop (suc (shape_of k).mem) (loaded_by k m)) t (B.loaded_from k ready earlier m inv ((shape_of k).mem - 1)) here in
      let after = alike_second (drop (suc ((shape_of k).mem - 1)) m.slots) (drop (suc ((shape_of k).mem - 1)) (seen_by k m)) before.1 before.0 (P.later_alike k ready earlier m row inv is ((shape_of k).mem - 1) (omega (arith, lt))) before.2 in
      let seen : slice_get (seen_by k m) (shape_of k).mem ≡ Some (Some after.0) = ap (λ i. slice_get (seen_by k m) i) (sym z) ∙ slice_first (suc ((shape_of k).mem - 1)) (seen_by k m) after.1 after.0 after.2 in
      (F.left_from k ready earlier m row inv is (shape_of k).mem after.0 seen).0

  load_told : (t : Token) → get_or (loaded_by k m) (shape_of k).mem None ≡ Some t → slot_load (Some t) ≡ (run_trial (tree_of k) k.image (entries_of k) (place (row ∷ earlier) t.cell.serial)).load
  load_told t e =
      let n = (shape_of k).mem in
      let here = token_placed n t e in
      let g = here.gone ready.ex_mem in
      let i = here.tried g.0 g.1 in
      let le = unflushed t e in
      let seen : drop n (seen_by k m) ≡ Some t ∷ drop (suc n) (loaded_by k m) = cleared_drop (struck (turn_by k m)) n (loaded_by k m) le inside ∙ drop_get (loaded_by k m) n t e in
      let serials = subst (λ l. Serials (row ∷ earlier) r l) seen (serials_drop (row ∷ earlier) r n (seen_by k m) (F.seen_serials k ready earlier m row inv is)) in
      ap load_tried g.1 ∙ i.load ∙ ap (λ p. (run_trial (tree_of k) k.image (entries_of k) p).load) (sym serials.0.0)

  datum_told : loaded m.arch.mem (slot_load (get_or (loaded_by k m) (shape_of k).mem None)) ≡ datum_of d earlier row (cell_at (judged k) row (shape_of k).mem)
  datum_told = by_slot (get_or (loaded_by k m) (shape_of k).mem None) refl ∙ sym (ap (datum_of d earlier row) cell) where
    cell : cell_at (judged k) row (shape_of k).mem ≡ cell_of (get_or (loaded_by k m) (shape_of k).mem None)
    cell = cell_is (shape_of k).mem ∙ elim (cases_lt (shape_of k).mem (struck (turn_by k m))) [
      | inl lt ↦ unheld_below (shape_of k).mem (struck (turn_by k m)) (loaded_by k m) lt inside ∙ emptied lt (get_or (loaded_by k m) (shape_of k).mem None) refl
      | inr le ↦ unheld_above (shape_of k).mem (struck (turn_by k m)) (loaded_by k m) le inside
    ] where
      emptied : (shape_of k).mem < struck (turn_by k m) → (s : Option Token) → get_or (loaded_by k m) (shape_of k).mem None ≡ s → cell_of (freed (get_or (loaded_by k m) (shape_of k).mem None)) ≡ cell_of (get_or (loaded_by k m) (shape_of k).mem None)
      emptied lt None e = ap (λ s. cell_of (freed s)) e ∙ sym (ap (λ s. cell_of s) e)
      emptied lt (Some t) e = let le = unflushed t e in absurd (omega (arith, le, lt))

    by_slot : (s : Option Token) → get_or (loaded_by k m) (shape_of k).mem None ≡ s → loaded m.arch.mem (slot_load (get_or (loaded_by k m) (shape_of k).mem None)) ≡ datum_of d earlier row (cell_of (get_or (loaded_by k m) (shape_of k).mem None))
    by_slot None e = ap (λ s. loaded m.arch.mem (slot_load s)) e ∙ sym (ap (λ s. datum_of d earlier row (cell_of s)) e)
    by_slot (Some t) e =
        ap (λ s. loaded m.arch.mem (slot_load s)) e
        ∙ ap (λ (s : Arch). loaded s.mem (slot_load (Some t))) (sym inv.state)
        ∙ ap (loaded (architecture (tree_of k) (judged k) earlier).mem) (load_told t e)
        ∙ sym (ap (λ s. datum_of d earlier row (cell_of s)) e)

  -- ---- units

  units_can : AreUnits (shape_of k).stages (lasts_of k.design.plans)
  units_can = ready.in_units.units

  frozen_told : (u : ℕ) → is_frozen (lasts_of k.design.plans) m.entries u ≡ freezes (units_after (judged k) earlier) u
  frozen_told u = by_slots (slice_get (units_after (judged k) earlier) u) refl where
    missing : slice_get (units_after (judged k) earlier) u ≡ None → length (lasts_of k.design.plans) ≤ u
    missing e = elim (cases_lt u (length (lasts_of k.design.plans))) [
      | inl lt ↦ (let x = slots_from-one 0 (shape_of k).stages (lasts_of k.design.plans) m.entries u lt in cc (sym e ∙ ap (λ (l : List UnitSlots). slice_get l u) inv.units ∙ x.1))
      | inr le ↦ le
    ]

    by_slots : (o : Option UnitSlots) → slice_get (units_after (judged k) earlier) u ≡ o → is_frozen (lasts_of k.design.plans) m.entries u ≡ freezes (units_after (judged k) earlier) u
    by_slots None e = none_frozen (shape_of k).stages (lasts_of k.design.plans) m.entries u inv.timed (missing e) ∙ sym (ap (λ o. is_unit_frozen u o (unit_written (units_after (judged k) earlier))) e)
    by_slots (Some slots) e =
        sym (frozen_law (shape_of k).stages (lasts_of k.design.plans) m.entries u slots units_can inv.timed (sym (ap (λ (l : List UnitSlots). slice_get l u) inv.units) ∙ e))
        ∙ sym (ap (λ (l : List UnitSlots). frozen_with u slots (unit_written l)) inv.units)
        ∙ sym (ap (λ o. is_unit_frozen u o (unit_written (units_after (judged k) earlier))) e)

  -- ---- all of it

  same_table : {A : Type 0} (f g : ℕ → A) (n : ℕ) (z : A) → ((i : ℕ) → f i ≡ g i) → table f n ≡ table g n
  same_table f g n z h = table_is (table f n) g n z (table_length f n) (λ i lt. table_at f n i z lt ∙ h i)

  abbrev shows : List (Option Seat) → List Bits → ℕ → List Bool → Shown
  shows seats custom datum frozen = record { seats = seats; custom = custom; datum = datum; frozen = frozen }

  same_shown : (a b : Shown) → a.seats ≡ b.seats → a.custom ≡ b.custom → a.datum ≡ b.datum → a.frozen ≡ b.frozen → a ≡ b
  same_shown a b e f g h =
      ap (λ v. shows v a.custom a.datum a.frozen) e
      ∙ ap (λ v. shows b.seats v a.datum a.frozen) f
      ∙ ap (λ v. shows b.seats b.custom v a.frozen) g
      ∙ ap (λ v. shows b.seats b.custom b.datum v) h

  pub shown_told : future_file (judged k) earlier ≡ m.future → shown_of k m ≡ shown_by d earlier row
  unfolding shown_by
  shown_told file =
      same_shown _ _
      (same_table (slot_seat (shape_of k) m.arch.x (struck (turn_by k m)) (loaded_by k m)) (λ n. seat_in d earlier row n (cell_at (judged k) row n)) 5 None seat_told)
      (sym file)
      datum_told
      (same_table (is_frozen (lasts_of k.design.plans) m.entries) (freezes (units_after (judged k) earlier)) 64 false frozen_told)
