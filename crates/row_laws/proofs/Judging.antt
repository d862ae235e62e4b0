-- A row on the core of three stages that passes the tests of its cells is lawful, where nothing is flushed.
use Rattle.std.proofs.Common.{◌≡◌, ℕ, zero, suc, ◌≤◌, List, [], ◌∷◌, Option, Some, None, Bool, true, false, refl, sym, ap, ◌∙◌, subst, arith, ◌⊎◌, inl, inr}
use Rattle.std.specs.Prelude.{◌&&◌, ◌||◌, not, ◌==◌, nat_lt, is_some, slice_get, get_or}
use Rattle.ix_plan.specs.declared.design.Target.{Target}
use Rattle.ix_plan.specs.declared.design.Target.TheVariants.{X, Custom as custom_target}
use Rattle.ix_plan.specs.Units.{unit_written}
use Rattle.rv_seq.specs.declared.commit.Commit.{Commit}
use Rattle.rv_seq.specs.declared.commit.Stop.{Stop}
use Rattle.rv_trace.specs.declared.row.Cell.{Cell}
use Rattle.rv_trace.specs.declared.row.Hold.{Hold}
use Rattle.rv_trace.specs.declared.row.Hold.TheVariants.{Operand, Board, Custom, Late, Trap, Drain, Wait, StoreAhead, Tail, UnitFull, Port, Behind}
use Rattle.rv_trace.specs.declared.row.Row.{Row}
use Rattle.rv_trace.specs.Trace.{has_serial, is_flushed, is_retired, place}
use Rattle.rv_trace.specs.RowParts.{ComesFirst}
use Rattle.rv_lawful.specs.Settings.{Stands}
use Rattle.rv_lawful.specs.Outstanding.{Written, is_register, has_target, touches, serial_written, units_after, is_written}
use Rattle.rv_lawful.specs.LawfulTrace.{IsDueToStop, WaitsForWrite, WaitsToDrain, WaitsForUnit, WaitsForPort, OwnHold, StopsRun, ShowsHold}
use Rattle.row_laws.specs.Hands.{Hand, by_hand}
use Rattle.row_laws.specs.Spawning.{full_row}
use Rattle.row_laws.proofs.Stages.{true_not_false, AllNamed, no_wait, shows_none, shows_own, shows_hold}
use Rattle.row_laws.proofs.Tests.{both_true, and_both, x_meets, x_meets_at, either, negated, known, same_number, less, not_less, all_below, below, register_there, asks_of, IsSimple, in_rows, has_word, is_older, operand_clear, no_operand, board_clear, has_its, clear_at, no_board, is_due, stop_there, due_now, settled, unsettled, full_in, full_of, not_full, slots_there, some_same, none_own, no_tail, clear_front, ex_free, clear_ex, last_free, clear_last, front_not_ex, last_not_ex}

-- a fact of four parts
four_true : (a b c d : Bool) → (a && (b && (c && d))) ≡ true → (a ≡ true) × (b ≡ true) × (c ≡ true) × (d ≡ true)
four_true a b c d e =
    let x = both_true a (b && (c && d)) e in let y = both_true b (c && d) x.1 in let z = both_true c d y.1 in (x.0, y.0, z.0, z.1)

-- Board

-- of what this one writes by `spawn`, the x register comes behind r, or is it, with no lower serial
abbrev pub comes_behind : ℕ → ℕ → ℕ → Option ℕ → Bool
comes_behind r j i None = true
comes_behind r j i (Some n) = nat_lt r n || ((n == r) && not (nat_lt i j))

behind_x : (r j i : ℕ) (o : Option ℕ) (s : ℕ) → comes_behind r j i o ≡ true → is_register o s ≡ true → ComesFirst (Board (X r) j) (Board (X s) i)
behind_x r j i None s e f = absurd (true_not_false (sym f))
behind_x r j i (Some n) s e f = let same = same_number n s f in elim (known (nat_lt r n)) [
  | inl x ↦ let lt = less r n x in inr (refl, inl (omega (arith, same, lt)))
  | inr x ↦ let y = both_true (n == r) (not (nat_lt i j)) (either (nat_lt r n) ((n == r) && not (nat_lt i j)) e x) in
      let at = same_number n r y.0 in let le = not_less i j (negated (nat_lt i j) y.1) in inr (refl, inr (sym at ∙ same, le))
]

behind_any : (r j i : ℕ) → nat_lt r 32 ≡ true → (s : ℕ) → ComesFirst (Board (X r) j) (Board (custom_target s) i)
behind_any r j i few s = let lt = less r 32 few in inr (refl, inl (omega (arith, lt)))

-- the other cells whose writes the cell waits for come behind
abbrev pub board_others : Hand → List Row → Cell → ℕ → ℕ → ℕ → Bool
board_others h earlier c r j i = board_clear h earlier c i || comes_behind r j i (asks_of h i).spawned

-- the cell reads or writes the register, which an older one writes by `spawn`, that is not written in an earlier row
abbrev pub board_true : Hand → List Row → Row → Cell → Target → ℕ → Bool
board_true h earlier row c t j =
    touches (h.asks c.word) t && (is_older (row ∷ earlier) c j && (not (is_written earlier j) && (in_rows (row ∷ earlier) j && has_target (asks_of h j) t)))

pub waits_for_write : (h : Hand) (earlier : List Row) (row : Row) (c : Cell) (t : Target) (j : ℕ) → AllNamed h (row ∷ earlier) → board_true h earlier row c t j ≡ true → WaitsForWrite (by_hand h) earlier row 1 c t j
waits_for_write h earlier row c t j all e =
    let a = both_true (touches (h.asks c.word) t) (is_older (row ∷ earlier) c j && (not (is_written earlier j) && (in_rows (row ∷ earlier) j && has_target (asks_of h j) t))) e in
    let b = four_true (is_older (row ∷ earlier) c j) (not (is_written earlier j)) (in_rows (row ∷ earlier) j) (has_target (asks_of h j) t) a.1 in
    let older = both_true (nat_lt j c.serial) (not (is_flushed (row ∷ earlier) j)) b.0 in
    record {
      reading = refl;
      touches = a.0;
      older = record { lower = less j c.serial older.0; unflushed = negated (is_flushed (row ∷ earlier) j) older.1 };
      unwritten = negated (is_written earlier j) b.1;
      spawns = (get_or h.image j 0, has_word h (row ∷ earlier) j all b.2, b.3);
    }

shows_first_board : (h : Hand) (earlier : List Row) (row : Row) (c : Cell) (u : Target) (j : ℕ) → AllNamed h (row ∷ earlier) → has_serial row.flushed c.serial ≡ false → c.hold ≡ Some (Board u j) → board_true h earlier row c u j ≡ true
    → all_below (operand_clear h earlier c) c.serial ≡ true → ((t : Target) (i : ℕ) → WaitsForWrite (by_hand h) earlier row 1 c t i → ComesFirst (Board u j) (Board t i)) → ShowsHold (by_hand h) earlier row 1 c
shows_first_board h earlier row c u j all alive shown e clear least = shows_own (by_hand h) earlier row 1 c (Board u j) shown alive (waits_for_write h earlier row c u j all e) first (inl (omega arith)) where
  first : (f : Hold) → OwnHold (by_hand h) earlier row 1 c f → ComesFirst (Board u j) f
  first (Operand s i) o = absurd (no_operand h earlier row 1 c all clear s i o)
  first (Board t i) o = least t i o
  first (Custom s i) o = inl (omega arith)
  first (Late i) o = inl (omega arith)
  first Trap o = absurd (true_not_false (sym o.interrupted))
  first (Drain i) o = inl (omega arith)
  first (Wait left) o = inl (omega arith)
  first (StoreAhead i) o = inl (omega arith)
  first (Tail left) o = inl (omega arith)
  first (UnitFull v) o = inl (omega arith)
  first (Port i) o = inl (omega arith)
  first Behind o = absurd o

-- the test on a cell that shows Board of an x register

abbrev pub board_shown : Hand → List Row → Row → Cell → ℕ → ℕ → Bool
board_shown h earlier row c r j =
    board_true h earlier row c (X r) j && (nat_lt r 32 && (all_below (operand_clear h earlier c) c.serial && all_below (board_others h earlier c r j) c.serial))

board_first : (h : Hand) (earlier : List Row) (row : Row) (c : Cell) (r j : ℕ) → AllNamed h (row ∷ earlier) → nat_lt r 32 ≡ true → all_below (board_others h earlier c r j) c.serial ≡ true
    → (t : Target) (i : ℕ) → WaitsForWrite (by_hand h) earlier row 1 c t i → ComesFirst (Board (X r) j) (Board t i)
board_first h earlier row c r j all few e t i w =
    let test = below (board_others h earlier c r j) c.serial i e w.older.lower in
    elim (known (board_clear h earlier c i)) [
      | inl x ↦ absurd (clear_at h earlier row 1 c all t i x w)
      | inr x ↦ by_target t (has_its h earlier row 1 c all t i w) (either (board_clear h earlier c i) (comes_behind r j i (asks_of h i).spawned) test x)
    ] where
      by_target : (t : Target) → has_target (asks_of h i) t ≡ true → comes_behind r j i (asks_of h i).spawned ≡ true → ComesFirst (Board (X r) j) (Board t i)
      by_target (X s) has q = behind_x r j i (asks_of h i).spawned s q has
      by_target (custom_target s) has q = behind_any r j i few s

pub shows_board : (h : Hand) (earlier : List Row) (row : Row) (c : Cell) (r j : ℕ) → AllNamed h (row ∷ earlier) → has_serial row.flushed c.serial ≡ false → c.hold ≡ Some (Board (X r) j) → board_shown h earlier row c r j ≡ true
    → ShowsHold (by_hand h) earlier row 1 c
shows_board h earlier row c r j all alive shown e =
    let a = four_true (board_true h earlier row c (X r) j) (nat_lt r 32) (all_below (operand_clear h earlier c) c.serial) (all_below (board_others h earlier c r j) c.serial) e in
    shows_first_board h earlier row c (X r) j all alive shown a.0 a.2 (board_first h earlier row c r j all a.1 a.3)

-- the test on a cell that shows Board of a custom register

-- no register below this one is common
abbrev pub none_before : List Bool → List Bool → ℕ → Bool
none_before l m zero = true
none_before [] m (suc r) = true
none_before (a ∷ l) [] (suc r) = true
none_before (a ∷ l) (b ∷ m) (suc r) = not (a && b) && none_before l m r

not_before : (l m : List Bool) (r s : ℕ) → none_before l m r ≡ true → get_or l s false ≡ true → get_or m s false ≡ true → r ≤ s
not_before l m zero s e f g = omega arith
not_before [] m (suc r) s e f g = absurd (true_not_false (sym f))
not_before (a ∷ l) [] (suc r) s e f g = absurd (true_not_false (sym g))
not_before (a ∷ l) (b ∷ m) (suc r) zero e f g = absurd (true_not_false (sym (and_both a b f g) ∙ negated (a && b) (both_true (not (a && b)) (none_before l m r) e).0))
not_before (a ∷ l) (b ∷ m) (suc r) (suc s) e f g = let le = not_before l m r s (both_true (not (a && b)) (none_before l m r) e).1 f g in omega (arith, le)

abbrev pub custom_only : Hand → Cell → ℕ → ℕ → Bool
custom_only h c r i = not (x_meets (h.asks c.word) (asks_of h i).spawned) && none_before (h.asks c.word).customs (asks_of h i).spawned_customs r

abbrev pub custom_others : Hand → List Row → Cell → ℕ → ℕ → ℕ → Bool
custom_others h earlier c r j i = board_clear h earlier c i || ((i == j) && custom_only h c r i)

abbrev pub custom_shown : Hand → List Row → Row → Cell → ℕ → ℕ → Bool
custom_shown h earlier row c r j =
    board_true h earlier row c (custom_target r) j && (all_below (operand_clear h earlier c) c.serial && all_below (custom_others h earlier c r j) c.serial)

custom_order : (r j s i : ℕ) → r ≤ s → i ≡ j → ComesFirst (Board (custom_target r) j) (Board (custom_target s) i)
custom_order r j s i le same = elim (known (nat_lt r s)) [
  | inl x ↦ let lt = less r s x in inr (refl, inl (omega (arith, lt)))
  | inr x ↦ let back = not_less r s x in inr (refl, inr (omega (arith, le, back), omega (arith, same)))
]

custom_least : (h : Hand) (earlier : List Row) (row : Row) (c : Cell) (r j : ℕ) → AllNamed h (row ∷ earlier) → all_below (custom_others h earlier c r j) c.serial ≡ true
    → (t : Target) (i : ℕ) → WaitsForWrite (by_hand h) earlier row 1 c t i → ComesFirst (Board (custom_target r) j) (Board t i)
custom_least h earlier row c r j all e t i w =
    let test = below (custom_others h earlier c r j) c.serial i e w.older.lower in
    elim (known (board_clear h earlier c i)) [
      | inl x ↦ absurd (clear_at h earlier row 1 c all t i x w)
      | inr x ↦
          let a = both_true (i == j) (custom_only h c r i) (either (board_clear h earlier c i) ((i == j) && custom_only h c r i) test x) in
          let b = both_true (not (x_meets (h.asks c.word) (asks_of h i).spawned)) (none_before (h.asks c.word).customs (asks_of h i).spawned_customs r) a.1 in
          by_target t w.touches (has_its h earlier row 1 c all t i w) (same_number i j a.0) (negated (x_meets (h.asks c.word) (asks_of h i).spawned) b.0) b.1
    ] where
      by_target : (t : Target) → touches (h.asks c.word) t ≡ true → has_target (asks_of h i) t ≡ true → i ≡ j → x_meets (h.asks c.word) (asks_of h i).spawned ≡ false → none_before (h.asks c.word).customs (asks_of h i).spawned_customs r ≡ true
          → ComesFirst (Board (custom_target r) j) (Board t i)
      by_target (X s) uses has same apart none = absurd (true_not_false (sym (x_meets_at (h.asks c.word) (asks_of h i).spawned s uses has) ∙ apart))
      by_target (custom_target s) uses has same apart none = custom_order r j s i (not_before (h.asks c.word).customs (asks_of h i).spawned_customs r s none uses has) same

pub shows_custom_board : (h : Hand) (earlier : List Row) (row : Row) (c : Cell) (r j : ℕ) → AllNamed h (row ∷ earlier) → has_serial row.flushed c.serial ≡ false → c.hold ≡ Some (Board (custom_target r) j) → custom_shown h earlier row c r j ≡ true
    → ShowsHold (by_hand h) earlier row 1 c
shows_custom_board h earlier row c r j all alive shown e =
    let a = both_true (board_true h earlier row c (custom_target r) j) (all_below (operand_clear h earlier c) c.serial && all_below (custom_others h earlier c r j) c.serial) e in
    let b = both_true (all_below (operand_clear h earlier c) c.serial) (all_below (custom_others h earlier c r j) c.serial) a.1 in
    shows_first_board h earlier row c (custom_target r) j all alive shown a.0 b.0 (custom_least h earlier row c r j all b.1)

-- Drain

abbrev pub drain_true : Hand → List Row → Row → Cell → ℕ → Bool
drain_true h earlier row c j = is_due h (row ∷ earlier) c && (is_older (row ∷ earlier) c j && (not (settled h (row ∷ earlier) j) && in_rows (row ∷ earlier) j))

abbrev pub drain_shown : Hand → List Row → Row → Cell → ℕ → Bool
drain_shown h earlier row c j =
    drain_true h earlier row c j && (all_below (operand_clear h earlier c) c.serial && (all_below (board_clear h earlier c) c.serial && all_below (settled h (row ∷ earlier)) j))

left_of : (a b c : Bool) → (a && (b || not c)) ≡ false → (a ≡ false) ⊎ ((b ≡ false) × (c ≡ true))
left_of false b c e = inl refl
left_of true true c e = absurd (true_not_false e)
left_of true false true e = inr (refl, refl)
left_of true false false e = absurd (true_not_false e)

pub waits_to_drain : (h : Hand) (earlier : List Row) (row : Row) (c : Cell) (j : ℕ) → AllNamed h (row ∷ earlier) → drain_true h earlier row c j ≡ true → WaitsToDrain (by_hand h) earlier row 1 c j
waits_to_drain h earlier row c j all e =
    let a = four_true (is_due h (row ∷ earlier) c) (is_older (row ∷ earlier) c j) (not (settled h (row ∷ earlier) j)) (in_rows (row ∷ earlier) j) e in
    let older = both_true (nat_lt j c.serial) (not (is_flushed (row ∷ earlier) j)) a.1 in
    record {
      executing = refl;
      due = stop_there (h.course.answer (place (row ∷ earlier) c.serial)) a.0;
      older = record { lower = less j c.serial older.0; unflushed = negated (is_flushed (row ∷ earlier) j) older.1 };
      left = elim (left_of (is_retired (row ∷ earlier) j) (is_written (row ∷ earlier) j) (is_some (asks_of h j).unit) (negated (settled h (row ∷ earlier) j) a.2)) [
        | inl x ↦ inl x
        | inr x ↦ inr (record { decoupled = (get_or h.image j 0, has_word h (row ∷ earlier) j all a.3, x.1); unwritten = x.0 })
      ];
    }

pub shows_drain : (h : Hand) → IsSimple h → (earlier : List Row) (row : Row) (c : Cell) (j : ℕ) → AllNamed h (row ∷ earlier) → has_serial row.flushed c.serial ≡ false → c.hold ≡ Some (Drain j) → drain_shown h earlier row c j ≡ true
    → ShowsHold (by_hand h) earlier row 1 c
shows_drain h simple earlier row c j all alive shown e =
    let a = four_true (drain_true h earlier row c j) (all_below (operand_clear h earlier c) c.serial) (all_below (board_clear h earlier c) c.serial) (all_below (settled h (row ∷ earlier)) j) e in
    shows_own (by_hand h) earlier row 1 c (Drain j) shown alive (waits_to_drain h earlier row c j all a.0) (first a.1 a.2 a.3) (inl (omega arith)) where
      least : (i : ℕ) → all_below (settled h (row ∷ earlier)) j ≡ true → WaitsToDrain (by_hand h) earlier row 1 c i → ComesFirst (Drain j) (Drain i)
      least i z w = elim (known (nat_lt i j)) [
        | inl x ↦ absurd (unsettled h (row ∷ earlier) i all (below (settled h (row ∷ earlier)) j i z (less i j x)) w.left)
        | inr x ↦ inr (refl, inr (refl, not_less i j x))
      ]

      first : all_below (operand_clear h earlier c) c.serial ≡ true → all_below (board_clear h earlier c) c.serial ≡ true → all_below (settled h (row ∷ earlier)) j ≡ true → (f : Hold) → OwnHold (by_hand h) earlier row 1 c f → ComesFirst (Drain j) f
      first x y z (Operand s i) o = absurd (no_operand h earlier row 1 c all x s i o)
      first x y z (Board t i) o = absurd (no_board h earlier row 1 c all y t i o)
      first x y z (Custom s i) o = absurd (true_not_false (sym o.writes.2 ∙ simple.unlate o.writes.0 s))
      first x y z (Late i) o = absurd (true_not_false (sym o.jumps.2 ∙ simple.late o.jumps.0))
      first x y z Trap o = absurd (true_not_false (sym o.interrupted))
      first x y z (Drain i) o = least i z o
      first x y z (Wait left) o = inl (omega arith)
      first x y z (StoreAhead i) o = inl (omega arith)
      first x y z (Tail left) o = inl (omega arith)
      first x y z (UnitFull u) o = inl (omega arith)
      first x y z (Port i) o = inl (omega arith)
      first x y z Behind o = absurd o

-- UnitFull and Port

abbrev pub full_shown : Hand → List Row → Cell → ℕ → Bool
full_shown h earlier c u = is_register (h.asks c.word).unit u && full_in u (slice_get (units_after (by_hand h) earlier) u) (unit_written (units_after (by_hand h) earlier))

pub waits_for_unit : (h : Hand) (earlier : List Row) (row : Row) (c : Cell) (u : ℕ) → full_shown h earlier c u ≡ true → WaitsForUnit (by_hand h) earlier row 2 c u
waits_for_unit h earlier row c u e =
    let a = both_true (is_register (h.asks c.word).unit u) (full_in u (slice_get (units_after (by_hand h) earlier) u) (unit_written (units_after (by_hand h) earlier))) e in
    record { last = refl; enters = register_there (h.asks c.word).unit u a.0; frozen = slots_there u (slice_get (units_after (by_hand h) earlier) u) (unit_written (units_after (by_hand h) earlier)) a.1 }

pub shows_full : (h : Hand) → IsSimple h → (earlier : List Row) (row : Row) (c : Cell) (u : ℕ) → has_serial row.flushed c.serial ≡ false → c.hold ≡ Some (UnitFull u) → full_shown h earlier c u ≡ true → ShowsHold (by_hand h) earlier row 2 c
shows_full h simple earlier row c u alive shown e = shows_own (by_hand h) earlier row 2 c (UnitFull u) shown alive (waits_for_unit h earlier row c u e) first (inl (omega arith)) where
  first : (f : Hold) → OwnHold (by_hand h) earlier row 2 c f → ComesFirst (UnitFull u) f
  first (Operand s i) o = absurd (last_not_ex o.reading)
  first (Board t i) o = absurd (last_not_ex o.reading)
  first (Custom s i) o = absurd (last_not_ex o.executing)
  first (Late i) o = absurd (last_not_ex o.executing)
  first Trap o = absurd (true_not_false (sym o.interrupted))
  first (Drain i) o = absurd (last_not_ex o.executing)
  first (Wait left) o = absurd (no_wait h earlier row 2 c left o)
  first (StoreAhead i) o = absurd (true_not_false (sym o.loads ∙ simple.loads c.word))
  first (Tail left) o = absurd (no_tail h simple earlier row 2 c left o)
  first (UnitFull v) o = inr (refl, inr (refl, omega arith))
  first (Port i) o = inl (omega arith)
  first Behind o = absurd o

abbrev pub port_true : Hand → List Row → Row → Cell → ℕ → Bool
port_true h earlier row c j = not ((h.asks c.word).destination == 0) && (is_register (serial_written row.written) j && (in_rows (row ∷ earlier) j && is_some (asks_of h j).spawned))

abbrev pub port_shown : Hand → List Row → Row → Cell → ℕ → Bool
port_shown h earlier row c j = not (full_of (units_after (by_hand h) earlier) (h.asks c.word).unit) && port_true h earlier row c j

pub waits_for_port : (h : Hand) (earlier : List Row) (row : Row) (c : Cell) (j : ℕ) → AllNamed h (row ∷ earlier) → port_true h earlier row c j ≡ true → WaitsForPort (by_hand h) earlier row 2 c j
waits_for_port h earlier row c j all e =
    let a = four_true (not ((h.asks c.word).destination == 0)) (is_register (serial_written row.written) j) (in_rows (row ∷ earlier) j) (is_some (asks_of h j).spawned) e in
    record { last = refl; writes = negated ((h.asks c.word).destination == 0) a.0; taken = register_there (serial_written row.written) j a.1; spawns = (get_or h.image j 0, has_word h (row ∷ earlier) j all a.2, a.3) }

pub shows_port : (h : Hand) → IsSimple h → (earlier : List Row) (row : Row) (c : Cell) (j : ℕ) → AllNamed h (row ∷ earlier) → has_serial row.flushed c.serial ≡ false → c.hold ≡ Some (Port j) → port_shown h earlier row c j ≡ true → ShowsHold (by_hand h) earlier row 2 c
shows_port h simple earlier row c j all alive shown e =
    let a = both_true (not (full_of (units_after (by_hand h) earlier) (h.asks c.word).unit)) (port_true h earlier row c j) e in
    shows_own (by_hand h) earlier row 2 c (Port j) shown alive (waits_for_port h earlier row c j all a.1) (first a.0 (waits_for_port h earlier row c j all a.1)) (inl (omega arith)) where
      first : not (full_of (units_after (by_hand h) earlier) (h.asks c.word).unit) ≡ true → WaitsForPort (by_hand h) earlier row 2 c j → (f : Hold) → OwnHold (by_hand h) earlier row 2 c f → ComesFirst (Port j) f
      first n w (Operand s i) o = absurd (last_not_ex o.reading)
      first n w (Board t i) o = absurd (last_not_ex o.reading)
      first n w (Custom s i) o = absurd (last_not_ex o.executing)
      first n w (Late i) o = absurd (last_not_ex o.executing)
      first n w Trap o = absurd (true_not_false (sym o.interrupted))
      first n w (Drain i) o = absurd (last_not_ex o.executing)
      first n w (Wait left) o = absurd (no_wait h earlier row 2 c left o)
      first n w (StoreAhead i) o = absurd (true_not_false (sym o.loads ∙ simple.loads c.word))
      first n w (Tail left) o = absurd (no_tail h simple earlier row 2 c left o)
      first n w (UnitFull v) o = absurd (not_full (units_after (by_hand h) earlier) (h.asks c.word).unit v o.frozen.0 (negated (full_of (units_after (by_hand h) earlier) (h.asks c.word).unit) n) o.enters o.frozen.1 o.frozen.2)
      first n w (Port i) o = let same = some_same j i (sym w.taken ∙ o.taken) in inr (refl, inr (refl, omega (arith, same)))
      first n w Behind o = absurd o

-- Cells

-- the next stage has a cell that is held, or that stops the run
abbrev pub blocks : Hand → List Row → Row → Option Cell → Bool
blocks h earlier row None = false
blocks h earlier row (Some d) = is_some d.hold || (is_due h (row ∷ earlier) d && ex_free h earlier row d)

-- it has one that is not held, and is not due to stop
abbrev pub goes : Hand → List Row → Row → Option Cell → Bool
goes h earlier row None = true
goes h earlier row (Some d) = not (is_some d.hold) && not (is_due h (row ∷ earlier) d)

pub stops_now : (h : Hand) → IsSimple h → (earlier : List Row) (row : Row) (c : Cell) → AllNamed h (row ∷ earlier) → ex_free h earlier row c ≡ true → (stop : Stop) → IsDueToStop (by_hand h) (row ∷ earlier) c stop → StopsRun (by_hand h) earlier row 1 c stop
stops_now h simple earlier row c all free stop due = record { executing = refl; due = due; free = none_own h simple earlier row 1 c (clear_ex h earlier row c all free) }

pub inner : (o : Option Cell) (d : Cell) → ◌≡◌ {A = Option (Option Cell)} (Some o) (Some (Some d)) → o ≡ Some d
inner o d e = cc

-- a cell of stage 0

abbrev pub front_hold : Hand → List Row → Row → Option Hold → Option Cell → Bool
front_hold h earlier row None b = goes h earlier row b
front_hold h earlier row (Some Behind) b = blocks h earlier row b
front_hold h earlier row (Some g) b = false

goes_not_behind : (h : Hand) (earlier : List Row) (row : Row) (b : Option Cell) (d : Cell) → b ≡ Some d → goes h earlier row b ≡ true → (is_some d.hold ≡ true) ⊎ ((stop : Stop) × StopsRun (by_hand h) earlier row 1 d stop) → ⊥
goes_not_behind h earlier row None d e g o = cc
goes_not_behind h earlier row (Some x) d e g o = by_cell d (the x d e) o where
  the : (x d : Cell) → ◌≡◌ {A = Option Cell} (Some x) (Some d) → x ≡ d
  the x d e = cc

  parts : (not (is_some x.hold) ≡ true) × (not (is_due h (row ∷ earlier) x) ≡ true)
  parts = both_true (not (is_some x.hold)) (not (is_due h (row ∷ earlier) x)) g

  by_cell : (d : Cell) → x ≡ d → (is_some d.hold ≡ true) ⊎ ((stop : Stop) × StopsRun (by_hand h) earlier row 1 d stop) → ⊥
  by_cell d e o = elim o [
    | inl held ↦ true_not_false (sym held ∙ ap (λ (y : Cell). is_some y.hold) (sym e) ∙ negated (is_some x.hold) parts.0)
    | inr s ↦ true_not_false (sym (due_now h (row ∷ earlier) d s.0 s.1.due) ∙ ap (λ (y : Cell). is_due h (row ∷ earlier) y) (sym e) ∙ negated (is_due h (row ∷ earlier) x) parts.1)
  ]

blocks_behind : (h : Hand) → IsSimple h → (earlier : List Row) (row : Row) (d : Cell) → AllNamed h (row ∷ earlier) → blocks h earlier row (Some d) ≡ true → (is_some d.hold ≡ true) ⊎ ((stop : Stop) × StopsRun (by_hand h) earlier row 1 d stop)
blocks_behind h simple earlier row d all e = elim (known (is_some d.hold)) [
  | inl x ↦ inl x
  | inr x ↦ let p = both_true (is_due h (row ∷ earlier) d) (ex_free h earlier row d) (either (is_some d.hold) (is_due h (row ∷ earlier) d && ex_free h earlier row d) e x) in
      let due = stop_there (h.course.answer (place (row ∷ earlier) d.serial)) p.0 in
      inr (due.0, stops_now h simple earlier row d all p.1 due.0 due.1)
]

pub front_shows : (h : Hand) → IsSimple h → (earlier : List Row) (x : Cell) (b c : Option Cell) (ret : Option (ℕ × Commit)) (wr : Option Written) (stop : Option Stop) → AllNamed h (full_row (Some x) b c ret wr stop ∷ earlier)
    → (hold : Option Hold) → x.hold ≡ hold → front_hold h earlier (full_row (Some x) b c ret wr stop) hold b ≡ true → ShowsHold (by_hand h) earlier (full_row (Some x) b c ret wr stop) 0 x
front_shows h simple earlier x b c ret wr stop all None e t =
    shows_none (by_hand h) earlier row 0 x e (λ alive runs g w. elim w [
      | inl o ↦ none_own h simple earlier row 0 x (clear_front h earlier row x) g o
      | inr s ↦ goes_not_behind h earlier row b s.1.0 (inner b s.1.0 s.1.1) t s.1.2
    ]) where
      row : Row
      row = full_row (Some x) b c ret wr stop
front_shows h simple earlier x None c ret wr stop all (Some Behind) e t = absurd (true_not_false (sym t))
front_shows h simple earlier x (Some d) c ret wr stop all (Some Behind) e t =
    shows_hold (by_hand h) earlier row 0 x Behind e refl (λ s q. front_not_ex q.executing) (inr (refl, (d, refl, blocks_behind h simple earlier row d all t)))
    (λ f w. elim w [
      | inl o ↦ absurd (none_own h simple earlier row 0 x (clear_front h earlier row x) f o)
      | inr q ↦ subst (λ g. ComesFirst Behind g) (sym q.0) (inr (refl, inr (refl, omega arith)))
    ]) where
      row : Row
      row = full_row (Some x) (Some d) c ret wr stop
front_shows h simple earlier x b c ret wr stop all (Some (Operand r j)) e t = absurd (true_not_false (sym t))
front_shows h simple earlier x b c ret wr stop all (Some (Board u j)) e t = absurd (true_not_false (sym t))
front_shows h simple earlier x b c ret wr stop all (Some (Custom r j)) e t = absurd (true_not_false (sym t))
front_shows h simple earlier x b c ret wr stop all (Some (Late j)) e t = absurd (true_not_false (sym t))
front_shows h simple earlier x b c ret wr stop all (Some Trap) e t = absurd (true_not_false (sym t))
front_shows h simple earlier x b c ret wr stop all (Some (Drain j)) e t = absurd (true_not_false (sym t))
front_shows h simple earlier x b c ret wr stop all (Some (Wait n)) e t = absurd (true_not_false (sym t))
front_shows h simple earlier x b c ret wr stop all (Some (StoreAhead j)) e t = absurd (true_not_false (sym t))
front_shows h simple earlier x b c ret wr stop all (Some (Tail n)) e t = absurd (true_not_false (sym t))
front_shows h simple earlier x b c ret wr stop all (Some (UnitFull u)) e t = absurd (true_not_false (sym t))
front_shows h simple earlier x b c ret wr stop all (Some (Port j)) e t = absurd (true_not_false (sym t))

-- a cell of EX

-- the cell of the last stage is held
abbrev pub is_held : Option Cell → Bool
is_held None = false
is_held (Some d) = is_some d.hold

abbrev pub ex_hold : Hand → List Row → Row → Cell → Option Hold → Option Cell → Bool
ex_hold h earlier row x None c = ex_free h earlier row x && (is_due h (row ∷ earlier) x || not (is_held c))
ex_hold h earlier row x (Some Behind) c = ex_free h earlier row x && (not (is_due h (row ∷ earlier) x) && is_held c)
ex_hold h earlier row x (Some (Board (X r) j)) c = board_shown h earlier row x r j
ex_hold h earlier row x (Some (Board (custom_target r) j)) c = custom_shown h earlier row x r j
ex_hold h earlier row x (Some (Drain j)) c = drain_shown h earlier row x j
ex_hold h earlier row x (Some g) c = false

held_last : (c : Option Cell) (d : Cell) → c ≡ Some d → is_held c ≡ is_some d.hold
held_last c d e = ap is_held e

pub ex_shows : (h : Hand) → IsSimple h → (earlier : List Row) (a : Option Cell) (x : Cell) (c : Option Cell) (ret : Option (ℕ × Commit)) (wr : Option Written) (stop : Option Stop) → AllNamed h (full_row a (Some x) c ret wr stop ∷ earlier)
    → (hold : Option Hold) → x.hold ≡ hold → ex_hold h earlier (full_row a (Some x) c ret wr stop) x hold c ≡ true → ShowsHold (by_hand h) earlier (full_row a (Some x) c ret wr stop) 1 x
ex_shows h simple earlier a x c ret wr stop all None e t =
    let p = both_true (ex_free h earlier row x) (is_due h (row ∷ earlier) x || not (is_held c)) t in
    shows_none (by_hand h) earlier row 1 x e (λ alive runs g w. elim w [
      | inl o ↦ none_own h simple earlier row 1 x (clear_ex h earlier row x all p.0) g o
      | inr s ↦ elim (known (is_due h (row ∷ earlier) x)) [
        | inl y ↦ let due = stop_there (h.course.answer (place (row ∷ earlier) x.serial)) y in runs due.0 (stops_now h simple earlier row x all p.0 due.0 due.1)
        | inr y ↦ elim s.1.2 [
          | inl held ↦ true_not_false (sym held ∙ sym (held_last c s.1.0 (inner c s.1.0 s.1.1)) ∙ negated (is_held c) (either (is_due h (row ∷ earlier) x) (not (is_held c)) p.1 y))
          | inr q ↦ last_not_ex q.1.executing
        ]
      ]
    ]) where
      row : Row
      row = full_row a (Some x) c ret wr stop
ex_shows h simple earlier a x None ret wr stop all (Some Behind) e t = absurd (true_not_false (sym (both_true (not (is_due h (row ∷ earlier) x)) false (both_true (ex_free h earlier row x) (not (is_due h (row ∷ earlier) x) && false) t).1).1)) where
  row : Row
  row = full_row a (Some x) None ret wr stop
ex_shows h simple earlier a x (Some d) ret wr stop all (Some Behind) e t =
    let p = both_true (ex_free h earlier row x) (not (is_due h (row ∷ earlier) x) && is_some d.hold) t in
    let q = both_true (not (is_due h (row ∷ earlier) x)) (is_some d.hold) p.1 in
    shows_hold (by_hand h) earlier row 1 x Behind e refl (λ s r. true_not_false (sym (due_now h (row ∷ earlier) x s r.due) ∙ negated (is_due h (row ∷ earlier) x) q.0)) (inr (refl, (d, refl, inl q.1)))
    (λ f w. elim w [
      | inl o ↦ absurd (none_own h simple earlier row 1 x (clear_ex h earlier row x all p.0) f o)
      | inr r ↦ subst (λ g. ComesFirst Behind g) (sym r.0) (inr (refl, inr (refl, omega arith)))
    ]) where
      row : Row
      row = full_row a (Some x) (Some d) ret wr stop
ex_shows h simple earlier a x c ret wr stop all (Some (Board (X r) j)) e t = shows_board h earlier (full_row a (Some x) c ret wr stop) x r j all refl e t
ex_shows h simple earlier a x c ret wr stop all (Some (Board (custom_target r) j)) e t = shows_custom_board h earlier (full_row a (Some x) c ret wr stop) x r j all refl e t
ex_shows h simple earlier a x c ret wr stop all (Some (Drain j)) e t = shows_drain h simple earlier (full_row a (Some x) c ret wr stop) x j all refl e t
ex_shows h simple earlier a x c ret wr stop all (Some (Operand r j)) e t = absurd (true_not_false (sym t))
ex_shows h simple earlier a x c ret wr stop all (Some (Custom r j)) e t = absurd (true_not_false (sym t))
ex_shows h simple earlier a x c ret wr stop all (Some (Late j)) e t = absurd (true_not_false (sym t))
ex_shows h simple earlier a x c ret wr stop all (Some Trap) e t = absurd (true_not_false (sym t))
ex_shows h simple earlier a x c ret wr stop all (Some (Wait n)) e t = absurd (true_not_false (sym t))
ex_shows h simple earlier a x c ret wr stop all (Some (StoreAhead j)) e t = absurd (true_not_false (sym t))
ex_shows h simple earlier a x c ret wr stop all (Some (Tail n)) e t = absurd (true_not_false (sym t))
ex_shows h simple earlier a x c ret wr stop all (Some (UnitFull u)) e t = absurd (true_not_false (sym t))
ex_shows h simple earlier a x c ret wr stop all (Some (Port j)) e t = absurd (true_not_false (sym t))

-- a cell of the last stage

abbrev pub last_hold : Hand → List Row → Row → Cell → Option Hold → Bool
last_hold h earlier row x None = last_free h earlier row x
last_hold h earlier row x (Some (UnitFull u)) = full_shown h earlier x u
last_hold h earlier row x (Some (Port j)) = port_shown h earlier row x j
last_hold h earlier row x (Some g) = false

nothing_behind : (h : Hand) (a b c : Option Cell) (ret : Option (ℕ × Commit)) (wr : Option Written) (stop : Option Stop) (d : Cell) → Stands (by_hand h) (full_row a b c ret wr stop) 3 d → ⊥
nothing_behind h a b c ret wr stop d e = cc

pub last_shows : (h : Hand) → IsSimple h → (earlier : List Row) (a b : Option Cell) (x : Cell) (ret : Option (ℕ × Commit)) (wr : Option Written) (stop : Option Stop) → AllNamed h (full_row a b (Some x) ret wr stop ∷ earlier)
    → (hold : Option Hold) → x.hold ≡ hold → last_hold h earlier (full_row a b (Some x) ret wr stop) x hold ≡ true → ShowsHold (by_hand h) earlier (full_row a b (Some x) ret wr stop) 2 x
last_shows h simple earlier a b x ret wr stop all None e t =
    shows_none (by_hand h) earlier row 2 x e (λ alive runs g w. elim w [
      | inl o ↦ none_own h simple earlier row 2 x (clear_last h earlier row x all t) g o
      | inr s ↦ nothing_behind h a b (Some x) ret wr stop s.1.0 s.1.1
    ]) where
      row : Row
      row = full_row a b (Some x) ret wr stop
last_shows h simple earlier a b x ret wr stop all (Some (UnitFull u)) e t = shows_full h simple earlier (full_row a b (Some x) ret wr stop) x u refl e t
last_shows h simple earlier a b x ret wr stop all (Some (Port j)) e t = shows_port h simple earlier (full_row a b (Some x) ret wr stop) x j all refl e t
last_shows h simple earlier a b x ret wr stop all (Some (Operand r j)) e t = absurd (true_not_false (sym t))
last_shows h simple earlier a b x ret wr stop all (Some (Board u j)) e t = absurd (true_not_false (sym t))
last_shows h simple earlier a b x ret wr stop all (Some (Custom r j)) e t = absurd (true_not_false (sym t))
last_shows h simple earlier a b x ret wr stop all (Some (Late j)) e t = absurd (true_not_false (sym t))
last_shows h simple earlier a b x ret wr stop all (Some Trap) e t = absurd (true_not_false (sym t))
last_shows h simple earlier a b x ret wr stop all (Some (Drain j)) e t = absurd (true_not_false (sym t))
last_shows h simple earlier a b x ret wr stop all (Some (Wait n)) e t = absurd (true_not_false (sym t))
last_shows h simple earlier a b x ret wr stop all (Some (StoreAhead j)) e t = absurd (true_not_false (sym t))
last_shows h simple earlier a b x ret wr stop all (Some (Tail n)) e t = absurd (true_not_false (sym t))
last_shows h simple earlier a b x ret wr stop all (Some Behind) e t = absurd (true_not_false (sym t))
