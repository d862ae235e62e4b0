-- What rows on the core of three stages owe where units write, as tests: rows that pass them are lawful.
use Rattle.std.proofs.Common.{◌≡◌, ℕ, zero, suc, ◌<◌, ◌≤◌, List, [], ◌∷◌, Option, Some, None, Bool, true, false, refl, sym, ap, ◌∙◌, arith, ◌⊎◌, inl, inr}
use Rattle.std.specs.Prelude.{◌&&◌, ◌||◌, not, ◌==◌, nat_lt, is_some, take, slice_get, get_or}
use Rattle.std.proofs.lemmas.Bool.Decides.{nat_tests}
use Rattle.ix_plan.specs.declared.design.Target.{Target}
use Rattle.ix_plan.specs.declared.design.Target.TheVariants.{X, Custom as custom_target}
use Rattle.ix_plan.specs.Units.{Slots, unit_written, frozen_with}
use Rattle.rv_asks.specs.declared.asks.Asks.{Asks}
use Rattle.rv_seq.specs.declared.answer.StepAnswer.{StepAnswer}
use Rattle.rv_seq.specs.declared.answer.StepAnswer.TheVariants.{Done, Stopped}
use Rattle.rv_seq.specs.declared.commit.Stop.{Stop}
use Rattle.rv_trace.specs.declared.row.Cell.{Cell}
use Rattle.rv_trace.specs.declared.row.Hold.{Hold}
use Rattle.rv_trace.specs.declared.row.Hold.TheVariants.{Operand, Board, Custom, Late, Trap, Drain, Wait, StoreAhead, Tail, UnitFull, Port, Behind}
use Rattle.rv_trace.specs.declared.row.Row.{Row}
use Rattle.rv_trace.specs.Trace.{has_cell, is_flushed, is_retired, place}
use Rattle.rv_lawful.specs.Outstanding.{Written, is_register, has_target, touches, serial_written, units_after, is_written}
use Rattle.rv_lawful.specs.LawfulTrace.{IsWordOf, IsDueToStop, reads_of, WaitsForOperand, WaitsForWrite, IsUnwritten, WaitsToDrain, WaitsForUnit, WaitsForPort, OwnHold}
use Rattle.row_laws.specs.Hands.{Hand, by_hand}
use Rattle.row_laws.proofs.Stages.{true_not_false, AllNamed, Named, word_is, no_wait}

-- Tests on numbers

pub both_true : (a b : Bool) → (a && b) ≡ true → (a ≡ true) × (b ≡ true)
both_true true b e = (refl, e)
both_true false b e = absurd (true_not_false (sym e))

pub either : (a b : Bool) → (a || b) ≡ true → a ≡ false → b ≡ true
either true b e f = absurd (true_not_false f)
either false b e f = e

pub either_not : (a b : Bool) → (not a || b) ≡ true → a ≡ true → b ≡ true
either_not true b e f = e
either_not false b e f = absurd (true_not_false (sym f))

pub negated : (a : Bool) → not a ≡ true → a ≡ false
negated true e = absurd (true_not_false (sym e))
negated false e = refl

pub known : (a : Bool) → (a ≡ true) ⊎ (a ≡ false)
known true = inl refl
known false = inr refl

pub or_left : (a b : Bool) → a ≡ true → (a || b) ≡ true
or_left true b e = refl
or_left false b e = absurd (true_not_false (sym e))

pub or_right : (a b : Bool) → b ≡ true → (a || b) ≡ true
or_right true b e = refl
or_right false b e = e

pub and_both : (a b : Bool) → a ≡ true → b ≡ true → (a && b) ≡ true
and_both true b e f = f
and_both false b e f = absurd (true_not_false (sym e))

pub same_number : (n r : ℕ) → (n == r) ≡ true → n ≡ r
same_number n r e = grind (arith, nat_tests)

pub less : (a b : ℕ) → nat_lt a b ≡ true → a < b
less a b e = grind (arith, nat_tests)

pub not_less : (a b : ℕ) → nat_lt a b ≡ false → b ≤ a
not_less a b e = grind (arith, nat_tests)

-- true of each number below this one
abbrev pub all_below : (ℕ → Bool) → ℕ → Bool
all_below f zero = true
all_below f (suc n) = f 0 && all_below (λ i. f (suc i)) n

pub below : (f : ℕ → Bool) (n j : ℕ) → all_below f n ≡ true → j < n → f j ≡ true
below f zero j e lt = absurd (omega (arith, lt))
below f (suc n) zero e lt = (both_true (f 0) (all_below (λ i. f (suc i)) n) e).0
below f (suc n) (suc j) e lt = below (λ i. f (suc i)) n j (both_true (f 0) (all_below (λ i. f (suc i)) n) e).1 (omega (arith, lt))

pub register_there : (o : Option ℕ) (n : ℕ) → is_register o n ≡ true → o ≡ Some n
register_there None n e = absurd (true_not_false (sym e))
register_there (Some m) n e = ap Some (same_number m n e)

-- Hands

-- what is asked of the instruction of a serial, where the run goes straight on
abbrev pub asks_of : Hand → ℕ → Asks
asks_of h j = h.asks (get_or h.image j 0)

-- no instruction loads, goes on in the last stage, or writes the pc or a custom register late
pub record IsSimple (h : Hand) : Type 0 where
  pub late : (word : ℕ) → (h.asks word).late ≡ false
  pub loads : (word : ℕ) → (h.asks word).loads ≡ false
  pub tail : (word : ℕ) → (h.asks word).tail ≡ 0
  pub unlate : (word r : ℕ) → get_or (h.asks word).late_customs r false ≡ false

-- the serial stands in the row, or in one of the rows
abbrev pub in_row : Row → ℕ → Bool
in_row row j = has_cell (slice_get (take 3 row.cells) 0) j || (has_cell (slice_get (take 3 row.cells) 1) j || has_cell (slice_get (take 3 row.cells) 2) j)

abbrev pub in_rows : List Row → ℕ → Bool
in_rows [] j = false
in_rows (row ∷ rows) j = in_row row j || in_rows rows j

cell_there : (o : Option (Option Cell)) (j : ℕ) → has_cell o j ≡ true → (c : Cell) × (o ≡ Some (Some c)) × (c.serial ≡ j)
cell_there None j e = absurd (true_not_false (sym e))
cell_there (Some None) j e = absurd (true_not_false (sym e))
cell_there (Some (Some c)) j e = (c, refl, same_number c.serial j e)

stands_there : (h : Hand) (row : Row) (rows : List Row) (j : ℕ) → Named h row → (n : ℕ) → has_cell (slice_get (take 3 row.cells) n) j ≡ true → IsWordOf (by_hand h) (row ∷ rows) j (get_or h.image j 0)
stands_there h row rows j names n e =
    let x = cell_there (slice_get (take 3 row.cells) n) j e in inl (n, x.0, x.1, x.2, names n x.0 x.1 ∙ ap (λ m. get_or h.image m 0) x.2)

pub has_word : (h : Hand) (rows : List Row) (j : ℕ) → AllNamed h rows → in_rows rows j ≡ true → IsWordOf (by_hand h) rows j (get_or h.image j 0)
has_word h [] j all e = absurd (true_not_false (sym e))
has_word h (row ∷ rows) j all e = elim (known (at 0)) [
  | inl x ↦ stands_there h row rows j all.0 0 x
  | inr x ↦ elim (known (at 1)) [
    | inl y ↦ stands_there h row rows j all.0 1 y
    | inr y ↦ elim (known (at 2)) [
      | inl z ↦ stands_there h row rows j all.0 2 z
      | inr z ↦ inr (has_word h rows j all.1 (later (at 0) (at 1) (at 2) (in_rows rows j) e x y z))
    ]
  ]
] where
  at : ℕ → Bool
  at n = has_cell (slice_get (take 3 row.cells) n) j

  later : (a b c d : Bool) → ((a || (b || c)) || d) ≡ true → a ≡ false → b ≡ false → c ≡ false → d ≡ true
  later false false false d e x y z = e
  later true b c d e x y z = absurd (true_not_false x)
  later false true c d e x y z = absurd (true_not_false y)
  later false false true d e x y z = absurd (true_not_false z)

-- an older cell that is not flushed
abbrev pub is_older : List Row → Cell → ℕ → Bool
is_older rows c j = nat_lt j c.serial && not (is_flushed rows j)

-- Operand

abbrev pub operand_clear : Hand → List Row → Cell → ℕ → Bool
operand_clear h earlier c j = is_retired earlier j || not (reads_of (h.asks c.word) (asks_of h j).destination)

pub no_operand : (h : Hand) (earlier : List Row) (row : Row) (stage : ℕ) (c : Cell) → AllNamed h (row ∷ earlier) → all_below (operand_clear h earlier c) c.serial ≡ true → (r j : ℕ) → WaitsForOperand (by_hand h) earlier row stage c r j → ⊥
no_operand h earlier row stage c all e r j w =
    let word = word_is h (row ∷ earlier) all j w.writes.0 w.writes.1 in
    let goes : r ≡ (asks_of h j).destination = sym w.writes.2 ∙ ap (λ n. (h.asks n).destination) word in
    true_not_false (sym w.reads ∙ ap (λ n. reads_of (h.asks c.word) n) goes
    ∙ negated (reads_of (h.asks c.word) (asks_of h j).destination)
    (either (is_retired earlier j) (not (reads_of (h.asks c.word) (asks_of h j).destination)) (below (operand_clear h earlier c) c.serial j e w.older.lower) w.unretired))

-- Board

-- these have a register in common
abbrev pub both_at : List Bool → List Bool → Bool
both_at [] m = false
both_at (a ∷ l) [] = false
both_at (a ∷ l) (b ∷ m) = (a && b) || both_at l m

both_there : (l m : List Bool) (c : ℕ) → get_or l c false ≡ true → get_or m c false ≡ true → both_at l m ≡ true
both_there [] m c e f = absurd (true_not_false (sym e))
both_there (a ∷ l) [] c e f = absurd (true_not_false (sym f))
both_there (a ∷ l) (b ∷ m) zero e f = or_left (a && b) (both_at l m) (and_both a b e f)
both_there (a ∷ l) (b ∷ m) (suc c) e f = or_right (a && b) (both_at l m) (both_there l m c e f)

abbrev pub x_meets : Asks → Option ℕ → Bool
x_meets a None = false
x_meets a (Some r) = touches a (X r)

pub x_meets_at : (a : Asks) (o : Option ℕ) (r : ℕ) → touches a (X r) ≡ true → is_register o r ≡ true → x_meets a o ≡ true
x_meets_at a None r e f = absurd (true_not_false (sym f))
x_meets_at a (Some n) r e f = ap (λ m. touches a (X m)) (same_number n r f) ∙ e

-- the one reads or writes what the other writes by `spawn`
abbrev pub meets : Asks → Asks → Bool
meets a b = x_meets a b.spawned || both_at a.customs b.spawned_customs

meets_at : (a b : Asks) (t : Target) → touches a t ≡ true → has_target b t ≡ true → meets a b ≡ true
meets_at a b (X r) e f = or_left (x_meets a b.spawned) (both_at a.customs b.spawned_customs) (x_meets_at a b.spawned r e f)
meets_at a b (custom_target c) e f = or_right (x_meets a b.spawned) (both_at a.customs b.spawned_customs) (both_there a.customs b.spawned_customs c e f)

abbrev pub board_clear : Hand → List Row → Cell → ℕ → Bool
board_clear h earlier c j = is_written earlier j || not (meets (h.asks c.word) (asks_of h j))

pub has_its : (h : Hand) (earlier : List Row) (row : Row) (stage : ℕ) (c : Cell) → AllNamed h (row ∷ earlier) → (t : Target) (j : ℕ) → WaitsForWrite (by_hand h) earlier row stage c t j → has_target (asks_of h j) t ≡ true
has_its h earlier row stage c all t j w = sym (ap (λ n. has_target (h.asks n) t) (word_is h (row ∷ earlier) all j w.spawns.0 w.spawns.1)) ∙ w.spawns.2

pub clear_at : (h : Hand) (earlier : List Row) (row : Row) (stage : ℕ) (c : Cell) → AllNamed h (row ∷ earlier) → (t : Target) (j : ℕ) → board_clear h earlier c j ≡ true → WaitsForWrite (by_hand h) earlier row stage c t j → ⊥
clear_at h earlier row stage c all t j e w =
    true_not_false (sym (meets_at (h.asks c.word) (asks_of h j) t w.touches (has_its h earlier row stage c all t j w))
    ∙ negated (meets (h.asks c.word) (asks_of h j)) (either (is_written earlier j) (not (meets (h.asks c.word) (asks_of h j))) e w.unwritten))

pub no_board : (h : Hand) (earlier : List Row) (row : Row) (stage : ℕ) (c : Cell) → AllNamed h (row ∷ earlier) → all_below (board_clear h earlier c) c.serial ≡ true → (t : Target) (j : ℕ) → WaitsForWrite (by_hand h) earlier row stage c t j → ⊥
no_board h earlier row stage c all e t j w = clear_at h earlier row stage c all t j (below (board_clear h earlier c) c.serial j e w.older.lower) w

-- Drain

abbrev pub stop_in : StepAnswer → Option Stop
stop_in (Done c) = None
stop_in (Stopped s) = Some s

abbrev pub stop_at : Hand → List Row → Cell → Option Stop
stop_at h rows c = stop_in (h.course.answer (place rows c.serial))

abbrev pub is_due : Hand → List Row → Cell → Bool
is_due h rows c = is_some (stop_at h rows c)

pub stop_there : (a : StepAnswer) → is_some (stop_in a) ≡ true → (stop : Stop) × (a ≡ Stopped stop)
stop_there (Done c) e = absurd (true_not_false (sym e))
stop_there (Stopped stop) e = (stop, refl)

pub due_now : (h : Hand) (rows : List Row) (c : Cell) (stop : Stop) → IsDueToStop (by_hand h) rows c stop → is_due h rows c ≡ true
due_now h rows c stop e = ap (λ a. is_some (stop_in a)) e

abbrev pub settled : Hand → List Row → ℕ → Bool
settled h rows j = is_retired rows j && (is_written rows j || not (is_some (asks_of h j).unit))

abbrev pub drained : Hand → List Row → Cell → Bool
drained h rows c = all_below (settled h rows) c.serial

pub unsettled : (h : Hand) (rows : List Row) (j : ℕ) → AllNamed h rows → settled h rows j ≡ true → (is_retired rows j ≡ false) ⊎ IsUnwritten (by_hand h) rows j → ⊥
unsettled h rows j all e left =
    let parts = both_true (is_retired rows j) (is_written rows j || not (is_some (asks_of h j).unit)) e in
    elim left [
      | inl x ↦ true_not_false (sym parts.0 ∙ x)
      | inr u ↦ true_not_false (sym u.decoupled.2 ∙ ap (λ n. is_some (h.asks n).unit) (word_is h rows all j u.decoupled.0 u.decoupled.1)
          ∙ negated (is_some (asks_of h j).unit) (either (is_written rows j) (not (is_some (asks_of h j).unit)) parts.1 u.unwritten))
    ]

no_drain : (h : Hand) (earlier : List Row) (row : Row) (stage : ℕ) (c : Cell) → AllNamed h (row ∷ earlier) → (not (is_due h (row ∷ earlier) c) || drained h (row ∷ earlier) c) ≡ true → (j : ℕ) → WaitsToDrain (by_hand h) earlier row stage c j → ⊥
no_drain h earlier row stage c all e j w =
    let due = due_now h (row ∷ earlier) c w.due.0 w.due.1 in
    let done = either_not (is_due h (row ∷ earlier) c) (drained h (row ∷ earlier) c) e due in
    unsettled h (row ∷ earlier) j all (below (settled h (row ∷ earlier)) c.serial j done w.older.lower) w.left

-- UnitFull

abbrev pub full_in : ℕ → Option Slots → Option (ℕ × ℕ) → Bool
full_in u None written = false
full_in u (Some slots) written = frozen_with u slots written

-- the unit is frozen, where there is one
abbrev pub full_of : List Slots → Option ℕ → Bool
full_of units None = false
full_of units (Some u) = full_in u (slice_get units u) (unit_written units)

pub not_full : (units : List Slots) (o : Option ℕ) (u : ℕ) (slots : Slots) → full_of units o ≡ false → o ≡ Some u → slice_get units u ≡ Some slots → frozen_with u slots (unit_written units) ≡ true → ⊥
not_full units o u slots e enters at freezes = true_not_false (sym freezes ∙ sym (ap (λ x. full_in u x (unit_written units)) at) ∙ sym (ap (full_of units) enters) ∙ e)

pub slots_there : (u : ℕ) (o : Option Slots) (written : Option (ℕ × ℕ)) → full_in u o written ≡ true → (slots : Slots) × (o ≡ Some slots) × (frozen_with u slots written ≡ true)
slots_there u None written e = absurd (true_not_false (sym e))
slots_there u (Some slots) written e = (slots, refl, e)

-- Port

-- what is written has an x register as spawn target
abbrev pub takes_port : Hand → Option Written → Bool
takes_port h None = false
takes_port h (Some w) = is_some (asks_of h w.0).spawned

pub some_same : (a b : ℕ) → ◌≡◌ {A = Option ℕ} (Some a) (Some b) → a ≡ b
some_same a b e = cc

takes_at : (h : Hand) (o : Option Written) (j : ℕ) → serial_written o ≡ Some j → takes_port h o ≡ is_some (asks_of h j).spawned
takes_at h None j e = cc
takes_at h (Some w) j e = ap (λ n. is_some (asks_of h n).spawned) (some_same w.0 j e)

no_port : (h : Hand) (earlier : List Row) (row : Row) (stage : ℕ) (c : Cell) → AllNamed h (row ∷ earlier) → (((h.asks c.word).destination == 0) || not (takes_port h row.written)) ≡ true → (j : ℕ) → WaitsForPort (by_hand h) earlier row stage c j → ⊥
no_port h earlier row stage c all e j w =
    true_not_false (sym w.spawns.2 ∙ ap (λ n. is_some (h.asks n).spawned) (word_is h (row ∷ earlier) all j w.spawns.0 w.spawns.1) ∙ sym (takes_at h row.written j w.taken)
    ∙ negated (takes_port h row.written) (either ((h.asks c.word).destination == 0) (not (takes_port h row.written)) e w.writes))

-- Cells without a hold of their own

pub record IsClear (h : Hand) (earlier : List Row) (row : Row) (stage : ℕ) (c : Cell) : Type 0 where
  pub operand : (r j : ℕ) → WaitsForOperand (by_hand h) earlier row stage c r j → ⊥
  pub board : (t : Target) (j : ℕ) → WaitsForWrite (by_hand h) earlier row stage c t j → ⊥
  pub drain : (j : ℕ) → WaitsToDrain (by_hand h) earlier row stage c j → ⊥
  pub full : (u : ℕ) → WaitsForUnit (by_hand h) earlier row stage c u → ⊥
  pub port : (j : ℕ) → WaitsForPort (by_hand h) earlier row stage c j → ⊥

pub no_tail : (h : Hand) → IsSimple h → (earlier : List Row) (row : Row) (stage : ℕ) (c : Cell) (left : ℕ) → OwnHold (by_hand h) earlier row stage c (Tail left) → ⊥
no_tail h simple earlier row stage c left o = let e = o.still in let some = o.some in let none = simple.tail c.word in absurd (omega (arith, e, some, none))

pub none_own : (h : Hand) → IsSimple h → (earlier : List Row) (row : Row) (stage : ℕ) (c : Cell) → IsClear h earlier row stage c → (g : Hold) → OwnHold (by_hand h) earlier row stage c g → ⊥
none_own h simple earlier row stage c clear (Operand r j) o = clear.operand r j o
none_own h simple earlier row stage c clear (Board t j) o = clear.board t j o
none_own h simple earlier row stage c clear (Custom r j) o = true_not_false (sym o.writes.2 ∙ simple.unlate o.writes.0 r)
none_own h simple earlier row stage c clear (Late j) o = true_not_false (sym o.jumps.2 ∙ simple.late o.jumps.0)
none_own h simple earlier row stage c clear Trap o = true_not_false (sym o.interrupted)
none_own h simple earlier row stage c clear (Drain j) o = clear.drain j o
none_own h simple earlier row stage c clear (Wait left) o = no_wait h earlier row stage c left o
none_own h simple earlier row stage c clear (StoreAhead j) o = true_not_false (sym o.loads ∙ simple.loads c.word)
none_own h simple earlier row stage c clear (Tail left) o = no_tail h simple earlier row stage c left o
none_own h simple earlier row stage c clear (UnitFull u) o = clear.full u o
none_own h simple earlier row stage c clear (Port j) o = clear.port j o
none_own h simple earlier row stage c clear Behind o = o

pub front_not_ex : ◌≡◌ {A = ℕ} 0 1 → ⊥
front_not_ex e = absurd (omega (arith, e))

pub last_not_ex : ◌≡◌ {A = ℕ} 2 1 → ⊥
last_not_ex e = absurd (omega (arith, e))

front_not_last : ◌≡◌ {A = ℕ} 1 3 → ⊥
front_not_last e = absurd (omega (arith, e))

ex_not_last : ◌≡◌ {A = ℕ} 2 3 → ⊥
ex_not_last e = absurd (omega (arith, e))

pub clear_front : (h : Hand) (earlier : List Row) (row : Row) (c : Cell) → IsClear h earlier row 0 c
clear_front h earlier row c = record {
  operand = λ r j w. front_not_ex w.reading;
  board = λ t j w. front_not_ex w.reading;
  drain = λ j w. front_not_ex w.executing;
  full = λ u w. front_not_last w.last;
  port = λ j w. front_not_last w.last;
}

-- the tests on a cell of EX
abbrev pub ex_free : Hand → List Row → Row → Cell → Bool
ex_free h earlier row c =
    all_below (operand_clear h earlier c) c.serial && (all_below (board_clear h earlier c) c.serial && (not (is_due h (row ∷ earlier) c) || drained h (row ∷ earlier) c))

pub clear_ex : (h : Hand) (earlier : List Row) (row : Row) (c : Cell) → AllNamed h (row ∷ earlier) → ex_free h earlier row c ≡ true → IsClear h earlier row 1 c
clear_ex h earlier row c all e =
    let a = both_true (all_below (operand_clear h earlier c) c.serial) (all_below (board_clear h earlier c) c.serial && (not (is_due h (row ∷ earlier) c) || drained h (row ∷ earlier) c)) e in
    let b = both_true (all_below (board_clear h earlier c) c.serial) (not (is_due h (row ∷ earlier) c) || drained h (row ∷ earlier) c) a.1 in
    record {
      operand = λ r j w. no_operand h earlier row 1 c all a.0 r j w;
      board = λ t j w. no_board h earlier row 1 c all b.0 t j w;
      drain = λ j w. no_drain h earlier row 1 c all b.1 j w;
      full = λ u w. ex_not_last w.last;
      port = λ j w. ex_not_last w.last;
    }

-- the tests on a cell of the last stage
abbrev pub last_free : Hand → List Row → Row → Cell → Bool
last_free h earlier row c = not (full_of (units_after (by_hand h) earlier) (h.asks c.word).unit) && (((h.asks c.word).destination == 0) || not (takes_port h row.written))

pub clear_last : (h : Hand) (earlier : List Row) (row : Row) (c : Cell) → AllNamed h (row ∷ earlier) → last_free h earlier row c ≡ true → IsClear h earlier row 2 c
clear_last h earlier row c all e =
    let a = both_true (not (full_of (units_after (by_hand h) earlier) (h.asks c.word).unit)) (((h.asks c.word).destination == 0) || not (takes_port h row.written)) e in
    record {
      operand = λ r j w. last_not_ex w.reading;
      board = λ t j w. last_not_ex w.reading;
      drain = λ j w. last_not_ex w.executing;
      full = λ u w. not_full (units_after (by_hand h) earlier) (h.asks c.word).unit u w.frozen.0 (negated (full_of (units_after (by_hand h) earlier) (h.asks c.word).unit) a.0) w.enters w.frozen.1 w.frozen.2;
      port = λ j w. no_port h earlier row 2 c all a.1 j w;
    }
