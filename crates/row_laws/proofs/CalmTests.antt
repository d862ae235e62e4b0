-- What cells owe on a core with any numbers, as tests, where no instruction spawns, writes a custom register late or goes on in the last stage: cells that pass them show the right
-- hold.
use Rattle.std.proofs.Common.{◌≡◌, ℕ, zero, suc, ◌+◌, ◌<◌, ◌≤◌, List, [], ◌∷◌, Option, Some, None, Bool, true, false, refl, sym, ap, ◌∙◌, subst, arith, ◌⊎◌, inl, inr}
use Rattle.std.specs.Prelude.{◌&&◌, ◌||◌, not, ◌==◌, nat_lt, is_some, slice_get, get_or}
use Rattle.std.proofs.lemmas.Bool.Decides.{nat_tests}
use Rattle.rv_asks.specs.declared.asks.Asks.{Asks}
use Rattle.rv_seq.specs.declared.commit.Stop.{Stop}
use Rattle.rv_trace.specs.declared.row.Cell.{Cell}
use Rattle.rv_trace.specs.declared.row.Hold.{Hold}
use Rattle.rv_trace.specs.declared.row.Hold.TheVariants.{Operand, Board, Custom, Late, Trap, Drain, Wait, StoreAhead, Tail, UnitFull, Port, Behind}
use Rattle.rv_trace.specs.declared.row.Row.{Row}
use Rattle.rv_trace.specs.Trace.{has_serial, is_flushed, is_retired, place}
use Rattle.rv_trace.specs.RowParts.{ComesFirst}
use Rattle.rv_waits.specs.Waits.{wait_at}
use Rattle.rv_lawful.specs.Settings.{Setting, stages_of, Stands, stood, tailed, accesses_before}
use Rattle.rv_lawful.specs.Entering.{is_interrupted}
use Rattle.rv_lawful.specs.LawfulTrace.{IsDueToStop, reads_of, WaitsForOperand, WaitsForJump, WaitsForEntry, WaitsToDrain, WaitsForMemory, WaitsForStore, WaitsForModule, OwnHold, StopsRun, WaitsBehind, ShowsHold}
use Rattle.row_laws.proofs.Stages.{true_not_false, inside, same_cell, AllNamedBy, word_by, SpawnsNothingAt, never_boards, never_full, never_taken, left_unretired, never_waits, shows_none, shows_hold, shows_own}
use Rattle.row_laws.proofs.Tests.{both_true, either, either_not, negated, known, or_left, or_right, and_both, same_number, less, not_less, all_below, below, stop_in, stop_there}

-- Tests on numbers

pub equal : (a b : ℕ) → a ≡ b → (a == b) ≡ true
equal a b e = grind (arith, nat_tests, e)

at_most : (a b : ℕ) → a ≤ b → not (nat_lt b a) ≡ true
at_most a b e = ap not (the (nat_lt b a) refl) where
  the : (t : Bool) → nat_lt b a ≡ t → nat_lt b a ≡ false
  the true q = let lt = less b a q in absurd (omega (arith, e, lt))
  the false q = q

-- both are false where one or the other is not true
neither : (a b : Bool) → (a || b) ≡ false → (a ≡ false) × (b ≡ false)
neither true b e = absurd (true_not_false e)
neither false b e = (refl, e)

-- Tests on the cells of a row

-- true of each cell, by its stage
abbrev pub all_cells : (ℕ → Cell → Bool) → List (Option Cell) → Bool
all_cells f [] = true
all_cells f (None ∷ rest) = all_cells (λ n. f (suc n)) rest
all_cells f (Some c ∷ rest) = f 0 c && all_cells (λ n. f (suc n)) rest

-- true of some cell
abbrev pub any_cell : (ℕ → Cell → Bool) → List (Option Cell) → Bool
any_cell f [] = false
any_cell f (None ∷ rest) = any_cell (λ n. f (suc n)) rest
any_cell f (Some c ∷ rest) = f 0 c || any_cell (λ n. f (suc n)) rest

pub no_stage : (c : Cell) → ◌≡◌ {A = Option (Option Cell)} None (Some (Some c)) → ⊥
no_stage c e = cc

pub no_cell : (c : Cell) → ◌≡◌ {A = Option (Option Cell)} (Some None) (Some (Some c)) → ⊥
no_cell c e = cc

past_end : (n : ℕ) (c : Cell) → slice_get [] n ≡ Some (Some c) → ⊥
past_end n c e = cc

pub each_cell : (f : ℕ → Cell → Bool) (l : List (Option Cell)) (n : ℕ) (c : Cell) → all_cells f l ≡ true → slice_get l n ≡ Some (Some c) → f n c ≡ true
each_cell f [] n c e s = absurd (past_end n c s)
each_cell f (None ∷ rest) zero c e s = absurd (no_cell c s)
each_cell f (None ∷ rest) (suc n) c e s = each_cell (λ m. f (suc m)) rest n c e s
each_cell f (Some d ∷ rest) zero c e s = same_cell (λ x. f 0 x ≡ true) d c s (both_true (f 0 d) (all_cells (λ m. f (suc m)) rest) e).0
each_cell f (Some d ∷ rest) (suc n) c e s = each_cell (λ m. f (suc m)) rest n c (both_true (f 0 d) (all_cells (λ m. f (suc m)) rest) e).1 s

pub some_cell : (f : ℕ → Cell → Bool) (l : List (Option Cell)) → any_cell f l ≡ true → (n : ℕ) × (c : Cell) × (slice_get l n ≡ Some (Some c)) × (f n c ≡ true)
some_cell f [] e = absurd (true_not_false (sym e))
some_cell f (None ∷ rest) e = let x = some_cell (λ m. f (suc m)) rest e in (suc x.0, x.1, x.2, x.3)
some_cell f (Some d ∷ rest) e = elim (known (f 0 d)) [
  | inl x ↦ (0, d, refl, x)
  | inr x ↦ let y = some_cell (λ m. f (suc m)) rest (either (f 0 d) (any_cell (λ m. f (suc m)) rest) e x) in (suc y.0, y.1, y.2, y.3)
]

pub any_there : (f : ℕ → Cell → Bool) (l : List (Option Cell)) (n : ℕ) (c : Cell) → slice_get l n ≡ Some (Some c) → f n c ≡ true → any_cell f l ≡ true
any_there f [] n c s e = absurd (past_end n c s)
any_there f (None ∷ rest) zero c s e = absurd (no_cell c s)
any_there f (None ∷ rest) (suc n) c s e = any_there (λ m. f (suc m)) rest n c s e
any_there f (Some d ∷ rest) zero c s e = or_left (f 0 d) (any_cell (λ m. f (suc m)) rest) (ap (f 0) (inside d c s) ∙ e)
any_there f (Some d ∷ rest) (suc n) c s e = or_right (f 0 d) (any_cell (λ m. f (suc m)) rest) (any_there (λ m. f (suc m)) rest n c s e)

-- Settings

-- no instruction spawns, writes a custom register late or goes on in the last stage
pub record IsCalm (k : Setting) : Type 0 where
  pub spawns : SpawnsNothingAt k
  pub tail : (word : ℕ) → (k.asks word).tail ≡ 0
  pub unlate : (word r : ℕ) → get_or (k.asks word).late_customs r false ≡ false

-- what is asked of the instruction of a serial, which has its word in this list
abbrev pub asks_by : Setting → List ℕ → ℕ → Asks
asks_by k words j = k.asks (get_or words j 0)

-- the stop to which the cell is due, if it is
abbrev pub due_stop : Setting → List Row → Cell → Option Stop
due_stop k rows c = stop_in (k.course.answer (place rows c.serial))

pub due_then : (k : Setting) (rows : List Row) (c : Cell) (stop : Stop) → IsDueToStop k rows c stop → due_stop k rows c ≡ Some stop
due_then k rows c stop e = ap stop_in e

is_due_then : (k : Setting) (rows : List Row) (c : Cell) (stop : Stop) → IsDueToStop k rows c stop → is_some (due_stop k rows c) ≡ true
is_due_then k rows c stop e = ap (λ o. is_some o) (due_then k rows c stop e)

-- Operand

-- the cell of this stage has the serial, and the time of its write is not below the stage
abbrev pub withholds : Setting → ℕ → ℕ → Cell → Bool
withholds k j at d = (d.serial == j) && not (nat_lt (k.asks d.word).x_time at)

-- what the instruction of this serial writes is not passed on in the row; on a core that does not forward nothing is
abbrev pub is_withheld : Bool → Setting → Row → ℕ → Bool
is_withheld false k row j = true
is_withheld true k row j = any_cell (withholds k j) (stages_of k row)

abbrev pub operand_clear : Setting → List ℕ → List Row → Row → Cell → ℕ → Bool
operand_clear k words earlier row c j = is_retired earlier j || (not (reads_of (k.asks c.word) (asks_by k words j).destination) || not (is_withheld k.shape.forward k row j))

pub withheld_then : (forward : Bool) (k : Setting) (row : Row) (j : ℕ) → (forward ≡ true → (at : ℕ) × (d : Cell) × Stands k row at d × (d.serial ≡ j) × (at ≤ (k.asks d.word).x_time)) → is_withheld forward k row j ≡ true
withheld_then false k row j f = refl
withheld_then true k row j f =
    let x = f refl in
    any_there (withholds k j) (stages_of k row) x.0 x.1 x.2 (and_both (x.1.serial == j) (not (nat_lt (k.asks x.1.word).x_time x.0)) (equal x.1.serial j x.3) (at_most x.0 (k.asks x.1.word).x_time x.4))

target_is : (k : Setting) (words : List ℕ) (earlier : List Row) (row : Row) (stage : ℕ) (c : Cell) → AllNamedBy k words (row ∷ earlier) → (r j : ℕ) → WaitsForOperand k earlier row stage c r j → r ≡ (asks_by k words j).destination
target_is k words earlier row stage c all r j w = sym w.writes.2 ∙ ap (λ n. (k.asks n).destination) (word_by k words (row ∷ earlier) all j w.writes.0 w.writes.1)

operand_not : (k : Setting) (words : List ℕ) (earlier : List Row) (row : Row) (stage : ℕ) (c : Cell) → AllNamedBy k words (row ∷ earlier) → (r j : ℕ) → operand_clear k words earlier row c j ≡ true → WaitsForOperand k earlier row stage c r j → ⊥
operand_not k words earlier row stage c all r j e w =
    let target = target_is k words earlier row stage c all r j w in
    let reads : reads_of (k.asks c.word) (asks_by k words j).destination ≡ true = ap (λ n. reads_of (k.asks c.word) n) (sym target) ∙ w.reads in
    let others = either (is_retired earlier j) (not (reads_of (k.asks c.word) (asks_by k words j).destination) || not (is_withheld k.shape.forward k row j)) e w.unretired in
    let kept = negated (is_withheld k.shape.forward k row j) (either_not (reads_of (k.asks c.word) (asks_by k words j).destination) (not (is_withheld k.shape.forward k row j)) others reads) in
    true_not_false (sym (withheld_then k.shape.forward k row j w.withheld) ∙ kept)

-- no operand is missing, where this is RD
abbrev pub operands_clear : Bool → Setting → List ℕ → List Row → Row → Cell → Bool
operands_clear false k words earlier row c = true
operands_clear true k words earlier row c = all_below (operand_clear k words earlier row c) c.serial

operands_not : (k : Setting) (words : List ℕ) (earlier : List Row) (row : Row) (stage : ℕ) (c : Cell) → AllNamedBy k words (row ∷ earlier) → operands_clear (stage == k.shape.rd) k words earlier row c ≡ true
    → (r j : ℕ) → WaitsForOperand k earlier row stage c r j → ⊥
operands_not k words earlier row stage c all e r j w =
    let here : all_below (operand_clear k words earlier row c) c.serial ≡ true = subst (λ b. operands_clear b k words earlier row c ≡ true) (equal stage k.shape.rd w.reading) e in
    operand_not k words earlier row stage c all r j (below (operand_clear k words earlier row c) c.serial j here w.older.lower) w

-- Late

-- the instruction of this serial is retired, or does not write the pc late
abbrev pub jump_clear : Setting → List ℕ → List Row → ℕ → Bool
jump_clear k words earlier j = is_retired earlier j || not (asks_by k words j).late

-- none writes the pc late, where this is EX
abbrev pub jumps_clear : Bool → Setting → List ℕ → List Row → Cell → Bool
jumps_clear false k words earlier c = true
jumps_clear true k words earlier c = all_below (jump_clear k words earlier) c.serial

jumps_not : (k : Setting) (words : List ℕ) (earlier : List Row) (row : Row) (stage : ℕ) (c : Cell) → AllNamedBy k words (row ∷ earlier) → jumps_clear (stage == k.shape.ex) k words earlier c ≡ true → (j : ℕ) → WaitsForJump k earlier row stage c j → ⊥
jumps_not k words earlier row stage c all e j w =
    let here : all_below (jump_clear k words earlier) c.serial ≡ true = subst (λ b. jumps_clear b k words earlier c ≡ true) (equal stage k.shape.ex w.executing) e in
    let late : (asks_by k words j).late ≡ true = sym (ap (λ n. (k.asks n).late) (word_by k words (row ∷ earlier) all j w.jumps.0 w.jumps.1)) ∙ w.jumps.2 in
    let done = either (is_retired earlier j) (not (asks_by k words j).late) (below (jump_clear k words earlier) c.serial j here w.older.lower) w.unretired in
    true_not_false (sym late ∙ negated (asks_by k words j).late done)

-- the cell waits for no operand and for no jump
abbrev pub early_clear : Setting → List ℕ → List Row → Row → ℕ → Cell → Bool
early_clear k words earlier row stage c = operands_clear (stage == k.shape.rd) k words earlier row c && jumps_clear (stage == k.shape.ex) k words earlier c

early_operand : (k : Setting) (words : List ℕ) (earlier : List Row) (row : Row) (stage : ℕ) (c : Cell) → AllNamedBy k words (row ∷ earlier) → early_clear k words earlier row stage c ≡ true → (r j : ℕ) → WaitsForOperand k earlier row stage c r j → ⊥
early_operand k words earlier row stage c all e r j w = operands_not k words earlier row stage c all (both_true (operands_clear (stage == k.shape.rd) k words earlier row c) (jumps_clear (stage == k.shape.ex) k words earlier c) e).0 r j w

early_jump : (k : Setting) (words : List ℕ) (earlier : List Row) (row : Row) (stage : ℕ) (c : Cell) → AllNamedBy k words (row ∷ earlier) → early_clear k words earlier row stage c ≡ true → (j : ℕ) → WaitsForJump k earlier row stage c j → ⊥
early_jump k words earlier row stage c all e j w = jumps_not k words earlier row stage c all (both_true (operands_clear (stage == k.shape.rd) k words earlier row c) (jumps_clear (stage == k.shape.ex) k words earlier c) e).1 j w

-- Drain

abbrev pub is_gone : List Row → ℕ → Bool
is_gone rows j = is_flushed rows j || is_retired rows j

-- nothing is to drain, where this is EX
abbrev pub drain_clear : Bool → Setting → List Row → Row → Cell → Bool
drain_clear false k earlier row c = true
drain_clear true k earlier row c = not (is_some (due_stop k (row ∷ earlier) c)) || all_below (is_gone (row ∷ earlier)) c.serial

not_gone : (k : Setting) → IsCalm k → (earlier : List Row) (row : Row) (stage : ℕ) (c : Cell) (j : ℕ) → is_gone (row ∷ earlier) j ≡ true → WaitsToDrain k earlier row stage c j → ⊥
not_gone k calm earlier row stage c j e w =
    true_not_false (sym (either (is_flushed (row ∷ earlier) j) (is_retired (row ∷ earlier) j) e w.older.unflushed) ∙ left_unretired k calm.spawns (row ∷ earlier) j w.left)

pub drain_not : (k : Setting) → IsCalm k → (earlier : List Row) (row : Row) (stage : ℕ) (c : Cell) → drain_clear (stage == k.shape.ex) k earlier row c ≡ true → (j : ℕ) → WaitsToDrain k earlier row stage c j → ⊥
drain_not k calm earlier row stage c e j w =
    let here : (not (is_some (due_stop k (row ∷ earlier) c)) || all_below (is_gone (row ∷ earlier)) c.serial) ≡ true = subst (λ b. drain_clear b k earlier row c ≡ true) (equal stage k.shape.ex w.executing) e in
    let gone = either_not (is_some (due_stop k (row ∷ earlier) c)) (all_below (is_gone (row ∷ earlier)) c.serial) here (is_due_then k (row ∷ earlier) c w.due.0 w.due.1) in
    not_gone k calm earlier row stage c j (below (is_gone (row ∷ earlier)) c.serial j gone w.older.lower) w

-- Trap

-- no interrupt is to be taken, where this is EX
abbrev pub trap_clear : Bool → Setting → List Row → Bool
trap_clear false k earlier = true
trap_clear true k earlier = not (is_interrupted k earlier)

trap_not : (k : Setting) (earlier : List Row) (stage : ℕ) → trap_clear (stage == k.shape.ex) k earlier ≡ true → WaitsForEntry k earlier stage → ⊥
trap_not k earlier stage e w =
    let here : not (is_interrupted k earlier) ≡ true = subst (λ b. trap_clear b k earlier ≡ true) (equal stage k.shape.ex w.executing) e in
    true_not_false (sym w.interrupted ∙ negated (is_interrupted k earlier) here)

-- Wait

-- for how many rows the access of the cell waits
abbrev pub wait_of : Setting → List Row → Cell → ℕ
wait_of k rows c = wait_at k.waits (accesses_before k.course (place rows c.serial))

-- the cell does not access the memory, or has waited, where this is MEM and the memory has these waits
abbrev pub wait_clear : Bool → List ℕ → Setting → List Row → Row → Cell → Bool
wait_clear false waits k earlier row c = true
wait_clear true [] k earlier row c = true
wait_clear true (w ∷ ws) k earlier row c = not (k.course.accesses (place (row ∷ earlier) c.serial)) || not (nat_lt (stood k earlier c.serial) (wait_of k (row ∷ earlier) c))

wait_not : (k : Setting) (earlier : List Row) (row : Row) (stage : ℕ) (c : Cell) (waits : List ℕ) → k.waits ≡ waits → wait_clear (stage == k.shape.mem) waits k earlier row c ≡ true → (left : ℕ) → WaitsForMemory k earlier row stage c left → ⊥
wait_not k earlier row stage c [] none e left w = no_rows left (stood k earlier c.serial) (w.still ∙ ap (λ l. wait_at l (accesses_before k.course (place (row ∷ earlier) c.serial))) none ∙ never_waits (accesses_before k.course (place (row ∷ earlier) c.serial))) w.some where
  no_rows : (a b : ℕ) → a + b ≡ 0 → 0 < a → ⊥
  no_rows a b e lt = omega (arith, e, lt)
wait_not k earlier row stage c (w ∷ ws) some e left waits = no_rows left (stood k earlier c.serial) (wait_of k (row ∷ earlier) c) waits.still waits.some (not_less (stood k earlier c.serial) (wait_of k (row ∷ earlier) c) done) where
  no_rows : (a b n : ℕ) → a + b ≡ n → 0 < a → n ≤ b → ⊥
  no_rows a b n e lt le = omega (arith, e, lt, le)

  here : wait_clear true (w ∷ ws) k earlier row c ≡ true
  here = subst (λ b. wait_clear b (w ∷ ws) k earlier row c ≡ true) (equal stage k.shape.mem waits.waiting) e

  done : nat_lt (stood k earlier c.serial) (wait_of k (row ∷ earlier) c) ≡ false
  done =
      negated (nat_lt (stood k earlier c.serial) (wait_of k (row ∷ earlier) c))
      (either_not (k.course.accesses (place (row ∷ earlier) c.serial)) (not (nat_lt (stood k earlier c.serial) (wait_of k (row ∷ earlier) c))) here waits.accesses)

-- The other holds

is_above : (m n : ℕ) → m < n → nat_lt m n ≡ true
is_above m n lt = grind (arith, nat_tests)

-- the cell does not load, or no store stands in a later stage, where this is MEM
abbrev pub store_clear : Bool → Setting → Row → ℕ → Cell → Bool
store_clear false k row stage c = true
store_clear true k row stage c = not (k.asks c.word).loads || not (any_cell (λ n d. nat_lt stage n && (k.asks d.word).stores) (stages_of k row))

pub store_not : (k : Setting) (earlier : List Row) (row : Row) (stage : ℕ) (c : Cell) → store_clear (stage == k.shape.mem) k row stage c ≡ true → (j : ℕ) → WaitsForStore k earlier row stage c j → ⊥
store_not k earlier row stage c e j w =
    let here : store_clear true k row stage c ≡ true = subst (λ b. store_clear b k row stage c ≡ true) (equal stage k.shape.mem w.loading) e in
    let none = negated (any_cell (λ n d. nat_lt stage n && (k.asks d.word).stores) (stages_of k row)) (either_not (k.asks c.word).loads (not (any_cell (λ n d. nat_lt stage n && (k.asks d.word).stores) (stages_of k row))) here w.loads) in
    let at = w.stands in
    true_not_false (sym (any_there (λ n d. nat_lt stage n && (k.asks d.word).stores) (stages_of k row) at.0 at.1 at.3 (and_both (nat_lt stage at.0) (k.asks at.1.word).stores (is_above stage at.0 at.2) at.5)) ∙ none)

tail_not : (k : Setting) → IsCalm k → (earlier : List Row) (row : Row) (stage : ℕ) (c : Cell) (left : ℕ) → WaitsForModule k earlier row stage c left → ⊥
tail_not k calm earlier row stage c left w = no_rows left (tailed k earlier c.serial) (w.still ∙ calm.tail c.word) w.some where
  no_rows : (a b : ℕ) → a + b ≡ 0 → 0 < a → ⊥
  no_rows a b e lt = omega (arith, e, lt)

-- the cell has no hold of its own
abbrev pub own_clear : Setting → List ℕ → List Row → Row → ℕ → Cell → Bool
own_clear k words earlier row stage c =
    early_clear k words earlier row stage c
    && (trap_clear (stage == k.shape.ex) k earlier && (drain_clear (stage == k.shape.ex) k earlier row c && (wait_clear (stage == k.shape.mem) k.waits k earlier row c && store_clear (stage == k.shape.mem) k row stage c)))

-- the parts of that test
record OwnParts (k : Setting) (words : List ℕ) (earlier : List Row) (row : Row) (stage : ℕ) (c : Cell) : Type 0 where
  early : early_clear k words earlier row stage c ≡ true
  trap : trap_clear (stage == k.shape.ex) k earlier ≡ true
  drain : drain_clear (stage == k.shape.ex) k earlier row c ≡ true
  wait : wait_clear (stage == k.shape.mem) k.waits k earlier row c ≡ true
  store : store_clear (stage == k.shape.mem) k row stage c ≡ true

own_parts : (k : Setting) (words : List ℕ) (earlier : List Row) (row : Row) (stage : ℕ) (c : Cell) → own_clear k words earlier row stage c ≡ true → OwnParts k words earlier row stage c
own_parts k words earlier row stage c e = parts (early_clear k words earlier row stage c) (trap_clear (stage == k.shape.ex) k earlier) (drain_clear (stage == k.shape.ex) k earlier row c) (wait_clear (stage == k.shape.mem) k.waits k earlier row c) refl refl refl refl e where
  parts : (a b d f : Bool) → early_clear k words earlier row stage c ≡ a → trap_clear (stage == k.shape.ex) k earlier ≡ b → drain_clear (stage == k.shape.ex) k earlier row c ≡ d → wait_clear (stage == k.shape.mem) k.waits k earlier row c ≡ f
      → (a && (b && (d && (f && store_clear (stage == k.shape.mem) k row stage c)))) ≡ true → OwnParts k words earlier row stage c
  parts a b d f p q r s g =
      let x = both_true a (b && (d && (f && store_clear (stage == k.shape.mem) k row stage c))) g in
      let y = both_true b (d && (f && store_clear (stage == k.shape.mem) k row stage c)) x.1 in
      let z = both_true d (f && store_clear (stage == k.shape.mem) k row stage c) y.1 in
      let w = both_true f (store_clear (stage == k.shape.mem) k row stage c) z.1 in
      record { early = p ∙ x.0; trap = q ∙ y.0; drain = r ∙ z.0; wait = s ∙ w.0; store = w.1 }

pub own_not : (k : Setting) (words : List ℕ) → IsCalm k → (earlier : List Row) (row : Row) (stage : ℕ) (c : Cell) → AllNamedBy k words (row ∷ earlier) → own_clear k words earlier row stage c ≡ true → (g : Hold) → OwnHold k earlier row stage c g → ⊥
own_not k words calm earlier row stage c all e = none (own_parts k words earlier row stage c e) where
  none : OwnParts k words earlier row stage c → (g : Hold) → OwnHold k earlier row stage c g → ⊥
  none p (Operand r j) o = early_operand k words earlier row stage c all p.early r j o
  none p (Board t j) o = never_boards k calm.spawns earlier row stage c t j o
  none p (Custom r j) o = true_not_false (sym o.writes.2 ∙ calm.unlate o.writes.0 r)
  none p (Late j) o = early_jump k words earlier row stage c all p.early j o
  none p Trap o = trap_not k earlier stage p.trap o
  none p (Drain j) o = drain_not k calm earlier row stage c p.drain j o
  none p (Wait left) o = wait_not k earlier row stage c k.waits refl p.wait left o
  none p (StoreAhead j) o = store_not k earlier row stage c p.store j o
  none p (Tail left) o = tail_not k calm earlier row stage c left o
  none p (UnitFull u) o = never_full k calm.spawns earlier row stage c u o
  none p (Port j) o = never_taken k calm.spawns earlier row stage c j o
  none p Behind o = o

-- Stops

-- the cell is not due to stop, where this is EX
abbrev pub not_due : Bool → Setting → List Row → Cell → Bool
not_due false k rows c = true
not_due true k rows c = not (is_some (due_stop k rows c))

-- it stops the run, where this is EX
abbrev pub stops_run : Bool → Setting → List ℕ → List Row → Row → ℕ → Cell → Bool
stops_run false k words earlier row stage c = false
stops_run true k words earlier row stage c = is_some (due_stop k (row ∷ earlier) c) && own_clear k words earlier row stage c

pub runs_on : (k : Setting) (earlier : List Row) (row : Row) (stage : ℕ) (c : Cell) → not_due (stage == k.shape.ex) k (row ∷ earlier) c ≡ true → (stop : Stop) → StopsRun k earlier row stage c stop → ⊥
runs_on k earlier row stage c e stop s =
    let here : not (is_some (due_stop k (row ∷ earlier) c)) ≡ true = subst (λ b. not_due b k (row ∷ earlier) c ≡ true) (equal stage k.shape.ex s.executing) e in
    true_not_false (sym (is_due_then k (row ∷ earlier) c stop s.due) ∙ negated (is_some (due_stop k (row ∷ earlier) c)) here)

pub stops_then : (k : Setting) (words : List ℕ) → IsCalm k → (earlier : List Row) (row : Row) (stage : ℕ) (c : Cell) → AllNamedBy k words (row ∷ earlier) → (at_ex : Bool) → (stage == k.shape.ex) ≡ at_ex → stops_run at_ex k words earlier row stage c ≡ true
    → (stop : Stop) × (due_stop k (row ∷ earlier) c ≡ Some stop) × StopsRun k earlier row stage c stop
stops_then k words calm earlier row stage c all false b e = absurd (true_not_false (sym e))
stops_then k words calm earlier row stage c all true b e =
    let p = both_true (is_some (due_stop k (row ∷ earlier) c)) (own_clear k words earlier row stage c) e in
    let due = stop_there (k.course.answer (place (row ∷ earlier) c.serial)) p.0 in
    (due.0, ap stop_in due.1, record { executing = same_number stage k.shape.ex b; due = due.1; free = own_not k words calm earlier row stage c all p.1 })

-- Behind

-- the next stage has a cell that is held, or that stops the run
abbrev pub blocks : Setting → List ℕ → List Row → Row → ℕ → Option (Option Cell) → Bool
blocks k words earlier row stage None = false
blocks k words earlier row stage (Some None) = false
blocks k words earlier row stage (Some (Some d)) = is_some d.hold || stops_run (suc stage == k.shape.ex) k words earlier row (suc stage) d

-- it has one that is not held and is not due to stop, or none
abbrev pub goes : Setting → List Row → Row → ℕ → Option (Option Cell) → Bool
goes k earlier row stage None = true
goes k earlier row stage (Some None) = true
goes k earlier row stage (Some (Some d)) = not (is_some d.hold) && not_due (suc stage == k.shape.ex) k (row ∷ earlier) d

behind_then : (k : Setting) (words : List ℕ) → IsCalm k → (earlier : List Row) (row : Row) (stage : ℕ) → AllNamedBy k words (row ∷ earlier) → (o : Option (Option Cell)) → slice_get (stages_of k row) (suc stage) ≡ o → blocks k words earlier row stage o ≡ true
    → WaitsBehind k earlier row stage
behind_then k words calm earlier row stage all None at e = absurd (true_not_false (sym e))
behind_then k words calm earlier row stage all (Some None) at e = absurd (true_not_false (sym e))
behind_then k words calm earlier row stage all (Some (Some d)) at e = (
  d,
  at,
  elim (known (is_some d.hold)) [
    | inl held ↦ inl held
    | inr free ↦
        let s = stops_then k words calm earlier row (suc stage) d all (suc stage == k.shape.ex) refl (either (is_some d.hold) (stops_run (suc stage == k.shape.ex) k words earlier row (suc stage) d) e free) in
        inr (s.0, s.2)
  ],
)

behind_not : (k : Setting) (earlier : List Row) (row : Row) (stage : ℕ) (o : Option (Option Cell)) → slice_get (stages_of k row) (suc stage) ≡ o → goes k earlier row stage o ≡ true → WaitsBehind k earlier row stage → ⊥
behind_not k earlier row stage None at e w = no_stage w.0 (sym at ∙ w.1)
behind_not k earlier row stage (Some None) at e w = no_cell w.0 (sym at ∙ w.1)
behind_not k earlier row stage (Some (Some d)) at e w = by_cell w.0 (inside d w.0 (sym at ∙ w.1)) w.2 where
  parts : (not (is_some d.hold) ≡ true) × (not_due (suc stage == k.shape.ex) k (row ∷ earlier) d ≡ true)
  parts = both_true (not (is_some d.hold)) (not_due (suc stage == k.shape.ex) k (row ∷ earlier) d) e

  by_cell : (x : Cell) → d ≡ x → (is_some x.hold ≡ true) ⊎ ((stop : Stop) × StopsRun k earlier row (suc stage) x stop) → ⊥
  by_cell x q o = elim o [
    | inl held ↦ true_not_false (sym held ∙ ap (λ (y : Cell). is_some y.hold) (sym q) ∙ negated (is_some d.hold) parts.0)
    | inr s ↦ runs_on k earlier row (suc stage) d parts.1 s.0 (subst (λ y. StopsRun k earlier row (suc stage) y s.0) (sym q) s.1)
  ]

-- A cell that shows Operand

-- the cell of this stage has the serial, writes the register, and on a core that forwards the time of that write is not below the stage
abbrev pub is_source : Setting → ℕ → ℕ → ℕ → Cell → Bool
is_source k r j at d = (d.serial == j) && (((k.asks d.word).destination == r) && (not k.shape.forward || not (nat_lt (k.asks d.word).x_time at)))

-- the operands that the cell waits for come behind this one
abbrev pub operand_others : Setting → List ℕ → List Row → Row → Cell → ℕ → ℕ → ℕ → Bool
operand_others k words earlier row c r j i =
    operand_clear k words earlier row c i || (nat_lt r (asks_by k words i).destination || ((r == (asks_by k words i).destination) && not (nat_lt i j)))

-- the cell reads the register, and an older one, which stands in the row, is its source
abbrev pub operand_true : Setting → List Row → Row → ℕ → Cell → ℕ → ℕ → Bool
operand_true k earlier row stage c r j =
    (stage == k.shape.rd) && (reads_of (k.asks c.word) r && (nat_lt j c.serial && (not (is_flushed (row ∷ earlier) j) && (not (is_retired earlier j) && any_cell (is_source k r j) (stages_of k row)))))

pub waits_then : (k : Setting) (earlier : List Row) (row : Row) (stage : ℕ) (c : Cell) (r j : ℕ) → operand_true k earlier row stage c r j ≡ true → WaitsForOperand k earlier row stage c r j
waits_then k earlier row stage c r j e =
    let a = both_true (stage == k.shape.rd) (reads_of (k.asks c.word) r && (nat_lt j c.serial && (not (is_flushed (row ∷ earlier) j) && (not (is_retired earlier j) && any_cell (is_source k r j) (stages_of k row))))) e in
    let b = both_true (reads_of (k.asks c.word) r) (nat_lt j c.serial && (not (is_flushed (row ∷ earlier) j) && (not (is_retired earlier j) && any_cell (is_source k r j) (stages_of k row)))) a.1 in
    let d = both_true (nat_lt j c.serial) (not (is_flushed (row ∷ earlier) j) && (not (is_retired earlier j) && any_cell (is_source k r j) (stages_of k row))) b.1 in
    let f = both_true (not (is_flushed (row ∷ earlier) j)) (not (is_retired earlier j) && any_cell (is_source k r j) (stages_of k row)) d.1 in
    let g = both_true (not (is_retired earlier j)) (any_cell (is_source k r j) (stages_of k row)) f.1 in
    let x = some_cell (is_source k r j) (stages_of k row) g.1 in
    let p = both_true (x.1.serial == j) (((k.asks x.1.word).destination == r) && (not k.shape.forward || not (nat_lt (k.asks x.1.word).x_time x.0))) x.3 in
    let q = both_true ((k.asks x.1.word).destination == r) (not k.shape.forward || not (nat_lt (k.asks x.1.word).x_time x.0)) p.1 in
    let same = same_number x.1.serial j p.0 in
    record {
      reading = same_number stage k.shape.rd a.0;
      reads = b.0;
      older = record { lower = less j c.serial d.0; unflushed = negated (is_flushed (row ∷ earlier) j) f.0 };
      unretired = negated (is_retired earlier j) g.0;
      writes = (x.1.word, inl (x.0, x.1, x.2, same, refl), same_number (k.asks x.1.word).destination r q.0);
      withheld = λ forward. (x.0, x.1, x.2, same, not_less (k.asks x.1.word).x_time x.0 (negated (nat_lt (k.asks x.1.word).x_time x.0) (either_not k.shape.forward (not (nat_lt (k.asks x.1.word).x_time x.0)) q.1 forward)));
    }

operand_order : (r j s i n : ℕ) → s ≡ n → (nat_lt r n || ((r == n) && not (nat_lt i j))) ≡ true → ComesFirst (Operand r j) (Operand s i)
operand_order r j s i n same e = elim (known (nat_lt r n)) [
  | inl x ↦ let lt = less r n x in inr (refl, inl (omega (arith, same, lt)))
  | inr x ↦
      let p = both_true (r == n) (not (nat_lt i j)) (either (nat_lt r n) ((r == n) && not (nat_lt i j)) e x) in
      let at = same_number r n p.0 in let le = not_less i j (negated (nat_lt i j) p.1) in inr (refl, inr (at ∙ sym same, le))
]

abbrev pub operand_shown : Setting → List ℕ → List Row → Row → ℕ → Cell → ℕ → ℕ → Bool
operand_shown k words earlier row stage c r j = operand_true k earlier row stage c r j && all_below (operand_others k words earlier row c r j) c.serial

shows_operand : (k : Setting) (words : List ℕ) (earlier : List Row) (row : Row) (stage : ℕ) (c : Cell) (r j : ℕ) → AllNamedBy k words (row ∷ earlier) → has_serial row.flushed c.serial ≡ false → c.hold ≡ Some (Operand r j) → operand_shown k words earlier row stage c r j ≡ true
    → ShowsHold k earlier row stage c
shows_operand k words earlier row stage c r j all alive shown e = shows_own k earlier row stage c (Operand r j) shown alive (waits_then k earlier row stage c r j parts.0) first (inl (omega arith)) where
  parts : (operand_true k earlier row stage c r j ≡ true) × (all_below (operand_others k words earlier row c r j) c.serial ≡ true)
  parts = both_true (operand_true k earlier row stage c r j) (all_below (operand_others k words earlier row c r j) c.serial) e

  first : (f : Hold) → OwnHold k earlier row stage c f → ComesFirst (Operand r j) f
  first (Operand s i) o =
      let test = below (operand_others k words earlier row c r j) c.serial i parts.1 o.older.lower in
      elim (known (operand_clear k words earlier row c i)) [
        | inl x ↦ absurd (operand_not k words earlier row stage c all s i x o)
        | inr x ↦ operand_order r j s i (asks_by k words i).destination (target_is k words earlier row stage c all s i o)
            (either (operand_clear k words earlier row c i) (nat_lt r (asks_by k words i).destination || ((r == (asks_by k words i).destination) && not (nat_lt i j))) test x)
      ]
  first (Board t i) o = inl (omega arith)
  first (Custom s i) o = inl (omega arith)
  first (Late i) o = inl (omega arith)
  first Trap o = inl (omega arith)
  first (Drain i) o = inl (omega arith)
  first (Wait left) o = inl (omega arith)
  first (StoreAhead i) o = inl (omega arith)
  first (Tail left) o = inl (omega arith)
  first (UnitFull u) o = inl (omega arith)
  first (Port i) o = inl (omega arith)
  first Behind o = absurd o

-- A cell that shows Drain

-- the cell is due to stop, and an older one is left
abbrev pub drain_true : Setting → List Row → Row → ℕ → Cell → ℕ → Bool
drain_true k earlier row stage c j = (stage == k.shape.ex) && (is_some (due_stop k (row ∷ earlier) c) && (nat_lt j c.serial && not (is_gone (row ∷ earlier) j)))

pub drains_then : (k : Setting) (earlier : List Row) (row : Row) (stage : ℕ) (c : Cell) (j : ℕ) → drain_true k earlier row stage c j ≡ true → WaitsToDrain k earlier row stage c j
drains_then k earlier row stage c j e =
    let a = both_true (stage == k.shape.ex) (is_some (due_stop k (row ∷ earlier) c) && (nat_lt j c.serial && not (is_gone (row ∷ earlier) j))) e in
    let b = both_true (is_some (due_stop k (row ∷ earlier) c)) (nat_lt j c.serial && not (is_gone (row ∷ earlier) j)) a.1 in
    let d = both_true (nat_lt j c.serial) (not (is_gone (row ∷ earlier) j)) b.1 in
    let left = neither (is_flushed (row ∷ earlier) j) (is_retired (row ∷ earlier) j) (negated (is_gone (row ∷ earlier) j) d.1) in
    record {
      executing = same_number stage k.shape.ex a.0;
      due = stop_there (k.course.answer (place (row ∷ earlier) c.serial)) b.0;
      older = record { lower = less j c.serial d.0; unflushed = left.0 };
      left = inl left.1;
    }

abbrev pub drain_shown : Setting → List ℕ → List Row → Row → ℕ → Cell → ℕ → Bool
drain_shown k words earlier row stage c j = drain_true k earlier row stage c j && (early_clear k words earlier row stage c && (trap_clear (stage == k.shape.ex) k earlier && all_below (is_gone (row ∷ earlier)) j))

shows_drain : (k : Setting) (words : List ℕ) → IsCalm k → (earlier : List Row) (row : Row) (stage : ℕ) (c : Cell) (j : ℕ) → AllNamedBy k words (row ∷ earlier) → has_serial row.flushed c.serial ≡ false → c.hold ≡ Some (Drain j) → drain_shown k words earlier row stage c j ≡ true
    → ShowsHold k earlier row stage c
shows_drain k words calm earlier row stage c j all alive shown e = shows_own k earlier row stage c (Drain j) shown alive (drains_then k earlier row stage c j parts.0) first (inl (omega arith)) where
  parts : (drain_true k earlier row stage c j ≡ true) × ((early_clear k words earlier row stage c && (trap_clear (stage == k.shape.ex) k earlier && all_below (is_gone (row ∷ earlier)) j)) ≡ true)
  parts = both_true (drain_true k earlier row stage c j) (early_clear k words earlier row stage c && (trap_clear (stage == k.shape.ex) k earlier && all_below (is_gone (row ∷ earlier)) j)) e

  clears : (early_clear k words earlier row stage c ≡ true) × ((trap_clear (stage == k.shape.ex) k earlier && all_below (is_gone (row ∷ earlier)) j) ≡ true)
  clears = both_true (early_clear k words earlier row stage c) (trap_clear (stage == k.shape.ex) k earlier && all_below (is_gone (row ∷ earlier)) j) parts.1

  rest : (trap_clear (stage == k.shape.ex) k earlier ≡ true) × (all_below (is_gone (row ∷ earlier)) j ≡ true)
  rest = both_true (trap_clear (stage == k.shape.ex) k earlier) (all_below (is_gone (row ∷ earlier)) j) clears.1

  first : (f : Hold) → OwnHold k earlier row stage c f → ComesFirst (Drain j) f
  first (Operand s i) o = absurd (early_operand k words earlier row stage c all clears.0 s i o)
  first (Board t i) o = absurd (never_boards k calm.spawns earlier row stage c t i o)
  first (Custom s i) o = absurd (true_not_false (sym o.writes.2 ∙ calm.unlate o.writes.0 s))
  first (Late i) o = absurd (early_jump k words earlier row stage c all clears.0 i o)
  first Trap o = absurd (trap_not k earlier stage rest.0 o)
  first (Drain i) o = elim (known (nat_lt i j)) [
    | inl x ↦ absurd (not_gone k calm earlier row stage c i (below (is_gone (row ∷ earlier)) j i rest.1 (less i j x)) o)
    | inr x ↦ inr (refl, inr (refl, not_less i j x))
  ]
  first (Wait left) o = inl (omega arith)
  first (StoreAhead i) o = inl (omega arith)
  first (Tail left) o = inl (omega arith)
  first (UnitFull u) o = inl (omega arith)
  first (Port i) o = inl (omega arith)
  first Behind o = absurd o

-- A cell that shows Trap

abbrev pub trap_shown : Setting → List ℕ → List Row → Row → ℕ → Cell → Bool
trap_shown k words earlier row stage c = (stage == k.shape.ex) && (is_interrupted k earlier && early_clear k words earlier row stage c)

shows_trap : (k : Setting) (words : List ℕ) → IsCalm k → (earlier : List Row) (row : Row) (stage : ℕ) (c : Cell) → AllNamedBy k words (row ∷ earlier) → has_serial row.flushed c.serial ≡ false → c.hold ≡ Some Trap → trap_shown k words earlier row stage c ≡ true
    → ShowsHold k earlier row stage c
shows_trap k words calm earlier row stage c all alive shown e = shows_own k earlier row stage c Trap shown alive (record { executing = same_number stage k.shape.ex parts.0; interrupted = due.0 }) first (inl (omega arith)) where
  parts : ((stage == k.shape.ex) ≡ true) × ((is_interrupted k earlier && early_clear k words earlier row stage c) ≡ true)
  parts = both_true (stage == k.shape.ex) (is_interrupted k earlier && early_clear k words earlier row stage c) e

  due : (is_interrupted k earlier ≡ true) × (early_clear k words earlier row stage c ≡ true)
  due = both_true (is_interrupted k earlier) (early_clear k words earlier row stage c) parts.1

  first : (f : Hold) → OwnHold k earlier row stage c f → ComesFirst Trap f
  first (Operand s i) o = absurd (early_operand k words earlier row stage c all due.1 s i o)
  first (Board t i) o = absurd (never_boards k calm.spawns earlier row stage c t i o)
  first (Custom s i) o = absurd (true_not_false (sym o.writes.2 ∙ calm.unlate o.writes.0 s))
  first (Late i) o = absurd (early_jump k words earlier row stage c all due.1 i o)
  first Trap o = inr (refl, inr (refl, omega arith))
  first (Drain i) o = inl (omega arith)
  first (Wait left) o = inl (omega arith)
  first (StoreAhead i) o = inl (omega arith)
  first (Tail left) o = inl (omega arith)
  first (UnitFull u) o = inl (omega arith)
  first (Port i) o = inl (omega arith)
  first Behind o = absurd o

-- A cell that shows Wait

-- the cell accesses the memory, and has still to wait for so many rows
abbrev pub wait_true : Setting → List Row → Row → ℕ → Cell → ℕ → Bool
wait_true k earlier row stage c left =
    (stage == k.shape.mem) && (k.course.accesses (place (row ∷ earlier) c.serial) && ((left + stood k earlier c.serial == wait_of k (row ∷ earlier) c) && nat_lt 0 left))

pub waits_for : (k : Setting) (earlier : List Row) (row : Row) (stage : ℕ) (c : Cell) (left : ℕ) → wait_true k earlier row stage c left ≡ true → WaitsForMemory k earlier row stage c left
waits_for k earlier row stage c left e =
    let a = both_true (stage == k.shape.mem) (k.course.accesses (place (row ∷ earlier) c.serial) && ((left + stood k earlier c.serial == wait_of k (row ∷ earlier) c) && nat_lt 0 left)) e in
    let b = both_true (k.course.accesses (place (row ∷ earlier) c.serial)) ((left + stood k earlier c.serial == wait_of k (row ∷ earlier) c) && nat_lt 0 left) a.1 in
    let d = both_true (left + stood k earlier c.serial == wait_of k (row ∷ earlier) c) (nat_lt 0 left) b.1 in
    record { waiting = same_number stage k.shape.mem a.0; accesses = b.0; still = same_number (left + stood k earlier c.serial) (wait_of k (row ∷ earlier) c) d.0; some = less 0 left d.1 }

-- no hold that comes before Wait is true of the cell
abbrev pub wait_first : Setting → List ℕ → List Row → Row → ℕ → Cell → Bool
wait_first k words earlier row stage c = early_clear k words earlier row stage c && (trap_clear (stage == k.shape.ex) k earlier && drain_clear (stage == k.shape.ex) k earlier row c)

abbrev pub wait_shown : Setting → List ℕ → List Row → Row → ℕ → Cell → ℕ → Bool
wait_shown k words earlier row stage c left = wait_true k earlier row stage c left && wait_first k words earlier row stage c

shows_wait : (k : Setting) (words : List ℕ) → IsCalm k → (earlier : List Row) (row : Row) (stage : ℕ) (c : Cell) (left : ℕ) → AllNamedBy k words (row ∷ earlier) → has_serial row.flushed c.serial ≡ false → c.hold ≡ Some (Wait left) → wait_shown k words earlier row stage c left ≡ true
    → ShowsHold k earlier row stage c
shows_wait k words calm earlier row stage c left all alive shown e = shows_own k earlier row stage c (Wait left) shown alive (waits_for k earlier row stage c left parts.0) first (inl (omega arith)) where
  parts : (wait_true k earlier row stage c left ≡ true) × (wait_first k words earlier row stage c ≡ true)
  parts = both_true (wait_true k earlier row stage c left) (wait_first k words earlier row stage c) e

  clears : (early_clear k words earlier row stage c ≡ true) × ((trap_clear (stage == k.shape.ex) k earlier && drain_clear (stage == k.shape.ex) k earlier row c) ≡ true)
  clears = both_true (early_clear k words earlier row stage c) (trap_clear (stage == k.shape.ex) k earlier && drain_clear (stage == k.shape.ex) k earlier row c) parts.1

  rest : (trap_clear (stage == k.shape.ex) k earlier ≡ true) × (drain_clear (stage == k.shape.ex) k earlier row c ≡ true)
  rest = both_true (trap_clear (stage == k.shape.ex) k earlier) (drain_clear (stage == k.shape.ex) k earlier row c) clears.1

  first : (f : Hold) → OwnHold k earlier row stage c f → ComesFirst (Wait left) f
  first (Operand s i) o = absurd (early_operand k words earlier row stage c all clears.0 s i o)
  first (Board t i) o = absurd (never_boards k calm.spawns earlier row stage c t i o)
  first (Custom s i) o = absurd (true_not_false (sym o.writes.2 ∙ calm.unlate o.writes.0 s))
  first (Late i) o = absurd (early_jump k words earlier row stage c all clears.0 i o)
  first Trap o = absurd (trap_not k earlier stage rest.0 o)
  first (Drain i) o = absurd (drain_not k calm earlier row stage c rest.1 i o)
  first (Wait n) o = inr (refl, inr (refl, omega arith))
  first (StoreAhead i) o = inl (omega arith)
  first (Tail n) o = inl (omega arith)
  first (UnitFull u) o = inl (omega arith)
  first (Port i) o = inl (omega arith)
  first Behind o = absurd o

-- A cell that shows StoreAhead

-- the cell of this stage is that store, and stands in a later stage
abbrev pub is_store : Setting → ℕ → ℕ → ℕ → Cell → Bool
is_store k stage j at d = nat_lt stage at && ((d.serial == j) && (k.asks d.word).stores)

-- the cell loads, and the older store stands in a later stage
abbrev pub store_true : Setting → List Row → Row → ℕ → Cell → ℕ → Bool
store_true k earlier row stage c j =
    (stage == k.shape.mem) && ((k.asks c.word).loads && (nat_lt j c.serial && (not (is_flushed (row ∷ earlier) j) && any_cell (is_store k stage j) (stages_of k row))))

pub stands_ahead : (k : Setting) (earlier : List Row) (row : Row) (stage : ℕ) (c : Cell) (j : ℕ) → store_true k earlier row stage c j ≡ true → WaitsForStore k earlier row stage c j
stands_ahead k earlier row stage c j e =
    let a = both_true (stage == k.shape.mem) ((k.asks c.word).loads && (nat_lt j c.serial && (not (is_flushed (row ∷ earlier) j) && any_cell (is_store k stage j) (stages_of k row)))) e in
    let b = both_true (k.asks c.word).loads (nat_lt j c.serial && (not (is_flushed (row ∷ earlier) j) && any_cell (is_store k stage j) (stages_of k row))) a.1 in
    let d = both_true (nat_lt j c.serial) (not (is_flushed (row ∷ earlier) j) && any_cell (is_store k stage j) (stages_of k row)) b.1 in
    let f = both_true (not (is_flushed (row ∷ earlier) j)) (any_cell (is_store k stage j) (stages_of k row)) d.1 in
    let x = some_cell (is_store k stage j) (stages_of k row) f.1 in
    let p = both_true (nat_lt stage x.0) ((x.1.serial == j) && (k.asks x.1.word).stores) x.3 in
    let q = both_true (x.1.serial == j) (k.asks x.1.word).stores p.1 in
    record {
      loading = same_number stage k.shape.mem a.0;
      loads = b.0;
      older = record { lower = less j c.serial d.0; unflushed = negated (is_flushed (row ∷ earlier) j) f.0 };
      stands = (x.0, x.1, less stage x.0 p.0, x.2, same_number x.1.serial j q.0, q.1);
    }

-- the cell of this stage stores, is older than that store, and stands in a later stage
abbrev pub is_older_store : Setting → ℕ → ℕ → ℕ → Cell → Bool
is_older_store k stage j at d = nat_lt stage at && (nat_lt d.serial j && (k.asks d.word).stores)

-- no hold that comes before that StoreAhead is true of the cell
abbrev pub store_first : Setting → List ℕ → List Row → Row → ℕ → Cell → ℕ → Bool
store_first k words earlier row stage c j =
    wait_first k words earlier row stage c && (wait_clear (stage == k.shape.mem) k.waits k earlier row c && not (any_cell (is_older_store k stage j) (stages_of k row)))

abbrev pub store_shown : Setting → List ℕ → List Row → Row → ℕ → Cell → ℕ → Bool
store_shown k words earlier row stage c j = store_true k earlier row stage c j && store_first k words earlier row stage c j

shows_store : (k : Setting) (words : List ℕ) → IsCalm k → (earlier : List Row) (row : Row) (stage : ℕ) (c : Cell) (j : ℕ) → AllNamedBy k words (row ∷ earlier) → has_serial row.flushed c.serial ≡ false → c.hold ≡ Some (StoreAhead j) → store_shown k words earlier row stage c j ≡ true
    → ShowsHold k earlier row stage c
shows_store k words calm earlier row stage c j all alive shown e = shows_own k earlier row stage c (StoreAhead j) shown alive (stands_ahead k earlier row stage c j parts.0) first (inl (omega arith)) where
  parts : (store_true k earlier row stage c j ≡ true) × (store_first k words earlier row stage c j ≡ true)
  parts = both_true (store_true k earlier row stage c j) (store_first k words earlier row stage c j) e

  before : (wait_first k words earlier row stage c ≡ true) × ((wait_clear (stage == k.shape.mem) k.waits k earlier row c && not (any_cell (is_older_store k stage j) (stages_of k row))) ≡ true)
  before = both_true (wait_first k words earlier row stage c) (wait_clear (stage == k.shape.mem) k.waits k earlier row c && not (any_cell (is_older_store k stage j) (stages_of k row))) parts.1

  waited : (wait_clear (stage == k.shape.mem) k.waits k earlier row c ≡ true) × (not (any_cell (is_older_store k stage j) (stages_of k row)) ≡ true)
  waited = both_true (wait_clear (stage == k.shape.mem) k.waits k earlier row c) (not (any_cell (is_older_store k stage j) (stages_of k row))) before.1

  clears : (early_clear k words earlier row stage c ≡ true) × ((trap_clear (stage == k.shape.ex) k earlier && drain_clear (stage == k.shape.ex) k earlier row c) ≡ true)
  clears = both_true (early_clear k words earlier row stage c) (trap_clear (stage == k.shape.ex) k earlier && drain_clear (stage == k.shape.ex) k earlier row c) before.0

  rest : (trap_clear (stage == k.shape.ex) k earlier ≡ true) × (drain_clear (stage == k.shape.ex) k earlier row c ≡ true)
  rest = both_true (trap_clear (stage == k.shape.ex) k earlier) (drain_clear (stage == k.shape.ex) k earlier row c) clears.1

  none_older : (i : ℕ) → nat_lt i j ≡ true → WaitsForStore k earlier row stage c i → ⊥
  none_older i lt o =
      let at = o.stands in
      let older : nat_lt at.1.serial j ≡ true = ap (λ n. nat_lt n j) at.4 ∙ lt in
      true_not_false (
      sym (any_there (is_older_store k stage j) (stages_of k row) at.0 at.1 at.3 (and_both (nat_lt stage at.0) (nat_lt at.1.serial j && (k.asks at.1.word).stores) (is_above stage at.0 at.2) (and_both (nat_lt at.1.serial j) (k.asks at.1.word).stores older at.5)))
      ∙ negated (any_cell (is_older_store k stage j) (stages_of k row)) waited.1)

  first : (f : Hold) → OwnHold k earlier row stage c f → ComesFirst (StoreAhead j) f
  first (Operand s i) o = absurd (early_operand k words earlier row stage c all clears.0 s i o)
  first (Board t i) o = absurd (never_boards k calm.spawns earlier row stage c t i o)
  first (Custom s i) o = absurd (true_not_false (sym o.writes.2 ∙ calm.unlate o.writes.0 s))
  first (Late i) o = absurd (early_jump k words earlier row stage c all clears.0 i o)
  first Trap o = absurd (trap_not k earlier stage rest.0 o)
  first (Drain i) o = absurd (drain_not k calm earlier row stage c rest.1 i o)
  first (Wait n) o = absurd (wait_not k earlier row stage c k.waits refl waited.0 n o)
  first (StoreAhead i) o = elim (known (nat_lt i j)) [ inl x ↦ absurd (none_older i x o) | inr x ↦ inr (refl, inr (refl, not_less i j x)) ]
  first (Tail n) o = inl (omega arith)
  first (UnitFull u) o = inl (omega arith)
  first (Port i) o = inl (omega arith)
  first Behind o = absurd o

-- Cells with any hold

-- the cell of this stage shows this hold rightly
abbrev pub shows_right : Setting → List ℕ → List Row → Row → ℕ → Cell → Option Hold → Bool
shows_right k words earlier row stage c None =
    has_serial row.flushed c.serial || (own_clear k words earlier row stage c && (stops_run (stage == k.shape.ex) k words earlier row stage c || goes k earlier row stage (slice_get (stages_of k row) (suc stage))))
shows_right k words earlier row stage c (Some (Operand r j)) = not (has_serial row.flushed c.serial) && operand_shown k words earlier row stage c r j
shows_right k words earlier row stage c (Some (Drain j)) = not (has_serial row.flushed c.serial) && drain_shown k words earlier row stage c j
shows_right k words earlier row stage c (Some Trap) = not (has_serial row.flushed c.serial) && trap_shown k words earlier row stage c
shows_right k words earlier row stage c (Some (Wait left)) = not (has_serial row.flushed c.serial) && wait_shown k words earlier row stage c left
shows_right k words earlier row stage c (Some (StoreAhead j)) = not (has_serial row.flushed c.serial) && store_shown k words earlier row stage c j
shows_right k words earlier row stage c (Some Behind) =
    not (has_serial row.flushed c.serial)
    && (own_clear k words earlier row stage c && (not_due (stage == k.shape.ex) k (row ∷ earlier) c && blocks k words earlier row stage (slice_get (stages_of k row) (suc stage))))
shows_right k words earlier row stage c (Some g) = false

pub shows_then : (k : Setting) (words : List ℕ) → IsCalm k → (earlier : List Row) (row : Row) (stage : ℕ) (c : Cell) → AllNamedBy k words (row ∷ earlier) → (hold : Option Hold) → c.hold ≡ hold → shows_right k words earlier row stage c hold ≡ true → ShowsHold k earlier row stage c
shows_then k words calm earlier row stage c all None e t = shows_none k earlier row stage c e (λ alive runs g w. true_none alive runs g w) where
  next : Option (Option Cell)
  next = slice_get (stages_of k row) (suc stage)

  true_none : has_serial row.flushed c.serial ≡ false → ((stop : Stop) → StopsRun k earlier row stage c stop → ⊥) → (g : Hold) → OwnHold k earlier row stage c g ⊎ ((g ≡ Behind) × WaitsBehind k earlier row stage) → ⊥
  true_none alive runs g w =
      let p = both_true (own_clear k words earlier row stage c) (stops_run (stage == k.shape.ex) k words earlier row stage c || goes k earlier row stage next)
      (either (has_serial row.flushed c.serial) (own_clear k words earlier row stage c && (stops_run (stage == k.shape.ex) k words earlier row stage c || goes k earlier row stage next)) t alive) in
      elim w [
        | inl o ↦ own_not k words calm earlier row stage c all p.0 g o
        | inr b ↦ elim (known (stops_run (stage == k.shape.ex) k words earlier row stage c)) [
          | inl x ↦ let s = stops_then k words calm earlier row stage c all (stage == k.shape.ex) refl x in runs s.0 s.2
          | inr x ↦ behind_not k earlier row stage next refl (either (stops_run (stage == k.shape.ex) k words earlier row stage c) (goes k earlier row stage next) p.1 x) b.1
        ]
      ]
shows_then k words calm earlier row stage c all (Some Behind) e t =
    shows_hold k earlier row stage c Behind e (negated (has_serial row.flushed c.serial) a.0) (runs_on k earlier row stage c d.0) (inr (refl, behind_then k words calm earlier row stage all next refl d.1))
    (λ f w. elim w [
      | inl o ↦ absurd (own_not k words calm earlier row stage c all b.0 f o)
      | inr q ↦ subst (λ g. ComesFirst Behind g) (sym q.0) (inr (refl, inr (refl, omega arith)))
    ]) where
      next : Option (Option Cell)
      next = slice_get (stages_of k row) (suc stage)

      a : (not (has_serial row.flushed c.serial) ≡ true) × ((own_clear k words earlier row stage c && (not_due (stage == k.shape.ex) k (row ∷ earlier) c && blocks k words earlier row stage next)) ≡ true)
      a = both_true (not (has_serial row.flushed c.serial)) (own_clear k words earlier row stage c && (not_due (stage == k.shape.ex) k (row ∷ earlier) c && blocks k words earlier row stage next)) t

      b : (own_clear k words earlier row stage c ≡ true) × ((not_due (stage == k.shape.ex) k (row ∷ earlier) c && blocks k words earlier row stage next) ≡ true)
      b = both_true (own_clear k words earlier row stage c) (not_due (stage == k.shape.ex) k (row ∷ earlier) c && blocks k words earlier row stage next) a.1

      d : (not_due (stage == k.shape.ex) k (row ∷ earlier) c ≡ true) × (blocks k words earlier row stage next ≡ true)
      d = both_true (not_due (stage == k.shape.ex) k (row ∷ earlier) c) (blocks k words earlier row stage next) b.1
shows_then k words calm earlier row stage c all (Some (Operand r j)) e t =
    let p = both_true (not (has_serial row.flushed c.serial)) (operand_shown k words earlier row stage c r j) t in
    shows_operand k words earlier row stage c r j all (negated (has_serial row.flushed c.serial) p.0) e p.1
shows_then k words calm earlier row stage c all (Some (Drain j)) e t =
    let p = both_true (not (has_serial row.flushed c.serial)) (drain_shown k words earlier row stage c j) t in
    shows_drain k words calm earlier row stage c j all (negated (has_serial row.flushed c.serial) p.0) e p.1
shows_then k words calm earlier row stage c all (Some (Board u j)) e t = absurd (true_not_false (sym t))
shows_then k words calm earlier row stage c all (Some (Custom r j)) e t = absurd (true_not_false (sym t))
shows_then k words calm earlier row stage c all (Some (Late j)) e t = absurd (true_not_false (sym t))
shows_then k words calm earlier row stage c all (Some Trap) e t =
    let p = both_true (not (has_serial row.flushed c.serial)) (trap_shown k words earlier row stage c) t in
    shows_trap k words calm earlier row stage c all (negated (has_serial row.flushed c.serial) p.0) e p.1
shows_then k words calm earlier row stage c all (Some (Wait n)) e t =
    let p = both_true (not (has_serial row.flushed c.serial)) (wait_shown k words earlier row stage c n) t in
    shows_wait k words calm earlier row stage c n all (negated (has_serial row.flushed c.serial) p.0) e p.1
shows_then k words calm earlier row stage c all (Some (StoreAhead j)) e t =
    let p = both_true (not (has_serial row.flushed c.serial)) (store_shown k words earlier row stage c j) t in
    shows_store k words calm earlier row stage c j all (negated (has_serial row.flushed c.serial) p.0) e p.1
shows_then k words calm earlier row stage c all (Some (Tail n)) e t = absurd (true_not_false (sym t))
shows_then k words calm earlier row stage c all (Some (UnitFull u)) e t = absurd (true_not_false (sym t))
shows_then k words calm earlier row stage c all (Some (Port j)) e t = absurd (true_not_false (sym t))
