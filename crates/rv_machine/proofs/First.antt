-- Before the first row the machine is at the start of the run.
use Rattle.rv_machine.proofs.Nearing.{pass_low}
use Rattle.rv_machine.proofs.Entered.{first_holds}
use Rattle.rv_seq.specs.WordEffects.{AreWide}
use Rattle.ix_extension.specs.Extensions.{ExtensionTree}
use Rattle.rv_seq.specs.declared.arch.Arch.{Arch}
use Rattle.rv_lawful.specs.Entering.{places, pending, is_line_pending}
use Rattle.rv_waits.specs.Lines.{is_raised}
use Rattle.std.specs.List.{list_any}
use Rattle.rv_machine.proofs.Runs.{not_entered}
use Rattle.std.proofs.Common.{◌≡◌, ℕ, zero, suc, ◌+◌, ◌≤◌, List, [], ◌∷◌, drop, take, length, get_or, Some, None, refl, sym, ap, ◌∙◌, arith, Option, Bool, true, false, subst, ◌<◌, ◌^◌}
use Rattle.std.specs.Prelude.{nat_lt, replicate, nat_eq, is_some, slice_index, if◌then◌else◌, ◌||◌}
use Rattle.std.proofs.lemmas.Bool.Decides.{nat_tests}
use Rattle.rv_core.specs.declared.Shape.{Shape}
use Rattle.ix_bits.specs.declared.number.Bits.{Bits}
use Rattle.rv_seq.specs.States.{first as first_state, zero_bit, initials}
use Rattle.rv_seq.specs.Runs.{run_with, start}
use Rattle.rv_waits.specs.Waits.{greatest}
use Rattle.rv_trace.specs.declared.row.Row.{Row}
use Rattle.rv_trace.specs.Trace.{blank, place, is_flushed, is_retired, retirements, rows_without}
use Rattle.rv_trace.specs.RowParts.{MovesInto, names_of, serial_after}
use Rattle.rv_holds.specs.declared.token.Token.{Token}
use Rattle.rv_holds.specs.Tokens.{Slots, cell_of, cells_of}
use Rattle.rv_engine.specs.Settings.{first_state as start_state}
use Rattle.rv_engine.specs.Settings.{Setting, shape_of, first_machine, tree_of, raised_in}
use Rattle.rv_engine.specs.Rows.{first_slot, owed_by}
use Rattle.rv_lawful.specs.Settings.{Course, accesses_before, entries_at}
use Rattle.rv_lawful.specs.Future.{future_file}
use Rattle.rv_lawful.specs.Outstanding.{architecture, is_written, decoupled, units_after}
use Rattle.rv_lawful.specs.LawfulTrace.{fetch_address, next_serial}
use Rattle.rv_machine.specs.Owing.{judged, Apart}
use Rattle.rv_machine.specs.Placed.{run, count, tail, expected, past_ex, paid_late, to_go, Placed, Serials, IsReady, Inv, entries_of, may_enter, more_rows, passing, rank, whole_rank, greatest_rank}
use Rattle.rv_unit.proofs.Numbered.{first_law}
use Rattle.rv_engine.specs.declared.owing.Owed.{Owed}

abbrev nothing : ℕ → Slots
nothing n = replicate n None

long_none : (n : ℕ) → length (nothing n) ≡ n
long_none zero = refl
long_none (suc n) = ap suc (long_none n)

moves_none : (n m : ℕ) → n ≤ m → MovesInto blank None (take n (replicate m None)) (names_of (cells_of (nothing n)))
moves_none zero m le = tt
moves_none (suc n) zero le = absurd (omega (arith, le))
moves_none (suc n) (suc m) le = (refl, moves_none n m (omega (arith, le)))

placed_none : (k : Setting) (stage n : ℕ) → Placed k 0 stage (nothing n)
placed_none k stage zero = tt
placed_none k stage (suc n) = (tt, placed_none k (suc stage) n)

serials_none : (rows : List Row) (n : ℕ) → Serials rows 0 (nothing n)
serials_none rows zero = tt
serials_none rows (suc n) = serials_none rows n

first_none : (n : ℕ) → serial_after 0 (cell_of (first_slot (nothing n))) ≡ 0
first_none zero = refl
first_none (suc n) = refl

count_none : (n : ℕ) → count (nothing n) ≡ 0
count_none zero = refl
count_none (suc n) = count_none n

expected_none : (k : Setting) (stage n : ℕ) → expected k 0 stage (nothing n) ≡ (run k 0).pc
expected_none k stage zero = refl
expected_none k stage (suc n) = expected_none k (suc stage) n

tail_none : (k : Setting) (n : ℕ) → expected k 0 1 (tail (nothing n)) ≡ (run k 0).pc
tail_none k zero = refl
tail_none k (suc n) = expected_none k 1 n

to_go-none : (k : Shape) (most owed stage n : ℕ) → to_go k most owed stage (nothing n) ≡ 0
to_go-none k most owed stage zero = refl
to_go-none k most owed stage (suc n) = rw (to_go-none k most owed (suc stage) n) refl

count_dropped : (i n : ℕ) → count (drop i (nothing n)) ≡ 0
count_dropped zero n = count_none n
count_dropped (suc i) zero = refl
count_dropped (suc i) (suc n) = count_dropped i n

none_dropped : {A : Type 0} (i n : ℕ) (t : Token) (older : Slots) → drop i (nothing n) ≡ Some t ∷ older → A
none_dropped zero zero t older e = cc
none_dropped zero (suc n) t older e = cc
none_dropped (suc i) zero t older e = cc
none_dropped (suc i) (suc n) t older e = none_dropped i n t older e

-- with no token nothing is owed to a register
paid_none : (k : Setting) (r reg : ℕ) (l : Slots) (v : Bits) → count l ≡ 0 → paid_late k r reg l v ≡ v
paid_none k r reg [] v e = refl
paid_none k r reg (None ∷ l) v e = paid_none k r reg l v e
paid_none k r reg (Some t ∷ l) v e = absurd (omega (arith, e))

no_accesses : (run : Course) (p : ℕ) → p ≡ 0 → 0 ≡ accesses_before run p
unfolding accesses_before
no_accesses run zero e = refl
no_accesses run (suc p) e = absurd (omega (arith, e))

none_below : (s : ℕ) → nat_lt s 0 ≡ false
none_below s = grind (arith, nat_tests)

apart_none : (k : Setting) (owed : List Owed) (stage n : ℕ) → Apart k owed stage (nothing n)
apart_none k owed stage zero = tt
apart_none k owed stage (suc n) = apart_none k owed (suc stage) n

-- the first state, by the run
pub start_is : (x : ExtensionTree) (handler : ℕ) (lines : Option (List ℕ)) (ps : List ℕ) → start x (entries_at handler lines ps) ≡ start_state x lines
start_is x handler None ps = refl
start_is x handler (Some l) ps = refl

run_first : (k : Setting) → k.places ≡ [] → run k 0 ≡ start_state (tree_of k) k.lines
unfolding run_with
run_first k e = not_entered k 0 (start (tree_of k) (entries_of k)) (ap (λ l. list_any (λ q. nat_eq q 0) l) e) ∙ start_is (tree_of k) (shape_of k).trap k.lines k.places

start_pc : (x : ExtensionTree) (lines : Option (List ℕ)) → (start_state x lines).pc ≡ 0
unfolding first_state
start_pc x None = refl
start_pc x (Some l) = refl

start_custom : (x : ExtensionTree) (lines : Option (List ℕ)) → (start_state x lines).custom ≡ initials x.registers
unfolding first_state
start_custom x None = refl
start_custom x (Some l) = refl

pending_first : (lines : Option (List ℕ)) → (raised_in lines 0 || false) ≡ is_line_pending lines []
unfolding pending
pending_first None = refl
pending_first (Some l) = or_false (is_raised l 0) where
  or_false : (b : Bool) → (b || false) ≡ b
  or_false true = refl
  or_false false = refl

first_rank : (k : Setting) (ready : IsReady k) → rows_without [] + whole_rank k (greatest k.waits) (first_machine k) ≤ greatest_rank k
unfolding rows_without
first_rank k ready = by_case (may_enter k (first_machine k)) refl where
  more : may_enter k (first_machine k) ≡ true → more_rows k ≡ (shape_of k).stages
  more h = ap (λ (b : Bool). if b then (shape_of k).stages else 0) (first_holds (is_some k.lines) _ h)

  by_case : (b : Bool) → may_enter k (first_machine k) ≡ b
      → 0 + (0 + (if b then passing (shape_of k) (nothing (shape_of k).stages) + suc ((shape_of k).stages + greatest k.waits + 64) else rank (shape_of k) (greatest k.waits) (owed_by k (first_machine k)) (nothing (shape_of k).stages))) ≤ greatest_rank k
  by_case true h = let a = more h in let p = pass_low (shape_of k) (nothing (shape_of k).stages) in let c = ready.ex_last in let d = ready.most in omega (arith, a, p, c, d)
  by_case false h = let g = to_go-none (shape_of k) (greatest k.waits) (owed_by k (first_machine k)) 0 (shape_of k).stages in rw g (omega arith)

pub first : (k : Setting) (ready : IsReady k) → k.places ≡ [] → Inv k [] (first_machine k)
unfolding future_file retirements is_flushed is_retired is_written decoupled units_after place fetch_address next_serial architecture rows_without places first_state
first k ready none =
    let began = run_first k none in
    let file : (run k 0).custom ≡ (first_machine k).future = ap (λ (s : Arch). s.custom) began ∙ start_custom (tree_of k) k.lines in
    let n = (shape_of k).stages in
    let most = ready.most in
    let c = count_none n in
    let t = tail_none k n in
    let g = to_go-none (shape_of k) (greatest k.waits) (owed_by k (first_machine k)) 0 n in
    let dropped = count_dropped (suc (shape_of k).mem) n in
    record {
      stages = long_none n;
      entries = none;
      past = λ p lt. ap (λ l. list_any (λ q. nat_eq q p) l) none;
      rows = refl;
      line = pending_first k.lines;
      executed = tt;
      arch = sym began;
      ranged = λ reg. subst (λ (s : Arch). slice_index s.x reg < 2 ^ 32) began (ready.words 0 reg);
      next_place = omega (arith, c);
      next_first = first_none n;
      fetch = sym (t ∙ ap (λ (s : Arch). s.pc) began ∙ start_pc (tree_of k) k.lines);
      few = omega arith;
      few_accesses = omega arith;
      few_stood = omega arith;
      accesses = no_accesses (judged k).course _ (omega (arith, dropped));
      stood_is = λ t older e. none_dropped (shape_of k).mem n t older e;
      tail_is = λ i t older e. none_dropped i n t older e;
      future = λ reg lt.
          let z = count_dropped (suc (shape_of k).ex) n in
          let e : 0 ≡ 0 + count (past_ex k (nothing n)) = omega (arith, z) in
          paid_none k 0 reg (past_ex k (nothing n)) (get_or (first_machine k).future reg zero_bit) z
          ∙ ap (λ (l : List Bits). get_or l reg zero_bit) (sym file) ∙ ap (λ p. get_or (run k p).custom reg zero_bit) e;
      future_wide = subst (λ l. AreWide (tree_of k) l) file (ready.wide 0);
      file = refl;
      placed = placed_none k 0 n;
      serials = serials_none [] n;
      fetch_is = refl;
      next_is = refl;
      moved = moves_none n 5 most;
      words = λ s word h. absurd h;
      fresh = λ s word h. absurd h;
      retired = λ s alive. sym (none_below (place [] s));
      unflushed = λ s le. refl;
      owing = tt;
      worded = λ s word h. absurd h;
      units = sym (first_law (shape_of k).stages k.design.plans);
      timed = tt;
      distinct = tt;
      apart = apart_none k [] 0 n;
      paid = λ s e. cc e;
      few_entries = omega arith;
      state = start_is (tree_of k) (shape_of k).trap k.lines k.places;
      progress = first_rank k ready;
    }
