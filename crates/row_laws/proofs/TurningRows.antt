-- The rows of the run with Late and a flush are lawful, and those that differ in one thing are not.
use Rattle.std.proofs.Common.{◌≡◌, ℕ, zero, suc, ◌<◌, List, [], ◌∷◌, Option, Some, None, Bool, true, false, refl, sym, ap, ◌∙◌, subst, arith, ◌⊎◌, inl, inr}
use Rattle.std.specs.Prelude.{◌||◌, if◌then◌else◌, ◌==◌, replicate}
use Rattle.std.proofs.lemmas.Bool.Decides.{nat_tests}
use Rattle.rv_asks.specs.declared.asks.Asks.{Asks}
use Rattle.rv_seq.specs.declared.answer.StepAnswer.{StepAnswer}
use Rattle.rv_seq.specs.declared.answer.StepAnswer.TheVariants.{Stopped}
use Rattle.rv_seq.specs.declared.commit.Stop.{Stop}
use Rattle.rv_seq.specs.declared.commit.Stop.TheVariants.{Ebreak}
use Rattle.rv_trace.specs.declared.row.Cell.{Cell}
use Rattle.rv_trace.specs.declared.row.Hold.{Hold}
use Rattle.rv_trace.specs.declared.row.Hold.TheVariants.{Late, Tail, Behind}
use Rattle.rv_trace.specs.declared.row.Row.{Row}
use Rattle.rv_trace.specs.Trace.{has_serial, is_flushed, is_retired, place, newest}
use Rattle.rv_trace.specs.RowParts.{name_of, leaves}
use Rattle.rv_lawful.specs.Settings.{Stands, tailed}
use Rattle.rv_lawful.specs.LawfulTrace.{fetch_address, next_serial, IsDueToStop, WaitsForJump, OwnHold, StopsRun, ShowsHold, Settles, successor, IsMismatch, LawfulRow, Lawful}
use Rattle.rv_lawful.specs.Sight.{SpawnsNothing}
use Rattle.row_laws.specs.Hands.{quiet, going, no_customs, none_flushed}
use Rattle.row_laws.specs.Turning.{turning_hand, turning, turning_asks, jump, passed, passed_too, target, row_0, row_1, row_2, turn_row, both, row_3, row_4, row_5, two_rows, three_rows, turning_rows, IsUnlawful, unflushed, one_unflushed, no_redirect, late_left_out}
use Rattle.row_laws.proofs.Stages.{SpawnsNone, none_written, untaken, true_not_false, no_register, no_custom, same_cell, free_outside, free_behind, done_below, no_own, goes_before, shows_none, shows_behind, shows_own, late_first, shows_tail, shows_last, none_settles, no_stop, some_left, none_retires, one_retires}

at_front : ◌≡◌ {A = ℕ} 0 1 → ⊥
at_front e = absurd (omega (arith, e))

-- What is asked of the words

-- no instruction loads, reads a register, or uses a custom register
abbrev Unasked : Asks → Type 0
Unasked a = (a.loads ≡ false) × (a.first ≡ 0) × (a.second ≡ 0) × (a.customs ≡ no_customs)

unasked : (word : ℕ) → Unasked (turning_asks word)
unasked word = by_test (word == 91) where
  by_test : (b : Bool) → Unasked (if b then turning_asks 91 else quiet)
  by_test true = (refl, refl, refl, refl)
  by_test false = (refl, refl, refl, refl)

-- nor does one spawn
none_spawned : SpawnsNone turning_hand
none_spawned word = by_test (word == 91) where
  by_test : (b : Bool) → SpawnsNothing (if b then turning_asks 91 else quiet)
  by_test true = record { x = refl; customs = λ r. no_custom r; unit = refl }
  by_test false = record { x = refl; customs = λ r. no_custom r; unit = refl }

-- where the jump stands at EX, it does not settle there
jump_late : (earlier : List Row) (row : Row) (stage : ℕ) (hold : Option Hold) → Settles turning earlier row stage (jump hold) → stage ≡ 2
jump_late earlier row stage hold s = let e = s.settling in omega (arith, e)

free_front : (earlier : List Row) (row : Row) (c : Cell) (g : Hold) → OwnHold turning earlier row 0 c g → ⊥
free_front earlier row c g o = no_own turning_hand none_spawned earlier row 0 c (free_outside turning_hand earlier row 0 c at_front) (unasked c.word).0 (done_below turning_hand earlier row 0 c (omega arith)) g o

jump_runs : (rows : List Row) (hold : Option Hold) (stop : Stop) → IsDueToStop turning rows (jump hold) stop → ⊥
unfolding place
jump_runs rows hold stop e = cc

-- The first row

lawful_0 : LawfulRow turning [] row_0
unfolding fetch_address next_serial
lawful_0 = record {
  form = record { behind = refl; listed = refl; ascending = tt };
  moves = (refl, (refl, (refl, tt)));
  retires = none_retires turning_hand row_0 refl (λ c s l. cc);
  holds = shows;
  successors = none_settles turning_hand [] row_0 refl refl settles;
  units = none_written turning_hand [] row_0 refl refl;
  takes = untaken turning_hand [] row_0 refl;
  stops = no_stop turning_hand [] row_0 refl (λ c stop stands s. no_second c stands) (some_left turning_hand row_0 0 (jump None) (omega arith) refl refl);
} where
  no_second : (c : Cell) → Stands turning row_0 1 c → ⊥
  no_second c s = cc

  settles : (stage : ℕ) (c : Cell) → Stands turning row_0 stage c → Settles turning [] row_0 stage c → ⊥
  settles zero c stands s = same_cell (λ d. Settles turning [] row_0 0 d → ⊥) (jump None) c stands (λ r. let e = jump_late [] row_0 0 None r in absurd (omega (arith, e))) s
  settles (suc zero) c stands s = cc
  settles (suc (suc zero)) c stands s = cc
  settles (suc (suc (suc n))) c stands s = cc

  shows : (stage : ℕ) (c : Cell) → Stands turning row_0 stage c → ShowsHold turning [] row_0 stage c
  shows zero c s =
      same_cell (λ d. ShowsHold turning [] row_0 0 d) (jump None) c s
      (shows_none turning [] row_0 0 (jump None) refl (λ alive runs g t. elim t [
        | inl o ↦ free_front [] row_0 (jump None) g o
        | inr b ↦ no_second b.1.0 b.1.1
      ]))
  shows (suc zero) c s = cc
  shows (suc (suc zero)) c s = cc
  shows (suc (suc (suc n))) c s = cc

-- The second row: the jump leaves EX, and settles nothing

lawful_1 : LawfulRow turning (row_0 ∷ []) row_1
unfolding fetch_address next_serial
lawful_1 = record {
  form = record { behind = refl; listed = refl; ascending = tt };
  moves = (refl, (refl, (refl, tt)));
  retires = none_retires turning_hand row_1 refl (λ c s l. cc);
  holds = shows;
  successors = none_settles turning_hand (row_0 ∷ []) row_1 refl refl settles;
  units = none_written turning_hand (row_0 ∷ []) row_1 refl refl;
  takes = untaken turning_hand (row_0 ∷ []) row_1 refl;
  stops = no_stop turning_hand (row_0 ∷ []) row_1 refl (λ c stop stands s. stops c stop stands s) (some_left turning_hand row_1 0 (passed None) (omega arith) refl refl);
} where
  settles : (stage : ℕ) (c : Cell) → Stands turning row_1 stage c → Settles turning (row_0 ∷ []) row_1 stage c → ⊥
  settles zero c stands s = same_cell (λ d. Settles turning (row_0 ∷ []) row_1 0 d → ⊥) (passed None) c stands (λ r. at_front r.settling) s
  settles (suc zero) c stands s = same_cell (λ d. Settles turning (row_0 ∷ []) row_1 1 d → ⊥) (jump None) c stands (λ r. let e = jump_late (row_0 ∷ []) row_1 1 None r in absurd (omega (arith, e))) s
  settles (suc (suc zero)) c stands s = cc
  settles (suc (suc (suc n))) c stands s = cc

  stops : (c : Cell) (stop : Stop) → Stands turning row_1 1 c → StopsRun turning (row_0 ∷ []) row_1 1 c stop → ⊥
  stops c stop stands s = same_cell (λ d. StopsRun turning (row_0 ∷ []) row_1 1 d stop → ⊥) (jump None) c stands (λ r. jump_runs two_rows None stop r.due) s

  shows : (stage : ℕ) (c : Cell) → Stands turning row_1 stage c → ShowsHold turning (row_0 ∷ []) row_1 stage c
  shows zero c s =
      same_cell (λ d. ShowsHold turning (row_0 ∷ []) row_1 0 d) (passed None) c s
      (shows_none turning (row_0 ∷ []) row_1 0 (passed None) refl (λ alive runs g t. elim t [
        | inl o ↦ free_front (row_0 ∷ []) row_1 (passed None) g o
        | inr b ↦ goes_before turning (row_0 ∷ []) row_1 0 (jump None) refl refl (λ stop r. jump_runs two_rows None stop r.due) b.1
      ]))
  shows (suc zero) c s =
      same_cell (λ d. ShowsHold turning (row_0 ∷ []) row_1 1 d) (jump None) c s
      (shows_none turning (row_0 ∷ []) row_1 1 (jump None) refl (λ alive runs g t. elim t [
        | inl o ↦ no_own turning_hand none_spawned (row_0 ∷ []) row_1 1 (jump None) (free_behind turning_hand none_spawned (row_0 ∷ []) row_1 1 (jump None) (λ j lt _. absurd (omega (arith, lt)))) refl (done_below turning_hand (row_0 ∷ []) row_1 1 (jump None) (omega arith)) g o
        | inr b ↦ cc (b.1.1)
      ]))
  shows (suc (suc zero)) c s = cc
  shows (suc (suc (suc n))) c s = cc

-- The instruction behind the jump waits for it

waits : (earlier : List Row) (row : Row) (hold jumping : Option Hold) → Stands turning row 2 (jump jumping) → is_flushed (row ∷ earlier) 0 ≡ false → is_retired earlier 0 ≡ false → WaitsForJump turning earlier row 1 (passed hold) 0
waits earlier row hold jumping s f r = record { executing = refl; older = record { lower = omega arith; unflushed = f }; unretired = r; jumps = (91, inl (2, jump jumping, s, refl, refl), refl) }

waits_2 : (hold : Option Hold) (row : Row) → Stands turning row 2 (jump (Some (Tail 1))) → has_serial row.flushed 0 ≡ false → WaitsForJump turning two_rows row 1 (passed hold) 0
unfolding is_flushed is_retired
waits_2 hold row s f = waits two_rows row hold (Some (Tail 1)) s (ap (λ b. b || false) f) refl

lawful_2 : LawfulRow turning two_rows row_2
unfolding fetch_address next_serial tailed
lawful_2 = record {
  form = record { behind = refl; listed = refl; ascending = tt };
  moves = (refl, (refl, (refl, tt)));
  retires = none_retires turning_hand row_2 refl (λ c s l. same_cell (λ d. leaves row_2 (Some d) ≡ name_of (Some d) → ⊥) (jump (Some (Tail 1))) c s (λ q. cc) l);
  holds = shows;
  successors = none_settles turning_hand two_rows row_2 refl refl settles;
  units = none_written turning_hand two_rows row_2 refl refl;
  takes = untaken turning_hand two_rows row_2 refl;
  stops = no_stop turning_hand two_rows row_2 refl (λ c stop stands s. same_cell (λ d. StopsRun turning two_rows row_2 1 d stop → ⊥) (passed (Some (Late 0))) c stands (λ r. r.free (Late 0) wait) s)
      (some_left turning_hand row_2 0 (passed_too (Some Behind)) (omega arith) refl refl);
} where
  wait : WaitsForJump turning two_rows row_2 1 (passed (Some (Late 0))) 0
  wait = waits_2 (Some (Late 0)) row_2 refl refl

  -- each cell is held
  settles : (stage : ℕ) (c : Cell) → Stands turning row_2 stage c → Settles turning two_rows row_2 stage c → ⊥
  settles zero c stands s = same_cell (λ d. Settles turning two_rows row_2 0 d → ⊥) (passed_too (Some Behind)) c stands (λ r. at_front r.settling) s
  settles (suc zero) c stands s = same_cell (λ d. leaves row_2 (Some d) ≡ name_of (Some d) → ⊥) (passed (Some (Late 0))) c stands (λ q. cc) s.leaves
  settles (suc (suc zero)) c stands s = same_cell (λ d. leaves row_2 (Some d) ≡ name_of (Some d) → ⊥) (jump (Some (Tail 1))) c stands (λ q. cc) s.leaves
  settles (suc (suc (suc n))) c stands s = cc

  shows : (stage : ℕ) (c : Cell) → Stands turning row_2 stage c → ShowsHold turning two_rows row_2 stage c
  shows zero c s =
      same_cell (λ d. ShowsHold turning two_rows row_2 0 d) (passed_too (Some Behind)) c s
      (shows_behind turning two_rows row_2 0 (passed_too (Some Behind)) refl refl at_front (passed (Some (Late 0)), refl, inl refl) (free_front two_rows row_2 (passed_too (Some Behind))))
  shows (suc zero) c s =
      same_cell (λ d. ShowsHold turning two_rows row_2 1 d) (passed (Some (Late 0))) c s
      (shows_own turning two_rows row_2 1 (passed (Some (Late 0))) (Late 0) refl refl wait
      (late_first turning_hand none_spawned two_rows row_2 1 (passed (Some (Late 0))) (λ r j o. true_not_false (sym o.reads ∙ no_register (turning_asks 19) r refl refl)) (λ r j o. true_not_false (sym o.uses ∙ no_custom r)))
      (inl (omega arith)))
  shows (suc (suc zero)) c s = same_cell (λ d. ShowsHold turning two_rows row_2 2 d) (jump (Some (Tail 1))) c s (shows_tail turning_hand none_spawned two_rows row_2 (jump (Some (Tail 1))) 1 refl refl refl (omega arith) (omega arith))
  shows (suc (suc (suc n))) c s = cc

-- The jump leaves the last stage, with any flush of others and any redirect

jump_goes_on : (rows : List Row) → successor turning rows (jump None) ≡ 12
unfolding place
jump_goes_on rows = refl

mismatch : (flushed : List (Option ℕ)) (redirect : Option ℕ) → has_serial flushed 0 ≡ false → IsMismatch turning three_rows (turn_row flushed redirect) 2 (jump None)
mismatch flushed redirect f = record {
  stands = refl;
  settles = record { settling = refl; leaves = rw f refl; runs = λ stop s. jump_runs (turn_row flushed redirect ∷ three_rows) None stop s.due };
  differs = (1, passed None, record { lower = omega arith; stands = refl; nearest = λ between e a b s. absurd (omega (arith, a, b)) }, λ e. absurd (other (e ∙ jump_goes_on (turn_row flushed redirect ∷ three_rows))));
} where
  other : ◌≡◌ {A = ℕ} 4 12 → ⊥
  other e = absurd (omega (arith, e))

waits_3 : WaitsForJump turning three_rows row_3 1 (passed None) 0
unfolding is_flushed is_retired
waits_3 = waits three_rows row_3 None None refl refl refl

one_or_two : (s : ℕ) → has_serial row_3.flushed s ≡ true → (1 ≡ s) ⊎ (2 ≡ s)
one_or_two zero h = cc
one_or_two (suc zero) h = inl refl
one_or_two (suc (suc zero)) h = inr refl
one_or_two (suc (suc (suc n))) h = grind (arith, nat_tests)

lawful_3 : LawfulRow turning three_rows row_3
unfolding fetch_address next_serial tailed
lawful_3 = record {
  form = record { behind = refl; listed = refl; ascending = (omega arith, tt) };
  moves = (refl, (refl, (refl, tt)));
  retires = one_retires turning_hand row_3 (jump None) (going 0 91 12) refl refl refl;
  holds = shows;
  successors = record {
    flushes = λ stage c x. flushes stage c x;
    named = λ quiet stage c x. named c (only_jump stage c x.stands x.settles).0;
    alone = λ quiet stage c stands s younger. absurd (younger 1 (passed None) (above stage (only_jump stage c stands s).1) refl);
    flushed_only = λ s h. elim (one_or_two s h) [
      | inl e ↦ inl (2, jump None, 1, passed None, right_mismatch, omega arith, refl, e)
      | inr e ↦ inl (2, jump None, 0, passed_too None, right_mismatch, omega arith, refl, e)
    ];
    named_only = λ a quiet e. (2, jump None, refl, right_mismatch.settles, jump_goes_on (row_3 ∷ three_rows) ∙ twelve a e, inl right_mismatch);
  };
  units = none_written turning_hand three_rows row_3 refl refl;
  takes = untaken turning_hand three_rows row_3 refl;
  stops = record {
    cause = λ stop s. cc;
    of_cell = λ stage c stop stands s. absurd (stops c stop (subst (λ n. Stands turning row_3 n c) s.executing stands) (subst (λ n. StopsRun turning three_rows row_3 n c stop) s.executing s));
    of_fetch = λ f o w. absurd (fetches w);
  };
} where
  right_mismatch : IsMismatch turning three_rows row_3 2 (jump None)
  right_mismatch = mismatch both (Some 12) refl

  stops : (c : Cell) (stop : Stop) → Stands turning row_3 1 c → StopsRun turning three_rows row_3 1 c stop → ⊥
  stops c stop stands s = same_cell (λ d. StopsRun turning three_rows row_3 1 d stop → ⊥) (passed None) c stands (λ r. r.free (Late 0) waits_3) s

  -- nothing is left, and the next fetch has a word
  fetches : ◌≡◌ {A = Option ℕ} (Some 1048691) None → ⊥
  fetches w = cc

  above : (stage : ℕ) → stage ≡ 2 → 1 < stage
  above stage e = omega (arith, e)

  twelve : (a : ℕ) → ◌≡◌ {A = Option ℕ} (Some 12) (Some a) → 12 ≡ a
  twelve a e = cc

  only_jump : (stage : ℕ) (c : Cell) → Stands turning row_3 stage c → Settles turning three_rows row_3 stage c → (jump None ≡ c) × (stage ≡ 2)
  only_jump zero c stands s = absurd (same_cell (λ d. leaves row_3 (Some d) ≡ name_of (Some d) → ⊥) (passed_too None) c stands (λ q. cc) s.leaves)
  only_jump (suc zero) c stands s = absurd (same_cell (λ d. leaves row_3 (Some d) ≡ name_of (Some d) → ⊥) (passed None) c stands (λ q. cc) s.leaves)
  only_jump (suc (suc zero)) c stands s = (same_cell (λ d. jump None ≡ d) (jump None) c stands refl, refl)
  only_jump (suc (suc (suc n))) c stands s = cc

  flushes : (stage : ℕ) (c : Cell) → IsMismatch turning three_rows row_3 stage c → (below : ℕ) (d : Cell) → below < stage → Stands turning row_3 below d → has_serial row_3.flushed d.serial ≡ true
  flushes stage c x zero d lt stands = same_cell (λ e. has_serial row_3.flushed e.serial ≡ true) (passed_too None) d stands refl
  flushes stage c x (suc zero) d lt stands = same_cell (λ e. has_serial row_3.flushed e.serial ≡ true) (passed None) d stands refl
  flushes stage c x (suc (suc n)) d lt stands = let e = (only_jump stage c x.stands x.settles).1 in absurd (omega (arith, lt, e))

  named : (c : Cell) → jump None ≡ c → ◌≡◌ {A = Option ℕ} (Some 12) (Some (successor turning (row_3 ∷ three_rows) c))
  named c e = subst (λ d. ◌≡◌ {A = Option ℕ} (Some 12) (Some (successor turning (row_3 ∷ three_rows) d))) e (ap Some (sym (jump_goes_on (row_3 ∷ three_rows))))

  shows : (stage : ℕ) (c : Cell) → Stands turning row_3 stage c → ShowsHold turning three_rows row_3 stage c
  shows zero c s = same_cell (λ d. ShowsHold turning three_rows row_3 0 d) (passed_too None) c s (shows_none turning three_rows row_3 0 (passed_too None) refl (λ alive runs g t. true_not_false alive))
  shows (suc zero) c s = same_cell (λ d. ShowsHold turning three_rows row_3 1 d) (passed None) c s (shows_none turning three_rows row_3 1 (passed None) refl (λ alive runs g t. true_not_false alive))
  shows (suc (suc zero)) c s = same_cell (λ d. ShowsHold turning three_rows row_3 2 d) (jump None) c s (shows_last turning_hand none_spawned three_rows row_3 (jump None) refl refl (omega arith))
  shows (suc (suc (suc n))) c s = cc

-- The row of the next fetch

abbrev four_rows : List Row
four_rows = row_3 ∷ three_rows

lawful_4 : LawfulRow turning four_rows row_4
unfolding fetch_address next_serial
lawful_4 = record {
  form = record { behind = refl; listed = refl; ascending = tt };
  moves = (refl, (refl, (refl, tt)));
  retires = none_retires turning_hand row_4 refl (λ c s l. cc);
  holds = shows;
  successors = none_settles turning_hand four_rows row_4 refl refl settles;
  units = none_written turning_hand four_rows row_4 refl refl;
  takes = untaken turning_hand four_rows row_4 refl;
  stops = no_stop turning_hand four_rows row_4 refl (λ c stop stands s. no_second c stands) (some_left turning_hand row_4 0 target (omega arith) refl refl);
} where
  no_second : (c : Cell) → Stands turning row_4 1 c → ⊥
  no_second c s = cc

  settles : (stage : ℕ) (c : Cell) → Stands turning row_4 stage c → Settles turning four_rows row_4 stage c → ⊥
  settles zero c stands s = same_cell (λ d. Settles turning four_rows row_4 0 d → ⊥) target c stands (λ r. at_front r.settling) s
  settles (suc zero) c stands s = cc
  settles (suc (suc zero)) c stands s = cc
  settles (suc (suc (suc n))) c stands s = cc

  shows : (stage : ℕ) (c : Cell) → Stands turning row_4 stage c → ShowsHold turning four_rows row_4 stage c
  shows zero c s =
      same_cell (λ d. ShowsHold turning four_rows row_4 0 d) target c s
      (shows_none turning four_rows row_4 0 target refl (λ alive runs g t. elim t [
        | inl o ↦ free_front four_rows row_4 target g o
        | inr b ↦ no_second b.1.0 b.1.1
      ]))
  shows (suc zero) c s = cc
  shows (suc (suc zero)) c s = cc
  shows (suc (suc (suc n))) c s = cc

-- The last row

abbrev five_rows : List Row
five_rows = row_4 ∷ four_rows

target_place : place (row_5 ∷ five_rows) 3 ≡ 1
unfolding place is_flushed
target_place = refl

target_due : IsDueToStop turning (row_5 ∷ five_rows) target Ebreak
target_due = ap turning.course.answer target_place

-- each older serial is retired or flushed
jump_retired : is_retired five_rows 0 ≡ true
unfolding is_retired
jump_retired = refl

both_flushed : (is_flushed (row_5 ∷ five_rows) 1 ≡ true) × (is_flushed (row_5 ∷ five_rows) 2 ≡ true)
unfolding is_flushed
both_flushed = (refl, refl)

none_older : (j : ℕ) → j < 3 → is_flushed (row_5 ∷ five_rows) j ≡ false → is_retired five_rows j ≡ true
none_older zero lt f = jump_retired
none_older (suc zero) lt f = absurd (true_not_false (sym both_flushed.0 ∙ f))
none_older (suc (suc zero)) lt f = absurd (true_not_false (sym both_flushed.1 ∙ f))
none_older (suc (suc (suc j))) lt f = absurd (omega (arith, lt))

target_stops : StopsRun turning five_rows row_5 1 target Ebreak
target_stops = record {
  executing = refl;
  due = target_due;
  free = no_own turning_hand none_spawned five_rows row_5 1 target (free_behind turning_hand none_spawned five_rows row_5 1 target none_older) refl (done_below turning_hand five_rows row_5 1 target (omega arith));
}

one_stop : (stop : Stop) → ◌≡◌ {A = StepAnswer} (Stopped Ebreak) (Stopped stop) → Ebreak ≡ stop
one_stop stop e = cc

lawful_5 : LawfulRow turning five_rows row_5
unfolding fetch_address next_serial
lawful_5 = record {
  form = record { behind = refl; listed = refl; ascending = tt };
  moves = (refl, (refl, (refl, tt)));
  retires = none_retires turning_hand row_5 refl (λ c s l. cc);
  holds = shows;
  successors = none_settles turning_hand five_rows row_5 refl refl settles;
  units = none_written turning_hand five_rows row_5 refl refl;
  takes = untaken turning_hand five_rows row_5 refl;
  stops = record {
    cause = λ stop e. inl (1, target, refl, subst (λ x. StopsRun turning five_rows row_5 1 target x) (the stop e) target_stops);
    of_cell = λ stage c stop stands s. of_cell c stop (subst (λ n. Stands turning row_5 n c) s.executing stands) s.due;
    of_fetch = λ f o w. absurd (some_left turning_hand row_5 1 target (omega arith) refl refl f);
  };
} where
  the : (stop : Stop) → ◌≡◌ {A = Option Stop} (Some Ebreak) (Some stop) → Ebreak ≡ stop
  the stop e = cc

  settles : (stage : ℕ) (c : Cell) → Stands turning row_5 stage c → Settles turning five_rows row_5 stage c → ⊥
  settles zero c stands s = cc
  settles (suc zero) c stands s = same_cell (λ d. Settles turning five_rows row_5 1 d → ⊥) target c stands (λ r. r.runs Ebreak target_stops) s
  settles (suc (suc zero)) c stands s = cc
  settles (suc (suc (suc n))) c stands s = cc

  of_cell : (c : Cell) (stop : Stop) → Stands turning row_5 1 c → IsDueToStop turning (row_5 ∷ five_rows) c stop → ◌≡◌ {A = Option Stop} (Some Ebreak) (Some stop)
  of_cell c stop stands due = same_cell (λ d. IsDueToStop turning (row_5 ∷ five_rows) d stop → ◌≡◌ {A = Option Stop} (Some Ebreak) (Some stop)) target c stands (λ q. ap Some (one_stop stop (sym target_due ∙ q))) due

  shows : (stage : ℕ) (c : Cell) → Stands turning row_5 stage c → ShowsHold turning five_rows row_5 stage c
  shows zero c s = cc
  shows (suc zero) c s =
      same_cell (λ d. ShowsHold turning five_rows row_5 1 d) target c s
      (shows_none turning five_rows row_5 1 target refl (λ alive runs g t. runs Ebreak target_stops))
  shows (suc (suc zero)) c s = cc
  shows (suc (suc (suc n))) c s = cc

pub turning_lawful : Lawful (λ places. turning) turning_rows
turning_lawful = (lawful_5, refl, (lawful_4, refl, (lawful_3, refl, (lawful_2, refl, (lawful_1, refl, (lawful_0, refl, tt))))))

-- Lists that are not lawful

pub unflushed_refused : IsUnlawful unflushed
unflushed_refused h = true_not_false (sym (h.0.successors.flushes 2 (jump None) (mismatch none_flushed (Some 12) refl) 1 (passed None) (omega arith) refl))

pub one_unflushed_refused : IsUnlawful one_unflushed
one_unflushed_refused h = true_not_false (sym (h.0.successors.flushes 2 (jump None) (mismatch (Some 1 ∷ replicate 4 None) (Some 12) refl) 0 (passed_too None) (omega arith) refl))

pub no_redirect_refused : IsUnlawful no_redirect
no_redirect_refused h = cc (h.0.successors.named refl 2 (jump None) (mismatch both None refl))

pub late_left_out_refused : IsUnlawful late_left_out
late_left_out_refused h =
    let wait = waits_2 None (newest late_left_out) refl refl in
    (h.0.holds 1 (passed None) refl).free refl refl (λ stop s. s.free (Late 0) wait) (Late 0) (inl wait)
