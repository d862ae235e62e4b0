-- The rows of the run that goes on elsewhere are lawful, and those that differ in one thing are not.
use Rattle.std.proofs.Common.{◌≡◌, ℕ, zero, suc, ◌<◌, List, [], ◌∷◌, Option, Some, None, true, false, refl, sym, ap, ◌∙◌, subst, arith, inl, inr}
use Rattle.std.specs.Prelude.{replicate}
use Rattle.std.proofs.lemmas.Bool.Decides.{nat_tests}
use Rattle.rv_lawful.specs.LawfulTrace.{fetch_address, next_serial, IsDueToStop, OwnHold, StopsRun, ShowsHold, Settles, successor, IsMismatch, LawfulRow, Lawful}
use Rattle.rv_lawful.specs.Settings.{Stands, tailed}
use Rattle.rv_seq.specs.declared.answer.StepAnswer.{StepAnswer}
use Rattle.rv_seq.specs.declared.answer.StepAnswer.TheVariants.{Stopped}
use Rattle.rv_seq.specs.declared.commit.Stop.{Stop}
use Rattle.rv_seq.specs.declared.commit.Stop.TheVariants.{Ebreak}
use Rattle.rv_trace.specs.Trace.{has_serial, is_flushed, is_retired, place}
use Rattle.rv_trace.specs.declared.row.Cell.{Cell}
use Rattle.rv_trace.specs.declared.row.Hold.{Hold}
use Rattle.rv_trace.specs.declared.row.Row.{Row}
use Rattle.row_laws.specs.Detour.{detour_hand, detour, leaping, passed, target, row_0, turn_row, row_1, row_2, last_row, row_3, two_rows, three_rows, detour_rows, IsUnlawful, unflushed, no_redirect, missing_stop}
use Rattle.row_laws.specs.Hands.{going, none_flushed}
use Rattle.row_laws.proofs.Stages.{SpawnsNone, none_written, untaken, true_not_false, no_custom, same_cell, free_outside, free_behind, done_below, no_own, shows_none, shows_last, none_settles, no_stop, some_left, none_retires, one_retires}

at_front : ◌≡◌ {A = ℕ} 0 1 → ⊥
at_front e = absurd (omega (arith, e))

at_end : ◌≡◌ {A = ℕ} 2 1 → ⊥
at_end e = absurd (omega (arith, e))

none_spawned : SpawnsNone detour_hand
none_spawned word = record { x = refl; customs = λ r. no_custom r; unit = refl }

free_front : (earlier : List Row) (row : Row) (c : Cell) (g : Hold) → OwnHold detour earlier row 0 c g → ⊥
free_front earlier row c g o = no_own detour_hand none_spawned earlier row 0 c (free_outside detour_hand earlier row 0 c at_front) refl (done_below detour_hand earlier row 0 c (omega arith)) g o

free_ex : (earlier : List Row) (row : Row) (c : Cell) → ((j : ℕ) → j < c.serial → is_flushed (row ∷ earlier) j ≡ false → is_retired earlier j ≡ true) → (g : Hold) → OwnHold detour earlier row 1 c g → ⊥
free_ex earlier row c done g o = no_own detour_hand none_spawned earlier row 1 c (free_behind detour_hand none_spawned earlier row 1 c done) refl (done_below detour_hand earlier row 1 c (omega arith)) g o

leaping_runs : (rows : List Row) (stop : Stop) → IsDueToStop detour rows leaping stop → ⊥
unfolding place
leaping_runs rows stop e = cc

-- The first row

lawful_0 : LawfulRow detour [] row_0
unfolding fetch_address next_serial
lawful_0 = record {
  form = record { behind = refl; listed = refl; ascending = tt };
  moves = (refl, (refl, (refl, tt)));
  retires = none_retires detour_hand row_0 refl (λ c s l. cc);
  holds = shows;
  successors = none_settles detour_hand [] row_0 refl refl (λ stage c stands s. no_second c (subst (λ n. Stands detour row_0 n c) s.settling stands));
  units = none_written detour_hand [] row_0 refl refl;
  takes = untaken detour_hand [] row_0 refl;
  stops = no_stop detour_hand [] row_0 refl (λ c stop stands s. no_second c stands) (some_left detour_hand row_0 0 leaping (omega arith) refl refl);
} where
  no_second : (c : Cell) → Stands detour row_0 1 c → ⊥
  no_second c s = cc

  shows : (stage : ℕ) (c : Cell) → Stands detour row_0 stage c → ShowsHold detour [] row_0 stage c
  shows zero c s =
      same_cell (λ d. ShowsHold detour [] row_0 0 d) leaping c s
      (shows_none detour [] row_0 0 leaping refl (λ alive runs g t. elim t [
        | inl o ↦ free_front [] row_0 leaping g o
        | inr b ↦ no_second b.1.0 b.1.1
      ]))
  shows (suc zero) c s = cc
  shows (suc (suc zero)) c s = cc
  shows (suc (suc (suc n))) c s = cc

-- The first instruction leaves EX, with any flush of others and any redirect

goes_on : (rows : List Row) → successor detour rows leaping ≡ 8
unfolding place
goes_on rows = refl

mismatch : (flushed : List (Option ℕ)) (redirect : Option ℕ) → has_serial flushed 0 ≡ false → IsMismatch detour (row_0 ∷ []) (turn_row flushed redirect) 1 leaping
mismatch flushed redirect f = record {
  stands = refl;
  settles = record { settling = refl; leaves = rw f refl; runs = λ stop s. leaping_runs (turn_row flushed redirect ∷ row_0 ∷ []) stop s.due };
  differs = (0, passed, record { lower = omega arith; stands = refl; nearest = λ between e a b s. absurd (omega (arith, a, b)) }, λ e. absurd (other (e ∙ goes_on (turn_row flushed redirect ∷ row_0 ∷ []))));
} where
  other : ◌≡◌ {A = ℕ} 4 8 → ⊥
  other e = absurd (omega (arith, e))

one : (s : ℕ) → has_serial row_1.flushed s ≡ true → 1 ≡ s
one s h = grind (arith, nat_tests)

lawful_1 : LawfulRow detour (row_0 ∷ []) row_1
unfolding fetch_address next_serial
lawful_1 = record {
  form = record { behind = refl; listed = refl; ascending = tt };
  moves = (refl, (refl, (refl, tt)));
  retires = none_retires detour_hand row_1 refl (λ c s l. cc);
  holds = shows;
  successors = record {
    flushes = λ stage c x. flushes stage c x;
    named = λ quiet stage c x. same_cell (λ d. ◌≡◌ {A = Option ℕ} (Some 8) (Some (successor detour two_rows d))) leaping c (second stage c x.settles.settling x.stands) (ap Some (sym (goes_on two_rows)));
    alone = λ quiet stage c stands s younger. absurd (younger 0 passed (above stage s.settling) refl);
    flushed_only = λ s h. inl (1, leaping, 0, passed, right_mismatch, omega arith, refl, one s h);
    named_only = λ a quiet e. (1, leaping, refl, right_mismatch.settles, goes_on two_rows ∙ eight a e, inl right_mismatch);
  };
  units = none_written detour_hand (row_0 ∷ []) row_1 refl refl;
  takes = untaken detour_hand (row_0 ∷ []) row_1 refl;
  stops = no_stop detour_hand (row_0 ∷ []) row_1 refl (λ c stop stands s. same_cell (λ d. StopsRun detour (row_0 ∷ []) row_1 1 d stop → ⊥) leaping c stands (λ r. leaping_runs two_rows stop r.due) s)
      (some_left detour_hand row_1 1 leaping (omega arith) refl refl);
} where
  right_mismatch : IsMismatch detour (row_0 ∷ []) row_1 1 leaping
  right_mismatch = mismatch (Some 1 ∷ replicate 4 None) (Some 8) refl

  above : (stage : ℕ) → stage ≡ 1 → 0 < stage
  above stage e = omega (arith, e)

  second : (stage : ℕ) (c : Cell) → stage ≡ 1 → Stands detour row_1 stage c → Stands detour row_1 1 c
  second stage c e stands = subst (λ n. Stands detour row_1 n c) e stands

  eight : (a : ℕ) → ◌≡◌ {A = Option ℕ} (Some 8) (Some a) → 8 ≡ a
  eight a e = cc

  flushes : (stage : ℕ) (c : Cell) → IsMismatch detour (row_0 ∷ []) row_1 stage c → (below : ℕ) (d : Cell) → below < stage → Stands detour row_1 below d → has_serial row_1.flushed d.serial ≡ true
  flushes stage c x zero d lt stands = same_cell (λ e. has_serial row_1.flushed e.serial ≡ true) passed d stands refl
  flushes stage c x (suc n) d lt stands = let e = x.settles.settling in absurd (omega (arith, lt, e))

  shows : (stage : ℕ) (c : Cell) → Stands detour row_1 stage c → ShowsHold detour (row_0 ∷ []) row_1 stage c
  shows zero c s = same_cell (λ d. ShowsHold detour (row_0 ∷ []) row_1 0 d) passed c s (shows_none detour (row_0 ∷ []) row_1 0 passed refl (λ alive runs g t. true_not_false alive))
  shows (suc zero) c s =
      same_cell (λ d. ShowsHold detour (row_0 ∷ []) row_1 1 d) leaping c s
      (shows_none detour (row_0 ∷ []) row_1 1 leaping refl (λ alive runs g t. elim t [
        | inl o ↦ free_ex (row_0 ∷ []) row_1 leaping (λ j lt _. absurd (omega (arith, lt))) g o
        | inr b ↦ cc (b.1.1)
      ]))
  shows (suc (suc zero)) c s = cc
  shows (suc (suc (suc n))) c s = cc

-- The row of the next fetch

lawful_2 : LawfulRow detour two_rows row_2
unfolding fetch_address next_serial tailed
lawful_2 = record {
  form = record { behind = refl; listed = refl; ascending = tt };
  moves = (refl, (refl, (refl, tt)));
  retires = one_retires detour_hand row_2 leaping (going 0 19 8) refl refl refl;
  holds = shows;
  successors = none_settles detour_hand two_rows row_2 refl refl (λ stage c stands s. no_second c (subst (λ n. Stands detour row_2 n c) s.settling stands));
  units = none_written detour_hand two_rows row_2 refl refl;
  takes = untaken detour_hand two_rows row_2 refl;
  stops = no_stop detour_hand two_rows row_2 refl (λ c stop stands s. no_second c stands) (some_left detour_hand row_2 0 target (omega arith) refl refl);
} where
  no_second : (c : Cell) → Stands detour row_2 1 c → ⊥
  no_second c s = cc

  shows : (stage : ℕ) (c : Cell) → Stands detour row_2 stage c → ShowsHold detour two_rows row_2 stage c
  shows zero c s =
      same_cell (λ d. ShowsHold detour two_rows row_2 0 d) target c s
      (shows_none detour two_rows row_2 0 target refl (λ alive runs g t. elim t [
        | inl o ↦ free_front two_rows row_2 target g o
        | inr b ↦ no_second b.1.0 b.1.1
      ]))
  shows (suc zero) c s = cc
  shows (suc (suc zero)) c s = same_cell (λ d. ShowsHold detour two_rows row_2 2 d) leaping c s (shows_last detour_hand none_spawned two_rows row_2 leaping refl refl (omega arith))
  shows (suc (suc (suc n))) c s = cc

-- The last row, with any stop

target_place : (stop : Option Stop) → place (last_row stop ∷ three_rows) 2 ≡ 1
unfolding place is_flushed
target_place stop = refl

target_due : (stop : Option Stop) → IsDueToStop detour (last_row stop ∷ three_rows) target Ebreak
target_due stop = ap detour.course.answer (target_place stop)

passed_flushed : (stop : Option Stop) → is_flushed (last_row stop ∷ three_rows) 1 ≡ true
unfolding is_flushed
passed_flushed stop = refl

-- each older serial is retired or flushed
none_older : (stop : Option Stop) (j : ℕ) → j < 2 → is_flushed (last_row stop ∷ three_rows) j ≡ false → is_retired three_rows j ≡ true
unfolding is_retired
none_older stop zero lt f = refl
none_older stop (suc zero) lt f = absurd (true_not_false (sym (passed_flushed stop) ∙ f))
none_older stop (suc (suc j)) lt f = absurd (omega (arith, lt))

target_stops : (stop : Option Stop) → StopsRun detour three_rows (last_row stop) 1 target Ebreak
target_stops stop = record { executing = refl; due = target_due stop; free = free_ex three_rows (last_row stop) target (none_older stop) }

one_stop : (stop : Stop) → ◌≡◌ {A = StepAnswer} (Stopped Ebreak) (Stopped stop) → Ebreak ≡ stop
one_stop stop e = cc

lawful_3 : LawfulRow detour three_rows row_3
unfolding fetch_address next_serial
lawful_3 = record {
  form = record { behind = refl; listed = refl; ascending = tt };
  moves = (refl, (refl, (refl, tt)));
  retires = none_retires detour_hand row_3 refl (λ c s l. cc);
  holds = shows;
  successors = none_settles detour_hand three_rows row_3 refl refl settles;
  units = none_written detour_hand three_rows row_3 refl refl;
  takes = untaken detour_hand three_rows row_3 refl;
  stops = record {
    cause = λ stop e. inl (1, target, refl, subst (λ x. StopsRun detour three_rows row_3 1 target x) (the stop e) (target_stops (Some Ebreak)));
    of_cell = λ stage c stop stands s. of_cell c stop (subst (λ n. Stands detour row_3 n c) s.executing stands) s.due;
    of_fetch = λ f o w. absurd (some_left detour_hand row_3 1 target (omega arith) refl refl f);
  };
} where
  the : (stop : Stop) → ◌≡◌ {A = Option Stop} (Some Ebreak) (Some stop) → Ebreak ≡ stop
  the stop e = cc

  settles : (stage : ℕ) (c : Cell) → Stands detour row_3 stage c → Settles detour three_rows row_3 stage c → ⊥
  settles zero c stands s = cc
  settles (suc zero) c stands s = same_cell (λ d. Settles detour three_rows row_3 1 d → ⊥) target c stands (λ r. r.runs Ebreak (target_stops (Some Ebreak))) s
  settles (suc (suc n)) c stands s = let e = s.settling in absurd (omega (arith, e))

  of_cell : (c : Cell) (stop : Stop) → Stands detour row_3 1 c → IsDueToStop detour detour_rows c stop → ◌≡◌ {A = Option Stop} (Some Ebreak) (Some stop)
  of_cell c stop stands due = same_cell (λ d. IsDueToStop detour detour_rows d stop → ◌≡◌ {A = Option Stop} (Some Ebreak) (Some stop)) target c stands (λ q. ap Some (one_stop stop (sym (target_due (Some Ebreak)) ∙ q))) due

  shows : (stage : ℕ) (c : Cell) → Stands detour row_3 stage c → ShowsHold detour three_rows row_3 stage c
  shows zero c s = cc
  shows (suc zero) c s =
      same_cell (λ d. ShowsHold detour three_rows row_3 1 d) target c s
      (shows_none detour three_rows row_3 1 target refl (λ alive runs g t. runs Ebreak (target_stops (Some Ebreak))))
  shows (suc (suc zero)) c s = cc
  shows (suc (suc (suc n))) c s = cc

pub detour_lawful : Lawful (λ places. detour) detour_rows
detour_lawful = (lawful_3, refl, (lawful_2, refl, (lawful_1, refl, (lawful_0, refl, tt))))

-- Lists that are not lawful

pub unflushed_refused : IsUnlawful unflushed
unflushed_refused h = true_not_false (sym (h.0.successors.flushes 1 leaping (mismatch none_flushed (Some 8) refl) 0 passed (omega arith) refl))

pub no_redirect_refused : IsUnlawful no_redirect
no_redirect_refused h = cc (h.0.successors.named refl 1 leaping (mismatch (Some 1 ∷ replicate 4 None) None refl))

pub missing_stop_refused : IsUnlawful missing_stop
missing_stop_refused h = cc (h.0.stops.of_cell 1 target Ebreak refl (target_stops None))
