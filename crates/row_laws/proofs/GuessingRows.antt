-- The rows of the runs on a core that predicts are lawful, and those that differ in one thing are not.
use Rattle.std.proofs.Common.{◌≡◌, ℕ, List, [], ◌∷◌, Option, Some, None, refl, sym, ap, ◌∙◌, arith}
use Rattle.rv_core.specs.declared.Shape.{Shape}
use Rattle.rv_lawful.specs.Future.{future_file}
use Rattle.rv_lawful.specs.LawfulTrace.{fetch_address, next_serial, IsDueToStop, successor, IsMismatch, Lawful}
use Rattle.rv_lawful.specs.Outstanding.{units_after}
use Rattle.rv_seq.specs.declared.commit.Stop.{Stop}
use Rattle.rv_trace.specs.RowParts.{Name}
use Rattle.rv_trace.specs.Trace.{newest, is_flushed, is_retired, place, retirements}
use Rattle.row_laws.specs.Guessing.{nop, over_hand, jumping, over_0, over_1, over_2, over_rows, IsUnlawfulOver, next_word_fetched, IsLawfulPlain, IsUnlawfulPlain, jump_fetched, looping, back_0, back_1, back_2, back_3, back_4, back_two, back_rows, IsUnlawfulBack, never_guessed, guessed_ahead, miss_kept}
use Rattle.row_laws.specs.Hands.{on_core, by_hand, three, three_predicting}
use Rattle.row_laws.proofs.Stages.{true_not_false, no_custom}
use Rattle.row_laws.proofs.CalmTests.{IsCalm}
use Rattle.row_laws.proofs.CalmRows.{Judged, no_rows, next_row}

-- the address in a name
abbrev address_in : Option Name → ℕ
address_in None = 0
address_in (Some n) = n.1

-- Over an instruction

over_calm : (shape : Shape) → IsCalm (on_core shape over_hand)
over_calm shape = record { spawns = λ word. record { x = refl; customs = λ r. no_custom r; unit = refl }; tail = λ word. refl; unlate = λ word r. no_custom r }

-- the words that are fetched, by serials, where the jump is guessed
abbrev over_words : List ℕ
over_words = 19 ∷ 1048691 ∷ []

over_judged_0 : Judged jumping over_words (over_0 ∷ [])
unfolding fetch_address next_serial is_flushed is_retired place retirements units_after future_file
over_judged_0 =
    next_row jumping over_words (over_calm three_predicting) [] over_0 (no_rows jumping over_words) refl
    (record { form = record { behind = refl; listed = refl; ascending = tt }; moves = (refl, (refl, (refl, tt))); units = refl; taken = refl; tests = refl; redirect = refl; stop = refl })

over_judged_1 : Judged jumping over_words (over_1 ∷ over_0 ∷ [])
unfolding fetch_address next_serial is_flushed is_retired place retirements units_after future_file
over_judged_1 =
    next_row jumping over_words (over_calm three_predicting) (over_0 ∷ []) over_1 over_judged_0 refl
    (record { form = record { behind = refl; listed = refl; ascending = tt }; moves = (refl, (refl, (refl, tt))); units = refl; taken = refl; tests = refl; redirect = refl; stop = refl })

over_judged_2 : Judged jumping over_words (over_2 ∷ over_1 ∷ over_0 ∷ [])
unfolding fetch_address next_serial is_flushed is_retired place retirements units_after future_file
over_judged_2 =
    next_row jumping over_words (over_calm three_predicting) (over_1 ∷ over_0 ∷ []) over_2 over_judged_1 refl
    (record { form = record { behind = refl; listed = refl; ascending = tt }; moves = (refl, (refl, (refl, tt))); units = refl; taken = refl; tests = refl; redirect = refl; stop = refl })

pub over_lawful : Lawful (λ places. jumping) over_rows
over_lawful = over_judged_2.lawful

pub next_word_refused : IsUnlawfulOver next_word_fetched
unfolding fetch_address next_serial future_file
next_word_refused h = let e : ◌≡◌ {A = ℕ} 4 8 = ap address_in h.0.moves.0 in absurd (omega (arith, e))

-- on the core that does not predict

abbrev plain_words : List ℕ
plain_words = 19 ∷ 19 ∷ []

plain_judged_0 : Judged (by_hand over_hand) plain_words (over_0 ∷ [])
unfolding fetch_address next_serial is_flushed is_retired place retirements units_after future_file
plain_judged_0 =
    next_row (by_hand over_hand) plain_words (over_calm three) [] over_0 (no_rows (by_hand over_hand) plain_words) refl
    (record { form = record { behind = refl; listed = refl; ascending = tt }; moves = (refl, (refl, (refl, tt))); units = refl; taken = refl; tests = refl; redirect = refl; stop = refl })

plain_judged_1 : Judged (by_hand over_hand) plain_words ((newest next_word_fetched) ∷ over_0 ∷ [])
unfolding fetch_address next_serial is_flushed is_retired place retirements units_after future_file
plain_judged_1 =
    next_row (by_hand over_hand) plain_words (over_calm three) (over_0 ∷ []) (newest next_word_fetched) plain_judged_0 refl
    (record { form = record { behind = refl; listed = refl; ascending = tt }; moves = (refl, (refl, (refl, tt))); units = refl; taken = refl; tests = refl; redirect = refl; stop = refl })

pub next_word_lawful : IsLawfulPlain next_word_fetched
next_word_lawful = plain_judged_1.lawful

pub jump_fetched_refused : IsUnlawfulPlain jump_fetched
unfolding fetch_address next_serial future_file
jump_fetched_refused h = let e : ◌≡◌ {A = ℕ} 8 4 = ap address_in h.0.moves.0 in absurd (omega (arith, e))

-- Back to the first instruction

back_calm : IsCalm looping
back_calm = record { spawns = λ word. record { x = refl; customs = λ r. no_custom r; unit = refl }; tail = λ word. refl; unlate = λ word r. no_custom r }

abbrev back_words : List ℕ
back_words = 19 ∷ 19 ∷ 19 ∷ 1048691 ∷ []

back_judged_0 : Judged looping back_words (back_0 ∷ [])
unfolding fetch_address next_serial is_flushed is_retired place retirements units_after future_file
back_judged_0 =
    next_row looping back_words back_calm [] back_0 (no_rows looping back_words) refl
    (record { form = record { behind = refl; listed = refl; ascending = tt }; moves = (refl, (refl, (refl, tt))); units = refl; taken = refl; tests = refl; redirect = refl; stop = refl })

back_judged_1 : Judged looping back_words (back_1 ∷ back_0 ∷ [])
unfolding fetch_address next_serial is_flushed is_retired place retirements units_after future_file
back_judged_1 =
    next_row looping back_words back_calm (back_0 ∷ []) back_1 back_judged_0 refl
    (record { form = record { behind = refl; listed = refl; ascending = tt }; moves = (refl, (refl, (refl, tt))); units = refl; taken = refl; tests = refl; redirect = refl; stop = refl })

back_judged_2 : Judged looping back_words (back_2 ∷ back_two)
unfolding fetch_address next_serial is_flushed is_retired place retirements units_after future_file
back_judged_2 =
    next_row looping back_words back_calm back_two back_2 back_judged_1 refl
    (record { form = record { behind = refl; listed = refl; ascending = tt }; moves = (refl, (refl, (refl, tt))); units = refl; taken = refl; tests = refl; redirect = refl; stop = refl })

back_judged_3 : Judged looping back_words (back_3 ∷ back_2 ∷ back_two)
unfolding fetch_address next_serial is_flushed is_retired place retirements units_after future_file
back_judged_3 =
    next_row looping back_words back_calm (back_2 ∷ back_two) back_3 back_judged_2 refl
    (record { form = record { behind = refl; listed = refl; ascending = tt }; moves = (refl, (refl, (refl, tt))); units = refl; taken = refl; tests = refl; redirect = refl; stop = refl })

back_judged_4 : Judged looping back_words (back_4 ∷ back_3 ∷ back_2 ∷ back_two)
unfolding fetch_address next_serial is_flushed is_retired place retirements units_after future_file
back_judged_4 =
    next_row looping back_words back_calm (back_3 ∷ back_2 ∷ back_two) back_4 back_judged_3 refl
    (record { form = record { behind = refl; listed = refl; ascending = tt }; moves = (refl, (refl, (refl, tt))); units = refl; taken = refl; tests = refl; redirect = refl; stop = refl })

pub back_lawful : Lawful (λ places. looping) back_rows
back_lawful = back_judged_4.lawful

pub never_guessed_refused : IsUnlawfulBack never_guessed
unfolding fetch_address next_serial future_file
never_guessed_refused h = let e : ◌≡◌ {A = ℕ} 4 0 = ap address_in h.0.moves.0 in absurd (omega (arith, e))

pub guessed_ahead_refused : IsUnlawfulBack guessed_ahead
unfolding fetch_address next_serial future_file
guessed_ahead_refused h = let e : ◌≡◌ {A = ℕ} 4 0 = ap address_in h.0.moves.0 in absurd (omega (arith, e))

-- the second one does not stop the run, which goes on at address 4
second_runs : (stop : Stop) → IsDueToStop looping miss_kept (nop 1 0) stop → ⊥
unfolding place is_flushed
second_runs stop due = cc

second_goes_on : successor looping miss_kept (nop 1 0) ≡ 4
unfolding place is_flushed
second_goes_on = refl

missed : IsMismatch looping back_two (newest miss_kept) 1 (nop 1 0)
missed = record {
  stands = refl;
  settles = record { settling = refl; leaves = refl; runs = λ stop s. second_runs stop s.due };
  differs = (0, nop 2 0, record { lower = omega arith; stands = refl; nearest = λ between e a b s. absurd (omega (arith, a, b)) }, λ e. apart (e ∙ second_goes_on));
} where
  apart : ◌≡◌ {A = ℕ} 0 4 → ⊥
  apart e = absurd (omega (arith, e))

pub miss_kept_refused : IsUnlawfulBack miss_kept
miss_kept_refused h = true_not_false (sym (h.0.successors.flushes 1 (nop 1 0) missed 0 (nop 2 0) (omega arith) refl))
