-- The rows of the run in which an interrupt is taken behind a late jump are lawful, and those that differ in one thing are not.
use Rattle.std.proofs.Common.{◌≡◌, ℕ, zero, suc, ◌<◌, List, [], ◌∷◌, Option, Some, None, Bool, true, false, refl, sym, arith, inr}
use Rattle.std.specs.Prelude.{get_or, if◌then◌else◌, ◌==◌}
use Rattle.rv_asks.specs.declared.asks.Asks.{Asks}
use Rattle.rv_lawful.specs.Entering.{places, pending, IsGone}
use Rattle.rv_lawful.specs.LawfulTrace.{fetch_address, next_serial, Lawful}
use Rattle.rv_lawful.specs.Outstanding.{units_after}
use Rattle.rv_lawful.specs.Settings.{Stands}
use Rattle.rv_lawful.specs.Sight.{SpawnsNothing}
use Rattle.rv_trace.specs.Trace.{newest, is_flushed, is_retired, place, retirements}
use Rattle.rv_trace.specs.declared.row.Cell.{Cell}
use Rattle.row_laws.specs.Hands.{quiet}
use Rattle.row_laws.specs.LateEntry.{IsUnlawful, jump, jump_alone, jump_followed, late_asks, late_entry, late_rows, row_0, row_1, row_2, row_3, taken_at_flushed, two_rows}
use Rattle.row_laws.proofs.Stages.{true_not_false, no_custom, same_cell}
use Rattle.row_laws.proofs.CalmTests.{IsCalm}
use Rattle.row_laws.proofs.CalmRows.{JudgedBy, no_rows_by, row_by, entry_by}

-- the words that are fetched, by serials
abbrev words : List ℕ
words = 91 ∷ 19 ∷ 19 ∷ 19 ∷ []

-- what holds of the late jump and of an instruction of which nothing is asked holds of each
either_word : (P : Asks → Type 0) (word : ℕ) → P (late_asks 91) → P quiet → P (late_asks word)
either_word P word late other = by_test (word == 91) where
  by_test : (b : Bool) → P (if b then late_asks 91 else quiet)
  by_test true = late
  by_test false = other

calm : (places : List ℕ) → IsCalm (late_entry places)
calm places = record {
  spawns = λ word. either_word SpawnsNothing word (record { x = refl; customs = λ r. no_custom r; unit = refl }) (record { x = refl; customs = λ r. no_custom r; unit = refl });
  tail = λ word. either_word (λ a. a.tail ≡ 0) word refl refl;
  unlate = λ word r. either_word (λ a. get_or a.late_customs r false ≡ false) word (no_custom r) (no_custom r);
}

judged_0 : JudgedBy late_entry words (row_0 ∷ [])
unfolding places pending fetch_address next_serial is_flushed is_retired place retirements units_after
judged_0 =
    row_by late_entry words [] row_0 (calm []) refl (no_rows_by late_entry words) refl
    (record { form = record { behind = refl; listed = refl; ascending = tt }; moves = (refl, (refl, (refl, tt))); units = refl; taken = refl; tests = refl; redirect = refl; stop = refl })

judged_1 : JudgedBy late_entry words two_rows
unfolding places pending fetch_address next_serial is_flushed is_retired place retirements units_after
judged_1 =
    row_by late_entry words (row_0 ∷ []) row_1 (calm []) refl judged_0 refl
    (record { form = record { behind = refl; listed = refl; ascending = tt }; moves = (refl, (refl, (refl, tt))); units = refl; taken = refl; tests = refl; redirect = refl; stop = refl })

judged_2 : JudgedBy late_entry words (row_2 ∷ two_rows)
unfolding places pending fetch_address next_serial is_flushed is_retired place retirements units_after
judged_2 =
    entry_by late_entry words two_rows row_2 12 (calm []) refl judged_1 refl
    (record { form = record { behind = refl; listed = refl; ascending = (omega arith, tt) }; moves = (refl, (refl, (refl, tt))); units = refl; interrupted = refl; taken = refl; value = refl; tests = refl; redirect = refl; stop = refl })

judged_3 : JudgedBy late_entry words late_rows
unfolding places pending fetch_address next_serial is_flushed is_retired place retirements units_after
judged_3 =
    row_by late_entry words (row_2 ∷ two_rows) row_3 (calm (1 ∷ [])) refl judged_2 refl
    (record { form = record { behind = refl; listed = refl; ascending = tt }; moves = (refl, (refl, (refl, tt))); units = refl; taken = refl; tests = refl; redirect = refl; stop = refl })

pub late_lawful : Lawful late_entry late_rows
late_lawful = judged_3.lawful

pub taken_at_flushed_refused : IsUnlawful taken_at_flushed
unfolding places pending retirements
taken_at_flushed_refused h = let e : ◌≡◌ {A = ℕ} 4 12 = (h.0.takes.taken 4 refl).value in absurd (omega (arith, e))

the_address : (a b : ℕ) → ◌≡◌ {A = Option ℕ} (Some a) (Some b) → a ≡ b
the_address a b e = cc

pub jump_followed_refused : IsUnlawful jump_followed
unfolding places
jump_followed_refused h = let e = the_address 12 16 (h.0.takes.taken 12 refl).redirected in absurd (omega (arith, e))

-- behind the row in which the jump retires no cell stands above EX
clear : (stage : ℕ) (c : Cell) → 1 < stage → Stands (late_entry []) (newest jump_alone) stage c → IsGone (late_entry []) (newest jump_alone) stage c
clear zero c lt s = absurd (omega (arith, lt))
clear (suc zero) c lt s = absurd (omega (arith, lt))
clear (suc (suc zero)) c lt s = inr (refl, same_cell (λ d. d.hold ≡ None) jump c s refl)
clear (suc (suc (suc n))) c lt s = cc

pub jump_alone_refused : IsUnlawful jump_alone
unfolding places pending retirements
jump_alone_refused h = true_not_false (sym (h.0.takes.due refl clear))
