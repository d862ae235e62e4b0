-- Lists that differ in one thing from the rows of the run in which an interrupt is taken are not lawful.
use Rattle.std.proofs.Common.{◌≡◌, ℕ, zero, suc, ◌<◌, ◌≤◌, [], Option, Some, None, refl, sym, arith, inl, inr}
use Rattle.ix_bits.specs.BaseTable.{base_patterns}
use Rattle.rv_isa.specs.Table.{row_of as base_row, format_of, base_formats}
use Rattle.rv_isa.specs.Fields.{fields_of}
use Rattle.rv_isa.specs.Decoded.{decoded}
use Rattle.rv_seq.specs.Decoding.{decoded_in}
use Rattle.rv_seq.specs.WordEffects.{effect_of, over, blocks_effect}
use Rattle.rv_lawful.specs.Answering.{rows_interrupted}
use Rattle.rv_lawful.specs.Entering.{places, pending, IsGone}
use Rattle.rv_lawful.specs.LawfulTrace.{WaitsForEntry, IsFlushedByMismatch, IsFlushedByEntry}
use Rattle.rv_lawful.specs.Settings.{Stands}
use Rattle.rv_seq.specs.Commits.{commit_of, applied}
use Rattle.rv_seq.specs.Interrupts.{diverted}
use Rattle.rv_seq.specs.Runs.{run_with}
use Rattle.rv_seq.specs.States.{first}
use Rattle.rv_seq.specs.Steps.{attempted, of_return, step}
use Rattle.rv_seq.specs.declared.commit.Stop.{Stop}
use Rattle.rv_seq.specs.declared.commit.Stop.TheVariants.{Ebreak}
use Rattle.rv_trace.specs.Trace.{newest, retirements}
use Rattle.rv_trace.specs.declared.row.Cell.{Cell}
use Rattle.rv_trace.specs.declared.row.Hold.TheVariants.{Trap, Wait, Behind}
use Rattle.row_laws.specs.Interrupting.{above_flushed, AnswersNotWithin, AnswersWithin, behind_alone, below_unflushed, break, counting, ex_unflushed, five_rows, four_rows, interrupted_rows, interrupting, IsUnlawful, IsUnlawfulIn, loading, never_taken, no_redirect, other_redirect, seven, stopped_before, taken_again, taken_at_retired, taken_at_youngest, taken_early, taken_unraised, trap_again, trap_left_out, trap_unraised, twice}
use Rattle.row_laws.proofs.Stages.{true_not_false, same_cell}

-- behind the row in which the load retires no cell stands above EX
clear : (stage : ℕ) (c : Cell) → 1 < stage → Stands (interrupting []) (newest never_taken) stage c → IsGone (interrupting []) (newest never_taken) stage c
clear zero c lt s = absurd (omega (arith, lt))
clear (suc zero) c lt s = absurd (omega (arith, lt))
clear (suc (suc zero)) c lt s = inr (refl, same_cell (λ d. d.hold ≡ None) (loading None) c s refl)
clear (suc (suc (suc n))) c lt s = cc

pub never_taken_refused : IsUnlawful never_taken
unfolding places pending retirements step run_with decoded_in attempted of_return effect_of over blocks_effect commit_of first applied diverted decoded base_row base_patterns fields_of format_of base_formats
never_taken_refused h = true_not_false (sym (h.0.takes.due refl clear))

pub taken_unraised_refused : IsUnlawful taken_unraised
unfolding places pending retirements step run_with decoded_in attempted of_return effect_of over blocks_effect commit_of first applied diverted decoded base_row base_patterns fields_of format_of base_formats
taken_unraised_refused h = true_not_false (sym (h.0.takes.taken 4 refl).interrupted)

pub trap_unraised_refused : IsUnlawful trap_unraised
unfolding places pending retirements step run_with decoded_in attempted of_return effect_of over blocks_effect commit_of first applied diverted decoded base_row base_patterns fields_of format_of base_formats
trap_unraised_refused h = elim ((h.0.holds 1 (loading (Some Trap)) refl).shown Trap refl) [
  | inl w ↦ true_not_false (sym w.interrupted)
  | inr b ↦ cc (b.0)
]

pub taken_early_refused : IsUnlawful taken_early
unfolding places
taken_early_refused h = elim ((h.0.takes.taken 4 refl).clear 2 (loading (Some (Wait 1))) (omega arith) refl) [ inl x ↦ true_not_false (sym x) | inr x ↦ cc (x.1) ]

pub taken_at_retired_refused : IsUnlawful taken_at_retired
unfolding places pending retirements step run_with decoded_in attempted of_return effect_of over blocks_effect commit_of first applied diverted decoded base_row base_patterns fields_of format_of base_formats
taken_at_retired_refused h = let e : ◌≡◌ {A = ℕ} 4 8 = (h.0.takes.taken 4 refl).value in absurd (omega (arith, e))

pub taken_at_youngest_refused : IsUnlawful taken_at_youngest
unfolding places pending retirements step run_with decoded_in attempted of_return effect_of over blocks_effect commit_of first applied diverted decoded base_row base_patterns fields_of format_of base_formats
taken_at_youngest_refused h = let e : ◌≡◌ {A = ℕ} 12 8 = (h.0.takes.taken 12 refl).value in absurd (omega (arith, e))

-- the cell of EX waits for the interrupt while the load does for the memory
trap : WaitsForEntry (interrupting []) four_rows 1
unfolding places pending retirements step run_with decoded_in attempted of_return effect_of over blocks_effect commit_of first applied diverted decoded base_row base_patterns fields_of format_of base_formats
trap = record { executing = refl; interrupted = refl }

pub trap_left_out_refused : IsUnlawful trap_left_out
unfolding places
trap_left_out_refused h = (h.0.holds 1 (seven 2 None) refl).free refl refl (λ stop s. s.free Trap trap) Trap (inl trap)

pub behind_alone_refused : IsUnlawful behind_alone
unfolding places
behind_alone_refused h = elim ((h.0.holds 1 (seven 2 (Some Behind)) refl).shown_first Behind Trap refl (inl trap)) [ inl x ↦ absurd (omega (arith, x)) | inr x ↦ let e = x.0 in absurd (omega (arith, e)) ]

pub below_unflushed_refused : IsUnlawful below_unflushed
unfolding places
below_unflushed_refused h = true_not_false (sym ((h.0.takes.taken 8 refl).flushed 0 (break 3 None) (omega arith) refl))

pub ex_unflushed_refused : IsUnlawful ex_unflushed
unfolding places
ex_unflushed_refused h = true_not_false (sym ((h.0.takes.taken 8 refl).flushed 1 (seven 2 None) (omega arith) refl))

-- the load is no cell at EX or below, nor is one above it
load_stays : IsFlushedByEntry (interrupting []) (newest above_flushed) 1 → ⊥
load_stays f = by_stage f.1 f.2 f.3 f.4 f.5 where
  by_stage : (stage : ℕ) (c : Cell) → stage ≤ 1 → Stands (interrupting []) (newest above_flushed) stage c → c.serial ≡ 1 → ⊥
  by_stage zero c le s e = let q : ◌≡◌ {A = ℕ} 3 1 = same_cell (λ d. d.serial ≡ 1 → ◌≡◌ {A = ℕ} 3 1) (break 3 None) c s (λ x. x) e in absurd (omega (arith, q))
  by_stage (suc zero) c le s e = let q : ◌≡◌ {A = ℕ} 2 1 = same_cell (λ d. d.serial ≡ 1 → ◌≡◌ {A = ℕ} 2 1) (seven 2 None) c s (λ x. x) e in absurd (omega (arith, q))
  by_stage (suc (suc n)) c le s e = absurd (omega (arith, le))

none_above : IsFlushedByMismatch (interrupting []) five_rows (newest above_flushed) 1 → ⊥
none_above f = by_stage f.0 f.1 f.2 f.3 f.4.stands f.5 f.6 f.7 where
  by_stage : (stage : ℕ) (c : Cell) (below : ℕ) (d : Cell) → Stands (interrupting []) (newest above_flushed) stage c → below < stage → Stands (interrupting []) (newest above_flushed) below d → d.serial ≡ 1 → ⊥
  by_stage stage c zero d s lt t e = let q : ◌≡◌ {A = ℕ} 3 1 = same_cell (λ x. x.serial ≡ 1 → ◌≡◌ {A = ℕ} 3 1) (break 3 None) d t (λ x. x) e in absurd (omega (arith, q))
  by_stage stage c (suc zero) d s lt t e = let q : ◌≡◌ {A = ℕ} 2 1 = same_cell (λ x. x.serial ≡ 1 → ◌≡◌ {A = ℕ} 2 1) (seven 2 None) d t (λ x. x) e in absurd (omega (arith, q))
  by_stage (suc (suc (suc n))) c (suc (suc m)) d s lt t e = cc
  by_stage zero c (suc (suc m)) d s lt t e = absurd (omega (arith, lt))
  by_stage (suc zero) c (suc (suc m)) d s lt t e = absurd (omega (arith, lt))
  by_stage (suc (suc zero)) c (suc (suc m)) d s lt t e = absurd (omega (arith, lt))

pub above_flushed_refused : IsUnlawful above_flushed
unfolding places
above_flushed_refused h = elim (h.0.successors.flushed_only 1 refl) [ inl x ↦ none_above x | inr x ↦ load_stays x ]

pub no_redirect_refused : IsUnlawful no_redirect
unfolding places
no_redirect_refused h = cc ((h.0.takes.taken 8 refl).redirected)

the_address : (a b : ℕ) → ◌≡◌ {A = Option ℕ} (Some a) (Some b) → a ≡ b
the_address a b e = cc

pub other_redirect_refused : IsUnlawful other_redirect
unfolding places
other_redirect_refused h = let e = the_address 8 16 (h.0.takes.taken 8 refl).redirected in absurd (omega (arith, e))

-- the line is no longer pending, and where it is raised once more, no interrupt is taken in the handler
pub taken_again_refused : IsUnlawful taken_again
unfolding places pending retirements step run_with decoded_in attempted of_return effect_of over blocks_effect commit_of first applied diverted decoded base_row base_patterns fields_of format_of base_formats
taken_again_refused h = true_not_false (sym (h.0.takes.taken 16 refl).interrupted)

pub taken_in_handler_refused : IsUnlawfulIn twice taken_again
unfolding places pending retirements step run_with decoded_in attempted of_return effect_of over blocks_effect commit_of first applied diverted decoded base_row base_patterns fields_of format_of base_formats
taken_in_handler_refused h = true_not_false (sym (h.0.takes.taken 16 refl).interrupted)

pub trap_again_refused : IsUnlawful trap_again
unfolding places pending retirements step run_with decoded_in attempted of_return effect_of over blocks_effect commit_of first applied diverted decoded base_row base_patterns fields_of format_of base_formats
trap_again_refused h = elim ((h.0.holds 1 (counting 4 (Some Trap)) refl).shown Trap refl) [
  | inl w ↦ true_not_false (sym w.interrupted)
  | inr b ↦ cc (b.0)
]

pub trap_in_handler_refused : IsUnlawfulIn twice trap_again
unfolding places pending retirements step run_with decoded_in attempted of_return effect_of over blocks_effect commit_of first applied diverted decoded base_row base_patterns fields_of format_of base_formats
trap_in_handler_refused h = elim ((h.0.holds 1 (counting 4 (Some Trap)) refl).shown Trap refl) [
  | inl w ↦ true_not_false (sym w.interrupted)
  | inr b ↦ cc (b.0)
]

-- How long an interrupt waits

no_stop : (stop : Stop) → ◌≡◌ {A = Option Stop} None (Some stop) → ⊥
no_stop stop e = cc

pub answers_in_time : AnswersWithin 1 interrupted_rows
unfolding rows_interrupted places pending retirements step run_with decoded_in attempted of_return effect_of over blocks_effect commit_of first applied diverted decoded base_row base_patterns fields_of format_of base_formats
answers_in_time = (
  omega arith,
  λ stop e due. absurd (true_not_false (sym due)),
  (
    omega arith,
    λ stop e. absurd (no_stop stop e),
    (
      omega arith,
      λ stop e. absurd (no_stop stop e),
      (
        omega arith,
        λ stop e. absurd (no_stop stop e),
        (
          omega arith,
          λ stop e. absurd (no_stop stop e),
          (
            omega arith,
            λ stop e. absurd (no_stop stop e),
            (
              omega arith,
              λ stop e. absurd (no_stop stop e),
              (
                omega arith,
                λ stop e. absurd (no_stop stop e),
                (
                  omega arith,
                  λ stop e. absurd (no_stop stop e),
                  (
                    omega arith,
                    λ stop e. absurd (no_stop stop e),
                    (
                      omega arith,
                      λ stop e. absurd (no_stop stop e),
                      (
                        omega arith,
                        λ stop e. absurd (no_stop stop e),
                        tt,
                      ),
                    ),
                  ),
                ),
              ),
            ),
          ),
        ),
      ),
    ),
  ),
)

pub answers_late_refused : AnswersNotWithin 1 never_taken
unfolding rows_interrupted places pending retirements step run_with decoded_in attempted of_return effect_of over blocks_effect commit_of first applied diverted decoded base_row base_patterns fields_of format_of base_formats
answers_late_refused h = let le : 2 ≤ 1 = h.0 in absurd (omega (arith, le))

pub stopped_before_refused : (bound : ℕ) → AnswersNotWithin bound stopped_before
unfolding places pending retirements step run_with decoded_in attempted of_return effect_of over blocks_effect commit_of first applied diverted decoded base_row base_patterns fields_of format_of base_formats
stopped_before_refused bound h = true_not_false (sym (h.1 Ebreak refl refl))
