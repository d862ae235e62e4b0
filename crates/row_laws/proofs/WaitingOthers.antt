-- Lists that differ in one thing from the rows of the runs in which a store and a load wait for the memory are not lawful.
use Rattle.std.proofs.Common.{◌≡◌, ℕ, ◌+◌, List, [], ◌∷◌, Some, None, false, refl, sym, ◌∙◌, arith, inl, inr}
use Rattle.std.specs.Prelude.{◌==◌}
use Rattle.ix_bits.specs.BaseTable.{base_patterns}
use Rattle.rv_isa.specs.Table.{row_of as base_row, format_of, base_formats}
use Rattle.rv_isa.specs.Fields.{fields_of}
use Rattle.rv_isa.specs.Decoded.{decoded}
use Rattle.rv_seq.specs.Decoding.{decoded_in}
use Rattle.rv_seq.specs.WordEffects.{effect_of, over, blocks_effect}
use Rattle.rv_lawful.specs.LawfulTrace.{WaitsToDrain, WaitsForMemory, WaitsForStore, OwnHold, Lawful}
use Rattle.rv_lawful.specs.Settings.{Setting, Stands, stages_of, accesses_before, stood}
use Rattle.rv_seq.specs.Commits.{commit_of, applied}
use Rattle.rv_seq.specs.Runs.{run_with}
use Rattle.rv_seq.specs.States.{first}
use Rattle.rv_seq.specs.Steps.{attempted, step}
use Rattle.rv_trace.specs.RowParts.{ComesFirst}
use Rattle.rv_trace.specs.Trace.{newest, is_flushed, is_retired, place}
use Rattle.rv_trace.specs.declared.row.Cell.{Cell}
use Rattle.rv_trace.specs.declared.row.Hold.{Hold}
use Rattle.rv_trace.specs.declared.row.Hold.TheVariants.{Drain, Wait, StoreAhead, Behind}
use Rattle.rv_trace.specs.declared.row.Row.{Row}
use Rattle.row_laws.specs.Waiting.{store, load, break, seven_rows, slow_store, store_7, store_10, store_nine, store_ten, IsUnlawfulStore, wait_one_less, wait_one_more, wait_stands_still, wait_left_out, waits_longer, load_passes, ahead_of_another, ahead_longer, drain_left_out, behind_alone, drains_retired, stops_early, slow_load, load_8, load_eight, IsUnlawfulLoad, store_waits, ahead_before_wait, waits_once, stops_beside}
use Rattle.row_laws.proofs.Stages.{true_not_false, left_unretired, idle}
use Rattle.row_laws.proofs.CalmTests.{equal, any_cell, any_there, wait_of, waits_for, stands_ahead, store_not, drains_then}
use Rattle.row_laws.proofs.WaitingRows.{calm}

-- What lawful rows show

-- a hold that is shown is true
shown_is : (k : Setting) (earlier : List Row) (row : Row) (stage : ℕ) (c : Cell) (g : Hold) → Lawful (λ places. k) (row ∷ earlier) → Stands k row stage c → c.hold ≡ Some g → (g ≡ Behind → ⊥) → OwnHold k earlier row stage c g
shown_is k earlier row stage c g h stands e other = elim ((h.0.holds stage c stands).shown g e) [ inl w ↦ w | inr b ↦ absurd (other b.0) ]

-- and comes before what else is true of the cell
shown_before : (k : Setting) (earlier : List Row) (row : Row) (stage : ℕ) (c : Cell) (g f : Hold) → Lawful (λ places. k) (row ∷ earlier) → Stands k row stage c → c.hold ≡ Some g → OwnHold k earlier row stage c f → ComesFirst g f
shown_before k earlier row stage c g f h stands e own = (h.0.holds stage c stands).shown_first g f e (inl own)

-- no cell shows a Wait that does not count the rows that are left
wrong_wait : (k : Setting) (earlier : List Row) (row : Row) (stage : ℕ) (c : Cell) (left : ℕ) → Lawful (λ places. k) (row ∷ earlier) → Stands k row stage c → c.hold ≡ Some (Wait left)
    → (left + stood k earlier c.serial == wait_of k (row ∷ earlier) c) ≡ false → ⊥
wrong_wait k earlier row stage c left h stands e t = true_not_false (sym (equal (left + stood k earlier c.serial) (wait_of k (row ∷ earlier) c) w.still) ∙ t) where
  w : WaitsForMemory k earlier row stage c left
  w = shown_is k earlier row stage c (Wait left) h stands e (λ b. cc b)

-- Where the store waits

pub wait_one_less_refused : IsUnlawfulStore wait_one_less
unfolding is_flushed is_retired place accesses_before stood step run_with decoded_in attempted effect_of over blocks_effect commit_of first applied decoded base_row base_patterns fields_of format_of base_formats
wait_one_less_refused h = wrong_wait slow_store seven_rows (newest wait_one_less) 3 (store (Some (Wait 1))) 1 h refl refl refl

pub wait_one_more_refused : IsUnlawfulStore wait_one_more
unfolding is_flushed is_retired place accesses_before stood step run_with decoded_in attempted effect_of over blocks_effect commit_of first applied decoded base_row base_patterns fields_of format_of base_formats
wait_one_more_refused h = wrong_wait slow_store seven_rows (newest wait_one_more) 3 (store (Some (Wait 3))) 3 h refl refl refl

pub wait_stands_still_refused : IsUnlawfulStore wait_stands_still
unfolding is_flushed is_retired place accesses_before stood step run_with decoded_in attempted effect_of over blocks_effect commit_of first applied decoded base_row base_patterns fields_of format_of base_formats
wait_stands_still_refused h = wrong_wait slow_store (store_7 ∷ seven_rows) (newest wait_stands_still) 3 (store (Some (Wait 2))) 2 h refl refl refl

pub wait_left_out_refused : IsUnlawfulStore wait_left_out
unfolding is_flushed is_retired place accesses_before stood step run_with decoded_in attempted effect_of over blocks_effect commit_of first applied decoded base_row base_patterns fields_of format_of base_formats
wait_left_out_refused h = idle slow_store seven_rows (newest wait_left_out) 3 (store None) (Wait 2) h refl refl refl (waits_for slow_store seven_rows (newest wait_left_out) 3 (store None) 2 refl)

pub waits_longer_refused : IsUnlawfulStore waits_longer
unfolding is_flushed is_retired place accesses_before stood step run_with decoded_in attempted effect_of over blocks_effect commit_of first applied decoded base_row base_patterns fields_of format_of base_formats
waits_longer_refused h = wrong_wait slow_store store_nine (newest waits_longer) 3 (store (Some (Wait 1))) 1 h refl refl refl

pub load_passes_refused : IsUnlawfulStore load_passes
unfolding is_flushed is_retired place accesses_before stood step run_with decoded_in attempted effect_of over blocks_effect commit_of first applied decoded base_row base_patterns fields_of format_of base_formats
load_passes_refused h = idle slow_store store_ten (newest load_passes) 3 (load None) (StoreAhead 1) h refl refl refl (stands_ahead slow_store store_ten (newest load_passes) 3 (load None) 1 refl)

pub ahead_of_another_refused : IsUnlawfulStore ahead_of_another
ahead_of_another_refused h =
    let w : WaitsForStore slow_store store_ten (newest ahead_of_another) 3 (load (Some (StoreAhead 0))) 0 = shown_is slow_store store_ten (newest ahead_of_another) 3 (load (Some (StoreAhead 0))) (StoreAhead 0) h refl refl (λ b. cc b) in
    let at = w.stands in
    let gone : any_cell (λ n d. d.serial == 0) (stages_of slow_store (newest ahead_of_another)) ≡ false = refl in
    true_not_false (sym (any_there (λ n d. d.serial == 0) (stages_of slow_store (newest ahead_of_another)) at.0 at.1 at.3 (equal at.1.serial 0 at.4)) ∙ gone)

pub ahead_longer_refused : IsUnlawfulStore ahead_longer
unfolding is_flushed is_retired place accesses_before stood step run_with decoded_in attempted effect_of over blocks_effect commit_of first applied decoded base_row base_patterns fields_of format_of base_formats
ahead_longer_refused h =
    store_not slow_store (store_10 ∷ store_ten) (newest ahead_longer) 3 (load (Some (StoreAhead 1))) refl 1
    (shown_is slow_store (store_10 ∷ store_ten) (newest ahead_longer) 3 (load (Some (StoreAhead 1))) (StoreAhead 1) h refl refl (λ b. cc b))

pub drain_left_out_refused : IsUnlawfulStore drain_left_out
unfolding is_flushed is_retired place accesses_before stood step run_with decoded_in attempted effect_of over blocks_effect commit_of first applied decoded base_row base_patterns fields_of format_of base_formats
drain_left_out_refused h = idle slow_store store_ten (newest drain_left_out) 2 (break None) (Drain 2) h refl refl refl (drains_then slow_store store_ten (newest drain_left_out) 2 (break None) 2 refl)

behind_later : ComesFirst Behind (Drain 2) → ⊥
behind_later o = elim o [ inl lt ↦ absurd (omega (arith, lt)) | inr e ↦ let same = e.0 in absurd (omega (arith, same)) ]

pub behind_alone_refused : IsUnlawfulStore behind_alone
unfolding is_flushed is_retired place accesses_before stood step run_with decoded_in attempted effect_of over blocks_effect commit_of first applied decoded base_row base_patterns fields_of format_of base_formats
behind_alone_refused h = behind_later (shown_before slow_store store_ten (newest behind_alone) 2 (break (Some Behind)) Behind (Drain 2) h refl refl (drains_then slow_store store_ten (newest behind_alone) 2 (break (Some Behind)) 2 refl))

pub drains_retired_refused : IsUnlawfulStore drains_retired
unfolding is_flushed is_retired place accesses_before stood step run_with decoded_in attempted effect_of over blocks_effect commit_of first applied decoded base_row base_patterns fields_of format_of base_formats
drains_retired_refused h =
    let w : WaitsToDrain slow_store store_ten (newest drains_retired) 2 (break (Some (Drain 1))) 1 = shown_is slow_store store_ten (newest drains_retired) 2 (break (Some (Drain 1))) (Drain 1) h refl refl (λ b. cc b) in
    true_not_false (left_unretired slow_store (calm (2 ∷ [])).spawns drains_retired 1 w.left)

pub stops_early_refused : IsUnlawfulStore stops_early
unfolding is_flushed is_retired place accesses_before stood step run_with decoded_in attempted effect_of over blocks_effect commit_of first applied decoded base_row base_patterns fields_of format_of base_formats
stops_early_refused h = idle slow_store store_ten (newest stops_early) 2 (break None) (Drain 2) h refl refl refl (drains_then slow_store store_ten (newest stops_early) 2 (break None) 2 refl)

-- Where the load waits

pub store_waits_refused : IsUnlawfulLoad store_waits
unfolding is_flushed is_retired place accesses_before stood step run_with decoded_in attempted effect_of over blocks_effect commit_of first applied decoded base_row base_patterns fields_of format_of base_formats
store_waits_refused h = wrong_wait slow_load seven_rows (newest store_waits) 3 (store (Some (Wait 2))) 2 h refl refl refl

ahead_later : ComesFirst (StoreAhead 1) (Wait 2) → ⊥
ahead_later o = elim o [ inl lt ↦ absurd (omega (arith, lt)) | inr e ↦ let same = e.0 in absurd (omega (arith, same)) ]

pub ahead_before_wait_refused : IsUnlawfulLoad ahead_before_wait
unfolding is_flushed is_retired place accesses_before stood step run_with decoded_in attempted effect_of over blocks_effect commit_of first applied decoded base_row base_patterns fields_of format_of base_formats
ahead_before_wait_refused h = ahead_later (shown_before slow_load load_eight (newest ahead_before_wait) 3 (load (Some (StoreAhead 1))) (StoreAhead 1) (Wait 2) h refl refl (waits_for slow_load load_eight (newest ahead_before_wait) 3 (load (Some (StoreAhead 1))) 2 refl))

pub waits_once_refused : IsUnlawfulLoad waits_once
unfolding is_flushed is_retired place accesses_before stood step run_with decoded_in attempted effect_of over blocks_effect commit_of first applied decoded base_row base_patterns fields_of format_of base_formats
waits_once_refused h = idle slow_load (load_8 ∷ load_eight) (newest waits_once) 3 (load None) (Wait 1) h refl refl refl (waits_for slow_load (load_8 ∷ load_eight) (newest waits_once) 3 (load None) 1 refl)

pub stops_beside_refused : IsUnlawfulLoad stops_beside
unfolding is_flushed is_retired place accesses_before stood step run_with decoded_in attempted effect_of over blocks_effect commit_of first applied decoded base_row base_patterns fields_of format_of base_formats
stops_beside_refused h = idle slow_load (load_8 ∷ load_eight) (newest stops_beside) 2 (break None) (Drain 2) h refl refl refl (drains_then slow_load (load_8 ∷ load_eight) (newest stops_beside) 2 (break None) 2 refl)
