-- What the rows of the runs in which a store and a load wait for the memory retire is the run's, with its states and its stop.
use Rattle.std.proofs.Common.{◌≡◌, ℕ, List, [], ◌∷◌, refl, sym, ap, ◌∙◌, arith}
use Rattle.std.specs.Prelude.{unwrap_or}
use Rattle.ix_bits.specs.BaseTable.{base_patterns}
use Rattle.rv_isa.specs.Table.{row_of as base_row, format_of, base_formats}
use Rattle.rv_isa.specs.Fields.{fields_of}
use Rattle.rv_isa.specs.Decoded.{decoded}
use Rattle.rv_seq.specs.Decoding.{decoded_in}
use Rattle.rv_seq.specs.WordEffects.{effect_of, over, blocks_effect}
use Rattle.rv_lawful.specs.Entering.{places}
use Rattle.rv_lawful.specs.Forwarding.{value_in}
use Rattle.rv_lawful.specs.Headline.{AgreesWithRun, Agreeing}
use Rattle.rv_lawful.specs.Outstanding.{is_written, decoupled, architecture}
use Rattle.rv_tried.specs.Parts.{shown, native}
use Rattle.rv_seq.specs.Bare.{bare}
use Rattle.rv_seq.specs.Commits.{commit_of, applied}
use Rattle.rv_seq.specs.Runs.{run_with}
use Rattle.rv_seq.specs.States.{first}
use Rattle.rv_seq.specs.Steps.{attempted, step}
use Rattle.rv_seq.specs.declared.answer.StepAnswer.TheVariants.{Done, Stopped}
use Rattle.rv_seq.specs.declared.commit.Commit.{Commit}
use Rattle.rv_seq.specs.declared.commit.Stop.TheVariants.{Ebreak}
use Rattle.rv_trace.specs.Trace.{is_flushed, is_retired, place, retirements}
use Rattle.row_laws.specs.Adding.{writes}
use Rattle.row_laws.specs.Forwarding.{asks_on}
use Rattle.row_laws.specs.Hands.{five}
use Rattle.row_laws.specs.Waiting.{storing_hand, storing_over, stores, row_0, row_1, row_2, row_3, row_4, row_5, row_6, five_rows, seven_rows, stored, loaded, last_row, slow_store, store_7, store_8, store_10, store_nine, store_ten, store_twelve, slow_store_rows, IsOther, old_value, slow_load, load_8, load_9, load_eight, slow_load_rows}
use Rattle.row_laws.proofs.Agreement.{agrees}
use Rattle.row_laws.proofs.InterruptingStates.{done_same}

-- The run

answer_0 : storing_hand.course.answer 0 ≡ Done (writes 0 2147483831 1 2147483648)
unfolding places architecture decoupled is_written retirements is_flushed is_retired place shown native step run_with decoded_in attempted effect_of over blocks_effect commit_of first applied decoded base_row base_patterns fields_of format_of base_formats
answer_0 = refl

answer_1 : storing_hand.course.answer 1 ≡ Done stores
unfolding places architecture decoupled is_written retirements is_flushed is_retired place shown native step run_with decoded_in attempted effect_of over blocks_effect commit_of first applied decoded base_row base_patterns fields_of format_of base_formats
answer_1 = refl

answer_2 : storing_hand.course.answer 2 ≡ Done (writes 8 41219 2 2147483648)
unfolding places architecture decoupled is_written retirements is_flushed is_retired place shown native step run_with decoded_in attempted effect_of over blocks_effect commit_of first applied decoded base_row base_patterns fields_of format_of base_formats
answer_2 = refl

answer_3 : storing_hand.course.answer 3 ≡ Stopped Ebreak
unfolding places architecture decoupled is_written retirements is_flushed is_retired place shown native step run_with decoded_in attempted effect_of over blocks_effect commit_of first applied decoded base_row base_patterns fields_of format_of base_formats
answer_3 = refl

-- The first rows

agrees_0 : (waits : List ℕ) → AgreesWithRun bare (storing_over waits) (storing_over waits) [] row_0
unfolding places architecture decoupled is_written retirements is_flushed is_retired place shown native step run_with decoded_in attempted effect_of over blocks_effect commit_of first applied decoded base_row base_patterns fields_of format_of base_formats
agrees_0 waits = agrees (storing_over waits) [] row_0 tt tt tt refl

agrees_1 : (waits : List ℕ) → AgreesWithRun bare (storing_over waits) (storing_over waits) (row_0 ∷ []) row_1
unfolding places architecture decoupled is_written retirements is_flushed is_retired place shown native step run_with decoded_in attempted effect_of over blocks_effect commit_of first applied decoded base_row base_patterns fields_of format_of base_formats
agrees_1 waits = agrees (storing_over waits) (row_0 ∷ []) row_1 tt tt tt refl

agrees_2 : (waits : List ℕ) → AgreesWithRun bare (storing_over waits) (storing_over waits) (row_1 ∷ row_0 ∷ []) row_2
unfolding places architecture decoupled is_written retirements is_flushed is_retired place shown native step run_with decoded_in attempted effect_of over blocks_effect commit_of first applied decoded base_row base_patterns fields_of format_of base_formats
agrees_2 waits = agrees (storing_over waits) (row_1 ∷ row_0 ∷ []) row_2 tt tt tt refl

agrees_3 : (waits : List ℕ) → AgreesWithRun bare (storing_over waits) (storing_over waits) (row_2 ∷ row_1 ∷ row_0 ∷ []) row_3
unfolding places architecture decoupled is_written retirements is_flushed is_retired place shown native step run_with decoded_in attempted effect_of over blocks_effect commit_of first applied decoded base_row base_patterns fields_of format_of base_formats
agrees_3 waits = agrees (storing_over waits) (row_2 ∷ row_1 ∷ row_0 ∷ []) row_3 tt tt tt refl

agrees_4 : (waits : List ℕ) → AgreesWithRun bare (storing_over waits) (storing_over waits) (row_3 ∷ row_2 ∷ row_1 ∷ row_0 ∷ []) row_4
unfolding places architecture decoupled is_written retirements is_flushed is_retired place shown native step run_with decoded_in attempted effect_of over blocks_effect commit_of first applied decoded base_row base_patterns fields_of format_of base_formats
agrees_4 waits = agrees (storing_over waits) (row_3 ∷ row_2 ∷ row_1 ∷ row_0 ∷ []) row_4 (refl, (writes 0 2147483831 1 2147483648, answer_0, refl)) tt tt refl

agrees_5 : (waits : List ℕ) → AgreesWithRun bare (storing_over waits) (storing_over waits) five_rows row_5
unfolding places architecture decoupled is_written retirements is_flushed is_retired place shown native step run_with decoded_in attempted effect_of over blocks_effect commit_of first applied decoded base_row base_patterns fields_of format_of base_formats
agrees_5 waits = agrees (storing_over waits) five_rows row_5 tt tt tt refl

agrees_6 : (waits : List ℕ) → AgreesWithRun bare (storing_over waits) (storing_over waits) (row_5 ∷ five_rows) row_6
unfolding places architecture decoupled is_written retirements is_flushed is_retired place shown native step run_with decoded_in attempted effect_of over blocks_effect commit_of first applied decoded base_row base_patterns fields_of format_of base_formats
agrees_6 waits = agrees (storing_over waits) (row_5 ∷ five_rows) row_6 tt tt tt refl

seven_agree : (waits : List ℕ) → Agreeing bare (λ places. storing_over waits) seven_rows
seven_agree waits = (agrees_6 waits, (agrees_5 waits, (agrees_4 waits, (agrees_3 waits, (agrees_2 waits, (agrees_1 waits, (agrees_0 waits, tt)))))))

-- Where the store waits

store_agrees_7 : AgreesWithRun bare slow_store slow_store seven_rows store_7
unfolding places architecture decoupled is_written retirements is_flushed is_retired place shown native step run_with decoded_in attempted effect_of over blocks_effect commit_of first applied decoded base_row base_patterns fields_of format_of base_formats
store_agrees_7 = agrees slow_store seven_rows store_7 tt tt tt refl

store_agrees_8 : AgreesWithRun bare slow_store slow_store (store_7 ∷ seven_rows) store_8
unfolding places architecture decoupled is_written retirements is_flushed is_retired place shown native step run_with decoded_in attempted effect_of over blocks_effect commit_of first applied decoded base_row base_patterns fields_of format_of base_formats
store_agrees_8 = agrees slow_store (store_7 ∷ seven_rows) store_8 tt tt tt refl

store_agrees_9 : AgreesWithRun bare slow_store slow_store store_nine stored
unfolding places architecture decoupled is_written retirements is_flushed is_retired place shown native step run_with decoded_in attempted effect_of over blocks_effect commit_of first applied decoded base_row base_patterns fields_of format_of base_formats
store_agrees_9 = agrees slow_store store_nine stored tt tt tt refl

store_agrees_10 : AgreesWithRun bare slow_store slow_store store_ten store_10
unfolding places architecture decoupled is_written retirements is_flushed is_retired place shown native step run_with decoded_in attempted effect_of over blocks_effect commit_of first applied decoded base_row base_patterns fields_of format_of base_formats
store_agrees_10 = agrees slow_store store_ten store_10 (refl, (stores, answer_1, refl)) tt tt refl

store_agrees_11 : AgreesWithRun bare slow_store slow_store (store_10 ∷ store_ten) loaded
unfolding places architecture decoupled is_written retirements is_flushed is_retired place shown native step run_with decoded_in attempted effect_of over blocks_effect commit_of first applied decoded base_row base_patterns fields_of format_of base_formats
store_agrees_11 = agrees slow_store (store_10 ∷ store_ten) loaded tt tt tt refl

store_agrees_12 : AgreesWithRun bare slow_store slow_store store_twelve last_row
unfolding places architecture decoupled is_written retirements is_flushed is_retired place shown native step run_with decoded_in attempted effect_of over blocks_effect commit_of first applied decoded base_row base_patterns fields_of format_of base_formats
store_agrees_12 = agrees slow_store store_twelve last_row (refl, (writes 8 41219 2 2147483648, answer_2, refl)) tt (answer_3, refl) refl

pub slow_store_agrees : Agreeing bare (λ places. slow_store) slow_store_rows
slow_store_agrees = (store_agrees_12, (store_agrees_11, (store_agrees_10, (store_agrees_9, (store_agrees_8, (store_agrees_7, seven_agree (2 ∷ [])))))))

pub old_value_refused : IsOther old_value
unfolding places architecture decoupled is_written retirements is_flushed is_retired place shown native step run_with decoded_in attempted effect_of over blocks_effect commit_of first applied decoded base_row base_patterns fields_of format_of base_formats
old_value_refused h =
    let r = h.0.recorded 2 (writes 8 41219 2 0) refl in
    let same = done_same (storing_hand.course.answer 2) (writes 8 41219 2 2147483648) r.0 answer_2 r.1 in
    let e : ◌≡◌ {A = ℕ} 0 2147483648 = ap (λ (c : Commit). unwrap_or (value_in c.rd) 0) r.2 ∙ ap (λ (c : Commit). unwrap_or (value_in (shown (asks_on five c.word) c).rd) 0) (sym same) in
    absurd (omega (arith, e))

-- Where the load waits

load_agrees_7 : AgreesWithRun bare slow_load slow_load seven_rows stored
unfolding places architecture decoupled is_written retirements is_flushed is_retired place shown native step run_with decoded_in attempted effect_of over blocks_effect commit_of first applied decoded base_row base_patterns fields_of format_of base_formats
load_agrees_7 = agrees slow_load seven_rows stored tt tt tt refl

load_agrees_8 : AgreesWithRun bare slow_load slow_load load_eight load_8
unfolding places architecture decoupled is_written retirements is_flushed is_retired place shown native step run_with decoded_in attempted effect_of over blocks_effect commit_of first applied decoded base_row base_patterns fields_of format_of base_formats
load_agrees_8 = agrees slow_load load_eight load_8 (refl, (stores, answer_1, refl)) tt tt refl

load_agrees_9 : AgreesWithRun bare slow_load slow_load (load_8 ∷ load_eight) load_9
unfolding places architecture decoupled is_written retirements is_flushed is_retired place shown native step run_with decoded_in attempted effect_of over blocks_effect commit_of first applied decoded base_row base_patterns fields_of format_of base_formats
load_agrees_9 = agrees slow_load (load_8 ∷ load_eight) load_9 tt tt tt refl

load_agrees_10 : AgreesWithRun bare slow_load slow_load (load_9 ∷ load_8 ∷ load_eight) loaded
unfolding places architecture decoupled is_written retirements is_flushed is_retired place shown native step run_with decoded_in attempted effect_of over blocks_effect commit_of first applied decoded base_row base_patterns fields_of format_of base_formats
load_agrees_10 = agrees slow_load (load_9 ∷ load_8 ∷ load_eight) loaded tt tt tt refl

load_agrees_11 : AgreesWithRun bare slow_load slow_load (loaded ∷ load_9 ∷ load_8 ∷ load_eight) last_row
unfolding places architecture decoupled is_written retirements is_flushed is_retired place shown native step run_with decoded_in attempted effect_of over blocks_effect commit_of first applied decoded base_row base_patterns fields_of format_of base_formats
load_agrees_11 = agrees slow_load (loaded ∷ load_9 ∷ load_8 ∷ load_eight) last_row (refl, (writes 8 41219 2 2147483648, answer_2, refl)) tt (answer_3, refl) refl

pub slow_load_agrees : Agreeing bare (λ places. slow_load) slow_load_rows
slow_load_agrees = (load_agrees_11, (load_agrees_10, (load_agrees_9, (load_agrees_8, (load_agrees_7, seven_agree (0 ∷ 2 ∷ []))))))
