-- What the rows of the run in which an interrupt is taken retire is the run's that goes to the handler, with its states and its stop.
use Rattle.std.proofs.Common.{◌≡◌, ℕ, [], ◌∷◌, refl, sym, ap, ◌∙◌, arith}
use Rattle.ix_bits.specs.BaseTable.{base_patterns}
use Rattle.rv_isa.specs.Table.{row_of as base_row, format_of, base_formats}
use Rattle.rv_isa.specs.Fields.{fields_of}
use Rattle.rv_isa.specs.Decoded.{decoded}
use Rattle.rv_seq.specs.Decoding.{decoded_in}
use Rattle.rv_seq.specs.WordEffects.{effect_of, over, blocks_effect}
use Rattle.rv_lawful.specs.Entering.{places, pending}
use Rattle.rv_lawful.specs.Headline.{AgreesWithRun, Agreeing}
use Rattle.rv_lawful.specs.Outstanding.{is_written, decoupled, architecture}
use Rattle.rv_tried.specs.Parts.{shown, native}
use Rattle.rv_seq.specs.Bare.{bare}
use Rattle.rv_seq.specs.Commits.{commit_of, applied}
use Rattle.rv_seq.specs.Interrupts.{diverted}
use Rattle.rv_seq.specs.Runs.{run_with}
use Rattle.rv_seq.specs.States.{first}
use Rattle.rv_seq.specs.Steps.{attempted, of_return, step}
use Rattle.rv_seq.specs.declared.answer.StepAnswer.{StepAnswer}
use Rattle.rv_seq.specs.declared.answer.StepAnswer.TheVariants.{Done, Stopped}
use Rattle.rv_seq.specs.declared.commit.Commit.{Commit}
use Rattle.rv_seq.specs.declared.commit.Stop.TheVariants.{Ebreak}
use Rattle.rv_trace.specs.Trace.{is_flushed, is_retired, place, retirements}
use Rattle.row_laws.specs.Adding.{adding_asks, writes}
use Rattle.row_laws.specs.Hands.{going}
use Rattle.row_laws.specs.Interrupting.{eight_rows, eleven_rows, five_rows, four_rows, interrupted_rows, interrupting, IsOther, row_0, row_1, row_2, row_3, row_4, row_5, row_6, row_7, row_8, row_9, row_10, row_11, six_rows, undiverted}
use Rattle.row_laws.proofs.Agreement.{agrees_by}

-- The run

plain_0 : (interrupting []).course.answer 0 ≡ Done (writes 0 2147483831 1 2147483648)
unfolding places pending architecture decoupled is_written retirements is_flushed is_retired place shown native step run_with decoded_in attempted of_return effect_of over blocks_effect commit_of first applied diverted decoded base_row base_patterns fields_of format_of base_formats
plain_0 = refl

plain_1 : (interrupting []).course.answer 1 ≡ Done (writes 4 41219 2 0)
unfolding places pending architecture decoupled is_written retirements is_flushed is_retired place shown native step run_with decoded_in attempted of_return effect_of over blocks_effect commit_of first applied diverted decoded base_row base_patterns fields_of format_of base_formats
plain_1 = refl

diverted_2 : (interrupting (2 ∷ [])).course.answer 2 ≡ Done (writes 16 1180179 4 1)
unfolding places pending architecture decoupled is_written retirements is_flushed is_retired place shown native step run_with decoded_in attempted of_return effect_of over blocks_effect commit_of first applied diverted decoded base_row base_patterns fields_of format_of base_formats
diverted_2 = refl

diverted_3 : (interrupting (2 ∷ [])).course.answer 3 ≡ Done (going 20 807403635 8)
unfolding places pending architecture decoupled is_written retirements is_flushed is_retired place shown native step run_with decoded_in attempted of_return effect_of over blocks_effect commit_of first applied diverted decoded base_row base_patterns fields_of format_of base_formats
diverted_3 = refl

diverted_4 : (interrupting (2 ∷ [])).course.answer 4 ≡ Done (writes 8 7340435 3 7)
unfolding places pending architecture decoupled is_written retirements is_flushed is_retired place shown native step run_with decoded_in attempted of_return effect_of over blocks_effect commit_of first applied diverted decoded base_row base_patterns fields_of format_of base_formats
diverted_4 = refl

diverted_5 : (interrupting (2 ∷ [])).course.answer 5 ≡ Stopped Ebreak
unfolding places pending architecture decoupled is_written retirements is_flushed is_retired place shown native step run_with decoded_in attempted of_return effect_of over blocks_effect commit_of first applied diverted decoded base_row base_patterns fields_of format_of base_formats
diverted_5 = refl

-- What the rows retire is the run's

agrees_0 : AgreesWithRun bare (interrupting []) (interrupting []) [] row_0
unfolding places pending architecture decoupled is_written retirements is_flushed is_retired place shown native step run_with decoded_in attempted of_return effect_of over blocks_effect commit_of first applied diverted decoded base_row base_patterns fields_of format_of base_formats
agrees_0 = agrees_by (interrupting []) (interrupting []) [] row_0 tt tt tt refl

agrees_1 : AgreesWithRun bare (interrupting []) (interrupting []) (row_0 ∷ []) row_1
unfolding places pending architecture decoupled is_written retirements is_flushed is_retired place shown native step run_with decoded_in attempted of_return effect_of over blocks_effect commit_of first applied diverted decoded base_row base_patterns fields_of format_of base_formats
agrees_1 = agrees_by (interrupting []) (interrupting []) (row_0 ∷ []) row_1 tt tt tt refl

agrees_2 : AgreesWithRun bare (interrupting []) (interrupting []) (row_1 ∷ row_0 ∷ []) row_2
unfolding places pending architecture decoupled is_written retirements is_flushed is_retired place shown native step run_with decoded_in attempted of_return effect_of over blocks_effect commit_of first applied diverted decoded base_row base_patterns fields_of format_of base_formats
agrees_2 = agrees_by (interrupting []) (interrupting []) (row_1 ∷ row_0 ∷ []) row_2 (refl, (writes 0 2147483831 1 2147483648, plain_0, refl)) tt tt refl

agrees_3 : AgreesWithRun bare (interrupting []) (interrupting []) (row_2 ∷ row_1 ∷ row_0 ∷ []) row_3
unfolding places pending architecture decoupled is_written retirements is_flushed is_retired place shown native step run_with decoded_in attempted of_return effect_of over blocks_effect commit_of first applied diverted decoded base_row base_patterns fields_of format_of base_formats
agrees_3 = agrees_by (interrupting []) (interrupting []) (row_2 ∷ row_1 ∷ row_0 ∷ []) row_3 tt tt tt refl

agrees_4 : AgreesWithRun bare (interrupting []) (interrupting []) four_rows row_4
unfolding places pending architecture decoupled is_written retirements is_flushed is_retired place shown native step run_with decoded_in attempted of_return effect_of over blocks_effect commit_of first applied diverted decoded base_row base_patterns fields_of format_of base_formats
agrees_4 = agrees_by (interrupting []) (interrupting []) four_rows row_4 tt tt tt refl

agrees_5 : AgreesWithRun bare (interrupting []) (interrupting (2 ∷ [])) five_rows row_5
unfolding places pending architecture decoupled is_written retirements is_flushed is_retired place shown native step run_with decoded_in attempted of_return effect_of over blocks_effect commit_of first applied diverted decoded base_row base_patterns fields_of format_of base_formats
agrees_5 = agrees_by (interrupting []) (interrupting (2 ∷ [])) five_rows row_5 (refl, (writes 4 41219 2 0, plain_1, refl)) tt tt refl

agrees_6 : AgreesWithRun bare (interrupting (2 ∷ [])) (interrupting (2 ∷ [])) six_rows row_6
unfolding places pending architecture decoupled is_written retirements is_flushed is_retired place shown native step run_with decoded_in attempted of_return effect_of over blocks_effect commit_of first applied diverted decoded base_row base_patterns fields_of format_of base_formats
agrees_6 = agrees_by (interrupting (2 ∷ [])) (interrupting (2 ∷ [])) six_rows row_6 tt tt tt refl

agrees_7 : AgreesWithRun bare (interrupting (2 ∷ [])) (interrupting (2 ∷ [])) (row_6 ∷ six_rows) row_7
unfolding places pending architecture decoupled is_written retirements is_flushed is_retired place shown native step run_with decoded_in attempted of_return effect_of over blocks_effect commit_of first applied diverted decoded base_row base_patterns fields_of format_of base_formats
agrees_7 = agrees_by (interrupting (2 ∷ [])) (interrupting (2 ∷ [])) (row_6 ∷ six_rows) row_7 tt tt tt refl

agrees_8 : AgreesWithRun bare (interrupting (2 ∷ [])) (interrupting (2 ∷ [])) eight_rows row_8
unfolding places pending architecture decoupled is_written retirements is_flushed is_retired place shown native step run_with decoded_in attempted of_return effect_of over blocks_effect commit_of first applied diverted decoded base_row base_patterns fields_of format_of base_formats
agrees_8 = agrees_by (interrupting (2 ∷ [])) (interrupting (2 ∷ [])) eight_rows row_8 (refl, (writes 16 1180179 4 1, diverted_2, refl)) tt tt refl

agrees_9 : AgreesWithRun bare (interrupting (2 ∷ [])) (interrupting (2 ∷ [])) (row_8 ∷ eight_rows) row_9
unfolding places pending architecture decoupled is_written retirements is_flushed is_retired place shown native step run_with decoded_in attempted of_return effect_of over blocks_effect commit_of first applied diverted decoded base_row base_patterns fields_of format_of base_formats
agrees_9 = agrees_by (interrupting (2 ∷ [])) (interrupting (2 ∷ [])) (row_8 ∷ eight_rows) row_9 (refl, (going 20 807403635 8, diverted_3, refl)) tt tt refl

agrees_10 : AgreesWithRun bare (interrupting (2 ∷ [])) (interrupting (2 ∷ [])) (row_9 ∷ row_8 ∷ eight_rows) row_10
unfolding places pending architecture decoupled is_written retirements is_flushed is_retired place shown native step run_with decoded_in attempted of_return effect_of over blocks_effect commit_of first applied diverted decoded base_row base_patterns fields_of format_of base_formats
agrees_10 = agrees_by (interrupting (2 ∷ [])) (interrupting (2 ∷ [])) (row_9 ∷ row_8 ∷ eight_rows) row_10 tt tt tt refl

agrees_11 : AgreesWithRun bare (interrupting (2 ∷ [])) (interrupting (2 ∷ [])) eleven_rows row_11
unfolding places pending architecture decoupled is_written retirements is_flushed is_retired place shown native step run_with decoded_in attempted of_return effect_of over blocks_effect commit_of first applied diverted decoded base_row base_patterns fields_of format_of base_formats
agrees_11 = agrees_by (interrupting (2 ∷ [])) (interrupting (2 ∷ [])) eleven_rows row_11 (refl, (writes 8 7340435 3 7, diverted_4, refl)) tt (diverted_5, refl) refl

pub interrupted_agrees : Agreeing bare interrupting interrupted_rows
unfolding places retirements
interrupted_agrees = (agrees_11, (agrees_10, (agrees_9, (agrees_8, (agrees_7, (agrees_6, (agrees_5, (agrees_4, (agrees_3, (agrees_2, (agrees_1, (agrees_0, tt))))))))))))

pub done_same : (a : StepAnswer) (c d : Commit) → a ≡ Done c → a ≡ Done d → c ≡ d
done_same a c d e f = the (sym e ∙ f) where
  the : ◌≡◌ {A = StepAnswer} (Done c) (Done d) → c ≡ d
  the q = cc

pub undiverted_refused : IsOther undiverted
unfolding places pending architecture decoupled is_written retirements is_flushed is_retired place shown native step run_with decoded_in attempted of_return effect_of over blocks_effect commit_of first applied diverted decoded base_row base_patterns fields_of format_of base_formats
undiverted_refused h =
    let r = h.0.recorded 4 (writes 8 7340435 3 7) refl in
    let same = done_same ((interrupting (2 ∷ [])).course.answer 2) (writes 16 1180179 4 1) r.0 diverted_2 r.1 in
    let e : ◌≡◌ {A = ℕ} 8 16 = ap (λ (c : Commit). c.at) r.2 ∙ ap (λ (c : Commit). (shown (adding_asks c.word) c).at) (sym same) in
    absurd (omega (arith, e))
