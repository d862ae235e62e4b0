-- The rows of the runs with decoupled writes are the run's, with the outstanding writes applied, and those that differ in one thing are not.
use Rattle.std.proofs.Common.{◌≡◌, ℕ, [], ◌∷◌, refl, sym, ap, ◌∙◌, arith}
use Rattle.ix_bits.specs.BaseTable.{base_patterns}
use Rattle.rv_isa.specs.Table.{row_of as base_row, format_of, base_formats}
use Rattle.rv_isa.specs.Fields.{fields_of}
use Rattle.rv_isa.specs.Decoded.{decoded}
use Rattle.rv_seq.specs.Decoding.{decoded_in}
use Rattle.rv_seq.specs.WordEffects.{effect_of, over, blocks_effect}
use Rattle.rv_lawful.specs.Headline.{AgreesWithRun, Agreeing}
use Rattle.rv_lawful.specs.Outstanding.{is_written, decoupled, architecture}
use Rattle.rv_seq.specs.Bare.{bare}
use Rattle.rv_seq.specs.Commits.{commit_of, applied}
use Rattle.rv_seq.specs.Runs.{run_with, answer_at}
use Rattle.rv_seq.specs.States.{first}
use Rattle.rv_seq.specs.Steps.{attempted, step}
use Rattle.rv_seq.specs.declared.answer.StepAnswer.{StepAnswer}
use Rattle.rv_seq.specs.declared.answer.StepAnswer.TheVariants.{Done, Stopped}
use Rattle.rv_seq.specs.declared.commit.Commit.{Commit}
use Rattle.rv_seq.specs.declared.commit.Slot.{Slot}
use Rattle.rv_seq.specs.declared.commit.Slot.TheVariants.{Now, Later, Absent}
use Rattle.rv_seq.specs.declared.commit.Stop.TheVariants.{Ebreak, Fetch}
use Rattle.rv_trace.specs.Trace.{is_flushed, is_retired, place, retirements}
use Rattle.rv_tried.specs.declared.parts.Spawned.{Spawned}
use Rattle.rv_tried.specs.Parts.{shown, native, spawned, paid}
use Rattle.row_laws.specs.Spawning.{OwesBoth, OwesOne, WritesOne, AppliesBoth, IsOther, IsOtherFrozen, early_spawn, frozen, frozen_0, frozen_1, frozen_2, frozen_3, frozen_4, frozen_5, frozen_6, frozen_7, frozen_8, frozen_eight, frozen_five, frozen_hand, frozen_rows, frozen_seven, frozen_six, late_native, later_left_out, passing, passing_0, passing_1, passing_2, passing_3, passing_4, passing_5, passing_6, passing_7, passing_five, passing_four, passing_hand, passing_rows, passing_seven, passing_six, passing_three, port, port_0, port_1, port_2, port_3, port_4, port_5, port_6, port_five, port_four, port_hand, port_rows, port_six, port_three, record_of, write_of, wrong_write}
use Rattle.row_laws.proofs.Agreement.{agrees}

-- Out of order

passing_answer_0 : answer_at bare passing_hand.image 0 ≡ Done (record_of 0 3146387 5 (Now 3))
unfolding architecture decoupled is_written retirements is_flushed is_retired place shown native spawned paid step run_with decoded_in attempted effect_of over blocks_effect commit_of first applied decoded base_row base_patterns fields_of format_of base_formats
passing_answer_0 = refl

passing_answer_1 : answer_at bare passing_hand.image 1 ≡ Done (record_of 4 4195091 6 (Now 4))
unfolding architecture decoupled is_written retirements is_flushed is_retired place shown native spawned paid step run_with decoded_in attempted effect_of over blocks_effect commit_of first applied decoded base_row base_patterns fields_of format_of base_formats
passing_answer_1 = refl

passing_answer_2 : answer_at bare passing_hand.image 2 ≡ Done (record_of 8 6456243 7 (Now 7))
unfolding architecture decoupled is_written retirements is_flushed is_retired place shown native spawned paid step run_with decoded_in attempted effect_of over blocks_effect commit_of first applied decoded base_row base_patterns fields_of format_of base_formats
passing_answer_2 = refl

passing_answer_3 : answer_at bare passing_hand.image 3 ≡ Stopped Ebreak
unfolding architecture decoupled is_written retirements is_flushed is_retired place shown native spawned paid step run_with decoded_in attempted effect_of over blocks_effect commit_of first applied decoded base_row base_patterns fields_of format_of base_formats
passing_answer_3 = refl

passing_agrees_0 : AgreesWithRun bare passing passing [] passing_0
unfolding architecture decoupled is_written retirements is_flushed is_retired place shown native spawned paid step run_with decoded_in attempted effect_of over blocks_effect commit_of first applied decoded base_row base_patterns fields_of format_of base_formats
passing_agrees_0 = agrees passing [] passing_0 tt tt tt refl

passing_agrees_1 : AgreesWithRun bare passing passing (passing_0 ∷ []) passing_1
unfolding architecture decoupled is_written retirements is_flushed is_retired place shown native spawned paid step run_with decoded_in attempted effect_of over blocks_effect commit_of first applied decoded base_row base_patterns fields_of format_of base_formats
passing_agrees_1 = agrees passing (passing_0 ∷ []) passing_1 tt tt tt refl

passing_agrees_2 : AgreesWithRun bare passing passing (passing_1 ∷ passing_0 ∷ []) passing_2
unfolding architecture decoupled is_written retirements is_flushed is_retired place shown native spawned paid step run_with decoded_in attempted effect_of over blocks_effect commit_of first applied decoded base_row base_patterns fields_of format_of base_formats
passing_agrees_2 = agrees passing (passing_1 ∷ passing_0 ∷ []) passing_2 (refl, (record_of 0 3146387 5 (Now 3), passing_answer_0, refl)) tt tt refl

passing_agrees_3 : AgreesWithRun bare passing passing passing_three passing_3
unfolding architecture decoupled is_written retirements is_flushed is_retired place shown native spawned paid step run_with decoded_in attempted effect_of over blocks_effect commit_of first applied decoded base_row base_patterns fields_of format_of base_formats
passing_agrees_3 = agrees passing passing_three passing_3 (refl, (record_of 4 4195091 6 (Now 4), passing_answer_1, refl)) tt tt refl

passing_agrees_4 : AgreesWithRun bare passing passing passing_four passing_4
unfolding architecture decoupled is_written retirements is_flushed is_retired place shown native spawned paid step run_with decoded_in attempted effect_of over blocks_effect commit_of first applied decoded base_row base_patterns fields_of format_of base_formats
passing_agrees_4 = agrees passing passing_four passing_4 tt (record { commit = record_of 4 4195091 6 (Now 4); step = passing_answer_1; values = refl; retired = refl; once = refl }) tt refl

passing_agrees_5 : AgreesWithRun bare passing passing passing_five passing_5
unfolding architecture decoupled is_written retirements is_flushed is_retired place shown native spawned paid step run_with decoded_in attempted effect_of over blocks_effect commit_of first applied decoded base_row base_patterns fields_of format_of base_formats
passing_agrees_5 = agrees passing passing_five passing_5 tt (record { commit = record_of 0 3146387 5 (Now 3); step = passing_answer_0; values = refl; retired = refl; once = refl }) tt refl

passing_agrees_6 : AgreesWithRun bare passing passing passing_six passing_6
unfolding architecture decoupled is_written retirements is_flushed is_retired place shown native spawned paid step run_with decoded_in attempted effect_of over blocks_effect commit_of first applied decoded base_row base_patterns fields_of format_of base_formats
passing_agrees_6 = agrees passing passing_six passing_6 tt tt tt refl

passing_agrees_7 : AgreesWithRun bare passing passing passing_seven passing_7
unfolding architecture decoupled is_written retirements is_flushed is_retired place shown native spawned paid step run_with decoded_in attempted effect_of over blocks_effect commit_of first applied decoded base_row base_patterns fields_of format_of base_formats
passing_agrees_7 = agrees passing passing_seven passing_7 (refl, (record_of 8 6456243 7 (Now 7), passing_answer_2, refl)) tt (passing_answer_3, refl) refl

pub passing_agrees : Agreeing bare (λ places. passing) passing_rows
passing_agrees = (passing_agrees_7, (passing_agrees_6, (passing_agrees_5, (passing_agrees_4, (passing_agrees_3, (passing_agrees_2, (passing_agrees_1, (passing_agrees_0, tt))))))))

-- The port

port_answer_0 : answer_at bare port_hand.image 0 ≡ Done (record_of 0 4195091 6 (Now 4))
unfolding architecture decoupled is_written retirements is_flushed is_retired place shown native spawned paid step run_with decoded_in attempted effect_of over blocks_effect commit_of first applied decoded base_row base_patterns fields_of format_of base_formats
port_answer_0 = refl

port_answer_1 : answer_at bare port_hand.image 1 ≡ Done (record_of 4 5243795 7 (Now 5))
unfolding architecture decoupled is_written retirements is_flushed is_retired place shown native spawned paid step run_with decoded_in attempted effect_of over blocks_effect commit_of first applied decoded base_row base_patterns fields_of format_of base_formats
port_answer_1 = refl

port_answer_2 : answer_at bare port_hand.image 2 ≡ Done (record_of 8 6292499 8 (Now 6))
unfolding architecture decoupled is_written retirements is_flushed is_retired place shown native spawned paid step run_with decoded_in attempted effect_of over blocks_effect commit_of first applied decoded base_row base_patterns fields_of format_of base_formats
port_answer_2 = refl

port_answer_3 : answer_at bare port_hand.image 3 ≡ Stopped Fetch
unfolding architecture decoupled is_written retirements is_flushed is_retired place shown native spawned paid step run_with decoded_in attempted effect_of over blocks_effect commit_of first applied decoded base_row base_patterns fields_of format_of base_formats
port_answer_3 = refl

port_agrees_0 : AgreesWithRun bare port port [] port_0
unfolding architecture decoupled is_written retirements is_flushed is_retired place shown native spawned paid step run_with decoded_in attempted effect_of over blocks_effect commit_of first applied decoded base_row base_patterns fields_of format_of base_formats
port_agrees_0 = agrees port [] port_0 tt tt tt refl

port_agrees_1 : AgreesWithRun bare port port (port_0 ∷ []) port_1
unfolding architecture decoupled is_written retirements is_flushed is_retired place shown native spawned paid step run_with decoded_in attempted effect_of over blocks_effect commit_of first applied decoded base_row base_patterns fields_of format_of base_formats
port_agrees_1 = agrees port (port_0 ∷ []) port_1 tt tt tt refl

port_agrees_2 : AgreesWithRun bare port port (port_1 ∷ port_0 ∷ []) port_2
unfolding architecture decoupled is_written retirements is_flushed is_retired place shown native spawned paid step run_with decoded_in attempted effect_of over blocks_effect commit_of first applied decoded base_row base_patterns fields_of format_of base_formats
port_agrees_2 = agrees port (port_1 ∷ port_0 ∷ []) port_2 (refl, (record_of 0 4195091 6 (Now 4), port_answer_0, refl)) tt tt refl

port_agrees_3 : AgreesWithRun bare port port port_three port_3
unfolding architecture decoupled is_written retirements is_flushed is_retired place shown native spawned paid step run_with decoded_in attempted effect_of over blocks_effect commit_of first applied decoded base_row base_patterns fields_of format_of base_formats
port_agrees_3 = agrees port port_three port_3 tt (record { commit = record_of 0 4195091 6 (Now 4); step = port_answer_0; values = refl; retired = refl; once = refl }) tt refl

port_agrees_4 : AgreesWithRun bare port port port_four port_4
unfolding architecture decoupled is_written retirements is_flushed is_retired place shown native spawned paid step run_with decoded_in attempted effect_of over blocks_effect commit_of first applied decoded base_row base_patterns fields_of format_of base_formats
port_agrees_4 = agrees port port_four port_4 (refl, (record_of 4 5243795 7 (Now 5), port_answer_1, refl)) tt tt refl

port_agrees_5 : AgreesWithRun bare port port port_five port_5
unfolding architecture decoupled is_written retirements is_flushed is_retired place shown native spawned paid step run_with decoded_in attempted effect_of over blocks_effect commit_of first applied decoded base_row base_patterns fields_of format_of base_formats
port_agrees_5 = agrees port port_five port_5 (refl, (record_of 8 6292499 8 (Now 6), port_answer_2, refl)) tt tt refl

port_agrees_6 : AgreesWithRun bare port port port_six port_6
unfolding architecture decoupled is_written retirements is_flushed is_retired place shown native spawned paid step run_with decoded_in attempted effect_of over blocks_effect commit_of first applied decoded base_row base_patterns fields_of format_of base_formats
port_agrees_6 = agrees port port_six port_6 tt (record { commit = record_of 8 6292499 8 (Now 6); step = port_answer_2; values = refl; retired = refl; once = refl }) (port_answer_3, refl) refl

pub port_agrees : Agreeing bare (λ places. port) port_rows
port_agrees = (port_agrees_6, (port_agrees_5, (port_agrees_4, (port_agrees_3, (port_agrees_2, (port_agrees_1, (port_agrees_0, tt)))))))

-- The frozen unit

frozen_answer_0 : answer_at bare frozen_hand.image 0 ≡ Done (record_of 0 3146387 5 (Now 3))
unfolding architecture decoupled is_written retirements is_flushed is_retired place shown native spawned paid step run_with decoded_in attempted effect_of over blocks_effect commit_of first applied decoded base_row base_patterns fields_of format_of base_formats
frozen_answer_0 = refl

frozen_answer_1 : answer_at bare frozen_hand.image 1 ≡ Done (record_of 4 4195091 6 (Now 4))
unfolding architecture decoupled is_written retirements is_flushed is_retired place shown native spawned paid step run_with decoded_in attempted effect_of over blocks_effect commit_of first applied decoded base_row base_patterns fields_of format_of base_formats
frozen_answer_1 = refl

frozen_answer_2 : answer_at bare frozen_hand.image 2 ≡ Done (record_of 8 6292499 8 (Now 6))
unfolding architecture decoupled is_written retirements is_flushed is_retired place shown native spawned paid step run_with decoded_in attempted effect_of over blocks_effect commit_of first applied decoded base_row base_patterns fields_of format_of base_formats
frozen_answer_2 = refl

frozen_answer_3 : answer_at bare frozen_hand.image 3 ≡ Done (record_of 12 15 0 Absent)
unfolding architecture decoupled is_written retirements is_flushed is_retired place shown native spawned paid step run_with decoded_in attempted effect_of over blocks_effect commit_of first applied decoded base_row base_patterns fields_of format_of base_formats
frozen_answer_3 = refl

frozen_answer_4 : answer_at bare frozen_hand.image 4 ≡ Stopped Ebreak
unfolding architecture decoupled is_written retirements is_flushed is_retired place shown native spawned paid step run_with decoded_in attempted effect_of over blocks_effect commit_of first applied decoded base_row base_patterns fields_of format_of base_formats
frozen_answer_4 = refl

frozen_agrees_0 : AgreesWithRun bare frozen frozen [] frozen_0
unfolding architecture decoupled is_written retirements is_flushed is_retired place shown native spawned paid step run_with decoded_in attempted effect_of over blocks_effect commit_of first applied decoded base_row base_patterns fields_of format_of base_formats
frozen_agrees_0 = agrees frozen [] frozen_0 tt tt tt refl

frozen_agrees_1 : AgreesWithRun bare frozen frozen (frozen_0 ∷ []) frozen_1
unfolding architecture decoupled is_written retirements is_flushed is_retired place shown native spawned paid step run_with decoded_in attempted effect_of over blocks_effect commit_of first applied decoded base_row base_patterns fields_of format_of base_formats
frozen_agrees_1 = agrees frozen (frozen_0 ∷ []) frozen_1 tt tt tt refl

frozen_agrees_2 : AgreesWithRun bare frozen frozen (frozen_1 ∷ frozen_0 ∷ []) frozen_2
unfolding architecture decoupled is_written retirements is_flushed is_retired place shown native spawned paid step run_with decoded_in attempted effect_of over blocks_effect commit_of first applied decoded base_row base_patterns fields_of format_of base_formats
frozen_agrees_2 = agrees frozen (frozen_1 ∷ frozen_0 ∷ []) frozen_2 (refl, (record_of 0 3146387 5 (Now 3), frozen_answer_0, refl)) tt tt refl

frozen_agrees_3 : AgreesWithRun bare frozen frozen (frozen_2 ∷ frozen_1 ∷ frozen_0 ∷ []) frozen_3
unfolding architecture decoupled is_written retirements is_flushed is_retired place shown native spawned paid step run_with decoded_in attempted effect_of over blocks_effect commit_of first applied decoded base_row base_patterns fields_of format_of base_formats
frozen_agrees_3 = agrees frozen (frozen_2 ∷ frozen_1 ∷ frozen_0 ∷ []) frozen_3 (refl, (record_of 4 4195091 6 (Now 4), frozen_answer_1, refl)) tt tt refl

frozen_agrees_4 : AgreesWithRun bare frozen frozen (frozen_3 ∷ frozen_2 ∷ frozen_1 ∷ frozen_0 ∷ []) frozen_4
unfolding architecture decoupled is_written retirements is_flushed is_retired place shown native spawned paid step run_with decoded_in attempted effect_of over blocks_effect commit_of first applied decoded base_row base_patterns fields_of format_of base_formats
frozen_agrees_4 = agrees frozen (frozen_3 ∷ frozen_2 ∷ frozen_1 ∷ frozen_0 ∷ []) frozen_4 (refl, (record_of 8 6292499 8 (Now 6), frozen_answer_2, refl)) tt tt refl

frozen_agrees_5 : AgreesWithRun bare frozen frozen frozen_five frozen_5
unfolding architecture decoupled is_written retirements is_flushed is_retired place shown native spawned paid step run_with decoded_in attempted effect_of over blocks_effect commit_of first applied decoded base_row base_patterns fields_of format_of base_formats
frozen_agrees_5 = agrees frozen frozen_five frozen_5 tt (record { commit = record_of 0 3146387 5 (Now 3); step = frozen_answer_0; values = refl; retired = refl; once = refl }) tt refl

frozen_agrees_6 : AgreesWithRun bare frozen frozen frozen_six frozen_6
unfolding architecture decoupled is_written retirements is_flushed is_retired place shown native spawned paid step run_with decoded_in attempted effect_of over blocks_effect commit_of first applied decoded base_row base_patterns fields_of format_of base_formats
frozen_agrees_6 = agrees frozen frozen_six frozen_6 (refl, (record_of 12 15 0 Absent, frozen_answer_3, refl)) (record { commit = record_of 4 4195091 6 (Now 4); step = frozen_answer_1; values = refl; retired = refl; once = refl }) tt refl

frozen_agrees_7 : AgreesWithRun bare frozen frozen frozen_seven frozen_7
unfolding architecture decoupled is_written retirements is_flushed is_retired place shown native spawned paid step run_with decoded_in attempted effect_of over blocks_effect commit_of first applied decoded base_row base_patterns fields_of format_of base_formats
frozen_agrees_7 = agrees frozen frozen_seven frozen_7 tt (record { commit = record_of 8 6292499 8 (Now 6); step = frozen_answer_2; values = refl; retired = refl; once = refl }) tt refl

frozen_agrees_8 : AgreesWithRun bare frozen frozen frozen_eight frozen_8
unfolding architecture decoupled is_written retirements is_flushed is_retired place shown native spawned paid step run_with decoded_in attempted effect_of over blocks_effect commit_of first applied decoded base_row base_patterns fields_of format_of base_formats
frozen_agrees_8 = agrees frozen frozen_eight frozen_8 tt (record { commit = record_of 12 15 0 Absent; step = frozen_answer_3; values = refl; retired = refl; once = refl }) (frozen_answer_4, refl) refl

pub frozen_agrees : Agreeing bare (λ places. frozen) frozen_rows
frozen_agrees = (frozen_agrees_8, (frozen_agrees_7, (frozen_agrees_6, (frozen_agrees_5, (frozen_agrees_4, (frozen_agrees_3, (frozen_agrees_2, (frozen_agrees_1, (frozen_agrees_0, tt)))))))))

-- Lists that are not the run's

-- the value of a write, 0 where there is none, and 1 where it comes later
abbrev told : Slot ℕ → ℕ
told Absent = 0
told (Now n) = n
told Later = 1

abbrev rd_of : StepAnswer → Slot ℕ
rd_of (Done c) = c.rd
rd_of (Stopped stop) = Absent

done_same : (a : StepAnswer) (c d : Commit) → a ≡ Done c → a ≡ Done d → c ≡ d
done_same a c d e f = the (sym e ∙ f) where
  the : ◌≡◌ {A = StepAnswer} (Done c) (Done d) → c ≡ d
  the q = cc

pub wrong_write_refused : IsOther wrong_write
unfolding architecture decoupled is_written retirements is_flushed is_retired place shown native spawned paid step run_with decoded_in attempted effect_of over blocks_effect commit_of first applied decoded base_row base_patterns fields_of format_of base_formats
wrong_write_refused h =
    let w = h.0.written (write_of 1 6 (Now 5)) refl in
    let same = done_same (answer_at bare passing_hand.image 1) (record_of 4 4195091 6 (Now 4)) w.commit passing_answer_1 w.step in
    let e : ◌≡◌ {A = ℕ} 5 4 = ap (λ (s : Spawned). told s.rd) w.values ∙ ap (λ (c : Commit). told (spawned (passing.asks c.word) (passing.course.own 1) c).rd) (sym same) in
    absurd (omega (arith, e))

pub late_native_refused : IsOther late_native
unfolding architecture decoupled is_written retirements is_flushed is_retired place shown native spawned paid step run_with decoded_in attempted effect_of over blocks_effect commit_of first applied decoded base_row base_patterns fields_of format_of base_formats
late_native_refused h =
    let r = h.0.recorded 2 (record_of 8 6456243 7 Later) refl in
    let same = done_same (answer_at bare passing_hand.image 2) (record_of 8 6456243 7 (Now 7)) r.0 passing_answer_2 r.1 in
    let e : ◌≡◌ {A = ℕ} 1 7 = ap (λ (c : Commit). told c.rd) r.2 ∙ ap (λ (c : Commit). told (shown (passing.asks c.word) c).rd) (sym same) in
    absurd (omega (arith, e))

pub early_spawn_refused : IsOther early_spawn
unfolding architecture decoupled is_written retirements is_flushed is_retired place shown native spawned paid step run_with decoded_in attempted effect_of over blocks_effect commit_of first applied decoded base_row base_patterns fields_of format_of base_formats
early_spawn_refused h =
    let r = h.0.recorded 0 (record_of 0 3146387 5 (Now 3)) refl in
    let same = done_same (answer_at bare passing_hand.image 0) (record_of 0 3146387 5 (Now 3)) r.0 passing_answer_0 r.1 in
    let e : ◌≡◌ {A = ℕ} 3 1 = ap (λ (c : Commit). told c.rd) r.2 ∙ ap (λ (c : Commit). told (shown (passing.asks c.word) c).rd) (sym same) in
    absurd (omega (arith, e))

pub later_left_out_refused : IsOtherFrozen later_left_out
unfolding architecture decoupled is_written retirements is_flushed is_retired place shown native spawned paid step run_with decoded_in attempted effect_of over blocks_effect commit_of first applied decoded base_row base_patterns fields_of format_of base_formats
later_left_out_refused h =
    let r = h.0.recorded 3 (record_of 12 15 0 Absent) refl in
    let same = done_same (answer_at bare frozen_hand.image 3) (record_of 12 15 0 Absent) r.0 frozen_answer_3 r.1 in
    let e : ◌≡◌ {A = ℕ} 0 1 = ap (λ (c : Commit). told c.rd) r.2 ∙ ap (λ (c : Commit). told (shown (frozen.asks c.word) c).rd) (sym same) in
    absurd (omega (arith, e))

-- What is outstanding

pub owes_both : OwesBoth
unfolding decoupled is_written
owes_both = refl

pub owes_one : OwesOne
unfolding decoupled is_written
owes_one = refl

pub writes_one : WritesOne
unfolding architecture decoupled is_written retirements is_flushed is_retired place shown native spawned paid step run_with decoded_in attempted effect_of over blocks_effect commit_of first applied decoded base_row base_patterns fields_of format_of base_formats
writes_one = (refl, refl)

pub applies_both : AppliesBoth
unfolding architecture decoupled is_written retirements is_flushed is_retired place shown native spawned paid step run_with decoded_in attempted effect_of over blocks_effect commit_of first applied decoded base_row base_patterns fields_of format_of base_formats
applies_both = (refl, refl)
