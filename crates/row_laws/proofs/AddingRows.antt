-- The rows of the run that adds five and seven are lawful and the run's, and those that differ in one thing are not.
use Rattle.std.proofs.Common.{◌≡◌, ℕ, zero, suc, ◌<◌, List, [], ◌∷◌, Option, Some, None, true, false, refl, sym, ap, ◌∙◌, subst, arith, inl, inr}
use Rattle.std.specs.Prelude.{get_or}
use Rattle.ix_bits.specs.BaseTable.{base_patterns}
use Rattle.rv_asks.specs.declared.asks.Asks.{Asks}
use Rattle.rv_asks.specs.Asks.{asks_with, blank_outline}
use Rattle.rv_isa.specs.Table.{row_of as base_row, format_of, base_formats}
use Rattle.rv_isa.specs.Fields.{fields_of}
use Rattle.rv_isa.specs.Decoded.{decoded}
use Rattle.rv_seq.specs.declared.decoded.Decoded.{Decoded}
use Rattle.rv_seq.specs.declared.decoded.Decoded.TheVariants as D
use Rattle.rv_seq.specs.Decoding.{decoded_in}
use Rattle.rv_seq.specs.WordEffects.{effect_of, over, blocks_effect}
use Rattle.rv_lawful.specs.Headline.{AgreesWithRun, Agreeing}
use Rattle.rv_lawful.specs.LawfulTrace.{fetch_address, next_serial, reads_of, IsDueToStop, WaitsForOperand, WaitsToDrain, OwnHold, StopsRun, ShowsHold, Settles, successor, LawfulRow, Lawful}
use Rattle.rv_lawful.specs.Settings.{Stands}
use Rattle.rv_lawful.specs.Outstanding.{is_written, decoupled, architecture}
use Rattle.rv_tried.specs.Parts.{shown, native}
use Rattle.rv_seq.specs.Bare.{bare}
use Rattle.rv_seq.specs.Commits.{commit_of, applied}
use Rattle.rv_seq.specs.Runs.{run_with, run, answer_at}
use Rattle.rv_seq.specs.States.{first}
use Rattle.rv_seq.specs.Steps.{attempted, step, after}
use Rattle.rv_seq.specs.declared.answer.StepAnswer.{StepAnswer}
use Rattle.rv_seq.specs.declared.answer.StepAnswer.TheVariants.{Done, Stopped}
use Rattle.rv_seq.specs.declared.commit.Commit.{Commit}
use Rattle.rv_seq.specs.declared.commit.Slot.{Slot}
use Rattle.rv_seq.specs.declared.commit.Slot.TheVariants.{Absent, Now, Later}
use Rattle.rv_seq.specs.declared.commit.Stop.{Stop}
use Rattle.rv_seq.specs.declared.commit.Stop.TheVariants.{Ebreak, Fetch}
use Rattle.rv_trace.specs.RowParts.{name_of, leaves, ComesFirst}
use Rattle.rv_trace.specs.Trace.{is_flushed, is_retired, place, retirements}
use Rattle.rv_trace.specs.declared.row.Cell.{Cell}
use Rattle.rv_trace.specs.declared.row.Hold.{Hold}
use Rattle.rv_trace.specs.declared.row.Hold.TheVariants.{Operand, Behind}
use Rattle.rv_trace.specs.declared.row.Row.{Row}
use Rattle.row_laws.specs.Adding.{adding_image, adding_asks, adding_hand, adding, writes, five, seven, sum, break, row_0, row_1, row_2, row_3, row_4, last_row, row_5, two_rows, five_rows, adding_rows, IsOther, wrong_value, wrong_order, other_stop}
use Rattle.rv_lawful.specs.Sight.{SpawnsNothing}
use Rattle.row_laws.specs.Hands.{three, no_customs}
use Rattle.row_laws.proofs.Agreement.{agrees}
use Rattle.row_laws.proofs.Stages.{SpawnsNone, left_unretired, none_written, untaken, true_not_false, no_register, no_custom, same_cell, AllNamed, named, word_is, Free, free_outside, free_behind, done_below, no_own, goes_before, shows_none, shows_behind, shows_own, operand_first, shows_last, settles_at_ex, no_turn, none_settles, no_stop, some_left, none_retires, one_retires}

-- The run

answer_0 : answer_at bare adding_image 0 ≡ Done (writes 0 5243027 1 5)
unfolding step run_with decoded_in attempted effect_of over blocks_effect commit_of first applied decoded base_row base_patterns fields_of format_of base_formats
answer_0 = refl

answer_1 : answer_at bare adding_image 1 ≡ Done (writes 4 7340307 2 7)
unfolding step run_with decoded_in attempted effect_of over blocks_effect commit_of first applied decoded base_row base_patterns fields_of format_of base_formats
answer_1 = refl

answer_2 : answer_at bare adding_image 2 ≡ Done (writes 8 2130355 3 12)
unfolding step run_with decoded_in attempted effect_of over blocks_effect commit_of first applied decoded base_row base_patterns fields_of format_of base_formats
answer_2 = refl

answer_3 : answer_at bare adding_image 3 ≡ Stopped Ebreak
unfolding step run_with decoded_in attempted effect_of over blocks_effect commit_of first applied decoded base_row base_patterns fields_of format_of base_formats
answer_3 = refl

-- What the rows retire is the run's

abbrev three_rows : List Row
three_rows = row_2 ∷ two_rows

abbrev four_rows : List Row
four_rows = row_3 ∷ three_rows

-- the stop of the last row, whichever it shows
last_answer : (stop : Option Stop) → answer_at bare adding_image (retirements (last_row stop ∷ five_rows)) ≡ Stopped Ebreak
unfolding retirements
last_answer stop = answer_3

agrees_0 : AgreesWithRun bare adding adding [] row_0
unfolding architecture decoupled is_written retirements is_flushed is_retired place shown native step run_with decoded_in attempted effect_of over blocks_effect commit_of first applied decoded base_row base_patterns fields_of format_of base_formats
agrees_0 = agrees adding [] row_0 tt tt tt refl

agrees_1 : AgreesWithRun bare adding adding (row_0 ∷ []) row_1
unfolding architecture decoupled is_written retirements is_flushed is_retired place shown native step run_with decoded_in attempted effect_of over blocks_effect commit_of first applied decoded base_row base_patterns fields_of format_of base_formats
agrees_1 = agrees adding (row_0 ∷ []) row_1 tt tt tt refl

agrees_2 : AgreesWithRun bare adding adding two_rows row_2
unfolding architecture decoupled is_written retirements is_flushed is_retired place shown native step run_with decoded_in attempted effect_of over blocks_effect commit_of first applied decoded base_row base_patterns fields_of format_of base_formats
agrees_2 = agrees adding two_rows row_2 (refl, (writes 0 5243027 1 5, answer_0, refl)) tt tt refl

agrees_3 : AgreesWithRun bare adding adding three_rows row_3
unfolding architecture decoupled is_written retirements is_flushed is_retired place shown native step run_with decoded_in attempted effect_of over blocks_effect commit_of first applied decoded base_row base_patterns fields_of format_of base_formats
agrees_3 = agrees adding three_rows row_3 (refl, (writes 4 7340307 2 7, answer_1, refl)) tt tt refl

agrees_4 : AgreesWithRun bare adding adding four_rows row_4
unfolding architecture decoupled is_written retirements is_flushed is_retired place shown native step run_with decoded_in attempted effect_of over blocks_effect commit_of first applied decoded base_row base_patterns fields_of format_of base_formats
agrees_4 = agrees adding four_rows row_4 tt tt tt refl

agrees_5 : AgreesWithRun bare adding adding five_rows row_5
unfolding architecture decoupled is_written retirements is_flushed is_retired place shown native step run_with decoded_in attempted effect_of over blocks_effect commit_of first applied decoded base_row base_patterns fields_of format_of base_formats
agrees_5 = agrees adding five_rows row_5 (refl, (writes 8 2130355 3 12, answer_2, refl)) tt (last_answer (Some Ebreak), refl) refl

pub adding_agrees : Agreeing bare (λ places. adding) adding_rows
adding_agrees = (agrees_5, (agrees_4, (agrees_3, (agrees_2, (agrees_1, (agrees_0, tt))))))

-- what is written to the x register
abbrev written : Slot ℕ → ℕ
written Absent = 0
written (Now v) = v
written Later = 0

done_same : (a : StepAnswer) (c d : Commit) → a ≡ Done c → a ≡ Done d → c ≡ d
done_same a c d e f = the (sym e ∙ f) where
  the : ◌≡◌ {A = StepAnswer} (Done c) (Done d) → c ≡ d
  the q = cc

pub wrong_value_refused : IsOther wrong_value
unfolding architecture decoupled is_written retirements is_flushed is_retired place shown native step run_with decoded_in attempted effect_of over blocks_effect commit_of first applied decoded base_row base_patterns fields_of format_of base_formats
wrong_value_refused h =
    let r = h.0.recorded 0 (writes 0 5243027 1 6) refl in
    let same = done_same (answer_at bare adding_image 0) (writes 0 5243027 1 5) r.0 answer_0 r.1 in
    let e : ◌≡◌ {A = ℕ} 6 5 = ap (λ (c : Commit). written c.rd) r.2 ∙ ap (λ (c : Commit). written (shown (adding_asks c.word) c).rd) (sym same) in
    absurd (omega (arith, e))

pub wrong_order_refused : IsOther wrong_order
unfolding retirements place is_flushed
wrong_order_refused h = let e : ◌≡◌ {A = ℕ} 1 0 = h.0.placed 1 (writes 4 7340307 2 7) refl in absurd (omega (arith, e))

break_not_fetch : ◌≡◌ {A = StepAnswer} (Stopped Ebreak) (Stopped Fetch) → ⊥
break_not_fetch e = cc

pub other_stop_refused : IsOther other_stop
other_stop_refused h = break_not_fetch (sym (last_answer (Some Fetch)) ∙ h.0.stop Fetch refl)

-- What is asked of the words

at_front : ◌≡◌ {A = ℕ} 0 1 → ⊥
at_front e = absurd (omega (arith, e))

at_end : ◌≡◌ {A = ℕ} 2 1 → ⊥
at_end e = absurd (omega (arith, e))

-- no instruction of the base set writes the pc late, goes on in the last stage, or uses a custom register
abbrev IsPlain : Asks → Type 0
IsPlain a = (a.late ≡ false) × (a.tail ≡ 0) × (a.customs ≡ no_customs)

plain : (word : ℕ) → IsPlain (adding_asks word)
plain word = by_instruction (decoded_in bare word) where
  by_instruction : (o : Option Decoded) → IsPlain (asks_with three [] (λ n. None) (blank_outline three []) word o)
  by_instruction None = (refl, refl, refl)
  by_instruction (Some (D.Base b)) = (refl, refl, refl)
  by_instruction (Some (D.Own n)) = (refl, refl, refl)

-- nor does one spawn
none_spawned : SpawnsNone adding_hand
none_spawned word = by_instruction (decoded_in bare word) where
  by_instruction : (o : Option Decoded) → SpawnsNothing (asks_with three [] (λ n. None) (blank_outline three []) word o)
  by_instruction None = record { x = refl; customs = λ r. no_custom r; unit = refl }
  by_instruction (Some (D.Base b)) = record { x = refl; customs = λ r. no_custom r; unit = refl }
  by_instruction (Some (D.Own n)) = record { x = refl; customs = λ r. no_custom r; unit = refl }

-- these load nothing, and all but the sum read nothing
abbrev IsQuiet : ℕ → Type 0
IsQuiet word = ((adding_asks word).loads ≡ false) × ((adding_asks word).first ≡ 0) × ((adding_asks word).second ≡ 0)

five_quiet : IsQuiet 5243027
unfolding decoded_in decoded base_row base_patterns fields_of format_of base_formats
five_quiet = (refl, refl, refl)

seven_quiet : IsQuiet 7340307
unfolding decoded_in decoded base_row base_patterns fields_of format_of base_formats
seven_quiet = (refl, refl, refl)

break_quiet : IsQuiet 1048691
unfolding decoded_in decoded base_row base_patterns fields_of format_of base_formats
break_quiet = (refl, refl, refl)

sum_loads : (adding_asks 2130355).loads ≡ false
unfolding decoded_in decoded base_row base_patterns fields_of format_of base_formats
sum_loads = refl

sum_reads_2 : reads_of (adding_asks 2130355) 2 ≡ true
unfolding decoded_in decoded base_row base_patterns fields_of format_of base_formats
sum_reads_2 = refl

seven_writes : (adding_asks 7340307).destination ≡ 2
unfolding decoded_in decoded base_row base_patterns fields_of format_of base_formats
seven_writes = refl

at_ex : (earlier : List Row) (row : Row) (stage : ℕ) (c : Cell) → Settles adding earlier row stage c → stage ≡ 1
at_ex earlier row stage c s = settles_at_ex adding_hand earlier row stage c (plain c.word).0 s

-- What a cell does whose step does not stop

done_runs : (rows : List Row) (c : Cell) (p : ℕ) (d : Commit) → place rows c.serial ≡ p → answer_at bare adding_image p ≡ Done d → (stop : Stop) → IsDueToStop adding rows c stop → ⊥
done_runs rows c p d e a stop due = apart (sym a ∙ ap (answer_at bare adding_image) (sym e) ∙ due) where
  apart : ◌≡◌ {A = StepAnswer} (Done d) (Stopped stop) → ⊥
  apart q = cc

goes_to : (rows : List Row) (c : Cell) (p : ℕ) (d : Commit) → place rows c.serial ≡ p → answer_at bare adding_image p ≡ Done d → successor adding rows c ≡ d.next
unfolding run_with applied
goes_to rows c p d e a = ap (λ n. (run bare adding_image (suc n)).pc) e ∙ ap (λ r. (after bare (run bare adding_image p) r).pc) a

-- no hold of the base set's is true of a cell of EX but Operand and Drain
free_plain : (earlier : List Row) (row : Row) (c : Cell) → ((r j : ℕ) → WaitsForOperand adding earlier row 1 c r j → ⊥) → ((j : ℕ) → WaitsToDrain adding earlier row 1 c j → ⊥) → Free adding_hand earlier row 1 c
free_plain earlier row c operand drain = record {
  operand = operand;
  custom = λ r j w. true_not_false (sym w.uses ∙ ap (λ l. get_or l r false) (plain c.word).2 ∙ no_custom r);
  late = λ j w. true_not_false (sym w.jumps.2 ∙ (plain w.jumps.0).0);
  drain = drain;
}

free_front : (earlier : List Row) (row : Row) (c : Cell) → (adding_asks c.word).loads ≡ false → (g : Hold) → OwnHold adding earlier row 0 c g → ⊥
free_front earlier row c loads g o = no_own adding_hand none_spawned earlier row 0 c (free_outside adding_hand earlier row 0 c at_front) loads (done_below adding_hand earlier row 0 c (omega arith)) g o

free_ex : (earlier : List Row) (row : Row) (c : Cell) → Free adding_hand earlier row 1 c → (adding_asks c.word).loads ≡ false → (g : Hold) → OwnHold adding earlier row 1 c g → ⊥
free_ex earlier row c free loads g o = no_own adding_hand none_spawned earlier row 1 c free loads (done_below adding_hand earlier row 1 c (omega arith)) g o

-- a quiet cell of EX whose step does not stop
free_quiet : (earlier : List Row) (row : Row) (c : Cell) → IsQuiet c.word → ((stop : Stop) → IsDueToStop adding (row ∷ earlier) c stop → ⊥) → (g : Hold) → OwnHold adding earlier row 1 c g → ⊥
free_quiet earlier row c q runs g o = free_ex earlier row c (free_plain earlier row c (λ r j w. true_not_false (sym w.reads ∙ no_register (adding_asks c.word) r q.1 q.2)) (λ j w. runs w.due.0 w.due.1)) q.0 g o

-- a cell of the last stage that goes
shows_out : (earlier : List Row) (row : Row) (c : Cell) → c.hold ≡ None → (adding_asks c.word).loads ≡ false → ShowsHold adding earlier row 2 c
shows_out earlier row c e loads = let none = (plain c.word).1 in shows_last adding_hand none_spawned earlier row c e loads (omega (arith, none))

-- The first row

lawful_0 : LawfulRow adding [] row_0
unfolding fetch_address next_serial
lawful_0 = record {
  form = record { behind = refl; listed = refl; ascending = tt };
  moves = (refl, (refl, (refl, tt)));
  retires = none_retires adding_hand row_0 refl (λ c s l. cc);
  holds = shows;
  successors = none_settles adding_hand [] row_0 refl refl (λ stage c stands s. no_second c (subst (λ n. Stands adding row_0 n c) (at_ex [] row_0 stage c s) stands));
  units = none_written adding_hand [] row_0 refl refl;
  takes = untaken adding_hand [] row_0 refl;
  stops = no_stop adding_hand [] row_0 refl (λ c stop stands s. no_second c stands) (some_left adding_hand row_0 0 five (omega arith) refl refl);
} where
  no_second : (c : Cell) → Stands adding row_0 1 c → ⊥
  no_second c s = cc

  shows : (stage : ℕ) (c : Cell) → Stands adding row_0 stage c → ShowsHold adding [] row_0 stage c
  shows zero c s =
      same_cell (λ d. ShowsHold adding [] row_0 0 d) five c s
      (shows_none adding [] row_0 0 five refl (λ alive runs g t. elim t [
        | inl o ↦ free_front [] row_0 five five_quiet.0 g o
        | inr b ↦ no_second b.1.0 b.1.1
      ]))
  shows (suc zero) c s = cc
  shows (suc (suc zero)) c s = cc
  shows (suc (suc (suc n))) c s = cc

-- The second row

runs_0 : (stop : Stop) → IsDueToStop adding two_rows five stop → ⊥
unfolding place
runs_0 stop due = done_runs two_rows five 0 (writes 0 5243027 1 5) refl answer_0 stop due

lawful_1 : LawfulRow adding (row_0 ∷ []) row_1
unfolding fetch_address next_serial place is_flushed
lawful_1 = record {
  form = record { behind = refl; listed = refl; ascending = tt };
  moves = (refl, (refl, (refl, tt)));
  retires = none_retires adding_hand row_1 refl (λ c s l. cc);
  holds = shows;
  successors = no_turn adding_hand (row_0 ∷ []) row_1 refl refl (λ stage c stands s.
      (at_ex (row_0 ∷ []) row_1 stage c s, (seven, refl, goes_on c (subst (λ n. Stands adding row_1 n c) (at_ex (row_0 ∷ []) row_1 stage c s) stands))));
  units = none_written adding_hand (row_0 ∷ []) row_1 refl refl;
  takes = untaken adding_hand (row_0 ∷ []) row_1 refl;
  stops = no_stop adding_hand (row_0 ∷ []) row_1 refl (λ c stop stands s. same_cell (λ d. StopsRun adding (row_0 ∷ []) row_1 1 d stop → ⊥) five c stands (λ r. runs_0 stop r.due) s)
      (some_left adding_hand row_1 0 seven (omega arith) refl refl);
} where
  goes_on : (c : Cell) → Stands adding row_1 1 c → 4 ≡ successor adding two_rows c
  goes_on c s = same_cell (λ d. 4 ≡ successor adding two_rows d) five c s (sym (goes_to two_rows five 0 (writes 0 5243027 1 5) refl answer_0))

  shows : (stage : ℕ) (c : Cell) → Stands adding row_1 stage c → ShowsHold adding (row_0 ∷ []) row_1 stage c
  shows zero c s =
      same_cell (λ d. ShowsHold adding (row_0 ∷ []) row_1 0 d) seven c s
      (shows_none adding (row_0 ∷ []) row_1 0 seven refl (λ alive runs g t. elim t [
        | inl o ↦ free_front (row_0 ∷ []) row_1 seven seven_quiet.0 g o
        | inr b ↦ goes_before adding (row_0 ∷ []) row_1 0 five refl refl (λ stop r. runs_0 stop r.due) b.1
      ]))
  shows (suc zero) c s =
      same_cell (λ d. ShowsHold adding (row_0 ∷ []) row_1 1 d) five c s
      (shows_none adding (row_0 ∷ []) row_1 1 five refl (λ alive runs g t. elim t [
        | inl o ↦ free_quiet (row_0 ∷ []) row_1 five five_quiet runs_0 g o
        | inr b ↦ cc (b.1.1)
      ]))
  shows (suc (suc zero)) c s = cc
  shows (suc (suc (suc n))) c s = cc

-- The third row: five retires

runs_1 : (stop : Stop) → IsDueToStop adding three_rows seven stop → ⊥
unfolding place is_flushed
runs_1 stop due = done_runs three_rows seven 1 (writes 4 7340307 2 7) refl answer_1 stop due

lawful_2 : LawfulRow adding two_rows row_2
unfolding fetch_address next_serial place is_flushed
lawful_2 = record {
  form = record { behind = refl; listed = refl; ascending = tt };
  moves = (refl, (refl, (refl, tt)));
  retires = one_retires adding_hand row_2 five (writes 0 5243027 1 5) refl refl refl;
  holds = shows;
  successors = no_turn adding_hand two_rows row_2 refl refl (λ stage c stands s.
      (at_ex two_rows row_2 stage c s, (sum None, refl, goes_on c (subst (λ n. Stands adding row_2 n c) (at_ex two_rows row_2 stage c s) stands))));
  units = none_written adding_hand two_rows row_2 refl refl;
  takes = untaken adding_hand two_rows row_2 refl;
  stops = no_stop adding_hand two_rows row_2 refl (λ c stop stands s. same_cell (λ d. StopsRun adding two_rows row_2 1 d stop → ⊥) seven c stands (λ r. runs_1 stop r.due) s)
      (some_left adding_hand row_2 0 (sum None) (omega arith) refl refl);
} where
  goes_on : (c : Cell) → Stands adding row_2 1 c → 8 ≡ successor adding three_rows c
  goes_on c s = same_cell (λ d. 8 ≡ successor adding three_rows d) seven c s (sym (goes_to three_rows seven 1 (writes 4 7340307 2 7) refl answer_1))

  shows : (stage : ℕ) (c : Cell) → Stands adding row_2 stage c → ShowsHold adding two_rows row_2 stage c
  shows zero c s =
      same_cell (λ d. ShowsHold adding two_rows row_2 0 d) (sum None) c s
      (shows_none adding two_rows row_2 0 (sum None) refl (λ alive runs g t. elim t [
        | inl o ↦ free_front two_rows row_2 (sum None) sum_loads g o
        | inr b ↦ goes_before adding two_rows row_2 0 seven refl refl (λ stop r. runs_1 stop r.due) b.1
      ]))
  shows (suc zero) c s =
      same_cell (λ d. ShowsHold adding two_rows row_2 1 d) seven c s
      (shows_none adding two_rows row_2 1 seven refl (λ alive runs g t. elim t [
        | inl o ↦ free_quiet two_rows row_2 seven seven_quiet runs_1 g o
        | inr b ↦ goes_before adding two_rows row_2 1 five refl refl (λ stop r. at_end r.executing) b.1
      ]))
  shows (suc (suc zero)) c s = same_cell (λ d. ShowsHold adding two_rows row_2 2 d) five c s (shows_out two_rows row_2 five refl five_quiet.0)
  shows (suc (suc (suc n))) c s = cc

-- The fourth row: the sum waits for the seven

five_retired : is_retired three_rows 0 ≡ true
unfolding is_retired
five_retired = refl

seven_stays : (is_flushed four_rows 1 ≡ false) × (is_retired three_rows 1 ≡ false)
unfolding is_flushed is_retired
seven_stays = (refl, refl)

sum_waits : WaitsForOperand adding three_rows row_3 1 (sum (Some (Operand 2 1))) 2 1
sum_waits = record {
  reading = refl;
  reads = sum_reads_2;
  older = record { lower = omega arith; unflushed = seven_stays.0 };
  unretired = seven_stays.1;
  writes = (7340307, inl (2, seven, refl, refl, refl), seven_writes);
  withheld = λ e. absurd (true_not_false (sym e));
}

named_3 : AllNamed adding_hand four_rows
named_3 = (
  named adding_hand row_3 (Some (break (Some Behind))) (Some (sum (Some (Operand 2 1)))) (Some seven) (None ∷ None ∷ []) refl refl refl refl,
  (
    named adding_hand row_2 (Some (sum None)) (Some seven) (Some five) (None ∷ None ∷ []) refl refl refl refl,
    (named adding_hand row_1 (Some seven) (Some five) None (None ∷ None ∷ []) refl refl refl tt, (named adding_hand row_0 (Some five) None None (None ∷ None ∷ []) refl refl tt tt, tt)),
  ),
)

sum_first : (r j : ℕ) → WaitsForOperand adding three_rows row_3 1 (sum (Some (Operand 2 1))) r j → ComesFirst (Operand 2 1) (Operand r j)
sum_first r zero w = absurd (true_not_false (sym five_retired ∙ w.unretired))
sum_first r (suc zero) w =
    let word : w.writes.0 ≡ 7340307 = word_is adding_hand four_rows named_3 1 w.writes.0 w.writes.1 in
    inr (refl, inr (sym seven_writes ∙ ap (λ n. (adding_asks n).destination) (sym word) ∙ w.writes.2, omega arith))
sum_first r (suc (suc j)) w = let lt = w.older.lower in absurd (omega (arith, lt))

lawful_3 : LawfulRow adding three_rows row_3
unfolding fetch_address next_serial
lawful_3 = record {
  form = record { behind = refl; listed = refl; ascending = tt };
  moves = (refl, (refl, (refl, tt)));
  retires = one_retires adding_hand row_3 seven (writes 4 7340307 2 7) refl refl refl;
  holds = shows;
  successors = none_settles adding_hand three_rows row_3 refl refl settles;
  units = none_written adding_hand three_rows row_3 refl refl;
  takes = untaken adding_hand three_rows row_3 refl;
  stops = no_stop adding_hand three_rows row_3 refl (λ c stop stands s. same_cell (λ d. StopsRun adding three_rows row_3 1 d stop → ⊥) (sum (Some (Operand 2 1))) c stands (λ r. r.free (Operand 2 1) sum_waits) s)
      (some_left adding_hand row_3 0 (break (Some Behind)) (omega arith) refl refl);
} where
  settles : (stage : ℕ) (c : Cell) → Stands adding row_3 stage c → Settles adding three_rows row_3 stage c → ⊥
  settles stage c stands s =
      same_cell (λ d. leaves row_3 (Some d) ≡ name_of (Some d) → ⊥) (sum (Some (Operand 2 1))) c (subst (λ n. Stands adding row_3 n c) (at_ex three_rows row_3 stage c s) stands) (λ q. cc) s.leaves

  shows : (stage : ℕ) (c : Cell) → Stands adding row_3 stage c → ShowsHold adding three_rows row_3 stage c
  shows zero c s =
      same_cell (λ d. ShowsHold adding three_rows row_3 0 d) (break (Some Behind)) c s
      (shows_behind adding three_rows row_3 0 (break (Some Behind)) refl refl at_front (sum (Some (Operand 2 1)), refl, inl refl) (free_front three_rows row_3 (break (Some Behind)) break_quiet.0))
  shows (suc zero) c s =
      same_cell (λ d. ShowsHold adding three_rows row_3 1 d) (sum (Some (Operand 2 1))) c s
      (shows_own adding three_rows row_3 1 (sum (Some (Operand 2 1))) (Operand 2 1) refl refl sum_waits (operand_first adding_hand none_spawned three_rows row_3 1 (sum (Some (Operand 2 1))) 2 1 sum_first) (inl (omega arith)))
  shows (suc (suc zero)) c s = same_cell (λ d. ShowsHold adding three_rows row_3 2 d) seven c s (shows_out three_rows row_3 seven refl seven_quiet.0)
  shows (suc (suc (suc n))) c s = cc

-- The fifth row: the sum leaves EX

retired_1 : (j : ℕ) → j < 2 → is_retired four_rows j ≡ true
unfolding is_retired
retired_1 zero lt = refl
retired_1 (suc zero) lt = refl
retired_1 (suc (suc j)) lt = absurd (omega (arith, lt))

runs_2 : (stop : Stop) → IsDueToStop adding five_rows (sum None) stop → ⊥
unfolding place is_flushed
runs_2 stop due = done_runs five_rows (sum None) 2 (writes 8 2130355 3 12) refl answer_2 stop due

lawful_4 : LawfulRow adding four_rows row_4
unfolding fetch_address next_serial place is_flushed
lawful_4 = record {
  form = record { behind = refl; listed = refl; ascending = tt };
  moves = (refl, (refl, (refl, tt)));
  retires = none_retires adding_hand row_4 refl (λ c s l. cc);
  holds = shows;
  successors = no_turn adding_hand four_rows row_4 refl refl (λ stage c stands s.
      (at_ex four_rows row_4 stage c s, (break None, refl, goes_on c (subst (λ n. Stands adding row_4 n c) (at_ex four_rows row_4 stage c s) stands))));
  units = none_written adding_hand four_rows row_4 refl refl;
  takes = untaken adding_hand four_rows row_4 refl;
  stops = no_stop adding_hand four_rows row_4 refl (λ c stop stands s. same_cell (λ d. StopsRun adding four_rows row_4 1 d stop → ⊥) (sum None) c stands (λ r. runs_2 stop r.due) s)
      (some_left adding_hand row_4 0 (break None) (omega arith) refl refl);
} where
  goes_on : (c : Cell) → Stands adding row_4 1 c → 12 ≡ successor adding five_rows c
  goes_on c s = same_cell (λ d. 12 ≡ successor adding five_rows d) (sum None) c s (sym (goes_to five_rows (sum None) 2 (writes 8 2130355 3 12) refl answer_2))

  shows : (stage : ℕ) (c : Cell) → Stands adding row_4 stage c → ShowsHold adding four_rows row_4 stage c
  shows zero c s =
      same_cell (λ d. ShowsHold adding four_rows row_4 0 d) (break None) c s
      (shows_none adding four_rows row_4 0 (break None) refl (λ alive runs g t. elim t [
        | inl o ↦ free_front four_rows row_4 (break None) break_quiet.0 g o
        | inr b ↦ goes_before adding four_rows row_4 0 (sum None) refl refl (λ stop r. runs_2 stop r.due) b.1
      ]))
  shows (suc zero) c s =
      same_cell (λ d. ShowsHold adding four_rows row_4 1 d) (sum None) c s
      (shows_none adding four_rows row_4 1 (sum None) refl (λ alive runs g t. elim t [
        | inl o ↦ free_ex four_rows row_4 (sum None) (free_behind adding_hand none_spawned four_rows row_4 1 (sum None) (λ j lt _. retired_1 j lt)) sum_loads g o
        | inr b ↦ cc (b.1.1)
      ]))
  shows (suc (suc zero)) c s = cc
  shows (suc (suc (suc n))) c s = cc

-- The last row

break_place : place adding_rows 3 ≡ 3
unfolding place is_flushed
break_place = refl

break_due : IsDueToStop adding adding_rows (break None) Ebreak
break_due = ap (answer_at bare adding_image) break_place ∙ answer_3

all_retired : (j : ℕ) → j < 3 → is_retired adding_rows j ≡ true
unfolding is_retired
all_retired zero lt = refl
all_retired (suc zero) lt = refl
all_retired (suc (suc zero)) lt = refl
all_retired (suc (suc (suc j))) lt = absurd (omega (arith, lt))

break_stops : StopsRun adding five_rows row_5 1 (break None) Ebreak
break_stops = record {
  executing = refl;
  due = break_due;
  free = free_ex five_rows row_5 (break None) (free_plain five_rows row_5 (break None) (λ r j w. true_not_false (sym w.reads ∙ no_register (adding_asks 1048691) r break_quiet.1 break_quiet.2)) (λ j w. true_not_false (sym (all_retired j w.older.lower) ∙ left_unretired adding none_spawned (row_5 ∷ five_rows) j w.left))) break_quiet.0;
}

one_stop : (stop : Stop) → ◌≡◌ {A = StepAnswer} (Stopped Ebreak) (Stopped stop) → Ebreak ≡ stop
one_stop stop e = cc

lawful_5 : LawfulRow adding five_rows row_5
unfolding fetch_address next_serial
lawful_5 = record {
  form = record { behind = refl; listed = refl; ascending = tt };
  moves = (refl, (refl, (refl, tt)));
  retires = one_retires adding_hand row_5 (sum None) (writes 8 2130355 3 12) refl refl refl;
  holds = shows;
  successors = none_settles adding_hand five_rows row_5 refl refl settles;
  units = none_written adding_hand five_rows row_5 refl refl;
  takes = untaken adding_hand five_rows row_5 refl;
  stops = record {
    cause = λ stop e. inl (1, break None, refl, subst (λ x. StopsRun adding five_rows row_5 1 (break None) x) (the stop e) break_stops);
    of_cell = λ stage c stop stands s. of_cell c stop (subst (λ n. Stands adding row_5 n c) s.executing stands) s.due;
    of_fetch = λ f o w. absurd (some_left adding_hand row_5 1 (break None) (omega arith) refl refl f);
  };
} where
  the : (stop : Stop) → ◌≡◌ {A = Option Stop} (Some Ebreak) (Some stop) → Ebreak ≡ stop
  the stop e = cc

  settles : (stage : ℕ) (c : Cell) → Stands adding row_5 stage c → Settles adding five_rows row_5 stage c → ⊥
  settles zero c stands s = cc
  settles (suc zero) c stands s = same_cell (λ d. Settles adding five_rows row_5 1 d → ⊥) (break None) c stands (λ r. r.runs Ebreak break_stops) s
  settles (suc (suc n)) c stands s = let e = at_ex five_rows row_5 (suc (suc n)) c s in absurd (omega (arith, e))

  of_cell : (c : Cell) (stop : Stop) → Stands adding row_5 1 c → IsDueToStop adding adding_rows c stop → ◌≡◌ {A = Option Stop} (Some Ebreak) (Some stop)
  of_cell c stop stands due = same_cell (λ d. IsDueToStop adding adding_rows d stop → ◌≡◌ {A = Option Stop} (Some Ebreak) (Some stop)) (break None) c stands (λ q. ap Some (one_stop stop (sym break_due ∙ q))) due

  shows : (stage : ℕ) (c : Cell) → Stands adding row_5 stage c → ShowsHold adding five_rows row_5 stage c
  shows zero c s = cc
  shows (suc zero) c s =
      same_cell (λ d. ShowsHold adding five_rows row_5 1 d) (break None) c s
      (shows_none adding five_rows row_5 1 (break None) refl (λ alive runs g t. runs Ebreak break_stops))
  shows (suc (suc zero)) c s = same_cell (λ d. ShowsHold adding five_rows row_5 2 d) (sum None) c s (shows_out five_rows row_5 (sum None) refl sum_loads)
  shows (suc (suc (suc n))) c s = cc

pub adding_lawful : Lawful (λ places. adding) adding_rows
adding_lawful = (lawful_5, refl, (lawful_4, refl, (lawful_3, refl, (lawful_2, refl, (lawful_1, refl, (lawful_0, refl, tt))))))
