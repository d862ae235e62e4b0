-- The rows of the run with Tail and Custom are lawful, and those that differ in one thing are not.
use Rattle.std.proofs.Common.{◌≡◌, ℕ, zero, suc, ◌+◌, ◌<◌, List, [], ◌∷◌, Option, Some, None, Bool, true, false, refl, sym, ap, ◌∙◌, subst, arith, inl, inr}
use Rattle.std.specs.Prelude.{◌||◌, if◌then◌else◌, ◌==◌, is_some}
use Rattle.std.proofs.lemmas.Bool.Decides.{nat_tests}
use Rattle.rv_asks.specs.declared.asks.Asks.{Asks}
use Rattle.rv_seq.specs.declared.answer.StepAnswer.{StepAnswer}
use Rattle.rv_seq.specs.declared.answer.StepAnswer.TheVariants.{Stopped}
use Rattle.rv_seq.specs.declared.commit.Stop.{Stop}
use Rattle.rv_seq.specs.declared.commit.Stop.TheVariants.{Ebreak}
use Rattle.rv_trace.specs.declared.row.Cell.{Cell}
use Rattle.rv_trace.specs.declared.row.Hold.{Hold}
use Rattle.rv_trace.specs.declared.row.Hold.TheVariants.{Operand, Custom, Tail, Behind, Trap}
use Rattle.rv_trace.specs.declared.row.Row.{Row}
use Rattle.rv_trace.specs.Trace.{has_serial, is_flushed, is_retired, place, newest}
use Rattle.rv_trace.specs.RowParts.{Name, name_of, leaves, ComesFirst}
use Rattle.rv_lawful.specs.Settings.{Stands, tailed}
use Rattle.rv_lawful.specs.LawfulTrace.{Moves, fetch_address, next_serial, reads_of, IsWordOf, IsDueToStop, WaitsForOperand, WaitsForCustom, OwnHold, StopsRun, ShowsHold, Settles, successor, LawfulRow, Lawful}
use Rattle.rv_lawful.specs.Sight.{SpawnsNothing}
use Rattle.row_laws.specs.Hands.{quiet, going}
use Rattle.row_laws.specs.Holding.{writing, holding_hand, holding, holding_asks, reading, writer, reader, sum, break, row_0, row_1, held_row, row_2, row_3, row_4, row_5, row_6, row_7, last_row, row_8, two_rows, five_rows, eight_rows, holding_rows, IsUnlawful, untrue_hold, later_hold, tail_one_more, tail_one_less, tail_left_out, custom_left_out, skipped_word, wrong_stop, missing_stop, untrue_trap, taken_unasked}
use Rattle.row_laws.proofs.Stages.{SpawnsNone, left_unretired, none_written, untaken, true_not_false, no_register, no_custom, same_cell, Free, free_outside, free_behind, done_below, no_own, goes_before, shows_none, shows_behind, shows_own, custom_first, operand_first, shows_tail, shows_last, settles_at_ex, no_turn, none_settles, no_stop, some_left, none_retires, one_retires}

at_front : ◌≡◌ {A = ℕ} 0 1 → ⊥
at_front e = absurd (omega (arith, e))

at_end : ◌≡◌ {A = ℕ} 2 1 → ⊥
at_end e = absurd (omega (arith, e))

-- What is asked of the words

-- no instruction loads or writes the pc late
in_time : (word : ℕ) → ((holding_asks word).late ≡ false) × ((holding_asks word).loads ≡ false)
in_time word = by_tests (word == 11) (word == 299) (word == 65579) where
  asked : Bool → Bool → Bool → Asks
  asked a b c = if a then holding_asks 11 else if b then holding_asks 299 else if c then holding_asks 65579 else quiet

  by_tests : (a b c : Bool) → ((asked a b c).late ≡ false) × ((asked a b c).loads ≡ false)
  by_tests true b c = (refl, refl)
  by_tests false true c = (refl, refl)
  by_tests false false true = (refl, refl)
  by_tests false false false = (refl, refl)

-- nor does one spawn
none_spawned : SpawnsNone holding_hand
none_spawned word = by_tests (word == 11) (word == 299) (word == 65579) where
  asked : Bool → Bool → Bool → Asks
  asked a b c = if a then holding_asks 11 else if b then holding_asks 299 else if c then holding_asks 65579 else quiet

  by_tests : (a b c : Bool) → SpawnsNothing (asked a b c)
  by_tests true b c = record { x = refl; customs = λ r. no_custom r; unit = refl }
  by_tests false true c = record { x = refl; customs = λ r. no_custom r; unit = refl }
  by_tests false false true = record { x = refl; customs = λ r. no_custom r; unit = refl }
  by_tests false false false = record { x = refl; customs = λ r. no_custom r; unit = refl }

at_ex : (earlier : List Row) (row : Row) (stage : ℕ) (c : Cell) → Settles holding earlier row stage c → stage ≡ 1
at_ex earlier row stage c s = settles_at_ex holding_hand earlier row stage c (in_time c.word).0 s

-- the sum reads x2 alone
sum_reads : (r : ℕ) → reads_of (holding_asks 65579) r ≡ true → r ≡ 2
sum_reads r e = grind (arith, nat_tests)

-- What holds in each row of cells in front, where nothing of their own holds them

free_front : (earlier : List Row) (row : Row) (c : Cell) (g : Hold) → OwnHold holding earlier row 0 c g → ⊥
free_front earlier row c g o = no_own holding_hand none_spawned earlier row 0 c (free_outside holding_hand earlier row 0 c at_front) (in_time c.word).1 (done_below holding_hand earlier row 0 c (omega arith)) g o

free_ex : (earlier : List Row) (row : Row) (c : Cell) → ((j : ℕ) → j < c.serial → is_retired earlier j ≡ true) → (g : Hold) → OwnHold holding earlier row 1 c g → ⊥
free_ex earlier row c done g o = no_own holding_hand none_spawned earlier row 1 c (free_behind holding_hand none_spawned earlier row 1 c (λ j lt _. done j lt)) (in_time c.word).1 (done_below holding_hand earlier row 1 c (omega arith)) g o

-- the steps of the first three places do not stop
writer_runs : (rows : List Row) (stop : Stop) → IsDueToStop holding rows (writer None) stop → ⊥
unfolding place
writer_runs rows stop e = cc

-- The first row

lawful_0 : LawfulRow holding [] row_0
unfolding fetch_address next_serial
lawful_0 = record {
  form = record { behind = refl; listed = refl; ascending = tt };
  moves = (refl, (refl, (refl, tt)));
  retires = none_retires holding_hand row_0 refl (λ c s l. cc);
  holds = shows;
  successors = none_settles holding_hand [] row_0 refl refl (λ stage c stands s. no_second c (subst (λ n. Stands holding row_0 n c) (at_ex [] row_0 stage c s) stands));
  units = none_written holding_hand [] row_0 refl refl;
  takes = untaken holding_hand [] row_0 refl;
  stops = no_stop holding_hand [] row_0 refl (λ c stop stands s. no_second c stands) (some_left holding_hand row_0 0 (writer None) (omega arith) refl refl);
} where
  no_second : (c : Cell) → Stands holding row_0 1 c → ⊥
  no_second c s = cc

  shows : (stage : ℕ) (c : Cell) → Stands holding row_0 stage c → ShowsHold holding [] row_0 stage c
  shows zero c s =
      same_cell (λ d. ShowsHold holding [] row_0 0 d) (writer None) c s
      (shows_none holding [] row_0 0 (writer None) refl (λ alive runs g t. elim t [
        | inl o ↦ free_front [] row_0 (writer None) g o
        | inr b ↦ no_second b.1.0 b.1.1
      ]))
  shows (suc zero) c s = cc
  shows (suc (suc zero)) c s = cc
  shows (suc (suc (suc n))) c s = cc

-- The second row: the writer leaves EX

lawful_1 : LawfulRow holding (row_0 ∷ []) row_1
unfolding fetch_address next_serial place is_flushed
lawful_1 = record {
  form = record { behind = refl; listed = refl; ascending = tt };
  moves = (refl, (refl, (refl, tt)));
  retires = none_retires holding_hand row_1 refl (λ c s l. cc);
  holds = shows;
  successors = no_turn holding_hand (row_0 ∷ []) row_1 refl refl (λ stage c stands s.
      (at_ex (row_0 ∷ []) row_1 stage c s, (reader None, refl, goes_on c (subst (λ n. Stands holding row_1 n c) (at_ex (row_0 ∷ []) row_1 stage c s) stands))));
  units = none_written holding_hand (row_0 ∷ []) row_1 refl refl;
  takes = untaken holding_hand (row_0 ∷ []) row_1 refl;
  stops = no_stop holding_hand (row_0 ∷ []) row_1 refl (λ c stop stands s. stops c stop stands s) (some_left holding_hand row_1 0 (reader None) (omega arith) refl refl);
} where
  goes_on : (c : Cell) → Stands holding row_1 1 c → 4 ≡ successor holding two_rows c
  goes_on c s = same_cell (λ d. 4 ≡ successor holding two_rows d) (writer None) c s refl

  stops : (c : Cell) (stop : Stop) → Stands holding row_1 1 c → StopsRun holding (row_0 ∷ []) row_1 1 c stop → ⊥
  stops c stop stands s = same_cell (λ d. StopsRun holding (row_0 ∷ []) row_1 1 d stop → ⊥) (writer None) c stands (λ r. writer_runs two_rows stop r.due) s

  shows : (stage : ℕ) (c : Cell) → Stands holding row_1 stage c → ShowsHold holding (row_0 ∷ []) row_1 stage c
  shows zero c s =
      same_cell (λ d. ShowsHold holding (row_0 ∷ []) row_1 0 d) (reader None) c s
      (shows_none holding (row_0 ∷ []) row_1 0 (reader None) refl (λ alive runs g t. elim t [
        | inl o ↦ free_front (row_0 ∷ []) row_1 (reader None) g o
        | inr b ↦ goes_before holding (row_0 ∷ []) row_1 0 (writer None) refl refl (λ stop r. writer_runs two_rows stop r.due) b.1
      ]))
  shows (suc zero) c s =
      same_cell (λ d. ShowsHold holding (row_0 ∷ []) row_1 1 d) (writer None) c s
      (shows_none holding (row_0 ∷ []) row_1 1 (writer None) refl (λ alive runs g t. elim t [
        | inl o ↦ free_ex (row_0 ∷ []) row_1 (writer None) (λ j lt. absurd (omega (arith, lt))) g o
        | inr b ↦ cc (b.1.1)
      ]))
  shows (suc (suc zero)) c s = cc
  shows (suc (suc (suc n))) c s = cc

-- Rows in which the reader waits for the writer

reader_waits : (earlier : List Row) (row : Row) (hold : Option Hold) → is_flushed (row ∷ earlier) 0 ≡ false → is_retired earlier 0 ≡ false → IsWordOf holding (row ∷ earlier) 0 11 → WaitsForCustom holding earlier row 1 (reader hold) 0 0
reader_waits earlier row hold f r w = record { executing = refl; uses = refl; older = record { lower = omega arith; unflushed = f }; unretired = r; writes = (11, w, refl) }

reader_shows : (earlier : List Row) (row : Row) → has_serial row.flushed 1 ≡ false → WaitsForCustom holding earlier row 1 (reader (Some (Custom 0 0))) 0 0 → ShowsHold holding earlier row 1 (reader (Some (Custom 0 0)))
reader_shows earlier row alive w =
    shows_own holding earlier row 1 (reader (Some (Custom 0 0))) (Custom 0 0) refl alive w
    (custom_first holding_hand none_spawned earlier row 1 (reader (Some (Custom 0 0))) (λ r j o. true_not_false (sym o.reads ∙ no_register (holding_asks 299) r refl refl)))
    (inl (omega arith))

behind_shows : (earlier : List Row) (row : Row) (x d : Cell) → x.hold ≡ Some Behind → has_serial row.flushed x.serial ≡ false → Stands holding row 1 d → is_some d.hold ≡ true → ShowsHold holding earlier row 0 x
behind_shows earlier row x d e alive s held = shows_behind holding earlier row 0 x e alive at_front (d, s, inl held) (free_front earlier row x)

-- a cell of EX that is held does not settle
held_settles : (earlier : List Row) (row : Row) (x : Cell) → is_some x.hold ≡ true → Stands holding row 1 x → (stage : ℕ) (c : Cell) → Stands holding row stage c → Settles holding earlier row stage c → ⊥
held_settles earlier row x held here stage c stands s =
    same_cell (λ d. leaves row (Some d) ≡ name_of (Some d) → ⊥) x c (sym here ∙ subst (λ n. Stands holding row n c) (at_ex earlier row stage c s) stands) (λ l. gone (is_some x.hold) (has_serial row.flushed x.serial) held l) s.leaves where
      gone : (a b : Bool) → a ≡ true → (if a || b then None else name_of (Some x)) ≡ name_of (Some x) → ⊥
      gone true b e l = cc
      gone false b e l = cc

-- nor does it stop the run
held_stops : (earlier : List Row) (row : Row) (x : Cell) (g : Hold) → Stands holding row 1 x → OwnHold holding earlier row 1 x g → (c : Cell) (stop : Stop) → Stands holding row 1 c → StopsRun holding earlier row 1 c stop → ⊥
held_stops earlier row x g here own c stop stands s = same_cell (λ d. StopsRun holding earlier row 1 d stop → ⊥) x c (sym here ∙ stands) (λ r. r.free g own) s

held_lawful : (earlier : List Row) (left : ℕ) → Moves holding earlier (held_row (Tail left)) → is_flushed earlier 0 ≡ false → is_retired earlier 0 ≡ false → left + tailed holding earlier 0 ≡ 2 → 0 < left → LawfulRow holding earlier (held_row (Tail left))
unfolding is_flushed
held_lawful earlier left moves unflushed unretired still some = record {
  form = record { behind = refl; listed = refl; ascending = tt };
  moves = moves;
  retires = none_retires holding_hand row refl (λ c s l. same_cell (λ d. leaves row (Some d) ≡ name_of (Some d) → ⊥) (writer (Some (Tail left))) c s (λ q. cc) l);
  holds = shows;
  successors = none_settles holding_hand earlier row refl refl (held_settles earlier row (reader (Some (Custom 0 0))) refl refl);
  units = none_written holding_hand earlier row refl refl;
  takes = untaken holding_hand earlier row refl;
  stops = no_stop holding_hand earlier row refl (held_stops earlier row (reader (Some (Custom 0 0))) (Custom 0 0) refl waits) (some_left holding_hand row 0 (sum (Some Behind)) (omega arith) refl refl);
} where
  row : Row
  row = held_row (Tail left)

  waits : WaitsForCustom holding earlier row 1 (reader (Some (Custom 0 0))) 0 0
  waits = reader_waits earlier row (Some (Custom 0 0)) unflushed unretired (inl (2, writer (Some (Tail left)), refl, refl, refl))

  shows : (stage : ℕ) (c : Cell) → Stands holding row stage c → ShowsHold holding earlier row stage c
  shows zero c s = same_cell (λ d. ShowsHold holding earlier row 0 d) (sum (Some Behind)) c s (behind_shows earlier row (sum (Some Behind)) (reader (Some (Custom 0 0))) refl refl refl refl)
  shows (suc zero) c s = same_cell (λ d. ShowsHold holding earlier row 1 d) (reader (Some (Custom 0 0))) c s (reader_shows earlier row refl waits)
  shows (suc (suc zero)) c s = same_cell (λ d. ShowsHold holding earlier row 2 d) (writer (Some (Tail left))) c s (shows_tail holding_hand none_spawned earlier row (writer (Some (Tail left))) left refl refl refl still some)
  shows (suc (suc (suc n))) c s = cc

lawful_2 : LawfulRow holding two_rows row_2
unfolding fetch_address next_serial is_flushed is_retired tailed
lawful_2 = held_lawful two_rows 2 (refl, (refl, (refl, tt))) refl refl refl (omega arith)

lawful_3 : LawfulRow holding (row_2 ∷ two_rows) row_3
unfolding fetch_address next_serial is_flushed is_retired tailed
lawful_3 = held_lawful (row_2 ∷ two_rows) 1 (refl, (refl, (refl, tt))) refl refl refl (omega arith)

-- The writer retires

abbrev four_rows : List Row
four_rows = row_3 ∷ row_2 ∷ two_rows

lawful_4 : LawfulRow holding four_rows row_4
unfolding fetch_address next_serial is_flushed is_retired tailed
lawful_4 = record {
  form = record { behind = refl; listed = refl; ascending = tt };
  moves = (refl, (refl, (refl, tt)));
  retires = one_retires holding_hand row_4 (writer None) writing refl refl refl;
  holds = shows;
  successors = none_settles holding_hand four_rows row_4 refl refl (held_settles four_rows row_4 (reader (Some (Custom 0 0))) refl refl);
  units = none_written holding_hand four_rows row_4 refl refl;
  takes = untaken holding_hand four_rows row_4 refl;
  stops = no_stop holding_hand four_rows row_4 refl (held_stops four_rows row_4 (reader (Some (Custom 0 0))) (Custom 0 0) refl waits) (some_left holding_hand row_4 0 (sum (Some Behind)) (omega arith) refl refl);
} where
  waits : WaitsForCustom holding four_rows row_4 1 (reader (Some (Custom 0 0))) 0 0
  waits = reader_waits four_rows row_4 (Some (Custom 0 0)) refl refl (inl (2, writer None, refl, refl, refl))

  shows : (stage : ℕ) (c : Cell) → Stands holding row_4 stage c → ShowsHold holding four_rows row_4 stage c
  shows zero c s = same_cell (λ d. ShowsHold holding four_rows row_4 0 d) (sum (Some Behind)) c s (behind_shows four_rows row_4 (sum (Some Behind)) (reader (Some (Custom 0 0))) refl refl refl refl)
  shows (suc zero) c s = same_cell (λ d. ShowsHold holding four_rows row_4 1 d) (reader (Some (Custom 0 0))) c s (reader_shows four_rows row_4 refl waits)
  shows (suc (suc zero)) c s = same_cell (λ d. ShowsHold holding four_rows row_4 2 d) (writer None) c s (shows_last holding_hand none_spawned four_rows row_4 (writer None) refl refl (omega arith))
  shows (suc (suc (suc n))) c s = cc

-- The reader leaves EX

retired_0 : (j : ℕ) → j < 1 → is_retired five_rows j ≡ true
unfolding is_retired
retired_0 zero lt = refl
retired_0 (suc j) lt = absurd (omega (arith, lt))

reader_runs : (stop : Stop) → IsDueToStop holding (row_5 ∷ five_rows) (reader None) stop → ⊥
unfolding place is_flushed
reader_runs stop e = cc

lawful_5 : LawfulRow holding five_rows row_5
unfolding fetch_address next_serial place is_flushed
lawful_5 = record {
  form = record { behind = refl; listed = refl; ascending = tt };
  moves = (refl, (refl, (refl, tt)));
  retires = none_retires holding_hand row_5 refl (λ c s l. cc);
  holds = shows;
  successors = no_turn holding_hand five_rows row_5 refl refl (λ stage c stands s.
      (at_ex five_rows row_5 stage c s, (sum None, refl, goes_on c (subst (λ n. Stands holding row_5 n c) (at_ex five_rows row_5 stage c s) stands))));
  units = none_written holding_hand five_rows row_5 refl refl;
  takes = untaken holding_hand five_rows row_5 refl;
  stops = no_stop holding_hand five_rows row_5 refl (λ c stop stands s. same_cell (λ d. StopsRun holding five_rows row_5 1 d stop → ⊥) (reader None) c stands (λ r. reader_runs stop r.due) s)
      (some_left holding_hand row_5 0 (sum None) (omega arith) refl refl);
} where
  goes_on : (c : Cell) → Stands holding row_5 1 c → 8 ≡ successor holding (row_5 ∷ five_rows) c
  goes_on c s = same_cell (λ d. 8 ≡ successor holding (row_5 ∷ five_rows) d) (reader None) c s refl

  shows : (stage : ℕ) (c : Cell) → Stands holding row_5 stage c → ShowsHold holding five_rows row_5 stage c
  shows zero c s =
      same_cell (λ d. ShowsHold holding five_rows row_5 0 d) (sum None) c s
      (shows_none holding five_rows row_5 0 (sum None) refl (λ alive runs g t. elim t [
        | inl o ↦ free_front five_rows row_5 (sum None) g o
        | inr b ↦ goes_before holding five_rows row_5 0 (reader None) refl refl (λ stop r. reader_runs stop r.due) b.1
      ]))
  shows (suc zero) c s =
      same_cell (λ d. ShowsHold holding five_rows row_5 1 d) (reader None) c s
      (shows_none holding five_rows row_5 1 (reader None) refl (λ alive runs g t. elim t [
        | inl o ↦ free_ex five_rows row_5 (reader None) retired_0 g o
        | inr b ↦ cc (b.1.1)
      ]))
  shows (suc (suc zero)) c s = cc
  shows (suc (suc (suc n))) c s = cc

-- The sum waits for the reader

abbrev six_rows : List Row
six_rows = row_5 ∷ five_rows

sum_waits : WaitsForOperand holding six_rows row_6 1 (sum (Some (Operand 2 1))) 2 1
unfolding is_flushed is_retired
sum_waits = record {
  reading = refl;
  reads = refl;
  older = record { lower = omega arith; unflushed = refl };
  unretired = refl;
  writes = (299, inl (2, reader None, refl, refl, refl), refl);
  withheld = λ e. absurd (true_not_false (sym e));
}

writer_retired : is_retired six_rows 0 ≡ true
unfolding is_retired
writer_retired = refl

sum_first : (r j : ℕ) → WaitsForOperand holding six_rows row_6 1 (sum (Some (Operand 2 1))) r j → ComesFirst (Operand 2 1) (Operand r j)
sum_first r zero w = absurd (true_not_false (sym writer_retired ∙ w.unretired))
sum_first r (suc j) w = inr (refl, inr (sym (sum_reads r w.reads), omega arith))

lawful_6 : LawfulRow holding six_rows row_6
unfolding fetch_address next_serial
lawful_6 = record {
  form = record { behind = refl; listed = refl; ascending = tt };
  moves = (refl, (refl, (refl, tt)));
  retires = one_retires holding_hand row_6 (reader None) reading refl refl refl;
  holds = shows;
  successors = none_settles holding_hand six_rows row_6 refl refl (held_settles six_rows row_6 (sum (Some (Operand 2 1))) refl refl);
  units = none_written holding_hand six_rows row_6 refl refl;
  takes = untaken holding_hand six_rows row_6 refl;
  stops = no_stop holding_hand six_rows row_6 refl (held_stops six_rows row_6 (sum (Some (Operand 2 1))) (Operand 2 1) refl sum_waits) (some_left holding_hand row_6 0 (break (Some Behind)) (omega arith) refl refl);
} where
  shows : (stage : ℕ) (c : Cell) → Stands holding row_6 stage c → ShowsHold holding six_rows row_6 stage c
  shows zero c s = same_cell (λ d. ShowsHold holding six_rows row_6 0 d) (break (Some Behind)) c s (behind_shows six_rows row_6 (break (Some Behind)) (sum (Some (Operand 2 1))) refl refl refl refl)
  shows (suc zero) c s =
      same_cell (λ d. ShowsHold holding six_rows row_6 1 d) (sum (Some (Operand 2 1))) c s
      (shows_own holding six_rows row_6 1 (sum (Some (Operand 2 1))) (Operand 2 1) refl refl sum_waits (operand_first holding_hand none_spawned six_rows row_6 1 (sum (Some (Operand 2 1))) 2 1 sum_first) (inl (omega arith)))
  shows (suc (suc zero)) c s = same_cell (λ d. ShowsHold holding six_rows row_6 2 d) (reader None) c s (shows_last holding_hand none_spawned six_rows row_6 (reader None) refl refl (omega arith))
  shows (suc (suc (suc n))) c s = cc

-- The sum leaves EX

abbrev seven_rows : List Row
seven_rows = row_6 ∷ six_rows

retired_1 : (j : ℕ) → j < 2 → is_retired seven_rows j ≡ true
unfolding is_retired
retired_1 zero lt = refl
retired_1 (suc zero) lt = refl
retired_1 (suc (suc j)) lt = absurd (omega (arith, lt))

sum_runs : (stop : Stop) → IsDueToStop holding (row_7 ∷ seven_rows) (sum None) stop → ⊥
unfolding place is_flushed
sum_runs stop e = cc

lawful_7 : LawfulRow holding seven_rows row_7
unfolding fetch_address next_serial place is_flushed
lawful_7 = record {
  form = record { behind = refl; listed = refl; ascending = tt };
  moves = (refl, (refl, (refl, tt)));
  retires = none_retires holding_hand row_7 refl (λ c s l. cc);
  holds = shows;
  successors = no_turn holding_hand seven_rows row_7 refl refl (λ stage c stands s.
      (at_ex seven_rows row_7 stage c s, (break None, refl, goes_on c (subst (λ n. Stands holding row_7 n c) (at_ex seven_rows row_7 stage c s) stands))));
  units = none_written holding_hand seven_rows row_7 refl refl;
  takes = untaken holding_hand seven_rows row_7 refl;
  stops = no_stop holding_hand seven_rows row_7 refl (λ c stop stands s. same_cell (λ d. StopsRun holding seven_rows row_7 1 d stop → ⊥) (sum None) c stands (λ r. sum_runs stop r.due) s)
      (some_left holding_hand row_7 0 (break None) (omega arith) refl refl);
} where
  goes_on : (c : Cell) → Stands holding row_7 1 c → 12 ≡ successor holding (row_7 ∷ seven_rows) c
  goes_on c s = same_cell (λ d. 12 ≡ successor holding (row_7 ∷ seven_rows) d) (sum None) c s refl

  shows : (stage : ℕ) (c : Cell) → Stands holding row_7 stage c → ShowsHold holding seven_rows row_7 stage c
  shows zero c s =
      same_cell (λ d. ShowsHold holding seven_rows row_7 0 d) (break None) c s
      (shows_none holding seven_rows row_7 0 (break None) refl (λ alive runs g t. elim t [
        | inl o ↦ free_front seven_rows row_7 (break None) g o
        | inr b ↦ goes_before holding seven_rows row_7 0 (sum None) refl refl (λ stop r. sum_runs stop r.due) b.1
      ]))
  shows (suc zero) c s =
      same_cell (λ d. ShowsHold holding seven_rows row_7 1 d) (sum None) c s
      (shows_none holding seven_rows row_7 1 (sum None) refl (λ alive runs g t. elim t [
        | inl o ↦ free_ex seven_rows row_7 (sum None) retired_1 g o
        | inr b ↦ cc (b.1.1)
      ]))
  shows (suc (suc zero)) c s = cc
  shows (suc (suc (suc n))) c s = cc

-- The last row, with any stop

break_place : (stop : Option Stop) → place (last_row stop ∷ eight_rows) 3 ≡ 3
unfolding place is_flushed
break_place stop = refl

break_due : (stop : Option Stop) → IsDueToStop holding (last_row stop ∷ eight_rows) (break None) Ebreak
break_due stop = ap holding.course.answer (break_place stop)

retired_2 : (stop : Option Stop) (j : ℕ) → j < 3 → is_retired (last_row stop ∷ eight_rows) j ≡ true
unfolding is_retired
retired_2 stop zero lt = refl
retired_2 stop (suc zero) lt = refl
retired_2 stop (suc (suc zero)) lt = refl
retired_2 stop (suc (suc (suc j))) lt = absurd (omega (arith, lt))

free_break : (stop : Option Stop) → Free holding_hand eight_rows (last_row stop) 1 (break None)
free_break stop = record {
  operand = λ r j w. true_not_false (sym w.reads ∙ no_register (holding_asks 1048691) r refl refl);
  custom = λ r j w. true_not_false (sym w.uses ∙ no_custom r);
  late = λ j w. true_not_false (sym w.jumps.2 ∙ (in_time w.jumps.0).0);
  drain = λ j w. true_not_false (sym (retired_2 stop j w.older.lower) ∙ left_unretired holding none_spawned (last_row stop ∷ eight_rows) j w.left);
}

break_stops : (stop : Option Stop) → StopsRun holding eight_rows (last_row stop) 1 (break None) Ebreak
break_stops stop = record {
  executing = refl;
  due = break_due stop;
  free = no_own holding_hand none_spawned eight_rows (last_row stop) 1 (break None) (free_break stop) refl (done_below holding_hand eight_rows (last_row stop) 1 (break None) (omega arith));
}

one_stop : (stop : Stop) → ◌≡◌ {A = StepAnswer} (Stopped Ebreak) (Stopped stop) → Ebreak ≡ stop
one_stop stop e = cc

lawful_8 : LawfulRow holding eight_rows row_8
unfolding fetch_address next_serial
lawful_8 = record {
  form = record { behind = refl; listed = refl; ascending = tt };
  moves = (refl, (refl, (refl, tt)));
  retires = one_retires holding_hand row_8 (sum None) (going 8 65579 12) refl refl refl;
  holds = shows;
  successors = none_settles holding_hand eight_rows row_8 refl refl settles;
  units = none_written holding_hand eight_rows row_8 refl refl;
  takes = untaken holding_hand eight_rows row_8 refl;
  stops = record {
    cause = λ stop e. inl (1, break None, refl, subst (λ x. StopsRun holding eight_rows row_8 1 (break None) x) (the stop e) (break_stops (Some Ebreak)));
    of_cell = λ stage c stop stands s. of_cell c stop (subst (λ n. Stands holding row_8 n c) s.executing stands) s.due;
    of_fetch = λ f o w. absurd (some_left holding_hand row_8 1 (break None) (omega arith) refl refl f);
  };
} where
  the : (stop : Stop) → ◌≡◌ {A = Option Stop} (Some Ebreak) (Some stop) → Ebreak ≡ stop
  the stop e = cc

  settles : (stage : ℕ) (c : Cell) → Stands holding row_8 stage c → Settles holding eight_rows row_8 stage c → ⊥
  settles stage c stands s = at (at_ex eight_rows row_8 stage c s) where
    at : stage ≡ 1 → ⊥
    at e = same_cell (λ d. StopsRun holding eight_rows row_8 1 d Ebreak → ⊥) c (break None) (sym (subst (λ n. Stands holding row_8 n c) e stands)) (λ r. s.runs Ebreak (subst (λ n. StopsRun holding eight_rows row_8 n c Ebreak) (sym e) r)) (break_stops (Some Ebreak))

  of_cell : (c : Cell) (stop : Stop) → Stands holding row_8 1 c → IsDueToStop holding (row_8 ∷ eight_rows) c stop → ◌≡◌ {A = Option Stop} (Some Ebreak) (Some stop)
  of_cell c stop stands due = same_cell (λ d. IsDueToStop holding (row_8 ∷ eight_rows) d stop → ◌≡◌ {A = Option Stop} (Some Ebreak) (Some stop)) (break None) c stands (λ q. ap Some (one_stop stop (sym (break_due (Some Ebreak)) ∙ q))) due

  shows : (stage : ℕ) (c : Cell) → Stands holding row_8 stage c → ShowsHold holding eight_rows row_8 stage c
  shows zero c s = cc
  shows (suc zero) c s =
      same_cell (λ d. ShowsHold holding eight_rows row_8 1 d) (break None) c s
      (shows_none holding eight_rows row_8 1 (break None) refl (λ alive runs g t. runs Ebreak (break_stops (Some Ebreak))))
  shows (suc (suc zero)) c s = same_cell (λ d. ShowsHold holding eight_rows row_8 2 d) (sum None) c s (shows_last holding_hand none_spawned eight_rows row_8 (sum None) refl refl (omega arith))
  shows (suc (suc (suc n))) c s = cc

pub holding_lawful : Lawful (λ places. holding) holding_rows
holding_lawful = (lawful_8, refl, (lawful_7, refl, (lawful_6, refl, (lawful_5, refl, (lawful_4, refl, (lawful_3, refl, (lawful_2, refl, (lawful_1, refl, (lawful_0, refl, tt)))))))))

-- Lists that are not lawful

pub untrue_hold_refused : IsUnlawful untrue_hold
untrue_hold_refused h = elim ((h.0.holds 1 (reader (Some (Custom 0 0))) refl).shown (Custom 0 0) refl) [
  | inl w ↦ true_not_false (sym (retired_0 0 (omega arith)) ∙ w.unretired)
  | inr b ↦ cc (b.0)
]

pub untrue_trap_refused : IsUnlawful untrue_trap
untrue_trap_refused h = elim ((h.0.holds 1 (reader (Some Trap)) refl).shown Trap refl) [
  | inl w ↦ true_not_false (sym w.interrupted)
  | inr b ↦ cc (b.0)
]

pub taken_unasked_refused : IsUnlawful taken_unasked
taken_unasked_refused h = true_not_false (sym (h.0.takes.taken 0 refl).interrupted)

-- the reader has to wait in the third row
must_wait : (row : Row) (tail : Option Hold) (hold : Option Hold) → Stands holding row 2 (writer tail) → has_serial row.flushed 0 ≡ false → WaitsForCustom holding two_rows row 1 (reader hold) 0 0
unfolding is_flushed is_retired
must_wait row tail hold s f = reader_waits two_rows row hold (ap (λ b. b || false) f) refl (inl (2, writer tail, s, refl, refl))

pub later_hold_refused : IsUnlawful later_hold
later_hold_refused h =
    let wait = must_wait (newest later_hold) (Some (Tail 2)) (Some Behind) refl refl in
    elim ((h.0.holds 1 (reader (Some Behind)) refl).shown_first Behind (Custom 0 0) refl (inl wait)) [ inl x ↦ absurd (omega (arith, x)) | inr x ↦ let e = x.0 in absurd (omega (arith, e)) ]

-- what Tail says in the third row
must_tail : (left : ℕ) → Lawful (λ places. holding) (held_row (Tail left) ∷ two_rows) → left ≡ 2
unfolding tailed
must_tail left h = elim ((h.0.holds 2 (writer (Some (Tail left))) refl).shown (Tail left) refl) [
  | inl w ↦ let e = w.still in omega (arith, e)
  | inr b ↦ cc (b.0)
]

pub tail_one_more_refused : IsUnlawful tail_one_more
tail_one_more_refused h = let e = must_tail 3 h in absurd (omega (arith, e))

pub tail_one_less_refused : IsUnlawful tail_one_less
tail_one_less_refused h = let e = must_tail 1 h in absurd (omega (arith, e))

pub tail_left_out_refused : IsUnlawful tail_left_out
unfolding tailed
tail_left_out_refused h = (h.0.holds 2 (writer None) refl).free refl refl (λ stop s. at_end s.executing) (Tail 2) (inl (record { last = refl; still = omega arith; some = omega arith }))

pub custom_left_out_refused : IsUnlawful custom_left_out
custom_left_out_refused h =
    let wait = must_wait (newest custom_left_out) (Some (Tail 2)) None refl refl in
    (h.0.holds 1 (reader None) refl).free refl refl (λ stop s. s.free (Custom 0 0) wait) (Custom 0 0) (inl wait)

-- the address in a name
abbrev address_in : Option Name → ℕ
address_in None = 0
address_in (Some n) = n.1

pub skipped_word_refused : IsUnlawful skipped_word
unfolding fetch_address next_serial
skipped_word_refused h = let e : ◌≡◌ {A = ℕ} 8 4 = ap address_in h.0.moves.0 in absurd (omega (arith, e))

pub wrong_stop_refused : IsUnlawful wrong_stop
wrong_stop_refused h = elim (h.0.stops.cause Ebreak refl) [
  | inl w ↦ runs w.1 (subst (λ n. Stands holding (newest wrong_stop) n w.1) w.3.executing w.2) w.3.due
  | inr w ↦ cc (w.0)
] where
  runs : (c : Cell) → Stands holding (newest wrong_stop) 1 c → IsDueToStop holding wrong_stop c Ebreak → ⊥
  runs c s due = same_cell (λ d. IsDueToStop holding wrong_stop d Ebreak → ⊥) (writer None) c s (λ q. writer_runs wrong_stop Ebreak q) due

pub missing_stop_refused : IsUnlawful missing_stop
missing_stop_refused h = cc (h.0.stops.of_cell 1 (break None) Ebreak refl (break_stops None))
