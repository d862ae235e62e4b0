-- The rows of the run in which an interrupt is taken are lawful.
use Rattle.std.proofs.Common.{ℕ, List, [], ◌∷◌, refl, arith}
use Rattle.ix_bits.specs.BaseTable.{base_patterns}
use Rattle.rv_isa.specs.Table.{row_of as base_row, format_of, base_formats}
use Rattle.rv_isa.specs.Fields.{fields_of}
use Rattle.rv_isa.specs.Decoded.{decoded}
use Rattle.rv_seq.specs.Decoding.{decoded_in}
use Rattle.rv_seq.specs.WordEffects.{effect_of, over, blocks_effect}
use Rattle.rv_lawful.specs.Entering.{places, pending}
use Rattle.rv_lawful.specs.LawfulTrace.{fetch_address, next_serial, Lawful}
use Rattle.rv_lawful.specs.Settings.{accesses_before, stood}
use Rattle.rv_lawful.specs.Outstanding.{units_after, is_written}
use Rattle.rv_seq.specs.Bare.{bare}
use Rattle.rv_seq.specs.Commits.{commit_of, applied}
use Rattle.rv_seq.specs.Interrupts.{diverted}
use Rattle.rv_seq.specs.Runs.{run_with}
use Rattle.rv_seq.specs.States.{first}
use Rattle.rv_seq.specs.Steps.{attempted, of_return, step}
use Rattle.rv_trace.specs.Trace.{is_flushed, is_retired, place, retirements}
use Rattle.row_laws.specs.Hands.{three}
use Rattle.row_laws.specs.Interrupting.{eight_rows, eleven_rows, five_rows, four_rows, interrupted_rows, interrupting, interrupting_in, row_0, row_1, row_2, row_3, row_4, row_5, row_6, row_7, row_8, row_9, row_10, row_11, six_rows}
use Rattle.row_laws.proofs.CalmTests.{IsCalm}
use Rattle.row_laws.proofs.CalmRows.{JudgedBy, no_rows_by, row_by, entry_by}
use Rattle.row_laws.proofs.ForwardingRows.{plain}

-- the words that are fetched, by serials
abbrev pub words : List ℕ
words = 2147483831 ∷ 41219 ∷ 7340435 ∷ 1048691 ∷ 1180179 ∷ 807403635 ∷ 7340435 ∷ 1048691 ∷ 1180179 ∷ []

pub calm : (lines places : List ℕ) → IsCalm (interrupting_in lines places)
calm lines places = record {
  spawns = λ word. (plain three word (decoded_in bare word)).spawns;
  tail = λ word. (plain three word (decoded_in bare word)).tail;
  unlate = λ word r. (plain three word (decoded_in bare word)).unlate r;
}

-- Its rows

judged_0 : JudgedBy interrupting words (row_0 ∷ [])
unfolding places pending fetch_address next_serial is_flushed is_retired is_written place retirements units_after accesses_before stood step run_with decoded_in attempted of_return effect_of over blocks_effect commit_of first applied diverted decoded base_row base_patterns fields_of format_of base_formats
judged_0 =
    row_by interrupting words [] row_0 (calm (4 ∷ []) []) refl (no_rows_by interrupting words) refl
    (record { form = record { behind = refl; listed = refl; ascending = tt }; moves = (refl, (refl, (refl, tt))); units = refl; taken = refl; tests = refl; redirect = refl; stop = refl })

judged_1 : JudgedBy interrupting words (row_1 ∷ row_0 ∷ [])
unfolding places pending fetch_address next_serial is_flushed is_retired is_written place retirements units_after accesses_before stood step run_with decoded_in attempted of_return effect_of over blocks_effect commit_of first applied diverted decoded base_row base_patterns fields_of format_of base_formats
judged_1 =
    row_by interrupting words (row_0 ∷ []) row_1 (calm (4 ∷ []) []) refl judged_0 refl
    (record { form = record { behind = refl; listed = refl; ascending = tt }; moves = (refl, (refl, (refl, tt))); units = refl; taken = refl; tests = refl; redirect = refl; stop = refl })

judged_2 : JudgedBy interrupting words (row_2 ∷ row_1 ∷ row_0 ∷ [])
unfolding places pending fetch_address next_serial is_flushed is_retired is_written place retirements units_after accesses_before stood step run_with decoded_in attempted of_return effect_of over blocks_effect commit_of first applied diverted decoded base_row base_patterns fields_of format_of base_formats
judged_2 =
    row_by interrupting words (row_1 ∷ row_0 ∷ []) row_2 (calm (4 ∷ []) []) refl judged_1 refl
    (record { form = record { behind = refl; listed = refl; ascending = tt }; moves = (refl, (refl, (refl, tt))); units = refl; taken = refl; tests = refl; redirect = refl; stop = refl })

judged_3 : JudgedBy interrupting words (row_3 ∷ row_2 ∷ row_1 ∷ row_0 ∷ [])
unfolding places pending fetch_address next_serial is_flushed is_retired is_written place retirements units_after accesses_before stood step run_with decoded_in attempted of_return effect_of over blocks_effect commit_of first applied diverted decoded base_row base_patterns fields_of format_of base_formats
judged_3 =
    row_by interrupting words (row_2 ∷ row_1 ∷ row_0 ∷ []) row_3 (calm (4 ∷ []) []) refl judged_2 refl
    (record { form = record { behind = refl; listed = refl; ascending = tt }; moves = (refl, (refl, (refl, tt))); units = refl; taken = refl; tests = refl; redirect = refl; stop = refl })

judged_4 : JudgedBy interrupting words (row_4 ∷ four_rows)
unfolding places pending fetch_address next_serial is_flushed is_retired is_written place retirements units_after accesses_before stood step run_with decoded_in attempted of_return effect_of over blocks_effect commit_of first applied diverted decoded base_row base_patterns fields_of format_of base_formats
judged_4 =
    row_by interrupting words four_rows row_4 (calm (4 ∷ []) []) refl judged_3 refl
    (record { form = record { behind = refl; listed = refl; ascending = tt }; moves = (refl, (refl, (refl, tt))); units = refl; taken = refl; tests = refl; redirect = refl; stop = refl })

judged_5 : JudgedBy interrupting words (row_5 ∷ five_rows)
unfolding places pending fetch_address next_serial is_flushed is_retired is_written place retirements units_after accesses_before stood step run_with decoded_in attempted of_return effect_of over blocks_effect commit_of first applied diverted decoded base_row base_patterns fields_of format_of base_formats
judged_5 =
    entry_by interrupting words five_rows row_5 8 (calm (4 ∷ []) []) refl judged_4 refl
    (record { form = record { behind = refl; listed = refl; ascending = (omega arith, tt) }; moves = (refl, (refl, (refl, tt))); units = refl; interrupted = refl; taken = refl; value = refl; tests = refl; redirect = refl; stop = refl })

judged_6 : JudgedBy interrupting words (row_6 ∷ six_rows)
unfolding places pending fetch_address next_serial is_flushed is_retired is_written place retirements units_after accesses_before stood step run_with decoded_in attempted of_return effect_of over blocks_effect commit_of first applied diverted decoded base_row base_patterns fields_of format_of base_formats
judged_6 =
    row_by interrupting words six_rows row_6 (calm (4 ∷ []) (2 ∷ [])) refl judged_5 refl
    (record { form = record { behind = refl; listed = refl; ascending = tt }; moves = (refl, (refl, (refl, tt))); units = refl; taken = refl; tests = refl; redirect = refl; stop = refl })

judged_7 : JudgedBy interrupting words (row_7 ∷ row_6 ∷ six_rows)
unfolding places pending fetch_address next_serial is_flushed is_retired is_written place retirements units_after accesses_before stood step run_with decoded_in attempted of_return effect_of over blocks_effect commit_of first applied diverted decoded base_row base_patterns fields_of format_of base_formats
judged_7 =
    row_by interrupting words (row_6 ∷ six_rows) row_7 (calm (4 ∷ []) (2 ∷ [])) refl judged_6 refl
    (record { form = record { behind = refl; listed = refl; ascending = tt }; moves = (refl, (refl, (refl, tt))); units = refl; taken = refl; tests = refl; redirect = refl; stop = refl })

judged_8 : JudgedBy interrupting words (row_8 ∷ eight_rows)
unfolding places pending fetch_address next_serial is_flushed is_retired is_written place retirements units_after accesses_before stood step run_with decoded_in attempted of_return effect_of over blocks_effect commit_of first applied diverted decoded base_row base_patterns fields_of format_of base_formats
judged_8 =
    row_by interrupting words eight_rows row_8 (calm (4 ∷ []) (2 ∷ [])) refl judged_7 refl
    (record { form = record { behind = refl; listed = refl; ascending = tt }; moves = (refl, (refl, (refl, tt))); units = refl; taken = refl; tests = refl; redirect = refl; stop = refl })

judged_9 : JudgedBy interrupting words (row_9 ∷ row_8 ∷ eight_rows)
unfolding places pending fetch_address next_serial is_flushed is_retired is_written place retirements units_after accesses_before stood step run_with decoded_in attempted of_return effect_of over blocks_effect commit_of first applied diverted decoded base_row base_patterns fields_of format_of base_formats
judged_9 =
    row_by interrupting words (row_8 ∷ eight_rows) row_9 (calm (4 ∷ []) (2 ∷ [])) refl judged_8 refl
    (record { form = record { behind = refl; listed = refl; ascending = tt }; moves = (refl, (refl, (refl, tt))); units = refl; taken = refl; tests = refl; redirect = refl; stop = refl })

judged_10 : JudgedBy interrupting words (row_10 ∷ row_9 ∷ row_8 ∷ eight_rows)
unfolding places pending fetch_address next_serial is_flushed is_retired is_written place retirements units_after accesses_before stood step run_with decoded_in attempted of_return effect_of over blocks_effect commit_of first applied diverted decoded base_row base_patterns fields_of format_of base_formats
judged_10 =
    row_by interrupting words (row_9 ∷ row_8 ∷ eight_rows) row_10 (calm (4 ∷ []) (2 ∷ [])) refl judged_9 refl
    (record { form = record { behind = refl; listed = refl; ascending = tt }; moves = (refl, (refl, (refl, tt))); units = refl; taken = refl; tests = refl; redirect = refl; stop = refl })

judged_11 : JudgedBy interrupting words (row_11 ∷ eleven_rows)
unfolding places pending fetch_address next_serial is_flushed is_retired is_written place retirements units_after accesses_before stood step run_with decoded_in attempted of_return effect_of over blocks_effect commit_of first applied diverted decoded base_row base_patterns fields_of format_of base_formats
judged_11 =
    row_by interrupting words eleven_rows row_11 (calm (4 ∷ []) (2 ∷ [])) refl judged_10 refl
    (record { form = record { behind = refl; listed = refl; ascending = tt }; moves = (refl, (refl, (refl, tt))); units = refl; taken = refl; tests = refl; redirect = refl; stop = refl })

pub interrupted_lawful : Lawful interrupting interrupted_rows
interrupted_lawful = judged_11.lawful
