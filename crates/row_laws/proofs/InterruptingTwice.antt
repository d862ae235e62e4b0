-- The rows of the run in which the line is raised once more, in the handler, are lawful.
use Rattle.std.proofs.Common.{ℕ, List, [], ◌∷◌, refl, arith}
use Rattle.ix_bits.specs.BaseTable.{base_patterns}
use Rattle.rv_isa.specs.Table.{row_of as base_row, format_of, base_formats}
use Rattle.rv_isa.specs.Fields.{fields_of}
use Rattle.rv_isa.specs.Decoded.{decoded}
use Rattle.rv_seq.specs.Decoding.{decoded_in}
use Rattle.rv_seq.specs.WordEffects.{effect_of, over, blocks_effect}
use Rattle.rv_lawful.specs.Entering.{places, pending}
use Rattle.rv_lawful.specs.LawfulTrace.{fetch_address, next_serial, Lawful}
use Rattle.rv_lawful.specs.Settings.{accesses_before, stood}
use Rattle.rv_lawful.specs.Outstanding.{units_after, is_written}
use Rattle.rv_seq.specs.Bare.{bare}
use Rattle.rv_seq.specs.Commits.{commit_of, applied}
use Rattle.rv_seq.specs.Interrupts.{diverted}
use Rattle.rv_seq.specs.Runs.{run_with}
use Rattle.rv_seq.specs.States.{first}
use Rattle.rv_seq.specs.Steps.{attempted, of_return, step}
use Rattle.rv_trace.specs.Trace.{is_flushed, is_retired, place, retirements}
use Rattle.row_laws.specs.Hands.{three}
use Rattle.row_laws.specs.Interrupting.{again, again_rows, ten_rows, twice, eight_rows, five_rows, four_rows, interrupting_in, row_0, row_1, row_2, row_3, row_4, row_5, row_6, row_7, row_8, row_9, six_rows}
use Rattle.row_laws.proofs.CalmTests.{IsCalm}
use Rattle.row_laws.proofs.CalmRows.{JudgedBy, no_rows_by, row_by, entry_by}
use Rattle.row_laws.proofs.ForwardingRows.{plain}

-- the words that are fetched, by serials
abbrev words : List ℕ
words = 2147483831 ∷ 41219 ∷ 7340435 ∷ 1048691 ∷ 1180179 ∷ 807403635 ∷ 7340435 ∷ 1048691 ∷ 1180179 ∷ []

calm : (lines places : List ℕ) → IsCalm (interrupting_in lines places)
calm lines places = record {
  spawns = λ word. (plain three word (decoded_in bare word)).spawns;
  tail = λ word. (plain three word (decoded_in bare word)).tail;
  unlate = λ word r. (plain three word (decoded_in bare word)).unlate r;
}

twice_0 : JudgedBy (interrupting_in twice) words (row_0 ∷ [])
unfolding places pending fetch_address next_serial is_flushed is_retired is_written place retirements units_after accesses_before stood step run_with decoded_in attempted of_return effect_of over blocks_effect commit_of first applied diverted decoded base_row base_patterns fields_of format_of base_formats
twice_0 =
    row_by (interrupting_in twice) words [] row_0 (calm twice []) refl (no_rows_by (interrupting_in twice) words) refl
    (record { form = record { behind = refl; listed = refl; ascending = tt }; moves = (refl, (refl, (refl, tt))); units = refl; taken = refl; tests = refl; redirect = refl; stop = refl })

twice_1 : JudgedBy (interrupting_in twice) words (row_1 ∷ row_0 ∷ [])
unfolding places pending fetch_address next_serial is_flushed is_retired is_written place retirements units_after accesses_before stood step run_with decoded_in attempted of_return effect_of over blocks_effect commit_of first applied diverted decoded base_row base_patterns fields_of format_of base_formats
twice_1 =
    row_by (interrupting_in twice) words (row_0 ∷ []) row_1 (calm twice []) refl twice_0 refl
    (record { form = record { behind = refl; listed = refl; ascending = tt }; moves = (refl, (refl, (refl, tt))); units = refl; taken = refl; tests = refl; redirect = refl; stop = refl })

twice_2 : JudgedBy (interrupting_in twice) words (row_2 ∷ row_1 ∷ row_0 ∷ [])
unfolding places pending fetch_address next_serial is_flushed is_retired is_written place retirements units_after accesses_before stood step run_with decoded_in attempted of_return effect_of over blocks_effect commit_of first applied diverted decoded base_row base_patterns fields_of format_of base_formats
twice_2 =
    row_by (interrupting_in twice) words (row_1 ∷ row_0 ∷ []) row_2 (calm twice []) refl twice_1 refl
    (record { form = record { behind = refl; listed = refl; ascending = tt }; moves = (refl, (refl, (refl, tt))); units = refl; taken = refl; tests = refl; redirect = refl; stop = refl })

twice_3 : JudgedBy (interrupting_in twice) words (row_3 ∷ row_2 ∷ row_1 ∷ row_0 ∷ [])
unfolding places pending fetch_address next_serial is_flushed is_retired is_written place retirements units_after accesses_before stood step run_with decoded_in attempted of_return effect_of over blocks_effect commit_of first applied diverted decoded base_row base_patterns fields_of format_of base_formats
twice_3 =
    row_by (interrupting_in twice) words (row_2 ∷ row_1 ∷ row_0 ∷ []) row_3 (calm twice []) refl twice_2 refl
    (record { form = record { behind = refl; listed = refl; ascending = tt }; moves = (refl, (refl, (refl, tt))); units = refl; taken = refl; tests = refl; redirect = refl; stop = refl })

twice_4 : JudgedBy (interrupting_in twice) words (row_4 ∷ four_rows)
unfolding places pending fetch_address next_serial is_flushed is_retired is_written place retirements units_after accesses_before stood step run_with decoded_in attempted of_return effect_of over blocks_effect commit_of first applied diverted decoded base_row base_patterns fields_of format_of base_formats
twice_4 =
    row_by (interrupting_in twice) words four_rows row_4 (calm twice []) refl twice_3 refl
    (record { form = record { behind = refl; listed = refl; ascending = tt }; moves = (refl, (refl, (refl, tt))); units = refl; taken = refl; tests = refl; redirect = refl; stop = refl })

twice_5 : JudgedBy (interrupting_in twice) words (row_5 ∷ five_rows)
unfolding places pending fetch_address next_serial is_flushed is_retired is_written place retirements units_after accesses_before stood step run_with decoded_in attempted of_return effect_of over blocks_effect commit_of first applied diverted decoded base_row base_patterns fields_of format_of base_formats
twice_5 =
    entry_by (interrupting_in twice) words five_rows row_5 8 (calm twice []) refl twice_4 refl
    (record { form = record { behind = refl; listed = refl; ascending = (omega arith, tt) }; moves = (refl, (refl, (refl, tt))); units = refl; interrupted = refl; taken = refl; value = refl; tests = refl; redirect = refl; stop = refl })

twice_6 : JudgedBy (interrupting_in twice) words (row_6 ∷ six_rows)
unfolding places pending fetch_address next_serial is_flushed is_retired is_written place retirements units_after accesses_before stood step run_with decoded_in attempted of_return effect_of over blocks_effect commit_of first applied diverted decoded base_row base_patterns fields_of format_of base_formats
twice_6 =
    row_by (interrupting_in twice) words six_rows row_6 (calm twice (2 ∷ [])) refl twice_5 refl
    (record { form = record { behind = refl; listed = refl; ascending = tt }; moves = (refl, (refl, (refl, tt))); units = refl; taken = refl; tests = refl; redirect = refl; stop = refl })

twice_7 : JudgedBy (interrupting_in twice) words (row_7 ∷ row_6 ∷ six_rows)
unfolding places pending fetch_address next_serial is_flushed is_retired is_written place retirements units_after accesses_before stood step run_with decoded_in attempted of_return effect_of over blocks_effect commit_of first applied diverted decoded base_row base_patterns fields_of format_of base_formats
twice_7 =
    row_by (interrupting_in twice) words (row_6 ∷ six_rows) row_7 (calm twice (2 ∷ [])) refl twice_6 refl
    (record { form = record { behind = refl; listed = refl; ascending = tt }; moves = (refl, (refl, (refl, tt))); units = refl; taken = refl; tests = refl; redirect = refl; stop = refl })

twice_8 : JudgedBy (interrupting_in twice) words (row_8 ∷ eight_rows)
unfolding places pending fetch_address next_serial is_flushed is_retired is_written place retirements units_after accesses_before stood step run_with decoded_in attempted of_return effect_of over blocks_effect commit_of first applied diverted decoded base_row base_patterns fields_of format_of base_formats
twice_8 =
    row_by (interrupting_in twice) words eight_rows row_8 (calm twice (2 ∷ [])) refl twice_7 refl
    (record { form = record { behind = refl; listed = refl; ascending = tt }; moves = (refl, (refl, (refl, tt))); units = refl; taken = refl; tests = refl; redirect = refl; stop = refl })

twice_9 : JudgedBy (interrupting_in twice) words (row_9 ∷ row_8 ∷ eight_rows)
unfolding places pending fetch_address next_serial is_flushed is_retired is_written place retirements units_after accesses_before stood step run_with decoded_in attempted of_return effect_of over blocks_effect commit_of first applied diverted decoded base_row base_patterns fields_of format_of base_formats
twice_9 =
    row_by (interrupting_in twice) words (row_8 ∷ eight_rows) row_9 (calm twice (2 ∷ [])) refl twice_8 refl
    (record { form = record { behind = refl; listed = refl; ascending = tt }; moves = (refl, (refl, (refl, tt))); units = refl; taken = refl; tests = refl; redirect = refl; stop = refl })

twice_10 : JudgedBy (interrupting_in twice) words (again ∷ ten_rows)
unfolding places pending fetch_address next_serial is_flushed is_retired is_written place retirements units_after accesses_before stood step run_with decoded_in attempted of_return effect_of over blocks_effect commit_of first applied diverted decoded base_row base_patterns fields_of format_of base_formats
twice_10 =
    entry_by (interrupting_in twice) words ten_rows again 8 (calm twice (2 ∷ [])) refl twice_9 refl
    (record { form = record { behind = refl; listed = refl; ascending = (omega arith, tt) }; moves = (refl, (refl, (refl, tt))); units = refl; interrupted = refl; taken = refl; value = refl; tests = refl; redirect = refl; stop = refl })

pub again_lawful : Lawful (interrupting_in twice) again_rows
again_lawful = twice_10.lawful
