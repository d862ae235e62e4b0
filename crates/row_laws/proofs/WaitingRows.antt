-- The rows of the runs in which a store and a load wait for the memory are lawful.
use Rattle.std.proofs.Common.{ℕ, List, [], ◌∷◌, refl}
use Rattle.ix_bits.specs.BaseTable.{base_patterns}
use Rattle.rv_isa.specs.Table.{row_of as base_row, format_of, base_formats}
use Rattle.rv_isa.specs.Fields.{fields_of}
use Rattle.rv_isa.specs.Decoded.{decoded}
use Rattle.rv_seq.specs.Decoding.{decoded_in}
use Rattle.rv_seq.specs.WordEffects.{effect_of, over, blocks_effect}
use Rattle.rv_lawful.specs.LawfulTrace.{fetch_address, next_serial, Lawful}
use Rattle.rv_lawful.specs.Settings.{accesses_before, stood}
use Rattle.rv_lawful.specs.Outstanding.{units_after}
use Rattle.rv_seq.specs.Bare.{bare}
use Rattle.rv_seq.specs.Commits.{commit_of, applied}
use Rattle.rv_seq.specs.Runs.{run_with}
use Rattle.rv_seq.specs.States.{first}
use Rattle.rv_seq.specs.Steps.{attempted, step}
use Rattle.rv_trace.specs.Trace.{is_flushed, is_retired, place}
use Rattle.row_laws.specs.Hands.{five}
use Rattle.row_laws.specs.Waiting.{storing_image, storing_over, row_0, row_1, row_2, row_3, row_4, row_5, row_6, five_rows, seven_rows, stored, loaded, last_row, slow_store, store_7, store_8, store_10, store_nine, store_ten, store_twelve, slow_store_rows, slow_load, load_8, load_9, load_eight, slow_load_rows}
use Rattle.row_laws.proofs.CalmTests.{IsCalm}
use Rattle.row_laws.proofs.CalmRows.{Judged, no_rows, next_row}
use Rattle.row_laws.proofs.ForwardingRows.{plain}

pub calm : (waits : List ℕ) → IsCalm (storing_over waits)
calm waits = record {
  spawns = λ word. (plain five word (decoded_in bare word)).spawns;
  tail = λ word. (plain five word (decoded_in bare word)).tail;
  unlate = λ word r. (plain five word (decoded_in bare word)).unlate r;
}

-- The first rows, where the memory has a wait

judged_0 : (w : ℕ) (ws : List ℕ) → Judged (storing_over (w ∷ ws)) storing_image (row_0 ∷ [])
unfolding fetch_address next_serial is_flushed is_retired place units_after accesses_before stood step run_with decoded_in attempted effect_of over blocks_effect commit_of first applied decoded base_row base_patterns fields_of format_of base_formats
judged_0 w ws =
    next_row (storing_over (w ∷ ws)) storing_image (calm (w ∷ ws)) [] row_0 (no_rows (storing_over (w ∷ ws)) storing_image) refl
    (record { form = record { behind = refl; listed = refl; ascending = tt }; moves = (refl, (refl, (refl, (refl, (refl, tt))))); units = refl; taken = refl; tests = refl; redirect = refl; stop = refl })

judged_1 : (w : ℕ) (ws : List ℕ) → Judged (storing_over (w ∷ ws)) storing_image (row_1 ∷ row_0 ∷ [])
unfolding fetch_address next_serial is_flushed is_retired place units_after accesses_before stood step run_with decoded_in attempted effect_of over blocks_effect commit_of first applied decoded base_row base_patterns fields_of format_of base_formats
judged_1 w ws =
    next_row (storing_over (w ∷ ws)) storing_image (calm (w ∷ ws)) (row_0 ∷ []) row_1 (judged_0 w ws) refl
    (record { form = record { behind = refl; listed = refl; ascending = tt }; moves = (refl, (refl, (refl, (refl, (refl, tt))))); units = refl; taken = refl; tests = refl; redirect = refl; stop = refl })

judged_2 : (w : ℕ) (ws : List ℕ) → Judged (storing_over (w ∷ ws)) storing_image (row_2 ∷ row_1 ∷ row_0 ∷ [])
unfolding fetch_address next_serial is_flushed is_retired place units_after accesses_before stood step run_with decoded_in attempted effect_of over blocks_effect commit_of first applied decoded base_row base_patterns fields_of format_of base_formats
judged_2 w ws =
    next_row (storing_over (w ∷ ws)) storing_image (calm (w ∷ ws)) (row_1 ∷ row_0 ∷ []) row_2 (judged_1 w ws) refl
    (record { form = record { behind = refl; listed = refl; ascending = tt }; moves = (refl, (refl, (refl, (refl, (refl, tt))))); units = refl; taken = refl; tests = refl; redirect = refl; stop = refl })

judged_3 : (w : ℕ) (ws : List ℕ) → Judged (storing_over (w ∷ ws)) storing_image (row_3 ∷ row_2 ∷ row_1 ∷ row_0 ∷ [])
unfolding fetch_address next_serial is_flushed is_retired place units_after accesses_before stood step run_with decoded_in attempted effect_of over blocks_effect commit_of first applied decoded base_row base_patterns fields_of format_of base_formats
judged_3 w ws =
    next_row (storing_over (w ∷ ws)) storing_image (calm (w ∷ ws)) (row_2 ∷ row_1 ∷ row_0 ∷ []) row_3 (judged_2 w ws) refl
    (record { form = record { behind = refl; listed = refl; ascending = tt }; moves = (refl, (refl, (refl, (refl, (refl, tt))))); units = refl; taken = refl; tests = refl; redirect = refl; stop = refl })

judged_4 : (w : ℕ) (ws : List ℕ) → Judged (storing_over (w ∷ ws)) storing_image (row_4 ∷ row_3 ∷ row_2 ∷ row_1 ∷ row_0 ∷ [])
unfolding fetch_address next_serial is_flushed is_retired place units_after accesses_before stood step run_with decoded_in attempted effect_of over blocks_effect commit_of first applied decoded base_row base_patterns fields_of format_of base_formats
judged_4 w ws =
    next_row (storing_over (w ∷ ws)) storing_image (calm (w ∷ ws)) (row_3 ∷ row_2 ∷ row_1 ∷ row_0 ∷ []) row_4 (judged_3 w ws) refl
    (record { form = record { behind = refl; listed = refl; ascending = tt }; moves = (refl, (refl, (refl, (refl, (refl, tt))))); units = refl; taken = refl; tests = refl; redirect = refl; stop = refl })

judged_5 : (w : ℕ) (ws : List ℕ) → Judged (storing_over (w ∷ ws)) storing_image (row_5 ∷ five_rows)
unfolding fetch_address next_serial is_flushed is_retired place units_after accesses_before stood step run_with decoded_in attempted effect_of over blocks_effect commit_of first applied decoded base_row base_patterns fields_of format_of base_formats
judged_5 w ws =
    next_row (storing_over (w ∷ ws)) storing_image (calm (w ∷ ws)) five_rows row_5 (judged_4 w ws) refl
    (record { form = record { behind = refl; listed = refl; ascending = tt }; moves = (refl, (refl, (refl, (refl, (refl, tt))))); units = refl; taken = refl; tests = refl; redirect = refl; stop = refl })

judged_6 : (w : ℕ) (ws : List ℕ) → Judged (storing_over (w ∷ ws)) storing_image (row_6 ∷ row_5 ∷ five_rows)
unfolding fetch_address next_serial is_flushed is_retired place units_after accesses_before stood step run_with decoded_in attempted effect_of over blocks_effect commit_of first applied decoded base_row base_patterns fields_of format_of base_formats
judged_6 w ws =
    next_row (storing_over (w ∷ ws)) storing_image (calm (w ∷ ws)) (row_5 ∷ five_rows) row_6 (judged_5 w ws) refl
    (record { form = record { behind = refl; listed = refl; ascending = tt }; moves = (refl, (refl, (refl, (refl, (refl, tt))))); units = refl; taken = refl; tests = refl; redirect = refl; stop = refl })

-- Where the store waits

store_judged_7 : Judged slow_store storing_image (store_7 ∷ seven_rows)
unfolding fetch_address next_serial is_flushed is_retired place units_after accesses_before stood step run_with decoded_in attempted effect_of over blocks_effect commit_of first applied decoded base_row base_patterns fields_of format_of base_formats
store_judged_7 =
    next_row slow_store storing_image (calm (2 ∷ [])) seven_rows store_7 (judged_6 2 []) refl
    (record { form = record { behind = refl; listed = refl; ascending = tt }; moves = (refl, (refl, (refl, (refl, (refl, tt))))); units = refl; taken = refl; tests = refl; redirect = refl; stop = refl })

store_judged_8 : Judged slow_store storing_image (store_8 ∷ store_7 ∷ seven_rows)
unfolding fetch_address next_serial is_flushed is_retired place units_after accesses_before stood step run_with decoded_in attempted effect_of over blocks_effect commit_of first applied decoded base_row base_patterns fields_of format_of base_formats
store_judged_8 =
    next_row slow_store storing_image (calm (2 ∷ [])) (store_7 ∷ seven_rows) store_8 store_judged_7 refl
    (record { form = record { behind = refl; listed = refl; ascending = tt }; moves = (refl, (refl, (refl, (refl, (refl, tt))))); units = refl; taken = refl; tests = refl; redirect = refl; stop = refl })

store_judged_9 : Judged slow_store storing_image (stored ∷ store_nine)
unfolding fetch_address next_serial is_flushed is_retired place units_after accesses_before stood step run_with decoded_in attempted effect_of over blocks_effect commit_of first applied decoded base_row base_patterns fields_of format_of base_formats
store_judged_9 =
    next_row slow_store storing_image (calm (2 ∷ [])) store_nine stored store_judged_8 refl
    (record { form = record { behind = refl; listed = refl; ascending = tt }; moves = (refl, (refl, (refl, (refl, (refl, tt))))); units = refl; taken = refl; tests = refl; redirect = refl; stop = refl })

store_judged_10 : Judged slow_store storing_image (store_10 ∷ store_ten)
unfolding fetch_address next_serial is_flushed is_retired place units_after accesses_before stood step run_with decoded_in attempted effect_of over blocks_effect commit_of first applied decoded base_row base_patterns fields_of format_of base_formats
store_judged_10 =
    next_row slow_store storing_image (calm (2 ∷ [])) store_ten store_10 store_judged_9 refl
    (record { form = record { behind = refl; listed = refl; ascending = tt }; moves = (refl, (refl, (refl, (refl, (refl, tt))))); units = refl; taken = refl; tests = refl; redirect = refl; stop = refl })

store_judged_11 : Judged slow_store storing_image (loaded ∷ store_10 ∷ store_ten)
unfolding fetch_address next_serial is_flushed is_retired place units_after accesses_before stood step run_with decoded_in attempted effect_of over blocks_effect commit_of first applied decoded base_row base_patterns fields_of format_of base_formats
store_judged_11 =
    next_row slow_store storing_image (calm (2 ∷ [])) (store_10 ∷ store_ten) loaded store_judged_10 refl
    (record { form = record { behind = refl; listed = refl; ascending = tt }; moves = (refl, (refl, (refl, (refl, (refl, tt))))); units = refl; taken = refl; tests = refl; redirect = refl; stop = refl })

store_judged_12 : Judged slow_store storing_image (last_row ∷ store_twelve)
unfolding fetch_address next_serial is_flushed is_retired place units_after accesses_before stood step run_with decoded_in attempted effect_of over blocks_effect commit_of first applied decoded base_row base_patterns fields_of format_of base_formats
store_judged_12 =
    next_row slow_store storing_image (calm (2 ∷ [])) store_twelve last_row store_judged_11 refl
    (record { form = record { behind = refl; listed = refl; ascending = tt }; moves = (refl, (refl, (refl, (refl, (refl, tt))))); units = refl; taken = refl; tests = refl; redirect = refl; stop = refl })

pub slow_store_lawful : Lawful (λ places. slow_store) slow_store_rows
slow_store_lawful = store_judged_12.lawful

-- Where the load waits

load_judged_7 : Judged slow_load storing_image (stored ∷ seven_rows)
unfolding fetch_address next_serial is_flushed is_retired place units_after accesses_before stood step run_with decoded_in attempted effect_of over blocks_effect commit_of first applied decoded base_row base_patterns fields_of format_of base_formats
load_judged_7 =
    next_row slow_load storing_image (calm (0 ∷ 2 ∷ [])) seven_rows stored (judged_6 0 (2 ∷ [])) refl
    (record { form = record { behind = refl; listed = refl; ascending = tt }; moves = (refl, (refl, (refl, (refl, (refl, tt))))); units = refl; taken = refl; tests = refl; redirect = refl; stop = refl })

load_judged_8 : Judged slow_load storing_image (load_8 ∷ load_eight)
unfolding fetch_address next_serial is_flushed is_retired place units_after accesses_before stood step run_with decoded_in attempted effect_of over blocks_effect commit_of first applied decoded base_row base_patterns fields_of format_of base_formats
load_judged_8 =
    next_row slow_load storing_image (calm (0 ∷ 2 ∷ [])) load_eight load_8 load_judged_7 refl
    (record { form = record { behind = refl; listed = refl; ascending = tt }; moves = (refl, (refl, (refl, (refl, (refl, tt))))); units = refl; taken = refl; tests = refl; redirect = refl; stop = refl })

load_judged_9 : Judged slow_load storing_image (load_9 ∷ load_8 ∷ load_eight)
unfolding fetch_address next_serial is_flushed is_retired place units_after accesses_before stood step run_with decoded_in attempted effect_of over blocks_effect commit_of first applied decoded base_row base_patterns fields_of format_of base_formats
load_judged_9 =
    next_row slow_load storing_image (calm (0 ∷ 2 ∷ [])) (load_8 ∷ load_eight) load_9 load_judged_8 refl
    (record { form = record { behind = refl; listed = refl; ascending = tt }; moves = (refl, (refl, (refl, (refl, (refl, tt))))); units = refl; taken = refl; tests = refl; redirect = refl; stop = refl })

load_judged_10 : Judged slow_load storing_image (loaded ∷ load_9 ∷ load_8 ∷ load_eight)
unfolding fetch_address next_serial is_flushed is_retired place units_after accesses_before stood step run_with decoded_in attempted effect_of over blocks_effect commit_of first applied decoded base_row base_patterns fields_of format_of base_formats
load_judged_10 =
    next_row slow_load storing_image (calm (0 ∷ 2 ∷ [])) (load_9 ∷ load_8 ∷ load_eight) loaded load_judged_9 refl
    (record { form = record { behind = refl; listed = refl; ascending = tt }; moves = (refl, (refl, (refl, (refl, (refl, tt))))); units = refl; taken = refl; tests = refl; redirect = refl; stop = refl })

load_judged_11 : Judged slow_load storing_image (last_row ∷ loaded ∷ load_9 ∷ load_8 ∷ load_eight)
unfolding fetch_address next_serial is_flushed is_retired place units_after accesses_before stood step run_with decoded_in attempted effect_of over blocks_effect commit_of first applied decoded base_row base_patterns fields_of format_of base_formats
load_judged_11 =
    next_row slow_load storing_image (calm (0 ∷ 2 ∷ [])) (loaded ∷ load_9 ∷ load_8 ∷ load_eight) last_row load_judged_10 refl
    (record { form = record { behind = refl; listed = refl; ascending = tt }; moves = (refl, (refl, (refl, (refl, (refl, tt))))); units = refl; taken = refl; tests = refl; redirect = refl; stop = refl })

pub slow_load_lawful : Lawful (λ places. slow_load) slow_load_rows
slow_load_lawful = load_judged_11.lawful
