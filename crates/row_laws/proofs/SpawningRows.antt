-- The rows of the runs with decoupled writes are lawful.
use Rattle.std.proofs.Common.{ℕ, List, [], ◌∷◌, Some, None, refl}
use Rattle.ix_bits.specs.BaseTable.{base_patterns}
use Rattle.ix_plan.specs.Units.{Slots}
use Rattle.rv_isa.specs.Table.{row_of as base_row, format_of, base_formats}
use Rattle.rv_isa.specs.Fields.{fields_of}
use Rattle.rv_isa.specs.Decoded.{decoded}
use Rattle.rv_seq.specs.Decoding.{decoded_in}
use Rattle.rv_seq.specs.WordEffects.{effect_of, over, blocks_effect}
use Rattle.rv_lawful.specs.LawfulTrace.{fetch_address, next_serial, Lawful}
use Rattle.rv_lawful.specs.Outstanding.{units_after, is_written, decoupled}
use Rattle.rv_seq.specs.Commits.{commit_of, applied}
use Rattle.rv_seq.specs.Runs.{run_with}
use Rattle.rv_seq.specs.States.{first}
use Rattle.rv_seq.specs.Steps.{attempted, step}
use Rattle.rv_seq.specs.declared.commit.Slot.TheVariants.{Now, Later, Absent}
use Rattle.rv_seq.specs.declared.commit.Stop.TheVariants.{Ebreak}
use Rattle.rv_trace.specs.Trace.{is_flushed, is_retired, place}
use Rattle.rv_trace.specs.declared.row.Hold.TheVariants.{Board, Drain, UnitFull, Port, Behind}
use Rattle.ix_plan.specs.declared.design.Target.TheVariants.{X}
use Rattle.row_laws.specs.Spawning.{spawning_hand, record_of, write_of, slow, quick, brisk, hollow, sum, native, break, quick_record, native_record, port_write, slow_write, quick_write, brisk_write, hollow_record, passing_hand, passing, passing_0, passing_1, passing_three, passing_four, passing_five, passing_six, passing_seven, passing_rows, port_hand, port, port_0, port_1, port_three, port_four, port_five, port_six, port_rows, frozen_hand, frozen, frozen_0, frozen_1, frozen_2, frozen_3, frozen_five, frozen_six, frozen_seven, frozen_eight, frozen_rows}
use Rattle.row_laws.proofs.Stages.{no_custom}
use Rattle.row_laws.proofs.Tests.{IsSimple}
use Rattle.row_laws.proofs.Judged.{Judged, no_rows, next_row, stop_row, end_row}

pub simple : (image : List ℕ) (units : List Slots) → IsSimple (spawning_hand image units)
simple image units = record { late = λ word. refl; loads = λ word. refl; tail = λ word. refl; unlate = λ word r. no_custom r }

-- Out of order

pub passing_1_judged : Judged passing_hand (passing_0 ∷ [])
unfolding fetch_address next_serial is_flushed is_retired is_written place units_after decoupled step run_with decoded_in attempted effect_of over blocks_effect commit_of first applied decoded base_row base_patterns fields_of format_of base_formats
passing_1_judged =
    next_row passing_hand (simple passing_hand.image passing_hand.units) [] (Some (slow 0 0 None)) None None None None (no_rows passing_hand) refl
    (record { moves = (refl, (refl, (refl, tt))); units = refl; names = refl; cells = refl }) refl refl

pub passing_2_judged : Judged passing_hand (passing_1 ∷ passing_0 ∷ [])
unfolding fetch_address next_serial is_flushed is_retired is_written place units_after decoupled step run_with decoded_in attempted effect_of over blocks_effect commit_of first applied decoded base_row base_patterns fields_of format_of base_formats
passing_2_judged =
    next_row passing_hand (simple passing_hand.image passing_hand.units) (passing_0 ∷ []) (Some (quick 1 4 None)) (Some (slow 0 0 None)) None None None passing_1_judged refl
    (record { moves = (refl, (refl, (refl, tt))); units = refl; names = refl; cells = refl }) refl refl

pub passing_3_judged : Judged passing_hand passing_three
unfolding fetch_address next_serial is_flushed is_retired is_written place units_after decoupled step run_with decoded_in attempted effect_of over blocks_effect commit_of first applied decoded base_row base_patterns fields_of format_of base_formats
passing_3_judged =
    next_row passing_hand (simple passing_hand.image passing_hand.units) (passing_1 ∷ passing_0 ∷ []) (Some (sum 2 8 None)) (Some (quick 1 4 None)) (Some (slow 0 0 None)) (Some (0, record_of 0 3146387 5 Later)) None passing_2_judged refl
    (record { moves = (refl, (refl, (refl, tt))); units = refl; names = refl; cells = refl }) refl refl

pub passing_4_judged : Judged passing_hand passing_four
unfolding fetch_address next_serial is_flushed is_retired is_written place units_after decoupled step run_with decoded_in attempted effect_of over blocks_effect commit_of first applied decoded base_row base_patterns fields_of format_of base_formats
passing_4_judged =
    next_row passing_hand (simple passing_hand.image passing_hand.units) passing_three (Some (break 3 12 (Some Behind))) (Some (sum 2 8 (Some (Board (X 5) 0)))) (Some (quick 1 4 None)) (Some quick_record) None passing_3_judged refl
    (record { moves = (refl, (refl, (refl, tt))); units = refl; names = refl; cells = refl }) refl refl

pub passing_5_judged : Judged passing_hand passing_five
unfolding fetch_address next_serial is_flushed is_retired is_written place units_after decoupled step run_with decoded_in attempted effect_of over blocks_effect commit_of first applied decoded base_row base_patterns fields_of format_of base_formats
passing_5_judged =
    next_row passing_hand (simple passing_hand.image passing_hand.units) passing_four (Some (break 3 12 (Some Behind))) (Some (sum 2 8 (Some (Board (X 5) 0)))) None None (Some (write_of 1 6 (Now 4))) passing_4_judged refl
    (record { moves = (refl, (refl, (refl, tt))); units = refl; names = refl; cells = refl }) refl refl

pub passing_6_judged : Judged passing_hand passing_six
unfolding fetch_address next_serial is_flushed is_retired is_written place units_after decoupled step run_with decoded_in attempted effect_of over blocks_effect commit_of first applied decoded base_row base_patterns fields_of format_of base_formats
passing_6_judged =
    next_row passing_hand (simple passing_hand.image passing_hand.units) passing_five (Some (break 3 12 (Some Behind))) (Some (sum 2 8 (Some (Board (X 5) 0)))) None None (Some (write_of 0 5 (Now 3))) passing_5_judged refl
    (record { moves = (refl, (refl, (refl, tt))); units = refl; names = refl; cells = refl }) refl refl

pub passing_7_judged : Judged passing_hand passing_seven
unfolding fetch_address next_serial is_flushed is_retired is_written place units_after decoupled step run_with decoded_in attempted effect_of over blocks_effect commit_of first applied decoded base_row base_patterns fields_of format_of base_formats
passing_7_judged =
    next_row passing_hand (simple passing_hand.image passing_hand.units) passing_six (Some (break 3 12 None)) (Some (sum 2 8 None)) None None None passing_6_judged refl
    (record { moves = (refl, (refl, (refl, tt))); units = refl; names = refl; cells = refl }) refl refl

pub passing_8_judged : Judged passing_hand passing_rows
unfolding fetch_address next_serial is_flushed is_retired is_written place units_after decoupled step run_with decoded_in attempted effect_of over blocks_effect commit_of first applied decoded base_row base_patterns fields_of format_of base_formats
passing_8_judged =
    stop_row passing_hand (simple passing_hand.image passing_hand.units) passing_seven None (break 3 12 None) (Some (sum 2 8 None)) (Some (2, record_of 8 6456243 7 (Now 7))) None Ebreak passing_7_judged refl
    (record { moves = (refl, (refl, (refl, tt))); units = refl; names = refl; cells = refl }) refl refl

pub passing_lawful : Lawful (λ places. passing) passing_rows
passing_lawful = passing_8_judged.lawful

-- The port

pub port_1_judged : Judged port_hand (port_0 ∷ [])
unfolding fetch_address next_serial is_flushed is_retired is_written place units_after decoupled step run_with decoded_in attempted effect_of over blocks_effect commit_of first applied decoded base_row base_patterns fields_of format_of base_formats
port_1_judged =
    next_row port_hand (simple port_hand.image port_hand.units) [] (Some (quick 0 0 None)) None None None None (no_rows port_hand) refl
    (record { moves = (refl, (refl, (refl, tt))); units = refl; names = refl; cells = refl }) refl refl

pub port_2_judged : Judged port_hand (port_1 ∷ port_0 ∷ [])
unfolding fetch_address next_serial is_flushed is_retired is_written place units_after decoupled step run_with decoded_in attempted effect_of over blocks_effect commit_of first applied decoded base_row base_patterns fields_of format_of base_formats
port_2_judged =
    next_row port_hand (simple port_hand.image port_hand.units) (port_0 ∷ []) (Some (native 1 4 None)) (Some (quick 0 0 None)) None None None port_1_judged refl
    (record { moves = (refl, (refl, (refl, tt))); units = refl; names = refl; cells = refl }) refl refl

pub port_3_judged : Judged port_hand port_three
unfolding fetch_address next_serial is_flushed is_retired is_written place units_after decoupled step run_with decoded_in attempted effect_of over blocks_effect commit_of first applied decoded base_row base_patterns fields_of format_of base_formats
port_3_judged =
    next_row port_hand (simple port_hand.image port_hand.units) (port_1 ∷ port_0 ∷ []) (Some (brisk 2 8 None)) (Some (native 1 4 None)) (Some (quick 0 0 None)) (Some (0, record_of 0 4195091 6 Later)) None port_2_judged refl
    (record { moves = (refl, (refl, (refl, tt))); units = refl; names = refl; cells = refl }) refl refl

pub port_4_judged : Judged port_hand port_four
unfolding fetch_address next_serial is_flushed is_retired is_written place units_after decoupled step run_with decoded_in attempted effect_of over blocks_effect commit_of first applied decoded base_row base_patterns fields_of format_of base_formats
port_4_judged =
    next_row port_hand (simple port_hand.image port_hand.units) port_three None (Some (brisk 2 8 (Some Behind))) (Some (native 1 4 (Some (Port 0)))) None (Some port_write) port_3_judged refl
    (record { moves = (refl, (refl, (refl, tt))); units = refl; names = refl; cells = refl }) refl refl

pub port_5_judged : Judged port_hand port_five
unfolding fetch_address next_serial is_flushed is_retired is_written place units_after decoupled step run_with decoded_in attempted effect_of over blocks_effect commit_of first applied decoded base_row base_patterns fields_of format_of base_formats
port_5_judged =
    next_row port_hand (simple port_hand.image port_hand.units) port_four None (Some (brisk 2 8 None)) (Some (native 1 4 None)) (Some native_record) None port_4_judged refl
    (record { moves = (refl, (refl, (refl, tt))); units = refl; names = refl; cells = refl }) refl refl

pub port_6_judged : Judged port_hand port_six
unfolding fetch_address next_serial is_flushed is_retired is_written place units_after decoupled step run_with decoded_in attempted effect_of over blocks_effect commit_of first applied decoded base_row base_patterns fields_of format_of base_formats
port_6_judged =
    next_row port_hand (simple port_hand.image port_hand.units) port_five None None (Some (brisk 2 8 None)) (Some (2, record_of 8 6292499 8 Later)) None port_5_judged refl
    (record { moves = (refl, (refl, (refl, tt))); units = refl; names = refl; cells = refl }) refl refl

pub port_7_judged : Judged port_hand port_rows
unfolding fetch_address next_serial is_flushed is_retired is_written place units_after decoupled step run_with decoded_in attempted effect_of over blocks_effect commit_of first applied decoded base_row base_patterns fields_of format_of base_formats
port_7_judged =
    end_row port_hand (simple port_hand.image port_hand.units) port_six None None (Some (write_of 2 8 (Now 6))) port_6_judged refl
    (record { moves = (refl, (refl, (refl, tt))); units = refl; names = refl; cells = refl }) refl

pub port_lawful : Lawful (λ places. port) port_rows
port_lawful = port_7_judged.lawful

-- The frozen unit

pub frozen_1_judged : Judged frozen_hand (frozen_0 ∷ [])
unfolding fetch_address next_serial is_flushed is_retired is_written place units_after decoupled step run_with decoded_in attempted effect_of over blocks_effect commit_of first applied decoded base_row base_patterns fields_of format_of base_formats
frozen_1_judged =
    next_row frozen_hand (simple frozen_hand.image frozen_hand.units) [] (Some (slow 0 0 None)) None None None None (no_rows frozen_hand) refl
    (record { moves = (refl, (refl, (refl, tt))); units = refl; names = refl; cells = refl }) refl refl

pub frozen_2_judged : Judged frozen_hand (frozen_1 ∷ frozen_0 ∷ [])
unfolding fetch_address next_serial is_flushed is_retired is_written place units_after decoupled step run_with decoded_in attempted effect_of over blocks_effect commit_of first applied decoded base_row base_patterns fields_of format_of base_formats
frozen_2_judged =
    next_row frozen_hand (simple frozen_hand.image frozen_hand.units) (frozen_0 ∷ []) (Some (quick 1 4 None)) (Some (slow 0 0 None)) None None None frozen_1_judged refl
    (record { moves = (refl, (refl, (refl, tt))); units = refl; names = refl; cells = refl }) refl refl

pub frozen_3_judged : Judged frozen_hand (frozen_2 ∷ frozen_1 ∷ frozen_0 ∷ [])
unfolding fetch_address next_serial is_flushed is_retired is_written place units_after decoupled step run_with decoded_in attempted effect_of over blocks_effect commit_of first applied decoded base_row base_patterns fields_of format_of base_formats
frozen_3_judged =
    next_row frozen_hand (simple frozen_hand.image frozen_hand.units) (frozen_1 ∷ frozen_0 ∷ []) (Some (brisk 2 8 None)) (Some (quick 1 4 None)) (Some (slow 0 0 None)) (Some (0, record_of 0 3146387 5 Later)) None frozen_2_judged refl
    (record { moves = (refl, (refl, (refl, tt))); units = refl; names = refl; cells = refl }) refl refl

pub frozen_4_judged : Judged frozen_hand (frozen_3 ∷ frozen_2 ∷ frozen_1 ∷ frozen_0 ∷ [])
unfolding fetch_address next_serial is_flushed is_retired is_written place units_after decoupled step run_with decoded_in attempted effect_of over blocks_effect commit_of first applied decoded base_row base_patterns fields_of format_of base_formats
frozen_4_judged =
    next_row frozen_hand (simple frozen_hand.image frozen_hand.units) (frozen_2 ∷ frozen_1 ∷ frozen_0 ∷ []) (Some (hollow 3 12 None)) (Some (brisk 2 8 None)) (Some (quick 1 4 None)) (Some (1, record_of 4 4195091 6 Later)) None frozen_3_judged refl
    (record { moves = (refl, (refl, (refl, tt))); units = refl; names = refl; cells = refl }) refl refl

pub frozen_5_judged : Judged frozen_hand frozen_five
unfolding fetch_address next_serial is_flushed is_retired is_written place units_after decoupled step run_with decoded_in attempted effect_of over blocks_effect commit_of first applied decoded base_row base_patterns fields_of format_of base_formats
frozen_5_judged =
    next_row frozen_hand (simple frozen_hand.image frozen_hand.units) (frozen_3 ∷ frozen_2 ∷ frozen_1 ∷ frozen_0 ∷ []) (Some (break 4 16 None)) (Some (hollow 3 12 None)) (Some (brisk 2 8 None)) (Some (2, record_of 8 6292499 8 Later)) None frozen_4_judged refl
    (record { moves = (refl, (refl, (refl, tt))); units = refl; names = refl; cells = refl }) refl refl

pub frozen_6_judged : Judged frozen_hand frozen_six
unfolding fetch_address next_serial is_flushed is_retired is_written place units_after decoupled step run_with decoded_in attempted effect_of over blocks_effect commit_of first applied decoded base_row base_patterns fields_of format_of base_formats
frozen_6_judged =
    next_row frozen_hand (simple frozen_hand.image frozen_hand.units) frozen_five None (Some (break 4 16 (Some (Drain 1)))) (Some (hollow 3 12 (Some (UnitFull 1)))) None (Some slow_write) frozen_5_judged refl
    (record { moves = (refl, (refl, (refl, tt))); units = refl; names = refl; cells = refl }) refl refl

pub frozen_7_judged : Judged frozen_hand frozen_seven
unfolding fetch_address next_serial is_flushed is_retired is_written place units_after decoupled step run_with decoded_in attempted effect_of over blocks_effect commit_of first applied decoded base_row base_patterns fields_of format_of base_formats
frozen_7_judged =
    next_row frozen_hand (simple frozen_hand.image frozen_hand.units) frozen_six None (Some (break 4 16 (Some (Drain 2)))) (Some (hollow 3 12 None)) (Some (hollow_record 9 Later)) (Some quick_write) frozen_6_judged refl
    (record { moves = (refl, (refl, (refl, tt))); units = refl; names = refl; cells = refl }) refl refl

pub frozen_8_judged : Judged frozen_hand frozen_eight
unfolding fetch_address next_serial is_flushed is_retired is_written place units_after decoupled step run_with decoded_in attempted effect_of over blocks_effect commit_of first applied decoded base_row base_patterns fields_of format_of base_formats
frozen_8_judged =
    next_row frozen_hand (simple frozen_hand.image frozen_hand.units) frozen_seven None (Some (break 4 16 (Some (Drain 3)))) None None (Some brisk_write) frozen_7_judged refl
    (record { moves = (refl, (refl, (refl, tt))); units = refl; names = refl; cells = refl }) refl refl

pub frozen_9_judged : Judged frozen_hand frozen_rows
unfolding fetch_address next_serial is_flushed is_retired is_written place units_after decoupled step run_with decoded_in attempted effect_of over blocks_effect commit_of first applied decoded base_row base_patterns fields_of format_of base_formats
frozen_9_judged =
    stop_row frozen_hand (simple frozen_hand.image frozen_hand.units) frozen_eight None (break 4 16 None) None None (Some (write_of 3 0 Absent)) Ebreak frozen_8_judged refl
    (record { moves = (refl, (refl, (refl, tt))); units = refl; names = refl; cells = refl }) refl refl

pub frozen_lawful : Lawful (λ places. frozen) frozen_rows
frozen_lawful = frozen_9_judged.lawful
