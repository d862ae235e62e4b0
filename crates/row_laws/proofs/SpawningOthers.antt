-- Lists of rows with decoupled writes that differ from lawful ones in one thing are not lawful.
use Rattle.std.proofs.Common.{◌≡◌, ℕ, zero, suc, List, [], ◌∷◌, Option, Some, None, true, refl, sym, ◌∙◌, subst, arith, inl, inr}
use Rattle.ix_bits.specs.BaseTable.{base_patterns}
use Rattle.rv_isa.specs.Table.{row_of as base_row, format_of, base_formats}
use Rattle.rv_isa.specs.Fields.{fields_of}
use Rattle.rv_isa.specs.Decoded.{decoded}
use Rattle.rv_seq.specs.Decoding.{decoded_in}
use Rattle.rv_seq.specs.WordEffects.{effect_of, over, blocks_effect}
use Rattle.rv_lawful.specs.LawfulTrace.{fetch_address, IsEmptyAfter}
use Rattle.rv_lawful.specs.Outstanding.{Decoupled, units_after, is_written, decoupled}
use Rattle.rv_lawful.specs.Settings.{Stands}
use Rattle.rv_seq.specs.Commits.{commit_of, applied}
use Rattle.rv_seq.specs.Runs.{run_with}
use Rattle.rv_seq.specs.States.{first}
use Rattle.rv_seq.specs.Steps.{attempted, step}
use Rattle.rv_seq.specs.declared.commit.Stop.{Stop}
use Rattle.rv_seq.specs.declared.commit.Stop.TheVariants.{Ebreak, Fetch}
use Rattle.rv_trace.specs.Trace.{is_flushed, is_retired, place, newest}
use Rattle.rv_trace.specs.declared.row.Cell.{Cell}
use Rattle.rv_trace.specs.declared.row.Hold.TheVariants.{Board, Drain, UnitFull, Port, Behind}
use Rattle.ix_plan.specs.declared.design.Target.TheVariants.{X}
use Rattle.row_laws.specs.Spawning.{quick, brisk, hollow, sum, native, break, emptying, port_last, passing_hand, passing, passing_three, passing_six, IsUnlawful, board_left_out, board_of_another, board_of_younger, board_after_write, none_written, written_early, written_unretired, written_twice, port_hand, port, port_three, IsUnlawfulAtPort, port_left_out, port_without_write, stop_before_write, stop_left_out, frozen_hand, frozen, frozen_five, frozen_seven, IsUnlawfulFrozen, full_left_out, full_of_another, higher_written, frozen_moves, drain_left_out}
use Rattle.row_laws.proofs.Stages.{true_not_false, AllNamed, idle}
use Rattle.row_laws.proofs.Tests.{has_its}
use Rattle.row_laws.proofs.Judging.{waits_for_write, waits_to_drain, waits_for_unit, waits_for_port}
use Rattle.row_laws.proofs.Judged.{row_named}
use Rattle.row_laws.proofs.SpawningRows.{passing_3_judged, port_3_judged, frozen_7_judged}

none_not_some : (n : ℕ) → ◌≡◌ {A = Option ℕ} None (Some n) → ⊥
none_not_some n e = cc

the : (m n : ℕ) → ◌≡◌ {A = Option ℕ} (Some m) (Some n) → m ≡ n
the m n e = cc

-- Board

-- the row in which the sum is to wait has the words of the image
names_3 : AllNamed passing_hand board_left_out
names_3 = (row_named passing_hand (Some (break 3 12 None)) (Some (sum 2 8 None)) (Some (quick 1 4 None)) (newest board_left_out).retired None None refl, passing_3_judged.names)

pub board_left_out_refused : IsUnlawful board_left_out
unfolding is_flushed is_written
board_left_out_refused h = idle passing passing_three (newest board_left_out) 1 (sum 2 8 None) (Board (X 5) 0) h refl refl refl (waits_for_write passing_hand passing_three (newest board_left_out) (sum 2 8 None) (X 5) 0 names_3 refl)

names_another : AllNamed passing_hand board_of_another
names_another = (row_named passing_hand (Some (break 3 12 (Some Behind))) (Some (sum 2 8 (Some (Board (X 6) 1)))) (Some (quick 1 4 None)) (newest board_of_another).retired None None refl, passing_3_judged.names)

pub board_of_another_refused : IsUnlawful board_of_another
unfolding is_flushed is_written
board_of_another_refused h =
    let wait = waits_for_write passing_hand passing_three (newest board_of_another) (sum 2 8 (Some (Board (X 6) 1))) (X 5) 0 names_another refl in
    elim ((h.0.holds 1 (sum 2 8 (Some (Board (X 6) 1))) refl).shown_first (Board (X 6) 1) (Board (X 5) 0) refl (inl wait)) [
      | inl x ↦ absurd (omega (arith, x))
      | inr x ↦ elim x.1 [ inl y ↦ absurd (omega (arith, y)) | inr y ↦ let e = y.0 in absurd (omega (arith, e)) ]
    ]

names_younger : AllNamed passing_hand board_of_younger
names_younger = (row_named passing_hand (Some (break 3 12 (Some Behind))) (Some (sum 2 8 (Some (Board (X 5) 1)))) (Some (quick 1 4 None)) (newest board_of_younger).retired None None refl, passing_3_judged.names)

pub board_of_younger_refused : IsUnlawful board_of_younger
board_of_younger_refused h = elim ((h.0.holds 1 (sum 2 8 (Some (Board (X 5) 1))) refl).shown (Board (X 5) 1) refl) [
  | inl w ↦ true_not_false (sym (has_its passing_hand passing_three (newest board_of_younger) 1 (sum 2 8 (Some (Board (X 5) 1))) names_younger (X 5) 1 w))
  | inr b ↦ cc (b.0)
]

both_are_written : is_written passing_six 0 ≡ true
unfolding is_written
both_are_written = refl

pub board_after_write_refused : IsUnlawful board_after_write
board_after_write_refused h = elim ((h.0.holds 1 (sum 2 8 (Some (Board (X 5) 0))) refl).shown (Board (X 5) 0) refl) [
  | inl w ↦ true_not_false (sym both_are_written ∙ w.unwritten)
  | inr b ↦ cc (b.0)
]

-- What is written

pub none_written_refused : IsUnlawful none_written
unfolding units_after
none_written_refused h = none_not_some 1 h.0.units

pub written_early_refused : IsUnlawful written_early
unfolding units_after
written_early_refused h = none_not_some 1 (sym h.0.units)

pub written_unretired_refused : IsUnlawful written_unretired
unfolding units_after
written_unretired_refused h = let e = the 2 1 h.0.units in omega (arith, e)

pub written_twice_refused : IsUnlawful written_twice
unfolding units_after
written_twice_refused h = let e = the 1 0 h.0.units in omega (arith, e)

-- The port and the fetch

names_port : AllNamed port_hand port_left_out
names_port = (row_named port_hand None (Some (brisk 2 8 None)) (Some (native 1 4 None)) (newest port_left_out).retired (newest port_left_out).written None refl, port_3_judged.names)

pub port_left_out_refused : IsUnlawfulAtPort port_left_out
port_left_out_refused h = idle port port_three (newest port_left_out) 2 (native 1 4 None) (Port 0) h refl refl refl (waits_for_port port_hand port_three (newest port_left_out) (native 1 4 None) 0 names_port refl)

pub port_without_write_refused : IsUnlawfulAtPort port_without_write
port_without_write_refused h = elim ((h.0.holds 2 (native 1 4 (Some (Port 0))) refl).shown (Port 0) refl) [
  | inl w ↦ none_not_some 0 w.taken
  | inr b ↦ cc (b.0)
]

one_owed : (o : Decoupled) → ◌≡◌ {A = List Decoupled} (o ∷ []) [] → ⊥
one_owed o e = cc

pub stop_before_write_refused : IsUnlawfulAtPort stop_before_write
unfolding decoupled is_written
stop_before_write_refused h = elim (h.0.stops.cause Fetch refl) [
  | inl w ↦ no_cell w.1 (subst (λ n. Stands port (emptying (Some Fetch)) n w.1) w.3.executing w.2)
  | inr w ↦ one_owed (2, 6292499) w.2
] where
  no_cell : (c : Cell) → Stands port (emptying (Some Fetch)) 1 c → ⊥
  no_cell c s = cc

no_stop_there : ◌≡◌ {A = Option Stop} None (Some Fetch) → ⊥
no_stop_there e = cc

pub stop_left_out_refused : IsUnlawfulAtPort stop_left_out
unfolding decoupled is_written fetch_address
stop_left_out_refused h = no_stop_there (h.0.stops.of_fetch empty refl refl) where
  empty : IsEmptyAfter port (port_last None)
  empty zero c s = cc
  empty (suc zero) c s = cc
  empty (suc (suc zero)) c s = cc
  empty (suc (suc (suc n))) c s = cc

-- The frozen unit

pub full_left_out_refused : IsUnlawfulFrozen full_left_out
unfolding units_after
full_left_out_refused h = idle frozen frozen_five (newest full_left_out) 2 (hollow 3 12 None) (UnitFull 1) h refl refl refl (waits_for_unit frozen_hand frozen_five (newest full_left_out) (hollow 3 12 None) 1 refl)

pub full_of_another_refused : IsUnlawfulFrozen full_of_another
full_of_another_refused h = elim ((h.0.holds 2 (hollow 3 12 (Some (UnitFull 0))) refl).shown (UnitFull 0) refl) [
  | inl w ↦ let e = the 1 0 w.enters in omega (arith, e)
  | inr b ↦ cc (b.0)
]

pub higher_written_refused : IsUnlawfulFrozen higher_written
unfolding units_after
higher_written_refused h = let e = the 1 0 h.0.units in omega (arith, e)

pub frozen_moves_refused : IsUnlawfulFrozen frozen_moves
unfolding units_after
frozen_moves_refused h = let e = the 2 1 h.0.units in omega (arith, e)

names_drain : AllNamed frozen_hand drain_left_out
names_drain = (row_named frozen_hand None (Some (break 4 16 None)) None None (newest drain_left_out).written (Some Ebreak) refl, frozen_7_judged.names)

pub drain_left_out_refused : IsUnlawfulFrozen drain_left_out
unfolding is_flushed is_retired is_written place step run_with decoded_in attempted effect_of over blocks_effect commit_of first applied decoded base_row base_patterns fields_of format_of base_formats
drain_left_out_refused h = idle frozen frozen_seven (newest drain_left_out) 1 (break 4 16 None) (Drain 3) h refl refl refl (waits_to_drain frozen_hand frozen_seven (newest drain_left_out) (break 4 16 None) 3 names_drain refl)
