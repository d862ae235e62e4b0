-- What is known of a row that a machine makes, so that it can be shown to be lawful (this project's choice).
use Rattle.std.specs.Prelude.{◌≡◌, ℕ, suc, ◌+◌, ◌<◌, List, ◌∷◌, drop, length, Some, None, true, false, slice_get}
use Rattle.rv_seq.specs.declared.commit.Commit.{Commit}
use Rattle.rv_trace.specs.declared.row.Row.{Row}
use Rattle.rv_trace.specs.Trace.{has_serial, retirements}
use Rattle.rv_trace.specs.RowParts.{given, in_five, AscendFrom, names_of}
use Rattle.rv_holds.specs.declared.token.Token.{Token}
use Rattle.rv_holds.specs.Tokens.{Slots, cells_of, commit_of}
use Rattle.rv_holds.specs.Flushing.{next_of, settles, struck}
use Rattle.rv_engine.specs.Settings.{Setting, Machine, shape_of}
use Rattle.rv_engine.specs.Rows.{fill_first, new_by, loaded_by, turn_by, seen_by, left_by, retired_of, stop_after, IsRowOf}
use Rattle.rv_machine.specs.Placed.{run, count, Serials, Inv}
use Rattle.rv_machine.specs.Told.{Decided, Told}
use Rattle.rv_tried.specs.Parts.{shown}
use Rattle.rv_lawful.specs.Sight.{asked}

pub record Made (k : Setting) (earlier : List Row) (m : Machine) (row : Row) : Type 0 where
  pub inv : Inv k earlier m
  pub is : IsRowOf k m row
  pub told : Told k earlier row (seen_by k m)
  pub struck_is : told.flushed ≡ struck (turn_by k m)
  pub stop_is : row.stop ≡ stop_after k m
  -- the slots before the flush
  pub long : length (loaded_by k m) ≡ (shape_of k).stages
  pub decided : Decided k 0 (loaded_by k m)
  pub serials : Serials earlier (retirements earlier) (loaded_by k m)
  pub names : names_of (cells_of (loaded_by k m)) ≡ names_of (cells_of (fill_first (new_by k m) m.slots))
  -- what is left is not flushed, and nothing but tokens of the first stages is
  pub kept : (i : ℕ) (t : Token) → slice_get (seen_by k m) i ≡ Some (Some t) → has_serial row.flushed t.cell.serial ≡ false
  pub flushed_from : (s : ℕ) → has_serial row.flushed s ≡ true → (i : ℕ) × (t : Token) × (i < struck (turn_by k m)) × (slice_get (loaded_by k m) i ≡ Some (Some t)) × (t.cell.serial ≡ s)
  pub listed : row.flushed ≡ in_five (given row.flushed)
  pub ascends : AscendFrom None (given row.flushed)
  -- a token that settles its successor names the pc of the run behind it
  pub names_pc : (stage : ℕ) (t : Token) (older : Slots) → drop stage (seen_by k m) ≡ Some t ∷ older → settles (shape_of k) stage t older ≡ true → next_of t ≡ (run k (suc (retirements earlier + count older))).pc
  -- what goes out retires
  pub retires : (t : Token) → left_by k m ≡ Some t → (c : Commit) × (commit_of t ≡ Some c) × (c.word ≡ t.cell.word) × (retired_of (Some t) ≡ Some (t.cell.serial, shown (asked k.design t.cell.word) c))
