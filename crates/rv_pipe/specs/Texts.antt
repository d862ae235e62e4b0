-- The text of a run, from what is kept between two rows on (this project's choice).
use Rattle.std.specs.Prelude.{ℕ, zero, suc, List, ◌++◌, drop, replicate, take, None, is_some, if◌then◌else◌}
use Rattle.rv_trace.specs.declared.row.Row.{Row}
use Rattle.rv_trace.specs.TraceText.{row_text}
use Rattle.rv_text.specs.RunText.{state_text}
use Rattle.rv_holds.specs.Tokens.{cells_of}
use Rattle.rv_holds.specs.Flushing.{struck, unheld, flushed_of, redirect_of}
use Rattle.rv_engine.specs.Settings.{Setting, Machine, shape_of, tree_of}
use Rattle.rv_engine.specs.Rows.{loaded_by, turn_by, left_by, paid_by, taken_by, stop_after, retired_of, written_of, machine_after}
use Rattle.rv_machine.specs.Owing.{targets_owed}
use Rattle.rv_machine.specs.DesignText.{most_targets}

-- the row that the machine makes, with no cells behind the last stage
abbrev pub row_of : Setting → Machine → Row
row_of k m =
    record {
      cells = cells_of (unheld (struck (turn_by k m)) (loaded_by k m)) ++ drop (shape_of k).stages (replicate 5 None);
      retired = retired_of (left_by k m);
      written = written_of (paid_by k m);
      flushed = flushed_of (take (struck (turn_by k m)) (loaded_by k m));
      redirect = redirect_of (turn_by k m);
      taken = taken_by k m;
      stop = stop_after k m;
    }

-- the text of the state, with what is outstanding
abbrev pub end_text : Setting → Machine → List ℕ
end_text k m = state_text (tree_of k) (take most_targets (targets_owed m.owed)) m.arch

-- the lines of at most so many rows from here on, up to the first with a stop, and the text of the state behind them
unfoldable pub text_from : Setting → ℕ → Machine → List ℕ
text_from k zero m = end_text k m
text_from k (suc left) m = row_text (shape_of k).stages m.rows (row_of k m) ++ (if is_some (stop_after k m) then end_text k (machine_after k m) else text_from k left (machine_after k m))
