use Rattle.std.proofs.Common.{◌≡◌, ◌≤◌, ◌-◌, length, map}
use Rattle.rv_shown.specs.Shown.{shown_in}
use Rattle.rv_reader.specs.Traces.{IsReadTo, IsStateAt, line_numbers, line_behind}
use Rattle.rv_reader.proofs.read.read_rows.Given as goal

abbrev pub invariant-loop-ended : goal.invariant-loop-ended
invariant-loop-ended l = record {
  within : l.at ≤ length l.text;
  read : IsReadTo l.widths l.stages l.text l.at l.line (map (shown_in l.stages l.text) l.rows);
  state : IsStateAt l.ended l.text l.at;
  numbers : l.lines ≡ line_numbers 1 l.rows;
  behind : l.line ≡ line_behind 1 l.rows;
}

abbrev pub decreases-loop-ended : goal.decreases-loop-ended
decreases-loop-ended l = length l.text - l.at
