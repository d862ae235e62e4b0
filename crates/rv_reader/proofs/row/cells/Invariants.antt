use Rattle.std.proofs.Common.{◌≡◌, ◌-◌, [], take, length}
use Rattle.rv_reader.specs.Rows.{cells_from}
use Rattle.rv_reader.proofs.row.cells.Given as goal

abbrev pub invariant-loop-k : goal.invariant-loop-k
invariant-loop-k l = record {
  rest : cells_from l.count l.stages [] l.text ≡ cells_from l.count (l.stages - l.k) (take l.k l.cells) l.left;
  five : length l.cells ≡ 5;
}
