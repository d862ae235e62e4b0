use Rattle.std.proofs.Common.{◌≡◌, ◌++◌}
use Rattle.ix_cert.specs.Layout.{op_lines}
use Rattle.ix_lines.specs.Lines.{text_of}
use Rattle.ix_cert.proofs.Printed.{ops_from}
use Rattle.ix_cert.proofs.print.put_ops.Given as goal

abbrev pub invariant-loop-place : goal.invariant-loop-place
invariant-loop-place l = record {
  so_far : l.out.items ++ text_of (ops_from l.weighted l.block l.block.mode l.place) ≡ l.initial.out.items ++ text_of (op_lines l.weighted l.block l.block.mode);
  block : l.block ≡ l.initial.block;
}
