use Rattle.std.proofs.Common.{◌≡◌, ◌++◌, take}
use Rattle.std.specs.List.{flat_map}
use Rattle.ix_cert.specs.Layout.{block_lines}
use Rattle.ix_cert.specs.Printing.{ArePrintable}
use Rattle.ix_lines.specs.Lines.{text_of}
use Rattle.ix_cert.proofs.print.put_blocks.Given as goal

abbrev pub invariant-loop-block : goal.invariant-loop-block
invariant-loop-block l = record {
  so_far : l.out.items ≡ l.initial.out.items ++ flat_map (λ b. text_of (block_lines l.weighted b)) (take l.block-index l.blocks);
  printable : ArePrintable l.blocks;
}
