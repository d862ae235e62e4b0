use Rattle.std.proofs.Common.{arith}
use Rattle.ix_cert.proofs.Printed.{blocks_all}
use Rattle.ix_cert.proofs.print.put_blocks.Goals as goal

pub returns : goal.returns
returns c = blocks_all c.args.weighted c.args.out.now.items c.loop-block.out.items c.args.blocks.now c.loop-block.block-index c.loop-block.invariant.so_far (omega (arith, c.loop-block-test.false))
