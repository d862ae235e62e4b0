use Rattle.std.proofs.Common.{◌+◌, ◌-◌, arith}
use Rattle.rv_isa.proofs.BitLemmas.{and_ones}
use Rattle.rv_isa.proofs.word.bits.Goals as goal

pub returns : goal.returns
returns c = and_ones c.args.word c.args.low (c.args.high + 1 - c.args.low) (omega arith)
