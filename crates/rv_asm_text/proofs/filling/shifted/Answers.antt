use Rattle.std.proofs.Common.{arith}
use Rattle.rv_asm_text.proofs.Bits.{moved_past}
use Rattle.rv_asm_text.proofs.filling.shifted.Goals as goal

pub returns-then-at-gt31 : goal.returns-then-at-gt31
returns-then-at-gt31 c = moved_past c.args.bits c.args.at (omega arith)
