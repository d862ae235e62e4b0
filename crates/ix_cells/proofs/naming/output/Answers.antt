use Rattle.std.proofs.Common.{arith}
use Rattle.ix_cells.proofs.Names.{output_short}
use Rattle.ix_cells.proofs.naming.output.Goals as goal

pub from_text-requires : goal.from_text-requires
from_text-requires c = rw (c.as_str.ensures.value, c.in_ok-text.ensures.ok, c.letter_text-word.ensures) (output_short c.args.number c.args.letter (omega arith))
