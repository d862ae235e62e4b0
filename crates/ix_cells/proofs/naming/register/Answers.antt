use Rattle.std.proofs.Common.{◌≤◌, length, arith, length-append}
use Rattle.std.specs.Fmt.{decimal}
use Rattle.ix_cells.proofs.Names.{decimal_short}
use Rattle.ix_cells.proofs.naming.register.Goals as goal

pub from_text-requires : goal.from_text-requires
from_text-requires c =
    let digits : length (decimal c.args.number) ≤ 20 = decimal_short c.args.number (omega arith) in
    let more : length (decimal c.args.time) ≤ 20 = decimal_short c.args.time (omega arith) in
    rw (c.as_str.ensures.value, c.in_ok-text.ensures.ok) (simp length-append (omega arith))
