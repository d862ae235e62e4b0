use Rattle.std.proofs.Common.{◌≤◌, length, arith, length-append}
use Rattle.std.proofs.lemmas.Fmt.{length-decimal-le}
use Rattle.std.specs.Fmt.{decimal}
use Rattle.ix_graph.proofs.kind.numbered.Goals as goal

pub from_text-requires : goal.from_text-requires
from_text-requires c =
    let digits : length (decimal c.args.number) ≤ 3 = length-decimal-le 3 c.args.number (omega arith) (omega arith) (omega arith) in
    rw (c.as_str.ensures.value, c.in_ok-text.ensures.ok, length-append) (omega arith)

pub returns : goal.returns
returns c = rw (← c.in_ok-text.ensures.ok, ← c.as_str.ensures.value) c.from_text.ensures
