use Rattle.std.proofs.Common.{◌++◌, drop}
use Rattle.rv_barrel_text.specs.BarrelRowText.{lines_text, of_each}
use Rattle.rv_barrel_text.proofs.row_writing.write_lines.Goals as goal

pub returns-in-Err-clause-breaks : goal.returns-in-Err-clause-breaks
returns-in-Err-clause-breaks g c = λ rest before whole t.
    c.in-Err.ensures.breaks (of_each lines_text c.loop-hart.hart (drop c.loop-hart.hart c.args.parts.now) ++ rest) before whole (c.loop-hart.invariant.carries rest before whole t)
