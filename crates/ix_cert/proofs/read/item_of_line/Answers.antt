use Rattle.std.proofs.Common.{ap, ◌∙◌}
use Rattle.ix_lines.specs.Readings.{texts}
use Rattle.ix_cert.proofs.Shown.{line_read_ok}
use Rattle.ix_cert.proofs.read.item_of_line.Goals as goal

pub returns : goal.returns
returns c = line_read_ok c.item_of.result c.args.line.now (texts c.as_slice.result.now) (ap texts c.as_slice.ensures.value ∙ c.in-Ok.ensures) c.item_of.ensures
