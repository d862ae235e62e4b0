use Rattle.ix_cert.proofs.Wordings.{no_width}
use Rattle.ix_lines.specs.Readings.{texts}
use Rattle.ix_cert.proofs.fields.width.Goals as goal

pub returns-then-weight-eq0 : goal.returns-then-weight-eq0
returns-then-weight-eq0 c = no_width c.in-Some.weight (texts c.args.words.now) (texts c.in-Some.rest.now) c.if-weight-eq0.true c.in-Some.ensures.1
