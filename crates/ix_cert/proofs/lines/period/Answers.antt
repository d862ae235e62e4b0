use Rattle.ix_cert.proofs.Wordings.{no_period}
use Rattle.ix_lines.specs.Readings.{texts}
use Rattle.ix_cert.proofs.lines.period.Goals as goal

pub returns-then-period-eq0 : goal.returns-then-period-eq0
returns-then-period-eq0 c = no_period c.in-Some.period (texts c.args.words.now) (texts c.in-Some.rest.now) c.if-period-eq0.true c.in-Some.ensures.1
