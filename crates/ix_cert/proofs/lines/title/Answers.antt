use Rattle.ix_cert.proofs.Wordings.{no_title}
use Rattle.ix_lines.specs.Readings.{texts}
use Rattle.ix_cert.proofs.lines.title.Goals as goal

pub returns-then-version-eq0 : goal.returns-then-version-eq0
returns-then-version-eq0 c = no_title c.in-Some.version (texts c.args.words.now) (texts c.in-Some.rest.now) c.if-version-eq0.true c.in-Some.ensures.1
