use Rattle.ix_cert.proofs.Wordings.{no_dep}
use Rattle.ix_lines.specs.Readings.{texts}
use Rattle.ix_cert.proofs.fields.dep.Goals as goal

pub returns-in-None : goal.returns-in-None
returns-in-None c = no_dep (texts c.args.words.now) c.in-None.ensures
