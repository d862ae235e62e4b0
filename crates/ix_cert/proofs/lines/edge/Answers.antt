use Rattle.ix_cert.proofs.Wordings.{no_edge}
use Rattle.ix_lines.specs.Readings.{texts}
use Rattle.ix_cert.proofs.lines.edge.Goals as goal

pub returns-in-None : goal.returns-in-None
returns-in-None c = no_edge (texts c.args.words.now) c.in-None.ensures
