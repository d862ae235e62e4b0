use Rattle.ix_cert.proofs.KindNames.{name_short}
use Rattle.ix_cert.proofs.lines.behaviour.Goals as goal

pub name-requires-clause-text : goal.name-requires-clause-text
name-requires-clause-text c = (name_short c.in-Some.first.now c.if-not-is_name.ensures).0
