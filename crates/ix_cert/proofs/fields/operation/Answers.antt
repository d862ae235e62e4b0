use Rattle.ix_cert.proofs.KindNames.{kind_short}
use Rattle.ix_cert.proofs.fields.operation.Goals as goal

pub name-requires-clause-short : goal.name-requires-clause-short
name-requires-clause-short c = (kind_short c.in-Some-parted.kind.now c.if-not-is_kind.ensures).1

pub name-requires-clause-text : goal.name-requires-clause-text
name-requires-clause-text c = (kind_short c.in-Some-parted.kind.now c.if-not-is_kind.ensures).0
