use Rattle.ix_vread.proofs.Places.{then_once, then_written, then_told}
use Rattle.ix_vread.proofs.sources.sources_of.Goals as goal

pub returns-in-Ok-clause-written : goal.returns-in-Ok-clause-written
returns-in-Ok-clause-written c = then_written c.args.bytes.now c.in-Ok.modules c.once.result c.in-Ok.ensures.written c.once.ensures.same

pub returns-in-Ok-clause-once : goal.returns-in-Ok-clause-once
returns-in-Ok-clause-once c = then_once c.in-Ok.modules c.once.result c.once.ensures.same

pub returns-in-Ok-clause-refused : goal.returns-in-Ok-clause-refused
returns-in-Ok-clause-refused c = then_told c.args.bytes.now c.in-Ok.modules c.once.result c.in-Ok.ensures.written c.once.ensures.twice
