use Rattle.ix_elab.proofs.Unique.{only_memory, refusal_told}
use Rattle.ix_elab.proofs.whole.elaborate.Goals as goal

pub returns-clause-only : goal.returns-clause-only
returns-clause-only c = λ x p. only_memory c.args.bytes.now c.encoded.result x c.encoded.ensures.cause p

pub returns-clause-refuses : goal.returns-clause-refuses
returns-clause-refuses c = λ e q. refusal_told c.args.bytes.now c.encoded.result e c.encoded.ensures.extension c.encoded.ensures.cause q
