use Rattle.std.proofs.Common.{subst, IfOk, IfErr}
use Rattle.rv_watch.specs.AuditLaws.{IsRight}
use Rattle.rv_audit.specs.Refused.{TellsFault}
use Rattle.rv_audit.proofs.auditing.audit_text.Goals as goal

pub asking_of-requires : goal.asking_of-requires
asking_of-requires c = record { few = (c.sight_laws.ensures.units c.args.design.now c.requires.stands).units.few }

pub audit_read-requires-clause-fits : goal.audit_read-requires-clause-fits
audit_read-requires-clause-fits c = record { stands = c.requires.stands; asking = c.in-Ok-asking_of.ensures.asking }

pub returns-clause-right : goal.returns-clause-right
returns-clause-right c = subst (λ i. IfOk c.audit_read.result (λ x. IsRight c.args.design.now i c.args.waits.now c.args.bytes.now)) c.as_slice.ensures.words c.audit_read.ensures.right

pub returns-clause-refused : goal.returns-clause-refused
returns-clause-refused c = subst (λ i. IfErr c.audit_read.result (TellsFault c.args.design.now i c.args.waits.now c.args.bytes.now)) c.as_slice.ensures.words c.audit_read.ensures.refused

pub returns-in-Err-clause-refused : goal.returns-in-Err-clause-refused
returns-in-Err-clause-refused c = c.in-Err.ensures.refused c.args.image.now c.args.waits.now
