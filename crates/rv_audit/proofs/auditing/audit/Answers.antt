use Rattle.rv_audit.proofs.Causes.{only_memory, refuses_so, not_refused}
use Rattle.rv_audit.proofs.auditing.audit.Goals as goal

pub returns-in-Ok-clause-audited : goal.returns-in-Ok-clause-audited
returns-in-Ok-clause-audited c = c.audit_laws.ensures.sound c.args.design.now c.args.image.now c.args.waits.now c.args.bytes.now c.requires.stands c.in-Ok.ensures.right

pub returns-in-Ok-clause-only : goal.returns-in-Ok-clause-only
returns-in-Ok-clause-only c = λ audited. tt

pub returns-in-Ok-clause-refuses : goal.returns-in-Ok-clause-refuses
returns-in-Ok-clause-refuses c = λ e fault. not_refused c.args.design.now c.args.image.now c.args.waits.now c.args.bytes.now c.requires.short e fault c.in-Ok.ensures.right

pub returns-in-Err-clause-only : goal.returns-in-Err-clause-only
returns-in-Err-clause-only c = λ audited.
    only_memory c.args.design.now c.args.image.now c.args.waits.now c.args.bytes.now c.requires.short c.in-Err.error
    (c.audit_laws.ensures.complete c.args.design.now c.args.image.now c.args.waits.now c.args.bytes.now c.requires.stands c.requires.given c.requires.short audited) c.in-Err.ensures.refused

pub returns-in-Err-clause-refuses : goal.returns-in-Err-clause-refuses
returns-in-Err-clause-refuses c = λ e fault. refuses_so c.args.design.now c.args.image.now c.args.waits.now c.args.bytes.now c.requires.short e c.in-Err.error fault c.in-Err.ensures.refused
