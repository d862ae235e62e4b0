use Rattle.ix_vform.proofs.Named.{role_declared}
use Rattle.ix_vform.proofs.scope.is_operand.Goals as goal

pub returns-in-Some : goal.returns-in-Some
returns-in-Some c = (
  (λ t. record { named = c.in-Some.ensures.0; declared_so = role_declared c.args.opened.now c.args.word.now c.in-Some.field-0 c.in-Some.ensures.1 }),
  λ o. cc,
)

pub returns-in-None : goal.returns-in-None
returns-in-None c = ((λ t. absurd (cc)), λ o. absurd (c.in-None.ensures o.named o.declared_so))
