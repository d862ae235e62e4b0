use Rattle.std.proofs.Common.{refl}
use Rattle.ix_vform.proofs.Texts.{highest_from}
use Rattle.ix_vform.proofs.slot.is_highest.Goals as goal

pub returns-in-Some : goal.returns-in-Some
returns-in-Some c = ((λ t. highest_from c.args.word.now c.in-Some.field-0 c.in-Some.ensures.0 c.in-Some.ensures.1), λ h. refl)
