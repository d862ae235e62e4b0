use Rattle.std.proofs.Common.{◌∙◌, ◌++◌, refl, ap}
use Rattle.std.specs.Prelude.{codes}
use Rattle.ix_words.proofs.Judging.{line_joined}
use Rattle.ix_words.proofs.value.sheet_refusal_at.Goals as goal

pub returns-in-Ok : goal.returns-in-Ok
returns-in-Ok c = (refl, c.in-Ok.ensures.ok ∙ ap (λ l. codes "refused Sheet " ++ l) (line_joined c.args.kind.now c.args.name.now))
