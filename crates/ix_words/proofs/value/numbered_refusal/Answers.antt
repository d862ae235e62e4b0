use Rattle.std.proofs.Common.{◌∙◌, ◌++◌, refl, ap}
use Rattle.std.specs.Prelude.{codes, decimal}
use Rattle.ix_words.proofs.Judging.{line_joined}
use Rattle.ix_words.proofs.value.numbered_refusal.Goals as goal

pub returns-in-Ok : goal.returns-in-Ok
returns-in-Ok c = (refl, c.in-Ok.ensures.ok ∙ ap (λ l. codes "refused " ++ l) (line_joined c.args.kind.now (decimal c.args.number)))
