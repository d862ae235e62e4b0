use Rattle.std.proofs.Common.{◌∙◌, ◌++◌, refl, ap}
use Rattle.std.specs.Prelude.{codes, decimal}
use Rattle.ix_cert.specs.Words.{line_number, kind_word}
use Rattle.ix_words.proofs.Judging.{line_joined}
use Rattle.ix_words.proofs.value.report_refusal.Goals as goal

pub returns-in-Ok-clause-line : goal.returns-in-Ok-clause-line
returns-in-Ok-clause-line c =
    let printed = rw (c.line-line.ensures, c.kind-kind.ensures) at c.in-Ok.ensures.ok in
    (refl, printed ∙ ap (λ l. codes "refused Certificate " ++ l) (line_joined (decimal (line_number c.args.error)) (kind_word c.args.error)))
