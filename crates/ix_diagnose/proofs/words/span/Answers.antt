use Rattle.std.proofs.Common.{sym, ◌∙◌, decimal}
use Rattle.ix_diagnose.proofs.WordLemmas.{decimal_word, one_place, no_number}
use Rattle.ix_diagnose.proofs.words.span.Goals as goal

pub returns-in-None : goal.returns-in-None
returns-in-None c from to low high e =
    let parts = c.cut.ensures.first (decimal from) (decimal to) (decimal_word from low) e in
    absurd (no_number from (sym c.in-None.is ∙ c.number.ensures from low parts.0))

pub returns-in-None-number : goal.returns-in-None-number
returns-in-None-number c from to low high e =
    let parts = c.cut.ensures.first (decimal from) (decimal to) (decimal_word from low) e in
    absurd (no_number to (sym c.in-None-number.is ∙ c.number-in-Some.ensures to high parts.1))

pub returns-in-Some-number : goal.returns-in-Some-number
returns-in-Some-number c from to low high e =
    let parts = c.cut.ensures.first (decimal from) (decimal to) (decimal_word from low) e in
    one_place c.in-Some.from c.in-Some-number.to from to (sym c.in-Some.is ∙ c.number.ensures from low parts.0) (sym c.in-Some-number.is ∙ c.number-in-Some.ensures to high parts.1)
