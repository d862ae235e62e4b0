use Rattle.std.proofs.Common.{decimal, subst, sym}
use Rattle.std.specs.Prelude.{IsSomeAnd}
use Rattle.ix_diagnose.specs.Findings.{StandsIn}
use Rattle.ix_diagnose.proofs.WordLemmas.{decimal_word}
use Rattle.ix_diagnose.proofs.finding.trace_finding.Goals as goal

pub returns : goal.returns
returns c kind n line e =
    let parts = c.cut.ensures.first (decimal n) kind (decimal_word n line.2) e in
    subst (λ found. IsSomeAnd found (λ p. StandsIn c.args.bytes.now n p.from)) (sym c.at.ensures) (c.line_place-place.ensures n line parts.0)
