use Rattle.std.proofs.Common.{refl, codes, subst}
use Rattle.ix_diagnose.specs.Refusals.{before}
use Rattle.ix_diagnose.specs.Findings.{IsStatus}
use Rattle.ix_diagnose.proofs.WordLemmas.{word_of, is_named}
use Rattle.ix_diagnose.proofs.words.refused_in.Goals as goal

pub returns-then-eq : goal.returns-then-eq
returns-then-eq c status rest w e =
    let parts = c.cut.ensures.first (codes "refused") (before status rest) (word_of (codes "refused") refl) e in
    let both = c.cut-then-eq.ensures.first status rest w parts.1 in
    (subst (λ word. IsStatus word c.status_of.result) both.0 c.status_of.ensures, both.1)

pub returns : goal.returns
returns c status rest w e =
    let parts = c.cut.ensures.first (codes "refused") (before status rest) (word_of (codes "refused") refl) e in
    is_named (codes "refused") c.cut.result.0.now c.eq.result c.eq.ensures parts.0 refl c.if-eq.false
