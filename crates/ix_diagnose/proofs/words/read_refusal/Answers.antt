use Rattle.std.proofs.Common.{lit<, sym, ◌∙◌, Some, None, codes}
use Rattle.std.proofs.lemmas.Str.Pattern.{strip_suffix_char}
use Rattle.ix_diagnose.specs.Refusals.{before}
use Rattle.ix_diagnose.proofs.WordLemmas.{body_is}
use Rattle.ix_diagnose.proofs.words.read_refusal.Goals as goal

pub returns-in-None : goal.returns-in-None
returns-in-None c status rest w e = absurd (strip_suffix_char 10 c.args.line.now None c.in-None.ensures.cases (lit< tt) (before (codes "refused") (before status rest)) e)

pub returns-in-Some : goal.returns-in-Some
returns-in-Some c status rest w e =
    let ends = strip_suffix_char 10 c.args.line.now (Some c.in-Some.body) c.in-Some.ensures.cases (lit< tt) in
    c.refused_in.ensures status rest w (body_is c.in-Some.body.now status rest (sym e ∙ ends))
