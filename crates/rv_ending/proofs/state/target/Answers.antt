use Rattle.std.proofs.Common.{◌≡◌, ◌∙◌, ap, ◌++◌, subst}
use Rattle.std.specs.Prelude.{codes, decimal}
use Rattle.rv_trace.specs.TraceText.{target_text}
use Rattle.rv_text.specs.RunText.{outstanding_line}
use Rattle.rv_ending.specs.Differing.{IsCompared}
use Rattle.rv_ending.proofs.state.target.Goals as goal

pub returns-clause-compared : goal.returns-clause-compared
returns-clause-compared c = λ first so_far is.
    let line : c.text-3.new.self ≡ outstanding_line (c.args.serial, c.args.target) =
    c.text-3.ensures
    ∙ ap (λ l. l ++ codes "\n") (c.put_target.ensures.text
    ∙ ap (λ l. l ++ target_text c.args.target) (c.text-2.ensures
    ∙ ap (λ l. l ++ codes " ") (c.put_number.ensures.text
    ∙ ap (λ l. l ++ decimal c.args.serial) (c.text.ensures
    ∙ ap (λ l. l ++ codes "o ") c.requires.empty)))) in
    subst (λ l. IsCompared first c.args.text.now (so_far ++ l) c.pass.result) line (c.pass.ensures.compared first so_far is)
