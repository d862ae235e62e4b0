use Rattle.std.proofs.Common.{◌∙◌, sym, ◌++◌, [], Bool, subst}
use Rattle.std.specs.Prelude.{if◌then◌else◌}
use Rattle.ix_plan.specs.declared.design.Target.TheVariants.{Custom}
use Rattle.rv_text.specs.RunText.{outstanding_line}
use Rattle.rv_ending.specs.Differing.{IsCompared}
use Rattle.rv_ending.proofs.state.custom.Goals as goal

pub returns-then-is_spawned-clause-compared : goal.returns-then-is_spawned-clause-compared
returns-then-is_spawned-clause-compared c = λ first so_far is.
    subst (λ (b : Bool). IsCompared first c.args.text.now (so_far ++ (if b then outstanding_line (c.args.one.now.serial, Custom c.args.number) else [])) c.target.result)
    (sym (sym c.is_spawned.ensures ∙ c.if-is_spawned.true)) (c.target.ensures.compared first so_far is)
