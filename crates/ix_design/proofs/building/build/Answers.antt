use Rattle.std.proofs.Common.{◌∙◌, subst}
use Rattle.std.proofs.lemmas.Result.{IfOk-weaker}
use Rattle.ix_extension.specs.Extensions.{view_extension}
use Rattle.ix_standing.specs.Standing.{AreBuilt}
use Rattle.ix_design.specs.Building.{AreBuiltInTurn}
use Rattle.ix_design.proofs.Turns.{are_built}
use Rattle.ix_design.proofs.building.build.Goals as goal

pub returns-clause-built : goal.returns-clause-built
returns-clause-built c =
    let x = view_extension c.args.ext.now in
    let sheet = c.args.sheet.now in
    IfOk-weaker c.built_each.result (λ b. AreBuiltInTurn x sheet c.as_slice.result.now b.plans b.nets) (λ b. AreBuilt x sheet b.plans b.nets)
    (λ b h. are_built x sheet b.plans b.nets (subst (λ l. AreBuiltInTurn x sheet l b.plans b.nets) (c.as_slice.ensures ∙ c.in_ok-list.ensures.list) h))
    c.built_each.ensures.built
