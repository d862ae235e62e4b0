use Rattle.std.proofs.Common.{◌≡◌, ◌++◌, ◌∷◌, [], arith}
use Rattle.std.proofs.lemmas.Grind.{common_steps}
use Rattle.ix_extension.specs.Extensions.{view_extension}
use Rattle.ix_design.proofs.Turns.{built_more, refused_next}
use Rattle.ix_design.proofs.building.built_each.Goals as goal

pub returns-in-Err-clause-refused : goal.returns-in-Err-clause-refused
returns-in-Err-clause-refused c =
    refused_next (view_extension c.args.ext.now) c.args.sheet.now c.args.list.now c.loop-which.plans c.loop-which.nets c.loop-which.which-index _ c.in-Err.error c.requires.sheet c.loop-which-test.true c.loop-which.invariant c.in-Err.ensures.refused

pub loop-which-preserved : goal.loop-which-preserved
loop-which-preserved c =
    let plans : c.push.new.self ≡ c.loop-which.plans ++ c.in-Ok.plan ∷ [] = grind (arith, common_steps) in
    let nets : c.push-in-Ok.new.self ≡ c.loop-which.nets ++ c.in-Ok.net ∷ [] = grind (arith, common_steps) in
    built_more (view_extension c.args.ext.now) c.args.sheet.now c.args.list.now c.loop-which.plans c.push.new.self c.loop-which.nets c.push-in-Ok.new.self c.loop-which.which-index _ c.in-Ok.plan c.in-Ok.net c.loop-which-test.true c.loop-which.invariant
    (rw (c.in-Ok.plan-is, c.in-Ok.net-is) at c.in-Ok.ensures.built) plans nets
