use Rattle.std.proofs.Common.{◌≡◌, ◌++◌, ◌∷◌, [], arith}
use Rattle.std.proofs.lemmas.Grind.{common_steps}
use Rattle.ix_extension.specs.Extensions.{view_extension}
use Rattle.ix_schedules.proofs.Turns.{reported_more, refused_next}
use Rattle.ix_schedules.proofs.scheduling.blocks_of.Goals as goal

pub returns-in-Err-clause-refused : goal.returns-in-Err-clause-refused
returns-in-Err-clause-refused c =
    refused_next (view_extension c.args.ext.now) c.args.sheet.now c.args.list.now c.loop-which.blocks c.loop-which.which-index _ c.in-Err.error c.loop-which-test.true c.loop-which.invariant c.in-Err.ensures.refused

pub loop-which-preserved : goal.loop-which-preserved
loop-which-preserved c =
    let pushed : c.push.new.self ≡ c.loop-which.blocks ++ c.in-Ok.block ∷ [] = grind (arith, common_steps) in
    reported_more (view_extension c.args.ext.now) c.args.sheet.now c.args.list.now c.loop-which.blocks c.push.new.self c.loop-which.which-index _ c.in-Ok.block c.loop-which-test.true c.loop-which.invariant c.in-Ok.ensures.reported pushed
