use Rattle.std.proofs.Common.{◌≡◌, ◌++◌, ◌∷◌, [], arith}
use Rattle.std.proofs.lemmas.Grind.{common_steps}
use Rattle.ix_extension.specs.Extensions.{view_extension}
use Rattle.ix_sweeps.proofs.Turns.{swept_more, large_next}
use Rattle.ix_sweeps.proofs.sweeping.sweeps_of.Goals as goal

pub returns-in-Err-clause-large : goal.returns-in-Err-clause-large
returns-in-Err-clause-large c =
    large_next (view_extension c.args.ext.now) c.args.sheet.now c.args.list.now c.loop-which.sweeps c.loop-which.which-index _ c.in-Err.error c.loop-which-test.true c.loop-which.invariant c.in-Err.ensures.large

pub loop-which-preserved : goal.loop-which-preserved
loop-which-preserved c =
    let pushed : c.push.new.self ≡ c.loop-which.sweeps ++ c.in-Ok.swept ∷ [] = grind (arith, common_steps) in
    swept_more (view_extension c.args.ext.now) c.args.sheet.now c.args.list.now c.loop-which.sweeps c.push.new.self c.loop-which.which-index _ c.in-Ok.swept c.loop-which-test.true c.loop-which.invariant c.in-Ok.ensures.swept pushed
