use Rattle.rv_watch.proofs.watch.first_steps.Goals as goal

pub loop-init : goal.loop-init
loop-init c = (c.requires.scratch, c.in_ok-steps.ensures.steps c.args.against.now.image.now, c.in_ok-steps.ensures.none)
