use Rattle.rv_engine.specs.Settings.{setting}
use Rattle.rv_engine.proofs.Starting.{first_told}
use Rattle.rv_engine.proofs.kept.first_kept.Goals as goal

pub returns-in-Ok-clause-machine : goal.returns-in-Ok-clause-machine
returns-in-Ok-clause-machine c image waits lines h = first_told (setting c.args.design.now image waits lines) c.in-Ok.arch (c.in-Ok.ensures.state lines h) c.in_ok-owing.owing c.in_ok-owing.ensures
