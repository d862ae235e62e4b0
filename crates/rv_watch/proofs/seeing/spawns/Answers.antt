use Rattle.rv_watch.proofs.Asking.{asked}
use Rattle.rv_watch.proofs.seeing.spawns.Goals as goal

pub returns : goal.returns
returns c = λ k earlier row plain going moves are. asked c.row_facts.ensures k earlier row plain going moves c.args.seen.now are c.args.serial c.is_spawning.result c.is_spawning.ensures
