use Rattle.rv_pipe.proofs.Nths.{nth_newest}
use Rattle.rv_pipe.proofs.outstanding.+nth_owed.Goals as goal

pub returns-in-Ok-nth_target : goal.returns-in-Ok-nth_target
returns-in-Ok-nth_target t c = nth_newest c.args.owed.now c.newest-item.result c.args.k c.in-Err.past c.in-Ok-nth_target.target c.in-len1-up.len_at_least c.newest-item.is c.in-Err.ensures c.in-Ok-nth_target.ensures
