use Rattle.rv_watch.proofs.SeenMore.{none_seen}
use Rattle.rv_watch.proofs.seeing.nothing_seen.Goals as goal

pub returns : goal.returns
returns c = λ k. none_seen k c.new.result.items c.new.ensures.items
