use Rattle.rv_waits.proofs.Bounds.{wait_bounded}
use Rattle.rv_waits.proofs.laws.waits_are_bounded.Goals as goal

pub returns : goal.returns
returns c = wait_bounded
