use Rattle.rv_ports.proofs.FeedLaws.{feeds_are}
use Rattle.rv_ports.proofs.feeds.feeds_of.Goals as goal

pub returns : goal.returns
returns c = feeds_are c.args.shape.now c.args.plan.now c.in_ok-feeds.feeds.items c.in_ok-feeds.ensures
