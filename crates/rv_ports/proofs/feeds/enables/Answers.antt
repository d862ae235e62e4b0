use Rattle.rv_ports.specs.Feeds.{enable_keys}
use Rattle.rv_ports.proofs.FeedLaws.{enables_next}
use Rattle.std.proofs.Common.{arith}
use Rattle.rv_ports.proofs.feeds.enables.Goals as goal

pub loop-time-preserved : goal.loop-time-preserved
loop-time-preserved c =
    enables_next c.loop-time.feeds.items c.push.new.self.items c.enable_at.result (enable_keys c.args.rd c.args.last) c.loop-time.time c.args.last (omega arith)
    c.in_ok-push.ensures.items c.enable_at.ensures c.loop-time.invariant
