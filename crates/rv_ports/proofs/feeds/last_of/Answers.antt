use Rattle.std.proofs.Common.{arith}
use Rattle.rv_ports.proofs.FeedLaws.{rd_le_last}
use Rattle.rv_ports.proofs.feeds.last_of.Goals as goal

pub loop-time-init : goal.loop-time-init
loop-time-init c = (let h = rd_le_last c.args.rd c.args.times.now in record { low = omega arith; whole = omega arith })
