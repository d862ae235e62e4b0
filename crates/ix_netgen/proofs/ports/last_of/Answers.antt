use Rattle.std.proofs.Common.{arith}
use Rattle.ix_netgen.proofs.PortLemmas.{rd_le_last}
use Rattle.ix_netgen.proofs.ports.last_of.Goals as goal

pub loop-time-init : goal.loop-time-init
loop-time-init c = (let h = rd_le_last c.args.rd c.args.times.now in record { low = omega arith; whole = omega arith })
