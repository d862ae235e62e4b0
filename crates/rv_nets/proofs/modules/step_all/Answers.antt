use Rattle.std.proofs.Common.{arith}
use Rattle.rv_nets.proofs.Making.{stepped_all}
use Rattle.rv_nets.proofs.modules.step_all.Goals as goal

pub returns : goal.returns
returns c =
    let long = c.loop-number.auto.drivers in
    let last = c.loop-number-test.false in
    stepped_all c.args.shown.now c.args.drivers.now c.loop-number.drivers c.loop-number.number (omega (arith, long, last)) c.loop-number.invariant
