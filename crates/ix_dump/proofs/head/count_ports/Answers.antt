use Rattle.std.proofs.Common.{◌≡◌, ◌≤◌, length, Some, refl, arith}
use Rattle.std.specs.Prelude.{slice_get}
use Rattle.std.proofs.lemmas.Option.{slice_get_read}
use Rattle.ix_dump.proofs.Lists.{count_next, count_end}
use Rattle.ix_dump.proofs.head.count_ports.Goals as goal

pub loop-net-preserved : goal.loop-net-preserved
loop-net-preserved c =
    let i = c.loop-net.net-index in
    let nets = c.args.nets.now in
    let at : slice_get nets i ≡ Some c.net-item.result = slice_get_read nets (length nets) i c.net-item.result refl (omega arith) c.net-item.is in
    omega (arith, c.loop-net.invariant, count_next c.loop-net.count i nets c.net-item.result at, c.in-Some.ensures)

pub returns-in-None : goal.returns-in-None
returns-in-None c =
    let i = c.loop-net.net-index in
    let nets = c.args.nets.now in
    let at : slice_get nets i ≡ Some c.net-item.result = slice_get_read nets (length nets) i c.net-item.result refl (omega arith) c.net-item.is in
    omega (arith, c.loop-net.invariant, count_next c.loop-net.count i nets c.net-item.result at, c.in-None.ensures)

pub returns : goal.returns
returns c =
    let past : length c.args.nets.now ≤ c.loop-net.net-index = omega arith in
    omega (arith, c.loop-net.invariant, count_end c.loop-net.net-index c.args.nets.now past)
