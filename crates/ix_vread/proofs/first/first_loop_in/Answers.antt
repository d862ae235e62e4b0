use Rattle.std.proofs.Common.{subst, All}
use Rattle.std.proofs.lemmas.List.{take_all}
use Rattle.std.proofs.lemmas.Option.{MatchOption-at_some}
use Rattle.ix_vread.specs.Loops.{IsLoopless, IsFirstLoop}
use Rattle.ix_vread.proofs.Naming.{first_net}
use Rattle.ix_vread.proofs.first.first_loop_in.Goals as goal

pub returns-in-Some : goal.returns-in-Some
returns-in-Some c =
    let f : IsFirstLoop c.net-item.result c.in-Some.name = MatchOption-at_some (IsLoopless c.net-item.result) (IsFirstLoop c.net-item.result) c.in-Some.name c.in-Some.is c.in_ok-name.ensures in
    first_net c.args.nets.now c.loop-net.net-index c.net-item.result c.in-Some.name c.loop-net-test.true c.net-item.is f c.loop-net.invariant

pub returns : goal.returns
returns c = subst (All IsLoopless) (take_all c.loop-net.net-index c.args.nets.now c.loop-net-test.false) c.loop-net.invariant
