use Rattle.std.proofs.Common.{get_or}
use Rattle.ix_solve.specs.Search.{HasReached}
use Rattle.ix_solve.proofs.Starts.{above_root, least_times}
use Rattle.ix_solve.proofs.longest.least_times.Goals as goal

pub times_of-requires-clause-above : goal.times_of-requires-clause-above
times_of-requires-clause-above c =
    let net = c.args.network.now in
    above_root net.root net.arcs.items (λ v. get_or c.in_ok-search.search.reach.items v 0) c.requires.framed c.in_ok-search.ensures.settled

pub returns : goal.returns
returns c =
    let net = c.args.network.now in
    let s = c.in_ok-search.search in
    let e = c.in_ok-search.ensures in
    let h : HasReached net.root net.root 255 510 net.arcs.items s.reach.items s.last.items s.log.items = rw e.search.1 at e.search.0 in
    let times = c.in_ok-times.ensures in
    least_times net.root 255 510 net.arcs.items s.reach.items s.last.items c.in_ok-times.times.items s.log.items h c.requires.framed e.settled times.0 times.1
