use Rattle.std.proofs.Common.{◌<◌, arith}
use Rattle.std.specs.Prelude.{sum}
use Rattle.ix_solve.specs.Search.{IsRound}
use Rattle.ix_solve.proofs.Lifts.{reach_cap}
use Rattle.ix_solve.proofs.relax.settle.Goals as goal

pub rounds-smaller : goal.rounds-smaller
rounds-smaller c =
    let old = c.rounds.search in
    let s = c.relax_all.new.search in
    let net = c.args.network.now in
    let b = reach_cap net.root s.source 255 510 net.arcs.items s.reach.items s.last.items s.log.items c.in_ok-relax_all.ensures.search.0 in
    let h : IsRound net old s c.in_ok-relax_all.field-0 = c.in_ok-relax_all.ensures.round in
    let up : sum old.reach.items < sum s.reach.items = rw c.in-Raised.is at h in
    omega (arith, b)
