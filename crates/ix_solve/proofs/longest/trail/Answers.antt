use Rattle.std.proofs.Common.{arith}
use Rattle.std.proofs.lemmas.List.{get_or_read}
use Rattle.ix_solve.specs.Search.{no_step}
use Rattle.ix_solve.proofs.Trails.{trail_more_at}
use Rattle.ix_solve.proofs.longest.trail.Goals as goal

pub back-preserved : goal.back-preserved
back-preserved c =
    let s = c.args.search.now in
    let w = c.back.invariant in
    let x = get_or_read s.log.items c.back.at c.index.result.now w.within c.index.ensures no_step in
    trail_more_at c.args.network.now.root s.source 255 510 c.args.network.now.arcs.items s.reach.items s.last.items s.log.items _ c.args.target c.back.at c.back.trail.items _ _
    c.requires.search c.requires.settled c.requires.settled (omega arith) w x c.in_ok-push.ensures.items

pub back-smaller : goal.back-smaller
back-smaller c =
    let s = c.args.search.now in
    let w = c.back.invariant in
    let x = get_or_read s.log.items c.back.at c.index.result.now w.within c.index.ensures no_step in
    let e = c.requires.search.steps c.back.at (omega arith) w.within in
    rw x e.earlier
