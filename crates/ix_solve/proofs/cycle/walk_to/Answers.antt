use Rattle.std.proofs.Common.{arith}
use Rattle.std.proofs.lemmas.List.{get_or_read}
use Rattle.ix_solve.specs.Search.{no_step}
use Rattle.ix_solve.proofs.Walks.{walk_more_at}
use Rattle.ix_solve.proofs.cycle.walk_to.Goals as goal

pub back-preserved : goal.back-preserved
back-preserved c =
    let s = c.args.search.now in
    let w = c.back.invariant in
    let x = get_or_read s.log.items c.back.at c.index-step.result.now w.within c.index-step.ensures no_step in
    walk_more_at c.args.network.now.root s.source 255 510 c.args.network.now.arcs.items s.reach.items s.last.items s.log.items c.args.node _ c.back.at c.back.walk.items _ _
    c.requires.search (omega arith) w x c.in_ok-push.ensures.items
