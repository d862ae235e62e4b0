use Rattle.std.proofs.Common.{◌+◌, refl, arith, ◌<◌}
use Rattle.ix_solve.specs.Search.{arc_at}
use Rattle.ix_solve.proofs.Starts.{begun_two}
use Rattle.ix_solve.proofs.search.begin.Goals as goal

pub returns : goal.returns
returns c =
    let b : c.args.source < c.args.root = omega (arith, c.requires.inside, c.if-source-root.false) in
    rw (c.in_ok-push-2.ensures.items, c.in_ok-push.ensures.items, c.new-log.ensures.items, c.new-2.ensures.items, c.new-3.ensures.items)
    (begun_two c.args.root c.args.source c.args.arcs.now (arc_at c.args.arcs.now (c.args.root + c.args.source)) _ c.requires.framed b refl refl)
