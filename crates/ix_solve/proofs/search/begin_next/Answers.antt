use Rattle.std.proofs.Common.{refl, arith}
use Rattle.ix_solve.specs.Search.{arc_at}
use Rattle.ix_solve.proofs.Starts.{begun_next}
use Rattle.ix_solve.proofs.search.begin_next.Goals as goal

pub returns : goal.returns
returns c =
    let st = c.args.begun.now in
    begun_next c.args.root c.args.source 255 510 st.hub st.at c.args.arcs.now c.args.node st.reach.items st.last.items st.log.items _ _ _ (arc_at c.args.arcs.now c.args.node) _ _
    c.requires.begun c.requires.framed c.requires.inside c.if-node-source.false refl refl (omega arith)
    (omega (arith, c.len-count.ensures, st.log.ok.0)) c.in_ok-push-3.ensures.items c.in_ok-push-4.ensures.items c.in_ok-push-5.ensures.items
