use Rattle.std.proofs.Common.{◌≡◌, arith}
use Rattle.ix_solve.proofs.Starts.{begun_root}
use Rattle.ix_solve.proofs.search.start.Goals as goal

pub returns-clause-search : goal.returns-clause-search
returns-clause-search c =
    let l = c.loop-node in
    let st = l.begun in
    let net = c.args.network.now in
    let end : l.node ≡ net.root = omega arith in
    begun_root net.root c.args.source 255 510 st.hub st.at net.arcs.items st.reach.items st.last.items st.log.items _ _
    (rw (end, c.as_slice-arcs.ensures.value) at l.invariant) c.requires.inside (omega arith) c.in_ok-push.ensures.items c.in_ok-push-2.ensures.items
