use Rattle.std.proofs.Common.{arith, refl}
use Rattle.ix_solve.proofs.Forests.{entries_begun, entries_none, entries_start}
use Rattle.ix_solve.proofs.forest.begin.Goals as goal
use Rattle.ix_solve.proofs.forest.begin.Goals.{then-left-node-lt0+in_ok-push+in_ok-push-2, else-left-node-lt0+in_ok-push-3}

pub nodes-init : goal.nodes-init
nodes-init c = entries_start _ _ c.new-log.ensures.items c.new-entries.ensures.items

pub nodes-preserved : goal.nodes-preserved
nodes-preserved c =
    let l = c.nodes in
    elim c.if-left-node-lt0.branch [
      | then-left-node-lt0+in_ok-push+in_ok-push-2 w ↦
          rw (w.log-is, w.entries-is) (entries_begun l.node l.log.items _ l.entries.items _ _ _ l.invariant refl w.in_ok-push-2.ensures.items (omega (arith, w.len.ensures, l.log.ok.0)) w.in_ok-push.ensures.items)
      | else-left-node-lt0+in_ok-push-3 w ↦ rw (w.log-is, w.entries-is) (entries_none l.node l.log.items l.entries.items _ l.invariant w.in_ok-push-3.ensures.items)
    ]
