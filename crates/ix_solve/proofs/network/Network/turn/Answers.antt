use Rattle.std.proofs.Common.{◌<◌, refl, arith}
use Rattle.std.proofs.lemmas.List.{get_or_read}
use Rattle.ix_solve.specs.Search.{no_arc}
use Rattle.ix_solve.proofs.Turning.{turning_none, turning_some, turned_network}
use Rattle.ix_solve.proofs.network.Network.turn.Goals as goal
use Rattle.ix_solve.proofs.network.Network.turn.Goals.{then-amounts-place-gt0+in_ok-push+in_ok-push-2, else-amounts-place-gt0}

pub bounds-preserved : goal.bounds-preserved
bounds-preserved c =
    let l = c.bounds in
    let h = l.invariant.turning in
    let m = c.args.self.now.bounds in
    let within : l.place < m = omega (arith, c.requires.same) in
    elim c.if-amounts-place-gt0.branch [
      | then-amounts-place-gt0+in_ok-push+in_ok-push-2 w ↦
          (let x = get_or_read l.self.arcs.items l.place w.index.result.now (omega (arith, h.len)) w.index.ensures no_arc in
          rw w.self-is (record {
            root = l.invariant.root;
            bounds = l.invariant.bounds;
            turning = turning_some m _ c.args.amounts.now l.self.arcs.items _ l.self.back.items _ _ l.place _ h within w.if-amounts-place-gt0.true (rw x at w.turned-arc.ensures) w.in_ok-push.ensures.items refl w.in_ok-push-2.ensures.items;
          }))
      | else-amounts-place-gt0 w ↦
          rw w.self-is (record { root = l.invariant.root; bounds = l.invariant.bounds; turning = turning_none m _ c.args.amounts.now l.self.arcs.items l.self.back.items l.place h (omega (arith, w.if-amounts-place-gt0.false)) })
    ]

pub returns-clause-network : goal.returns-clause-network
returns-clause-network c =
    let l = c.bounds in
    turned_network c.args.self.now l.self c.args.amounts.now l.place c.requires.network l.invariant.turning (omega arith) c.requires.same l.invariant.root l.invariant.bounds
