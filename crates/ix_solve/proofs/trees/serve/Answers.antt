use Rattle.std.proofs.Common.{ℕ, get_or, arith}
use Rattle.ix_solve.specs.State.{LeadsTo}
use Rattle.ix_solve.proofs.Meeting.{open_can, open_after}
use Rattle.ix_solve.proofs.trees.serve.Goals as goal
use Rattle.ix_solve.proofs.trees.serve.Goals.{in-Some+in_ok-push, in_default}

pub augment-requires : goal.augment-requires
augment-requires c =
    let t : ℕ → ℕ = λ v. get_or c.args.times.now v 0 in
    let l : LeadsTo c.args.network.now t c.targets.residual c.targets.target c.in-Some.path = rw c.in-Some.is at c.in_ok-path.ensures in
    open_can c.args.p.now c.args.residual.now.bounds c.args.network.now t c.targets.residual c.targets.paths l.source c.targets.target c.in-Some.path c.requires.valid c.requires.of c.targets.invariant.way l.is

pub targets-preserved : goal.targets-preserved
targets-preserved c =
    let h = c.targets.invariant in
    let t : ℕ → ℕ = λ v. get_or c.args.times.now v 0 in
    elim c.match-branch-2.branch [
      | in-Some+in_ok-push w ↦
          (let l : LeadsTo c.args.network.now t c.targets.residual c.targets.target w.in-Some.path = rw w.in-Some.is at c.in_ok-path.ensures in
          let after = open_after c.args.p.now c.args.residual.now.bounds c.args.network.now t c.targets.residual w.augment.new.self c.targets.paths w.push.new.self l.source c.targets.target w.in-Some.path
          c.requires.valid c.requires.of h.way l.is w.augment.ensures w.in_ok-push.ensures.ok in
          rw (w.residual-is, w.paths-is) (record { way = after.0; less = omega (arith, after.1, h.less); moved = λ e. omega (arith, after.1, h.less) }))
      | in_default w ↦ rw (w.residual-is, w.paths-is, w.moved-is) h
    ]
