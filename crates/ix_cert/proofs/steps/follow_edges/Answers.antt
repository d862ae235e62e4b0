use Rattle.std.proofs.Common.{◌≡◌, ◌<◌, ℕ, length, slice_index_or, List}
use Rattle.ix_cert.specs.Faults.{times_of}
use Rattle.ix_cert.specs.Checks.{joins_edge}
use Rattle.ix_cert.proofs.steps.follow_edges.Goals as goal
use Rattle.std.proofs.Common.{◌∙◌, ap, sym, arith}
use Rattle.ix_cert.proofs.Paths.{step_over, step_along_it}
use Rattle.ix_cert.proofs.steps.follow_edges.Goals.{then-joins, else-joins}

pub edges-preserved : goal.edges-preserved
edges-preserved c =
    let p = c.args.b.now.problem in
    let t = times_of c.args.b.now in
    let edges : c.as_slice-edges.result.now ≡ p.edges = c.as_slice-edges.ensures in
    let size : length c.as_slice-edges.result.now ≡ length p.edges = ap (λ (xs : List (ℕ × ℕ)). length xs) edges in
    let inside : c.edges.at < length p.edges = omega (arith, c.edges-test.true, size) in
    let edge : slice_index_or c.as_slice-edges.result.now c.edges.at (0, 0) ≡ slice_index_or p.edges c.edges.at (0, 0) =
    ap (λ (xs : List (ℕ × ℕ)). slice_index_or xs c.edges.at (0, 0)) edges
    in
    elim c.if-joins.branch [
      | then-joins w ↦
          step_along_it p t c.edges.at w.longer.result (slice_index_or c.as_slice-edges.result.now c.edges.at (0, 0)) c.edges.reach c.if-joins.reach c.requires.valid c.requires.ordered inside edge
          (sym c.joins.ensures ∙ w.if-joins.true) w.longer.ensures.small w.longer.ensures.is w.reach-is c.edges.invariant
      | else-joins w ↦
          step_over p t c.edges.at c.edges.reach c.if-joins.reach (ap (joins_edge p t) (sym edge) ∙ sym c.joins.ensures ∙ w.if-joins.false) w.reach-is c.edges.invariant
    ]
