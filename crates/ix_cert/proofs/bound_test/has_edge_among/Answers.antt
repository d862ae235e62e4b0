use Rattle.std.proofs.Common.{ℕ, ◌+◌, ◌-◌, ◌/◌}
use Rattle.ix_cert.proofs.bound_test.has_edge_among.Goals as goal
use Rattle.std.proofs.Common.{sym, arith}
use Rattle.ix_cert.proofs.EdgeLists.{before_from, has_found, not_found, up_to, from_on, nowhere}

abbrev middle_of : ℕ → ℕ → ℕ
middle_of low high = low + (high - low) / 2

pub returns-then-eq : goal.returns-then-eq
returns-then-eq c =
    has_found c.args.edges.now c.args.edge (middle_of c.halves.low c.halves.high) (omega (arith, c.halves-test.true, c.halves.invariant.1)) c.if-eq.ensures

pub halves-preserved-then-is_before : goal.halves-preserved-then-is_before
halves-preserved-then-is_before c =
    let middle = middle_of c.halves.low c.halves.high in (
      omega (arith, c.halves-test.true),
      c.halves.invariant.1,
      up_to c.args.edges.now c.args.edge middle c.requires (omega (arith, c.halves-test.true, c.halves.invariant.1)) (before_from _ c.args.edge (sym c.if-is_before.ensures)),
      c.halves.invariant.3,
    )

pub halves-preserved : goal.halves-preserved
halves-preserved c =
    let middle = middle_of c.halves.low c.halves.high in (
      omega (arith, c.halves-test.true),
      omega (arith, c.halves-test.true, c.halves.invariant.1),
      c.halves.invariant.2,
      from_on c.args.edges.now c.args.edge middle c.requires (omega (arith, c.halves-test.true, c.halves.invariant.1)) (sym c.if-is_before.ensures) (not_found _ c.args.edge c.if-eq.ensures),
    )

pub returns : goal.returns
returns c = sym (nowhere c.args.edges.now c.args.edge c.halves.low c.halves.high c.halves-test.false c.halves.invariant.2 c.halves.invariant.3)
