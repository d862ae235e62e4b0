use Rattle.std.proofs.Common.{refl, arith}
use Rattle.number_cases.proofs.cells.of_table.Goals as goal

pub of_one-requires-clause-typed : goal.of_one-requires-clause-typed
of_one-requires-clause-typed c = (
  c.in_ok-index.index.ty,
  refl,
  (
    c.in_ok-entries.entries.items,
    rw (c.graph_with-graph.ensures, c.in_ok-push.ensures.ok, c.new-tables.ensures, c.from_vec.ensures) refl,
    record { unsigned = c.if-index.false; enough = omega (arith, c.if-len-patterns_of.false, c.len.ensures, c.patterns_of.ensures); entries = c.in_ok-entries.ensures },
  ),
)
