use Rattle.std.proofs.Common.{◌≡◌, ◌++◌, map, filter}
use Rattle.std.specs.List.{range_with_len, list_any}
use Rattle.ix_sheet.specs.Behaviours.{names_op}
use Rattle.ix_problem.proofs.problem.push_edges_into.Given as goal

abbrev pub invariant-starts : goal.invariant-starts
invariant-starts l = l.edges ≡ l.initial.edges ++ map (λ i. (i, l.to)) (filter (λ i. list_any (names_op i) l.op.args) (range_with_len 0 l.from))
