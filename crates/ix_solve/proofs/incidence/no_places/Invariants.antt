use Rattle.std.proofs.Common.{◌≡◌, ◌<◌, length}
use Rattle.std.specs.Prelude.{All}
use Rattle.ix_solve.proofs.incidence.no_places.Given as goal

abbrev pub invariant-nodes : goal.invariant-nodes
invariant-nodes l = (length l.lists.items ≡ l.counter) × All (All (λ k. k < l.network.bounds)) l.lists.items
