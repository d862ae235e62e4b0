use Rattle.std.proofs.Common.{◌≡◌, ◌+◌, ◌-◌, ◌*◌}
use Rattle.std.specs.Prelude.{sum}
use Rattle.ix_solve.specs.Search.{IsSearch}
use Rattle.ix_solve.proofs.relax.settle.Given as goal

abbrev pub invariant-rounds : goal.invariant-rounds
invariant-rounds l = record {
  search : IsSearch l.network l.search;
  source : l.search.source ≡ l.initial.search.source;
}

abbrev pub decreases-rounds : goal.decreases-rounds
decreases-rounds l = (l.network.root + 1) * 510 - sum l.search.reach.items
