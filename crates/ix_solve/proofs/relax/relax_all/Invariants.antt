use Rattle.std.proofs.Common.{◌≡◌}
use Rattle.ix_solve.specs.Search.{IsSearch}
use Rattle.ix_solve.proofs.Rounds.{IsRoundSoFar}
use Rattle.ix_solve.proofs.relax.relax_all.Given as goal

abbrev pub invariant-arcs : goal.invariant-arcs
invariant-arcs l = record {
  search : IsSearch l.network l.search;
  source : l.search.source ≡ l.initial.search.source;
  so_far : IsRoundSoFar l.network.arcs.items l.initial.search.reach.items l.search.reach.items l.grown l.place;
}
