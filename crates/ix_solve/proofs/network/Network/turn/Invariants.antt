use Rattle.std.proofs.Common.{◌≡◌, take}
use Rattle.ix_solve.proofs.Turning.{IsTurning}
use Rattle.ix_solve.proofs.network.Network.turn.Given as goal

abbrev pub invariant-bounds : goal.invariant-bounds
invariant-bounds l = record {
  root : l.self.root ≡ l.fn.self.root;
  bounds : l.self.bounds ≡ l.fn.self.bounds;
  turning : IsTurning l.fn.self.bounds (take l.fn.self.bounds l.fn.self.arcs.items) l.amounts l.self.arcs.items l.self.back.items l.place;
}
