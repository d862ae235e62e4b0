use Rattle.std.proofs.Common.{◌≡◌, drop}
use Rattle.ix_residual.specs.Residuals.{room}
use Rattle.ix_residual.proofs.moves.room.Given as goal

abbrev pub invariant-steps : goal.invariant-steps
invariant-steps l = room l.amounts l.least (drop l.place-index l.steps) ≡ room l.amounts l.most l.steps
