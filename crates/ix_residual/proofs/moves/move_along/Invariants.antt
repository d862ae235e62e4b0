use Rattle.ix_residual.proofs.Moving.{IsMoving}
use Rattle.ix_residual.proofs.moves.move_along.Given as goal

abbrev pub invariant-steps : goal.invariant-steps
invariant-steps l = IsMoving l.initial.amounts l.amounts l.amount l.steps l.place-index
