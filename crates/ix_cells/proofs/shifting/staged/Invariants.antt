use Rattle.std.proofs.Common.{◌%◌, ◌^◌, [], ◌∷◌}
use Rattle.ix_cells.specs.Growth.{Adds}
use Rattle.ix_cells.specs.Moves.{moved}
use Rattle.ix_cells.proofs.shifting.staged.Given as goal

abbrev pub invariant-loop-place : goal.invariant-loop-place
invariant-loop-place l =
    Adds (l.fn.a ∷ l.fn.distance ∷ []) l.initial.net l.net l.current l.fn.a.width (λ see. moved l.fn.way l.fn.a.width (see l.fn.a.signal) (see l.fn.distance.signal % 2 ^ l.place))
