use Rattle.std.proofs.Common.{refl, arith}
use Rattle.number_cases.proofs.cells.of_range.Goals as goal

pub of_one-requires-clause-typed : goal.of_one-requires-clause-typed
of_one-requires-clause-typed c = (c.in_ok-a.a.ty, refl, record { order = omega arith; within = omega arith; bits = record { unsigned = refl; wide = refl } })
