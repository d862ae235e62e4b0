use Rattle.std.proofs.Common.{refl}
use Rattle.number_cases.proofs.cells.of_cast.Goals as goal

pub of_one-requires-clause-typed : goal.of_one-requires-clause-typed
of_one-requires-clause-typed c = (c.in_ok-a.a.ty, refl, tt)
