use Rattle.std.proofs.Common.{refl}
use Rattle.number_cases.proofs.cells.of_choice.Goals as goal

pub of_three-requires-clause-typed : goal.of_three-requires-clause-typed
of_three-requires-clause-typed c = (
  c.lowest-condition.result.ty,
  c.in_ok-a.a.ty,
  c.in_ok-b.b.ty,
  refl,
  (record { unsigned = c.lowest-condition.ensures.unsigned; wide = c.lowest-condition.ensures.wide }, record { signed = c.in_ok-ty.ensures.ok.signed; width = c.in_ok-ty.ensures.ok.width }),
)
