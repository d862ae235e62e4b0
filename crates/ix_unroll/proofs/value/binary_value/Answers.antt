use Rattle.ix_unroll.proofs.Typed.{binary_is}
use Rattle.ix_unroll.proofs.value.binary_value.Goals as goal

pub returns-in-Ok : goal.returns-in-Ok
returns-in-Ok c =
    rw (c.in-Some-Some.is-0, c.in-Some-Some.is-1) (binary_is c.args.op c.in-Some-Some.x.ty c.in-Some-Some.y.ty c.in-Ok.ty _ _ c.binary.result.width c.binary.result.raw c.in-Ok.ensures.ok c.binary.ensures.width c.binary.ensures.number)
