use Rattle.ix_unroll.proofs.Typed.{unary_is}
use Rattle.ix_unroll.proofs.value.unary_value.Goals as goal

pub returns-in-Ok : goal.returns-in-Ok
returns-in-Ok c =
    rw c.in-Some.is (unary_is c.args.op c.in-Some.x.ty c.in-Ok.ty _ c.unary.result.width c.unary.result.raw c.in-Ok.ensures.ok c.unary.ensures.width c.unary.ensures.number)
