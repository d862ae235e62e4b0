use Rattle.std.proofs.Common.{ap, ℤ, ◌<◌, ◌^◌}
use Rattle.ix_tree.specs.LoopHeads.{Valued}
use Rattle.ix_bits.proofs.Unique.{patterns_are_numbers}
use Rattle.ix_unroll.proofs.Typed.{embedded_is}
use Rattle.ix_unroll.proofs.value.embedded.Goals as goal

pub returns : goal.returns
returns c =
    let x = c.args.x in
    let below : x.bits.raw < 2 ^ x.ty.width = rw (← x.fits) x.bits.in_width in
    ap (λ (n : ℤ). let v : Valued = record { ty = c.args.ty; number = n } in v)
    (embedded_is x.ty c.args.ty _ _ c.requires ((patterns_are_numbers x.ty).number x.bits.raw below).0 c.cast.ensures.fit)
