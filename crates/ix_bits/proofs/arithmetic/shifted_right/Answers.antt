use Rattle.std.proofs.Common.{◌<◌, ◌^◌, ◌∙◌, sym, refl}
use Rattle.ix_bits.specs.Operators.{value_of}
use Rattle.ix_bits.proofs.Results.{within_value}
use Rattle.ix_bits.proofs.Shifts.{shr_negative, shr_positive}
use Rattle.ix_bits.proofs.arithmetic.shifted_right.Goals as goal
use Rattle.ix_bits.proofs.arithmetic.shifted_right.Goals.{then-is_negative, else-is_negative}

pub returns-clause-number : goal.returns-clause-number
returns-clause-number c =
    let g : c.args.a.raw < 2 ^ c.args.ty.width = rw (← c.requires) c.args.a.in_width in
    let z = value_of c.args.ty c.args.a.raw in
    let p = within_value c.args.ty.signed c.args.ty.width c.args.a.raw c.args.ty.some_width g in
    elim c.if-is_negative.branch [
      | then-is_negative w ↦
          shr_negative c.args.ty.signed c.args.ty.width z c.args.by c.truncated.result.raw c.args.ty.some_width c.args.ty.most_width p
          (sym c.is_negative.ensures ∙ w.if-is_negative.true)
          (c.truncated.ensures.value ∙ rw (w.moved-is, w.moved_down.ensures, c.extended-bits.ensures) refl)
      | else-is_negative w ↦
          shr_positive c.args.ty.signed c.args.ty.width z c.args.by c.truncated.result.raw c.args.ty.some_width c.args.ty.most_width p
          (sym c.is_negative.ensures ∙ w.if-is_negative.false)
          (c.truncated.ensures.value ∙ rw (w.moved-is, w.moved_down-moved.ensures, c.extended-bits.ensures) refl)
    ]
