use Rattle.std.proofs.Common.{◌≡◌, ◌<◌, ◌^◌, ◌∙◌, sym, pos, Bool, true, false, not, refl}
use Rattle.std.specs.Prelude.{int_lt}
use mathlib.Core.Bool.{beq}
use Rattle.ix_bits.specs.Operators.{value_of}
use Rattle.ix_bits.proofs.Results.{order_alike, whole, within_value}
use Rattle.ix_bits.proofs.arithmetic.order.Goals as goal

same : (x y : Bool) → not (beq x y) ≡ false → x ≡ y
same true true e = refl
same true false e = e
same false true e = sym e
same false false e = refl

pub returns-else-left-is_negative : goal.returns-else-left-is_negative
returns-else-left-is_negative c =
    let g : c.args.a.raw < 2 ^ c.args.ta.width = rw (← c.requires.left) c.args.a.in_width in
    let h : c.args.b.raw < 2 ^ c.args.tb.width = rw (← c.requires.right) c.args.b.in_width in
    let x = value_of c.args.ta c.args.a.raw in
    let y = value_of c.args.tb c.args.b.raw in
    let p = whole c.args.ta.signed c.args.ta.width x c.args.ta.most_width (within_value c.args.ta.signed c.args.ta.width c.args.a.raw c.args.ta.some_width g) in
    let q = whole c.args.tb.signed c.args.tb.width y c.args.tb.most_width (within_value c.args.tb.signed c.args.tb.width c.args.b.raw c.args.tb.some_width h) in
    let alike : int_lt x (pos 0) ≡ int_lt y (pos 0) = sym c.is_negative-left.ensures ∙ same _ _ c.if-left-is_negative.false ∙ c.is_negative.ensures in
    c.cmp.ensures ∙ rw (c.extended.ensures, c.extended-else-left-is_negative.ensures) (order_alike (2 ^ 128) x y p.0 p.1 q.0 q.1 alike)
