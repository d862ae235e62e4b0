use Rattle.std.proofs.Common.{◌-◌, length, take, drop, refl, ap, arith}
use Rattle.ix_vnets.proofs.Hexes.{based_parts, based_answer, hex_length, rest_of}
use Rattle.ix_vnets.proofs.number.based.Goals as goal

pub returns-then-number-gt-MOST_DIGITS : goal.returns-then-number-gt-MOST_DIGITS
returns-then-number-gt-MOST_DIGITS c = λ x h e.
    let w = c.args.word.now in
    let p = ap length (based_parts w c.in-len2-up.len_at_least x e).2 in
    let r = ap length (rest_of w c.in-len2-up.len_at_least) in
    omega (arith, p, r, hex_length 32 x, c.if-number-gt-MOST_DIGITS.true)

pub returns : goal.returns
returns c =
    let w = c.args.word.now in
    let r = ap length (rest_of w c.in-len2-up.len_at_least) in
    based_answer w (take (length w - 2) (drop 2 w)) c.number_in.result c.in-len2-up.len_at_least refl (omega (arith, r, c.if-number-gt-MOST_DIGITS.false)) c.if-quote-ne39.false c.if-base-ne104.false c.number_in.ensures
