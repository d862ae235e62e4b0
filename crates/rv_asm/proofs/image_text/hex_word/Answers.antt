use Rattle.std.proofs.Common.{ℕ, ◌^◌, ◌<◌, ◌≤◌, arith, lit<, sym, get_or}
use Rattle.std.proofs.Math.Nat.{pow-le-pow_right}
use Rattle.rv_asm.proofs.ImageLemmas.{hex_below}
use Rattle.rv_asm.proofs.image_text.hex_word.Goals as goal

-- seven digits leave room for one more
room : (n i : ℕ) → n < 16 ^ i → i < 8 → n < 2 ^ 28
room n i lt few =
    let seven : i ≤ 7 = omega arith in
    let le : 16 ^ i ≤ 16 ^ 7 = pow-le-pow_right (lit< tt) seven in
    omega (arith, lt, le)

pub overflow_mul-word : goal.overflow_mul-word
overflow_mul-word c =
    let few = room c.loop-b.word c.loop-b.b-index c.loop-b.invariant.below (omega (arith, c.loop-b-test.true, c.loop-b.invariant.eight)) in
    omega (arith, few)

pub overflow_add-word : goal.overflow_add-word
overflow_add-word c =
    let few = room c.loop-b.word c.loop-b.b-index c.loop-b.invariant.below (omega (arith, c.loop-b-test.true, c.loop-b.invariant.eight)) in
    let digit = hex_below (get_or c.args.line.now c.loop-b.b-index 0) c.in-Some.digit (sym c.in-Some.ensures) in
    omega (arith, few, c.from.ensures, digit)
