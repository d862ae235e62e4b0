use Rattle.std.proofs.Common.{ap, arith, ℕ, ◌^◌}
use Rattle.rv_asm_text.proofs.Bits.{half_below}
use Rattle.rv_asm_text.proofs.filling.pattern_in.Goals as goal

pub overflow_sub-result : goal.overflow_sub-result
overflow_sub-result c =
    let half = half_below c.args.width in
    let same = ap (λ (k : ℕ). 2 ^ k) c.saturating_sub.ensures in
    omega (arith, half, same, c.power.ensures.value, c.power-past.ensures.value, c.if-n-power.true)
