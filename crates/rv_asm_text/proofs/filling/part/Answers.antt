use Rattle.std.proofs.Common.{◌+◌, ◌-◌, ◌≡◌, ◌∙◌, ◌/◌, ◌%◌, ◌^◌, ap, arith, ℕ}
use Rattle.rv_isa.proofs.BitLemmas.{and_ones}
use Rattle.rv_asm_text.proofs.Bits.{nothing_past, all_of}
use Rattle.rv_asm_text.proofs.filling.part.Goals as goal

pub returns-then-lo-gt31 : goal.returns-then-lo-gt31
returns-then-lo-gt31 c = nothing_past c.args.value c.args.lo (c.args.hi + 1 - c.args.lo) (omega arith) (omega arith)

pub returns-then-width-gt31 : goal.returns-then-width-gt31
returns-then-width-gt31 c = all_of c.args.value c.args.lo (c.args.hi + 1 - c.args.lo) (omega arith) (omega arith)

pub returns-else-width-gt31 : goal.returns-else-width-gt31
returns-else-width-gt31 c =
    let w : c.saturating_sub-width.result ≡ c.args.hi + 1 - c.args.lo = omega arith in
    and_ones c.args.value c.args.lo c.saturating_sub-width.result (omega arith) ∙ ap (λ (k : ℕ). c.args.value / 2 ^ c.args.lo % 2 ^ k) w
