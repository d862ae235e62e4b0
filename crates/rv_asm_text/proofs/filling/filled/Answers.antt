use Rattle.std.proofs.Common.{◌≡◌, ◌∙◌, ◌+◌, sym, ap, ℕ, suc, [], List, Bor, false, arith}
use Rattle.rv_asm_text.specs.declared.operand.Operand.{Operand}
use Rattle.rv_asm_text.specs.declared.verdict.Verdict.{Verdict}
use Rattle.rv_asm_text.specs.Filling.{with_bits}
use Rattle.rv_asm_text.proofs.Fillings.{from, too_few, too_many, no_value, one_value}
use Rattle.rv_asm_text.proofs.filling.filled.Goals as goal

abbrev no_text : Bor (List ℕ)
no_text = record { ref_ptr = (0, 0); now = [] }

abbrev no_operand : Operand
no_operand = record { piece = 0; is_register = false }

pub returns-then-k-texts : goal.returns-then-k-texts
returns-then-k-texts c =
    sym (c.loop-k.invariant.rest ∙ too_few c.args.pieces.now c.loop-k.verdict c.args.operands.now c.args.texts.now c.loop-k.k (omega (arith, c.loop-k-test.true)) (omega (arith, c.if-k-texts.true)))

pub returns-in-None : goal.returns-in-None
returns-in-None c =
    sym (c.loop-k.invariant.rest ∙ no_value c.args.pieces.now c.loop-k.verdict c.args.operands.now c.args.texts.now c.loop-k.k no_operand no_text (omega (arith, c.loop-k-test.true)) (omega (arith, c.if-k-texts.false)) c.in-None.ensures)

pub loop-k-preserved : goal.loop-k-preserved
loop-k-preserved c =
    let next : suc c.loop-k.k ≡ c.loop-k.k + 1 = omega arith in
    let bits = ap (with_bits c.loop-k.verdict) (sym c.operand_bits.ensures) ∙ sym c.with_bits-verdict.ensures in
    record {
      rest = c.loop-k.invariant.rest
          ∙ one_value c.args.pieces.now c.loop-k.verdict c.args.operands.now c.args.texts.now c.loop-k.k no_operand no_text c.in-Some.n (omega (arith, c.loop-k-test.true)) (omega (arith, c.if-k-texts.false)) c.in-Some.ensures
          ∙ ap (λ (v : Verdict). from c.args.pieces.now v c.args.operands.now c.args.texts.now (suc c.loop-k.k)) bits
          ∙ ap (from c.args.pieces.now c.with_bits-verdict.result c.args.operands.now c.args.texts.now) next;
      within = omega (arith, c.if-k-texts.false);
    }

pub returns-else-operands-texts : goal.returns-else-operands-texts
returns-else-operands-texts c =
    sym (c.loop-k.invariant.rest ∙ too_many c.args.pieces.now c.loop-k.verdict c.args.operands.now c.args.texts.now c.loop-k.k c.loop-k.invariant.within (omega (arith, c.loop-k.auto.k-end)) (omega (arith, c.loop-k-test.false)) c.if-operands-texts.false)
