use Rattle.std.proofs.Common.{◌≡◌, ◌∙◌, sym, ap, ℕ, ◌<◌, suc, ◌+◌, [], List, Bor, length, arith}
use Rattle.std.specs.Prelude.{Err}
use Rattle.std.proofs.lemmas.Result.{err_from_is_err_and}
use Rattle.rv_asm.specs.declared.reading.OperandKind.TheVariants.{Rd}
use Rattle.rv_asm.specs.Labels.{found}
use Rattle.rv_asm.proofs.Eachwise.{from, one_read, none_read, all_read}
use Rattle.rv_asm.proofs.reading.read_operands.Goals as goal

abbrev no_text : Bor (List ℕ)
no_text = record { ref_ptr = (0, 0); now = [] }

pub returns-in_err-operands : goal.returns-in_err-operands
returns-in_err-operands c =
    let places = found c.args.labels.now in
    let few = c.if-texts-kinds.false in
    let here : c.loop-k.k < length c.args.texts.now = c.loop-k-test.true in
    let p = err_from_is_err_and c.from_residual.result c.from_residual.ensures.1 in
    p.1
    ∙ ap Err p.2
    ∙ sym
    (all_read places c.args.at c.args.kinds.now c.args.texts.now c.args.start few
    ∙ sym c.loop-k.invariant
    ∙ none_read places c.args.at c.args.kinds.now c.args.texts.now c.loop-k.operands c.in_err-operands.field-0.0 c.loop-k.k Rd no_text (omega (arith, here, few)) here (sym c.in_err-operands.ensures))

pub loop-k-preserved : goal.loop-k-preserved
loop-k-preserved c =
    let places = found c.args.labels.now in
    let few = c.if-texts-kinds.false in
    let here : c.loop-k.k < length c.args.texts.now = c.loop-k-test.true in
    let next : c.loop-k.k + 1 ≡ suc c.loop-k.k = omega arith in
    ap (from places c.args.at c.args.kinds.now c.args.texts.now c.in_ok-operands.operands) next
    ∙ sym (one_read places c.args.at c.args.kinds.now c.args.texts.now c.loop-k.operands c.in_ok-operands.operands c.loop-k.k Rd no_text (omega (arith, here, few)) here (sym c.in_ok-operands.ensures))
    ∙ c.loop-k.invariant
