use Rattle.std.proofs.Common.{◌≡◌, ◌∙◌, ap, subst, arith, take}
use Rattle.std.proofs.lemmas.List.{take_all}
use Rattle.rv_asm.specs.ImageText.{image_text}
use Rattle.rv_asm.proofs.Printed.{Fit, text_next, fit_next, printed_is_read}
use Rattle.rv_asm.proofs.image_print.print_image.Goals as goal

pub loop-word-preserved : goal.loop-word-preserved
loop-word-preserved c = record {
  text = c.in_ok-push_word.ensures ∙ text_next c.as_slice-word-items.result.now c.loop-word.word-index c.loop-word.text.items c.loop-word-test.true c.loop-word.invariant.text;
  fit = fit_next c.as_slice-word-items.result.now c.loop-word.word-index c.loop-word-test.true c.loop-word.invariant.fit (let fits = c.type_inv.word-items c.loop-word.word-index in omega (arith, fits));
}

pub returns-clause-reads : goal.returns-clause-reads
returns-clause-reads c =
    let all : take c.loop-word.word-index c.as_slice-word-items.result.now ≡ c.args.image.now = take_all c.loop-word.word-index c.as_slice-word-items.result.now c.loop-word-test.false ∙ c.as_slice-word-items.ensures.words in
    let text : c.from_vec.result ≡ image_text c.args.image.now = c.from_vec.ensures ∙ c.loop-word.invariant.text ∙ ap image_text all in
    rw text (printed_is_read c.args.image.now (subst Fit all c.loop-word.invariant.fit) c.as_slice-word-items.ensures.most)
