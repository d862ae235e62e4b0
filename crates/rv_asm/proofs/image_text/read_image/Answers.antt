use Rattle.std.proofs.Common.{◌≡◌, ℕ, ◌+◌, ◌++◌, get_or, take, length, Bor, List, [], ◌∷◌, sym, ◌∙◌, refl, ap, arith, inl, inr, length-append}
use Rattle.std.proofs.lemmas.List.{append-nil}
use Rattle.rv_asm.specs.declared.image_text.Line.TheVariants.{Skipped}
use Rattle.rv_asm.specs.ImageText.{lines_of, line_of, words_in, with_word}
use Rattle.rv_asm.proofs.Results.{on_ok}
use Rattle.rv_asm.proofs.ImageLemmas.{image_not_refused, line_at, number_fits, bad_line, good_next, words_next}
use Rattle.rv_asm.proofs.image_text.read_image.Goals as goal
use Rattle.rv_asm.proofs.image_text.read_image.Goals.{in-Skipped, in-Word+else-len-eq-MOST+else-is_err}

abbrev none_line : Bor (List ℕ)
none_line = record { ref_ptr = (0, 0); now = [] }

pub overflow_cast-result : goal.overflow_cast-result
overflow_cast-result c =
    let at = line_at c.deref-line-items.result.now (lines_of c.args.bytes.now) c.loop-i.i none_line c.loop-i.invariant.lines_are (omega (arith, c.loop-i-test.true, c.loop-i.auto.i-end)) in
    let few = number_fits c.args.bytes.now c.loop-i.i (get_or c.deref-line-items.result.now c.loop-i.i none_line).now c.requires at (λ e. cc (c.in-Word.ensures, e)) in
    omega (arith, few)

pub overflow_cast-result-in-Bad : goal.overflow_cast-result-in-Bad
overflow_cast-result-in-Bad c =
    let at = line_at c.deref-line-items.result.now (lines_of c.args.bytes.now) c.loop-i.i none_line c.loop-i.invariant.lines_are (omega (arith, c.loop-i-test.true, c.loop-i.auto.i-end)) in
    let few = number_fits c.args.bytes.now c.loop-i.i (get_or c.deref-line-items.result.now c.loop-i.i none_line).now c.requires at (λ e. cc (c.in-Bad.ensures, e)) in
    omega (arith, few)

pub returns-then-len-eq-MOST-clause-refused : goal.returns-then-len-eq-MOST-clause-refused
returns-then-len-eq-MOST-clause-refused c =
    let at = line_at c.deref-line-items.result.now (lines_of c.args.bytes.now) c.loop-i.i none_line c.loop-i.invariant.lines_are (omega (arith, c.loop-i-test.true, c.loop-i.auto.i-end)) in
    bad_line c.args.bytes.now c.loop-i.image c.loop-i.i (c.loop-i.i + 1) (get_or c.deref-line-items.result.now c.loop-i.i none_line).now at refl c.loop-i.invariant.good c.loop-i.invariant.words c.loop-i.invariant.few
    (inr (c.in-Word.word, sym c.in-Word.ensures, omega (arith, c.len.ensures.value, c.if-len-eq-MOST.true)))

pub returns-in-Bad-clause-refused : goal.returns-in-Bad-clause-refused
returns-in-Bad-clause-refused c =
    let at = line_at c.deref-line-items.result.now (lines_of c.args.bytes.now) c.loop-i.i none_line c.loop-i.invariant.lines_are (omega (arith, c.loop-i-test.true, c.loop-i.auto.i-end)) in
    bad_line c.args.bytes.now c.loop-i.image c.loop-i.i (c.loop-i.i + 1) (get_or c.deref-line-items.result.now c.loop-i.i none_line).now at refl c.loop-i.invariant.good c.loop-i.invariant.words c.loop-i.invariant.few
    (inl (sym c.in-Bad.ensures))

-- what a line adds to the words
skipped : (image all : List ℕ) (line : List ℕ) → image ≡ all → line_of line ≡ Skipped → image ≡ all ++ with_word (line_of line) []
skipped image all line e k = e ∙ sym (append-nil all) ∙ ap (λ l. all ++ with_word l []) (sym k)

pub loop-i-preserved : goal.loop-i-preserved
loop-i-preserved c =
    let at = line_at c.deref-line-items.result.now (lines_of c.args.bytes.now) c.loop-i.i none_line c.loop-i.invariant.lines_are (omega (arith, c.loop-i-test.true, c.loop-i.auto.i-end)) in
    elim c.match-line_of.branch [
      | in-Skipped w ↦ record {
        lines_are = c.loop-i.invariant.lines_are;
        good = good_next (lines_of c.args.bytes.now) c.loop-i.i (get_or c.deref-line-items.result.now c.loop-i.i none_line).now at c.loop-i.invariant.good (λ e. cc (w.in-Skipped.ensures, e));
        words = w.image-is
            ∙ skipped c.loop-i.image (words_in (take c.loop-i.i (lines_of c.args.bytes.now))) (get_or c.deref-line-items.result.now c.loop-i.i none_line).now c.loop-i.invariant.words (sym w.in-Skipped.ensures)
            ∙ sym (words_next (lines_of c.args.bytes.now) c.loop-i.i (get_or c.deref-line-items.result.now c.loop-i.i none_line).now at);
        few = omega (arith, ap length w.image-is, c.loop-i.invariant.few);
      }
      | in-Word+else-len-eq-MOST+else-is_err w ↦
          let pushed = w.image-is ∙ on_ok w.push.result w.push.ensures.ok w.if-is_err.ensures.negation in
          record {
            lines_are = c.loop-i.invariant.lines_are;
            good = good_next (lines_of c.args.bytes.now) c.loop-i.i (get_or c.deref-line-items.result.now c.loop-i.i none_line).now at c.loop-i.invariant.good (λ e. cc (w.in-Word.ensures, e));
            words = pushed
                ∙ ap (λ l. l ++ w.in-Word.word ∷ []) c.loop-i.invariant.words
                ∙ ap (λ k. words_in (take c.loop-i.i (lines_of c.args.bytes.now)) ++ with_word k []) w.in-Word.ensures
                ∙ sym (words_next (lines_of c.args.bytes.now) c.loop-i.i (get_or c.deref-line-items.result.now c.loop-i.i none_line).now at);
            few = let l = ap length pushed ∙ length-append c.loop-i.image (w.in-Word.word ∷ []) in omega (arith, l, c.loop-i.invariant.few, w.len.ensures.value, w.if-len-eq-MOST.false);
          }
    ]

pub returns-then-len-eq-MOST-clause-again : goal.returns-then-len-eq-MOST-clause-again
returns-then-len-eq-MOST-clause-again c words image = absurd (image_not_refused c.args.bytes.now words (c.loop-i.i + 1) image (returns-then-len-eq-MOST-clause-refused c))

pub returns-in-Bad-clause-again : goal.returns-in-Bad-clause-again
returns-in-Bad-clause-again c words image = absurd (image_not_refused c.args.bytes.now words (c.loop-i.i + 1) image (returns-in-Bad-clause-refused c))
