use Rattle.std.proofs.Common.{◌∙◌, Bor, List, [], ℕ, sym, ap, subst, arith, get_or}
use Rattle.std.proofs.Common.{◌+◌, take, length}
use Rattle.rv_waits.specs.Lines.{Ascending}
use Rattle.rv_asm.specs.NumbersText.{parts_of, words_among}
use Rattle.rv_asm.specs.LinesText.{row_in, AreRows}
use Rattle.rv_asm.proofs.ImageLemmas.{line_at}
use Rattle.rv_asm.proofs.NumberLemmas.{after_word, after_empty, some_part, no_part, length-map}
use Rattle.rv_asm.proofs.LineLemmas.{refused_in, only_memory, one_text, all_rows}
use Rattle.rv_asm.proofs.lines_text.read_lines.Goals as goal
use Rattle.rv_asm.proofs.lines_text.read_lines.Goals.{then-not-is_empty+in-Ok-take_row, else-not-is_empty}

abbrev none_part : Bor (List ℕ)
none_part = record { ref_ptr = (0, 0); now = [] }

pub returns-in-Err-clause-refused : goal.returns-in-Err-clause-refused
returns-in-Err-clause-refused c =
    let i = c.loop-part.part-index in
    let part = (get_or c.deref-part-items.result.now i none_part).now in
    let at = line_at c.deref-part-items.result.now (parts_of c.args.bytes.now) i none_part c.loop-part.invariant.parts_are (omega (arith, c.loop-part-test.true, c.loop-part.auto.part-index-end)) in
    refused_in c.args.bytes.now c.loop-part.lines i part c.in-Err.error at (some_part part c.if-not-is_empty.ensures) c.loop-part.invariant.rows_are c.loop-part.invariant.ascending c.loop-part.invariant.few c.in-Err.ensures.refused

pub returns-in-Err-clause-again : goal.returns-in-Err-clause-again
returns-in-Err-clause-again c lines text = only_memory c.args.bytes.now lines c.in-Err.error text (returns-in-Err-clause-refused c)

pub loop-part-preserved : goal.loop-part-preserved
loop-part-preserved c =
    let i = c.loop-part.part-index in
    let all = parts_of c.args.bytes.now in
    let part = (get_or c.deref-part-items.result.now i none_part).now in
    let at = line_at c.deref-part-items.result.now all i none_part c.loop-part.invariant.parts_are (omega (arith, c.loop-part-test.true, c.loop-part.auto.part-index-end)) in
    elim c.if-not-is_empty.branch [
      | then-not-is_empty+in-Ok-take_row w ↦
          let t = w.in-Ok-take_row.ensures.taken in
          record {
            parts_are = c.loop-part.invariant.parts_are;
            rows_are = subst (λ l. AreRows (words_among (take (i + 1) all)) l) (sym (w.lines-is ∙ t.2))
                (after_word row_in all i t.0 part c.loop-part.lines at (some_part part w.if-not-is_empty.ensures) t.1 c.loop-part.invariant.rows_are);
            ascending = subst (λ l. Ascending 0 l) (w.lines.view_is ∙ sym w.lines-is) w.lines.invariant.1;
            few = omega (arith, w.lines.invariant.0, ap length w.lines.view_is, ap length w.lines-is);
          }
      | else-not-is_empty w ↦ record {
        parts_are = c.loop-part.invariant.parts_are;
        rows_are = subst (λ l. AreRows (words_among (take (i + 1) all)) l) (sym w.lines-is)
            (after_empty row_in all i part c.loop-part.lines at (no_part part w.if-not-is_empty.ensures) c.loop-part.invariant.rows_are);
        ascending = subst (λ l. Ascending 0 l) (sym w.lines-is) c.loop-part.invariant.ascending;
        few = omega (arith, ap length w.lines-is, c.loop-part.invariant.few);
      }
    ]

pub returns-clause-again : goal.returns-clause-again
returns-clause-again c lines text =
    one_text c.args.bytes.now c.loop-part.lines lines
    (all_rows c.args.bytes.now c.loop-part.lines c.loop-part.part-index c.loop-part.invariant.rows_are (omega (arith, c.loop-part-test.false, c.loop-part.auto.part-index-end, ap length c.loop-part.invariant.parts_are, length-map (λ (x : Bor (List ℕ)). x.now) c.deref-part-items.result.now)) c.loop-part.invariant.ascending c.loop-part.invariant.few) text
