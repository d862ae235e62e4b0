use Rattle.std.proofs.Common.{◌∙◌, Bor, List, [], ℕ, sym, ap, subst, arith, get_or}
use Rattle.std.proofs.Common.{◌+◌, take, length}
use Rattle.rv_asm.specs.NumbersText.{parts_of, words_among}
use Rattle.rv_asm.specs.WaitsText.{wait_in, AreWaits}
use Rattle.rv_asm.proofs.ImageLemmas.{line_at}
use Rattle.rv_asm.proofs.NumberLemmas.{after_word, after_empty, some_part, no_part, length-map}
use Rattle.rv_asm.proofs.WaitLemmas.{refused_in, only_memory, one_text, all_waits}
use Rattle.rv_asm.proofs.waits_text.read_waits.Goals as goal
use Rattle.rv_asm.proofs.waits_text.read_waits.Goals.{then-not-is_empty+in-Ok-take_wait, else-not-is_empty}

abbrev none_part : Bor (List ℕ)
none_part = record { ref_ptr = (0, 0); now = [] }

pub returns-in-Err-clause-refused : goal.returns-in-Err-clause-refused
returns-in-Err-clause-refused c =
    let i = c.loop-part.part-index in
    let part = (get_or c.deref-part-items.result.now i none_part).now in
    let at = line_at c.deref-part-items.result.now (parts_of c.args.bytes.now) i none_part c.loop-part.invariant.parts_are (omega (arith, c.loop-part-test.true, c.loop-part.auto.part-index-end)) in
    refused_in c.args.bytes.now c.loop-part.waits i part c.in-Err.error at (some_part part c.if-not-is_empty.ensures) c.loop-part.invariant.waits_are c.loop-part.invariant.few c.in-Err.ensures.refused

pub returns-in-Err-clause-again : goal.returns-in-Err-clause-again
returns-in-Err-clause-again c waits text = only_memory c.args.bytes.now waits c.in-Err.error text (returns-in-Err-clause-refused c)

pub loop-part-preserved : goal.loop-part-preserved
loop-part-preserved c =
    let i = c.loop-part.part-index in
    let all = parts_of c.args.bytes.now in
    let part = (get_or c.deref-part-items.result.now i none_part).now in
    let at = line_at c.deref-part-items.result.now all i none_part c.loop-part.invariant.parts_are (omega (arith, c.loop-part-test.true, c.loop-part.auto.part-index-end)) in
    elim c.if-not-is_empty.branch [
      | then-not-is_empty+in-Ok-take_wait w ↦
          let t = w.in-Ok-take_wait.ensures.taken in
          record {
            parts_are = c.loop-part.invariant.parts_are;
            waits_are = subst (λ l. AreWaits (words_among (take (i + 1) all)) l) (sym (w.waits-is ∙ t.2))
                (after_word wait_in all i t.0 part c.loop-part.waits at (some_part part w.if-not-is_empty.ensures) t.1 c.loop-part.invariant.waits_are);
            few = omega (arith, w.waits.invariant, ap length w.waits.view_is, ap length w.waits-is);
          }
      | else-not-is_empty w ↦ record {
        parts_are = c.loop-part.invariant.parts_are;
        waits_are = subst (λ l. AreWaits (words_among (take (i + 1) all)) l) (sym w.waits-is)
            (after_empty wait_in all i part c.loop-part.waits at (no_part part w.if-not-is_empty.ensures) c.loop-part.invariant.waits_are);
        few = omega (arith, ap length w.waits-is, c.loop-part.invariant.few);
      }
    ]

pub returns-clause-again : goal.returns-clause-again
returns-clause-again c waits text =
    one_text c.args.bytes.now c.loop-part.waits waits
    (all_waits c.args.bytes.now c.loop-part.waits c.loop-part.part-index c.loop-part.invariant.waits_are (omega (arith, c.loop-part-test.false, c.loop-part.auto.part-index-end, ap length c.loop-part.invariant.parts_are, length-map (λ (x : Bor (List ℕ)). x.now) c.deref-part-items.result.now)) c.loop-part.invariant.few) text
