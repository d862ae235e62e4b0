use Rattle.std.proofs.Common.{◌∙◌, ◌+◌, sym, ap, Some, List, [], ℕ, Bor, map, drop, get_or, Option, arith}
use Rattle.std.specs.Prelude.{if◌then◌else◌}
use Rattle.rv_asm_text.specs.Lines.{label_of}
use Rattle.rv_asm.specs.declared.label.Place.{Place}
use Rattle.rv_asm.specs.Labels.{found, kept, is_labelled, place_from}
use Rattle.rv_asm.proofs.Noting.{kept_step, line_at}
use Rattle.rv_asm.proofs.label.labels.Goals as goal

abbrev no_line : Bor (List ℕ)
no_line = record { ref_ptr = (0, 0); now = [] }

pub loop-i-preserved : goal.loop-i-preserved
loop-i-preserved c =
    let k = c.loop-i.i in
    let all = map (λ (x : Bor (List ℕ)). x.now) c.args.lines.now in
    let line = (get_or c.args.lines.now c.loop-i.i no_line).now in
    record {
      first = λ name.
          let old = found c.loop-i.labels name in
          let b = is_labelled name (label_of line) in
          let p : Place = record { line = k; word = c.loop-i.word } in
          let rest = drop (k + 1) all in
          ap (λ (o : Option Place). kept o (place_from (k + 1) (c.loop-i.word + c.word_count-word.result) name rest)) (c.in_ok-note.ensures name)
          ∙ kept_step old b p (place_from (k + 1) (c.loop-i.word + c.word_count-word.result) name rest)
          ∙ ap (λ (z : ℕ). kept old (if b then Some p else place_from (k + 1) (c.loop-i.word + z) name rest)) c.word_count-word.ensures.value
          ∙ ap (λ (ls : List (List ℕ)). kept old (place_from k c.loop-i.word name ls)) (sym (line_at c.args.lines.now k no_line (omega (arith, c.loop-i-test.true))))
          ∙ c.loop-i.invariant.first name;
      few = omega (arith, c.loop-i.invariant.few, c.word_count-word.ensures.most);
    }
