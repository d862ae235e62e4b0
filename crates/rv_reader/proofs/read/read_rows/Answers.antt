use Rattle.std.proofs.Common.{◌∙◌, sym, ap, subst, arith, map, ◌+◌, ◌≤◌, ◌++◌, [], ◌∷◌}
use Rattle.rv_shown.specs.Shown.{shown_in}
use Rattle.rv_reader.specs.Traces.{IsReadTo, lines_of, line_numbers, line_behind}
use Rattle.rv_reader.proofs.Passing.{passed_none, passed_row, numbers_push, behind_push, line_small, rows_few, lines_few}
use Rattle.rv_reader.proofs.read.read_rows.Goals as goal

pub loop-ended-init : goal.loop-ended-init
loop-ended-init c = record {
  within = omega arith;
  read = subst (λ l. IsReadTo c.args.widths.now c.args.stages c.args.text.now 0 1 (map (shown_in c.args.stages c.args.text.now) l)) (sym c.new-rows.ensures) (passed_none c.args.widths.now c.args.stages c.args.text.now);
  state = c.is_state_at-ended.ensures;
  numbers = c.new-lines.ensures ∙ ap (line_numbers 1) (sym c.new-rows.ensures);
  behind = ap (line_behind 1) (sym c.new-rows.ensures);
}

pub overflow_cast-number : goal.overflow_cast-number
overflow_cast-number c =
    let a = rows_few c.args.widths.now c.args.stages c.args.text.now c.loop-ended.at c.loop-ended.line c.loop-ended.rows c.loop-ended.invariant.read in
    let b = line_small c.args.widths.now c.args.stages c.args.text.now c.loop-ended.at c.loop-ended.line _ c.loop-ended.invariant.read c.loop-ended.invariant.within in
    omega (arith, a, b, c.len-number.ensures, c.loop-ended.invariant.within, c.requires.short)

pub row_at-requires-clause-small : goal.row_at-requires-clause-small
row_at-requires-clause-small c =
    let b = line_small c.args.widths.now c.args.stages c.args.text.now c.loop-ended.at c.loop-ended.line _ c.loop-ended.invariant.read c.loop-ended.invariant.within in
    omega (arith, b, c.loop-ended.invariant.within, c.requires.short)

pub overflow_add-line : goal.overflow_add-line
overflow_add-line c =
    let b = line_small c.args.widths.now c.args.stages c.args.text.now c.loop-ended.at c.loop-ended.line _ c.loop-ended.invariant.read c.loop-ended.invariant.within in
    let l = lines_few c.in-Ok.row in
    omega (arith, b, l, c.count_of-line.ensures, c.loop-ended.invariant.within, c.requires.short)

pub loop-ended-preserved : goal.loop-ended-preserved
loop-ended-preserved c =
    let a = rows_few c.args.widths.now c.args.stages c.args.text.now c.loop-ended.at c.loop-ended.line c.loop-ended.rows c.loop-ended.invariant.read in
    let b = line_small c.args.widths.now c.args.stages c.args.text.now c.loop-ended.at c.loop-ended.line _ c.loop-ended.invariant.read c.loop-ended.invariant.within in
    let small : c.len-number.result ≤ 4294967295 = omega (arith, a, b, c.len-number.ensures, c.loop-ended.invariant.within, c.requires.short) in
    let next = passed_row c.args.widths.now c.args.stages c.args.text.now c.loop-ended.at c.loop-ended.line c.len-number.result c.loop-ended.rows c.in-Ok.row c.loop-ended.invariant.read (sym c.len-number.ensures) small c.in-Ok.ensures.read in
    record {
      within = (c.in-Ok.ensures.read).within;
      read = subst (λ l. IsReadTo c.args.widths.now c.args.stages c.args.text.now c.in-Ok.row.written_line.end (c.loop-ended.line + c.count_of-line.result) (map (shown_in c.args.stages c.args.text.now) l)) (sym c.in-Ok-Ok.ensures.ok)
          (subst (λ n. IsReadTo c.args.widths.now c.args.stages c.args.text.now c.in-Ok.row.written_line.end (c.loop-ended.line + n) (map (shown_in c.args.stages c.args.text.now) (c.loop-ended.rows ++ c.in-Ok.row ∷ []))) (sym c.count_of-line.ensures) next);
      state = c.is_state_at-ended-in-loop-ended.ensures;
      numbers = c.in-Ok-Ok.ensures'.ok ∙ ap (λ l. l ++ c.loop-ended.line ∷ []) c.loop-ended.invariant.numbers ∙ ap (λ n. line_numbers 1 c.loop-ended.rows ++ n ∷ []) c.loop-ended.invariant.behind ∙ sym (numbers_push 1 c.loop-ended.rows c.in-Ok.row) ∙ ap (line_numbers 1) (sym c.in-Ok-Ok.ensures.ok);
      behind = ap (λ n. c.loop-ended.line + n) c.count_of-line.ensures ∙ ap (λ n. n + lines_of c.in-Ok.row) c.loop-ended.invariant.behind ∙ sym (behind_push 1 c.loop-ended.rows c.in-Ok.row) ∙ ap (line_behind 1) (sym c.in-Ok-Ok.ensures.ok);
    }
