use Rattle.std.proofs.Common.{◌≡◌, ◌∙◌, sym, ap, subst, suc, ◌-◌, arith, Some}
use Rattle.std.specs.Prelude.{slice_get}
use Rattle.rv_core.specs.declared.Shape.{Shape}
use Rattle.rv_watch.specs.Kept.{counted}
use Rattle.rv_watch.proofs.Keeping.{stood_most, tailed_most, kept_more}
use Rattle.rv_watch.proofs.kept.keep.Goals as goal

pub returns-clause-stood : goal.returns-clause-stood
returns-clause-stood c =
    let stood = c.stood_then.ensures in
    let most = stood_most c.args.kept.stood c.cell_at-was_memory.result c.cell_at-in_memory.result in
    omega (arith, stood, most)

pub returns-clause-tailed : goal.returns-clause-tailed
returns-clause-tailed c =
    let tailed = c.tailed_then.ensures in
    let most = tailed_most c.args.kept.tailed c.cell_at-was_last.result c.cell_at-at_last.result in
    omega (arith, tailed, most)

pub returns-clause-kept : goal.returns-clause-kept
returns-clause-kept c = λ k earlier shape plain going newest_is lawful plain_is is.
    let mem = ap (λ (s : Shape). s.mem) shape ∙ sym c.from-memory.ensures in
    let stages = ap (λ (s : Shape). s.stages) shape in
    let end : suc (c.from-last.result - 1) ≡ k.shape.stages = omega (arith, stages, c.requires.stages, c.from-last.ensures) in
    kept_more c.row_facts.ensures k earlier c.args.before.now c.args.row.now c.args.kept _ c.args.plain (c.from-last.result - 1) c.cell_at-first.result c.cell_at-was_memory.result c.cell_at-in_memory.result c.cell_at-was_last.result c.cell_at-at_last.result
    plain going newest_is lawful plain_is is end c.cell_at-first.ensures
    (subst (λ n. slice_get c.args.before.now.cells n ≡ Some c.cell_at-was_memory.result) (sym mem) c.cell_at-was_memory.ensures)
    (subst (λ n. slice_get c.args.row.now.cells n ≡ Some c.cell_at-in_memory.result) (sym mem) c.cell_at-in_memory.ensures)
    c.cell_at-was_last.ensures c.cell_at-at_last.ensures c.address.ensures c.serial_behind.ensures (c.count.ensures ∙ ap (λ b. counted c.args.kept.retired b) c.is_some.ensures) c.stood_then.ensures c.tailed_then.ensures
