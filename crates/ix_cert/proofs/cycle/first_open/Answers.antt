use Rattle.std.proofs.Common.{◌≡◌, ◌<◌, length, ◌+◌, List, slice_index_or}
use Rattle.ix_sheet.specs.Bounds.{arc_of}
use Rattle.ix_cert.specs.Faults.{IsOpen, end_before}
use Rattle.ix_cert.proofs.cycle.first_open.Goals as goal
use Rattle.std.proofs.Common.{sym, ◌∙◌, ap, List, suc, arith}
use Rattle.ix_sheet.specs.declared.problem.Arc.{Arc}
use Rattle.ix_sheet.specs.declared.problem.Bound.{Bound}
use Rattle.ix_sheet.specs.declared.problem.Bound.TheVariants.{Early}
use Rattle.std.proofs.lemmas.List.{get_or_default}
use Rattle.ix_cert.proofs.BoundTests.{none_more}

pub bounds-preserved : goal.bounds-preserved
bounds-preserved c =
    let p = c.args.b.now.problem in
    let cycle : c.as_slice-cycle.result.now ≡ c.args.b.now.cycle = c.as_slice-cycle.ensures in
    let size : length c.as_slice-cycle.result.now ≡ length c.args.b.now.cycle = ap (λ (xs : List Bound). length xs) cycle in
    let inside : c.bounds.at < length c.args.b.now.cycle = omega (arith, c.bounds-test.true, size) in
    let here : c.index-cycle-at.result ≡ slice_index_or c.args.b.now.cycle c.bounds.at (Early 0) =
    c.index-cycle-at.is ∙ ap (λ (xs : List Bound). slice_index_or xs c.bounds.at c.index-cycle-at.result) cycle
    ∙ get_or_default c.args.b.now.cycle c.bounds.at c.index-cycle-at.result (Early 0) inside
    in
    let arc : c.arc_of_bound-arc.result ≡ arc_of p (slice_index_or c.args.b.now.cycle c.bounds.at (Early 0)) = c.arc_of_bound-arc.ensures ∙ ap (arc_of p) here in
    let from : (arc_of p (slice_index_or c.args.b.now.cycle c.bounds.at (Early 0))).from ≡ end_before p c.args.b.now.cycle c.bounds.at =
    ap (λ (a : Arc). a.from) (sym arc) ∙ c.if-arc-end.false ∙ c.bounds.invariant.0
    in
    let next : c.bounds.at + 1 ≡ suc c.bounds.at = omega arith in (
      ap (λ (a : Arc). a.to) arc ∙ ap (end_before p c.args.b.now.cycle) (sym next),
      none_more (λ k. IsOpen c.args.b.now k) c.bounds.at c.bounds.invariant.1 (λ gap. gap from),
    )
