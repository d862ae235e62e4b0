use Rattle.std.proofs.Common.{◌≡◌, ◌<◌, length, slice_index_or, List}
use Rattle.ix_sheet.specs.declared.problem.Bound.TheVariants.{Early}
use Rattle.ix_cert.specs.Faults.{NamesNone}
use Rattle.ix_cert.proofs.steps.first_unnamed.Goals as goal
use Rattle.std.proofs.Common.{sym, ap, arith, ◌∙◌, List}
use Rattle.ix_sheet.specs.declared.problem.Bound.{Bound}
use Rattle.ix_cert.proofs.BoundTests.{none_more, unnamed_at, named_at}
use Rattle.ix_cert.proofs.Faultless.{all_bounds}

pub returns-then-not-is_bound-clause-first : goal.returns-then-not-is_bound-clause-first
returns-then-not-is_bound-clause-first c =
    let cycle : c.as_slice-cycle.result.now ≡ c.args.b.now.cycle = c.as_slice-cycle.ensures in
    let inside : c.bounds.at < length c.args.b.now.cycle = omega (arith, c.bounds-test.true, ap (λ (xs : List Bound). length xs) cycle) in (
      inside,
      unnamed_at c.args.b.now.problem c.args.b.now.cycle c.bounds.at c.index-cycle-at.result inside
          (c.index-cycle-at.is ∙ ap (λ (xs : List Bound). slice_index_or xs c.bounds.at c.index-cycle-at.result) cycle) (sym c.if-not-is_bound.ensures),
      c.bounds.invariant,
    )

pub bounds-preserved : goal.bounds-preserved
bounds-preserved c =
    let cycle : c.as_slice-cycle.result.now ≡ c.args.b.now.cycle = c.as_slice-cycle.ensures in
    let inside : c.bounds.at < length c.args.b.now.cycle = omega (arith, c.bounds-test.true, ap (λ (xs : List Bound). length xs) cycle) in
    none_more (λ k. NamesNone c.args.b.now.problem (slice_index_or c.args.b.now.cycle k (Early 0))) c.bounds.at c.bounds.invariant
    (named_at c.args.b.now.problem c.args.b.now.cycle c.bounds.at c.index-cycle-at.result inside
    (c.index-cycle-at.is ∙ ap (λ (xs : List Bound). slice_index_or xs c.bounds.at c.index-cycle-at.result) cycle) (sym c.if-not-is_bound.ensures))

pub returns-clause-named : goal.returns-clause-named
returns-clause-named c =
    let cycle : c.as_slice-cycle.result.now ≡ c.args.b.now.cycle = c.as_slice-cycle.ensures in
    all_bounds c.args.b.now.problem c.args.b.now.cycle
    (λ k h. c.bounds.invariant k (omega (arith, h, c.bounds-test.false, ap (λ (xs : List Bound). length xs) cycle)))
