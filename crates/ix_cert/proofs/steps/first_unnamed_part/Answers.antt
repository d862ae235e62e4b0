use Rattle.std.proofs.Common.{◌≡◌, ◌<◌, ℕ, length, slice_index_or, List}
use Rattle.ix_cert.specs.Faults.{NamesNone, blank_part}
use Rattle.ix_cert.proofs.steps.first_unnamed_part.Goals as goal
use Rattle.std.proofs.Common.{sym, ap, arith, ◌∙◌, List}
use Rattle.ix_sheet.specs.declared.problem.Bound.{Bound}
use Rattle.ix_cert.specs.Checks.{names_bound}
use Rattle.ix_cert.proofs.BoundTests.{none_more, unnamed_part_at, named_part_at}
use Rattle.ix_cert.proofs.Faultless.{all_named}

abbrev test_at : List (Bound × ℕ) → ℕ → Bound × ℕ → Bound
test_at flow k d = (slice_index_or flow k d).0

pub returns-then-not-is_bound-clause-first : goal.returns-then-not-is_bound-clause-first
returns-then-not-is_bound-clause-first c =
    let flow : c.as_slice-flow.result.now ≡ c.args.b.now.flow = c.as_slice-flow.ensures in
    let inside : c.parts.at < length c.args.b.now.flow = omega (arith, c.parts-test.true, ap (λ (xs : List (Bound × ℕ)). length xs) flow) in (
      inside,
      unnamed_part_at c.args.b.now.problem c.args.b.now.flow c.parts.at c.index-flow-at.result inside
          (ap (λ (xs : List (Bound × ℕ)). names_bound c.args.b.now.problem (test_at xs c.parts.at c.index-flow-at.result)) (sym flow) ∙ sym c.if-not-is_bound.ensures),
      c.parts.invariant,
    )

pub parts-preserved : goal.parts-preserved
parts-preserved c =
    let flow : c.as_slice-flow.result.now ≡ c.args.b.now.flow = c.as_slice-flow.ensures in
    let inside : c.parts.at < length c.args.b.now.flow = omega (arith, c.parts-test.true, ap (λ (xs : List (Bound × ℕ)). length xs) flow) in
    none_more (λ k. NamesNone c.args.b.now.problem (slice_index_or c.args.b.now.flow k blank_part).0) c.parts.at c.parts.invariant
    (named_part_at c.args.b.now.problem c.args.b.now.flow c.parts.at c.index-flow-at.result inside
    (ap (λ (xs : List (Bound × ℕ)). names_bound c.args.b.now.problem (test_at xs c.parts.at c.index-flow-at.result)) (sym flow) ∙ sym c.if-not-is_bound.ensures))

pub returns-clause-named : goal.returns-clause-named
returns-clause-named c =
    let flow : c.as_slice-flow.result.now ≡ c.args.b.now.flow = c.as_slice-flow.ensures in
    all_named c.args.b.now.problem c.args.b.now.flow
    (λ k h. c.parts.invariant k (omega (arith, h, c.parts-test.false, ap (λ (xs : List (Bound × ℕ)). length xs) flow)))
