use Rattle.std.proofs.Common.{List, subst, sym}
use Rattle.std.specs.List.{AllByRecursion}
use Rattle.ix_terms.specs.declared.targets.Target.{Target}
use Rattle.ix_terms.specs.Stores.{stock_of}
use Rattle.ix_terms.specs.Places.{AreTermsAt}
use Rattle.ix_terms.specs.Targets.{IsTargetAt}
use Rattle.ix_terms.proofs.Makes.{term_grown}
use Rattle.ix_terms.proofs.Ending.{place_term, ends_terms, ends_targets, targets_on, joined_made}
use Rattle.ix_terms.proofs.run.joined.Goals as goal

pub merge_slots-requires-clause-first : goal.merge_slots-requires-clause-first
merge_slots-requires-clause-first c =
    subst (AreTermsAt (stock_of c.args.store.now)) (sym c.as_slice.ensures.value) (ends_terms c.args.source.now (stock_of c.args.store.now) _ c.args.first.now.targets.items c.args.b.first c.requires.first)

pub merge_slots-requires-clause-second : goal.merge_slots-requires-clause-second
merge_slots-requires-clause-second c =
    subst (AreTermsAt (stock_of c.args.store.now)) (sym c.as_slice-2.ensures.value) (ends_terms c.args.source.now (stock_of c.args.store.now) _ c.args.second.now.targets.items c.args.b.second c.requires.second)

pub merge_targets-requires-clause-condition : goal.merge_targets-requires-clause-condition
merge_targets-requires-clause-condition c =
    term_grown (stock_of c.args.store.now) _ c.args.t c.in_ok-slots.ensures.grows (place_term c.args.source.now (stock_of c.args.store.now) c.args.t c.requires.test)

pub merge_targets-requires-clause-first : goal.merge_targets-requires-clause-first
merge_targets-requires-clause-first c =
    let mid = stock_of c.merge_slots.new.store in
    let P : List Target → Type 0 = λ es. AllByRecursion (IsTargetAt mid) es in
    subst P (sym c.as_slice-3.ensures.value) (targets_on (stock_of c.args.store.now) mid c.in_ok-slots.ensures.grows _ (ends_targets c.args.source.now (stock_of c.args.store.now) c.args.first.now.slots.items _ c.args.b.first c.requires.first))

pub merge_targets-requires-clause-second : goal.merge_targets-requires-clause-second
merge_targets-requires-clause-second c =
    let mid = stock_of c.merge_slots.new.store in
    let P : List Target → Type 0 = λ es. AllByRecursion (IsTargetAt mid) es in
    subst P (sym c.as_slice-4.ensures.value) (targets_on (stock_of c.args.store.now) mid c.in_ok-slots.ensures.grows _ (ends_targets c.args.source.now (stock_of c.args.store.now) c.args.second.now.slots.items _ c.args.b.second c.requires.second))

pub returns : goal.returns
returns c =
    joined_made (stock_of c.args.store.now) (stock_of c.merge_slots.new.store) (stock_of c.merge_targets.new.store) c.args.first.now.slots.items c.args.second.now.slots.items c.as_slice.result.now c.as_slice-2.result.now c.in_ok-slots.slots.items
    c.args.first.now.targets.items c.args.second.now.targets.items c.as_slice-3.result.now c.as_slice-4.result.now c.in_ok-targets.targets.items c.args.t c.requires.test.within c.requires.first.below c.requires.second.below
    c.as_slice.ensures.value c.as_slice-2.ensures.value c.as_slice-3.ensures.value c.as_slice-4.ensures.value c.in_ok-slots.ensures c.in_ok-targets.ensures
