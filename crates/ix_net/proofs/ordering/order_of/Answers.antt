use Rattle.std.proofs.Common.{◌≡◌, ◌≢◌, ◌∙◌, ℕ, ◌<◌, ◌+◌, List, ◌++◌, length, take, drop, arith, refl, ap, sym, subst, below_more}
use Rattle.std.proofs.lemmas.Bool.{MatchBool-at_true}
use Rattle.std.proofs.lemmas.List.{take_at}
use Rattle.ix_net.specs.declared.gates.Gate.{Gate}
use Rattle.ix_net.specs.Chain.{Chain}
use Rattle.ix_net.specs.declared.ordering.Mark.{Mark}
use Rattle.ix_net.specs.declared.ordering.Mark.TheVariants.{New, Open, Done}
use Rattle.ix_net.specs.Order.{IsResting, Reads, StaysSeen, mark_at}
use Rattle.ix_net.proofs.ordering.order_of.Goals as goal

-- a cell that is neither new nor open is done
done_from : (m : Mark) → m ≢ New → m ≢ Open → m ≡ Done
done_from New a b = absurd (a refl)
done_from Open a b = absurd (b refl)
done_from Done a b = refl

pub loop-root-preserved : goal.loop-root-preserved
loop-root-preserved c =
    let old = c.loop-root.marks.items in
    let new : List Mark = c.visit.new.marks in
    let first = c.args.first in
    let gates : List Gate = c.args.gates.now in
    let value : c.deref_mut.result.now ≡ old = c.deref_mut.ensures.value in
    let same_size : length new ≡ length c.deref_mut.result.now = c.visit.auto.marks in
    let full : length new ≡ c.loop-root.marks.len = omega (arith, ap length value, c.loop-root.marks.ok.0) in
    let e : take c.loop-root.marks.len (new ++ drop (length new) old) ≡ new = take_at new (drop (length new) old) c.loop-root.marks.len full in
    let r = MatchBool-at_true (IsResting first gates new c.visit.new.order.items × StaysSeen c.deref_mut.result.now new × (mark_at new c.loop-root.root ≢ New)) ((k : ℕ) × Chain (Reads first gates) k k) c.if-not-branch.false c.in_ok-visit.ensures in
    let R : List Mark → Type 0 = λ ms. IsResting first gates ms c.visit.new.order.items in
    let O : List Mark → Type 0 = λ ms. StaysSeen ms new in
    let S : List Mark → Type 0 = λ ms. (k : ℕ) → k < c.loop-root.root + 1 → mark_at ms k ≢ New in
    let seen : (k : ℕ) → k < c.loop-root.root + 1 → mark_at new k ≢ New = below_more (λ k. mark_at new k ≢ New) c.loop-root.root (λ k l. subst O value r.1 k (c.loop-root.invariant.seen k l)) r.2 in
    record {
      size = ap length e ∙ omega (arith, ap length value, c.loop-root.invariant.size);
      resting = subst R (sym e) r.0;
      seen = subst S (sym e) seen;
    }

pub returns : goal.returns
returns c =
    record {
      ordered = c.loop-root.invariant.resting.ordered;
      whole = λ k l. c.loop-root.invariant.resting.done k
          (done_from (mark_at c.loop-root.marks.items k) (c.loop-root.invariant.seen k (omega (arith, c.loop-root-test.false))) (c.loop-root.invariant.resting.shut k));
    }
