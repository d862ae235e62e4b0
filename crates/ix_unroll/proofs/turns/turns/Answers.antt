use Rattle.std.proofs.Common.{◌≡◌, ℕ, ◌+◌, ◌-◌, List, [], ◌∷◌, ◌++◌, ℤ, ap, ◌∙◌, sym, refl, arith, rules}
use Rattle.std.specs.Prelude.{FitsSigned}
use Rattle.std.specs.Int.{w32}
use Rattle.std.proofs.lemmas.Int.{to_z-of_z}
use Rattle.ix_tree.specs.Unrolling.{bound, turns, turns_from, next_value}
use Rattle.ix_unroll.specs.Scopes.{bindings}
use Rattle.ix_unroll.specs.Values.{seen_option}
use Rattle.ix_unroll.specs.Turning.{head_of}
use Rattle.ix_unroll.proofs.Turned.{all_after, after_more, after_broken, after_end, rest_of, none_left, turns_more, turns_last}
use Rattle.ix_unroll.proofs.turns.turns.Goals as goal

pub returns-in-Bound-clause-broken : goal.returns-in-Bound-clause-broken
returns-in-Bound-clause-broken c =
    let bs = bindings c.args.scope.now in
    let h = head_of c.args.head.now in
    let n = 127 - c.loop.counter in
    let vs = c.loop.values.items in
    (refl, c.loop.invariant ∙ ap (all_after vs) (turns_more _ n bs h (seen_option c.loop.value) (omega arith) ∙ c.in-Bound.ensures (rest_of n bs h)) ∙ after_broken vs bound)

pub returns-in-End-clause-values : goal.returns-in-End-clause-values
returns-in-End-clause-values c =
    let bs = bindings c.args.scope.now in
    let h = head_of c.args.head.now in
    let n = 127 - c.loop.counter in
    let vs = c.loop.values.items in
    c.loop.invariant ∙ ap (all_after vs) (turns_more _ n bs h (seen_option c.loop.value) (omega arith) ∙ c.in-End.ensures (rest_of n bs h)) ∙ after_end vs

pub loop-preserved : goal.loop-preserved
loop-preserved c =
    let bs = bindings c.args.scope.now in
    let h = head_of c.args.head.now in
    let k = c.loop.counter in
    let n = 127 - k in
    let vs = c.loop.values.items in
    let v = c.in-Turn.v in
    let left : n ≡ 128 - (k + 1) = omega arith in
    let fits : FitsSigned w32 v = search rules in
    let next = c.next-value.ensures ∙ ap (next_value bs h) (to_z-of_z w32 v fits) in
    let items = c.in_ok-push-in-Turn.ensures.items ∙ ap (λ (w : ℤ). vs ++ w ∷ []) (to_z-of_z w32 v fits) in
    c.loop.invariant
    ∙ ap (all_after vs) (turns_more _ n bs h (seen_option c.loop.value) (omega arith) ∙ c.in-Turn.ensures (rest_of n bs h))
    ∙ sym (after_more vs v (turns_from n bs h (next_value bs h v)))
    ∙ ap (λ (ws : List ℤ). all_after ws (turns_from n bs h (next_value bs h v))) (sym items)
    ∙ ap (λ (m : ℕ). all_after c.push.new.self.items (turns_from m bs h (next_value bs h v))) left
    ∙ ap (λ (x : _). all_after c.push.new.self.items (turns_from (128 - (k + 1)) bs h x)) (sym next)

pub returns-in-Bound-tried-clause-broken : goal.returns-in-Bound-tried-clause-broken
returns-in-Bound-tried-clause-broken c =
    let bs = bindings c.args.scope.now in
    let h = head_of c.args.head.now in
    let vs = c.loop.values.items in
    (refl, c.loop.invariant ∙ ap (all_after vs) (turns_last _ bs h (seen_option c.loop.value) (omega arith) ∙ c.in-Bound-tried.ensures none_left) ∙ after_broken vs bound)

pub returns-in-End-tried-clause-values : goal.returns-in-End-tried-clause-values
returns-in-End-tried-clause-values c =
    let bs = bindings c.args.scope.now in
    let h = head_of c.args.head.now in
    let vs = c.loop.values.items in
    c.loop.invariant ∙ ap (all_after vs) (turns_last _ bs h (seen_option c.loop.value) (omega arith) ∙ c.in-End-tried.ensures none_left) ∙ after_end vs

pub returns-in-Turn-tried-clause-broken : goal.returns-in-Turn-tried-clause-broken
returns-in-Turn-tried-clause-broken c =
    let bs = bindings c.args.scope.now in
    let h = head_of c.args.head.now in
    let vs = c.loop.values.items in
    (refl, c.loop.invariant ∙ ap (all_after vs) (turns_last _ bs h (seen_option c.loop.value) (omega arith) ∙ c.in-Turn-tried.ensures none_left) ∙ after_broken vs turns)
