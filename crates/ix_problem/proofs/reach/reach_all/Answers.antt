use Rattle.std.proofs.Common.{◌≡◌, ◌≤◌, length, ℕ, List, [], ◌∷◌, ◌++◌}
use Rattle.ix_problem.specs.Reaches.{reach_after}
use Rattle.ix_problem.proofs.reach.reach_all.Goals as goal
use Rattle.std.proofs.Common.{sym, ap, ◌∙◌, arith, subst, [], ◌∷◌, get_or}
use Rattle.ix_problem.specs.Reaches.{AreStartsOf}
use Rattle.ix_problem.proofs.Reaching.{starts_at, starts_inside, kept_push}
use Rattle.ix_sheet.specs.declared.problem.Node.{Node}
use Rattle.ix_problem.specs.declared.reach.Reach.{Reach}
use Rattle.std.specs.Prelude.{Option}

abbrev blank : Node
blank = record { delay = 0; latency = 0; weight = 0; early = 0; late = 0 }

pub reach_of-reach-requires-clause-inside : goal.reach_of-reach-requires-clause-inside
reach_of-reach-requires-clause-inside c =
    let starts : List ℕ = c.as_slice-in-ops.result.now in
    let ops : c.as_slice-ops.result.now ≡ c.args.p.now.ops = c.as_slice-ops.ensures in
    let before : c.as_slice.result.now ≡ c.ops.reaches.items = c.as_slice.ensures.value in
    let size : length c.as_slice.result.now ≡ length c.ops.reaches.items = ap (λ (xs : List (Option Reach)). length xs) before in
    let all : length c.as_slice-ops.result.now ≡ length c.args.p.now.ops = ap (λ (xs : List Node). length xs) ops in
    let are : AreStartsOf c.args.p.now c.ops.at c.index-starts-at.result =
    starts_at c.args.p.now c.args.starts.now c.ops.at c.index-starts-at.result c.requires.all (omega (arith, c.ops-test.true, all, c.requires.count)) c.index-starts-at.is
    in
    starts_inside c.args.p.now c.ops.at (length c.as_slice.result.now) starts c.requires.valid (subst (AreStartsOf c.args.p.now c.ops.at) (sym c.as_slice-in-ops.ensures) are)
    (omega (arith, c.ops.invariant.0, size))

pub ops-preserved : goal.ops-preserved
ops-preserved c =
    let starts : List ℕ = c.as_slice-in-ops.result.now in
    let ops : c.as_slice-ops.result.now ≡ c.args.p.now.ops = c.as_slice-ops.ensures in
    let before : c.as_slice.result.now ≡ c.ops.reaches.items = c.as_slice.ensures.value in
    let all : length c.as_slice-ops.result.now ≡ length c.args.p.now.ops = ap (λ (xs : List Node). length xs) ops in
    let are : AreStartsOf c.args.p.now c.ops.at c.index-starts-at.result =
    starts_at c.args.p.now c.args.starts.now c.ops.at c.index-starts-at.result c.requires.all (omega (arith, c.ops-test.true, all, c.requires.count)) c.index-starts-at.is
    in
    let delay : ℕ = (get_or c.as_slice-ops.result.now c.ops.at blank).delay in
    let same : delay ≡ (get_or c.args.p.now.ops c.ops.at blank).delay = ap (λ (xs : List Node). (get_or xs c.ops.at blank).delay) ops in
    let small : delay ≤ 4294967295 = c.reach_of-reach.ensures.small in
    let new : c.reach_of-reach.result ≡ reach_after c.as_slice.result.now c.args.source c.ops.at delay starts = c.reach_of-reach.ensures.is in
    let over : c.reach_of-reach.result ≡ reach_after c.ops.reaches.items c.args.source c.ops.at delay starts =
    new ∙ ap (λ (xs : List (Option Reach)). reach_after xs c.args.source c.ops.at delay starts) before
    in
    let items : c.push.new.self.items ≡ c.ops.reaches.items ++ c.reach_of-reach.result ∷ [] = c.in_ok-push.ensures.items in
    kept_push c.args.p.now c.args.source c.ops.at delay c.ops.reaches.items c.push.new.self.items starts c.requires.valid c.ops.invariant
    (subst (AreStartsOf c.args.p.now c.ops.at) (sym c.as_slice-in-ops.ensures) are) same small
    (items ∙ ap (λ (r : Option Reach). c.ops.reaches.items ++ r ∷ []) over)
