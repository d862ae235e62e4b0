use Rattle.std.proofs.Common.{◌≡◌, length, List}
use Rattle.ix_problem.specs.Reaches.{AreReaches}
use Rattle.ix_problem.proofs.chains.push_chains_from.Goals as goal
use Rattle.std.proofs.Common.{subst, sym, ap, ◌∙◌, arith, List}
use Rattle.std.specs.Prelude.{Option}
use Rattle.ix_problem.specs.declared.reach.Reach.{Reach}
use Rattle.ix_problem.specs.Reaches.{AreStartsOf}
use Rattle.ix_problem.proofs.Reaching.{leads_back, starts_at, starts_inside}
use Rattle.ix_problem.proofs.ChainLists.{chain_none, chain_some}
use Rattle.ix_problem.proofs.chains.push_chains_from.Goals.{in-Some+in_ok-push, in_default}

pub chain_to-requires-clause-back : goal.chain_to-requires-clause-back
chain_to-requires-clause-back c =
    let value : c.as_slice-reaches.result.now ≡ c.in_ok-reaches.reaches.items = c.as_slice-reaches.ensures.value in
    let are : AreReaches c.args.p.now c.args.source c.as_slice-reaches.result.now = subst (AreReaches c.args.p.now c.args.source) (sym value) c.in_ok-reaches.ensures.reaches in
    leads_back c.args.p.now c.args.source c.as_slice-reaches.result.now c.requires.valid are

pub chain_to-requires-clause-starts : goal.chain_to-requires-clause-starts
chain_to-requires-clause-starts c =
    let value : c.as_slice-reaches.result.now ≡ c.in_ok-reaches.reaches.items = c.as_slice-reaches.ensures.value in
    let size : length c.as_slice-reaches.result.now ≡ length c.in_ok-reaches.reaches.items = ap (λ (xs : List (Option Reach)). length xs) value in
    let are : AreStartsOf c.args.p.now c.ops.end c.index-starts-end.result =
    starts_at c.args.p.now c.args.starts.now c.ops.end c.index-starts-end.result c.requires.all
    (omega (arith, c.ops-test.true, size, c.in_ok-reaches.ensures.count, c.requires.count)) c.index-starts-end.is
    in
    starts_inside c.args.p.now c.ops.end (length c.as_slice-reaches.result.now) c.as_slice-starts.result.now c.requires.valid
    (subst (AreStartsOf c.args.p.now c.ops.end) (sym c.as_slice-starts.ensures) are) (omega (arith, c.ops-test.true))

pub ops-preserved : goal.ops-preserved
ops-preserved c =
    let value : c.as_slice-reaches.result.now ≡ c.in_ok-reaches.reaches.items = c.as_slice-reaches.ensures.value in
    let size : length c.as_slice-reaches.result.now ≡ length c.in_ok-reaches.reaches.items = ap (λ (xs : List (Option Reach)). length xs) value in
    let reached : AreReaches c.args.p.now c.args.source c.as_slice-reaches.result.now = subst (AreReaches c.args.p.now c.args.source) (sym value) c.in_ok-reaches.ensures.reaches in
    let at : AreStartsOf c.args.p.now c.ops.end c.index-starts-end.result =
    starts_at c.args.p.now c.args.starts.now c.ops.end c.index-starts-end.result c.requires.all
    (omega (arith, c.ops-test.true, size, c.in_ok-reaches.ensures.count, c.requires.count)) c.index-starts-end.is
    in
    let are : AreStartsOf c.args.p.now c.ops.end c.as_slice-starts.result.now = subst (AreStartsOf c.args.p.now c.ops.end) (sym c.as_slice-starts.ensures) at in
    elim c.match-chain.branch [
      | in-Some+in_ok-push w ↦
          chain_some c.args.p.now c.args.source c.ops.end c.as_slice-reaches.result.now c.as_slice-starts.result.now c.args.bounds.now c.ops.bounds c.match-chain.bounds
          c.in_ok-chain.chain w.in-Some.path reached (omega (arith, size, c.in_ok-reaches.ensures.count)) c.requires.source c.ops.invariant c.in_ok-chain.ensures w.in-Some.is
          (w.bounds-is ∙ w.in_ok-push.ensures.ok)
      | in_default w ↦
          (let same = chain_none c.args.p.now c.args.source c.ops.end c.as_slice-reaches.result.now c.as_slice-starts.result.now c.args.bounds.now c.ops.bounds c.in_ok-chain.chain
          are c.ops.invariant c.in_ok-chain.ensures w.in_default.is in
          (same.0, same.1, w.bounds-is ∙ same.2))
    ]
