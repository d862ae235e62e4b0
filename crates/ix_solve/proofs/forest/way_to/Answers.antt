use Rattle.std.proofs.Common.{◌≡◌, ◌+◌, ◌∙◌, get_or, arith}
use Rattle.std.proofs.lemmas.List.{get_or_read}
use Rattle.ix_solve.specs.Forests.{no_branch, branch_at}
use Rattle.ix_solve.proofs.Forests.{tail_start, tail_more_at, tail_path_at}
use Rattle.ix_solve.proofs.forest.way_to.Goals as goal

pub back-init : goal.back-init
back-init c =
    let net = c.args.network.now in
    let f = c.args.forest.now in
    rw c.new-steps.ensures.items (tail_start (net.root + 1) net.bounds net.arcs.items (λ v. get_or c.args.times.now v 0) f.roots f.log.items f.entries.items c.args.entry c.args.target c.requires.forest c.requires.entry)

pub back-preserved : goal.back-preserved
back-preserved c =
    let net = c.args.network.now in
    let f = c.args.forest.now in
    let s = c.index-branch.result.now in
    let w = c.back.invariant in
    let e : s ≡ branch_at f.log.items c.back.at = get_or_read f.log.items c.back.at s w.entry c.index-branch.ensures no_branch in
    tail_more_at (net.root + 1) net.bounds net.arcs.items (λ v. get_or c.args.times.now v 0) f.roots f.log.items f.entries.items c.back.at c.args.target c.back.steps.items _ s
    c.requires.forest (omega (arith, c.back-test.true)) w e c.in_ok-push.ensures.items

pub back-smaller : goal.back-smaller
back-smaller c =
    let f = c.args.forest.now in
    let s = c.index-branch.result.now in
    let w = c.back.invariant in
    let e : s ≡ branch_at f.log.items c.back.at = get_or_read f.log.items c.back.at s w.entry c.index-branch.ensures no_branch in
    let is = c.requires.forest.grown c.back.at (omega (arith, c.back-test.true)) w.entry in
    rw e is.earlier

pub returns-clause-path : goal.returns-clause-path
returns-clause-path c =
    let net = c.args.network.now in
    let f = c.args.forest.now in
    let s = c.index.result.now in
    let w = c.back.invariant in
    let e : s ≡ branch_at f.log.items c.back.at = get_or_read f.log.items c.back.at s w.entry c.index.ensures no_branch in
    tail_path_at net.bounds net.arcs.items (λ v. get_or c.args.times.now v 0) f.log.items c.back.at c.args.target c.back.steps.items c.from_vec.result s w e (c.from_vec.ensures ∙ c.reverse.ensures.items)
