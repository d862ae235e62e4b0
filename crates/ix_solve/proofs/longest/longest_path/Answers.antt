use Rattle.std.proofs.Common.{◌≡◌, get_or}
use Rattle.ix_solve.specs.Networks.{IsLongestPath}
use Rattle.ix_solve.proofs.Residuals.{longest}
use Rattle.ix_solve.proofs.Paths.{steps_of}
use Rattle.ix_solve.proofs.Starts.{above_root}
use Rattle.ix_solve.proofs.longest.longest_path.Goals as goal

pub times_of-requires-clause-above : goal.times_of-requires-clause-above
times_of-requires-clause-above c =
    let net = c.args.network.now in
    above_root net.root net.arcs.items (λ v. get_or c.in_ok-search.search.reach.items v 0) c.requires.network.framed c.in_ok-search.ensures.settled

pub returns-clause-longest : goal.returns-clause-longest
returns-clause-longest c =
    let net = c.args.network.now in
    let s = c.in_ok-search.search in
    let js = c.in_ok-steps.steps.items in
    let t = c.in_ok-steps.ensures in
    let e = c.in_ok-search.ensures in
    let times = c.in_ok-times.ensures in
    let is : IsLongestPath net (λ v. get_or c.in_ok-times.times.items v 0) s.source c.args.target (steps_of net s.log.items js)
    = longest s.source c.args.target 255 510 net s.reach.items s.last.items s.log.items js (λ v. get_or c.in_ok-times.times.items v 0) e.search.0 c.requires.network e.settled t.leads t.apart t.steps t.tight times.1 in
    let told : c.in_ok-steps-2.steps ≡ steps_of net s.log.items js = rw (c.as_slice.ensures.value, c.as_slice-2.ensures.value) at c.in_ok-steps-2.ensures in
    rw told (rw e.search.1 at is)
