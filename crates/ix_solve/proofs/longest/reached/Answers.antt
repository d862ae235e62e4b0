use Rattle.std.proofs.Common.{◌≡◌, ◌≤◌, ◌∙◌}
use Rattle.ix_solve.specs.Search.{IsOverdue}
use Rattle.ix_solve.proofs.Lifts.{none_late, settled_all}
use Rattle.ix_solve.proofs.longest.reached.Goals as goal

pub returns-clause-settled : goal.returns-clause-settled
returns-clause-settled c =
    let net = c.args.network.now in
    let s = c.settle.new.search in
    let e = c.in_ok-settle.ensures in
    let source : s.source ≡ c.args.source = e.search.1 ∙ c.in_ok-search.ensures.source in
    let inside : s.source ≤ net.root = rw source c.requires.inside in
    settled_all (IsOverdue net s) c.in_ok-settle.field-0 e.settled e.late
    (λ k over. none_late net s k e.search.0 c.requires.feasible c.requires.framed.inside inside over)
