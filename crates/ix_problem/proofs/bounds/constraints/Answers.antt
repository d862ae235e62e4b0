use Rattle.std.proofs.Common.{length}
use Rattle.ix_problem.proofs.bounds.constraints.Goals as goal
use Rattle.ix_problem.specs.Reaches.{HasChains}
use Rattle.ix_problem.proofs.BoundLists.{four_parts, are_constraints, meet_where_legal}

pub returns-clause-are : goal.returns-clause-are
returns-clause-are c =
    let has : HasChains c.args.p.now (length c.args.p.now.ops) c.push_edges.new.bounds c.push_chains.new.bounds = c.in_ok-push_chains.ensures in
    are_constraints c.args.p.now c.push_chains.new.bounds has.paths c.requires has.chains
    (four_parts c.args.p.now c.new-bounds.result c.push_earlies.new.bounds c.push_lates.new.bounds c.push_edges.new.bounds c.push_chains.new.bounds has.paths
    c.new-bounds.ensures c.in_ok-push_earlies.ensures c.in_ok-push_lates.ensures c.in_ok-push_edges.ensures has.joined)

pub returns-clause-legal : goal.returns-clause-legal
returns-clause-legal c =
    let has : HasChains c.args.p.now (length c.args.p.now.ops) c.push_edges.new.bounds c.push_chains.new.bounds = c.in_ok-push_chains.ensures in
    meet_where_legal c.args.p.now c.push_chains.new.bounds c.requires
    (are_constraints c.args.p.now c.push_chains.new.bounds has.paths c.requires has.chains
    (four_parts c.args.p.now c.new-bounds.result c.push_earlies.new.bounds c.push_lates.new.bounds c.push_edges.new.bounds c.push_chains.new.bounds has.paths
    c.new-bounds.ensures c.in_ok-push_earlies.ensures c.in_ok-push_lates.ensures c.in_ok-push_edges.ensures has.joined))
