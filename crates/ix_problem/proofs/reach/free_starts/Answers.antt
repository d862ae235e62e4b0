use Rattle.std.proofs.Common.{◌≡◌, [], ◌∷◌, ◌++◌}
use Rattle.ix_problem.specs.Reaches.{free_into}
use Rattle.ix_problem.proofs.reach.free_starts.Goals as goal
use Rattle.std.proofs.Common.{arith}
use Rattle.ix_problem.specs.Reaches.{free_into}
use Rattle.ix_problem.proofs.Reaching.{grown}

pub ops-preserved : goal.ops-preserved
ops-preserved c =
    let items : c.push.new.self.items ≡ c.ops.starts.items ++ c.in_ok-starts_of.field-0 ∷ [] = c.in_ok-push.ensures.items in
    let is : c.in_ok-starts_of.field-0 ≡ free_into c.args.p.now c.ops.to c.args.p.now.edges = c.in_ok-starts_of.ensures in
    grown c.args.p.now c.ops.to c.ops.starts.items c.push.new.self.items c.in_ok-starts_of.field-0 c.ops.invariant.0 c.ops.invariant.1 items is

pub returns-clause-all : goal.returns-clause-all
returns-clause-all c = λ j h. c.ops.invariant.1 j (omega (arith, h, c.ops.invariant.0))
