use Rattle.std.proofs.Common.{length}
use Rattle.ix_cert.specs.Faults.{times_of}
use Rattle.ix_cert.specs.Checks.{AreReached}
use Rattle.ix_cert.proofs.steps.first_passed.Goals as goal
use Rattle.std.proofs.Common.{subst, sym}
use Rattle.ix_cert.proofs.Paths.{tells_passed}

pub returns : goal.returns
returns c =
    let are : AreReached c.args.b.now.problem (times_of c.args.b.now) (length c.args.b.now.problem.edges) c.as_slice.result.now =
    subst (AreReached c.args.b.now.problem (times_of c.args.b.now) (length c.args.b.now.problem.edges)) (sym c.as_slice.ensures.value) c.in-Ok.ensures
    in
    tells_passed c.args.b.now.problem (times_of c.args.b.now) c.as_slice.result.now c.first_above.result c.requires.valid are c.first_above.ensures
