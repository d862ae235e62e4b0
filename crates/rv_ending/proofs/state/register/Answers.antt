use Rattle.std.proofs.Common.{sym, ◌++◌, subst}
use Rattle.rv_ending.specs.Differing.{IsCompared}
use Rattle.rv_ending.specs.Owed.{x_part}
use Rattle.rv_ending.proofs.state.register.Goals as goal

pub returns-in-Some-clause-compared : goal.returns-in-Some-clause-compared
returns-in-Some-clause-compared c = λ first so_far is.
    subst (λ o. IsCompared first c.args.text.now (so_far ++ x_part c.args.one.now.serial o) c.target.result) (sym c.in-Some.is) (c.target.ensures.compared first so_far is)
