use Rattle.std.proofs.Common.{◌++◌, subst}
use Rattle.rv_ending.specs.Differing.{IsCompared}
use Rattle.rv_ending.proofs.state.pass.Goals as goal

pub returns-clause-compared : goal.returns-clause-compared
returns-clause-compared c = λ first so_far is. subst (λ l. IsCompared first c.args.text.now (so_far ++ l) c.with-next.result) c.bytes.ensures (c.with-next.ensures.compared first so_far is)
