use Rattle.std.proofs.Common.{◌++◌, subst}
use Rattle.std.proofs.lemmas.List.{append_assoc}
use Rattle.rv_ending.specs.Differing.{IsCompared}
use Rattle.rv_ending.specs.Owed.{x_part, customs_from}
use Rattle.rv_ending.proofs.state.lines_of.Goals as goal

pub returns-clause-compared : goal.returns-clause-compared
returns-clause-compared c = λ first so_far is.
    let one = c.args.one.now in
    let x = x_part one.serial one.asks.spawned in
    subst (λ l. IsCompared first c.args.text.now l c.customs.result) (append_assoc so_far x (customs_from one 0 16)) (c.customs.ensures.compared first (so_far ++ x) (c.register-with_x.ensures.compared first so_far is))
