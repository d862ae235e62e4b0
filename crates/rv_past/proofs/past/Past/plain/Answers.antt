use Rattle.std.proofs.Common.{◌∙◌, sym, arith}
use Rattle.ix_extension.specs.Extensions.{view_extension}
use Rattle.rv_past.proofs.Plainly.{guess_is}
use Rattle.rv_past.proofs.past.Past.plain.Goals as goal

pub returns-in-Some-clause-plain : goal.returns-in-Some-clause-plain
returns-in-Some-clause-plain c = λ k earlier same jumps is.
    let least = k.shape.lawful.least in
    guess_is k earlier c.args.row.now c.args.fetch (omega (arith, least)) (view_extension c.args.ext.now) c.args.self.now c.in-Some.cell c.args.shape c.guess_behind.result same jumps is
    (sym c.going_on.ensures ∙ c.in-Some.is) c.guess_behind.ensures.guess
