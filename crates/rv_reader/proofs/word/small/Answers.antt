use Rattle.std.proofs.Common.{sym, ◌∙◌, lit<}
use Rattle.rv_reader.proofs.Readings.{number_told}
use Rattle.rv_reader.proofs.word.small.Goals as goal

pub returns-in-Some : goal.returns-in-Some
returns-in-Some c = sym c.in-Some.is ∙ number_told 255 c.args.word.now c.number.result (lit< tt) c.number.ensures

pub returns-in-None : goal.returns-in-None
returns-in-None c = sym c.in-None.is ∙ number_told 255 c.args.word.now c.number.result (lit< tt) c.number.ensures
