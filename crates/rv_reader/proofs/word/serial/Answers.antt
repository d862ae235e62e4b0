use Rattle.std.proofs.Common.{sym, ◌∙◌, lit<}
use Rattle.rv_reader.proofs.Readings.{number_told}
use Rattle.rv_reader.proofs.word.serial.Goals as goal

pub returns-in-Some : goal.returns-in-Some
returns-in-Some c = sym c.in-Some.is ∙ number_told 4294967295 c.args.word.now c.number.result (lit< tt) c.number.ensures

pub returns-in-None : goal.returns-in-None
returns-in-None c = sym c.in-None.is ∙ number_told 4294967295 c.args.word.now c.number.result (lit< tt) c.number.ensures
