use Rattle.rv_reader.proofs.Readings.{behind_told}
use Rattle.rv_reader.proofs.word.behind.Goals as goal

pub returns : goal.returns
returns c = behind_told c.args.front.now c.args.text.now c.behind.result c.behind.ensures
