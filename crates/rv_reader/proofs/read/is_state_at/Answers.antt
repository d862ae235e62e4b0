use Rattle.rv_reader.proofs.RowsAt.{state_told, state_none}
use Rattle.rv_reader.proofs.read.is_state_at.Goals as goal

pub returns-in-Some : goal.returns-in-Some
returns-in-Some c = state_told c.args.text.now c.args.at c.in-Some.line.now c.is.result c.in-Some.ensures c.is.ensures

pub returns-in-None : goal.returns-in-None
returns-in-None c = state_none c.args.text.now c.args.at c.in-None.ensures
