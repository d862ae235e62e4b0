use Rattle.rv_unit.proofs.Surveying.{none_anywhere}
use Rattle.rv_unit.proofs.board.Board.new.Goals as goal

pub returns-clause-free : goal.returns-clause-free
returns-clause-free c = λ n. none_anywhere 48 n
