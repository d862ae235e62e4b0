use Rattle.ix_unroll.proofs.TurnLaws.{turns_law}
use Rattle.ix_unroll.proofs.MarkLaws.{marks_law}
use Rattle.ix_unroll.proofs.laws.loop_laws.Goals as goal

pub returns-clause-turns : goal.returns-clause-turns
returns-clause-turns c = turns_law

pub returns-clause-marks : goal.returns-clause-marks
returns-clause-marks c = marks_law
