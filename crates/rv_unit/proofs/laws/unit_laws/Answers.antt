use Rattle.rv_unit.proofs.Numbered.{first_law, numbering_law, apart_law, units_law}
use Rattle.rv_unit.proofs.Moving.{timed_law, goes_on_law, leaves_law, alone_law}
use Rattle.rv_unit.proofs.Showing.{written_law, frozen_law, next_law}
use Rattle.rv_unit.proofs.Fewer.{room_law}
use Rattle.rv_unit.proofs.laws.unit_laws.Goals as goal

pub returns-clause-first : goal.returns-clause-first
returns-clause-first c = first_law

pub returns-clause-numbering : goal.returns-clause-numbering
returns-clause-numbering c = numbering_law

pub returns-clause-apart : goal.returns-clause-apart
returns-clause-apart c = apart_law

pub returns-clause-written : goal.returns-clause-written
returns-clause-written c = written_law

pub returns-clause-frozen : goal.returns-clause-frozen
returns-clause-frozen c = frozen_law

pub returns-clause-next : goal.returns-clause-next
returns-clause-next c = next_law

pub returns-clause-timed : goal.returns-clause-timed
returns-clause-timed c = timed_law

pub returns-clause-room : goal.returns-clause-room
returns-clause-room c = room_law

pub returns-clause-goes_on : goal.returns-clause-goes_on
returns-clause-goes_on c = goes_on_law

pub returns-clause-leaves : goal.returns-clause-leaves
returns-clause-leaves c = leaves_law

pub returns-clause-units : goal.returns-clause-units
returns-clause-units c = units_law

pub returns-clause-alone : goal.returns-clause-alone
returns-clause-alone c = alone_law
