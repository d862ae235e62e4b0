use Rattle.rv_harts.proofs.Slots.{slot_law, apart_law}
use Rattle.rv_harts.proofs.Apart.{two_law, rows_law, isolation_law}
use Rattle.rv_harts.proofs.laws.harts_are_apart.Goals as goal

pub returns-clause-slots : goal.returns-clause-slots
returns-clause-slots c = slot_law

pub returns-clause-apart : goal.returns-clause-apart
returns-clause-apart c = apart_law

pub returns-clause-two : goal.returns-clause-two
returns-clause-two c = two_law

pub returns-clause-rows : goal.returns-clause-rows
returns-clause-rows c = rows_law

pub returns-clause-isolated : goal.returns-clause-isolated
returns-clause-isolated c = isolation_law
