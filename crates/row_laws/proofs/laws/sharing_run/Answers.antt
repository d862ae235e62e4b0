use Rattle.row_laws.proofs.SharingRows.{sharing_lawful, drains_first_refused, block_first, block_kept, applied_before, instruction_last, writes_own, block_by_unit_refused}
use Rattle.row_laws.proofs.laws.sharing_run.Goals as goal

pub returns-clause-rows : goal.returns-clause-rows
returns-clause-rows c = sharing_lawful

pub returns-clause-block_first : goal.returns-clause-block_first
returns-clause-block_first c = block_first

pub returns-clause-applied : goal.returns-clause-applied
returns-clause-applied c = applied_before

pub returns-clause-instruction_last : goal.returns-clause-instruction_last
returns-clause-instruction_last c = instruction_last

pub returns-clause-writes_own : goal.returns-clause-writes_own
returns-clause-writes_own c = writes_own

pub returns-clause-block_by_unit : goal.returns-clause-block_by_unit
returns-clause-block_by_unit c = block_by_unit_refused

pub returns-clause-block_lost : goal.returns-clause-block_lost
returns-clause-block_lost c = block_kept

pub returns-clause-drains_first : goal.returns-clause-drains_first
returns-clause-drains_first c = drains_first_refused
