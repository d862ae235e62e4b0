use Rattle.rv_isa.proofs.TableLemmas.{same_row, apart}
use Rattle.rv_isa.proofs.law.rows_are_apart.Goals as goal

pub returns-clause-patterns : goal.returns-clause-patterns
returns-clause-patterns c = apart

pub returns-clause-one_row : goal.returns-clause-one_row
returns-clause-one_row c = same_row
