use Rattle.hart_laws.proofs.AddingRows.{beside_empty, beside_break}
use Rattle.hart_laws.proofs.laws.adding_harts.Goals as goal

pub returns-clause-beside_empty : goal.returns-clause-beside_empty
returns-clause-beside_empty c = beside_empty

pub returns-clause-beside_break : goal.returns-clause-beside_break
returns-clause-beside_break c = beside_break
