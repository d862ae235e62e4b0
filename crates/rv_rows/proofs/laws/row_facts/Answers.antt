use Rattle.rv_rows.proofs.RowLaws.{row_facts}
use Rattle.rv_rows.proofs.laws.row_facts.Goals as goal

pub returns : goal.returns
returns c = row_facts
