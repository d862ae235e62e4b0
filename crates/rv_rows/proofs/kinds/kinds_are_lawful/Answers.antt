use Rattle.rv_rows.proofs.Lawful.{kinds_law}
use Rattle.rv_rows.proofs.kinds.kinds_are_lawful.Goals as goal

pub returns : goal.returns
returns c = kinds_law c.row_facts.ensures
