use Rattle.rv_rows.proofs.Past.{gone_law}
use Rattle.rv_rows.proofs.gone.gone_facts.Goals as goal

pub returns : goal.returns
returns c = gone_law c.row_facts.ensures
