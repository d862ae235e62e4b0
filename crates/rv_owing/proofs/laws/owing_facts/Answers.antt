use Rattle.rv_owing.proofs.Following.{owing_law}
use Rattle.rv_owing.proofs.laws.owing_facts.Goals as goal

pub returns : goal.returns
returns c = owing_law c.row_facts.ensures c.gone_facts.ensures
