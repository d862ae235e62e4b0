use Rattle.constant_laws.proofs.Values.{constants_law}
use Rattle.constant_laws.proofs.laws.constant_laws.Goals as goal

pub returns : goal.returns
returns c = constants_law c.form_laws.ensures.texts c.form_laws.ensures.expressions c.typing_laws.ensures.heads
