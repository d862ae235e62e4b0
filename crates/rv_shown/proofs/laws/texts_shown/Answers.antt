use Rattle.rv_shown.proofs.Texts.{text_law}
use Rattle.rv_shown.proofs.laws.texts_shown.Goals as goal

pub returns : goal.returns
returns c = text_law
