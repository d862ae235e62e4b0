use Rattle.std.proofs.Common.{refl}
use Rattle.rv_unit.proofs.Surveying.{false_anywhere}
use Rattle.rv_unit.proofs.survey.nothing.Goals as goal

pub returns : goal.returns
returns c = λ lasts. record { granted = refl; whole = refl; finished = λ u lt. false_anywhere 72 u }
