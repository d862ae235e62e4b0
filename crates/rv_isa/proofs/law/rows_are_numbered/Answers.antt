use Rattle.std.proofs.Common.{refl}
use Rattle.rv_isa.proofs.law.rows_are_numbered.Goals as goal

pub returns : goal.returns
returns c = (refl, refl, refl, refl, refl, refl, refl, refl, refl, refl, refl, refl, refl, refl, refl, refl, refl, refl, refl, refl, refl, refl, refl, refl, refl, refl, refl, refl, refl, refl, refl, refl, refl, refl, refl, refl, refl, refl, refl, refl, refl)
