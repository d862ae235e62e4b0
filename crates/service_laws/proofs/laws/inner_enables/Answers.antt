use Rattle.service_laws.proofs.Inner.{inner_enable}
use Rattle.service_laws.proofs.laws.inner_enables.Goals as goal

pub returns : goal.returns
returns c = inner_enable
