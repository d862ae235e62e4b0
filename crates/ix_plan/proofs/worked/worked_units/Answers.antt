use Rattle.std.proofs.Common.{refl}
use Rattle.ix_plan.proofs.worked.worked_units.Goals as goal

pub returns : goal.returns
returns c = record { enters = refl; both = refl; none_written = refl; lower = refl; frozen = refl; written = refl; stays = refl; other = refl; empty = refl }
