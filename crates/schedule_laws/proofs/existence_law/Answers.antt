use Rattle.schedule_laws.proofs.Existing.{chosen_exists}
use Rattle.schedule_laws.proofs.existence_law.Goals as goal

pub returns : goal.returns
returns c = chosen_exists
