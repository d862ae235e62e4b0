use Rattle.ix_sheet.proofs.BoundLemmas.{legal_is_bounds}
use Rattle.ix_sheet.proofs.laws.bounds_law.Goals as goal

pub returns : goal.returns
returns c = legal_is_bounds
