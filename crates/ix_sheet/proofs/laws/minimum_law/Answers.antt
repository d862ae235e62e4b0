use Rattle.ix_sheet.proofs.Minima.{least_minimum}
use Rattle.ix_sheet.proofs.laws.minimum_law.Goals as goal

pub returns : goal.returns
returns c = least_minimum
