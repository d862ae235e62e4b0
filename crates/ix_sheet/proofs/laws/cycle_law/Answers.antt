use Rattle.ix_sheet.proofs.Cycles.{no_schedule}
use Rattle.ix_sheet.proofs.laws.cycle_law.Goals as goal

pub returns : goal.returns
returns c = no_schedule
