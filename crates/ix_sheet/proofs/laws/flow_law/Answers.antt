use Rattle.ix_sheet.proofs.Duality.{cheapest_by_flow}
use Rattle.ix_sheet.proofs.laws.flow_law.Goals as goal

pub returns : goal.returns
returns c = cheapest_by_flow
