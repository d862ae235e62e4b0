use Rattle.ix_sheet.proofs.Duality.{tight_if_cheapest, chosen_by_flow, one_chosen}
use Rattle.ix_sheet.proofs.laws.chosen_law.Goals as goal

pub returns-clause-tight : goal.returns-clause-tight
returns-clause-tight c = tight_if_cheapest

pub returns-clause-chosen : goal.returns-clause-chosen
returns-clause-chosen c = chosen_by_flow

pub returns-clause-one : goal.returns-clause-one
returns-clause-one c = one_chosen
