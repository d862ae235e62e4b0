use Rattle.ix_sweep.proofs.Later.{fits_later, own_forgotten}
use Rattle.ix_sweep.proofs.laws.period_law.Goals as goal

pub returns-clause-later : goal.returns-clause-later
returns-clause-later c = fits_later

pub returns-clause-own : goal.returns-clause-own
returns-clause-own c = own_forgotten
