use Rattle.ix_vline.proofs.Going.{started_goes_on}
use Rattle.ix_vline.proofs.KindLines.{fitting_stands}
use Rattle.ix_vline.proofs.Standing.{lines_fit}
use Rattle.ix_vline.proofs.laws.line_laws.Goals as goal

pub returns-clause-lines : goal.returns-clause-lines
returns-clause-lines c = lines_fit

pub returns-clause-fitting : goal.returns-clause-fitting
returns-clause-fitting c = fitting_stands

pub returns-clause-started : goal.returns-clause-started
returns-clause-started c = started_goes_on
