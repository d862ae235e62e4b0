use Rattle.rv_watch.proofs.FitSettings.{fit_of}
use Rattle.rv_watch.proofs.fit.settings_fit.Goals as goal

pub returns : goal.returns
returns c = λ d image waits stands. fit_of d image waits (c.sight_laws.ensures.units d stands)
