use Rattle.rv_tried.proofs.Stepping.{tried_step}
use Rattle.rv_tried.proofs.Wholes.{whole_law, wide_law}
use Rattle.rv_tried.proofs.laws.trial_laws.Goals as goal

pub returns : goal.returns
returns c = record { whole = whole_law; wide = wide_law; step = tried_step }
