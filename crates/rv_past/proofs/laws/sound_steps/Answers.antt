use Rattle.rv_past.proofs.Sound.{all_sound}
use Rattle.rv_past.proofs.laws.sound_steps.Goals as goal

pub returns : goal.returns
returns c = all_sound c.trial_laws.ensures.wide
