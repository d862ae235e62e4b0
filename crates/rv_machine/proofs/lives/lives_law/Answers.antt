use Rattle.rv_machine.proofs.Promised.{Sights}
use Rattle.rv_machine.proofs.LivesTold.{lives_law_of}
use Rattle.rv_machine.proofs.lives.lives_law.Goals as goal

pub returns : goal.returns
returns c =
    let sights : Sights = record { early = c.sight_laws.ensures.early; exact = c.sight_laws.ensures.exact; keeps = c.sight_laws.ensures.keeps; tails = c.sight_laws.ensures.tails; times = c.sight_laws.ensures.times; jumps = c.sight_laws.ensures.jumps; units = c.sight_laws.ensures.units; written = c.sight_laws.ensures.written; whole = c.trial_laws.ensures.whole; blocks_wide = c.trial_laws.ensures.wide; answers = c.trial_laws.ensures.step } in
    lives_law_of sights c.behaviour_laws.ensures.few c.depend_laws.ensures.times
