use Rattle.rv_wave.proofs.Lawful.{lawful}
use Rattle.rv_wave.proofs.laws.wave_laws.Goals as goal

pub returns : goal.returns
returns c = record { lawful = lawful c.rows_laws.ensures.rows c.rows_laws.ensures.shown c.promise_law.ensures }
