use Rattle.rv_machine.proofs.Promised.{Sights}
use Rattle.rv_machine.proofs.ReadsGraphs.{graph_laws}
use Rattle.rv_machine.proofs.ReadsLaws.{reads_law}
use Rattle.rv_machine.proofs.reads.reads_law.Goals as goal

pub returns : goal.returns
returns c =
    let sights : Sights = record { early = c.sight_laws.ensures.early; exact = c.sight_laws.ensures.exact; keeps = c.sight_laws.ensures.keeps; tails = c.sight_laws.ensures.tails; times = c.sight_laws.ensures.times; jumps = c.sight_laws.ensures.jumps; units = c.sight_laws.ensures.units; written = c.sight_laws.ensures.written; whole = c.trial_laws.ensures.whole; blocks_wide = c.trial_laws.ensures.wide; answers = c.trial_laws.ensures.step } in
    reads_law sights (graph_laws c.graph_laws.ensures.valid c.graph_laws.ensures.effect c.graph_laws.ensures.values c.behaviour_laws.ensures.typed c.behaviour_laws.ensures.one_access c.form_laws.ensures.texts)
