use Rattle.rv_sight.proofs.Seeing.{Laws}
use Rattle.rv_sight.proofs.Having.{in_units}
use Rattle.rv_sight.proofs.Jumping.{jump_law}
use Rattle.rv_sight.proofs.Sights.{early_law, exact_law, keeps_law, written_law, tail_law}
use Rattle.rv_sight.proofs.Timing.{time_law}
use Rattle.rv_sight.proofs.laws.sight_laws.Goals as goal

pub returns-clause-early : goal.returns-clause-early
returns-clause-early c d stands =
    let laws : Laws = record { depends = c.depend_laws.ensures.depends; before_memory = c.depend_laws.ensures.before_memory; times = c.depend_laws.ensures.times; single = c.depend_laws.ensures.single; blind = c.depend_laws.ensures.blind; unwritten = c.depend_laws.ensures.unwritten } in
    early_law laws d stands

pub returns-clause-exact : goal.returns-clause-exact
returns-clause-exact c d stands =
    let laws : Laws = record { depends = c.depend_laws.ensures.depends; before_memory = c.depend_laws.ensures.before_memory; times = c.depend_laws.ensures.times; single = c.depend_laws.ensures.single; blind = c.depend_laws.ensures.blind; unwritten = c.depend_laws.ensures.unwritten } in
    exact_law laws d stands

pub returns-clause-keeps : goal.returns-clause-keeps
returns-clause-keeps c d stands =
    let laws : Laws = record { depends = c.depend_laws.ensures.depends; before_memory = c.depend_laws.ensures.before_memory; times = c.depend_laws.ensures.times; single = c.depend_laws.ensures.single; blind = c.depend_laws.ensures.blind; unwritten = c.depend_laws.ensures.unwritten } in
    keeps_law laws d stands

pub returns-clause-written : goal.returns-clause-written
returns-clause-written c d stands =
    let laws : Laws = record { depends = c.depend_laws.ensures.depends; before_memory = c.depend_laws.ensures.before_memory; times = c.depend_laws.ensures.times; single = c.depend_laws.ensures.single; blind = c.depend_laws.ensures.blind; unwritten = c.depend_laws.ensures.unwritten } in
    written_law laws d stands

pub returns-clause-tails : goal.returns-clause-tails
returns-clause-tails c d stands =
    let laws : Laws = record { depends = c.depend_laws.ensures.depends; before_memory = c.depend_laws.ensures.before_memory; times = c.depend_laws.ensures.times; single = c.depend_laws.ensures.single; blind = c.depend_laws.ensures.blind; unwritten = c.depend_laws.ensures.unwritten } in
    tail_law laws d stands

pub returns-clause-times : goal.returns-clause-times
returns-clause-times c d stands = time_law c.depend_laws.ensures.times d stands

pub returns-clause-jumps : goal.returns-clause-jumps
returns-clause-jumps c d stands = jump_law c.depend_laws.ensures.blind d stands

pub returns-clause-units : goal.returns-clause-units
returns-clause-units c d stands = in_units d stands c.behaviour_laws.ensures.few c.depend_laws.ensures.times c.unit_laws.ensures.units c.unit_laws.ensures.numbering
