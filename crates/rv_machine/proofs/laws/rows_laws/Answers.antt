use Rattle.rv_machine.proofs.Promised.{Sights, rows_law, state_law, shown_law, text_law}
use Rattle.rv_machine.proofs.laws.rows_laws.Goals as goal

pub returns-clause-rows : goal.returns-clause-rows
returns-clause-rows c =
    let sights : Sights = record { early = c.sight_laws.ensures.early; exact = c.sight_laws.ensures.exact; keeps = c.sight_laws.ensures.keeps; tails = c.sight_laws.ensures.tails; times = c.sight_laws.ensures.times; jumps = c.sight_laws.ensures.jumps; units = c.sight_laws.ensures.units; written = c.sight_laws.ensures.written; whole = c.trial_laws.ensures.whole; blocks_wide = c.trial_laws.ensures.wide; answers = c.trial_laws.ensures.step } in
    rows_law sights

pub returns-clause-state : goal.returns-clause-state
returns-clause-state c =
    let sights : Sights = record { early = c.sight_laws.ensures.early; exact = c.sight_laws.ensures.exact; keeps = c.sight_laws.ensures.keeps; tails = c.sight_laws.ensures.tails; times = c.sight_laws.ensures.times; jumps = c.sight_laws.ensures.jumps; units = c.sight_laws.ensures.units; written = c.sight_laws.ensures.written; whole = c.trial_laws.ensures.whole; blocks_wide = c.trial_laws.ensures.wide; answers = c.trial_laws.ensures.step } in
    state_law sights

pub returns-clause-text : goal.returns-clause-text
returns-clause-text c =
    let sights : Sights = record { early = c.sight_laws.ensures.early; exact = c.sight_laws.ensures.exact; keeps = c.sight_laws.ensures.keeps; tails = c.sight_laws.ensures.tails; times = c.sight_laws.ensures.times; jumps = c.sight_laws.ensures.jumps; units = c.sight_laws.ensures.units; written = c.sight_laws.ensures.written; whole = c.trial_laws.ensures.whole; blocks_wide = c.trial_laws.ensures.wide; answers = c.trial_laws.ensures.step } in
    text_law sights

pub returns-clause-shown : goal.returns-clause-shown
returns-clause-shown c =
    let sights : Sights = record { early = c.sight_laws.ensures.early; exact = c.sight_laws.ensures.exact; keeps = c.sight_laws.ensures.keeps; tails = c.sight_laws.ensures.tails; times = c.sight_laws.ensures.times; jumps = c.sight_laws.ensures.jumps; units = c.sight_laws.ensures.units; written = c.sight_laws.ensures.written; whole = c.trial_laws.ensures.whole; blocks_wide = c.trial_laws.ensures.wide; answers = c.trial_laws.ensures.step } in
    shown_law sights
