use Rattle.port_laws.proofs.FreezingInputs.{slow_are, quick_are, slow_frozen_refused, moves_while_frozen_refused, still_while_empty_refused, retires_unseen_refused}
use Rattle.port_laws.proofs.laws.freezing_run.Goals as goal

pub returns-clause-slow : goal.returns-clause-slow
returns-clause-slow c = slow_are

pub returns-clause-quick : goal.returns-clause-quick
returns-clause-quick c = quick_are

pub returns-clause-slow_frozen : goal.returns-clause-slow_frozen
returns-clause-slow_frozen c = slow_frozen_refused

pub returns-clause-moves_while_frozen : goal.returns-clause-moves_while_frozen
returns-clause-moves_while_frozen c = moves_while_frozen_refused

pub returns-clause-still_while_empty : goal.returns-clause-still_while_empty
returns-clause-still_while_empty c = still_while_empty_refused

pub returns-clause-retires_unseen : goal.returns-clause-retires_unseen
returns-clause-retires_unseen c = retires_unseen_refused
