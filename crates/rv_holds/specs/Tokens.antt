-- The tokens of a pipeline's stages, stage 0 first: a token's older ones are those of the later stages (this project's choice).
use Rattle.std.specs.Prelude.{List, map, Option, Some, None, Bool, false}
use Rattle.rv_trace.specs.declared.row.Cell.{Cell}
use Rattle.rv_seq.specs.declared.commit.Commit.{Commit}
use Rattle.rv_seq.specs.declared.commit.Stop.{Stop}
use Rattle.rv_seq.specs.declared.answer.StepAnswer.{StepAnswer}
use Rattle.rv_seq.specs.declared.answer.StepAnswer.TheVariants.{Done, Stopped}
use Rattle.rv_tried.specs.declared.trial.Trial.{Trial}
use Rattle.rv_holds.specs.declared.token.Token.{Token}

abbrev pub Slots : Type 0
Slots = List (Option Token)

-- the first of two
abbrev pub or_else : {A : Type 0} → Option A → Option A → Option A
or_else (Some a) b = Some a
or_else None b = b

abbrev pub stop_in : StepAnswer → Option Stop
stop_in (Done c) = None
stop_in (Stopped stop) = Some stop

abbrev pub commit_in : StepAnswer → Option Commit
commit_in (Done c) = Some c
commit_in (Stopped stop) = None

-- the stop that a token makes, and what it writes, once it has been tried
abbrev pub tried_stop : Option Trial → Option Stop
tried_stop None = None
tried_stop (Some trial) = stop_in trial.answer

abbrev pub tried_commit : Option Trial → Option Commit
tried_commit None = None
tried_commit (Some trial) = commit_in trial.answer

abbrev pub stop_of : Token → Option Stop
stop_of t = tried_stop t.trial

abbrev pub commit_of : Token → Option Commit
commit_of t = tried_commit t.trial

-- does it access the memory, its condition true?
abbrev pub tried_access : Option Trial → Bool
tried_access None = false
tried_access (Some trial) = trial.accesses

abbrev pub makes_access : Token → Bool
makes_access t = tried_access t.trial

-- the cells of slots
abbrev pub cell_of : Option Token → Option Cell
cell_of None = None
cell_of (Some t) = Some t.cell

abbrev pub cells_of : Slots → List (Option Cell)
cells_of = map cell_of
