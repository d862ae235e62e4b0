-- A law on schedules (there are finitely many that are legal).
use Rattle.std.specs.Prelude.{ℕ}
use Rattle.ix_sheet.specs.declared.problem.Problem.{Problem}
use Rattle.ix_sheet.specs.Schedules.{IsValidProblem, HasSchedule, IsChosen}

-- a chosen schedule exists where a legal one does
abbrev pub ExistenceLaw : Type 0
ExistenceLaw = (p : Problem) → IsValidProblem p → HasSchedule p → (t : ℕ → ℕ) × IsChosen p t
