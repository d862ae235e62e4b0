use Rattle.ix_sheet.specs.Schedules.{IsValidProblem}
use Rattle.schedule_cases.proofs.problems.problem.Given as goal

abbrev pub invariant-loop : goal.invariant-loop
invariant-loop l = IsValidProblem l.p
