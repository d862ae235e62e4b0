use Rattle.std.proofs.Common.{subst, sym}
use Rattle.ix_graph.specs.declared.graph.Mode.TheVariants.{InPipeline}
use Rattle.ix_sheet.specs.Schedules.{IsValidProblem}
use Rattle.ix_sheet.proofs.ProblemLemmas.{problem_is_valid}
use Rattle.library_tests.proofs.problems.problem_by.Goals as goal

pub returns : goal.returns
returns c = subst IsValidProblem (sym c.in_ok-problem_of.ensures.problem) (problem_is_valid c.in_ok-graph.graph c.in_ok-sheet.sheet InPipeline c.in_ok-graph.ensures)
