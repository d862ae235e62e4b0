use Rattle.ix_sheet.proofs.ProblemLemmas.{problem_is_valid}
use Rattle.ix_sheet.proofs.laws.problem_law.Goals as goal

pub returns : goal.returns
returns c = problem_is_valid
