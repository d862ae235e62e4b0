use Rattle.ix_sheet.proofs.Paths.{first_at, last_at}
use Rattle.ix_sheet.proofs.problem.arc_of_bound.Goals as goal

pub returns-in-Chain : goal.returns-in-Chain
returns-in-Chain c = rw (c.in-Chain.is, c.as_slice-path.ensures, first_at c.in-Chain.path, last_at c.in-Chain.path)
