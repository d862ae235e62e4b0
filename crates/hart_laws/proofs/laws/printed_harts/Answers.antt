use Rattle.hart_laws.proofs.PrintedRows.{beside_empty_printed, sharing_printed, late_printed}
use Rattle.hart_laws.proofs.laws.printed_harts.Goals as goal

pub returns-clause-beside_empty : goal.returns-clause-beside_empty
returns-clause-beside_empty c = beside_empty_printed

pub returns-clause-sharing : goal.returns-clause-sharing
returns-clause-sharing c = sharing_printed

pub returns-clause-late : goal.returns-clause-late
returns-clause-late c = late_printed
