use Rattle.std.proofs.Common.{refl}
use Rattle.ix_cert.specs.Layout.{report_lines}
use Rattle.ix_lines.specs.Lines.{text_of}
use Rattle.ix_cert.proofs.Outcomes.{printed}
use Rattle.ix_cert.proofs.Verdicts.{print_back}
use Rattle.ix_cert.proofs.laws.print_law.Goals as goal

pub returns-clause-text : goal.returns-clause-text
returns-clause-text c = λ r f. printed (text_of (report_lines r)) r f refl

pub returns-clause-one : goal.returns-clause-one
returns-clause-one c = print_back
