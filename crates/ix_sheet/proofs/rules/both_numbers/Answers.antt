use Rattle.std.proofs.Common.{sym, arith}
use Rattle.ix_sheet.proofs.Pairs.{two_numbers-short, two_numbers-long}
use Rattle.ix_sheet.proofs.rules.both_numbers.Goals as goal

pub returns-in_default : goal.returns-in_default
returns-in_default c = sym (two_numbers-short _ (omega arith))

pub returns-in_default-2 : goal.returns-in_default-2
returns-in_default-2 c = sym (two_numbers-long _ (omega arith))
