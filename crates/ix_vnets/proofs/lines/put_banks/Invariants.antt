use Rattle.std.proofs.Common.{take}
use Rattle.std.specs.List.{AllZip}
use Rattle.ix_vnets.specs.Tables.{IsBankBy}
use Rattle.ix_vnets.proofs.lines.put_banks.Given as goal

abbrev pub invariant-loop-number : goal.invariant-loop-number
invariant-loop-number l = AllZip (IsBankBy l.widths) (take l.number l.updates) l.banks
