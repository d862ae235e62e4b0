use Rattle.std.proofs.Common.{◌≡◌, ◌++◌, map, take}
use Rattle.ix_net.specs.Signals.{bank_port}
use Rattle.ix_net.specs.Tables.{port_of}
use Rattle.ix_net.proofs.tables.add_banks.Given as goal

abbrev pub invariant-loop-bank : goal.invariant-loop-bank
invariant-loop-bank l = map port_of l.signals.items ≡ map port_of l.initial.signals.items ++ map bank_port (take l.bank-index l.banks)
