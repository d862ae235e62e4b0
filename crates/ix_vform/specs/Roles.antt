-- What a name is first.
use Rattle.std.specs.Prelude.{List, ◌++◌}
use Rattle.ix_net.specs.declared.netlist.Port.{Port}
use Rattle.ix_verilog.specs.declared.source.Source.{Source}
use Rattle.ix_verilog.specs.Words.{Word}
use Rattle.ix_verilog.specs.Subset.{Names, assigned}
use Rattle.ix_vform.specs.declared.role.Role.{Role}
use Rattle.ix_vform.specs.declared.role.Role.TheVariants.{Input, Assigned, Register}

-- the name of one of the ports is such a one
abbrev pub HasOne : (Word → Type 0) → List Port → Type 0
HasOne P ports = (n : Word) × Names ports n × P n

-- an input, else an output or a wire, else a register
abbrev pub IsRole : Source → Word → Role → Type 0
IsRole s n Input = Names s.inputs n
IsRole s n Assigned = (Names s.inputs n → ⊥) × Names (assigned s) n
IsRole s n Register = (Names (s.inputs ++ assigned s) n → ⊥) × Names s.registers n
