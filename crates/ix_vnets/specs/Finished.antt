-- What holds of each module of a text.
use Rattle.std.specs.Prelude.{All}
use Rattle.ix_verilog.specs.declared.source.Source.{Source}
use Rattle.ix_verilog.specs.declared.source.Assign.{Assign}
use Rattle.ix_verilog.specs.declared.source.Update.{Update}
use Rattle.ix_verilog.specs.Subset.{assigned, declared, Names, IsShortName, MayDeclare, IsDriven}

pub record IsFinished (s : Source) : Type 0 where
  pub named : IsShortName s.name
  pub declares : All MayDeclare (declared s)
  -- `assign` lines drive outputs and wires, the others registers
  pub assigns : All (λ (a : Assign). Names (assigned s) a.target) s.assigns
  pub updates : All (λ (u : Update). Names s.registers u.target) s.updates
  pub driven : IsDriven s
