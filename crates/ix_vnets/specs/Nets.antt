-- The net of a module, as far as its lines say it one by one (IEEE 1364-2005, 5.4, expression bit lengths; 6.1, continuous assignments; 9.2.2).
use Rattle.std.specs.Prelude.{◌≡◌, List, [], ◌∷◌, ◌++◌, Contains}
use Rattle.std.specs.List.{AllZip}
use Rattle.ix_net.specs.declared.netlist.Net.{Net}
use Rattle.ix_net.specs.declared.netlist.Cell.{Cell}
use Rattle.ix_net.specs.declared.netlist.Bank.{Bank}
use Rattle.ix_net.specs.Signals.{cell_port, bank_port}
use Rattle.ix_net.specs.Declarations.{FormFits}
use Rattle.ix_verilog.specs.declared.source.Source.{Source}
use Rattle.ix_verilog.specs.declared.source.Assign.{Assign}
use Rattle.ix_verilog.specs.declared.source.Update.{Update}
use Rattle.ix_verilog.specs.Lines.{right_of}
use Rattle.ix_verilog.specs.Subset.{assigned, declared}
use Rattle.ix_vnets.specs.Widths.{Has}

-- the cell is that of the line, whose widths agree
pub record IsCellOf (s : Source) (a : Assign) (c : Cell) : Type 0 where
  pub target : c.target ≡ a.target
  pub right : right_of c.form ≡ a.right
  pub declared_so : Contains (assigned s) (cell_port c)
  pub fits : FormFits (Has (declared s)) c.width c.form

-- the bank is that of the line, whose widths agree
pub record IsBankOf (s : Source) (u : Update) (b : Bank) : Type 0 where
  pub is : record { enable = b.enable; target = b.target; source = b.source } ≡ u
  pub declared_so : Contains s.registers (bank_port b)
  pub enable : Has (declared s) b.enable 1
  pub source : Has (declared s) b.source b.width

-- the net has a cell and a bank for each line of the module
pub record IsMadeOf (s : Source) (net : Net) : Type 0 where
  pub named : net.name ≡ s.name
  pub inputs : net.inputs ≡ s.inputs
  pub outputs : net.outputs ≡ s.outputs
  pub cells : AllZip (IsCellOf s) s.assigns net.cells
  pub banks : AllZip (IsBankOf s) s.updates net.banks

-- the net of the module is put behind others
abbrev pub Puts : Source → List Net → List Net → Type 0
Puts s old new = (net : Net) × IsMadeOf s net × (new ≡ old ++ net ∷ [])
