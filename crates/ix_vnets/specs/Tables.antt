-- Cells and banks by the map of widths.
use Rattle.std.specs.Prelude.{◌≡◌, Some}
use Rattle.ix_net.specs.declared.netlist.Cell.{Cell}
use Rattle.ix_net.specs.declared.netlist.Bank.{Bank}
use Rattle.ix_net.specs.Forms.{Fits}
use Rattle.ix_verilog.specs.declared.source.Assign.{Assign}
use Rattle.ix_verilog.specs.declared.source.Update.{Update}
use Rattle.ix_vnets.specs.Forms.{IsFormOf}
use Rattle.ix_vnets.specs.WidthTables.{Map, found}

-- the cell of an `assign` line, where the map has the widths
pub record IsCellBy (m : Map) (a : Assign) (c : Cell) : Type 0 where
  pub target : c.target ≡ a.target
  pub wide : found m a.target ≡ Some c.width
  pub form : IsFormOf a.right c.form
  pub fits : Fits (found m) c.width c.form

-- the bank of an `if` line
pub record IsBankBy (m : Map) (u : Update) (b : Bank) : Type 0 where
  pub is : record { enable = b.enable; target = b.target; source = b.source } ≡ u
  pub wide : found m u.target ≡ Some b.width
  pub enable : found m u.enable ≡ Some 1
  pub source : found m u.source ≡ Some b.width

abbrev pub HasCell : Map → Assign → Type 0
HasCell m a = (c : Cell) × IsCellBy m a c

abbrev pub HasBank : Map → Update → Type 0
HasBank m u = (b : Bank) × IsBankBy m u b
