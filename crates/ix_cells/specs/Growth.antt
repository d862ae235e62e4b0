-- A net that grows by cells and banks (this project's choice: cells are put behind one another, and each reads what stands before it).
use Rattle.std.specs.Prelude.{ℕ, ◌+◌, ◌≡◌, ◌<◌, ◌^◌, List, [], ◌∷◌, ◌++◌, length}
use Rattle.ix_net.specs.declared.netlist.Net.{Net}
use Rattle.ix_net.specs.declared.netlist.Cell.{Cell}
use Rattle.ix_net.specs.declared.netlist.Bank.{Bank}
use Rattle.ix_net.specs.declared.netlist.Form.{Form}
use Rattle.ix_net.specs.Declarations.{Has, FormFits, Explains}
use Rattle.ix_net.specs.Valid.{IsWidth}
use Rattle.ix_cells.specs.declared.signal.Signal.{Signal}
use Rattle.ix_cells.specs.declared.signal.Signal.TheVariants.{Enable, Input, Node, Output, Register}
use Rattle.ix_cells.specs.declared.signal.Wire.{Wire}
use Rattle.ix_cells.specs.Naming.{name_of, IsBounded}

-- an operand that stands before the n-th cell
abbrev pub IsKnown : ℕ → Signal → Type 0
IsKnown n (Enable t) = Unit {0}
IsKnown n (Input k) = Unit {0}
IsKnown n (Node k) = k < n
IsKnown n (Output k l) = ⊥
IsKnown n (Register k t) = Unit {0}

-- a signal that a new cell may read
pub record IsWire (net : Net) (w : Wire) : Type 0 where
  pub has : Has net (name_of w.signal) w.width
  pub known : IsKnown (length net.cells) w.signal
  pub bounded : IsBounded w.signal
  pub wide : IsWidth w.width

abbrev pub AreWires : Net → List Wire → Type 0
AreWires net [] = Unit {0}
AreWires net (w ∷ ws) = IsWire net w × AreWires net ws

-- a declared name that stands before the n-th cell
pub record Reach (net : Net) (n : ℕ) (name : List ℕ) (w : ℕ) : Type 0 where
  pub signal : Signal
  pub named : name ≡ name_of signal
  pub bounded : IsBounded signal
  pub known : IsKnown n signal
  pub has : Has net name w

-- a cell that reads what stands before the n-th cell
pub record IsSoundCell (net : Net) (n : ℕ) (c : Cell) : Type 0 where
  pub bound : n < 2 ^ 64
  pub wide : IsWidth c.width
  pub fits : FormFits (Reach net n) c.width c.form

-- cells from number n on, each the node of its number, which reads what stands before it
abbrev pub AreNodes : Net → ℕ → List Cell → Type 0
AreNodes net n [] = Unit {0}
AreNodes net n (c ∷ cs) = (c.target ≡ name_of (Node n)) × IsSoundCell net n c × AreNodes net (n + 1) cs

-- one net goes on from another
pub record Extends (old new : Net) : Type 0 where
  pub named : new.name ≡ old.name
  pub inputs : new.inputs ≡ old.inputs
  pub cells : List Cell
  pub cells_are : new.cells ≡ old.cells ++ cells
  pub banks : List Bank
  pub banks_are : new.banks ≡ old.banks ++ banks

-- the values of signals under values of names
abbrev pub seen : (List ℕ → ℕ) → Signal → ℕ
seen value s = value (name_of s)

-- patterns of the widths of wires
abbrev pub AreSeen : (Signal → ℕ) → List Wire → Type 0
AreSeen see [] = Unit {0}
AreSeen see (w ∷ ws) = (see w.signal < 2 ^ w.width) × AreSeen see ws

-- cells were added that read no others than `needs` and what was there, and the wire r shows f
pub record Adds (needs : List Wire) (old new : Net) (r : Wire) (width : ℕ) (f : (Signal → ℕ) → ℕ) : Type 0 where
  pub extends : Extends old new
  pub same_banks : new.banks ≡ old.banks
  pub same_outputs : new.outputs ≡ old.outputs
  pub wide : r.width ≡ width
  pub sound : AreNodes old 0 old.cells → AreWires old needs → AreNodes new 0 new.cells × IsWire new r
  pub gives :
      (value wide : List ℕ → ℕ) → AreNodes old 0 old.cells → AreWires old needs → Explains new value wide →
      seen value r.signal ≡ f (seen value)

-- the next cell
abbrev pub next_cell : Net → ℕ → Form → Cell
next_cell net w form = record { target = name_of (Node (length net.cells)); width = w; form = form }

abbrev pub with_cell : Net → Cell → Net
with_cell net c = record { name = net.name; inputs = net.inputs; cells = net.cells ++ c ∷ []; banks = net.banks; outputs = net.outputs }

-- a cell with this right side was added, and r is its target
pub record IsPushed (old new : Net) (r : Wire) (w : ℕ) (form : Form) : Type 0 where
  pub net : new ≡ with_cell old (next_cell old w form)
  pub wire : r ≡ record { signal = Node (length old.cells); width = w }
  pub bound : length old.cells < 2 ^ 64
