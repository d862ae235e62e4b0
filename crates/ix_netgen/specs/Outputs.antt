-- The outputs of a net: a port, and a cell that copies what it shows.
use Rattle.std.specs.Prelude.{ℕ, ◌+◌, ◌≡◌, List, [], ◌∷◌, ◌++◌}
use Rattle.ix_graph.specs.declared.graph.Op.{Op}
use Rattle.ix_net.specs.declared.netlist.Net.{Net}
use Rattle.ix_net.specs.declared.netlist.Port.{Port}
use Rattle.ix_net.specs.declared.netlist.Cell.{Cell}
use Rattle.ix_net.specs.declared.netlist.Form.TheVariants.{Copy}
use Rattle.ix_ports.specs.declared.letter.Letter.{Letter}
use Rattle.ix_ports.specs.Ports.{output_name, letters_of}
use Rattle.ix_cells.specs.declared.operand.Operand.{Operand}
use Rattle.ix_netgen.specs.declared.kept.Kept.{Kept}
use Rattle.ix_cells.specs.Naming.{name_of}

abbrev pub out_cell : ℕ → Letter → Operand → Cell
out_cell k l o = record { target = output_name k l; width = o.ty.width; form = Copy (name_of o.signal) }

abbrev pub out_port : ℕ → Letter → Operand → Port
out_port k l o = record { name = output_name k l; width = o.ty.width }

-- the outputs of an operation, one for each letter
abbrev pub op_cells : ℕ → List Letter → List Operand → List Cell
op_cells k [] os = []
op_cells k (l ∷ ls) [] = []
op_cells k (l ∷ ls) (o ∷ os) = out_cell k l o ∷ op_cells k ls os

abbrev pub op_ports : ℕ → List Letter → List Operand → List Port
op_ports k [] os = []
op_ports k (l ∷ ls) [] = []
op_ports k (l ∷ ls) (o ∷ os) = out_port k l o ∷ op_ports k ls os

-- the outputs of operations of which the first has the number k
abbrev pub all_cells : ℕ → List Op → List Kept → List Cell
all_cells k [] kept = []
all_cells k (op ∷ ops) [] = []
all_cells k (op ∷ ops) (w ∷ ws) = op_cells k (letters_of op.kind) w.operands.items ++ all_cells (k + 1) ops ws

abbrev pub all_ports : ℕ → List Op → List Kept → List Port
all_ports k [] kept = []
all_ports k (op ∷ ops) [] = []
all_ports k (op ∷ ops) (w ∷ ws) = op_ports k (letters_of op.kind) w.operands.items ++ all_ports (k + 1) ops ws

-- these cells and outputs were put behind
pub record Puts (old new : Net) (cells : List Cell) (ports : List Port) : Type 0 where
  pub named : new.name ≡ old.name
  pub inputs : new.inputs ≡ old.inputs
  pub banks : new.banks ≡ old.banks
  pub cells_are : new.cells ≡ old.cells ++ cells
  pub ports_are : new.outputs ≡ old.outputs ++ ports

-- what is still to be put behind
pub record StillPuts (old now : Net) (cells rest : List Cell) (ports more : List Port) : Type 0 where
  pub named : now.name ≡ old.name
  pub inputs : now.inputs ≡ old.inputs
  pub banks : now.banks ≡ old.banks
  pub cells_are : now.cells ++ rest ≡ old.cells ++ cells
  pub ports_are : now.outputs ++ more ≡ old.outputs ++ ports
