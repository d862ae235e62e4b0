-- What was made for each operation.
use Rattle.std.specs.Prelude.{ℕ, ◌+◌, ◌-◌, ◌≡◌, ◌≢◌, ◌<◌, ◌≤◌, List, [], ◌∷◌, ◌++◌, length, map, All, Contains, Some, slice_get, slice_index}
use Rattle.rv_core.specs.declared.Shape.{Shape}
use Rattle.ix_graph.specs.declared.args.Arg.{Arg}
use Rattle.ix_graph.specs.declared.args.Arg.TheVariants as arg
use Rattle.ix_graph.specs.declared.graph.Op.{Op}
use Rattle.ix_graph.specs.declared.graph.Graph.{Graph}
use Rattle.ix_graph.specs.Graphs.{arg_type}
use Rattle.ix_net.specs.declared.netlist.Net.{Net}
use Rattle.ix_graph.specs.declared.role.Role.{Role}
use Rattle.ix_graph.specs.declared.role.Role.TheVariants.{Read, Compute, Write}
use Rattle.ix_graph.specs.Roles.{role_of}
use Rattle.ix_ports.specs.Ports.{input_name, module_name, enable_ports, read_ports}
use Rattle.ix_mean.specs.GraphValues.{arg_raw, kind_value}
use Rattle.ix_plan.specs.Service.{result_time}
use Rattle.ix_cells.specs.declared.signal.Signal.TheVariants.{Input, Register}
use Rattle.ix_cells.specs.declared.signal.Wire.{Wire}
use Rattle.ix_cells.specs.declared.operand.Operand.{Operand}
use Rattle.ix_netgen.specs.declared.kept.Kept.{Kept}
use Rattle.ix_cells.specs.Naming.{code}
use Rattle.ix_cells.specs.Operands.{wire_of}
use Rattle.ix_netgen.specs.Uses.{uses_until}
use Rattle.ix_net.specs.Declarations.{Has}
use Rattle.ix_cells.specs.Growth.{Adds, Extends}
use Rattle.ix_netgen.specs.Standing.{HasEnable, Timetable, Tells, IsSound, Keeps, IsHeld, Holds}

-- the operand shows the argument at a time
pub record IsOperand (p : Timetable) (net : Net) (t : ℕ) (a : Arg) (o : Operand) : Type 0 where
  pub typed : Some o.ty ≡ arg_type p.graph.ops a
  pub tells : Tells p net t (wire_of o) (λ terms. arg_raw terms a)

abbrev pub AreOperands : Timetable → Net → ℕ → List Arg → List Operand → Type 0
AreOperands p net t [] [] = Unit {0}
AreOperands p net t [] (o ∷ os) = ⊥
AreOperands p net t (a ∷ as') [] = ⊥
AreOperands p net t (a ∷ as') (o ∷ os) = IsOperand p net t a o × AreOperands p net t as' os

-- a wire for the argument is found
abbrev pub IsInReach : List Op → List Kept → ℕ → Arg → Type 0
IsInReach ops kept t (arg.Op j) = (o : Op) × (w : Kept) × (slice_get ops j ≡ Some o) × (slice_get kept j ≡ Some w) × (w.from ≤ t) × (t - w.from < length w.wires.items)
IsInReach ops kept t (arg.Const ty bits) = Unit {0}

-- the wire found, and the type
pub record IsFound (ops : List Op) (kept : List Kept) (t j : ℕ) (o : Operand) : Type 0 where
  pub typed : (x : Op) → slice_get ops j ≡ Some x → o.ty ≡ x.ty
  pub shown : (w : Kept) → slice_get kept j ≡ Some w → (v : Wire) × (slice_get w.wires.items (t - w.from) ≡ Some v) × (o.signal ≡ v.signal)

-- an operand for the argument was found, or made
abbrev pub IsSupplied : List Op → List Kept → ℕ → Arg → Net → Net → Operand → Type 0
IsSupplied ops kept t (arg.Op j) old new o = (new ≡ old) × IsFound ops kept t j o
IsSupplied ops kept t (arg.Const ty bits) old new o = (o.ty ≡ ty) × ((r : Wire) × (o.signal ≡ r.signal) × Adds [] old new r bits.width (λ see. bits.raw))

-- the argument is shown by what was kept
abbrev pub IsArgReady : Timetable → Net → List Kept → ℕ → Arg → Type 0
IsArgReady p net kept t (arg.Op j) = (x : Op) × (w : Kept) × (slice_get p.graph.ops j ≡ Some x) × (slice_get kept j ≡ Some w) × (w.from ≤ t) × IsHeld p net j w.from t x.ty.width w.wires.items
IsArgReady p net kept t (arg.Const ty bits) = bits.width ≡ ty.width

-- operands for arguments
abbrev pub Supplies : List Op → List Kept → ℕ → List Arg → Net → Net → List Operand → Type 0
Supplies ops kept t args old new os =
    (p : Timetable) (hi : ℕ) → p.graph.ops ≡ ops → IsSound p hi old → All (IsArgReady p old kept t) args → Keeps p old new × AreOperands p new t args os

-- the result is held where there is a time to hold it for
pub record MayHold (k : ℕ) (w : Wire) (from last : ℕ) (old new : Net) (ws : List Wire) : Type 0 where
  pub holds : from ≤ last → Holds k w from last old new ws
  pub past : last < from → new ≡ old

-- the wires of an operation's result, by its role
abbrev pub ResultsAs : Role → Graph → Op → ℕ → List Operand → ℕ → ℕ → Net → Net → List Wire → Type 0
ResultsAs Read g op k os from last old new ws = MayHold k (record { signal = Input k; width = op.ty.width }) from last old new ws
ResultsAs Compute g op k os from last old new ws =
    (mid : Net) × (r : Wire)
    × Adds (map wire_of os) old mid r op.ty.width (λ see. kind_value g.tables op.kind (map (arg_type g.ops) op.args) (map (λ (o : Operand). see o.signal) os) op.ty)
    × MayHold k r from last mid new ws
ResultsAs Write g op k os from last old new ws = new ≡ old

-- what was made for an operation is right
pub record IsKept (p : Timetable) (last : ℕ) (net : Net) (k : ℕ) (op : Op) (kept : Kept) : Type 0 where
  pub from : kept.from ≡ result_time p.shape p.times k op
  pub held : role_of op.kind ≢ Write → (t : ℕ) → kept.from ≤ t → t ≤ uses_until k p.graph.ops p.times → IsHeld p net k kept.from t op.ty.width kept.wires.items
  pub operands : AreOperands p net (slice_index p.times k) op.args kept.operands.items

-- the operations before number k have their cells and banks
pub record IsStage (p : Timetable) (last k : ℕ) (net : Net) (kept : List Kept) : Type 0 where
  pub sound : IsSound p (code (Register k 0)) net
  pub enables : (t : ℕ) → p.shape.rd ≤ t → t < last → HasEnable net t
  pub reads : (j : ℕ) (op : Op) → slice_get p.graph.ops j ≡ Some op → role_of op.kind ≡ Read → Has net (input_name j) op.ty.width
  pub count : length kept ≡ k
  pub right : (j : ℕ) (op : Op) (w : Kept) → slice_get p.graph.ops j ≡ Some op → slice_get kept j ≡ Some w → IsKept p last net j op w

-- the times fit the graph
pub record IsTimed (p : Timetable) : Type 0 where
  pub count : length p.times ≡ length p.graph.ops
  pub from_rd : All (λ t. p.shape.rd ≤ t) p.times
  pub most : All (λ t. t ≤ 64) p.times
  pub edges :
      (k j : ℕ) (op x : Op) → slice_get p.graph.ops k ≡ Some op → Contains op.args (arg.Op j) → slice_get p.graph.ops j ≡ Some x →
      result_time p.shape p.times j x ≤ slice_index p.times k

-- one more operation has its cells and banks
pub record IsMade (p : Timetable) (last k : ℕ) (old new : Net) (w : Kept) : Type 0 where
  pub extends : Extends old new
  pub sound : IsSound p (code (Register (k + 1) 0)) new
  pub right : (op : Op) → slice_get p.graph.ops k ≡ Some op → IsKept p last new k op w

abbrev pub timetable_of : Shape → Graph → List ℕ → Timetable
timetable_of shape g times = record { shape = shape; graph = g; times = times }

-- the operations before number k have theirs in a net that goes on from another
pub record IsBegun (p : Timetable) (last k : ℕ) (old new : Net) (kept : List Kept) : Type 0 where
  pub extends : Extends old new
  pub stage : IsStage p last k new kept

-- a net with its name and its inputs alone
pub record IsStart (name : List ℕ) (rd last : ℕ) (ops : List Op) (net : Net) : Type 0 where
  pub named : net.name ≡ module_name name
  pub inputs : net.inputs ≡ enable_ports rd last ++ read_ports 0 ops
  pub no_cells : net.cells ≡ []
  pub no_banks : net.banks ≡ []
  pub no_outputs : net.outputs ≡ []
