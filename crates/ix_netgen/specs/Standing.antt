-- What the signals of a net show while a token stands at a time.
use Rattle.std.specs.Prelude.{ℕ, ◌+◌, ◌-◌, ◌^◌, ◌≡◌, ◌<◌, ◌≤◌, List, [], ◌∷◌, ◌++◌, length, map, All, Contains, Some, slice_get, slice_index}
use Rattle.rv_core.specs.declared.Shape.{Shape}
use Rattle.ix_graph.specs.declared.args.Arg.{Arg}
use Rattle.ix_graph.specs.declared.graph.Op.{Op}
use Rattle.ix_graph.specs.declared.graph.Graph.{Graph}
use Rattle.ix_net.specs.declared.netlist.Net.{Net}
use Rattle.ix_net.specs.declared.netlist.Bank.{Bank}
use Rattle.ix_net.specs.Valid.{IsWidth}
use Rattle.ix_ports.specs.declared.letter.Letter.{Letter}
use Rattle.ix_graph.specs.declared.role.Role.TheVariants.{Read}
use Rattle.ix_graph.specs.Roles.{role_of}
use Rattle.ix_ports.specs.Ports.{enable_name, enable_port, input_name, output_name, letters_of}
use Rattle.ix_mean.specs.GraphValues.{arg_raw, IsMeaning}
use Rattle.ix_plan.specs.Service.{result_time}
use Rattle.ix_cells.specs.declared.signal.Signal.{Signal}
use Rattle.ix_cells.specs.declared.signal.Wire.{Wire}
use Rattle.ix_cells.specs.declared.signal.Signal.TheVariants.{Enable, Register}
use Rattle.ix_cells.specs.Naming.{name_of, code, Ascends, register_name}
use Rattle.ix_net.specs.Declarations.{Has, Explains}
use Rattle.ix_cells.specs.Growth.{Extends, AreNodes, IsWire}

-- a behaviour under a schedule
pub record Timetable : Type 0 where
  pub shape : Shape
  pub graph : Graph
  pub times : List ℕ

-- the inputs of time t carry their terms' values, and the banks of time t hold theirs
pub record Scene (p : Timetable) (net : Net) (terms : ℕ → ℕ) (t : ℕ) (value : List ℕ → ℕ) : Type 0 where
  pub carried :
      (k : ℕ) (op : Op) → slice_get p.graph.ops k ≡ Some op → role_of op.kind ≡ Read → result_time p.shape p.times k op ≡ t →
      value (input_name k) ≡ terms k
  pub held : (b : Bank) (k : ℕ) → Contains net.banks b → k < 2 ^ 64 → t < 2 ^ 64 → b.target ≡ register_name k t → value b.target ≡ terms k

-- in each scene of time t the signal shows a number that the terms' values give
abbrev pub Shows : Timetable → Net → ℕ → Signal → ((ℕ → ℕ) → ℕ) → Type 0
Shows p net t s f =
    (terms : ℕ → ℕ) → IsMeaning p.graph terms → (value width : List ℕ → ℕ) → Explains net value width → Scene p net terms t value →
    value (name_of s) ≡ f terms

-- the same of a wire that a new cell may read
pub record Tells (p : Timetable) (net : Net) (t : ℕ) (w : Wire) (f : (ℕ → ℕ) → ℕ) : Type 0 where
  pub wire : IsWire net w
  pub shows : Shows p net t w.signal f

-- the net has the enable of this time as an input
abbrev pub HasEnable : Net → ℕ → Type 0
HasEnable net t = Contains net.inputs (enable_port t)

-- a bank takes the result of an operation over from one time to the next
pub record IsRightBank (p : Timetable) (net : Net) (b : Bank) : Type 0 where
  pub op : ℕ
  pub time : ℕ
  pub source : Signal
  pub from_rd : p.shape.rd ≤ time
  pub bounds : (op < 2 ^ 64) × (time + 1 < 2 ^ 64)
  pub named : b.target ≡ register_name op (time + 1)
  pub wide : IsWidth b.width
  pub enabled : b.enable ≡ enable_name time
  pub has_enable : HasEnable net time
  pub fed : b.source ≡ name_of source
  pub has_source : Has net (name_of source) b.width
  pub stands : Shows p net time source (λ terms. terms op)

-- in each scene the outputs of the time show their terms' values
abbrev pub ShowsOutputs : Timetable → Net → Type 0
ShowsOutputs p net =
    (k : ℕ) (op : Op) → slice_get p.graph.ops k ≡ Some op →
    (j : ℕ) (letter : Letter) (a : Arg) → slice_get (letters_of op.kind) j ≡ Some letter → slice_get op.args j ≡ Some a →
    (terms : ℕ → ℕ) → IsMeaning p.graph terms → (value width : List ℕ → ℕ) → Explains net value width →
    Scene p net terms (slice_index p.times k) value → value (output_name k letter) ≡ arg_raw terms a

-- what is kept while a net is made: each cell reads what stands before it, and each bank is right; hi bounds the banks' names
pub record IsSound (p : Timetable) (hi : ℕ) (net : Net) : Type 0 where
  pub nodes : AreNodes net 0 net.cells
  pub banks : All (IsRightBank p net) net.banks
  pub bank_names : Ascends (code (Register 0 0)) hi (map (λ (b : Bank). b.target) net.banks)
  pub no_outputs : net.outputs ≡ []

-- a net goes on from another, and stays sound
pub record Keeps (p : Timetable) (old new : Net) : Type 0 where
  pub extends : Extends old new
  pub sound : (hi : ℕ) → IsSound p hi old → IsSound p hi new

-- the next bank: it takes over what the wire shows
abbrev pub next_bank : ℕ → ℕ → Wire → Bank
next_bank k t w = record { target = name_of (Register k (t + 1)); width = w.width; enable = name_of (Enable t); source = name_of w.signal }

abbrev pub with_bank : Net → Bank → Net
with_bank net b = record { name = net.name; inputs = net.inputs; cells = net.cells; banks = net.banks ++ b ∷ []; outputs = net.outputs }

-- a wire that shows the result of operation k at time t, among those from a time on
pub record IsHeld (p : Timetable) (net : Net) (k from t width : ℕ) (ws : List Wire) : Type 0 where
  pub wire : Wire
  pub at : slice_get ws (t - from) ≡ Some wire
  pub tells : Tells p net t wire (λ terms. terms k)
  pub wide : wire.width ≡ width

-- the wire is held from its time up to the last one, each time boundary by one bank
pub record Holds (k : ℕ) (w : Wire) (from last : ℕ) (old new : Net) (ws : List Wire) : Type 0 where
  pub extends : Extends old new
  pub same_cells : new.cells ≡ old.cells
  pub count : from + length ws ≡ last + 1
  pub held :
      (p : Timetable) (hi : ℕ) → p.shape.rd ≤ from → k < 2 ^ 64 → last < 256 → ((t : ℕ) → from ≤ t → t < last → HasEnable old t) →
      Tells p old from w (λ terms. terms k) → IsSound p hi old → hi ≤ code (Register k 0) →
      IsSound p (code (Register k last) + 1) new × ((t : ℕ) → from ≤ t → t ≤ last → IsHeld p new k from t w.width ws)

-- the next bank was added, and r is its wire
pub record IsStored (old new : Net) (k t : ℕ) (w r : Wire) : Type 0 where
  pub net : new ≡ with_bank old (next_bank k t w)
  pub wire : r ≡ record { signal = Register k (t + 1); width = w.width }
