-- The problem of a behaviour in a mode, and its mode (Longnail, execution modes; the windows and the rule are this project's choice).
use Rattle.std.specs.Prelude.{◌≡◌, ℕ, ◌+◌, ◌-◌, max, min, nat_lt, if◌then◌else◌, ◌==◌, Bool, true, false, List, [], ◌∷◌, ◌++◌, map, filter, slice_index, Contains, ◌<◌, ◌⊎◌, slice_get, Some, All, AllPairs}
use Rattle.std.specs.List.{list_any, range_with_len, zip}
use Rattle.rv_core.specs.declared.Shape.{Shape}
use Rattle.ix_graph.specs.declared.args.Arg.{Arg}
use Rattle.ix_graph.specs.declared.args.Arg.TheVariants as arg
use Rattle.ix_graph.specs.declared.graph.Op.{Op}
use Rattle.ix_graph.specs.declared.graph.Graph.{Graph}
use Rattle.ix_graph.specs.declared.graph.Mode.{Mode}
use Rattle.ix_graph.specs.declared.graph.Mode.TheVariants.{InPipeline, Tight, Decoupled, Always}
use Rattle.ix_graph.specs.declared.kind.Kind.{Kind}
use Rattle.ix_graph.specs.declared.kind.Kind.TheVariants.{RdMem, WrRD, WrPC, WrCustReg}
use Rattle.ix_graph.specs.Kinds.{place_of}
use Rattle.ix_sheet.specs.declared.problem.Node.{Node}
use Rattle.ix_sheet.specs.declared.problem.Problem.{Problem}
use Rattle.ix_sheet.specs.declared.sheet.Sheet.{Sheet}
use Rattle.ix_sheet.specs.Sheets.{window_at}
use Rattle.ix_sheet.specs.Schedules.{HasSchedule}

-- the last time that there is
abbrev pub last_time : ℕ
last_time = 64

-- when a result is there after the operation's time: a load's where memory is accessed
abbrev pub latency_of : Shape → Kind → ℕ
latency_of shape RdMem = shape.mem - shape.ex
latency_of shape kind = 0

-- the window of an operation by the sheet: one of the ten first kinds has the sheet's, another may have any time from the operands on
abbrev pub window_of : Sheet → Kind → ℕ × ℕ
window_of sheet kind = if nat_lt (place_of kind) 10 then window_at sheet.window (place_of kind) else (sheet.shape.rd, last_time)

-- the last time of an instruction that waits in the last stage: its writes of registers may come up to the last time
abbrev pub last_if_tight : Kind → ℕ → ℕ
last_if_tight WrRD last = last_time
last_if_tight WrPC last = last_time
last_if_tight (WrCustReg register) last = last_time
last_if_tight kind last = last

-- the window of an operation in a mode; a write of a spawn body comes after the last stage, and all of a block in the stage of execute
abbrev pub window_in : Sheet → Mode → Kind → Bool → ℕ × ℕ
window_in sheet Always kind spawned = (max (window_of sheet kind).0 sheet.shape.ex, min (window_of sheet kind).1 sheet.shape.ex)
window_in sheet Decoupled kind spawned = if spawned then (sheet.shape.stages, last_time) else window_of sheet kind
window_in sheet InPipeline kind spawned = if spawned then (sheet.shape.stages, last_time) else window_of sheet kind
window_in sheet Tight kind spawned =
    if spawned then (sheet.shape.stages, last_time) else ((window_of sheet kind).0, last_if_tight kind (window_of sheet kind).1)

-- what it costs to keep a result for one time: as many as its bits where the sheet weighs by width; that of a write has one bit
abbrev pub weight_by : Bool → Op → ℕ
weight_by weighted op = if weighted then op.ty.width else 1

-- an operation as a schedule sees it
abbrev pub node_of : Sheet → Mode → Op × Bool → Node
node_of sheet mode entry = record {
  delay = slice_index sheet.delay (place_of entry.0.kind);
  latency = latency_of sheet.shape entry.0.kind;
  weight = weight_by sheet.weighted entry.0;
  early = (window_in sheet mode entry.0.kind entry.1).0;
  late = (window_in sheet mode entry.0.kind entry.1).1;
}

-- the argument is the operation i
abbrev pub names_op : ℕ → Arg → Bool
names_op i (arg.Op number) = number == i
names_op i (arg.Const ty bits) = false

-- the edges that end at the operation j: from each earlier operation that is one of its arguments, ascending
abbrev pub edges_into : ℕ → Op → List (ℕ × ℕ)
edges_into j op = map (λ i. (i, j)) (filter (λ i. list_any (names_op i) op.args) (range_with_len 0 j))

-- the edges that end at the operations of a list whose first has the number j
abbrev pub edges_from : ℕ → List Op → List (ℕ × ℕ)
edges_from j [] = []
edges_from j (op ∷ ops) = edges_into j op ++ edges_from (j + 1) ops

-- the edge's start is an argument of the operation at its end
pub record IsEdge (ops : List Op) (e : ℕ × ℕ) : Type 0 where
  pub op : Op
  pub end : slice_get ops e.1 ≡ Some op
  pub argument : Contains op.args (arg.Op e.0)

-- by the end, and of one end by the start
abbrev pub ComesBefore : ℕ × ℕ → ℕ × ℕ → Type 0
ComesBefore e f = (e.1 < f.1) ⊎ ((e.1 ≡ f.1) × (e.0 < f.0))

-- the edges between operations: each stands once, in order
pub record AreEdges (ops : List Op) (edges : List (ℕ × ℕ)) : Type 0 where
  pub each : All (IsEdge ops) edges
  pub all : (e : ℕ × ℕ) → IsEdge ops e → Contains edges e
  pub order : AllPairs ComesBefore edges

-- the problem of a graph in a mode: its legal schedules and their cost are those of the behaviour
unfoldable pub problem_of : Graph → Sheet → Mode → Problem
problem_of g sheet mode = record {
  ops = map (node_of sheet mode) (zip g.ops g.spawned);
  edges = edges_from 0 g.ops;
  period = sheet.period;
}

-- a write of a spawn body is among the operations
abbrev pub IsSpawning : Graph → Type 0
IsSpawning g = Contains g.spawned true

-- the mode of a behaviour, which may be a block
abbrev pub IsModeOf : Graph → Sheet → Bool → Mode → Type 0
IsModeOf g sheet block Always = block ≡ true
IsModeOf g sheet block Decoupled = (block ≡ false) × IsSpawning g
IsModeOf g sheet block InPipeline = (block ≡ false) × (IsSpawning g → ⊥) × HasSchedule (problem_of g sheet InPipeline)
IsModeOf g sheet block Tight = (block ≡ false) × (IsSpawning g → ⊥) × (HasSchedule (problem_of g sheet InPipeline) → ⊥)

-- the mode with the widest windows that a behaviour may have
abbrev pub IsWidestModeOf : Graph → Bool → Mode → Type 0
IsWidestModeOf g block Always = block ≡ true
IsWidestModeOf g block Decoupled = (block ≡ false) × IsSpawning g
IsWidestModeOf g block InPipeline = ⊥
IsWidestModeOf g block Tight = (block ≡ false) × (IsSpawning g → ⊥)
