-- What a row drives at the inputs of a behaviour's module (SCAIE-V: an instruction's module takes each operand in the stage of the operation that reads it; how it is told
-- which tokens move is this project's choice).
use Rattle.std.specs.Prelude.{ℕ, suc, ◌+◌, ◌-◌, ◌%◌, ◌^◌, nat_lt, List, [], ◌∷◌, ◌++◌, map, get_or, Option, Some, None, Bool, true, false, ◌&&◌, not, if◌then◌else◌, ◌==◌}
use Rattle.std.specs.List.{range_with_len}
use Rattle.ix_graph.specs.declared.graph.Mode.{Mode}
use Rattle.ix_graph.specs.declared.graph.Mode.TheVariants.{InPipeline, Tight, Decoupled, Always}
use Rattle.ix_graph.specs.declared.graph.Op.{Op}
use Rattle.ix_graph.specs.declared.kind.Kind.{Kind}
use Rattle.ix_graph.specs.declared.kind.Kind.TheVariants.{RdInstr, RdRS1, RdRS2, RdPC, RdCustReg, RdMem}
use Rattle.ix_graph.specs.declared.role.Role.{Role}
use Rattle.ix_graph.specs.declared.role.Role.TheVariants.{Read, Compute, Write}
use Rattle.ix_graph.specs.Roles.{role_of}
use Rattle.ix_plan.specs.declared.design.Plan.{Plan}
use Rattle.ix_plan.specs.Service.{result_time}
use Rattle.ix_ports.specs.Ports.{last_from}
use Rattle.rv_core.specs.declared.Shape.{Shape}
use Rattle.rv_seq.specs.States.{zero_bit}
use Rattle.rv_unit.specs.Numbering.{unit_of}
use Rattle.rv_ports.specs.declared.modules.Module.{Module}
use Rattle.rv_ports.specs.declared.shown.Seat.{Seat}
use Rattle.rv_ports.specs.declared.shown.Shown.{Shown}
use Rattle.rv_ports.specs.Drives.{Drives}

-- the module of the behaviour with this number and this plan
abbrev pub module_of : Drives → ℕ → Plan → Module
module_of d n p = record { shape = d.setting.shape; mode = p.mode; number = n; unit = unit_of d.plans n }

-- Tokens

-- is it this number?
abbrev pub is_number : Option ℕ → ℕ → Bool
is_number None n = false
is_number (Some m) n = m == n

-- of a behaviour with this mode and number: is what stands there its token? That of an always-block is any cell at EX
abbrev pub is_token : Shape → ℕ → Mode → Seat → Bool
is_token shape n InPipeline s = is_number s.behaviour n
is_token shape n Tight s = is_number s.behaviour n
is_token shape n Decoupled s = is_number s.behaviour n
is_token shape n Always s = s.time == shape.ex

-- the token at a time; no two stand at one time
abbrev pub token_at : Module → ℕ → List (Option Seat) → Option Seat
token_at m t [] = None
token_at m t (None ∷ rest) = token_at m t rest
token_at m t (Some s ∷ rest) = if (s.time == t) && is_token m.shape m.number m.mode s then Some s else token_at m t rest

-- Enables

-- what stands in this stage
abbrev pub seat_at : Shown → ℕ → Option Seat
seat_at w stage = get_or w.seats stage None

-- it leaves its stage: below the last one it moves to the next stage, and there it retires
abbrev pub moves_on : Option Seat → Bool
moves_on None = false
moves_on (Some s) = s.moves

-- it is of the behaviour
abbrev pub is_own : ℕ → Option Seat → Bool
is_own n None = false
is_own n (Some s) = is_number s.behaviour n

-- what stands in the last stage
abbrev pub last_seat : Module → Shown → Option Seat
last_seat m w = seat_at w (m.shape.stages - 1)

-- it is held by Tail
abbrev pub is_tailed : Option Seat → Bool
is_tailed None = false
is_tailed (Some s) = s.tails

-- the unit is frozen, where there is one
abbrev pub stands_still : Shown → Option ℕ → Bool
stands_still w None = false
stands_still w (Some u) = get_or w.frozen u false

-- the enable of a decoupled behaviour: at the time of the last stage its cell retires, at a later one its unit is not frozen
abbrev pub enable_decoupled : Module → Shown → ℕ → Bool
enable_decoupled m w t = if suc t == m.shape.stages then is_own m.number (last_seat m w) && moves_on (last_seat m w) else not (stands_still w m.unit)

-- the enable at the time of the last stage or a later one, by the mode: what is Tight goes on there while its cell is held by Tail
abbrev pub enable_beyond : Mode → Module → Shown → ℕ → Bool
enable_beyond InPipeline m w t = false
enable_beyond Tight m w t = is_own m.number (last_seat m w) && is_tailed (last_seat m w)
enable_beyond Decoupled m w t = enable_decoupled m w t
enable_beyond Always m w t = false

-- the enable at a time: below the last stage a cell moves on, of whatever behaviour
abbrev pub enable_value : Module → Shown → ℕ → Bool
enable_value m w t = if nat_lt (suc t) m.shape.stages then moves_on (seat_at w t) else enable_beyond m.mode m w t

-- Reads

-- what an operation reads where this is its token
abbrev pub read_by : Shown → Seat → Kind → ℕ
read_by w s RdInstr = s.word
read_by w s RdRS1 = s.first
read_by w s RdRS2 = s.second
read_by w s RdPC = s.at
read_by w s (RdCustReg r) = (get_or w.custom r zero_bit).raw
read_by w s RdMem = w.datum
read_by w s kind = 0

-- what its input carries: 0 where there is no token, or one that waits for what it reads
abbrev pub carried : Shown → Kind → Option Seat → ℕ
carried w kind None = 0
carried w kind (Some s) = if s.silent then 0 else read_by w s kind

-- the input of operation k of those with these times, whose value stands when its result is there; in as many bits as its type has
abbrev pub read_value : Module → List ℕ → Shown → ℕ → Op → ℕ
read_value m times w k op = carried w op.kind (token_at m (result_time m.shape times k op) w.seats) % 2 ^ op.ty.width

-- Lists

-- a bit
abbrev pub bit : Bool → ℕ
bit true = 1
bit false = 0

-- the enables in the order of their ports
abbrev pub enable_values : Module → List ℕ → Shown → List ℕ
enable_values m times w = map (λ t. bit (enable_value m w t)) (range_with_len m.shape.rd (last_from m.shape.rd times - m.shape.rd))

-- an operation that reads has an input
abbrev pub input_of : Module → List ℕ → Shown → ℕ → Op → Role → List ℕ
input_of m times w k op Read = read_value m times w k op ∷ []
input_of m times w k op Compute = []
input_of m times w k op Write = []

-- the inputs of the reads among operations of which the first has the number k
abbrev pub read_values : Module → List ℕ → Shown → ℕ → List Op → List ℕ
read_values m times w k [] = []
read_values m times w k (op ∷ ops) = input_of m times w k op (role_of op.kind) ++ read_values m times w (k + 1) ops

-- what is driven at the inputs of the module of a behaviour with this plan, in the order of its ports
unfoldable pub inputs_by : Module → Plan → Shown → List ℕ
inputs_by m p w = enable_values m p.times w ++ read_values m p.times w 0 p.graph.ops
