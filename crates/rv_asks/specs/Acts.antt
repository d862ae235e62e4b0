-- The operations of plans, and questions on them.
use Rattle.std.specs.Prelude.{ℕ, ◌+◌, Bool, true, false, ◌&&◌, not, if◌then◌else◌, nat_eq, nat_lt, List, [], ◌∷◌, slice_index_or}
use Rattle.std.specs.List.{flat_map}
use Rattle.ix_graph.specs.declared.kind.Kind.{Kind}
use Rattle.ix_graph.specs.declared.kind.Kind.TheVariants.{RdRS1, RdRS2, RdCustReg, RdMem, WrRD, WrPC, WrCustReg, WrMem}
use Rattle.ix_graph.specs.declared.graph.Op.{Op}
use Rattle.ix_plan.specs.declared.design.Plan.{Plan}
use Rattle.rv_asks.specs.declared.asks.Act.{Act}

-- operation k of a plan; one without a flag is not spawned, and one without a time has time 0
abbrev pub act_at : Plan → ℕ → Op → Act
act_at p k op = record { kind = op.kind; spawned = slice_index_or p.graph.spawned k false; time = slice_index_or p.times k 0 }

-- these operations of a plan, of which the first is operation k
abbrev pub acts_from : Plan → ℕ → List Op → List Act
acts_from p k [] = []
acts_from p k (op ∷ ops) = act_at p k op ∷ acts_from p (k + 1) ops

-- all operations of a plan, in order
abbrev pub acts_of : Plan → List Act
acts_of p = acts_from p 0 p.graph.ops

-- all operations of some plans
abbrev pub acts_of_all : List Plan → List Act
acts_of_all plans = flat_map acts_of plans

-- the kind reads the first operand
abbrev pub is_first : Kind → Bool
is_first RdRS1 = true
is_first kind = false

-- the kind reads the second operand
abbrev pub is_second : Kind → Bool
is_second RdRS2 = true
is_second kind = false

-- the kind writes the x register
abbrev pub is_destination : Kind → Bool
is_destination WrRD = true
is_destination kind = false

-- the kind is a load
abbrev pub is_load : Kind → Bool
is_load RdMem = true
is_load kind = false

-- the kind is a store
abbrev pub is_store : Kind → Bool
is_store WrMem = true
is_store kind = false

-- the kind writes the pc
abbrev pub is_jump : Kind → Bool
is_jump WrPC = true
is_jump kind = false

-- the kind reads or writes the custom register r
abbrev pub is_custom : ℕ → Kind → Bool
is_custom r (RdCustReg number) = nat_eq number r
is_custom r (WrCustReg number) = nat_eq number r
is_custom r kind = false

-- the kind writes the custom register r
abbrev pub is_custom_write : ℕ → Kind → Bool
is_custom_write r (WrCustReg number) = nat_eq number r
is_custom_write r kind = false

-- the operation is of the instruction's own body, and its time is above EX
abbrev pub is_late : ℕ → Act → Bool
is_late ex a = not a.spawned && nat_lt ex a.time

-- it reads the first operand
abbrev pub reads_first : Act → Bool
reads_first a = is_first a.kind

-- it reads the second operand
abbrev pub reads_second : Act → Bool
reads_second a = is_second a.kind

-- it writes the x register, and not by spawn
abbrev pub writes_own : Act → Bool
writes_own a = not a.spawned && is_destination a.kind

-- it writes the x register by spawn
abbrev pub spawns_x : Act → Bool
spawns_x a = a.spawned && is_destination a.kind

-- it writes the custom register r by spawn
abbrev pub spawns_custom : ℕ → Act → Bool
spawns_custom r a = a.spawned && is_custom_write r a.kind

-- the time of the first operation of which this is true, 0 where there is none
abbrev pub time_of : (Act → Bool) → List Act → ℕ
time_of f [] = 0
time_of f (a ∷ rest) = if f a then a.time else time_of f rest

-- it is a load
abbrev pub loads : Act → Bool
loads a = is_load a.kind

-- it is a store, spawned or not
abbrev pub stores : Act → Bool
stores a = is_store a.kind

-- it writes the pc, and not by spawn, above EX
abbrev pub jumps_late : ℕ → Act → Bool
jumps_late ex a = is_late ex a && is_jump a.kind

-- it reads or writes the custom register r
abbrev pub touches : ℕ → Act → Bool
touches r a = is_custom r a.kind

-- it writes the custom register r, and not by spawn, above EX
abbrev pub writes_late : ℕ → ℕ → Act → Bool
writes_late ex r a = is_late ex a && is_custom_write r a.kind
