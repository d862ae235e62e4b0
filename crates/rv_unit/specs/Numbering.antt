-- The units of a design by number (SCAIE-V, decoupled execution; that units are numbered in the order of the source is this project's choice).
use Rattle.std.specs.Prelude.{ℕ, Bool, true, false, List, [], ◌∷◌, length, take, Option, Some, None, if◌then◌else◌, slice_get}
use Rattle.ix_graph.specs.declared.graph.Mode.{Mode}
use Rattle.ix_graph.specs.declared.graph.Mode.TheVariants.{InPipeline, Tight, Decoupled, Always}
use Rattle.ix_plan.specs.declared.design.Plan.{Plan}

-- has a behaviour of this mode a unit?
abbrev pub is_decoupled : Mode → Bool
is_decoupled Decoupled = true
is_decoupled InPipeline = false
is_decoupled Tight = false
is_decoupled Always = false

-- the last time of a behaviour with a unit, before others
abbrev pub with_last : Bool → ℕ → List ℕ → List ℕ
with_last true last lasts = last ∷ lasts
with_last false last lasts = lasts

-- the last times of the decoupled behaviours, in order
abbrev pub lasts_of : List Plan → List ℕ
lasts_of [] = []
lasts_of (p ∷ plans) = with_last (is_decoupled p.mode) p.last (lasts_of plans)

-- the unit of a behaviour before which so many are decoupled
abbrev pub unit_after : ℕ → Option Plan → Option ℕ
unit_after count None = None
unit_after count (Some p) = if is_decoupled p.mode then Some count else None

-- the unit of the behaviour with this number: the count of decoupled ones before it
abbrev pub unit_of : List Plan → ℕ → Option ℕ
unit_of plans n = unit_after (length (lasts_of (take n plans))) (slice_get plans n)
