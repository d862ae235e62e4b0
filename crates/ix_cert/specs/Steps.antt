-- Which line of a report may stand next, and what was read with it.
use Rattle.std.specs.Prelude.{◌≡◌, ◌≢◌, ℕ, ◌-◌, ◌<◌, List, [], ◌∷◌, ◌++◌, length, slice_get, Bool, true, false, Option, Some, None}
use Rattle.ix_graph.specs.declared.graph.Mode.{Mode}
use Rattle.ix_sheet.specs.declared.problem.Bound.{Bound}
use Rattle.ix_sheet.specs.declared.problem.Node.{Node}
use Rattle.ix_cert.specs.declared.item.Item.{Item}
use Rattle.ix_cert.specs.declared.item.Item.TheVariants.{Title, Period, Behaviour, Op, Edge, Cost, Flow, Cycle, End}
use Rattle.ix_cert.specs.declared.item.Operation.{Operation}
use Rattle.ix_cert.specs.declared.report.ReportBlock.{ReportBlock}
use Rattle.ix_cert.specs.declared.state.Place.{Place}
use Rattle.ix_cert.specs.declared.state.Place.TheVariants as place
use Rattle.ix_cert.specs.declared.state.Reading.{Reading}
use Rattle.ix_cert.specs.Layout.{Line, is_weighted, IsBoundInForm, IsBefore}

-- ---- what may stand next
-- a time is told exactly where there is a mode
abbrev pub IsTimed : Option Mode → Option ℕ → Type 0
IsTimed None None = Unit {0}
IsTimed None (Some time) = ⊥
IsTimed (Some mode) None = ⊥
IsTimed (Some mode) (Some time) = Unit {0}

abbrev pub HasMode : Option Mode → Type 0
HasMode None = ⊥
HasMode (Some mode) = Unit {0}

-- the edge stands behind this one, if there is one
abbrev pub IsBehind : Option (ℕ × ℕ) → ℕ × ℕ → Type 0
IsBehind None e = Unit {0}
IsBehind (Some f) e = IsBefore f e

abbrev pub last_edge : List (ℕ × ℕ) → Option (ℕ × ℕ)
last_edge edges = slice_get edges (length edges - 1)

pub record MayBeOp (version : ℕ) (b : ReportBlock) (costed : Bool) (op : Operation) : Type 0 where
  pub form : op.weighted ≡ is_weighted version
  pub open_cost : costed ≡ false
  pub place : op.place ≡ length b.problem.ops
  pub no_edges : b.problem.edges ≡ []
  pub no_cycle : b.cycle ≡ []
  pub timed : IsTimed b.mode op.time

pub record MayBeEdge (b : ReportBlock) (costed : Bool) (e : ℕ × ℕ) : Type 0 where
  pub open_cost : costed ≡ false
  pub no_cycle : b.cycle ≡ []
  pub forward : e.0 < e.1
  pub there : e.1 < length b.problem.ops
  pub behind : IsBehind (last_edge b.problem.edges) e

abbrev pub MayStand : ℕ → ReportBlock → Bool → Item → Type 0
MayStand version b costed (Title given) = ⊥
MayStand version b costed (Period period) = ⊥
MayStand version b costed (Behaviour name mode) = ⊥
MayStand version b costed (Op op) = MayBeOp version b costed op
MayStand version b costed (Edge i j) = MayBeEdge b costed (i, j)
MayStand version b costed (Cost cost) = (costed ≡ false) × HasMode b.mode
MayStand version b costed (Flow amount bound) = (costed ≡ true) × IsBoundInForm (length b.problem.ops) bound
MayStand version b costed (Cycle bound) = (b.mode ≡ None) × IsBoundInForm (length b.problem.ops) bound
MayStand version b costed End = costed ≡ false → b.cycle ≢ []

-- behind a title of this version
abbrev pub MayFollow : ℕ → Place → Item → Type 0
MayFollow version place.Title (Title given) = Unit {0}
MayFollow version place.Title item = ⊥
MayFollow version place.Period (Period period) = Unit {0}
MayFollow version place.Period item = ⊥
MayFollow version place.Between (Behaviour name mode) = Unit {0}
MayFollow version place.Between item = ⊥
MayFollow version (place.Inside b costed) item = MayStand version b costed item

-- ---- what was read
abbrev pub block_of : Line → Option Mode → ℕ → List Line → List Node → List (ℕ × ℕ) → List ℕ → ℕ → List (Bound × ℕ) → List Bound → ReportBlock
block_of name mode period kinds ops edges times cost flow cycle = record {
  name = name;
  mode = mode;
  kinds = kinds;
  problem = record { ops = ops; edges = edges; period = period };
  times = times;
  cost = cost;
  flow = flow;
  cycle = cycle;
}

abbrev pub begun : Line → Option Mode → ℕ → ReportBlock
begun name mode period = block_of name mode period [] [] [] [] 0 [] []

abbrev pub as_list : {X : Type 0} → Option X → List X
as_list None = []
as_list (Some x) = x ∷ []

abbrev pub with_op : ReportBlock → Operation → ReportBlock
with_op b op =
    block_of b.name b.mode b.problem.period (b.kinds ++ op.kind ∷ []) (b.problem.ops ++ op.node ∷ []) b.problem.edges (b.times ++ as_list op.time) b.cost b.flow b.cycle

abbrev pub with_edge : ReportBlock → ℕ × ℕ → ReportBlock
with_edge b e = block_of b.name b.mode b.problem.period b.kinds b.problem.ops (b.problem.edges ++ e ∷ []) b.times b.cost b.flow b.cycle

abbrev pub with_cost : ReportBlock → ℕ → ReportBlock
with_cost b cost = block_of b.name b.mode b.problem.period b.kinds b.problem.ops b.problem.edges b.times cost b.flow b.cycle

abbrev pub with_flow : ReportBlock → Bound × ℕ → ReportBlock
with_flow b c = block_of b.name b.mode b.problem.period b.kinds b.problem.ops b.problem.edges b.times b.cost (b.flow ++ c ∷ []) b.cycle

abbrev pub with_cycle : ReportBlock → Bound → ReportBlock
with_cycle b bound = block_of b.name b.mode b.problem.period b.kinds b.problem.ops b.problem.edges b.times b.cost b.flow (b.cycle ++ bound ∷ [])

abbrev pub inside : ReportBlock → Bool → Item → Place
inside b costed (Op op) = place.Inside (with_op b op) costed
inside b costed (Edge i j) = place.Inside (with_edge b (i, j)) costed
inside b costed (Cost cost) = place.Inside (with_cost b cost) true
inside b costed (Flow amount bound) = place.Inside (with_flow b (bound, amount)) costed
inside b costed (Cycle bound) = place.Inside (with_cycle b bound) costed
inside b costed item = place.Inside b costed

abbrev pub reading : ℕ → ℕ → List ReportBlock → Place → Reading
reading version period blocks at = record { version = version; period = period; blocks = blocks; place = at }

abbrev pub after_at : ℕ → ℕ → List ReportBlock → Place → Item → Reading
after_at version period blocks place.Title (Title given) = reading given period blocks place.Period
after_at version period blocks place.Title item = reading version period blocks place.Period
after_at version period blocks place.Period (Period given) = reading version given blocks place.Between
after_at version period blocks place.Period item = reading version period blocks place.Period
after_at version period blocks place.Between (Behaviour name mode) = reading version period blocks (place.Inside (begun name mode period) false)
after_at version period blocks place.Between item = reading version period blocks place.Between
after_at version period blocks (place.Inside b costed) End = reading version period (blocks ++ b ∷ []) place.Between
after_at version period blocks (place.Inside b costed) item = reading version period blocks (inside b costed item)

abbrev pub after : Reading → Item → Reading
after r item = after_at r.version r.period r.blocks r.place item

abbrev pub start : Reading
start = reading 0 0 [] place.Title

-- what was read after these items, and that each may stand in its place
abbrev pub run : Reading → List Item → Reading
run r [] = r
run r (item ∷ items) = run (after r item) items

abbrev pub AllFollow : Reading → List Item → Type 0
AllFollow r [] = Unit {0}
AllFollow r (item ∷ items) = MayFollow r.version r.place item × AllFollow (after r item) items
