-- What each line of a report says, word for word (this project's choice).
use Rattle.std.specs.Prelude.{◌<◌, ◌≡◌, ◌≢◌, ℕ, ◌+◌, ◌≤◌, List, [], ◌∷◌, ◌++◌, map, All, MatchOption, Bool, true, false, Option, Some, None, slice_index_or, codes, decimal}
use Rattle.std.specs.List.{flat_map, join_with_byte}
use denote.Ref.{Bor}
use Rattle.ix_graph.specs.declared.graph.Mode.{Mode}
use Rattle.ix_graph.specs.Kinds.{kind_words}
use Rattle.ix_sheet.specs.declared.problem.Bound.{Bound}
use Rattle.ix_sheet.specs.declared.problem.Bound.TheVariants.{Early, Late, Dep, Chain}
use Rattle.ix_sheet.specs.declared.problem.Node.{Node}
use Rattle.ix_cert.specs.declared.item.Item.{Item}
use Rattle.ix_cert.specs.declared.item.Item.TheVariants.{Title, Period, Behaviour, Op, Edge, Cost, Flow, Cycle, End}
use Rattle.ix_cert.specs.declared.item.Operation.{Operation}
use Rattle.ix_cert.specs.declared.report.Report.{Report}
use Rattle.ix_cert.specs.declared.report.ReportBlock.{ReportBlock}
use Rattle.ix_lines.specs.Readings.{texts}
use Rattle.ix_cert.specs.Layout.{Line, is_weighted, mode_text, IsName, IsKindName, IsNodeInForm, IsWeight, HasWeight}

-- the words of a weight, where weights are told, before others
abbrev pub width_words : Bool → ℕ → List Line → List Line
width_words false weight rest = rest
width_words true weight rest = codes "width" ∷ decimal weight ∷ rest

-- the words of the numbers of an operation, before others
abbrev pub node_words : Bool → Node → List Line → List Line
node_words weighted node rest =
    codes "delay" ∷ decimal node.delay ∷ codes "latency" ∷ decimal node.latency
    ∷ width_words weighted node.weight (codes "early" ∷ decimal node.early ∷ codes "late" ∷ decimal node.late ∷ rest)

abbrev pub time_words : Option ℕ → List Line
time_words None = []
time_words (Some time) = codes "time" ∷ decimal time ∷ []

-- the words behind `op`
abbrev pub op_words : Operation → List Line
op_words op = decimal op.place ∷ op.kind ∷ node_words op.weighted op.node (time_words op.time)

abbrev pub bound_words : Bound → List Line
bound_words (Early k) = codes "early" ∷ decimal k ∷ []
bound_words (Late k) = codes "late" ∷ decimal k ∷ []
bound_words (Dep i j) = codes "dep" ∷ decimal i ∷ decimal j ∷ []
bound_words (Chain path) = codes "chain" ∷ map decimal path

abbrev pub item_words : Item → List Line
item_words (Title version) = codes "longnail" ∷ codes "report" ∷ decimal version ∷ []
item_words (Period period) = codes "period" ∷ decimal period ∷ []
item_words (Behaviour name mode) = codes "behaviour" ∷ name ∷ mode_text mode ∷ []
item_words (Op op) = codes "op" ∷ op_words op
item_words (Edge i j) = codes "edge" ∷ decimal i ∷ decimal j ∷ []
item_words (Cost cost) = codes "cost" ∷ decimal cost ∷ []
item_words (Flow amount bound) = codes "flow" ∷ decimal amount ∷ bound_words bound
item_words (Cycle bound) = codes "cycle" ∷ bound_words bound
item_words End = codes "end" ∷ []

-- words between which single spaces stand
abbrev pub item_line : Item → Line
item_line item = join_with_byte 32 (item_words item)

-- ---- numbers in range
abbrev pub IsTime : Option ℕ → Type 0
IsTime None = Unit {0}
IsTime (Some time) = time ≤ 255

pub record IsOperation (op : Operation) : Type 0 where
  pub place : op.place ≤ 65535
  pub kind : IsKindName op.kind
  pub node : IsNodeInForm op.node
  pub weight : HasWeight op.weighted op.node
  pub time : IsTime op.time

abbrev pub IsWide : ℕ → Type 0
IsWide n = n ≤ 4294967295

abbrev pub IsBound : Bound → Type 0
IsBound (Early k) = IsWide k
IsBound (Late k) = IsWide k
IsBound (Dep i j) = IsWide i × IsWide j
IsBound (Chain path) = (path ≢ []) × All IsWide path

abbrev pub IsItem : Item → Type 0
IsItem (Title version) = (1 ≤ version) × (version ≤ 2)
IsItem (Period period) = (1 ≤ period) × (period ≤ 1000000)
IsItem (Behaviour name mode) = IsName name
IsItem (Op op) = IsOperation op
IsItem (Edge i j) = IsWide i × IsWide j
IsItem (Cost cost) = cost ≤ 18446744073709551615
IsItem (Flow amount bound) = (1 ≤ amount) × (amount ≤ 18446744073709551615) × IsBound bound
IsItem (Cycle bound) = IsBound bound
IsItem End = Unit {0}

-- ---- the items of a report
abbrev pub operation : Bool → ℕ → Line → Node → Option ℕ → Operation
operation weighted place kind node time = record { weighted = weighted; place = place; kind = kind; node = node; time = time }

abbrev pub timed_items : Bool → ℕ → List Line → List Node → List ℕ → List Item
timed_items weighted k (kind ∷ kinds) (node ∷ nodes) (time ∷ times) =
    Op (operation weighted k kind node (Some time)) ∷ timed_items weighted (k + 1) kinds nodes times
timed_items weighted k _ _ _ = []

abbrev pub untimed_items : Bool → ℕ → List Line → List Node → List Item
untimed_items weighted k (kind ∷ kinds) (node ∷ nodes) = Op (operation weighted k kind node None) ∷ untimed_items weighted (k + 1) kinds nodes
untimed_items weighted k _ _ = []

abbrev pub op_items : Bool → ReportBlock → Option Mode → List Item
op_items weighted b None = untimed_items weighted 0 b.kinds b.problem.ops
op_items weighted b (Some mode) = timed_items weighted 0 b.kinds b.problem.ops b.times

abbrev pub edge_item : ℕ × ℕ → Item
edge_item e = Edge e.0 e.1

abbrev pub flow_item : Bound × ℕ → Item
flow_item c = Flow c.1 c.0

abbrev pub certificate_items : ReportBlock → Option Mode → List Item
certificate_items b None = map Cycle b.cycle
certificate_items b (Some mode) = Cost b.cost ∷ map flow_item b.flow

abbrev pub block_items : Bool → ReportBlock → List Item
block_items weighted b = Behaviour b.name b.mode ∷ (op_items weighted b b.mode ++ (map edge_item b.problem.edges ++ (certificate_items b b.mode ++ End ∷ [])))

abbrev pub report_items : Report → List Item
report_items r = Title r.version ∷ Period r.period ∷ flat_map (block_items (is_weighted r.version)) r.blocks

-- ---- words
pub record IsRegister (word : Line) : Type 0 where
  pub register : ℕ
  pub small : register ≤ 15
  pub is : word ≡ decimal register

-- the name of a kind without a register
pub record IsPlainKind (word : Line) : Type 0 where
  pub place : ℕ
  pub below : place < 34
  pub no_read : place ≢ 4
  pub no_write : place ≢ 8
  pub is : word ≡ slice_index_or kind_words place []

-- ---- words behind the first of a line
-- a weight from 1 to 128 behind its label, and the words behind it
abbrev pub IsWidthRead : List Line → Option (ℕ × Bor (List (Bor Line))) → Type 0
IsWidthRead words found =
    MatchOption found ((n : ℕ) (rest : List Line) → 1 ≤ n → n ≤ 128 → codes "width" ∷ decimal n ∷ rest ≡ words → ⊥)
    (λ x. (1 ≤ x.0) × (x.0 ≤ 128) × (codes "width" ∷ decimal x.0 ∷ texts x.1.now ≡ words))

-- whether a weight is told, the weight, and the words behind it, which are the only ones that begin with `early`
pub record IsWeightRead (words : List Line) (found : Bool × ℕ × Bor (List (Bor Line))) : Type 0 where
  pub weight : IsWeight found.0 found.1
  pub is : width_words found.0 found.1 (texts found.2.now) ≡ words
  pub only : (weighted : Bool) (weight : ℕ) (rest : List Line) → IsWeight weighted weight → width_words weighted weight (codes "early" ∷ rest) ≡ words
      → codes "early" ∷ rest ≡ texts found.2.now

-- the numbers of an operation, whether its weight is told, and the words behind them
abbrev pub IsNodeRead : List Line → Option (Bool × Node × Bor (List (Bor Line))) → Type 0
IsNodeRead words found =
    MatchOption found ((weighted : Bool) (node : Node) (rest : List Line) → IsNodeInForm node → HasWeight weighted node → node_words weighted node rest ≡ words → ⊥)
    (λ x. IsNodeInForm x.1 × HasWeight x.0 x.1 × (node_words x.0 x.1 (texts x.2.now) ≡ words))

abbrev pub pair_words : ℕ × ℕ → List Line
pair_words p = decimal p.0 ∷ decimal p.1 ∷ []

abbrev pub AreWide : ℕ × ℕ → Type 0
AreWide p = IsWide p.0 × IsWide p.1
