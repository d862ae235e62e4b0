-- The lines of a report, and which text is one (this project's choice).
use Rattle.std.specs.Prelude.{◌≡◌, ◌≢◌, ℕ, suc, ◌+◌, ◌<◌, ◌≤◌, ◌^◌, ◌⊎◌, ◌==◌, List, [], ◌∷◌, ◌++◌, length, map, take, All, AllPairs, Option, Some, None, Bool, true, false, if◌then◌else◌, nat_le, codes, decimal}
use Rattle.std.specs.List.{flat_map, list_all, slice_split}
use Rattle.std.specs.Str.{bytes_eq}
use Rattle.ix_graph.specs.declared.graph.Mode.{Mode}
use Rattle.ix_graph.specs.declared.graph.Mode.TheVariants.{InPipeline, Tight, Decoupled, Always}
use Rattle.ix_graph.specs.declared.kind.Kind.{Kind}
use Rattle.ix_graph.specs.Kinds.{printed_name, register_of}
use Rattle.ix_sheet.specs.declared.problem.Bound.{Bound}
use Rattle.ix_sheet.specs.declared.problem.Bound.TheVariants.{Early, Late, Dep, Chain}
use Rattle.ix_sheet.specs.declared.problem.Node.{Node}
use Rattle.ix_cert.specs.declared.report.Report.{Report}
use Rattle.ix_cert.specs.declared.report.ReportBlock.{ReportBlock}

abbrev pub Line : Type 0
Line = List ℕ

-- ---- the lines of a report
abbrev pub mode_text : Option Mode → Line
mode_text None = codes "none"
mode_text (Some InPipeline) = codes "InPipeline"
mode_text (Some Tight) = codes "Tight"
mode_text (Some Decoupled) = codes "Decoupled"
mode_text (Some Always) = codes "Always"

-- a number behind a space
abbrev pub field : ℕ → Line
field n = codes " " ++ decimal n

abbrev pub bound_text : Bound → Line
bound_text (Early k) = codes "early" ++ field k
bound_text (Late k) = codes "late" ++ field k
bound_text (Dep i j) = codes "dep" ++ field i ++ field j
bound_text (Chain path) = codes "chain" ++ flat_map field path

-- version 2 tells weights
abbrev pub is_weighted : ℕ → Bool
is_weighted version = version == 2

-- the weight of an operation, where weights are told
abbrev pub width_text : Bool → ℕ → Line
width_text false weight = []
width_text true weight = codes " width" ++ field weight

-- an operation with its kind, its weight where weights are told, and its time where there is one
abbrev pub op_line : Bool → ℕ → Line → Node → Line → Line
op_line weighted k kind node time =
    codes "op" ++ field k ++ codes " " ++ kind ++ codes " delay" ++ field node.delay ++ codes " latency" ++ field node.latency
    ++ width_text weighted node.weight ++ codes " early" ++ field node.early ++ codes " late" ++ field node.late ++ time

abbrev pub time_text : ℕ → Line
time_text time = codes " time" ++ field time

-- the operations from number k on, with their times
abbrev pub timed_lines : Bool → ℕ → List Line → List Node → List ℕ → List Line
timed_lines weighted k (kind ∷ kinds) (node ∷ nodes) (time ∷ times) =
    op_line weighted k kind node (time_text time) ∷ timed_lines weighted (k + 1) kinds nodes times
timed_lines weighted k _ _ _ = []

-- and without times
abbrev pub untimed_lines : Bool → ℕ → List Line → List Node → List Line
untimed_lines weighted k (kind ∷ kinds) (node ∷ nodes) = op_line weighted k kind node [] ∷ untimed_lines weighted (k + 1) kinds nodes
untimed_lines weighted k _ _ = []

abbrev pub edge_line : ℕ × ℕ → Line
edge_line e = codes "edge" ++ field e.0 ++ field e.1

abbrev pub flow_line : Bound × ℕ → Line
flow_line c = codes "flow" ++ field c.1 ++ codes " " ++ bound_text c.0

abbrev pub cycle_line : Bound → Line
cycle_line bound = codes "cycle " ++ bound_text bound

abbrev pub op_lines : Bool → ReportBlock → Option Mode → List Line
op_lines weighted b None = untimed_lines weighted 0 b.kinds b.problem.ops
op_lines weighted b (Some mode) = timed_lines weighted 0 b.kinds b.problem.ops b.times

-- the cost and the flow, or the cycle
abbrev pub certificate_lines : ReportBlock → Option Mode → List Line
certificate_lines b None = map cycle_line b.cycle
certificate_lines b (Some mode) = (codes "cost" ++ field b.cost) ∷ map flow_line b.flow

abbrev pub block_lines : Bool → ReportBlock → List Line
block_lines weighted b =
    (codes "behaviour " ++ b.name ++ codes " " ++ mode_text b.mode)
    ∷ (op_lines weighted b b.mode ++ (map edge_line b.problem.edges ++ (certificate_lines b b.mode ++ codes "end" ∷ [])))

abbrev pub report_lines : Report → List Line
report_lines r = (codes "longnail report" ++ field r.version) ∷ (codes "period" ++ field r.period) ∷ flat_map (block_lines (is_weighted r.version)) r.blocks

-- ---- reports in the range of the form
abbrev pub is_digit : ℕ → Bool
is_digit b = if nat_le 48 b then nat_le b 57 else false

abbrev pub is_letter : ℕ → Bool
is_letter b = if nat_le 65 b then (if nat_le b 90 then true else if b == 95 then true else if nat_le 97 b then nat_le b 122 else false) else false

abbrev pub is_name_byte : ℕ → Bool
is_name_byte b = if is_letter b then true else is_digit b

-- a letter or `_`, then letters, digits and `_`; at most 64 bytes
abbrev pub IsName : Line → Type 0
IsName [] = ⊥
IsName (b ∷ rest) = (is_letter b ≡ true) × (list_all is_name_byte rest ≡ true) × (length rest ≤ 63)

-- a kind by its printed name; a register has a number from 0 to 15
abbrev pub IsSmallRegister : Option ℕ → Type 0
IsSmallRegister None = Unit {0}
IsSmallRegister (Some register) = register ≤ 15

pub record IsKindName (text : Line) : Type 0 where
  pub kind : Kind
  pub register : IsSmallRegister (register_of kind)
  pub name : text ≡ printed_name kind

abbrev pub most_delay : ℕ
most_delay = 1000000

abbrev pub most_time : ℕ
most_time = 255

pub record IsNodeInForm (node : Node) : Type 0 where
  pub delay : node.delay ≤ most_delay
  pub latency : node.latency ≤ most_time
  pub early : node.early ≤ most_time
  pub late : node.late ≤ most_time

abbrev pub AreBelow : ℕ → List ℕ → Type 0
AreBelow n path = All (λ k. k < n) path

-- a weight is from 1 to 128, and 1 where weights are not told
abbrev pub IsWeight : Bool → ℕ → Type 0
IsWeight false weight = weight ≡ 1
IsWeight true weight = (1 ≤ weight) × (weight ≤ 128)

abbrev pub HasWeight : Bool → Node → Type 0
HasWeight weighted node = IsWeight weighted node.weight

-- the bound names operations that there are
abbrev pub IsBoundInForm : ℕ → Bound → Type 0
IsBoundInForm n (Early k) = k < n
IsBoundInForm n (Late k) = k < n
IsBoundInForm n (Dep i j) = (i < n) × (j < n)
IsBoundInForm n (Chain path) = (path ≢ []) × AreBelow n path

pub record IsPartInForm (n : ℕ) (c : Bound × ℕ) : Type 0 where
  pub bound : IsBoundInForm n c.0
  pub positive : 0 < c.1
  pub small : c.1 < 2 ^ 64

-- an edge to a later operation that there is
abbrev pub IsEdgeInForm : ℕ → ℕ × ℕ → Type 0
IsEdgeInForm n e = (e.0 < e.1) × (e.1 < n)

-- by their end, and then by their start
abbrev pub IsBefore : ℕ × ℕ → ℕ × ℕ → Type 0
IsBefore e f = (e.1 < f.1) ⊎ ((e.1 ≡ f.1) × (e.0 < f.0))

-- with a mode: a time for each operation, a cost and a flow; without one: a cycle
abbrev pub HasCertificate : ReportBlock → Option Mode → Type 0
HasCertificate b (Some mode) =
    (length b.times ≡ length b.problem.ops) × All (λ t. t ≤ most_time) b.times × (b.cost < 2 ^ 64) × All (IsPartInForm (length b.problem.ops)) b.flow × (b.cycle ≡ [])
HasCertificate b None =
    (b.times ≡ []) × (b.cost ≡ 0) × (b.flow ≡ []) × All (IsBoundInForm (length b.problem.ops)) b.cycle × (b.cycle ≢ [])

pub record IsBlockInForm (weighted : Bool) (period : ℕ) (b : ReportBlock) : Type 0 where
  pub named : IsName b.name
  pub few : length b.problem.ops ≤ 65536
  pub count : length b.kinds ≡ length b.problem.ops
  pub kinds : All IsKindName b.kinds
  pub nodes : All IsNodeInForm b.problem.ops
  pub weights : All (HasWeight weighted) b.problem.ops
  pub edges : All (IsEdgeInForm (length b.problem.ops)) b.problem.edges
  pub ordered : AllPairs IsBefore b.problem.edges
  pub period_is : b.problem.period ≡ period
  pub certificate : HasCertificate b b.mode

pub record IsInForm (r : Report) : Type 0 where
  pub some_version : 1 ≤ r.version
  pub most_version : r.version ≤ 2
  pub some_period : 1 ≤ r.period
  pub most_period : r.period ≤ 1000000
  pub blocks : All (IsBlockInForm (is_weighted r.version) r.period) r.blocks

-- ---- texts
-- the lines without what is behind a line feed at the end
abbrev pub without_last_empty : List Line → List Line
without_last_empty [] = []
without_last_empty ([] ∷ []) = []
without_last_empty (line ∷ rest) = line ∷ without_last_empty rest

abbrev pub lines_of : List ℕ → List Line
lines_of bytes = without_last_empty (slice_split (λ b. b == 10) bytes)

-- one line that starts with `refused ` may stand before a report
abbrev pub is_refusal : Line → Bool
is_refusal line = bytes_eq (take 8 line) (codes "refused ")

abbrev pub behind_refusal : List Line → List Line
behind_refusal [] = []
behind_refusal (line ∷ rest) = if is_refusal line then rest else line ∷ rest

-- the number, from 1, of the first line of the report
abbrev pub first_line : List Line → ℕ
first_line [] = 1
first_line (line ∷ rest) = if is_refusal line then 2 else 1

-- the text is that of the report
pub record IsReportText (bytes : List ℕ) (r : Report) : Type 0 where
  pub lines : behind_refusal (lines_of bytes) ≡ report_lines r
  pub in_form : IsInForm r

-- the lines are the first of a report
pub record BeginReport (lines : List Line) : Type 0 where
  pub report : Report
  pub in_form : IsInForm report
  pub rest : List Line
  pub are : report_lines report ≡ lines ++ rest

-- The lines before line n begin a report; with line n they begin none, or, where there is no line n, they are none.
pub record IsBadLine (bytes : List ℕ) (n : ℕ) : Type 0 where
  pub before : ℕ
  pub number : n ≡ first_line (lines_of bytes) + before
  pub place : before ≤ length (behind_refusal (lines_of bytes))
  pub front : BeginReport (take before (behind_refusal (lines_of bytes)))
  pub next : before < length (behind_refusal (lines_of bytes)) → BeginReport (take (suc before) (behind_refusal (lines_of bytes))) → ⊥
  pub end : before ≡ length (behind_refusal (lines_of bytes)) → (r : Report) → IsReportText bytes r → ⊥
