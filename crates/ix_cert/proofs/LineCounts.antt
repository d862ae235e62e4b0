-- How many lines a report has, and how many bytes they take; what a report in form is ready for.
use Rattle.std.proofs.Common.{◌≡◌, ℕ, ◌+◌, ◌*◌, ◌≤◌, ◌<◌, ◌==◌, Bool, List, [], ◌∷◌, ◌++◌, length, get_or, map, Some, None, refl, sym, ap, subst, arith, codes, inl, inr}
use Rattle.std.specs.Prelude.{Option, All, sum_by}
use Rattle.std.specs.List.{flat_map, slice_split}
use Rattle.ix_lines.proofs.Widths.{wide, width, width_split}
use Rattle.std.proofs.lemmas.Bool.{cases_Bool}
use Rattle.std.proofs.lemmas.List.{length-append, length-map}
use Rattle.std.proofs.lemmas.List.Sums.{sum_by-cons}
use Rattle.std.proofs.lemmas.List.Elements.{All-nil, All-cons, All-head, All-tail, All-append, All-map, All-weaker}
use Rattle.ix_graph.specs.declared.graph.Mode.{Mode}
use Rattle.ix_sheet.specs.declared.problem.Bound.{Bound}
use Rattle.ix_sheet.specs.declared.problem.Node.{Node}
use Rattle.ix_cert.specs.declared.report.Report.{Report}
use Rattle.ix_cert.specs.declared.report.ReportBlock.{ReportBlock}
use Rattle.ix_cert.specs.Layout.{Line, op_line, time_text, timed_lines, untimed_lines, edge_line, flow_line, cycle_line, op_lines, certificate_lines, block_lines, report_lines, HasCertificate, IsBlockInForm, without_last_empty, lines_of, is_refusal, behind_refusal, first_line, IsReportText, mode_text, field, is_weighted}
use Rattle.ix_cert.specs.Faults.{certificate_count, block_count}
use Rattle.ix_cert.proofs.Problems.{valid_problem}
use Rattle.ix_cert.specs.Checks.{lines_in, IsReadyIn}

-- ---- bytes and lines
width_last : (lines : List Line) → width (without_last_empty lines) ≤ width lines
width_last [] = omega arith
width_last ([] ∷ []) = omega (arith, sum_by-cons wide [] [])
width_last ((x ∷ l) ∷ []) = omega arith
width_last ([] ∷ m ∷ rest) = omega (arith, sum_by-cons wide [] (without_last_empty (m ∷ rest)), sum_by-cons wide [] (m ∷ rest), width_last (m ∷ rest))
width_last ((x ∷ l) ∷ m ∷ rest) = omega (arith, sum_by-cons wide (x ∷ l) (without_last_empty (m ∷ rest)), sum_by-cons wide (x ∷ l) (m ∷ rest), width_last (m ∷ rest))

width_behind : (lines : List Line) → width (behind_refusal lines) ≤ width lines
width_behind [] = omega arith
width_behind (line ∷ rest) = elim (cases_Bool (is_refusal line)) [
  | inl here ↦ rw here (omega (arith, sum_by-cons wide line rest))
  | inr other ↦ rw other (omega arith)
]

first_small : (lines : List Line) → first_line lines ≤ 2
first_small [] = omega arith
first_small (line ∷ rest) = elim (cases_Bool (is_refusal line)) [
  | inl here ↦ rw here (omega arith)
  | inr other ↦ rw other (omega arith)
]

-- ---- the lines of a report
abbrev IsSome : Line → Type 0
IsSome line = 1 ≤ length line

op_some : (weighted : Bool) (k : ℕ) (kind : Line) (node : Node) (time : Line) → IsSome (op_line weighted k kind node time)
op_some weighted k kind node time = omega arith

edge_some : (e : ℕ × ℕ) → IsSome (edge_line e)
edge_some e = omega arith

flow_some : (c : Bound × ℕ) → IsSome (flow_line c)
flow_some c = omega arith

cycle_some : (bound : Bound) → IsSome (cycle_line bound)
cycle_some bound = omega arith

twice : (lines : List Line) → All IsSome lines → 2 * length lines ≤ width lines
twice [] h = omega arith
twice (l ∷ lines) h = omega (arith, sum_by-cons wide l lines, All-head IsSome l lines h, twice lines (All-tail IsSome l lines h))

timed_some : (weighted : Bool) (k : ℕ) (kinds : List Line) (nodes : List Node) (times : List ℕ) → All IsSome (timed_lines weighted k kinds nodes times)
timed_some weighted k [] nodes times = All-nil IsSome
timed_some weighted k (kind ∷ kinds) [] times = All-nil IsSome
timed_some weighted k (kind ∷ kinds) (node ∷ nodes) [] = All-nil IsSome
timed_some weighted k (kind ∷ kinds) (node ∷ nodes) (time ∷ times) = All-cons IsSome (op_line weighted k kind node (time_text time)) (timed_lines weighted (k + 1) kinds nodes times) (op_some weighted k kind node (time_text time)) (timed_some weighted (k + 1) kinds nodes times)

untimed_some : (weighted : Bool) (k : ℕ) (kinds : List Line) (nodes : List Node) → All IsSome (untimed_lines weighted k kinds nodes)
untimed_some weighted k [] nodes = All-nil IsSome
untimed_some weighted k (kind ∷ kinds) [] = All-nil IsSome
untimed_some weighted k (kind ∷ kinds) (node ∷ nodes) = All-cons IsSome (op_line weighted k kind node []) (untimed_lines weighted (k + 1) kinds nodes) (op_some weighted k kind node []) (untimed_some weighted (k + 1) kinds nodes)

ops_some : (weighted : Bool) (b : ReportBlock) (mode : Option Mode) → All IsSome (op_lines weighted b mode)
ops_some weighted b None = untimed_some weighted 0 b.kinds b.problem.ops
ops_some weighted b (Some mode) = timed_some weighted 0 b.kinds b.problem.ops b.times

each_some : {X : Type 0} (f : X → Line) (xs : List X) → ((x : X) → IsSome (f x)) → All IsSome (map f xs)
each_some f xs h = All-map IsSome f xs (λ k d inside. h (get_or xs k d))

certificate_some : (b : ReportBlock) (mode : Option Mode) → All IsSome (certificate_lines b mode)
certificate_some b None = each_some cycle_line b.cycle cycle_some
certificate_some b (Some mode) = All-cons IsSome (codes "cost" ++ field b.cost) (map flow_line b.flow) (omega arith) (each_some flow_line b.flow flow_some)

block_some : (weighted : Bool) (b : ReportBlock) → All IsSome (block_lines weighted b)
block_some weighted b =
    All-cons IsSome (codes "behaviour " ++ b.name ++ codes " " ++ mode_text b.mode) (op_lines weighted b b.mode ++ (map edge_line b.problem.edges ++ (certificate_lines b b.mode ++ codes "end" ∷ []))) (omega arith)
    (All-append IsSome (op_lines weighted b b.mode) (map edge_line b.problem.edges ++ (certificate_lines b b.mode ++ codes "end" ∷ [])) (ops_some weighted b b.mode)
    (All-append IsSome (map edge_line b.problem.edges) (certificate_lines b b.mode ++ codes "end" ∷ []) (each_some edge_line b.problem.edges edge_some)
    (All-append IsSome (certificate_lines b b.mode) (codes "end" ∷ []) (certificate_some b b.mode) (All-cons IsSome (codes "end") [] (omega arith) (All-nil IsSome)))))

blocks_some : (weighted : Bool) (blocks : List ReportBlock) → All IsSome (flat_map (block_lines weighted) blocks)
blocks_some weighted [] = All-nil IsSome
blocks_some weighted (b ∷ blocks) = All-append IsSome (block_lines weighted b) (flat_map (block_lines weighted) blocks) (block_some weighted b) (blocks_some weighted blocks)

report_some : (r : Report) → All IsSome (report_lines r)
report_some r =
    All-cons IsSome (codes "longnail report" ++ field r.version) ((codes "period" ++ field r.period) ∷ flat_map (block_lines (is_weighted r.version)) r.blocks) (omega arith)
    (All-cons IsSome (codes "period" ++ field r.period) (flat_map (block_lines (is_weighted r.version)) r.blocks) (omega arith) (blocks_some (is_weighted r.version) r.blocks))

-- ---- and how many there are
timed_count : (weighted : Bool) (k : ℕ) (kinds : List Line) (nodes : List Node) (times : List ℕ) → length kinds ≡ length nodes → length times ≡ length nodes
    → length (timed_lines weighted k kinds nodes times) ≡ length nodes
timed_count weighted k [] [] times a b = refl
timed_count weighted k [] (node ∷ nodes) times a b = absurd (omega arith)
timed_count weighted k (kind ∷ kinds) [] times a b = absurd (omega arith)
timed_count weighted k (kind ∷ kinds) (node ∷ nodes) [] a b = absurd (omega arith)
timed_count weighted k (kind ∷ kinds) (node ∷ nodes) (time ∷ times) a b = omega (arith, timed_count weighted (k + 1) kinds nodes times (omega arith) (omega arith))

untimed_count : (weighted : Bool) (k : ℕ) (kinds : List Line) (nodes : List Node) → length kinds ≡ length nodes → length (untimed_lines weighted k kinds nodes) ≡ length nodes
untimed_count weighted k [] [] a = refl
untimed_count weighted k [] (node ∷ nodes) a = absurd (omega arith)
untimed_count weighted k (kind ∷ kinds) [] a = absurd (omega arith)
untimed_count weighted k (kind ∷ kinds) (node ∷ nodes) a = omega (arith, untimed_count weighted (k + 1) kinds nodes (omega arith))

ops_count : (weighted : Bool) (b : ReportBlock) (mode : Option Mode) → length b.kinds ≡ length b.problem.ops → HasCertificate b mode → length (op_lines weighted b mode) ≡ length b.problem.ops
ops_count weighted b None kinds has = untimed_count weighted 0 b.kinds b.problem.ops kinds
ops_count weighted b (Some mode) kinds has = timed_count weighted 0 b.kinds b.problem.ops b.times kinds has.0

certificates : (b : ReportBlock) (mode : Option Mode) → length (certificate_lines b mode) ≡ certificate_count b mode
certificates b None = length-map b.cycle cycle_line
certificates b (Some mode) = omega (arith, length-map b.flow flow_line)

lines_count : (weighted : Bool) (period : ℕ) (b : ReportBlock) → IsBlockInForm weighted period b → length (block_lines weighted b) ≡ block_count b
lines_count weighted period b form =
    omega (
      arith,
      length-append (op_lines weighted b b.mode) (map edge_line b.problem.edges ++ (certificate_lines b b.mode ++ codes "end" ∷ [])),
      length-append (map edge_line b.problem.edges) (certificate_lines b b.mode ++ codes "end" ∷ []),
      length-append (certificate_lines b b.mode) (codes "end" ∷ []),
      ops_count weighted b b.mode form.count form.certificate,
      length-map b.problem.edges edge_line,
      certificates b b.mode,
    )

blocks_count : (weighted : Bool) (period : ℕ) (blocks : List ReportBlock) → All (IsBlockInForm weighted period) blocks → length (flat_map (block_lines weighted) blocks) ≡ lines_in blocks
blocks_count weighted period [] form = refl
blocks_count weighted period (b ∷ blocks) form =
    omega (
      arith,
      length-append (block_lines weighted b) (flat_map (block_lines weighted) blocks),
      sum_by-cons block_count b blocks,
      lines_count weighted period b (All-head (IsBlockInForm weighted period) b blocks form),
      blocks_count weighted period blocks (All-tail (IsBlockInForm weighted period) b blocks form),
    )

-- there is room for the numbers of the lines of a text
pub room_for_lines : (bytes : List ℕ) (r : Report) → IsReportText bytes r → length bytes < 4294967296 → first_line (lines_of bytes) + 2 + lines_in r.blocks < 4294967296
room_for_lines bytes r text small =
    let all = slice_split (λ b. b == 10) bytes in
    let first = first_small (lines_of bytes) in
    let split = width_split (λ b. b == 10) bytes in
    let last = width_last all in
    let behind = width_behind (lines_of bytes) in
    let same : width (behind_refusal (lines_of bytes)) ≡ width (report_lines r) = ap width text.lines in
    let double = twice (report_lines r) (report_some r) in
    let count = blocks_count (is_weighted r.version) r.period r.blocks text.in_form.blocks in
    omega (arith, first, split, last, behind, same, double, count, small)

-- ---- readiness
ready_in : (weighted : Bool) (period : ℕ) (b : ReportBlock) (mode : Option Mode) → IsBlockInForm weighted period b → HasCertificate b mode → certificate_count b mode < 4294967296 → IsReadyIn b mode
ready_in weighted period b None form has small =
    record { ready = record { valid = valid_problem weighted period b form; ordered = form.ordered; nodes = form.nodes }; form = has.3 }
ready_in weighted period b (Some mode) form has small = record {
  ready = record { valid = valid_problem weighted period b form; ordered = form.ordered; nodes = form.nodes };
  times = has.0;
  form = λ k d h. (has.3 k d h).bound;
  few = omega (arith, small);
}

pub all_ready : (weighted : Bool) (period : ℕ) (blocks : List ReportBlock) → All (IsBlockInForm weighted period) blocks → lines_in blocks < 4294967296 → All (λ b. IsReadyIn b b.mode) blocks
all_ready weighted period [] form small = All-nil (λ b. IsReadyIn b b.mode)
all_ready weighted period (b ∷ blocks) form small =
    let here : IsBlockInForm weighted period b = All-head (IsBlockInForm weighted period) b blocks form in
    All-cons (λ b. IsReadyIn b b.mode) b blocks
    (ready_in weighted period b b.mode here here.certificate (omega (arith, small, sum_by-cons block_count b blocks)))
    (all_ready weighted period blocks (All-tail (IsBlockInForm weighted period) b blocks form) (omega (arith, small, sum_by-cons block_count b blocks)))

positive_in : (b : ReportBlock) (mode : Option Mode) → HasCertificate b mode → All (λ c. 0 < c.1) b.flow
positive_in b None has = subst (All (λ c. 0 < c.1)) (sym has.2) (All-nil (λ c. 0 < c.1))
positive_in b (Some mode) has = λ k d h. (has.3 k d h).positive

pub all_positive : (weighted : Bool) (period : ℕ) (blocks : List ReportBlock) → All (IsBlockInForm weighted period) blocks → All (λ b. All (λ c. 0 < c.1) b.flow) blocks
all_positive weighted period blocks form = All-weaker (IsBlockInForm weighted period) (λ b. All (λ c. 0 < c.1) b.flow) (λ b here. positive_in b b.mode here.certificate) blocks form
