-- The lines of a report are those of its items.
use Rattle.std.proofs.Common.{◌≡◌, ℕ, ◌+◌, ◌<◌, ◌≤◌, List, [], ◌∷◌, ◌++◌, length, refl, sym, ap, ◌∙◌, arith, append_assoc, Option, Some, None, Bool, true, false}
use Rattle.std.specs.Prelude.{map, All, codes, decimal}
use Rattle.std.specs.List.{flat_map, join_with_byte}
use Rattle.std.proofs.lemmas.List.{append-nil}
use Rattle.std.proofs.lemmas.List.Elements.{All-head, All-tail}
use Rattle.ix_graph.specs.declared.graph.Mode.{Mode}
use Rattle.ix_sheet.specs.declared.problem.Node.{Node}
use Rattle.ix_sheet.specs.declared.problem.Bound.{Bound}
use Rattle.ix_sheet.specs.declared.problem.Bound.TheVariants.{Early, Late, Dep, Chain}
use Rattle.ix_cert.specs.declared.item.Item.{Item}
use Rattle.ix_cert.specs.declared.item.Item.TheVariants.{Behaviour, Op, Cycle, End}
use Rattle.ix_cert.specs.declared.report.Report.{Report}
use Rattle.ix_cert.specs.declared.report.ReportBlock.{ReportBlock}
use Rattle.ix_cert.specs.Layout.{Line, mode_text, field, bound_text, op_line, time_text, timed_lines, untimed_lines, edge_line, flow_line, cycle_line, op_lines, certificate_lines, block_lines, report_lines, is_weighted, HasWeight, IsInForm, IsBlockInForm, IsNodeInForm, IsBoundInForm, IsPartInForm, IsEdgeInForm, IsKindName, HasCertificate}
use Rattle.ix_cert.proofs.Lists.{run_on, node_parts}
use Rattle.ix_cert.specs.Items.{IsItem, IsBound, IsWide, item_line, bound_words, operation, timed_items, untimed_items, op_items, edge_item, flow_item, certificate_items, block_items, report_items}

abbrev right : Line → List Line → Line
right p [] = p
right p (q ∷ ps) = p ++ right q ps

run_right : (o p : Line) (ps : List Line) → run_on o (p ∷ ps) ≡ o ++ right p ps
run_right o p [] = refl
run_right o p (q ∷ ps) = run_right (o ++ p) q ps ∙ append_assoc o p (right q ps)

untimed_line : (weighted : Bool) (k : ℕ) (kind : Line) (node : Node) → op_line weighted k kind node [] ≡ item_line (Op (operation weighted k kind node None))
untimed_line false k kind node = append-nil (run_on (codes "op") (field k ∷ codes " " ∷ kind ∷ codes " delay" ∷ node_parts false node [])) ∙ run_right (codes "op") (field k) (codes " " ∷ kind ∷ codes " delay" ∷ node_parts false node [])
untimed_line true k kind node = append-nil (run_on (codes "op") (field k ∷ codes " " ∷ kind ∷ codes " delay" ∷ node_parts true node [])) ∙ run_right (codes "op") (field k) (codes " " ∷ kind ∷ codes " delay" ∷ node_parts true node [])

timed_line : (weighted : Bool) (k : ℕ) (kind : Line) (node : Node) (time : ℕ) → op_line weighted k kind node (time_text time) ≡ item_line (Op (operation weighted k kind node (Some time)))
timed_line false k kind node time = run_right (codes "op") (field k) (codes " " ∷ kind ∷ codes " delay" ∷ node_parts false node (time_text time ∷ []))
timed_line true k kind node time = run_right (codes "op") (field k) (codes " " ∷ kind ∷ codes " delay" ∷ node_parts true node (time_text time ∷ []))

path_line : (w : Line) (path : List ℕ) → w ++ flat_map field path ≡ join_with_byte 32 (w ∷ map decimal path)
path_line w [] = append-nil w
path_line w (k ∷ path) = ap (λ l. w ++ l) (ap (λ l. 32 ∷ l) (path_line (decimal k) path))

bound_line : (bound : Bound) → bound_text bound ≡ join_with_byte 32 (bound_words bound)
bound_line (Early k) = refl
bound_line (Late k) = refl
bound_line (Dep i j) = run_right (codes "dep") (field i) (field j ∷ [])
bound_line (Chain path) = path_line (codes "chain") path

bound_behind : (w : Line) (bound : Bound) → join_with_byte 32 (w ∷ bound_words bound) ≡ w ++ 32 ∷ join_with_byte 32 (bound_words bound)
bound_behind w (Early k) = refl
bound_behind w (Late k) = refl
bound_behind w (Dep i j) = refl
bound_behind w (Chain path) = refl

edge_is : (e : ℕ × ℕ) → edge_line e ≡ item_line (edge_item e)
edge_is e = run_right (codes "edge") (field e.0) (field e.1 ∷ [])

flow_is : (c : Bound × ℕ) → flow_line c ≡ item_line (flow_item c)
flow_is c =
    run_right (codes "flow") (field c.1) (codes " " ∷ bound_text c.0 ∷ [])
    ∙ ap (λ l. codes "flow " ++ (decimal c.1 ++ 32 ∷ l)) (bound_line c.0)
    ∙ ap (λ l. codes "flow " ++ l) (sym (bound_behind (decimal c.1) c.0))

cycle_is : (bound : Bound) → cycle_line bound ≡ item_line (Cycle bound)
cycle_is bound = ap (λ l. codes "cycle " ++ l) (bound_line bound) ∙ sym (bound_behind (codes "cycle") bound)

head_is : (name : Line) (mode : Option Mode) → codes "behaviour " ++ name ++ codes " " ++ mode_text mode ≡ item_line (Behaviour name mode)
head_is name mode = run_right (codes "behaviour ") name (codes " " ∷ mode_text mode ∷ [])

map_same : {X : Type 0} (f : X → Line) (g : X → Item) (same : (x : X) → f x ≡ item_line (g x)) (xs : List X) → map f xs ≡ map item_line (map g xs)
map_same f g same [] = refl
map_same f g same (x ∷ xs) = rw (same x, map_same f g same xs) refl

pub map_join : (xs ys : List Item) → map item_line (xs ++ ys) ≡ map item_line xs ++ map item_line ys
map_join [] ys = refl
map_join (x ∷ xs) ys = ap (λ l. item_line x ∷ l) (map_join xs ys)

untimed_are : (weighted : Bool) (k : ℕ) (kinds : List Line) (nodes : List Node) → untimed_lines weighted k kinds nodes ≡ map item_line (untimed_items weighted k kinds nodes)
untimed_are weighted k [] nodes = refl
untimed_are weighted k (kind ∷ kinds) [] = refl
untimed_are weighted k (kind ∷ kinds) (node ∷ nodes) = rw (untimed_line weighted k kind node, untimed_are weighted (k + 1) kinds nodes) refl

timed_are : (weighted : Bool) (k : ℕ) (kinds : List Line) (nodes : List Node) (times : List ℕ) → timed_lines weighted k kinds nodes times ≡ map item_line (timed_items weighted k kinds nodes times)
timed_are weighted k [] nodes times = refl
timed_are weighted k (kind ∷ kinds) [] times = refl
timed_are weighted k (kind ∷ kinds) (node ∷ nodes) [] = refl
timed_are weighted k (kind ∷ kinds) (node ∷ nodes) (time ∷ times) = rw (timed_line weighted k kind node time, timed_are weighted (k + 1) kinds nodes times) refl

ops_are : (weighted : Bool) (b : ReportBlock) (mode : Option Mode) → op_lines weighted b mode ≡ map item_line (op_items weighted b mode)
ops_are weighted b None = untimed_are weighted 0 b.kinds b.problem.ops
ops_are weighted b (Some mode) = timed_are weighted 0 b.kinds b.problem.ops b.times

certificate_are : (b : ReportBlock) (mode : Option Mode) → certificate_lines b mode ≡ map item_line (certificate_items b mode)
certificate_are b None = map_same cycle_line Cycle cycle_is b.cycle
certificate_are b (Some mode) = ap (λ l. (codes "cost" ++ field b.cost) ∷ l) (map_same flow_line flow_item flow_is b.flow)

four_joined : (a b c d : List Item) → map item_line (a ++ (b ++ (c ++ d))) ≡ map item_line a ++ (map item_line b ++ (map item_line c ++ map item_line d))
four_joined a b c d = map_join a (b ++ (c ++ d)) ∙ ap (λ l. map item_line a ++ l) (map_join b (c ++ d) ∙ ap (λ l. map item_line b ++ l) (map_join c d))

block_are : (weighted : Bool) (b : ReportBlock) → block_lines weighted b ≡ map item_line (block_items weighted b)
block_are weighted b =
    ap (λ l. l ∷ (op_lines weighted b b.mode ++ (map edge_line b.problem.edges ++ (certificate_lines b b.mode ++ codes "end" ∷ [])))) (head_is b.name b.mode)
    ∙ ap (λ l. item_line (Behaviour b.name b.mode) ∷ (l ++ (map edge_line b.problem.edges ++ (certificate_lines b b.mode ++ codes "end" ∷ [])))) (ops_are weighted b b.mode)
    ∙ ap (λ l. item_line (Behaviour b.name b.mode) ∷ (map item_line (op_items weighted b b.mode) ++ (l ++ (certificate_lines b b.mode ++ codes "end" ∷ [])))) (map_same edge_line edge_item edge_is b.problem.edges)
    ∙ ap (λ l. item_line (Behaviour b.name b.mode) ∷ (map item_line (op_items weighted b b.mode) ++ (map item_line (map edge_item b.problem.edges) ++ (l ++ codes "end" ∷ [])))) (certificate_are b b.mode)
    ∙ ap (λ l. item_line (Behaviour b.name b.mode) ∷ l) (sym (four_joined (op_items weighted b b.mode) (map edge_item b.problem.edges) (certificate_items b b.mode) (End ∷ [])))

blocks_are : (weighted : Bool) (bs : List ReportBlock) → flat_map (block_lines weighted) bs ≡ map item_line (flat_map (block_items weighted) bs)
blocks_are weighted [] = refl
blocks_are weighted (b ∷ bs) = ap (λ l. l ++ flat_map (block_lines weighted) bs) (block_are weighted b) ∙ ap (λ l. map item_line (block_items weighted b) ++ l) (blocks_are weighted bs) ∙ sym (map_join (block_items weighted b) (flat_map (block_items weighted) bs))

pub report_are : (r : Report) → report_lines r ≡ map item_line (report_items r)
report_are r = ap (λ l. (codes "longnail report" ++ field r.version) ∷ (codes "period" ++ field r.period) ∷ l) (blocks_are (is_weighted r.version) r.blocks)

-- ---- each item of a report is in the range of its form
abbrev pub EachItem : List Item → Type 0
EachItem [] = Unit {0}
EachItem (x ∷ xs) = IsItem x × EachItem xs

pub each_join : (xs ys : List Item) → EachItem xs → EachItem ys → EachItem (xs ++ ys)
each_join [] ys a b = b
each_join (x ∷ xs) ys a b = (a.0, each_join xs ys a.1 b)

each_map : {X : Type 0} (P : X → Type 0) (g : X → Item) (good : (x : X) → P x → IsItem (g x)) (xs : List X) → All P xs → EachItem (map g xs)
each_map P g good [] a = tt
each_map P g good (x ∷ xs) a = (good x (All-head P x xs a), each_map P g good xs (All-tail P x xs a))

wide_below : (n k : ℕ) → n ≤ 65536 → k < n → IsWide k
wide_below n k few h = omega (arith, few, h)

path_wide : (n : ℕ) (path : List ℕ) → n ≤ 65536 → All (λ k. k < n) path → All IsWide path
path_wide n path few a = λ k d l. wide_below n _ few (a k d l)

pub bound_wide : (n : ℕ) (bound : Bound) → n ≤ 65536 → IsBoundInForm n bound → IsBound bound
bound_wide n (Early k) few b = wide_below n k few b
bound_wide n (Late k) few b = wide_below n k few b
bound_wide n (Dep i j) few b = (wide_below n i few b.0, wide_below n j few b.1)
bound_wide n (Chain path) few b = (b.0, path_wide n path few b.1)

part_item : (n : ℕ) → n ≤ 65536 → (c : Bound × ℕ) → IsPartInForm n c → IsItem (flow_item c)
part_item n few c p = (p.positive, omega (arith, p.small), bound_wide n c.0 few p.bound)

edge_wide : (n : ℕ) → n ≤ 65536 → (e : ℕ × ℕ) → IsEdgeInForm n e → IsItem (edge_item e)
edge_wide n few e h = (omega (arith, few, h.0, h.1), omega (arith, few, h.1))

untimed_each : (weighted : Bool) (k : ℕ) (kinds : List Line) (nodes : List Node) → k + length nodes ≤ 65536 → All IsKindName kinds → All IsNodeInForm nodes → All (HasWeight weighted) nodes → EachItem (untimed_items weighted k kinds nodes)
untimed_each weighted k [] nodes few a b h = tt
untimed_each weighted k (kind ∷ kinds) [] few a b h = tt
untimed_each weighted k (kind ∷ kinds) (node ∷ nodes) few a b h = (
  record { place = omega (arith, few); kind = All-head IsKindName kind kinds a; node = All-head IsNodeInForm node nodes b; weight = All-head (HasWeight weighted) node nodes h; time = tt },
  untimed_each weighted (k + 1) kinds nodes (omega (arith, few)) (All-tail IsKindName kind kinds a) (All-tail IsNodeInForm node nodes b) (All-tail (HasWeight weighted) node nodes h),
)

timed_each : (weighted : Bool) (k : ℕ) (kinds : List Line) (nodes : List Node) (times : List ℕ) → k + length nodes ≤ 65536 → All IsKindName kinds → All IsNodeInForm nodes → All (HasWeight weighted) nodes → All (λ t. t ≤ 255) times → EachItem (timed_items weighted k kinds nodes times)
timed_each weighted k [] nodes times few a b h c = tt
timed_each weighted k (kind ∷ kinds) [] times few a b h c = tt
timed_each weighted k (kind ∷ kinds) (node ∷ nodes) [] few a b h c = tt
timed_each weighted k (kind ∷ kinds) (node ∷ nodes) (time ∷ times) few a b h c = (
  record { place = omega (arith, few); kind = All-head IsKindName kind kinds a; node = All-head IsNodeInForm node nodes b; weight = All-head (HasWeight weighted) node nodes h; time = All-head (λ t. t ≤ 255) time times c },
  timed_each weighted (k + 1) kinds nodes times (omega (arith, few)) (All-tail IsKindName kind kinds a) (All-tail IsNodeInForm node nodes b) (All-tail (HasWeight weighted) node nodes h) (All-tail (λ t. t ≤ 255) time times c),
)

ops_each : (weighted : Bool) (period : ℕ) (b : ReportBlock) (mode : Option Mode) → IsBlockInForm weighted period b → HasCertificate b mode → EachItem (op_items weighted b mode)
ops_each weighted period b None f h = untimed_each weighted 0 b.kinds b.problem.ops (omega (arith, f.few)) f.kinds f.nodes f.weights
ops_each weighted period b (Some mode) f h = timed_each weighted 0 b.kinds b.problem.ops b.times (omega (arith, f.few)) f.kinds f.nodes f.weights h.1

certificate_each : (weighted : Bool) (period : ℕ) (b : ReportBlock) (mode : Option Mode) → IsBlockInForm weighted period b → HasCertificate b mode → EachItem (certificate_items b mode)
certificate_each weighted period b None f h = each_map (IsBoundInForm (length b.problem.ops)) Cycle (λ bound. bound_wide (length b.problem.ops) bound f.few) b.cycle h.3
certificate_each weighted period b (Some mode) f h = (omega (arith, h.2), each_map (IsPartInForm (length b.problem.ops)) flow_item (part_item (length b.problem.ops) f.few) b.flow h.3)

pub block_each : (weighted : Bool) (period : ℕ) (b : ReportBlock) → IsBlockInForm weighted period b → EachItem (block_items weighted b)
block_each weighted period b f = (
  f.named,
  each_join (op_items weighted b b.mode) _ (ops_each weighted period b b.mode f f.certificate)
      (each_join (map edge_item b.problem.edges) _ (each_map (IsEdgeInForm (length b.problem.ops)) edge_item (edge_wide (length b.problem.ops) f.few) b.problem.edges f.edges)
      (each_join (certificate_items b b.mode) (End ∷ []) (certificate_each weighted period b b.mode f f.certificate) (tt, tt))),
)

blocks_each : (weighted : Bool) (period : ℕ) (bs : List ReportBlock) → All (IsBlockInForm weighted period) bs → EachItem (flat_map (block_items weighted) bs)
blocks_each weighted period [] a = tt
blocks_each weighted period (b ∷ bs) a = each_join (block_items weighted b) (flat_map (block_items weighted) bs) (block_each weighted period b (All-head (IsBlockInForm weighted period) b bs a)) (blocks_each weighted period bs (All-tail (IsBlockInForm weighted period) b bs a))

pub report_each : (r : Report) → IsInForm r → EachItem (report_items r)
report_each r f = ((f.some_version, f.most_version), ((f.some_period, f.most_period), blocks_each (is_weighted r.version) r.period r.blocks f.blocks))
