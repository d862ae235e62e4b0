-- No two items have the same words: what they say is read back.
use Rattle.std.proofs.Common.{◌≡◌, ℕ, zero, suc, ◌+◌, ◌<◌, ◌≤◌, ◌^◌, ◌==◌, List, [], ◌∷◌, refl, sym, ap, ◌∙◌, arith, lit<, Option, Some, None, Bool, true, false}
use Rattle.std.specs.Prelude.{map, All, decimal, if◌then◌else◌}
use Rattle.std.specs.List.{slice_split}
use Rattle.std.proofs.lemmas.List.Elements.{All-head, All-tail}
use Rattle.ix_graph.specs.declared.graph.Mode.{Mode}
use Rattle.ix_graph.specs.declared.graph.Mode.TheVariants.{InPipeline, Tight, Decoupled, Always}
use Rattle.ix_sheet.specs.declared.problem.Bound.{Bound}
use Rattle.ix_sheet.specs.declared.problem.Bound.TheVariants.{Early, Late, Dep, Chain}
use Rattle.ix_sheet.specs.declared.problem.Node.{Node}
use Rattle.ix_cert.specs.declared.item.Item.{Item}
use Rattle.ix_cert.specs.declared.item.Item.TheVariants.{Title, Period, Behaviour, Op, Edge, Cost, Flow, Cycle, End}
use Rattle.ix_cert.specs.declared.item.Operation.{Operation}
use Rattle.ix_cert.specs.Layout.{Line, mode_text}
use Rattle.ix_cert.specs.Items.{IsItem, IsOperation, IsBound, IsWide, IsTime, item_words, item_line, bound_words, time_words, op_words, operation}
use Rattle.ix_cert.proofs.Shown.{item_cut}
use Rattle.ix_lines.proofs.Numerals.{value, value_decimal}

value_wide : (n : ℕ) → IsWide n → value (decimal n) ≡ n
value_wide n h = value_decimal n 4294967295 h (lit< tt)

value_great : (n : ℕ) → n ≤ 18446744073709551615 → value (decimal n) ≡ n
value_great n h = value_decimal n 18446744073709551615 h (lit< tt)

value_time : (n : ℕ) → n ≤ 255 → value (decimal n) ≡ n
value_time n h = value_decimal n 255 h (lit< tt)

value_million : (n : ℕ) → n ≤ 1000000 → value (decimal n) ≡ n
value_million n h = value_decimal n 1000000 h (lit< tt)

-- the first byte of a word, and the second
abbrev first : Line → ℕ
first [] = 0
first (b ∷ rest) = b

abbrev second : Line → ℕ
second [] = 0
second (b ∷ rest) = first rest

abbrev nth : ℕ → List Line → Line
nth k [] = []
nth zero (w ∷ ws) = w
nth (suc k) (w ∷ ws) = nth k ws

abbrev rest_of : List Line → List Line
rest_of [] = []
rest_of (w ∷ ws) = ws

abbrev mode_in : Line → Option Mode
mode_in w = if first w == 110 then None else if first w == 73 then Some InPipeline else if first w == 84 then Some Tight else if first w == 68 then Some Decoupled else Some Always

mode_back : (mode : Option Mode) → mode_in (mode_text mode) ≡ mode
mode_back None = refl
mode_back (Some InPipeline) = refl
mode_back (Some Tight) = refl
mode_back (Some Decoupled) = refl
mode_back (Some Always) = refl

abbrev bound_in : List Line → Bound
bound_in ws =
    if first (nth 0 ws) == 101 then Early (value (nth 1 ws)) else
    if first (nth 0 ws) == 108 then Late (value (nth 1 ws)) else
    if first (nth 0 ws) == 100 then Dep (value (nth 1 ws)) (value (nth 2 ws)) else Chain (map value (rest_of ws))

path_back : (path : List ℕ) → All IsWide path → map value (map decimal path) ≡ path
path_back [] w = refl
path_back (k ∷ path) w = rw (value_wide k (All-head IsWide k path w), path_back path (All-tail IsWide k path w)) refl

bound_back : (bound : Bound) → IsBound bound → bound_in (bound_words bound) ≡ bound
bound_back (Early k) w = ap (λ n. Early n) (value_wide k w)
bound_back (Late k) w = ap (λ n. Late n) (value_wide k w)
bound_back (Dep i j) w = ap (λ n. Dep n (value (decimal j))) (value_wide i w.0) ∙ ap (λ n. Dep i n) (value_wide j w.1)
bound_back (Chain path) w = ap (λ p. Chain p) (path_back path w.1)

abbrev time_in : List Line → Option ℕ
time_in [] = None
time_in (w ∷ ws) = Some (value (nth 0 ws))

time_back : (time : Option ℕ) → IsTime time → time_in (time_words time) ≡ time
time_back None h = refl
time_back (Some time) h = ap (λ n. Some n) (value_time time h)

abbrev behind_ten : List Line → List Line
behind_ten (a ∷ b ∷ c ∷ d ∷ e ∷ f ∷ g ∷ h ∷ i ∷ j ∷ rest) = rest
behind_ten ws = []

-- the window and the time from word n on, with a weight
abbrev op_from : Bool → ℕ → ℕ → List Line → Operation
op_from weighted weight n ws =
    operation weighted (value (nth 0 ws)) (nth 1 ws) (record { delay = value (nth 3 ws); latency = value (nth 5 ws); weight = weight; early = value (nth n ws); late = value (nth (n + 2) ws) }) (time_in (if weighted then rest_of (rest_of (behind_ten ws)) else behind_ten ws))

abbrev op_in : List Line → Operation
op_in ws = if first (nth 6 ws) == 119 then op_from true (value (nth 7 ws)) 9 ws else op_from false 1 7 ws

same_op : (weighted : Bool) (p p2 : ℕ) (kind : Line) (d d2 l l2 w w2 e e2 f f2 : ℕ) (t t2 : Option ℕ) → p ≡ p2 → d ≡ d2 → l ≡ l2 → w ≡ w2 → e ≡ e2 → f ≡ f2 → t ≡ t2
    → operation weighted p kind (record { delay = d; latency = l; weight = w; early = e; late = f }) t ≡ operation weighted p2 kind (record { delay = d2; latency = l2; weight = w2; early = e2; late = f2 }) t2
same_op weighted p p2 kind d d2 l l2 w w2 e e2 f f2 t t2 a b c k g h i = rw (a, b, c, k, g, h, i) refl

parts_back : (weighted : Bool) (place : ℕ) (kind : Line) (node : Node) (time : Option ℕ) → IsOperation (operation weighted place kind node time)
    → op_in (op_words (operation weighted place kind node time)) ≡ operation weighted place kind node time
parts_back false place kind node time w =
    same_op false _ place kind _ node.delay _ node.latency _ node.weight _ node.early _ node.late _ time
    (value_decimal place 65535 w.place (lit< tt)) (value_million node.delay w.node.delay) (value_time node.latency w.node.latency) (sym w.weight) (value_time node.early w.node.early) (value_time node.late w.node.late) (time_back time w.time)
parts_back true place kind node time w =
    same_op true _ place kind _ node.delay _ node.latency _ node.weight _ node.early _ node.late _ time
    (value_decimal place 65535 w.place (lit< tt)) (value_million node.delay w.node.delay) (value_time node.latency w.node.latency) (value_decimal node.weight 128 w.weight.1 (lit< tt)) (value_time node.early w.node.early) (value_time node.late w.node.late) (time_back time w.time)

op_back : (op : Operation) → IsOperation op → op_in (op_words op) ≡ op
op_back op w = parts_back op.weighted op.place op.kind op.node op.time w

abbrev item_in : List Line → Item
item_in ws =
    if first (nth 0 ws) == 108 then Title (value (nth 2 ws)) else
    if first (nth 0 ws) == 112 then Period (value (nth 1 ws)) else
    if first (nth 0 ws) == 98 then Behaviour (nth 1 ws) (mode_in (nth 2 ws)) else
    if first (nth 0 ws) == 111 then Op (op_in (rest_of ws)) else
    if first (nth 0 ws) == 102 then Flow (value (nth 1 ws)) (bound_in (rest_of (rest_of ws))) else
    if second (nth 0 ws) == 100 then Edge (value (nth 1 ws)) (value (nth 2 ws)) else
    if second (nth 0 ws) == 111 then Cost (value (nth 1 ws)) else
    if second (nth 0 ws) == 121 then Cycle (bound_in (rest_of ws)) else End

item_back : (x : Item) → IsItem x → item_in (item_words x) ≡ x
item_back (Title version) w = ap (λ n. Title n) (value_decimal version 2 w.1 (lit< tt))
item_back (Period period) w = ap (λ n. Period n) (value_million period w.1)
item_back (Behaviour name mode) w = ap (λ m. Behaviour name m) (mode_back mode)
item_back (Op op) w = ap (λ o. Op o) (op_back op w)
item_back (Edge i j) w = ap (λ n. Edge n (value (decimal j))) (value_wide i w.0) ∙ ap (λ n. Edge i n) (value_wide j w.1)
item_back (Cost cost) w = ap (λ n. Cost n) (value_great cost w)
item_back (Flow amount bound) w = ap (λ n. Flow n (bound_in (bound_words bound))) (value_great amount w.1) ∙ ap (λ b. Flow amount b) (bound_back bound w.2)
item_back (Cycle bound) w = ap (λ b. Cycle b) (bound_back bound w)
item_back End w = refl

-- two items with one line are one item
pub one_item : (x y : Item) → IsItem x → IsItem y → item_line x ≡ item_line y → x ≡ y
one_item x y v w e =
    let words : item_words x ≡ item_words y = sym (item_cut x v) ∙ ap (λ l. slice_split (λ b. b == 32) l) e ∙ item_cut y w in
    sym (item_back x v) ∙ ap item_in words ∙ item_back y w
