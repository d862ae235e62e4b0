-- Lines of a report, one after another.
use Rattle.std.proofs.Common.{◌≡◌, ℕ, zero, suc, ◌+◌, ◌<◌, ◌≤◌, List, [], ◌∷◌, ◌++◌, length, take, drop, get_or, refl, sym, ap, ◌∙◌, arith, append_assoc, drop-cons, Option, Some, None, Bool}
use Rattle.std.specs.List.{flat_map}
use Rattle.std.specs.Prelude.{map, codes, decimal, Result, Ok, Err, OnOk}
use Rattle.std.proofs.lemmas.Grind.{flat_map-append}
use Rattle.ix_cert.specs.declared.report.Report.{Report}
use Rattle.ix_cert.specs.Layout.{field, is_weighted, width_text, block_lines, report_lines}
use Rattle.std.proofs.lemmas.List.{append-nil, flat_map_more}
use Rattle.std.proofs.lemmas.List.Folds.{flat_map-map}
use Rattle.ix_graph.specs.declared.graph.Mode.{Mode}
use Rattle.ix_sheet.specs.declared.problem.Node.{Node}
use Rattle.ix_cert.specs.declared.report.ReportBlock.{ReportBlock}
use Rattle.ix_cert.specs.Layout.{Line, op_line, timed_lines, untimed_lines, op_lines}
use Rattle.ix_cert.proofs.Lists.{run_on, node_parts}
use Rattle.ix_lines.proofs.Fronts.{take_next, take_whole}
use Rattle.ix_cert.specs.Printing.{time_field, time_at, HasTimes}
use Rattle.ix_lines.specs.Lines.{text_of}

-- one piece more
pub piece_more : {X : Type 0} (f : X → List ℕ) (before out new : List ℕ) (xs : List X) (k : ℕ) (d : X) → out ≡ before ++ flat_map f (take k xs) → new ≡ out ++ f (get_or xs k d) → k < length xs
    → new ≡ before ++ flat_map f (take (k + 1) xs)
piece_more f before out new xs k d e n l =
    let j : k + 1 ≡ suc k = omega arith in
    n ∙ ap (λ t. t ++ f (get_or xs k d)) e ∙ flat_map_more f before (take k xs) (get_or xs k d) ∙ ap (λ t. before ++ flat_map f t) (sym (take_next xs k d l)) ∙ ap (λ i. before ++ flat_map f (take i xs)) (sym j)

-- all pieces
pub pieces_all : {X : Type 0} (f : X → List ℕ) (before out : List ℕ) (xs : List X) (k : ℕ) → out ≡ before ++ flat_map f (take k xs) → length xs ≤ k → out ≡ before ++ flat_map f xs
pieces_all f before out xs k e l = e ∙ ap (λ t. before ++ flat_map f t) (take_whole xs k l)

-- and where the pieces are lines
pub lines_all : {X : Type 0} (f : X → Line) (before out : List ℕ) (xs : List X) (k : ℕ) → out ≡ before ++ flat_map (λ x. f x ++ 10 ∷ []) (take k xs) → length xs ≤ k → out ≡ before ++ text_of (map f xs)
lines_all f before out xs k e l = pieces_all (λ x. f x ++ 10 ∷ []) before out xs k e l ∙ ap (λ t. before ++ t) (sym (flat_map-map (λ line. line ++ 10 ∷ []) f xs))

-- ---- the operations from a place on
abbrev pub ops_from : Bool → ReportBlock → Option Mode → ℕ → List Line
ops_from weighted b None k = untimed_lines weighted k (drop k b.kinds) (drop k b.problem.ops)
ops_from weighted b (Some mode) k = timed_lines weighted k (drop k b.kinds) (drop k b.problem.ops) (drop k b.times)

untimed_next : (weighted : Bool) (k : ℕ) (kinds kinds2 : List Line) (kind : Line) (nodes nodes2 : List Node) (node : Node) → kinds ≡ kind ∷ kinds2 → nodes ≡ node ∷ nodes2
    → untimed_lines weighted k kinds nodes ≡ op_line weighted k kind node [] ∷ untimed_lines weighted (k + 1) kinds2 nodes2
untimed_next weighted k kinds kinds2 kind nodes nodes2 node a b = rw (a, b) refl

timed_next : (weighted : Bool) (k : ℕ) (kinds kinds2 : List Line) (kind : Line) (nodes nodes2 : List Node) (node : Node) (times times2 : List ℕ) (time : ℕ) → kinds ≡ kind ∷ kinds2 → nodes ≡ node ∷ nodes2 → times ≡ time ∷ times2
    → timed_lines weighted k kinds nodes times ≡ op_line weighted k kind node (time_field (Some time)) ∷ timed_lines weighted (k + 1) kinds2 nodes2 times2
timed_next weighted k kinds kinds2 kind nodes nodes2 node times times2 time a b c = rw (a, b, c) refl

drop_next : {X : Type 0} (xs : List X) (k : ℕ) (d : X) → k < length xs → drop k xs ≡ get_or xs k d ∷ drop (k + 1) xs
drop_next xs k d l = let j : k + 1 ≡ suc k = omega arith in drop-cons xs k d l ∙ ap (λ i. get_or xs k d ∷ drop i xs) (sym j)

pub op_next : (weighted : Bool) (b : ReportBlock) (mode : Option Mode) (k : ℕ) (kind : Line) (node : Node) → length b.kinds ≡ length b.problem.ops → HasTimes b mode → k < length b.problem.ops
    → ops_from weighted b mode k ≡ op_line weighted k (get_or b.kinds k kind) (get_or b.problem.ops k node) (time_field (time_at mode b.times k)) ∷ ops_from weighted b mode (k + 1)
op_next weighted b None k kind node c t l =
    untimed_next weighted k _ _ _ _ _ _ (drop_next b.kinds k kind (omega (arith, l, c))) (drop_next b.problem.ops k node l)
op_next weighted b (Some mode) k kind node c t l =
    timed_next weighted k _ _ _ _ _ _ _ _ _ (drop_next b.kinds k kind (omega (arith, l, c))) (drop_next b.problem.ops k node l) (drop_next b.times k 0 (omega (arith, l, t)))

-- one operation more
pub op_more : (weighted : Bool) (b : ReportBlock) (mode : Option Mode) (k : ℕ) (kind : Line) (node : Node) (out new all : List ℕ) (kind2 : Line) (node2 : Node) (time2 : Option ℕ)
    → kind2 ≡ get_or b.kinds k kind → node2 ≡ get_or b.problem.ops k node → time2 ≡ time_at mode b.times k → length b.kinds ≡ length b.problem.ops → HasTimes b mode → k < length b.problem.ops
    → out ++ text_of (ops_from weighted b mode k) ≡ all
    → new ≡ out ++ (op_line weighted k kind2 node2 (time_field time2) ++ 10 ∷ [])
    → new ++ text_of (ops_from weighted b mode (k + 1)) ≡ all
op_more weighted b mode k kind node out new all kind2 node2 time2 ek en et c t l e n =
    ap (λ o. o ++ text_of (ops_from weighted b mode (k + 1))) (n ∙ ap (λ x. out ++ (op_line weighted k x node2 (time_field time2) ++ 10 ∷ [])) ek ∙ ap (λ x. out ++ (op_line weighted k (get_or b.kinds k kind) x (time_field time2) ++ 10 ∷ [])) en ∙ ap (λ x. out ++ (op_line weighted k (get_or b.kinds k kind) (get_or b.problem.ops k node) (time_field x) ++ 10 ∷ [])) et)
    ∙ append_assoc out _ _
    ∙ ap (λ o. out ++ text_of o) (sym (op_next weighted b mode k kind node c t l))
    ∙ e

nil_drop : {X : Type 0} (xs : List X) (k : ℕ) → length xs ≤ k → drop k xs ≡ []
nil_drop [] zero l = refl
nil_drop [] (suc k) l = refl
nil_drop (x ∷ xs) zero l = absurd (omega (arith, l))
nil_drop (x ∷ xs) (suc k) l = nil_drop xs k (omega (arith, l))

no_kinds : (weighted : Bool) (b : ReportBlock) (mode : Option Mode) (k : ℕ) → length b.kinds ≤ k → ops_from weighted b mode k ≡ []
no_kinds weighted b None k l = rw (nil_drop b.kinds k l) refl
no_kinds weighted b (Some mode) k l = rw (nil_drop b.kinds k l) refl

pub ops_all : (weighted : Bool) (b : ReportBlock) (mode : Option Mode) (k : ℕ) (out all : List ℕ) → length b.kinds ≤ k → out ++ text_of (ops_from weighted b mode k) ≡ all → out ≡ all
ops_all weighted b mode k out all l e = sym (append-nil out) ∙ ap (λ o. out ++ text_of o) (sym (no_kinds weighted b mode k l)) ∙ e

pub ops_first : (weighted : Bool) (b : ReportBlock) (mode : Option Mode) → ops_from weighted b mode 0 ≡ op_lines weighted b mode
ops_first weighted b None = refl
ops_first weighted b (Some mode) = refl

-- what is so where a call did not fail
pub then_ok : {T E : Type 0} {A B : Type 0} (r : Result T E) → OnOk r A → (A → B) → OnOk r B
then_ok (Ok x) a f = f a
then_ok (Err e) a f = a

abbrev node_text : Bool → Node → List ℕ
node_text weighted node = codes " delay" ++ field node.delay ++ codes " latency" ++ field node.latency ++ width_text weighted node.weight ++ codes " early" ++ field node.early ++ codes " late" ++ field node.late

node_joined : (o a b c d w e f g h : List ℕ) → ((((o ++ (a ++ b)) ++ (c ++ d)) ++ w) ++ (e ++ f)) ++ (g ++ h) ≡ o ++ ((((((((a ++ b) ++ c) ++ d) ++ w) ++ e) ++ f) ++ g) ++ h)
node_joined o a b c d w e f g h = simp append_assoc

-- the pieces of the numbers of an operation
pub node_pieces : (weighted : Bool) (o n1 n2 n3 n4 n5 : List ℕ) (node : Node) (delay latency early late : ℕ) → delay ≡ node.delay → latency ≡ node.latency → early ≡ node.early → late ≡ node.late
    → n1 ≡ o ++ (codes " delay" ++ field delay) → n2 ≡ n1 ++ (codes " latency" ++ field latency) → n3 ≡ n2 ++ width_text weighted node.weight → n4 ≡ n3 ++ (codes " early" ++ field early)
    → n5 ≡ n4 ++ (codes " late" ++ field late) → n5 ≡ o ++ node_text weighted node
node_pieces weighted o n1 n2 n3 n4 n5 node delay latency early late sd sl se sf e1 e2 e3 e4 e5 =
    e5 ∙ ap (λ k. n4 ++ (codes " late" ++ field k)) sf
    ∙ ap (λ n. n ++ (codes " late" ++ field node.late)) (e4 ∙ ap (λ k. n3 ++ (codes " early" ++ field k)) se
    ∙ ap (λ n. n ++ (codes " early" ++ field node.early)) (e3
    ∙ ap (λ n. n ++ width_text weighted node.weight) (e2 ∙ ap (λ k. n1 ++ (codes " latency" ++ field k)) sl
    ∙ ap (λ n. n ++ (codes " latency" ++ field node.latency)) (e1 ∙ ap (λ k. o ++ (codes " delay" ++ field k)) sd))))
    ∙ node_joined o (codes " delay") (field node.delay) (codes " latency") (field node.latency) (width_text weighted node.weight) (codes " early") (field node.early) (codes " late") (field node.late)

push_front : (o x : Line) (ps : List Line) → o ++ run_on x ps ≡ run_on (o ++ x) ps
push_front o x [] = refl
push_front o x (p ∷ ps) = push_front o (x ++ p) ps ∙ ap (λ l. run_on l ps) (sym (append_assoc o x p))

five : (o a b c d e : List ℕ) → ((((o ++ a) ++ b) ++ c) ++ d) ++ e ≡ o ++ (a ++ (b ++ (c ++ (d ++ e))))
five o a b c d e = simp append_assoc

report_shape : (title period bs : List ℕ) → title ++ (codes "\n" ++ (period ++ (codes "\n" ++ bs))) ≡ (title ++ 10 ∷ []) ++ ((period ++ 10 ∷ []) ++ bs)
report_shape title period bs = ap (λ l. title ++ 10 ∷ l) (sym (append_assoc period (10 ∷ []) bs)) ∙ sym (append_assoc title (10 ∷ []) ((period ++ 10 ∷ []) ++ bs))

-- the parts of an operation's line
pub op_parts : (weighted : Bool) (o n1 n2 n3 n4 n5 n6 : List ℕ) (place : ℕ) (kind : Line) (node : Node) (time : Option ℕ) → n1 ≡ o ++ (codes "op" ++ field place) → n2 ≡ n1 ++ codes " " → n3 ≡ n2 ++ kind
    → n4 ≡ n3 ++ (codes " delay" ++ field node.delay ++ codes " latency" ++ field node.latency ++ width_text weighted node.weight ++ codes " early" ++ field node.early ++ codes " late" ++ field node.late)
    → n5 ≡ n4 ++ time_field time → n6 ≡ n5 ++ codes "\n" → n6 ≡ o ++ (op_line weighted place kind node (time_field time) ++ 10 ∷ [])
op_parts weighted o n1 n2 n3 n4 n5 n6 place kind node time e1 e2 e3 e4 e5 e6 =
    e6 ∙ ap (λ n. n ++ codes "\n") (e5 ∙ ap (λ n. n ++ time_field time)
    (e4 ∙ ap (λ n. n ++ node_text weighted node) (e3 ∙ ap (λ n. n ++ kind) (e2 ∙ ap (λ n. n ++ codes " ") (e1 ∙ sym (append_assoc o (codes "op") (field place)))))
    ∙ push_front ((((o ++ codes "op") ++ field place) ++ codes " ") ++ kind) (codes " delay") (node_parts weighted node [])))
    ∙ sym (push_front o (codes "op") (field place ∷ codes " " ∷ kind ∷ codes " delay" ∷ node_parts weighted node (time_field time ∷ codes "\n" ∷ [])))

abbrev title : Report → List ℕ
title r = codes "longnail report" ++ field r.version

abbrev blocks_text : Report → List ReportBlock → List ℕ
blocks_text r blocks = text_of (flat_map (block_lines (is_weighted r.version)) blocks)

pub report_parts : (o n1 n2 n3 n4 n5 : List ℕ) (r : Report) (version period : ℕ) (weighted : Bool) (blocks : List ReportBlock) → version ≡ r.version → period ≡ r.period → weighted ≡ is_weighted r.version → blocks ≡ r.blocks
    → n1 ≡ o ++ (codes "longnail report" ++ field version) → n2 ≡ n1 ++ codes "\n" → n3 ≡ n2 ++ (codes "period" ++ field period) → n4 ≡ n3 ++ codes "\n"
    → n5 ≡ n4 ++ text_of (flat_map (block_lines weighted) blocks) → n5 ≡ o ++ text_of (report_lines r)
report_parts o n1 n2 n3 n4 n5 r version period weighted blocks sv sp sw is e1 e2 e3 e4 e5 =
    e5 ∙ ap (λ w. n4 ++ text_of (flat_map (block_lines w) blocks)) sw ∙ ap (λ b. n4 ++ blocks_text r b) is
    ∙ ap (λ n. n ++ blocks_text r r.blocks) (e4 ∙ ap (λ n. n ++ codes "\n") (e3 ∙ ap (λ p. n2 ++ (codes "period" ++ field p)) sp ∙ ap (λ n. n ++ (codes "period" ++ field r.period)) (e2 ∙ ap (λ n. n ++ codes "\n") (e1 ∙ ap (λ v. o ++ (codes "longnail report" ++ field v)) sv))))
    ∙ five o (title r) (codes "\n") (codes "period" ++ field r.period) (codes "\n") (blocks_text r r.blocks)
    ∙ ap (λ l. o ++ l) (report_shape (title r) (codes "period" ++ field r.period) (blocks_text r r.blocks))

flat_twice : (weighted : Bool) (bs : List ReportBlock) → flat_map (λ b. text_of (block_lines weighted b)) bs ≡ text_of (flat_map (block_lines weighted) bs)
flat_twice weighted [] = refl
flat_twice weighted (b ∷ bs) = ap (λ t. text_of (block_lines weighted b) ++ t) (flat_twice weighted bs) ∙ sym (flat_map-append (λ line. line ++ 10 ∷ []) (block_lines weighted b) (flat_map (block_lines weighted) bs))

pub blocks_all : (weighted : Bool) (before out : List ℕ) (bs : List ReportBlock) (k : ℕ) → out ≡ before ++ flat_map (λ b. text_of (block_lines weighted b)) (take k bs) → length bs ≤ k → out ≡ before ++ text_of (flat_map (block_lines weighted) bs)
blocks_all weighted before out bs k e l = pieces_all (λ b. text_of (block_lines weighted b)) before out bs k e l ∙ ap (λ t. before ++ t) (flat_twice weighted bs)
