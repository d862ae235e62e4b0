-- Wider windows leave each legal schedule legal.
use Rattle.std.proofs.Common.{◌≡◌, ◌∙◌, sym, refl, ℕ, zero, suc, ◌≤◌, ◌<◌, ◌+◌, ◌-◌, Bool, true, false, List, [], ◌∷◌, length, map, get_or, arith, lit<}
use Rattle.std.specs.Prelude.{All}
use Rattle.std.specs.List.{zip}
use Rattle.std.proofs.lemmas.List.{length-map}
use Rattle.std.proofs.lemmas.List.Elements.{All-weaker, All-cons, All-nil}
use Rattle.ix_graph.specs.declared.graph.Op.{Op}
use Rattle.ix_graph.specs.declared.graph.Graph.{Graph}
use Rattle.ix_graph.specs.declared.graph.Mode.TheVariants.{InPipeline, Tight}
use Rattle.ix_graph.specs.declared.kind.Kind.{Kind}
use Rattle.ix_graph.specs.declared.kind.Kind.TheVariants.{WrRD, WrPC, WrCustReg}
use Rattle.ix_sheet.specs.declared.sheet.Sheet.{Sheet}
use Rattle.ix_sheet.specs.declared.problem.Node.{Node}
use Rattle.ix_sheet.specs.declared.problem.Problem.{Problem}
use Rattle.ix_sheet.specs.Sheets.{IsValidSheet, window_at}
use Rattle.ix_sheet.specs.Schedules.{node_at, HasFreeEdge, Runs, IsFreePath, delay_along, KeepsPeriod, IsAfter, IsLegal, HasSchedule}
use Rattle.ix_sheet.specs.Behaviours.{window_of, last_if_tight, node_of, problem_of}
use Rattle.ix_sheet.proofs.Sums.{sum_by-same_each}

-- the same operation, with a wider window
pub record Widens (a b : Node) : Type 0 where
  pub delay_is : b.delay ≡ a.delay
  pub latency_is : b.latency ≡ a.latency
  pub early : b.early ≤ a.early
  pub late : a.late ≤ b.late

pub record IsWider (p q : Problem) : Type 0 where
  pub edges_are : q.edges ≡ p.edges
  pub period_is : q.period ≡ p.period
  pub count_is : length q.ops ≡ length p.ops
  pub nodes : (k : ℕ) → Widens (node_at p k) (node_at q k)

-- ---- legal schedules
free_narrow : (p q : Problem) (i j : ℕ) → IsWider p q → HasFreeEdge q i j → HasFreeEdge p i j
free_narrow p q i j w h = (rw (sym w.edges_are) h.0, sym (w.nodes i).latency_is ∙ h.1)

runs_narrow : (p q : Problem) (i : ℕ) (rest : List ℕ) → IsWider p q → Runs q i rest → Runs p i rest
runs_narrow p q i [] w h = tt
runs_narrow p q i (j ∷ rest) w h = (free_narrow p q i j w h.0, runs_narrow p q j rest w h.1)

path_narrow : (p q : Problem) (path : List ℕ) → IsWider p q → IsFreePath q path → IsFreePath p path
path_narrow p q [] w h = h
path_narrow p q (i ∷ rest) w h =
    let inside : i < length q.ops = h.0 in
    let count = w.count_is in
    (omega arith, runs_narrow p q i rest w h.1)

all_of : {X : Type 0} (P : X → Type 0) → ((x : X) → P x) → (xs : List X) → All P xs
all_of P each [] = All-nil P
all_of P each (x ∷ xs) = All-cons P x xs (each x) (all_of P each xs)

delay_same : (p q : Problem) (path : List ℕ) → IsWider p q → delay_along q path ≡ delay_along p path
delay_same p q path w =
    sum_by-same_each (λ k. (node_at q k).delay) (λ k. (node_at p k).delay) path (all_of (λ k. (node_at q k).delay ≡ (node_at p k).delay) (λ k. (w.nodes k).delay_is) path)

period_wider : (p q : Problem) (t : ℕ → ℕ) → IsWider p q → KeepsPeriod p t → KeepsPeriod q t
period_wider p q t w keeps path free same =
    let kept : delay_along p path ≤ p.period = keeps path (path_narrow p q path w free) same in
    let delays : delay_along q path ≡ delay_along p path = delay_same p q path w in
    let period : q.period ≡ p.period = w.period_is in
    omega arith

after_wider : (p q : Problem) (t : ℕ → ℕ) (e : ℕ × ℕ) → IsWider p q → IsAfter p t e → IsAfter q t e
after_wider p q t e w h =
    let latency : (node_at q e.0).latency ≡ (node_at p e.0).latency = (w.nodes e.0).latency_is in
    let before : t e.0 + (node_at p e.0).latency ≤ t e.1 = h in
    omega arith

pub legal_wider : (p q : Problem) (t : ℕ → ℕ) → IsWider p q → IsLegal p t → IsLegal q t
legal_wider p q t w legal = record {
  windows = λ k h.
      (let count = w.count_is in
      let inside : k < length p.ops = omega arith in
      let early : (node_at q k).early ≤ (node_at p k).early = (w.nodes k).early in
      let late : (node_at p k).late ≤ (node_at q k).late = (w.nodes k).late in
      let old = legal.windows k inside in
      let first : (node_at p k).early ≤ t k = old.0 in
      let last : t k ≤ (node_at p k).late = old.1 in
      (omega arith, omega arith));
  edges = rw w.edges_are (All-weaker (IsAfter p t) (IsAfter q t) (λ e h. after_wider p q t e w h) p.edges legal.edges);
  period = period_wider p q t w legal.period;
}

-- ---- the windows of an instruction that waits in the last stage
last_early : (stages last : ℕ) → last ≤ stages - 1 → stages ≤ 5 → last ≤ 64
last_early stages last h most = omega arith

late_wider : (sheet : Sheet) (kind : Kind) → IsValidSheet sheet → (window_of sheet kind).1 ≤ last_if_tight kind (window_of sheet kind).1
late_wider sheet WrRD valid = last_early sheet.shape.stages (window_at sheet.window 6).1 (valid.windows 6 (lit< tt)).last sheet.shape.lawful.most
late_wider sheet WrPC valid = last_early sheet.shape.stages (window_at sheet.window 7).1 (valid.windows 7 (lit< tt)).last sheet.shape.lawful.most
late_wider sheet (WrCustReg r) valid = last_early sheet.shape.stages (window_at sheet.window 8).1 (valid.windows 8 (lit< tt)).last sheet.shape.lawful.most
late_wider sheet kind valid = omega arith

node_wider : (sheet : Sheet) (op : Op) (spawned : Bool) → IsValidSheet sheet → Widens (node_of sheet InPipeline (op, spawned)) (node_of sheet Tight (op, spawned))
node_wider sheet op true valid = record { delay_is = refl; latency_is = refl; early = omega arith; late = omega arith }
node_wider sheet op false valid = record { delay_is = refl; latency_is = refl; early = omega arith; late = late_wider sheet op.kind valid }

same_node : (a : Node) → Widens a a
same_node a = record { delay_is = refl; latency_is = refl; early = omega arith; late = omega arith }

nodes_wider : (sheet : Sheet) (entries : List (Op × Bool)) (k : ℕ) (d : Node) → IsValidSheet sheet
    → Widens (get_or (map (node_of sheet InPipeline) entries) k d) (get_or (map (node_of sheet Tight) entries) k d)
nodes_wider sheet [] k d valid = same_node d
nodes_wider sheet (e ∷ es) zero d valid = node_wider sheet e.0 e.1 valid
nodes_wider sheet (e ∷ es) (suc k) d valid = nodes_wider sheet es k d valid

problem_wider : (g : Graph) (sheet : Sheet) → IsValidSheet sheet → IsWider (problem_of g sheet InPipeline) (problem_of g sheet Tight)
unfolding problem_of
problem_wider g sheet valid = record {
  edges_are = refl;
  period_is = refl;
  count_is = length-map (zip g.ops g.spawned) (node_of sheet Tight) ∙ sym (length-map (zip g.ops g.spawned) (node_of sheet InPipeline));
  nodes = λ k. nodes_wider sheet (zip g.ops g.spawned) k (record { delay = 0; latency = 0; weight = 0; early = 0; late = 0 }) valid;
}

-- what has a schedule in the pipeline has one that waits
pub schedule_widens : (g : Graph) (sheet : Sheet) → IsValidSheet sheet → HasSchedule (problem_of g sheet InPipeline) → HasSchedule (problem_of g sheet Tight)
schedule_widens g sheet valid h = (h.0, legal_wider (problem_of g sheet InPipeline) (problem_of g sheet Tight) h.0 (problem_wider g sheet valid) h.1)
