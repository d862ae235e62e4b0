-- A behaviour has one plan on the core of a datasheet, and so have all behaviours of an extension.
use Rattle.std.proofs.Common.{◌≡◌, ◌∙◌, refl, sym, ap, subst, ℕ, ◌<◌, Bool, true, false, true≢false, List, length, map, get_or, slice_get, slice_index, arith}
use Rattle.std.proofs.lemmas.Grind.{same_number_lists}
use Rattle.std.proofs.lemmas.List.{same_lists}
use Rattle.std.proofs.lemmas.Option.{slice_get-get_or}
use Rattle.ix_extension.specs.Extensions.{ExtensionTree}
use Rattle.ix_behaviour.specs.declared.which.Which.{Which}
use Rattle.ix_graph.specs.declared.graph.Graph.{Graph}
use Rattle.ix_graph.specs.declared.graph.Mode.{Mode}
use Rattle.ix_graph.specs.declared.graph.Mode.TheVariants.{InPipeline, Tight, Decoupled, Always}
use Rattle.ix_graph_laws.specs.Operations.{entries_in}
use Rattle.ix_net.specs.declared.netlist.Net.{Net}
use Rattle.ix_net.proofs.NetLemmas.{slice_get_some}
use Rattle.ix_sheet.specs.declared.problem.Problem.{Problem}
use Rattle.ix_sheet.specs.declared.sheet.Sheet.{Sheet}
use Rattle.ix_sheet.specs.Behaviours.{problem_of, IsModeOf}
use Rattle.ix_sheet.specs.Schedules.{IsSchedule, IsChosen}
use Rattle.ix_sheet.specs.Laws.{OneLaw}
use Rattle.ix_plan.specs.declared.design.Plan.{Plan}
use Rattle.ix_ports.specs.Ports.{last_from}
use Rattle.ix_standing.specs.Standing.{behaviours_of, is_block, IsPlanned, AreBuilt}
use Rattle.ix_schedules.proofs.OneGraph.{one_graph}

both_ways : (block : Bool) → block ≡ true → block ≡ false → ⊥
both_ways block p q = true≢false (sym p ∙ q)

one_mode : (g : Graph) (sheet : Sheet) (block : Bool) (m n : Mode) → IsModeOf g sheet block m → IsModeOf g sheet block n → m ≡ n
one_mode g sheet block Always Always a b = refl
one_mode g sheet block Always Decoupled a b = absurd (both_ways block a b.0)
one_mode g sheet block Always InPipeline a b = absurd (both_ways block a b.0)
one_mode g sheet block Always Tight a b = absurd (both_ways block a b.0)
one_mode g sheet block Decoupled Always a b = absurd (both_ways block b a.0)
one_mode g sheet block Decoupled Decoupled a b = refl
one_mode g sheet block Decoupled InPipeline a b = absurd (b.1 a.1)
one_mode g sheet block Decoupled Tight a b = absurd (b.1 a.1)
one_mode g sheet block InPipeline Always a b = absurd (both_ways block b a.0)
one_mode g sheet block InPipeline Decoupled a b = absurd (a.1 b.1)
one_mode g sheet block InPipeline InPipeline a b = refl
one_mode g sheet block InPipeline Tight a b = absurd (b.2 a.2)
one_mode g sheet block Tight Always a b = absurd (both_ways block b a.0)
one_mode g sheet block Tight Decoupled a b = absurd (a.1 b.1)
one_mode g sheet block Tight InPipeline a b = absurd (a.2 b.2)
one_mode g sheet block Tight Tight a b = refl

-- plans with the same parts are one
same_parts : (p q : Plan) → p.graph ≡ q.graph → p.mode ≡ q.mode → p.times ≡ q.times → p.last ≡ q.last → p ≡ q
same_parts p q graph mode times last =
    ap (λ (g : Graph). let y : Plan = record { mode = p.mode; graph = g; times = p.times; last = p.last } in y) graph
    ∙ ap (λ (m : Mode). let y : Plan = record { mode = m; graph = q.graph; times = p.times; last = p.last } in y) mode
    ∙ ap (λ (ts : List ℕ). let y : Plan = record { mode = q.mode; graph = q.graph; times = ts; last = p.last } in y) times
    ∙ ap (λ (n : ℕ). let y : Plan = record { mode = q.mode; graph = q.graph; times = q.times; last = n } in y) last

module _ (one : OneLaw) where
  one_schedule : (problem : Problem) (t u : List ℕ) → IsSchedule problem t → IsSchedule problem u → IsChosen problem (slice_index t) → IsChosen problem (slice_index u) → t ≡ u
  one_schedule problem t u a b chosen other =
      same_number_lists t u (a.count ∙ sym b.count) (λ k few. one problem (slice_index t) (slice_index u) chosen other k (subst (λ n. k < n) a.count few))

  module _ (x : ExtensionTree) (sheet : Sheet) where
    one_plan : (w : Which) (p q : Plan) → IsPlanned x sheet w p → IsPlanned x sheet w q → p ≡ q
    one_plan w p q a b =
        let graph : p.graph ≡ q.graph = one_graph x w (map entries_in x.tables) p.graph q.graph a.graph b.graph in
        let mode : p.mode ≡ q.mode = one_mode q.graph sheet (is_block w) p.mode q.mode (subst (λ g. IsModeOf g sheet (is_block w) p.mode) graph a.mode) b.mode in
        let problem : problem_of p.graph sheet p.mode ≡ problem_of q.graph sheet q.mode = ap (λ g. problem_of g sheet p.mode) graph ∙ ap (λ m. problem_of q.graph sheet m) mode in
        let times : p.times ≡ q.times = one_schedule (problem_of q.graph sheet q.mode) p.times q.times
        (subst (λ y. IsSchedule y p.times) problem a.schedule) b.schedule (subst (λ y. IsChosen y (slice_index p.times)) problem a.chosen) b.chosen in
        same_parts p q graph mode times (a.last ∙ ap (λ ts. last_from sheet.shape.rd ts) times ∙ sym b.last)

    pub one_plan_each : (plans others : List Plan) (nets more : List Net) → AreBuilt x sheet plans nets → AreBuilt x sheet others more → plans ≡ others
    one_plan_each plans others nets more a b = same_lists plans others (a.plan_count ∙ sym b.plan_count) at where
      at : (k : ℕ) (none : Plan) → k < length plans → get_or plans k none ≡ get_or others k none
      at k none few =
          let count = a.plan_count in
          let other_count = b.plan_count in
          let net_count = a.net_count in
          let more_count = b.net_count in
          let w = slice_get_some (behaviours_of x) k (omega (arith, few, count)) in
          let n = slice_get_some nets k (omega (arith, few, count, net_count)) in
          let m = slice_get_some more k (omega (arith, few, count, more_count)) in
          let p = slice_get-get_or plans k none few in
          let q = slice_get-get_or others k none (omega (arith, few, count, other_count)) in
          one_plan w.0 (get_or plans k none) (get_or others k none) (a.each k w.0 (get_or plans k none) n.0 w.1 p n.1).planned (b.each k w.0 (get_or others k none) m.0 w.1 q m.1).planned
