-- Behaviours in their turn: those that were built, and the first that was not.
use Rattle.std.proofs.Common.{◌≡◌, sym, ap, subst, refl, ℕ, zero, suc, ◌+◌, ◌<◌, ◌≤◌, List, [], ◌∷◌, ◌++◌, length, take, get_or, Some, Bool, arith, inl, inr}
use Rattle.std.specs.Prelude.{slice_get, slice_index}
use Rattle.std.proofs.lemmas.List.{take_all}
use Rattle.ix_extension.specs.Extensions.{ExtensionTree}
use Rattle.ix_behaviour.specs.declared.which.Which.{Which}
use Rattle.ix_graph.specs.declared.graph.Graph.{Graph}
use Rattle.ix_slots.specs.Found.{entries_of}
use Rattle.ix_graphs.specs.Graphed.{IsGraphAt}
use Rattle.ix_net.specs.declared.netlist.Net.{Net}
use Rattle.ix_sheet.specs.declared.sheet.Sheet.{Sheet}
use Rattle.ix_sheet.specs.Sheets.{IsValidSheet}
use Rattle.ix_sheet.specs.Schedules.{IsSchedule, IsChosen}
use Rattle.ix_sheet.specs.Behaviours.{problem_of, IsModeOf}
use Rattle.ix_plan.specs.Service.{Serves}
use Rattle.ix_plan.specs.declared.design.Plan.{Plan}
use Rattle.ix_standing.specs.Standing.{behaviours_of, name_at, is_block, IsBuilt, AreBuilt}
use Rattle.ix_schedules.specs.declared.scheduling.ScheduleErr.{ScheduleErr}
use Rattle.ix_schedules.specs.declared.scheduling.ScheduleErr.TheVariants.{TooManyOps, NoSchedule, Memory}
use Rattle.ix_schedules.specs.Scheduling.{IsSchedulable, AtFirst, IsRefusedAs, IsFirstRefused}
use Rattle.ix_design.specs.declared.building.Module.{Module}
use Rattle.ix_design.specs.Building.{IsModuleBy, IsModuleOf, AreBuiltInTurn}
use Rattle.ix_design.proofs.Widest.{can_be}

-- an element at each number below the length
pub some_at : {A : Type 0} (xs : List A) (k : ℕ) → k < length xs → (x : A) × (slice_get xs k ≡ Some x)
some_at [] k l = absurd (omega (arith, l))
some_at (x ∷ xs) zero l = (x, refl)
some_at (x ∷ xs) (suc k) l = some_at xs k (omega (arith, l))

module _ (x : ExtensionTree) (sheet : Sheet) where
  -- what is made by a behaviour's graph is made of the behaviour
  pub module_of : (w : Which) (name : List ℕ) (g : Graph) (block : Bool) (m : Module) → IsGraphAt x w (entries_of x.tables) g → name ≡ name_at x w → block ≡ is_block w → IsModuleBy name g sheet block m → IsModuleOf x sheet w m
  module_of w name g block m graph named same h = record {
    planned = record {
      graph = subst (λ (k : Graph). IsGraphAt x w (entries_of x.tables) k) (sym h.graph_is) graph;
      mode = subst (λ (b : Bool). IsModeOf m.plan.graph sheet b m.plan.mode) same (subst (λ (k : Graph). IsModeOf k sheet block m.plan.mode) (sym h.graph_is) h.mode);
      schedule = subst (λ (k : Graph). IsSchedule (problem_of k sheet m.plan.mode) m.plan.times) (sym h.graph_is) h.schedule;
      chosen = subst (λ (k : Graph). IsChosen (problem_of k sheet m.plan.mode) (slice_index m.plan.times)) (sym h.graph_is) h.chosen;
      last = h.last;
    };
    valid = h.valid;
    serves = subst (λ (n : List ℕ). Serves sheet.shape n m.plan.graph m.plan.times m.net) named (subst (λ (k : Graph). Serves sheet.shape name k m.plan.times m.net) (sym h.graph_is) h.serves);
  }

  -- one more is built
  more : (ws : List Which) (ps : List Plan) (ns : List Net) (k : ℕ) (d : Which) (p : Plan) (n : Net) → k < length ws → AreBuiltInTurn x sheet (take k ws) ps ns → IsBuilt x sheet (get_or ws k d) p n
      → AreBuiltInTurn x sheet (take (suc k) ws) (ps ++ p ∷ []) (ns ++ n ∷ [])
  more [] ps ns k d p n h r s = absurd (omega (arith, h))
  more (w ∷ ws) [] [] zero d p n h r s = (s, tt)
  more (w ∷ ws) [] (m ∷ ns) zero d p n h r s = absurd r
  more (w ∷ ws) (q ∷ ps) ns zero d p n h r s = absurd r
  more (w ∷ ws) [] ns (suc k) d p n h r s = absurd r
  more (w ∷ ws) (q ∷ ps) [] (suc k) d p n h r s = absurd r
  more (w ∷ ws) (q ∷ ps) (m ∷ ns) (suc k) d p n h r s = (r.0, more ws ps ns k d p n (omega (arith, h)) r.1 s)

  pub built_more : (ws : List Which) (ps all : List Plan) (ns every : List Net) (k : ℕ) (d : Which) (p : Plan) (n : Net) → k < length ws → AreBuiltInTurn x sheet (take k ws) ps ns → IsBuilt x sheet (get_or ws k d) p n
      → all ≡ ps ++ p ∷ [] → every ≡ ns ++ n ∷ [] → AreBuiltInTurn x sheet (take (k + 1) ws) all every
  built_more ws ps all ns every k d p n h r s e f =
      let j : k + 1 ≡ suc k = omega arith in
      rw (j, e, f) (more ws ps ns k d p n h r s)

  pub built_all : (ws : List Which) (ps : List Plan) (ns : List Net) (k : ℕ) → length ws ≤ k → AreBuiltInTurn x sheet (take k ws) ps ns → AreBuiltInTurn x sheet ws ps ns
  built_all ws ps ns k h r = subst (λ (l : List Which). AreBuiltInTurn x sheet l ps ns) (take_all k ws h) r

  -- the next is not
  first_at : (Here : Which → Type 0) (ws : List Which) (ps : List Plan) (ns : List Net) (k : ℕ) (d : Which) → IsValidSheet sheet → k < length ws → AreBuiltInTurn x sheet (take k ws) ps ns → Here (get_or ws k d) → AtFirst (IsSchedulable x sheet) Here ws
  first_at Here [] ps ns k d valid h r here = absurd (omega (arith, h))
  first_at Here (w ∷ ws) ps ns zero d valid h r here = inl here
  first_at Here (w ∷ ws) [] ns (suc k) d valid h r here = absurd r
  first_at Here (w ∷ ws) (p ∷ ps) [] (suc k) d valid h r here = absurd r
  first_at Here (w ∷ ws) (p ∷ ps) (n ∷ ns) (suc k) d valid h r here = inr (can_be x sheet w p n valid r.0, first_at Here ws ps ns k d valid (omega (arith, h)) r.1 here)

  pub refused_next : (ws : List Which) (ps : List Plan) (ns : List Net) (k : ℕ) (d : Which) (e : ScheduleErr) → IsValidSheet sheet → k < length ws → AreBuiltInTurn x sheet (take k ws) ps ns → IsRefusedAs x sheet e (get_or ws k d) → IsFirstRefused x sheet ws e
  refused_next ws ps ns k d (TooManyOps name) valid h r here = first_at (IsRefusedAs x sheet (TooManyOps name)) ws ps ns k d valid h r here
  refused_next ws ps ns k d (NoSchedule b) valid h r here = first_at (IsRefusedAs x sheet (NoSchedule b)) ws ps ns k d valid h r here
  refused_next ws ps ns k d Memory valid h r here = tt

  -- ---- by their numbers
  counts : (ws : List Which) (ps : List Plan) (ns : List Net) → AreBuiltInTurn x sheet ws ps ns → (length ps ≡ length ws) × (length ns ≡ length ws)
  counts [] [] [] r = (refl, refl)
  counts [] [] (n ∷ ns) r = absurd r
  counts [] (p ∷ ps) ns r = absurd r
  counts (w ∷ ws) [] ns r = absurd r
  counts (w ∷ ws) (p ∷ ps) [] r = absurd r
  counts (w ∷ ws) (p ∷ ps) (n ∷ ns) r = let c = counts ws ps ns r.1 in (ap suc c.0, ap suc c.1)

  each_at : (ws : List Which) (ps : List Plan) (ns : List Net) → AreBuiltInTurn x sheet ws ps ns → (k : ℕ) (w : Which) (p : Plan) (n : Net) → slice_get ws k ≡ Some w → slice_get ps k ≡ Some p → slice_get ns k ≡ Some n → IsBuilt x sheet w p n
  each_at [] ps ns r k w p n a b c = absurd cc
  each_at (v ∷ ws) [] ns r k w p n a b c = absurd r
  each_at (v ∷ ws) (q ∷ ps) [] r k w p n a b c = absurd r
  each_at (v ∷ ws) (q ∷ ps) (m ∷ ns) r zero w p n a b c =
      let e : v ≡ w = cc in let f : q ≡ p = cc in let g : m ≡ n = cc in
      subst (λ z. IsBuilt x sheet z p n) e (subst (λ z. IsBuilt x sheet v z n) f (subst (λ z. IsBuilt x sheet v q z) g r.0))
  each_at (v ∷ ws) (q ∷ ps) (m ∷ ns) r (suc k) w p n a b c = each_at ws ps ns r.1 k w p n a b c

  pub are_built : (ps : List Plan) (ns : List Net) → AreBuiltInTurn x sheet (behaviours_of x) ps ns → AreBuilt x sheet ps ns
  are_built ps ns r =
      let c = counts (behaviours_of x) ps ns r in
      record { plan_count = c.0; net_count = c.1; each = each_at (behaviours_of x) ps ns r }
