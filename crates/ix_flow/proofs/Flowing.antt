-- From the terms of an effect to the graph.
use Rattle.std.proofs.Common.{◌≡◌, ℕ, ◌<◌, ◌≤◌, sym, ap, subst, ◌∙◌, arith, Bool, List, [], ◌++◌, length, map, Err}
use Rattle.std.specs.List.{AllByRecursion, flat_map}
use Rattle.std.proofs.lemmas.List.{map-append, length-map}
use Rattle.ix_graph.specs.declared.graph.Graph.{Graph}
use Rattle.ix_mean.specs.Core.{Statement}
use Rattle.ix_mean.specs.Terms.{Term, Entry, one_term, loads}
use Rattle.ix_mean.specs.Order.{postorder, add_all, Among, load_root, write_roots}
use Rattle.ix_mean.specs.Typing.{IsTypedStatement}
use Rattle.ix_mean.specs.Effects.{start, effect_terms}
use Rattle.ix_mean.specs.View.{frame_of}
use Rattle.ix_terms.specs.declared.source.Source.{Source}
use Rattle.ix_terms.specs.declared.effect.Effect.{Effect}
use Rattle.ix_terms.specs.declared.targets.Target.{Target}
use Rattle.ix_terms.specs.Stores.{Stock, at, size, stock_of}
use Rattle.ix_terms.specs.Targets.{entry_at}
use Rattle.ix_terms.specs.Effected.{HasEffect}
use Rattle.ix_terms.proofs.Makes.{grown_length}
use Rattle.ix_terms.proofs.Placing.{places_kept, below_kept}
use Rattle.ix_flow.specs.declared.error.FlowErr.{FlowErr}
use Rattle.ix_flow.specs.declared.error.FlowErr.TheVariants.{TooManyOps, Memory}
use Rattle.ix_flow.specs.Orders.{terms_at, IsOrder, HasVisited, Visits}
use Rattle.ix_flow.specs.Operands.{IsOpReady}
use Rattle.ix_flow.specs.Rooted.{HasMore, HasRoots}
use Rattle.ix_flow.specs.Flows.{operations_of, AreOpsOf, IsBuilt, IsFlow, FlowsTo}
use Rattle.ix_flow.proofs.Rooting.{both_below}
use Rattle.ix_flow.proofs.Sounding.{operations_sound, targets_length, ops_ready}

pub targets_few : (f : Source) (x : Statement) (e : Effect) (ts : List Target) → HasEffect f x e → IsTypedStatement (frame_of f.types) x → ts ≡ e.targets.items → length f.types.targets ≤ 19 → length ts ≤ 19
targets_few f x e ts h t i n =
    let a : length (map (entry_at (stock_of e.store)) e.targets.items) ≡ length (effect_terms (frame_of f.types) x).targets = ap (λ (es : List Entry). length es) h.targets_are in
    let b = length-map e.targets.items (entry_at (stock_of e.store)) in
    let c = targets_length (frame_of f.types) x t in
    subst (λ (us : List Target). length us ≤ 19) (sym i) (omega (arith, a, b, c, n))

pub rooted_made : (f : Source) (x : Statement) (e : Effect) (new : Stock) (ts : List Target) (rs : List ℕ) → HasEffect f x e → ts ≡ e.targets.items
    → HasMore (stock_of e.store) new e.loads.items rs (write_roots 0 (map (entry_at (stock_of e.store)) ts)) → HasRoots f x new rs
rooted_made f x e new ts rs h i g =
    let old = stock_of e.store in
    let l = grown_length old new g.grows in
    record {
      tables_are = g.grows.tables ∙ h.tables_are;
      below = subst (AllByRecursion (λ k. k < size new)) (sym g.whole) (both_below (size new) e.loads.items g.more (below_kept (size old) (size new) l e.loads.items h.loads_below) g.below);
      are =
          ap (map (at new)) g.whole ∙ map-append (at new) e.loads.items g.more
          ∙ ap (λ (us : List Term). us ++ map (at new) g.more) (places_kept old new g.grows e.loads.items h.loads_below ∙ h.loads_are)
          ∙ ap (λ (us : List Term). map load_root (loads one_term x (start (frame_of f.types))) ++ us)
          (g.are ∙ ap (λ (us : List Target). write_roots 0 (map (entry_at old) us)) i ∙ ap (write_roots 0) h.targets_are);
    }

-- what a search from nothing puts
pub ops_are : (f : Source) (x : Statement) (s : Stock) (rs us old : List ℕ) → HasRoots f x s rs → us ≡ rs → old ≡ [] → add_all (terms_at s old) (flat_map postorder (terms_at s us)) ≡ operations_of f x
ops_are f x s rs us old h i n =
    ap (λ (os : List ℕ). add_all (terms_at s os) (flat_map postorder (terms_at s us))) n ∙ ap (λ (ks : List ℕ). add_all [] (flat_map postorder (terms_at s ks))) i
    ∙ ap (λ (ts : List Term). add_all [] (flat_map postorder ts)) h.are

pub roots_below : (f : Source) (x : Statement) (s : Stock) (rs us : List ℕ) → HasRoots f x s rs → us ≡ rs → AllByRecursion (λ k. k < size s) us
roots_below f x s rs us h i = subst (AllByRecursion (λ k. k < size s)) (sym i) h.below

pub order_ready : (f : Source) (x : Statement) (s : Stock) (rs us old order os : List ℕ) → HasRoots f x s rs → us ≡ rs → old ≡ [] → IsTypedStatement (frame_of f.types) x → length f.tables ≤ 65536
    → HasVisited s old order (flat_map postorder (terms_at s us)) → os ≡ order → AllByRecursion (IsOpReady s os) os
order_ready f x s rs us old order os h i n t m v e =
    let same : terms_at s order ≡ operations_of f x = v.terms ∙ ops_are f x s rs us old h i n in
    let few : length s.tables ≤ 65536 = subst (λ (ts : List (List Rattle.ix_bits.specs.declared.number.Bits.Bits)). length ts ≤ 65536) (sym h.tables_are) m in
    subst (λ (ks : List ℕ). AllByRecursion (IsOpReady s ks) ks) (sym e)
    (ops_ready s f.types.targets order order few v.order.below (λ u a. a) (λ u a. operations_sound (frame_of f.types) x u t (subst (λ (ts : List Term). Among ts u) same a)))

pub order_is : (s : Stock) (old order os : List ℕ) (us : List Term) → HasVisited s old order us → os ≡ order → IsOrder s os
order_is s old order os us v e = subst (IsOrder s) (sym e) v.order

pub flow_err : (f : Source) (x : Statement) (spawned : List Bool) (s : Stock) (rs us old new : List ℕ) (e : FlowErr) → HasRoots f x s rs → us ≡ rs → old ≡ [] → Visits s old new (flat_map postorder (terms_at s us)) (Err e)
    → FlowsTo f x spawned (Err e)
flow_err f x spawned s rs us old new TooManyOps h i n v = subst (λ (ts : List Term). 256 < length ts) (ops_are f x s rs us old h i n) v
flow_err f x spawned s rs us old new Memory h i n v = tt

pub flow_ok : (f : Source) (x : Statement) (spawned : List Bool) (s : Stock) (rs us old order os : List ℕ) (g : Graph) → HasRoots f x s rs → us ≡ rs → old ≡ [] → HasVisited s old order (flat_map postorder (terms_at s us)) → os ≡ order
    → IsBuilt s (terms_at s os) spawned g → IsFlow f x spawned g
flow_ok f x spawned s rs us old order os g h i n v e b =
    let same : terms_at s order ≡ operations_of f x = v.terms ∙ ops_are f x s rs us old h i n in
    let all : terms_at s os ≡ operations_of f x = ap (terms_at s) e ∙ same in
    record {
      ops = subst (λ (ts : List Term). AreOpsOf ts ts g.ops) all b.ops;
      few = subst (λ (ts : List Term). length ts ≤ 256) same (omega (arith, length-map order (at s), v.order.few));
      flags = b.flags;
      tables = b.tables ∙ h.tables_are;
    }
