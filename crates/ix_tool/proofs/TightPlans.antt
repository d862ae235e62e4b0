-- Plans that are Tight: whether a design has one depends on its extension and its datasheet alone, and one without turns harts.
use Rattle.std.proofs.Common.{◌≡◌, ◌≢◌, ◌∙◌, sym, ap, subst, ℕ, zero, suc, ◌+◌, ◌≤◌, List, [], ◌∷◌, length, Option, Some, None, Bool, true, false, arith}
use Rattle.std.specs.Prelude.{slice_get, if◌then◌else◌, All}
use Rattle.ix_behaviour.specs.Behaviours.{HasBehaviour}
use Rattle.ix_behaviour.specs.declared.which.Which.{Which}
use Rattle.ix_extension.specs.Extensions.{ExtensionTree, view_extension}
use Rattle.ix_graph.specs.declared.graph.Mode.TheVariants.{Tight}
use Rattle.ix_plan.specs.declared.design.Design.{Design}
use Rattle.ix_plan.specs.declared.design.Plan.{Plan}
use Rattle.ix_schedules.proofs.Turns.{in_range}
use Rattle.ix_sheet.specs.Laws.{OneLaw}
use Rattle.ix_standing.specs.Standing.{behaviours_of, AreBuilt, Stands}
use Rattle.rv_audit.specs.Alike.{AreAlike}
use Rattle.rv_audit.proofs.OnePlan.{one_plan_each}
use Rattle.rv_barrel.specs.Barrels.{IsTurning}
use Rattle.ix_tool.specs.BarrelOutput.{is_tight, first_tight, tight_behaviour}

-- two designs of one extension and one datasheet have the same first Tight behaviour
pub one_tight : OneLaw → (d e : Design) → Stands d → Stands e → AreAlike d e → tight_behaviour d ≡ tight_behaviour e
one_tight one d e stands other alike =
    let x = view_extension d.extension in
    let built = subst (λ s. AreBuilt x s e.plans e.nets) (sym alike.sheet) (subst (λ z. AreBuilt z e.sheet e.plans e.nets) (sym alike.extension) other.built) in
    let plans = one_plan_each one x d.sheet d.plans e.plans d.nets e.nets stands.built built in
    ap (λ ps. first_tight (behaviours_of x) ps) plans ∙ ap (λ z. first_tight (behaviours_of z) e.plans) alike.extension

-- the first one is one of them
of_first : (P : Which → Type 0) (t : Bool) (v w : Which) (o : Option Which) → P v → (o ≡ Some w → P w) → (if t then Some v else o) ≡ Some w → P w
of_first P true v w o here rest e = let same : v ≡ w = cc in subst P same here
of_first P false v w o here rest e = rest e

among : (P : Which → Type 0) (ws : List Which) (plans : List Plan) (w : Which) → All P ws → first_tight ws plans ≡ Some w → P w
among P [] plans w all e = absurd cc
among P (v ∷ ws) [] w all e = absurd cc
among P (v ∷ ws) (p ∷ plans) w all e = of_first P (is_tight p.mode) v w (first_tight ws plans) (all 0 v (omega arith)) (among P ws plans w (λ k d lt. all (suc k) d (omega (arith, lt)))) e

-- so it is a behaviour of the extension
pub tight_is : (x : ExtensionTree) (plans : List Plan) (w : Which) → first_tight (behaviours_of x) plans ≡ Some w → HasBehaviour x w
tight_is x plans w e = among (HasBehaviour x) (behaviours_of x) plans w (in_range x) e

-- where none is the first, none is
not_first : (t : Bool) (w : Which) (o : Option Which) → (if t then Some w else o) ≡ None → t ≡ true → ⊥
not_first true w o e f = cc
not_first false w o e f = cc

behind_first : (t : Bool) (w : Which) (o : Option Which) → (if t then Some w else o) ≡ None → o ≡ None
behind_first true w o e = absurd cc
behind_first false w o e = e

pub none_tight : (ws : List Which) (plans : List Plan) → length plans ≡ length ws → first_tight ws plans ≡ None → (k : ℕ) (p : Plan) → slice_get plans k ≡ Some p → p.mode ≢ Tight
none_tight ws [] n none k p at tight = absurd cc
none_tight [] (q ∷ plans) n none k p at tight = absurd (omega (arith, n))
none_tight (w ∷ ws) (q ∷ plans) n none zero p at tight =
    let same : q ≡ p = cc in
    not_first (is_tight q.mode) w (first_tight ws plans) none (ap (λ (r : Plan). is_tight r.mode) same ∙ ap is_tight tight)
none_tight (w ∷ ws) (q ∷ plans) n none (suc k) p at tight =
    none_tight ws plans (omega (arith, n)) (behind_first (is_tight q.mode) w (first_tight ws plans) none) k p at tight

-- such a design turns harts
pub turning : (d : Design) → Stands d → tight_behaviour d ≡ None → d.sheet.shape.stages ≤ d.sheet.shape.mem + 2 → IsTurning d
turning d stands none near =
    record { no_tight = none_tight (behaviours_of (view_extension d.extension)) d.plans stands.built.plan_count none; near = near }
