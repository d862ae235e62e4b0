-- The loads of statements by the places of their terms.
use Rattle.std.proofs.Common.{◌≡◌, ℕ, refl, sym, ap, subst, ◌∙◌, Bool, true, false, cond, List, ◌++◌, map}
use Rattle.ix_bits.specs.declared.number.Ty.{Ty}
use Rattle.ix_bits.specs.Operators.{value_of, is_true}
use Rattle.ix_graph.specs.declared.kind.Kind.TheVariants.{Lnot}
use Rattle.ix_mean.specs.Core.{Expression, Statement, st_write, st_if}
use Rattle.ix_mean.specs.Terms.{Term, t_const, t_read, t_one, t_entry, t_two, t_three, make_one, along, when, unless, test_term, Terms, expression_loads, branch_loads, loads}
use Rattle.ix_terms.specs.declared.source.Source.{Source}
use Rattle.ix_terms.specs.declared.branch.Paths.{Paths}
use Rattle.ix_terms.specs.declared.targets.Target.{Target}
use Rattle.ix_terms.specs.Stores.{Stock, at, Grows}
use Rattle.ix_terms.specs.Places.{IsOperation, IsPlaced, HasLoads}
use Rattle.ix_terms.specs.Ends.{ends_at, IsEnds, HasTest, HasPaths, IsCopy, both_loads, first_of, second_of}
use Rattle.ix_terms.proofs.Storing.{grown_at}
use Rattle.ix_terms.proofs.Makes.{grows_on}
use Rattle.ix_terms.proofs.Loading.{loads_grown, loads_then, loads_on}
use Rattle.ix_terms.proofs.Ending.{ends_kept}

pub set_loads : (old mid new : Stock) (l0 l1 : List ℕ) (slots s1 : List ℕ) (p : ℕ) (e : Expression) → s1 ≡ slots → Grows mid new → HasLoads mid l0 l1 (expression_loads (map (at old) s1) (at old p) e)
    → HasLoads new l0 l1 (expression_loads (map (at old) slots) (at old p) e)
set_loads old mid new l0 l1 slots s1 p e i g h = subst (λ (xs : List ℕ). HasLoads new l0 l1 (expression_loads (map (at old) xs) (at old p) e)) i (loads_grown mid new l0 l1 _ g h)

-- the address is read before the value
pub write_loads : (f : Source) (old one two new : Stock) (l0 l1 l2 : List ℕ) (slots : List ℕ) (p : ℕ) (e a : Expression) → IsPlaced f old slots p → Grows old one → Grows one two → Grows two new
    → HasLoads one l0 l1 (expression_loads (map (at old) slots) (at old p) a) → HasLoads two l1 l2 (expression_loads (map (at one) slots) (at one p) e)
    → HasLoads new l0 l2 (expression_loads (map (at old) slots) (at old p) a ++ expression_loads (map (at old) slots) (at old p) e)
write_loads f old one two new l0 l1 l2 slots p e a s g h k x y =
    loads_grown two new l0 l2 _ k (loads_then one two l0 l1 l2 _ _ h x (subst (HasLoads two l1 l2) (loads_on f old one slots p e g s) y))

pub beside_loads : (old new : Stock) (l0 l1 : List ℕ) (slots s1 : List ℕ) (targets t1 : List Target) (p : ℕ) (x : Statement) → IsCopy slots targets s1 t1 → HasLoads new l0 l1 (loads (at old p) x (ends_at old s1 t1))
    → HasLoads new l0 l1 (loads (at old p) x (ends_at old slots targets))
beside_loads old new l0 l1 slots s1 targets t1 p x c h =
    subst (λ (zs : List ℕ). HasLoads new l0 l1 (loads (at old p) x (ends_at old zs targets))) c.slots_are
    (subst (λ (zs : List Target). HasLoads new l0 l1 (loads (at old p) x (ends_at old s1 zs))) c.targets_are h)

-- the loads of a statement in a store that has grown, on a path there
loads_from : (old mid : Stock) (slots : List ℕ) (targets : List Target) (f : Source) (p : ℕ) (q P : Term) (x : Statement) → Grows old mid → IsEnds f old slots targets p → q ≡ P
    → loads q x (ends_at mid slots targets) ≡ loads P x (ends_at old slots targets)
loads_from old mid slots targets f p q P x g h e =
    ap (λ (z : Term). loads z x (ends_at mid slots targets)) e ∙ ap (loads P x) (ends_kept old mid slots targets g h.placed.below h.below)

pub branches_loads : (f : Source) (old one two low new : Stock) (l0 l1 l2 : List ℕ) (slots : List ℕ) (targets : List Target) (p t : ℕ) (b : Paths) (x y : Statement) → IsEnds f old slots targets p
    → HasPaths f old one slots targets p t b → Grows one two → Grows two low → Grows low new
    → HasLoads two l0 l1 (loads (at one b.first) x (ends_at one slots targets)) → HasLoads low l1 l2 (loads (at two b.second) y (ends_at two slots targets))
    → HasLoads new l0 l2 (both_loads (at old p) (at old t) x y (ends_at old slots targets))
branches_loads f old one two low new l0 l1 l2 slots targets p t b x y h w g k m a c =
    let e1 = loads_from old one slots targets f p (at one b.first) (along (at old p) (at old t)) x w.grows h w.first in
    let g2 = grows_on old one two w.grows g in
    let e2 = loads_from old two slots targets f p (at two b.second) (along (at old p) (make_one Lnot Rattle.ix_mean.specs.Core.u1 (at old t))) y g2 h (grown_at one two b.second g w.on_second.placed.path_below ∙ w.second) in
    loads_grown low new l0 l2 _ m (loads_then two low l0 l1 l2 _ _ k (subst (HasLoads two l0 l1) e1 a) (subst (HasLoads low l1 l2) e2 c))

loads_both : (p t : Term) (x y : Statement) (s : Terms) → IsOperation t → both_loads p t x y s ≡ branch_loads t (loads (when p t) x s) (loads (unless p t) y s)
loads_both p (t_const ty raw) x y s h = absurd h
loads_both p (t_read _ _) x y s h = refl
loads_both p (t_one _ _ _) x y s h = refl
loads_both p (t_entry _ _ _ _) x y s h = refl
loads_both p (t_two _ _ _ _) x y s h = refl
loads_both p (t_three _ _ _ _ _) x y s h = refl

loads_one : (p t : Term) (ty : Ty) (raw : ℕ) (d : Bool) (x y : Statement) (s : Terms) → t ≡ t_const ty raw → is_true (value_of ty raw) ≡ d → loads p (cond d x y) s ≡ branch_loads t (loads (when p t) x s) (loads (unless p t) y s)
loads_one p t ty raw true x y s e f = sym (ap (λ (z : Term). branch_loads z (loads (when p z) x s) (loads (unless p z) y s)) e ∙ ap (λ (b : Bool). cond b (loads p x s) (loads p y s)) f)
loads_one p t ty raw false x y s e f = sym (ap (λ (z : Term). branch_loads z (loads (when p z) x s) (loads (unless p z) y s)) e ∙ ap (λ (b : Bool). cond b (loads p x s) (loads p y s)) f)

-- a condition, and the branch that a constant one runs
pub one_loads : (f : Source) (old mid new : Stock) (l0 l1 l2 : List ℕ) (slots s1 : List ℕ) (targets : List Target) (p t : ℕ) (w z : Statement) (c : Expression) (x y : Statement) (ty : Ty) (raw : ℕ) (d : Bool) → IsEnds f old slots targets p
    → HasTest f old mid slots targets p c t → s1 ≡ slots → HasLoads mid l0 l1 (expression_loads (map (at old) s1) (at old p) c) → Grows mid new → at mid t ≡ t_const ty raw → is_true (value_of ty raw) ≡ d → w ≡ st_if c x y → z ≡ cond d x y
    → HasLoads new l1 l2 (loads (at mid p) z (ends_at mid slots targets)) → HasLoads new l0 l2 (loads (at old p) w (ends_at old slots targets))
one_loads f old mid new l0 l1 l2 slots s1 targets p t w z c x y ty raw d h g n a k e o i j m =
    let S = ends_at old slots targets in
    let these = subst (λ (xs : List ℕ). HasLoads mid l0 l1 (expression_loads (map (at old) xs) (at old p) c)) n a in
    let rest = loads_from old mid slots targets f p (at mid p) (at old p) z g.has.grows h (grown_at old mid p g.has.grows h.placed.path_below)
    ∙ ap (λ (v : Statement). loads (at old p) v S) j
    ∙ loads_one (at old p) (test_term (map (at old) slots) (at old p) c) ty raw d x y S (sym g.has.is ∙ e) o in
    subst (λ (v : Statement). HasLoads new l0 l2 (loads (at old p) v S)) (sym i) (loads_then mid new l0 l1 l2 _ _ k these (subst (HasLoads new l1 l2) rest m))

-- a condition, and both branches
pub both_loads_told : (f : Source) (old mid new : Stock) (l0 l1 l2 : List ℕ) (slots s1 s2 : List ℕ) (targets t2 : List Target) (p t : ℕ) (w : Statement) (c : Expression) (x y : Statement) → IsEnds f old slots targets p
    → HasTest f old mid slots targets p c t → s1 ≡ slots → HasLoads mid l0 l1 (expression_loads (map (at old) s1) (at old p) c) → Grows mid new → IsOperation (at mid t) → w ≡ st_if c x y → s2 ≡ slots → t2 ≡ targets
    → HasLoads new l1 l2 (both_loads (at mid p) (at mid t) (first_of w) (second_of w) (ends_at mid s2 t2)) → HasLoads new l0 l2 (loads (at old p) w (ends_at old slots targets))
both_loads_told f old mid new l0 l1 l2 slots s1 s2 targets t2 p t w c x y h g n a k o i u v m =
    let S = ends_at old slots targets in
    let T = test_term (map (at old) slots) (at old p) c in
    let these = subst (λ (xs : List ℕ). HasLoads mid l0 l1 (expression_loads (map (at old) xs) (at old p) c)) n a in
    let m1 = subst (λ (zs : List ℕ). HasLoads new l1 l2 (both_loads (at mid p) (at mid t) (first_of w) (second_of w) (ends_at mid zs t2))) u m in
    let m2 = subst (λ (zs : List Target). HasLoads new l1 l2 (both_loads (at mid p) (at mid t) (first_of w) (second_of w) (ends_at mid slots zs))) v m1 in
    let m3 = subst (λ (q : Statement). HasLoads new l1 l2 (both_loads (at mid p) (at mid t) (first_of q) (second_of q) (ends_at mid slots targets))) i m2 in
    let rest = ap (λ (q : Term). both_loads q (at mid t) x y (ends_at mid slots targets)) (grown_at old mid p g.has.grows h.placed.path_below)
    ∙ ap (λ (q : Term). both_loads (at old p) q x y (ends_at mid slots targets)) g.has.is
    ∙ ap (both_loads (at old p) T x y) (ends_kept old mid slots targets g.has.grows h.placed.below h.below)
    ∙ loads_both (at old p) T x y S (subst IsOperation g.has.is o) in
    subst (λ (q : Statement). HasLoads new l0 l2 (loads (at old p) q S)) (sym i) (loads_then mid new l0 l1 l2 _ _ k these (subst (HasLoads new l1 l2) rest m3))
