-- Amounts moved along a path, step by step.
use Rattle.std.proofs.Common.{◌≡◌, ℕ, zero, suc, ◌≢◌, ◌+◌, ◌≤◌, ◌<◌, ◌==◌, ◌-◌, take, List, [], ◌∷◌, ◌++◌, length, get_or, set, cond, Bool, true, false, refl, sym, ◌∙◌, ap, arith, add-one, length-set, ◌⊎◌, inl, inr}
use Rattle.std.proofs.lemmas.List.{get_or-set_other, get_or-set_same, take_more, take_all}
use Rattle.ix_sheet.specs.declared.problem.Arc.{Arc}
use Rattle.ix_residual.specs.Residuals.{place_at, moved}
use Rattle.ix_solve.specs.Search.{arc_at}
use Rattle.ix_solve.specs.Networks.{step_from, step_to, node_after}
use Rattle.ix_solve.specs.Flows.{flow_at, flow_in, flow_out, IsWalk, HasMoved, GainsAlong}

pub flow_at-set : (node : Arc → ℕ) (bounds : List Arc) (amounts : List ℕ) (k y v : ℕ) → length amounts ≡ length bounds → k < length bounds →
    flow_at node bounds (set amounts k y) v + cond (node (arc_at bounds k) == v) (get_or amounts k 0) 0 ≡ flow_at node bounds amounts v + cond (node (arc_at bounds k) == v) y 0
flow_at-set node [] amounts k y v same b = omega arith
flow_at-set node (a ∷ bs) [] k y v same b = omega arith
flow_at-set node (a ∷ bs) (x ∷ xs) zero y v same b = omega arith
flow_at-set node (a ∷ bs) (x ∷ xs) (suc k) y v same b = let rest = flow_at-set node bs xs k y v (omega arith) (omega arith) in omega arith

-- the amounts after the first i steps
pub record IsPushed (bounds : List Arc) (old new : List ℕ) (a d : ℕ) (path : List (ℕ × Bool)) (i : ℕ) : Type 0 where
  pub same_len : length new ≡ length bounds
  pub untouched : (k : ℕ) → i ≤ k → k < length path → get_or new (place_at path k).0 0 ≡ get_or old (place_at path k).0 0
  pub moved : HasMoved bounds old new a (node_after bounds a path i) d
  pub gains : GainsAlong old new d path i

split : (c : Bool) (x y : ℕ) → cond c (x + y) 0 ≡ cond c x 0 + cond c y 0
split true x y = refl
split false x y = refl

-- one step: in and out at v, before (i, o) and after (i2, o2)
moved_cases : (along : Bool) (from to v w x y d i o i2 o2 iold oold at_a : ℕ) →
    i2 + cond (to == v) x 0 ≡ i + cond (to == v) y 0 → o2 + cond (from == v) x 0 ≡ o + cond (from == v) y 0 →
    cond along from to ≡ w → i + oold + at_a ≡ o + iold + cond (w == v) d 0 →
    (along ≡ true → y ≡ x + d) → (along ≡ false → y + d ≡ x) →
    i2 + oold + at_a ≡ o2 + iold + cond (cond along to from == v) d 0
moved_cases true from to v w x y d i o i2 o2 iold oold at_a hi ho joined before grows falls =
    let e = grows refl in
    let si : cond (to == v) y 0 ≡ cond (to == v) x 0 + cond (to == v) d 0 = ap (λ z. cond (to == v) z 0) e ∙ split (to == v) x d in
    let so : cond (from == v) y 0 ≡ cond (from == v) x 0 + cond (from == v) d 0 = ap (λ z. cond (from == v) z 0) e ∙ split (from == v) x d in
    let j : cond (w == v) d 0 ≡ cond (from == v) d 0 = ap (λ z. cond (z == v) d 0) (sym joined) in
    omega arith
moved_cases false from to v w x y d i o i2 o2 iold oold at_a hi ho joined before grows falls =
    let e = sym (falls refl) in
    let si : cond (to == v) x 0 ≡ cond (to == v) y 0 + cond (to == v) d 0 = ap (λ z. cond (to == v) z 0) e ∙ split (to == v) y d in
    let so : cond (from == v) x 0 ≡ cond (from == v) y 0 + cond (from == v) d 0 = ap (λ z. cond (from == v) z 0) e ∙ split (from == v) y d in
    let j : cond (w == v) d 0 ≡ cond (to == v) d 0 = ap (λ z. cond (z == v) d 0) (sym joined) in
    omega arith

turn_ne : (x y : ℕ) → x ≢ y → y ≢ x
turn_ne x y h = omega arith

step_moves : (bounds : List Arc) (old new : List ℕ) (p : ℕ × Bool) (a d y v w : ℕ) → length new ≡ length bounds → p.0 < length bounds → step_from bounds p ≡ w →
    flow_in bounds new v + flow_out bounds old v + cond (a == v) d 0 ≡ flow_out bounds new v + flow_in bounds old v + cond (w == v) d 0 →
    (p.1 ≡ true → y ≡ get_or new p.0 0 + d) → (p.1 ≡ false → y + d ≡ get_or new p.0 0) →
    flow_in bounds (set new p.0 y) v + flow_out bounds old v + cond (a == v) d 0 ≡ flow_out bounds (set new p.0 y) v + flow_in bounds old v + cond (step_to bounds p == v) d 0
step_moves bounds old new p a d y v w same within joined before grows falls =
    let x = get_or new p.0 0 in
    let arc = arc_at bounds p.0 in
    let i = flow_at-set (λ b. b.to) bounds new p.0 y v same within in
    let o = flow_at-set (λ b. b.from) bounds new p.0 y v same within in
    moved_cases p.1 arc.from arc.to v w x y d _ _ _ _ _ _ _ i o joined before grows falls

same_or_not : (v w : ℕ) → (v ≡ w) ⊎ (v ≢ w)
same_or_not v w = grind arith

true_or_false : (b : Bool) → (b ≡ true) ⊎ (b ≡ false)
true_or_false true = inl refl
true_or_false false = inr refl

gain_more : (old new : List ℕ) (d : ℕ) (path : List (ℕ × Bool)) (i y k : ℕ) → (place_at path i).0 < length new →
    get_or new (place_at path i).0 0 ≡ get_or old (place_at path i).0 0 →
    ((place_at path i).1 ≡ true → y ≡ get_or new (place_at path i).0 0 + d) →
    ((place_at path i).1 ≡ false → y + d ≡ get_or new (place_at path i).0 0) →
    (get_or new k 0 ≤ get_or old k 0) ⊎ ((get_or new k 0 ≡ get_or old k 0 + d) × ((j : ℕ) × (j < i) × ((place_at path j).0 ≡ k) × ((place_at path j).1 ≡ true))) →
    (get_or (set new (place_at path i).0 y) k 0 ≤ get_or old k 0) ⊎ ((get_or (set new (place_at path i).0 y) k 0 ≡ get_or old k 0 + d) × ((j : ℕ) × (j < i + 1) × ((place_at path j).0 ≡ k) × ((place_at path j).1 ≡ true)))
gain_more old new d path i y k b same grows falls before =
    let p = (place_at path i).0 in
    elim (same_or_not k p) [
      | inl e ↦ rw (e, get_or-set_same new p y 0 b)
          (elim (true_or_false (place_at path i).1) [
            | inl yes' ↦ (let g = grows yes' in inr (omega arith, (i, omega arith, refl, yes')))
            | inr no' ↦ (let g = falls no' in inl (omega arith))
          ])
      | inr ne ↦ rw (get_or-set_other new p k y 0 ne)
          (elim before [
            | inl less ↦ inl less
            | inr more ↦ inr (more.0, (more.1.0, omega (arith, more.1.1), more.1.2, more.1.3))
          ])
    ]

pub pushed_more : (bounds : List Arc) (old new : List ℕ) (a d : ℕ) (path : List (ℕ × Bool)) (i y : ℕ) → IsWalk bounds a path → IsPushed bounds old new a d path i →
    i < length path →
    ((place_at path i).1 ≡ true → y ≡ get_or new (place_at path i).0 0 + d) →
    ((place_at path i).1 ≡ false → y + d ≡ get_or new (place_at path i).0 0) →
    IsPushed bounds old (set new (place_at path i).0 y) a d path (i + 1)
pushed_more bounds old new a d path i y is h b grows falls = record {
  same_len = length-set new (place_at path i).0 y ∙ h.same_len;
  untouched = λ k from k_in. get_or-set_other new (place_at path i).0 (place_at path k).0 y 0 (turn_ne _ _ (is.once i k (omega arith) k_in)) ∙ h.untouched k (omega arith) k_in;
  moved = λ v. rw (add-one i) (step_moves bounds old new (place_at path i) a d y v (node_after bounds a path i) h.same_len (is.within i b) (is.joined i b) (h.moved v) grows falls);
  gains = λ k. gain_more old new d path i y k (omega (arith, is.within i b, h.same_len)) (h.untouched i (omega arith) b) grows falls (h.gains k);
}

pub one_way : (b : Bool) → b ≡ true → b ≡ false → ⊥
one_way b p q = cc

moved-push : (xs : List ℕ) (d : ℕ) (ss : List (ℕ × Bool)) (s : ℕ × Bool) →
    moved xs d (ss ++ s ∷ []) ≡ set (moved xs d ss) s.0 (cond s.1 (get_or (moved xs d ss) s.0 0 + d) (get_or (moved xs d ss) s.0 0 - d))
moved-push xs d [] s = refl
moved-push xs d (r ∷ rs) s = moved-push (set xs r.0 (cond r.1 (get_or xs r.0 0 + d) (get_or xs r.0 0 - d))) d rs s

grown : (c : Bool) (x d : ℕ) → c ≡ true → cond c (x + d) (x - d) ≡ x + d
grown true x d e = refl
grown false x d e = absurd (one_way false e refl)

fallen : (c : Bool) (x d : ℕ) → d ≤ x → c ≡ false → cond c (x + d) (x - d) + d ≡ x
fallen true x d b e = absurd (one_way true refl e)
fallen false x d b e = omega arith

-- .. as the definition moves them
pub pushed_to : (bounds : List Arc) (old : List ℕ) (a d : ℕ) (path : List (ℕ × Bool)) (i : ℕ) → IsWalk bounds a path → length old ≡ length bounds →
    ((k : ℕ) → k < length path → (place_at path k).1 ≡ false → d ≤ get_or old (place_at path k).0 0) → i ≤ length path → IsPushed bounds old (moved old d (take i path)) a d path i
pushed_to bounds old a d path zero is same falls b = record {
  same_len = same;
  untouched = λ k from k_in. refl;
  moved = λ v. omega arith;
  gains = λ k. inl (omega arith);
}
pushed_to bounds old a d path (suc i) is same falls b =
    let i_in : i < length path = omega arith in
    let before = pushed_to bounds old a d path i is same falls (omega arith) in
    let s = place_at path i in
    let now = moved old d (take i path) in
    let x = get_or now s.0 0 in
    let e : moved old d (take (i + 1) path) ≡ set now s.0 (cond s.1 (x + d) (x - d)) = ap (moved old d) (take_more path i (0, false) i_in) ∙ moved-push old d (take i path) s in
    let was : x ≡ get_or old s.0 0 = before.untouched i (omega arith) i_in in
    let after : IsPushed bounds old (moved old d (take (i + 1) path)) a d path (i + 1)
    = rw e (pushed_more bounds old now a d path i (cond s.1 (x + d) (x - d)) is before i_in (grown s.1 x d) (λ q. fallen s.1 x d (let f = falls i i_in q in omega arith) q)) in
    rw add-one at after

pub pushed_all : (bounds : List Arc) (old : List ℕ) (a d : ℕ) (path : List (ℕ × Bool)) → IsWalk bounds a path → length old ≡ length bounds →
    ((k : ℕ) → k < length path → (place_at path k).1 ≡ false → d ≤ get_or old (place_at path k).0 0) → IsPushed bounds old (moved old d path) a d path (length path)
pushed_all bounds old a d path is same falls = rw (take_all (length path) path (omega arith)) at (pushed_to bounds old a d path (length path) is same falls (omega arith))
