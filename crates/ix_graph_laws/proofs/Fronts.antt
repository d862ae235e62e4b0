-- Each operation stands behind its arguments.
use Rattle.std.proofs.Common.{◌≡◌, refl, sym, ap, subst, ◌∙◌, inl, inr, ⊎_elim, ℕ, zero, suc, ◌+◌, ◌<◌, arith, List, [], ◌∷◌, ◌++◌, length, Some, append_assoc}
use Rattle.std.specs.Prelude.{slice_get}
use Rattle.std.specs.List.{flat_map}
use Rattle.std.proofs.lemmas.Bool.{cond_both}
use Rattle.std.proofs.lemmas.List.{append-nil, length_push}
use Rattle.ix_mean.specs.Terms.{Term, t_const, t_read, t_one, t_entry, t_two, t_three}
use Rattle.ix_mean.specs.Order.{postorder, has_term, add_term, add_all, operations, Among, AreApart}
use Rattle.ix_mean.proofs.Ordering.{among_last, all_keep, all_has, add_append}
use Rattle.ix_terms.specs.Places.{IsOperation}
use Rattle.ix_flow.specs.Flows.{args_of_term}

-- the arguments of a term that are operations are among those before it
abbrev pub ArgsAmong : List Term → Term → Type 0
ArgsAmong before t = (u : Term) → Among (args_of_term t) u → IsOperation u → Among before u

-- the terms ts behind those before, each behind its arguments
abbrev pub IsFront : List Term → List Term → Type 0
IsFront before [] = Unit {0}
IsFront before (t ∷ ts) = ArgsAmong before t × IsFront (before ++ t ∷ []) ts

front_push : (before ts : List Term) (t : Term) → IsFront before ts → ArgsAmong (before ++ ts) t → IsFront before (ts ++ t ∷ [])
front_push before [] t h g = (subst (λ (xs : List Term). ArgsAmong xs t) (append-nil before) g, tt)
front_push before (x ∷ ts) t h g = (h.0, front_push (before ++ x ∷ []) ts t h.1 (subst (λ (xs : List Term). ArgsAmong xs t) (sym (append_assoc before (x ∷ []) ts)) g))

front_add : (ts : List Term) (t : Term) → IsFront [] ts → ArgsAmong ts t → IsFront [] (add_term ts t)
front_add ts t h g = cond_both (has_term ts t) ts (ts ++ t ∷ []) (IsFront []) (λ e. h) (λ e. front_push [] ts t h g)

-- an operation is among its subterms
pub last_in : (t : Term) → IsOperation t → Among (postorder t) t
last_in (t_const ty raw) o = absurd o
last_in (t_read k ty) o = inl refl
last_in (t_one k ty a) o = among_last (postorder a) (t_one k ty a)
last_in (t_entry n es ty a) o = among_last (postorder a) (t_entry n es ty a)
last_in (t_two k ty a b) o = among_last (postorder a ++ postorder b) (t_two k ty a b)
last_in (t_three k ty a b c) o = among_last (postorder a ++ postorder b ++ postorder c) (t_three k ty a b c)

arg_there : (ts : List Term) (a u : Term) → u ≡ a → IsOperation u → Among (add_all ts (postorder a)) u
arg_there ts a u e o = all_has ts (postorder a) u (subst (λ (z : Term). Among (postorder z) u) e (last_in u o))

front_all : (ts : List Term) (t : Term) → IsFront [] ts → IsFront [] (add_all ts (postorder t))
front_all ts (t_const ty raw) h = h
front_all ts (t_read k ty) h = front_add ts (t_read k ty) h (λ u m o. absurd m)
front_all ts (t_one k ty a) h =
    subst (IsFront []) (sym (add_append ts (postorder a) (t_one k ty a ∷ [])))
    (front_add (add_all ts (postorder a)) (t_one k ty a) (front_all ts a h) (λ u m o. ⊎_elim (λ (e : u ≡ a). arg_there ts a u e o) (λ (no : ⊥). absurd no) m))
front_all ts (t_entry n es ty a) h =
    subst (IsFront []) (sym (add_append ts (postorder a) (t_entry n es ty a ∷ [])))
    (front_add (add_all ts (postorder a)) (t_entry n es ty a) (front_all ts a h) (λ u m o. ⊎_elim (λ (e : u ≡ a). arg_there ts a u e o) (λ (no : ⊥). absurd no) m))
front_all ts (t_two k ty a b) h =
    let one = add_all ts (postorder a) in
    let both = postorder a ++ postorder b in
    let split : add_all ts both ≡ add_all one (postorder b) = add_append ts (postorder a) (postorder b) in
    let there : (u : Term) → Among (a ∷ b ∷ []) u → IsOperation u → Among (add_all one (postorder b)) u =
    λ u m o. ⊎_elim (λ (e : u ≡ a). all_keep one (postorder b) u (arg_there ts a u e o)) (λ (r : Among (b ∷ []) u). ⊎_elim (λ (e : u ≡ b). arg_there one b u e o) (λ (no : ⊥). absurd no) r) m in
    subst (IsFront []) (sym (add_append ts both (t_two k ty a b ∷ [])))
    (subst (λ (xs : List Term). IsFront [] (add_term xs (t_two k ty a b))) (sym split)
    (front_add (add_all one (postorder b)) (t_two k ty a b) (front_all one b (front_all ts a h)) there))
front_all ts (t_three k ty a b c) h =
    let one = add_all ts (postorder a) in
    let two = add_all one (postorder b) in
    let both = postorder a ++ postorder b in
    let all = both ++ postorder c in
    let split : add_all ts all ≡ add_all two (postorder c) = add_append ts both (postorder c) ∙ ap (λ (xs : List Term). add_all xs (postorder c)) (add_append ts (postorder a) (postorder b)) in
    let there : (u : Term) → Among (a ∷ b ∷ c ∷ []) u → IsOperation u → Among (add_all two (postorder c)) u =
    λ u m o. ⊎_elim (λ (e : u ≡ a). all_keep two (postorder c) u (all_keep one (postorder b) u (arg_there ts a u e o)))
    (λ (r : Among (b ∷ c ∷ []) u). ⊎_elim (λ (e : u ≡ b). all_keep two (postorder c) u (arg_there one b u e o))
    (λ (q : Among (c ∷ []) u). ⊎_elim (λ (e : u ≡ c). arg_there two c u e o) (λ (no : ⊥). absurd no) q) r) m in
    subst (IsFront []) (sym (add_append ts all (t_three k ty a b c ∷ [])))
    (subst (λ (xs : List Term). IsFront [] (add_term xs (t_three k ty a b c))) (sym split)
    (front_add (add_all two (postorder c)) (t_three k ty a b c) (front_all two c (front_all one b (front_all ts a h))) there))

front_roots : (ts rs : List Term) → IsFront [] ts → IsFront [] (add_all ts (flat_map postorder rs))
front_roots ts [] h = h
front_roots ts (r ∷ rs) h = subst (IsFront []) (sym (add_append ts (postorder r) (flat_map postorder rs))) (front_roots (add_all ts (postorder r)) rs (front_all ts r h))

pub operations_front : (rs : List Term) → IsFront [] (operations rs)
operations_front rs = front_roots [] rs tt

-- ---- places
pub record IsPlaceOf (ts : List Term) (k : ℕ) (t : Term) : Type 0 where
  pub place : ℕ
  pub before : place < k
  pub there : slice_get ts place ≡ Some t

-- a term among others has a place
pub among_place : (ts : List Term) (t : Term) → Among ts t → IsPlaceOf ts (length ts) t
among_place [] t h = absurd h
among_place (x ∷ ts) t h =
    ⊎_elim (λ (e : t ≡ x). record { place = 0; before = omega arith; there = ap (λ (z : Term). Some z) (sym e) })
    (λ (m : Among ts t). let p = among_place ts t m in let l = p.before in record { place = suc p.place; before = omega (arith, l); there = p.there }) h

pub place_among : (ts : List Term) (k : ℕ) (t : Term) → slice_get ts k ≡ Some t → Among ts t
place_among [] k t e = cc
place_among (x ∷ ts) zero t e = (let same : x ≡ t = cc in inl (sym same))
place_among (x ∷ ts) (suc k) t e = inr (place_among ts k t e)

-- terms that are apart are at one place
pub one_place : (ts : List Term) (j k : ℕ) (t : Term) → AreApart ts → slice_get ts j ≡ Some t → slice_get ts k ≡ Some t → j ≡ k
one_place [] j k t a e f = cc
one_place (x ∷ ts) zero zero t a e f = refl
one_place (x ∷ ts) zero (suc k) t a e f = (let same : x ≡ t = cc in absurd (a.0 (subst (Among ts) (sym same) (place_among ts k t f))))
one_place (x ∷ ts) (suc j) zero t a e f = (let same : x ≡ t = cc in absurd (a.0 (subst (Among ts) (sym same) (place_among ts j t e))))
one_place (x ∷ ts) (suc j) (suc k) t a e f = ap (λ (n : ℕ). suc n) (one_place ts j k t a.1 e f)

front_left : (xs ys : List Term) (k : ℕ) (t : Term) → slice_get xs k ≡ Some t → slice_get (xs ++ ys) k ≡ Some t
front_left [] ys k t e = cc
front_left (x ∷ xs) ys zero t e = e
front_left (x ∷ xs) ys (suc k) t e = front_left xs ys k t e

-- an argument of the term at a place is before it
args_from : (before ts : List Term) (k : ℕ) (t u : Term) → IsFront before ts → slice_get ts k ≡ Some t → Among (args_of_term t) u → IsOperation u → IsPlaceOf (before ++ ts) (length before + k) u
args_from before [] k t u h e m o = cc
args_from before (x ∷ ts) zero t u h e m o =
    let same : x ≡ t = cc in
    let p = among_place before u (h.0 u (subst (λ (z : Term). Among (args_of_term z) u) (sym same) m) o) in
    let l = p.before in
    record { place = p.place; before = omega (arith, l); there = front_left before (x ∷ ts) p.place u p.there }
args_from before (x ∷ ts) (suc k) t u h e m o =
    let p = args_from (before ++ x ∷ []) ts k t u h.1 e m o in
    let l = p.before in
    let n = length_push before x in
    record { place = p.place; before = omega (arith, l, n); there = subst (λ (xs : List Term). slice_get xs p.place ≡ Some u) (append_assoc before (x ∷ []) ts) p.there }

pub arg_before : (rs : List Term) (k : ℕ) (t u : Term) → slice_get (operations rs) k ≡ Some t → Among (args_of_term t) u → IsOperation u → IsPlaceOf (operations rs) k u
arg_before rs k t u e m o =
    let p = args_from [] (operations rs) k t u (operations_front rs) e m o in
    let l = p.before in
    record { place = p.place; before = omega (arith, l); there = p.there }
