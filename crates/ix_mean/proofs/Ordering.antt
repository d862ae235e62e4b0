-- Operations in their order: a search that passes over what it has met gives each operation once, at its first place.
use Rattle.std.proofs.Common.{◌≡◌, ◌≤◌, refl, sym, ap, subst, ◌∙◌, ◌⊎◌, inl, inr, ⊎_elim, arith, Bool, true, false, List, [], ◌∷◌, ◌++◌, length}
use Rattle.std.specs.Prelude.{nat_eq}
use Rattle.std.proofs.lemmas.Bool.{cond-true, cond_both, or_left, or_right, or_cases, and_from, eq-eqb, true≢false}
use Rattle.std.proofs.lemmas.List.{length_push}
use Rattle.ix_bits.specs.declared.number.Ty.{Ty}
use Rattle.ix_graph.specs.declared.kind.Kind.{Kind}
use Rattle.ix_graph.specs.Roles.{same_kind}
use Rattle.ix_graph.proofs.SameKinds.{same_kind_law}
use Rattle.std.proofs.lemmas.Slice.Eq.{bytes_eq-Decides}
use Rattle.ix_mean.specs.Terms.{Term, t_const, t_read, t_one, t_entry, t_two, t_three, same_bool, same_ty, same_term}
use Rattle.std.specs.List.{flat_map}
use Rattle.ix_mean.specs.Order.{postorder, has_term, add_term, add_all, Among, IsClosed, AreApart, OperationsLaw}
use Rattle.ix_mean.proofs.Same.{same_term_is}

-- ---- a term is equal to itself
bool_same : (b : Bool) → same_bool b b ≡ true
bool_same true = refl
bool_same false = refl

pub ty_same : (a : Ty) → same_ty a a ≡ true
ty_same a = and_from (same_bool a.signed a.signed) (nat_eq a.width a.width) (bool_same a.signed) (eq-eqb a.width a.width refl)

pub kind_same : (k : Kind) → same_kind k k ≡ true
kind_same k = (same_kind_law k k).1 refl

pub term_same : (t : Term) → same_term t t ≡ true
term_same (t_const ty raw) = and_from _ _ (ty_same ty) (eq-eqb raw raw refl)
term_same (t_read k ty) = and_from _ _ (kind_same k) (ty_same ty)
term_same (t_one k ty a) = and_from _ _ (and_from _ _ (kind_same k) (ty_same ty)) (term_same a)
term_same (t_entry n es ty a) = and_from _ _ (and_from _ _ (and_from _ _ (eq-eqb n n refl) ((bytes_eq-Decides es es).1 refl)) (ty_same ty)) (term_same a)
term_same (t_two k ty a b) = and_from _ _ (and_from _ _ (and_from _ _ (kind_same k) (ty_same ty)) (term_same a)) (term_same b)
term_same (t_three k ty a b c) = and_from _ _ (and_from _ _ (and_from _ _ (and_from _ _ (kind_same k) (ty_same ty)) (term_same a)) (term_same b)) (term_same c)

-- ---- terms among others
pub among_left : (xs ys : List Term) (t : Term) → Among xs t → Among (xs ++ ys) t
among_left [] ys t h = absurd h
among_left (x ∷ xs) ys t h = ⊎_elim (λ (e : t ≡ x). inl e) (λ (r : Among xs t). inr (among_left xs ys t r)) h

pub among_right : (xs ys : List Term) (t : Term) → Among ys t → Among (xs ++ ys) t
among_right [] ys t h = h
among_right (x ∷ xs) ys t h = inr (among_right xs ys t h)

pub among_last : (xs : List Term) (t : Term) → Among (xs ++ t ∷ []) t
among_last xs t = among_right xs (t ∷ []) t (inl refl)

pub among_either : (xs ys : List Term) (t : Term) → Among (xs ++ ys) t → Among xs t ⊎ Among ys t
among_either [] ys t h = inr h
among_either (x ∷ xs) ys t h =
    ⊎_elim (λ (e : t ≡ x). inl (inl e))
    (λ (r : Among (xs ++ ys) t). ⊎_elim (λ (a : Among xs t). inl (inr a)) (λ (b : Among ys t). inr b) (among_either xs ys t r)) h

pub has_among : (xs : List Term) (t : Term) → has_term xs t ≡ true → Among xs t
has_among [] t h = cc
has_among (x ∷ xs) t h =
    ⊎_elim (λ (e : same_term t x ≡ true). inl (same_term_is t x e)) (λ (r : has_term xs t ≡ true). inr (has_among xs t r)) (or_cases (same_term t x) (has_term xs t) h)

pub among_has : (xs : List Term) (t : Term) → Among xs t → has_term xs t ≡ true
among_has [] t h = absurd h
among_has (x ∷ xs) t h =
    ⊎_elim (λ (e : t ≡ x). or_left (same_term t x) (has_term xs t) (subst (λ (u : Term). same_term t u ≡ true) e (term_same t)))
    (λ (r : Among xs t). or_right (same_term t x) (has_term xs t) (among_has xs t r)) h

-- ---- adding
pub add_append : (ts us vs : List Term) → add_all ts (us ++ vs) ≡ add_all (add_all ts us) vs
add_append ts [] vs = refl
add_append ts (u ∷ us) vs = add_append (add_term ts u) us vs

pub add_keeps : (ts : List Term) (u t : Term) → Among ts t → Among (add_term ts u) t
add_keeps ts u t h = cond_both (has_term ts u) ts (ts ++ u ∷ []) (λ xs. Among xs t) (λ e. h) (λ e. among_left ts (u ∷ []) t h)

pub add_has : (ts : List Term) (u : Term) → Among (add_term ts u) u
add_has ts u = cond_both (has_term ts u) ts (ts ++ u ∷ []) (λ xs. Among xs u) (λ e. has_among ts u e) (λ e. among_last ts u)

pub all_keep : (ts us : List Term) (t : Term) → Among ts t → Among (add_all ts us) t
all_keep ts [] t h = h
all_keep ts (u ∷ us) t h = all_keep (add_term ts u) us t (add_keeps ts u t h)

pub all_has : (ts us : List Term) (t : Term) → Among us t → Among (add_all ts us) t
all_has ts [] t h = absurd h
all_has ts (u ∷ us) t h =
    ⊎_elim (λ (e : t ≡ u). all_keep (add_term ts u) us t (subst (Among (add_term ts u)) (sym e) (add_has ts u))) (λ (r : Among us t). all_has (add_term ts u) us t r) h

-- what is there already is not added
pub none_added : (ts us : List Term) → ((t : Term) → Among us t → Among ts t) → add_all ts us ≡ ts
none_added ts [] h = refl
none_added ts (u ∷ us) h =
    ap (λ (xs : List Term). add_all xs us) (cond-true (has_term ts u) ts (ts ++ u ∷ []) (among_has ts u (h u (inl refl)))) ∙ none_added ts us (λ t m. h t (inr m))

pub add_length : (ts : List Term) (u : Term) → length ts ≤ length (add_term ts u)
add_length ts u = cond_both (has_term ts u) ts (ts ++ u ∷ []) (λ xs. length ts ≤ length xs) (λ e. omega arith) (λ e. omega (arith, length_push ts u))

pub all_length : (ts us : List Term) → length ts ≤ length (add_all ts us)
all_length ts [] = omega arith
all_length ts (u ∷ us) = omega (arith, add_length ts u, all_length (add_term ts u) us)

-- ---- each operation's subterms are there with it
closed_add : (ts : List Term) (t : Term) → IsClosed ts → ((u : Term) → Among (postorder t) u → (u ≡ t) ⊎ Among ts u) → IsClosed (add_term ts t)
closed_add ts t c h =
    cond_both (has_term ts t) ts (ts ++ t ∷ []) IsClosed (λ e. c)
    (λ e s u m n. ⊎_elim
    (λ (a : Among ts s). among_left ts (t ∷ []) u (c s u a n))
    (λ (b : Among (t ∷ []) s). ⊎_elim
    (λ (same : s ≡ t). ⊎_elim
    (λ (i : u ≡ t). subst (Among (ts ++ t ∷ [])) (sym i) (among_last ts t))
    (λ (a : Among ts u). among_left ts (t ∷ []) u a)
    (h u (subst (λ (x : Term). Among (postorder x) u) same n)))
    (λ (no : ⊥). absurd no) b)
    (among_either ts (t ∷ []) s m))

one_or : (ts us : List Term) (t u : Term) → ((v : Term) → Among us v → Among ts v) → Among (us ++ t ∷ []) u → (u ≡ t) ⊎ Among ts u
one_or ts us t u h m =
    ⊎_elim (λ (a : Among us u). inr (h u a)) (λ (b : Among (t ∷ []) u). ⊎_elim (λ (e : u ≡ t). inl e) (λ (no : ⊥). absurd no) b) (among_either us (t ∷ []) u m)

pub closed_all : (ts : List Term) (t : Term) → IsClosed ts → IsClosed (add_all ts (postorder t))
closed_all ts (t_const ty raw) c = c
closed_all ts (t_read k ty) c = closed_add ts (t_read k ty) c (λ u m. one_or ts [] (t_read k ty) u (λ v n. absurd n) m)
closed_all ts (t_one k ty a) c =
    subst IsClosed (sym (add_append ts (postorder a) (t_one k ty a ∷ [])))
    (closed_add (add_all ts (postorder a)) (t_one k ty a) (closed_all ts a c) (λ u m. one_or _ (postorder a) (t_one k ty a) u (λ v n. all_has ts (postorder a) v n) m))
closed_all ts (t_entry m es ty a) c =
    subst IsClosed (sym (add_append ts (postorder a) (t_entry m es ty a ∷ [])))
    (closed_add (add_all ts (postorder a)) (t_entry m es ty a) (closed_all ts a c) (λ u n. one_or _ (postorder a) (t_entry m es ty a) u (λ v l. all_has ts (postorder a) v l) n))
closed_all ts (t_two k ty a b) c =
    let one = add_all ts (postorder a) in
    let both = postorder a ++ postorder b in
    subst IsClosed (sym (add_append ts both (t_two k ty a b ∷ [])))
    (closed_add (add_all ts both) (t_two k ty a b) (subst IsClosed (sym (add_append ts (postorder a) (postorder b))) (closed_all one b (closed_all ts a c)))
    (λ u m. one_or _ both (t_two k ty a b) u (λ v n. all_has ts both v n) m))
closed_all ts (t_three k ty a b d) c =
    let one = add_all ts (postorder a) in
    let two = add_all one (postorder b) in
    let both = postorder a ++ postorder b in
    let all = both ++ postorder d in
    let e : add_all ts all ≡ add_all two (postorder d) = add_append ts both (postorder d) ∙ ap (λ (xs : List Term). add_all xs (postorder d)) (add_append ts (postorder a) (postorder b)) in
    subst IsClosed (sym (add_append ts all (t_three k ty a b d ∷ [])))
    (closed_add (add_all ts all) (t_three k ty a b d) (subst IsClosed (sym e) (closed_all two d (closed_all one b (closed_all ts a c))))
    (λ u m. one_or _ all (t_three k ty a b d) u (λ v n. all_has ts all v n) m))

pub met_before : (ts : List Term) (t : Term) → IsClosed ts → Among ts t → add_all ts (postorder t) ≡ ts
met_before ts t c m = none_added ts (postorder t) (λ u n. c t u m n)

-- ---- the operations of roots
all_from : (ts us : List Term) (t : Term) → Among (add_all ts us) t → Among ts t ⊎ Among us t
all_from ts [] t h = inl h
all_from ts (u ∷ us) t h =
    ⊎_elim
    (λ (m : Among (add_term ts u) t). (cond_both (has_term ts u) ts (ts ++ u ∷ []) (λ xs. Among xs t → Among ts t ⊎ Among (u ∷ us) t) (λ e n. inl n)
    (λ e n. ⊎_elim (λ (a : Among ts t). inl a) (λ (b : Among (u ∷ []) t). ⊎_elim (λ (x : t ≡ u). inr (inl x)) (λ (no : ⊥). absurd no) b) (among_either ts (u ∷ []) t n)) m))
    (λ (m : Among us t). inr (inr m))
    (all_from (add_term ts u) us t h)

apart_push : (ts : List Term) (t : Term) → AreApart ts → (Among ts t → ⊥) → AreApart (ts ++ t ∷ [])
apart_push [] t a n = ((λ no. no), tt)
apart_push (x ∷ xs) t a n = (
  λ m. ⊎_elim (λ (b : Among xs x). a.0 b) (λ (b : Among (t ∷ []) x). ⊎_elim (λ (e : x ≡ t). n (inl (sym e))) (λ (no : ⊥). no) b) (among_either xs (t ∷ []) x m),
  apart_push xs t a.1 (λ m. n (inr m)),
)

apart_add : (ts : List Term) (u : Term) → AreApart ts → AreApart (add_term ts u)
apart_add ts u a = cond_both (has_term ts u) ts (ts ++ u ∷ []) AreApart (λ e. a) (λ e. apart_push ts u a (λ m. true≢false (sym (among_has ts u m) ∙ e)))

apart_all : (ts us : List Term) → AreApart ts → AreApart (add_all ts us)
apart_all ts [] a = a
apart_all ts (u ∷ us) a = apart_all (add_term ts u) us (apart_add ts u a)

closed_roots : (ts rs : List Term) → IsClosed ts → IsClosed (add_all ts (flat_map postorder rs))
closed_roots ts [] c = c
closed_roots ts (r ∷ rs) c =
    subst IsClosed (sym (add_append ts (postorder r) (flat_map postorder rs))) (closed_roots (add_all ts (postorder r)) rs (closed_all ts r c))

pub operations_law : OperationsLaw
operations_law roots = record {
  all = λ t m. all_has [] (flat_map postorder roots) t m;
  only = λ t m. ⊎_elim (λ (no : ⊥). absurd no) (λ (n : Among (flat_map postorder roots) t). n) (all_from [] (flat_map postorder roots) t m);
  once = apart_all [] (flat_map postorder roots) tt;
  closed = closed_roots [] roots (λ t u m n. absurd m);
}
