-- Marks of a search, and the last element of a list.
use Rattle.std.proofs.Common.{◌≡◌, ◌≢◌, ◌⊎◌, inl, inr, ⊎_elim, ℕ, ◌+◌, ◌<◌, ◌≤◌, zero, suc, List, [], ◌∷◌, ◌++◌, Bool, true, false, length, get_or, set, take, arith, refl, ap, sym, ◌∙◌, subst, Contains}
use Rattle.std.specs.Prelude.{AllPairs}
use Rattle.std.proofs.lemmas.Bool.{cases_eq, false≢true}
use Rattle.std.proofs.lemmas.List.{get_or-set_same, get_or-set_other, get_or_append_left, get_or_push, get_or-take, length_push}
use Rattle.ix_vread.specs.Orders.{IsMarked}

pub within_marks : (marks : List Bool) (k : ℕ) → IsMarked marks k → k < length marks
within_marks [] zero h = absurd (false≢true h)
within_marks [] (suc k) h = absurd (false≢true h)
within_marks (m ∷ ms) zero h = omega arith
within_marks (m ∷ ms) (suc k) h = omega (arith, within_marks ms k h)

pub set_cases : (marks : List Bool) (c k : ℕ) → IsMarked (set marks c true) k → (k ≡ c) ⊎ IsMarked marks k
set_cases marks c k h =
    ⊎_elim (λ (e : k ≡ c). inl e) (λ (ne : k ≡ c → ⊥). inr (sym (get_or-set_other marks c k true false ne) ∙ h)) (cases_eq k c)

pub set_here : (marks : List Bool) (c : ℕ) → c < length marks → IsMarked (set marks c true) c
set_here marks c l = get_or-set_same marks c true false l

pub set_kept : (marks : List Bool) (c k : ℕ) → c < length marks → IsMarked marks k → IsMarked (set marks c true) k
set_kept marks c k l h =
    ⊎_elim (λ (e : k ≡ c). ap (λ x. get_or (set marks c true) x false) e ∙ get_or-set_same marks c true false l)
    (λ (ne : k ≡ c → ⊥). get_or-set_other marks c k true false ne ∙ h) (cases_eq k c)

-- how many are not marked
abbrev pub unmarked : List Bool → ℕ
unmarked [] = 0
unmarked (true ∷ ms) = unmarked ms
unmarked (false ∷ ms) = unmarked ms + 1

pub set_less : (marks : List Bool) (c : ℕ) → c < length marks → get_or marks c false ≡ false → unmarked (set marks c true) + 1 ≡ unmarked marks
set_less [] c l h = absurd (omega (arith, l))
set_less (true ∷ ms) zero l h = absurd (false≢true (sym h))
set_less (false ∷ ms) zero l h = refl
set_less (true ∷ ms) (suc c) l h = set_less ms c (omega (arith, l)) h
set_less (false ∷ ms) (suc c) l h = omega (arith, set_less ms c (omega (arith, l)) h)

-- what is marked and what is not are two cells
pub marked_apart : (marks : List Bool) (a b : ℕ) → IsMarked marks a → get_or marks b false ≡ false → a ≢ b
marked_apart marks a b h f e = false≢true (sym f ∙ ap (λ k. get_or marks k false) (sym e) ∙ h)

-- ---- lists
pub only_one : (c k : ℕ) → Contains (c ∷ []) k → k ≡ c
only_one c k h = go h.0 h.1 h.2
  where
    go : (i : ℕ) → i < 1 → get_or (c ∷ []) i k ≡ k → k ≡ c
    go zero l e = sym e
    go (suc i) l e = absurd (omega (arith, l))

-- an element stands at its place, whatever is taken by default
pub stands : (xs : List ℕ) (x d : ℕ) → (c : Contains xs x) → get_or xs c.0 d ≡ x
stands xs x d c = go xs c.0 c.1 c.2
  where
    go : (ys : List ℕ) (i : ℕ) → i < length ys → get_or ys i x ≡ x → get_or ys i d ≡ x
    go [] i l e = absurd (omega (arith, l))
    go (y ∷ ys) zero l e = e
    go (y ∷ ys) (suc i) l e = go ys i (omega (arith, l)) e

-- what stands before a place, and at it
pub before_place : (xs : List ℕ) (i x : ℕ) → Contains (take i xs) x → (j : ℕ) × (j < i) × (j < length xs) × (get_or xs j 0 ≡ x)
before_place xs i x c = (c.0, short xs i c.0 c.1, long xs i c.0 c.1, taken xs i c.0 c.1 ∙ stands (take i xs) x 0 c)
  where
    short : (ys : List ℕ) (n j : ℕ) → j < length (take n ys) → j < n
    short [] zero j l = absurd (omega (arith, l))
    short [] (suc n) j l = absurd (omega (arith, l))
    short (y ∷ ys) zero j l = absurd (omega (arith, l))
    short (y ∷ ys) (suc n) zero l = omega arith
    short (y ∷ ys) (suc n) (suc j) l = omega (arith, short ys n j (omega (arith, l)))

    long : (ys : List ℕ) (n j : ℕ) → j < length (take n ys) → j < length ys
    long [] zero j l = absurd (omega (arith, l))
    long [] (suc n) j l = absurd (omega (arith, l))
    long (y ∷ ys) zero j l = absurd (omega (arith, l))
    long (y ∷ ys) (suc n) zero l = omega arith
    long (y ∷ ys) (suc n) (suc j) l = omega (arith, long ys n j (omega (arith, l)))

    taken : (ys : List ℕ) (n j : ℕ) → j < length (take n ys) → get_or ys j 0 ≡ get_or (take n ys) j 0
    taken ys n j l = sym (get_or-take n ys j 0 (short ys n j l))

pub to_before : (xs : List ℕ) (i j x : ℕ) → j < i → j < length xs → get_or xs j 0 ≡ x → Contains (take i xs) x
to_before [] i j x li ll e = absurd (omega (arith, ll))
to_before (y ∷ ys) zero j x li ll e = absurd (omega (arith, li))
to_before (y ∷ ys) (suc i) zero x li ll e = (0, omega arith, e)
to_before (y ∷ ys) (suc i) (suc j) x li ll e = let c = to_before ys i j x (omega (arith, li)) (omega (arith, ll)) e in (suc c.0, omega (arith, c.1), c.2)

pub longer : (xs : List ℕ) (i j x : ℕ) → i ≤ j → Contains (take i xs) x → Contains (take j xs) x
longer xs i j x l c = let b = before_place xs i x c in to_before xs j b.0 x (omega (arith, b.1, l)) b.2 b.3

-- pairs of a list and of what stands before its last element
pub front_pairs : (R : ℕ → ℕ → Type 0) (xs : List ℕ) (y : ℕ) → AllPairs R (xs ++ y ∷ []) → AllPairs R xs
front_pairs R xs y h i j d l lj =
    let e : get_or (xs ++ y ∷ []) i d ≡ get_or xs i d = get_or_append_left xs (y ∷ []) d i (omega (arith, l, lj)) in
    let f : get_or (xs ++ y ∷ []) j d ≡ get_or xs j d = get_or_append_left xs (y ∷ []) d j lj in
    subst (λ z. R z (get_or xs j d)) e (subst (λ z. R (get_or (xs ++ y ∷ []) i d) z) f (h i j d l (omega (arith, lj, length_push xs y))))

pub last_pair : (R : ℕ → ℕ → Type 0) (xs : List ℕ) (y x : ℕ) → AllPairs R (xs ++ y ∷ []) → Contains xs x → R x y
last_pair R xs y x h c =
    let e : get_or (xs ++ y ∷ []) c.0 x ≡ x = get_or_append_left xs (y ∷ []) x c.0 c.1 ∙ c.2 in
    let f : get_or (xs ++ y ∷ []) (length xs) x ≡ y = get_or_push xs y x (length xs) refl in
    subst (λ z. R z y) e (subst (λ z. R (get_or (xs ++ y ∷ []) c.0 x) z) f (h c.0 (length xs) x c.1 (omega (arith, length_push xs y))))
