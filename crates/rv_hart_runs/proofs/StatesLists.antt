-- Members of lists, and what stands in stages that are emptied, cut off or moved.
use Rattle.std.proofs.Common.{◌≡◌, ◌∙◌, refl, sym, ap, subst, ℕ, zero, suc, ◌<◌, ◌≤◌, List, [], ◌∷◌, ◌++◌, length, Option, Some, None, Bool, true, false, ◌⊎◌, inl, inr, arith}
use Rattle.std.specs.Prelude.{reverse, find, filter, take, replicate, slice_get, if◌then◌else◌, ◌==◌}
use Rattle.std.proofs.lemmas.Bool.Decides.{nat_tests}
use Rattle.std.proofs.lemmas.Grind.{reverse_onto}
use Rattle.rv_harts.specs.Events.{standing}
use Rattle.rv_harts.specs.Harts.{Fetched}
use Rattle.rv_harts.specs.HartRows.{cleared, last_in}
use Rattle.rv_hart_runs.proofs.Calm.{cleared_length}
use Rattle.rv_hart_runs.proofs.Free.{same_some}

-- ---- numbers

pub other_number : (a b : ℕ) → a < b → (a == b) ≡ false
other_number a b lt = grind (arith, nat_tests)

pub turned_round : (a b : ℕ) → (a == b) ≡ (b == a)
turned_round a b = grind (arith, nat_tests)

-- ---- members

-- x is one of these
abbrev pub In : {A : Type 0} → A → List A → Type 0
In x [] = ⊥
In x (y ∷ ys) = (x ≡ y) ⊎ In x ys

pub in_left : {A : Type 0} (x : A) (ys zs : List A) → In x ys → In x (ys ++ zs)
in_left x [] zs h = absurd h
in_left x (y ∷ ys) zs (inl e) = inl e
in_left x (y ∷ ys) zs (inr h) = inr (in_left x ys zs h)

pub in_right : {A : Type 0} (x : A) (ys zs : List A) → In x zs → In x (ys ++ zs)
in_right x [] zs h = h
in_right x (y ∷ ys) zs h = inr (in_right x ys zs h)

pub in_either : {A : Type 0} (x : A) (ys zs : List A) → In x (ys ++ zs) → In x ys ⊎ In x zs
in_either x [] zs h = inr h
in_either x (y ∷ ys) zs (inl e) = inl (inl e)
in_either x (y ∷ ys) zs (inr h) = elim (in_either x ys zs h) [ inl a ↦ inl (inr a) | inr b ↦ inr b ]

pub in_reverse : {A : Type 0} (x : A) (ys : List A) → In x ys → In x (reverse ys)
in_reverse x [] h = absurd h
in_reverse {A} x (y ∷ ys) h = subst (λ (l : List A). In x l) (sym (reverse_onto ys y [])) (elim h [
  | inl e ↦ in_right x (reverse ys) (y ∷ []) (inl e)
  | inr a ↦ in_left x (reverse ys) (y ∷ []) (in_reverse x ys a)
])

pub in_filter : {A : Type 0} (f : A → Bool) (x : A) (ys : List A) → In x (filter f ys) → In x ys
in_filter f x [] h = absurd h
in_filter {A} f x (y ∷ ys) h = by_case (f y) (in_filter f x ys) h where
  by_case : (b : Bool) → (In x (filter f ys) → In x ys) → In x (if b then y ∷ filter f ys else filter f ys) → (x ≡ y) ⊎ In x ys
  by_case true rest (inl e) = inl e
  by_case true rest (inr a) = inr (rest a)
  by_case false rest a = inr (rest a)

-- where none is found, the test is false of each
pub none_found : {A : Type 0} (f : A → Bool) (x : A) (ys : List A) → find f ys ≡ None → In x ys → f x ≡ false
none_found f x [] e h = absurd h
none_found {A} f x (y ∷ ys) e h = by_case (f y) refl (none_found f x ys) e h where
  by_case : (b : Bool) → f y ≡ b → (find f ys ≡ None → In x ys → f x ≡ false) → (if b then Some y else find f ys) ≡ None → (x ≡ y) ⊎ In x ys → f x ≡ false
  by_case true q rest e h = cc
  by_case false q rest e (inl same) = ap f same ∙ q
  by_case false q rest e (inr a) = rest e a

-- what is found is one of them
pub found_in : {A : Type 0} (f : A → Bool) (x : A) (ys : List A) → find f ys ≡ Some x → In x ys
found_in f x [] e = cc
found_in {A} f x (y ∷ ys) e = by_case (f y) (found_in f x ys) e where
  by_case : (b : Bool) → (find f ys ≡ Some x → In x ys) → (if b then Some y else find f ys) ≡ Some x → (x ≡ y) ⊎ In x ys
  by_case true rest e = let same : y ≡ x = cc in inl (sym same)
  by_case false rest e = inr (rest e)

-- where the test is true of each, all are kept
pub all_kept : {A : Type 0} (f : A → Bool) (ys : List A) → ((x : A) → In x ys → f x ≡ true) → filter f ys ≡ ys
all_kept f [] h = refl
all_kept {A} f (y ∷ ys) h =
    ap (λ (b : Bool). if b then y ∷ filter f ys else filter f ys) (h y (inl refl)) ∙ ap (λ (l : List A). y ∷ l) (all_kept f ys (λ x a. h x (inr a)))

pub append_none : {A : Type 0} (xs : List A) → xs ++ [] ≡ xs
append_none [] = refl
append_none {A} (x ∷ xs) = ap (λ (l : List A). x ∷ l) (append_none xs)

-- ---- stages

none_some : {A : Type 0} (x : A) → ◌≡◌ {A = Option A} None (Some x) → ⊥
none_some x e = cc

none_inside : (c : Fetched) → ◌≡◌ {A = Option (Option Fetched)} (Some None) (Some (Some c)) → ⊥
none_inside c e = none_some c (same_some None (Some c) e)

-- c stands at this index
abbrev pub At : List (Option Fetched) → ℕ → Fetched → Type 0
At stages i c = slice_get stages i ≡ Some (Some c)

-- it is one of those that stand there
pub at_stands : (stages : List (Option Fetched)) (i : ℕ) (c : Fetched) → At stages i c → In c (standing stages)
at_stands [] i c e = absurd (none_some (Some c) e)
at_stands (None ∷ stages) zero c e = absurd (none_inside c e)
at_stands (None ∷ stages) (suc i) c e = at_stands stages i c e
at_stands (Some d ∷ stages) zero c e = inl (sym (same_some d c (same_some (Some d) (Some c) e)))
at_stands (Some d ∷ stages) (suc i) c e = inr (at_stands stages i c e)

-- what stands in stages of which the first are emptied, and so many are kept
pub record IsLeft (lost kept : ℕ) (stages : List (Option Fetched)) (i : ℕ) (c : Fetched) : Type 0 where
  pub there : At stages i c
  pub past : lost ≤ i
  pub inside : i < kept

cleared_there : (lost : ℕ) (stages : List (Option Fetched)) (i : ℕ) (c : Fetched) → At (cleared lost stages) i c → At stages i c × (lost ≤ i)
cleared_there zero stages i c e = (e, omega arith)
cleared_there (suc n) [] i c e = absurd (none_some (Some c) e)
cleared_there (suc n) (s ∷ stages) zero c e = absurd (none_inside c e)
cleared_there (suc n) (s ∷ stages) (suc i) c e = let x = cleared_there n stages i c e in let le = x.1 in (x.0, omega (arith, le))

cut_there : (kept : ℕ) (stages : List (Option Fetched)) (i : ℕ) (c : Fetched) → At (take kept stages) i c → At stages i c × (i < kept)
cut_there zero stages i c e = absurd (none_some (Some c) e)
cut_there (suc n) [] i c e = absurd (none_some (Some c) e)
cut_there (suc n) (s ∷ stages) zero c e = (e, omega arith)
cut_there (suc n) (s ∷ stages) (suc i) c e = let x = cut_there n stages i c e in let lt = x.1 in (x.0, omega (arith, lt))

pub nothing_stands : (n i : ℕ) (c : Fetched) → At (replicate n None) i c → ⊥
nothing_stands zero i c e = none_some (Some c) e
nothing_stands (suc n) zero c e = none_inside c e
nothing_stands (suc n) (suc i) c e = nothing_stands n i c e

pub left_there : (stops : Bool) (lost kept : ℕ) (stages : List (Option Fetched)) (i : ℕ) (c : Fetched) → At (if stops then replicate kept None else take kept (cleared lost stages)) i c → IsLeft lost kept stages i c
left_there true lost kept stages i c e = absurd (nothing_stands kept i c e)
left_there false lost kept stages i c e =
    let x = cut_there kept (cleared lost stages) i c e in
    let y = cleared_there lost stages i c x.0 in
    record { there = y.0; past = y.1; inside = x.1 }

-- how many stages there are then
cut_length : (kept : ℕ) (stages : List (Option Fetched)) → kept ≤ length stages → length (take kept stages) ≡ kept
cut_length zero stages le = refl
cut_length (suc n) [] le = absurd (omega (arith, le))
cut_length (suc n) (s ∷ stages) le = ap (λ m. suc m) (cut_length n stages (omega (arith, le)))

pub none_length : (n : ℕ) → ◌≡◌ {A = ℕ} (length (replicate {A = Option Fetched} n None)) n
none_length zero = refl
none_length (suc n) = ap (λ m. suc m) (none_length n)

pub left_length : (stops : Bool) (lost kept : ℕ) (stages : List (Option Fetched)) → kept ≤ length stages → length (if stops then replicate kept None else take kept (cleared lost stages)) ≡ kept
left_length true lost kept stages le = none_length kept
left_length false lost kept stages le = let e = cleared_length lost stages in cut_length kept (cleared lost stages) (omega (arith, le, e))

-- what stands in the last stage
pub last_there : (stages : List (Option Fetched)) (n : ℕ) (c : Fetched) → length stages ≡ suc n → last_in stages ≡ Some c → At stages n c
last_there [] n c l e = absurd (none_some c e)
last_there (s ∷ []) zero c l e = ap (λ (o : Option Fetched). Some o) e
last_there (s ∷ []) (suc n) c l e = absurd (omega (arith, l))
last_there (s ∷ t ∷ stages) zero c l e = absurd (omega (arith, l))
last_there (s ∷ t ∷ stages) (suc n) c l e = last_there (t ∷ stages) n c (omega (arith, l)) e
