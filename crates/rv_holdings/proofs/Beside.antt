-- What is owed beside the stages: the oldest that owes.
use Rattle.std.proofs.Common.{◌≡◌, ℕ, zero, suc, ◌<◌, ◌≤◌, List, [], ◌∷◌, ◌++◌, length, get_or, map, reverse, Option, Some, None, Bool, true, false, refl, sym, ap, ◌∙◌, subst, arith, ◌⊎◌, inl, inr}
use Rattle.std.specs.Prelude.{if◌then◌else◌}
use Rattle.std.specs.List.{Contains}
use Rattle.std.proofs.lemmas.List.{reverse-append}
use Rattle.std.proofs.lemmas.List.Elements.{Contains-append_left, Contains-push, Contains-push_cases}
use Rattle.rv_trace.specs.declared.row.Row.{Row}
use Rattle.rv_lawful.specs.Settings.{Setting}
use Rattle.rv_lawful.specs.Outstanding.{Decoupled}
use Rattle.rv_rows.specs.declared.known.Owed.{Owed}
use Rattle.rv_rows.specs.Known.{Falling, owed_of}
use Rattle.rv_holdings.specs.Expected.{still_owes, first_owed}

-- Elements of a list that is turned round

front_in : {A : Type 0} (x y : A) (xs : List A) → Contains (x ∷ xs) y → (x ≡ y) ⊎ Contains xs y
front_in x y xs c = by_place c.0 c.1 c.2 where
  by_place : (n : ℕ) → n < length (x ∷ xs) → get_or (x ∷ xs) n y ≡ y → (x ≡ y) ⊎ Contains xs y
  by_place zero lt e = inl e
  by_place (suc n) lt e = inr (n, omega (arith, lt), e)

first_in : {A : Type 0} (x : A) (xs : List A) → Contains (x ∷ xs) x
first_in x xs = (0, omega arith, refl)

more_in : {A : Type 0} (x y : A) (xs : List A) → Contains xs y → Contains (x ∷ xs) y
more_in x y xs c = let lt = c.1 in (suc c.0, omega (arith, lt), c.2)

none_in : {A : Type 0} (y : A) → Contains [] y → ⊥
none_in y c = let lt = c.1 in omega (arith, lt)

turned : {A : Type 0} (x : A) (xs : List A) → reverse (x ∷ xs) ≡ reverse xs ++ x ∷ []
turned x xs = reverse-append (x ∷ []) xs

in_turned : {A : Type 0} (y : A) (xs : List A) → Contains xs y → Contains (reverse xs) y
in_turned y [] c = absurd (none_in y c)
in_turned y (x ∷ xs) c = subst (λ l. Contains l y) (sym (turned x xs)) (elim (front_in x y xs c) [
  | inl e ↦ subst (λ z. Contains (reverse xs ++ x ∷ []) z) e (Contains-push (reverse xs) x)
  | inr d ↦ Contains-append_left (reverse xs) (x ∷ []) y (in_turned y xs d)
])

turned_in : {A : Type 0} (y : A) (xs : List A) → Contains (reverse xs) y → Contains xs y
turned_in y [] c = absurd (none_in y c)
turned_in y (x ∷ xs) c = elim (Contains-push_cases (reverse xs) x y (subst (λ l. Contains l y) (turned x xs) c)) [
  | inl d ↦ more_in x y xs (turned_in y xs d)
  | inr e ↦ subst (λ z. Contains (x ∷ xs) z) e (first_in x xs)
]

in_map : (k : Setting) (d : Decoupled) (xs : List Decoupled) → Contains xs d → Contains (map (owed_of k) xs) (owed_of k d)
in_map k d [] c = absurd (none_in d c)
in_map k d (x ∷ xs) c = elim (front_in x d xs c) [
  | inl e ↦ subst (λ z. Contains (map (owed_of k) (x ∷ xs)) (owed_of k z)) e (first_in (owed_of k x) (map (owed_of k) xs))
  | inr q ↦ more_in (owed_of k x) (owed_of k d) (map (owed_of k) xs) (in_map k d xs q)
]

of_map : (k : Setting) (o : Owed) (xs : List Decoupled) → Contains (map (owed_of k) xs) o → (d : Decoupled) × Contains xs d × (owed_of k d ≡ o)
of_map k o [] c = absurd (none_in o c)
of_map k o (x ∷ xs) c = elim (front_in (owed_of k x) o (map (owed_of k) xs) c) [
  | inl e ↦ (x, first_in x xs, e)
  | inr q ↦ let r = of_map k o xs q in (r.0, more_in x r.0 xs r.1, r.2)
]

-- what is owed is what is outstanding
pub is_owed : (k : Setting) (d : Decoupled) (xs : List Decoupled) → Contains xs d → Contains (map (owed_of k) (reverse xs)) (owed_of k d)
is_owed k d xs c = in_map k d (reverse xs) (in_turned d xs c)

pub owed_is : (k : Setting) (o : Owed) (xs : List Decoupled) → Contains (map (owed_of k) (reverse xs)) o → (d : Decoupled) × Contains xs d × (owed_of k d ≡ o)
owed_is k o xs c = let r = of_map k o (reverse xs) c in (r.0, turned_in r.0 xs r.1, r.2)

-- The order

-- each has a serial below those behind it
abbrev pub Ascends : List Owed → Type 0
Ascends [] = Unit {0}
Ascends (o ∷ owed) = ((p : Owed) → Contains owed p → o.serial < p.serial) × Ascends owed

ascends_push : (owed : List Owed) (o : Owed) → Ascends owed → ((p : Owed) → Contains owed p → p.serial < o.serial) → Ascends (owed ++ o ∷ [])
ascends_push [] o a low = (λ p c. absurd (none_in p c), tt)
ascends_push (x ∷ owed) o a low = (
  λ p c. elim (Contains-push_cases owed o p c) [
    | inl d ↦ a.0 p d
    | inr e ↦ subst (λ (z : Owed). x.serial < z.serial) e (low x (first_in x owed))
  ],
  ascends_push owed o a.1 (λ p c. low p (more_in x p owed c)),
)

map_push : (k : Setting) (xs : List Decoupled) (x : Decoupled) → map (owed_of k) (xs ++ x ∷ []) ≡ map (owed_of k) xs ++ owed_of k x ∷ []
map_push k [] x = refl
map_push k (y ∷ xs) x = ap (λ l. owed_of k y ∷ l) (map_push k xs x)

falls_below : (x : Decoupled) (xs : List Decoupled) → Falling (x ∷ xs) → (y : Decoupled) → Contains xs y → y.0 < x.0
falls_below x [] f y c = absurd (none_in y c)
falls_below x (e ∷ xs) f y c = elim (front_in e y xs c) [
  | inl q ↦ subst (λ (z : Decoupled). z.0 < x.0) q f.0
  | inr d ↦ let lt = falls_below e xs f.1 y d in let top = f.0 in omega (arith, lt, top)
]

falls_on : (x : Decoupled) (xs : List Decoupled) → Falling (x ∷ xs) → Falling xs
falls_on x [] f = tt
falls_on x (e ∷ xs) f = f.1

pub ascends : (k : Setting) (xs : List Decoupled) → Falling xs → Ascends (map (owed_of k) (reverse xs))
ascends k [] f = tt
ascends k (x ∷ xs) f =
    subst (λ l. Ascends l) (sym (ap (λ l. map (owed_of k) l) (turned x xs) ∙ map_push k (reverse xs) x))
    (ascends_push (map (owed_of k) (reverse xs)) (owed_of k x) (ascends k xs (falls_on x xs f))
    (λ p c. let r = owed_is k p xs c in subst (λ (o : Owed). o.serial < x.0) r.2 (falls_below x xs f r.0 r.1)))

-- The first that owes

-- one with this serial owes
abbrev pub Owes : Row → Option ℕ → List Owed → ℕ → Type 0
Owes row number owed j = (o : Owed) × Contains owed o × (o.serial ≡ j) × (still_owes row number o ≡ true)

-- it is the least serial of those, or there is none
abbrev pub FirstOwes : Row → Option ℕ → List Owed → Option ℕ → Type 0
FirstOwes row number owed None = (j : ℕ) → Owes row number owed j → ⊥
FirstOwes row number owed (Some i) = Owes row number owed i × ((j : ℕ) → Owes row number owed j → i ≤ j)

pub first_owes : (row : Row) (number : Option ℕ) (owed : List Owed) → Ascends owed → FirstOwes row number owed (first_owed row number owed)
first_owes row number [] a = λ j h. none_in h.0 h.1
first_owes row number (o ∷ owed) a = by_test (first_owes row number owed a.1) (still_owes row number o) refl where
  behind : (j : ℕ) → Owes row number owed j → Owes row number (o ∷ owed) j
  behind j h = (h.0, more_in o h.0 owed h.1, h.2, h.3)

  rest : still_owes row number o ≡ false → (p : Option ℕ) → FirstOwes row number owed p → FirstOwes row number (o ∷ owed) p
  rest q None f = λ j h. elim (front_in o h.0 owed h.1) [
    | inl e ↦ let is = ap (λ z. still_owes row number z) e in let t = h.3 in cc
    | inr c ↦ f j (h.0, c, h.2, h.3)
  ]
  rest q (Some i) f = (
    behind i f.0,
    λ j h. elim (front_in o h.0 owed h.1) [
      | inl e ↦ let is = ap (λ z. still_owes row number z) e in let t = h.3 in cc
      | inr c ↦ f.1 j (h.0, c, h.2, h.3)
    ],
  )

  by_test : FirstOwes row number owed (first_owed row number owed) → (b : Bool) → still_owes row number o ≡ b → FirstOwes row number (o ∷ owed) (if b then Some o.serial else first_owed row number owed)
  by_test ih true q = (
    (o, first_in o owed, refl, q),
    λ j h. elim (front_in o h.0 owed h.1) [
      | inl e ↦ let s = ap (λ (z : Owed). z.serial) e in let t = h.2 in omega (arith, s, t)
      | inr c ↦ let lt = a.0 h.0 c in let t = h.2 in omega (arith, lt, t)
    ],
  )
  by_test ih false q = rest q (first_owed row number owed) ih
