-- Lists of instructions: what is among them, those that are left, and their order.
use Rattle.std.proofs.Common.{◌≡◌, ◌∙◌, refl, sym, ap, subst, ℕ, zero, suc, ◌<◌, List, [], ◌∷◌, ◌++◌, length, Bool, true, false, arith, inl, inr, ◌⊎◌}
use Rattle.std.specs.Prelude.{◌||◌, if◌then◌else◌, reverse, slice_index_or}
use Rattle.std.specs.List.{Contains}
use Rattle.std.proofs.lemmas.List.{append-nil, reverse-append}
use Rattle.rv_lawful.specs.Outstanding.{Decoupled, without}
use Rattle.rv_rows.specs.Known.{Falling}

-- one of these is this one
abbrev pub Among : List Decoupled → Decoupled → Type 0
Among [] d = ⊥
Among (o ∷ older) d = (o ≡ d) ⊎ Among older d

pub to_contains : (l : List Decoupled) (d : Decoupled) → Among l d → Contains l d
to_contains [] d x = absurd x
to_contains (o ∷ older) d (inl e) = (0, omega arith, e)
to_contains (o ∷ older) d (inr x) = let c = to_contains older d x in let lt = c.1 in (suc c.0, omega (arith, lt), c.2)

pub from_contains : (l : List Decoupled) (d : Decoupled) → Contains l d → Among l d
from_contains [] d c = let lt = c.1 in absurd (omega (arith, lt))
from_contains (o ∷ older) d c = at_place c.0 c.1 c.2 (λ x. from_contains older d x) where
  at_place : (n : ℕ) → n < length (o ∷ older) → slice_index_or (o ∷ older) n d ≡ d → (Contains older d → Among older d) → Among (o ∷ older) d
  at_place zero lt e later = inl e
  at_place (suc n) lt e later = inr (later (n, omega (arith, lt), e))

pub among_left : (a b : List Decoupled) (d : Decoupled) → Among a d → Among (a ++ b) d
among_left [] b d x = absurd x
among_left (o ∷ a) b d (inl e) = inl e
among_left (o ∷ a) b d (inr x) = inr (among_left a b d x)

pub among_right : (a b : List Decoupled) (d : Decoupled) → Among b d → Among (a ++ b) d
among_right [] b d x = x
among_right (o ∷ a) b d x = inr (among_right a b d x)

pub among_either : (a b : List Decoupled) (d : Decoupled) → Among (a ++ b) d → Among a d ⊎ Among b d
among_either [] b d x = inr x
among_either (o ∷ a) b d (inl e) = inl (inl e)
among_either (o ∷ a) b d (inr x) = elim (among_either a b d x) [ inl y ↦ inl (inr y) | inr y ↦ inr y ]

-- ---- those that are left

pub without_append : (f : ℕ → Bool) (a b : List Decoupled) → without f (a ++ b) ≡ without f a ++ without f b
without_append f [] b = refl
without_append f (o ∷ a) b = ap (λ l. if f o.0 then l else o ∷ l) (without_append f a b) ∙ by_case (f o.0) where
  by_case : (c : Bool) → (if c then without f a ++ without f b else o ∷ (without f a ++ without f b)) ≡ (if c then without f a else o ∷ without f a) ++ without f b
  by_case true = refl
  by_case false = refl

pub without_either : (f g : ℕ → Bool) (l : List Decoupled) → without (λ s. f s || g s) l ≡ without f (without g l)
without_either f g [] = refl
without_either f g (o ∷ older) = ap (λ l. if f o.0 || g o.0 then l else o ∷ l) (without_either f g older) ∙ by_case (f o.0) refl (g o.0) where
  by_case : (c : Bool) → f o.0 ≡ c → (d : Bool) → (if c || d then without f (without g older) else o ∷ without f (without g older)) ≡ without f (if d then without g older else o ∷ without g older)
  by_case true e true = refl
  by_case true e false = ap (λ c. if c then without f (without g older) else o ∷ without f (without g older)) (sym e)
  by_case false e true = refl
  by_case false e false = ap (λ c. if c then without f (without g older) else o ∷ without f (without g older)) (sym e)

pub reverse_cons : {A : Type 0} (x : A) (xs : List A) → reverse (x ∷ xs) ≡ reverse xs ++ x ∷ []
reverse_cons x xs = reverse-append (x ∷ []) xs

pub without_reverse : (f : ℕ → Bool) (l : List Decoupled) → without f (reverse l) ≡ reverse (without f l)
without_reverse f [] = refl
without_reverse f (o ∷ older) =
    ap (without f) (reverse_cons o older)
    ∙ without_append f (reverse older) (o ∷ [])
    ∙ ap (λ l. l ++ without f (o ∷ [])) (without_reverse f older)
    ∙ by_case (f o.0) where
      by_case : (c : Bool) → reverse (without f older) ++ (if c then [] else o ∷ []) ≡ reverse (if c then without f older else o ∷ without f older)
      by_case true = append-nil (reverse (without f older))
      by_case false = sym (reverse_cons o (without f older))

pub among_without : (f : ℕ → Bool) (l : List Decoupled) (d : Decoupled) → f d.0 ≡ false → Among l d → Among (without f l) d
among_without f [] d e x = absurd x
among_without f (o ∷ older) d e (inl q) = by_case (f o.0) refl where
  by_case : (c : Bool) → f o.0 ≡ c → Among (if c then without f older else o ∷ without f older) d
  by_case true p = cc (p, ap (λ (x : Decoupled). f x.0) q, e)
  by_case false p = inl q
among_without f (o ∷ older) d e (inr x) = by_case (f o.0) (among_without f older d e x) where
  by_case : (c : Bool) → Among (without f older) d → Among (if c then without f older else o ∷ without f older) d
  by_case true y = y
  by_case false y = inr y

pub within_all : (f : ℕ → Bool) (l : List Decoupled) (d : Decoupled) → Among (without f l) d → (f d.0 ≡ false) × Among l d
within_all f [] d x = absurd x
within_all f (o ∷ older) d x = by_case (f o.0) refl x (λ y. within_all f older d y) where
  later : (f d.0 ≡ false) × Among older d → (f d.0 ≡ false) × Among (o ∷ older) d
  later y = (y.0, inr y.1)

  by_case : (c : Bool) → f o.0 ≡ c → Among (if c then without f older else o ∷ without f older) d → (Among (without f older) d → (f d.0 ≡ false) × Among older d) → (f d.0 ≡ false) × Among (o ∷ older) d
  by_case true p y again = later (again y)
  by_case false p (inl e) again = (ap (λ (z : Decoupled). f z.0) (sym e) ∙ p, inl e)
  by_case false p (inr y) again = later (again y)

-- ---- their order

-- these have lower serials
abbrev pub Under : ℕ → List Decoupled → Type 0
Under s [] = Unit {0}
Under s (o ∷ older) = (o.0 < s) × Under s older

-- each has a higher serial than those behind it
abbrev pub Falls : List Decoupled → Type 0
Falls [] = Unit {0}
Falls (o ∷ older) = Under o.0 older × Falls older

pub under_all : (s : ℕ) (l : List Decoupled) → ((d : Decoupled) → Among l d → d.0 < s) → Under s l
under_all s [] h = tt
under_all s (o ∷ older) h = (h o (inl refl), under_all s older (λ d x. h d (inr x)))

pub under_at : (s : ℕ) (l : List Decoupled) (d : Decoupled) → Under s l → Among l d → d.0 < s
under_at s [] d h x = absurd x
under_at s (o ∷ older) d h (inl e) = subst (λ (z : Decoupled). z.0 < s) e h.0
under_at s (o ∷ older) d h (inr x) = under_at s older d h.1 x

pub under_without : (f : ℕ → Bool) (s : ℕ) (l : List Decoupled) → Under s l → Under s (without f l)
under_without f s [] h = tt
under_without f s (o ∷ older) h = by_case (f o.0) (under_without f s older h.1) where
  by_case : (c : Bool) → Under s (without f older) → Under s (if c then without f older else o ∷ without f older)
  by_case true y = y
  by_case false y = (h.0, y)

pub falls_without : (f : ℕ → Bool) (l : List Decoupled) → Falls l → Falls (without f l)
falls_without f [] h = tt
falls_without f (o ∷ older) h = by_case (f o.0) (under_without f o.0 older h.0) (falls_without f older h.1) where
  by_case : (c : Bool) → Under o.0 (without f older) → Falls (without f older) → Falls (if c then without f older else o ∷ without f older)
  by_case true u y = y
  by_case false u y = (u, y)

pub falling : (l : List Decoupled) → Falls l → Falling l
falling [] h = tt
falling (d ∷ []) h = tt
falling (d ∷ e ∷ older) h = (h.0.0, falling (e ∷ older) h.1)
