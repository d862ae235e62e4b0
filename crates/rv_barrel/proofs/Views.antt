-- What is kept of the stages, as what is fetched.
use Rattle.std.proofs.Common.{◌≡◌, ◌∙◌, refl, ap, ℕ, zero, suc, ◌+◌, ◌≤◌, List, [], ◌∷◌, length, drop, Option, Some, None, arith}
use Rattle.ix_extension.specs.Extensions.{ExtensionTree}
use Rattle.rv_harts.specs.Events.{standing}
use Rattle.rv_harts.specs.Harts.{Fetched}
use Rattle.rv_harts.specs.HartRows.{last_in}
use Rattle.rv_lawful.specs.Settings.{Setting}
use Rattle.rv_seq.specs.declared.arch.Arch.{Arch}
use Rattle.rv_barrel.specs.declared.cell.InFlight.{InFlight}
use Rattle.rv_barrel.specs.Cells.{Slots, count, fetched_at, fetched_of, AreAsked}
use Rattle.rv_barrel.specs.Moving.{step_here, tried_at, fetched_in}
use Rattle.rv_barrel.specs.Turning.{IsTriedAt, IsStepAt, AreTried}

value_or : {A : Type 0} → A → Option A → A
value_or a None = a
value_or a (Some b) = b

pub unsome : {A : Type 0} (a b : A) → Some a ≡ Some b → a ≡ b
unfolding value_or
unsome a b e = ap (value_or a) e

-- nothing before others
abbrev pub none_first : {A : Type 0} → List (Option A) → List (Option A)
none_first l = None ∷ l

pub count_is : (q : ℕ) (s : Slots) → count s ≡ length (standing (fetched_of q s))
count_is q [] = refl
count_is q (None ∷ older) = count_is q older
count_is q (Some c ∷ older) = ap suc (count_is q older)

-- a place more or less
abbrev at_place : InFlight → List (Option Fetched) → ℕ → List (Option Fetched)
at_place c older place = Some (fetched_at place c) ∷ older

pub count_tried : (x : ExtensionTree) (image : List ℕ) (a : Arch) (n : ℕ) (s : Slots) → count (tried_at x image a n s) ≡ count s
count_tried x image a n [] = refl
count_tried x image a zero (None ∷ older) = refl
count_tried x image a zero (Some c ∷ older) = refl
count_tried x image a (suc n) (None ∷ older) = count_tried x image a n older
count_tried x image a (suc n) (Some c ∷ older) = ap suc (count_tried x image a n older)

-- what is tried stays what it is
pub fetched_tried : (x : ExtensionTree) (image : List ℕ) (a : Arch) (q n : ℕ) (s : Slots) → fetched_of q (tried_at x image a n s) ≡ fetched_of q s
fetched_tried x image a q n [] = refl
fetched_tried x image a q zero (None ∷ older) = refl
fetched_tried x image a q zero (Some c ∷ older) = refl
fetched_tried x image a q (suc n) (None ∷ older) = ap (λ (l : List (Option Fetched)). None ∷ l) (fetched_tried x image a q n older)
fetched_tried x image a q (suc n) (Some c ∷ older) =
    ap (λ (m : ℕ). at_place c (fetched_of q (tried_at x image a n older)) (q + m)) (count_tried x image a n older)
    ∙ ap (λ (l : List (Option Fetched)). at_place c l (q + count older)) (fetched_tried x image a q n older)

pub asked_tried : (k : Setting) (x : ExtensionTree) (image : List ℕ) (a : Arch) (n : ℕ) (s : Slots) → AreAsked k s → AreAsked k (tried_at x image a n s)
asked_tried k x image a n [] h = tt
asked_tried k x image a zero (None ∷ older) h = h
asked_tried k x image a zero (Some c ∷ older) h = h
asked_tried k x image a (suc n) (None ∷ older) h = asked_tried k x image a n older h
asked_tried k x image a (suc n) (Some c ∷ older) h = (h.0, asked_tried k x image a n older h.1)

-- above EX nothing changes as it is tried
tried_above : (k : Setting) (q stage : ℕ) (s : Slots) → suc k.shape.ex ≤ stage → AreTried k (suc k.shape.ex) q stage s → AreTried k k.shape.ex q stage s
tried_above k q stage [] le h = tt
tried_above k q stage (None ∷ older) le h = tried_above k q (suc stage) older (omega (arith, le)) h
tried_above k q stage (Some c ∷ older) le h = ((λ below. h.0 le), tried_above k q (suc stage) older (omega (arith, le)) h.1)

tried_one : (k : Setting) (x : ExtensionTree) (image : List ℕ) (a : Arch) (p : ℕ) (c : InFlight) → IsStepAt k p (step_here x image a) →
    IsTriedAt k p (record { serial = c.serial; at = c.at; word = c.word; asks = c.asks; step = Some (step_here x image a) })
tried_one k x image a p c h = record { step = step_here x image a; tried = refl; placed = h }

-- with what stands in EX, all from EX on are tried
pub tried_now : (k : Setting) (x : ExtensionTree) (image : List ℕ) (a : Arch) (q n stage : ℕ) (s : Slots) → stage + n ≡ k.shape.ex → IsStepAt k (q + count (drop (suc n) s)) (step_here x image a) →
    AreTried k (suc k.shape.ex) q stage s → AreTried k k.shape.ex q stage (tried_at x image a n s)
tried_now k x image a q n stage [] e step h = tt
tried_now k x image a q zero stage (None ∷ older) e step h = tried_above k q (suc stage) older (omega (arith, e)) h
tried_now k x image a q zero stage (Some c ∷ older) e step h =
    ((λ from. tried_one k x image a (q + count older) c step), tried_above k q (suc stage) older (omega (arith, e)) h.1)
tried_now k x image a q (suc n) stage (None ∷ older) e step h = tried_now k x image a q n (suc stage) older (omega (arith, e)) step h
tried_now k x image a q (suc n) stage (Some c ∷ older) e step h =
    ((λ from. absurd (omega (arith, e, from))), tried_now k x image a q n (suc stage) older (omega (arith, e)) step h.1)

-- what stands in the last of these
abbrev pub last_slot : Slots → Option InFlight
last_slot [] = None
last_slot (s ∷ []) = s
last_slot (s ∷ t ∷ older) = last_slot (t ∷ older)

pub last_is : (q : ℕ) (s : Slots) → last_in (fetched_of q s) ≡ fetched_in q (last_slot s)
last_is q [] = refl
last_is q (None ∷ []) = refl
last_is q (Some c ∷ []) = ap (λ (m : ℕ). Some (fetched_at m c)) (omega arith)
last_is q (None ∷ None ∷ older) = last_is q (None ∷ older)
last_is q (None ∷ Some d ∷ older) = last_is q (Some d ∷ older)
last_is q (Some c ∷ None ∷ older) = last_is q (None ∷ older)
last_is q (Some c ∷ Some d ∷ older) = last_is q (Some d ∷ older)
