-- The stages one on.
use Rattle.std.proofs.Common.{◌≡◌, ◌∙◌, refl, sym, ap, ℕ, zero, suc, ◌+◌, ◌-◌, ◌<◌, ◌≤◌, List, [], ◌∷◌, length, take, Option, Some, None, Bool, true, false, arith}
use Rattle.std.specs.Prelude.{replicate, if◌then◌else◌, nat_lt}
use Rattle.std.proofs.lemmas.Bool.Decides.{nat_tests}
use Rattle.rv_harts.specs.Harts.{Fetched}
use Rattle.rv_harts.specs.HartRows.{cleared}
use Rattle.rv_barrel.specs.declared.cell.InFlight.{InFlight}
use Rattle.rv_barrel.specs.Cells.{Slots, count, fetched_at, fetched_of}
use Rattle.rv_barrel.specs.Moving.{going, advanced, all_free}
use Rattle.rv_barrel.proofs.Views.{none_first, last_slot}

-- stages of which so many of the first are free
abbrev pub emptied : ℕ → Slots → Slots
emptied zero s = s
emptied (suc n) [] = []
emptied (suc n) (s ∷ older) = None ∷ emptied n older

abbrev first_if : Bool → Option InFlight → Slots → Slots
first_if b s older = (if b then None else s) ∷ older

emptied_on : (gone stage : ℕ) (s : Option InFlight) (older : Slots) → emptied (gone - stage) (s ∷ older) ≡ going gone stage s ∷ emptied (gone - suc stage) older
emptied_on gone stage s older = by_case (gone - stage) refl where
  here : (m : ℕ) → gone - stage ≡ suc m → nat_lt stage gone ≡ true
  here m e = grind (arith, nat_tests, e)

  past : gone - stage ≡ zero → nat_lt stage gone ≡ false
  past e = grind (arith, nat_tests, e)

  by_case : (n : ℕ) → gone - stage ≡ n → emptied n (s ∷ older) ≡ going gone stage s ∷ emptied (gone - suc stage) older
  by_case zero e =
      let none : 0 ≡ gone - suc stage = omega (arith, e) in
      ap (λ (m : ℕ). s ∷ emptied m older) none
      ∙ sym (ap (λ (b : Bool). first_if b s (emptied (gone - suc stage) older)) (past e))
  by_case (suc m) e =
      let less : m ≡ gone - suc stage = omega (arith, e) in
      ap (λ (i : ℕ). none_first (emptied i older)) less
      ∙ sym (ap (λ (b : Bool). first_if b s (emptied (gone - suc stage) older)) (here m e))

pub advanced_is : (gone stage : ℕ) (come : Option InFlight) (s : Slots) → advanced gone stage come s ≡ take (length s) (come ∷ emptied (gone - stage) s)
advanced_is gone stage come [] = refl
advanced_is gone stage come (s ∷ older) =
    ap (λ (l : Slots). come ∷ l) (advanced_is gone (suc stage) (going gone stage s) older)
    ∙ sym (ap (λ (l : Slots). come ∷ take (length older) l) (emptied_on gone stage s older))

pub fetched_emptied : (q n : ℕ) (s : Slots) → fetched_of q (emptied n s) ≡ cleared n (fetched_of q s)
fetched_emptied q zero s = refl
fetched_emptied q (suc n) [] = refl
fetched_emptied q (suc n) (None ∷ older) = ap (λ (l : List (Option Fetched)). None ∷ l) (fetched_emptied q n older)
fetched_emptied q (suc n) (Some c ∷ older) = ap (λ (l : List (Option Fetched)). None ∷ l) (fetched_emptied q n older)

-- one, where something stands there
abbrev pub one_in : Option InFlight → ℕ
one_in None = 0
one_in (Some c) = 1

pub count_last : (n : ℕ) (s : Slots) → length s ≡ suc n → count s ≡ count (take n s) + one_in (last_slot s)
count_last n [] e = absurd (omega (arith, e))
count_last zero (None ∷ []) e = refl
count_last zero (Some c ∷ []) e = refl
count_last (suc n) (s ∷ []) e = absurd (omega (arith, e))
count_last zero (s ∷ t ∷ older) e = absurd (omega (arith, e))
count_last (suc n) (None ∷ t ∷ older) e = count_last n (t ∷ older) (omega (arith, e))
count_last (suc n) (Some c ∷ t ∷ older) e = let rest = count_last n (t ∷ older) (omega (arith, e)) in omega (arith, rest)

-- without the last one, which has retired, the places stay
pub fetched_gone : (q n : ℕ) (s : Slots) → length s ≡ suc n → fetched_of (q + one_in (last_slot s)) (take n s) ≡ take n (fetched_of q s)
fetched_gone q n [] e = absurd (omega (arith, e))
fetched_gone q zero (s ∷ older) e = refl
fetched_gone q (suc n) (s ∷ []) e = absurd (omega (arith, e))
fetched_gone q (suc n) (None ∷ t ∷ older) e = ap (λ (l : List (Option Fetched)). None ∷ l) (fetched_gone q n (t ∷ older) (omega (arith, e)))
fetched_gone q (suc n) (Some c ∷ t ∷ older) e =
    let few = count_last n (t ∷ older) (omega (arith, e)) in
    ap (λ (m : ℕ). Some (fetched_at m c) ∷ fetched_of (q + one_in (last_slot (t ∷ older))) (take n (t ∷ older))) (omega (arith, few))
    ∙ ap (λ (l : List (Option Fetched)). Some (fetched_at (q + count (t ∷ older)) c) ∷ l) (fetched_gone q n (t ∷ older) (omega (arith, e)))

pub last_emptied : (n : ℕ) (s : Slots) → n < length s → last_slot (emptied n s) ≡ last_slot s
last_emptied zero s lt = refl
last_emptied (suc n) [] lt = absurd (omega (arith, lt))
last_emptied (suc n) (s ∷ []) lt = absurd (omega (arith, lt))
last_emptied (suc zero) (s ∷ t ∷ older) lt = refl
last_emptied (suc (suc n)) (s ∷ t ∷ older) lt = last_emptied (suc n) (t ∷ older) (omega (arith, lt))

pub emptied_long : (n : ℕ) (s : Slots) → length (emptied n s) ≡ length s
emptied_long zero s = refl
emptied_long (suc n) [] = refl
emptied_long (suc n) (s ∷ older) = ap suc (emptied_long n older)

-- the stages one on, as the definition has them
pub fetched_advanced : (q n gone : ℕ) (s : Slots) → length s ≡ suc n → gone ≤ n → fetched_of (q + one_in (last_slot s)) (advanced gone 0 None s) ≡ None ∷ take n (cleared gone (fetched_of q s))
fetched_advanced q n gone s e le =
    let kept : Slots = emptied gone s in
    let same : last_slot kept ≡ last_slot s = last_emptied gone s (omega (arith, e, le)) in
    let long : length kept ≡ suc n = emptied_long gone s ∙ e in
    ap (λ (l : Slots). fetched_of (q + one_in (last_slot s)) l) (advanced_is gone 0 None s ∙ ap (λ (m : ℕ). take m (None ∷ emptied (gone - 0) s)) e)
    ∙ ap (λ (m : ℕ). none_first (fetched_of (q + one_in (last_slot s)) (take n (emptied m s)))) (omega arith)
    ∙ ap (λ (l : Option InFlight). none_first (fetched_of (q + one_in l) (take n kept))) (sym same)
    ∙ ap (λ (l : List (Option Fetched)). None ∷ l) (fetched_gone q n kept long ∙ ap (λ (l : List (Option Fetched)). take n l) (fetched_emptied q gone s))

pub free_is : (q : ℕ) (s : Slots) → fetched_of q (all_free s) ≡ replicate (length s) None
free_is q [] = refl
free_is q (s ∷ older) = ap (λ (l : List (Option Fetched)). None ∷ l) (free_is q older)
