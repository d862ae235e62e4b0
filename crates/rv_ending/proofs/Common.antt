-- What two texts begin with alike.
use Rattle.std.proofs.Common.{◌≡◌, ◌∙◌, refl, ap, ℕ, ◌+◌, List, [], ◌∷◌, ◌++◌, true, false, arith, inl, inr}
use Rattle.std.specs.Prelude.{◌==◌, if◌then◌else◌}
use Rattle.std.proofs.lemmas.Bool.{cases_Bool}
use Rattle.rv_reader.specs.Traces.{feeds}
use Rattle.rv_ending.specs.Differing.{common}

pub feeds_join : (a b : List ℕ) → feeds (a ++ b) ≡ feeds a + feeds b
unfolding feeds
feeds_join [] b = omega arith
feeds_join (x ∷ a) b = elim (cases_Bool (x == 10)) [
  | inl here ↦ rw here (let h = feeds_join a b in omega (arith, h))
  | inr other ↦ rw other (feeds_join a b)
]

pub feeds_one : (b : ℕ) → feeds (b ∷ []) ≡ (if b == 10 then 1 else 0)
unfolding feeds
feeds_one b = refl

same_self : (b : ℕ) → (b == b) ≡ true
same_self b = grind arith

-- a text and what it begins with
pub common_front : (a rest : List ℕ) → common (a ++ rest) a ≡ a
unfolding common
common_front [] [] = refl
common_front [] (x ∷ rest) = refl
common_front (x ∷ a) rest = rw (same_self x) (ap (λ l. x ∷ l) (common_front a rest))

-- the next byte is the same
pub common_more : (a rest : List ℕ) (b : ℕ) → common (a ++ b ∷ rest) (a ++ b ∷ []) ≡ a ++ b ∷ []
unfolding common
common_more [] [] b = rw (same_self b) refl
common_more [] (x ∷ rest) b = rw (same_self b) refl
common_more (x ∷ a) rest b = rw (same_self x) (ap (λ l. x ∷ l) (common_more a rest b))

-- the next byte is another one
pub common_other : (a rest : List ℕ) (d b : ℕ) → (d == b) ≡ false → common (a ++ d ∷ rest) (a ++ b ∷ []) ≡ a
unfolding common
common_other [] rest d b e = rw e refl
common_other (x ∷ a) rest d b e = rw (same_self x) (ap (λ l. x ∷ l) (common_other a rest d b e))

-- there is none
pub common_end : (a more : List ℕ) → common a (a ++ more) ≡ a
unfolding common
common_end [] more = refl
common_end (x ∷ a) more = rw (same_self x) (ap (λ l. x ∷ l) (common_end a more))

-- where a text does not begin with another one, what comes behind that changes nothing
pub common_past : (text a more : List ℕ) → ((rest : List ℕ) → text ≡ a ++ rest → ⊥) → common text (a ++ more) ≡ common text a
unfolding common
common_past text [] more f = absurd (f text refl)
common_past [] (y ∷ a) more f = refl
common_past (x ∷ text) (y ∷ a) more f = elim (cases_Bool (x == y)) [
  | inl same ↦ rw same (ap (λ l. x ∷ l) (common_past text a more (λ rest e. f rest (ap (λ l. x ∷ l) e ∙ ap (λ z. z ∷ a ++ rest) (equal x y same)))))
  | inr other ↦ rw other refl
] where
  equal : (m n : ℕ) → (m == n) ≡ true → m ≡ n
  equal m n e = grind arith

pub common_nothing : (text : List ℕ) → common text [] ≡ []
unfolding common
common_nothing [] = refl
common_nothing (x ∷ text) = refl

pub feeds_nothing : feeds [] ≡ 0
unfolding feeds
feeds_nothing = refl
