-- Lists of flags, element by element.
use Rattle.std.proofs.Common.{◌≡◌, ◌∙◌, refl, sym, ap, ℕ, zero, suc, ◌<◌, Bool, false, List, length, get_or, arith}
use Rattle.std.proofs.lemmas.List.{ext_get_or}
use Rattle.rv_asks.specs.Asks.{flags}

pub flags_length : (f : ℕ → Bool) (n : ℕ) → length (flags f n) ≡ n
flags_length f zero = refl
flags_length f (suc n) = ap suc (flags_length (λ r. f (suc r)) n)

pub flags_at : (f : ℕ → Bool) (n r : ℕ) → r < n → get_or (flags f n) r false ≡ f r
flags_at f zero r lt = absurd (omega (arith, lt))
flags_at f (suc n) zero lt = refl
flags_at f (suc n) (suc r) lt = flags_at (λ k. f (suc k)) n r (omega (arith, lt))

-- a list is one of flags where each element is
pub flags_are : (xs : List Bool) (f : ℕ → Bool) (n : ℕ) → length xs ≡ n → ((r : ℕ) → r < n → get_or xs r false ≡ f r) → xs ≡ flags f n
flags_are xs f n e each =
    ext_get_or false xs (flags f n) (e ∙ sym (flags_length f n)) (λ r lt. let b : r < n = omega (arith, e, lt) in each r b ∙ sym (flags_at f n r b))
