-- What holds of each number below a bound.
use Rattle.std.proofs.Common.{◌≡◌, ℕ, ◌+◌, ◌<◌, sym, subst, arith, inl, inr}
use Rattle.std.proofs.lemmas.Bool.{cases_lt}

pub each_step : (P : ℕ → Type 0) (n : ℕ) → ((s : ℕ) → s < n → P s) → P n → (s : ℕ) → s < n + 1 → P s
each_step P n f p s lt = elim (cases_lt s n) [
  | inl less ↦ f s less
  | inr more ↦ let e : s ≡ n = omega (arith, lt, more) in subst P (sym e) p
]
