-- Parts of words, and words that are moved.
use Rattle.std.proofs.Common.{◌≡◌, ◌∙◌, sym, ap, ℕ, ◌+◌, ◌-◌, ◌*◌, ◌/◌, ◌%◌, ◌^◌, ◌<◌, ◌≤◌, lit<, arith}
use Rattle.std.proofs.Math.Nat.{pow-le-pow_right, div-eq_of_lt, mod-eq_of_lt, zero-mod, mul-mod_left}
use Rattle.std.proofs.lemmas.Nat.{pow-add}

-- a word is below each power of two from the 32nd on
pub below_power : (n k : ℕ) → n < 2 ^ 32 → 32 ≤ k → n < 2 ^ k
below_power n k h l = let p : 2 ^ 32 ≤ 2 ^ k = pow-le-pow_right (lit< tt) l in omega (arith, h, p)

-- nothing of a word lies past it
pub nothing_past : (n low w : ℕ) → n < 2 ^ 32 → 32 ≤ low → 0 ≡ n / 2 ^ low % 2 ^ w
nothing_past n low w h l = sym (ap (λ (m : ℕ). m % 2 ^ w) (div-eq_of_lt (below_power n low h l)) ∙ zero-mod (2 ^ w))

quotient_below : (n k : ℕ) → n / 2 ^ k ≤ n
quotient_below n k = omega arith

-- all of a word
pub all_of : (n low w : ℕ) → n < 2 ^ 32 → 32 ≤ w → n / 2 ^ low ≡ n / 2 ^ low % 2 ^ w
all_of n low w h l =
    let q = quotient_below n low in
    sym (mod-eq_of_lt (below_power (n / 2 ^ low) w (omega (arith, q, h)) l))

-- bits that are moved past the word are gone
pub moved_past : (n at : ℕ) → 32 ≤ at → 0 ≡ n * 2 ^ at % 2 ^ 32
moved_past n at l =
    let k : at ≡ (at - 32) + 32 = omega (arith, l) in
    sym (ap (λ (e : ℕ). n * 2 ^ e % 2 ^ 32) k
    ∙ ap (λ (e : ℕ). n * e % 2 ^ 32) (pow-add 2 (at - 32) 32)
    ∙ ap (λ (e : ℕ). e % 2 ^ 32) (product n (2 ^ (at - 32)) (2 ^ 32))
    ∙ mul-mod_left (n * 2 ^ (at - 32)) (2 ^ 32))
  where
    product : (a b c : ℕ) → a * (b * c) ≡ (a * b) * c
    product a b c = grind arith

-- half of a power
pub half_below : (k : ℕ) → 2 ^ (k - 1) ≤ 2 ^ k
half_below k = pow-le-pow_right (lit< tt) (omega arith)
