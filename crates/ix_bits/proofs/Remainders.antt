-- The remainder of a whole number by m, and what it is of sums, differences and products.
use Rattle.std.proofs.Common.{◌≡◌, ℕ, suc, ◌+◌, ◌-◌, ◌*◌, ◌/◌, ◌%◌, ◌<◌, ap, arith, ℤ, pos, negsuc, neg_ℤ, ◌+ℤ◌, ◌-ℤ◌, ◌*ℤ◌, unsigned_abs}
use Rattle.std.specs.Int.{int_rem_euclid}
use Rattle.std.proofs.lemmas.Nat.{div-add-mod', mod_below, same_from_place}
use borrow.Author.Differences.{up, down, sum_is_lem, product_is, neg_is}

abbrev pub rem_of : ℕ → ℤ → ℕ
rem_of m z = unsigned_abs (int_rem_euclid z (pos m))

-- z and its remainder differ by a multiple of m
pub rem_splits : (m : ℕ) (z : ℤ) → 0 < m → (k : ℕ) × (l : ℕ) × (up z + k * m ≡ rem_of m z + down z + l * m)
rem_splits m (pos a) h = (0, a / m, omega (arith, div-add-mod' a m))
rem_splits m (negsuc a) h = (suc (a / m), 0, omega (arith, div-add-mod' a m, mod_below a m h))

pub rem_below_lem : (m : ℕ) (z : ℤ) → 0 < m → rem_of m z < m
rem_below_lem m (pos a) h = mod_below a m h
rem_below_lem m (negsuc a) h = omega (arith, mod_below a m h)

-- what is below m and differs from z by a multiple of m is the remainder
pub rem_is : (m : ℕ) (z : ℤ) (p k l : ℕ) → p < m → up z + k * m ≡ p + down z + l * m → rem_of m z ≡ p
rem_is m z p k l h e =
    let s = rem_splits m z (omega arith) in
    (same_from_place (s.1 + k) (rem_of m z) (l + s.0) p m (rem_below_lem m z (omega arith)) h (omega (arith, s.2))).1

pub rem_sum : (m : ℕ) (x y : ℤ) → 0 < m → rem_of m (x +ℤ y) ≡ (rem_of m x + rem_of m y) % m
rem_sum m x y h =
    let s = rem_splits m x h in
    let t = rem_splits m y h in
    let r = rem_of m x + rem_of m y in
    rem_is m (x +ℤ y) (r % m) (s.0 + t.0) (s.1 + t.1 + r / m) (mod_below r m h)
    (omega (arith, s.2, t.2, sum_is_lem x y, div-add-mod' r m))

pub rem_difference : (m : ℕ) (x y : ℤ) → 0 < m → rem_of m (x -ℤ y) ≡ (rem_of m x + (m - rem_of m y)) % m
rem_difference m x y h =
    let s = rem_splits m x h in
    let t = rem_splits m y h in
    let r = rem_of m x + (m - rem_of m y) in
    rem_is m (x -ℤ y) (r % m) (s.0 + t.1 + 1) (s.1 + t.0 + r / m) (mod_below r m h)
    (omega (arith, s.2, t.2, sum_is_lem x (neg_ℤ y), neg_is y, rem_below_lem m y h, div-add-mod' r m))

pub rem_product : (m : ℕ) (x y : ℤ) → 0 < m → rem_of m (x *ℤ y) ≡ (rem_of m x * rem_of m y) % m
rem_product m x y h =
    let s = rem_splits m x h in
    let t = rem_splits m y h in
    let r = rem_of m x * rem_of m y in
    let a = ap (λ (n : ℕ). n * up y) s.2 in
    let b = ap (λ (n : ℕ). n * down y) s.2 in
    let c = ap (λ (n : ℕ). rem_of m x * n) t.2 in
    rem_is m (x *ℤ y) (r % m) (t.0 * rem_of m x + s.0 * up y + s.1 * down y) (r / m + t.1 * rem_of m x + s.1 * up y + s.0 * down y) (mod_below r m h)
    (omega (arith, a, b, c, product_is x y, div-add-mod' r m))

-- a remainder by a multiple of m has the same remainder by m
pub rem_of_rem : (m j : ℕ) (z : ℤ) → 0 < m → 0 < m * j → rem_of m z ≡ rem_of (m * j) z % m
rem_of_rem m j z h g =
    let s = rem_splits (m * j) z g in
    let r = rem_of (m * j) z in
    rem_is m z (r % m) (s.0 * j) (s.1 * j + r / m) (mod_below r m h)
    (omega (arith, s.2, div-add-mod' r m))
