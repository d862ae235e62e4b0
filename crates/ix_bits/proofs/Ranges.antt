-- The number of an operation is one of its result's type.
use Rattle.std.proofs.Common.{◌≡◌, ℕ, ◌+◌, ◌-◌, ◌*◌, ◌^◌, ◌<◌, ◌≤◌, arith, Bool, true, false, ◌||◌, ℤ, pos, negsuc, neg_ℤ, ◌+ℤ◌, ◌-ℤ◌, ◌*ℤ◌, ◌≤ℤ◌}
use Rattle.std.proofs.lemmas.Int.{ints}
use Rattle.std.proofs.lemmas.Nat.{pow_pos, pow-add, mul-le, mul-lt, row_fits, shr_le}
use Rattle.std.proofs.lemmas.Int.{unsigned_abs-mul}
use Rattle.std.specs.Prelude.{unsigned_abs}
use Rattle.std.specs.Int.{int_shr}
use Rattle.ix_bits.specs.Types.{IsWithin}
use Rattle.ix_bits.proofs.Patterns.{pow_half, pow_rises}

-- a wider type holds the number too, also a signed one with one bit more
pub holds_wider : (s : Bool) (a b : ℕ) (n : ℤ) → 1 ≤ a → a ≤ b → IsWithin s a n → IsWithin s b n
holds_wider false a b n h le k = record { from_least = k.from_least; below_past = omega (arith, ints, pow_rises a b le) }
holds_wider true a b n h le k =
    let r = pow_rises (a - 1) (b - 1) (omega arith)
    in record { from_least = omega (arith, ints, r); below_past = omega (arith, ints, r) }

pub holds_signed : (a b : ℕ) (n : ℤ) → a + 1 ≤ b → IsWithin false a n → IsWithin true b n
holds_signed a b n le k =
    let r = pow_rises a (b - 1) (omega arith)
    in record { from_least = omega (arith, ints); below_past = omega (arith, ints, r) }

pub holds_sum : (s : Bool) (w : ℕ) (x y : ℤ) → 1 ≤ w → IsWithin s w x → IsWithin s w y → IsWithin s (w + 1) (x +ℤ y)
holds_sum false w x y h p q =
    let half = pow_half (w + 1) (omega arith) in
    let e : w + 1 - 1 ≡ w = omega arith in
    let half' = rw e at half in
    record { from_least = omega (arith, ints); below_past = omega (arith, ints, half') }
holds_sum true w x y h p q =
    let half = pow_half w h in
    let e : w + 1 - 1 ≡ w = omega arith in
    record { from_least = rw e (omega (arith, ints, half)); below_past = rw e (omega (arith, ints, half)) }

pub holds_difference : (s : Bool) (w : ℕ) (x y : ℤ) → 1 ≤ w → IsWithin s w x → IsWithin s w y → IsWithin true (w + 1) (x -ℤ y)
holds_difference false w x y h p q =
    let e : w + 1 - 1 ≡ w = omega arith in
    record { from_least = rw e (omega (arith, ints)); below_past = rw e (omega (arith, ints)) }
holds_difference true w x y h p q =
    let half = pow_half w h in
    let e : w + 1 - 1 ≡ w = omega arith in
    record { from_least = rw e (omega (arith, ints, half)); below_past = rw e (omega (arith, ints, half)) }

pub holds_negation : (s : Bool) (w : ℕ) (x : ℤ) → 1 ≤ w → IsWithin s w x → IsWithin true (w + 1) (neg_ℤ x)
holds_negation false w x h p =
    let e : w + 1 - 1 ≡ w = omega arith in
    record { from_least = rw e (omega (arith, ints)); below_past = rw e (omega (arith, ints)) }
holds_negation true w x h p =
    let half = pow_half w h in
    let q = pow_pos (w - 1) in
    let e : w + 1 - 1 ≡ w = omega arith in
    record { from_least = rw e (omega (arith, ints, half)); below_past = rw e (omega (arith, ints, half)) }

-- ---- products, by the sizes of the factors
size_unsigned : (w : ℕ) (n : ℤ) → IsWithin false w n → unsigned_abs n < 2 ^ w
size_unsigned w n p = omega (arith, ints)

size_signed : (w : ℕ) (n : ℤ) → IsWithin true w n → unsigned_abs n ≤ 2 ^ (w - 1)
size_signed w n p = omega (arith, ints)

holds_by_size : (w : ℕ) (n : ℤ) → unsigned_abs n < 2 ^ (w - 1) → IsWithin true w n
holds_by_size w n h = record { from_least = omega (arith, ints); below_past = omega (arith, ints) }

strict_product : (a b m n : ℕ) → a < m → b ≤ n → 0 < n → a * b < m * n
strict_product a b m n p q r = omega (arith, mul-le a b a n (omega arith) q, row_fits a n m n p (omega arith))

holds_mixed : (a b : ℕ) (x y : ℤ) → 1 ≤ a → 1 ≤ b → IsWithin false a x → IsWithin true b y → IsWithin true (a + b) (x *ℤ y)
holds_mixed a b x y h g p q =
    let e : a + b - 1 ≡ a + (b - 1) = omega arith in
    let m = strict_product (unsigned_abs x) (unsigned_abs y) (2 ^ a) (2 ^ (b - 1)) (size_unsigned a x p) (size_signed b y q) (pow_pos (b - 1)) in
    holds_by_size (a + b) (x *ℤ y) (rw (e, unsigned_abs-mul x y, pow-add 2 a (b - 1)) m)

commuted : (x y : ℤ) → x *ℤ y ≡ y *ℤ x
commuted x y = omega (arith, ints)

pub holds_product : (s t : Bool) (a b : ℕ) (x y : ℤ) → 1 ≤ a → 1 ≤ b → IsWithin s a x → IsWithin t b y → IsWithin (s || t) (a + b) (x *ℤ y)
holds_product false false a b x y h g p q =
    let m = mul-lt (unsigned_abs x) (unsigned_abs y) (2 ^ a) (2 ^ b) (size_unsigned a x p) (size_unsigned b y q) in
    let n : unsigned_abs (x *ℤ y) < 2 ^ (a + b) = rw (unsigned_abs-mul x y, pow-add 2 a b) m in
    record { from_least = positive x y p.from_least q.from_least; below_past = omega (arith, ints, n) }
  where
    positive : (x y : ℤ) → pos 0 ≤ℤ x → pos 0 ≤ℤ y → pos 0 ≤ℤ (x *ℤ y)
    positive (pos a) (pos b) h g = omega (arith, ints)
    positive (pos a) (negsuc b) h g = absurd (omega (arith, ints))
    positive (negsuc a) y h g = absurd (omega (arith, ints))
holds_product false true a b x y h g p q = holds_mixed a b x y h g p q
holds_product true false a b x y h g p q =
    let e : a + b ≡ b + a = omega arith in
    rw (e, commuted x y) (holds_mixed b a y x g h q p)
holds_product true true a b x y h g p q =
    let e : a + b - 1 ≡ (a - 1) + (b - 1) + 1 = omega arith in
    let m = mul-le (unsigned_abs x) (unsigned_abs y) (2 ^ (a - 1)) (2 ^ (b - 1)) (size_signed a x p) (size_signed b y q) in
    let k : unsigned_abs (x *ℤ y) ≤ 2 ^ ((a - 1) + (b - 1)) = rw (unsigned_abs-mul x y, pow-add 2 (a - 1) (b - 1)) m in
    let r = pow-add 2 ((a - 1) + (b - 1)) 1 in
    let z = pow_pos ((a - 1) + (b - 1)) in
    holds_by_size (a + b) (x *ℤ y) (rw e (omega (arith, k, r, z)))

-- ---- a shift down
pub holds_shift : (s : Bool) (w : ℕ) (x : ℤ) (k : ℕ) → IsWithin s w x → IsWithin s w (int_shr x k)
holds_shift false w (pos a) k p = record { from_least = omega (arith, ints); below_past = omega (arith, ints, shr_le a k) }
holds_shift false w (negsuc a) k p = absurd (omega (arith, ints))
holds_shift true w (pos a) k p = record { from_least = omega (arith, ints); below_past = omega (arith, ints, shr_le a k) }
holds_shift true w (negsuc a) k p = record { from_least = omega (arith, ints, shr_le a k); below_past = omega (arith, ints) }
