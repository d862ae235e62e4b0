-- Words as bytes: a number of at most four bytes is a word, and low bytes one behind the other.
use Rattle.std.proofs.Common.{Fits, w8, drop, ◌≡◌, ℕ, zero, suc, ◌+◌, ◌-◌, ◌*◌, ◌/◌, ◌%◌, ◌^◌, ◌<◌, ◌≤◌, List, [], ◌∷◌, ◌++◌, take, length, refl, sym, ap, ◌∙◌, arith}
use Rattle.std.specs.Prelude.{set}
use Rattle.std.proofs.lemmas.List.{take_more_set}
use Rattle.std.proofs.lemmas.List.{append_assoc, length-take, length-drop}
use Rattle.std.proofs.Math.Facts.{Fits-lt-pow}
use Rattle.rv_memory.specs.Bytes.{low_bytes}

-- three bytes below a fourth
pub above_three : (r n : ℕ) → suc n ≤ 4 → r < 256 ^ n → 256 * r + 255 < 2 ^ 32
above_three r zero le lt = omega (arith, lt)
above_three r (suc zero) le lt = omega (arith, lt)
above_three r (suc (suc zero)) le lt = omega (arith, lt)
above_three r (suc (suc (suc zero))) le lt = omega (arith, lt)
above_three r (suc (suc (suc (suc n)))) le lt = absurd (omega (arith, le))

-- one more low byte
pub one_more : (bytes : List ℕ) (place count n : ℕ) → place < length bytes → count ≡ length bytes
    → take (place + 1) (set bytes place (n % 256)) ++ low_bytes (count - (place + 1)) (n / 256) ≡ take place bytes ++ low_bytes (count - place) n
one_more bytes place count n lt e =
    let z : suc (count - (place + 1)) ≡ count - place = omega (arith, lt, e) in
    ap (λ l. l ++ low_bytes (count - (place + 1)) (n / 256)) (take_more_set bytes place (n % 256) lt)
    ∙ append_assoc (take place bytes) (n % 256 ∷ []) (low_bytes (count - (place + 1)) (n / 256))
    ∙ ap (λ m. take place bytes ++ low_bytes m n) z

pub less_by : {i m n : ℕ} → m ≡ n → i < n → i < m
less_by e lt = omega (arith, e, lt)

-- the sum of a byte and three bytes is a word
pub sum_fits : (b r n : ℕ) → b < 256 → suc n ≤ 4 → r < 256 ^ n → b + 256 * r < 2 ^ 32
sum_fits b r n byte le lt = let x = above_three r n le lt in omega (arith, byte, x)

pub product_fits : (r n : ℕ) → suc n ≤ 4 → r < 256 ^ n → 256 * r < 2 ^ 32
product_fits r n le lt = let x = above_three r n le lt in omega (arith, x)

-- one byte less than at most four
pub fewer : (bytes : List ℕ) → 1 ≤ length bytes → length bytes ≤ 4 → suc (length (take (length bytes - 1) (drop 1 bytes))) ≤ 4
fewer bytes some few =
    let a = length-take (length bytes - 1) (drop 1 bytes) in
    let b = length-drop 1 bytes in
    omega (arith, a, b, some, few)

pub byte_below : (b n : ℕ) → b ≡ n → Fits w8 n → b < 256
byte_below b n e f = let x : n < 2 ^ 8 = Fits-lt-pow f in omega (arith, e, x)
