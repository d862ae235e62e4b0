-- Hexadecimal digits are read whatever number they are of, and words in them are the same as those of a number below 2^32.
use Rattle.std.proofs.Common.{◌≡◌, ℕ, zero, suc, ◌+◌, ◌*◌, ◌/◌, ◌%◌, ◌^◌, ◌≤◌, List, [], ◌∷◌, ◌++◌, length, refl, ap, ◌∙◌, arith, Some, true}
use Rattle.std.specs.Prelude.{is_some}
use Rattle.std.proofs.lemmas.Bool.{eq-eqb}
use Rattle.ix_io.specs.Out.{hex_digit, hex_digits}
use Rattle.ix_io.proofs.Digits.{length-hex_digits}
use Rattle.rv_reader.specs.Words.{Free, and_then, until, from, behind_in, digit_in, hex_from, digits_in}
use Rattle.rv_reader.specs.Writes.{address_behind}
use Rattle.rv_reader.proofs.Readings.{BeginsWith, digit_back, digits_small, digits_sound}
use Rattle.rv_reader.proofs.Frees.{free_hex, until_begin, from_begin}

abbrev AreHex : List ℕ → Type 0
AreHex [] = Unit {0}
AreHex (b ∷ ds) = ((d : ℕ) × (digit_in b ≡ Some d)) × AreHex ds

hex_both : (xs ys : List ℕ) → AreHex xs → AreHex ys → AreHex (xs ++ ys)
hex_both [] ys h g = g
hex_both (b ∷ xs) ys h g = (h.0, hex_both xs ys h.1 g)

are_hex : (n v : ℕ) → AreHex (hex_digits n v)
unfolding hex_digits
are_hex zero v = tt
are_hex (suc n) v = hex_both (hex_digits n (v / 16)) (hex_digit (v % 16) ∷ []) (are_hex n (v / 16)) ((v % 16, digit_back (v % 16) (omega arith)), tt)

hex_read : (value : ℕ) (ds : List ℕ) → AreHex ds → (x : ℕ) × (hex_from value ds ≡ Some x)
unfolding hex_from
hex_read value [] h = (value, refl)
hex_read value (b ∷ ds) h = let r = hex_read (value * 16 + h.0.0) ds h.1 in (r.0, ap (λ o. and_then o (λ d. hex_from (value * 16 + d) ds)) h.0.1 ∙ r.1)

-- digits of any number are read
pub digits_read : (n v : ℕ) → (x : ℕ) × (digits_in n (hex_digits n v) ≡ Some x)
digits_read n v = let r = hex_read 0 (hex_digits n v) (are_hex n v) in (r.0, rw (eq-eqb (length (hex_digits n v)) n (length-hex_digits n v)) r.1)

pub are_digits : (n v : ℕ) → is_some (digits_in n (hex_digits n v)) ≡ true
are_digits n v = ap is_some (digits_read n v).1

-- the number of 32 bits with the same eight digits
pub record IsCut (v : ℕ) : Type 0 where
  pub word : ℕ
  pub small : word ≤ 4294967295
  pub same : hex_digits 8 word ≡ hex_digits 8 v

pub cut : (v : ℕ) → IsCut v
cut v =
    let r = digits_read 8 v in
    let e : 16 ^ 8 ≡ 4294967296 = refl in
    let l = digits_small 8 (hex_digits 8 v) r.0 r.1 in
    record { word = r.0; small = omega (arith, e, l); same = digits_sound 8 (hex_digits 8 v) r.0 r.1 }

-- an address behind a front
pub address_at : (front : List ℕ) (v : ℕ) (text rest : List ℕ) → behind_in front text ≡ Some (hex_digits 8 v ++ rest) → BeginsWith 32 rest → address_behind front text ≡ Some rest
unfolding address_behind
address_at front v text rest e b =
    let free : Free 32 (hex_digits 8 v) = free_hex 32 8 v refl in
    let r = digits_read 8 v in
    ap (λ o. and_then o (λ r. and_then (digits_in 8 (until 32 r)) (λ s. Some (from 32 r)))) e
    ∙ ap (λ t. and_then (digits_in 8 t) (λ s. Some (from 32 (hex_digits 8 v ++ rest)))) (until_begin 32 (hex_digits 8 v) rest free b)
    ∙ ap (λ o. and_then o (λ s. Some (from 32 (hex_digits 8 v ++ rest)))) r.1
    ∙ ap (λ t. Some t) (from_begin 32 (hex_digits 8 v) rest free b)
