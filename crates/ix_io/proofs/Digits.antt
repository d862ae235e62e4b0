-- Hexadecimal digits, one more at a time.
use Rattle.std.proofs.Common.{◌<◌, length, lit<, ◌≡◌, ℕ, ◌+◌, ◌*◌, ◌/◌, ◌%◌, ◌^◌, List, [], ◌∷◌, ◌++◌, suc, zero, refl, sym, ◌∙◌, ap, arith, add-one, pow-add, append_assoc, length-append, ◌-◌, ◌≤◌}
use Rattle.std.proofs.Math.Nat.{div-div-eq-div-mul, pow-suc}
use Rattle.std.proofs.lemmas.Fmt.{length-decimal-le}
use Rattle.std.specs.Fmt.{decimal}
use Rattle.ix_io.specs.Out.{hex_digit, hex_digits}

-- the decimal digits of a number of 64 bits are 20 at most
pub decimal_is_short : (number : ℕ) → number < 2 ^ 64 → length (decimal number) ≤ 20
decimal_is_short number fits =
    let few : 2 ^ 64 < 10 ^ 20 = lit< tt in length-decimal-le 20 number (lit< tt) (omega (arith, few)) fits

-- the digits down to the place after one, and then the digit there
pub hex_digits_more : (count number place : ℕ)
    → hex_digits (count + 1) (number / 16 ^ place)
    ≡ hex_digits count (number / 16 ^ (place + 1)) ++ hex_digit (number / 16 ^ place % 16) ∷ []
unfolding hex_digits
hex_digits_more count number place =
    let above : number / 16 ^ place / 16 ≡ number / 16 ^ (place + 1)
    = div-div-eq-div-mul number (16 ^ place) 16 ∙ ap (λ d. number / d) (rw (add-one place) (sym (pow-suc 16 place))) in
    rw (add-one count, above) refl

-- a shift by four places for each digit
pub pow_four_times : (place : ℕ) → 2 ^ (4 * place) ≡ 16 ^ place
pow_four_times zero = refl
pow_four_times (suc place) =
    let more : 4 * suc place ≡ 4 * place + 4 = omega arith in
    rw (more, pow-add 2 (4 * place) 4, pow_four_times place, pow-suc 16 place) refl

-- one more digit behind those that stand already
pub digits_push : (before items pushed : List ℕ) (digits left place number digit : ℕ) → left ≡ place + 1 → left ≤ digits
    → items ≡ before ++ hex_digits (digits - left) (number / 16 ^ left)
    → digit ≡ hex_digit (number / 16 ^ place % 16)
    → pushed ≡ items ++ digit ∷ []
    → pushed ≡ before ++ hex_digits (digits - place) (number / 16 ^ place)
digits_push before items pushed digits left place number digit next within stand is more =
    let count : digits - place ≡ (digits - left) + 1 = omega arith in
    rw (count, hex_digits_more (digits - left) number place, ← next, ← is, ← append_assoc, ← stand) more

-- there are that many digits
pub length-hex_digits : (count number : ℕ) → length (hex_digits count number) ≡ count
unfolding hex_digits
length-hex_digits zero number = refl
length-hex_digits (suc count) number =
    length-append (hex_digits count (number / 16)) _ ∙ (rw (length-hex_digits count (number / 16)) (add-one count))
