-- Binary digits, one more at a time.
use Rattle.std.proofs.Common.{◌≡◌, ℕ, ◌+◌, ◌/◌, ◌%◌, ◌^◌, List, [], ◌∷◌, ◌++◌, refl, sym, ◌∙◌, ap, arith, add-one, append_assoc, ◌-◌, ◌≤◌}
use Rattle.std.proofs.Math.Nat.{div-div-eq-div-mul, pow-suc}
use Rattle.ix_dump.specs.Dump.{binary_digits}

-- the digits down to the place after one, and then the digit there
pub binary_digits_more : (count number place : ℕ)
    → binary_digits (count + 1) (number / 2 ^ place) ≡ binary_digits count (number / 2 ^ (place + 1)) ++ (48 + number / 2 ^ place % 2) ∷ []
unfolding binary_digits
binary_digits_more count number place =
    let above : number / 2 ^ place / 2 ≡ number / 2 ^ (place + 1)
    = div-div-eq-div-mul number (2 ^ place) 2 ∙ ap (λ d. number / d) (rw (add-one place) (sym (pow-suc 2 place))) in
    rw (add-one count, above) refl

-- one more digit behind those that stand already
pub digits_push : (before out out' : List ℕ) (digits left place number : ℕ) → left ≡ place + 1 → left ≤ digits
    → out ≡ before ++ binary_digits (digits - left) (number / 2 ^ left)
    → out' ≡ out ++ (48 + number / 2 ^ place % 2) ∷ []
    → out' ≡ before ++ binary_digits (digits - place) (number / 2 ^ place)
digits_push before out out' digits left place number next within stand more =
    let count : digits - place ≡ (digits - left) + 1 = omega arith in
    rw (count, binary_digits_more (digits - left) number place, ← next, ← append_assoc, ← stand) more

-- no digit
pub no_digits : (value : ℕ) → binary_digits 0 value ≡ []
unfolding binary_digits
no_digits value = refl
