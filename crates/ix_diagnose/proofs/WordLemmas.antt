-- Words between spaces.
use Rattle.std.proofs.Common.{rules, ◌≡◌, ◌∙◌, sym, ap, Bool, true, false, not, ℕ, ◌<◌, ◌^◌, List, [], ◌∷◌, ◌++◌, arith, decimal, codes, refl, Option, Some, None}
use Rattle.std.specs.Prelude.{◌==◌, unwrap_or}
use lib.Pointwise.{pointwise}
use lib.Dec.{eqb}
use Rattle.ix_diagnose.specs.declared.place.Place.{Place}
use Rattle.std.specs.List.{list_all}
use Rattle.std.proofs.lemmas.List.{append_cancel_right}
use Rattle.std.proofs.lemmas.List.Folds.{list_all_at}
use Rattle.std.proofs.lemmas.Str.Parse.{IsNumeralModel, numerals_by_value, tells_digits, not_in_digits}
use Rattle.std.proofs.lemmas.Fmt.{digits_decimal}
use Rattle.std.specs.Str.Parse.{AllDigits, digits_value}
use Rattle.ix_diagnose.specs.Refusals.{IsWord, before, refusal_line}

own : IsNumeralModel (AllDigits 10) (digits_value 10)
own = numerals_by_value (AllDigits 10) tells_digits

-- the digits of a number are a word
pub decimal_word : (n : ℕ) → n < 2 ^ 64 → IsWord (decimal n)
decimal_word n small i below = not_in_digits own (decimal n) 32 (digits_decimal own n small) (λ r. absurd (omega (arith, r.0))) i below

-- a word that is written out
pub word_of : (xs : List ℕ) → list_all (λ b. not (b == 32)) xs ≡ true → IsWord xs
word_of xs h i below e =
    let bad = list_all_at (λ b. not (b == 32)) xs i 0 below (ap (λ b. not (b == 32)) e) in
    let no : true ≡ not true = sym h ∙ bad in search rules

-- what stands before the line feed of a refusal
pub body_is : (body status rest : List ℕ) → refusal_line status rest ≡ body ++ 10 ∷ [] → body ≡ before (codes "refused") (before status rest)
body_is body status rest e = append_cancel_right body (before (codes "refused") (before status rest)) (10 ∷ []) (sym e)

-- a place by its two numbers
pub one_place : (a b from to : ℕ) → Some a ≡ Some from → Some b ≡ Some to → ◌≡◌ {A = Option Place} (Some (record { from = a; to = b })) (Some (record { from = from; to = to }))
one_place a b from to e f =
    let x : a ≡ from = ap (λ o. unwrap_or o 0) e in
    let y : b ≡ to = ap (λ o. unwrap_or o 0) f in rw (x, y) refl

pub no_number : (n : ℕ) → None ≡ Some n → ⊥
no_number n e = search rules

-- a test of a word that is this one
pub is_named : (word xs : List ℕ) (r : Bool) → r ≡ pointwise eqb xs word → xs ≡ word → pointwise eqb word word ≡ true → r ≡ false → ⊥
is_named word xs r is e same wrong =
    let t : pointwise eqb xs word ≡ pointwise eqb word word = ap (λ z. pointwise eqb z word) e in
    let bad : true ≡ false = sym (is ∙ t ∙ same) ∙ wrong in search rules
