-- Decimal numbers as words.
use Rattle.std.proofs.Common.{◌≡◌, ℕ, ◌<◌, ◌≤◌, ◌^◌, List, ◌∷◌, sym, ◌∙◌, arith, lit<, subst, Bool, true, false}
use Rattle.std.specs.Prelude.{IsUtf8, Result, Ok}
use Rattle.std.specs.Fmt.{decimal}
use Rattle.std.specs.Str.Parse.{ParsesUnsigned}
use Rattle.std.specs.Str.Parse.{digits_value}
use Rattle.std.proofs.lemmas.Fmt.{IsAscii-decimal, parse-decimal, decimal_injective, decimal_is_IsNumeral}
use Rattle.std.proofs.lemmas.Str.{IsUtf8-from_ascii}
use Rattle.ix_lines.specs.Readings.{Tells}

pub wide : (n most : ℕ) → n ≤ most → most < 2 ^ 64 → n < 2 ^ 64
wide n most h w = omega (arith, h, w)

pub decimal_utf8 : (n : ℕ) (word : List ℕ) → n < 2 ^ 64 → decimal n ≡ word → IsUtf8 word
decimal_utf8 n word h e = subst IsUtf8 e (IsUtf8-from_ascii (decimal n) (IsAscii-decimal n h))

-- the digits of a number are read as that number
pub decimal_read : {E : Type 0} (n : ℕ) (word text : List ℕ) (r : Result ℕ E) → n < 2 ^ 64 → decimal n ≡ word → text ≡ word → ParsesUnsigned 64 10 text r → r ≡ Ok n
decimal_read n word text r h e t p = parse-decimal 64 n text r h h (t ∙ sym e) p

pub same_number : {E : Type 0} (n m : ℕ) (r : Result ℕ E) → r ≡ Ok n → r ≡ Ok m → m ≡ n
same_number n m r a b = cc

pub too_great : {E : Type 0} (n most m : ℕ) (r : Result ℕ E) → r ≡ Ok n → r ≡ Ok m → n ≤ most → most < m → ⊥
too_great n most m r a b h g = let e = same_number n m r a b in omega (arith, e, h, g)

-- the number that a word is
abbrev pub value : List ℕ → ℕ
value w = digits_value 10 w

pub value_decimal : (n most : ℕ) → n ≤ most → most < 2 ^ 64 → value (decimal n) ≡ n
value_decimal n most h w = (decimal_is_IsNumeral n (omega (arith, h, w))).1

-- the word of 0 is that of no other number
pub no_zero : (p n : ℕ) (all : List (List ℕ)) (ps bs : List (List ℕ)) → n ≡ 0 → 1 ≤ p → p < 2 ^ 64 → decimal p ∷ ps ≡ all → decimal n ∷ bs ≡ all → ⊥
no_zero p n all ps bs z h w e f =
    let same : decimal p ≡ decimal n = cc in
    let is = decimal_injective p n w (omega (arith, z, lit)) same in
    omega (arith, is, z, h) where
      lit : 0 < 2 ^ 64
      lit = lit< tt

-- what an answer tells
pub not_told : (told : Bool) (P : Type 0) → Tells told P → told ≡ false → P → ⊥
not_told true P t e p = absurd cc
not_told false P t e p = t p

pub is_told : (told : Bool) (P : Type 0) → Tells told P → told ≡ true → P
is_told true P t e = t
is_told false P t e = absurd cc
