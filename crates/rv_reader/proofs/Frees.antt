-- Texts without a byte.
use Rattle.std.proofs.Common.{◌≡◌, ◌≢◌, ℕ, zero, suc, ◌+◌, ◌/◌, ◌%◌, ◌<◌, ◌≤◌, ◌^◌, ◌==◌, ◌⊎◌, inl, inr, List, [], ◌∷◌, ◌++◌, refl, sym, ap, ◌∙◌, arith, lit<, Bool, true, false}
use Rattle.std.specs.Prelude.{decimal, not}
use Rattle.std.specs.List.{list_all}
use Rattle.std.proofs.lemmas.Bool.{and_parts, agree_below, agree_below_at}
use Rattle.std.proofs.lemmas.Fmt.{decimal_by_steps}
use Rattle.ix_io.specs.Out.{hex_digit, hex_digits}
use Rattle.std.proofs.lemmas.List.{append-nil}
use Rattle.rv_reader.specs.Words.{Free, until, from}
use Rattle.rv_reader.proofs.Readings.{other_number, BeginsWith, until_whole, from_whole, until_at, from_at}

abbrev pub is_free : ℕ → List ℕ → Bool
is_free by word = list_all (λ b. not (b == by)) word

not_false : (b : Bool) → not b ≡ true → b ≡ false
not_false true e = absurd cc
not_false false e = refl

pub free_by_test : (by : ℕ) (word : List ℕ) → is_free by word ≡ true → Free by word
free_by_test by [] e = tt
free_by_test by (b ∷ word) e = let p = and_parts (not (b == by)) (is_free by word) e in (not_false (b == by) p.0, free_by_test by word p.1)

pub free_join : (by : ℕ) (xs ys : List ℕ) → Free by xs → Free by ys → Free by (xs ++ ys)
free_join by [] ys f g = g
free_join by (x ∷ xs) ys f g = (f.0, free_join by xs ys f.1 g)

-- no digit
pub free_decimal : (by n : ℕ) → (by < 48) ⊎ (57 < by) → n < 2 ^ 64 → Free by (decimal n)
free_decimal by n out h =
    decimal_by_steps (λ n ds. Free by ds) (λ n l. (other_number (48 + n) by (apart n l out), tt))
    (λ n ds l s. free_join by ds ((48 + n % 10) ∷ []) s (other_number (48 + n % 10) by (apart (n % 10) (omega arith) out), tt)) n h
  where
    apart : (d : ℕ) → d < 10 → (by < 48) ⊎ (57 < by) → 48 + d ≢ by
    apart d l (inl x) = λ e. omega (arith, e, l, x)
    apart d l (inr x) = λ e. omega (arith, e, l, x)

-- no hexadecimal digit
pub free_hex : (by n v : ℕ) → agree_below (λ d. hex_digit d == by) (λ d. false) 16 ≡ true → Free by (hex_digits n v)
unfolding hex_digits
free_hex by zero v t = tt
free_hex by (suc n) v t = free_join by (hex_digits n (v / 16)) (hex_digit (v % 16) ∷ []) (free_hex by n (v / 16) t) (agree_below_at (λ d. hex_digit d == by) (λ d. false) 16 (v % 16) t (omega arith), tt)

-- a number of 32 bits, and one of 8
abbrev pub IsOut : ℕ → Type 0
IsOut by = (by < 48) ⊎ (57 < by)

pub free_word : (by n : ℕ) → IsOut by → n ≤ 4294967295 → Free by (decimal n)
free_word by n out h = let l : 4294967295 < 2 ^ 64 = lit< tt in free_decimal by n out (omega (arith, h, l))

pub free_byte : (by n : ℕ) → IsOut by → n ≤ 255 → Free by (decimal n)
free_byte by n out h = let l : 255 < 2 ^ 64 = lit< tt in free_decimal by n out (omega (arith, h, l))

-- the first of these bytes after what has none
pub until_begin : (by : ℕ) (w rest : List ℕ) → Free by w → BeginsWith by rest → until by (w ++ rest) ≡ w
until_begin by w [] f b = ap (λ t. until by t) (append-nil w) ∙ until_whole by w f
until_begin by w (x ∷ rest) f b = ap (λ c. until by (w ++ c ∷ rest)) b ∙ until_at by w rest f

pub from_begin : (by : ℕ) (w rest : List ℕ) → Free by w → BeginsWith by rest → from by (w ++ rest) ≡ rest
from_begin by w [] f b = ap (λ t. from by t) (append-nil w) ∙ from_whole by w f
from_begin by w (x ∷ rest) f b = ap (λ c. from by (w ++ c ∷ rest)) b ∙ from_at by w rest f ∙ ap (λ c. c ∷ rest) (sym b)
