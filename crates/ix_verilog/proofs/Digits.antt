-- The digits of numbers as they are printed.
use Rattle.std.proofs.Common.{◌≡◌, ℕ, zero, suc, ◌+◌, ◌*◌, ◌/◌, ◌%◌, ◌^◌, ◌<◌, ◌≤◌, [], ◌∷◌, ◌++◌, Bool, true, refl, sym, subst, arith, inl, inr}
use Rattle.std.specs.Prelude.{decimal}
use Rattle.std.specs.List.{list_all}
use Rattle.std.proofs.lemmas.Bool.{agree_below_at, cases_lt}
use Rattle.std.proofs.lemmas.List.Folds.{list_all-append}
use Rattle.std.proofs.lemmas.Fmt.{decimal_by_steps}
use Rattle.std.proofs.Math.Nat.{pow-suc}
use Rattle.ix_verilog.specs.Words.{Word, is_digit}
use Rattle.ix_verilog.specs.Lines.{hex_upto, hex_digit, is_hex_digit, AreDigits, IsNumber}
use Rattle.ix_verilog.proofs.HexLemmas.{hex_small, hex_large}

-- digits of a number: none of them leads but that of 0
abbrev Shows : (ℕ → Bool) → ℕ → Word → Type 0
Shows p n [] = ⊥
Shows p n (b ∷ bs) = (p b ≡ true) × (list_all p bs ≡ true) × (1 ≤ n → b ≡ 48 → ⊥) × (n ≡ 0 → bs ≡ [])

shows_digits : (p : ℕ → Bool) (n : ℕ) (ds : Word) → Shows p n ds → AreDigits p ds
shows_digits p n [] h = h
shows_digits p n (b ∷ bs) h = (h.0, h.1, λ e. elim (cases_lt 0 n) [ inl l ↦ absurd (h.2 (omega arith) e) | inr l ↦ h.3 (omega arith) ])

shows_more : (p : ℕ → Bool) (m n d : ℕ) (ds : Word) → 1 ≤ m → 1 ≤ n → p d ≡ true → Shows p m ds → Shows p n (ds ++ d ∷ [])
shows_more p m n d [] l k e h = absurd h
shows_more p m n d (b ∷ bs) l k e h =
    let one : list_all p (d ∷ []) ≡ true = rw e refl in
    let all : list_all p (bs ++ d ∷ []) ≡ true = rw (list_all-append p bs (d ∷ []), h.1, one) refl in
    (h.0, all, λ _. h.2 l, λ z. absurd (omega arith))

digit_code : (x : ℕ) → x < 10 → is_digit (48 + x) ≡ true
digit_code x l = agree_below_at (λ z. is_digit (48 + z)) (λ z. true) 10 x refl l

hex_code : (x : ℕ) → x < 16 → is_hex_digit (hex_digit x) ≡ true
hex_code x l = agree_below_at (λ z. is_hex_digit (hex_digit z)) (λ z. true) 16 x refl l

hex_first : (x : ℕ) → x < 16 → 1 ≤ x → hex_digit x ≡ 48 → ⊥
hex_first x l k e = elim (cases_lt x 10) [
  | inl s ↦ (let t = small x s in omega (arith, t, e))
  | inr s ↦ (let t = large x s in omega (arith, t, e))
]
  where
    small : (y : ℕ) → y < 10 → hex_digit y ≡ 48 + y
    small y h = grind arith

    large : (y : ℕ) → 10 ≤ y → hex_digit y ≡ 87 + y
    large y h = grind arith

shows_decimal : (n : ℕ) → n < 2 ^ 64 → Shows is_digit n (decimal n)
shows_decimal n h =
    decimal_by_steps (λ m ds. Shows is_digit m ds) (λ m l. (digit_code m l, refl, λ k e. absurd (omega arith), λ _. refl))
    (λ m ds l s. shows_more is_digit (m / 10) m (48 + m % 10) ds (omega arith) (omega arith) (digit_code (m % 10) (omega arith)) s) n h

shows_small : (n x : ℕ) → x < 16 → Shows is_hex_digit x (hex_upto (suc n) x)
shows_small n x s = subst (Shows is_hex_digit x) (sym (hex_small n x s)) (hex_code x s, refl, λ k e. hex_first x s k e, λ _. refl)

shows_large : (n x : ℕ) → 16 ≤ x → Shows is_hex_digit (x / 16) (hex_upto n (x / 16)) → Shows is_hex_digit x (hex_upto (suc n) x)
shows_large n x s h =
    subst (Shows is_hex_digit x) (sym (hex_large n x s))
    (shows_more is_hex_digit (x / 16) x (hex_digit (x % 16)) (hex_upto n (x / 16)) (omega arith) (omega arith) (hex_code (x % 16) (omega arith)) h)

shows_hex : (n x : ℕ) → x < 16 ^ suc n → Shows is_hex_digit x (hex_upto (suc n) x)
shows_hex zero x l = shows_small zero x (omega arith)
shows_hex (suc n) x l =
    let p : 16 ^ suc (suc n) ≡ 16 ^ suc n * 16 = pow-suc 16 (suc n) in
    let k : x / 16 < 16 ^ suc n = omega arith in
    elim (cases_lt x 16) [ inl s ↦ shows_small (suc n) x s | inr s ↦ shows_large (suc n) x s (shows_hex n (x / 16) k) ]

-- a number is printed as one
pub decimal_is_number : (n : ℕ) → n < 2 ^ 64 → IsNumber (decimal n)
decimal_is_number n h = shows_digits is_digit n (decimal n) (shows_decimal n h)

pub hex_are_digits : (n x : ℕ) → x < 16 ^ suc n → AreDigits is_hex_digit (hex_upto (suc n) x)
hex_are_digits n x h = shows_digits is_hex_digit x (hex_upto (suc n) x) (shows_hex n x h)
