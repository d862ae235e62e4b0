-- Hexadecimal digits and their numbers.
use Rattle.std.proofs.Common.{◌≡◌, ℕ, zero, suc, ◌+◌, ◌-◌, ◌*◌, ◌/◌, ◌%◌, ◌<◌, ◌≤◌, ◌^◌, List, [], ◌∷◌, ◌++◌, length, take, drop, get_or, true, false, nat_lt, refl, ap, sym, ◌∙◌, subst, arith, inl, inr, Option, Some, None}
use Rattle.std.specs.Prelude.{MatchOption}
use Rattle.std.proofs.lemmas.Bool.{cases_lt, lt-ltb, le-ltb}
use Rattle.std.proofs.lemmas.List.{length-append, take_all}
use Rattle.std.proofs.Math.Nat.{pow-suc, pow-le-pow_right}
use Rattle.ix_verilog.specs.Words.{Word}
use Rattle.ix_verilog.specs.Lines.{hex, hex_upto, hex_digit, is_hex_digit, AreDigits}
use Rattle.ix_verilog.proofs.Digits.{hex_are_digits}
use Rattle.ix_verilog.proofs.HexLemmas.{hex_small, hex_large}
use Rattle.ix_vnets.specs.Numbers.{HasDigits, IsHexOf}

-- lists that end alike
snoc : (xs ys : List ℕ) (a b : ℕ) → xs ++ a ∷ [] ≡ ys ++ b ∷ [] → (xs ≡ ys) × (a ≡ b)
snoc [] [] a b e = (refl, (let k : a ≡ b = cc in k))
snoc [] (y ∷ []) a b e = absurd (short e)
  where
    short : a ∷ [] ≡ y ∷ b ∷ [] → ⊥
    short f = cc
snoc [] (y ∷ z ∷ ys) a b e = absurd (short e)
  where
    short : a ∷ [] ≡ y ∷ z ∷ (ys ++ b ∷ []) → ⊥
    short f = cc
snoc (x ∷ []) [] a b e = absurd (short e)
  where
    short : x ∷ a ∷ [] ≡ b ∷ [] → ⊥
    short f = cc
snoc (x ∷ z ∷ xs) [] a b e = absurd (short e)
  where
    short : x ∷ z ∷ (xs ++ a ∷ []) ≡ b ∷ [] → ⊥
    short f = cc
snoc (x ∷ xs) (y ∷ ys) a b e =
    let h : x ≡ y = cc in
    let t : xs ++ a ∷ [] ≡ ys ++ b ∷ [] = cc in
    let r = snoc xs ys a b t in
    (ap (λ z. z ∷ xs) h ∙ ap (λ z. y ∷ z) r.0, r.1)

low_digit : (x : ℕ) → x < 10 → hex_digit x ≡ 48 + x
low_digit x h = (let t : nat_lt x 10 ≡ true = lt-ltb x 10 h in rw t refl)

high_digit : (x : ℕ) → 10 ≤ x → hex_digit x ≡ 87 + x
high_digit x h = (let t : nat_lt x 10 ≡ false = le-ltb x 10 h in rw t refl)

digit_same : (x y : ℕ) → hex_digit x ≡ hex_digit y → x < 16 → y < 16 → x ≡ y
digit_same x y e h k = elim (cases_lt x 10) [
  | inl a ↦ elim (cases_lt y 10) [
    | inl b ↦ omega (arith, e, low_digit x a, low_digit y b)
    | inr b ↦ omega (arith, e, low_digit x a, high_digit y b)
  ]
  | inr a ↦ elim (cases_lt y 10) [
    | inl b ↦ omega (arith, e, high_digit x a, low_digit y b)
    | inr b ↦ omega (arith, e, high_digit x a, high_digit y b)
  ]
]

some_digit : (n x : ℕ) → x < 16 ^ suc n → hex_upto (suc n) x ≡ [] → ⊥
some_digit n x h e = subst (AreDigits is_hex_digit) e (hex_are_digits n x h)

-- the digits of a number of one digit
one_digit : (n x : ℕ) (b : ℕ) (front : Word) → x < 16 → hex_upto (suc n) x ≡ front ++ b ∷ [] → (front ≡ []) × (hex_digit x ≡ b)
one_digit n x b front h e = (let s = snoc [] front (hex_digit x) b (sym (hex_small n x h) ∙ e) in (sym s.0, s.1))

-- those of a number of more
record HasFront (n x : ℕ) (front : Word) (b : ℕ) : Type 0 where
  pub fuel : ℕ
  pub more : n ≡ suc fuel
  pub small : x / 16 < 16 ^ suc fuel
  pub front_is : hex_upto (suc fuel) (x / 16) ≡ front
  pub last_is : hex_digit (x % 16) ≡ b

more_digits : (n x : ℕ) (b : ℕ) (front : Word) → 16 ≤ x → x < 16 ^ suc n → hex_upto (suc n) x ≡ front ++ b ∷ [] → HasFront n x front b
more_digits zero x b front h l e = absurd (omega arith)
more_digits (suc n) x b front h l e =
    let p : 16 ^ suc (suc n) ≡ 16 ^ suc n * 16 = pow-suc 16 (suc n) in
    let k : x / 16 < 16 ^ suc n = omega arith in
    let s = snoc (hex_upto (suc n) (x / 16)) front (hex_digit (x % 16)) b (sym (hex_large (suc n) x h) ∙ e) in
    record { fuel = n; more = refl; small = k; front_is = s.0; last_is = s.1 }

-- a number of one digit and one of more
mixed : (n x y : ℕ) → x < 16 → 16 ≤ y → y < 16 ^ suc n → hex_upto (suc n) x ≡ hex_upto (suc n) y → ⊥
mixed n x y h k l e =
    let f : hex_upto (suc n) y ≡ [] ++ hex_digit x ∷ [] = sym e ∙ hex_small n x h in
    let r = more_digits n y (hex_digit x) [] k l f in
    some_digit r.fuel (y / 16) r.small r.front_is

-- no two numbers have the same digits
pub hex_same : (n x y : ℕ) → x < 16 ^ suc n → y < 16 ^ suc n → hex_upto (suc n) x ≡ hex_upto (suc n) y → x ≡ y
hex_same zero x y h k e = digit_same x y (one_digit 0 x (hex_digit y) [] (omega arith) (e ∙ hex_small 0 y (omega arith))).1 (omega arith) (omega arith)
hex_same (suc n) x y h k e =
    let p : 16 ^ suc (suc n) ≡ 16 ^ suc n * 16 = pow-suc 16 (suc n) in
    elim (cases_lt x 16) [
      | inl a ↦ elim (cases_lt y 16) [
        | inl b ↦ digit_same x y (one_digit (suc n) x (hex_digit y) [] a (e ∙ hex_small (suc n) y b)).1 a b
        | inr b ↦ absurd (mixed (suc n) x y a b k e)
      ]
      | inr a ↦ elim (cases_lt y 16) [
        | inl b ↦ absurd (mixed (suc n) y x b a h (sym e))
        | inr b ↦ (let f : hex_upto (suc n) (x / 16) ++ hex_digit (x % 16) ∷ [] ≡ hex_upto (suc n) (y / 16) ++ hex_digit (y % 16) ∷ [] = sym (hex_large (suc n) x a) ∙ e ∙ hex_large (suc n) y b in
            let s = snoc (hex_upto (suc n) (x / 16)) (hex_upto (suc n) (y / 16)) (hex_digit (x % 16)) (hex_digit (y % 16)) f in
            let q : x / 16 ≡ y / 16 = hex_same n (x / 16) (y / 16) (omega arith) (omega arith) s.0 in
            let r : x % 16 ≡ y % 16 = digit_same (x % 16) (y % 16) s.1 (omega arith) (omega arith) in
            omega (arith, q, r))
      ]
    ]

-- 0 has the one digit `0`, and no number of more digits has it in front
no_zero : (n x y : ℕ) → x < 16 ^ suc n → y ≡ 0 → 1 ≤ x → hex_upto (suc n) x ≡ hex_upto (suc n) y → ⊥
no_zero n x y h z l e =
    let f : hex_upto (suc n) x ≡ [] ++ hex_digit y ∷ [] = e ∙ hex_small n y (omega (arith, z)) in
    elim (cases_lt x 16) [
      | inl a ↦ (let q : x ≡ y = digit_same x y (one_digit n x (hex_digit y) [] a f).1 a (omega (arith, z)) in omega (arith, q, z, l))
      | inr a ↦ (let r = more_digits n x (hex_digit y) [] a h f in some_digit r.fuel (x / 16) r.small r.front_is)
    ]

-- ---- for the code
pub no_digits : (x : ℕ) → IsHexOf x [] → ⊥
no_digits x h = some_digit h.0 x h.1 h.2

pub no_last : (b : ℕ) (front digits : Word) → digits ≡ front ++ b ∷ [] → ((y : ℕ) → y < 16 → hex_digit y ≡ b → ⊥) → (x : ℕ) → IsHexOf x digits → ⊥
no_last b front digits d never x h = elim (cases_lt x 16) [
  | inl a ↦ never x a (one_digit h.0 x b front a (h.2 ∙ d)).1
  | inr a ↦ never (x % 16) (omega arith) (more_digits h.0 x b front a h.1 (h.2 ∙ d)).last_is
]

pub one_number : (d b : ℕ) (digits : Word) → digits ≡ b ∷ [] → d < 16 → hex_digit d ≡ b → HasDigits d digits × (d < 16 ^ length digits)
one_number d b digits e l f =
    let same : 16 ^ length digits ≡ 16 ^ 1 = ap (λ z. 16 ^ length z) e in
    ((λ n h. hex_small n d l ∙ ap (λ z. z ∷ []) f ∙ sym e), omega (arith, same, l))

pub no_front : (b : ℕ) (front digits : Word) → digits ≡ front ++ b ∷ [] → 1 ≤ length front → ((y : ℕ) → IsHexOf y front → ⊥) → (x : ℕ) → IsHexOf x digits → ⊥
no_front b front digits d some never x h = elim (cases_lt x 16) [
  | inl a ↦ (let f = ap length (one_digit h.0 x b front a (h.2 ∙ d)).0 in omega (arith, f, some))
  | inr a ↦ (let r = more_digits h.0 x b front a h.1 (h.2 ∙ d) in never (x / 16) (r.fuel, r.small, r.front_is))
]

pub no_leading : (b y : ℕ) (front digits : Word) → digits ≡ front ++ b ∷ [] → 1 ≤ length front → HasDigits y front → y ≡ 0 → (x : ℕ) → IsHexOf x digits → ⊥
no_leading b y front digits d some has z x h = elim (cases_lt x 16) [
  | inl a ↦ (let f = ap length (one_digit h.0 x b front a (h.2 ∙ d)).0 in omega (arith, f, some))
  | inr a ↦ (let r = more_digits h.0 x b front a h.1 (h.2 ∙ d) in
      let s : y < 16 ^ suc r.fuel = omega (arith, z, r.small) in
      no_zero r.fuel (x / 16) y r.small z (omega (arith, a)) (r.front_is ∙ sym (has r.fuel s)))
]

pub more_number : (b y d v : ℕ) (front digits : Word) → digits ≡ front ++ b ∷ [] → length digits ≡ suc (length front) → HasDigits y front → y < 16 ^ length front → d < 16 → hex_digit d ≡ b → 1 ≤ y → v ≡ y * 16 + d
    → HasDigits v digits × (v < 16 ^ length digits)
more_number b y d v front digits e size has small l f some is =
    let p : 16 ^ suc (length front) ≡ 16 ^ length front * 16 = pow-suc 16 (length front) in
    let q : 16 ^ length digits ≡ 16 ^ suc (length front) = ap (λ z. 16 ^ z) size in
    ((λ n h. go n h), omega (arith, p, q, is, small, l))
  where
    high : v / 16 ≡ y
    high = omega (arith, is, l)

    low : v % 16 ≡ d
    low = omega (arith, is, l)

    go : (n : ℕ) → v < 16 ^ suc n → hex_upto (suc n) v ≡ digits
    go zero h = absurd (omega (arith, is, some, h))
    go (suc n) h =
        let r : 16 ^ suc (suc n) ≡ 16 ^ suc n * 16 = pow-suc 16 (suc n) in
        let s : y < 16 ^ suc n = omega (arith, r, is, h) in
        hex_large (suc n) v (omega (arith, is, some)) ∙ ap (λ z. hex_upto (suc n) z ++ hex_digit (v % 16) ∷ []) high
        ∙ ap (λ z. z ++ hex_digit (v % 16) ∷ []) (has n s) ∙ ap (λ z. front ++ z ∷ []) (ap hex_digit low ∙ f) ∙ sym e

pub below_high : (n y : ℕ) → n ≤ 31 → y < 16 ^ n → y < 16 ^ 31
below_high n y l h =
    let some : 0 < 16 = omega arith in
    let p : 16 ^ n ≤ 16 ^ 31 = pow-le-pow_right {n = 16} some l in
    omega (arith, p, h)

-- ---- lists by their first or last element
pub last_of : (xs : List ℕ) → 1 ≤ length xs → xs ≡ take (length xs - 1) xs ++ get_or xs (length xs - 1) 0 ∷ []
last_of [] h = absurd (omega (arith, h))
last_of (x ∷ []) h = refl
last_of (x ∷ y ∷ xs) h = (let e : suc (suc (length xs)) - 1 ≡ suc (suc (length xs) - 1) = omega arith in rw e (ap (λ z. x ∷ z) (last_of (y ∷ xs) (omega arith))))

pub only_of : (xs : List ℕ) → 1 ≤ length xs → length xs < 2 → xs ≡ get_or xs 0 0 ∷ []
only_of [] h l = absurd (omega (arith, h))
only_of (x ∷ []) h l = refl
only_of (x ∷ y ∷ xs) h l = absurd (omega (arith, l))

pub none_of : (xs : List ℕ) → length xs < 1 → xs ≡ []
none_of [] h = refl
none_of (x ∷ xs) h = absurd (omega (arith, h))

pub rest_of : (xs : List ℕ) → 2 ≤ length xs → xs ≡ get_or xs 0 0 ∷ get_or xs 1 0 ∷ take (length xs - 2) (drop 2 xs)
rest_of [] h = absurd (omega (arith, h))
rest_of (x ∷ []) h = absurd (omega (arith, h))
rest_of (x ∷ y ∷ xs) h = (let e : suc (suc (length xs)) - 2 ≡ length xs = omega arith in rw e (ap (λ z. x ∷ y ∷ z) (sym (take_all (length xs) xs (omega arith)))))

-- a number has at most so many digits
pub hex_length : (n x : ℕ) → length (hex_upto n x) ≤ n
unfolding hex_upto
hex_length zero x = omega arith
hex_length (suc n) x = elim (cases_lt x 16) [
  | inl a ↦ (let e : nat_lt x 16 ≡ true = lt-ltb x 16 a in rw e (omega arith))
  | inr a ↦ (let e : nat_lt x 16 ≡ false = le-ltb x 16 a in
      let k = hex_length n (x / 16) in
      let f : length (hex_upto n (x / 16) ++ hex_digit (x % 16) ∷ []) ≡ length (hex_upto n (x / 16)) + 1 = length-append (hex_upto n (x / 16)) (hex_digit (x % 16) ∷ []) in
      rw e (omega (arith, k, f)))
]

-- what is behind the base
pub no_based : (word : Word) → length word < 2 → (x : ℕ) → 39 ∷ 104 ∷ hex x ≡ word → ⊥
no_based word h x e = (let f = ap length e in omega (arith, f, h))

pub based_parts : (word : Word) → 2 ≤ length word → (x : ℕ) → 39 ∷ 104 ∷ hex x ≡ word → (39 ≡ get_or word 0 0) × (104 ≡ get_or word 1 0) × (hex x ≡ take (length word - 2) (drop 2 word))
based_parts word h x e =
    let f : 39 ∷ 104 ∷ hex x ≡ get_or word 0 0 ∷ get_or word 1 0 ∷ take (length word - 2) (drop 2 word) = e ∙ rest_of word h in
    parts 39 104 (hex x) (get_or word 0 0) (get_or word 1 0) (take (length word - 2) (drop 2 word)) f
  where
    parts : (a b : ℕ) (x : Word) (c d : ℕ) (y : Word) → a ∷ b ∷ x ≡ c ∷ d ∷ y → (a ≡ c) × (b ≡ d) × (x ≡ y)
    parts a b x c d y e = (cc, cc, cc)

pub based_answer : (word rest : Word) (o : Option ℕ) → 2 ≤ length word → rest ≡ take (length word - 2) (drop 2 word) → length rest ≤ 32 → get_or word 0 0 ≡ 39 → get_or word 1 0 ≡ 104
    → MatchOption o ((x : ℕ) → IsHexOf x rest → ⊥) (λ x. HasDigits x rest × (x < 16 ^ length rest))
    → MatchOption o ((x : ℕ) → x < 2 ^ 128 → 39 ∷ 104 ∷ hex x ≡ word → ⊥) (λ x. 39 ∷ 104 ∷ hex x ≡ word)
based_answer word rest None l e s a b m = λ x h f. m x (31, omega (arith, h), (based_parts word l x f).2 ∙ sym e)
based_answer word rest (Some x) l e s a b m =
    let some : 0 < 16 = omega arith in
    let p : 16 ^ length rest ≤ 16 ^ 32 = pow-le-pow_right {n = 16} some s in
    let k : hex x ≡ rest = m.0 31 (omega (arith, p, m.1)) in
    ap (λ z. 39 ∷ 104 ∷ z) (k ∙ e) ∙ ap (λ z. z ∷ 104 ∷ take (length word - 2) (drop 2 word)) (sym a) ∙ ap (λ z. get_or word 0 0 ∷ z ∷ take (length word - 2) (drop 2 word)) (sym b) ∙ sym (rest_of word l)

pub joined_answer : (digits front : Word) (b y d : ℕ) (o : Option ℕ) → digits ≡ front ++ b ∷ [] → 1 ≤ length front → HasDigits y front → y < 16 ^ length front → d < 16 → hex_digit d ≡ b
    → MatchOption o (y ≡ 0) (λ x. (1 ≤ y) × (x ≡ y * 16 + d))
    → MatchOption o ((x : ℕ) → IsHexOf x digits → ⊥) (λ x. HasDigits x digits × (x < 16 ^ length digits))
joined_answer digits front b y d None e s has l k f m = no_leading b y front digits e s has m
joined_answer digits front b y d (Some v) e s has l k f m =
    let size : length digits ≡ suc (length front) = ap length e ∙ length-append front (b ∷ []) ∙ omega arith in
    more_number b y d v front digits e size has l k f m.0 m.1

pub is_hex_none : (digits : Word) → length digits < 1 → (x : ℕ) → IsHexOf x digits → ⊥
is_hex_none [] h x k = no_digits x k
is_hex_none (b ∷ digits) h x k = absurd (omega (arith, h))
