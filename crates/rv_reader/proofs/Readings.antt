-- Readings of words, and what they read.
use Rattle.std.proofs.Common.{◌≡◌, ◌≢◌, ℕ, zero, suc, ◌+◌, ◌-◌, ◌*◌, ◌/◌, ◌%◌, ◌<◌, ◌≤◌, ◌^◌, ◌==◌, ◌⊎◌, inl, inr, List, [], ◌∷◌, ◌++◌, length, take, drop, get_or, refl, sym, ap, ◌∙◌, subst, arith, Option, Some, None, Bool, true, false, Bor, append_assoc}
use Rattle.std.specs.Prelude.{MatchOption, decimal, if◌then◌else◌, ◌&&◌, nat_le, nat_lt}
use Rattle.std.specs.Str.{bytes_eq}
use Rattle.std.specs.Str.Parse.{digits_value}
use Rattle.std.proofs.lemmas.Bool.{cases_Bool, and_parts, eqb-true, eq-eqb, lt-ltb, le-ltb, agree_below, agree_below_at}
use Rattle.std.proofs.lemmas.Bool.Decides.{nat_tests}
use Rattle.std.proofs.lemmas.Slice.Eq.{bytes_eq-Decides}
use Rattle.std.proofs.lemmas.List.{take_all, length-drop, take-append-drop, drop_more, at_drop_more, append-nil}
use Rattle.std.proofs.Math.Nat.{pow-suc, pow-le-pow_right}
use Rattle.std.proofs.Math.ListN.{drop_of_length-le}
use Rattle.ix_io.specs.Out.{hex_digit, hex_digits}
use Rattle.ix_io.proofs.Digits.{length-hex_digits}
use Rattle.ix_lines.specs.Readings.{IsReading}
use Rattle.ix_lines.proofs.Fronts.{take_next}
use Rattle.ix_lines.proofs.Numerals.{value_decimal}
use Rattle.rv_reader.specs.Words.{Free, and_then, or_else, until, from, behind_in, number_in, digit_in, hex_from, digits_in}

-- ---- one reading behind another
pub option_cases : {X : Type 0} (o : Option X) → (o ≡ None) ⊎ ((x : X) × (o ≡ Some x))
option_cases None = inl refl
option_cases (Some x) = inr (x, refl)

pub taken : {X Y : Type 0} (o : Option X) (f : X → Option Y) (y : Y) → and_then o f ≡ Some y → (x : X) × (o ≡ Some x) × (f x ≡ Some y)
taken None f y e = absurd cc
taken (Some x) f y e = (x, refl, e)

pub either : {X : Type 0} (o p : Option X) (x : X) → or_else o p ≡ Some x → (o ≡ Some x) ⊎ (p ≡ Some x)
either None p x e = inr e
either (Some y) p x e = inl e

pub some_one : {X : Type 0} (x y : X) → Some x ≡ Some y → x ≡ y
some_one x y e = cc

pub passed : {X : Type 0} (b : Bool) (o : Option X) (x : X) → (if b then o else None) ≡ Some x → (b ≡ true) × (o ≡ Some x)
passed true o x e = (refl, e)
passed false o x e = absurd cc

-- ---- parts of a text
pub free_push : (by : ℕ) (xs : List ℕ) (b : ℕ) → Free by xs → (b == by) ≡ false → Free by (xs ++ b ∷ [])
free_push by [] b f e = (e, tt)
free_push by (x ∷ xs) b f e = (f.0, free_push by xs b f.1 e)

pub until_whole : (by : ℕ) (w : List ℕ) → Free by w → until by w ≡ w
unfolding until
until_whole by [] f = refl
until_whole by (b ∷ w) f = rw f.0 (ap (λ t. b ∷ t) (until_whole by w f.1))

pub from_whole : (by : ℕ) (w : List ℕ) → Free by w → from by w ≡ []
unfolding from
from_whole by [] f = refl
from_whole by (b ∷ w) f = rw f.0 (from_whole by w f.1)

pub until_at : (by : ℕ) (w rest : List ℕ) → Free by w → until by (w ++ by ∷ rest) ≡ w
unfolding until
until_at by [] rest f = rw (eq-eqb by by refl) refl
until_at by (b ∷ w) rest f = rw f.0 (ap (λ t. b ∷ t) (until_at by w rest f.1))

pub from_at : (by : ℕ) (w rest : List ℕ) → Free by w → from by (w ++ by ∷ rest) ≡ by ∷ rest
unfolding from
from_at by [] rest f = rw (eq-eqb by by refl) refl
from_at by (b ∷ w) rest f = rw f.0 (from_at by w rest f.1)

pub free_until : (by : ℕ) (w : List ℕ) → Free by (until by w)
unfolding until
free_until by [] = tt
free_until by (b ∷ w) = elim (cases_Bool (b == by)) [
  | inl here ↦ rw here tt
  | inr other ↦ rw other (other, free_until by w)
]

pub until_from : (by : ℕ) (w : List ℕ) → until by w ++ from by w ≡ w
unfolding until from
until_from by [] = refl
until_from by (b ∷ w) = elim (cases_Bool (b == by)) [
  | inl here ↦ rw here refl
  | inr other ↦ rw other (ap (λ t. b ∷ t) (until_from by w))
]

-- the rest is empty or begins with the byte
abbrev pub BeginsWith : ℕ → List ℕ → Type 0
BeginsWith by [] = Unit {0}
BeginsWith by (b ∷ rest) = b ≡ by

pub from_begins : (by : ℕ) (w : List ℕ) → BeginsWith by (from by w)
unfolding from
from_begins by [] = tt
from_begins by (b ∷ w) = elim (cases_Bool (b == by)) [
  | inl here ↦ rw here (eqb-true b by here)
  | inr other ↦ rw other (from_begins by w)
]

pub other_number : (a b : ℕ) → a ≢ b → (a == b) ≡ false
other_number a b n = elim (cases_Bool (a == b)) [
  | inl here ↦ absurd (n (eqb-true a b here))
  | inr other ↦ other
]

pub free_more : (by : ℕ) (text : List ℕ) (k d : ℕ) → k < length text → Free by (take k text) → get_or text k d ≢ by → Free by (take (k + 1) text)
free_more by text k d l f n =
    let e = other_number (get_or text k d) by n in
    let j : k + 1 ≡ suc k = omega arith in
    subst (λ n. Free by (take n text)) (sym j) (subst (λ t. Free by t) (sym (take_next text k d l)) (free_push by (take k text) (get_or text k d) f e))

pub rest_whole : (text : List ℕ) (k : ℕ) → take (length text - k) (drop k text) ≡ drop k text
rest_whole text k = take_all (length text - k) (drop k text) (omega (arith, length-drop k text))

pub split_found : (by : ℕ) (text : List ℕ) (k d : ℕ) → k < length text → Free by (take k text) → get_or text k d ≡ by → (take k text ≡ until by text) × (take (length text - k) (drop k text) ≡ from by text)
split_found by text k d l f e =
    let rest : drop k text ≡ by ∷ drop (k + 1) text = drop_more text k d l ∙ ap (λ b. b ∷ drop (k + 1) text) e in
    let whole : take k text ++ by ∷ drop (k + 1) text ≡ text = ap (λ t. take k text ++ t) (sym rest) ∙ take-append-drop k text in
    (sym (until_at by (take k text) (drop (k + 1) text) f) ∙ ap (until by) whole, rest_whole text k ∙ rest ∙ sym (from_at by (take k text) (drop (k + 1) text) f) ∙ ap (from by) whole)

pub split_end : (by : ℕ) (text : List ℕ) (k : ℕ) → length text ≤ k → Free by (take k text) → (text ≡ until by text) × (take (length text - length text) (drop (length text) text) ≡ from by text)
split_end by text k l f =
    let free : Free by text = subst (λ t. Free by t) (take_all k text l) f in
    (sym (until_whole by text free), rest_whole text (length text) ∙ drop_of_length-le text (omega arith) ∙ sym (from_whole by text free))

pub behind_back : (front rest : List ℕ) → behind_in front (front ++ rest) ≡ Some rest
unfolding behind_in
behind_back [] rest = refl
behind_back (f ∷ front) rest = rw (eq-eqb f f refl) (behind_back front rest)

pub behind_sound : (front text rest : List ℕ) → behind_in front text ≡ Some rest → text ≡ front ++ rest
unfolding behind_in
behind_sound [] text rest e = cc
behind_sound (f ∷ front) [] rest e = absurd cc
behind_sound (f ∷ front) (b ∷ text) rest e =
    let p = passed (f == b) (behind_in front text) rest e in
    let same = eqb-true f b p.0 in
    let more = behind_sound front text rest p.1 in
    cc

pub behind_told : (front text : List ℕ) (found : Option (Bor (List ℕ))) → MatchOption found ((rest : List ℕ) → text ≢ front ++ rest) (λ rest. text ≡ front ++ rest.now)
    → MatchOption found (behind_in front text ≡ None) (λ rest. behind_in front text ≡ Some rest.now)
behind_told front text None h = elim (option_cases (behind_in front text)) [
  | inl e ↦ e
  | inr p ↦ absurd (h p.0 (behind_sound front text p.0 p.1))
]
behind_told front text (Some rest) h = ap (λ t. behind_in front t) h ∙ behind_back front rest.now

-- ---- numbers
pub same_bytes : (xs ys : List ℕ) → bytes_eq xs ys ≡ true → xs ≡ ys
same_bytes xs ys e = (bytes_eq-Decides xs ys).0 e

pub bytes_same : (xs ys : List ℕ) → xs ≡ ys → bytes_eq xs ys ≡ true
bytes_same xs ys e = (bytes_eq-Decides xs ys).1 e

pub other_bytes : (xs ys : List ℕ) → (xs ≡ ys → ⊥) → bytes_eq xs ys ≡ false
other_bytes xs ys n = elim (cases_Bool (bytes_eq xs ys)) [
  | inl here ↦ absurd (n (same_bytes xs ys here))
  | inr other ↦ other
]

at_most : (n most : ℕ) → nat_le n most ≡ true → n ≤ most
at_most n most e = grind (arith, nat_tests)

most_at : (n most : ℕ) → n ≤ most → nat_le n most ≡ true
most_at n most e = grind (arith, nat_tests)

pub number_sound : (most : ℕ) (word : List ℕ) (n : ℕ) → number_in most word ≡ Some n → (n ≤ most) × (decimal n ≡ word)
unfolding number_in
number_sound most word n e =
    let p = passed (bytes_eq (decimal (digits_value 10 word)) word && nat_le (digits_value 10 word) most) (Some (digits_value 10 word)) n e in
    let q = and_parts (bytes_eq (decimal (digits_value 10 word)) word) (nat_le (digits_value 10 word) most) p.0 in
    let same : digits_value 10 word ≡ n = some_one (digits_value 10 word) n p.1 in
    (subst (λ k. k ≤ most) same (at_most (digits_value 10 word) most q.1), subst (λ k. decimal k ≡ word) same (same_bytes (decimal (digits_value 10 word)) word q.0))

pub number_back : (most n : ℕ) → n ≤ most → most < 2 ^ 64 → number_in most (decimal n) ≡ Some n
unfolding number_in
number_back most n h w = rw (value_decimal n most h w, bytes_same (decimal n) (decimal n) refl, most_at n most h) refl

pub number_told : (most : ℕ) (word : List ℕ) (found : Option ℕ) → most < 2 ^ 64 → IsReading (λ n. n ≤ most) decimal word found → found ≡ number_in most word
number_told most word None w r = elim (option_cases (number_in most word)) [
  | inl e ↦ sym e
  | inr p ↦ absurd (let s = number_sound most word p.0 p.1 in r p.0 s.0 s.1)
]
number_told most word (Some n) w r = sym (ap (λ t. number_in most t) (sym r.1) ∙ number_back most n r.0 w)

-- ---- hexadecimal digits
pub digit_small : (b d : ℕ) → digit_in b ≡ Some d → d < 16
digit_small b d e = elim (cases_Bool (nat_le 48 b && nat_le b 57)) [
  | inl here ↦ (
      let p = and_parts (nat_le 48 b) (nat_le b 57) here in
      let q : Some (b - 48) ≡ Some d = sym (first b here) ∙ e in
      omega (arith, some_one (b - 48) d q, at_most b 57 p.1)
      )
  | inr other ↦ elim (cases_Bool (nat_le 97 b && nat_le b 102)) [
    | inl here ↦ (
        let p = and_parts (nat_le 97 b) (nat_le b 102) here in
        let q : Some (b - 87) ≡ Some d = sym (second b other here) ∙ e in
        omega (arith, some_one (b - 87) d q, at_most b 102 p.1)
        )
    | inr none ↦ absurd (let q : None ≡ Some d = sym (third b other none) ∙ e in (let f : ⊥ = cc in f))
  ]
]
  where
    first : (b : ℕ) → (nat_le 48 b && nat_le b 57) ≡ true → digit_in b ≡ Some (b - 48)
    first b h = rw h refl

    second : (b : ℕ) → (nat_le 48 b && nat_le b 57) ≡ false → (nat_le 97 b && nat_le b 102) ≡ true → digit_in b ≡ Some (b - 87)
    second b h k = rw (h, k) refl

    third : (b : ℕ) → (nat_le 48 b && nat_le b 57) ≡ false → (nat_le 97 b && nat_le b 102) ≡ false → digit_in b ≡ None
    third b h k = rw (h, k) refl

pub hex_next : (word : List ℕ) (i d value digit : ℕ) → i < length word → digit_in (get_or word i d) ≡ Some digit → hex_from 0 word ≡ hex_from value (drop i word) → hex_from 0 word ≡ hex_from (value * 16 + digit) (drop (i + 1) word)
unfolding hex_from
hex_next word i d value digit l e h = h ∙ at_drop_more (λ t. hex_from value t) word i d l ∙ ap (λ o. and_then o (λ x. hex_from (value * 16 + x) (drop (i + 1) word))) e

pub hex_none : (word : List ℕ) (i d value : ℕ) → i < length word → digit_in (get_or word i d) ≡ None → hex_from 0 word ≡ hex_from value (drop i word) → hex_from 0 word ≡ None
unfolding hex_from
hex_none word i d value l e h = h ∙ at_drop_more (λ t. hex_from value t) word i d l ∙ ap (λ o. and_then o (λ x. hex_from (value * 16 + x) (drop (i + 1) word))) e

pub hex_end : (word : List ℕ) (i value : ℕ) → length word ≤ i → hex_from 0 word ≡ hex_from value (drop i word) → hex_from 0 word ≡ Some value
unfolding hex_from
hex_end word i value l h = h ∙ ap (λ t. hex_from value t) (drop_of_length-le word l)

pub power_next : (i value digit : ℕ) → value < 16 ^ i → digit < 16 → value * 16 + digit < 16 ^ (i + 1)
power_next i value digit h d =
    let j : i + 1 ≡ suc i = omega arith in
    let p : 16 ^ (i + 1) ≡ 16 ^ i * 16 = ap (λ n. 16 ^ n) j ∙ pow-suc 16 i in
    omega (arith, p, h, d)

pub power_fits : (i n value digit : ℕ) → value < 16 ^ i → digit < 16 → i < n → n ≤ 32 → value * 16 + digit < 2 ^ 128
power_fits i n value digit h d l m =
    let a = power_next i value digit h d in
    let b : 16 ^ (i + 1) ≤ 16 ^ 32 = (let k : i + 1 ≤ 32 = omega (arith, l, m) in pow-le-pow_right (omega arith) k) in
    let c : 16 ^ 32 ≡ 2 ^ 128 = refl in
    omega (arith, a, b, c)

hex_small : (value : ℕ) (word : List ℕ) (i x : ℕ) → value < 16 ^ i → hex_from value word ≡ Some x → x < 16 ^ (i + length word)
unfolding hex_from
hex_small value [] i x h e =
    let s = some_one value x e in
    let j : i + 0 ≡ i = omega arith in
    subst (λ n. x < 16 ^ n) (sym j) (subst (λ v. v < 16 ^ i) s h)
hex_small value (b ∷ word) i x h e =
    let t = taken (digit_in b) (λ d. hex_from (value * 16 + d) word) x e in
    let more = hex_small (value * 16 + t.0) word (i + 1) x (power_next i value t.0 h (digit_small b t.0 t.1)) t.2 in
    let j : i + 1 + length word ≡ i + suc (length word) = omega arith in
    subst (λ n. x < 16 ^ n) j more

pub digits_small : (n : ℕ) (word : List ℕ) (x : ℕ) → digits_in n word ≡ Some x → x < 16 ^ n
digits_small n word x e =
    let p = passed (length word == n) (hex_from 0 word) x e in
    let s = hex_small 0 word 0 x (omega arith) p.1 in
    let j : 0 + length word ≡ n = omega (arith, eqb-true (length word) n p.0) in
    subst (λ k. x < 16 ^ k) j s

-- ---- what digits read
pub digit_sound : (b d : ℕ) → digit_in b ≡ Some d → hex_digit d ≡ b
digit_sound b d e = elim (cases_Bool (nat_le 48 b && nat_le b 57)) [
  | inl here ↦ (
      let p = and_parts (nat_le 48 b) (nat_le b 57) here in
      let q : Some (b - 48) ≡ Some d = sym (first b here) ∙ e in
      let s = some_one (b - 48) d q in
      let low = at_most 48 b p.0 in
      let high = at_most b 57 p.1 in
      low_digit d (omega (arith, s, low, high)) ∙ omega (arith, s, low, high)
      )
  | inr other ↦ elim (cases_Bool (nat_le 97 b && nat_le b 102)) [
    | inl here ↦ (
        let p = and_parts (nat_le 97 b) (nat_le b 102) here in
        let q : Some (b - 87) ≡ Some d = sym (second b other here) ∙ e in
        let s = some_one (b - 87) d q in
        let low = at_most 97 b p.0 in
        let high = at_most b 102 p.1 in
        high_digit d (omega (arith, s, low, high)) ∙ omega (arith, s, low, high)
        )
    | inr none ↦ absurd (let q : None ≡ Some d = sym (third b other none) ∙ e in (let f : ⊥ = cc in f))
  ]
]
  where
    first : (b : ℕ) → (nat_le 48 b && nat_le b 57) ≡ true → digit_in b ≡ Some (b - 48)
    first b h = rw h refl

    second : (b : ℕ) → (nat_le 48 b && nat_le b 57) ≡ false → (nat_le 97 b && nat_le b 102) ≡ true → digit_in b ≡ Some (b - 87)
    second b h k = rw (h, k) refl

    third : (b : ℕ) → (nat_le 48 b && nat_le b 57) ≡ false → (nat_le 97 b && nat_le b 102) ≡ false → digit_in b ≡ None
    third b h k = rw (h, k) refl

    low_digit : (x : ℕ) → x < 10 → hex_digit x ≡ 48 + x
    low_digit x h = (let t : nat_lt x 10 ≡ true = lt-ltb x 10 h in rw t refl)

    high_digit : (x : ℕ) → 10 ≤ x → hex_digit x ≡ 87 + x
    high_digit x h = (let t : nat_lt x 10 ≡ false = le-ltb x 10 h in rw t refl)

abbrev same_option : Option ℕ → ℕ → Bool
same_option None d = false
same_option (Some x) d = x == d

digit_table : agree_below (λ d. same_option (digit_in (hex_digit d)) d) (λ d. true) 16 ≡ true
digit_table = refl

pub digit_back : (d : ℕ) → d < 16 → digit_in (hex_digit d) ≡ Some d
digit_back d h = by_option (digit_in (hex_digit d)) d (agree_below_at (λ d. same_option (digit_in (hex_digit d)) d) (λ d. true) 16 d digit_table h) where
  by_option : (o : Option ℕ) (d : ℕ) → same_option o d ≡ true → o ≡ Some d
  by_option None d e = absurd cc
  by_option (Some x) d e = ap (λ n. Some n) (eqb-true x d e)

hex_join : (value x : ℕ) (a b : List ℕ) → hex_from value a ≡ Some x → hex_from value (a ++ b) ≡ hex_from x b
unfolding hex_from
hex_join value x [] b e = ap (λ v. hex_from v b) (some_one value x e)
hex_join value x (c ∷ a) b e =
    let t = taken (digit_in c) (λ d. hex_from (value * 16 + d) a) x e in
    ap (λ o. and_then o (λ d. hex_from (value * 16 + d) (a ++ b))) t.1 ∙ hex_join (value * 16 + t.0) x a b t.2

hex_back : (n v : ℕ) → v < 16 ^ n → hex_from 0 (hex_digits n v) ≡ Some v
unfolding hex_from hex_digits
hex_back zero v h = ap (λ x. Some x) (omega (arith, h))
hex_back (suc n) v h =
    let p : 16 ^ suc n ≡ 16 ^ n * 16 = pow-suc 16 n in
    let front = hex_back n (v / 16) (omega (arith, p, h)) in
    let last = digit_back (v % 16) (omega arith) in
    let whole : v / 16 * 16 + v % 16 ≡ v = omega arith in
    hex_join 0 (v / 16) (hex_digits n (v / 16)) (hex_digit (v % 16) ∷ []) front
    ∙ ap (λ o. and_then o (λ d. Some (v / 16 * 16 + d))) last
    ∙ ap (λ x. Some x) whole

pub digits_back : (n v : ℕ) → v < 16 ^ n → digits_in n (hex_digits n v) ≡ Some v
digits_back n v h = rw (eq-eqb (length (hex_digits n v)) n (length-hex_digits n v)) (hex_back n v h)

hex_sound : (m value x : ℕ) (word : List ℕ) → hex_from value word ≡ Some x → hex_digits (m + length word) x ≡ hex_digits m value ++ word
unfolding hex_from hex_digits
hex_sound m value x [] e =
    let j : m + 0 ≡ m = omega arith in
    ap (λ n. hex_digits n x) j ∙ ap (λ v. hex_digits m v) (sym (some_one value x e)) ∙ sym (append-nil (hex_digits m value))
hex_sound m value x (b ∷ word) e =
    let t = taken (digit_in b) (λ d. hex_from (value * 16 + d) word) x e in
    let small = digit_small b t.0 t.1 in
    let more = hex_sound (suc m) (value * 16 + t.0) x word t.2 in
    let j : m + suc (length word) ≡ suc m + length word = omega arith in
    let front : (value * 16 + t.0) / 16 ≡ value = omega (arith, small) in
    let last : (value * 16 + t.0) % 16 ≡ t.0 = omega (arith, small) in
    ap (λ n. hex_digits n x) j
    ∙ more
    ∙ ap (λ v. (hex_digits m v ++ hex_digit ((value * 16 + t.0) % 16) ∷ []) ++ word) front
    ∙ ap (λ d. (hex_digits m value ++ hex_digit d ∷ []) ++ word) last
    ∙ ap (λ c. (hex_digits m value ++ c ∷ []) ++ word) (digit_sound b t.0 t.1)
    ∙ append_assoc (hex_digits m value) (b ∷ []) word

pub digits_sound : (n : ℕ) (word : List ℕ) (x : ℕ) → digits_in n word ≡ Some x → hex_digits n x ≡ word
unfolding hex_digits
digits_sound n word x e =
    let p = passed (length word == n) (hex_from 0 word) x e in
    let s = hex_sound 0 0 x word p.1 in
    let j : n ≡ 0 + length word = omega (arith, eqb-true (length word) n p.0) in
    ap (λ k. hex_digits k x) j ∙ s
