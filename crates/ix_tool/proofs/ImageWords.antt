-- The words of an image's text are numbers of 32 bits.
use Rattle.std.proofs.Common.{◌≡◌, ℕ, zero, suc, ◌+◌, ◌-◌, ◌*◌, ◌^◌, ◌<◌, ◌≤◌, ◌%◌, ◌/◌, Bool, true, false, ◌&&◌, if◌then◌else◌, ◌==◌, nat_le, nat_eq, List, [], ◌∷◌, length, Option, Some, None, slice_get, refl, sym, subst, arith}
use Rattle.std.specs.Option.{option_and_then}
use Rattle.std.proofs.lemmas.Bool.{and_parts, leb-true}
use Rattle.std.proofs.Math.Nat.{pow-suc}
use Rattle.rv_seq.specs.Steps.{word_at}
use Rattle.rv_asm.specs.declared.image_text.Line.{Line}
use Rattle.rv_asm.specs.declared.image_text.Line.TheVariants.{Skipped, Word, Bad}
use Rattle.rv_asm.specs.ImageText.{IsImageText, hex_value, hex_number, hex_word, is_skipped, word_or_bad, lines_of, line_of, trimmed, with_word, words_in}

same : (m n : ℕ) → ◌≡◌ {A = Option ℕ} (Some m) (Some n) → m ≡ n
same m n e = cc

same_word : (m n : ℕ) → Word m ≡ Word n → m ≡ n
same_word m n e = cc

eq_of : (m n : ℕ) → (m == n) ≡ true → m ≡ n
eq_of m n e = search (Rattle.std.proofs.lemmas.Bool.eqb-true)

-- what is in these bounds lies near the least of them
near : (b least most : ℕ) → (nat_le least b && nat_le b most) ≡ true → b ≤ most
near b least most e = leb-true b most (and_parts _ _ e).1

-- a digit is below 16
digit_in : (b d : ℕ) (t u v : Bool) → (nat_le 48 b && nat_le b 57) ≡ t → (nat_le 65 b && nat_le b 70) ≡ u → (nat_le 97 b && nat_le b 102) ≡ v
    → (if t then Some (b - 48) else if u then Some (b - 55) else if v then Some (b - 87) else None) ≡ Some d → d < 16
digit_in b d true u v p q r e =
    let f : d ≡ b - 48 = sym (same _ _ e) in
    let l = near b 48 57 p in
    omega (arith, f, l)
digit_in b d false true v p q r e =
    let f : d ≡ b - 55 = sym (same _ _ e) in
    let l = near b 65 70 q in
    omega (arith, f, l)
digit_in b d false false true p q r e =
    let f : d ≡ b - 87 = sym (same _ _ e) in
    let l = near b 97 102 r in
    omega (arith, f, l)
digit_in b d false false false p q r e = absurd (cc)

digit_below : (b d : ℕ) → hex_value b ≡ Some d → d < 16
digit_below b d e = digit_in b d (nat_le 48 b && nat_le b 57) (nat_le 65 b && nat_le b 70) (nat_le 97 b && nat_le b 102) refl refl refl e

-- so many digits write a number below that power of 16
grows : (front d p n : ℕ) → d < 16 → n < (16 * front + d + 1) * p → n < (front + 1) * (p * 16)
grows front d p n l h =
    let m : 16 * front + d + 1 ≤ (front + 1) * 16 = omega (arith, l) in
    let q : (16 * front + d + 1) * p ≤ (front + 1) * 16 * p = search (Rattle.std.proofs.Math.Nat.mul-le-mul_right) in
    let r : (front + 1) * 16 * p ≡ (front + 1) * (p * 16) = grind (arith) in
    omega (arith, h, q, r)

step_below : (b : ℕ) (rest : List ℕ) (front n : ℕ) (o : Option ℕ) → ((from : ℕ) → hex_number from rest ≡ Some n → n < (from + 1) * 16 ^ length rest) → hex_value b ≡ o → option_and_then (λ digit. hex_number (16 * front + digit) rest) o ≡ Some n → n < (front + 1) * 16 ^ length (b ∷ rest)
step_below b rest front n None below p e = absurd (cc)
step_below b rest front n (Some d) below p e =
    subst (λ z. n < (front + 1) * z) (sym (pow-suc 16 (length rest)))
    (grows front d (16 ^ length rest) n (digit_below b d p) (below (16 * front + d) e))

number_below : (line : List ℕ) (front n : ℕ) → hex_number front line ≡ Some n → n < (front + 1) * 16 ^ length line
number_below [] front n e = let f : n ≡ front = sym (same _ _ e) in omega (arith, f)
number_below (b ∷ rest) front n e = step_below b rest front n (hex_value b) (λ from h. number_below rest from n h) refl e

-- eight digits write a word
eight : (line : List ℕ) (w : ℕ) (t : Bool) → (length line == 8) ≡ t → (if t then hex_number 0 line else None) ≡ Some w → w < 2 ^ 32
eight line w true p e =
    let l : length line ≡ 8 = eq_of (length line) 8 p in
    let h : w < 1 * 16 ^ 8 = subst (λ m. w < 1 * 16 ^ m) l (number_below line 0 w e) in
    h
eight line w false p e = absurd (cc)

-- a line's word
line_below : (line : List ℕ) (w : ℕ) (t : Bool) (o : Option ℕ) → hex_word line ≡ o → (if t then Skipped else word_or_bad o) ≡ Word w → w < 2 ^ 32
line_below line w true o p e = absurd (cc)
line_below line w false None p e = absurd (cc)
line_below line w false (Some v) p e = subst (λ m. m < 2 ^ 32) (same_word v w e) (eight line v (length line == 8) refl p)

-- each word of the lines
with_word_below : (line : List ℕ) (rest : List ℕ) (k w : ℕ) (l : Line) → ((n : ℕ) → slice_get rest n ≡ Some w → w < 2 ^ 32) → line_of line ≡ l → slice_get (with_word l rest) k ≡ Some w → w < 2 ^ 32
with_word_below line rest k w Skipped below p e = below k e
with_word_below line rest k w Bad below p e = below k e
with_word_below line rest zero w (Word v) below p e = subst (λ m. m < 2 ^ 32) (same v w e) (line_below (trimmed line) v (is_skipped (trimmed line)) (hex_word (trimmed line)) refl p)
with_word_below line rest (suc k) w (Word v) below p e = below k e

words_below : (lines : List (List ℕ)) (k w : ℕ) → slice_get (words_in lines) k ≡ Some w → w < 2 ^ 32
words_below [] k w e = absurd (cc)
words_below (line ∷ rest) k w e = with_word_below line (words_in rest) k w (line_of line) (λ n h. words_below rest n w h) refl e

-- the word at an address
word_below : (lines : List (List ℕ)) (at w : ℕ) → word_at (words_in lines) at ≡ Some w → w < 2 ^ 32
word_below lines at w e = here (nat_eq (at % 4) 0) e
  where
    here : (t : Bool) → (if t then slice_get (words_in lines) (at / 4) else None) ≡ Some w → w < 2 ^ 32
    here true e = words_below lines (at / 4) w e
    here false e = absurd (cc)

-- at each address of an image that a text has
pub words_of_text : (bytes image : List ℕ) → IsImageText bytes image → (at w : ℕ) → word_at image at ≡ Some w → w < 2 ^ 32
words_of_text bytes image h at w e = word_below (lines_of bytes) at w (subst (λ ws. word_at ws at ≡ Some w) h.words_are e)
