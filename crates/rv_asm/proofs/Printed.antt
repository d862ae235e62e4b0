-- The printed text of an image is read as that image.
use Rattle.std.proofs.Common.{◌≡◌, ℕ, zero, suc, take, get_or, ◌+◌, ◌*◌, ◌/◌, ◌%◌, ◌^◌, ◌<◌, ◌≤◌, List, [], ◌∷◌, ◌++◌, length, Option, Some, None, Bool, true, false, refl, sym, ap, ◌∙◌, subst, arith, append_assoc}
use Rattle.std.specs.Prelude.{◌&&◌, not, ◌==◌}
use Rattle.std.proofs.lemmas.Bool.{agree_below_at, and_parts}
use Rattle.std.proofs.lemmas.Bool.Decides.{nat_tests}
use Rattle.std.proofs.lemmas.Grind.{flat_map-append}
use Rattle.std.proofs.lemmas.List.{append-nil}
use Rattle.std.proofs.lemmas.List.Splits.{slice_split-cons_yes, slice_split-cons_no}
use Rattle.rv_isa.specs.Images.{most_words}
use Rattle.ix_io.specs.Out.{hex_digit, hex_digits}
use Rattle.rv_asm.specs.declared.image_text.Line.TheVariants.{Word}
use Rattle.rv_asm.specs.ImageText.{lines_of, is_blank, hex_value, line_of, with_word, words_in, AllGood, IsImageText, word_text, image_text}

-- Digits

-- the character is a digit of this value, and no other sign of an image's text
pub record IsDigit (c d : ℕ) : Type 0 where
  pub value : hex_value c ≡ Some d
  pub unblank : is_blank c ≡ false
  pub no_hash : (c == 35) ≡ false
  pub no_slash : (c == 47) ≡ false
  pub no_feed : (c == 10) ≡ false

abbrev has_value : Option ℕ → ℕ → Bool
has_value None d = false
has_value (Some v) d = v == d

abbrev is_digit : ℕ → ℕ → Bool
is_digit c d = has_value (hex_value c) d && (not (is_blank c) && (not (c == 35) && (not (c == 47) && not (c == 10))))

value_of : (o : Option ℕ) (d : ℕ) → has_value o d ≡ true → o ≡ Some d
value_of None d h = cc
value_of (Some v) d h = ap Some (grind (arith, nat_tests))

not_so : (b : Bool) → not b ≡ true → b ≡ false
not_so true h = cc
not_so false h = refl

digit : (d : ℕ) → d < 16 → IsDigit (hex_digit d) d
digit d lt =
    let all = and_parts (has_value (hex_value (hex_digit d)) d) _ (agree_below_at (λ n. is_digit (hex_digit n) n) (λ _. true) 16 d refl lt) in
    let b = and_parts (not (is_blank (hex_digit d))) _ all.1 in
    let h = and_parts (not (hex_digit d == 35)) _ b.1 in
    let s = and_parts (not (hex_digit d == 47)) _ h.1 in
    record {
      value = value_of (hex_value (hex_digit d)) d all.0;
      unblank = not_so (is_blank (hex_digit d)) b.0;
      no_hash = not_so (hex_digit d == 35) h.0;
      no_slash = not_so (hex_digit d == 47) s.0;
      no_feed = not_so (hex_digit d == 10) s.1;
    }

-- eight digits are a word
eight : (a b c d e f g h : ℕ) (i j k l m n o p : ℕ) → IsDigit a i → IsDigit b j → IsDigit c k → IsDigit d l → IsDigit e m → IsDigit f n → IsDigit g o → IsDigit h p
    → line_of (a ∷ b ∷ c ∷ d ∷ e ∷ f ∷ g ∷ h ∷ []) ≡ Word (16 * (16 * (16 * (16 * (16 * (16 * (16 * (16 * 0 + i) + j) + k) + l) + m) + n) + o) + p)
eight a b c d e f g h i j k l m n o p q r s t u v w x = rw (q.unblank, x.unblank, q.no_hash, q.no_slash, q.value, r.value, s.value, t.value, u.value, v.value, w.value, x.value) refl

below : (n : ℕ) → n % 16 < 16
below n = omega arith

digit_of : (n : ℕ) → IsDigit (hex_digit (n % 16)) (n % 16)
digit_of n = digit (n % 16) (below n)

joined : (n : ℕ) → 16 * (n / 16) + n % 16 ≡ n
joined n = omega arith

-- the eight digits of a word make it again
made : (w : ℕ) → w < 2 ^ 32 → 16 * (16 * (16 * (16 * (16 * (16 * (16 * (16 * 0 + w / 16 / 16 / 16 / 16 / 16 / 16 / 16 % 16) + w / 16 / 16 / 16 / 16 / 16 / 16 % 16) + w / 16 / 16 / 16 / 16 / 16 % 16) + w / 16 / 16 / 16 / 16 % 16) + w / 16 / 16 / 16 % 16) + w / 16 / 16 % 16) + w / 16 % 16) + w % 16 ≡ w
made w few =
    let top : 16 * 0 + w / 16 / 16 / 16 / 16 / 16 / 16 / 16 % 16 ≡ w / 16 / 16 / 16 / 16 / 16 / 16 / 16 = omega arith in
    rw (top, joined (w / 16 / 16 / 16 / 16 / 16 / 16), joined (w / 16 / 16 / 16 / 16 / 16), joined (w / 16 / 16 / 16 / 16), joined (w / 16 / 16 / 16), joined (w / 16 / 16), joined (w / 16)) (joined w)

line_is : (w : ℕ) → w < 2 ^ 32 → line_of (hex_digits 8 w) ≡ Word w
unfolding hex_digits
line_is w few =
    eight _ _ _ _ _ _ _ _ _ _ _ _ _ _ _ _ (digit_of (w / 16 / 16 / 16 / 16 / 16 / 16 / 16)) (digit_of (w / 16 / 16 / 16 / 16 / 16 / 16)) (digit_of (w / 16 / 16 / 16 / 16 / 16)) (digit_of (w / 16 / 16 / 16 / 16)) (digit_of (w / 16 / 16 / 16)) (digit_of (w / 16 / 16)) (digit_of (w / 16)) (digit_of w)
    ∙ ap Word (made w few)

-- Lines

abbrev NoFeed : List ℕ → Type 0
NoFeed [] = Unit {0}
NoFeed (b ∷ rest) = ((b == 10) ≡ false) × NoFeed rest

first_line : (line rest : List ℕ) → NoFeed line → lines_of (line ++ 10 ∷ rest) ≡ line ∷ lines_of rest
first_line [] rest h = slice_split-cons_yes (λ b. b == 10) 10 rest refl
first_line (b ∷ line) rest h = slice_split-cons_no (λ b. b == 10) b (line ++ 10 ∷ rest) h.0 ∙ (let ih = first_line line rest h.1 in rw ih refl)

no_feed : (w : ℕ) → NoFeed (hex_digits 8 w)
unfolding hex_digits
no_feed w = ((digit_of (w / 16 / 16 / 16 / 16 / 16 / 16 / 16)).no_feed, ((digit_of (w / 16 / 16 / 16 / 16 / 16 / 16)).no_feed, ((digit_of (w / 16 / 16 / 16 / 16 / 16)).no_feed, ((digit_of (w / 16 / 16 / 16 / 16)).no_feed, ((digit_of (w / 16 / 16 / 16)).no_feed, ((digit_of (w / 16 / 16)).no_feed, ((digit_of (w / 16)).no_feed, ((digit_of w).no_feed, tt))))))))

abbrev lines_text : List ℕ → List (List ℕ)
lines_text [] = [] ∷ []
lines_text (w ∷ words) = hex_digits 8 w ∷ lines_text words

-- each is a word of 32 bits
abbrev pub Fit : List ℕ → Type 0
Fit [] = Unit {0}
Fit (w ∷ words) = (w < 2 ^ 32) × Fit words

pub fit_push : (words : List ℕ) (w : ℕ) → Fit words → w < 2 ^ 32 → Fit (words ++ w ∷ [])
fit_push [] w h lt = (lt, tt)
fit_push (x ∷ words) w h lt = (h.0, fit_push words w h.1 lt)

lines_are : (words : List ℕ) → lines_of (image_text words) ≡ lines_text words
lines_are [] = refl
lines_are (w ∷ words) =
    ap lines_of (append_assoc (hex_digits 8 w) (10 ∷ []) (image_text words))
    ∙ first_line (hex_digits 8 w) (image_text words) (no_feed w)
    ∙ ap (λ l. hex_digits 8 w ∷ l) (lines_are words)

words_are : (words : List ℕ) → Fit words → words ≡ words_in (lines_text words)
words_are [] h = refl
words_are (w ∷ words) h = ap (λ l. w ∷ l) (words_are words h.1) ∙ ap (λ k. with_word k (words_in (lines_text words))) (sym (line_is w h.0))

all_good : (words : List ℕ) → Fit words → AllGood (lines_text words)
all_good [] h = ((λ e. cc), tt)
all_good (w ∷ words) h = ((λ e. cc (line_is w h.0, e)), all_good words h.1)

pub printed_is_read : (words : List ℕ) → Fit words → length words ≤ most_words → IsImageText (image_text words) words
printed_is_read words fit few =
    record {
      good = subst AllGood (sym (lines_are words)) (all_good words fit);
      words_are = words_are words fit ∙ ap words_in (sym (lines_are words));
      few = few;
    }

-- The loop over the words

taken_word : (words : List ℕ) (i : ℕ) → i < length words → take (i + 1) words ≡ take i words ++ get_or words i 0 ∷ []
taken_word words i lt = let e : i + 1 ≡ suc i = omega arith in ap (λ n. take n words) e ∙ taken words i lt where
  taken : (words : List ℕ) (i : ℕ) → i < length words → take (suc i) words ≡ take i words ++ get_or words i 0 ∷ []
  taken [] i lt = absurd (omega arith)
  taken (w ∷ words) zero lt = refl
  taken (w ∷ words) (suc i) lt = ap (λ l. w ∷ l) (taken words i (omega (arith, lt)))

pub text_next : (words : List ℕ) (i : ℕ) (text : List ℕ) → i < length words → text ≡ image_text (take i words) → text ++ word_text (get_or words i 0) ≡ image_text (take (i + 1) words)
text_next words i text lt e =
    ap (λ t. t ++ word_text (get_or words i 0)) e
    ∙ sym (flat_map-append word_text (take i words) (get_or words i 0 ∷ []) ∙ ap (λ t. image_text (take i words) ++ t) (append-nil (word_text (get_or words i 0))))
    ∙ ap image_text (sym (taken_word words i lt))

pub fit_next : (words : List ℕ) (i : ℕ) → i < length words → Fit (take i words) → get_or words i 0 < 2 ^ 32 → Fit (take (i + 1) words)
fit_next words i lt h f = subst Fit (sym (taken_word words i lt)) (fit_push (take i words) (get_or words i 0) h f)
