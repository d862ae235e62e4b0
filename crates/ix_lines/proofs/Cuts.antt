-- Words without spaces, and lines of them.
use Rattle.std.proofs.Common.{◌≡◌, ◌≢◌, ℕ, ◌+◌, ◌%◌, ◌<◌, ◌≤◌, ◌^◌, ◌==◌, List, [], ◌∷◌, ◌++◌, refl, sym, ap, ◌∙◌, arith, lit<, append_assoc, Option, Some, None, Bool, true, false}
use Rattle.std.specs.Prelude.{All, decimal, nat_lt, Result, Ok, Err, IfOk}
use Rattle.std.specs.List.{list_all, slice_split, join_with_byte}
use Rattle.std.proofs.lemmas.Bool.{and_parts}
use Rattle.std.proofs.lemmas.Bool.Decides.{nat_tests}
use Rattle.std.proofs.lemmas.Fmt.{decimal_by_steps}
use Rattle.std.proofs.lemmas.List.Elements.{All-nil, All-cons}
use Rattle.std.proofs.lemmas.List.Splits.{slice_split_none, slice_split_at, join_with_byte-slice_split}
use Rattle.ix_lines.specs.Lines.{text_of}
use Rattle.ix_lines.specs.Readings.{IsReading}

abbrev Line : Type 0
Line = List ℕ

-- each byte is one that is shown, none a space
abbrev pub Shown : Line → Type 0
Shown [] = Unit {0}
Shown (b ∷ rest) = (32 < b) × Shown rest

abbrev pub AllShown : List Line → Type 0
AllShown [] = Unit {0}
AllShown (w ∷ ws) = Shown w × AllShown ws

pub shown_append : (xs ys : Line) → Shown xs → Shown ys → Shown (xs ++ ys)
shown_append [] ys a b = b
shown_append (x ∷ xs) ys a b = (a.0, shown_append xs ys a.1 b)

above_32 : (b : ℕ) → nat_lt 32 b ≡ true → 32 < b
above_32 b e = grind (arith, nat_tests)

pub shown_by_test : (w : Line) → list_all (λ b. nat_lt 32 b) w ≡ true → Shown w
shown_by_test [] e = tt
shown_by_test (b ∷ rest) e = let p = and_parts (nat_lt 32 b) (list_all (λ b. nat_lt 32 b) rest) e in (above_32 b p.0, shown_by_test rest p.1)

pub shown_decimal : (n : ℕ) → n < 2 ^ 64 → Shown (decimal n)
shown_decimal n h = decimal_by_steps (λ n ds. Shown ds) (λ n l. (omega arith, tt)) (λ n ds l s. shown_append ds ((48 + n % 10) ∷ []) s (omega arith, tt)) n h

-- ---- cutting at the spaces
other_byte : (b : ℕ) → 32 < b → (b == 32) ≡ false
other_byte b h = grind (arith, nat_tests)

no_space : (w : Line) → Shown w → All (λ b. (b == 32) ≡ false) w
no_space [] s = All-nil (λ b. (b == 32) ≡ false)
no_space (b ∷ rest) s = All-cons (λ b. (b == 32) ≡ false) b rest (other_byte b s.0) (no_space rest s.1)

pub cut_joined : (w : Line) (ws : List Line) → AllShown (w ∷ ws) → slice_split (λ b. b == 32) (join_with_byte 32 (w ∷ ws)) ≡ w ∷ ws
cut_joined w [] s = slice_split_none (λ b. b == 32) w (no_space w s.0)
cut_joined w (v ∷ ws) s = slice_split_at (λ b. b == 32) w 32 (join_with_byte 32 (v ∷ ws)) (no_space w s.0) refl ∙ ap (λ l. w ∷ l) (cut_joined v ws s.1)

pub cut_words : (ws : List Line) → ws ≢ [] → AllShown ws → slice_split (λ b. b == 32) (join_with_byte 32 ws) ≡ ws
cut_words [] n s = absurd (n refl)
cut_words (w ∷ ws) n s = cut_joined w ws s

-- what was read of the words was read of the line
module _ {X : Type 0} (good : X → Type 0) (words_of : X → List Line) (cut : (x : X) → good x → slice_split (λ b. b == 32) (join_with_byte 32 (words_of x)) ≡ words_of x) where
  pub line_read : (line : Line) (words : List Line) (found : Option X) → words ≡ slice_split (λ b. b == 32) line → IsReading good words_of words found → IsReading good (λ x. join_with_byte 32 (words_of x)) line found
  line_read line words None c r = λ x w e. r x w (sym (cut x w) ∙ ap (λ l. slice_split (λ b. b == 32) l) e ∙ sym c)
  line_read line words (Some x) c r = (r.0, ap (λ l. join_with_byte 32 l) (r.1 ∙ c) ∙ join_with_byte-slice_split 32 line)

  pub line_read_ok : {E : Type 0} (r : Result (Option X) E) (line : Line) (words : List Line) → words ≡ slice_split (λ b. b == 32) line → IfOk r (λ found. IsReading good words_of words found)
      → IfOk r (λ found. IsReading good (λ x. join_with_byte 32 (words_of x)) line found)
  line_read_ok (Ok found) line words c r = line_read line words found c r
  line_read_ok (Err e) line words c r = tt

-- ---- no line feed in a line
abbrev pub Plain : Line → Type 0
Plain [] = Unit {0}
Plain (b ∷ rest) = (10 < b) × Plain rest

abbrev pub AllPlain : List Line → Type 0
AllPlain [] = Unit {0}
AllPlain (l ∷ ls) = Plain l × AllPlain ls

pub plain_shown : (w rest : Line) → Shown w → Plain rest → Plain (w ++ rest)
plain_shown [] rest s p = p
plain_shown (b ∷ w) rest s p = (omega (arith, s.0), plain_shown w rest s.1 p)

pub plain_word : (w : Line) → Shown w → Plain w
plain_word [] s = tt
plain_word (b ∷ w) s = (omega (arith, s.0), plain_word w s.1)

pub plain_joined : (ws : List Line) → AllShown ws → Plain (join_with_byte 32 ws)
plain_joined [] s = tt
plain_joined (w ∷ []) s = plain_word w s.0
plain_joined (w ∷ v ∷ ws) s = plain_shown w (32 ∷ join_with_byte 32 (v ∷ ws)) s.0 (lit< tt, plain_joined (v ∷ ws) s.1)

no_feed_byte : (b : ℕ) → 10 < b → (b == 10) ≡ false
no_feed_byte b h = grind (arith, nat_tests)

pub no_feed : (w : Line) → Plain w → All (λ b. (b == 10) ≡ false) w
no_feed [] s = All-nil (λ b. (b == 10) ≡ false)
no_feed (b ∷ rest) s = All-cons (λ b. (b == 10) ≡ false) b rest (no_feed_byte b s.0) (no_feed rest s.1)

-- a text is cut into its lines, and what is behind the last line feed
pub split_text : (ls : List Line) → AllPlain ls → slice_split (λ b. b == 10) (text_of ls) ≡ ls ++ [] ∷ []
split_text [] w = refl
split_text (l ∷ ls) w =
    ap (λ t. slice_split (λ b. b == 10) t) (append_assoc l (10 ∷ []) (text_of ls))
    ∙ slice_split_at (λ b. b == 10) l 10 (text_of ls) (no_feed l w.0) refl
    ∙ ap (λ t. l ∷ t) (split_text ls w.1)
