-- Facts on the text of an image.
use Rattle.std.proofs.Common.{Bor, ◌≡◌, ◌≢◌, ℕ, zero, suc, ◌+◌, ◌-◌, ◌^◌, ◌<◌, ◌≤◌, List, [], ◌∷◌, ◌++◌, length, Some, None, Bool, true, false, refl, sym, ap, ◌∙◌, subst, arith, ◌⊎◌, inl, inr}
use Rattle.std.specs.Prelude.{nat_le, ◌&&◌, if◌then◌else◌}
use Rattle.std.proofs.lemmas.Bool.Decides.{nat_tests}
use Rattle.std.specs.Prelude.{slice_get, map, option_map}
use Rattle.std.specs.List.{join_with_byte}
use Rattle.std.proofs.Common.{get_or}
use Rattle.std.proofs.lemmas.List.{length-take}
use Rattle.std.proofs.lemmas.List.Splits.{join_with_byte-slice_split}
use Rattle.std.proofs.lemmas.Option.{slice_get-map, slice_get-get_or, slice_get_within}
use Rattle.std.proofs.Common.{length-append, take, drop}
use Rattle.rv_asm.specs.declared.image_text.Line.{Line}
use Rattle.rv_asm.specs.declared.image_text.Line.TheVariants.{Skipped, Word, Bad}
use Rattle.rv_asm.specs.ImageText.{hex_value, lines_of, line_of, with_word, words_in, AllGood, IsImageText, IsBadLine}

between : (low high b : ℕ) → (nat_le low b && nat_le b high) ≡ true → (low ≤ b) × (b ≤ high)
between low high b h = (left (nat_le low b) refl h, right (nat_le low b) h) where
  left : (p : Bool) → nat_le low b ≡ p → (p && nat_le b high) ≡ true → low ≤ b
  left true q e = grind (arith, nat_tests)
  left false q e = cc

  right : (p : Bool) → (p && nat_le b high) ≡ true → b ≤ high
  right true e = grind (arith, nat_tests)
  right false e = cc

-- a hexadecimal digit is below 16
pub hex_below : (b d : ℕ) → hex_value b ≡ Some d → d < 16
hex_below b d h = by_case (nat_le 48 b && nat_le b 57) refl (nat_le 65 b && nat_le b 70) refl (nat_le 97 b && nat_le b 102) refl h where
  by_case : (p : Bool) → (nat_le 48 b && nat_le b 57) ≡ p → (q : Bool) → (nat_le 65 b && nat_le b 70) ≡ q → (r : Bool) → (nat_le 97 b && nat_le b 102) ≡ r
      → (if p then Some (b - 48) else if q then Some (b - 55) else if r then Some (b - 87) else None) ≡ Some d → d < 16
  by_case true p q u r v e = let x = between 48 57 b p in let y : b - 48 ≡ d = cc in omega (arith, x.0, x.1, y)
  by_case false p true u r v e = let x = between 65 70 b u in let y : b - 55 ≡ d = cc in omega (arith, x.0, x.1, y)
  by_case false p false u true v e = let x = between 97 102 b v in let y : b - 87 ≡ d = cc in omega (arith, x.0, x.1, y)
  by_case false p false u false v e = cc

-- Lines, one after another

pub words_in-append : (xs ys : List (List ℕ)) → words_in (xs ++ ys) ≡ words_in xs ++ words_in ys
words_in-append [] ys = refl
words_in-append (x ∷ xs) ys = by_kind (line_of x) (words_in-append xs ys) where
  by_kind : (k : Line) → words_in (xs ++ ys) ≡ words_in xs ++ words_in ys → with_word k (words_in (xs ++ ys)) ≡ with_word k (words_in xs) ++ words_in ys
  by_kind Skipped ih = ih
  by_kind (Word w) ih = ap (λ l. w ∷ l) ih
  by_kind Bad ih = ih

pub AllGood-push : (xs : List (List ℕ)) (x : List ℕ) → AllGood xs → line_of x ≢ Bad → AllGood (xs ++ x ∷ [])
AllGood-push [] x h g = (g, tt)
AllGood-push (y ∷ xs) x h g = (h.0, AllGood-push xs x h.1 g)

-- an image's text has no refused line
pub image_not_refused : (bytes words : List ℕ) (number : ℕ) → IsImageText bytes words → IsBadLine bytes number → ⊥
image_not_refused bytes words number image bad =
    elim bad.refused [
      | inl is_bad ↦ good_at bad.before bad.line bad.behind (subst AllGood bad.parts image.good) is_bad
      | inr w ↦
          let e : words ≡ words_in bad.before ++ words_in (bad.line ∷ bad.behind) = image.words_are ∙ ap words_in bad.parts ∙ words_in-append bad.before (bad.line ∷ bad.behind) in
          let l = ap length e ∙ length-append (words_in bad.before) (words_in (bad.line ∷ bad.behind)) in
          let one : words_in (bad.line ∷ bad.behind) ≡ w.0 ∷ words_in bad.behind = ap (λ k. with_word k (words_in bad.behind)) w.1 in
          let m = ap length one in
          let few = image.few in
          absurd (omega (arith, l, m, few, w.2))
    ] where
      good_at : (before : List (List ℕ)) (line : List ℕ) (behind : List (List ℕ)) → AllGood (before ++ line ∷ behind) → line_of line ≡ Bad → ⊥
      good_at [] line behind h e = h.0 e
      good_at (x ∷ before) line behind h e = good_at before line behind h.1 e

-- The loops over the lines

pub line_at : (lines : List (Bor (List ℕ))) (all : List (List ℕ)) (i : ℕ) (d : Bor (List ℕ)) → map (λ (x : Bor (List ℕ)). x.now) lines ≡ all → i < length lines → slice_get all i ≡ Some (get_or lines i d).now
line_at lines all i d e lt =
    ap (λ l. slice_get l i) (sym e)
    ∙ slice_get-map (λ (x : Bor (List ℕ)). x.now) lines i
    ∙ ap (λ o. option_map (λ (x : Bor (List ℕ)). x.now) o) (slice_get-get_or lines i d lt)

pub parts_at : (all : List (List ℕ)) (i : ℕ) (line : List ℕ) → slice_get all i ≡ Some line → all ≡ take i all ++ line ∷ drop (suc i) all
parts_at [] i line h = cc
parts_at (x ∷ all) zero line h = let same : x ≡ line = cc in ap (λ l. l ∷ all) same
parts_at (x ∷ all) (suc i) line h = ap (λ l. x ∷ l) (parts_at all i line h)

taken_at : (all : List (List ℕ)) (i : ℕ) (line : List ℕ) → slice_get all i ≡ Some line → take (suc i) all ≡ take i all ++ line ∷ []
taken_at [] i line h = cc
taken_at (x ∷ all) zero line h = let same : x ≡ line = cc in ap (λ l. l ∷ []) same
taken_at (x ∷ all) (suc i) line h = ap (λ l. x ∷ l) (taken_at all i line h)

pub taken_next : (all : List (List ℕ)) (i : ℕ) (line : List ℕ) → slice_get all i ≡ Some line → take (i + 1) all ≡ take i all ++ line ∷ []
taken_next all i line h = let e : i + 1 ≡ suc i = omega arith in ap (λ n. take n all) e ∙ taken_at all i line h

pub good_next : (all : List (List ℕ)) (i : ℕ) (line : List ℕ) → slice_get all i ≡ Some line → AllGood (take i all) → line_of line ≢ Bad → AllGood (take (i + 1) all)
good_next all i line h g ok = subst AllGood (sym (taken_next all i line h)) (AllGood-push (take i all) line g ok)

pub words_next : (all : List (List ℕ)) (i : ℕ) (line : List ℕ) → slice_get all i ≡ Some line → words_in (take (i + 1) all) ≡ words_in (take i all) ++ with_word (line_of line) []
words_next all i line h = ap words_in (taken_next all i line h) ∙ words_in-append (take i all) (line ∷ [])

-- lines and the bytes between them fit in the text
joined : (before : List (List ℕ)) (line : List ℕ) (behind : List (List ℕ)) → length before + length line ≤ length (join_with_byte 10 (before ++ line ∷ behind))
joined [] line [] = omega arith
joined [] line (x ∷ behind) = omega (arith, length-append line (10 ∷ join_with_byte 10 (x ∷ behind)))
joined (y ∷ []) line behind = let ih = joined [] line behind in omega (arith, ih, length-append y (10 ∷ join_with_byte 10 (line ∷ behind)))
joined (y ∷ z ∷ before) line behind = let ih = joined (z ∷ before) line behind in omega (arith, ih, length-append y (10 ∷ join_with_byte 10 (z ∷ before ++ line ∷ behind)))

blank_line : line_of [] ≡ Skipped
blank_line = refl

pub number_fits : (bytes : List ℕ) (i : ℕ) (line : List ℕ) → length bytes < 2 ^ 32 → slice_get (lines_of bytes) i ≡ Some line → (line_of line ≡ Skipped → ⊥) → i + 1 < 2 ^ 32
number_fits bytes i line few h n =
    let p = parts_at (lines_of bytes) i line h in
    let j = joined (take i (lines_of bytes)) line (drop (suc i) (lines_of bytes)) in
    let e = ap (λ l. length (join_with_byte 10 l)) p in
    let b = ap length (join_with_byte-slice_split 10 bytes) in
    let lt = slice_get_within (lines_of bytes) i line h in
    let t : length (take i (lines_of bytes)) ≡ i = length-take i (lines_of bytes) ∙ omega (arith, lt) in
    omega (arith, j, e, b, t, some line n) where
      some : (l : List ℕ) → (line_of l ≡ Skipped → ⊥) → 0 < length l
      some [] f = absurd (f refl)
      some (x ∷ l) f = omega arith

pub bad_line : (bytes words : List ℕ) (i number : ℕ) (line : List ℕ) → slice_get (lines_of bytes) i ≡ Some line → number ≡ i + 1 → AllGood (take i (lines_of bytes)) → words ≡ words_in (take i (lines_of bytes)) → length words ≤ 65536 → (line_of line ≡ Bad) ⊎ ((word : ℕ) × (line_of line ≡ Word word) × (length words ≡ 65536)) → IsBadLine bytes number
bad_line bytes words i number line h e g w few why =
    let lt = slice_get_within (lines_of bytes) i line h in
    let t : length (take i (lines_of bytes)) ≡ i = length-take i (lines_of bytes) ∙ omega (arith, lt) in
    let l = ap length w in
    record {
      before = take i (lines_of bytes);
      line = line;
      behind = drop (suc i) (lines_of bytes);
      parts = parts_at (lines_of bytes) i line h;
      number_is = omega (arith, e, t);
      good = g;
      few = omega (arith, l, few);
      refused = elim why [ inl b ↦ inl b | inr x ↦ inr (x.0, x.1, sym l ∙ x.2) ];
    }

-- a text has one image
pub one_image : (bytes xs ys : List ℕ) → IsImageText bytes xs → IsImageText bytes ys → xs ≡ ys
one_image bytes xs ys x y = x.words_are ∙ sym y.words_are
