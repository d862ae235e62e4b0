-- Lines of a text, from a byte on.
use Rattle.std.proofs.Common.{◌≡◌, ◌≢◌, ℕ, zero, suc, ◌+◌, ◌-◌, ◌≤◌, ◌==◌, List, [], ◌∷◌, ◌++◌, length, take, drop, refl, sym, ap, ◌∙◌, subst, arith, append_assoc, length-append, Bool, true, false}
use Rattle.std.proofs.lemmas.List.{append-nil, length-drop}
use Rattle.std.proofs.Math.Seq.{drop-append_seam, take-append_seam}
use Rattle.rv_shown.specs.declared.shown.Span.{Span}
use Rattle.rv_shown.specs.Shown.{part_of}
use Rattle.rv_reader.specs.Words.{Free, until, from}
use Rattle.rv_reader.specs.Traces.{IsLineAt, IsSpanAt, HasNoLine}
use Rattle.rv_reader.proofs.Readings.{BeginsWith, until_at, from_at, until_from, free_until, from_begins, rest_whole}

pub not_both : (b : Bool) → b ≡ true → b ≡ false → ⊥
not_both b e f = cc

-- ---- lines with a line feed behind them
pub same_line : (line other a b : List ℕ) → Free 10 line → Free 10 other → line ++ 10 ∷ a ≡ other ++ 10 ∷ b → (line ≡ other) × (a ≡ b)
same_line line other a b f g e =
    let same = sym (until_at 10 line a f) ∙ ap (until 10) e ∙ until_at 10 other b g in
    let rest = sym (from_at 10 line a f) ∙ ap (from 10) e ∙ from_at 10 other b g in
    (same, tail_same a b rest)
  where
    tail_same : (a b : List ℕ) → 10 ∷ a ≡ 10 ∷ b → a ≡ b
    tail_same a b e = cc

pub fed_line : (line more : List ℕ) → Free 10 (line ++ 10 ∷ more) → ⊥
fed_line [] more f = ten f.0 where
  ten : (10 == 10) ≡ false → ⊥
  ten e = cc
fed_line (b ∷ line) more f = fed_line line more f.1

abbrev the_empty : (X : Type 0) → List X
the_empty X = []

nothing : {X : Type 0} (k : ℕ) → drop k (the_empty X) ≡ the_empty X
nothing zero = refl
nothing (suc k) = refl

pub drop_twice : {X : Type 0} (m n : ℕ) (xs : List X) → drop m (drop n xs) ≡ drop (n + m) xs
drop_twice m zero xs = let j : m ≡ 0 + m = omega arith in ap (λ k. drop k xs) j
drop_twice m (suc n) [] = nothing m ∙ sym (nothing (suc n + m))
drop_twice m (suc n) (x ∷ xs) = drop_twice m n xs ∙ (let j : suc (n + m) ≡ suc n + m = omega arith in ap (λ k. drop k (x ∷ xs)) j)

-- ---- the line at a byte
pub no_line : (text : List ℕ) (at : ℕ) (rest : List ℕ) → rest ≡ from 10 (take (length text - at) (drop at text)) → length rest ≡ 0 → Free 10 (drop at text)
no_line text at rest r l =
    let whole = rest_whole text at in
    let none : from 10 (drop at text) ≡ [] = sym (r ∙ ap (from 10) whole) ∙ empty rest l in
    let line : until 10 (drop at text) ≡ drop at text = sym (append-nil (until 10 (drop at text))) ∙ ap (λ t. until 10 (drop at text) ++ t) (sym none) ∙ until_from 10 (drop at text) in
    subst (Free 10) line (free_until 10 (drop at text))
  where
    empty : (xs : List ℕ) → length xs ≡ 0 → xs ≡ []
    empty [] e = refl
    empty (x ∷ xs) e = absurd (omega (arith, e))

pub some_line : (text : List ℕ) (at : ℕ) (line rest : List ℕ) → at ≤ length text → line ≡ until 10 (take (length text - at) (drop at text)) → rest ≡ from 10 (take (length text - at) (drop at text)) → length rest ≢ 0 → IsLineAt text at line
some_line text at line rest w l r n = by_rest rest n (from_line) refl where
  whole : take (length text - at) (drop at text) ≡ drop at text
  whole = rest_whole text at

  line_is : line ≡ until 10 (drop at text)
  line_is = l ∙ ap (until 10) whole

  from_line : rest ≡ from 10 (drop at text)
  from_line = r ∙ ap (from 10) whole

  by_rest : (xs : List ℕ) → length xs ≢ 0 → xs ≡ from 10 (drop at text) → xs ≡ rest → IsLineAt text at line
  by_rest [] k e same = absurd (k refl)
  by_rest (x ∷ xs) k e same =
      let ten : x ≡ 10 = subst (BeginsWith 10) (sym e) (from_begins 10 (drop at text)) in
      let parts : drop at text ≡ line ++ 10 ∷ xs = sym (until_from 10 (drop at text)) ∙ ap (λ t. t ++ from 10 (drop at text)) (sym line_is) ∙ ap (λ t. line ++ t) (sym e) ∙ ap (λ c. line ++ c ∷ xs) ten in
      let joined : line ++ 10 ∷ xs ≡ (line ++ 10 ∷ []) ++ xs = sym (append_assoc line (10 ∷ []) xs) in
      let size : length (line ++ 10 ∷ []) ≡ length line + 1 = length-append line (10 ∷ []) in
      let index : at + (length line + 1) ≡ at + length line + 1 = omega arith in
      let behind : xs ≡ drop (at + length line + 1) text =
      sym (drop-append_seam (line ++ 10 ∷ []) xs) ∙ ap (λ n. drop n ((line ++ 10 ∷ []) ++ xs)) size ∙ ap (drop (length line + 1)) (sym (parts ∙ joined)) ∙ drop_twice (length line + 1) at text ∙ ap (λ n. drop n text) index in
      let count = ap length parts in
      record {
        free = subst (Free 10) (sym line_is) (free_until 10 (drop at text));
        within = omega (arith, w, count, length-drop at text, length-append line (10 ∷ xs));
        is = parts ∙ ap (λ t. line ++ 10 ∷ t) behind;
      }

-- ---- a line that has to stand there
abbrev pub span_of : ℕ → ℕ → Span
span_of start end = record { start = start; end = end }

module _ (InForm : List ℕ → Type 0) (text : List ℕ) (at : ℕ) where
  pub none_at : (wanted : Bool) → wanted ≡ true → Free 10 (drop at text) → HasNoLine InForm wanted text at
  none_at wanted w f = record { wanted_is = w; none = λ line more free e good. fed_line line more (subst (Free 10) e f) }

  pub other_at : (wanted : Bool) (line : List ℕ) → wanted ≡ true → IsLineAt text at line → (InForm line → ⊥) → HasNoLine InForm wanted text at
  other_at wanted line w l n = record { wanted_is = w; none = λ own more free e good. n (subst InForm (sym (same_line line own (drop (at + length line + 1) text) more l.free free (sym l.is ∙ e)).0) good) }

  part_is : (line : List ℕ) → IsLineAt text at line → part_of text (span_of at (at + length line + 1)) ≡ line ++ 10 ∷ []
  part_is line l =
      let size : at + length line + 1 - at ≡ length (line ++ 10 ∷ []) = omega (arith, length-append line (10 ∷ [])) in
      let rest = drop (at + length line + 1) text in
      ap (λ n. take n (drop at text)) size ∙ ap (take (length (line ++ 10 ∷ []))) (l.is ∙ sym (append_assoc line (10 ∷ []) rest)) ∙ take-append_seam (line ++ 10 ∷ []) rest

  pub span_at : (wanted : Bool) (line : List ℕ) → wanted ≡ true → IsLineAt text at line → InForm line → IsSpanAt InForm wanted text at (span_of at (at + length line + 1))
  span_at true line w l good = record {
    start = refl;
    some = omega arith;
    within = l.within;
    is = l.is ∙ sym (append_assoc line (10 ∷ []) (drop (at + length line + 1) text)) ∙ ap (λ t. t ++ drop (at + length line + 1) text) (sym (part_is line l));
    good = record { line = line; free = l.free; is = part_is line l; in_form = good };
  }
  span_at false line w l good = absurd cc
