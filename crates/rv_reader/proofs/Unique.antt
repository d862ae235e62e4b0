-- A text is that of one trace, or has one first bad line, and never both.
use Rattle.std.proofs.Common.{◌≡◌, ℕ, suc, ◌+◌, ◌<◌, ◌≤◌, ◌⊎◌, inl, inr, List, [], ◌∷◌, ◌++◌, length, refl, sym, ap, ◌∙◌, subst, arith, append_assoc, length-append}
use Rattle.std.specs.Prelude.{codes}
use Rattle.rv_shown.specs.Shown.{Shown, shown_text, shown_texts}
use Rattle.rv_reader.specs.declared.read.ReadErr.{ReadErr}
use Rattle.rv_reader.specs.declared.read.ReadErr.TheVariants.{Line, Memory}
use Rattle.rv_reader.specs.Words.{Free, until, from}
use Rattle.rv_reader.specs.Forms.{IsWord}
use Rattle.rv_reader.specs.Traces.{AreRows, AreLines, IsState, IsTrace, Begins, IsBadLine, feeds}
use Rattle.rv_reader.specs.ReadTexts.{TellsBadLine}
use Rattle.rv_reader.proofs.Readings.{BeginsWith, until_from, free_until, from_begins}
use Rattle.rv_reader.proofs.Lining.{fed_line}
use Rattle.rv_reader.proofs.Following.{row_apart, goes_on}
use Rattle.rv_reader.proofs.BadLines.{feeds_few}
use Rattle.rv_reader.proofs.Passing.{many_feeds}
use Rattle.ix_lines.specs.Lines.{text_of}
use Rattle.std.proofs.lemmas.List.{append-nil}

-- ---- one front of lines and a longer one
-- a text up to its first line feed, or none
pub record FirstLine (text : List ℕ) : Type 0 where
  pub line : List ℕ
  pub more : List ℕ
  pub free : Free 10 line
  pub is : text ≡ line ++ 10 ∷ more

pub line_or_free : (text : List ℕ) → FirstLine text ⊎ Free 10 text
line_or_free text = by_rest (from 10 text) (from_begins 10 text) refl where
  by_rest : (rest : List ℕ) → BeginsWith 10 rest → rest ≡ from 10 text → FirstLine text ⊎ Free 10 text
  by_rest [] b e = inr (subst (Free 10) (ap (λ t. until 10 text ++ t) e ∙ until_from 10 text) (subst (Free 10) (sym (nothing (until 10 text))) (free_until 10 text))) where
    nothing : (xs : List ℕ) → xs ++ [] ≡ xs
    nothing [] = refl
    nothing (x ∷ xs) = ap (λ t. x ∷ t) (nothing xs)
  by_rest (x ∷ more) b e = inl (record { line = until 10 text; more = more; free = free_until 10 text; is = sym (until_from 10 text) ∙ ap (λ t. until 10 text ++ t) (sym e) ∙ ap (λ c. until 10 text ++ c ∷ more) b })

-- of two fronts of a text, the shorter is a front of the longer
pub fronts : (a b c d : List ℕ) → a ++ b ≡ c ++ d → length a ≤ length c → (x : List ℕ) × (c ≡ a ++ x) × (b ≡ x ++ d)
fronts [] b c d e l = (c, refl, e)
fronts (x ∷ a) b [] d e l = absurd (omega (arith, l))
fronts (x ∷ a) b (y ∷ c) d e l =
    let head : x ≡ y = cc in
    let tail : a ++ b ≡ c ++ d = cc in
    let r = fronts a b c d tail (omega (arith, l)) in
    (r.0, ap (λ t. y ∷ t) r.1 ∙ ap (λ h. h ∷ (a ++ r.0)) (sym head), r.2)

-- what ends in a line feed has a first line
ended : (x line : List ℕ) → (d : List ℕ) → x ≡ line ++ 10 ∷ [] → Free 10 x → ⊥
ended x line d e f = fed_line line [] (subst (Free 10) e f)

module _ (widths : List ℕ) (stages : ℕ) (text : List ℕ) where
  begins_shorter : (a b : List ℕ) → Begins widths stages (a ++ b) → Begins widths stages a
  begins_shorter a b g = record { rest = b ++ g.rest; rows = g.rows; state = g.state; trace = record { rows_are = g.trace.rows_are; state_is = g.trace.state_is; is = sym (append_assoc a b g.rest) ∙ g.trace.is } }

  -- no text is that of a trace and has a bad line
  pub not_both : (n : ℕ) (rows : List Shown) (state : List ℕ) → IsBadLine widths stages text n → IsTrace widths stages text rows state → ⊥
  not_both n rows state b t = elim (line_or_free b.rest) [
    | inl f ↦ b.next f.line f.more f.free f.is (record { rest = f.more; rows = rows; state = state; trace = record { rows_are = t.rows_are; state_is = t.state_is; is = sym (b.is ∙ ap (λ x. b.front ++ x) (f.is ∙ sym (append_assoc f.line (10 ∷ []) f.more)) ∙ sym (append_assoc b.front (f.line ++ 10 ∷ []) f.more)) ∙ t.is } })
    | inr f ↦ b.end f rows state t
  ]

  -- a front of lines that is longer has the line behind the shorter one
  longer : (m n : ℕ) (a : IsBadLine widths stages text m) (b : IsBadLine widths stages text n) → length a.front < length b.front → ⊥
  longer m n a b l =
      let p = fronts a.front a.rest b.front b.rest (sym a.is ∙ b.is) (omega (arith, l)) in
      by_lines p.0 p.1 p.2 b.lines
    where
      by_line : (x : List ℕ) → b.front ≡ a.front ++ x → a.rest ≡ x ++ b.rest → FirstLine x ⊎ Free 10 x → AreLines b.front → ⊥
      by_line x e r (inl f) lines =
          a.next f.line (f.more ++ b.rest) f.free (r ∙ ap (λ t. t ++ b.rest) f.is ∙ append_assoc f.line (10 ∷ f.more) b.rest)
          (begins_shorter (a.front ++ (f.line ++ 10 ∷ [])) f.more (subst (Begins widths stages) (e ∙ ap (λ t. a.front ++ t) (f.is ∙ sym (append_assoc f.line (10 ∷ []) f.more)) ∙ sym (append_assoc a.front (f.line ++ 10 ∷ []) f.more)) b.begins))
      by_line x e r (inr f) (inl none) = omega (arith, ap length none, l)
      by_line x e r (inr f) (inr ends) = no_end x ends.0 (sym e ∙ ends.1) f (omega (arith, ap length e, length-append a.front x, l))
        where
          last_of : (a x line : List ℕ) → a ++ x ≡ line ++ 10 ∷ [] → 0 < length x → Free 10 x → ⊥
          last_of [] x line e p f = fed_line line [] (subst (Free 10) e f)
          last_of (y ∷ a) x [] e p f = omega (arith, ap length e, length-append a x, p)
          last_of (y ∷ a) x (z ∷ line) e p f = (let tail : a ++ x ≡ line ++ 10 ∷ [] = cc in last_of a x line tail p f)

          no_end : (x line : List ℕ) → a.front ++ x ≡ line ++ 10 ∷ [] → Free 10 x → 0 < length x → ⊥
          no_end x line e f p = last_of a.front x line e p f

      by_lines : (x : List ℕ) → b.front ≡ a.front ++ x → a.rest ≡ x ++ b.rest → AreLines b.front → ⊥
      by_lines x e r lines = by_line x e r (line_or_free x) lines

  compare : (a b : ℕ) → (a < b) ⊎ ((b < a) ⊎ (a ≡ b))
  compare a b = grind arith

  same_front : (a c b d : List ℕ) → a ++ b ≡ c ++ d → length a ≡ length c → a ≡ c
  same_front [] [] b d e l = refl
  same_front [] (y ∷ c) b d e l = absurd (omega (arith, l))
  same_front (x ∷ a) [] b d e l = absurd (omega (arith, l))
  same_front (x ∷ a) (y ∷ c) b d e l =
      let head : x ≡ y = cc in
      let tail : a ++ b ≡ c ++ d = cc in
      ap (λ h. h ∷ a) head ∙ ap (λ t. y ∷ t) (same_front a c b d tail (omega (arith, l)))

  -- there is one first bad line
  pub one_bad : (m n : ℕ) → IsBadLine widths stages text m → IsBadLine widths stages text n → m ≡ n
  one_bad m n a b = elim (compare (length a.front) (length b.front)) [
    | inl l ↦ absurd (longer m n a b l)
    | inr g ↦ elim g [
      | inl l ↦ absurd (longer n m b a l)
      | inr e ↦ a.number_is ∙ ap (λ f. suc (feeds f)) (same_front a.front b.front a.rest b.rest (sym a.is ∙ b.is) e) ∙ sym b.number_is
    ]
  ]

  -- ---- what an error tells
  pub only_memory : (e : ReadErr) (rows : List Shown) (state : List ℕ) → TellsBadLine widths stages text e → IsTrace widths stages text rows state → e ≡ Memory
  only_memory (Line n) rows state b t = absurd (not_both n rows state b t)
  only_memory Memory rows state b t = refl

  pub same_bad : (e : ReadErr) (n : ℕ) → TellsBadLine widths stages text e → IsBadLine widths stages text n → (e ≡ Line n) ⊎ (e ≡ Memory)
  same_bad (Line m) n a b = inl (ap (λ k. Line k) (one_bad m n a b))
  same_bad Memory n a b = inr refl

  -- ---- a text has the rows of one trace alone
  more_none : (rows more : List Shown) (state other : List ℕ) → AreRows widths stages more → IsWord (length rows) → IsState widths state → IsState widths other → state ≡ shown_texts (length rows) more ++ other → more ≡ []
  unfolding shown_texts
  more_none rows [] state other p w s o e = refl
  more_none rows (t ∷ more) state other p w s o e =
      absurd (row_apart widths stages (length rows) t (shown_texts (suc (length rows)) more ++ other) (text_of (s.pc ∷ s.lines)) p.0 w (sym (append_assoc (shown_text (length rows) t) (shown_texts (suc (length rows)) more) other) ∙ sym e ∙ s.is ∙ append_assoc (codes "state") (10 ∷ []) (text_of (s.pc ∷ s.lines))))

  pub one_trace : (rows all : List Shown) (state other : List ℕ) → length text ≤ 2147483648 → IsTrace widths stages text rows state → IsTrace widths stages text all other → all ≡ rows
  one_trace rows all state other l t u =
      let few = many_feeds widths stages text 0 rows in
      let short = feeds_few (shown_texts 0 rows) in
      let size = ap length t.is in
      let both = length-append (shown_texts 0 rows) state in
      let w : IsWord (length rows) = omega (arith, few, short, size, both, l) in
      let j : 0 + length rows ≡ length rows = omega arith in
      let g = goes_on widths stages 0 rows all state other t.rows_are u.rows_are u.state_is (omega (arith, w)) (sym t.is ∙ u.is) in
      let none = more_none rows g.more state other g.are w t.state_is u.state_is (g.text_is ∙ ap (λ n. shown_texts n g.more ++ other) j) in
      g.all_is ∙ ap (λ m. rows ++ m) none ∙ append-nil rows
