-- Two texts of traces that begin with the same rows go on from there.
use Rattle.std.proofs.Common.{◌≡◌, ℕ, suc, ◌+◌, ◌==◌, inl, inr, List, [], ◌∷◌, ◌++◌, length, refl, sym, ap, ◌∙◌, subst, arith, append_assoc, Option, Some, None, false}
use Rattle.std.specs.Prelude.{decimal, codes}
use Rattle.ix_lines.specs.Lines.{text_of}
use Rattle.rv_seq.specs.declared.commit.Stop.{Stop}
use Rattle.rv_shown.specs.declared.shown.ShownCell.{ShownCell}
use Rattle.rv_shown.specs.Shown.{Shown, shown_text, shown_texts, cell_text}
use Rattle.std.specs.List.{flat_map}
use Rattle.rv_reader.specs.Words.{Free, until}
use Rattle.rv_reader.specs.Rows.{bare, marks, row_in}
use Rattle.rv_reader.specs.Forms.{IsWord, IsLineOf, IsRetiredLine, IsWrittenLine, IsRow}
use Rattle.rv_reader.specs.Traces.{AreRows, IsState}
use Rattle.rv_reader.proofs.Readings.{some_one}
use Rattle.rv_reader.proofs.Frees.{free_word, until_begin}
use Rattle.rv_reader.proofs.RowLaws.{body, marks_text, line_is, row_back, body_feeds, rest_begins}
use Rattle.rv_reader.proofs.Lining.{same_line}

pub text_parts : (number : ℕ) (s : Shown) (a : List ℕ) → shown_text number s ++ a ≡ body number s ++ 10 ∷ (s.retired_line ++ (s.written_line ++ a))
text_parts number s a =
    append_assoc _ s.written_line a
    ∙ append_assoc _ s.retired_line (s.written_line ++ a)
    ∙ ap (λ t. t ++ (s.retired_line ++ (s.written_line ++ a))) (line_is number s)
    ∙ append_assoc (body number s) (10 ∷ []) (s.retired_line ++ (s.written_line ++ a))

state_word : until 32 (codes "state") ≡ codes "state"
unfolding until
state_word = refl

-- ---- a row is the only one of its text
pub line_one : (InForm : List ℕ → Type 0) (m n : Option ℕ) (x y a b : List ℕ) → m ≡ n → IsLineOf InForm m x → IsLineOf InForm n y → x ++ a ≡ y ++ b → (x ≡ y) × (a ≡ b)
line_one InForm None None x y a b e f g same = (f ∙ sym g, ap (λ t. t ++ a) (sym f) ∙ same ∙ ap (λ t. t ++ b) g)
line_one InForm None (Some n) x y a b e f g same = absurd cc
line_one InForm (Some m) None x y a b e f g same = absurd cc
line_one InForm (Some m) (Some n) x y a b e f g same =
    let both = same_line f.line g.line a b f.free g.free (sym (append_assoc f.line (10 ∷ []) a) ∙ ap (λ t. t ++ a) (sym f.is) ∙ same ∙ ap (λ t. t ++ b) g.is ∙ append_assoc g.line (10 ∷ []) b) in
    (f.is ∙ ap (λ t. t ++ 10 ∷ []) both.0 ∙ sym g.is, both.1)

abbrev pub shown : List (Option ShownCell) → Option ℕ → Option ℕ → List ℕ → Option ℕ → Option Stop → List ℕ → List ℕ → Shown
shown cells retired written flushed redirect stop x y = record { cells = cells; retired = retired; written = written; flushed = flushed; redirect = redirect; stop = stop; retired_line = x; written_line = y }

unfoldable pub with_lines : Shown → List ℕ → List ℕ → Shown
with_lines s x y = shown s.cells s.retired s.written s.flushed s.redirect s.stop x y

same_shown : (s t : Shown) → bare s.cells (marks s.retired s.written s.flushed s.redirect s.stop) ≡ bare t.cells (marks t.retired t.written t.flushed t.redirect t.stop) → s.retired_line ≡ t.retired_line → s.written_line ≡ t.written_line → s ≡ t
unfolding with_lines
same_shown s t e x y =
    ap (λ l. with_lines s l s.written_line) x ∙ ap (λ l. with_lines s t.retired_line l) y ∙ ap (λ b. with_lines b t.retired_line t.written_line) e

module _ (widths : List ℕ) (stages : ℕ) where
  pub bodies_one : (number : ℕ) (s t : Shown) → IsRow widths stages s → IsRow widths stages t → IsWord number → body number s ≡ body number t
      → bare s.cells (marks s.retired s.written s.flushed s.redirect s.stop) ≡ bare t.cells (marks t.retired t.written t.flushed t.redirect t.stop)
  bodies_one number s t p q w e =
      some_one (bare s.cells (marks s.retired s.written s.flushed s.redirect s.stop)) (bare t.cells (marks t.retired t.written t.flushed t.redirect t.stop))
      (sym (row_back (length widths) stages number s p.line w) ∙ ap (row_in (length widths) stages number) e ∙ row_back (length widths) stages number t q.line w)

  pub row_one : (number : ℕ) (s t : Shown) (a b : List ℕ) → IsRow widths stages s → IsRow widths stages t → IsWord number → shown_text number s ++ a ≡ shown_text number t ++ b → (s ≡ t) × (a ≡ b)
  row_one number s t a b p q w e =
      let lines = same_line (body number s) (body number t) (s.retired_line ++ (s.written_line ++ a)) (t.retired_line ++ (t.written_line ++ b))
      (body_feeds (length widths) stages number s p.line w) (body_feeds (length widths) stages number t q.line w) (sym (text_parts number s a) ∙ e ∙ text_parts number t b) in
      let bodies = bodies_one number s t p q w lines.0 in
      let first = line_one (IsRetiredLine widths) s.retired t.retired s.retired_line t.retired_line (s.written_line ++ a) (t.written_line ++ b) (ap (λ x. x.retired) bodies) p.retired q.retired lines.1 in
      let second = line_one (IsWrittenLine widths) s.written t.written s.written_line t.written_line a b (ap (λ x. x.written) bodies) p.written q.written first.1 in
      (same_shown s t bodies first.0 second.0, second.1)

  -- a row is no line `state`
  pub row_apart : (number : ℕ) (t : Shown) (b c : List ℕ) → IsRow widths stages t → IsWord number → shown_text number t ++ b ≡ codes "state" ++ 10 ∷ c → ⊥
  row_apart number t b c q w e = body_apart number t q w (same_line (body number t) (codes "state") _ c (body_feeds (length widths) stages number t q.line w) (refl, (refl, (refl, (refl, (refl, tt))))) (sym (text_parts number t b) ∙ e)).0 where
    no_letter : (number : ℕ) → IsWord number → decimal number ≡ codes "state" → ⊥
    no_letter number w e = here (subst (Free 115) e (free_word 115 number (inr (omega arith)) w)).0 where
      here : (115 == 115) ≡ false → ⊥
      here e = cc

    body_apart : (number : ℕ) (t : Shown) → IsRow widths stages t → IsWord number → body number t ≡ codes "state" → ⊥
    body_apart number t q w e = no_letter number w (sym (until_begin 32 (decimal number) (flat_map cell_text t.cells ++ marks_text t) (free_word 32 number (inl (omega arith)) w) (rest_begins t)) ∙ ap (until 32) e ∙ state_word)

  -- ---- rows
  pub record GoesOn (number : ℕ) (rows all : List Shown) (a state : List ℕ) : Type 0 where
    pub more : List Shown
    pub are : AreRows widths stages more
    pub all_is : all ≡ rows ++ more
    pub text_is : a ≡ shown_texts (number + length rows) more ++ state

  pub goes_on : (number : ℕ) (rows all : List Shown) (a state : List ℕ) → AreRows widths stages rows → AreRows widths stages all → IsState widths state → IsWord (number + length rows) → shown_texts number rows ++ a ≡ shown_texts number all ++ state
      → GoesOn number rows all a state
  unfolding shown_texts
  goes_on number [] all a state p q st w e = record { more = all; are = q; all_is = refl; text_is = e ∙ (let j : number ≡ number + 0 = omega arith in ap (λ n. shown_texts n all ++ state) j) }
  goes_on number (s ∷ rows) [] a state p q st w e =
      absurd (row_apart number s (shown_texts (suc number) rows ++ a) (text_of (st.pc ∷ st.lines)) p.0 (omega (arith, w)) (sym (append_assoc (shown_text number s) (shown_texts (suc number) rows) a) ∙ e ∙ st.is ∙ append_assoc (codes "state") (10 ∷ []) (text_of (st.pc ∷ st.lines))))
  goes_on number (s ∷ rows) (t ∷ all) a state p q st w e =
      let one = row_one number s t (shown_texts (suc number) rows ++ a) (shown_texts (suc number) all ++ state) p.0 q.0 (omega (arith, w))
      (sym (append_assoc (shown_text number s) (shown_texts (suc number) rows) a) ∙ e ∙ append_assoc (shown_text number t) (shown_texts (suc number) all) state) in
      let rest = goes_on (suc number) rows all a state p.1 q.1 st (omega (arith, w)) one.1 in
      let j : suc number + length rows ≡ number + suc (length rows) = omega arith in
      record {
        more = rest.more;
        are = rest.are;
        all_is = ap (λ x. x ∷ all) (sym one.0) ∙ ap (λ l. s ∷ l) rest.all_is;
        text_is = rest.text_is ∙ ap (λ n. shown_texts n rest.more ++ state) j;
      }
