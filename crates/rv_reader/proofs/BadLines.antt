-- The first bad line, where it stands in a row.
use Rattle.std.proofs.Common.{◌≡◌, ℕ, suc, ◌+◌, ◌≤◌, ◌==◌, ◌⊎◌, inl, inr, List, [], ◌∷◌, ◌++◌, length, drop, refl, sym, ap, ◌∙◌, subst, arith, append_assoc, Option, Some, None, Bool, true, false, lit<}
use Rattle.std.specs.Prelude.{decimal, codes, is_some, if◌then◌else◌}
use Rattle.std.proofs.lemmas.Bool.{cases_Bool}
use Rattle.std.proofs.lemmas.List.{append-nil}
use Rattle.ix_io.specs.Out.{hex_digits}
use Rattle.ix_lines.specs.Lines.{text_of}
use Rattle.rv_shown.specs.Shown.{Shown, shown_text, shown_texts}
use Rattle.rv_reader.specs.Words.{Free, and_then, until, from, behind_in, number_in, digits_in}
use Rattle.rv_reader.specs.Writes.{serial_behind, address_behind, x_in, custom_in, customs_in, registers_in, store_in, is_next, is_retired_line, is_written_line, is_pc_line}
use Rattle.rv_reader.specs.Forms.{IsWord, IsLineOf, IsRetiredLine, IsWrittenLine, IsRowLine, IsRow}
use Rattle.rv_reader.specs.Traces.{AreRows, AreLines, IsState, Begins, IsBadLine, IsReadTo, feeds}
use Rattle.rv_reader.proofs.Readings.{BeginsWith, number_back, digits_back}
use Rattle.rv_reader.proofs.Frees.{free_word, free_hex, free_join, free_by_test, until_begin, from_begin}
use Rattle.rv_reader.proofs.RowLaws.{body}
use Rattle.rv_reader.proofs.Following.{text_parts, with_lines, goes_on}

-- ---- lines that complete a text
pub serial_back : (front : List ℕ) (n : ℕ) (text rest : List ℕ) → behind_in front text ≡ Some (decimal n ++ rest) → IsWord n → BeginsWith 32 rest → serial_behind front text ≡ Some rest
unfolding serial_behind
serial_back front n text rest e w b =
    let free = free_word 32 n (inl (omega arith)) w in
    ap (λ o. and_then o (λ r. and_then (number_in 4294967295 (until 32 r)) (λ s. Some (from 32 r)))) e
    ∙ ap (λ t. and_then (number_in 4294967295 t) (λ s. Some (from 32 (decimal n ++ rest)))) (until_begin 32 (decimal n) rest free b)
    ∙ ap (λ o. and_then o (λ s. Some (from 32 (decimal n ++ rest)))) (number_back 4294967295 n w (lit< tt))
    ∙ ap (λ t. Some t) (from_begin 32 (decimal n) rest free b)

address_back : (front : List ℕ) (text rest : List ℕ) → behind_in front text ≡ Some (hex_digits 8 0 ++ rest) → BeginsWith 32 rest → address_behind front text ≡ Some rest
unfolding address_behind
address_back front text rest e b =
    let free : Free 32 (hex_digits 8 0) = free_hex 32 8 0 refl in
    ap (λ o. and_then o (λ r. and_then (digits_in 8 (until 32 r)) (λ s. Some (from 32 r)))) e
    ∙ ap (λ t. and_then (digits_in 8 t) (λ s. Some (from 32 (hex_digits 8 0 ++ rest)))) (until_begin 32 (hex_digits 8 0) rest free b)
    ∙ ap (λ o. and_then o (λ s. Some (from 32 (hex_digits 8 0 ++ rest)))) (digits_back 8 0 (omega arith))
    ∙ ap (λ t. Some t) (from_begin 32 (hex_digits 8 0) rest free b)

no_customs : (late : Bool) (k : ℕ) (widths : List ℕ) → customs_in late k widths [] ≡ Some []
unfolding customs_in custom_in behind_in
no_customs late k [] = refl
no_customs late k (w ∷ widths) = no_customs late (suc k) widths

no_registers : (late : Bool) (widths : List ℕ) → registers_in late widths [] ≡ Some []
unfolding registers_in x_in behind_in
no_registers late widths = no_customs late 0 widths

zero_word : IsWord 0
zero_word = omega arith

abbrev some_retired : List ℕ
some_retired = codes "= " ++ (decimal 0 ++ 32 ∷ (hex_digits 8 0 ++ 32 ∷ (hex_digits 8 0 ++ [])))

retired_good : (widths : List ℕ) → IsRetiredLine widths some_retired
unfolding is_retired_line behind_in store_in is_next
retired_good widths =
    ap (λ o. is_some (and_then o (λ a. and_then (address_behind (codes " ") a) (λ b. and_then (address_behind (codes " ") b) (λ c. and_then (registers_in true widths c) (λ d. and_then (store_in d) (λ e. if is_next e then Some e else None)))))))
    (serial_back (codes "= ") 0 some_retired (32 ∷ (hex_digits 8 0 ++ 32 ∷ (hex_digits 8 0 ++ []))) refl zero_word refl)
    ∙ ap (λ o. is_some (and_then o (λ b. and_then (address_behind (codes " ") b) (λ c. and_then (registers_in true widths c) (λ d. and_then (store_in d) (λ e. if is_next e then Some e else None))))))
    (address_back (codes " ") (32 ∷ (hex_digits 8 0 ++ 32 ∷ (hex_digits 8 0 ++ []))) (32 ∷ (hex_digits 8 0 ++ [])) refl refl)
    ∙ ap (λ o. is_some (and_then o (λ c. and_then (registers_in true widths c) (λ d. and_then (store_in d) (λ e. if is_next e then Some e else None)))))
    (address_back (codes " ") (32 ∷ (hex_digits 8 0 ++ [])) [] refl tt)
    ∙ ap (λ o. is_some (and_then o (λ d. and_then (store_in d) (λ e. if is_next e then Some e else None)))) (no_registers true widths)

retired_free : Free 10 some_retired
retired_free =
    (refl, (refl, free_join 10 (decimal 0) _ (free_word 10 0 (inl (omega arith)) zero_word) (refl, free_join 10 (hex_digits 8 0) _ (free_hex 10 8 0 refl) (refl, free_join 10 (hex_digits 8 0) [] (free_hex 10 8 0 refl) tt))))

abbrev some_written : List ℕ
some_written = codes "+ " ++ (decimal 0 ++ [])

written_good : (widths : List ℕ) → IsWrittenLine widths some_written
unfolding is_written_line behind_in
written_good widths =
    ap (λ o. is_some (and_then o (λ a. and_then (registers_in false widths a) (λ rest. if length rest == 0 then Some rest else None)))) (serial_back (codes "+ ") 0 some_written [] refl zero_word tt)
    ∙ ap (λ o. is_some (and_then o (λ rest. if length rest == 0 then Some rest else None))) (no_registers false widths)

written_free : Free 10 some_written
written_free = (refl, (refl, free_join 10 (decimal 0) [] (free_word 10 0 (inl (omega arith)) zero_word) tt))

abbrev pub some_pc : List ℕ
some_pc = codes "pc " ++ hex_digits 8 0

abbrev some_state : List ℕ
some_state = text_of (codes "state" ∷ some_pc ∷ [])

pub pc_free : Free 10 some_pc
pc_free = free_join 10 (codes "pc ") (hex_digits 8 0) (free_by_test 10 (codes "pc ") refl) (free_hex 10 8 0 refl)

pub pc_good : is_pc_line some_pc ≡ true
unfolding is_pc_line behind_in
pc_good = ap is_some (digits_back 8 0 (omega arith))

pub state_good : (widths : List ℕ) → IsState widths some_state
state_good widths = record { pc = some_pc; free = free_join 10 (codes "pc ") (hex_digits 8 0) (free_by_test 10 (codes "pc ") refl) (free_hex 10 8 0 refl); pc_is = pc_good; lines = []; grouped = tt; is = refl }

abbrev line_for : List ℕ → Option ℕ → List ℕ
line_for line None = []
line_for line (Some serial) = line ++ 10 ∷ []

good_for : (InForm : List ℕ → Type 0) (line : List ℕ) (m : Option ℕ) → Free 10 line → InForm line → IsLineOf InForm m (line_for line m)
good_for InForm line None f g = refl
good_for InForm line (Some serial) f g = record { line = line; free = f; is = refl; in_form = g }

-- the row of a line, with such lines behind it
unfoldable pub completed : Shown → Shown
completed s = with_lines s (line_for some_retired s.retired) (line_for some_written s.written)

-- and with its own line of what retires
unfoldable pub half_completed : Shown → List ℕ → Shown
half_completed s retired = with_lines s retired (line_for some_written s.written)

pub completed_good : (widths : List ℕ) (stages : ℕ) (s : Shown) → IsRowLine (length widths) stages s → IsRow widths stages (completed s)
unfolding completed with_lines
completed_good widths stages s h = record {
  line = record { stages_are = h.stages_are; cells = h.cells; retired = h.retired; written = h.written; few = h.few; flushed = h.flushed; redirect = h.redirect };
  retired = good_for (IsRetiredLine widths) some_retired s.retired retired_free (retired_good widths);
  written = good_for (IsWrittenLine widths) some_written s.written written_free (written_good widths);
}

pub half_good : (widths : List ℕ) (stages : ℕ) (s : Shown) (retired : List ℕ) → IsRowLine (length widths) stages s → IsLineOf (IsRetiredLine widths) s.retired retired → IsRow widths stages (half_completed s retired)
unfolding half_completed with_lines
half_good widths stages s retired h r = record {
  line = record { stages_are = h.stages_are; cells = h.cells; retired = h.retired; written = h.written; few = h.few; flushed = h.flushed; redirect = h.redirect };
  retired = r;
  written = good_for (IsWrittenLine widths) some_written s.written written_free (written_good widths);
}

-- ---- line feeds
pub feeds_join : (a b : List ℕ) → feeds (a ++ b) ≡ feeds a + feeds b
unfolding feeds
feeds_join [] b = omega arith
feeds_join (x ∷ a) b = elim (cases_Bool (x == 10)) [
  | inl here ↦ rw here (let h = feeds_join a b in omega (arith, h))
  | inr other ↦ rw other (feeds_join a b)
]

pub feeds_free : (line : List ℕ) → Free 10 line → feeds (line ++ 10 ∷ []) ≡ 1
unfolding feeds
feeds_free [] f = refl
feeds_free (b ∷ line) f = rw f.0 (feeds_free line f.1)

pub feeds_few : (a : List ℕ) → feeds a ≤ length a
unfolding feeds
feeds_few [] = omega arith
feeds_few (x ∷ a) = let h = feeds_few a in elim (cases_Bool (x == 10)) [
  | inl here ↦ rw here (omega (arith, h))
  | inr other ↦ rw other (omega (arith, h))
]

-- ---- what may stand behind rows
unfoldable pub IsNextText : List ℕ → ℕ → ℕ → List ℕ → Type 0
IsNextText widths stages number text =
    ((t : Shown) × (u : List ℕ) × IsRow widths stages t × (text ≡ shown_text number t ++ u)) ⊎ ((c : List ℕ) × (text ≡ codes "state" ++ 10 ∷ c))

module _ (widths : List ℕ) (stages : ℕ) where
  next_text : (number : ℕ) (more : List Shown) (state a : List ℕ) → AreRows widths stages more → IsState widths state → a ≡ shown_texts number more ++ state → IsNextText widths stages number a
  unfolding IsNextText shown_texts
  next_text number [] state a p st e = inr (text_of (st.pc ∷ st.lines), e ∙ st.is ∙ append_assoc (codes "state") (10 ∷ []) (text_of (st.pc ∷ st.lines)))
  next_text number (t ∷ more) state a p st e = inl (t, shown_texts (suc number) more ++ state, p.0, e ∙ append_assoc (shown_text number t) (shown_texts (suc number) more) state)

  more_text : (number : ℕ) (rows : List Shown) (s : Shown) → shown_texts number (rows ++ s ∷ []) ≡ shown_texts number rows ++ shown_text (number + length rows) s
  unfolding shown_texts
  more_text number [] s = append-nil (shown_text number s) ∙ (let j : number ≡ number + 0 = omega arith in ap (λ n. shown_text n s) j)
  more_text number (r ∷ rows) s =
      let j : suc number + length rows ≡ number + suc (length rows) = omega arith in
      ap (λ t. shown_text number r ++ t) (more_text (suc number) rows s ∙ ap (λ n. shown_texts (suc number) rows ++ shown_text n s) j) ∙ sym (append_assoc (shown_text number r) (shown_texts (suc number) rows) (shown_text (number + suc (length rows)) s))

  pub rows_more : (rows : List Shown) (s : Shown) → AreRows widths stages rows → IsRow widths stages s → AreRows widths stages (rows ++ s ∷ [])
  rows_more [] s p q = (q, tt)
  rows_more (r ∷ rows) s p q = (p.0, rows_more rows s p.1 q)

  pub text_more : (rows : List Shown) (s : Shown) → shown_texts 0 (rows ++ s ∷ []) ≡ shown_texts 0 rows ++ shown_text (length rows) s
  text_more rows s = more_text 0 rows s ∙ (let j : 0 + length rows ≡ length rows = omega arith in ap (λ n. shown_texts 0 rows ++ shown_text n s) j)

  pub begins_row : (rows : List Shown) (s : Shown) (front t : List ℕ) → AreRows widths stages rows → IsRow widths stages s → shown_text (length rows) s ≡ front ++ t → Begins widths stages (shown_texts 0 rows ++ front)
  begins_row rows s front t p q e = record {
    rest = t ++ some_state;
    rows = rows ++ s ∷ [];
    state = some_state;
    trace = record {
      rows_are = rows_more rows s p q;
      state_is = state_good widths;
      is = append_assoc (shown_texts 0 rows) front (t ++ some_state) ∙ ap (λ x. shown_texts 0 rows ++ x) (sym (append_assoc front t some_state) ∙ ap (λ x. x ++ some_state) (sym e)) ∙ sym (append_assoc (shown_texts 0 rows) (shown_text (length rows) s) some_state) ∙ ap (λ x. x ++ some_state) (sym (text_more rows s));
    };
  }

  pub begins_rows : (rows : List Shown) → AreRows widths stages rows → Begins widths stages (shown_texts 0 rows)
  begins_rows rows p = record { rest = some_state; rows = rows; state = some_state; trace = record { rows_are = p; state_is = state_good widths; is = refl } }

  -- what follows the rows in a text of a trace that begins with them
  pub follows : (rows all : List Shown) (state a : List ℕ) → AreRows widths stages rows → AreRows widths stages all → IsState widths state → IsWord (length rows) → shown_texts 0 rows ++ a ≡ shown_texts 0 all ++ state → IsNextText widths stages (length rows) a
  follows rows all state a p q st w e =
      let j : 0 + length rows ≡ length rows = omega arith in
      let g = goes_on widths stages 0 rows all a state p q st (omega (arith, w)) e in
      next_text (length rows) g.more state a g.are st (g.text_is ∙ ap (λ n. shown_texts n g.more ++ state) j)

  -- a bad line behind a front of a row
  pub bad_line : (text : List ℕ) (at line n : ℕ) (rows : List Shown) (front left : List ℕ) → IsReadTo widths stages text at line rows → IsWord (length rows) → drop at text ≡ front ++ left → AreLines (shown_texts 0 rows ++ front) → n ≡ line + feeds front → Begins widths stages (shown_texts 0 rows ++ front)
      → ((l more v : List ℕ) → Free 10 l → left ≡ l ++ 10 ∷ more → IsNextText widths stages (length rows) (front ++ (l ++ 10 ∷ v)) → ⊥)
      → (Free 10 left → IsNextText widths stages (length rows) (front ++ left) → ⊥) → IsBadLine widths stages text n
  bad_line text at line n rows front left r w is lines number begins next end = record {
    front = shown_texts 0 rows ++ front;
    rest = left;
    is = r.text_is ∙ ap (λ t. shown_texts 0 rows ++ t) is ∙ sym (append_assoc (shown_texts 0 rows) front left);
    lines = lines;
    number_is = omega (arith, number, r.line_is, feeds_join (shown_texts 0 rows) front);
    begins = begins;
    next = λ l more f e b. next l more b.rest f e (follows rows b.rows b.state (front ++ (l ++ 10 ∷ b.rest)) r.rows_are b.trace.rows_are b.trace.state_is w (parts front l b.rest ∙ b.trace.is));
    end = λ f all state t. end f (follows rows all state (front ++ left) r.rows_are t.rows_are t.state_is w (sym (r.text_is ∙ ap (λ x. shown_texts 0 rows ++ x) is) ∙ t.is));
  } where
    parts : (front l rest : List ℕ) → shown_texts 0 rows ++ (front ++ (l ++ 10 ∷ rest)) ≡ ((shown_texts 0 rows ++ front) ++ (l ++ 10 ∷ [])) ++ rest
    parts front l rest =
        ap (λ x. shown_texts 0 rows ++ (front ++ x)) (sym (append_assoc l (10 ∷ []) rest)) ∙ sym (append_assoc (shown_texts 0 rows) front ((l ++ 10 ∷ []) ++ rest)) ∙ sym (append_assoc (shown_texts 0 rows ++ front) (l ++ 10 ∷ []) rest)

  -- rows are lines
  ends_line : (x : List ℕ) (line : List ℕ) → (y : List ℕ) → AreLines y → AreLines ((x ++ line ++ 10 ∷ []) ++ y)
  ends_line x line y (inl e) = inr (x ++ line, ap (λ t. (x ++ line ++ 10 ∷ []) ++ t) e ∙ append-nil (x ++ line ++ 10 ∷ []))
  ends_line x line y (inr e) = inr ((x ++ line ++ 10 ∷ []) ++ e.0, ap (λ t. (x ++ line ++ 10 ∷ []) ++ t) e.1 ∙ sym (append_assoc (x ++ line ++ 10 ∷ []) e.0 (10 ∷ [])))

  pub lines_join : (x y : List ℕ) → AreLines x → AreLines y → AreLines (x ++ y)
  lines_join x y (inl e) f = subst (λ t. AreLines (t ++ y)) (sym e) f
  lines_join x y (inr e) f = subst (λ t. AreLines (t ++ y)) (sym e.1) (ends_line [] e.0 y f)

  lines_of : (InForm : List ℕ → Type 0) (m : Option ℕ) (x : List ℕ) → IsLineOf InForm m x → AreLines x
  lines_of InForm None x e = inl e
  lines_of InForm (Some n) x l = inr (l.line, l.is)

  pub row_lines : (number : ℕ) (s : Shown) → IsRow widths stages s → AreLines (shown_text number s)
  row_lines number s q =
      subst AreLines (sym (sym (append-nil (shown_text number s)) ∙ text_parts number s [] ∙ ap (λ t. body number s ++ 10 ∷ (s.retired_line ++ t)) (append-nil s.written_line) ∙ sym (append_assoc (body number s) (10 ∷ []) (s.retired_line ++ s.written_line))))
      (lines_join (body number s ++ 10 ∷ []) (s.retired_line ++ s.written_line) (inr (body number s, refl)) (lines_join s.retired_line s.written_line (lines_of (IsRetiredLine widths) s.retired s.retired_line q.retired) (lines_of (IsWrittenLine widths) s.written s.written_line q.written)))

  pub rows_lines : (number : ℕ) (rows : List Shown) → AreRows widths stages rows → AreLines (shown_texts number rows)
  unfolding shown_texts
  rows_lines number [] p = inl refl
  rows_lines number (s ∷ rows) p = lines_join (shown_text number s) (shown_texts (suc number) rows) (row_lines number s p.0) (rows_lines (suc number) rows p.1)
