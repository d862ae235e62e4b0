-- A row at a byte of a text, or the first bad line of its lines.
use Rattle.std.proofs.Common.{◌≡◌, ℕ, ◌+◌, inl, inr, List, [], ◌∷◌, ◌++◌, length, drop, refl, sym, ap, ◌∙◌, subst, arith, append_assoc, Option, Some, None, Bool, true, false}
use Rattle.std.specs.Prelude.{codes, is_some}
use Rattle.std.specs.Str.{bytes_eq}
use Rattle.std.proofs.lemmas.List.{append-nil}
use Rattle.rv_shown.specs.declared.shown.ShownRow.{ShownRow}
use Rattle.rv_shown.specs.declared.shown.Span.{Span}
use Rattle.rv_shown.specs.Shown.{Shown, shown_text, shown_texts, shown_in, part_of}
use Rattle.rv_reader.specs.Words.{Free}
use Rattle.rv_reader.specs.Rows.{bare, marks, row_in, read_row}
use Rattle.rv_reader.specs.Forms.{IsWord, IsLineOf, IsRetiredLine, IsWrittenLine, IsRow}
use Rattle.rv_reader.specs.Traces.{AreLines, IsBadLine, IsReadTo, IsLineAt, IsLineWhere, IsSpanAt, HasNoLine, HasNoState, IsStateAt, IsRowAt, Begins, feeds, bit}
use Rattle.rv_reader.proofs.Readings.{some_one, same_bytes, bytes_same}
use Rattle.rv_reader.proofs.RowLaws.{body, IsRowRead, row_sound, row_back, body_feeds}
use Rattle.rv_reader.proofs.Lining.{same_line, fed_line}
use Rattle.rv_reader.proofs.Following.{text_parts, line_one, with_lines}
use Rattle.rv_reader.proofs.BadLines.{IsNextText, completed, half_completed, completed_good, half_good, feeds_join, feeds_free, begins_row, begins_rows, bad_line, lines_join, rows_lines}

not_true : (b : Bool) → b ≡ true → b ≡ false → ⊥
not_true b e f = cc

none_some : {X : Type 0} (o : Option X) (x : X) → o ≡ None → o ≡ Some x → ⊥
none_some o x e f = cc

-- a text that begins with a line of this form
pub record HasLine (InForm : List ℕ → Type 0) (text : List ℕ) : Type 0 where
  pub line : List ℕ
  pub free : Free 10 line
  pub good : InForm line
  pub rest : List ℕ
  pub is : text ≡ line ++ 10 ∷ rest

has_line : (InForm : List ℕ → Type 0) (m : Option ℕ) (x rest : List ℕ) → is_some m ≡ true → IsLineOf InForm m x → HasLine InForm (x ++ rest)
has_line InForm None x rest e h = absurd cc
has_line InForm (Some n) x rest e h = record { line = h.line; free = h.free; good = h.in_form; rest = rest; is = ap (λ t. t ++ rest) h.is ∙ append_assoc h.line (10 ∷ []) rest }

pub line_of : (InForm : List ℕ → Type 0) (m : Option ℕ) (x : List ℕ) → IsLineWhere InForm (is_some m) x → IsLineOf InForm m x
line_of InForm None x h = h
line_of InForm (Some n) x h = h

pub where_feeds : (InForm : List ℕ → Type 0) (wanted : Bool) (x : List ℕ) → IsLineWhere InForm wanted x → feeds x ≡ bit wanted
unfolding feeds
where_feeds InForm false x h = ap feeds h
where_feeds InForm true x h = ap feeds h.is ∙ feeds_free h.line h.free

pub where_lines : (InForm : List ℕ → Type 0) (wanted : Bool) (x : List ℕ) → IsLineWhere InForm wanted x → AreLines x
where_lines InForm false x h = inl h
where_lines InForm true x h = inr (h.line, h.is)

module _ (widths : List ℕ) (stages : ℕ) (text : List ℕ) (at line : ℕ) (rows : List Shown) (r : IsReadTo widths stages text at line rows) (w : IsWord (length rows)) where
  next_fed : (x : List ℕ) → IsNextText widths stages (length rows) x → Free 10 x → ⊥
  unfolding IsNextText
  next_fed x (inl t) f = fed_line (body (length rows) t.0) _ (subst (Free 10) (t.3 ∙ text_parts (length rows) t.0 t.1) f)
  next_fed x (inr c) f = fed_line (codes "state") c.0 (subst (Free 10) c.1 f)

  all_lines : AreLines (shown_texts 0 rows ++ [])
  all_lines = lines_join widths stages (shown_texts 0 rows) [] (rows_lines widths stages 0 rows r.rows_are) (inl refl)

  all_begin : Begins widths stages (shown_texts 0 rows ++ [])
  all_begin = subst (Begins widths stages) (sym (append-nil (shown_texts 0 rows))) (begins_rows widths stages rows r.rows_are)

  number_0 : line ≡ line + feeds []
  unfolding feeds
  number_0 = omega arith

  -- no line feed behind the rows
  pub bad_end : Free 10 (drop at text) → IsBadLine widths stages text line
  bad_end f = bad_line widths stages text at line line rows [] (drop at text) r w refl all_lines number_0 all_begin (λ l more v g e n. fed_line l more (subst (Free 10) e f)) (λ g n. next_fed (drop at text) n g)

  module _ (own : List ℕ) (here : IsLineAt text at own) (no_state : HasNoState text at) where
    other_word : own ≡ codes "state" → ⊥
    other_word e = no_state (drop (at + length own + 1) text) (here.is ∙ ap (λ l. l ++ 10 ∷ drop (at + length own + 1) text) e)

    module _ (none : row_in (length widths) stages (length rows) own ≡ None) where
      no_next : (v : List ℕ) → IsNextText widths stages (length rows) (own ++ 10 ∷ v) → ⊥
      unfolding IsNextText
      no_next v (inl t) =
          let s = t.0 in
          let same = (same_line own (body (length rows) s) v (s.retired_line ++ (s.written_line ++ t.1)) here.free (body_feeds (length widths) stages (length rows) s t.2.line w) (t.3 ∙ text_parts (length rows) s t.1)).0 in
          none_some _ (bare s.cells (marks s.retired s.written s.flushed s.redirect s.stop)) none (ap (row_in (length widths) stages (length rows)) same ∙ row_back (length widths) stages (length rows) s t.2.line w)
      no_next v (inr c) = other_word (same_line own (codes "state") v c.0 here.free (refl, (refl, (refl, (refl, (refl, tt))))) c.1).0

      other : (l more v : List ℕ) → Free 10 l → drop at text ≡ l ++ 10 ∷ more → IsNextText widths stages (length rows) (l ++ 10 ∷ v) → ⊥
      other l more v g e n = no_next v (subst (λ x. IsNextText widths stages (length rows) (x ++ 10 ∷ v)) (same_line l own more (drop (at + length own + 1) text) g here.free (sym e ∙ here.is)).0 n)

      -- the line is that of no row
      pub bad_row : IsBadLine widths stages text line
      bad_row = bad_line widths stages text at line line rows [] (drop at text) r w refl all_lines number_0 all_begin other (λ g n. fed_line own _ (subst (Free 10) here.is g))

    -- a line that is owed behind a front of the row
    abbrev Owes : (List ℕ → Type 0) → List ℕ → Type 0
    Owes InForm front = (t : Shown) (u x : List ℕ) → IsRow widths stages t → shown_text (length rows) t ++ u ≡ (own ++ 10 ∷ front) ++ x → HasLine InForm x

    module _ (InForm : List ℕ → Type 0) (wanted : Bool) (front : List ℕ) (b n : ℕ) (owes : Owes InForm front) (none : HasNoLine InForm wanted text b) (is : drop at text ≡ (own ++ 10 ∷ front) ++ drop b text) where
      owed : (x : List ℕ) → IsNextText widths stages (length rows) ((own ++ 10 ∷ front) ++ x) → HasLine InForm x
      unfolding IsNextText
      owed x (inl t) = owes t.0 t.1 x t.2 (sym t.3)
      owed x (inr c) = absurd (other_word (same_line own (codes "state") (front ++ x) c.0 here.free (refl, (refl, (refl, (refl, (refl, tt))))) (sym (append_assoc own (10 ∷ front) x) ∙ c.1)).0)

      owed_next : (l more v : List ℕ) → Free 10 l → drop b text ≡ l ++ 10 ∷ more → IsNextText widths stages (length rows) ((own ++ 10 ∷ front) ++ (l ++ 10 ∷ v)) → ⊥
      owed_next l more v g e n =
          let h = owed (l ++ 10 ∷ v) n in
          none.none l more g e (subst InForm (sym (same_line l h.line v h.rest g h.free h.is).0) h.good)

      owed_end : Free 10 (drop b text) → IsNextText widths stages (length rows) ((own ++ 10 ∷ front) ++ drop b text) → ⊥
      owed_end g n = let h = owed (drop b text) n in fed_line h.line h.rest (subst (Free 10) h.is g)

      pub bad_owed : AreLines (own ++ 10 ∷ front) → n ≡ line + feeds (own ++ 10 ∷ front) → Begins widths stages (shown_texts 0 rows ++ (own ++ 10 ∷ front)) → IsBadLine widths stages text n
      bad_owed lines number begins =
          bad_line widths stages text at line n rows (own ++ 10 ∷ front) (drop b text) r w is (lines_join widths stages (shown_texts 0 rows) (own ++ 10 ∷ front) (rows_lines widths stages 0 rows r.rows_are) lines) number begins owed_next owed_end

    -- the line is that of this row
    module _ (s : Shown) (read : row_in (length widths) stages (length rows) own ≡ Some s) where
      made : IsRowRead (length widths) stages (length rows) own s
      made = row_sound (length widths) stages (length rows) own s read

      same_row : (t : Shown) (u x front : List ℕ) → IsRow widths stages t → shown_text (length rows) t ++ u ≡ (own ++ 10 ∷ front) ++ x → (bare t.cells (marks t.retired t.written t.flushed t.redirect t.stop) ≡ s) × (t.retired_line ++ (t.written_line ++ u) ≡ front ++ x)
      same_row t u x front q e =
          let lines = same_line (body (length rows) t) own (t.retired_line ++ (t.written_line ++ u)) (front ++ x) (body_feeds (length widths) stages (length rows) t q.line w) here.free (sym (text_parts (length rows) t u) ∙ e ∙ append_assoc own (10 ∷ front) x) in
          (some_one _ s (sym (row_back (length widths) stages (length rows) t q.line w) ∙ ap (row_in (length widths) stages (length rows)) lines.0 ∙ read), lines.1)

      owes_retired : is_some s.retired ≡ true → Owes (IsRetiredLine widths) []
      owes_retired e t u x q same =
          let both = same_row t u x [] q same in
          subst (HasLine (IsRetiredLine widths)) both.1 (has_line (IsRetiredLine widths) t.retired t.retired_line (t.written_line ++ u) (ap (λ y. is_some y.retired) both.0 ∙ e) q.retired)

      own_feeds : (x : List ℕ) → feeds (own ++ 10 ∷ x) ≡ 1 + feeds x
      own_feeds x = ap feeds (sym (append_assoc own (10 ∷ []) x)) ∙ feeds_join (own ++ 10 ∷ []) x ∙ (let f = feeds_free own here.free in ap (λ k. k + feeds x) f)

      completed_text : shown_text (length rows) (completed s) ≡ (own ++ 10 ∷ []) ++ ((completed s).retired_line ++ (completed s).written_line)
      unfolding completed with_lines
      completed_text =
          sym (append-nil (shown_text (length rows) (completed s))) ∙ text_parts (length rows) (completed s) [] ∙ ap (λ t. body (length rows) s ++ 10 ∷ ((completed s).retired_line ++ t)) (append-nil (completed s).written_line)
          ∙ ap (λ t. t ++ 10 ∷ ((completed s).retired_line ++ (completed s).written_line)) made.is ∙ sym (append_assoc own (10 ∷ []) ((completed s).retired_line ++ (completed s).written_line))

      feeds_nothing : feeds [] ≡ 0
      unfolding feeds
      feeds_nothing = refl

      -- no line of what retires behind it
      pub bad_retired : (wanted : Bool) → wanted ≡ is_some s.retired → HasNoLine (IsRetiredLine widths) wanted text (at + length own + 1) → IsBadLine widths stages text (line + 1)
      bad_retired wanted same none =
          bad_owed (IsRetiredLine widths) wanted [] (at + length own + 1) (line + 1) (owes_retired (sym same ∙ none.wanted_is)) none (here.is ∙ sym (append_assoc own (10 ∷ []) (drop (at + length own + 1) text))) (inr (own, refl))
          (let f = own_feeds [] in omega (arith, f, feeds_nothing)) (begins_row widths stages rows (completed s) (own ++ 10 ∷ []) ((completed s).retired_line ++ (completed s).written_line) r.rows_are (completed_good widths stages s made.good) completed_text)

      -- the line of what retires stands behind it
      module _ (part : List ℕ) (b : ℕ) (retired : IsLineOf (IsRetiredLine widths) s.retired part) (behind : drop (at + length own + 1) text ≡ part ++ drop b text) where
        owes_written : is_some s.written ≡ true → Owes (IsWrittenLine widths) part
        owes_written e t u x q same =
            let both = same_row t u x part q same in
            let lines = line_one (IsRetiredLine widths) t.retired s.retired t.retired_line part (t.written_line ++ u) x (ap (λ y. y.retired) both.0) q.retired retired both.1 in
            subst (HasLine (IsWrittenLine widths)) lines.1 (has_line (IsWrittenLine widths) t.written t.written_line u (ap (λ y. is_some y.written) both.0 ∙ e) q.written)

        half_text : shown_text (length rows) (half_completed s part) ≡ (own ++ 10 ∷ part) ++ (half_completed s part).written_line
        unfolding half_completed with_lines
        half_text =
            sym (append-nil (shown_text (length rows) (half_completed s part))) ∙ text_parts (length rows) (half_completed s part) [] ∙ ap (λ t. body (length rows) s ++ 10 ∷ (part ++ t)) (append-nil (half_completed s part).written_line)
            ∙ ap (λ t. t ++ 10 ∷ (part ++ (half_completed s part).written_line)) made.is ∙ sym (append_assoc own (10 ∷ part) (half_completed s part).written_line)

        pub bad_written : (wanted : Bool) (n : ℕ) → wanted ≡ is_some s.written → AreLines part → n ≡ line + 1 + feeds part → HasNoLine (IsWrittenLine widths) wanted text b → IsBadLine widths stages text n
        bad_written wanted n same lines number none =
            bad_owed (IsWrittenLine widths) wanted part b n (owes_written (sym same ∙ none.wanted_is)) none (here.is ∙ ap (λ t. own ++ 10 ∷ t) behind ∙ sym (append_assoc own (10 ∷ part) (drop b text)))
            (subst AreLines (append_assoc own (10 ∷ []) part) (lines_join widths stages (own ++ 10 ∷ []) part (inr (own, refl)) lines)) (let f = own_feeds part in omega (arith, f, number))
            (begins_row widths stages rows (half_completed s part) (own ++ 10 ∷ part) (half_completed s part).written_line r.rows_are (half_good widths stages s part made.good retired) half_text)

-- ---- a row that was read
module _ (widths : List ℕ) (stages number : ℕ) (text : List ℕ) (at : ℕ) (own : List ℕ) (found : ShownRow) (first second : Span) where
  abbrev pub with_spans : ShownRow
  with_spans = record { cells = found.cells; retired = found.retired; written = found.written; flushed = found.flushed; redirect = found.redirect; stop = found.stop; retired_line = first; written_line = second }

  pub row_read : IsLineAt text at own → row_in (length widths) stages number own ≡ Some (read_row stages found) → IsSpanAt (IsRetiredLine widths) (is_some found.retired) text (at + length own + 1) first → IsSpanAt (IsWrittenLine widths) (is_some found.written) text first.end second
      → IsRowAt widths stages number text at with_spans
  row_read here read a b =
      let made = row_sound (length widths) stages number own (read_row stages found) read in
      record {
        good = record {
          line = record { stages_are = made.good.stages_are; cells = made.good.cells; retired = made.good.retired; written = made.good.written; few = made.good.few; flushed = made.good.flushed; redirect = made.good.redirect };
          retired = line_of (IsRetiredLine widths) found.retired (part_of text first) a.good;
          written = line_of (IsWrittenLine widths) found.written (part_of text second) b.good;
        };
        some = omega (arith, a.some, b.some);
        within = b.within;
        is = here.is ∙ ap (λ t. own ++ 10 ∷ t) (a.is ∙ ap (λ t. part_of text first ++ t) b.is) ∙ ap (λ t. t ++ 10 ∷ (part_of text first ++ (part_of text second ++ drop second.end text))) (sym made.is)
            ∙ sym (text_parts number (shown_in stages text with_spans) (drop second.end text));
      }

-- ---- the line `state`
pub state_told : (text : List ℕ) (at : ℕ) (line : List ℕ) (told : Bool) → IsLineAt text at line → told ≡ bytes_eq line (codes "state") → IsStateAt told text at
state_told text at line true here e = subst (IsLineAt text at) (same_bytes line (codes "state") (sym e)) here
state_told text at line false here e = λ more f. not_true (bytes_eq line (codes "state")) (bytes_same line (codes "state") (same_line line (codes "state") (drop (at + length line + 1) text) more here.free (refl, (refl, (refl, (refl, (refl, tt))))) (sym here.is ∙ f)).0) (sym e)

pub state_none : (text : List ℕ) (at : ℕ) → Free 10 (drop at text) → HasNoState text at
state_none text at f = λ more e. fed_line (codes "state") more (subst (Free 10) e f)
