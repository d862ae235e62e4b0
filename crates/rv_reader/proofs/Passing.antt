-- Rows as they are read, one behind the other.
use Rattle.std.proofs.Common.{◌≡◌, ℕ, suc, ◌+◌, ◌<◌, ◌≤◌, List, [], ◌∷◌, ◌++◌, length, map, drop, refl, sym, ap, ◌∙◌, subst, arith, append_assoc, length-append, Option, Some, None, Bool, true, false}
use Rattle.std.specs.Prelude.{is_some}
use Rattle.std.proofs.lemmas.List.{append-nil, length-drop}
use Rattle.rv_shown.specs.declared.shown.ShownRow.{ShownRow}
use Rattle.rv_shown.specs.Shown.{Shown, shown_text, shown_texts, shown_in}
use Rattle.rv_reader.specs.Forms.{IsWord, IsLineOf, IsRetiredLine, IsWrittenLine, IsRow}
use Rattle.rv_reader.specs.Traces.{IsReadTo, IsRowAt, feeds, bit, lines_of, line_numbers, line_behind}
use Rattle.rv_reader.proofs.RowLaws.{body, body_feeds}
use Rattle.rv_reader.proofs.Following.{text_parts}
use Rattle.rv_reader.proofs.BadLines.{feeds_join, feeds_free, feeds_few, rows_more, text_more}

pub map_push : {X Y : Type 0} (f : X → Y) (xs : List X) (x : X) → map f (xs ++ x ∷ []) ≡ map f xs ++ f x ∷ []
map_push f [] x = refl
map_push f (y ∷ xs) x = ap (λ t. f y ∷ t) (map_push f xs x)

pub map_long : {X Y : Type 0} (f : X → Y) (xs : List X) → length (map f xs) ≡ length xs
map_long f [] = refl
map_long f (x ∷ xs) = ap suc (map_long f xs)

pub numbers_push : (line : ℕ) (rows : List ShownRow) (row : ShownRow) → line_numbers line (rows ++ row ∷ []) ≡ line_numbers line rows ++ line_behind line rows ∷ []
numbers_push line [] row = refl
numbers_push line (r ∷ rows) row = ap (λ t. line ∷ t) (numbers_push (line + lines_of r) rows row)

pub behind_push : (line : ℕ) (rows : List ShownRow) (row : ShownRow) → line_behind line (rows ++ row ∷ []) ≡ line_behind line rows + lines_of row
behind_push line [] row = refl
behind_push line (r ∷ rows) row = behind_push (line + lines_of r) rows row

line_feeds : (InForm : List ℕ → Type 0) (m : Option ℕ) (x : List ℕ) → IsLineOf InForm m x → feeds x ≡ bit (is_some m)
unfolding feeds
line_feeds InForm None x h = ap feeds h
line_feeds InForm (Some n) x h = ap feeds h.is ∙ feeds_free h.line h.free

module _ (widths : List ℕ) (stages : ℕ) where
  row_feeds : (number : ℕ) (s : Shown) → IsRow widths stages s → IsWord number → feeds (shown_text number s) ≡ 1 + bit (is_some s.retired) + bit (is_some s.written)
  row_feeds number s q w =
      let parts : shown_text number s ≡ (body number s ++ 10 ∷ []) ++ (s.retired_line ++ s.written_line) =
      sym (append-nil (shown_text number s)) ∙ text_parts number s [] ∙ ap (λ t. body number s ++ 10 ∷ (s.retired_line ++ t)) (append-nil s.written_line) ∙ sym (append_assoc (body number s) (10 ∷ []) (s.retired_line ++ s.written_line)) in
      let a = ap feeds parts in
      let b = feeds_join (body number s ++ 10 ∷ []) (s.retired_line ++ s.written_line) in
      let c = feeds_free (body number s) (body_feeds (length widths) stages number s q.line w) in
      let d = feeds_join s.retired_line s.written_line in
      let e = line_feeds (IsRetiredLine widths) s.retired s.retired_line q.retired in
      let f = line_feeds (IsWrittenLine widths) s.written s.written_line q.written in
      omega (arith, a, b, c, d, e, f)

  module _ (text : List ℕ) where
    pub passed_none : IsReadTo widths stages text 0 1 []
    unfolding shown_texts feeds
    passed_none = record { rows_are = tt; text_is = refl; line_is = refl }

    pub passed_row : (at line number : ℕ) (rows : List ShownRow) (row : ShownRow) → IsReadTo widths stages text at line (map (shown_in stages text) rows) → length rows ≡ number → IsWord number → IsRowAt widths stages number text at row
        → IsReadTo widths stages text row.written_line.end (line + lines_of row) (map (shown_in stages text) (rows ++ row ∷ []))
    passed_row at line number rows row r n w q =
        let before = map (shown_in stages text) rows in
        let s = shown_in stages text row in
        let count : length before ≡ number = map_long (shown_in stages text) rows ∙ n in
        let more : shown_texts 0 (before ++ s ∷ []) ≡ shown_texts 0 before ++ shown_text number s = text_more widths stages before s ∙ ap (λ k. shown_texts 0 before ++ shown_text k s) count in
        let a = row_feeds number s q.good w in
        let b = feeds_join (shown_texts 0 before) (shown_text number s) in
        let c = ap feeds more in
        subst (λ l. IsReadTo widths stages text row.written_line.end (line + lines_of row) l) (sym (map_push (shown_in stages text) rows row)) (record {
          rows_are = rows_more widths stages before s r.rows_are q.good;
          text_is = r.text_is ∙ ap (λ t. shown_texts 0 before ++ t) q.is ∙ sym (append_assoc (shown_texts 0 before) (shown_text number s) (drop row.written_line.end text)) ∙ ap (λ t. t ++ drop row.written_line.end text) (sym more);
          line_is = omega (arith, r.line_is, a, b, c);
        })

    pub line_small : (at line : ℕ) (rows : List Shown) → IsReadTo widths stages text at line rows → at ≤ length text → line ≤ at + 1
    line_small at line rows r l = omega (arith, r.line_is, feeds_few (shown_texts 0 rows), ap length r.text_is, length-append (shown_texts 0 rows) (drop at text), length-drop at text, l)

    some_feed : (number : ℕ) (s : Shown) → 1 ≤ feeds (shown_text number s)
    unfolding feeds
    some_feed number s =
        let parts = sym (append-nil (shown_text number s)) ∙ text_parts number s [] in
        let a = ap feeds parts in
        let b = feeds_join (body number s) (10 ∷ (s.retired_line ++ (s.written_line ++ []))) in
        let c : feeds (10 ∷ (s.retired_line ++ (s.written_line ++ []))) ≡ suc (feeds (s.retired_line ++ (s.written_line ++ []))) = refl in
        omega (arith, a, b, c)

    pub many_feeds : (number : ℕ) (rows : List Shown) → length rows ≤ feeds (shown_texts number rows)
    unfolding shown_texts feeds
    many_feeds number [] = omega arith
    many_feeds number (s ∷ rows) = let a = some_feed number s in let b = many_feeds (suc number) rows in let c = feeds_join (shown_text number s) (shown_texts (suc number) rows) in omega (arith, a, b, c)

    pub rows_few : (at line : ℕ) (rows : List ShownRow) → IsReadTo widths stages text at line (map (shown_in stages text) rows) → length rows < line
    rows_few at line rows r = omega (arith, r.line_is, many_feeds 0 (map (shown_in stages text) rows), map_long (shown_in stages text) rows)

pub lines_few : (row : ShownRow) → lines_of row ≤ 3
lines_few row = by_marks (is_some row.retired) (is_some row.written) where
  by_marks : (a b : Bool) → 1 + bit a + bit b ≤ 3
  by_marks true true = omega arith
  by_marks true false = omega arith
  by_marks false true = omega arith
  by_marks false false = omega arith
