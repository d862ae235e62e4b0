-- The numbers of the lines of rows that were read, and how many rows a text has.
use Rattle.std.proofs.Common.{◌≡◌, ℕ, zero, suc, ◌+◌, ◌≤◌, List, [], ◌∷◌, ◌++◌, length, map, take, drop, refl, sym, ap, ◌∙◌, subst, arith, append_assoc, length-append, Option, Some, None}
use Rattle.std.specs.Prelude.{is_some, slice_get}
use Rattle.std.proofs.lemmas.List.{append-nil}
use Rattle.std.proofs.lemmas.Option.{same_Some}
use Rattle.rv_shown.specs.declared.shown.ShownRow.{ShownRow}
use Rattle.rv_shown.specs.Shown.{Shown, shown_text, shown_texts, shown_in}
use Rattle.rv_reader.specs.Forms.{IsWord, IsLineOf, IsRetiredLine, IsWrittenLine, IsRow}
use Rattle.rv_reader.specs.Traces.{AreRows, IsTrace, feeds, bit, lines_of, line_numbers, line_behind}
use Rattle.rv_reader.proofs.RowLaws.{body, body_feeds}
use Rattle.rv_reader.proofs.Following.{text_parts}
use Rattle.rv_reader.proofs.BadLines.{feeds_join, feeds_free, feeds_few}
use Rattle.rv_reader.proofs.Passing.{map_long, many_feeds}

-- ---- one of a list
pub split_at : {A : Type 0} (i : ℕ) (l : List A) (x : A) → slice_get l i ≡ Some x → l ≡ take i l ++ x ∷ drop (suc i) l
split_at zero [] x e = cc
split_at (suc i) [] x e = cc
split_at zero (a ∷ l) x e = ap (λ y. y ∷ l) (same_Some a x e)
split_at (suc i) (a ∷ l) x e = ap (λ r. a ∷ r) (split_at i l x e)

pub take_one : {A : Type 0} (i : ℕ) (l : List A) (x : A) → slice_get l i ≡ Some x → take (suc i) l ≡ take i l ++ x ∷ []
take_one zero [] x e = cc
take_one (suc i) [] x e = cc
take_one zero (a ∷ l) x e = ap (λ y. y ∷ []) (same_Some a x e)
take_one (suc i) (a ∷ l) x e = ap (λ r. a ∷ r) (take_one i l x e)

pub take_count : {A : Type 0} (i : ℕ) (l : List A) → i ≤ length l → length (take i l) ≡ i
take_count zero l le = refl
take_count (suc i) [] le = absurd (omega (arith, le))
take_count (suc i) (a ∷ l) le = ap suc (take_count i l (omega (arith, le)))

pub take_whole : {A : Type 0} (l : List A) → take (length l) l ≡ l
take_whole [] = refl
take_whole (a ∷ l) = ap (λ r. a ∷ r) (take_whole l)

pub map_split : {A B : Type 0} (f : A → B) (a : List A) (x : A) (b : List A) → map f (a ++ x ∷ b) ≡ map f a ++ f x ∷ map f b
map_split f [] x b = refl
map_split f (y ∷ a) x b = ap (λ r. f y ∷ r) (map_split f a x b)

-- ---- lines
line_feeds : (InForm : List ℕ → Type 0) (m : Option ℕ) (x : List ℕ) → IsLineOf InForm m x → feeds x ≡ bit (is_some m)
unfolding feeds
line_feeds InForm None x h = ap feeds h
line_feeds InForm (Some n) x h = ap feeds h.is ∙ feeds_free h.line h.free

row_feeds : (widths : List ℕ) (stages number : ℕ) (s : Shown) → IsRow widths stages s → IsWord number → feeds (shown_text number s) ≡ 1 + bit (is_some s.retired) + bit (is_some s.written)
row_feeds widths stages number s q w =
    let parts : shown_text number s ≡ (body number s ++ 10 ∷ []) ++ (s.retired_line ++ s.written_line) =
    sym (append-nil (shown_text number s)) ∙ text_parts number s [] ∙ ap (λ t. body number s ++ 10 ∷ (s.retired_line ++ t)) (append-nil s.written_line) ∙ sym (append_assoc (body number s) (10 ∷ []) (s.retired_line ++ s.written_line)) in
    let a = ap feeds parts in
    let b = feeds_join (body number s ++ 10 ∷ []) (s.retired_line ++ s.written_line) in
    let c = feeds_free (body number s) (body_feeds (length widths) stages number s q.line w) in
    let d = feeds_join s.retired_line s.written_line in
    let e = line_feeds (IsRetiredLine widths) s.retired s.retired_line q.retired in
    let f = line_feeds (IsWrittenLine widths) s.written s.written_line q.written in
    omega (arith, a, b, c, d, e, f)

none_feeds : (number : ℕ) → feeds (shown_texts number []) ≡ 0
unfolding shown_texts feeds
none_feeds number = refl

one_text : (number : ℕ) (s : Shown) (rest : List Shown) → shown_texts number (s ∷ rest) ≡ shown_text number s ++ shown_texts (suc number) rest
unfolding shown_texts
one_text number s rest = refl

-- the line behind rows is counted by their line feeds
pub behind_feeds : (widths : List ℕ) (stages : ℕ) (text : List ℕ) (line number : ℕ) (rows : List ShownRow) → AreRows widths stages (map (shown_in stages text) rows) → number + length rows ≤ 4294967295
    → line_behind line rows ≡ line + feeds (shown_texts number (map (shown_in stages text) rows))
behind_feeds widths stages text line number [] are few = let e = none_feeds number in omega (arith, e)
behind_feeds widths stages text line number (row ∷ rows) are few =
    let s = shown_in stages text row in
    let rest = map (shown_in stages text) rows in
    let a = behind_feeds widths stages text (line + lines_of row) (suc number) rows are.1 (omega (arith, few)) in
    let b = row_feeds widths stages number s are.0 (omega (arith, few)) in
    let c = feeds_join (shown_text number s) (shown_texts (suc number) rest) in
    let d = ap feeds (one_text number s rest) in
    omega (arith, a, b, c, d)

-- the number of the line of a row is that of the line behind those before it
pub number_at : (line : ℕ) (rows : List ShownRow) (i n : ℕ) → slice_get (line_numbers line rows) i ≡ Some n → n ≡ line_behind line (take i rows)
number_at line [] i n e = cc
number_at line (r ∷ rows) zero n e = sym (same_Some line n e)
number_at line (r ∷ rows) (suc i) n e = number_at (line + lines_of r) rows i n e

pub numbers_count : (line : ℕ) (rows : List ShownRow) → length (line_numbers line rows) ≡ length rows
numbers_count line [] = refl
numbers_count line (r ∷ rows) = ap suc (numbers_count (line + lines_of r) rows)

behind_more : (line : ℕ) (rows : List ShownRow) → line ≤ line_behind line rows
behind_more line [] = omega arith
behind_more line (r ∷ rows) = let h = behind_more (line + lines_of r) rows in omega (arith, h)

pub behind_front : (line : ℕ) (rows : List ShownRow) (i : ℕ) → line_behind line (take i rows) ≤ line_behind line rows
behind_front line rows zero = behind_more line rows
behind_front line [] (suc i) = omega arith
behind_front line (r ∷ rows) (suc i) = behind_front (line + lines_of r) rows i

-- ---- rows of a text
pub rows_front : (widths : List ℕ) (stages : ℕ) (a b : List Shown) → AreRows widths stages (a ++ b) → AreRows widths stages a
rows_front widths stages [] b are = tt
rows_front widths stages (s ∷ a) b are = (are.0, rows_front widths stages a b are.1)

pub rows_here : (widths : List ℕ) (stages : ℕ) (a : List Shown) (s : Shown) (b : List Shown) → AreRows widths stages (a ++ s ∷ b) → IsRow widths stages s
rows_here widths stages [] s b are = are.0
rows_here widths stages (t ∷ a) s b are = rows_here widths stages a s b are.1

module _ (widths : List ℕ) (stages : ℕ) (text : List ℕ) (rows : List ShownRow) (state : List ℕ) (trace : IsTrace widths stages text (map (shown_in stages text) rows) state) where
  -- a text has as many line feeds as bytes at most, and a row has one
  pub few_feeds : feeds (shown_texts 0 (map (shown_in stages text) rows)) ≤ length text
  few_feeds =
      let a = feeds_few (shown_texts 0 (map (shown_in stages text) rows)) in
      let b = length-append (shown_texts 0 (map (shown_in stages text) rows)) state in
      let c = ap (λ t. length t) trace.is in
      omega (arith, a, b, c)

  pub few_rows : length rows ≤ length text
  few_rows =
      let a = many_feeds widths stages text 0 (map (shown_in stages text) rows) in
      let b = map_long (shown_in stages text) rows in
      let c = few_feeds in
      omega (arith, a, b, c)

  module _ (short : length text ≤ 1073741824) where
    whole_line : line_behind 1 rows ≡ 1 + feeds (shown_texts 0 (map (shown_in stages text) rows))
    whole_line = let a = few_rows in behind_feeds widths stages text 1 0 rows trace.rows_are (omega (arith, a, short))

    pub state_line : line_behind 1 rows ≡ suc (feeds (shown_texts 0 (map (shown_in stages text) rows)))
    state_line = let a = whole_line in omega (arith, a)

    pub state_small : line_behind 1 rows ≤ 1073741825
    state_small = let a = whole_line in let b = few_feeds in omega (arith, a, b, short)

    -- the row with this number
    module _ (i : ℕ) (row : ShownRow) (at : slice_get rows i ≡ Some row) where
      pub parts : map (shown_in stages text) rows ≡ map (shown_in stages text) (take i rows) ++ shown_in stages text row ∷ map (shown_in stages text) (drop (suc i) rows)
      parts = ap (map (shown_in stages text)) (split_at i rows row at) ∙ map_split (shown_in stages text) (take i rows) row (drop (suc i) rows)

      pub row_good : IsRow widths stages (shown_in stages text row)
      row_good = rows_here widths stages (map (shown_in stages text) (take i rows)) (shown_in stages text row) (map (shown_in stages text) (drop (suc i) rows)) (subst (AreRows widths stages) parts trace.rows_are)

      module _ (n : ℕ) (line : slice_get (line_numbers 1 rows) i ≡ Some n) where
        take_few : length (take i rows) ≤ length rows
        take_few =
            let a = ap (λ l. length l) (split_at i rows row at) in
            let b = length-append (take i rows) (row ∷ drop (suc i) rows) in
            omega (arith, a, b)

        pub line_is : n ≡ suc (feeds (shown_texts 0 (map (shown_in stages text) (take i rows))))
        line_is =
            let a = number_at 1 rows i n line in
            let front = rows_front widths stages (map (shown_in stages text) (take i rows)) (shown_in stages text row ∷ map (shown_in stages text) (drop (suc i) rows)) (subst (AreRows widths stages) parts trace.rows_are) in
            let b = take_few in
            let c = few_rows in
            let d = behind_feeds widths stages text 1 0 (take i rows) front (omega (arith, b, c, short)) in
            omega (arith, a, d)

        pub line_small : n ≤ 1073741825
        line_small =
            let a = number_at 1 rows i n line in
            let b = behind_front 1 rows i in
            let c = state_small in
            omega (arith, a, b, c)
