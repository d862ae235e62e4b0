-- Which texts are those of traces, and which line of another text is the first that fits no form in its place (this project's choice).
use Rattle.std.specs.Prelude.{◌≡◌, ◌≢◌, ℕ, suc, ◌+◌, ◌<◌, ◌≤◌, ◌⊎◌, ◌==◌, List, [], ◌∷◌, ◌++◌, length, drop, Bool, true, false, if◌then◌else◌, is_some, codes}
use Rattle.ix_lines.specs.Lines.{text_of}
use Rattle.rv_shown.specs.declared.shown.ShownRow.{ShownRow}
use Rattle.rv_shown.specs.declared.shown.Span.{Span}
use Rattle.rv_shown.specs.Shown.{Shown, shown_text, shown_texts, shown_in, part_of}
use Rattle.rv_reader.specs.Words.{Free}
use Rattle.rv_reader.specs.Writes.{is_pc_line, group_of, is_in_group}
use Rattle.rv_reader.specs.Forms.{IsLine, IsRow}

-- ---- texts
abbrev pub AreRows : List ℕ → ℕ → List Shown → Type 0
AreRows widths stages [] = Unit {0}
AreRows widths stages (s ∷ rows) = IsRow widths stages s × AreRows widths stages rows

-- lines of a state behind that of the pc: each in form in its group, and none in a group before this one
abbrev pub AreGrouped : List ℕ → ℕ → List (List ℕ) → Type 0
AreGrouped widths low [] = Unit {0}
AreGrouped widths low (line ∷ lines) = Free 10 line × (low ≤ group_of line) × (is_in_group widths (group_of line) line ≡ true) × AreGrouped widths (group_of line) lines

-- the lines of a state: that it is one, its pc, and the others
pub record IsState (widths text : List ℕ) : Type 0 where
  pub pc : List ℕ
  pub free : Free 10 pc
  pub pc_is : is_pc_line pc ≡ true
  pub lines : List (List ℕ)
  pub grouped : AreGrouped widths 1 lines
  pub is : text ≡ text_of (codes "state" ∷ pc ∷ lines)

-- rows and a state; the custom registers have these widths
pub record IsTrace (widths : List ℕ) (stages : ℕ) (text : List ℕ) (rows : List Shown) (state : List ℕ) : Type 0 where
  pub rows_are : AreRows widths stages rows
  pub state_is : IsState widths state
  pub is : text ≡ shown_texts 0 rows ++ state

-- ---- the first bad line
-- how many line feeds a text has
unfoldable pub feeds : List ℕ → ℕ
feeds [] = 0
feeds (b ∷ rest) = if b == 10 then suc (feeds rest) else feeds rest

-- the text of a trace begins so
pub record Begins (widths : List ℕ) (stages : ℕ) (front : List ℕ) : Type 0 where
  pub rest : List ℕ
  pub rows : List Shown
  pub state : List ℕ
  pub trace : IsTrace widths stages (front ++ rest) rows state

-- nothing, or lines
abbrev pub AreLines : List ℕ → Type 0
AreLines front = (front ≡ []) ⊎ ((line : List ℕ) × (front ≡ line ++ 10 ∷ []))

-- The lines before this one, counted from 1, begin the text of a trace; with it they begin none, or where no line feed ends it, the text is that of no trace.
pub record IsBadLine (widths : List ℕ) (stages : ℕ) (text : List ℕ) (number : ℕ) : Type 0 where
  pub front : List ℕ
  pub rest : List ℕ
  pub is : text ≡ front ++ rest
  pub lines : AreLines front
  pub number_is : number ≡ suc (feeds front)
  pub begins : Begins widths stages front
  pub next : (line more : List ℕ) → Free 10 line → rest ≡ line ++ 10 ∷ more → Begins widths stages (front ++ (line ++ 10 ∷ [])) → ⊥
  pub end : Free 10 rest → (rows : List Shown) (state : List ℕ) → IsTrace widths stages text rows state → ⊥

-- ---- while a text is read
-- the rows before this byte, and the number of the line that begins there
pub record IsReadTo (widths : List ℕ) (stages : ℕ) (text : List ℕ) (at line : ℕ) (rows : List Shown) : Type 0 where
  pub rows_are : AreRows widths stages rows
  pub text_is : text ≡ shown_texts 0 rows ++ drop at text
  pub line_is : line ≡ suc (feeds (shown_texts 0 rows))

-- the line that begins at this byte, which a line feed ends
pub record IsLineAt (text : List ℕ) (at : ℕ) (line : List ℕ) : Type 0 where
  pub free : Free 10 line
  pub within : at + length line + 1 ≤ length text
  pub is : drop at text ≡ line ++ 10 ∷ drop (at + length line + 1) text

-- whether the line that begins at this byte is `state`
abbrev pub HasNoState : List ℕ → ℕ → Type 0
HasNoState text at = (more : List ℕ) → drop at text ≢ codes "state" ++ 10 ∷ more

abbrev pub IsStateAt : Bool → List ℕ → ℕ → Type 0
IsStateAt true text at = IsLineAt text at (codes "state")
IsStateAt false text at = HasNoState text at

-- the line at this byte has this form, if there has to be one
abbrev pub IsLineWhere : (List ℕ → Type 0) → Bool → List ℕ → Type 0
IsLineWhere InForm false text = text ≡ []
IsLineWhere InForm true text = IsLine InForm text

pub record IsSpanAt (InForm : List ℕ → Type 0) (wanted : Bool) (text : List ℕ) (at : ℕ) (span : Span) : Type 0 where
  pub start : span.start ≡ at
  pub some : at ≤ span.end
  pub within : span.end ≤ length text
  pub is : drop at text ≡ part_of text span ++ drop span.end text
  pub good : IsLineWhere InForm wanted (part_of text span)

-- no line of this form begins at this byte, where there has to be one
pub record HasNoLine (InForm : List ℕ → Type 0) (wanted : Bool) (text : List ℕ) (at : ℕ) : Type 0 where
  pub wanted_is : wanted ≡ true
  pub none : (line more : List ℕ) → Free 10 line → drop at text ≡ line ++ 10 ∷ more → InForm line → ⊥

-- how many lines a row has
abbrev pub bit : Bool → ℕ
bit true = 1
bit false = 0

abbrev pub lines_of : ShownRow → ℕ
lines_of row = 1 + bit (is_some row.retired) + bit (is_some row.written)

-- the number of the line of each row, of which the first has this one, and of the line behind them
abbrev pub line_numbers : ℕ → List ShownRow → List ℕ
line_numbers line [] = []
line_numbers line (row ∷ rows) = line ∷ line_numbers (line + lines_of row) rows

abbrev pub line_behind : ℕ → List ShownRow → ℕ
line_behind line [] = line
line_behind line (row ∷ rows) = line_behind (line + lines_of row) rows

-- the row with this number begins at this byte
pub record IsRowAt (widths : List ℕ) (stages number : ℕ) (text : List ℕ) (at : ℕ) (row : ShownRow) : Type 0 where
  pub good : IsRow widths stages (shown_in stages text row)
  pub some : at < row.written_line.end
  pub within : row.written_line.end ≤ length text
  pub is : drop at text ≡ shown_text number (shown_in stages text row) ++ drop row.written_line.end text

-- ---- while a state is read
-- the group of the last line, or this one
abbrev pub last_group : ℕ → List (List ℕ) → ℕ
last_group low [] = low
last_group low (line ∷ lines) = last_group (group_of line) lines

-- the lines between two bytes, which are in form in their groups, and the number of the line behind them
pub record AreGroupsTo (widths text : List ℕ) (start first at line low : ℕ) : Type 0 where
  pub done : List (List ℕ)
  pub grouped : AreGrouped widths 1 done
  pub is : drop start text ≡ text_of done ++ drop at text
  pub last : last_group 1 done ≡ low
  pub line_is : line ≡ first + length done

-- all lines from this byte on are in form in their groups
pub record AreGroupsFrom (widths text : List ℕ) (start : ℕ) : Type 0 where
  pub lines : List (List ℕ)
  pub grouped : AreGrouped widths 1 lines
  pub is : drop start text ≡ text_of lines

-- the line with this number is the first that is not
pub record IsBadGroup (widths text : List ℕ) (start first number : ℕ) : Type 0 where
  pub done : List (List ℕ)
  pub left : List ℕ
  pub grouped : AreGrouped widths 1 done
  pub is : drop start text ≡ text_of done ++ left
  pub number_is : number ≡ first + length done
  pub some : left ≢ []
  pub next : (line more : List ℕ) → Free 10 line → left ≡ line ++ 10 ∷ more → last_group 1 done ≤ group_of line → is_in_group widths (group_of line) line ≡ true → ⊥

-- the lines of a state behind the first
pub record IsRest (widths text : List ℕ) : Type 0 where
  pub pc : List ℕ
  pub free : Free 10 pc
  pub pc_is : is_pc_line pc ≡ true
  pub lines : List (List ℕ)
  pub grouped : AreGrouped widths 1 lines
  pub is : text ≡ text_of (pc ∷ lines)

-- the first bad line behind the line `state`
pub record IsBadRest (widths text : List ℕ) (at line number : ℕ) : Type 0 where
  pub front : List ℕ
  pub left : List ℕ
  pub is : drop at text ≡ front ++ left
  pub lines : AreLines front
  pub number_is : number ≡ line + feeds front
  pub more : List ℕ
  pub begins : IsRest widths (front ++ more)
  pub next : (own more v : List ℕ) → Free 10 own → left ≡ own ++ 10 ∷ more → IsRest widths (front ++ (own ++ 10 ∷ v)) → ⊥
  pub end : Free 10 left → IsRest widths (front ++ left) → ⊥
