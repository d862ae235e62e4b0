-- What a text that is not that of a lawful run is refused for, and in which line (this project's choice): the first line that fits no form; then, row by row, the first respect in which
-- a row is not right behind those before it; then the state.
use Rattle.std.specs.Prelude.{◌≡◌, ℕ, suc, ◌+◌, ◌<◌, List, [], ◌∷◌, ◌++◌, is_some}
use Rattle.ix_extension.specs.Extensions.{view_extension}
use Rattle.ix_plan.specs.declared.design.Design.{Design}
use Rattle.rv_trace.specs.declared.row.Row.{Row}
use Rattle.rv_lawful.specs.Settings.{Setting}
use Rattle.rv_shown.specs.Shown.{Shown, shown_texts}
use Rattle.rv_reader.specs.Traces.{IsTrace, feeds, bit}
use Rattle.rv_rows.specs.Made.{row_of}
use Rattle.rv_rows.specs.Kinds.{Kind, of_moves, of_hold, of_fetch, of_successor, of_unit, of_stop, of_commit, of_write, IsRight, IsAllRight}
use Rattle.rv_watch.specs.Fit.{plain_setting}
use Rattle.rv_watch.specs.Printed.{widths_of, state_behind}
use Rattle.rv_ending.specs.Differing.{IsDifferingLine}

-- the rows that are made of what is shown, the newest first, behind earlier ones
unfoldable pub rows_behind : Setting → List Row → List Shown → List Row
rows_behind k earlier [] = earlier
rows_behind k earlier (s ∷ rest) = rows_behind k (row_of k earlier s ∷ earlier) rest

-- each is right in each respect behind those before it
unfoldable pub AreAllRight : Setting → List Row → List Shown → Type 0
AreAllRight k earlier [] = Unit {0}
AreAllRight k earlier (s ∷ rest) = IsAllRight k earlier s × AreAllRight k (row_of k earlier s ∷ earlier) rest

-- in which order a row is judged
abbrev pub number_of : Kind → ℕ
number_of of_moves = 0
number_of of_hold = 1
number_of of_fetch = 2
number_of of_successor = 3
number_of of_unit = 4
number_of of_stop = 5
number_of of_commit = 6
number_of of_write = 7

-- how many lines below that of its row this respect stands
abbrev pub lines_below : Shown → Kind → ℕ
lines_below s of_moves = 0
lines_below s of_hold = 0
lines_below s of_fetch = 0
lines_below s of_successor = 0
lines_below s of_unit = 0
lines_below s of_stop = 0
lines_below s of_commit = 1
lines_below s of_write = 1 + bit (is_some s.retired)

-- the text is read as these rows and this state
abbrev pub IsReadAs : Design → List ℕ → List Shown → List ℕ → Type 0
IsReadAs d text rows state = IsTrace (widths_of (view_extension d.extension)) d.sheet.shape.stages text rows state

-- all rows before this one are right; it is right in each respect that is judged before this one, and not in this one
pub record IsRowFault (d : Design) (image waits text : List ℕ) (kind : Kind) (line : ℕ) : Type 0 where
  pub before : List Shown
  pub s : Shown
  pub rest : List Shown
  pub state : List ℕ
  pub read : IsReadAs d text (before ++ s ∷ rest) state
  pub right : AreAllRight (plain_setting d image waits) [] before
  pub so_far : (other : Kind) → number_of other < number_of kind → IsRight (plain_setting d image waits) (rows_behind (plain_setting d image waits) [] before) s other
  pub wrong : IsRight (plain_setting d image waits) (rows_behind (plain_setting d image waits) [] before) s kind → ⊥
  pub line_is : line ≡ suc (feeds (shown_texts 0 before)) + lines_below s kind

-- all rows are right, and the state is not that behind them
pub record IsStateFault (d : Design) (image waits text : List ℕ) (line : ℕ) : Type 0 where
  pub rows : List Shown
  pub state : List ℕ
  pub read : IsReadAs d text rows state
  pub right : AreAllRight (plain_setting d image waits) [] rows
  pub differs : IsDifferingLine (suc (feeds (shown_texts 0 rows))) state (state_behind d image waits (rows_behind (plain_setting d image waits) [] rows)) line
