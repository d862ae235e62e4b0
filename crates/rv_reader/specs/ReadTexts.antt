-- What is answered of a text (this project's choice).
use Rattle.std.specs.Prelude.{◌≡◌, ◌⊎◌, ℕ, List, map, codes, Result, Ok, Err}
use Rattle.rv_shown.specs.Shown.{shown_in}
use Rattle.rv_reader.specs.declared.read.ReadErr.{ReadErr}
use Rattle.rv_reader.specs.declared.read.ReadErr.TheVariants.{Line, Memory}
use Rattle.rv_reader.specs.declared.read.TraceRead.{TraceRead}
use Rattle.rv_reader.specs.Traces.{IsReadTo, IsLineAt, IsBadLine, line_numbers, line_behind}

-- the rows up to the line `state`
pub record AreRowsRead (widths : List ℕ) (stages : ℕ) (text : List ℕ) (x : TraceRead) : Type 0 where
  pub rows : IsReadTo widths stages text x.state x.state_line (map (shown_in stages text) x.rows)
  pub state : IsLineAt text x.state (codes "state")
  pub lines : x.lines ≡ line_numbers 1 x.rows
  pub state_line : x.state_line ≡ line_behind 1 x.rows

-- the line that is refused is the first bad one
abbrev pub TellsBadLine : List ℕ → ℕ → List ℕ → ReadErr → Type 0
TellsBadLine widths stages text (Line n) = IsBadLine widths stages text n
TellsBadLine widths stages text Memory = Unit {0}

-- the answer is this line, or want of memory
abbrev pub IsRefused : ℕ → Result TraceRead ReadErr → Type 0
IsRefused n (Ok x) = ⊥
IsRefused n (Err e) = (e ≡ Line n) ⊎ (e ≡ Memory)
