-- What is written of a place of a file: where it stands and what is wrong, its line, and carets
-- under it.
use Rattle.std.specs.Prelude.{◌≡◌, ◌+◌, ◌-◌, ◌≤◌, ◌==◌, ◌++◌, ◌&&◌, ◌||◌, ℕ, List, cond, map, min, max, codes, decimal, slice_range, nat_lt, replicate}
use Rattle.ix_diagnose.specs.Lines.{IsLine, line_number, column}

-- a byte as it is shown: itself, if it is visible, a space or a tab, else a question mark
abbrev pub shown_byte : ℕ → ℕ
shown_byte b = cond ((b == 9) || (nat_lt 31 b && nat_lt b 127)) b 63

-- the gap under a byte before the carets
abbrev pub gap_byte : ℕ → ℕ
gap_byte b = cond (b == 9) 9 32

-- of a long line only so many bytes before the place and from it on are shown
abbrev pub room : ℕ
room = 120

abbrev pub first_shown : ℕ → ℕ → ℕ
first_shown start from = max start (from - room)

abbrev pub end_shown : ℕ → ℕ → ℕ
end_shown end from = min end (from + room)

-- a caret for each byte of the place that is shown, and one at least
abbrev pub carets : ℕ → ℕ → ℕ
carets from to = max 1 (to - from)

-- where it stands and what is wrong
abbrev pub headline : List ℕ → ℕ → ℕ → List ℕ → List ℕ
headline name line col sentence =
    name ++ (codes ":" ++ (decimal line ++ (codes ":" ++ (decimal col ++ (codes ": error: " ++ (sentence ++ codes "\n"))))))

-- the line and the carets
abbrev pub excerpt : List ℕ → ℕ → ℕ → ℕ → ℕ → List ℕ
excerpt bytes start end from to =
    map shown_byte (slice_range bytes (first_shown start from) (end_shown end from)) ++ (codes "\n"
    ++ (map gap_byte (slice_range bytes (first_shown start from) from) ++ (replicate (carets from (min to (end_shown end from))) 94 ++ codes "\n")))

-- the text tells of the bytes from `from` up to `to`, in the line in which `from` stands
pub record TellsAt (name bytes : List ℕ) (from to : ℕ) (text : List ℕ) : Type 0 where
  pub start : ℕ
  pub end : ℕ
  pub sentence : List ℕ
  pub line : IsLine bytes start end
  pub behind : start ≤ from
  pub before : from ≤ end
  pub is : text ≡ headline name (line_number bytes start) (column start from) sentence ++ excerpt bytes start end from to
