-- What dumps are row by row.
use Rattle.std.specs.Prelude.{◌≡◌, ℕ, List, [], ◌∷◌, ◌++◌, length, Option, Some, None}
use Rattle.ix_net.specs.declared.netlist.Net.{Net}
use Rattle.ix_dump.specs.Dump.{dump_text, dump_widths, head_text, row_text}

-- the last of these rows, or, without any, the row before them (this project's choice)
abbrev pub last_row : Option (List ℕ) → List (List ℕ) → Option (List ℕ)
last_row before [] = before
last_row before (row ∷ rows) = last_row (Some row) rows

-- a dump without a row is its head, and one more row puts its text behind (this project's choice)
pub record DumpsGrow : Type 0 where
  pub head : (nets : List Net) → dump_text nets [] ≡ head_text nets
  pub more : (nets : List Net) (rows : List (List ℕ)) (now : List ℕ)
      → dump_text nets (rows ++ now ∷ []) ≡ dump_text nets rows ++ row_text (dump_widths nets) (length rows) (last_row None rows) now
