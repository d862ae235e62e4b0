-- The summary of a run (this project's choice): how many words its program has, how many rows there are, in how many of them an instruction retired and how many had
-- the outstanding writes of one made, and the stop.
use Rattle.std.specs.Prelude.{ℕ, suc, List, [], ◌∷◌, ◌++◌, length, Option, Some, None, codes, decimal, is_some, if◌then◌else◌}
use Rattle.rv_seq.specs.declared.commit.Stop.{Stop}
use Rattle.rv_trace.specs.declared.row.Row.{Row}
use Rattle.rv_trace.specs.Trace.{newest, retirements}
use Rattle.rv_trace.specs.TraceText.{stop_text}

-- in how many rows outstanding writes are made
abbrev pub writings : List Row → ℕ
writings [] = 0
writings (row ∷ earlier) = if is_some row.written then suc (writings earlier) else writings earlier

-- the name of the stop, where there is one
abbrev pub ending_text : Option Stop → List ℕ
ending_text None = codes "none"
ending_text (Some stop) = stop_text stop

-- a number under its name, on a line of its own
abbrev pub count_line : List ℕ → ℕ → List ℕ
count_line name count = name ++ codes " " ++ decimal count ++ codes "\n"

-- the summary of these rows, the newest first, of a program with so many words
abbrev pub summary_text : ℕ → List Row → List ℕ
summary_text words rows =
    count_line (codes "words") words
    ++ count_line (codes "rows") (length rows)
    ++ count_line (codes "retired") (retirements rows)
    ++ count_line (codes "written") (writings rows)
    ++ codes "stop "
    ++ ending_text (newest rows).stop
    ++ codes "\n"
