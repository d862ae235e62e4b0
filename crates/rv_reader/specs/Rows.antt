-- How the line of a row is read (this project's choice).
use Rattle.std.specs.Prelude.{ℕ, zero, suc, ◌==◌, List, [], ◌∷◌, ◌++◌, length, take, Option, Some, None, if◌then◌else◌, nat_lt, codes}
use Rattle.std.specs.Str.{bytes_eq}
use Rattle.ix_plan.specs.declared.design.Target.TheVariants.{X, Custom as custom_target}
use Rattle.rv_trace.specs.declared.row.Hold.{Hold}
use Rattle.rv_trace.specs.declared.row.Hold.TheVariants.{Operand, Board, Custom, Late, Drain, Wait, StoreAhead, Tail, UnitFull, Port, Behind}
use Rattle.rv_trace.specs.RowParts.{given}
use Rattle.rv_seq.specs.declared.commit.Stop.{Stop}
use Rattle.rv_seq.specs.declared.commit.Stop.TheVariants.{Ecall, Ebreak, Illegal, Fetch, Misaligned, DataRange, Target as target_stop}
use Rattle.rv_shown.specs.declared.shown.ShownCell.{ShownCell}
use Rattle.rv_shown.specs.declared.shown.ShownRow.{ShownRow}
use Rattle.rv_shown.specs.Shown.{Shown}
use Rattle.rv_reader.specs.Words.{and_then, or_else, until, from, behind_in, number_in, below_in, digits_in}

-- ---- holds
-- a number of at most so much before the bracket that ends a text
abbrev pub closed_in : ℕ → List ℕ → Option ℕ
closed_in most text = if length (from 41 text) == 1 then number_in most (until 41 text) else None

-- such a number behind a front
abbrev pub one_in : List ℕ → ℕ → List ℕ → Option ℕ
one_in front most word = and_then (behind_in front word) (λ rest. closed_in most rest)

-- a front, a number below so many, a comma, a serial and a bracket
abbrev pub pair_in : List ℕ → ℕ → List ℕ → Option (ℕ × ℕ)
pair_in front count word =
    and_then (behind_in front word)
    (λ rest. and_then (below_in count (until 44 rest))
    (λ number. and_then (one_in (codes ",") 4294967295 (from 44 rest))
    (λ serial. Some (number, serial))))

unfoldable pub register_hold_in : ℕ → List ℕ → Option Hold
register_hold_in count word =
    or_else (and_then (pair_in (codes "Operand(x") 32 word) (λ p. Some (Operand p.0 p.1)))
    (or_else (and_then (pair_in (codes "Board(x") 32 word) (λ p. Some (Board (X p.0) p.1)))
    (or_else (and_then (pair_in (codes "Board(c") count word) (λ p. Some (Board (custom_target p.0) p.1)))
    (and_then (pair_in (codes "Custom(c") count word) (λ p. Some (Custom p.0 p.1)))))

unfoldable pub serial_hold_in : List ℕ → Option Hold
serial_hold_in word =
    or_else (and_then (one_in (codes "Late(") 4294967295 word) (λ j. Some (Late j)))
    (or_else (and_then (one_in (codes "Drain(") 4294967295 word) (λ j. Some (Drain j)))
    (or_else (and_then (one_in (codes "StoreAhead(") 4294967295 word) (λ j. Some (StoreAhead j)))
    (and_then (one_in (codes "Port(") 4294967295 word) (λ j. Some (Port j)))))

unfoldable pub small_hold_in : List ℕ → Option Hold
small_hold_in word =
    or_else (and_then (one_in (codes "Wait(") 255 word) (λ n. Some (Wait n)))
    (or_else (and_then (one_in (codes "Tail(") 255 word) (λ n. Some (Tail n)))
    (and_then (one_in (codes "UnitFull(") 255 word) (λ n. Some (UnitFull n))))

unfoldable pub hold_in : ℕ → List ℕ → Option Hold
hold_in count word = if bytes_eq word (codes "Behind") then Some Behind else or_else (register_hold_in count word) (or_else (serial_hold_in word) (small_hold_in word))

-- ---- cells
-- nothing, or a hold behind a stroke
unfoldable pub held_in : ℕ → List ℕ → Option (Option Hold)
held_in count [] = Some None
held_in count (b ∷ rest) = and_then (behind_in (codes "/") (b ∷ rest)) (λ word. and_then (hold_in count word) (λ hold. Some (Some hold)))

abbrev pub cell : ℕ → ℕ → Option Hold → ShownCell
cell serial at hold = record { serial = serial; at = at; hold = hold }

unfoldable pub cell_in : ℕ → List ℕ → Option (Option ShownCell)
cell_in count word =
    if bytes_eq word (codes "-") then Some None else
    and_then (number_in 4294967295 (until 64 word))
    (λ serial. and_then (behind_in (codes "@") (from 64 word))
    (λ rest. and_then (digits_in 8 (until 47 rest))
    (λ at. and_then (held_in count (from 47 rest))
    (λ hold. Some (Some (cell serial at hold))))))

-- so many cells behind these
unfoldable pub cells_from : ℕ → ℕ → List (Option ShownCell) → List ℕ → Option (List (Option ShownCell) × List ℕ)
cells_from count zero so_far text = Some (so_far, text)
cells_from count (suc n) so_far text =
    and_then (behind_in (codes " ") text) (λ rest. and_then (cell_in count (until 32 rest)) (λ found. cells_from count n (so_far ++ found ∷ []) (from 32 rest)))

-- ---- marks
abbrev pub marked : Option (List ℕ) → List ℕ → Option (Option ℕ × List ℕ)
marked None text = Some (None, text)
marked (Some rest) text = and_then (number_in 4294967295 (until 32 rest)) (λ serial. Some (Some serial, from 32 rest))

-- a mark with a serial, where the text begins with its front
abbrev pub mark_in : List ℕ → List ℕ → Option (Option ℕ × List ℕ)
mark_in front text = marked (behind_in front text) text

-- at most so many flushed serials from this one on, behind these
abbrev pub flushed_behind : (ℕ → List ℕ → List ℕ → Option (List ℕ × List ℕ)) → ℕ → List ℕ → List ℕ → Option (List ℕ) → Option (List ℕ × List ℕ)
flushed_behind more low so_far text None = Some (so_far, text)
flushed_behind more low so_far text (Some rest) =
    and_then (number_in 4294967295 (until 32 rest)) (λ serial. if nat_lt serial low then None else more (suc serial) (so_far ++ serial ∷ []) (from 32 rest))

unfoldable pub flushed_from : ℕ → ℕ → List ℕ → List ℕ → Option (List ℕ × List ℕ)
flushed_from zero low so_far text = Some (so_far, text)
flushed_from (suc n) low so_far text = flushed_behind (flushed_from n) low so_far text (behind_in (codes " f") text)

abbrev pub redirected : Option (List ℕ) → List ℕ → Option (Option ℕ × List ℕ)
redirected None text = Some (None, text)
redirected (Some rest) text = and_then (digits_in 8 (until 32 rest)) (λ at. Some (Some at, from 32 rest))

unfoldable pub stop_named : List ℕ → Option Stop
stop_named word =
    if bytes_eq word (codes "Ecall") then Some Ecall else
    if bytes_eq word (codes "Ebreak") then Some Ebreak else
    if bytes_eq word (codes "Illegal") then Some Illegal else
    if bytes_eq word (codes "Fetch") then Some Fetch else
    if bytes_eq word (codes "Misaligned") then Some Misaligned else
    if bytes_eq word (codes "DataRange") then Some DataRange else
    if bytes_eq word (codes "Target") then Some target_stop else None

-- nothing, or a stop
abbrev pub stop_in : List ℕ → Option (Option Stop)
stop_in [] = Some None
stop_in (b ∷ rest) = and_then (behind_in (codes " stop ") (b ∷ rest)) (λ word. and_then (stop_named word) (λ stop. Some (Some stop)))

-- the marks that end the line of a row
pub record Marks : Type 0 where
  pub retired : Option ℕ
  pub written : Option ℕ
  pub flushed : List ℕ
  pub redirect : Option ℕ
  pub stop : Option Stop

abbrev pub marks : Option ℕ → Option ℕ → List ℕ → Option ℕ → Option Stop → Marks
marks retired written flushed redirect stop = record { retired = retired; written = written; flushed = flushed; redirect = redirect; stop = stop }

unfoldable pub marks_in : ℕ → List ℕ → Option Marks
marks_in stages text =
    and_then (mark_in (codes " r") text)
    (λ r. and_then (mark_in (codes " w") r.1)
    (λ w. and_then (flushed_from stages 0 [] w.1)
    (λ f. and_then (redirected (behind_in (codes " p") f.1) f.1)
    (λ p. and_then (stop_in p.1)
    (λ stop. Some (marks r.0 w.0 f.0 p.0 stop))))))

-- ---- the row with this number, without the lines behind its own
abbrev pub bare : List (Option ShownCell) → Marks → Shown
bare cells m = record { cells = cells; retired = m.retired; written = m.written; flushed = m.flushed; redirect = m.redirect; stop = m.stop; retired_line = []; written_line = [] }

unfoldable pub row_in : ℕ → ℕ → ℕ → List ℕ → Option Shown
row_in count stages number line =
    and_then (number_in 4294967295 (until 32 line))
    (λ n. if n == number then
    and_then (cells_from count stages [] (from 32 line)) (λ c. and_then (marks_in stages c.1) (λ m. Some (bare c.0 m)))
    else None)

-- what was read of a row, on a core with so many stages
abbrev pub read_row : ℕ → ShownRow → Shown
read_row stages row =
    record { cells = take stages row.cells; retired = row.retired; written = row.written; flushed = given row.flushed; redirect = row.redirect; stop = row.stop; retired_line = []; written_line = [] }
