-- When the interrupt line is pending, and where a row takes it (this project's choice). `row` is the row that is judged, `earlier` are those before it.
use Rattle.std.specs.Prelude.{◌≡◌, ℕ, suc, ◌<◌, ◌≤◌, List, [], ◌∷◌, length, Option, Some, None, Bool, true, false, ◌&&◌, ◌||◌, if◌then◌else◌, is_some, is_none, ◌⊎◌}
use Rattle.rv_trace.specs.declared.row.Cell.{Cell}
use Rattle.rv_trace.specs.declared.row.Row.{Row}
use Rattle.rv_trace.specs.Trace.{has_serial, retirements}
use Rattle.rv_waits.specs.Lines.{is_raised}
use Rattle.rv_lawful.specs.Settings.{Setting, Stands}

-- the places at which the run goes to the handler, as these rows name them: each row that takes an interrupt names the count of retirements up to it and with it
unfoldable pub places : List Row → List ℕ
places [] = []
places (row ∷ earlier) = if is_some row.taken then retirements (row ∷ earlier) ∷ places earlier else places earlier

-- is the line pending in the row after these? It is raised in that row, or it was pending in the row before, which did not take it
unfoldable pub pending : List ℕ → List Row → Bool
pending lines [] = is_raised lines 0
pending lines (row ∷ earlier) = is_raised lines (suc (length earlier)) || (is_none row.taken && pending lines earlier)

-- without a line nothing is pending
abbrev pub is_line_pending : Option (List ℕ) → List Row → Bool
is_line_pending None earlier = false
is_line_pending (Some lines) earlier = pending lines earlier

-- in the row after these the line is pending, and interrupts are taken
abbrev pub is_interrupted : Setting → List Row → Bool
is_interrupted k earlier = is_line_pending k.lines earlier && k.course.enabled (retirements earlier)

-- the cell of this stage is gone after the row: it is flushed, or retires
abbrev pub IsGone : Setting → Row → ℕ → Cell → Type 0
IsGone k row stage c = (has_serial row.flushed c.serial ≡ true) ⊎ ((suc stage ≡ k.shape.stages) × (c.hold ≡ None))

-- after the row no cell stands above EX, where no cell goes on from EX
abbrev pub IsClearAfter : Setting → Row → Type 0
IsClearAfter k row = (stage : ℕ) (c : Cell) → k.shape.ex < stage → Stands k row stage c → IsGone k row stage c

-- an interrupt is taken: it is to be taken in the row, and no cell stands above EX after it. The run goes to the handler from this address, behind what the row retires; all cells at
-- EX and below are flushed, and the handler is fetched next
pub record IsEntry (k : Setting) (earlier : List Row) (row : Row) (at : ℕ) : Type 0 where
  pub interrupted : is_interrupted k earlier ≡ true
  pub clear : IsClearAfter k row
  pub value : at ≡ k.course.pc (retirements (row ∷ earlier))
  pub flushed : (stage : ℕ) (c : Cell) → stage ≤ k.shape.ex → Stands k row stage c → has_serial row.flushed c.serial ≡ true
  pub redirected : row.redirect ≡ Some k.shape.trap

-- a row takes an interrupt exactly where one is to be taken and no cell stands above EX after it
pub record TakesRightly (k : Setting) (earlier : List Row) (row : Row) : Type 0 where
  pub taken : (at : ℕ) → row.taken ≡ Some at → IsEntry k earlier row at
  pub due : is_interrupted k earlier ≡ true → IsClearAfter k row → is_some row.taken ≡ true
