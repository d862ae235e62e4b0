-- What is kept of the rows so far (this project's choice).
use Rattle.std.specs.Prelude.{◌≡◌, ℕ, suc, ◌+◌, List, Option, Some, None, Bool, false, ◌==◌, if◌then◌else◌}
use Rattle.rv_trace.specs.declared.row.Cell.{Cell}
use Rattle.rv_trace.specs.declared.row.Row.{Row}
use Rattle.rv_trace.specs.Trace.{newest, retirements}
use Rattle.rv_lawful.specs.Settings.{Setting, Stands, is_tail, stood, tailed}
use Rattle.rv_lawful.specs.LawfulTrace.{fetch_address, next_serial}
use Rattle.rv_watch.specs.declared.kept.Kept.{Kept}

abbrev pub counted : ℕ → Bool → ℕ
counted number more = if more then number + 1 else number

-- the cell of this serial stood here before
abbrev pub was_here : Option Cell → ℕ → Bool
was_here None s = false
was_here (Some c) s = c.serial == s

-- for how many rows a cell has stood in its stage, if so many before
abbrev pub stood_then : ℕ → Option Cell → Option Cell → ℕ
stood_then number before None = 0
stood_then number before (Some c) = if was_here before c.serial then number + 1 else 1

-- for how many rows it was held by Tail
abbrev pub tailed_then : ℕ → Option Cell → Option Cell → ℕ
tailed_then number before None = 0
tailed_then number before (Some c) = counted (if was_here before c.serial then number else 0) (is_tail c.hold)

-- this is kept of these rows
pub record IsKept (k : Setting) (rows : List Row) (kept : Kept) : Type 0 where
  pub fetch : kept.fetch ≡ fetch_address k rows
  pub next : kept.next ≡ next_serial k rows
  pub retired : kept.retired ≡ retirements rows
  pub stood : (c : Cell) → Stands k (newest rows) k.shape.mem c → kept.stood ≡ stood k rows c.serial
  pub tailed : (stage : ℕ) (c : Cell) → suc stage ≡ k.shape.stages → Stands k (newest rows) stage c → kept.tailed ≡ tailed k rows c.serial
