-- What a row shows of a hart, by what the hart keeps (this project's choice).
use Rattle.std.specs.Prelude.{ℕ, suc, List, [], ◌∷◌, ◌++◌, Option, Some, None}
use Rattle.rv_asks.specs.declared.asks.Asks.{Asks}
use Rattle.rv_harts.specs.declared.event.EventAt.{EventAt}
use Rattle.rv_harts.specs.declared.row.BarrelCell.{BarrelCell}
use Rattle.rv_harts.specs.declared.row.Turn.{Turn}
use Rattle.rv_harts.specs.HartRows.{turn_at}
use Rattle.rv_seq.specs.declared.answer.StepAnswer.{StepAnswer}
use Rattle.rv_seq.specs.declared.answer.StepAnswer.TheVariants.{Done, Stopped}
use Rattle.rv_seq.specs.declared.commit.Commit.{Commit}
use Rattle.rv_past.specs.declared.step.Step.{Step}
use Rattle.rv_tried.specs.Parts.{shown}
use Rattle.rv_barrel.specs.declared.cell.InFlight.{InFlight}
use Rattle.rv_barrel.specs.Cells.{Slots}

-- the cell of what stands in a slot
abbrev pub cell_from : ℕ → Option Turn → Option InFlight → Option BarrelCell
cell_from hart turned None = None
cell_from hart turned (Some c) = Some (record { hart = hart; serial = c.serial; at = c.at; word = c.word; turned = turned })

-- the cells of these stages, the first of which is this one
abbrev pub cells_from : ℕ → Option EventAt → ℕ → Slots → List (Option BarrelCell)
cells_from hart event stage [] = []
cells_from hart event stage (s ∷ older) = cell_from hart (turn_at stage event) s ∷ cells_from hart event (suc stage) older

-- the serials of what stands, the last stage first
abbrev pub serials_of : Slots → List ℕ
serials_of [] = []
serials_of (None ∷ older) = serials_of older
serials_of (Some c ∷ older) = serials_of older ++ c.serial ∷ []

-- what retires as this step, where there is one that stops nothing
abbrev pub answer_by : ℕ → Asks → StepAnswer → Option (ℕ × Commit)
answer_by serial asks (Done d) = Some (serial, shown asks d)
answer_by serial asks (Stopped stop) = None

abbrev pub step_by : ℕ → Asks → Option Step → Option (ℕ × Commit)
step_by serial asks None = None
step_by serial asks (Some step) = answer_by serial asks step.answer

abbrev pub retired_by : Option InFlight → Option (ℕ × Commit)
retired_by None = None
retired_by (Some c) = step_by c.serial c.asks c.step
