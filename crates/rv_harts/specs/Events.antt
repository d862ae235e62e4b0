-- What ends the younger cells of a hart in a row: the oldest cell that is turned, stops the hart, or leads elsewhere (this project's choice).
use Rattle.std.specs.Prelude.{ℕ, suc, List, [], ◌∷◌, ◌++◌, reverse, Option, Some, None, Bool, not, ◌&&◌, if◌then◌else◌, ◌==◌, is_none, option_map}
use Rattle.std.specs.List.{filter_map}
use Rattle.std.specs.Option.{option_or}
use Rattle.rv_lawful.specs.Settings.{Setting}
use Rattle.rv_seq.specs.declared.commit.Stop.{Stop}
use Rattle.rv_harts.specs.declared.event.Event.{Event}
use Rattle.rv_harts.specs.declared.event.Event.TheVariants.{Turned, Stopped, Led}
use Rattle.rv_harts.specs.declared.event.EventAt.{EventAt}
use Rattle.rv_harts.specs.declared.row.Turn.{Turn}
use Rattle.rv_harts.specs.Harts.{Fetched}
use Rattle.rv_harts.specs.Turns.{asked, stop_due, turn_of}

-- what stands in some stages
abbrev pub standing : List (Option Fetched) → List Fetched
standing stages = filter_map (λ (c : Option Fetched). c) stages

-- does the cell of this stage retire in the row, with nothing to be written later?
abbrev pub is_done : Setting → ℕ → Fetched → Bool
is_done k stage c = (suc stage == k.shape.stages) && is_none (asked k c).unit

-- what stands in some stages, of which the first is this one, and is not done by the end of the row
abbrev pub undone : Setting → ℕ → List (Option Fetched) → List Fetched
undone k stage [] = []
undone k stage (None ∷ older) = undone k (suc stage) older
undone k stage (Some c ∷ older) = if is_done k stage c then undone k (suc stage) older else c ∷ undone k (suc stage) older

-- does a cell settle its successor in this stage? At EX, or in the last stage where it writes the pc above EX
abbrev pub settles : Setting → ℕ → Fetched → Bool
settles k stage c = if (asked k c).late then suc stage == k.shape.stages else stage == k.shape.ex

-- the address behind a cell in the run
abbrev pub successor : Setting → Fetched → ℕ
successor k c = k.course.pc (suc c.place)

-- what a cell does in its stage by which the younger ones are flushed, where these cells stand in later stages, the next younger one, or else the next fetch, has this address, and of
-- what has retired these were not written in an earlier row, and these are not by the end of this one
abbrev pub event_of : Setting → List Fetched → List Fetched → ℕ → ℕ → Fetched → List (Option Fetched) → Option Event
event_of k owed kept near stage c older =
    option_or (option_map (λ (turn : Turn). Turned turn c.at) (turn_of k stage c (reverse (standing older)) (owed ++ reverse (standing older)) (kept ++ reverse (undone k (suc stage) older))))
    (option_or (if stage == k.shape.ex then option_map (λ (stop : Stop). Stopped stop) (stop_due k c) else None)
    (if settles k stage c && not (successor k c == near) then Some (Led (successor k c)) else None))

-- an event of the cell in this stage
abbrev pub event_here : ℕ → Event → EventAt
event_here stage event = record { stage = stage; event = event }

-- of the cells in these stages, of which the first is this one, the oldest that does something of the kind
abbrev pub event_from : Setting → List Fetched → List Fetched → ℕ → ℕ → List (Option Fetched) → Option EventAt
event_from k owed kept near stage [] = None
event_from k owed kept near stage (None ∷ older) = event_from k owed kept near (suc stage) older
event_from k owed kept near stage (Some c ∷ older) =
    option_or (event_from k owed kept c.at (suc stage) older) (option_map (event_here stage) (event_of k owed kept near stage c older))
