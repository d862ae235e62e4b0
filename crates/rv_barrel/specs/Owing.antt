-- What a hart has outstanding, as it is kept (this project's choice).
use Rattle.std.specs.Prelude.{ℕ, List, [], ◌∷◌, ◌++◌, map, Option, Some, None, filter, not, if◌then◌else◌, ◌==◌}
use Rattle.std.specs.Option.{option_or}
use Rattle.ix_plan.specs.declared.design.Target.{Target}
use Rattle.rv_asks.specs.declared.asks.Asks.{Asks}
use Rattle.rv_lawful.specs.Outstanding.{targets_of}
use Rattle.rv_seq.specs.declared.answer.StepAnswer.{StepAnswer}
use Rattle.rv_seq.specs.declared.answer.StepAnswer.TheVariants.{Done, Stopped}
use Rattle.rv_past.specs.declared.step.Step.{Step}
use Rattle.rv_tried.specs.Parts.{spawned}
use Rattle.rv_unit.specs.declared.entry.Entry.{Entry}
use Rattle.rv_unit.specs.Entries.{is_number}
use Rattle.rv_barrel.specs.declared.cell.InFlight.{InFlight}
use Rattle.rv_barrel.specs.declared.cell.Owed.{Owed}

-- the oldest serial of a unit among these entries, the newest of which is first
abbrev pub oldest_of : ℕ → List Entry → Option ℕ
oldest_of unit [] = None
oldest_of unit (e ∷ older) = option_or (oldest_of unit older) (if e.unit == unit then Some e.serial else None)

-- these without that of a serial, if there is one
abbrev pub without_serial : Option ℕ → List Owed → List Owed
without_serial out owed = filter (λ (o : Owed). not (is_number out o.serial)) owed

-- what this step, of this serial, owes in this unit
abbrev pub answer_owed : ℕ → Asks → ℕ → Step → StepAnswer → Option (ℕ × Owed)
answer_owed serial asks unit step (Done d) = Some (unit, record { serial = serial; asks = asks; writes = spawned asks step.own d })
answer_owed serial asks unit step (Stopped stop) = None

abbrev pub step_owed : ℕ → Asks → ℕ → Option Step → Option (ℕ × Owed)
step_owed serial asks unit None = None
step_owed serial asks unit (Some step) = answer_owed serial asks unit step step.answer

abbrev pub unit_owed : InFlight → Option ℕ → Option (ℕ × Owed)
unit_owed c None = None
unit_owed c (Some unit) = step_owed c.serial c.asks unit c.step

-- what retires out of a slot with a unit
abbrev pub entering_by : Option InFlight → Option (ℕ × Owed)
entering_by None = None
entering_by (Some c) = unit_owed c c.asks.unit

-- what it owes
abbrev pub owed_by : Option (ℕ × Owed) → List Owed
owed_by None = []
owed_by (Some enter) = enter.1 ∷ []

-- the unit and the serial of what enters, if anything
abbrev pub unit_entered : Option (ℕ × Owed) → Option (ℕ × ℕ)
unit_entered None = None
unit_entered (Some enter) = Some (enter.0, enter.1.serial)

-- the outstanding targets of what is owed, each with its serial, in this order
abbrev pub listed : List Owed → List (ℕ × Target)
listed [] = []
listed (o ∷ newer) = map (λ (t : Target). (o.serial, t)) (targets_of o.asks) ++ listed newer
