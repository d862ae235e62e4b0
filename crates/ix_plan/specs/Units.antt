-- The units of decoupled behaviours: how what has retired goes on in them, and what is written in a row (SCAIE-V, decoupled execution; that the lowest
-- unit writes, and that a unit which has to wait stands still, is this project's choice).
use Rattle.std.specs.Prelude.{ℕ, ◌+◌, ◌-◌, Bool, true, false, if◌then◌else◌, nat_eq, List, [], ◌∷◌, length, take, replicate, Option, Some, None}
use Rattle.ix_graph.specs.declared.graph.Mode.{Mode}
use Rattle.ix_graph.specs.declared.graph.Mode.TheVariants.{InPipeline, Tight, Decoupled, Always}
use Rattle.ix_plan.specs.declared.design.Plan.{Plan}

-- the serials in a unit, by their times: the first is one past the last stage, the last is the last time of the unit's behaviour
abbrev pub Slots : Type 0
Slots = List (Option ℕ)

-- the serial at the last time
abbrev pub finished : Slots → Option ℕ
finished [] = None
finished (s ∷ []) = s
finished (s ∷ t ∷ slots) = finished (t ∷ slots)

abbrev pub with_unit : ℕ → Option ℕ → Option (ℕ × ℕ) → Option (ℕ × ℕ)
with_unit u None others = others
with_unit u (Some serial) others = Some (u, serial)

-- the lowest unit with a serial at its last time, and this serial, among units of which the first has the number u
abbrev pub written_from : ℕ → List Slots → Option (ℕ × ℕ)
written_from u [] = None
written_from u (unit ∷ units) = with_unit u (finished unit) (written_from (u + 1) units)

-- what is written in a row: a unit and its serial
abbrev pub unit_written : List Slots → Option (ℕ × ℕ)
unit_written units = written_from 0 units

abbrev pub has_some : Option ℕ → Bool
has_some None = false
has_some (Some serial) = true

-- it is the unit u of which this speaks
abbrev pub is_of : ℕ → Option (ℕ × ℕ) → Bool
is_of u None = false
is_of u (Some entry) = nat_eq entry.0 u

-- the unit u is frozen in a row: it has a serial at its last time, and is not written
abbrev pub frozen_with : ℕ → Slots → Option (ℕ × ℕ) → Bool
frozen_with u unit written = if is_of u written then false else has_some (finished unit)

abbrev pub serial_for : ℕ → Option (ℕ × ℕ) → Option ℕ
serial_for u None = None
serial_for u (Some entry) = if nat_eq entry.0 u then Some entry.1 else None

-- each serial of the unit one time on, behind what retires into it; the one at the last time has left
abbrev pub moved_on : Option ℕ → Slots → Slots
moved_on retired unit = take (length unit) (retired ∷ unit)

-- units behind a row, the first of which has the number u: those that are frozen stay as they are
abbrev pub next_from : ℕ → Option (ℕ × ℕ) → Option (ℕ × ℕ) → List Slots → List Slots
next_from u written retired [] = []
next_from u written retired (unit ∷ units) =
    (if frozen_with u unit written then unit else moved_on (serial_for u retired) unit) ∷ next_from (u + 1) written retired units

-- the units behind a row in which what retires, if it has a unit, goes into that one
abbrev pub next_units : Option (ℕ × ℕ) → List Slots → List Slots
next_units retired units = next_from 0 (unit_written units) retired units

-- ---- the units of a design
abbrev pub unit_in : ℕ → Mode → ℕ → List Slots → List Slots
unit_in stages Decoupled last units = replicate (last + 1 - stages) None ∷ units
unit_in stages InPipeline last units = units
unit_in stages Tight last units = units
unit_in stages Always last units = units

-- at first: a unit for each decoupled behaviour, in order, in which nothing stands
abbrev pub first_units : ℕ → List Plan → List Slots
first_units stages [] = []
first_units stages (p ∷ plans) = unit_in stages p.mode p.last (first_units stages plans)
