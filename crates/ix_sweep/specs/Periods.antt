-- The least period with which a behaviour can be scheduled (this project's choice; schedules are Longnail's).
use Rattle.std.specs.Prelude.{◌≡◌, ℕ, ◌-◌, ◌*◌, ◌<◌, ◌≤◌, nat_lt, nat_le, if◌then◌else◌, Bool, List, [], ◌∷◌, ◌++◌, map, filter, All, Option, Some, None}
use Rattle.ix_graph.specs.declared.graph.Graph.{Graph}
use Rattle.ix_graph.specs.declared.graph.Mode.{Mode}
use Rattle.ix_sheet.specs.declared.problem.Bound.{Bound}
use Rattle.ix_sheet.specs.declared.problem.Problem.{Problem}
use Rattle.ix_sheet.specs.declared.sheet.Sheet.{Sheet}
use Rattle.ix_sheet.specs.Behaviours.{problem_of, IsWidestModeOf}
use Rattle.ix_sheet.specs.Bounds.{IsContradiction}
use Rattle.ix_sheet.specs.Schedules.{HasSchedule}
use Rattle.ix_modes.specs.Modes.{IsScheduled, FitsWidest, IsUnschedulable, IsWithout}
use Rattle.ix_sweep.specs.declared.answer.Entry.{Entry}

-- the sheet with this period in place of its own
abbrev pub at_period : Sheet → ℕ → Sheet
at_period sheet p = record { shape = sheet.shape; period = p; weighted = sheet.weighted; delay = sheet.delay; window = sheet.window }

-- in a mode, with this period, the behaviour has a legal schedule
abbrev pub FitsAt : Graph → Sheet → Mode → ℕ → Type 0
FitsAt g sheet mode p = HasSchedule (problem_of g (at_period sheet p) mode)

-- a period of a sheet with which the behaviour fits, as it does with no lesser one
pub record IsLeastPeriod (g : Graph) (sheet : Sheet) (mode : Mode) (p : ℕ) : Type 0 where
  pub some : 1 ≤ p
  pub most : p ≤ 1000000
  pub fits : FitsAt g sheet mode p
  pub least : (q : ℕ) → 1 ≤ q → q < p → FitsAt g sheet mode q → ⊥

-- the least period in a mode, or None where the behaviour fits with no period of a sheet
abbrev pub IsPeriodIn : Graph → Sheet → Mode → Option ℕ → Type 0
IsPeriodIn g sheet mode (Some p) = IsLeastPeriod g sheet mode p
IsPeriodIn g sheet mode None = (q : ℕ) → 1 ≤ q → q ≤ 1000000 → FitsAt g sheet mode q → ⊥

-- the least period in the widest windows that the behaviour may have
pub record IsPeriodOf (g : Graph) (sheet : Sheet) (block : Bool) (period : Option ℕ) : Type 0 where
  pub widest : Mode
  pub widest_is : IsWidestModeOf g block widest
  pub period_is : IsPeriodIn g sheet widest period

-- the periods among these that a sheet may have
abbrev pub allowed : List ℕ → List ℕ
allowed periods = filter (λ q. nat_le q 1000000) periods

-- the periods of the entries: of the least period, twice and four times as much, those that a sheet may have
abbrev pub periods_of : Option ℕ → List ℕ
periods_of None = []
periods_of (Some p) = allowed (p ∷ 2 * p ∷ 4 * p ∷ [])

-- a period of a sheet, with which the behaviour fits and has this mode and schedule
pub record IsEntry (g : Graph) (sheet : Sheet) (block : Bool) (entry : Entry) : Type 0 where
  pub some : 1 ≤ entry.period
  pub most : entry.period ≤ 1000000
  pub fits : FitsWidest g (at_period sheet entry.period) block
  pub scheduled : IsScheduled g (at_period sheet entry.period) block entry.scheduled

-- one entry for each of these periods, in order
pub record AreEntries (g : Graph) (sheet : Sheet) (block : Bool) (periods : List ℕ) (entries : List Entry) : Type 0 where
  pub periods_are : map (λ entry. entry.period) entries ≡ periods
  pub each : All (IsEntry g sheet block) entries

-- the entry of one more period stands behind the others, if a sheet may have this period
abbrev pub HasOneMore : Graph → Sheet → Bool → ℕ → List Entry → List Entry → Type 0
HasOneMore g sheet block period old new =
    (before : List ℕ) → AreEntries g sheet block (allowed before) old → AreEntries g sheet block (allowed (before ++ period ∷ [])) new

-- the period that is refuted: one less than a least period above 1, and the greatest where there is no least one
abbrev pub refuted_at : Option ℕ → Option ℕ
refuted_at None = Some 1000000
refuted_at (Some p) = if nat_lt 1 p then Some (p - 1) else None

-- the problem in the widest windows with the period that is refuted, and a contradiction in it
abbrev pub IsBelow : Graph → Sheet → Bool → Option ℕ → Option (Problem × List Bound) → Type 0
IsBelow g sheet block None None = Unit {0}
IsBelow g sheet block (Some q) (Some below) = IsUnschedulable g (at_period sheet q) block below.0 below.1
IsBelow g sheet block None (Some below) = ⊥
IsBelow g sheet block (Some q) None = ⊥

-- a behaviour that fits with a period fits with each greater one
abbrev pub LaterLaw : Type 0
LaterLaw = (g : Graph) (sheet : Sheet) (mode : Mode) (p q : ℕ) → p ≤ q → FitsAt g sheet mode p → FitsAt g sheet mode q

-- the sheet's own period changes nothing
abbrev pub OwnLaw : Type 0
OwnLaw = (sheet : Sheet) (p q : ℕ) → at_period (at_period sheet p) q ≡ at_period sheet q

-- bounds that contradict each other, or None where there is a legal schedule
abbrev pub IsDecided : Problem → Option (List Bound) → Type 0
IsDecided p None = HasSchedule p
IsDecided p (Some cycle) = IsContradiction p cycle

-- .. of a behaviour's problem in a mode, with a period
abbrev pub IsTested : Graph → Sheet → Mode → ℕ → Option (Problem × List Bound) → Type 0
IsTested g sheet mode p None = FitsAt g sheet mode p
IsTested g sheet mode p (Some below) = IsWithout g (at_period sheet p) mode below.0 below.1
