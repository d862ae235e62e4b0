-- What is outstanding behind rows, as it is kept (this project's choice).
use Rattle.std.specs.Prelude.{◌≡◌, ℕ, List, map, reverse, Option, Some, None}
use Rattle.std.specs.List.{Contains}
use Rattle.ix_plan.specs.Units.{unit_written}
use Rattle.rv_asks.specs.declared.asks.Asks.{Asks}
use Rattle.rv_seq.specs.declared.answer.StepAnswer.TheVariants.{Done}
use Rattle.rv_seq.specs.declared.commit.Commit.{Commit}
use Rattle.rv_unit.specs.Slots.{units_of}
use Rattle.rv_trace.specs.declared.row.Row.{Row}
use Rattle.rv_trace.specs.Trace.{place, retirements}
use Rattle.rv_lawful.specs.Settings.{Setting}
use Rattle.rv_lawful.specs.Outstanding.{Decoupled, units_after, outstanding}
use Rattle.rv_lawful.specs.LawfulTrace.{serial_in, Lawful}
use Rattle.rv_rows.specs.Facts.{IsPlain}
use Rattle.rv_rows.specs.Recorded.{HasWords, AreRecorded}
use Rattle.rv_rows.specs.Known.{AreOwed, IsOwing}
use Rattle.rv_owing.specs.declared.owing.Owing.{Owing}
use Rattle.rv_owing.specs.Units.{HasUnits}

-- the place of an instruction in the run
abbrev pub place_of : List Row → Decoupled → ℕ
place_of rows d = place rows d.0

-- the units after the rows, what is outstanding, and where that stands in the run
pub record IsOwed (k : Setting) (rows : List Row) (o : Owing) : Type 0 where
  pub stages : o.units.stages ≡ k.shape.stages
  pub units : units_of o.units.stages o.units.lasts o.units.entries ≡ units_after k rows
  pub owed : AreOwed k rows o.owed.items
  pub places : o.places.items ≡ map (place_of rows) (reverse (outstanding k rows))

-- the serial that a unit has to write behind the rows
abbrev pub serial_granted : Setting → List Row → Option ℕ
serial_granted k rows = serial_in (unit_written (units_after k rows))

-- it is that serial, with its place in the run and what is asked of its instruction
pub record IsDueBehind (k : Setting) (rows : List Row) (due : ℕ × ℕ × Asks) : Type 0 where
  pub granted : serial_granted k rows ≡ Some due.0
  pub place : due.1 ≡ place rows due.0
  pub word : ℕ
  pub outstanding : Contains (outstanding k rows) (due.0, word)
  pub asks : due.2 ≡ k.asks word

-- there is one exactly where a unit has to write
abbrev pub AreDueBehind : Setting → List Row → Option (ℕ × ℕ × Asks) → Type 0
AreDueBehind k rows None = serial_granted k rows ≡ None
AreDueBehind k rows (Some due) = IsDueBehind k rows due

-- What enters

abbrev pub into_unit : ℕ → ℕ → Asks → Option ℕ → Option (ℕ × ℕ × ℕ × Asks)
into_unit serial place asks None = None
into_unit serial place asks (Some u) = Some (u, serial, place, asks)

-- what a row retires into a unit: the unit, the serial, its place in the run, and what is asked of its instruction
abbrev pub entering_of : Setting → List Row → Option (ℕ × Commit) → Option (ℕ × ℕ × ℕ × Asks)
entering_of k earlier None = None
entering_of k earlier (Some (s, c)) = into_unit s (retirements earlier) (k.asks c.word) (k.asks c.word).unit

-- Laws

-- what a unit has to write is outstanding
abbrev pub GrantedLaw : Setting → List Row → Type 0
GrantedLaw k rows = (s : ℕ) → serial_granted k rows ≡ Some s → (word : ℕ) × Contains (outstanding k rows) (s, word)

-- what is outstanding is of the word of the step at its place in the run
abbrev pub PlacedLaw : Setting → List Row → Type 0
PlacedLaw k rows = (s word : ℕ) → Contains (outstanding k rows) (s, word) → (c : Commit) × (k.course.answer (place rows s) ≡ Done c) × (c.word ≡ word)

pub record OwingLaw : Type 0 where
  pub owing : (k : Setting) (rows : List Row) → IsPlain k → HasUnits k → HasWords k → Lawful (λ places. k) rows → AreRecorded k rows → IsOwing k rows
  pub granted : (k : Setting) (rows : List Row) → IsPlain k → HasUnits k → HasWords k → Lawful (λ places. k) rows → AreRecorded k rows → GrantedLaw k rows
  pub placed : (k : Setting) (rows : List Row) → IsPlain k → HasUnits k → HasWords k → Lawful (λ places. k) rows → AreRecorded k rows → PlacedLaw k rows
