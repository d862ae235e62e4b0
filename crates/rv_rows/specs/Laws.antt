-- The laws of kinds (this project's choice).
use Rattle.std.specs.Prelude.{◌≡◌, ℕ, List, [], ◌∷◌, Some, None}
use Rattle.ix_plan.specs.Units.{Slots}
use Rattle.rv_seq.specs.declared.commit.Commit.{Commit}
use Rattle.rv_trace.specs.declared.row.Row.{Row}
use Rattle.rv_trace.specs.Trace.{retirements}
use Rattle.rv_lawful.specs.Settings.{Setting}
use Rattle.rv_lawful.specs.Outstanding.{Written}
use Rattle.rv_lawful.specs.LawfulTrace.{IsInForm, LawfulRow}
use Rattle.rv_lawful.specs.Headline.{IsRecord, IsSpawnWrite}
use Rattle.rv_rows.specs.Facts.{IsPlain, AreGoingOn}
use Rattle.rv_shown.specs.Shown.{shown_of}
use Rattle.rv_rows.specs.Kinds.{RowKinds}
use Rattle.rv_rows.specs.Made.{row_of}

-- nothing stands in a unit
abbrev pub IsEmptyUnit : Slots → Type 0
IsEmptyUnit [] = Unit {0}
IsEmptyUnit (None ∷ rest) = IsEmptyUnit rest
IsEmptyUnit (Some s ∷ rest) = ⊥

abbrev pub AreEmptyUnits : List Slots → Type 0
AreEmptyUnits [] = Unit {0}
AreEmptyUnits (unit ∷ units) = IsEmptyUnit unit × AreEmptyUnits units

-- behind rows that go on, a row in form that takes no interrupt is lawful exactly where it is right in each respect
pub record KindsLaw : Type 0 where
  pub lawful : (k : Setting) (earlier : List Row) (row : Row) → IsPlain k → AreEmptyUnits k.units → AreGoingOn k earlier → IsInForm k row → row.taken ≡ None → RowKinds k earlier row → LawfulRow k earlier row
  pub kinds : (k : Setting) (earlier : List Row) (row : Row) → IsPlain k → AreEmptyUnits k.units → AreGoingOn k earlier → LawfulRow k earlier row → RowKinds k earlier row
  -- a lawful row that retires and writes what the run does is the one that is made of what it shows
  pub made : (k : Setting) (earlier : List Row) (row : Row) → IsPlain k → AreGoingOn k earlier → LawfulRow k earlier row
      → ((s : ℕ) (c : Commit) → row.retired ≡ Some (s, c) → IsRecord k (retirements earlier) c) → ((w : Written) → row.written ≡ Some w → IsSpawnWrite k earlier w)
      → row ≡ row_of k earlier (shown_of k.shape.stages row)
