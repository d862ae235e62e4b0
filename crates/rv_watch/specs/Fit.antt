-- A design that stands, over an image and the waits of a memory, without an interrupt line, as a trace is judged against it (this project's choice).
use Rattle.std.specs.Prelude.{ℕ, List, [], None}
use Rattle.ix_plan.specs.declared.design.Design.{Design}
use Rattle.ix_standing.specs.Standing.{Stands}
use Rattle.rv_lawful.specs.Settings.{Setting, setting}
use Rattle.rv_rows.specs.Facts.{IsPlain}
use Rattle.rv_holdings.specs.Expected.{NamesRegisters}
use Rattle.rv_rows.specs.Recorded.{HasWords}
use Rattle.rv_owing.specs.Units.{HasUnits}

abbrev pub plain_setting : Design → List ℕ → List ℕ → Setting
plain_setting d image waits = setting d image waits None []

-- what the judges of rows ask of a setting
pub record IsFit (k : Setting) : Type 0 where
  pub plain : IsPlain k
  pub registers : NamesRegisters k
  pub units : HasUnits k
  pub words : HasWords k

abbrev pub FitLaw : Type 0
FitLaw = (d : Design) (image waits : List ℕ) → Stands d → IsFit (plain_setting d image waits)
