-- What the headline says of rows makes their text that of a lawful run.
use Rattle.std.proofs.Common.{ℕ, List, [], ◌∷◌, None}
use Rattle.ix_extension.specs.Extensions.{view_extension}
use Rattle.ix_plan.specs.declared.design.Design.{Design}
use Rattle.rv_trace.specs.declared.row.Row.{Row}
use Rattle.rv_lawful.specs.Settings.{setting}
use Rattle.rv_lawful.specs.Headline.{Agreeing}
use Rattle.rv_rows.specs.Recorded.{AreRecorded}
use Rattle.rv_machine.specs.LawfulText.{IsLawfulText}
use Rattle.rv_watch.specs.Audited.{IsAudited}

module _ (d : Design) (image waits : List ℕ) where
  recorded : (rows : List Row) → Agreeing (view_extension d.extension) (setting d image waits None) rows → AreRecorded (setting d image waits None []) rows
  recorded [] a = tt
  recorded (row ∷ earlier) a = (record { retired = a.0.recorded; written = a.0.written }, recorded earlier a.1)

  pub audited : (cycles : ℕ) (text : List ℕ) → IsLawfulText d image waits None cycles text → IsAudited d image waits text
  audited cycles text is = record { rows = is.rows; lawful = is.headline.lawful; recorded = recorded is.rows is.headline.agrees; text_is = is.text_is }
