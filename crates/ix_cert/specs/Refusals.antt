-- Where the lines of a text are refused.
use Rattle.std.specs.Prelude.{◌≡◌, ℕ, suc, ◌+◌, ◌<◌, ◌≤◌, List, [], ◌∷◌, length, take}
use Rattle.ix_cert.specs.declared.item.Item.{Item}
use Rattle.ix_cert.specs.declared.report.CertErr.{CertErr}
use Rattle.ix_cert.specs.declared.report.CertErr.TheVariants as err
use Rattle.ix_cert.specs.declared.report.Report.{Report}
use Rattle.ix_cert.specs.declared.state.Reading.{Reading}
use Rattle.ix_cert.specs.Layout.{Line, BeginReport, IsInForm, report_lines}
use Rattle.ix_cert.specs.Items.{IsItem, item_line}
use Rattle.ix_cert.specs.Steps.{MayFollow, after}

-- this line may stand next, and this was read with it
pub record IsNext (r : Reading) (line : Line) (more : Reading) : Type 0 where
  pub item : Item
  pub good : IsItem item
  pub is : item_line item ≡ line
  pub may : MayFollow r.version r.place item
  pub more_is : more ≡ after r item

-- this line may not stand next
abbrev pub NoNext : Reading → Line → Type 0
NoNext r line = (item : Item) → IsItem item → item_line item ≡ line → MayFollow r.version r.place item → ⊥

-- so many lines begin a report, and with the next they begin none, or there is no next and they are none
pub record IsBadPlace (lines : List Line) (before : ℕ) : Type 0 where
  pub place : before ≤ length lines
  pub front : BeginReport (take before lines)
  pub next : before < length lines → BeginReport (take (suc before) lines) → ⊥
  pub end : before ≡ length lines → (r : Report) → IsInForm r → report_lines r ≡ lines → ⊥

pub record IsBadAt (lines : List Line) (first n : ℕ) : Type 0 where
  pub before : ℕ
  pub number : n ≡ first + before
  pub bad : IsBadPlace lines before

-- what an error tells of lines of which the first has the given number
abbrev pub TellsLine : List Line → ℕ → CertErr → Type 0
TellsLine lines first (err.Line n) = IsBadAt lines first n
TellsLine lines first err.Memory = Unit {0}
TellsLine lines first e = ⊥

-- the bytes of lines, each with a line feed behind it
abbrev pub bytes_in : List Line → ℕ
bytes_in [] = 0
bytes_in (line ∷ rest) = length line + 1 + bytes_in rest

-- what was read, as a report
abbrev pub report_of : Reading → Report
report_of r = record { version = r.version; period = r.period; blocks = r.blocks }
