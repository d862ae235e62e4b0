-- What an audit answers does not depend on which design stands for an extension and a datasheet (this project's choice). There is no interrupt line.
use Rattle.std.specs.Prelude.{◌≡◌, ℕ, ◌≤◌, ◌^◌, List, length}
use Rattle.ix_extension.specs.Extensions.{view_extension}
use Rattle.ix_plan.specs.declared.design.Design.{Design}
use Rattle.ix_standing.specs.Standing.{Stands}
use Rattle.rv_watch.specs.Fit.{plain_setting}
use Rattle.rv_watch.specs.Printed.{AreGiven}
use Rattle.rv_watch.specs.Audited.{IsAudited}
use Rattle.rv_audit.specs.declared.auditing.AuditErr.{AuditErr}
use Rattle.rv_audit.specs.Refused.{IsFault}

-- two designs of one extension on the core of one datasheet
pub record AreAlike (d e : Design) : Type 0 where
  pub extension : view_extension d.extension ≡ view_extension e.extension
  pub sheet : d.sheet ≡ e.sheet

-- where both stand, traces are judged against them by one setting
abbrev pub AlikeLaw : Type 0
AlikeLaw = (d e : Design) → Stands d → Stands e → AreAlike d e → (image waits : List ℕ) → plain_setting d image waits ≡ plain_setting e image waits

-- where both stand, no text is that of a lawful run by one of them and refused by the other: over an image of words, with waits of at most 255 rows, and of at most 2^30 bytes
abbrev pub OneAnswerLaw : Type 0
OneAnswerLaw =
    (d e : Design) (image waits text : List ℕ) (error : AuditErr) → Stands d → Stands e → AreAlike d e → AreGiven image waits → length text ≤ 2 ^ 30
    → IsAudited d image waits text → IsFault e image waits text error → ⊥
