-- A text is that of a lawful run exactly where it is read as rows that are all right, and as the state behind them (this project's choice).
use Rattle.std.specs.Prelude.{◌≡◌, ℕ, ◌≤◌, ◌^◌, List, [], length}
use Rattle.ix_plan.specs.declared.design.Design.{Design}
use Rattle.ix_standing.specs.Standing.{Stands}
use Rattle.rv_shown.specs.Shown.{Shown}
use Rattle.rv_watch.specs.Fit.{plain_setting}
use Rattle.rv_watch.specs.Printed.{state_behind, AreGiven}
use Rattle.rv_watch.specs.Audited.{IsAudited}
use Rattle.rv_watch.specs.Faults.{rows_behind, AreAllRight, IsReadAs}

-- a text is read as rows that are right in each respect, and as the state behind them
pub record IsRight (d : Design) (image waits text : List ℕ) : Type 0 where
  pub rows : List Shown
  pub state : List ℕ
  pub read : IsReadAs d text rows state
  pub right : AreAllRight (plain_setting d image waits) [] rows
  pub state_is : state ≡ state_behind d image waits (rows_behind (plain_setting d image waits) [] rows)

pub record AuditLaw : Type 0 where
  pub sound : (d : Design) (image waits text : List ℕ) → Stands d → IsRight d image waits text → IsAudited d image waits text
  -- an image of words, waits of at most 255 rows, and a text of at most 2^30 bytes
  pub complete : (d : Design) (image waits text : List ℕ) → Stands d → AreGiven image waits → length text ≤ 2 ^ 30 → IsAudited d image waits text → IsRight d image waits text
