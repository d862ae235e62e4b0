-- What the printing of a report puts behind what stands already.
use Rattle.std.specs.Prelude.{◌≡◌, ◌<◌, ℕ, List, [], length, All, Option, Some, None, slice_index}
use Rattle.ix_graph.specs.declared.graph.Mode.{Mode}
use Rattle.ix_cert.specs.declared.report.ReportBlock.{ReportBlock}
use Rattle.ix_cert.specs.Layout.{Line, time_text}

abbrev pub time_field : Option ℕ → Line
time_field None = []
time_field (Some time) = time_text time

-- there is a time for each operation, where times are told
abbrev pub HasTimes : ReportBlock → Option Mode → Type 0
HasTimes b None = Unit {0}
HasTimes b (Some mode) = length b.times ≡ length b.problem.ops

pub record IsPrintable (b : ReportBlock) : Type 0 where
  pub count : length b.kinds ≡ length b.problem.ops
  pub timed : HasTimes b b.mode

abbrev pub ArePrintable : List ReportBlock → Type 0
ArePrintable blocks = All IsPrintable blocks

-- the place is one of so many, where times are told
abbrev pub IsWithin : Option Mode → ℕ → ℕ → Type 0
IsWithin None place count = Unit {0}
IsWithin (Some mode) place count = place < count

abbrev pub time_at : Option Mode → List ℕ → ℕ → Option ℕ
time_at None times place = None
time_at (Some mode) times place = Some (slice_index times place)
