use Rattle.std.proofs.Common.{◌≡◌, ◌++◌, take}
use Rattle.std.specs.List.{flat_map}
use Rattle.ix_sweeps.specs.SweepText.{report_text}
use Rattle.ix_sweeps.proofs.text.put_reports.Given as goal

abbrev pub invariant-loop-report : goal.invariant-loop-report
invariant-loop-report l = l.out.items ≡ l.initial.out.items ++ flat_map report_text (take l.report-index l.reports)
