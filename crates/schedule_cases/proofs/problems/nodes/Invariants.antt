use Rattle.std.proofs.Common.{◌≤◌, length}
use Rattle.std.specs.Prelude.{All}
use Rattle.ix_sheet.specs.Schedules.{IsWeighed}
use Rattle.schedule_cases.proofs.problems.nodes.Given as goal

abbrev pub invariant-loop : goal.invariant-loop
invariant-loop l = record {
  few : length l.ops ≤ l.counter;
  weighed : All IsWeighed l.ops;
}
