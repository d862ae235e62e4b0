use Rattle.std.proofs.Common.{◌≤◌}
use Rattle.verilog_cases.proofs.modules.refused_prefixes.Given as goal

abbrev pub invariant-loop-length : goal.invariant-loop-length
invariant-loop-length l = l.refused ≤ l.length
