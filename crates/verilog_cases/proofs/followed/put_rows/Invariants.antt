use Rattle.std.proofs.Common.{◌≡◌}
use Rattle.verilog_cases.proofs.followed.put_rows.Given as goal

abbrev pub invariant-loop-part : goal.invariant-loop-part
invariant-loop-part l = l.sim.net ≡ l.net
