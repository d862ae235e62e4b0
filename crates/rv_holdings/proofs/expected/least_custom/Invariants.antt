use Rattle.std.proofs.Common.{◌≡◌, ◌-◌}
use Rattle.rv_holdings.specs.Expected.{first_from, custom_at, custom_count}
use Rattle.rv_holdings.proofs.expected.least_custom.Given as goal

abbrev pub invariant-loop-r : goal.invariant-loop-r
invariant-loop-r l = first_from (custom_at l.shape l.row l.asks l.older) l.r (custom_count - l.r) ≡ first_from (custom_at l.shape l.row l.asks l.older) 0 custom_count
