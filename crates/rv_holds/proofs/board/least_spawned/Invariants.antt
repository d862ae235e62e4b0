use Rattle.std.proofs.Common.{◌≡◌, ◌-◌}
use Rattle.rv_holds.specs.Holds.{register_count, least_from, spawner}
use Rattle.rv_holds.proofs.board.least_spawned.Given as goal

abbrev pub invariant-loop-number : goal.invariant-loop-number
invariant-loop-number l = least_from (spawner l.older l.asks) l.number (register_count - l.number) ≡ least_from (spawner l.older l.asks) 0 register_count
