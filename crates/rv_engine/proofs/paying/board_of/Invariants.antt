use Rattle.std.proofs.Common.{◌≡◌, ◌-◌}
use Rattle.rv_holds.specs.Holds.{register_count, least_from}
use Rattle.rv_engine.specs.Owing.{holder_for}
use Rattle.rv_engine.proofs.paying.board_of.Given as goal

abbrev pub invariant-loop-number : goal.invariant-loop-number
invariant-loop-number l = least_from (holder_for l.owed l.asks) l.number (register_count - l.number) ≡ least_from (holder_for l.owed l.asks) 0 register_count
