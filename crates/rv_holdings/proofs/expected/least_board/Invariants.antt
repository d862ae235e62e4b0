use Rattle.std.proofs.Common.{◌≡◌, ◌-◌}
use Rattle.rv_holdings.specs.Expected.{first_from, board_at, register_count}
use Rattle.rv_holdings.proofs.expected.least_board.Given as goal

abbrev pub invariant-loop-number : goal.invariant-loop-number
invariant-loop-number l =
    first_from (board_at l.shape l.row l.owed l.asks l.older) l.number (register_count - l.number) ≡ first_from (board_at l.shape l.row l.owed l.asks l.older) 0 register_count
