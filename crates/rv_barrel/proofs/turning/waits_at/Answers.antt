use Rattle.std.proofs.Common.{◌∙◌, ◌++◌, sym, ap, ℕ, reverse}
use Rattle.rv_harts.specs.Events.{standing as standing_of}
use Rattle.rv_barrel.specs.Cells.{fetched_of}
use Rattle.std.specs.Prelude.{get_or, false}
use Rattle.rv_barrel.proofs.Turnings.{operand_so, board_so, custom_so}
use Rattle.rv_barrel.proofs.turning.waits_at.Goals as goal

pub returns-then-does_read : goal.returns-then-does_read
returns-then-does_read c k q all d asks asked owed =
    operand_so k d c.args.asks.now (reverse (standing_of (fetched_of q c.args.older.now))) (all ++ reverse (standing_of (fetched_of q c.args.older.now))) c.args.number c.eldest_standing.result c.args.wait c.in-Operand.is asks c.if-does_read.ensures (c.eldest_standing.ensures k q asked)

pub returns-then-does_touch : goal.returns-then-does_touch
returns-then-does_touch c k q all d asks asked owed =
    board_so k d c.args.asks.now (reverse (standing_of (fetched_of q c.args.older.now))) (all ++ reverse (standing_of (fetched_of q c.args.older.now))) c.args.number c.eldest_unwritten.result c.args.wait c.in-Board.is asks c.if-does_touch.ensures (c.eldest_unwritten.ensures k q all asked owed)

pub returns-then-asks-from : goal.returns-then-asks-from
returns-then-asks-from c k q all d asks asked owed =
    custom_so k d c.args.asks.now (reverse (standing_of (fetched_of q c.args.older.now))) (all ++ reverse (standing_of (fetched_of q c.args.older.now))) c.args.number c.eldest_standing-then-asks-from.result c.args.wait c.in-Custom.is asks (sym c.if-asks-from.true ∙ ap (λ (n : ℕ). get_or c.args.asks.now.customs n false) c.from.ensures) (c.eldest_standing-then-asks-from.ensures k q asked)
