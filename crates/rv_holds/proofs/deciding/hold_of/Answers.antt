use Rattle.rv_holds.proofs.Places.{shown_behind, shown_free}
use Rattle.rv_holds.proofs.deciding.hold_of.Goals as goal

pub returns-then-is_blocked : goal.returns-then-is_blocked
returns-then-is_blocked c =
    shown_behind c.args.shape c.args.stage c.args.token.now c.args.older.now c.first_hold.result c.if-does_stop.ensures c.first_hold.ensures c.in-None.is c.if-is_blocked.ensures

pub returns-else-is_blocked : goal.returns-else-is_blocked
returns-else-is_blocked c =
    shown_free c.args.shape c.args.stage c.args.token.now c.args.older.now c.first_hold.result c.if-does_stop.ensures c.first_hold.ensures c.in-None.is c.if-is_blocked.ensures
