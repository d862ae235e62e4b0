use Rattle.std.proofs.Common.{◌∙◌, ap}
use Rattle.rv_holdings.specs.Expected.{own_hold}
use Rattle.rv_holdings.proofs.judging.own_of.Goals as goal

pub returns : goal.returns
returns c = c.own_hold.ensures ∙ ap (λ l. own_hold c.args.shape c.args.row.now c.args.known.now c.args.owed.now c.args.stage c.args.asks.now l) c.all_above-older.ensures
