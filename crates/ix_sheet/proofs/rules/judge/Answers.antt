use Rattle.std.proofs.Common.{◌≡◌, ◌∙◌, sym}
use Rattle.ix_sheet.specs.Reading.{rule_of}
use Rattle.ix_sheet.proofs.Orders.{first_in_order}
use Rattle.ix_sheet.proofs.rules.judge.Goals as goal

pub members-init : goal.members-init
members-init c =
    let items : c.into_iter-key-iterator.result ≡ c.args.table.now.entries = c.into_iter-key-iterator.ensures.into_iter_gives ∙ c.iter-key-items.ensures.rest in
    (tt, tt, rw items (sym (first_in_order (rule_of c.args.part) c.args.table.now.entries c.iter-key-items.ensures.ordered)))
