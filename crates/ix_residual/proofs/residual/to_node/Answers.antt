use Rattle.std.proofs.Common.{◌-◌, ◌<◌, arith, ◌∙◌, length}
use Rattle.std.proofs.lemmas.List.{get_or_read}
use Rattle.ix_sheet.proofs.Paths.{last_at}
use Rattle.ix_residual.proofs.residual.to_node.Goals as goal

pub returns-in-Some : goal.returns-in-Some
returns-in-Some c =
    let path = c.in-Chain.path in
    let item = rw (c.in-Some.is, c.as_slice.ensures) at c.last.ensures.item in
    let some : 0 < length path = item.3.0 in
    let last : length path - 1 < length path = omega arith in
    rw c.in-Chain.is (get_or_read path (length path - 1) c.in-Some.op.now last item.1 0 ∙ last_at path)
