use Rattle.std.proofs.Common.{sym, ◌∙◌}
use Rattle.ix_cert.proofs.Decoded.{one_item}
use Rattle.ix_cert.proofs.Outcomes.{next_ok}
use Rattle.ix_lines.proofs.Found.{at_some}
use Rattle.ix_cert.proofs.read.next.Goals as goal

pub returns-in-Some : goal.returns-in-Some
returns-in-Some c =
    let read = at_some _ _ c.in-Ok.found c.in-Some.item c.in-Some.is c.in-Ok.ensures in
    next_ok c.with_item.result c.args.reading c.in-Some.item c.args.line.now read.0 read.1 (λ y v f. one_item y c.in-Some.item v read.0 (f ∙ sym read.1)) c.with_item.ensures
