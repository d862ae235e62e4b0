use Rattle.std.proofs.Common.{arith}
use Rattle.ix_vread.proofs.Scans.{comment_found, no_comment}
use Rattle.ix_vread.proofs.scan.comment.Goals as goal

pub returns-then-closes-clause-some : goal.returns-then-closes-clause-some
returns-then-closes-clause-some c = comment_found c.args.bytes.now c.loop-at.at c.closes.result c.loop-at.invariant c.closes.ensures c.if-closes.true

pub returns-clause-none : goal.returns-clause-none
returns-clause-none c = no_comment c.args.bytes.now (λ k l. c.loop-at.invariant k (omega arith))
