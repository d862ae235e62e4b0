use Rattle.std.proofs.Common.{◌≢◌, ℕ, ◌<◌, arith, get_or, length}
use Rattle.schedule_cases.proofs.Valid.{valid_more}
use Rattle.schedule_cases.proofs.problems.push_edge.Goals as goal

pub returns : goal.returns
returns c =
    let p = c.args.p.now in
    let fresh : (k : ℕ) → k < length p.edges → get_or p.edges k (0, 0) ≢ (c.args.from, c.args.to) =
    rw c.as_slice.ensures at (c.has_edge.ensures c.if-has_edge.false) in
    rw c.in_ok-push.ensures.ok
    (valid_more p (c.args.from, c.args.to) c.requires (omega (arith, c.if-from-to.false))
    (omega (arith, c.if-to-len.false, c.len.ensures)) fresh)
