use Rattle.ix_solve.proofs.Links.{framed}
use Rattle.ix_solve.proofs.bounds.network_of.Goals as goal

pub new-requires-clause-framed : goal.new-requires-clause-framed
new-requires-clause-framed c =
    rw (c.in_ok-arcs.ensures.are, c.len-2.ensures) (framed c.args.p.now c.args.bounds.now c.requires.valid c.requires.constraints c.in_ok-arcs.ensures.bytes)
