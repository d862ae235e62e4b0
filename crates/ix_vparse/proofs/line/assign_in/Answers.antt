use Rattle.std.proofs.Common.{arith}
use Rattle.ix_vparse.proofs.Taking.{assign_length}
use Rattle.ix_vparse.proofs.line.assign_in.Goals as goal

pub name_at-requires : goal.name_at-requires
name_at-requires c = (let e = assign_length c.args.scope.now c.args.right c.args.tokens.now c.requires in omega (arith, e))
