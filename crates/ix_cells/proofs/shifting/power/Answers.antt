use Rattle.std.proofs.Common.{arith}
use Rattle.ix_cells.proofs.Moving.{place_small}
use Rattle.ix_cells.proofs.shifting.power.Goals as goal

pub overflow_shl-result : goal.overflow_shl-result
overflow_shl-result c = (let l = place_small c.args.place c.requires in omega arith)
