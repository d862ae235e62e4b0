use Rattle.std.proofs.Common.{◌∙◌, ap, sym, refl}
use Rattle.ix_mean.specs.declared.resolved.ResolvedStmt as S
use Rattle.ix_mean.proofs.Executing.{block_is}
use Rattle.ix_slots.specs.Spawned.{spawned_among}
use Rattle.ix_slots.proofs.Spawns.{spawned_block}
use Rattle.ix_slots.proofs.statement.nothing.Goals as goal

pub returns-clause-body : goal.returns-clause-body
returns-clause-body c = λ tables. block_is tables (S.Block c.new.result) c.new.result _ refl (sym c.new.ensures)

pub returns-clause-plain : goal.returns-clause-plain
returns-clause-plain c = spawned_block c.new.result ∙ ap spawned_among c.new.ensures
