use Rattle.std.proofs.Common.{◌≡◌, ◌++◌, drop}
use Rattle.ix_tree.specs.TypedView.{typed_items}
use Rattle.ix_slots.specs.Found.{entries_of}
use Rattle.ix_slots.specs.Made.{made_row}
use Rattle.ix_slots.specs.Spawned.{spawned_among, made_row_spawned}
use Rattle.ix_slots.proofs.Chains.{prefixed}
use Rattle.ix_slots.proofs.statement.+statements.Given as goal

-- the statements that were made, and those to be made
abbrev pub invariant-statements-loop-x : goal.invariant-statements-loop-x
invariant-statements-loop-x l =
    (prefixed (entries_of l.names.tables) l.out (made_row l.names (typed_items (drop l.x-index l.all)) l.locals) ≡ made_row l.names (typed_items l.all) l.fn.locals)
    × (spawned_among l.out ++ made_row_spawned l.names (typed_items (drop l.x-index l.all)) l.locals ≡ made_row_spawned l.names (typed_items l.all) l.fn.locals)
