use Rattle.std.proofs.Common.{◌≡◌, ℕ, map, length, drop}
use Rattle.ix_mean.specs.Meaning.{run}
use Rattle.ix_mean.specs.View.{view_statements, type_seen}
use Rattle.ix_mean.specs.contracts.evaluate.execute_all.M-Fn
use Rattle.ix_mean.specs.Given.{inputs_of, IsTypedStatementAt, numbers_of, Gives}
use Rattle.ix_mean.proofs.evaluate.+statements.Given as goal

-- what is left does from here what all does from the start
abbrev pub invariant-execute_all-loop-x : goal.invariant-execute_all-loop-x
invariant-execute_all-loop-x g l = record {
  typed : IsTypedStatementAt l.state l.slots (length l.targets) (view_statements l.tables (drop l.x-index l.all));
  types : map type_seen l.slots ≡ map type_seen l.fn.slots;
  effect : (m : ℕ → ℕ → ℕ) → Gives ((M-Fn.words g.row.M g.M.Fn).post l.memory) m
      → run (inputs_of l.state m) (view_statements l.tables (drop l.x-index l.all)) (numbers_of l.slots l.targets) ≡ run (inputs_of l.state m) (view_statements l.tables l.all) (numbers_of l.fn.slots l.fn.targets);
}
