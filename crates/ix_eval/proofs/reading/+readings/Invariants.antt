use Rattle.std.proofs.Common.{◌≡◌, ℕ, map, length, drop, option_map}
use Rattle.ix_mean.specs.Meaning.{run, reads}
use Rattle.ix_mean.specs.View.{view_statements, type_seen}
use Rattle.ix_mean.specs.Given.{inputs_of, IsTypedStatementAt, numbers_of, Gives}
use Rattle.ix_eval.specs.Readings.{reading_seen, first_of, either}
use Rattle.ix_eval.specs.contracts.reading.read_first_all.M-Fn
use Rattle.ix_eval.proofs.reading.+readings.Given as goal

-- what is left does and reads from here what all does and reads from the start
abbrev pub invariant-read_first_all-loop-x : goal.invariant-read_first_all-loop-x
invariant-read_first_all-loop-x g l = record {
  typed : IsTypedStatementAt l.state l.slots (length l.targets) (view_statements l.tables (drop l.x-index l.all));
  types : map type_seen l.slots ≡ map type_seen l.fn.slots;
  effect : (m : ℕ → ℕ → ℕ) → Gives ((M-Fn.words g.row.M g.M.Fn).post l.memory) m
      → run (inputs_of l.state m) (view_statements l.tables (drop l.x-index l.all)) (numbers_of l.slots l.targets) ≡ run (inputs_of l.state m) (view_statements l.tables l.all) (numbers_of l.fn.slots l.fn.targets);
  reads : (m : ℕ → ℕ → ℕ) → Gives ((M-Fn.words g.row.M g.M.Fn).post l.memory) m
      → either (option_map reading_seen l.first) (first_of (reads (inputs_of l.state m) (view_statements l.tables (drop l.x-index l.all)) (numbers_of l.slots l.targets)))
      ≡ first_of (reads (inputs_of l.state m) (view_statements l.tables l.all) (numbers_of l.fn.slots l.fn.targets));
}
