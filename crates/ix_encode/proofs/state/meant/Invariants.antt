use Rattle.std.proofs.Common.{◌≡◌, map}
use Rattle.ix_tree.specs.TypedView.{typed_state}
use Rattle.ix_extension.specs.Extensions.{registers_of, tables_of}
use Rattle.ix_encode.proofs.state.meant.Given as goal

abbrev pub invariant-loop-state : goal.invariant-loop-state
invariant-loop-state l =
    record {
      registers : l.states.registers ≡ registers_of (map typed_state l.yielded);
      tables : l.states.tables ≡ tables_of (map typed_state l.yielded);
    }
