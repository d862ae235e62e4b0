use Rattle.std.proofs.Common.{◌≡◌, List, drop}
use Rattle.ix_bits.specs.declared.number.Bits.{Bits}
use Rattle.ix_mean.specs.View.{view_statements}
use Rattle.ix_behaviour.specs.Behaviours.{stored_in}
use Rattle.ix_resolve.proofs.stores.+stores.Given as goal

abbrev pub invariant-stored_first-loop-x : goal.invariant-stored_first-loop-x
invariant-stored_first-loop-x l = (tables : List (List Bits)) → stored_in (view_statements tables (drop l.x-index l.all)) ≡ stored_in (view_statements tables l.all)
