use Rattle.std.proofs.Common.{◌≡◌, drop}
use Rattle.std.specs.List.{list_any}
use Rattle.ix_sheet.specs.Behaviours.{names_op}
use Rattle.ix_netgen.proofs.uses.names.Given as goal

abbrev pub invariant-loop-arg : goal.invariant-loop-arg
invariant-loop-arg l = list_any (names_op l.number) (drop l.arg-index l.args) ≡ list_any (names_op l.number) l.args
