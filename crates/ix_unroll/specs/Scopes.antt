-- The scopes of the code as lists of loop variables.
use Rattle.std.specs.Prelude.{List, [], ◌∷◌}
use Rattle.ix_tree.specs.LoopHeads.{Binding}
use Rattle.ix_unroll.specs.declared.scope.Scope.{Scope, Outside, Inside'}

abbrev pub bindings : Scope → List Binding
bindings Outside = []
bindings (Inside' name value p outer) = record { name = name.now; value = value } ∷ bindings outer
