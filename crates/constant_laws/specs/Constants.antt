-- The constants of a text: the initial values of its registers and the entries of its tables.
use Rattle.std.specs.Prelude.{◌≡◌, ℕ, List, [], Some, None}
use Rattle.std.specs.List.{AllByRecursion}
use Rattle.ix_tree.specs.LoopHeads.{Valued, head_value}
use Rattle.ix_tree.specs.TypedTrees.{TypedExprTree, erased, TypedStateKindTree, tk_register, tk_table, TypedTextTree}
use Rattle.ix_extension.specs.Extensions.{all_states}
use Rattle.ix_elab.specs.Elaborating.{HasTypes}

-- an expression without variables has a value
abbrev pub HasValue : TypedExprTree → Type 0
HasValue e = (v : Valued) × (head_value (erased e) [] ≡ Some v)

-- so has a register's initial value, if it has one, or each entry of a table
abbrev pub HaveValues : TypedStateKindTree → Type 0
HaveValues (tk_register None) = Unit {0}
HaveValues (tk_register (Some e)) = HasValue e
HaveValues (tk_table len es) = AllByRecursion HasValue es

-- in a text that is read and typed each constant has a value
abbrev pub ConstantsLaw : Type 0
ConstantsLaw = (bytes : List ℕ) (t : TypedTextTree) → HasTypes bytes t → AllByRecursion (λ s. HaveValues s.kind) (all_states t.sections)
