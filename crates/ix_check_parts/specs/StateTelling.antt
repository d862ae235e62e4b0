-- What the checker answers of registers and tables, against what is judged.
use Rattle.std.specs.Prelude.{◌≡◌, ℕ, List, map, Result, Ok, Err}
use Rattle.std.specs.declared.vec.Vec.{Vec}
use Rattle.std.specs.declared.alloc.Global.{Global}
use Rattle.ix_tree.specs.declared.typed.TypedExpr.{TypedExpr}
use Rattle.ix_tree.specs.declared.typed.TypedStateKind.{TypedStateKind}
use Rattle.ix_tree.specs.declared.typed.TypedState.{TypedState}
use Rattle.ix_tree.specs.TypedTrees.{TypedExprTree, TypedStateKindTree, TypedStateTree}
use Rattle.ix_tree.specs.TypedView.{typed_view, typed_state_kind, typed_state}
use Rattle.ix_typing.specs.declared.state.State.{State}
use Rattle.ix_typing.specs.Refusals.{Refusal, Step}
use Rattle.ix_check_parts.specs.declared.error.CheckErr.{CheckErr}
use Rattle.ix_check_parts.specs.Telling.{Refuses}

-- a constant, and the state behind it
abbrev pub TellsConstant : Result TypedExpr CheckErr → State → Result (Step State TypedExprTree) Refusal → Type 0
TellsConstant (Ok t) after r = r ≡ Ok (record { item = typed_view t; after = after })
TellsConstant (Err e) after r = Refuses e r

abbrev pub TellsConstants : Result (Vec TypedExpr Global) CheckErr → State → Result (Step State (List TypedExprTree)) Refusal → Type 0
TellsConstants (Ok ts) after r = r ≡ Ok (record { item = map typed_view ts.items; after = after })
TellsConstants (Err e) after r = Refuses e r

abbrev pub TellsStateKind : Result TypedStateKind CheckErr → Result TypedStateKindTree Refusal → Type 0
TellsStateKind (Ok t) r = r ≡ Ok (typed_state_kind t)
TellsStateKind (Err e) r = Refuses e r

abbrev pub TellsState : Result TypedState CheckErr → ℕ → Result (Step ℕ TypedStateTree) Refusal → Type 0
TellsState (Ok t) after r = r ≡ Ok (record { item = typed_state t; after = after })
TellsState (Err e) after r = Refuses e r

-- the items alone, whatever stands behind them
abbrev pub items_of : {S A : Type 0} → Result (Step S A) Refusal → Result A Refusal
items_of (Ok k) = Ok k.item
items_of (Err e) = Err e

abbrev pub TellsStates : Result (List TypedState) CheckErr → Result (Step ℕ (List TypedStateTree)) Refusal → Type 0
TellsStates (Ok ts) r = items_of r ≡ Ok (map typed_state ts)
TellsStates (Err e) r = Refuses e r
