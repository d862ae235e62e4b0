-- Typed texts by cases, and what is judged.
use Rattle.std.specs.Prelude.{◌≡◌, ◌↔◌, Bool, Ok}
use Rattle.ix_tree.specs.Trees.{ExprTree, TextTree}
use Rattle.ix_tree.specs.TypedTrees.{TypedExprTree, TypedTextTree, type_of, erased, erased_text}
use Rattle.ix_typing.specs.declared.state.Setting.{Setting}
use Rattle.ix_typing.specs.declared.state.State.{State}
use Rattle.ix_typing.specs.Expressions.{judged}
use Rattle.ix_typing.specs.Texts.{judged_text}
use Rattle.ix_typed.specs.Expressions.{IsExpr}
use Rattle.ix_typed.specs.Texts.{IsText}

-- a tree is accepted with these types exactly where the typed tree, by its cases, is typed and erases to it
pub record IsTextOf (t : TextTree) (u : TypedTextTree) : Type 0 where
  pub typed : IsText u
  pub tree : erased_text u ≡ t

abbrev pub TextLaw : Type 0
TextLaw = (t : TextTree) (u : TypedTextTree) → (judged_text t ≡ Ok u) ↔ (IsTextOf t u)

pub record IsExprOf (g : Setting) (st : State) (a : Bool) (e : ExprTree) (t : TypedExprTree) (c : Bool) : Type 0 where
  pub typed : IsExpr g st a t c
  pub tree : erased t ≡ e

-- the same of an expression, whose type stands at it
abbrev pub ExprLaw : Type 0
ExprLaw = (g : Setting) (st : State) (a c : Bool) (e : ExprTree) (t : TypedExprTree) → (judged g st e a ≡ Ok (record { tree = t; ty = type_of t; accessed = c })) ↔ (IsExprOf g st a e t c)
