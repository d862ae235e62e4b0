-- Laws of typing.
use Rattle.std.specs.Prelude.{◌≡◌, ℕ, ℤ, List, ◌↔◌, Some, Bool, true, Ok}
use Rattle.ix_bits.specs.declared.number.Ty.{Ty}
use Rattle.ix_bits.specs.NearTypes.{int_type}
use Rattle.ix_bits.specs.ResultTypes.{Embeds}
use Rattle.ix_tree.specs.LoopHeads.{Binding, Valued, value_in, head_value}
use Rattle.ix_tree.specs.Trees.{ExprTree, StmtTree, TextTree}
use Rattle.ix_tree.specs.TypedTrees.{TypedStmtTree, TypedTextTree, erased_text}
use Rattle.ix_typing.specs.declared.role.Role.TheVariants.{Local}
use Rattle.ix_typing.specs.declared.state.Setting.{Setting}
use Rattle.ix_typing.specs.declared.state.State.{State}
use Rattle.ix_typing.specs.Names.{role_of}
use Rattle.ix_typing.specs.Refusals.{Step}
use Rattle.ix_typing.specs.Expressions.{Judged, judged, embeds}
use Rattle.ix_typing.specs.Statements.{judged_stmt, scope_end}
use Rattle.ix_typing.specs.Texts.{judged_text}

-- a typed tree is typed where its types are those that are judged of its tree
abbrev pub IsTyped : TypedTextTree → Type 0
IsTyped u = judged_text (erased_text u) ≡ Ok u

-- a tree is accepted exactly where a typed tree erases to it, and that one is judged
pub record TypedOf (t : TextTree) (u : TypedTextTree) : Type 0 where
  pub typed : IsTyped u
  pub tree : erased_text u ≡ t

abbrev pub TypedLaw : Type 0
TypedLaw = (t : TextTree) (u : TypedTextTree) → (judged_text t ≡ Ok u) ↔ (TypedOf t u)

-- behind a scope exactly the names of before it are visible
abbrev pub ScopeLaw : Type 0
ScopeLaw = (x : StmtTree) (g : Setting) (st : State) (k : Step State TypedStmtTree) → judged_stmt x g st ≡ Ok k → (scope_end st k.after).names ≡ st.names

-- a loop variable is a local of type `int`
abbrev pub AreVariables : List Binding → State → Type 0
AreVariables bs st = (n : List ℕ) (z : ℤ) → value_in bs n ≡ Some z → role_of st.names n ≡ Some (Local int_type)

-- the types that expressions of loops' heads have are those of typing
abbrev pub HeadLaw : Type 0
HeadLaw = (g : Setting) (st : State) (bs : List Binding) (x : ExprTree) (a : Bool) (j : Judged) (v : Valued) → AreVariables bs st → judged g st x a ≡ Ok j → head_value x bs ≡ Some v → j.ty ≡ v.ty

-- the test of a type in another is that each number of it is one of the other
abbrev pub EmbedsLaw : Type 0
EmbedsLaw = (a b : Ty) → (embeds a b ≡ true) ↔ (Embeds a b)
