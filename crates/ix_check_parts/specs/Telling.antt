-- What the checker answers, against what is judged.
use Rattle.std.specs.Prelude.{◌≡◌, ℕ, List, ◌++◌, map, take, drop, Option, Some, None, Result, Ok, Err}
use Rattle.ix_bits.specs.declared.number.Ty.{Ty}
use Rattle.ix_tree.specs.declared.typed.TypedAssign.{TypedAssign}
use Rattle.ix_tree.specs.declared.typed.TypedDecl.{TypedDecl}
use Rattle.ix_tree.specs.declared.typed.TypedExpr.{TypedExpr}
use Rattle.ix_tree.specs.declared.typed.TypedStmt.{TypedStmt}
use Rattle.ix_tree.specs.Trees.{StmtTree}
use Rattle.std.specs.declared.vec.Vec.{Vec}
use Rattle.std.specs.declared.alloc.Global.{Global}
use Rattle.ix_tree.specs.TypedTrees.{TypedAssignTree, TypedDeclTree, TypedExprTree, TypedStmtTree, TypedRow}
use Rattle.ix_tree.specs.TypedView.{typed_view, typed_place, typed_assign, typed_decl, typed_whole, typed_items}
use Rattle.ix_typing.specs.declared.state.State.{State}
use Rattle.ix_typing.specs.declared.state.Setting.{Setting}
use Rattle.ix_typing.specs.declared.targets.Target.{Target}
use Rattle.ix_typing.specs.Assignments as A
use Rattle.ix_typing.specs.Statements.{judged_stmt, in_scope}
use Rattle.ix_typing.specs.Refusals.{Refusal, unknown, twice, narrow, too_wide, mixed, range, index, read_after_write, double_write, second_access, in_spawn, rom, Step, and_then}
use Rattle.ix_typing.specs.Expressions as T
use Rattle.ix_check_parts.specs.declared.error.CheckErr.{CheckErr}
use Rattle.ix_check_parts.specs.declared.error.CheckErr.TheVariants as C
use Rattle.ix_check_parts.specs.declared.judged.Judged.{Judged}
use Rattle.ix_check_parts.specs.declared.judged.Pair.{Pair}
use Rattle.ix_check_parts.specs.declared.judged.Place.{Place}

-- the refusal that an error tells; none where memory was not found
abbrev pub refusal_of : CheckErr → Option Refusal
refusal_of (C.Unknown s) = Some (record { rule = unknown; at = s })
refusal_of (C.Twice s) = Some (record { rule = twice; at = s })
refusal_of (C.Narrow s) = Some (record { rule = narrow; at = s })
refusal_of (C.TooWide s) = Some (record { rule = too_wide; at = s })
refusal_of (C.Mixed s) = Some (record { rule = mixed; at = s })
refusal_of (C.Range s) = Some (record { rule = range; at = s })
refusal_of (C.Index s) = Some (record { rule = index; at = s })
refusal_of (C.ReadAfterWrite s) = Some (record { rule = read_after_write; at = s })
refusal_of (C.DoubleWrite s) = Some (record { rule = double_write; at = s })
refusal_of (C.SecondAccess s) = Some (record { rule = second_access; at = s })
refusal_of (C.InSpawn s) = Some (record { rule = in_spawn; at = s })
refusal_of (C.Rom s) = Some (record { rule = rom; at = s })
refusal_of C.Memory = None

-- what is judged is this refusal, if there is one
abbrev pub IsRefused : {A : Type 0} → Option Refusal → Result A Refusal → Type 0
IsRefused None r = Unit {0}
IsRefused (Some f) r = r ≡ Err f

abbrev pub Refuses : {A : Type 0} → CheckErr → Result A Refusal → Type 0
Refuses e r = IsRefused (refusal_of e) r

-- a type, or the refusal in its place
abbrev pub TellsType : Result Ty CheckErr → Result Ty Refusal → Type 0
TellsType (Ok ty) r = r ≡ Ok ty
TellsType (Err e) r = Refuses e r

-- an expression of the code as what is judged
abbrev pub seen : Judged → T.Judged
seen j = record { tree = typed_view j.tree; ty = j.tree.ty; accessed = j.accessed }

abbrev pub seen_pair : Pair → T.Pair
seen_pair p = record { first = seen p.first; second = seen p.second }

abbrev pub Tells : Result Judged CheckErr → Result T.Judged Refusal → Type 0
Tells (Ok j) r = r ≡ Ok (seen j)
Tells (Err e) r = Refuses e r

abbrev pub TellsPair : Result Pair CheckErr → Result T.Pair Refusal → Type 0
TellsPair (Ok p) r = r ≡ Ok (seen_pair p)
TellsPair (Err e) r = Refuses e r

abbrev pub seen_place : Place → A.Placed
seen_place p = record { tree = typed_place p.tree; ty = p.ty; writes = p.writes; accessed = p.accessed }

abbrev pub TellsPlace : Result Place CheckErr → Result A.Placed Refusal → Type 0
TellsPlace (Ok p) r = r ≡ Ok (seen_place p)
TellsPlace (Err e) r = Refuses e r

-- an assignment, and the state behind it
abbrev pub TellsAssign : Result TypedAssign CheckErr → State → Result (Step State TypedAssignTree) Refusal → Type 0
TellsAssign (Ok t) after r = r ≡ Ok (record { item = typed_assign t; after = after })
TellsAssign (Err e) after r = Refuses e r

abbrev pub TellsDecl : Result TypedDecl CheckErr → State → Result (Step State TypedDeclTree) Refusal → Type 0
TellsDecl (Ok t) after r = r ≡ Ok (record { item = typed_decl t; after = after })
TellsDecl (Err e) after r = Refuses e r

abbrev pub TellsDecls : Result (Vec TypedDecl Global) CheckErr → State → Result (Step State (List TypedDeclTree)) Refusal → Type 0
TellsDecls (Ok ts) after r = r ≡ Ok (record { item = map typed_decl ts.items; after = after })
TellsDecls (Err e) after r = Refuses e r

abbrev pub TellsCondition : Result TypedExpr CheckErr → State → Result (Step State TypedExprTree) Refusal → Type 0
TellsCondition (Ok t) after r = r ≡ Ok (record { item = typed_view t; after = after })
TellsCondition (Err e) after r = Refuses e r

-- a statement, and the state behind it
abbrev pub TellsStmt : Result TypedStmt CheckErr → State → Result (Step State TypedStmtTree) Refusal → Type 0
TellsStmt (Ok t) after r = r ≡ Ok (record { item = typed_whole t; after = after })
TellsStmt (Err e) after r = Refuses e r

abbrev pub TellsRow : Result (Vec TypedStmt Global) CheckErr → State → Result (Step State TypedRow) Refusal → Type 0
TellsRow (Ok ts) after r = r ≡ Ok (record { item = typed_items ts.items; after = after })
TellsRow (Err e) after r = Refuses e r

-- ---- the second branch of an `if`
abbrev pub appended : List Target → State → State
appended ts st = record { names = st.names; written = st.written ++ ts; accessed = st.accessed; spawned = st.spawned }

-- only the first targets are written
abbrev pub cut : ℕ → State → State
cut n st = record { names = st.names; written = take n st.written; accessed = st.accessed; spawned = st.spawned }

abbrev pub other_branch : ℕ → State → StmtTree → Setting → Result (Step State TypedStmtTree) Refusal
other_branch n st y g =
    and_then (in_scope (cut n st) (judged_stmt y g (cut n st))) (λ k. Ok (record { item = k.item; after = appended (drop n st.written) k.after }))

-- ---- a first fault, if there is one
abbrev pub IsFault : Option Refusal → Option Refusal → Type 0
IsFault None o = Unit {0}
IsFault (Some f) o = o ≡ Some f

abbrev pub TellsFault : {A : Type 0} → Result A CheckErr → Option Refusal → Type 0
TellsFault (Ok u) o = o ≡ None
TellsFault (Err e) o = IsFault (refusal_of e) o
