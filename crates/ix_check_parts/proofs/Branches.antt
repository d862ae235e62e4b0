-- Blocks and branches of the code, against what is judged.
use Rattle.std.proofs.Common.{◌≡◌, ◌∙◌, ℕ, sym, ap, subst, refl, List, length, take, Result, Ok}
use Rattle.ix_tree.specs.declared.token.Span.{Span}
use Rattle.ix_tree.specs.declared.typed.TypedStmt.{TypedStmt}
use Rattle.ix_tree.specs.declared.typed.TypedStmtKind as TypedStmtKind
use Rattle.ix_tree.specs.Trees.{ExprTree, StmtTree, s_if_else}
use Rattle.ix_tree.specs.TypedTrees.{TypedExprTree, TypedStmtTree, TypedRow, ts_block}
use Rattle.ix_tree.specs.TypedView.{typed_stmt, typed_items}
use Rattle.ix_tree.proofs.TypedViews.{typed_block_view}
use Rattle.ix_typing.specs.declared.role.Named.{Named}
use Rattle.ix_typing.specs.declared.state.Setting.{Setting}
use Rattle.ix_typing.specs.declared.state.State.{State}
use Rattle.ix_typing.specs.Refusals.{Refusal, and_then, Step}
use Rattle.ix_typing.specs.Statements.{judged_stmt, in_scope, block, condition, choice_else, below_if}
use Rattle.ix_check_parts.specs.declared.error.CheckErr.{CheckErr}
use Rattle.ix_check_parts.specs.Telling.{TellsStmt, other_branch}
use Rattle.ix_check_parts.proofs.Passing.{goes_on}

abbrev Stmts : Type 0
Stmts = Result (Step State TypedStmtTree) Refusal

abbrev made : TypedStmtTree → State → List Named → Result (Step State TypedStmtTree) Refusal
made t st names = Ok (record { item = t; after = record { names = names; written = st.written; accessed = st.accessed; spawned = st.spawned } })

pub block_made : (s : Span) (st after : State) (r : Result (Step State TypedRow) Refusal) (items all : List TypedStmt) (names : List Named) (n : ℕ)
    → r ≡ Ok (record { item = typed_items items; after = after }) → all ≡ items → n ≡ length st.names → names ≡ take n after.names
    → block s st r ≡ made (typed_stmt s (TypedStmtKind.Block all)) after names
block_made s st after r items all names n e f g h =
    let k : Step State TypedRow = record { item = typed_items items; after = after } in
    goes_on r k (λ (m : Step State TypedRow). let y : Step State TypedStmtTree = record { item = ts_block s m.item; after = record { names = take (length st.names) m.after.names; written = m.after.written; accessed = m.after.accessed; spawned = m.after.spawned } } in let z : Stmts = Ok y in z) e
    ∙ ap (λ (zs : List TypedStmt). made (ts_block s (typed_items zs)) after (take (length st.names) after.names)) (sym f)
    ∙ ap (λ (z : TypedStmtTree). made z after (take (length st.names) after.names)) (sym (typed_block_view s all))
    ∙ ap (λ (m : ℕ). made (typed_stmt s (TypedStmtKind.Block all)) after (take m after.names)) (sym g)
    ∙ ap (λ (ns : List Named). made (typed_stmt s (TypedStmtKind.Block all)) after ns) (sym h)

pub if_else_told : (R : Result TypedStmt CheckErr) (after : State) (s : Span) (c : ExprTree) (x y : StmtTree) (g : Setting) (st s1 s2 : State) (tc : TypedExprTree) (tx : TypedStmtTree) (n : ℕ)
    → condition g c st ≡ Ok (record { item = tc; after = s1 }) → in_scope s1 (judged_stmt x (below_if g) s1) ≡ Ok (record { item = tx; after = s2 }) → n ≡ length s1.written
    → TellsStmt R after (choice_else s tc tx (other_branch n s2 y (below_if g))) → TellsStmt R after (judged_stmt (s_if_else s c x y) g st)
if_else_told R after s c x y g st s1 s2 tc tx n e f h told =
    let j : Step State TypedExprTree = record { item = tc; after = s1 } in
    let k : Step State TypedStmtTree = record { item = tx; after = s2 } in
    let inner = λ (a : Step State TypedExprTree) (b : Step State TypedStmtTree). choice_else s a.item b.item (other_branch (length a.after.written) b.after y (below_if g)) in
    let outer = λ (a : Step State TypedExprTree). and_then (in_scope a.after (judged_stmt x (below_if g) a.after)) (inner a) in
    let whole : judged_stmt (s_if_else s c x y) g st ≡ inner j k = goes_on (condition g c st) j outer e ∙ goes_on (in_scope s1 (judged_stmt x (below_if g) s1)) k (inner j) f in
    let P : ℕ → Type 0 = λ m. TellsStmt R after (choice_else s tc tx (other_branch m s2 y (below_if g))) in
    let Q : Stmts → Type 0 = λ z. TellsStmt R after z in
    subst Q (sym whole) (subst P h told)
