-- Judging the statements of a block one behind the other, as a loop does.
use Rattle.std.proofs.Common.{◌≡◌, ◌∙◌, sym, ap, subst, refl, Result, Ok, Err}
use Rattle.ix_tree.specs.Trees.{StmtTree, StmtRow, row_end, row_more}
use Rattle.ix_tree.specs.TypedTrees.{TypedStmtTree, TypedRow, typed_end, typed_more}
use Rattle.ix_tree.proofs.TypedViews.{typed_join, typed_join_assoc, typed_join_end}
use Rattle.ix_typing.specs.declared.state.Setting.{Setting}
use Rattle.ix_typing.specs.declared.state.State.{State}
use Rattle.ix_typing.specs.Refusals.{Refusal, and_then, Step}
use Rattle.ix_typing.specs.Statements.{judged_stmt, judged_row}

abbrev Rows : Type 0
Rows = Result (Step State TypedRow) Refusal

-- the statements that were judged stand before the others
abbrev pub row_behind : TypedRow → Result (Step State TypedRow) Refusal → Result (Step State TypedRow) Refusal
row_behind out r = and_then r (λ m. Ok (record { item = typed_join out m.item; after = m.after }))

pub row_starts : (r : Result (Step State TypedRow) Refusal) → r ≡ row_behind typed_end r
row_starts (Ok m) = refl
row_starts (Err e) = refl

pub row_ends : (g : Setting) (r : Result (Step State TypedRow) Refusal) (out : TypedRow) (s : State)
    → r ≡ row_behind out (judged_row row_end g s) → r ≡ Ok (record { item = out; after = s })
row_ends g r out s e = e ∙ ap (λ (o : TypedRow). let x : Step State TypedRow = record { item = o; after = s } in let y : Rows = Ok x in y) (typed_join_end out)

moved : (out : TypedRow) (b : TypedStmtTree) (r : Result (Step State TypedRow) Refusal)
    → row_behind out (and_then r (λ m. let y : Step State TypedRow = record { item = typed_more b m.item; after = m.after } in Ok y)) ≡ row_behind (typed_join out (typed_more b typed_end)) r
moved out b (Ok m) = ap (λ (o : TypedRow). let y : Step State TypedRow = record { item = o; after = m.after } in let z : Rows = Ok y in z) (sym (typed_join_assoc out (typed_more b typed_end) m.item))
moved out b (Err e) = refl

-- a statement is judged
pub row_steps : (g : Setting) (r : Result (Step State TypedRow) Refusal) (all rest : StmtRow) (out out' : TypedRow) (b : TypedStmtTree) (s s' : State) (x : StmtTree)
    → r ≡ row_behind out (judged_row all g s) → all ≡ row_more x rest → judged_stmt x g s ≡ Ok (record { item = b; after = s' })
    → out' ≡ typed_join out (typed_more b typed_end) → r ≡ row_behind out' (judged_row rest g s')
row_steps g r all rest out out' b s s' x e split h w =
    let go = λ (k : Step State TypedStmtTree). and_then (judged_row rest g k.after) (λ m. let y : Step State TypedRow = record { item = typed_more k.item m.item; after = m.after } in Ok y) in
    let P : Result (Step State TypedStmtTree) Refusal → Type 0 = λ z. row_behind out (and_then z go) ≡ row_behind (typed_join out (typed_more b typed_end)) (judged_row rest g s') in
    e ∙ ap (λ (z : StmtRow). row_behind out (judged_row z g s)) split ∙ subst P (sym h) (moved out b (judged_row rest g s'))
    ∙ ap (λ (o : TypedRow). row_behind o (judged_row rest g s')) (sym w)

-- a statement is refused
pub row_refused : (g : Setting) (r : Result (Step State TypedRow) Refusal) (all rest : StmtRow) (out : TypedRow) (s : State) (x : StmtTree) (e : Refusal)
    → r ≡ row_behind out (judged_row all g s) → all ≡ row_more x rest → judged_stmt x g s ≡ Err e → r ≡ Err e
row_refused g r all rest out s x e h split w =
    let go = λ (k : Step State TypedStmtTree). and_then (judged_row rest g k.after) (λ m. let y : Step State TypedRow = record { item = typed_more k.item m.item; after = m.after } in Ok y) in
    let P : Result (Step State TypedStmtTree) Refusal → Type 0 = λ z. row_behind out (and_then z go) ≡ Err e in
    h ∙ ap (λ (z : StmtRow). row_behind out (judged_row z g s)) split ∙ subst P (sym w) refl
