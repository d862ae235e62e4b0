-- What is made of statements, and what is met there, part by part.
use Rattle.std.proofs.Common.{◌≡◌, ℕ, ◌+◌, ◌<◌, List, [], ◌∷◌, ◌++◌, length, get_or, drop, false, refl, ap, sym, ◌∙◌, subst, drop-cons, add-one, ℤ, pos, ◌≤◌, Result, Ok, Err, OnOk, IfErr, IsOk}
use Rattle.std.proofs.lemmas.List.{drop_all}
use Rattle.ix_tree.specs.declared.token.Span.{Span}
use Rattle.ix_tree.specs.declared.stmt.Stmt.{Stmt}
use Rattle.ix_tree.specs.declared.stmt.StmtKind as StmtKind
use Rattle.ix_tree.specs.declared.stmt.Loop.{Loop}
use Rattle.ix_tree.specs.Trees.{StmtTree, StmtRow, s_block, row_end, row_more}
use Rattle.ix_tree.specs.LoopHeads.{Binding}
use Rattle.ix_tree.specs.Rows.{view_whole, view_items}
use Rattle.ix_tree.specs.Unrolling.{Mark, statement, alone, inside, row_join, met, met_row, copies, copies_of, copy_marks, loop_marks, judged, Turns, these, with_value, is_loop, unblocked}
use Rattle.ix_tree.specs.View.{view_stmt}
use Rattle.ix_tree.proofs.Views.{items_rest, items_join, row_join_end, row_join_assoc}
use Rattle.ix_unroll.specs.declared.error.UnrollErr.{UnrollErr}
use Rattle.ix_unroll.specs.declared.error.UnrollErr.TheVariants.{Memory}
use Rattle.ix_unroll.specs.Telling.{KeepsErr}
use Rattle.ix_unroll.specs.Turning.{head_of, loop_tree, opened_row, row_marks, body_row, body_marks}

-- ---- the statements of a block, one after another
pub inside_marks : (all : List Stmt) (k : ℕ) (x : Stmt) (bs : List Binding) → k < length all → x ≡ get_or all k x
    → met_row (view_items (drop k all)) bs ≡ row_marks (view_whole x) bs ++ met_row (view_items (drop (k + 1) all)) bs
inside_marks all k x bs h e = ap (λ (row : StmtRow). met_row row bs) (items_rest all k x h e)

pub inside_tree : (out new : StmtRow) (all : List Stmt) (k : ℕ) (x : Stmt) (bs : List Binding) → k < length all → x ≡ get_or all k x
    → new ≡ row_join out (opened_row (view_whole x) bs)
    → row_join new (inside (view_items (drop (k + 1) all)) bs) ≡ row_join out (inside (view_items (drop k all)) bs)
inside_tree out new all k x bs h e f =
    ap (λ (row : StmtRow). row_join row (inside (view_items (drop (k + 1) all)) bs)) f
    ∙ row_join_assoc out (opened_row (view_whole x) bs) (inside (view_items (drop (k + 1) all)) bs)
    ∙ ap (λ (row : StmtRow). row_join out (inside row bs)) (sym (items_rest all k x h e))

pub inside_end : (out new : StmtRow) (all : List Stmt) (k : ℕ) (bs : List Binding) → length all ≤ k → row_join out (inside (view_items (drop k all)) bs) ≡ new → out ≡ new
inside_end out new all k bs h e =
    sym (row_join_end out) ∙ ap (λ (xs : List Stmt). row_join out (inside (view_items xs) bs)) (sym (drop_all k all h)) ∙ e

-- ---- the copies of a body, one after another
pub copies_marks : (s : Span) (body : ℤ → List Mark) (vs : List ℤ) (k : ℕ) → k < length vs
    → copy_marks s body (drop k vs) ≡ (statement s ∷ []) ++ (body (get_or vs k (pos 0)) ++ copy_marks s body (drop (k + 1) vs))
copies_marks s body vs k h = rw (add-one, drop-cons vs k (pos 0)) refl

pub copies_tree : (s : Span) (body : ℤ → StmtRow) (out new : StmtRow) (vs : List ℤ) (k : ℕ) → k < length vs
    → new ≡ row_join out (row_more (s_block s (body (get_or vs k (pos 0)))) row_end)
    → row_join new (copies s body (drop (k + 1) vs)) ≡ row_join out (copies s body (drop k vs))
copies_tree s body out new vs k h f =
    let v = get_or vs k (pos 0) in
    let rest = copies s body (drop (k + 1) vs) in
    let r : copies s body (drop k vs) ≡ row_more (s_block s (body v)) rest = rw (add-one, drop-cons vs k (pos 0)) refl in
    ap (λ (row : StmtRow). row_join row rest) f
    ∙ row_join_assoc out (row_more (s_block s (body v)) row_end) rest
    ∙ ap (row_join out) (sym r)

pub copies_end : (s : Span) (body : ℤ → StmtRow) (out new : StmtRow) (vs : List ℤ) (k : ℕ) → length vs ≤ k → row_join out (copies s body (drop k vs)) ≡ new → out ≡ new
copies_end s body out new vs k h e =
    sym (row_join_end out) ∙ ap (λ (ws : List ℤ). row_join out (copies s body ws)) (sym (drop_all k vs h)) ∙ e

-- one copy is put behind the others
pub copy_row : (out new made : List Stmt) (b : Stmt) (s : Span) (row : StmtRow) → new ≡ out ++ b ∷ [] → view_whole b ≡ s_block s (view_items made) → view_items made ≡ row
    → view_items new ≡ row_join (view_items out) (row_more (s_block s row) row_end)
copy_row out new made b s row e f g =
    ap view_items e ∙ items_join out (b ∷ []) ∙ ap (λ (x : StmtTree). row_join (view_items out) (row_more x row_end)) (f ∙ ap (s_block s) g)

-- the variables within a copy
pub turn_is : (n m : List ℕ) (v w : ℤ) (bs : List Binding) → n ≡ m → w ≡ v
    → (let b : Binding = record { name = n; value = w } in b) ∷ bs ≡ with_value bs m v
turn_is n m v w bs e f = rw (e, f) refl

-- ---- a loop
pub loop_met : (s : Span) (l : Loop) (bs : List Binding) (vs : List ℤ) → judged bs (head_of l) (view_whole l.body) ≡ these vs
    → met (loop_tree s l) bs ≡ (statement s ∷ []) ++ copy_marks s (body_marks (view_whole l.body) l.name bs) vs
loop_met s l bs vs e = ap (loop_marks s (body_marks (view_whole l.body) l.name bs)) e

pub loop_made : (s : Span) (l : Loop) (bs : List Binding) (vs : List ℤ) → judged bs (head_of l) (view_whole l.body) ≡ these vs
    → alone (loop_tree s l) bs ≡ s_block s (copies s (body_row (view_whole l.body) l.name bs) vs)
loop_made s l bs vs e = ap (λ (t : Turns). s_block s (copies_of s (body_row (view_whole l.body) l.name bs) t)) e

-- ---- the second branch of an `if`, whose answer is passed on
pub ok_passes : {A B E : Type 0} (r : Result A E) (y : Result B E) (P Q : Type 0) → OnOk r (IsOk y) → OnOk y P → (P → Q) → OnOk r Q
ok_passes (Ok a) (Ok b) P Q h p f = f p
ok_passes (Ok a) (Err d) P Q h p f = cc
ok_passes (Err e) y P Q h p f = tt

pub else_refused : {A : Type 0} (r : Result A UnrollErr) (y : Result Stmt UnrollErr) (P Q : UnrollErr → Type 0) → IfErr r (λ e. KeepsErr y e) → IfErr y P → Q Memory → ((e : UnrollErr) → P e → Q e) → IfErr r Q
else_refused (Ok a) y P Q h p m f = tt
else_refused (Err e) (Ok b) P Q h p m f = subst Q (sym h) m
else_refused (Err e) (Err d) P Q h p m f = subst Q (sym h) (f d p)

pub err_to : {A : Type 0} (r : Result A UnrollErr) (P Q : UnrollErr → Type 0) → IfErr r P → ((e : UnrollErr) → P e → Q e) → IfErr r Q
err_to (Ok a) P Q h f = tt
err_to (Err e) P Q h f = f e h

-- ---- what is no loop
not_loop : (s : Span) (k : StmtKind.StmtKind) → ((x : _) → k ≡ StmtKind.For x → ⊥) → is_loop (view_stmt s k) ≡ false
not_loop s (StmtKind.Block' shape all) h = refl
not_loop s StmtKind.Empty h = refl
not_loop s (StmtKind.Locals ty ds) h = refl
not_loop s (StmtKind.Assign a) h = refl
not_loop s (StmtKind.If' c p a x StmtKind.None') h = refl
not_loop s (StmtKind.If' c p a x (StmtKind.Some' q b y)) h = refl
not_loop s (StmtKind.For' p ty n start test last a x) h =
    absurd (h (record { ptr = p.ptr; alloc = p.alloc; value = record { ty = ty; name = n; start = start; test = test; last = last; body = record { span = a; kind = x } } }) refl)
not_loop s (StmtKind.Spawn' p a x) h = refl

pub no_loop : (x : Stmt) → ((b : _) → x.kind ≡ StmtKind.For b → ⊥) → is_loop (view_whole x) ≡ false
no_loop x h = not_loop x.span x.kind h

pub no_loop_marks : (x : Stmt) (bs : List Binding) → is_loop (view_whole x) ≡ false → row_marks (view_whole x) bs ≡ met (view_whole x) bs
no_loop_marks x bs e = rw e refl

pub pushed_row : (out new : List Stmt) (made x : Stmt) (bs : List Binding) → new ≡ out ++ made ∷ [] → is_loop (view_whole x) ≡ false → view_whole made ≡ alone (view_whole x) bs
    → view_items new ≡ row_join (view_items out) (opened_row (view_whole x) bs)
pushed_row out new made x bs e f g =
    let r : opened_row (view_whole x) bs ≡ row_more (alone (view_whole x) bs) row_end = rw f refl in
    ap view_items e ∙ items_join out (made ∷ []) ∙ ap (λ (y : StmtTree). row_join (view_items out) (row_more y row_end)) g ∙ ap (row_join (view_items out)) (sym r)

pub loop_row_marks : (s : Span) (l : Loop) (bs : List Binding) (vs : List ℤ) → judged bs (head_of l) (view_whole l.body) ≡ these vs
    → row_marks (loop_tree s l) bs ≡ copy_marks s (body_marks (view_whole l.body) l.name bs) vs
loop_row_marks s l bs vs e = ap unblocked (loop_met s l bs vs e)
