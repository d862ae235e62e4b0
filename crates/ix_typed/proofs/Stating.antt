-- A typed statement by its cases, and what is judged of its tree.
use Rattle.std.proofs.Common.{◌≡◌, ◌∙◌, sym, ap, subst, refl, ℕ, List, [], ◌∷◌, map, Option, Some, None, Bool, true, Result, Ok, Err}
use Rattle.ix_bits.specs.declared.number.Ty.{Ty}
use Rattle.ix_tree.specs.declared.token.Span.{Span}
use Rattle.ix_tree.specs.Trees.{ExprTree, DeclTree, StmtTree, s_block, s_empty, s_locals, s_assign, s_if, s_if_else, s_for, s_spawn, StmtRow, row_end, row_more}
use Rattle.ix_tree.specs.TypedTrees.{TypedExprTree, TypedDeclTree, TypedStmtTree, ts_block, ts_empty, ts_locals, ts_assign, ts_if, ts_if_else, ts_spawn, TypedRow, typed_end, typed_more, type_of, erased, erased_option, erased_decl, erased_stmt, erased_row, erased_assign}
use Rattle.ix_typing.specs.declared.role.Role.{Role}
use Rattle.ix_typing.specs.declared.state.Setting.{Setting}
use Rattle.ix_typing.specs.declared.state.State.{State}
use Rattle.ix_typing.specs.Names.{role_of}
use Rattle.ix_typing.specs.Refusals.{Refusal, and_then, Step}
use Rattle.ix_typing.specs.Expressions.{judged, embeds, written}
use Rattle.ix_typing.specs.Assignments.{judged_assign, span_of, fits_into}
use Rattle.ix_typing.specs.Statements.{with_accessed, with_local, with_spawn, scope_end, other_path, both_paths, below_if, below_spawn, may_spawn, valued, unless_visible, judged_decl, judged_decls, condition, in_scope, joined, judged_stmt, judged_row}
use Rattle.ix_typing.proofs.Erasing.{on_answer}
use Rattle.ix_typing.proofs.ErasingTexts.{stmt_erased}
use Rattle.ix_typed.specs.Expressions.{IsExpr}
use Rattle.ix_typed.specs.Statements.{IsInitial, IsDecl, AreDecls, IsStmt, IsRow}
use Rattle.ix_typed.proofs.Parts.{go, on_hold, got}
use Rattle.ix_typed.proofs.Types.{written_is, is_written}
use Rattle.ix_typed.proofs.ExprJudged.{made, expr_judged}
use Rattle.ix_typed.proofs.ExprCases.{expr_formed}
use Rattle.ix_typed.proofs.Assigning.{assign_judged, assign_formed}

abbrev step : {A : Type 0} → A → State → Step State A
step x after = record { item = x; after = after }

-- ---- declarations
initial_judged : (g : Setting) (ty : Ty) (s : Span) (n : List ℕ) (v : Option TypedExprTree) (st mid : State)
    → IsInitial g ty st v mid → valued g ty s n (erased_option v) st ≡ Ok (step (record { span = s; name = n; value = v }) (with_local mid n ty))
initial_judged g ty s n None st mid h = rw h refl
initial_judged g ty s n (Some e) st mid h =
    go (judged g st (erased e) st.accessed) (made e h.0) _ _ (expr_judged g st st.accessed e h.0 h.1)
    (go (fits_into (span_of (erased e)) ty (type_of e)) ty _ _ (rw h.2 refl) (rw h.3 refl))

seen_not : (s : Span) (o : Option Role) (r y : Result (Step State TypedDeclTree) Refusal) → o ≡ None → r ≡ y → unless_visible s o r ≡ y
seen_not s o r y h k =
    let P : Option Role → Type 0 = λ z. unless_visible s z r ≡ y in
    subst P (sym h) k

decl_judged : (g : Setting) (ty : Ty) (d : TypedDeclTree) (st after : State) → IsDecl g ty st d after → judged_decl g ty (erased_decl d) st ≡ Ok (step d after)
decl_judged g ty d st after h =
    seen_not d.span (role_of st.names d.name) _ _ h.0
    (initial_judged g ty d.span d.name d.value st h.1.0 h.1.1 ∙ ap (λ (z : State). Ok (step d z)) (sym h.1.2))

decls_judged : (g : Setting) (ty : Ty) (ds : List TypedDeclTree) (st after : State) → AreDecls g ty st ds after → judged_decls g ty (map erased_decl ds) st ≡ Ok (step ds after)
decls_judged g ty [] st after h = rw h refl
decls_judged g ty (d ∷ ds) st after h =
    go (judged_decl g ty (erased_decl d) st) (step d h.0) _ _ (decl_judged g ty d st h.0 h.1)
    (go (judged_decls g ty (map erased_decl ds) h.0) (step ds after) _ _ (decls_judged g ty ds h.0 after h.2) refl)

initial_formed : (g : Setting) (ty : Ty) (s : Span) (n : List ℕ) (v : Option ExprTree) (st : State) (k : Step State TypedDeclTree)
    → role_of st.names n ≡ None → valued g ty s n v st ≡ Ok k → IsDecl g ty st k.item k.after
initial_formed g ty s n None st k r e = got (λ (k : Step State TypedDeclTree). IsDecl g ty st k.item k.after) _ k e (r, (st, refl, refl))
initial_formed g ty s n (Some x) st k r e =
    on_answer (judged g st x st.accessed) _ k _ (λ v p q.
    on_answer (fits_into (span_of x) ty v.ty) _ k _ (λ t u w.
    let value = expr_formed g st x st.accessed v p in
    let fits : embeds v.ty ty ≡ true = on_hold (embeds v.ty ty) _ _ t _ (λ h f. h) u in
    got (λ (k : Step State TypedDeclTree). IsDecl g ty st k.item k.after) _ k w
    (r, (with_accessed st v.accessed, (v.accessed, value.typed, ap (λ (z : Ty). embeds z ty) (sym value.ty) ∙ fits, refl), refl))) q) e

on_visible : (s : Span) (o : Option Role) (r : Result (Step State TypedDeclTree) Refusal) (k : Step State TypedDeclTree) (G : Type 0)
    → (o ≡ None → r ≡ Ok k → G) → unless_visible s o r ≡ Ok k → G
on_visible s None r k G f e = f refl e
on_visible s (Some x) r k G f e = cc

decl_formed : (g : Setting) (ty : Ty) (d : DeclTree) (st : State) (k : Step State TypedDeclTree) → judged_decl g ty d st ≡ Ok k → IsDecl g ty st k.item k.after
decl_formed g ty d st k e = on_visible d.span (role_of st.names d.name) _ k _ (λ r f. initial_formed g ty d.span d.name d.value st k r f) e

decls_formed : (g : Setting) (ty : Ty) (ds : List DeclTree) (st : State) (k : Step State (List TypedDeclTree)) → judged_decls g ty ds st ≡ Ok k → AreDecls g ty st k.item k.after
decls_formed g ty [] st k e = got (λ (k : Step State (List TypedDeclTree)). AreDecls g ty st k.item k.after) _ k e refl
decls_formed g ty (d ∷ ds) st k e =
    on_answer (judged_decl g ty d st) _ k _ (λ j p q.
    on_answer (judged_decls g ty ds j.after) _ k _ (λ m u v.
    got (λ (k : Step State (List TypedDeclTree)). AreDecls g ty st k.item k.after) _ k v (j.after, decl_formed g ty d st j p, decls_formed g ty ds j.after m u)) q) e

-- ---- statements, by cases and then judged
condition_judged : (g : Setting) (c : TypedExprTree) (st : State) (b : Bool) → IsExpr g st st.accessed c b → condition g (erased c) st ≡ Ok (step c (with_accessed st b))
condition_judged g c st b h = go (judged g st (erased c) st.accessed) (made c b) _ _ (expr_judged g st st.accessed c b h) refl

scope_judged : (st mid : State) (x : TypedStmtTree) (r : Result (Step State TypedStmtTree) Refusal) → r ≡ Ok (step x mid) → in_scope st r ≡ Ok (step x (scope_end st mid))
scope_judged st mid x r h = go r (step x mid) _ _ h refl

mutual
  pub stmt_judged : (x : TypedStmtTree) (g : Setting) (st after : State) → IsStmt g st x after → judged_stmt (erased_stmt x) g st ≡ Ok (step x after)
  stmt_judged (ts_block s all) g st after h =
      go (judged_row (erased_row all) g st) (step all h.0) _ _ (row_judged all g st h.0 h.1) (rw h.2 refl)
  stmt_judged (ts_empty s) g st after h = rw h refl
  stmt_judged (ts_locals s text ds) g st after h =
      go (written text.span text.kind) h.0 _ _ (written_is text.span text.kind h.0 h.1)
      (go (judged_decls g h.0 (map erased_decl ds) st) (step ds after) _ _ (decls_judged g h.0 ds st after h.2) refl)
  stmt_judged (ts_assign s a) g st after h = go (judged_assign g (erased_assign a) st) (step a after) _ _ (assign_judged g st a after h) refl
  stmt_judged (ts_if s c x) g st after h =
      let j = with_accessed st h.0 in
      go (condition g (erased c) st) (step c j) _ _ (condition_judged g c st h.0 h.2)
      (go (in_scope j (judged_stmt (erased_stmt x) (below_if g) j)) (step x (scope_end j h.1)) _ _ (scope_judged j h.1 x _ (stmt_judged x (below_if g) j h.1 h.3)) (rw h.4 refl))
  stmt_judged (ts_if_else s c x y) g st after h =
      let j = with_accessed st h.0 in
      let k = scope_end j h.1 in
      let o = other_path j k in
      let last = scope_end o h.2 in
      go (condition g (erased c) st) (step c j) _ _ (condition_judged g c st h.0 h.3)
      (go (in_scope j (judged_stmt (erased_stmt x) (below_if g) j)) (step x k) _ _ (scope_judged j h.1 x _ (stmt_judged x (below_if g) j h.1 h.4))
      (go (joined j k (in_scope o (judged_stmt (erased_stmt y) (below_if g) o))) (step y (both_paths j k last)) _ _
      (go (in_scope o (judged_stmt (erased_stmt y) (below_if g) o)) (step y last) _ _ (scope_judged o h.2 y _ (stmt_judged y (below_if g) o h.2 h.5)) refl) (rw h.6 refl)))
  stmt_judged (ts_spawn s x) g st after h =
      let o = with_spawn st in
      let t : may_spawn g st (erased_stmt x) ≡ true = h.0 in
      rw t
      (go (in_scope o (judged_stmt (erased_stmt x) (below_spawn g) o)) (step x (scope_end o h.1.0)) _ _ (scope_judged o h.1.0 x _ (stmt_judged x (below_spawn g) o h.1.0 h.1.1)) (rw h.1.2 refl))

  pub row_judged : (all : TypedRow) (g : Setting) (st after : State) → IsRow g st all after → judged_row (erased_row all) g st ≡ Ok (step all after)
  row_judged typed_end g st after h = rw h refl
  row_judged (typed_more x rest) g st after h =
      go (judged_stmt (erased_stmt x) g st) (step x h.0) _ _ (stmt_judged x g st h.0 h.1)
      (go (judged_row (erased_row rest) g h.0) (step rest after) _ _ (row_judged rest g h.0 after h.2) refl)

-- ---- statements, judged and then by cases
on_condition : {B : Type 0} (g : Setting) (c : ExprTree) (st : State) (b : B) (f : Step State TypedExprTree → Result B Refusal) (G : Type 0)
    → ((v : TypedExprTree × Bool) → IsExpr g st st.accessed v.0 v.1 → f (step v.0 (with_accessed st v.1)) ≡ Ok b → G) → and_then (condition g c st) f ≡ Ok b → G
on_condition g c st b f G h e =
    on_answer (condition g c st) f b G (λ k p q.
    on_answer (judged g st c st.accessed) _ k _ (λ v u w.
    got (λ (k : Step State TypedExprTree). f k ≡ Ok b → G) (step v.tree (with_accessed st v.accessed)) k w (h (v.tree, v.accessed) (expr_formed g st c st.accessed v u).typed)) p q) e

on_scope : {B : Type 0} (st : State) (r : Result (Step State TypedStmtTree) Refusal) (f : Step State TypedStmtTree → Result B Refusal) (b : B) (G : Type 0)
    → ((m : Step State TypedStmtTree) → r ≡ Ok m → f (step m.item (scope_end st m.after)) ≡ Ok b → G) → and_then (in_scope st r) f ≡ Ok b → G
on_scope st (Ok m) f b G h e = h m refl e
on_scope st (Err x) f b G h e = cc

mutual
  pub stmt_formed : (x : StmtTree) (g : Setting) (st : State) (k : Step State TypedStmtTree) → judged_stmt x g st ≡ Ok k → IsStmt g st k.item k.after
  stmt_formed (s_block s all) g st k e =
      on_answer (judged_row all g st) _ k _ (λ m p q. got (λ (k : Step State TypedStmtTree). IsStmt g st k.item k.after) _ k q (m.after, row_formed all g st m p, refl)) e
  stmt_formed (s_empty s) g st k e = got (λ (k : Step State TypedStmtTree). IsStmt g st k.item k.after) _ k e refl
  stmt_formed (s_locals s text ds) g st k e =
      on_answer (written text.span text.kind) _ k _ (λ ty p q. on_answer (judged_decls g ty ds st) _ k _ (λ m u v.
      got (λ (k : Step State TypedStmtTree). IsStmt g st k.item k.after) _ k v (ty, is_written text.span text.kind ty p, decls_formed g ty ds st m u)) q) e
  stmt_formed (s_assign s a) g st k e =
      on_answer (judged_assign g a st) _ k _ (λ m p q. got (λ (k : Step State TypedStmtTree). IsStmt g st k.item k.after) _ k q (assign_formed g st a m p)) e
  stmt_formed (s_if s c x) g st k e =
      on_condition g c st k _ _ (λ v p q.
      let j = with_accessed st v.1 in
      on_scope j (judged_stmt x (below_if g) j) _ k _ (λ m u w.
      got (λ (k : Step State TypedStmtTree). IsStmt g st k.item k.after) _ k w (v.1, m.after, p, stmt_formed x (below_if g) j m u, refl)) q) e
  stmt_formed (s_if_else s c x y) g st k e =
      on_condition g c st k _ _ (λ v p q.
      let j = with_accessed st v.1 in
      on_scope j (judged_stmt x (below_if g) j) _ k _ (λ m u w.
      let first = scope_end j m.after in
      let o = other_path j first in
      on_answer (joined j first (in_scope o (judged_stmt y (below_if g) o))) _ k _ (λ b t z.
      on_scope o (judged_stmt y (below_if g) o) _ b _ (λ n i f.
      let whole : IsStmt g st (ts_if_else s v.0 m.item n.item) (both_paths j first (scope_end o n.after)) =
      (v.1, m.after, n.after, p, stmt_formed x (below_if g) j m u, stmt_formed y (below_if g) o n i, refl) in
      got (λ (k : Step State TypedStmtTree). IsStmt g st k.item k.after) _ k z
      (got (λ (b : Step State TypedStmtTree). IsStmt g st (ts_if_else s v.0 m.item b.item) b.after) _ b f whole)) t) w) q) e
  stmt_formed (s_for s ty n start test last x) g st k e = cc
  stmt_formed (s_spawn s x) g st k e =
      let o = with_spawn st in
      on_hold (may_spawn g st x) _ _ k _ (λ t p.
      on_scope o (judged_stmt x (below_spawn g) o) _ k _ (λ m u w.
      let tree = stmt_erased x (below_spawn g) o m u in
      got (λ (k : Step State TypedStmtTree). IsStmt g st k.item k.after) _ k w
      (ap (may_spawn g st) tree ∙ t, (m.after, stmt_formed x (below_spawn g) o m u, refl))) p) e

  pub row_formed : (all : StmtRow) (g : Setting) (st : State) (k : Step State TypedRow) → judged_row all g st ≡ Ok k → IsRow g st k.item k.after
  row_formed row_end g st k e = got (λ (k : Step State TypedRow). IsRow g st k.item k.after) _ k e refl
  row_formed (row_more x rest) g st k e =
      on_answer (judged_stmt x g st) _ k _ (λ j p q. on_answer (judged_row rest g j.after) _ k _ (λ m u v.
      got (λ (k : Step State TypedRow). IsRow g st k.item k.after) _ k v (j.after, stmt_formed x g st j p, row_formed rest g j.after m u)) q) e
