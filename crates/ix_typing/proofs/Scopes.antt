-- The names that are visible before a statement are the first ones behind it.
use Rattle.std.proofs.Common.{◌≡◌, ◌∙◌, sym, ap, subst, refl, ℕ, List, [], ◌∷◌, ◌++◌, length, take, Option, Some, None, Bool, true, false, cond, Result, Ok, Err, append_assoc}
use Rattle.std.proofs.lemmas.List.{append-nil}
use Rattle.ix_bits.specs.declared.number.Ty.{Ty}
use Rattle.ix_tree.specs.declared.token.Span.{Span}
use Rattle.ix_tree.specs.Trees.{ExprTree, AssignTree, DeclTree, StmtTree, s_block, s_empty, s_locals, s_assign, s_if, s_if_else, s_for, s_spawn, StmtRow, row_end, row_more}
use Rattle.ix_tree.specs.TypedTrees.{TypedExprTree, TypedAssignTree, TypedDeclTree, TypedStmtTree, TypedRow}
use Rattle.ix_typing.specs.declared.role.Role.{Role}
use Rattle.ix_typing.specs.declared.role.Named.{Named}
use Rattle.ix_typing.specs.declared.state.Setting.{Setting}
use Rattle.ix_typing.specs.declared.state.State.{State}
use Rattle.ix_typing.specs.Names.{role_of}
use Rattle.ix_typing.specs.Refusals.{Refusal, and_then, Step, in_spawn}
use Rattle.ix_typing.specs.Expressions.{judged, written}
use Rattle.ix_typing.specs.Assignments.{judged_assign, placed, goes_into, fits_into, span_of, is_update}
use Rattle.ix_typing.specs.Statements.{judged_stmt, judged_row, judged_decl, judged_decls, unless_visible, valued, may_spawn, with_spawn, below_if, below_spawn, condition, in_scope, other_path, scope_end, spawned, joined}

-- the second names begin with the first
pub record Grows (a b : List Named) : Type 0 where
  pub more : List Named
  pub is : b ≡ a ++ more

grows_same : (a : List Named) → Grows a a
grows_same a = record { more = []; is = sym (append-nil a) }

grows_on : (a b c : List Named) → Grows a b → Grows b c → Grows a c
grows_on a b c g h = record { more = g.more ++ h.more; is = h.is ∙ ap (λ (z : List Named). z ++ h.more) g.is ∙ append_assoc a g.more h.more }

take_front : (a d : List Named) → take (length a) (a ++ d) ≡ a
take_front [] d = refl
take_front (x ∷ a) d = ap (λ (z : List Named). x ∷ z) (take_front a d)

-- the first names are those of before
pub front_is : (a b : List Named) → Grows a b → take (length a) b ≡ a
front_is a b g = ap (take (length a)) g.is ∙ take_front a g.more

unfoldable names_in : {A : Type 0} → Result (Step State A) Refusal → List Named
names_in (Ok k) = k.after.names
names_in (Err e) = []

-- the answer of a step that was made
ends : {A : Type 0} (a : List Named) (j k : Step State A) (r : Result (Step State A) Refusal) → r ≡ Ok j → r ≡ Ok k → Grows a j.after.names → Grows a k.after.names
unfolding names_in
ends a j k r e f g =
    let P : List Named → Type 0 = λ z. Grows a z in
    subst P (ap names_in (sym e ∙ f)) g

on_answer : {C B : Type 0} (r : Result C Refusal) (f : C → Result (Step State B) Refusal) (a : List Named) (k : Step State B)
    → ((m : C) → r ≡ Ok m → f m ≡ Ok k → Grows a k.after.names) → and_then r f ≡ Ok k → Grows a k.after.names
on_answer (Ok m) f a k h e = h m refl e
on_answer (Err x) f a k h e = cc

scope_grows : (a : State) (b : State) → Grows a.names b.names → Grows a.names (scope_end a b).names
scope_grows a b g =
    let P : List Named → Type 0 = λ z. Grows a.names z in
    subst P (sym (front_is a.names b.names g)) (grows_same a.names)

in_scope_grows : (st : State) (r : Result (Step State TypedStmtTree) Refusal) (k : Step State TypedStmtTree)
    → ((m : Step State TypedStmtTree) → r ≡ Ok m → Grows st.names m.after.names) → in_scope st r ≡ Ok k → Grows st.names k.after.names
in_scope_grows st r k f e = on_answer r _ st.names k (λ m p h. ends st.names _ k _ refl h (scope_grows st m.after (f m p))) e

condition_grows : (g : Setting) (c : ExprTree) (st : State) (k : Step State TypedExprTree) → condition g c st ≡ Ok k → Grows st.names k.after.names
condition_grows g c st k e = on_answer (judged g st c st.accessed) _ st.names k (λ v p h. ends st.names _ k _ refl h (grows_same st.names)) e

-- ---- declarations and assignments
valued_grows : (g : Setting) (ty : Ty) (s : Span) (n : List ℕ) (v : Option ExprTree) (st : State) (k : Step State TypedDeclTree) → valued g ty s n v st ≡ Ok k → Grows st.names k.after.names
valued_grows g ty s n None st k e = ends st.names _ k _ refl e (record { more = _; is = refl })
valued_grows g ty s n (Some x) st k e =
    on_answer (judged g st x st.accessed) _ st.names k (λ v p h. on_answer (fits_into (span_of x) ty v.ty) _ st.names k (λ t q w. ends st.names _ k _ refl w (record { more = _; is = refl })) h) e

visible_grows : (s : Span) (o : Option Role) (r : Result (Step State TypedDeclTree) Refusal) (a : List Named) (k : Step State TypedDeclTree)
    → (r ≡ Ok k → Grows a k.after.names) → unless_visible s o r ≡ Ok k → Grows a k.after.names
visible_grows s None r a k h e = h e
visible_grows s (Some role) r a k h e = cc

decl_grows : (g : Setting) (ty : Ty) (d : DeclTree) (st : State) (k : Step State TypedDeclTree) → judged_decl g ty d st ≡ Ok k → Grows st.names k.after.names
decl_grows g ty d st k e = visible_grows d.span (role_of st.names d.name) (valued g ty d.span d.name d.value st) st.names k (valued_grows g ty d.span d.name d.value st k) e

decls_grow : (g : Setting) (ty : Ty) (ds : List DeclTree) (st : State) (k : Step State (List TypedDeclTree)) → judged_decls g ty ds st ≡ Ok k → Grows st.names k.after.names
decls_grow g ty [] st k e = ends st.names _ k _ refl e (grows_same st.names)
decls_grow g ty (d ∷ ds) st k e =
    on_answer (judged_decl g ty d st) _ st.names k (λ j p h.
    on_answer (judged_decls g ty ds j.after) _ st.names k (λ m q w.
    ends st.names _ k _ refl w (grows_on st.names j.after.names m.after.names (decl_grows g ty d st j p) (decls_grow g ty ds j.after m q))) h) e

assign_grows : (g : Setting) (a : AssignTree) (st : State) (k : Step State TypedAssignTree) → judged_assign g a st ≡ Ok k → Grows st.names k.after.names
assign_grows g a st k e =
    on_answer (placed g st (is_update a.op) a.target.span a.target.tree) _ st.names k (λ p x h.
    on_answer (judged g st a.value p.accessed) _ st.names k (λ v y w.
    on_answer (goes_into a.span a.op (span_of a.value) p.ty v.ty) _ st.names k (λ t z u. ends st.names _ k _ refl u (grows_same st.names)) w) h) e

-- ---- statements
spawn_grows : (b : Bool) (x : Refusal) (r : Result (Step State TypedStmtTree) Refusal) (a : List Named) (k : Step State TypedStmtTree)
    → (r ≡ Ok k → Grows a k.after.names) → cond b r (Err x) ≡ Ok k → Grows a k.after.names
spawn_grows true x r a k h e = h e
spawn_grows false x r a k h e = cc

mutual
  pub stmt_grows : (x : StmtTree) (g : Setting) (st : State) (k : Step State TypedStmtTree) → judged_stmt x g st ≡ Ok k → Grows st.names k.after.names
  stmt_grows (s_block s all) g st k e =
      on_answer (judged_row all g st) _ st.names k (λ m p h. ends st.names _ k _ refl h (scope_grows st m.after (row_grows all g st m p))) e
  stmt_grows (s_empty s) g st k e = ends st.names _ k _ refl e (grows_same st.names)
  stmt_grows (s_locals s text ds) g st k e =
      on_answer (written text.span text.kind) _ st.names k (λ ty p h.
      on_answer (judged_decls g ty ds st) _ st.names k (λ m q w. ends st.names _ k _ refl w (decls_grow g ty ds st m q)) h) e
  stmt_grows (s_assign s a) g st k e = on_answer (judged_assign g a st) _ st.names k (λ m p h. ends st.names _ k _ refl h (assign_grows g a st m p)) e
  stmt_grows (s_if s c x) g st k e =
      on_answer (condition g c st) _ st.names k (λ j p h.
      on_answer (in_scope j.after (judged_stmt x (below_if g) j.after)) _ st.names k (λ m q w.
      ends st.names _ k _ refl w
      (grows_on st.names j.after.names m.after.names (condition_grows g c st j p) (in_scope_grows j.after (judged_stmt x (below_if g) j.after) m (λ n u. stmt_grows x (below_if g) j.after n u) q))) h) e
  stmt_grows (s_if_else s c x y) g st k e =
      on_answer (condition g c st) _ st.names k (λ j p h.
      on_answer (in_scope j.after (judged_stmt x (below_if g) j.after)) _ st.names k (λ a q w.
      let o = other_path j.after a.after in
      let r = in_scope o (judged_stmt y (below_if g) o) in
      let first : Grows st.names a.after.names = grows_on st.names j.after.names a.after.names (condition_grows g c st j p) (in_scope_grows j.after (judged_stmt x (below_if g) j.after) a (λ n u. stmt_grows x (below_if g) j.after n u) q) in
      on_answer (joined j.after a.after r) _ st.names k (λ b t u.
      ends st.names _ k _ refl u
      (on_answer r _ st.names b (λ d v z.
      ends st.names _ b _ refl z (grows_on st.names a.after.names d.after.names first (in_scope_grows o (judged_stmt y (below_if g) o) d (λ n i. stmt_grows y (below_if g) o n i) v))) t)) w) h) e
  stmt_grows (s_for s ty n start test last x) g st k e = cc
  stmt_grows (s_spawn s x) g st k e =
      let o = with_spawn st in
      let r = in_scope o (judged_stmt x (below_spawn g) o) in
      spawn_grows (may_spawn g st x) (record { rule = in_spawn; at = s }) (spawned s r) st.names k (λ h.
      on_answer r _ st.names k (λ m q w. ends st.names _ k _ refl w (in_scope_grows o (judged_stmt x (below_spawn g) o) m (λ n u. stmt_grows x (below_spawn g) o n u) q)) h) e

  pub row_grows : (all : StmtRow) (g : Setting) (st : State) (k : Step State TypedRow) → judged_row all g st ≡ Ok k → Grows st.names k.after.names
  row_grows row_end g st k e = ends st.names _ k _ refl e (grows_same st.names)
  row_grows (row_more x rest) g st k e =
      on_answer (judged_stmt x g st) _ st.names k (λ j p h.
      on_answer (judged_row rest g j.after) _ st.names k (λ m q w.
      ends st.names _ k _ refl w (grows_on st.names j.after.names m.after.names (stmt_grows x g st j p) (row_grows rest g j.after m q))) h) e
