-- What is judged of a statement, a section or a text is that with types.
use Rattle.std.proofs.Common.{◌≡◌, ◌∙◌, sym, ap, refl, ℕ, List, [], ◌∷◌, length, map, Option, Some, None, Bool, true, false, not, ◌||◌, cond, nat_eq, Result, Ok, Err}
use Rattle.ix_bits.specs.declared.number.Ty.{Ty}
use Rattle.ix_bits.specs.declared.operator.BinOp.{BinOp}
use Rattle.ix_tree.specs.declared.token.Span.{Span}
use Rattle.ix_tree.specs.Trees.{ExprTree, LvalueTree, l_name, l_pc, l_x, l_mem, Place, AssignTree, DeclTree, StmtTree, s_block, s_empty, s_locals, s_assign, s_if, s_if_else, s_for, s_spawn, StmtRow, row_end, row_more, StateTree, StateKindTree, k_register, k_table, InstrTree, BlockTree, SectionTree, SectionKindTree, k_states, k_instructions, k_always, TextTree}
use Rattle.ix_tree.specs.TypedTrees.{TypedExprTree, TypedAssignTree, TypedDeclTree, TypedStmtTree, TypedRow, TypedStateTree, TypedStateKindTree, TypedInstrTree, TypedBlockTree, TypedSectionTree, TypedSectionKindTree, TypedTextTree, erased, erased_place, erased_assign, erased_decl, erased_stmt, erased_row, erased_state_kind, erased_state, erased_instr, erased_block, erased_section_kind, erased_section, erased_text}
use Rattle.ix_typing.specs.declared.role.Role.{Role}
use Rattle.ix_typing.specs.declared.role.Role.TheVariants as R
use Rattle.ix_typing.specs.declared.role.Named.{Named}
use Rattle.ix_typing.specs.declared.state.Body.{Body}
use Rattle.ix_typing.specs.declared.state.Body.TheVariants as B
use Rattle.ix_typing.specs.declared.state.Setting.{Setting}
use Rattle.ix_typing.specs.declared.state.State.{State}
use Rattle.ix_typing.specs.declared.state.Front.{Front}
use Rattle.ix_typing.specs.declared.targets.Target.TheVariants as T
use Rattle.ix_typing.specs.Names.{role_of, is_among, is_listed}
use Rattle.ix_typing.specs.Refusals.{Refusal, Step, each, in_spawn, rom, twice}
use Rattle.ix_typing.specs.Expressions.{judged, written, u32, is_instruction, field_of, lies_in_destination, width_loaded}
use Rattle.ix_typing.specs.Assignments.{Placed, judged_assign, placed, place_of_role, writable, stored_type, goes_into, fits_into, span_of, is_update}
use Rattle.ix_typing.specs.Statements.{judged_stmt, judged_row, judged_decl, judged_decls, unless_visible, valued, may_spawn, with_spawn, below_if, below_spawn, condition, in_scope, other_path, spawned, joined}
use Rattle.ix_typing.specs.Texts.{constant, constant_setting, state_kind, is_numbered, judged_state, fields, pieces_fault, behaviour, unless, judged_instr, judged_block, judged_kind, judged_section, judged_text, global_state, globals, no_front}
use Rattle.ix_typing.proofs.Erasing.{on_answer, on_pass, judged_erased}

-- ---- what is told of the answer of a step
abbrev seen_in : {A B : Type 0} → (A → B) → B → Result A Refusal → B
seen_in v d (Ok k) = v k
seen_in v d (Err e) = d

came : {A B : Type 0} (v : A → B) (i k : A) (e : B) (r : Result A Refusal) → r ≡ Ok i → r ≡ Ok k → v i ≡ e → v k ≡ e
came v i k e r p q h = sym (ap (seen_in v e) (sym p ∙ q)) ∙ h

each_erased : {S A B : Type 0} (f : A → S → Result (Step S B) Refusal) (v : B → A) → ((x : A) (s : S) (k : Step S B) → f x s ≡ Ok k → v k.item ≡ x)
    → (xs : List A) (s : S) (k : Step S (List B)) → each f xs s ≡ Ok k → map v k.item ≡ xs
each_erased {S = S} {B = B} f v h [] s k e = came (λ (k : Step S (List B)). map v k.item) _ k [] _ refl e refl
each_erased {S = S} {A = A} {B = B} f v h (x ∷ xs) s k e =
    on_answer (f x s) _ k _ (λ j p q.
    on_answer (each f xs j.after) _ k _ (λ m u w.
    came (λ (k : Step S (List B)). map v k.item) _ k (x ∷ xs) _ refl w (ap (λ (z : A). z ∷ map v m.item) (h x s j p) ∙ ap (λ (zs : List A). x ∷ zs) (each_erased f v h xs j.after m u))) q) e

-- ---- declarations
abbrev decl_tree : Span → List ℕ → Option ExprTree → DeclTree
decl_tree s n v = record { span = s; name = n; value = v }

abbrev erased_in : {S : Type 0} → Step S TypedDeclTree → DeclTree
erased_in k = erased_decl k.item

valued_erased : (g : Setting) (ty : Ty) (s : Span) (n : List ℕ) (v : Option ExprTree) (st : State) (k : Step State TypedDeclTree) → valued g ty s n v st ≡ Ok k → erased_decl k.item ≡ decl_tree s n v
valued_erased g ty s n None st k e = came erased_in _ k (decl_tree s n None) _ refl e refl
valued_erased g ty s n (Some x) st k e =
    on_answer (judged g st x st.accessed) _ k _ (λ v p h.
    on_answer (fits_into (span_of x) ty v.ty) _ k _ (λ t q w.
    came erased_in _ k (decl_tree s n (Some x)) _ refl w (ap (λ (z : ExprTree). decl_tree s n (Some z)) (judged_erased g st x st.accessed v p))) h) e

visible_erased : (s : Span) (o : Option Role) (r : Result (Step State TypedDeclTree) Refusal) (k : Step State TypedDeclTree) (d : DeclTree)
    → (r ≡ Ok k → erased_decl k.item ≡ d) → unless_visible s o r ≡ Ok k → erased_decl k.item ≡ d
visible_erased s None r k d h e = h e
visible_erased s (Some role) r k d h e = cc

decl_erased : (g : Setting) (ty : Ty) (d : DeclTree) (st : State) (k : Step State TypedDeclTree) → judged_decl g ty d st ≡ Ok k → erased_decl k.item ≡ d
decl_erased g ty d st k e = visible_erased d.span (role_of st.names d.name) (valued g ty d.span d.name d.value st) k d (valued_erased g ty d.span d.name d.value st k) e

-- ---- places and assignments
abbrev place_tree : Span → LvalueTree → Place
place_tree s l = record { span = s; tree = l }

abbrev erased_at : Placed → Place
erased_at p = erased_place p.tree

role_erased : (st : State) (u : Bool) (s : Span) (n : List ℕ) (o : Option Role) (p : Placed) → place_of_role st u s n o ≡ Ok p → erased_place p.tree ≡ place_tree s (l_name n)
role_erased st u s n None p e = cc
role_erased st u s n (Some (R.Table k shape)) p e = cc
role_erased st u s n (Some (R.Field f)) p e = cc
role_erased st u s n (Some (R.Local ty)) p e = came erased_at _ p (place_tree s (l_name n)) _ refl e refl
role_erased st u s n (Some (R.Register k ty)) p e = on_answer (writable st u s (T.Register k) ty) _ p _ (λ t q h. came erased_at _ p (place_tree s (l_name n)) _ refl h refl) e

placed_erased : (g : Setting) (st : State) (u : Bool) (s : Span) (l : LvalueTree) (p : Placed) → placed g st u s l ≡ Ok p → erased_place p.tree ≡ place_tree s l
placed_erased g st u s (l_name n) p e = role_erased st u s n (role_of st.names n) p e
placed_erased g st u s l_pc p e =
    on_answer (writable st u s T.Pc u32) _ p _ (λ ty q h. on_pass g.in_spawn _ _ p _ (λ k. came erased_at _ p (place_tree s l_pc) _ refl k refl) h) e
placed_erased g st u s (l_x i) p e =
    on_answer (judged g st i st.accessed) _ p _ (λ j q h.
    on_pass (not (is_instruction g.body) || u || not (lies_in_destination (field_of st i))) _ _ p _ (λ k.
    on_pass (is_among st.written T.Rd) _ _ p _ (λ l. came erased_at _ p (place_tree s (l_x i)) _ refl l (ap (λ (z : ExprTree). place_tree s (l_x z)) (judged_erased g st i st.accessed j q))) k) h) e
placed_erased g st u s (l_mem a None) p e =
    on_answer (judged g st a st.accessed) _ p _ (λ j q h.
    on_answer (stored_type g st u j.accessed s (Some 8) j.ty) _ p _ (λ ty k l.
    came erased_at _ p (place_tree s (l_mem a None)) _ refl l (ap (λ (z : ExprTree). place_tree s (l_mem z None)) (judged_erased g st a st.accessed j q))) h) e
placed_erased g st u s (l_mem h (Some l)) p e =
    on_answer (judged g st h st.accessed) _ p _ (λ x q c.
    on_answer (judged g st l x.accessed) _ p _ (λ j d f.
    on_answer (stored_type g st u j.accessed s (width_loaded h l) j.ty) _ p _ (λ ty k m.
    came erased_at _ p (place_tree s (l_mem h (Some l))) _ refl m
    (ap (λ (z : ExprTree). place_tree s (l_mem z (Some (erased j.tree)))) (judged_erased g st h st.accessed x q) ∙ ap (λ (z : ExprTree). place_tree s (l_mem h (Some z))) (judged_erased g st l x.accessed j d))) f) c) e

abbrev assign_tree : Span → Place → Option BinOp → ExprTree → AssignTree
assign_tree s p op v = record { span = s; target = p; op = op; value = v }

assign_erased : (g : Setting) (a : AssignTree) (st : State) (k : Step State TypedAssignTree) → judged_assign g a st ≡ Ok k → erased_assign k.item ≡ a
assign_erased g a st k e =
    on_answer (placed g st (is_update a.op) a.target.span a.target.tree) _ k _ (λ p x h.
    on_answer (judged g st a.value p.accessed) _ k _ (λ v y w.
    on_answer (goes_into a.span a.op (span_of a.value) p.ty v.ty) _ k _ (λ t z u.
    came (λ (k : Step State TypedAssignTree). erased_assign k.item) _ k a _ refl u
    (ap (λ (q : Place). assign_tree a.span q a.op (erased v.tree)) (placed_erased g st (is_update a.op) a.target.span a.target.tree p x)
    ∙ ap (λ (q : ExprTree). assign_tree a.span a.target a.op q) (judged_erased g st a.value p.accessed v y))) w) h) e

-- ---- statements
abbrev stmt_in : Step State TypedStmtTree → StmtTree
stmt_in k = erased_stmt k.item

in_scope_erased : (st : State) (r : Result (Step State TypedStmtTree) Refusal) (k : Step State TypedStmtTree) (x : StmtTree)
    → ((m : Step State TypedStmtTree) → r ≡ Ok m → erased_stmt m.item ≡ x) → in_scope st r ≡ Ok k → erased_stmt k.item ≡ x
in_scope_erased st r k x f e = on_answer r _ k _ (λ m p h. came stmt_in _ k x _ refl h (f m p)) e

condition_erased : (g : Setting) (c : ExprTree) (st : State) (k : Step State TypedExprTree) → condition g c st ≡ Ok k → erased k.item ≡ c
condition_erased g c st k e = on_answer (judged g st c st.accessed) _ k _ (λ v p h. came (λ (k : Step State TypedExprTree). erased k.item) _ k c _ refl h (judged_erased g st c st.accessed v p)) e

spawn_erased : (b : Bool) (y : Refusal) (r : Result (Step State TypedStmtTree) Refusal) (k : Step State TypedStmtTree) (x : StmtTree)
    → (r ≡ Ok k → erased_stmt k.item ≡ x) → cond b r (Err y) ≡ Ok k → erased_stmt k.item ≡ x
spawn_erased true y r k x h e = h e
spawn_erased false y r k x h e = cc

mutual
  pub stmt_erased : (x : StmtTree) (g : Setting) (st : State) (k : Step State TypedStmtTree) → judged_stmt x g st ≡ Ok k → erased_stmt k.item ≡ x
  stmt_erased (s_block s all) g st k e = on_answer (judged_row all g st) _ k _ (λ m p h. came stmt_in _ k (s_block s all) _ refl h (ap (s_block s) (row_erased all g st m p))) e
  stmt_erased (s_empty s) g st k e = came stmt_in _ k (s_empty s) _ refl e refl
  stmt_erased (s_locals s text ds) g st k e =
      on_answer (written text.span text.kind) _ k _ (λ ty p h.
      on_answer (judged_decls g ty ds st) _ k _ (λ m q w. came stmt_in _ k (s_locals s text ds) _ refl w (ap (s_locals s text) (each_erased (judged_decl g ty) erased_decl (decl_erased g ty) ds st m q))) h) e
  stmt_erased (s_assign s a) g st k e = on_answer (judged_assign g a st) _ k _ (λ m p h. came stmt_in _ k (s_assign s a) _ refl h (ap (s_assign s) (assign_erased g a st m p))) e
  stmt_erased (s_if s c x) g st k e =
      on_answer (condition g c st) _ k _ (λ j p h.
      on_answer (in_scope j.after (judged_stmt x (below_if g) j.after)) _ k _ (λ m q w.
      came stmt_in _ k (s_if s c x) _ refl w
      (ap (λ (z : ExprTree). s_if s z (erased_stmt m.item)) (condition_erased g c st j p)
      ∙ ap (s_if s c) (in_scope_erased j.after (judged_stmt x (below_if g) j.after) m x (λ n u. stmt_erased x (below_if g) j.after n u) q))) h) e
  stmt_erased (s_if_else s c x y) g st k e =
      on_answer (condition g c st) _ k _ (λ j p h.
      on_answer (in_scope j.after (judged_stmt x (below_if g) j.after)) _ k _ (λ a q w.
      let o = other_path j.after a.after in
      let r = in_scope o (judged_stmt y (below_if g) o) in
      on_answer (joined j.after a.after r) _ k _ (λ b t u.
      came stmt_in _ k (s_if_else s c x y) _ refl u
      (ap (λ (z : ExprTree). s_if_else s z (erased_stmt a.item) (erased_stmt b.item)) (condition_erased g c st j p)
      ∙ ap (λ (z : StmtTree). s_if_else s c z (erased_stmt b.item)) (in_scope_erased j.after (judged_stmt x (below_if g) j.after) a x (λ n i. stmt_erased x (below_if g) j.after n i) q)
      ∙ ap (s_if_else s c x)
      (on_answer r _ b _ (λ d v z. came stmt_in _ b y _ refl z (in_scope_erased o (judged_stmt y (below_if g) o) d y (λ n i. stmt_erased y (below_if g) o n i) v)) t))) w) h) e
  stmt_erased (s_for s ty n start test last x) g st k e = cc
  stmt_erased (s_spawn s x) g st k e =
      let o = with_spawn st in
      let r = in_scope o (judged_stmt x (below_spawn g) o) in
      spawn_erased (may_spawn g st x) (record { rule = in_spawn; at = s }) (spawned s r) k (s_spawn s x) (λ h.
      on_answer r _ k _ (λ m q w. came stmt_in _ k (s_spawn s x) _ refl w (ap (s_spawn s) (in_scope_erased o (judged_stmt x (below_spawn g) o) m x (λ n u. stmt_erased x (below_spawn g) o n u) q))) h) e

  pub row_erased : (all : StmtRow) (g : Setting) (st : State) (k : Step State TypedRow) → judged_row all g st ≡ Ok k → erased_row k.item ≡ all
  row_erased row_end g st k e = came (λ (k : Step State TypedRow). erased_row k.item) _ k row_end _ refl e refl
  row_erased (row_more x rest) g st k e =
      on_answer (judged_stmt x g st) _ k _ (λ j p h.
      on_answer (judged_row rest g j.after) _ k _ (λ m q w.
      came (λ (k : Step State TypedRow). erased_row k.item) _ k (row_more x rest) _ refl w
      (ap (λ (z : StmtTree). row_more z (erased_row m.item)) (stmt_erased x g st j p) ∙ ap (row_more x) (row_erased rest g j.after m q))) h) e

-- ---- registers and tables
constant_erased : (ty : Ty) (x : ExprTree) (st : State) (k : Step State TypedExprTree) → constant ty x st ≡ Ok k → erased k.item ≡ x
constant_erased ty x st k e =
    on_answer (judged constant_setting st x false) _ k _ (λ v p h.
    on_answer (fits_into (span_of x) ty v.ty) _ k _ (λ t q w. came (λ (k : Step State TypedExprTree). erased k.item) _ k x _ refl w (judged_erased constant_setting st x false v p)) h) e

when_erased : {A : Type 0} (b : Bool) (y : Refusal) (r : Result A Refusal) (t : A) (G : Type 0) → (r ≡ Ok t → G) → cond b r (Err y) ≡ Ok t → G
when_erased true y r t G h e = h e
when_erased false y r t G h e = cc

kind_erased : (st : State) (s : Span) (ty : Ty) (x : StateKindTree) (t : TypedStateKindTree) → state_kind st s ty x ≡ Ok t → erased_state_kind t ≡ x
kind_erased st s ty (k_register None) t e = came erased_state_kind _ t (k_register None) _ refl e refl
kind_erased st s ty (k_register (Some x)) t e =
    on_answer (constant ty x st) _ t _ (λ k p h. came erased_state_kind _ t (k_register (Some x)) _ refl h (ap (λ (z : ExprTree). k_register (Some z)) (constant_erased ty x st k p))) e
kind_erased st s ty (k_table len xs) t e =
    on_answer (each (constant ty) xs st) _ t _ (λ k p h.
    when_erased (nat_eq (length xs) len) (record { rule = rom; at = s }) _ t _ (λ w. came erased_state_kind _ t (k_table len xs) _ refl w (ap (k_table len) (each_erased (constant ty) erased (constant_erased ty) xs st k p))) h) e

abbrev state_tree : StateTree → StateKindTree → StateTree
state_tree x k = record { span = x.span; name = x.name; ty = x.ty; kind = k }

state_erased : (st : State) (x : StateTree) (n : ℕ) (k : Step ℕ TypedStateTree) → judged_state st x n ≡ Ok k → erased_state k.item ≡ x
state_erased st x n k e =
    on_answer (written x.ty.span x.ty.kind) _ k _ (λ ty p h.
    when_erased (is_numbered (role_of st.names x.name) n) (record { rule = twice; at = x.span }) _ k _ (λ w.
    on_answer (state_kind st x.span ty x.kind) _ k _ (λ t q u. came (λ (k : Step ℕ TypedStateTree). erased_state k.item) _ k x _ refl u (ap (state_tree x) (kind_erased st x.span ty x.kind t q))) w) h) e

-- ---- behaviours
behaviour_erased : (b : Body) (names : List Named) (x : StmtTree) (t : TypedStmtTree) → behaviour b names x ≡ Ok t → erased_stmt t ≡ x
behaviour_erased b names x t e =
    let g : Setting = record { body = b; in_spawn = false; below_if = false } in
    let st : State = record { names = names; written = []; accessed = false; spawned = false } in
    on_answer (judged_stmt x g st) _ t _ (λ k p h. came erased_stmt _ t x _ refl h (stmt_erased x g st k p)) e

unless_erased : {A : Type 0} (o : Option Refusal) (r : Result A Refusal) (t : A) (G : Type 0) → (r ≡ Ok t → G) → unless o r ≡ Ok t → G
unless_erased None r t G h e = h e
unless_erased (Some x) r t G h e = cc

abbrev instr_tree : InstrTree → StmtTree → InstrTree
instr_tree x b = record { span = x.span; name = x.name; pieces = x.pieces; body = b }

abbrev block_tree : BlockTree → StmtTree → BlockTree
block_tree x b = record { span = x.span; name = x.name; body = b }

instr_erased : (names : List Named) (x : InstrTree) (seen : List (List ℕ)) (k : Step (List (List ℕ)) TypedInstrTree) → judged_instr names x seen ≡ Ok k → erased_instr k.item ≡ x
instr_erased names x seen k e =
    on_pass (is_listed seen x.name) _ _ k _ (λ h.
    unless_erased (pieces_fault names x.pieces) _ k _ (λ w.
    on_answer (behaviour B.Instruction (fields names x.pieces).names x.body) _ k _ (λ t p u.
    came (λ (k : Step (List (List ℕ)) TypedInstrTree). erased_instr k.item) _ k x _ refl u (ap (instr_tree x) (behaviour_erased B.Instruction (fields names x.pieces).names x.body t p))) w) h) e

block_erased : (names : List Named) (x : BlockTree) (seen : List (List ℕ)) (k : Step (List (List ℕ)) TypedBlockTree) → judged_block names x seen ≡ Ok k → erased_block k.item ≡ x
block_erased names x seen k e =
    on_pass (is_listed seen x.name) _ _ k _ (λ h.
    on_answer (behaviour B.Always names x.body) _ k _ (λ t p u.
    came (λ (k : Step (List (List ℕ)) TypedBlockTree). erased_block k.item) _ k x _ refl u (ap (block_tree x) (behaviour_erased B.Always names x.body t p))) h) e

-- ---- sections and texts
abbrev kind_in : Step Front TypedSectionKindTree → SectionKindTree
kind_in k = erased_section_kind k.item

section_kind_erased : (st : State) (s : Span) (x : SectionKindTree) (f : Front) (k : Step Front TypedSectionKindTree) → judged_kind st s x f ≡ Ok k → erased_section_kind k.item ≡ x
section_kind_erased st s (k_states xs) f k e =
    on_pass f.states _ _ k _ (λ h. on_answer (each (judged_state st) xs 0) _ k _ (λ m p u. came kind_in _ k (k_states xs) _ refl u (ap k_states (each_erased (judged_state st) erased_state (state_erased st) xs 0 m p))) h) e
section_kind_erased st s (k_instructions xs) f k e =
    on_pass f.instructions _ _ k _ (λ h. on_answer (each (judged_instr st.names) xs f.behaviours) _ k _ (λ m p u. came kind_in _ k (k_instructions xs) _ refl u (ap k_instructions (each_erased (judged_instr st.names) erased_instr (instr_erased st.names) xs f.behaviours m p))) h) e
section_kind_erased st s (k_always xs) f k e =
    on_pass f.always _ _ k _ (λ h. on_answer (each (judged_block st.names) xs f.behaviours) _ k _ (λ m p u. came kind_in _ k (k_always xs) _ refl u (ap k_always (each_erased (judged_block st.names) erased_block (block_erased st.names) xs f.behaviours m p))) h) e

abbrev section_tree : SectionTree → SectionKindTree → SectionTree
section_tree x k = record { span = x.span; kind = k }

section_erased : (st : State) (x : SectionTree) (f : Front) (k : Step Front TypedSectionTree) → judged_section st x f ≡ Ok k → erased_section k.item ≡ x
section_erased st x f k e =
    on_answer (judged_kind st x.span x.kind f) _ k _ (λ m p u. came (λ (k : Step Front TypedSectionTree). erased_section k.item) _ k x _ refl u (ap (section_tree x) (section_kind_erased st x.span x.kind f m p))) e

abbrev text_tree : TextTree → List SectionTree → TextTree
text_tree t xs = record { span = t.span; name = t.name; sections = xs }

-- the typed tree of a text is the text's tree with types
pub text_erased : (t : TextTree) (u : TypedTextTree) → judged_text t ≡ Ok u → erased_text u ≡ t
text_erased t u e =
    let st = global_state (globals [] t.sections) in
    on_answer (each (judged_section st) t.sections no_front) _ u _ (λ k p h. came erased_text _ u t _ refl h (ap (text_tree t) (each_erased (judged_section st) erased_section (section_erased st) t.sections no_front k p))) e
