-- A typed assignment by its cases, and what is judged of its tree.
use Rattle.std.proofs.Common.{◌≡◌, ◌∙◌, sym, ap, subst, refl, ℕ, List, Option, Some, None, Bool, true, false, cond, not, ◌||◌, Ok, Err}
use Rattle.std.proofs.lemmas.Bool.{false≢true}
use Rattle.ix_bits.specs.declared.number.Ty.{Ty}
use Rattle.ix_bits.specs.declared.operator.BinOp.{BinOp}
use Rattle.ix_tree.specs.declared.token.Span.{Span}
use Rattle.ix_tree.specs.Trees.{ExprTree, LvalueTree, l_name, l_pc, l_x, l_mem, AssignTree}
use Rattle.ix_tree.specs.TypedTrees.{TypedLvalueTree, tl_name, tl_pc, tl_x, tl_mem, TypedAssignTree, type_of, erased, erased_lvalue, erased_assign}
use Rattle.ix_typing.specs.declared.role.Role.{Role}
use Rattle.ix_typing.specs.declared.role.Role.TheVariants as R
use Rattle.ix_typing.specs.declared.state.Setting.{Setting}
use Rattle.ix_typing.specs.declared.state.State.{State}
use Rattle.ix_typing.specs.declared.targets.Target.{Target}
use Rattle.ix_typing.specs.declared.targets.Target.TheVariants as T
use Rattle.ix_typing.specs.Names.{role_of, is_among}
use Rattle.ix_typing.specs.Refusals.{Refusal, Step}
use Rattle.ix_typing.specs.Expressions.{judged, embeds, u32, is_instruction, field_of, lies_in_destination, loaded_range, width_loaded, binary_type}
use Rattle.ix_typing.specs.Assignments.{Placed, placed, place_of_role, writable, pc_place, stored_type, span_of, goes_into, is_update, judged_assign}
use Rattle.ix_typing.proofs.Erasing.{on_answer, judged_erased}
use Rattle.ix_typed.specs.Expressions.{IsLoaded}
use Rattle.ix_typed.specs.Assignments.{IsAssigned, IsStored, IsPlace, GoesInto, IsAssign}
use Rattle.ix_typed.proofs.Parts.{go, on_test, on_hold, got}
use Rattle.ix_typed.proofs.Types.{binary_is, is_binary, loaded_is, is_loaded}
use Rattle.ix_typed.proofs.ExprJudged.{made, expr_judged}
use Rattle.ix_typed.proofs.ExprCases.{expr_formed}

-- ---- by cases, then judged
abbrev place_made : Span → TypedLvalueTree → Ty → Option Target → Bool → Placed
place_made s x ty w c = record { tree = record { span = s; tree = x }; ty = ty; writes = w; accessed = c }

named_judged : (st : State) (u : Bool) (s : Span) (n : List ℕ) (o : Option Role) (ty : Ty) (w : Option Target) (c : Bool)
    → IsAssigned st o ty w → c ≡ st.accessed → place_of_role st u s n o ≡ Ok (place_made s (tl_name n) ty w c)
named_judged st u s n None ty w c h e = absurd h
named_judged st u s n (Some (R.Table k shape)) ty w c h e = absurd h
named_judged st u s n (Some (R.Field f)) ty w c h e = absurd h
named_judged st u s n (Some (R.Local t)) ty w c h e = rw (h.0, h.1, e) refl
named_judged st u s n (Some (R.Register k t)) ty w c h e = rw (h.0, h.1, h.2, e) refl

stored_judged : (g : Setting) (st : State) (u a : Bool) (s : Span) (width : Option ℕ) (at ty : Ty)
    → IsStored g st u a → IsLoaded width at ty → stored_type g st u a s width at ≡ Ok ty
stored_judged g st u a s width at ty h l = rw (h.0, h.1, h.2, h.3, h.4) (go (loaded_range s width at) ty _ _ (loaded_is s width at ty l) refl)

place_judged : (g : Setting) (st : State) (u : Bool) (s : Span) (x : TypedLvalueTree) (ty : Ty) (w : Option Target) (c : Bool)
    → IsPlace g st u x ty w c → placed g st u s (erased_lvalue x) ≡ Ok (place_made s x ty w c)
place_judged g st u s (tl_name n) ty w c h = named_judged st u s n (role_of st.names n) ty w c h.0 h.1
place_judged g st u s tl_pc ty w c h = rw (h.0, h.1, h.2, h.3, h.4) refl
place_judged g st u s (tl_x i) ty w c h =
    go (judged g st (erased i) st.accessed) (made i c) _ _ (expr_judged g st st.accessed i c h.0) (rw (h.1, h.2, h.3, h.4, h.5, h.6) refl)
place_judged g st u s (tl_mem x None) ty w c h =
    go (judged g st (erased x) st.accessed) (made x h.0) _ _ (expr_judged g st st.accessed x h.0 h.1)
    (go (stored_type g st u h.0 s (Some 8) (type_of x)) ty _ _ (stored_judged g st u h.0 s (Some 8) (type_of x) ty h.3 h.2) (rw (h.4, h.5) refl))
place_judged g st u s (tl_mem x (Some l)) ty w c h =
    let width = width_loaded (erased x) (erased l) in
    go (judged g st (erased x) st.accessed) (made x h.0) _ _ (expr_judged g st st.accessed x h.0 h.2)
    (go (judged g st (erased l) h.0) (made l h.1) _ _ (expr_judged g st h.0 l h.1 h.3)
    (go (stored_type g st u h.1 s width (type_of l)) ty _ _ (stored_judged g st u h.1 s width (type_of l) ty h.5 h.4) (rw (h.6, h.7) refl)))

goes_judged : (s : Span) (op : Option BinOp) (at : Span) (place value : Ty) → GoesInto op place value → goes_into s op at place value ≡ Ok place
goes_judged s None at place value h = rw h refl
goes_judged s (Some op) at place value h = go (binary_type s op place value) h.0 _ _ (binary_is s op place value h.0 h.1) refl

pub assign_judged : (g : Setting) (st : State) (x : TypedAssignTree) (after : State) → IsAssign g st x after → judged_assign g (erased_assign x) st ≡ Ok (record { item = x; after = after })
assign_judged g st x after h =
    let ty = h.0 in
    let w = h.1 in
    let b = h.2 in
    let c = h.3 in
    go _ (place_made x.target.span x.target.tree ty w b) _ _ (place_judged g st (is_update x.op) x.target.span x.target.tree ty w b h.4)
    (go (judged g st (erased x.value) b) (made x.value c) _ _ (expr_judged g st b x.value c h.5)
    (go (goes_into x.span x.op (span_of (erased x.value)) ty (type_of x.value)) ty _ _ (goes_judged x.span x.op (span_of (erased x.value)) ty (type_of x.value) h.6) (rw h.7 refl)))

-- ---- judged, then by cases

written_first : (b u : Bool) (x y : Refusal) (ty t : Ty) → cond b (cond u (Err x) (Err y)) (Ok ty) ≡ Ok t → (b ≡ false) × (t ≡ ty)
written_first true true x y ty t e = cc
written_first true false x y ty t e = cc
written_first false u x y ty t e = (refl, got (λ (z : Ty). z ≡ ty) ty t e refl)

role_formed : (g : Setting) (st : State) (u : Bool) (s : Span) (n : List ℕ) (o : Option Role) (p : Placed) → role_of st.names n ≡ o
    → place_of_role st u s n o ≡ Ok p → IsPlace g st u p.tree.tree p.ty p.writes p.accessed
role_formed g st u s n None p r e = cc
role_formed g st u s n (Some (R.Table k shape)) p r e = cc
role_formed g st u s n (Some (R.Field f)) p r e = cc
role_formed g st u s n (Some (R.Local t)) p r e =
    let Q : Option Role → Type 0 = λ z. IsAssigned st z t None × (st.accessed ≡ st.accessed) in
    got (λ (p : Placed). IsPlace g st u p.tree.tree p.ty p.writes p.accessed) _ p e (subst Q (sym r) ((refl, refl), refl))
role_formed g st u s n (Some (R.Register k t)) p r e =
    on_answer (writable st u s (T.Register k) t) _ p _ (λ ty f h.
    let w = written_first (is_among st.written (T.Register k)) u _ _ t ty f in
    let Q : Option Role → Type 0 = λ z. IsAssigned st z ty (Some (T.Register k)) × (st.accessed ≡ st.accessed) in
    got (λ (p : Placed). IsPlace g st u p.tree.tree p.ty p.writes p.accessed) _ p h (subst Q (sym r) ((w.0, w.1, refl), refl))) e

pc_formed : (g : Setting) (st : State) (u : Bool) (s : Span) (p : Placed) → pc_place g st u s ≡ Ok p → IsPlace g st u p.tree.tree p.ty p.writes p.accessed
pc_formed g st u s p e =
    on_answer (writable st u s T.Pc u32) _ p _ (λ ty f h.
    let w = written_first (is_among st.written T.Pc) u _ _ u32 ty f in
    on_test g.in_spawn _ _ p _ (λ k m. got (λ (p : Placed). IsPlace g st u p.tree.tree p.ty p.writes p.accessed) _ p m (w.0, k, w.1, refl, refl)) h) e

is_held : (b : Bool) → not b ≡ false → b ≡ true
is_held true h = refl
is_held false h = absurd (false≢true (sym h))

none_of : (a b c : Bool) → (not a || b || not c) ≡ false → (a ≡ true) × (b ≡ false) × (c ≡ true)
none_of true false true e = (refl, refl, refl)
none_of true false false e = absurd (false≢true (sym e))
none_of true true c e = absurd (false≢true (sym e))
none_of false b c e = absurd (false≢true (sym e))

neither : (a b : Bool) → (a || b) ≡ false → (a ≡ false) × (b ≡ false)
neither false false e = (refl, refl)
neither false true e = absurd (false≢true (sym e))
neither true b e = absurd (false≢true (sym e))

x_place_formed : (g : Setting) (st : State) (u : Bool) (s : Span) (i : ExprTree) (p : Placed) → placed g st u s (l_x i) ≡ Ok p → IsPlace g st u p.tree.tree p.ty p.writes p.accessed
x_place_formed g st u s i p e =
    on_answer (judged g st i st.accessed) _ p _ (λ j f h.
    on_test (not (is_instruction g.body) || u || not (lies_in_destination (field_of st i))) _ _ p _ (λ k m.
    on_test (is_among st.written T.Rd) _ _ p _ (λ n o.
    let all = none_of (is_instruction g.body) u (lies_in_destination (field_of st i)) k in
    let tree = judged_erased g st i st.accessed j f in
    got (λ (p : Placed). IsPlace g st u p.tree.tree p.ty p.writes p.accessed) _ p o
    ((expr_formed g st i st.accessed j f).typed, all.0, all.1, ap (λ (z : ExprTree). lies_in_destination (field_of st z)) tree ∙ all.2, n, refl, refl)) m) h) e

stored_formed : (g : Setting) (st : State) (u a : Bool) (s : Span) (width : Option ℕ) (at ty : Ty) → stored_type g st u a s width at ≡ Ok ty → IsStored g st u a × IsLoaded width at ty
stored_formed g st u a s width at ty e =
    on_test (not (is_instruction g.body)) _ _ ty _ (λ h f.
    on_answer (loaded_range s width at) _ ty _ (λ t p q.
    on_test (is_among st.written T.Memory) _ _ ty _ (λ k m.
    on_test (a || u) _ _ ty _ (λ l n.
    on_test g.in_spawn _ _ ty _ (λ o v.
    let two = neither a u l in
    ((is_held (is_instruction g.body) h, k, two.0, two.1, o), got (IsLoaded width at) t ty v (is_loaded s width at t p))) n) m) q) f) e

byte_formed : (g : Setting) (st : State) (u : Bool) (s : Span) (x : ExprTree) (p : Placed) → placed g st u s (l_mem x None) ≡ Ok p → IsPlace g st u p.tree.tree p.ty p.writes p.accessed
byte_formed g st u s x p e =
    on_answer (judged g st x st.accessed) _ p _ (λ j f h.
    on_answer (stored_type g st u j.accessed s (Some 8) j.ty) _ p _ (λ ty k m.
    let one = expr_formed g st x st.accessed j f in
    let st_ok = stored_formed g st u j.accessed s (Some 8) j.ty ty k in
    let L : Ty → Type 0 = λ z. IsLoaded (Some 8) z ty in
    got (λ (p : Placed). IsPlace g st u p.tree.tree p.ty p.writes p.accessed) _ p m (j.accessed, one.typed, subst L one.ty st_ok.1, st_ok.0, refl, refl)) h) e

bytes_formed : (g : Setting) (st : State) (u : Bool) (s : Span) (x l : ExprTree) (p : Placed) → placed g st u s (l_mem x (Some l)) ≡ Ok p → IsPlace g st u p.tree.tree p.ty p.writes p.accessed
bytes_formed g st u s x l p e =
    on_answer (judged g st x st.accessed) _ p _ (λ i f h.
    on_answer (judged g st l i.accessed) _ p _ (λ j k m.
    on_answer (stored_type g st u j.accessed s (width_loaded x l) j.ty) _ p _ (λ ty n o.
    let one = expr_formed g st x st.accessed i f in
    let two = expr_formed g st l i.accessed j k in
    let st_ok = stored_formed g st u j.accessed s (width_loaded x l) j.ty ty n in
    let L : Ty → Type 0 = λ z. IsLoaded (width_loaded x l) z ty in
    let M : ExprTree → Type 0 = λ z. IsLoaded (width_loaded z l) (type_of j.tree) ty in
    let N : ExprTree → Type 0 = λ z. IsLoaded (width_loaded (erased i.tree) z) (type_of j.tree) ty in
    let loaded = subst N (sym (judged_erased g st l i.accessed j k)) (subst M (sym (judged_erased g st x st.accessed i f)) (subst L two.ty st_ok.1)) in
    got (λ (p : Placed). IsPlace g st u p.tree.tree p.ty p.writes p.accessed) _ p o (i.accessed, j.accessed, one.typed, two.typed, loaded, st_ok.0, refl, refl)) m) h) e

place_formed : (g : Setting) (st : State) (u : Bool) (s : Span) (x : LvalueTree) (p : Placed) → placed g st u s x ≡ Ok p → IsPlace g st u p.tree.tree p.ty p.writes p.accessed
place_formed g st u s (l_name n) p e = role_formed g st u s n (role_of st.names n) p refl e
place_formed g st u s l_pc p e = pc_formed g st u s p e
place_formed g st u s (l_x i) p e = x_place_formed g st u s i p e
place_formed g st u s (l_mem x None) p e = byte_formed g st u s x p e
place_formed g st u s (l_mem x (Some l)) p e = bytes_formed g st u s x l p e

goes_formed : (s : Span) (op : Option BinOp) (at : Span) (place value ty : Ty) → goes_into s op at place value ≡ Ok ty → GoesInto op place value
goes_formed s None at place value ty e = on_hold (embeds value place) _ _ ty _ (λ h f. h) e
goes_formed s (Some op) at place value ty e = on_answer (binary_type s op place value) _ ty _ (λ t p q. (t, is_binary s op place value t p)) e

pub assign_formed : (g : Setting) (st : State) (x : AssignTree) (k : Step State TypedAssignTree) → judged_assign g x st ≡ Ok k → IsAssign g st k.item k.after
assign_formed g st x k e =
    on_answer (placed g st (is_update x.op) x.target.span x.target.tree) _ k _ (λ p f h.
    on_answer (judged g st x.value p.accessed) _ k _ (λ v m n.
    on_answer (goes_into x.span x.op (span_of x.value) p.ty v.ty) _ k _ (λ t o q.
    let value = expr_formed g st x.value p.accessed v m in
    let G : Ty → Type 0 = λ z. GoesInto x.op p.ty z in
    got (λ (k : Step State TypedAssignTree). IsAssign g st k.item k.after) _ k q
    (p.ty, p.writes, p.accessed, v.accessed, place_formed g st (is_update x.op) x.target.span x.target.tree p f, value.typed, subst G value.ty (goes_formed x.span x.op (span_of x.value) p.ty v.ty t o), refl)) n) h) e
