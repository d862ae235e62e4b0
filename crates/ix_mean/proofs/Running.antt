-- The law: what a behaviour does on terms stands for what it does on numbers.
use Rattle.std.proofs.Common.{◌≡◌, ℕ, zero, suc, refl, sym, ap, subst, ◌∙◌, Bool, true, false, cond, Option, Some, ℤ, List, [], ◌∷◌, ◌++◌, get_or, set, map}
use Rattle.std.specs.Prelude.{not, ◌&&◌}
use Rattle.std.proofs.lemmas.List.{map-set, append-nil}
use Rattle.ix_bits.specs.declared.number.Ty.{Ty}
use Rattle.ix_bits.specs.Operators.{value_of, is_true}
use Rattle.ix_graph.specs.declared.kind.Kind.TheVariants as k
use Rattle.ix_mean.specs.Core.{u1, u32, Expression, type_of_expression, Statement, st_skip, st_then, st_set, st_write, st_if}
use Rattle.ix_mean.specs.Meaning.{Inputs, number, Write, Numbers, run, Access, reads}
use Rattle.ix_mean.specs.Terms.{Term, t_const, t_read, t_one, t_entry, t_two, t_three, type_of, value, make_one, cast_to, term, Entry, Terms, along, when, unless, test_term, run_terms, Load, expression_loads, branch_loads, loads, entry_value, denoted, active}
use Rattle.ix_mean.specs.Typing.{Frame, IsTypedExpression, IsTypedStatement, IsOf, IsEntry, AreOf, AreEntries, IsState, AreInputs}
use Rattle.ix_mean.proofs.Making.{cast_of, cast_kept, condition_of, condition_true, lnot_of, lnot_true, one_of}
use Rattle.ix_mean.proofs.Expressions.{term_of, term_value, embeds_at, active-append, loads_value, loads_none}
use Rattle.ix_mean.proofs.Merging.{branch_of, branch_value, along_of, along_true, path_of, path_true}

-- ---- one slot or target is set
set_of : (ts tys : List Ty) (xs : List Term) (n : ℕ) (t : Term) → AreOf ts tys xs → IsOf ts (get_or tys n u1) t → AreOf ts tys (set xs n t)
set_of ts [] [] n t h p = tt
set_of ts [] (x ∷ xs) n t h p = absurd h
set_of ts (ty ∷ tys) [] n t h p = absurd h
set_of ts (ty ∷ tys) (x ∷ xs) zero t h p = (p, h.1)
set_of ts (ty ∷ tys) (x ∷ xs) (suc n) t h p = (h.0, set_of ts tys xs n t h.1 p)

put_of : (ts tys : List Ty) (xs : List Entry) (n : ℕ) (t : Entry) → AreEntries ts tys xs → IsEntry ts (get_or tys n u1) t → AreEntries ts tys (set xs n t)
put_of ts [] [] n t h p = tt
put_of ts [] (x ∷ xs) n t h p = absurd h
put_of ts (ty ∷ tys) [] n t h p = absurd h
put_of ts (ty ∷ tys) (x ∷ xs) zero t h p = (p, h.1)
put_of ts (ty ∷ tys) (x ∷ xs) (suc n) t h p = (h.0, put_of ts tys xs n t h.1 p)

test_of : (f : Frame) (s : Terms) (p : Term) → IsState f s → IsOf f.targets u1 p → (c : Expression) → IsTypedExpression f c → IsOf f.targets u1 (test_term s.slots p c)
test_of f s p g q c h = condition_of f.targets (term s.slots p c) (term_of f s.slots p g.slots q c h).typed

when_of : (f : Frame) (p c : Term) → IsOf f.targets u1 p → IsOf f.targets u1 c → IsOf f.targets u1 (when p c)
when_of f p c q h = path_of f.targets p c c q h

unless_of : (f : Frame) (p c : Term) → IsOf f.targets u1 p → IsOf f.targets u1 c → IsOf f.targets u1 (unless p c)
unless_of f p c q h = path_of f.targets p c (make_one k.Lnot u1 c) q (lnot_of f.targets c h)

-- ---- states keep their types
pub run_of : (f : Frame) (p : Term) → IsOf f.targets u1 p → (x : Statement) → IsTypedStatement f x → (s : Terms) → IsState f s → IsState f (run_terms p x s)
run_of f p q st_skip h s g = g
run_of f p q (st_then x y) h s g = run_of f p q y h.1 (run_terms p x s) (run_of f p q x h.0 s g)
run_of f p q (st_set n ty e) h s g =
    let c : IsOf f.targets ty (cast_to ty (term s.slots p e)) = cast_of f.targets ty (term s.slots p e) (term_of f s.slots p g.slots q e h.0).typed in
    record {
      slots = set_of f.targets f.slots s.slots n (cast_to ty (term s.slots p e)) g.slots (subst (λ (z : Ty). IsOf f.targets z (cast_to ty (term s.slots p e))) (sym h.2) c);
      targets = g.targets;
    }
run_of f p q (st_write n ty e a) h s g =
    let c : IsOf f.targets ty (cast_to ty (term s.slots p e)) = cast_of f.targets ty (term s.slots p e) (term_of f s.slots p g.slots q e h.0).typed in
    record {
      slots = g.slots;
      targets = put_of f.targets f.targets s.targets n _ g.targets (record {
        condition = one_of f.targets;
        value = subst (λ (z : Ty). IsOf f.targets z (cast_to ty (term s.slots p e))) (sym h.3) c;
        address = cast_of f.targets u32 (term s.slots p a) (term_of f s.slots p g.slots q a h.1).typed;
      });
    }
run_of f p q (st_if c x y) h s g =
    let d = test_of f s p g q c h.0 in
    let t = test_term s.slots p c in
    branch_of f t (run_terms (when p t) x s) (run_terms (unless p t) y s) d
    (run_of f (when p t) (when_of f p t q d) x h.1 s g)
    (run_of f (unless p t) (unless_of f p t q d) y h.2 s g)

-- ---- a test that holds or not
test_true : (f : Frame) (i : Inputs) → AreInputs f.targets i → (s : Terms) (p : Term) → IsState f s → IsOf f.targets u1 p → is_true (value i p) ≡ true
    → (c : Expression) → IsTypedExpression f c → is_true (value i (test_term s.slots p c)) ≡ is_true (number i (map (value i) s.slots) c)
test_true f i r s p g q l c h = condition_true f.targets i (term s.slots p c) (term_of f s.slots p g.slots q c h).typed ∙ ap is_true (term_value f i r s.slots p g.slots q l c h)

chosen : {X : Type 0} (d e : Bool) (x y u v : X) → d ≡ e → (d ≡ true → x ≡ u) → (d ≡ false → y ≡ v) → cond d x y ≡ cond e u v
chosen true e x y u v h f g = f refl ∙ ap (λ (z : Bool). cond z u v) h
chosen false e x y u v h f g = g refl ∙ ap (λ (z : Bool). cond z u v) h

-- ---- the law on writes
pub run_value : (f : Frame) (i : Inputs) → AreInputs f.targets i → (p : Term) → IsOf f.targets u1 p → is_true (value i p) ≡ true
    → (x : Statement) → IsTypedStatement f x → (s : Terms) → IsState f s → denoted i (run_terms p x s) ≡ run i x (denoted i s)
run_value f i r p q l st_skip h s g = refl
run_value f i r p q l (st_then x y) h s g =
    run_value f i r p q l y h.1 (run_terms p x s) (run_of f p q x h.0 s g) ∙ ap (run i y) (run_value f i r p q l x h.0 s g)
run_value f i r p q l (st_set n ty e) h s g =
    let t = term s.slots p e in
    let o = term_of f s.slots p g.slots q e h.0 in
    let v = cast_kept f.targets i r ty t o.typed (embeds_at (type_of_expression e) (type_of t) ty o.ty_is h.3) ∙ term_value f i r s.slots p g.slots q l e h.0 in
    ap (λ (z : List ℤ). let m : Numbers = record { slots = z; targets = map (entry_value i) s.targets } in m)
    (map-set (value i) s.slots n (cast_to ty t) ∙ ap (set (map (value i) s.slots) n) v)
run_value f i r p q l (st_write n ty e a) h s g =
    let t = term s.slots p e in
    let u = term s.slots p a in
    let o = term_of f s.slots p g.slots q e h.0 in
    let w = term_of f s.slots p g.slots q a h.1 in
    let v = cast_kept f.targets i r ty t o.typed (embeds_at (type_of_expression e) (type_of t) ty o.ty_is h.4) ∙ term_value f i r s.slots p g.slots q l e h.0 in
    let b = cast_kept f.targets i r u32 u w.typed (embeds_at (type_of_expression a) (type_of u) u32 w.ty_is h.5) ∙ term_value f i r s.slots p g.slots q l a h.1 in
    ap (λ (z : List (Option Write)). let m : Numbers = record { slots = map (value i) s.slots; targets = z } in m)
    (map-set (entry_value i) s.targets n _
    ∙ ap (λ (z : ℤ). set (map (entry_value i) s.targets) n (Some (let y : Write = record { value = z; address = value i (cast_to u32 u) } in y))) v
    ∙ ap (λ (z : ℤ). set (map (entry_value i) s.targets) n (Some (let y : Write = record { value = number i (map (value i) s.slots) e; address = z } in y))) b)
run_value f i r p q l (st_if c x y) h s g =
    let d = test_of f s p g q c h.0 in
    let t = test_term s.slots p c in
    let e = test_true f i r s p g q l c h.0 in
    branch_value f i r t (run_terms (when p t) x s) (run_terms (unless p t) y s) d
    (run_of f (when p t) (when_of f p t q d) x h.1 s g)
    (run_of f (unless p t) (unless_of f p t q d) y h.2 s g)
    ∙ chosen (is_true (value i t)) (is_true (number i (map (value i) s.slots) c)) _ _ (run i x (denoted i s)) (run i y (denoted i s)) e
    (λ w. run_value f i r (when p t) (when_of f p t q d) (path_true f.targets i p t t q d l w) x h.1 s g)
    (λ w. run_value f i r (unless p t) (unless_of f p t q d)
    (path_true f.targets i p t (make_one k.Lnot u1 t) q (lnot_of f.targets t d) l (lnot_true f.targets i t d ∙ ap not w)) y h.2 s g)

-- ---- the law on loads
-- a list that is the same whichever branch, in each of two branches of which one is not taken
joined : (i : Inputs) (d : Bool) (xs ys : List Load) (us vs : List Access) → (d ≡ true → active i xs ≡ us) → (d ≡ false → active i xs ≡ []) → (d ≡ false → active i ys ≡ vs) → (d ≡ true → active i ys ≡ [])
    → active i (xs ++ ys) ≡ cond d us vs
joined i true xs ys us vs a b c e = active-append i xs ys ∙ ap (λ (z : List Access). z ++ active i ys) (a refl) ∙ ap (λ (z : List Access). us ++ z) (e refl) ∙ append-nil us
joined i false xs ys us vs a b c e = active-append i xs ys ∙ ap (λ (z : List Access). z ++ active i ys) (b refl) ∙ c refl

-- what is needed of the loads of a branch, on each path
record Loads (ts : List Ty) (i : Inputs) (xs : Term → List Load) (us : List Access) : Type 0 where
  taken : (p : Term) → IsOf ts u1 p → is_true (value i p) ≡ true → active i (xs p) ≡ us
  passed : (p : Term) → IsOf ts u1 p → is_true (value i p) ≡ false → active i (xs p) ≡ []

apart : (ts : List Ty) (i : Inputs) (p c : Term) (xs ys : Term → List Load) (us vs : List Access) → IsOf ts u1 p → IsOf ts u1 c → is_true (value i p) ≡ true → Loads ts i xs us → Loads ts i ys vs
    → active i (xs (along p c) ++ ys (along p (make_one k.Lnot u1 c))) ≡ cond (is_true (value i c)) us vs
apart ts i p c xs ys us vs q h l x y =
    let n = lnot_of ts c h in
    let a = along_of ts p c q h in
    let b = along_of ts p (make_one k.Lnot u1 c) q n in
    let e : is_true (value i (along p c)) ≡ is_true (value i c) = along_true ts i p c q h ∙ ap (λ (z : Bool). z && is_true (value i c)) l in
    let o : is_true (value i (along p (make_one k.Lnot u1 c))) ≡ not (is_true (value i c)) =
    along_true ts i p (make_one k.Lnot u1 c) q n ∙ ap (λ (z : Bool). z && is_true (value i (make_one k.Lnot u1 c))) l ∙ lnot_true ts i c h in
    joined i (is_true (value i c)) (xs (along p c)) (ys (along p (make_one k.Lnot u1 c))) us vs
    (λ w. x.taken (along p c) a (e ∙ w))
    (λ w. x.passed (along p c) a (e ∙ w))
    (λ w. y.taken (along p (make_one k.Lnot u1 c)) b (o ∙ ap not w))
    (λ w. y.passed (along p (make_one k.Lnot u1 c)) b (o ∙ ap not w))

branch_loads_value : (ts : List Ty) (i : Inputs) (p c : Term) (xs ys : Term → List Load) (us vs : List Access) → IsOf ts u1 p → IsOf ts u1 c → is_true (value i p) ≡ true → Loads ts i xs us → Loads ts i ys vs
    → active i (branch_loads c (xs (when p c)) (ys (unless p c))) ≡ cond (is_true (value i c)) us vs
branch_loads_value ts i p (t_const a raw) xs ys us vs q h l x y = either (is_true (value_of a raw)) i (xs p) (ys p) us vs (x.taken p q l) (y.taken p q l)
  where
    either : (d : Bool) (i : Inputs) (xs ys : List Load) (us vs : List Access) → active i xs ≡ us → active i ys ≡ vs → active i (cond d xs ys) ≡ cond d us vs
    either true i xs ys us vs e f = e
    either false i xs ys us vs e f = f
branch_loads_value ts i p (t_read m a) xs ys us vs q h l x y = apart ts i p (t_read m a) xs ys us vs q h l x y
branch_loads_value ts i p (t_one m a u) xs ys us vs q h l x y = apart ts i p (t_one m a u) xs ys us vs q h l x y
branch_loads_value ts i p (t_entry n es a u) xs ys us vs q h l x y = apart ts i p (t_entry n es a u) xs ys us vs q h l x y
branch_loads_value ts i p (t_two m a u v) xs ys us vs q h l x y = apart ts i p (t_two m a u v) xs ys us vs q h l x y
branch_loads_value ts i p (t_three m a u v w) xs ys us vs q h l x y = apart ts i p (t_three m a u v w) xs ys us vs q h l x y

silent : (ts : List Ty) (i : Inputs) (p c : Term) (xs ys : Term → List Load) → IsOf ts u1 p → IsOf ts u1 c → is_true (value i p) ≡ false
    → ((p : Term) → IsOf ts u1 p → is_true (value i p) ≡ false → active i (xs p) ≡ []) → ((p : Term) → IsOf ts u1 p → is_true (value i p) ≡ false → active i (ys p) ≡ [])
    → active i (xs (along p c) ++ ys (along p (make_one k.Lnot u1 c))) ≡ []
silent ts i p c xs ys q h l x y =
    let n = lnot_of ts c h in
    let e : is_true (value i (along p c)) ≡ false = along_true ts i p c q h ∙ ap (λ (z : Bool). z && is_true (value i c)) l in
    let o : is_true (value i (along p (make_one k.Lnot u1 c))) ≡ false = along_true ts i p (make_one k.Lnot u1 c) q n ∙ ap (λ (z : Bool). z && is_true (value i (make_one k.Lnot u1 c))) l in
    active-append i (xs (along p c)) (ys (along p (make_one k.Lnot u1 c)))
    ∙ ap (λ (z : List Access). z ++ active i (ys (along p (make_one k.Lnot u1 c)))) (x (along p c) (along_of ts p c q h) e)
    ∙ y (along p (make_one k.Lnot u1 c)) (along_of ts p (make_one k.Lnot u1 c) q n) o

-- no load is active on a path that does not hold
branch_loads_none : (ts : List Ty) (i : Inputs) (p c : Term) (xs ys : Term → List Load) → IsOf ts u1 p → IsOf ts u1 c → is_true (value i p) ≡ false
    → ((p : Term) → IsOf ts u1 p → is_true (value i p) ≡ false → active i (xs p) ≡ []) → ((p : Term) → IsOf ts u1 p → is_true (value i p) ≡ false → active i (ys p) ≡ [])
    → active i (branch_loads c (xs (when p c)) (ys (unless p c))) ≡ []
branch_loads_none ts i p (t_const a raw) xs ys q h l x y = either (is_true (value_of a raw)) i (xs p) (ys p) (x p q l) (y p q l)
  where
    either : (d : Bool) (i : Inputs) (xs ys : List Load) → active i xs ≡ [] → active i ys ≡ [] → active i (cond d xs ys) ≡ []
    either true i xs ys e f = e
    either false i xs ys e f = f
branch_loads_none ts i p (t_read m a) xs ys q h l x y = silent ts i p (t_read m a) xs ys q h l x y
branch_loads_none ts i p (t_one m a u) xs ys q h l x y = silent ts i p (t_one m a u) xs ys q h l x y
branch_loads_none ts i p (t_entry n es a u) xs ys q h l x y = silent ts i p (t_entry n es a u) xs ys q h l x y
branch_loads_none ts i p (t_two m a u v) xs ys q h l x y = silent ts i p (t_two m a u v) xs ys q h l x y
branch_loads_none ts i p (t_three m a u v w) xs ys q h l x y = silent ts i p (t_three m a u v w) xs ys q h l x y

two_lists : (i : Inputs) (xs ys : List Load) (us vs : List Access) → active i xs ≡ us → active i ys ≡ vs → active i (xs ++ ys) ≡ us ++ vs
two_lists i xs ys us vs e f = active-append i xs ys ∙ ap (λ (z : List Access). z ++ active i ys) e ∙ ap (λ (z : List Access). us ++ z) f

pub no_reads : (f : Frame) (i : Inputs) → (x : Statement) → IsTypedStatement f x → (s : Terms) → IsState f s → (p : Term) → IsOf f.targets u1 p → is_true (value i p) ≡ false → active i (loads p x s) ≡ []
no_reads f i st_skip h s g p q l = refl
no_reads f i (st_then x y) h s g p q l =
    two_lists i (loads p x s) (loads p y (run_terms p x s)) [] [] (no_reads f i x h.0 s g p q l) (no_reads f i y h.1 (run_terms p x s) (run_of f p q x h.0 s g) p q l)
no_reads f i (st_set n ty e) h s g p q l = loads_none i s.slots p l e
no_reads f i (st_write n ty e a) h s g p q l =
    two_lists i (expression_loads s.slots p a) (expression_loads s.slots p e) [] [] (loads_none i s.slots p l a) (loads_none i s.slots p l e)
no_reads f i (st_if c x y) h s g p q l =
    two_lists i (expression_loads s.slots p c) _ [] [] (loads_none i s.slots p l c)
    (branch_loads_none f.targets i p (test_term s.slots p c) (λ z. loads z x s) (λ z. loads z y s) q (test_of f s p g q c h.0) l
    (λ z o w. no_reads f i x h.1 s g z o w) (λ z o w. no_reads f i y h.2 s g z o w))

pub reads_value : (f : Frame) (i : Inputs) → AreInputs f.targets i → (x : Statement) → IsTypedStatement f x → (s : Terms) → IsState f s → (p : Term) → IsOf f.targets u1 p → is_true (value i p) ≡ true
    → active i (loads p x s) ≡ reads i x (denoted i s)
reads_value f i r st_skip h s g p q l = refl
reads_value f i r (st_then x y) h s g p q l =
    two_lists i (loads p x s) (loads p y (run_terms p x s)) _ _ (reads_value f i r x h.0 s g p q l)
    (reads_value f i r y h.1 (run_terms p x s) (run_of f p q x h.0 s g) p q l ∙ ap (reads i y) (run_value f i r p q l x h.0 s g))
reads_value f i r (st_set n ty e) h s g p q l = loads_value f i r s.slots p g.slots q l e h.0
reads_value f i r (st_write n ty e a) h s g p q l =
    two_lists i (expression_loads s.slots p a) (expression_loads s.slots p e) _ _ (loads_value f i r s.slots p g.slots q l a h.1) (loads_value f i r s.slots p g.slots q l e h.0)
reads_value f i r (st_if c x y) h s g p q l =
    two_lists i (expression_loads s.slots p c) _ _ _ (loads_value f i r s.slots p g.slots q l c h.0)
    (branch_loads_value f.targets i p (test_term s.slots p c) (λ z. loads z x s) (λ z. loads z y s) (reads i x (denoted i s)) (reads i y (denoted i s)) q (test_of f s p g q c h.0) l
    (record { taken = λ z o w. reads_value f i r x h.1 s g z o w; passed = λ z o w. no_reads f i x h.1 s g z o w })
    (record { taken = λ z o w. reads_value f i r y h.2 s g z o w; passed = λ z o w. no_reads f i y h.2 s g z o w })
    ∙ ap (λ (z : Bool). cond z (reads i x (denoted i s)) (reads i y (denoted i s))) (test_true f i r s p g q l c h.0))
