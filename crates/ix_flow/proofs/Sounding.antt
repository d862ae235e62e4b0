-- What is an operation of a typed behaviour has typed arguments.
use Rattle.std.proofs.Common.{◌≡◌, ℕ, zero, suc, ◌<◌, ◌≤◌, refl, sym, ap, subst, inl, inr, ⊎_elim, List, [], ◌∷◌, ◌++◌, length, map}
use Rattle.std.specs.List.{AllByRecursion, flat_map}
use Rattle.std.proofs.lemmas.Bool.{cond_both}
use Rattle.ix_bits.specs.declared.number.Ty.{Ty}
use Rattle.ix_bits.specs.Operators.{value_of, is_true}
use Rattle.ix_graph.specs.declared.kind.Kind.TheVariants as k
use Rattle.ix_mean.specs.Core.{u1, Expression, x_const, x_slot, x_read, x_load, x_one, x_cast, x_entry, x_two, x_choose, Statement, st_skip, st_then, st_set, st_write, st_if}
use Rattle.ix_mean.specs.Terms.{Term, t_const, t_read, t_one, t_entry, t_two, t_three, same_term, zero_term, one_term, make_one, Entry, Terms, Load, term, when, unless, test_term, run_terms, expression_loads, branch_loads, loads}
use Rattle.ix_mean.specs.Order.{postorder, Among, operations, load_root, write_root, write_roots, roots}
use Rattle.ix_mean.specs.Typing.{Frame, IsTypedExpression, IsTypedStatement, IsTerm, IsOf, IsEntry, AreOf, AreEntries, IsState}
use Rattle.ix_mean.specs.Effects.{start, effect_terms}
use Rattle.ix_mean.proofs.Making.{condition_of, lnot_of, one_of}
use Rattle.ix_mean.proofs.Expressions.{term_of}
use Rattle.ix_mean.proofs.Merging.{path_of}
use Rattle.ix_mean.proofs.Running.{run_of}
use Rattle.ix_mean.proofs.Effecting.{start_of, effect_typed}
use Rattle.ix_mean.proofs.Ordering.{among_either, operations_law}
use Rattle.ix_terms.specs.Stores.{Stock, at, size}
use Rattle.ix_terms.specs.Places.{IsOperation}
use Rattle.ix_flow.specs.Orders.{terms_at}
use Rattle.ix_flow.specs.Operands.{IsSound, IsOpReady}

-- ---- loads are typed
abbrev pub AreLoads : List Ty → List Load → Type 0
AreLoads ts [] = Unit {0}
AreLoads ts (l ∷ ls) = IsTerm ts (load_root l) × AreLoads ts ls

both_loads : (ts : List Ty) (xs ys : List Load) → AreLoads ts xs → AreLoads ts ys → AreLoads ts (xs ++ ys)
both_loads ts [] ys h g = g
both_loads ts (x ∷ xs) ys h g = (h.0, both_loads ts xs ys h.1 g)

expression_typed : (f : Frame) (xs : List Term) (p : Term) → AreOf f.targets f.slots xs → IsOf f.targets u1 p → (e : Expression) → IsTypedExpression f e → AreLoads f.targets (expression_loads xs p e)
expression_typed f xs p s q (x_const ty raw) h = tt
expression_typed f xs p s q (x_slot n ty) h = tt
expression_typed f xs p s q (x_read kind ty) h = tt
expression_typed f xs p s q (x_load ty a) h = both_loads f.targets (expression_loads xs p a) _ (expression_typed f xs p s q a h.0) ((term_of f xs p s q (x_load ty a) h).typed, tt)
expression_typed f xs p s q (x_one kind ty a) h = expression_typed f xs p s q a h.0
expression_typed f xs p s q (x_cast ty a) h = expression_typed f xs p s q a h
expression_typed f xs p s q (x_entry n es ty a) h = expression_typed f xs p s q a h.0
expression_typed f xs p s q (x_two op ty a b) h = both_loads f.targets (expression_loads xs p a) (expression_loads xs p b) (expression_typed f xs p s q a h.0) (expression_typed f xs p s q b h.1)
expression_typed f xs p s q (x_choose ty c a b) h =
    both_loads f.targets (expression_loads xs p c ++ expression_loads xs p a) (expression_loads xs p b)
    (both_loads f.targets (expression_loads xs p c) (expression_loads xs p a) (expression_typed f xs p s q c h.0) (expression_typed f xs p s q a h.1)) (expression_typed f xs p s q b h.2)

branch_typed : (ts : List Ty) (c : Term) (xs ys : List Load) → AreLoads ts xs → AreLoads ts ys → AreLoads ts (branch_loads c xs ys)
branch_typed ts (t_const a raw) xs ys h g = cond_both (is_true (value_of a raw)) xs ys (AreLoads ts) (λ e. h) (λ e. g)
branch_typed ts (t_read _ _) xs ys h g = both_loads ts xs ys h g
branch_typed ts (t_one _ _ _) xs ys h g = both_loads ts xs ys h g
branch_typed ts (t_entry _ _ _ _) xs ys h g = both_loads ts xs ys h g
branch_typed ts (t_two _ _ _ _) xs ys h g = both_loads ts xs ys h g
branch_typed ts (t_three _ _ _ _ _) xs ys h g = both_loads ts xs ys h g

pub loads_typed : (f : Frame) (p : Term) → IsOf f.targets u1 p → (x : Statement) → IsTypedStatement f x → (s : Terms) → IsState f s → AreLoads f.targets (loads p x s)
loads_typed f p q st_skip h s g = tt
loads_typed f p q (st_then x y) h s g = both_loads f.targets (loads p x s) (loads p y (run_terms p x s)) (loads_typed f p q x h.0 s g) (loads_typed f p q y h.1 (run_terms p x s) (run_of f p q x h.0 s g))
loads_typed f p q (st_set n ty e) h s g = expression_typed f s.slots p g.slots q e h.0
loads_typed f p q (st_write n ty e a) h s g =
    both_loads f.targets (expression_loads s.slots p a) (expression_loads s.slots p e) (expression_typed f s.slots p g.slots q a h.1) (expression_typed f s.slots p g.slots q e h.0)
loads_typed f p q (st_if c x y) h s g =
    let t = test_term s.slots p c in
    let d = condition_of f.targets (term s.slots p c) (term_of f s.slots p g.slots q c h.0).typed in
    both_loads f.targets (expression_loads s.slots p c) _ (expression_typed f s.slots p g.slots q c h.0)
    (branch_typed f.targets t _ _ (loads_typed f (when p t) (path_of f.targets p t t q d) x h.1 s g)
    (loads_typed f (unless p t) (path_of f.targets p t (make_one k.Lnot u1 t) q (lnot_of f.targets t d)) y h.2 s g))

-- ---- subterms
sound_of : (ts : List Ty) (t : Term) → IsTerm ts t → IsSound ts t
sound_of ts (t_const ty raw) h = tt
sound_of ts (t_read kind ty) h = tt
sound_of ts (t_one kind ty a) h = h.0
sound_of ts (t_entry n es ty a) h = h
sound_of ts (t_two kind ty a b) h = (h.0, h.1)
sound_of ts (t_three kind ty a b c) h = (h.0, h.1, h.2)

only_last : (us : List Term) (t u : Term) (P : Type 0) → (Among us u → P) → (u ≡ t → P) → Among (us ++ t ∷ []) u → P
only_last us t u P f g m = ⊎_elim f (λ (b : Among (t ∷ []) u). ⊎_elim g (λ (no : ⊥). absurd no) b) (among_either us (t ∷ []) u m)

itself_sound : (ts : List Ty) (t u : Term) → IsSound ts t → IsOperation t → u ≡ t → IsSound ts u × IsOperation u
itself_sound ts t u h o e = (subst (IsSound ts) (sym e) h, subst IsOperation (sym e) o)

sound_in : (ts : List Ty) (t u : Term) → IsSound ts t → Among (postorder t) u → IsSound ts u × IsOperation u
sound_in ts (t_const ty raw) u h m = absurd m
sound_in ts (t_read kind ty) u h m = ⊎_elim (λ (e : u ≡ t_read kind ty). itself_sound ts (t_read kind ty) u h tt e) (λ (no : ⊥). absurd no) m
sound_in ts (t_one kind ty a) u h m = only_last (postorder a) (t_one kind ty a) u _ (λ n. sound_in ts a u (sound_of ts a h) n) (λ e. itself_sound ts (t_one kind ty a) u h tt e) m
sound_in ts (t_entry n es ty a) u h m = only_last (postorder a) (t_entry n es ty a) u _ (λ l. sound_in ts a u (sound_of ts a h.0) l) (λ e. itself_sound ts (t_entry n es ty a) u h tt e) m
sound_in ts (t_two kind ty a b) u h m =
    only_last (postorder a ++ postorder b) (t_two kind ty a b) u _
    (λ n. ⊎_elim (λ (l : Among (postorder a) u). sound_in ts a u (sound_of ts a h.0) l) (λ (r : Among (postorder b) u). sound_in ts b u (sound_of ts b h.1) r) (among_either (postorder a) (postorder b) u n))
    (λ e. itself_sound ts (t_two kind ty a b) u h tt e) m
sound_in ts (t_three kind ty a b c) u h m =
    only_last (postorder a ++ postorder b ++ postorder c) (t_three kind ty a b c) u _
    (λ n. ⊎_elim
    (λ (w : Among (postorder a ++ postorder b) u). ⊎_elim (λ (l : Among (postorder a) u). sound_in ts a u (sound_of ts a h.0) l) (λ (r : Among (postorder b) u). sound_in ts b u (sound_of ts b h.1) r) (among_either (postorder a) (postorder b) u w))
    (λ (r : Among (postorder c) u). sound_in ts c u (sound_of ts c h.2) r) (among_either (postorder a ++ postorder b) (postorder c) u n))
    (λ e. itself_sound ts (t_three kind ty a b c) u h tt e) m

-- ---- roots
abbrev AreSound : List Ty → List Term → Type 0
AreSound ts rs = AllByRecursion (IsSound ts) rs

all_both : (ts : List Ty) (xs ys : List Term) → AreSound ts xs → AreSound ts ys → AreSound ts (xs ++ ys)
all_both ts [] ys h g = g
all_both ts (x ∷ xs) ys h g = (h.0, all_both ts xs ys h.1 g)

loads_sound : (ts : List Ty) (ls : List Load) → AreLoads ts ls → AreSound ts (map load_root ls)
loads_sound ts [] h = tt
loads_sound ts (l ∷ ls) h = (sound_of ts (load_root l) h.0, loads_sound ts ls h.1)

write_sound : (ts : List Ty) (ty : Ty) (n : ℕ) (e : Entry) → IsEntry ts ty e → IsSound ts (write_root n e)
write_sound ts ty zero e h = (h.address.typed, h.value.typed, h.condition.typed)
write_sound ts ty (suc zero) e h = (h.value.typed, h.condition.typed)
write_sound ts ty (suc (suc zero)) e h = (h.value.typed, h.condition.typed)
write_sound ts ty (suc (suc (suc r))) e h = (h.value.typed, h.condition.typed)

writes_sound : (ts tys : List Ty) (n : ℕ) (es : List Entry) → AreEntries ts tys es → AreSound ts (write_roots n es)
writes_sound ts [] n [] h = tt
writes_sound ts [] n (e ∷ es) h = absurd h
writes_sound ts (ty ∷ tys) n [] h = absurd h
writes_sound ts (ty ∷ tys) n (e ∷ es) h =
    cond_both (same_term e.condition zero_term) (write_roots (suc n) es) (write_root n e ∷ write_roots (suc n) es) (AreSound ts)
    (λ d. writes_sound ts tys (suc n) es h.1) (λ d. (write_sound ts ty n e h.0, writes_sound ts tys (suc n) es h.1))

roots_in : (ts : List Ty) (rs : List Term) (u : Term) → AreSound ts rs → Among (flat_map postorder rs) u → IsSound ts u × IsOperation u
roots_in ts [] u h m = absurd m
roots_in ts (r ∷ rs) u h m = ⊎_elim (λ (a : Among (postorder r) u). sound_in ts r u h.0 a) (λ (b : Among (flat_map postorder rs) u). roots_in ts rs u h.1 b) (among_either (postorder r) (flat_map postorder rs) u m)

-- each operation of a typed behaviour has typed arguments
pub operations_sound : (f : Frame) (x : Statement) (u : Term) → IsTypedStatement f x → Among (operations (roots (loads one_term x (start f)) (effect_terms f x).targets)) u → IsSound f.targets u × IsOperation u
operations_sound f x u h m =
    let rs = roots (loads one_term x (start f)) (effect_terms f x).targets in
    roots_in f.targets rs u
    (all_both f.targets (map load_root (loads one_term x (start f))) (write_roots 0 (effect_terms f x).targets)
    (loads_sound f.targets (loads one_term x (start f)) (loads_typed f one_term (one_of f.targets) x h (start f) (start_of f)))
    (writes_sound f.targets f.targets 0 (effect_terms f x).targets (effect_typed f x h).targets))
    ((operations_law rs).only u m)

-- there are as many targets as types of targets
entries_length : (ts tys : List Ty) (xs : List Entry) → AreEntries ts tys xs → length xs ≡ length tys
entries_length ts [] [] h = refl
entries_length ts [] (x ∷ xs) h = absurd h
entries_length ts (ty ∷ tys) [] h = absurd h
entries_length ts (ty ∷ tys) (x ∷ xs) h = ap (λ (n : ℕ). suc n) (entries_length ts tys xs h.1)

pub targets_length : (f : Frame) (x : Statement) → IsTypedStatement f x → length (effect_terms f x).targets ≡ length f.targets
targets_length f x h = entries_length f.targets f.targets (effect_terms f x).targets (effect_typed f x h).targets

-- ---- all that the operations at places ask
pub ops_ready : (s : Stock) (ts : List Ty) (order ks : List ℕ) → length s.tables ≤ 65536 → AllByRecursion (λ j. j < size s) ks → ((u : Term) → Among (terms_at s ks) u → Among (terms_at s order) u)
    → ((u : Term) → Among (terms_at s order) u → IsSound ts u × IsOperation u) → AllByRecursion (IsOpReady s order) ks
ops_ready s ts order [] n b f g = tt
ops_ready s ts order (j ∷ ks) n b f g =
    let there = f (at s j) (inl refl) in (
      record { within = b.0; operand = record { operation = (g (at s j) there).1; there = there }; targets = ts; sound = (g (at s j) there).0; few = n },
      ops_ready s ts order ks n b.1 (λ u m. f u (inr m)) g,
    )
