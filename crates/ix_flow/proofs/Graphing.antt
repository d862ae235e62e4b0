-- Operations and their arguments by their places in an order.
use Rattle.std.proofs.Common.{◌≡◌, ℕ, zero, suc, ◌+◌, ◌<◌, ◌≤◌, refl, sym, ap, subst, ◌∙◌, inl, ⊎_elim, arith, Bool, true, false, List, [], ◌∷◌, ◌++◌, length, map, get_or, drop, append_assoc}
use Rattle.std.specs.Prelude.{nat_eq}
use Rattle.std.specs.List.{list_any, AllByRecursion}
use Rattle.std.proofs.lemmas.Bool.{or_cases, eqb-true, true≢false}
use Rattle.std.proofs.lemmas.Nat.{pow_pos}
use Rattle.std.proofs.lemmas.List.{append-nil, drop_all, drop_more, get_or-map, length-map}
use Rattle.ix_bits.specs.declared.number.Ty.{Ty}
use Rattle.ix_bits.specs.declared.number.Bits.{Bits}
use Rattle.ix_graph.specs.declared.args.Arg.{Arg}
use Rattle.ix_graph.specs.declared.graph.Op.{Op}
use Rattle.ix_mean.specs.Terms.{Term, t_const, t_read, t_one, t_entry, t_two, t_three, type_of, zero_term}
use Rattle.ix_mean.specs.Order.{postorder, Among}
use Rattle.ix_mean.specs.Typing.{IsTerm}
use Rattle.ix_mean.specs.View.{patterns_of}
use Rattle.ix_mean.proofs.Ordering.{among_has, among_left, among_right, among_last}
use Rattle.ix_terms.specs.Stores.{Stock, at, size, AreDistinct}
use Rattle.ix_terms.specs.Places.{IsOperation}
use Rattle.ix_flow.specs.Orders.{terms_at, IsOrder}
use Rattle.ix_flow.specs.Flows.{kind_of_term, args_of_term, IsArgOf, AreArgsOf, IsOpOf, AreOpsOf, flag_of}
use Rattle.ix_flow.specs.Operands.{IsSound, IsArgReady, IsOpReady}
use Rattle.ix_flow.proofs.Visiting.{listed}

-- ---- the place of a place
pub there_more : (xs : List ℕ) (i k x : ℕ) → i < length xs → x ≡ get_or xs i x → nat_eq x k ≡ false → list_any (nat_eq k) (drop i xs) ≡ true → list_any (nat_eq k) (drop (i + 1) xs) ≡ true
there_more xs i k x l e n h =
    let g : list_any (nat_eq k) (x ∷ drop (i + 1) xs) ≡ true = subst (λ (y : ℕ). list_any (nat_eq k) (y ∷ drop (i + 1) xs) ≡ true) (sym e) (subst (λ (ys : List ℕ). list_any (nat_eq k) ys ≡ true) (drop_more xs i x l) h) in
    ⊎_elim (λ (a : nat_eq k x ≡ true). absurd (true≢false (sym (Rattle.std.proofs.lemmas.Bool.eq-eqb x k (sym (eqb-true k x a))) ∙ n))) (λ (b : list_any (nat_eq k) (drop (i + 1) xs) ≡ true). b)
    (or_cases (nat_eq k x) (list_any (nat_eq k) (drop (i + 1) xs)) g)

pub there_end : (xs : List ℕ) (i k : ℕ) → length xs ≤ i → list_any (nat_eq k) (drop i xs) ≡ true → ⊥
there_end xs i k l h = true≢false (sym (subst (λ (ys : List ℕ). list_any (nat_eq k) ys ≡ true) (drop_all i xs l) h))

pub listed_there : (s : Stock) (order : List ℕ) (k : ℕ) → AreDistinct s → k < size s → AllByRecursion (λ j. j < size s) order → Among (terms_at s order) (at s k) → list_any (nat_eq k) order ≡ true
listed_there s order k d h b m = listed s d k h order b ∙ among_has (terms_at s order) (at s k) m

pub operand_told : (s : Stock) (order : List ℕ) (k n : ℕ) → IsOperation (at s k) → n < length order → get_or order n 0 ≡ k
    → IsOperation (at s k) × (n < length (terms_at s order)) × (get_or (terms_at s order) n zero_term ≡ at s k)
operand_told s order k n o l e = (o, omega (arith, l, length-map order (at s)), get_or-map (at s) order n 0 zero_term l ∙ ap (at s) e)

-- ---- arguments of an operation
last_in : (t : Term) → IsOperation t → Among (postorder t) t
last_in (t_const ty raw) o = absurd o
last_in (t_read k ty) o = inl refl
last_in (t_one k ty a) o = among_last (postorder a) (t_one k ty a)
last_in (t_entry n es ty a) o = among_last (postorder a) (t_entry n es ty a)
last_in (t_two k ty a b) o = among_last (postorder a ++ postorder b) (t_two k ty a b)
last_in (t_three k ty a b c) o = among_last (postorder a ++ postorder b ++ postorder c) (t_three k ty a b c)

arg_in : (t u : Term) → Among (args_of_term t) u → IsOperation u → Among (postorder t) u
arg_in (t_const ty raw) u m o = absurd m
arg_in (t_read k ty) u m o = absurd m
arg_in (t_one k ty a) u m o = ⊎_elim (λ (e : u ≡ a). among_left (postorder a) (t_one k ty a ∷ []) u (subst (λ (z : Term). Among (postorder z) u) e (last_in u o))) (λ (no : ⊥). absurd no) m
arg_in (t_entry n es ty a) u m o = ⊎_elim (λ (e : u ≡ a). among_left (postorder a) (t_entry n es ty a ∷ []) u (subst (λ (z : Term). Among (postorder z) u) e (last_in u o))) (λ (no : ⊥). absurd no) m
arg_in (t_two k ty a b) u m o =
    among_left (postorder a ++ postorder b) (t_two k ty a b ∷ []) u
    (⊎_elim (λ (e : u ≡ a). among_left (postorder a) (postorder b) u (subst (λ (z : Term). Among (postorder z) u) e (last_in u o)))
    (λ (r : Among (b ∷ []) u). ⊎_elim (λ (e : u ≡ b). among_right (postorder a) (postorder b) u (subst (λ (z : Term). Among (postorder z) u) e (last_in u o))) (λ (no : ⊥). absurd no) r) m)
arg_in (t_three k ty a b c) u m o =
    among_left (postorder a ++ postorder b ++ postorder c) (t_three k ty a b c ∷ []) u
    (⊎_elim (λ (e : u ≡ a). among_left (postorder a ++ postorder b) (postorder c) u (among_left (postorder a) (postorder b) u (subst (λ (z : Term). Among (postorder z) u) e (last_in u o))))
    (λ (r : Among (b ∷ c ∷ []) u). ⊎_elim (λ (e : u ≡ b). among_left (postorder a ++ postorder b) (postorder c) u (among_right (postorder a) (postorder b) u (subst (λ (z : Term). Among (postorder z) u) e (last_in u o))))
    (λ (q : Among (c ∷ []) u). ⊎_elim (λ (e : u ≡ c). among_right (postorder a ++ postorder b) (postorder c) u (subst (λ (z : Term). Among (postorder z) u) e (last_in u o))) (λ (no : ⊥). absurd no) q) r) m)

arg_typed : (ts : List Ty) (t u : Term) → IsSound ts t → Among (args_of_term t) u → IsTerm ts u
arg_typed ts (t_const ty raw) u h m = absurd m
arg_typed ts (t_read k ty) u h m = absurd m
arg_typed ts (t_one k ty a) u h m = ⊎_elim (λ (e : u ≡ a). subst (IsTerm ts) (sym e) h) (λ (no : ⊥). absurd no) m
arg_typed ts (t_entry n es ty a) u h m = ⊎_elim (λ (e : u ≡ a). subst (IsTerm ts) (sym e) h.0) (λ (no : ⊥). absurd no) m
arg_typed ts (t_two k ty a b) u h m = ⊎_elim (λ (e : u ≡ a). subst (IsTerm ts) (sym e) h.0) (λ (r : Among (b ∷ []) u). ⊎_elim (λ (e : u ≡ b). subst (IsTerm ts) (sym e) h.1) (λ (no : ⊥). absurd no) r) m
arg_typed ts (t_three k ty a b c) u h m =
    ⊎_elim (λ (e : u ≡ a). subst (IsTerm ts) (sym e) h.0)
    (λ (r : Among (b ∷ c ∷ []) u). ⊎_elim (λ (e : u ≡ b). subst (IsTerm ts) (sym e) h.1) (λ (q : Among (c ∷ []) u). ⊎_elim (λ (e : u ≡ c). subst (IsTerm ts) (sym e) h.2) (λ (no : ⊥). absurd no) q) r) m

pub arg_ready : (s : Stock) (order : List ℕ) (k a : ℕ) (t : Term) → IsOrder s order → IsOpReady s order k → at s k ≡ t → a < k → Among (args_of_term t) (at s a) → IsArgReady s order a
arg_ready s order k a t o r e l m =
    let n : Among (args_of_term (at s k)) (at s a) = subst (λ (x : Term). Among (args_of_term x) (at s a)) (sym e) m in
    record {
      term = record { within = omega (arith, l, r.within); targets = r.targets; typed = arg_typed r.targets (at s k) (at s a) r.sound n };
      there = λ p. o.closed (at s k) (at s a) r.operand.there (arg_in (at s k) (at s a) n p);
    }

-- ---- operations
pub op_told : (all : List Term) (t u : Term) (o : Op) → IsOperation t → t ≡ u → o.kind ≡ kind_of_term u → o.ty ≡ type_of u → AreArgsOf all (args_of_term u) o.args → IsOpOf all t o
op_told all t u o p e k y a = subst (λ (x : Term). IsOpOf all x o) (sym e) (record { operation = subst IsOperation e p; kind_is = k; ty_is = y; args_are = a })

pub none_given : (all : List Term) (bs : List Arg) → bs ≡ [] → AreArgsOf all [] bs
none_given all bs e = subst (AreArgsOf all []) (sym e) tt

pub one_given : (all : List Term) (a : Term) (x : Arg) (bs : List Arg) → IsArgOf all a x → bs ≡ x ∷ [] → AreArgsOf all (a ∷ []) bs
one_given all a x bs h e = subst (AreArgsOf all (a ∷ [])) (sym e) (h, tt)

pub two_given : (all : List Term) (a b : Term) (x y : Arg) (bs : List Arg) → IsArgOf all a x → IsArgOf all b y → bs ≡ x ∷ y ∷ [] → AreArgsOf all (a ∷ b ∷ []) bs
two_given all a b x y bs h g e = subst (AreArgsOf all (a ∷ b ∷ [])) (sym e) (h, (g, tt))

pub three_given : (all : List Term) (a b c : Term) (x y z : Arg) (bs : List Arg) → IsArgOf all a x → IsArgOf all b y → IsArgOf all c z → bs ≡ x ∷ y ∷ z ∷ [] → AreArgsOf all (a ∷ b ∷ c ∷ []) bs
three_given all a b c x y z bs h g i e = subst (AreArgsOf all (a ∷ b ∷ c ∷ [])) (sym e) (h, (g, (i, tt)))

-- a table that is read is there
none_past : (tables : List (List Bits)) (n : ℕ) → length tables ≤ n → length (patterns_of tables n) ≡ 0
none_past [] n l = refl
none_past (t ∷ ts) zero l = absurd (omega arith)
none_past (t ∷ ts) (suc n) l = none_past ts n (omega arith)

pub table_below : (s : Stock) (order : List ℕ) (k n : ℕ) (ty : Ty) (a : Term) → IsOpReady s order k → at s k ≡ t_entry n (patterns_of s.tables n) ty a → n < 65536
table_below s order k n ty a r e =
    let t : IsSound r.targets (t_entry n (patterns_of s.tables n) ty a) = subst (IsSound r.targets) e r.sound in
    ⊎_elim (λ (l : n < length s.tables). (let m : n < 65536 = omega (arith, l, r.few) in m))
    (λ (g : length s.tables ≤ n). absurd (omega (arith, none_past s.tables n g, t.2.enough, pow_pos (type_of a).width)))
    (Rattle.std.proofs.lemmas.Bool.cases_lt n (length s.tables))

-- ---- all operations, from the front
pub ops_step : (s : Stock) (all : List Term) (order : List ℕ) (i k : ℕ) (out made : List Op) (o : Op) → i < length order → k ≡ get_or order i k
    → ((os : List Op) → AreOpsOf all (terms_at s (drop i order)) os → AreOpsOf all (terms_at s order) (out ++ os)) → IsOpOf all (at s k) o → made ≡ out ++ o ∷ []
    → (os : List Op) → AreOpsOf all (terms_at s (drop (i + 1) order)) os → AreOpsOf all (terms_at s order) (made ++ os)
ops_step s all order i k out made o l e f h g os p =
    let here : AreOpsOf all (terms_at s (k ∷ drop (i + 1) order)) (o ∷ os) = (h, p) in
    let there : AreOpsOf all (terms_at s (drop i order)) (o ∷ os) =
    subst (λ (ks : List ℕ). AreOpsOf all (terms_at s ks) (o ∷ os)) (ap (λ (x : ℕ). x ∷ drop (i + 1) order) e ∙ sym (drop_more order i k l)) here in
    subst (AreOpsOf all (terms_at s order)) (sym (append_assoc out (o ∷ []) os) ∙ ap (λ (xs : List Op). xs ++ os) (sym g)) (f (o ∷ os) there)

pub ops_end : (s : Stock) (all : List Term) (order : List ℕ) (i : ℕ) (out : List Op) → length order ≤ i
    → ((os : List Op) → AreOpsOf all (terms_at s (drop i order)) os → AreOpsOf all (terms_at s order) (out ++ os)) → AreOpsOf all (terms_at s order) out
ops_end s all order i out l f = subst (AreOpsOf all (terms_at s order)) (append-nil out) (f [] (subst (λ (ks : List ℕ). AreOpsOf all (terms_at s ks) []) (sym (drop_all i order l)) tt))

pub op_ready : (s : Stock) (order ks : List ℕ) (i k : ℕ) → AllByRecursion (IsOpReady s order) ks → i < length ks → k ≡ get_or ks i k → IsOpReady s order k
op_ready s order [] i k h l e = absurd (omega arith)
op_ready s order (x ∷ ks) zero k h l e = subst (IsOpReady s order) (sym e) h.0
op_ready s order (x ∷ ks) (suc i) k h l e = op_ready s order ks i k h.1 (omega arith) e

-- ---- flags
pub flags_step : (spawned : List Bool) (ops : List Op) (i : ℕ) (o : Op) (b : Bool) (out made : List Bool) → i < length ops → o ≡ get_or ops i o → b ≡ flag_of spawned o
    → out ++ map (flag_of spawned) (drop i ops) ≡ map (flag_of spawned) ops → made ≡ out ++ b ∷ [] → made ++ map (flag_of spawned) (drop (i + 1) ops) ≡ map (flag_of spawned) ops
flags_step spawned ops i o b out made l e f h g =
    ap (λ (xs : List Bool). xs ++ map (flag_of spawned) (drop (i + 1) ops)) g ∙ append_assoc out (b ∷ []) (map (flag_of spawned) (drop (i + 1) ops))
    ∙ ap (λ (x : Bool). out ++ (x ∷ map (flag_of spawned) (drop (i + 1) ops))) (f ∙ ap (flag_of spawned) e)
    ∙ ap (λ (os : List Op). out ++ map (flag_of spawned) os) (sym (drop_more ops i o l)) ∙ h

pub flags_end : (spawned : List Bool) (ops : List Op) (i : ℕ) (out : List Bool) → length ops ≤ i → out ++ map (flag_of spawned) (drop i ops) ≡ map (flag_of spawned) ops → out ≡ map (flag_of spawned) ops
flags_end spawned ops i out l h = sym (append-nil out) ∙ ap (λ (os : List Op). out ++ map (flag_of spawned) os) (sym (drop_all i ops l)) ∙ h
