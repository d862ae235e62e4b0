-- Stores: a term that is put is found at its place, and no term stands at two places.
use Rattle.std.proofs.Common.{◌≡◌, ℕ, zero, suc, ◌+◌, ◌<◌, ◌≤◌, refl, sym, ap, subst, ◌∙◌, ⊎_elim, arith, Bool, true, false, cond, List, [], ◌∷◌, ◌++◌, length, get_or, Some}
use Rattle.std.specs.Prelude.{nat_eq, ◌||◌, slice_get}
use Rattle.std.proofs.lemmas.Option.{slice_get_within, get_or_from_slice_get}
use Rattle.std.specs.List.{list_any}
use Rattle.std.proofs.lemmas.Bool.{cases_lt, cases_eq, eq-eqb, ne_eqb, false_from_ne_true, both_ways, true≢false}
use Rattle.std.proofs.lemmas.List.{get_or_append_left, get_or_push, length_push, append-nil}
use Rattle.ix_bits.specs.declared.number.Ty.{Ty}
use Rattle.ix_bits.specs.declared.number.Bits.{Bits}
use Rattle.ix_graph.specs.declared.kind.Kind.{Kind}
use Rattle.ix_mean.specs.Core.{u1}
use Rattle.ix_mean.specs.Terms.{Term, t_one, t_entry, t_two, t_three, zero_term, same_term}
use Rattle.ix_mean.specs.View.{patterns_of}
use Rattle.ix_mean.proofs.Same.{same_term_is}
use Rattle.ix_mean.proofs.Ordering.{term_same}
use Rattle.ix_terms.specs.declared.node.Node.TheVariants as N
use Rattle.ix_terms.specs.declared.node.Node.{Node}
use Rattle.ix_terms.specs.Nodes.{same_node}
use Rattle.ix_terms.specs.Stores.{Held, Stock, at, size, decode, with_term, stock_from, stock_of, node_at, ArgsBelow, AreDistinct, IsNodeAt, AreNodesOf, IsStore, IsKept, Grows, Has, IsNew}
use Rattle.ix_terms.specs.NodeLaws.{same_node_is, node_same}

-- ---- growing
pub grown_at : (old new : Stock) (k : ℕ) → Grows old new → k < size old → at new k ≡ at old k
grown_at old new k g h = ap (λ (ts : List Term). get_or ts k zero_term) g.whole ∙ get_or_append_left old.terms g.rest zero_term k h

-- ---- lists of terms
pub stock_push : (s : Stock) (ns : List Node) (n : Node) → stock_from s (ns ++ n ∷ []) ≡ with_term (stock_from s ns) (decode (stock_from s ns) n)
stock_push s [] n = refl
stock_push s (m ∷ ns) n = stock_push (with_term s (decode s m)) ns n

pub stock_tables : (s : Stock) (ns : List Node) → (stock_from s ns).tables ≡ s.tables
stock_tables s [] = refl
stock_tables s (n ∷ ns) = stock_tables (with_term s (decode s n)) ns

pub at_front : (s : Stock) (t : Term) (k : ℕ) → k < size s → at (with_term s t) k ≡ at s k
at_front s t k h = get_or_append_left s.terms (t ∷ []) zero_term k h

-- a node's term stays when the store grows
pub decode_kept : (s : Stock) (t : Term) (n : Node) → ArgsBelow (size s) n → decode (with_term s t) n ≡ decode s n
decode_kept s t (N.Const ty raw) h = refl
decode_kept s t (N.Read k ty) h = refl
decode_kept s t (N.One k ty a) h = ap (t_one k ty) (at_front s t a h)
decode_kept s t (N.Entry m ty a) h = ap (t_entry m (patterns_of s.tables m) ty) (at_front s t a h)
decode_kept s t (N.Two k ty a b) h = ap (λ (u : Term). t_two k ty u (at (with_term s t) b)) (at_front s t a h.0) ∙ ap (t_two k ty (at s a)) (at_front s t b h.1)
decode_kept s t (N.Three k ty a b c) h =
    ap (λ (u : Term). t_three k ty u (at (with_term s t) b) (at (with_term s t) c)) (at_front s t a h.0) ∙ ap (λ (u : Term). t_three k ty (at s a) u (at (with_term s t) c)) (at_front s t b h.1)
    ∙ ap (t_three k ty (at s a) (at s b)) (at_front s t c h.2)

pub args_kept : (j k : ℕ) (n : Node) → j ≤ k → ArgsBelow j n → ArgsBelow k n
args_kept j k (N.Const ty raw) l h = tt
args_kept j k (N.Read m ty) l h = tt
args_kept j k (N.One m ty a) l h = omega (arith, h)
args_kept j k (N.Entry m ty a) l h = omega (arith, h)
args_kept j k (N.Two m ty a b) l h = (omega (arith, h.0), omega (arith, h.1))
args_kept j k (N.Three m ty a b c) l h = (omega (arith, h.0), omega (arith, h.1), omega (arith, h.2))

-- nodes of one term are one
pub decode_is : (s : Stock) → AreDistinct s → (n m : Node) → ArgsBelow (size s) n → ArgsBelow (size s) m → decode s n ≡ decode s m → n ≡ m
decode_is s d (N.Const a x) (N.Const b y) p q e =
    let f : a ≡ b = cc in
    let g : x ≡ y = cc in
    ap (λ (t : Ty). N.Const t x) f ∙ ap (N.Const b) g
decode_is s d (N.Read k a) (N.Read l b) p q e =
    let f : k ≡ l = cc in
    let g : a ≡ b = cc in
    ap (λ (t : Kind). N.Read t a) f ∙ ap (N.Read l) g
decode_is s d (N.One k a x) (N.One l b y) p q e =
    let f : k ≡ l = cc in
    let g : a ≡ b = cc in
    let h : at s x ≡ at s y = cc in
    ap (λ (t : Kind). N.One t a x) f ∙ ap (λ (t : Ty). N.One l t x) g ∙ ap (N.One l b) (d x y p q h)
decode_is s d (N.Entry k a x) (N.Entry l b y) p q e =
    let f : k ≡ l = cc in
    let g : a ≡ b = cc in
    let h : at s x ≡ at s y = cc in
    ap (λ (t : ℕ). N.Entry t a x) f ∙ ap (λ (t : Ty). N.Entry l t x) g ∙ ap (N.Entry l b) (d x y p q h)
decode_is s d (N.Two k a x x') (N.Two l b y y') p q e =
    let f : k ≡ l = cc in
    let g : a ≡ b = cc in
    let h : at s x ≡ at s y = cc in
    let i : at s x' ≡ at s y' = cc in
    ap (λ (t : Kind). N.Two t a x x') f ∙ ap (λ (t : Ty). N.Two l t x x') g ∙ ap (λ (t : ℕ). N.Two l b t x') (d x y p.0 q.0 h) ∙ ap (N.Two l b y) (d x' y' p.1 q.1 i)
decode_is s d (N.Three k a x x' x'') (N.Three l b y y' y'') p q e =
    let f : k ≡ l = cc in
    let g : a ≡ b = cc in
    let h : at s x ≡ at s y = cc in
    let i : at s x' ≡ at s y' = cc in
    let j : at s x'' ≡ at s y'' = cc in
    ap (λ (t : Kind). N.Three t a x x' x'') f ∙ ap (λ (t : Ty). N.Three l t x x' x'') g ∙ ap (λ (t : ℕ). N.Three l b t x' x'') (d x y p.0 q.0 h)
    ∙ ap (λ (t : ℕ). N.Three l b y t x'') (d x' y' p.1 q.1 i) ∙ ap (N.Three l b y y') (d x'' y'' p.2 q.2 j)
decode_is s d n m p q e = absurd (cc)

-- ---- a store with one more node
last_at : (s : Stock) (t : Term) (k : ℕ) → size s ≤ k → k < size (with_term s t) → at (with_term s t) k ≡ t
last_at s t k l h = get_or_push s.terms t zero_term k (omega (arith, length_push s.terms t))

unlike : (s : Stock) (ns : List Node) (n : Node) (k : ℕ) → AreNodesOf s ns → ArgsBelow (size s) n → IsNew ns n → k < size s → at s k ≡ decode s n → ⊥
unlike s ns n k g b w h e =
    let l : k < length ns = omega (arith, g.count) in
    let m = g.nodes k l in
    w k l (decode_is s g.distinct (node_at ns k) n (args_kept k (size s) (node_at ns k) (omega arith) m.below) b (sym m.term_is ∙ e))

pub pushed_of : (s : Stock) (ns : List Node) (n : Node) → AreNodesOf s ns → ArgsBelow (size s) n → IsNew ns n → AreNodesOf (with_term s (decode s n)) (ns ++ n ∷ [])
pushed_of s ns n g b w =
    let t = decode s n in
    let up = length_push s.terms t in
    let un = length_push ns n in
    record {
      distinct = λ j k hj hk e.
          ⊎_elim
          (λ (lj : j < size s). ⊎_elim
          (λ (lk : k < size s). g.distinct j k lj lk (sym (at_front s t j lj) ∙ e ∙ at_front s t k lk))
          (λ (gk : size s ≤ k). absurd (unlike s ns n j g b w lj (sym (at_front s t j lj) ∙ e ∙ last_at s t k gk hk)))
          (cases_lt k (size s)))
          (λ (gj : size s ≤ j). ⊎_elim
          (λ (lk : k < size s). absurd (unlike s ns n k g b w lk (sym (at_front s t k lk) ∙ sym e ∙ last_at s t j gj hj)))
          (λ (gk : size s ≤ k). let same : j ≡ k = omega (arith, up) in same)
          (cases_lt k (size s)))
          (cases_lt j (size s));
      nodes = λ k h.
          ⊎_elim
          (λ (l : k < length ns).
          let m = g.nodes k l in
          let lt : k < size s = omega (arith, g.count) in
          subst (IsNodeAt (with_term s t) k) (sym (get_or_append_left ns (n ∷ []) (N.Const u1 0) k l)) (record {
            below = m.below;
            term_is = at_front s t k lt ∙ m.term_is ∙ sym (decode_kept s t (node_at ns k) (args_kept k (size s) (node_at ns k) (omega arith) m.below));
          }))
          (λ (x : length ns ≤ k).
          let e : length ns ≡ k = omega (arith, un) in
          let hk : k < size (with_term s t) = omega (arith, up, un, g.count) in
          subst (IsNodeAt (with_term s t) k) (sym (get_or_push ns n (N.Const u1 0) k e)) (record {
            below = args_kept (size s) k n (omega (arith, g.count)) b;
            term_is = last_at s t k (omega (arith, g.count)) hk ∙ sym (decode_kept s t n b);
          }))
          (cases_lt k (length ns));
      count = up ∙ ap (λ (m : ℕ). m + 1) g.count ∙ sym un;
    }

abbrev held : List (List Bits) → List Node → Held
held tables ns = record { tables = tables; nodes = ns }

pub pushed : (tables : List (List Bits)) (ns : List Node) (n : Node) → IsStore (held tables ns) → ArgsBelow (size (stock_of (held tables ns))) n → IsNew ns n → IsStore (held tables (ns ++ n ∷ []))
pushed tables ns n s b w =
    let z : Stock = record { tables = tables; terms = [] } in
    subst (λ (x : Stock). AreNodesOf x (ns ++ n ∷ [])) (sym (stock_push z ns n)) (pushed_of (stock_of (held tables ns)) ns n s b w)

-- a node that the test finds nowhere is new
apart : (x y : Bool) → (x || y) ≡ false → (x ≡ false) × (y ≡ false)
apart true y e = absurd (true≢false e)
apart false y e = (refl, e)

pub none_new : (ns : List Node) (n : Node) → list_any (same_node n) ns ≡ false → IsNew ns n
none_new [] n h k l e = absurd (omega arith)
none_new (m ∷ ns) n h zero l e = both_ways (same_node n m) (apart (same_node n m) (list_any (same_node n) ns) h).0 (ap (same_node n) e ∙ node_same n)
none_new (m ∷ ns) n h (suc j) l e = none_new ns n (apart (same_node n m) (list_any (same_node n) ns) h).1 j (omega arith) e

-- what the code keeps: the nodes as they were, or one more where it is nowhere yet
pub put_kept : (tables : List (List Bits)) (ns made : List Node) (n : Node) → IsKept (held tables ns) → length ns < 4000000000 → ArgsBelow (size (stock_of (held tables ns))) n
    → made ≡ cond (list_any (same_node n) ns) ns (ns ++ n ∷ []) → IsKept (held tables made)
put_kept tables ns made n s l b e =
    let P : List Node → Type 0 = λ ys. IsKept (held tables ys) in
    subst P (sym e) (by (list_any (same_node n) ns) refl)
  where
    by : (d : Bool) → list_any (same_node n) ns ≡ d → IsKept (held tables (cond d ns (ns ++ n ∷ [])))
    by true d = s
    by false d = record { store = pushed tables ns n s.store b (none_new ns n d); few = omega (arith, length_push ns n) }

put_grows : (tables : List (List Bits)) (ns made : List Node) (n : Node) → made ≡ cond (list_any (same_node n) ns) ns (ns ++ n ∷ []) → Grows (stock_of (held tables ns)) (stock_of (held tables made))
put_grows tables ns made n e =
    let P : List Node → Type 0 = λ ys. Grows (stock_of (held tables ns)) (stock_of (held tables ys)) in
    subst P (sym e) (by (list_any (same_node n) ns))
  where
    by : (d : Bool) → Grows (stock_of (held tables ns)) (stock_of (held tables (cond d ns (ns ++ n ∷ []))))
    by true = record { tables = refl; rest = []; whole = sym (append-nil (stock_of (held tables ns)).terms) }
    by false =
        let z : Stock = record { tables = tables; terms = [] } in
        let p = stock_push z ns n in
        record {
          tables = ap (λ (x : Stock). x.tables) p;
          rest = decode (stock_of (held tables ns)) n ∷ [];
          whole = ap (λ (x : Stock). x.terms) p;
        }

-- a node's term is the same where the store has grown
pub decode_grown : (old new : Stock) (n : Node) → Grows old new → ArgsBelow (size old) n → decode new n ≡ decode old n
decode_grown old new (N.Const ty raw) g h = refl
decode_grown old new (N.Read k ty) g h = refl
decode_grown old new (N.One k ty a) g h = ap (t_one k ty) (grown_at old new a g h)
decode_grown old new (N.Entry m ty a) g h = ap (t_entry m (patterns_of new.tables m) ty) (grown_at old new a g h) ∙ ap (λ (z : List (List Bits)). t_entry m (patterns_of z m) ty (at old a)) g.tables
decode_grown old new (N.Two k ty a b) g h = ap (λ (u : Term). t_two k ty u (at new b)) (grown_at old new a g h.0) ∙ ap (t_two k ty (at old a)) (grown_at old new b g h.1)
decode_grown old new (N.Three k ty a b c) g h =
    ap (λ (u : Term). t_three k ty u (at new b) (at new c)) (grown_at old new a g h.0) ∙ ap (λ (u : Term). t_three k ty (at old a) u (at new c)) (grown_at old new b g h.1)
    ∙ ap (t_three k ty (at old a) (at old b)) (grown_at old new c g h.2)

-- what was put is at its place
pub put_has : (tables : List (List Bits)) (ns made : List Node) (n m : Node) (k : ℕ) → IsKept (held tables ns) → length ns < 4000000000 → ArgsBelow (size (stock_of (held tables ns))) n
    → made ≡ cond (list_any (same_node n) ns) ns (ns ++ n ∷ []) → k < length made → get_or made k (N.Const u1 0) ≡ m → same_node n m ≡ true
    → Has (stock_of (held tables ns)) (stock_of (held tables made)) k (decode (stock_of (held tables ns)) n)
put_has tables ns made n m k s l b e w i t =
    let o = put_kept tables ns made n s l b e in
    let g = put_grows tables ns made n e in
    let at_k = o.store.nodes k w in
    record {
      grows = g;
      within = omega (arith, o.store.count);
      is = at_k.term_is ∙ ap (decode (stock_of (held tables made))) (i ∙ sym (same_node_is n m t)) ∙ decode_grown (stock_of (held tables ns)) (stock_of (held tables made)) n g b;
    }

pub tables_kept : (h : Held) → (stock_of h).tables ≡ h.tables
tables_kept h = stock_tables (record { tables = h.tables; terms = [] }) h.nodes

-- ---- equal terms stand at one place
pub same_places : (s : Stock) (j k : ℕ) → AreDistinct s → j < size s → k < size s → nat_eq j k ≡ same_term (at s j) (at s k)
same_places s j k d hj hk =
    ⊎_elim
    (λ (e : j ≡ k). eq-eqb j k e ∙ sym (subst (λ (n : ℕ). same_term (at s j) (at s n) ≡ true) e (term_same (at s j))))
    (λ (ne : j ≡ k → ⊥). ne_eqb j k ne ∙ sym (false_from_ne_true (same_term (at s j) (at s k)) (λ e. ne (d j k hj hk (same_term_is (at s j) (at s k) e)))))
    (cases_eq j k)

-- ---- over what the code lists
pub kept_on : (tables : List (List Bits)) (ns made : List Node) → IsKept (held tables ns) → made ≡ ns → IsKept (held tables made)
kept_on tables ns made s e = subst (λ (ys : List Node). IsKept (held tables ys)) (sym e) s

pub put_on : (h : Held) (tables : List (List Bits)) (ns made : List Node) (n : Node) (c : ℕ) → held tables ns ≡ h → c ≡ length ns → c < 4000000000 → IsKept (held tables ns) → ArgsBelow (size (stock_of h)) n
    → made ≡ cond (list_any (same_node n) ns) ns (ns ++ n ∷ []) → IsKept (held tables made)
put_on h tables ns made n c v f l s b e = put_kept tables ns made n s (omega (arith, f, l)) (subst (λ (x : Held). ArgsBelow (size (stock_of x)) n) (sym v) b) e

pub put_told : (h : Held) (tables : List (List Bits)) (ns made : List Node) (n : Node) (k c : ℕ) → held tables ns ≡ h → c ≡ length ns → c < 4000000000 → IsKept (held tables ns) → ArgsBelow (size (stock_of h)) n
    → made ≡ cond (list_any (same_node n) ns) ns (ns ++ n ∷ []) → (m : Node) × (slice_get made k ≡ Some m) × (same_node n m ≡ true)
    → Has (stock_of h) (stock_of (held tables made)) k (decode (stock_of h) n)
put_told h tables ns made n k c v f l s b e x =
    subst (λ (y : Held). Has (stock_of y) (stock_of (held tables made)) k (decode (stock_of y) n)) v
    (put_has tables ns made n x.0 k s (omega (arith, f, l)) (subst (λ (y : Held). ArgsBelow (size (stock_of y)) n) (sym v) b) e (slice_get_within made k x.0 x.1) (get_or_from_slice_get made k x.0 (N.Const u1 0) x.1) x.2)
