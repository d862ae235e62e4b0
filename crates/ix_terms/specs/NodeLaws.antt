-- The test of nodes tells which are one, and what it finds equal is fed alike (the laws of the standard traits).
use Rattle.std.proofs.Common.{◌≡◌, ℕ, refl, sym, ap, ◌∙◌, Bool, true, false}
use Rattle.std.specs.Prelude.{nat_eq, ◌&&◌}
use Rattle.std.proofs.lemmas.Bool.{and_parts, eqb-true, eq-eqb, and_from, true≢false}
use Rattle.std.specs.Cmp.{IsEquivalence, IsPartialEquivalence, partial_equiv_from_equiv}
use Rattle.ix_bits.specs.declared.number.Ty.{Ty}
use Rattle.ix_graph.specs.declared.kind.Kind.{Kind}
use Rattle.ix_graph.specs.Roles.{same_kind}
use Rattle.ix_graph.proofs.SameKinds.{same_kind_is}
use Rattle.ix_mean.specs.Terms.{same_ty}
use Rattle.ix_mean.proofs.Same.{same_ty_is}
use Rattle.ix_mean.proofs.Ordering.{ty_same, kind_same}
use Rattle.ix_terms.specs.declared.node.Node.TheVariants as N
use Rattle.ix_terms.specs.declared.node.Node.{Node}
use Rattle.ix_terms.specs.Nodes.{same_node, fed_node}

pub same_node_is : (n m : Node) → same_node n m ≡ true → n ≡ m
same_node_is (N.Const a x) (N.Const b y) h =
    let p = and_parts (same_ty a b) (nat_eq x y) h in
    ap (λ (t : Ty). N.Const t x) (same_ty_is a b p.0) ∙ ap (N.Const b) (eqb-true x y p.1)
same_node_is (N.Read k a) (N.Read l b) h =
    let p = and_parts (same_kind k l) (same_ty a b) h in
    ap (λ (t : Kind). N.Read t a) (same_kind_is k l p.0) ∙ ap (N.Read l) (same_ty_is a b p.1)
same_node_is (N.One k a x) (N.One l b y) h =
    let p = and_parts (same_kind k l && same_ty a b) (nat_eq x y) h in
    let q = and_parts (same_kind k l) (same_ty a b) p.0 in
    ap (λ (t : Kind). N.One t a x) (same_kind_is k l q.0) ∙ ap (λ (t : Ty). N.One l t x) (same_ty_is a b q.1) ∙ ap (N.One l b) (eqb-true x y p.1)
same_node_is (N.Entry n a x) (N.Entry m b y) h =
    let p = and_parts (nat_eq n m && same_ty a b) (nat_eq x y) h in
    let q = and_parts (nat_eq n m) (same_ty a b) p.0 in
    ap (λ (t : ℕ). N.Entry t a x) (eqb-true n m q.0) ∙ ap (λ (t : Ty). N.Entry m t x) (same_ty_is a b q.1) ∙ ap (N.Entry m b) (eqb-true x y p.1)
same_node_is (N.Two k a x x') (N.Two l b y y') h =
    let o = and_parts (same_kind k l && same_ty a b && nat_eq x y) (nat_eq x' y') h in
    let p = and_parts (same_kind k l && same_ty a b) (nat_eq x y) o.0 in
    let q = and_parts (same_kind k l) (same_ty a b) p.0 in
    ap (λ (t : Kind). N.Two t a x x') (same_kind_is k l q.0) ∙ ap (λ (t : Ty). N.Two l t x x') (same_ty_is a b q.1)
    ∙ ap (λ (t : ℕ). N.Two l b t x') (eqb-true x y p.1) ∙ ap (N.Two l b y) (eqb-true x' y' o.1)
same_node_is (N.Three k a x x' x'') (N.Three l b y y' y'') h =
    let n = and_parts (same_kind k l && same_ty a b && nat_eq x y && nat_eq x' y') (nat_eq x'' y'') h in
    let o = and_parts (same_kind k l && same_ty a b && nat_eq x y) (nat_eq x' y') n.0 in
    let p = and_parts (same_kind k l && same_ty a b) (nat_eq x y) o.0 in
    let q = and_parts (same_kind k l) (same_ty a b) p.0 in
    ap (λ (t : Kind). N.Three t a x x' x'') (same_kind_is k l q.0) ∙ ap (λ (t : Ty). N.Three l t x x' x'') (same_ty_is a b q.1)
    ∙ ap (λ (t : ℕ). N.Three l b t x' x'') (eqb-true x y p.1) ∙ ap (λ (t : ℕ). N.Three l b y t x'') (eqb-true x' y' o.1) ∙ ap (N.Three l b y y') (eqb-true x'' y'' n.1)
same_node_is n m h = absurd (true≢false (sym h))

both : (x y : Bool) → x ≡ true → y ≡ true → (x && y) ≡ true
both x y e f = and_from x y e f

pub node_same : (n : Node) → same_node n n ≡ true
node_same (N.Const a x) = both _ _ (ty_same a) (eq-eqb x x refl)
node_same (N.Read k a) = both _ _ (kind_same k) (ty_same a)
node_same (N.One k a x) = both _ _ (both _ _ (kind_same k) (ty_same a)) (eq-eqb x x refl)
node_same (N.Entry n a x) = both _ _ (both _ _ (eq-eqb n n refl) (ty_same a)) (eq-eqb x x refl)
node_same (N.Two k a x y) = both _ _ (both _ _ (both _ _ (kind_same k) (ty_same a)) (eq-eqb x x refl)) (eq-eqb y y refl)
node_same (N.Three k a x y z) = both _ _ (both _ _ (both _ _ (both _ _ (kind_same k) (ty_same a)) (eq-eqb x x refl)) (eq-eqb y y refl)) (eq-eqb z z refl)

same_by : (n m : Node) → n ≡ m → same_node n m ≡ true
same_by n m e = ap (same_node n) (sym e) ∙ node_same n

equal_tests : (s t : Bool) → (s ≡ true → t ≡ true) → (t ≡ true → s ≡ true) → s ≡ t
equal_tests true t f g = sym (f refl)
equal_tests false true f g = g refl
equal_tests false false f g = refl

pub node_equivalence : IsEquivalence same_node
node_equivalence = record {
  refl = node_same;
  symm = λ x y. equal_tests (same_node x y) (same_node y x) (λ e. same_by y x (sym (same_node_is x y e))) (λ e. same_by x y (sym (same_node_is y x e)));
  congr = λ x y z e. ap (λ (n : Node). same_node n z) (same_node_is x y e);
}

pub node_partial : IsPartialEquivalence same_node
node_partial = partial_equiv_from_equiv node_equivalence

pub node_fed : (x y : Node) → same_node x y ≡ true → fed_node x ≡ fed_node y
node_fed x y e = ap fed_node (same_node_is x y e)
