-- Terms that the test finds equal are one.
use Rattle.std.proofs.Common.{◌≡◌, ℕ, refl, ap, ◌∙◌, Bool, true, false, List}
use Rattle.std.specs.Prelude.{nat_eq, ◌&&◌}
use Rattle.std.specs.Str.{bytes_eq}
use Rattle.std.proofs.lemmas.Bool.{and_parts, eqb-true}
use Rattle.std.proofs.lemmas.Slice.Eq.{bytes_eq-Decides}
use Rattle.ix_bits.specs.declared.number.Ty.{Ty}
use Rattle.ix_graph.specs.declared.kind.Kind.{Kind}
use Rattle.ix_graph.specs.Roles.{same_kind}
use Rattle.ix_graph.proofs.SameKinds.{same_kind_is}
use Rattle.ix_bits.proofs.Same.{ty_is}
use Rattle.ix_mean.specs.Terms.{Term, t_const, t_read, t_one, t_entry, t_two, t_three, same_bool, same_ty, same_term}

bool_is : (b c : Bool) → same_bool b c ≡ true → b ≡ c
bool_is true true h = refl
bool_is true false h = cc
bool_is false true h = cc
bool_is false false h = refl

pub same_ty_is : (a b : Ty) → same_ty a b ≡ true → a ≡ b
same_ty_is a b h =
    let p = and_parts (same_bool a.signed b.signed) (nat_eq a.width b.width) h in
    ty_is a b (bool_is a.signed b.signed p.0) (eqb-true a.width b.width p.1)

pub same_term_is : (x y : Term) → same_term x y ≡ true → x ≡ y
same_term_is (t_const a m) (t_const b n) h =
    let p = and_parts (same_ty a b) (nat_eq m n) h in
    ap (λ (t : Ty). t_const t m) (same_ty_is a b p.0) ∙ ap (t_const b) (eqb-true m n p.1)
same_term_is (t_read k a) (t_read l b) h =
    let p = and_parts (same_kind k l) (same_ty a b) h in
    ap (λ (t : Kind). t_read t a) (same_kind_is k l p.0) ∙ ap (t_read l) (same_ty_is a b p.1)
same_term_is (t_one k a x) (t_one l b y) h =
    let p = and_parts (same_kind k l && same_ty a b) (same_term x y) h in
    let q = and_parts (same_kind k l) (same_ty a b) p.0 in
    ap (λ (t : Kind). t_one t a x) (same_kind_is k l q.0) ∙ ap (λ (t : Ty). t_one l t x) (same_ty_is a b q.1) ∙ ap (t_one l b) (same_term_is x y p.1)
same_term_is (t_entry n es a x) (t_entry m fs b y) h =
    let o = and_parts (nat_eq n m && bytes_eq es fs && same_ty a b) (same_term x y) h in
    let p = and_parts (nat_eq n m && bytes_eq es fs) (same_ty a b) o.0 in
    let q = and_parts (nat_eq n m) (bytes_eq es fs) p.0 in
    ap (λ (k : ℕ). t_entry k es a x) (eqb-true n m q.0) ∙ ap (λ (gs : List ℕ). t_entry m gs a x) ((bytes_eq-Decides es fs).0 q.1)
    ∙ ap (λ (t : Ty). t_entry m fs t x) (same_ty_is a b p.1) ∙ ap (t_entry m fs b) (same_term_is x y o.1)
same_term_is (t_two k a x x') (t_two l b y y') h =
    let o = and_parts (same_kind k l && same_ty a b && same_term x y) (same_term x' y') h in
    let p = and_parts (same_kind k l && same_ty a b) (same_term x y) o.0 in
    let q = and_parts (same_kind k l) (same_ty a b) p.0 in
    ap (λ (t : Kind). t_two t a x x') (same_kind_is k l q.0) ∙ ap (λ (t : Ty). t_two l t x x') (same_ty_is a b q.1)
    ∙ ap (λ (t : Term). t_two l b t x') (same_term_is x y p.1) ∙ ap (t_two l b y) (same_term_is x' y' o.1)
same_term_is (t_three k a x x' x'') (t_three l b y y' y'') h =
    let n = and_parts (same_kind k l && same_ty a b && same_term x y && same_term x' y') (same_term x'' y'') h in
    let o = and_parts (same_kind k l && same_ty a b && same_term x y) (same_term x' y') n.0 in
    let p = and_parts (same_kind k l && same_ty a b) (same_term x y) o.0 in
    let q = and_parts (same_kind k l) (same_ty a b) p.0 in
    ap (λ (t : Kind). t_three t a x x' x'') (same_kind_is k l q.0) ∙ ap (λ (t : Ty). t_three l t x x' x'') (same_ty_is a b q.1)
    ∙ ap (λ (t : Term). t_three l b t x' x'') (same_term_is x y p.1) ∙ ap (λ (t : Term). t_three l b y t x'') (same_term_is x' y' o.1)
    ∙ ap (t_three l b y y') (same_term_is x'' y'' n.1)
same_term_is x y h = absurd (cc)
