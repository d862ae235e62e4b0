-- The test of kinds tells which are one.
use Rattle.std.proofs.Common.{◌≡◌, ℕ, refl, sym, ap, ◌∙◌, subst, true, [], ◌∷◌, get_or}
use Rattle.std.specs.Prelude.{nat_eq, ◌&&◌}
use Rattle.std.proofs.lemmas.Bool.{and_parts, eqb-true, eq-eqb}
use Rattle.ix_graph.specs.declared.kind.Kind.{Kind}
use Rattle.ix_graph.specs.declared.kind.Kind.TheVariants.{RdInstr, RdRS1, RdRS2, RdPC, RdCustReg, RdMem, WrRD, WrPC, WrCustReg, WrMem, Add, Sub, Mul, And, Or, Xor, Not, Neg, Shl, Shr, Eq, Ne, Lt, Le, Gt, Ge, Land, Lor, Lnot, Concat, Range, Cast, Mux, Rom}
use Rattle.ix_graph.specs.Kinds.{place_of}
use Rattle.ix_graph.specs.Roles.{first_number, second_number, same_kind, SameKindLaw}

-- the kind at a place, with its numbers
back : ℕ → ℕ → ℕ → Kind
back n x y =
    get_or
    (RdInstr ∷ RdRS1 ∷ RdRS2 ∷ RdPC ∷ RdCustReg x ∷ RdMem ∷ WrRD ∷ WrPC ∷ WrCustReg x ∷ WrMem ∷ Add ∷ Sub ∷ Mul ∷ And ∷ Or ∷ Xor ∷ Not ∷ Neg ∷ Shl ∷ Shr ∷ Eq ∷ Ne ∷ Lt ∷ Le ∷ Gt ∷ Ge ∷ Land ∷ Lor ∷ Lnot ∷ Concat ∷ Range x y ∷ Cast ∷ Mux ∷ Rom x ∷ [])
    n
    RdInstr

back_is : (a : Kind) → back (place_of a) (first_number a) (second_number a) ≡ a
unfolding back
back_is RdInstr = refl
back_is RdRS1 = refl
back_is RdRS2 = refl
back_is RdPC = refl
back_is (RdCustReg r) = refl
back_is RdMem = refl
back_is WrRD = refl
back_is WrPC = refl
back_is (WrCustReg r) = refl
back_is WrMem = refl
back_is Add = refl
back_is Sub = refl
back_is Mul = refl
back_is And = refl
back_is Or = refl
back_is Xor = refl
back_is Not = refl
back_is Neg = refl
back_is Shl = refl
back_is Shr = refl
back_is Eq = refl
back_is Ne = refl
back_is Lt = refl
back_is Le = refl
back_is Gt = refl
back_is Ge = refl
back_is Land = refl
back_is Lor = refl
back_is Lnot = refl
back_is Concat = refl
back_is (Range hi lo) = refl
back_is Cast = refl
back_is Mux = refl
back_is (Rom t) = refl

pub same_kind_is : (a b : Kind) → same_kind a b ≡ true → a ≡ b
same_kind_is a b h =
    let p = and_parts (nat_eq (place_of a) (place_of b) && nat_eq (first_number a) (first_number b)) (nat_eq (second_number a) (second_number b)) h in
    let q = and_parts (nat_eq (place_of a) (place_of b)) (nat_eq (first_number a) (first_number b)) p.0 in
    let e = eqb-true (place_of a) (place_of b) q.0 in
    let f = eqb-true (first_number a) (first_number b) q.1 in
    let g = eqb-true (second_number a) (second_number b) p.1 in
    sym (back_is a) ∙ ap (λ (n : ℕ). back n (first_number a) (second_number a)) e ∙ ap (λ (n : ℕ). back (place_of b) n (second_number a)) f
    ∙ ap (λ (n : ℕ). back (place_of b) (first_number b) n) g ∙ back_is b

same_itself : (a : Kind) → same_kind a a ≡ true
same_itself a =
    let p = eq-eqb (place_of a) (place_of a) refl in
    let q = eq-eqb (first_number a) (first_number a) refl in
    let r = eq-eqb (second_number a) (second_number a) refl in
    rw (p, q, r) refl

pub same_kind_law : SameKindLaw
same_kind_law a b = (same_kind_is a b, λ e. let P : Kind → Type 0 = λ k. same_kind a k ≡ true in subst P e (same_itself a))
