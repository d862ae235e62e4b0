-- Comparisons of operands that are extended to their common type.
use Rattle.std.proofs.Common.{◌≡◌, ℕ, ◌-◌, ◌^◌, ◌≤◌, List, [], ◌∷◌, Bool, true, false, not, eqb, arith, refl, ap, sym, ◌∙◌, subst, cond, Ordering, Less, Equal, Greater}
use Rattle.std.specs.Prelude.{ℤ, ◌<ℤ◌, int_lt, nat_lt}
use Rattle.std.specs.Ordering.{MatchOrdering, ordering_reverse, int_cmp, is_eq, is_ne, is_lt, is_gt, is_le, is_ge}
use Rattle.std.specs.Cmp.{int_cmp_is}
use Rattle.std.proofs.lemmas.Cmp.{int_ranked}
use Rattle.std.proofs.lemmas.Bool.{eqb-true, eq-eqb, false≢true}
use Rattle.std.proofs.lemmas.Map.Lookups.{exact_signed}
use Rattle.ix_bits.specs.declared.number.Ty.{Ty}
use Rattle.ix_bits.specs.declared.operator.BinOp.TheVariants as binary
use Rattle.ix_bits.specs.Types.{number_of, IsWithin}
use Rattle.ix_bits.specs.Operators.{pattern_of, truth}
use Rattle.ix_bits.specs.ResultTypes.{common_signed, common_width}
use Rattle.ix_bits.proofs.InRange.{common_left, common_right, common_some}
use Rattle.ix_bits.proofs.Results.{within_value}
use Rattle.ix_bits.proofs.Patterns.{number_of_pattern}
use Rattle.ix_net.specs.declared.netlist.Net.{Net}
use Rattle.ix_net.specs.Forms.{bit_of, signed_lt}
use Rattle.ix_cells.specs.declared.signal.Signal.{Signal}
use Rattle.ix_cells.specs.declared.signal.Wire.{Wire}
use Rattle.ix_cells.specs.declared.operand.Operand.{Operand}
use Rattle.ix_cells.specs.Growth.{AreSeen, Adds}
use Rattle.ix_cells.specs.Operands.{wire_of, shown, two_shown}
use Rattle.ix_cells.specs.Pairs.{AddsPair}
use Rattle.ix_cells.proofs.Growing.{of_width, seq, with_value}
use Rattle.ix_cells.proofs.Steps.{two_then, turned_round}
use Rattle.ix_cells.proofs.KindNumbers.{truth_is, bit_not}

-- a number is that of its pattern in the common type
common_number : (a b : Ty) (s : Bool) (w : ℕ) (x : ℤ) → s ≡ common_signed a b → w ≡ common_width a b → IsWithin (common_signed a b) (common_width a b) x → 1 ≤ w → number_of s w (pattern_of w x) ≡ x
common_number a b s w x es ew h one =
    let A : Bool → Type 0 = λ t. IsWithin t w x in
    let B : ℕ → Type 0 = λ v. IsWithin (common_signed a b) v x in
    let k : IsWithin s w x = subst A (sym es) (subst B (sym ew) h) in
    number_of_pattern s w x one k.from_least k.below_past

lt_is : (x y : ℤ) → int_lt x y ≡ is_lt (int_cmp x y)
lt_is x y = go (int_lt x y) (int_lt y x)
  where
    go : (b c : Bool) → b ≡ is_lt (cond b Less (cond c Greater Equal))
    go true c = refl
    go false true = refl
    go false false = refl

-- patterns are the same where their numbers are
same_is : (s : Bool) (w : ℕ) (x y : ℤ) → number_of s w (pattern_of w x) ≡ x → number_of s w (pattern_of w y) ≡ y → eqb (pattern_of w x) (pattern_of w y) ≡ is_eq (int_cmp x y)
same_is s w x y ex ey = go (eqb (pattern_of w x) (pattern_of w y)) refl
  where
    apart : eqb (pattern_of w x) (pattern_of w y) ≡ false → (r : Ordering) → int_cmp x y ≡ r → false ≡ is_eq r
    apart e Less h = refl
    apart e Greater h = refl
    apart e Equal h = absurd (false≢true (sym e ∙ eq-eqb (pattern_of w x) (pattern_of w y) (ap (pattern_of w) (exact_signed x y h))))

    go : (b : Bool) → eqb (pattern_of w x) (pattern_of w y) ≡ b → b ≡ is_eq (int_cmp x y)
    go true e =
        let p : x ≡ y = sym ex ∙ ap (number_of s w) (eqb-true (pattern_of w x) (pattern_of w y) e) ∙ ey in
        ap is_eq (int_cmp_is x y Equal p)
    go false e = apart e (int_cmp x y) refl

reversed : (x y : ℤ) → int_cmp y x ≡ ordering_reverse (int_cmp x y)
reversed x y = sym (int_cmp_is y x (ordering_reverse (int_cmp x y)) (go (int_cmp x y) (int_ranked x y (int_cmp x y) refl)))
  where
    go : (r : Ordering) → MatchOrdering r (x <ℤ y) (x ≡ y) (y <ℤ x) → MatchOrdering (ordering_reverse r) (y <ℤ x) (y ≡ x) (x <ℤ y)
    go Less h = h
    go Equal h = sym h
    go Greater h = h

gt_is : (x y : ℤ) → is_lt (int_cmp y x) ≡ is_gt (int_cmp x y)
gt_is x y = ap is_lt (reversed x y) ∙ go (int_cmp x y)
  where
    go : (r : Ordering) → is_lt (ordering_reverse r) ≡ is_gt r
    go Less = refl
    go Equal = refl
    go Greater = refl

ne_is : (r : Ordering) → not (is_eq r) ≡ is_ne r
ne_is Less = refl
ne_is Equal = refl
ne_is Greater = refl

le_is : (r : Ordering) → not (is_gt r) ≡ is_le r
le_is Less = refl
le_is Equal = refl
le_is Greater = refl

ge_is : (r : Ordering) → not (is_lt r) ≡ is_ge r
ge_is Less = refl
ge_is Equal = refl
ge_is Greater = refl

module _ (a b : Operand) (w : ℕ) (ew : w ≡ common_width a.ty b.ty) where
  one : 1 ≤ w
  one = (let c = common_some a.ty b.ty in omega arith)

  first : (s : Bool) → s ≡ common_signed a.ty b.ty → (see : Signal → ℕ) → AreSeen see (wire_of a ∷ wire_of b ∷ []) → number_of s w (pattern_of w (shown a see)) ≡ shown a see
  first s es see fit = common_number a.ty b.ty s w (shown a see) es ew (common_left a.ty b.ty (shown a see) (within_value a.ty.signed a.ty.width (see a.signal) a.ty.some_width fit.0)) one

  second : (s : Bool) → s ≡ common_signed a.ty b.ty → (see : Signal → ℕ) → AreSeen see (wire_of a ∷ wire_of b ∷ []) → number_of s w (pattern_of w (shown b see)) ≡ shown b see
  second s es see fit = common_number a.ty b.ty s w (shown b see) es ew (common_right a.ty b.ty (shown b see) (within_value b.ty.signed b.ty.width (see b.signal) b.ty.some_width fit.1.0)) one

  numbers : (s : Bool) → s ≡ common_signed a.ty b.ty → (see : Signal → ℕ) → AreSeen see (wire_of a ∷ wire_of b ∷ [])
      → int_lt (number_of s w (pattern_of w (shown a see))) (number_of s w (pattern_of w (shown b see))) ≡ int_lt (shown a see) (shown b see)
  numbers s es see fit = ap (λ n. int_lt n (number_of s w (pattern_of w (shown b see)))) (first s es see fit) ∙ ap (int_lt (shown a see)) (second s es see fit)

module _ (a b : Operand) {n0 n1 n2 : Net} {x y r : Wire} {w : ℕ}
    (p : AddsPair (wire_of a ∷ wire_of b ∷ []) n0 n1 x y w (λ see. pattern_of w (shown a see)) (λ see. pattern_of w (shown b see)))
    (ew : w ≡ common_width a.ty b.ty)
  where
    pub eq_kind : Adds (x ∷ y ∷ []) n1 n2 r 1 (λ see. bit_of (eqb (see x.signal) (see y.signal))) → Adds (wire_of a ∷ wire_of b ∷ []) n0 n2 r 1 (two_shown binary.Eq a b 1)
    eq_kind q =
        two_then (λ s t. bit_of (eqb s t)) p q
        (λ see fit. ap bit_of (same_is (common_signed a.ty b.ty) w (shown a see) (shown b see) (first a b w ew (common_signed a.ty b.ty) refl see fit) (second a b w ew (common_signed a.ty b.ty) refl see fit))
        ∙ truth_is (is_eq (int_cmp (shown a see) (shown b see))))

    pub lt_kind : common_signed a.ty b.ty ≡ false → Adds (x ∷ y ∷ []) n1 n2 r 1 (λ see. bit_of (nat_lt (see x.signal) (see y.signal))) → Adds (wire_of a ∷ wire_of b ∷ []) n0 n2 r 1 (two_shown binary.Lt a b 1)
    lt_kind es q =
        two_then (λ s t. bit_of (nat_lt s t)) p q
        (λ see fit. ap bit_of (numbers a b w ew false (sym es) see fit ∙ lt_is (shown a see) (shown b see)) ∙ truth_is (is_lt (int_cmp (shown a see) (shown b see))))

    pub lt_signed_kind : common_signed a.ty b.ty ≡ true → Adds (x ∷ y ∷ []) n1 n2 r 1 (λ see. bit_of (signed_lt x.width (see x.signal) (see y.signal))) → Adds (wire_of a ∷ wire_of b ∷ []) n0 n2 r 1 (two_shown binary.Lt a b 1)
    lt_signed_kind es q =
        two_then (λ s t. bit_of (signed_lt x.width s t)) p q
        (λ see fit. ap (λ n. bit_of (signed_lt n (pattern_of w (shown a see)) (pattern_of w (shown b see)))) p.left_wide
        ∙ ap bit_of (numbers a b w ew true (sym es) see fit ∙ lt_is (shown a see) (shown b see)) ∙ truth_is (is_lt (int_cmp (shown a see) (shown b see))))

-- the other truth value
pub not_test :
    {needs : List Wire} {n0 n1 n2 : Net} {t r : Wire} (f g : (Signal → ℕ) → Bool) → ((see : Signal → ℕ) → not (f see) ≡ g see)
    → Adds needs n0 n1 t 1 (λ see. bit_of (f see)) → Adds (t ∷ []) n1 n2 r t.width (λ see. 2 ^ t.width - 1 - see t.signal) → Adds needs n0 n2 r 1 (λ see. bit_of (g see))
not_test {t = t} f g same p q =
    of_width t.width 1 p.wide
    (seq p q (λ h. h) (λ h up made. (made, tt))
    (λ see fit e. ap (λ v. 2 ^ v - 1 - see t.signal) p.wide ∙ ap (λ n. 2 ^ 1 - 1 - n) e ∙ bit_not (f see) ∙ ap bit_of (same see)))

module _ (a b : Operand) where
  truths : (f : (Signal → ℕ) → Bool) {m0 m1 : Net} {u : Wire} → Adds (wire_of a ∷ wire_of b ∷ []) m0 m1 u 1 (λ see. bit_of (f see)) → Adds (wire_of a ∷ wire_of b ∷ []) m0 m1 u 1 (λ see. pattern_of 1 (truth (f see)))
  truths f p = with_value (λ see fit. truth_is (f see)) p

  bits : (f : (Signal → ℕ) → Bool) {m0 m1 : Net} {u : Wire} → Adds (wire_of a ∷ wire_of b ∷ []) m0 m1 u 1 (λ see. pattern_of 1 (truth (f see))) → Adds (wire_of a ∷ wire_of b ∷ []) m0 m1 u 1 (λ see. bit_of (f see))
  bits f p = with_value (λ see fit. sym (truth_is (f see))) p

module _ (a b : Operand) {n0 n1 n2 : Net} {t r : Wire} where
  pub ne_kind : Adds (wire_of a ∷ wire_of b ∷ []) n0 n1 t 1 (two_shown binary.Eq a b 1) → Adds (t ∷ []) n1 n2 r t.width (λ see. 2 ^ t.width - 1 - see t.signal) → Adds (wire_of a ∷ wire_of b ∷ []) n0 n2 r 1 (two_shown binary.Ne a b 1)
  ne_kind p q =
      truths a b (λ see. is_ne (int_cmp (shown a see) (shown b see)))
      (not_test (λ see. is_eq (int_cmp (shown a see) (shown b see))) (λ see. is_ne (int_cmp (shown a see) (shown b see))) (λ see. ne_is (int_cmp (shown a see) (shown b see)))
      (bits a b (λ see. is_eq (int_cmp (shown a see) (shown b see))) p) q)

  pub le_kind : Adds (wire_of a ∷ wire_of b ∷ []) n0 n1 t 1 (two_shown binary.Gt a b 1) → Adds (t ∷ []) n1 n2 r t.width (λ see. 2 ^ t.width - 1 - see t.signal) → Adds (wire_of a ∷ wire_of b ∷ []) n0 n2 r 1 (two_shown binary.Le a b 1)
  le_kind p q =
      truths a b (λ see. is_le (int_cmp (shown a see) (shown b see)))
      (not_test (λ see. is_gt (int_cmp (shown a see) (shown b see))) (λ see. is_le (int_cmp (shown a see) (shown b see))) (λ see. le_is (int_cmp (shown a see) (shown b see)))
      (bits a b (λ see. is_gt (int_cmp (shown a see) (shown b see))) p) q)

  pub ge_kind : Adds (wire_of a ∷ wire_of b ∷ []) n0 n1 t 1 (two_shown binary.Lt a b 1) → Adds (t ∷ []) n1 n2 r t.width (λ see. 2 ^ t.width - 1 - see t.signal) → Adds (wire_of a ∷ wire_of b ∷ []) n0 n2 r 1 (two_shown binary.Ge a b 1)
  ge_kind p q =
      truths a b (λ see. is_ge (int_cmp (shown a see) (shown b see)))
      (not_test (λ see. is_lt (int_cmp (shown a see) (shown b see))) (λ see. is_ge (int_cmp (shown a see) (shown b see))) (λ see. ge_is (int_cmp (shown a see) (shown b see)))
      (bits a b (λ see. is_lt (int_cmp (shown a see) (shown b see))) p) q)

-- the operands turned round
pub gt_kind : (a b : Operand) {n0 n1 : Net} {r : Wire} → Adds (wire_of b ∷ wire_of a ∷ []) n0 n1 r 1 (two_shown binary.Lt b a 1) → Adds (wire_of a ∷ wire_of b ∷ []) n0 n1 r 1 (two_shown binary.Gt a b 1)
gt_kind a b p = turned_round (λ see. ap (λ t. pattern_of 1 (truth t)) (gt_is (shown a see) (shown b see))) p
