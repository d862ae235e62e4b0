-- Whether numbers are 0.
use Rattle.std.proofs.Common.{◌≡◌, ⊎_elim, ℕ, ◌-◌, ◌^◌, ◌<◌, ◌≤◌, [], ◌∷◌, Bool, true, false, not, ◌&&◌, ◌||◌, eqb, arith, refl, ap, sym, ◌∙◌, bit_and, bit_or}
use Rattle.std.proofs.lemmas.Bool.{cases_lt}
use Rattle.ix_bits.specs.declared.number.Ty.{Ty}
use Rattle.ix_bits.specs.declared.operator.BinOp.TheVariants as binary
use Rattle.ix_bits.specs.Types.{number_of}
use Rattle.ix_bits.specs.Operators.{pattern_of, is_true, truth}
use Rattle.ix_bits.proofs.Operations.{true_where}
use Rattle.ix_graph.specs.declared.kind.Kind.TheVariants as kind
use Rattle.ix_net.specs.declared.netlist.Net.{Net}
use Rattle.ix_net.specs.Forms.{bit_of}
use Rattle.ix_cells.specs.declared.signal.Wire.{Wire}
use Rattle.ix_cells.specs.declared.operand.Operand.{Operand}
use Rattle.ix_cells.specs.Growth.{Adds}
use Rattle.ix_cells.specs.Operands.{wire_of, shown, two_shown, one_shown}
use Rattle.ix_cells.proofs.Growing.{of_width, same_adds, seq, with_value}
use Rattle.ix_cells.proofs.Steps.{pair_of, two_then}
use Rattle.ix_cells.proofs.KindNumbers.{truth_is}

pub not_not : (b : Bool) → not (not b) ≡ b
not_not true = refl
not_not false = refl

-- one bit is its own truth
bit_is : (w raw : ℕ) → w ≡ 1 → raw < 2 ^ w → raw ≡ bit_of (not (eqb raw 0))
bit_is w raw e l =
    let two : 2 ^ w ≡ 2 = ap (λ n. 2 ^ n) e in
    ⊎_elim
    (λ (z : raw < 1). (let o : raw ≡ 0 = omega arith in rw o refl))
    (λ (z : 1 ≤ raw). (let o : raw ≡ 1 = omega arith in rw o refl))
    (cases_lt raw 1)

bit_turned : (w raw : ℕ) → w ≡ 1 → raw < 2 ^ w → 2 ^ w - 1 - raw ≡ bit_of (eqb raw 0)
bit_turned w raw e l =
    let two : 2 ^ w ≡ 2 = ap (λ n. 2 ^ n) e in
    ⊎_elim
    (λ (z : raw < 1). (let o : raw ≡ 0 = omega arith in rw (two, o) refl))
    (λ (z : 1 ≤ raw). (let o : raw ≡ 1 = omega arith in rw (two, o) refl))
    (cases_lt raw 1)

-- a pattern is 0 where its number does not count as true
pub zero_where : (s : Bool) (w raw : ℕ) → 1 ≤ w → raw < 2 ^ w → eqb raw 0 ≡ not (is_true (number_of s w raw))
zero_where s w raw some l = sym (not_not (eqb raw 0)) ∙ ap not (true_where s w raw some l)

-- the test of one bit
pub zero_bit :
    (a : Operand) {n0 n1 : Net} {r : Wire} → a.ty.width ≡ 1 → Adds (wire_of a ∷ []) n0 n1 r a.ty.width (λ see. 2 ^ a.ty.width - 1 - see a.signal)
    → Adds (wire_of a ∷ []) n0 n1 r 1 (λ see. bit_of (not (is_true (shown a see))))
zero_bit a e q =
    of_width a.ty.width 1 e
    (with_value (λ see fit. bit_turned a.ty.width (see a.signal) e fit.0 ∙ ap bit_of (zero_where a.ty.signed a.ty.width (see a.signal) a.ty.some_width fit.0)) q)

-- the test of more bits
pub zero_bits :
    (a : Operand) {n0 n1 n2 : Net} {none r : Wire} → Adds [] n0 n1 none a.ty.width (λ see. 0)
    → Adds (wire_of a ∷ none ∷ []) n1 n2 r 1 (λ see. bit_of (eqb (see a.signal) (see none.signal)))
    → Adds (wire_of a ∷ []) n0 n2 r 1 (λ see. bit_of (not (is_true (shown a see))))
zero_bits a z q =
    seq z q (λ h. tt) (λ h up made. (up (wire_of a) h.0, (made, tt)))
    (λ see fit e. ap (λ n. bit_of (eqb (see a.signal) n)) e ∙ ap bit_of (zero_where a.ty.signed a.ty.width (see a.signal) a.ty.some_width fit.0))

pub some_bit : (a : Operand) (n0 : Net) → a.ty.width ≡ 1 → Adds (wire_of a ∷ []) n0 n0 (wire_of a) 1 (λ see. bit_of (is_true (shown a see)))
some_bit a n0 e =
    of_width a.ty.width 1 e
    (same_adds n0 (wire_of a) (λ see. bit_of (is_true (shown a see)))
    (λ see fit. bit_is a.ty.width (see a.signal) e fit ∙ ap bit_of (true_where a.ty.signed a.ty.width (see a.signal) a.ty.some_width fit)))

pub lnot_kind : (a : Operand) (ty : Ty) {n0 n1 : Net} {r : Wire} → ty.width ≡ 1 → Adds (wire_of a ∷ []) n0 n1 r 1 (λ see. bit_of (not (is_true (shown a see)))) → Adds (wire_of a ∷ []) n0 n1 r ty.width (one_shown kind.Lnot a ty)
lnot_kind a ty e q =
    of_width 1 ty.width (sym e)
    (with_value (λ see fit. truth_is (not (is_true (shown a see))) ∙ ap (λ v. pattern_of v (truth (not (is_true (shown a see))))) (sym e)) q)

both_are : (s t : Bool) → bit_and (bit_of s) (bit_of t) ≡ pattern_of 1 (truth (s && t))
both_are true true = refl
both_are true false = refl
both_are false true = refl
both_are false false = refl

one_is : (s t : Bool) → bit_or (bit_of s) (bit_of t) ≡ pattern_of 1 (truth (s || t))
one_is true true = refl
one_is true false = refl
one_is false true = refl
one_is false false = refl

module _ (a b : Operand) {n0 n1 n2 n3 : Net} {x y r : Wire}
    (xa : Adds (wire_of a ∷ []) n0 n1 x 1 (λ see. bit_of (is_true (shown a see)))) (xb : Adds (wire_of b ∷ []) n1 n2 y 1 (λ see. bit_of (is_true (shown b see))))
  where
    pub land_kind : Adds (x ∷ y ∷ []) n2 n3 r x.width (λ see. bit_and (see x.signal) (see y.signal)) → Adds (wire_of a ∷ wire_of b ∷ []) n0 n3 r 1 (two_shown binary.Land a b 1)
    land_kind q = of_width x.width 1 xa.wide (two_then bit_and (pair_of xa xb) q (λ see fit. both_are (is_true (shown a see)) (is_true (shown b see))))

    pub lor_kind : Adds (x ∷ y ∷ []) n2 n3 r x.width (λ see. bit_or (see x.signal) (see y.signal)) → Adds (wire_of a ∷ wire_of b ∷ []) n0 n3 r 1 (two_shown binary.Lor a b 1)
    lor_kind q = of_width x.width 1 xa.wide (two_then bit_or (pair_of xa xb) q (λ see fit. one_is (is_true (shown a see)) (is_true (shown b see))))
