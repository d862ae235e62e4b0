-- Concatenations, ranges of bits, casts and choices.
use Rattle.std.proofs.Common.{◌≡◌, ℕ, ◌+◌, ◌-◌, ◌*◌, ◌/◌, ◌%◌, ◌^◌, ◌<◌, ◌≤◌, [], ◌∷◌, Bool, true, false, not, eqb, cond, arith, refl, ap, sym, ◌∙◌, subst}
use Rattle.std.specs.Prelude.{ℤ, pos}
use Rattle.std.proofs.Math.Nat.{mod-eq_of_lt}
use Rattle.std.proofs.lemmas.Nat.{pow_pos, div_below, mod_below}
use Rattle.ix_bits.specs.declared.number.Ty.{Ty}
use Rattle.ix_bits.specs.declared.operator.BinOp.TheVariants as binary
use Rattle.ix_bits.specs.Types.{number_of}
use Rattle.ix_bits.specs.Operators.{pattern_of, is_true, bits_between}
use Rattle.ix_bits.proofs.Operations.{concatenated}
use Rattle.ix_bits.proofs.Patterns.{pattern_narrows, pattern_of_number}
use Rattle.ix_bits.proofs.Shifts.{joined_below}
use Rattle.ix_graph.specs.declared.kind.Kind.TheVariants as kind
use Rattle.ix_graph.specs.Graphs.{IsRangeResult}
use Rattle.ix_net.specs.declared.netlist.Net.{Net}
use Rattle.ix_cells.specs.declared.signal.Wire.{Wire}
use Rattle.ix_cells.specs.declared.operand.Operand.{Operand}
use Rattle.ix_cells.specs.Growth.{Adds}
use Rattle.ix_cells.specs.Operands.{wire_of, shown, two_shown, one_shown, choice_shown}
use Rattle.ix_cells.specs.Pairs.{AddsPair}
use Rattle.ix_cells.proofs.Growing.{of_width, with_value}
use Rattle.ix_cells.proofs.Steps.{pair_then}
use Rattle.ix_cells.proofs.KindNumbers.{fit_is}
use Rattle.ix_cells.proofs.Tests.{zero_where}

pub concat_kind :
    (a b : Operand) {n0 n1 : Net} {r : Wire} → Adds (wire_of a ∷ wire_of b ∷ []) n0 n1 r (a.ty.width + b.ty.width) (λ see. see a.signal * 2 ^ b.ty.width + see b.signal)
    → Adds (wire_of a ∷ wire_of b ∷ []) n0 n1 r (a.ty.width + b.ty.width) (two_shown binary.Concat a b (a.ty.width + b.ty.width))
concat_kind a b q =
    with_value
    (λ see fit.
    (let n = see a.signal * 2 ^ b.ty.width + see b.signal in
    let l : n < 2 ^ (a.ty.width + b.ty.width) = joined_below (see a.signal) b.ty.width (see b.signal) a.ty.width fit.1.0 fit.0 in
    sym (mod-eq_of_lt l) ∙ ap (pattern_of (a.ty.width + b.ty.width)) (concatenated a.ty b.ty (see a.signal) (see b.signal) n fit.0 fit.1.0 refl))) q

pub range_kind :
    (a : Operand) (hi lo : ℕ) (ty : Ty) {n0 n1 : Net} {r : Wire} → IsRangeResult hi lo a.ty ty
    → Adds (wire_of a ∷ []) n0 n1 r (hi - lo + 1) (λ see. see a.signal / 2 ^ lo % 2 ^ (hi - lo + 1)) → Adds (wire_of a ∷ []) n0 n1 r ty.width (one_shown (kind.Range hi lo) a ty)
range_kind a hi lo ty h q =
    of_width (hi - lo + 1) ty.width (sym h.bits.wide)
    (with_value
    (λ see fit.
    (let v = see a.signal / 2 ^ lo % 2 ^ (hi - lo + 1) in
    let P : ℕ → Type 0 = λ n. v < 2 ^ n in
    let l : v < 2 ^ ty.width = subst P (sym h.bits.wide) (mod_below (see a.signal / 2 ^ lo) (2 ^ (hi - lo + 1)) (pow_pos (hi - lo + 1))) in
    sym (mod-eq_of_lt l)
    ∙ ap (λ x. pattern_of ty.width (pos (bits_between x hi lo))) (sym (pattern_of_number a.ty.signed a.ty.width (see a.signal) a.ty.some_width fit.0)))) q)

narrow_is : (s : Bool) (v w raw : ℕ) → 1 ≤ v → w ≤ v → raw < 2 ^ v → 1 ≤ w → raw / 2 ^ 0 % 2 ^ (w - 1 - 0 + 1) ≡ pattern_of w (number_of s v raw)
narrow_is s v w raw some l h one =
    let e : w - 1 - 0 + 1 ≡ w = omega arith in
    let d : raw / 2 ^ 0 ≡ raw = omega (arith, div_below raw 1 (raw + 1) (omega arith) (omega arith)) in
    rw (e, pattern_narrows w v (number_of s v raw) l, pattern_of_number s v raw some h) (ap (λ n. n % 2 ^ w) d)

pub narrow_kind :
    (a : Operand) (ty : Ty) {n0 n1 : Net} {r : Wire} → ty.width ≤ a.ty.width
    → Adds (wire_of a ∷ []) n0 n1 r (ty.width - 1 - 0 + 1) (λ see. see a.signal / 2 ^ 0 % 2 ^ (ty.width - 1 - 0 + 1)) → Adds (wire_of a ∷ []) n0 n1 r ty.width (one_shown kind.Cast a ty)
narrow_kind a ty l q =
    of_width (ty.width - 1 - 0 + 1) ty.width (let o = ty.some_width in omega arith)
    (with_value (λ see fit. narrow_is a.ty.signed a.ty.width ty.width (see a.signal) a.ty.some_width l fit.0 ty.some_width ∙ fit_is ty (shown a see)) q)

pub wide_kind :
    (a : Operand) (ty : Ty) {n0 n1 : Net} {r : Wire} → Adds (wire_of a ∷ []) n0 n1 r ty.width (λ see. pattern_of ty.width (shown a see))
    → Adds (wire_of a ∷ []) n0 n1 r ty.width (one_shown kind.Cast a ty)
wide_kind a ty q = with_value (λ see fit. fit_is ty (shown a see)) q

choice_is : (w : ℕ) (x y : ℤ) (zero some : Bool) → zero ≡ not some → cond zero (pattern_of w y) (pattern_of w x) ≡ pattern_of w (cond some x y)
choice_is w x y zero true e = rw e refl
choice_is w x y zero false e = rw e refl

pub choice_kind :
    (c a b : Operand) {n0 n1 n2 : Net} {x y r : Wire} {w : ℕ}
    → AddsPair (wire_of a ∷ wire_of b ∷ []) n0 n1 x y w (λ see. pattern_of w (shown a see)) (λ see. pattern_of w (shown b see))
    → Adds (wire_of c ∷ x ∷ y ∷ []) n1 n2 r x.width (λ see. cond (eqb (see c.signal) 0) (see y.signal) (see x.signal))
    → Adds (wire_of c ∷ wire_of a ∷ wire_of b ∷ []) n0 n2 r w (choice_shown c a b w)
choice_kind c a b {x = x} {y = y} {w = w} p q =
    of_width x.width w p.left_wide
    (pair_then p q (λ h. (h.1.0, (h.1.1.0, tt))) (λ h up left right. (up (wire_of c) h.0, (left, (right, tt))))
    (λ see fit ex ey.
    ap (λ n. cond (eqb (see c.signal) 0) (see y.signal) n) ex ∙ ap (λ n. cond (eqb (see c.signal) 0) n (pattern_of w (shown a see))) ey
    ∙ choice_is w (shown a see) (shown b see) (eqb (see c.signal) 0) (is_true (shown c see)) (zero_where c.ty.signed c.ty.width (see c.signal) c.ty.some_width fit.0)))
