-- Sums, differences, products and bits of extended operands.
use Rattle.std.proofs.Common.{◌≡◌, ℕ, ◌+◌, ◌-◌, ◌*◌, ◌%◌, ◌^◌, [], ◌∷◌, max, sym, ap, ◌∙◌, bit_and, bit_or, bit_xor, arith}
use Rattle.std.specs.Prelude.{ℤ, pos, ◌-ℤ◌}
use Rattle.std.proofs.lemmas.Nat.{and_le_l, or_lt, xor_lt}
use Rattle.ix_bits.specs.declared.operator.BinOp.{BinOp}
use Rattle.ix_bits.specs.declared.operator.BinOp.TheVariants as binary
use Rattle.ix_bits.specs.declared.number.Ty.{Ty}
use Rattle.ix_bits.specs.Operators.{pattern_of, value_of, binary_number}
use Rattle.ix_graph.specs.declared.kind.Kind.TheVariants as kind
use Rattle.ix_net.specs.declared.netlist.Net.{Net}
use Rattle.ix_cells.specs.declared.signal.Wire.{Wire}
use Rattle.ix_cells.specs.declared.operand.Operand.{Operand}
use Rattle.ix_cells.specs.Growth.{Adds}
use Rattle.ix_cells.specs.Operands.{wire_of, shown, two_shown, one_shown}
use Rattle.ix_cells.specs.Pairs.{AddsPair}
use Rattle.ix_cells.proofs.Growing.{of_width, seq, with_value}
use Rattle.ix_cells.proofs.Steps.{two_then}
use Rattle.ix_cells.proofs.KindNumbers.{pattern_below, add_is, sub_is, mul_is, bits_are, fit_is, not_is, neg_is}

module _ (a b : Operand) {n0 n1 n2 : Net} {x y r : Wire} {w : ℕ}
    (p : AddsPair (wire_of a ∷ wire_of b ∷ []) n0 n1 x y w (λ see. pattern_of w (shown a see)) (λ see. pattern_of w (shown b see)))
  where
    -- a form whose value on patterns is the pattern of the operator's number
    two_kind :
        (op : BinOp) (m : ℕ → ℕ → ℕ → ℕ) → ((i j : ℤ) → m w (pattern_of w i) (pattern_of w j) ≡ pattern_of w (binary_number op a.ty i b.ty j))
        → Adds (x ∷ y ∷ []) n1 n2 r x.width (λ see. m x.width (see x.signal) (see y.signal)) → Adds (wire_of a ∷ wire_of b ∷ []) n0 n2 r w (two_shown op a b w)
    two_kind op m same q =
        of_width x.width w p.left_wide
        (two_then (m x.width) p q (λ see fit. ap (λ v. m v (pattern_of w (shown a see)) (pattern_of w (shown b see))) p.left_wide ∙ same (shown a see) (shown b see)))

    pub add_kind : Adds (x ∷ y ∷ []) n1 n2 r x.width (λ see. (see x.signal + see y.signal) % 2 ^ x.width) → Adds (wire_of a ∷ wire_of b ∷ []) n0 n2 r w (two_shown binary.Add a b w)
    add_kind q = two_kind binary.Add (λ v s t. (s + t) % 2 ^ v) (add_is w) q

    pub sub_kind : Adds (x ∷ y ∷ []) n1 n2 r x.width (λ see. (see x.signal + (2 ^ x.width - see y.signal)) % 2 ^ x.width) → Adds (wire_of a ∷ wire_of b ∷ []) n0 n2 r w (two_shown binary.Sub a b w)
    sub_kind q = two_kind binary.Sub (λ v s t. (s + (2 ^ v - t)) % 2 ^ v) (sub_is w) q

    pub mul_kind : Adds (x ∷ y ∷ []) n1 n2 r x.width (λ see. (see x.signal * see y.signal) % 2 ^ x.width) → Adds (wire_of a ∷ wire_of b ∷ []) n0 n2 r w (two_shown binary.Mul a b w)
    mul_kind q = two_kind binary.Mul (λ v s t. (s * t) % 2 ^ v) (mul_is w) q

    pub and_kind : w ≡ max a.ty.width b.ty.width → Adds (x ∷ y ∷ []) n1 n2 r x.width (λ see. bit_and (see x.signal) (see y.signal)) → Adds (wire_of a ∷ wire_of b ∷ []) n0 n2 r w (two_shown binary.And a b w)
    and_kind e q =
        two_kind binary.And (λ v. bit_and)
        (λ i j. bits_are bit_and a.ty.signed w (max a.ty.width b.ty.width) i j (omega (arith, and_le_l (pattern_of w i) (pattern_of w j), pattern_below w i)) e (omega (arith, a.ty.some_width))) q

    pub or_kind : w ≡ max a.ty.width b.ty.width → Adds (x ∷ y ∷ []) n1 n2 r x.width (λ see. bit_or (see x.signal) (see y.signal)) → Adds (wire_of a ∷ wire_of b ∷ []) n0 n2 r w (two_shown binary.Or a b w)
    or_kind e q =
        two_kind binary.Or (λ v. bit_or)
        (λ i j. bits_are bit_or a.ty.signed w (max a.ty.width b.ty.width) i j (or_lt w (pattern_of w i) (pattern_of w j) (pattern_below w i) (pattern_below w j)) e (omega (arith, a.ty.some_width))) q

    pub xor_kind : w ≡ max a.ty.width b.ty.width → Adds (x ∷ y ∷ []) n1 n2 r x.width (λ see. bit_xor (see x.signal) (see y.signal)) → Adds (wire_of a ∷ wire_of b ∷ []) n0 n2 r w (two_shown binary.Xor a b w)
    xor_kind e q =
        two_kind binary.Xor (λ v. bit_xor)
        (λ i j. bits_are bit_xor a.ty.signed w (max a.ty.width b.ty.width) i j (xor_lt w (pattern_of w i) (pattern_of w j) (pattern_below w i) (pattern_below w j)) e (omega (arith, a.ty.some_width))) q

-- all bits turned
pub not_kind :
    (a : Operand) (ty : Ty) {n0 n1 : Net} {r : Wire} → ty.width ≡ a.ty.width → Adds (wire_of a ∷ []) n0 n1 r a.ty.width (λ see. 2 ^ a.ty.width - 1 - see a.signal)
    → Adds (wire_of a ∷ []) n0 n1 r ty.width (one_shown kind.Not a ty)
not_kind a ty e q =
    of_width a.ty.width ty.width (sym e)
    (with_value (λ see fit.
    not_is a.ty.signed a.ty.width (see a.signal) a.ty.some_width fit.0 ∙ fit_is a.ty (pos 0 -ℤ pos 1 -ℤ shown a see)
    ∙ ap (λ v. pattern_of v (value_of a.ty (pattern_of a.ty.width (pos 0 -ℤ pos 1 -ℤ shown a see)))) (sym e)) q)

-- 0 minus the number
pub neg_kind :
    (a : Operand) (ty : Ty) {n0 n1 n2 n3 : Net} {none number r : Wire}
    → Adds [] n0 n1 none ty.width (λ see. 0) → Adds (wire_of a ∷ []) n1 n2 number ty.width (λ see. pattern_of ty.width (shown a see))
    → Adds (none ∷ number ∷ []) n2 n3 r none.width (λ see. (see none.signal + (2 ^ none.width - see number.signal)) % 2 ^ none.width)
    → Adds (wire_of a ∷ []) n0 n3 r ty.width (one_shown kind.Neg a ty)
neg_kind a ty {n0} {n1} {n2} {n3} {none} {number} {r} z x q =
    of_width none.width ty.width z.wide
    (seq z rest (λ h. tt) (λ h up made. (made, (up (wire_of a) h.0, tt)))
    (λ see fit e. ap (λ v. (see none.signal + (2 ^ v - pattern_of ty.width (shown a see))) % 2 ^ v) z.wide
    ∙ ap (λ n. (n + (2 ^ ty.width - pattern_of ty.width (shown a see))) % 2 ^ ty.width) e ∙ neg_is ty.width (shown a see)))
  where
    rest : Adds (none ∷ wire_of a ∷ []) n1 n3 r none.width (λ see. (see none.signal + (2 ^ none.width - pattern_of ty.width (shown a see))) % 2 ^ none.width)
    rest = seq x q (λ h. (h.1.0, tt)) (λ h up made. (up none h.0, (made, tt))) (λ see fit e. ap (λ n. (see none.signal + (2 ^ none.width - n)) % 2 ^ none.width) e)
