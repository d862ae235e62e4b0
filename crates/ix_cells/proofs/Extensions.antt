-- Patterns in a wider width: zeros or the sign stand above them.
use Rattle.std.proofs.Common.{◌≡◌, ⊎_elim, ℕ, ◌+◌, ◌-◌, ◌*◌, ◌/◌, ◌%◌, ◌^◌, ◌<◌, ◌≤◌, zero, suc, [], ◌∷◌, true, false, eqb, cond, arith, ap, sym, ◌∙◌}
use Rattle.std.specs.Prelude.{pos, ◌-ℤ◌}
use Rattle.std.proofs.Math.Nat.{mod-eq_of_lt}
use Rattle.std.proofs.lemmas.Int.{ints}
use Rattle.std.proofs.lemmas.Bool.{cases_lt}
use Rattle.std.proofs.lemmas.Nat.{pow_pos, div_below, le-div}
use Rattle.ix_bits.specs.Types.{number_of}
use Rattle.ix_bits.specs.Operators.{pattern_of}
use Rattle.ix_bits.proofs.Remainders.{rem_is}
use Rattle.ix_bits.proofs.Patterns.{pow_half, pow_parts, pow_rises, number_below, number_above}
use Rattle.ix_net.specs.declared.netlist.Net.{Net}
use Rattle.ix_cells.specs.declared.signal.Wire.{Wire}
use Rattle.ix_cells.specs.Growth.{Adds}
use Rattle.ix_cells.proofs.Growing.{seq, of_width}

pub unsigned_is : (w width raw : ℕ) → w ≤ width → raw < 2 ^ w → 0 * 2 ^ w + raw ≡ pattern_of width (number_of false w raw)
unsigned_is w width raw l h =
    let r = pow_rises w width l in
    let e : raw % 2 ^ width ≡ raw = mod-eq_of_lt (omega arith) in
    rw e (omega arith)

pub unsigned_adds :
    {n0 n1 n2 : Net} {above a r : Wire} (width : ℕ) → a.width < width
    → Adds [] n0 n1 above (width - a.width) (λ see. 0) → Adds (above ∷ a ∷ []) n1 n2 r (above.width + a.width) (λ see. see above.signal * 2 ^ a.width + see a.signal)
    → Adds (a ∷ []) n0 n2 r width (λ see. pattern_of width (number_of false a.width (see a.signal)))
unsigned_adds {n0} {n1} {n2} {above} {a} {r} width l x y =
    of_width (above.width + a.width) width (omega (arith, x.wide))
    (seq x y (λ wires. tt) (λ wires up made. (made, (up a wires.0, tt)))
    (λ see fit e. ap (λ n. n * 2 ^ a.width + see a.signal) e ∙ unsigned_is a.width width (see a.signal) (omega arith) fit.0))

-- the sign's bit chooses what stands above
pub signed_is :
    (w width raw : ℕ) → 1 ≤ w → w < width → raw < 2 ^ w
    → cond (eqb (raw / 2 ^ (w - 1) % 2 ^ (w - 1 - (w - 1) + 1)) 0) 0 (2 ^ (width - w) - 1) * 2 ^ w + raw ≡ pattern_of width (number_of true w raw)
signed_is w width raw some l h =
    let half = pow_half w some in
    let p = pow_pos (w - 1) in
    let parts = pow_parts w width (omega arith) in
    let one : w - 1 - (w - 1) + 1 ≡ 1 = omega arith in
    let q = pow_pos (width - w) in
    let r = pow_rises w width (omega arith) in
    ⊎_elim
    (λ (below : raw < 2 ^ (w - 1)).
    let z : raw / 2 ^ (w - 1) ≡ 0 = omega (arith, div_below raw (2 ^ (w - 1)) 1 p (omega arith)) in
    let e : raw % 2 ^ width ≡ raw = mod-eq_of_lt (omega arith) in
    rw (one, z, number_below w raw below) (rw e (omega arith)))
    (λ (above : 2 ^ (w - 1) ≤ raw).
    let d : raw / 2 ^ (w - 1) ≡ 1 = omega (arith, le-div 1 raw (2 ^ (w - 1)) p (omega arith), div_below raw (2 ^ (w - 1)) 2 p (omega arith)) in
    let m : (2 ^ (width - w) - 1) * 2 ^ w + raw < 2 ^ width = top (2 ^ w) (2 ^ (width - w)) (2 ^ width) raw parts q h in
    rw (one, d, number_above w raw above)
    (sym (rem_is (2 ^ width) (pos raw -ℤ pos (2 ^ w)) ((2 ^ (width - w) - 1) * 2 ^ w + raw) 1 0 m (omega (arith, ints, top_is (2 ^ w) (2 ^ (width - w)) (2 ^ width) parts q)))))
    (cases_lt raw (2 ^ (w - 1)))
  where
    top_is : (m j v : ℕ) → v ≡ m * j → 0 < j → (j - 1) * m + m ≡ v
    top_is m zero v e g = absurd (omega arith)
    top_is m (suc j) v e g = (let f : suc j - 1 ≡ j = omega arith in rw f (omega arith))

    top : (m j v raw : ℕ) → v ≡ m * j → 0 < j → raw < m → (j - 1) * m + raw < v
    top m j v raw e g h = omega (arith, top_is m j v e g)

pub signed_adds :
    {n0 n1 n2 n3 n4 n5 : Net} {sign negative positive above a r : Wire} (width ones ws : ℕ) → 1 ≤ a.width → a.width < width → ones ≡ 2 ^ (width - a.width) - 1
    → Adds (a ∷ []) n0 n1 sign ws (λ see. see a.signal / 2 ^ (a.width - 1) % 2 ^ (a.width - 1 - (a.width - 1) + 1))
    → Adds [] n1 n2 negative (width - a.width) (λ see. ones)
    → Adds [] n2 n3 positive (width - a.width) (λ see. 0)
    → Adds (sign ∷ negative ∷ positive ∷ []) n3 n4 above negative.width (λ see. cond (eqb (see sign.signal) 0) (see positive.signal) (see negative.signal))
    → Adds (above ∷ a ∷ []) n4 n5 r (above.width + a.width) (λ see. see above.signal * 2 ^ a.width + see a.signal)
    → Adds (a ∷ []) n0 n5 r width (λ see. pattern_of width (number_of true a.width (see a.signal)))
signed_adds {n0} {n1} {n2} {n3} {n4} {n5} {sign} {negative} {positive} {above} {a} {r} width ones ws some l o x1 x2 x3 x4 x5 =
    of_width (above.width + a.width) width (omega (arith, x4.wide, x2.wide))
    (seq x1 y2 (λ w. (w.0, tt)) (λ w up made. (made, (up a w.0, tt)))
    (λ see fit e. ap (λ n. cond (eqb n 0) 0 ones * 2 ^ a.width + see a.signal) e
    ∙ ap (λ n. cond (eqb (see a.signal / 2 ^ (a.width - 1) % 2 ^ (a.width - 1 - (a.width - 1) + 1)) 0) 0 n * 2 ^ a.width + see a.signal) o
    ∙ signed_is a.width width (see a.signal) some l fit.0))
  where
    y4 : Adds (positive ∷ negative ∷ sign ∷ a ∷ []) n3 n5 r (above.width + a.width) (λ see. cond (eqb (see sign.signal) 0) (see positive.signal) (see negative.signal) * 2 ^ a.width + see a.signal)
    y4 = seq x4 x5 (λ w. (w.1.1.0, (w.1.0, (w.0, tt)))) (λ w up made. (made, (up a w.1.1.1.0, tt))) (λ see fit e. ap (λ n. n * 2 ^ a.width + see a.signal) e)

    y3 : Adds (negative ∷ sign ∷ a ∷ []) n2 n5 r (above.width + a.width) (λ see. cond (eqb (see sign.signal) 0) 0 (see negative.signal) * 2 ^ a.width + see a.signal)
    y3 = seq x3 y4 (λ w. tt) (λ w up made. (made, (up negative w.0, (up sign w.1.0, (up a w.1.1.0, tt)))))
        (λ see fit e. ap (λ n. cond (eqb (see sign.signal) 0) n (see negative.signal) * 2 ^ a.width + see a.signal) e)

    y2 : Adds (sign ∷ a ∷ []) n1 n5 r (above.width + a.width) (λ see. cond (eqb (see sign.signal) 0) 0 ones * 2 ^ a.width + see a.signal)
    y2 = seq x2 y3 (λ w. tt) (λ w up made. (made, (up sign w.0, (up a w.1.0, tt))))
        (λ see fit e. ap (λ n. cond (eqb (see sign.signal) 0) 0 n * 2 ^ a.width + see a.signal) e)
