-- Cells that move patterns.
use Rattle.std.proofs.Common.{◌≡◌, ℕ, ◌+◌, ◌-◌, ◌*◌, ◌/◌, ◌%◌, ◌^◌, ◌<◌, ◌≤◌, [], ◌∷◌, Bool, true, false, eqb, cond, arith, refl, ap, sym, ◌∙◌, subst}
use Rattle.std.specs.Prelude.{pos, ◌*ℤ◌}
use Rattle.std.specs.Int.{int_shr}
use Rattle.std.proofs.Math.Nat.{mod-eq_of_lt, mul-mod_left, mul-div_cancel}
use Rattle.std.proofs.lemmas.Nat.{pow_pos, mod-pow-add, mod_below, div_below}
use Rattle.ix_bits.specs.declared.operator.BinOp.TheVariants as binary
use Rattle.ix_bits.specs.Types.{number_of}
use Rattle.ix_bits.specs.Operators.{pattern_of, value_of}
use Rattle.ix_bits.proofs.Operations.{shifted, distance}
use Rattle.ix_net.specs.declared.netlist.Net.{Net}
use Rattle.ix_net.specs.Forms.{bit_of}
use Rattle.ix_cells.specs.declared.signal.Signal.{Signal}
use Rattle.ix_cells.specs.declared.signal.Wire.{Wire}
use Rattle.ix_cells.specs.declared.operand.Operand.{Operand}
use Rattle.ix_cells.specs.declared.shifting.Way.{Way}
use Rattle.ix_cells.specs.declared.shifting.Way.TheVariants.{Up, Down}
use Rattle.ix_cells.specs.Naming.{name_of}
use Rattle.ix_cells.specs.Growth.{Adds}
use Rattle.ix_cells.specs.Moves.{moved}
use Rattle.ix_cells.specs.Operands.{wire_of, shown, two_shown}
use Rattle.ix_cells.proofs.Growing.{of_width, seq, with_value, needing, extends_same}
use Rattle.ix_cells.proofs.KindNumbers.{fit_is}
use Rattle.ix_cells.proofs.Moving.{moved_none, moved_twice, out_up, out_down, out_sign, down_is, stage_is, near_is}

up_is : (x w by : ℕ) → by ≤ w → x % 2 ^ (w - by) * 2 ^ by ≡ x * 2 ^ by % 2 ^ w
up_is x w by l =
    let e : w ≡ w - by + by = omega arith in
    let q : x * 2 ^ by / 2 ^ by ≡ x = mul-div_cancel x (pow_pos by) in
    let z : x * 2 ^ by % 2 ^ by ≡ 0 = mul-mod_left x (2 ^ by) in
    let s = mod-pow-add (x * 2 ^ by) (w - by) by in
    sym (ap (λ n. x * 2 ^ by % 2 ^ n) e ∙ s ∙ rw (q, z) (omega arith))

low_is : (x w by : ℕ) → 1 ≤ by → by < w → x / 2 ^ 0 % 2 ^ (w - 1 - by - 0 + 1) * 2 ^ by + 0 ≡ x * 2 ^ by % 2 ^ w
low_is x w by some l =
    let e : w - 1 - by - 0 + 1 ≡ w - by = omega arith in
    let d : x / 2 ^ 0 ≡ x = omega (arith, div_below x 1 (x + 1) (omega arith) (omega arith)) in
    rw (e, d) (omega (arith, up_is x w by (omega arith)))

-- the low bits above zeros
pub up_adds :
    {n0 n1 n2 n3 : Net} {a low none r : Wire} (by : ℕ) → 1 ≤ by → by < a.width
    → Adds (a ∷ []) n0 n1 low (a.width - 1 - by - 0 + 1) (λ see. see a.signal / 2 ^ 0 % 2 ^ (a.width - 1 - by - 0 + 1)) → Adds [] n1 n2 none by (λ see. 0)
    → Adds (low ∷ none ∷ []) n2 n3 r (low.width + none.width) (λ see. see low.signal * 2 ^ none.width + see none.signal)
    → Adds (a ∷ []) n0 n3 r a.width (λ see. moved Up a.width (see a.signal) by)
up_adds {n0} {n1} {n2} {n3} {a} {low} {none} {r} by some l xa xn xr =
    of_width (low.width + none.width) a.width (omega (arith, xa.wide, xn.wide))
    (seq xa rest (λ h. (h.0, tt)) (λ h up made. (made, tt)) (λ see fit e. ap (λ n. n * 2 ^ by + 0) e ∙ low_is (see a.signal) a.width by some l))
  where
    rest : Adds (low ∷ []) n1 n3 r (low.width + none.width) (λ see. see low.signal * 2 ^ by + 0)
    rest = seq xn xr (λ h. tt) (λ h up made. (up low h.0, (made, tt))) (λ see fit e. ap (λ n. see low.signal * 2 ^ n + see none.signal) xn.wide ∙ ap (λ n. see low.signal * 2 ^ by + n) e)

-- the high bits, extended
pub down_adds :
    {n0 n1 n2 : Net} {a high r : Wire} (s : Bool) (by : ℕ) → by < a.width
    → Adds (a ∷ []) n0 n1 high (a.width - 1 - by + 1) (λ see. see a.signal / 2 ^ by % 2 ^ (a.width - 1 - by + 1))
    → Adds (high ∷ []) n1 n2 r a.width (λ see. pattern_of a.width (number_of s high.width (see high.signal)))
    → Adds (a ∷ []) n0 n2 r a.width (λ see. moved (Down s) a.width (see a.signal) by)
down_adds {a = a} {high = high} s by l xa xr =
    seq xa xr (λ h. h) (λ h up made. (made, tt))
    (λ see fit e. ap (λ v. pattern_of a.width (number_of s v (see high.signal))) xa.wide ∙ ap (λ n. pattern_of a.width (number_of s (a.width - 1 - by + 1) n)) e
    ∙ ap (pattern_of a.width) (down_is s a.width by (see a.signal) l fit.0))

-- nothing is left, or the sign
pub none_up : {n0 n1 : Net} {r : Wire} (a : Wire) → Adds [] n0 n1 r a.width (λ see. 0) → Adds (a ∷ []) n0 n1 r a.width (λ see. moved Up a.width (see a.signal) a.width)
none_up a x = with_value (λ see fit. out_up a.width (see a.signal)) (needing (a ∷ []) x)

pub none_down : {n0 n1 : Net} {r : Wire} (a : Wire) → Adds [] n0 n1 r a.width (λ see. 0) → Adds (a ∷ []) n0 n1 r a.width (λ see. moved (Down false) a.width (see a.signal) a.width)
none_down a x = with_value (λ see fit. out_down a.width (see a.signal) fit.0) (needing (a ∷ []) x)

pub sign_down :
    {n0 n1 : Net} {r : Wire} (a : Wire) → 1 ≤ a.width → Adds (a ∷ []) n0 n1 r a.width (λ see. moved (Down true) a.width (see a.signal) (a.width - 1))
    → Adds (a ∷ []) n0 n1 r a.width (λ see. moved (Down true) a.width (see a.signal) a.width)
sign_down a some x = with_value (λ see fit. out_sign a.width (see a.signal) some fit.0) x

-- one stage of choice
pub stage_adds :
    {n0 n1 n2 n3 : Net} {distance current bit other r : Wire} (way : Way) (p : ℕ) → 1 ≤ current.width
    → Adds (distance ∷ []) n0 n1 bit (p - p + 1) (λ see. see distance.signal / 2 ^ p % 2 ^ (p - p + 1))
    → Adds (current ∷ []) n1 n2 other current.width (λ see. moved way current.width (see current.signal) (2 ^ p))
    → Adds (bit ∷ other ∷ current ∷ []) n2 n3 r other.width (λ see. cond (eqb (see bit.signal) 0) (see current.signal) (see other.signal))
    → Adds (distance ∷ current ∷ []) n0 n3 r current.width (λ see. moved way current.width (see current.signal) (see distance.signal / 2 ^ p % 2 * 2 ^ p))
stage_adds {n0} {n1} {n2} {n3} {distance} {current} {bit} {other} {r} way p some xb xu xr =
    of_width other.width current.width xu.wide
    (seq xb rest (λ h. (h.0, tt)) (λ h lift made. (made, (lift current h.1.0, tt)))
    (λ see fit e. ap (λ n. cond (eqb n 0) (see current.signal) (moved way current.width (see current.signal) (2 ^ p))) e
    ∙ stage_is way (see current.signal) (see distance.signal) current.width p some fit.1.0))
  where
    rest : Adds (bit ∷ current ∷ []) n1 n3 r other.width (λ see. cond (eqb (see bit.signal) 0) (see current.signal) (moved way current.width (see current.signal) (2 ^ p)))
    rest = seq xu xr (λ h. (h.1.0, tt)) (λ h lift made. (lift bit h.0, (made, (lift current h.1.0, tt)))) (λ see fit e. ap (λ n. cond (eqb (see bit.signal) 0) (see current.signal) n) e)

-- what is moved by the low bits of a distance
pub shift_first : (way : Way) (net : Net) (a d : Wire) → 1 ≤ a.width → Adds (a ∷ d ∷ []) net net a a.width (λ see. moved way a.width (see a.signal) (see d.signal % 2 ^ 0))
shift_first way net a d some = record {
  extends = extends_same net;
  same_banks = refl;
  same_outputs = refl;
  wide = refl;
  sound = λ nodes wires. (nodes, wires.0);
  gives = λ value wide nodes wires x.
      (let v = value (name_of a.signal) in
      let y = value (name_of d.signal) in
      let fit : v < 2 ^ a.width = x.fit _ a.width wires.0.has in
      let z : y % 2 ^ 0 ≡ 0 = omega (arith, mod_below y 1 (omega arith)) in
      sym (ap (moved way a.width v) z ∙ moved_none way a.width v some fit));
}

next_is : (y p : ℕ) → y % 2 ^ p + y / 2 ^ p % 2 * 2 ^ p ≡ y % 2 ^ (p + 1)
next_is y p = (let o : p + 1 ≡ 1 + p = omega arith in sym (ap (λ n. y % 2 ^ n) o ∙ mod-pow-add y 1 p ∙ omega arith))

pub shift_next :
    {n0 n1 n2 : Net} {a d current next : Wire} (way : Way) (w p : ℕ) → 1 ≤ w → w ≡ a.width
    → Adds (a ∷ d ∷ []) n0 n1 current w (λ see. moved way w (see a.signal) (see d.signal % 2 ^ p))
    → Adds (d ∷ current ∷ []) n1 n2 next current.width (λ see. moved way current.width (see current.signal) (see d.signal / 2 ^ p % 2 * 2 ^ p))
    → Adds (a ∷ d ∷ []) n0 n2 next w (λ see. moved way w (see a.signal) (see d.signal % 2 ^ (p + 1)))
shift_next {n0} {n1} {n2} {a} {d} {current} {next} way w p some ew xc xn =
    of_width current.width w xc.wide
    (seq xc xn (λ h. h) (λ h up made. (up d h.1.0, (made, tt)))
    (λ see fit e.
    (let by = see d.signal / 2 ^ p % 2 * 2 ^ p in
    let P : ℕ → Type 0 = λ v. see a.signal < 2 ^ v in
    ap (λ v. moved way v (see current.signal) by) xc.wide ∙ ap (λ n. moved way w n by) e
    ∙ moved_twice way w (see a.signal) (see d.signal % 2 ^ p) by some (subst P (sym ew) fit.0)
    ∙ ap (moved way w (see a.signal)) (next_is (see d.signal) p))))

-- all bits of a short distance
pub shift_short :
    {n0 n1 : Net} {a d r : Wire} (way : Way) → Adds (a ∷ d ∷ []) n0 n1 r a.width (λ see. moved way a.width (see a.signal) (see d.signal % 2 ^ d.width))
    → Adds (a ∷ d ∷ []) n0 n1 r a.width (λ see. moved way a.width (see a.signal) (see d.signal))
shift_short {a = a} {d = d} way x = with_value (λ see fit. ap (moved way a.width (see a.signal)) (mod-eq_of_lt fit.1.0)) x

-- whether high bits are 0
pub near_adds :
    {n0 n1 n2 n3 : Net} {d high none r : Wire} (w : ℕ) {f : (Signal → ℕ) → ℕ} → Adds (d ∷ []) n0 n1 high w f → Adds [] n1 n2 none high.width (λ see. 0)
    → Adds (high ∷ none ∷ []) n2 n3 r 1 (λ see. bit_of (eqb (see high.signal) (see none.signal))) → Adds (d ∷ []) n0 n3 r 1 (λ see. bit_of (eqb (f see) 0))
near_adds {n0} {n1} {n2} {n3} {d} {high} {none} {r} w xh xn xr =
    seq xh rest (λ h. h) (λ h up made. (made, tt)) (λ see fit e. ap (λ n. bit_of (eqb n 0)) e)
  where
    rest : Adds (high ∷ []) n1 n3 r 1 (λ see. bit_of (eqb (see high.signal) 0))
    rest = seq xn xr (λ h. tt) (λ h up made. (up high h.0, (made, tt))) (λ see fit e. ap (λ n. bit_of (eqb (see high.signal) n)) e)

-- a distance with more bits than it takes to pass the width
pub shift_far :
    {n0 n1 n2 n3 n4 : Net} {a d current near out r : Wire} (way : Way) (p : ℕ) → 1 ≤ a.width → p < d.width → a.width ≤ 2 ^ p
    → Adds (a ∷ d ∷ []) n0 n1 current a.width (λ see. moved way a.width (see a.signal) (see d.signal % 2 ^ p))
    → Adds (d ∷ []) n1 n2 near 1 (λ see. bit_of (eqb (see d.signal / 2 ^ p % 2 ^ (d.width - 1 - p + 1)) 0))
    → Adds (a ∷ []) n2 n3 out a.width (λ see. moved way a.width (see a.signal) a.width)
    → Adds (near ∷ current ∷ out ∷ []) n3 n4 r current.width (λ see. cond (eqb (see near.signal) 0) (see out.signal) (see current.signal))
    → Adds (a ∷ d ∷ []) n0 n4 r a.width (λ see. moved way a.width (see a.signal) (see d.signal))
shift_far {n0} {n1} {n2} {n3} {n4} {a} {d} {current} {near} {out} {r} way p some l far xc xn xo xr =
    of_width current.width a.width xc.wide
    (seq xc y1 (λ h. h) (λ h up made. (made, (up a h.0, (up d h.1.0, tt))))
    (λ see fit e. ap (λ n. cond (eqb (bit_of (eqb (see d.signal / 2 ^ p % 2 ^ (d.width - 1 - p + 1)) 0)) 0) (moved way a.width (see a.signal) a.width) n) e
    ∙ near_is way a.width (see a.signal) (see d.signal) p d.width some fit.0 fit.1.0 l far))
  where
    y2 : Adds (near ∷ current ∷ a ∷ []) n2 n4 r current.width (λ see. cond (eqb (see near.signal) 0) (moved way a.width (see a.signal) a.width) (see current.signal))
    y2 = seq xo xr (λ h. (h.1.1.0, tt)) (λ h up made. (up near h.0, (up current h.1.0, (made, tt)))) (λ see fit e. ap (λ n. cond (eqb (see near.signal) 0) n (see current.signal)) e)

    y1 : Adds (current ∷ a ∷ d ∷ []) n1 n4 r current.width
        (λ see. cond (eqb (bit_of (eqb (see d.signal / 2 ^ p % 2 ^ (d.width - 1 - p + 1)) 0)) 0) (moved way a.width (see a.signal) a.width) (see current.signal))
    y1 = seq xn y2 (λ h. (h.1.1.0, tt)) (λ h up made. (made, (up current h.0, (up a h.1.0, tt))))
        (λ see fit e. ap (λ n. cond (eqb n 0) (moved way a.width (see a.signal) a.width) (see current.signal)) e)

pub shl_kind :
    (a b : Operand) {n0 n1 : Net} {r : Wire} → b.ty.signed ≡ false → Adds (wire_of a ∷ wire_of b ∷ []) n0 n1 r a.ty.width (λ see. moved Up a.ty.width (see a.signal) (see b.signal))
    → Adds (wire_of a ∷ wire_of b ∷ []) n0 n1 r a.ty.width (two_shown binary.Shl a b a.ty.width)
shl_kind a b s x =
    with_value
    (λ see fit.
    (let k = see b.signal in
    shifted a.ty.signed a.ty.width (see a.signal) k a.ty.some_width fit.0 ∙ fit_is a.ty (shown a see *ℤ pos (2 ^ k))
    ∙ ap (λ n. pattern_of a.ty.width (value_of a.ty (pattern_of a.ty.width (shown a see *ℤ pos (2 ^ n))))) (sym (distance b.ty.signed b.ty.width k s)))) x

pub shr_kind :
    (a b : Operand) {n0 n1 : Net} {r : Wire} → b.ty.signed ≡ false → Adds (wire_of a ∷ wire_of b ∷ []) n0 n1 r a.ty.width (λ see. moved (Down a.ty.signed) a.ty.width (see a.signal) (see b.signal))
    → Adds (wire_of a ∷ wire_of b ∷ []) n0 n1 r a.ty.width (two_shown binary.Shr a b a.ty.width)
shr_kind a b s x =
    with_value (λ see fit. ap (λ n. pattern_of a.ty.width (int_shr (shown a see) n)) (sym (distance b.ty.signed b.ty.width (see b.signal) s))) x
