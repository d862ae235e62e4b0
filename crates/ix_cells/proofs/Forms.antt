-- What a cell of each form adds.
use Rattle.std.proofs.Common.{◌≡◌, ℕ, ◌+◌, ◌-◌, ◌*◌, ◌/◌, ◌%◌, ◌^◌, ◌<◌, ◌≤◌, List, [], ◌∷◌, Result, Ok, Err, IfOk, length, eqb, cond, arith, refl, ap, sym, ◌∙◌, subst, bit_and, bit_or, bit_xor, nat_lt}
use Rattle.ix_bits.specs.declared.number.Bits.{Bits}
use Rattle.ix_net.specs.declared.netlist.Net.{Net}
use Rattle.ix_net.specs.declared.netlist.Form.TheVariants.{Hex, Add, Sub, Mul, And, Or, Xor, Not, Eq, Lt, LtSigned, Join, Range, Choose}
use Rattle.ix_net.specs.Forms.{bit_of, signed_lt}
use Rattle.ix_cells.specs.declared.signal.Wire.{Wire}
use Rattle.ix_cells.specs.Naming.{name_of}
use Rattle.ix_cells.specs.Growth.{IsWire, Reach, Adds, IsPushed}
use Rattle.ix_cells.proofs.Growing.{push_adds}

pub if_ok : {T E : Type 0} (r : Result T E) (P Q : T → Type 0) → ((x : T) → P x → Q x) → IfOk r P → IfOk r Q
if_ok (Ok x) P Q f h = f x h
if_ok (Err e) P Q f h = h

-- a wire as an operand of the next cell, by its name
pub reach : {net : Net} (w : Wire) (n : List ℕ) (v : ℕ) → n ≡ name_of w.signal → v ≡ w.width → IsWire net w → Reach net (length net.cells) n v
reach {net} w n v e f h =
    let A : ℕ → Type 0 = λ x. Reach net (length net.cells) n x in
    let B : List ℕ → Type 0 = λ x. Reach net (length net.cells) x w.width in
    let r : Reach net (length net.cells) (name_of w.signal) w.width = record { signal = w.signal; named = refl; bounded = h.bounded; known = h.known; has = h.has } in
    subst A (sym f) (subst B (sym e) r)

pub hex_adds : (old new : Net) (r : Wire) (d : Bits) → IsPushed old new r d.width (Hex d) → Adds [] old new r d.width (λ see. d.raw)
hex_adds old new r d p =
    push_adds [] old new r d.width (Hex d) (λ see. d.raw) p (λ wires. record { some = d.some_width; most = d.most_width }) (λ wires. refl) (λ value wide wires x. refl)

module _ (old new : Net) (r a b : Wire) (left right : List ℕ) (el : left ≡ name_of a.signal) (er : right ≡ name_of b.signal) where
  pub add_adds : b.width ≡ a.width → IsPushed old new r a.width (Add left right) → Adds (a ∷ b ∷ []) old new r a.width (λ see. (see a.signal + see b.signal) % 2 ^ a.width)
  add_adds e p =
      push_adds (a ∷ b ∷ []) old new r a.width (Add left right) (λ see. (see a.signal + see b.signal) % 2 ^ a.width) p (λ wires. wires.0.wide)
      (λ wires. (reach a left a.width el refl wires.0, reach b right a.width er (sym e) wires.1.0)) (λ value wide wires x. cc)

  pub sub_adds : b.width ≡ a.width → IsPushed old new r a.width (Sub left right) → Adds (a ∷ b ∷ []) old new r a.width (λ see. (see a.signal + (2 ^ a.width - see b.signal)) % 2 ^ a.width)
  sub_adds e p =
      push_adds (a ∷ b ∷ []) old new r a.width (Sub left right) (λ see. (see a.signal + (2 ^ a.width - see b.signal)) % 2 ^ a.width) p (λ wires. wires.0.wide)
      (λ wires. (reach a left a.width el refl wires.0, reach b right a.width er (sym e) wires.1.0)) (λ value wide wires x. cc)

  pub mul_adds : b.width ≡ a.width → IsPushed old new r a.width (Mul left right) → Adds (a ∷ b ∷ []) old new r a.width (λ see. (see a.signal * see b.signal) % 2 ^ a.width)
  mul_adds e p =
      push_adds (a ∷ b ∷ []) old new r a.width (Mul left right) (λ see. (see a.signal * see b.signal) % 2 ^ a.width) p (λ wires. wires.0.wide)
      (λ wires. (reach a left a.width el refl wires.0, reach b right a.width er (sym e) wires.1.0)) (λ value wide wires x. cc)

  pub and_adds : b.width ≡ a.width → IsPushed old new r a.width (And left right) → Adds (a ∷ b ∷ []) old new r a.width (λ see. bit_and (see a.signal) (see b.signal))
  and_adds e p =
      push_adds (a ∷ b ∷ []) old new r a.width (And left right) (λ see. bit_and (see a.signal) (see b.signal)) p (λ wires. wires.0.wide)
      (λ wires. (reach a left a.width el refl wires.0, reach b right a.width er (sym e) wires.1.0)) (λ value wide wires x. cc)

  pub or_adds : b.width ≡ a.width → IsPushed old new r a.width (Or left right) → Adds (a ∷ b ∷ []) old new r a.width (λ see. bit_or (see a.signal) (see b.signal))
  or_adds e p =
      push_adds (a ∷ b ∷ []) old new r a.width (Or left right) (λ see. bit_or (see a.signal) (see b.signal)) p (λ wires. wires.0.wide)
      (λ wires. (reach a left a.width el refl wires.0, reach b right a.width er (sym e) wires.1.0)) (λ value wide wires x. cc)

  pub xor_adds : b.width ≡ a.width → IsPushed old new r a.width (Xor left right) → Adds (a ∷ b ∷ []) old new r a.width (λ see. bit_xor (see a.signal) (see b.signal))
  xor_adds e p =
      push_adds (a ∷ b ∷ []) old new r a.width (Xor left right) (λ see. bit_xor (see a.signal) (see b.signal)) p (λ wires. wires.0.wide)
      (λ wires. (reach a left a.width el refl wires.0, reach b right a.width er (sym e) wires.1.0)) (λ value wide wires x. cc)

  pub join_adds :
      (w : ℕ) → w ≡ a.width + b.width → w ≤ 128 → IsPushed old new r w (Join left right)
      → Adds (a ∷ b ∷ []) old new r w (λ see. see a.signal * 2 ^ b.width + see b.signal)
  join_adds w e m p =
      push_adds (a ∷ b ∷ []) old new r w (Join left right) (λ see. see a.signal * 2 ^ b.width + see b.signal) p
      (λ wires. record { some = omega (arith, wires.0.wide.some); most = m })
      (λ wires. (a.width, b.width, reach a left a.width el refl wires.0, reach b right b.width er refl wires.1.0, e))
      (λ value wide wires x. (let v : wide right ≡ b.width = ap wide er ∙ x.wide (name_of b.signal) b.width wires.1.0.has in cc))

  pub eq_adds : b.width ≡ a.width → IsPushed old new r 1 (Eq left right) → Adds (a ∷ b ∷ []) old new r 1 (λ see. bit_of (eqb (see a.signal) (see b.signal)))
  eq_adds e p =
      push_adds (a ∷ b ∷ []) old new r 1 (Eq left right) (λ see. bit_of (eqb (see a.signal) (see b.signal))) p (λ wires. record { some = omega arith; most = omega arith })
      (λ wires. (refl, (a.width, reach a left a.width el refl wires.0, reach b right a.width er (sym e) wires.1.0))) (λ value wide wires x. cc)

  pub lt_adds : b.width ≡ a.width → IsPushed old new r 1 (Lt left right) → Adds (a ∷ b ∷ []) old new r 1 (λ see. bit_of (nat_lt (see a.signal) (see b.signal)))
  lt_adds e p =
      push_adds (a ∷ b ∷ []) old new r 1 (Lt left right) (λ see. bit_of (nat_lt (see a.signal) (see b.signal))) p (λ wires. record { some = omega arith; most = omega arith })
      (λ wires. (refl, (a.width, reach a left a.width el refl wires.0, reach b right a.width er (sym e) wires.1.0))) (λ value wide wires x. cc)

  pub lt_signed_adds : b.width ≡ a.width → IsPushed old new r 1 (LtSigned left right) → Adds (a ∷ b ∷ []) old new r 1 (λ see. bit_of (signed_lt a.width (see a.signal) (see b.signal)))
  lt_signed_adds e p =
      push_adds (a ∷ b ∷ []) old new r 1 (LtSigned left right) (λ see. bit_of (signed_lt a.width (see a.signal) (see b.signal))) p (λ wires. record { some = omega arith; most = omega arith })
      (λ wires. (refl, (a.width, reach a left a.width el refl wires.0, reach b right a.width er (sym e) wires.1.0)))
      (λ value wide wires x. (let v : wide left ≡ a.width = ap wide el ∙ x.wide (name_of a.signal) a.width wires.0.has in
      ap (λ n. bit_of (signed_lt n (value left) (value right))) v ∙ ap (λ n. bit_of (signed_lt a.width (value n) (value right))) el ∙ ap (λ n. bit_of (signed_lt a.width (value (name_of a.signal)) (value n))) er))

pub not_adds : (old new : Net) (r a : Wire) (left : List ℕ) → left ≡ name_of a.signal → IsPushed old new r a.width (Not left) → Adds (a ∷ []) old new r a.width (λ see. 2 ^ a.width - 1 - see a.signal)
not_adds old new r a left el p =
    push_adds (a ∷ []) old new r a.width (Not left) (λ see. 2 ^ a.width - 1 - see a.signal) p (λ wires. wires.0.wide)
    (λ wires. reach a left a.width el refl wires.0) (λ value wide wires x. cc)

pub range_adds :
    (old new : Net) (r a : Wire) (left : List ℕ) (hi lo w : ℕ) → left ≡ name_of a.signal → lo ≤ hi → hi < a.width → w ≡ hi - lo + 1 → IsPushed old new r w (Range left hi lo)
    → Adds (a ∷ []) old new r w (λ see. see a.signal / 2 ^ lo % 2 ^ (hi - lo + 1))
range_adds old new r a left hi lo w el l h e p =
    push_adds (a ∷ []) old new r w (Range left hi lo) (λ see. see a.signal / 2 ^ lo % 2 ^ (hi - lo + 1)) p
    (λ wires. record { some = omega arith; most = omega (arith, wires.0.wide.most) })
    (λ wires. (a.width, reach a left a.width el refl wires.0, l, h, e)) (λ value wide wires x. cc)

pub choose_adds :
    (old new : Net) (r s a b : Wire) (test left right : List ℕ) → test ≡ name_of s.signal → left ≡ name_of a.signal → right ≡ name_of b.signal
    → s.width ≡ 1 → b.width ≡ a.width → IsPushed old new r a.width (Choose test left right)
    → Adds (s ∷ a ∷ b ∷ []) old new r a.width (λ see. cond (eqb (see s.signal) 0) (see b.signal) (see a.signal))
choose_adds old new r s a b test left right es el er one e p =
    push_adds (s ∷ a ∷ b ∷ []) old new r a.width (Choose test left right) (λ see. cond (eqb (see s.signal) 0) (see b.signal) (see a.signal)) p (λ wires. wires.1.0.wide)
    (λ wires. (reach s test 1 es (sym one) wires.0, reach a left a.width el refl wires.1.0, reach b right a.width er (sym e) wires.1.1.0)) (λ value wide wires x. cc)
