-- Values of head expressions: types with their numbers.
use Rattle.std.proofs.Common.{◌≡◌, ℕ, suc, ◌+◌, ◌-◌, ◌^◌, ◌<◌, ◌≤◌, cond, if◌then◌else◌, ◌&&◌, ⊎_elim, Bool, true, false, Option, Some, None, refl, ap, sym, ◌∙◌, arith, ℤ, pos, negsuc, ◌-ℤ◌}
use Rattle.std.specs.Prelude.{nat_lt, nat_le, int_lt, FitsSigned}
use Rattle.std.proofs.lemmas.Int.{ints, to_z_pos, to_z-of_z}
use Rattle.std.specs.Int.{cast_unsigned, cast_signed, w32}
use Rattle.std.proofs.lemmas.Bool.{le-leb, lt-leb, lt-ltb, le-ltb, ltb-true, cases_lt}
use Rattle.ix_bits.proofs.Patterns.{number_below, number_above}
use Rattle.ix_unroll.specs.Values.{in_int, place_of}
use Rattle.ix_bits.specs.declared.number.Ty.{Ty}
use Rattle.ix_bits.specs.declared.operator.BinOp.{BinOp}
use Rattle.ix_bits.specs.declared.operator.UnOp.{UnOp}
use Rattle.ix_bits.specs.Types.{HoldsNumber, IsFit, number_of}
use Rattle.ix_bits.specs.ResultTypes.{Embeds, binary_signed, binary_width, unary_signed, unary_width, widest, common_signed, common_width}
use Rattle.ix_bits.specs.Operators.{value_of, binary_number, unary_number, is_true, pattern_of, bits_between}
use Rattle.ix_bits.proofs.Unique.{fit_is_the_one}
use Rattle.ix_types.specs.Results.{IsBinaryType, IsUnaryType, IsCommon}
use Rattle.ix_bits.specs.NearTypes.{int_type}
use Rattle.ix_tree.specs.LoopHeads.{Valued, unary_value, binary_value, choice_value, bits_at, is_int}
use Rattle.ix_bits.proofs.Same.{type_with_is}

pub unary_is : (op : UnOp) (a ty : Ty) (n : ℤ) (w raw : ℕ) → IsUnaryType op a ty → w ≡ unary_width op a → number_of (unary_signed op a) w raw ≡ unary_number op a n
    → Some (let v : Valued = record { ty = ty; number = value_of ty raw } in v) ≡ unary_value op (Some (record { ty = a; number = n }))
unary_is op a ty n w raw t f g =
    rw (type_with_is ty (unary_signed op a) (unary_width op a) t.signed t.width, ← g, f, ← t.signed, ← t.width) refl

pub binary_is : (op : BinOp) (a b ty : Ty) (n m : ℤ) (w raw : ℕ) → IsBinaryType op a b ty → w ≡ binary_width op a b → number_of (binary_signed op a b) w raw ≡ binary_number op a n b m
    → Some (let v : Valued = record { ty = ty; number = value_of ty raw } in v) ≡ binary_value op (Some (record { ty = a; number = n })) (Some (record { ty = b; number = m }))
binary_is op a b ty n m w raw t f g =
    let l : nat_lt 128 (widest op a b) ≡ false = le-ltb 128 (widest op a b) t.exists.narrow in
    rw (t.exists.unmixed, l, type_with_is ty (binary_signed op a b) (binary_width op a b) t.signed t.width, ← g, f, ← t.signed, ← t.width) refl

pub embedded_is : (a ty : Ty) (n m : ℤ) → Embeds a ty → HoldsNumber a n → IsFit ty n m → m ≡ n
embedded_is a ty n m e h f =
    let one = fit_is_the_one ty n in
    one.only m f ∙ sym (one.only n (record { holds = e n h; congruent = (pos 0, omega (arith, ints)) }))

pub chosen_is : (c x y : Valued) (ty : Ty) (n : ℤ) → IsCommon x.ty y.ty ty → cond (is_true c.number) x.number y.number ≡ n
    → Some (let v : Valued = record { ty = ty; number = n } in v) ≡ choice_value (Some c) (Some x) (Some y)
chosen_is c x y ty n t g = rw (type_with_is ty (common_signed x.ty y.ty) (common_width x.ty y.ty) t.signed t.width, g) refl

-- ---- signs
pub negative_is : (s : Bool) (w raw : ℕ) → 1 ≤ w → raw < 2 ^ w → int_lt (number_of s w raw) (pos 0) ≡ true → number_of s w raw ≡ negsuc (2 ^ w - 1 - raw)
negative_is false w raw h g e = absurd (omega (arith, ints))
negative_is true w raw h g e =
    ⊎_elim
    (λ (below : raw < 2 ^ (w - 1)). let f = rw (number_below w raw below) at e in absurd (omega (arith, ints, f)))
    (λ (above : 2 ^ (w - 1) ≤ raw). number_above w raw above ∙ omega (arith, ints))
    (cases_lt raw (2 ^ (w - 1)))

pub positive_is : (s : Bool) (w raw : ℕ) → 1 ≤ w → raw < 2 ^ w → int_lt (number_of s w raw) (pos 0) ≡ false → number_of s w raw ≡ pos raw
positive_is false w raw h g e = refl
positive_is true w raw h g e =
    ⊎_elim
    (λ (below : raw < 2 ^ (w - 1)). number_below w raw below)
    (λ (above : 2 ^ (w - 1) ≤ raw). let f = rw (number_above w raw above) at e in absurd (omega (arith, ints, f)))
    (cases_lt raw (2 ^ (w - 1)))

-- ---- numbers of the type `int`
pub in_int_up : (n : ℤ) (b : ℕ) → n ≡ pos b → in_int n ≡ cond (nat_lt b 2147483648) (Some n) None
in_int_up n b e = rw e refl

is_int_down : (b : ℕ) → is_int (negsuc b) ≡ nat_lt b 2147483648
is_int_down b =
    ⊎_elim
    (λ (below : b < 2147483648). rw (le-leb b 2147483647 (omega arith), lt-ltb b 2147483648 below) refl)
    (λ (above : 2147483648 ≤ b). rw (lt-leb b 2147483647 (omega arith), le-ltb b 2147483648 above) refl)
    (cases_lt b 2147483648)

pub in_int_down : (n : ℤ) (b : ℕ) → n ≡ negsuc b → in_int n ≡ cond (nat_lt b 2147483648) (Some n) None
in_int_down n b e = rw e (ap (λ (t : Bool). cond t (Some (negsuc b)) None) (is_int_down b))

pub int_is : (z : ℤ) → FitsSigned w32 z → value_of int_type (cast_unsigned w32 z) ≡ z
int_is (pos a) h = let l : a < 2147483648 = h.sfits in rw (lt-ltb a 2147483648 l) refl
int_is (negsuc a) h =
    let l : a < 2147483648 = h.sfits in
    rw (le-ltb (4294967296 - suc a) 2147483648 (omega arith)) (omega (arith, ints))

-- ---- places of bits
place_chosen : (a k : ℕ) (t : Bool) → nat_lt a 128 ≡ t → cond t (Some a) None ≡ Some k → (pos a ≡ pos k) × (k < 128)
place_chosen a k false h e = cc
place_chosen a k true h e = let f : a ≡ k = cc in (ap pos f, omega (arith, ltb-true a 128 h))

pub place_is : (n : ℤ) (k : ℕ) → place_of n ≡ Some k → (n ≡ pos k) × (k < 128)
place_is (pos a) k e = place_chosen a k (nat_lt a 128) refl (rw (le-leb 0 a (omega arith)) at e)
place_is (negsuc a) k e = cc

none_if : (p q r : Bool) (v : Option Valued) → q ≡ false → None ≡ (if p && q && r then v else None)
none_if true q r v e = rw e refl
none_if false q r v e = refl

none_last : (p q r : Bool) (v : Option Valued) → r ≡ false → None ≡ (if p && q && r then v else None)
none_last true true r v e = rw e refl
none_last true false r v e = refl
none_last false q r v e = refl

far : (a : ℕ) → None ≡ place_of (pos a) → 128 ≤ a
far a e =
    ⊎_elim
    (λ (below : a < 128). absurd (let f = rw (le-leb 0 a (omega arith), lt-ltb a 128 below) at e in cc))
    (λ (above : 128 ≤ a). above)
    (cases_lt a 128)

-- no bits are from a place that is none
pub no_high : (x : Valued) (h l : ℤ) → None ≡ place_of h → None ≡ bits_at x h l
no_high x (pos a) (pos b) e =
    let above : 128 ≤ a = far a e in
    none_last (nat_le 0 b) (nat_le b a) (nat_lt a x.ty.width) _ (le-ltb a x.ty.width (omega (arith, x.ty.most_width)))
no_high x (pos a) (negsuc b) e = refl
no_high x (negsuc a) (pos b) e = none_if (nat_le 0 b) false _ _ refl
no_high x (negsuc a) (negsuc b) e = refl

pub no_low : (x : Valued) (h l : ℤ) → None ≡ place_of l → None ≡ bits_at x h l
no_low x (pos a) (pos b) e =
    let above : 128 ≤ b = far b e in
    ⊎_elim
    (λ (below : a < b). none_if (nat_le 0 b) (nat_le b a) _ _ (lt-leb b a below))
    (λ (over : b ≤ a). none_last (nat_le 0 b) (nat_le b a) (nat_lt a x.ty.width) _ (le-ltb a x.ty.width (omega (arith, x.ty.most_width))))
    (cases_lt a b)
no_low x (negsuc a) (pos b) e = none_if (nat_le 0 b) false _ _ refl
no_low x (pos a) (negsuc b) e = refl
no_low x (negsuc a) (negsuc b) e = refl

-- ---- the parts of `value`
pub valued_same : (t u : Ty) (n m : ℤ) → t ≡ u → n ≡ m
    → let v : Valued = record { ty = t; number = n } in
    let w : Valued = record { ty = u; number = m } in
    v ≡ w
valued_same t u n m e f = rw (e, f) refl

pub down_fits : (n : ℤ) (p raw q : ℕ) → n ≡ negsuc (p - 1 - raw) → q ≡ p - 1 → q - raw < 2147483648
    → Some (cast_signed w32 (cast_unsigned w32 (negsuc 0 -ℤ cast_signed w32 (q - raw)))) ≡ in_int n
down_fits n p raw q e f l =
    let b : q - raw ≡ p - 1 - raw = omega arith in
    let m : p - 1 - raw < 2147483648 = omega arith in
    let d : negsuc 0 -ℤ pos (p - 1 - raw) ≡ negsuc (p - 1 - raw) = omega (arith, ints) in
    rw (b, to_z_pos w32 (p - 1 - raw) m, d, to_z-of_z w32 (negsuc (p - 1 - raw)) (record { sfits = m }), in_int_down n (p - 1 - raw) e, lt-ltb (p - 1 - raw) 2147483648 m, e) refl

pub down_leaves : (n : ℤ) (p raw q : ℕ) → n ≡ negsuc (p - 1 - raw) → q ≡ p - 1 → 2147483648 ≤ q - raw → None ≡ in_int n
down_leaves n p raw q e f l =
    let m : 2147483648 ≤ p - 1 - raw = omega arith in
    rw (in_int_down n (p - 1 - raw) e, le-ltb (p - 1 - raw) 2147483648 m) refl

pub bits_are_at : (x : Valued) (hn ln : ℤ) (h l : ℕ) (ty : Ty) (raw r : ℕ) → hn ≡ pos h → ln ≡ pos l → l ≤ h → h < x.ty.width → ty.signed ≡ false → ty.width ≡ h - l + 1
    → pattern_of x.ty.width x.number ≡ raw → r ≡ bits_between raw h l
    → Some (let v : Valued = record { ty = ty; number = value_of ty r } in v) ≡ bits_at x hn ln
bits_are_at x hn ln h l ty raw r e f le lt s w p b =
    rw (e, f, le-leb 0 l (omega arith), le-leb l h le, lt-ltb h x.ty.width lt, type_with_is ty false (h - l + 1) s w, s, b, p) refl
