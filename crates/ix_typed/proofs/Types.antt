-- Types of expressions: the rule, and what is judged.
use Rattle.std.proofs.Common.{◌≡◌, sym, ap, refl, arith, ℕ, zero, suc, ◌≤◌, ◌+◌, ◌-◌, pos, int_lt, int_le, unsigned_abs, Option, Some, None, Bool, true, false, ◌&&◌, Ok}
use Rattle.std.specs.Prelude.{nat_lt, nat_eq}
use Rattle.std.proofs.lemmas.Bool.{ltb-false, le-ltb, eqb-true, false≢true}
use Rattle.ix_bits.specs.declared.number.Ty.{Ty}
use Rattle.ix_bits.specs.declared.operator.BinOp.{BinOp}
use Rattle.ix_bits.specs.declared.operator.UnOp.{UnOp}
use Rattle.ix_bits.specs.NearTypes.{type_near, int_type}
use Rattle.ix_bits.specs.ResultTypes.{is_mixed, widest, binary_signed, binary_width, unary_signed, unary_width, common_signed, common_width}
use Rattle.ix_tree.specs.declared.token.Span.{Span}
use Rattle.ix_tree.specs.declared.expr.TypeKind.{TypeKind}
use Rattle.ix_tree.specs.declared.expr.TypeKind.TheVariants as K
use Rattle.ix_tree.specs.LoopHeads.{Valued}
use Rattle.ix_typing.specs.declared.role.Role.{Role}
use Rattle.ix_typing.specs.declared.role.Role.TheVariants as R
use Rattle.ix_typing.specs.declared.state.State.{State}
use Rattle.ix_typing.specs.declared.targets.Target.TheVariants as T
use Rattle.ix_typing.specs.Names.{is_among}
use Rattle.ix_typing.specs.Expressions.{sized, written, unary_type, binary_type, common_type, type_of_role, bits_type, loaded_range, embeds, u32}
use Rattle.ix_typed.specs.Expressions.{IsWritten, HasUnary, HasBinary, HasCommon, IsRead, AreBits, IsLoaded}
use Rattle.ix_typed.proofs.Parts.{past, on_test, on_hold, got}

some_bits : (w : ℕ) → nat_eq w 0 ≡ false → 1 ≤ w
some_bits zero e = absurd (false≢true (sym e))
some_bits (suc n) e = omega arith

no_zero : (w : ℕ) → 1 ≤ w → nat_eq w 0 ≡ false
no_zero w h = decided (nat_eq w 0) refl
  where
    decided : (c : Bool) → nat_eq w 0 ≡ c → nat_eq w 0 ≡ false
    decided true e = let none : ⊥ = omega (arith, h, eqb-true w 0 e) in absurd none
    decided false e = e

sized_is : (s : Span) (signed : Bool) (w : ℕ) (ty : Ty) → w ≤ 128 → 1 ≤ w → ty ≡ type_near signed w → sized s signed w ≡ Ok ty
sized_is s signed w ty a b e = past _ _ _ _ (le-ltb 128 w a) (past _ _ _ _ (no_zero w b) (ap (λ (z : Ty). Ok z) (sym e)))

of_sized : (s : Span) (signed : Bool) (w : ℕ) (ty : Ty) → sized s signed w ≡ Ok ty → (w ≤ 128) × (1 ≤ w) × (ty ≡ type_near signed w)
of_sized s signed w ty e =
    on_test (nat_lt 128 w) _ _ ty _ (λ a f. on_test (nat_eq w 0) _ _ ty _ (λ b h.
    (ltb-false 128 w a, some_bits w b, got (λ (z : Ty). z ≡ type_near signed w) (type_near signed w) ty h refl)) f) e

pub written_is : (s : Span) (k : TypeKind) (ty : Ty) → IsWritten k ty → written s k ≡ Ok ty
written_is s (K.Signed w) ty h = sized_is s true w ty h.0 h.1 h.2
written_is s (K.Unsigned w) ty h = sized_is s false w ty h.0 h.1 h.2
written_is s K.Int ty h = ap (λ (z : Ty). Ok z) (sym h)
written_is s K.Bool ty h = ap (λ (z : Ty). Ok z) (sym h)

pub is_written : (s : Span) (k : TypeKind) (ty : Ty) → written s k ≡ Ok ty → IsWritten k ty
is_written s (K.Signed w) ty e = of_sized s true w ty e
is_written s (K.Unsigned w) ty e = of_sized s false w ty e
is_written s K.Int ty e = got (λ (z : Ty). z ≡ int_type) int_type ty e refl
is_written s K.Bool ty e = got (λ (z : Ty). z ≡ type_near false 1) (type_near false 1) ty e refl

pub unary_is : (s : Span) (op : UnOp) (a ty : Ty) → HasUnary op a ty → unary_type s op a ≡ Ok ty
unary_is s op a ty h = past _ _ _ _ (le-ltb 128 (unary_width op a) h.0) (ap (λ (z : Ty). Ok z) (sym h.1))

pub is_unary : (s : Span) (op : UnOp) (a ty : Ty) → unary_type s op a ≡ Ok ty → HasUnary op a ty
is_unary s op a ty e =
    let t = type_near (unary_signed op a) (unary_width op a) in
    on_test (nat_lt 128 (unary_width op a)) _ _ ty _ (λ h f. (ltb-false 128 (unary_width op a) h, got (λ (z : Ty). z ≡ t) t ty f refl)) e

pub binary_is : (s : Span) (op : BinOp) (a b ty : Ty) → HasBinary op a b ty → binary_type s op a b ≡ Ok ty
binary_is s op a b ty h = past _ _ _ _ (le-ltb 128 (widest op a b) h.0) (past _ _ _ _ h.1 (ap (λ (z : Ty). Ok z) (sym h.2)))

pub is_binary : (s : Span) (op : BinOp) (a b ty : Ty) → binary_type s op a b ≡ Ok ty → HasBinary op a b ty
is_binary s op a b ty e =
    let t = type_near (binary_signed op a b) (binary_width op a b) in
    on_test (nat_lt 128 (widest op a b)) _ _ ty _ (λ h f. on_test (is_mixed op a b) _ _ ty _ (λ k m.
    (ltb-false 128 (widest op a b) h, k, got (λ (z : Ty). z ≡ t) t ty m refl)) f) e

pub common_is : (s : Span) (a b ty : Ty) → HasCommon a b ty → common_type s a b ≡ Ok ty
common_is s a b ty h = past _ _ _ _ (le-ltb 128 (common_width a b) h.0) (ap (λ (z : Ty). Ok z) (sym h.1))

pub is_common : (s : Span) (a b ty : Ty) → common_type s a b ≡ Ok ty → HasCommon a b ty
is_common s a b ty e =
    let t = type_near (common_signed a b) (common_width a b) in
    on_test (nat_lt 128 (common_width a b)) _ _ ty _ (λ h f. (ltb-false 128 (common_width a b) h, got (λ (z : Ty). z ≡ t) t ty f refl)) e

-- ---- names
pub read_is : (st : State) (s : Span) (o : Option Role) (ty : Ty) → IsRead st o ty → type_of_role st s o ≡ Ok ty
read_is st s None ty h = absurd h
read_is st s (Some (R.Table k shape)) ty h = absurd h
read_is st s (Some (R.Field f)) ty h = ap (λ (z : Ty). Ok z) (sym h)
read_is st s (Some (R.Local t)) ty h = ap (λ (z : Ty). Ok z) (sym h)
read_is st s (Some (R.Register k t)) ty h = past _ _ _ _ h.0 (ap (λ (z : Ty). Ok z) (sym h.1))

pub is_read : (st : State) (s : Span) (o : Option Role) (ty : Ty) → type_of_role st s o ≡ Ok ty → IsRead st o ty
is_read st s None ty e = cc
is_read st s (Some (R.Table k shape)) ty e = cc
is_read st s (Some (R.Field f)) ty e = got (λ (z : Ty). z ≡ f.ty) f.ty ty e refl
is_read st s (Some (R.Local t)) ty e = got (λ (z : Ty). z ≡ t) t ty e refl
is_read st s (Some (R.Register k t)) ty e = on_test (is_among st.written (T.Register k)) _ _ ty _ (λ h f. (h, got (λ (z : Ty). z ≡ t) t ty f refl)) e

-- ---- bits and loads
all_three : (a b c : Bool) → (a && b && c) ≡ true → (a ≡ true) × (b ≡ true) × (c ≡ true)
all_three true true true e = (refl, refl, refl)
all_three false b c e = absurd (false≢true e)
all_three true false c e = absurd (false≢true e)
all_three true true false e = absurd (false≢true e)

pub bits_are : (s : Span) (base : Ty) (h l : Option Valued) (ty : Ty) → AreBits base h l ty → bits_type s base h l ≡ Ok ty
bits_are s base None l ty w = absurd w
bits_are s base (Some h) None ty w = absurd w
bits_are s base (Some h) (Some l) ty w = rw (w.0, w.1, w.2) (ap (λ (z : Ty). Ok z) (sym w.3))

pub are_bits : (s : Span) (base : Ty) (h l : Option Valued) (ty : Ty) → bits_type s base h l ≡ Ok ty → AreBits base h l ty
are_bits s base None None ty e = cc
are_bits s base None (Some l) ty e = cc
are_bits s base (Some h) None ty e = cc
are_bits s base (Some h) (Some l) ty e =
    let t = type_near false (unsigned_abs h.number - unsigned_abs l.number + 1) in
    on_hold (int_le (pos 0) l.number && int_le l.number h.number && int_lt h.number (pos base.width)) _ _ ty _ (λ w f.
    let all = all_three (int_le (pos 0) l.number) (int_le l.number h.number) (int_lt h.number (pos base.width)) w in
    (all.0, all.1, all.2, got (λ (z : Ty). z ≡ t) t ty f refl)) e

pub loaded_is : (s : Span) (w : Option ℕ) (at ty : Ty) → IsLoaded w at ty → loaded_range s w at ≡ Ok ty
loaded_is s None at ty h = absurd h
loaded_is s (Some n) at ty h = rw h.0 (ap (λ (z : Ty). Ok z) (sym h.1))

pub is_loaded : (s : Span) (w : Option ℕ) (at ty : Ty) → loaded_range s w at ≡ Ok ty → IsLoaded w at ty
is_loaded s None at ty e = cc
is_loaded s (Some n) at ty e = on_hold (embeds at u32) _ _ ty _ (λ h f. (h, got (λ (z : Ty). z ≡ type_near false n) (type_near false n) ty f refl)) e
