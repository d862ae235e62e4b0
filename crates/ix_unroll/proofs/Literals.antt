-- The literal of a value.
use Rattle.std.proofs.Common.{◌≡◌, ℕ, ◌%◌, ◌^◌, ◌<◌, min, max, false, refl, ap, sym, ◌∙◌, subst, arith}
use Rattle.std.proofs.Math.Nat.{mod-eq_of_lt}
use Rattle.ix_bits.specs.declared.number.Ty.{Ty}
use Rattle.ix_bits.specs.declared.number.Bits.{Bits}
use Rattle.ix_tree.specs.declared.token.Span.{Span}
use Rattle.ix_tree.specs.Trees.{e_literal}
use Rattle.ix_bits.specs.NearTypes.{type_near}
use Rattle.ix_bits.specs.Widths.{least_width}
use Rattle.ix_tree.specs.Unrolling.{literal}
use Rattle.ix_bits.proofs.Same.{ty_is, bits_are}

pub literal_is : (s : Span) (v w : ℕ) (ty : Ty) (b : Bits) → w ≡ least_width v → ty.signed ≡ false → ty.width ≡ w → b.raw ≡ v → b.width ≡ w → v < 2 ^ w → e_literal s ty b ≡ literal s v
literal_is s v w ty b e f g h k l =
    let n : ty.width ≡ max 1 (min (least_width v) 128) = omega (arith, ty.some_width, ty.most_width) in
    let m : w ≡ max 1 (min (least_width v) 128) = sym g ∙ n in
    let below : v < 2 ^ max 1 (min (least_width v) 128) = let P : ℕ → Type 0 = λ j. v < 2 ^ j in subst P m l in
    same (max 1 (min (least_width v) 128)) ty b (type_near false (least_width v)) _ f n h (k ∙ m) below refl refl refl refl
  where
    same : (w : ℕ) (ty : Ty) (b : Bits) (ty' : Ty) (b' : Bits) → ty.signed ≡ false → ty.width ≡ w → b.raw ≡ v → b.width ≡ w → v < 2 ^ w
        → ty'.signed ≡ false → ty'.width ≡ w → b'.raw ≡ v % 2 ^ w → b'.width ≡ w → e_literal s ty b ≡ e_literal s ty' b'
    same w ty b ty' b' f n h k l f' n' h' k' =
        ap (λ (t : Ty). e_literal s t b) (ty_is ty ty' (f ∙ sym f') (n ∙ sym n'))
        ∙ ap (λ (c : Bits). e_literal s ty' c) (bits_are b b' (h ∙ sym (h' ∙ mod-eq_of_lt l)) (k ∙ sym k'))
