-- Which types hold all numbers of which, by their widths.
use Rattle.std.proofs.Common.{◌≡◌, ℕ, ◌+◌, ◌-◌, ◌^◌, ◌<◌, ◌≤◌, max, refl, ⊎_elim, arith, Bool, true, false, cond, ◌||◌, ℤ, pos, negsuc}
use Rattle.std.proofs.lemmas.Int.{ints}
use Rattle.std.proofs.lemmas.Nat.{pow_pos, pow_below}
use Rattle.std.proofs.lemmas.Bool.{cases_lt}
use Rattle.ix_bits.specs.declared.number.Ty.{Ty}
use Rattle.ix_bits.specs.Types.{HoldsNumber, IsWithin}
use Rattle.ix_bits.specs.ResultTypes.{Embeds, common_signed, common_width}
use Rattle.ix_bits.proofs.Ranges.{holds_wider, holds_signed}

pub within : (ty : Ty) (n : ℤ) → HoldsNumber ty n → IsWithin ty.signed ty.width n
within ty n h = record { from_least = h.from_least; below_past = h.below_past }

pub held : (ty : Ty) (n : ℤ) → IsWithin ty.signed ty.width n → HoldsNumber ty n
held ty n h = record { from_least = h.from_least; below_past = h.below_past }

-- ---- by widths
pub record Fits (s : Bool) (a : ℕ) (t : Bool) (b : ℕ) : Type 0 where
  pub wide : cond t (cond s a (a + 1)) a ≤ b
  pub signs : s ≡ true → t ≡ true

wider : (s t : Bool) (a b : ℕ) (n : ℤ) → 1 ≤ a → Fits s a t b → IsWithin s a n → IsWithin t b n
wider false false a b n h f p = holds_wider false a b n h f.wide p
wider false true a b n h f p = holds_signed a b n f.wide p
wider true false a b n h f p = let e = f.signs refl in cc
wider true true a b n h f p = holds_wider true a b n h f.wide p

power_order : (a b : ℕ) → 2 ^ a ≤ 2 ^ b → a ≤ b
power_order a b h =
    ⊎_elim
    (λ (above : b < a). let p = pow_below b a above in absurd (omega arith))
    (λ (below : a ≤ b). below)
    (cases_lt b a)

-- the greatest and the least number of the first type say how wide the second is
narrower : (s t : Bool) (a b : ℕ) → 1 ≤ a → 1 ≤ b → ((n : ℤ) → IsWithin s a n → IsWithin t b n) → Fits s a t b
narrower false false a b h g f =
    let p = pow_pos a in
    let w = f (pos (2 ^ a - 1)) (record { from_least = omega (arith, ints); below_past = omega (arith, ints) }) in
    record { wide = power_order a b (omega (arith, ints)); signs = λ e. cc }
narrower false true a b h g f =
    let p = pow_pos a in
    let w = f (pos (2 ^ a - 1)) (record { from_least = omega (arith, ints); below_past = omega (arith, ints) }) in
    let o = power_order a (b - 1) (omega (arith, ints)) in
    record { wide = omega arith; signs = λ e. refl }
narrower true false a b h g f =
    let p = pow_pos (a - 1) in
    let w = f (negsuc 0) (record { from_least = omega (arith, ints); below_past = omega (arith, ints) }) in
    absurd (omega (arith, ints))
narrower true true a b h g f =
    let p = pow_pos (a - 1) in
    let w = f (pos (2 ^ (a - 1) - 1)) (record { from_least = omega (arith, ints); below_past = omega (arith, ints) }) in
    let o = power_order (a - 1) (b - 1) (omega (arith, ints)) in
    record { wide = omega arith; signs = λ e. refl }

pub embeds_where : (a b : Ty) → Fits a.signed a.width b.signed b.width → Embeds a b
embeds_where a b f = λ n h. held b n (wider a.signed b.signed a.width b.width n a.some_width f (within a n h))

pub fits_where : (a b : Ty) → Embeds a b → Fits a.signed a.width b.signed b.width
fits_where a b f = narrower a.signed b.signed a.width b.width a.some_width b.some_width (λ n p. within b n (f n (held a n p)))

-- ---- the common type
left : (s t : Bool) (a b : ℕ) → Fits s a (s || t) (max (cond (s || t) (cond s a (a + 1)) a) (cond (s || t) (cond t b (b + 1)) b))
left false false a b = record { wide = omega arith; signs = λ e. cc }
left false true a b = record { wide = omega arith; signs = λ e. refl }
left true false a b = record { wide = omega arith; signs = λ e. refl }
left true true a b = record { wide = omega arith; signs = λ e. refl }

right : (s t : Bool) (a b : ℕ) → Fits t b (s || t) (max (cond (s || t) (cond s a (a + 1)) a) (cond (s || t) (cond t b (b + 1)) b))
right false false a b = record { wide = omega arith; signs = λ e. cc }
right false true a b = record { wide = omega arith; signs = λ e. refl }
right true false a b = record { wide = omega arith; signs = λ e. cc }
right true true a b = record { wide = omega arith; signs = λ e. refl }

least : (s t u : Bool) (a b w : ℕ) → Fits s a u w → Fits t b u w → max (cond (s || t) (cond s a (a + 1)) a) (cond (s || t) (cond t b (b + 1)) b) ≤ w
least false false false a b w f g = omega (arith, f.wide, g.wide)
least false false true a b w f g = omega (arith, f.wide, g.wide)
least false true false a b w f g = let e = g.signs refl in cc
least false true true a b w f g = omega (arith, f.wide, g.wide)
least true t false a b w f g = let e = f.signs refl in cc
least true false true a b w f g = omega (arith, f.wide, g.wide)
least true true true a b w f g = omega (arith, f.wide, g.wide)

pub common_fits_left : (a b : Ty) → Fits a.signed a.width (common_signed a b) (common_width a b)
common_fits_left a b = left a.signed b.signed a.width b.width

pub common_fits_right : (a b : Ty) → Fits b.signed b.width (common_signed a b) (common_width a b)
common_fits_right a b = right a.signed b.signed a.width b.width

pub common_least : (a b t : Ty) → Embeds a t → Embeds b t → common_width a b ≤ t.width
common_least a b t f g = least a.signed b.signed t.signed a.width b.width t.width (fits_where a t f) (fits_where b t g)
