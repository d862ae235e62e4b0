-- Patterns that are moved: by nothing, twice, and past their width.
use Rattle.std.proofs.Common.{◌≡◌, ⊎_elim, ℕ, ◌+◌, ◌-◌, ◌*◌, ◌/◌, ◌%◌, ◌^◌, ◌<◌, ◌≤◌, Bool, true, false, eqb, cond, arith, refl, ap, sym, ◌∙◌}
use Rattle.std.specs.Prelude.{ℤ, pos, negsuc}
use Rattle.std.specs.Int.{int_shr}
use Rattle.std.proofs.Math.Nat.{mod-eq_of_lt, mul-mod_left, div-div-eq-div-mul}
use Rattle.std.proofs.lemmas.Int.{ints}
use Rattle.std.proofs.lemmas.Bool.{cases_lt, ne_eqb}
use Rattle.std.proofs.lemmas.Nat.{pow_pos, pow-add, div_below, le-div, div-add-mod', mod_below, mul-mod_first}
use Rattle.ix_bits.specs.Types.{number_of}
use Rattle.ix_bits.specs.Operators.{pattern_of}
use Rattle.ix_bits.proofs.Patterns.{pow_half, pow_parts, pow_rises, number_below, number_above, pattern_of_number, number_of_pattern}
use Rattle.ix_bits.proofs.Ranges.{holds_shift}
use Rattle.ix_bits.proofs.Results.{within_value}
use Rattle.ix_net.specs.Forms.{bit_of}
use Rattle.ix_cells.specs.declared.shifting.Way.{Way}
use Rattle.ix_cells.specs.declared.shifting.Way.TheVariants.{Up, Down}
use Rattle.ix_cells.specs.Moves.{moved}
use Rattle.ix_cells.proofs.KindNumbers.{pattern_below}

pub moved_below : (way : Way) (w raw d : ℕ) → moved way w raw d < 2 ^ w
moved_below Up w raw d = mod_below (raw * 2 ^ d) (2 ^ w) (pow_pos w)
moved_below (Down s) w raw d = pattern_below w (int_shr (number_of s w raw) d)

shr_none : (x : ℤ) → int_shr x 0 ≡ x
shr_none (pos n) = (let e : n / 2 ^ 0 ≡ n = omega (arith, div_below n 1 (n + 1) (omega arith) (omega arith)) in ap pos e)
shr_none (negsuc n) = (let e : n / 2 ^ 0 ≡ n = omega (arith, div_below n 1 (n + 1) (omega arith) (omega arith)) in ap negsuc e)

pub moved_none : (way : Way) (w raw : ℕ) → 1 ≤ w → raw < 2 ^ w → moved way w raw 0 ≡ raw
moved_none Up w raw some l = (let e : raw * 2 ^ 0 ≡ raw = omega arith in ap (λ n. n % 2 ^ w) e ∙ mod-eq_of_lt l)
moved_none (Down s) w raw some l = ap (pattern_of w) (shr_none (number_of s w raw)) ∙ pattern_of_number s w raw some l

shr_twice : (x : ℤ) (i j : ℕ) → int_shr (int_shr x i) j ≡ int_shr x (i + j)
shr_twice (pos n) i j = ap pos (div-div-eq-div-mul n (2 ^ i) (2 ^ j) ∙ ap (λ m. n / m) (sym (pow-add 2 i j)))
shr_twice (negsuc n) i j = ap negsuc (div-div-eq-div-mul n (2 ^ i) (2 ^ j) ∙ ap (λ m. n / m) (sym (pow-add 2 i j)))

pub moved_twice : (way : Way) (w raw i j : ℕ) → 1 ≤ w → raw < 2 ^ w → moved way w (moved way w raw i) j ≡ moved way w raw (i + j)
moved_twice Up w raw i j some l =
    let t : raw * 2 ^ i * 2 ^ j ≡ raw * 2 ^ (i + j) = omega (arith, ap (λ n. raw * n) (pow-add 2 i j)) in
    mul-mod_first (raw * 2 ^ i) (2 ^ j) (2 ^ w) ∙ ap (λ n. n % 2 ^ w) t
moved_twice (Down s) w raw i j some l =
    let h = holds_shift s w (number_of s w raw) i (within_value s w raw some l) in
    ap (λ x. pattern_of w (int_shr x j)) (number_of_pattern s w (int_shr (number_of s w raw) i) some h.from_least h.below_past)
    ∙ ap (pattern_of w) (shr_twice (number_of s w raw) i j)

-- a number that is moved down by its width less 1 or more has its sign left
sign_left : (w raw d : ℕ) → 1 ≤ w → raw < 2 ^ w → w - 1 ≤ d → int_shr (number_of true w raw) d ≡ int_shr (number_of true w raw) (w - 1)
sign_left w raw d some l far =
    let half = pow_half w some in
    let p = pow_pos (w - 1) in
    let r = pow_rises (w - 1) d far in
    ⊎_elim
    (λ (below : raw < 2 ^ (w - 1)).
    let a : raw / 2 ^ d ≡ 0 = omega (arith, div_below raw (2 ^ d) 1 (pow_pos d) (omega arith)) in
    let b : raw / 2 ^ (w - 1) ≡ 0 = omega (arith, div_below raw (2 ^ (w - 1)) 1 p (omega arith)) in
    rw (number_below w raw below) (ap pos (a ∙ sym b)))
    (λ (above : 2 ^ (w - 1) ≤ raw).
    let n = 2 ^ w - 1 - raw in
    let e : number_of true w raw ≡ negsuc n = number_above w raw above ∙ omega (arith, ints) in
    let a : n / 2 ^ d ≡ 0 = omega (arith, div_below n (2 ^ d) 1 (pow_pos d) (omega arith)) in
    let b : n / 2 ^ (w - 1) ≡ 0 = omega (arith, div_below n (2 ^ (w - 1)) 1 p (omega arith)) in
    rw e (ap negsuc (a ∙ sym b)))
    (cases_lt raw (2 ^ (w - 1)))

up_out : (raw w d : ℕ) → w ≤ d → raw * 2 ^ d % 2 ^ w ≡ 0
up_out raw w d l =
    let e = pow_parts w d l in
    let m : raw * 2 ^ d ≡ raw * 2 ^ (d - w) * 2 ^ w = ap (λ n. raw * n) e ∙ omega arith in
    ap (λ n. n % 2 ^ w) m ∙ mul-mod_left (raw * 2 ^ (d - w)) (2 ^ w)

down_out : (raw w d : ℕ) → raw < 2 ^ w → w ≤ d → raw / 2 ^ d ≡ 0
down_out raw w d l far = (let r = pow_rises w d far in omega (arith, div_below raw (2 ^ d) 1 (pow_pos d) (omega arith)))

-- past the width the distance does not matter
pub moved_over : (way : Way) (w raw d : ℕ) → 1 ≤ w → raw < 2 ^ w → w ≤ d → moved way w raw d ≡ moved way w raw w
moved_over Up w raw d some l far = up_out raw w d far ∙ sym (up_out raw w w (omega arith))
moved_over (Down false) w raw d some l far = ap (λ n. pattern_of w (pos n)) (down_out raw w d l far ∙ sym (down_out raw w w l (omega arith)))
moved_over (Down true) w raw d some l far = ap (pattern_of w) (sign_left w raw d some l (omega arith) ∙ sym (sign_left w raw w some l (omega arith)))

pub out_up : (w raw : ℕ) → 0 ≡ moved Up w raw w
out_up w raw = sym (up_out raw w w (omega arith))

pub out_down : (w raw : ℕ) → raw < 2 ^ w → 0 ≡ moved (Down false) w raw w
out_down w raw l = (let z : pattern_of w (pos 0) ≡ 0 = mod-eq_of_lt (pow_pos w) in sym (ap (λ n. pattern_of w (pos n)) (down_out raw w w l (omega arith)) ∙ z))

pub out_sign : (w raw : ℕ) → 1 ≤ w → raw < 2 ^ w → moved (Down true) w raw (w - 1) ≡ moved (Down true) w raw w
out_sign w raw some l = ap (pattern_of w) (sym (sign_left w raw w some l (omega arith)))

-- the quotient of what is left below a multiple
rest_of : (q u m raw r n j : ℕ) → 0 < m → raw ≡ q * m + r → r < m → u + q + 1 ≡ j → n + raw + 1 ≡ j * m → n / m ≡ u
rest_of q u m raw r n j some e l f g =
    let h : (u + q + 1) * m ≡ j * m = ap (λ k. k * m) f in
    let low : u * m ≤ n = omega (arith, h) in
    let high : n < (u + 1) * m = omega (arith, h) in
    omega (arith, le-div u n m some low, div_below n m (u + 1) some high)

-- the high bits of a pattern, as a number of the rest of the width
pub down_is : (s : Bool) (w by raw : ℕ) → by < w → raw < 2 ^ w → number_of s (w - 1 - by + 1) (raw / 2 ^ by % 2 ^ (w - 1 - by + 1)) ≡ int_shr (number_of s w raw) by
down_is s w by raw l h =
    let e : w - 1 - by + 1 ≡ w - by = omega arith in
    let parts = pow_parts by w (omega arith) in
    let p = pow_pos by in
    let q : raw / 2 ^ by < 2 ^ (w - by) = div_below raw (2 ^ by) (2 ^ (w - by)) p (omega arith) in
    rw (e, mod-eq_of_lt q) (go s)
  where
    go : (s : Bool) → number_of s (w - by) (raw / 2 ^ by) ≡ int_shr (number_of s w raw) by
    go false = refl
    go true =
        let p = pow_pos by in
        let half = pow_half w (omega arith) in
        let short = pow_half (w - by) (omega arith) in
        let parts = pow_parts by w (omega arith) in
        let o : w - 1 - by ≡ w - by - 1 = omega arith in
        let less : 2 ^ (w - 1) ≡ 2 ^ by * 2 ^ (w - by - 1) = pow_parts by (w - 1) (omega arith) ∙ ap (λ n. 2 ^ by * 2 ^ n) o in
        let d = div-add-mod' raw (2 ^ by) in
        let r = mod_below raw (2 ^ by) p in
        ⊎_elim
        (λ (below : raw < 2 ^ (w - 1)).
        let q : raw / 2 ^ by < 2 ^ (w - by - 1) = div_below raw (2 ^ by) (2 ^ (w - by - 1)) p (omega arith) in
        rw (number_below w raw below, number_below (w - by) (raw / 2 ^ by) q) refl)
        (λ (above : 2 ^ (w - 1) ≤ raw).
        let q : 2 ^ (w - by - 1) ≤ raw / 2 ^ by = le-div (2 ^ (w - by - 1)) raw (2 ^ by) p (omega arith) in
        let top : raw / 2 ^ by < 2 ^ (w - by) = div_below raw (2 ^ by) (2 ^ (w - by)) p (omega arith) in
        let n = 2 ^ w - 1 - raw in
        let u = 2 ^ (w - by) - 1 - raw / 2 ^ by in
        let e : number_of true w raw ≡ negsuc n = number_above w raw above ∙ omega (arith, ints) in
        let f : number_of true (w - by) (raw / 2 ^ by) ≡ negsuc u = number_above (w - by) (raw / 2 ^ by) q ∙ omega (arith, ints) in
        let same : n / 2 ^ by ≡ u = rest_of (raw / 2 ^ by) u (2 ^ by) raw (raw % 2 ^ by) n (2 ^ (w - by)) p (omega (arith, d)) r (omega arith) (omega arith) in
        rw (e, f) (ap negsuc (sym same)))
        (cases_lt raw (2 ^ (w - 1)))

-- one stage: moved where the bit is 1
pub stage_is : (way : Way) (c y w p : ℕ) → 1 ≤ w → c < 2 ^ w → cond (eqb (y / 2 ^ p % 2 ^ (p - p + 1)) 0) c (moved way w c (2 ^ p)) ≡ moved way w c (y / 2 ^ p % 2 * 2 ^ p)
stage_is way c y w p some l =
    let e : p - p + 1 ≡ 1 = omega arith in
    let b : y / 2 ^ p % 2 < 2 = mod_below (y / 2 ^ p) 2 (omega arith) in
    ⊎_elim
    (λ (z : y / 2 ^ p % 2 < 1). (let o : y / 2 ^ p % 2 ≡ 0 = omega arith in
    let m : 0 * 2 ^ p ≡ 0 = omega arith in rw (e, o, m) (sym (moved_none way w c some l))))
    (λ (z : 1 ≤ y / 2 ^ p % 2). (let o : y / 2 ^ p % 2 ≡ 1 = omega arith in let m : 1 * 2 ^ p ≡ 2 ^ p = omega arith in rw (e, o, m) refl))
    (cases_lt (y / 2 ^ p % 2) 1)

-- no high bits, or a distance past the width
pub near_is :
    (way : Way) (w raw d p v : ℕ) → 1 ≤ w → raw < 2 ^ w → d < 2 ^ v → p < v → w ≤ 2 ^ p
    → cond (eqb (bit_of (eqb (d / 2 ^ p % 2 ^ (v - 1 - p + 1)) 0)) 0) (moved way w raw w) (moved way w raw (d % 2 ^ p)) ≡ moved way w raw d
near_is way w raw d p v some l h k far =
    let e : v - 1 - p + 1 ≡ v - p = omega arith in
    let pp = pow_pos p in
    let parts = pow_parts p v (omega arith) in
    let q : d / 2 ^ p < 2 ^ (v - p) = div_below d (2 ^ p) (2 ^ (v - p)) pp (omega arith) in
    let m : d / 2 ^ p % 2 ^ (v - p) ≡ d / 2 ^ p = mod-eq_of_lt q in
    ⊎_elim
    (λ (near : d < 2 ^ p).
    let z : d / 2 ^ p ≡ 0 = omega (arith, div_below d (2 ^ p) 1 pp (omega arith)) in
    let same : d % 2 ^ p ≡ d = mod-eq_of_lt near in
    rw (e, m, z, same) refl)
    (λ (out : 2 ^ p ≤ d).
    let some_high : 1 ≤ d / 2 ^ p = le-div 1 d (2 ^ p) pp (omega arith) in
    rw (e, m, ne_eqb (d / 2 ^ p) 0 (λ z. omega arith)) (sym (moved_over way w raw d some l (omega arith))))
    (cases_lt d (2 ^ p))

-- ---- how many bits a distance below a width has
pub place_small : (p : ℕ) → 2 ^ p < 128 → p < 7
place_small p h = ⊎_elim (λ (l : p < 7). l) (λ (g : 7 ≤ p). absurd (let r = pow_rises 7 p g in omega arith)) (cases_lt p 7)

pub stage_below : (p n w : ℕ) → p < n → 2 ^ n < 2 * w → 2 ^ p < w
stage_below p n w l h =
    let r = pow_rises (p + 1) n (omega arith) in
    let half = pow_half (p + 1) (omega arith) in
    let e : p + 1 - 1 ≡ p = omega arith in
    let q : 2 ^ (p + 1) ≡ 2 ^ p + 2 ^ p = half ∙ ap (λ n. 2 ^ n + 2 ^ n) e in
    omega arith

pub places_few : (w n k : ℕ) → n ≡ w - 1 → 2 ≤ w → 1 ≤ k → ((v : ℕ) → 1 ≤ v → n < 2 ^ v → k ≤ v) → 2 ^ k < 2 * w
places_few w n k e some one least =
    let half = pow_half k one in
    ⊎_elim
    (λ (below : n < 2 ^ (k - 1)).
    ⊎_elim
    (λ (z : k < 2). (let o : k ≡ 1 = omega arith in let f : 2 ^ k ≡ 2 = ap (λ i. 2 ^ i) o in omega arith))
    (λ (g : 2 ≤ k). absurd (let h = least (k - 1) (omega arith) below in omega arith))
    (cases_lt k 2))
    (λ (above : 2 ^ (k - 1) ≤ n). omega arith)
    (cases_lt n (2 ^ (k - 1)))
