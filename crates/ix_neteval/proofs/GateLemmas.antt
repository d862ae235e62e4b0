-- Right sides by number: they depend on what they read alone, and fit the width of the target.
use Rattle.std.proofs.Common.{◌≡◌, ℕ, ◌+◌, ◌-◌, ◌*◌, ◌/◌, ◌^◌, ◌<◌, List, nat_lt, eqb, get_or, arith, refl}
use Rattle.std.specs.List.{AllByRecursion}
use Rattle.std.proofs.lemmas.Bool.{cond_both}
use Rattle.std.proofs.lemmas.Nat.{pow_pos, or_lt, xor_lt, and_le_l, mod_below}
use Rattle.ix_net.specs.declared.gates.Gate.{Gate}
use Rattle.ix_net.specs.declared.gates.Gate.TheVariants.{Hex, Copy, Add, Sub, Mul, And, Or, Xor, Not, Eq, Lt, LtSigned, Join, Range, Choose}
use Rattle.ix_net.specs.Forms.{signed_lt}
use Rattle.ix_net.specs.Gates.{reads_of, gate_result}
use Rattle.ix_net.proofs.FormLemmas.{bit_fits, join_fits}
use Rattle.ix_neteval.specs.Wired.{GateFits, HasPattern}

-- what holds of each signal of a width
pub gate_fits_map : (has has' : ℕ → ℕ → Type 0) → ((i v : ℕ) → has i v → has' i v) → (w : ℕ) (g : Gate) → GateFits has w g → GateFits has' w g
gate_fits_map has has' f w (Hex d) h = h
gate_fits_map has has' f w (Copy a) h = f a w h
gate_fits_map has has' f w (Add a b) h = (f a w h.0, f b w h.1)
gate_fits_map has has' f w (Sub a b) h = (f a w h.0, f b w h.1)
gate_fits_map has has' f w (Mul a b) h = (f a w h.0, f b w h.1)
gate_fits_map has has' f w (And a b) h = (f a w h.0, f b w h.1)
gate_fits_map has has' f w (Or a b) h = (f a w h.0, f b w h.1)
gate_fits_map has has' f w (Xor a b) h = (f a w h.0, f b w h.1)
gate_fits_map has has' f w (Not a) h = f a w h
gate_fits_map has has' f w (Eq a b) h = (h.0, (h.1.0, f a h.1.0 h.1.1, f b h.1.0 h.1.2))
gate_fits_map has has' f w (Lt a b) h = (h.0, (h.1.0, f a h.1.0 h.1.1, f b h.1.0 h.1.2))
gate_fits_map has has' f w (LtSigned a b v) h = (h.0, f a v h.1, f b v h.2)
gate_fits_map has has' f w (Join a b v) h = (h.0, f a h.0 h.1, f b v h.2, h.3)
gate_fits_map has has' f w (Range a hi lo) h = (h.0, f a h.0 h.1, h.2, h.3, h.4)
gate_fits_map has has' f w (Choose c a b) h = (f c 1 h.0, f a w h.1, f b w h.2)

pub gate_result-same : (value value' : ℕ → ℕ) (w : ℕ) (g : Gate) → AllByRecursion (λ i. value i ≡ value' i) (reads_of g) → gate_result value w g ≡ gate_result value' w g
gate_result-same value value' w (Hex d) h = refl
gate_result-same value value' w (Copy a) h = h.0
gate_result-same value value' w (Add a b) h = cc (h.0, h.1.0)
gate_result-same value value' w (Sub a b) h = cc (h.0, h.1.0)
gate_result-same value value' w (Mul a b) h = cc (h.0, h.1.0)
gate_result-same value value' w (And a b) h = cc (h.0, h.1.0)
gate_result-same value value' w (Or a b) h = cc (h.0, h.1.0)
gate_result-same value value' w (Xor a b) h = cc (h.0, h.1.0)
gate_result-same value value' w (Not a) h = cc (h.0)
gate_result-same value value' w (Eq a b) h = cc (h.0, h.1.0)
gate_result-same value value' w (Lt a b) h = cc (h.0, h.1.0)
gate_result-same value value' w (LtSigned a b v) h = cc (h.0, h.1.0)
gate_result-same value value' w (Join a b v) h = cc (h.0, h.1.0)
gate_result-same value value' w (Range a hi lo) h = cc (h.0)
gate_result-same value value' w (Choose c a b) h = cc (h.0, h.1.0, h.1.1.0)

pub gate_result_fits : (values : List ℕ) (w : ℕ) (g : Gate) → GateFits (HasPattern values) w g → gate_result (λ i. get_or values i 0) w g < 2 ^ w
gate_result_fits values w (Hex d) h = h
gate_result_fits values w (Copy a) h = h.fits
gate_result_fits values w (Add a b) h = mod_below (get_or values a 0 + get_or values b 0) (2 ^ w) (pow_pos w)
gate_result_fits values w (Sub a b) h = mod_below (get_or values a 0 + (2 ^ w - get_or values b 0)) (2 ^ w) (pow_pos w)
gate_result_fits values w (Mul a b) h = mod_below (get_or values a 0 * get_or values b 0) (2 ^ w) (pow_pos w)
gate_result_fits values w (And a b) h = omega (arith, and_le_l (get_or values a 0) (get_or values b 0), h.0.fits)
gate_result_fits values w (Or a b) h = or_lt w (get_or values a 0) (get_or values b 0) h.0.fits h.1.fits
gate_result_fits values w (Xor a b) h = xor_lt w (get_or values a 0) (get_or values b 0) h.0.fits h.1.fits
gate_result_fits values w (Not a) h = omega (arith, pow_pos w)
gate_result_fits values w (Eq a b) h = bit_fits (eqb (get_or values a 0) (get_or values b 0)) w h.0
gate_result_fits values w (Lt a b) h = bit_fits (nat_lt (get_or values a 0) (get_or values b 0)) w h.0
gate_result_fits values w (LtSigned a b v) h = bit_fits (signed_lt v (get_or values a 0) (get_or values b 0)) w h.0
gate_result_fits values w (Join a b v) h = join_fits (get_or values a 0) (get_or values b 0) h.0 v w h.1.fits h.2.fits h.3
gate_result_fits values w (Range a hi lo) h = rw h.4 (mod_below (get_or values a 0 / 2 ^ lo) (2 ^ (hi - lo + 1)) (pow_pos (hi - lo + 1)))
gate_result_fits values w (Choose c a b) h =
    cond_both (eqb (get_or values c 0) 0) (get_or values b 0) (get_or values a 0) (λ x. x < 2 ^ w) (λ e. h.2.fits) (λ e. h.1.fits)
