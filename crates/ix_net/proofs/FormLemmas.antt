-- Values of right sides: they depend on the operands alone, and fit the width of the target.
use Rattle.std.proofs.Common.{◌≡◌, ℕ, ◌+◌, ◌-◌, ◌*◌, ◌/◌, ◌^◌, ◌<◌, List, Bool, true, false, Option, Some, unwrap_or, nat_lt, eqb, arith, refl, ap, ◌∙◌, subst}
use Rattle.std.specs.List.{AllByRecursion}
use Rattle.std.proofs.lemmas.Bool.{cond_both}
use Rattle.std.proofs.lemmas.Nat.{pow_pos, pow-add, or_lt, xor_lt, and_le_l, mul-add-lt, mod_below}
use Rattle.ix_net.specs.declared.netlist.Form.{Form}
use Rattle.ix_net.specs.declared.netlist.Form.TheVariants.{Hex, Copy, Add, Sub, Mul, And, Or, Xor, Not, Eq, Lt, LtSigned, Join, Range, Choose}
use Rattle.ix_net.specs.Forms.{operands, Fits, result_of, bit_of}
use Rattle.ix_net.specs.Gates.{gate_of, gate_result}

-- with the same values of the operands a right side has the same value
pub result_of-same :
    (value value' width : List ℕ → ℕ) (w : ℕ) (f : Form) → AllByRecursion (λ n. value n ≡ value' n) (operands f) → result_of value width w f ≡ result_of value' width w f
result_of-same value value' width w (Hex d) h = refl
result_of-same value value' width w (Copy a) h = h.0
result_of-same value value' width w (Add a b) h = cc (h.0, h.1.0)
result_of-same value value' width w (Sub a b) h = cc (h.0, h.1.0)
result_of-same value value' width w (Mul a b) h = cc (h.0, h.1.0)
result_of-same value value' width w (And a b) h = cc (h.0, h.1.0)
result_of-same value value' width w (Or a b) h = cc (h.0, h.1.0)
result_of-same value value' width w (Xor a b) h = cc (h.0, h.1.0)
result_of-same value value' width w (Not a) h = cc (h.0)
result_of-same value value' width w (Eq a b) h = cc (h.0, h.1.0)
result_of-same value value' width w (Lt a b) h = cc (h.0, h.1.0)
result_of-same value value' width w (LtSigned a b) h = cc (h.0, h.1.0)
result_of-same value value' width w (Join a b) h = cc (h.0, h.1.0)
result_of-same value value' width w (Range a hi lo) h = cc (h.0)
result_of-same value value' width w (Choose c a b) h = cc (h.0, h.1.0, h.1.1.0)

-- a right side by number has the value of the right side by name
pub gate_result-gate_of : (value : ℕ → ℕ) (place width : List ℕ → ℕ) (w : ℕ) (f : Form) → gate_result value w (gate_of place width f) ≡ result_of (λ n. value (place n)) width w f
gate_result-gate_of value place width w (Hex d) = refl
gate_result-gate_of value place width w (Copy a) = refl
gate_result-gate_of value place width w (Add a b) = refl
gate_result-gate_of value place width w (Sub a b) = refl
gate_result-gate_of value place width w (Mul a b) = refl
gate_result-gate_of value place width w (And a b) = refl
gate_result-gate_of value place width w (Or a b) = refl
gate_result-gate_of value place width w (Xor a b) = refl
gate_result-gate_of value place width w (Not a) = refl
gate_result-gate_of value place width w (Eq a b) = refl
gate_result-gate_of value place width w (Lt a b) = refl
gate_result-gate_of value place width w (LtSigned a b) = refl
gate_result-gate_of value place width w (Join a b) = refl
gate_result-gate_of value place width w (Range a hi lo) = refl
gate_result-gate_of value place width w (Choose c a b) = refl

-- a single bit fits width 1
pub bit_fits : (b : Bool) (w : ℕ) → w ≡ 1 → bit_of b < 2 ^ w
bit_fits true w e = rw e (omega arith)
bit_fits false w e = rw e (omega arith)

pub join_fits : (a b u v w : ℕ) → a < 2 ^ u → b < 2 ^ v → w ≡ u + v → a * 2 ^ v + b < 2 ^ w
join_fits a b u v w la lb e =
    let fits : a * 2 ^ v + b < 2 ^ v * 2 ^ u = mul-add-lt a (2 ^ v) b (2 ^ u) la lb in
    let split : 2 ^ w ≡ 2 ^ u * 2 ^ v = ap (λ n. 2 ^ n) e ∙ pow-add 2 u v in
    omega arith

-- a right side fits its target where its widths agree and its operands fit
pub result_fits :
    (width : List ℕ → Option ℕ) (value : List ℕ → ℕ) (w : ℕ) (f : Form) → Fits width w f → ((n : List ℕ) (v : ℕ) → width n ≡ Some v → value n < 2 ^ v)
    → result_of value (λ n. unwrap_or (width n) 0) w f < 2 ^ w
result_fits width value w (Hex d) h fit = (let P : ℕ → Type 0 = λ n. d.raw < 2 ^ n in subst P h d.in_width)
result_fits width value w (Copy a) h fit = fit a w h
result_fits width value w (Add a b) h fit = mod_below (value a + value b) (2 ^ w) (pow_pos w)
result_fits width value w (Sub a b) h fit = mod_below (value a + (2 ^ w - value b)) (2 ^ w) (pow_pos w)
result_fits width value w (Mul a b) h fit = mod_below (value a * value b) (2 ^ w) (pow_pos w)
result_fits width value w (And a b) h fit = omega (arith, and_le_l (value a) (value b), fit a w h.0)
result_fits width value w (Or a b) h fit = or_lt w (value a) (value b) (fit a w h.0) (fit b w h.1)
result_fits width value w (Xor a b) h fit = xor_lt w (value a) (value b) (fit a w h.0) (fit b w h.1)
result_fits width value w (Not a) h fit = omega (arith, pow_pos w)
result_fits width value w (Eq a b) h fit = bit_fits (eqb (value a) (value b)) w h.0
result_fits width value w (Lt a b) h fit = bit_fits (nat_lt (value a) (value b)) w h.0
result_fits width value w (LtSigned a b) h fit = bit_fits _ w h.0
result_fits width value w (Join a b) h fit =
    let wide : unwrap_or (width b) 0 ≡ h.1 = ap (λ o. unwrap_or o 0) h.3 in
    rw wide (join_fits (value a) (value b) h.0 h.1 w (fit a h.0 h.2) (fit b h.1 h.3) h.4)
result_fits width value w (Range a hi lo) h fit = rw h.4 (mod_below (value a / 2 ^ lo) (2 ^ (hi - lo + 1)) (pow_pos (hi - lo + 1)))
result_fits width value w (Choose c a b) h fit =
    cond_both (eqb (value c) 0) (value b) (value a) (λ x. x < 2 ^ w) (λ e. fit b w h.2) (λ e. fit a w h.1)
