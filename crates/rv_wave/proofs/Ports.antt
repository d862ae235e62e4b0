-- Values that are read port by port.
use Rattle.std.proofs.Common.{◌≡◌, ◌∙◌, refl, sym, ap, ℕ, zero, suc, ◌+◌, ◌<◌, List, [], ◌∷◌, ◌++◌, length, map, take, Some, arith}
use Rattle.std.specs.Prelude.{slice_get, slice_set}
use Rattle.std.proofs.lemmas.List.{map-append, take_more_set}
use Rattle.ix_bits.specs.declared.number.Bits.{Bits}
use Rattle.ix_net.specs.declared.netlist.Port.{Port}

some_is : (x y : ℕ) → Some x ≡ Some y → x ≡ y
some_is x y e = cc

take_get : (ys : List ℕ) (k y : ℕ) → slice_get ys k ≡ Some y → take (suc k) ys ≡ take k ys ++ y ∷ []
take_get [] k y e = absurd cc
take_get (x ∷ ys) zero y e = ap (λ z. z ∷ []) (some_is x y e)
take_get (x ∷ ys) (suc k) y e = ap (λ l. x ∷ l) (take_get ys k y e)

-- one more value, by its number or its width
pub one_more_read : (f : Bits → ℕ) (xs : List Bits) (ys : List ℕ) (k : ℕ) (b : Bits) → k < length xs → slice_get ys k ≡ Some (f b) → map f (take k xs) ≡ take k ys → map f (take (k + 1) (slice_set xs k b)) ≡ take (k + 1) ys
one_more_read f xs ys k b lt e h =
    let s : suc k ≡ k + 1 = omega arith in
    ap (map f) (take_more_set xs k b lt)
    ∙ map-append f (take k xs) (b ∷ [])
    ∙ ap (λ l. l ++ f b ∷ []) h
    ∙ sym (take_get ys k (f b) e)
    ∙ ap (λ n. take n ys) s

pub width_at : (ports : List Port) (k w : ℕ) → k < length ports → ((p : Port) → slice_get ports k ≡ Some p → w ≡ p.width) → slice_get (map (λ (p : Port). p.width) ports) k ≡ Some w
width_at [] k w lt h = absurd (omega (arith, lt))
width_at (p ∷ ports) zero w lt h = ap (λ n. Some n) (sym (h p refl))
width_at (p ∷ ports) (suc k) w lt h = width_at ports k w (omega (arith, lt)) h
