-- Numbers in hexadecimal digits.
use Rattle.std.proofs.Common.{◌≡◌, ℕ, zero, suc, ◌*◌, ◌/◌, ◌%◌, ◌^◌, ◌<◌, ◌≤◌, List, [], ◌∷◌, ◌++◌, true, false, nat_lt, refl, ap, sym, ◌∙◌, arith, append_assoc}
use Rattle.std.proofs.Math.Nat.{pow-suc}
use Rattle.ix_verilog.specs.Lines.{hex_upto, hex_digit}

pub hex_small : (n x : ℕ) → x < 16 → hex_upto (suc n) x ≡ hex_digit x ∷ []
unfolding hex_upto
hex_small n x h = (let t : nat_lt x 16 ≡ true = below x 16 h in rw t refl)
  where
    below : (a b : ℕ) → a < b → nat_lt a b ≡ true
    below a b l = grind arith

pub hex_large : (n x : ℕ) → 16 ≤ x → hex_upto (suc n) x ≡ hex_upto n (x / 16) ++ hex_digit (x % 16) ∷ []
unfolding hex_upto
hex_large n x h = (let t : nat_lt x 16 ≡ false = above x 16 h in rw t refl)
  where
    above : (a b : ℕ) → b ≤ a → nat_lt a b ≡ false
    above a b l = grind arith

-- the last digit behind those before it
pub hex_more : (n x : ℕ) (old mid new : List ℕ) → 16 ≤ x → x < 16 ^ suc n
    → ((m : ℕ) → x / 16 < 16 ^ suc m → mid ≡ old ++ hex_upto (suc m) (x / 16)) → new ≡ mid ++ hex_digit (x % 16) ∷ []
    → new ≡ old ++ hex_upto (suc n) x
hex_more zero x old mid new h l m e = absurd (omega arith)
hex_more (suc n) x old mid new h l m e =
    let p : 16 ^ suc (suc n) ≡ 16 ^ suc n * 16 = pow-suc 16 (suc n) in
    let s : x / 16 < 16 ^ suc n = omega arith in
    e ∙ ap (λ z. z ++ hex_digit (x % 16) ∷ []) (m n s) ∙ append_assoc old (hex_upto (suc n) (x / 16)) (hex_digit (x % 16) ∷ [])
    ∙ ap (λ z. old ++ z) (sym (hex_large (suc n) x h))
