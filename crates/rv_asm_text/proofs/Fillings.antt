-- Operands one after another.
use Rattle.std.proofs.Common.{◌≡◌, ◌≢◌, sym, ap, refl, ℕ, zero, suc, ◌<◌, ◌≤◌, List, [], ◌∷◌, length, drop, map, get_or, Bor, Some, None, arith}
use Rattle.ix_tree.specs.declared.extension.Piece.{Piece}
use Rattle.rv_asm_text.specs.declared.number.Number.{Number}
use Rattle.rv_asm_text.specs.declared.operand.Operand.{Operand}
use Rattle.rv_asm_text.specs.declared.verdict.Verdict.{Verdict}
use Rattle.rv_asm_text.specs.declared.verdict.Verdict.TheVariants.{Line}
use Rattle.rv_asm_text.specs.Operands.{operand_value}
use Rattle.rv_asm_text.specs.Filling.{filled, on_value, with_bits, operand_bits}

-- what the operands from one on come to
abbrev pub from : List Piece → Verdict → List Operand → List (Bor (List ℕ)) → ℕ → Verdict
from pieces v os ts k = filled pieces v (drop k os) (drop k (map (λ (x : Bor (List ℕ)). x.now) ts))

none_left : (pieces : List Piece) (v : Verdict) (os : List Operand) (k : ℕ) → k < length os → filled pieces v (drop k os) [] ≡ Line
none_left pieces v [] k h = absurd (omega (arith, h))
none_left pieces v (o ∷ os) zero h = refl
none_left pieces v (o ∷ os) (suc k) h = none_left pieces v os k (omega (arith, h))

pub too_few : (pieces : List Piece) (v : Verdict) (os : List Operand) (ts : List (Bor (List ℕ))) (k : ℕ) → k < length os → length ts ≤ k → from pieces v os ts k ≡ Line
too_few pieces v [] ts k h g = absurd (omega (arith, h))
too_few pieces v (o ∷ os) [] zero h g = refl
too_few pieces v (o ∷ os) [] (suc k) h g = none_left pieces v os k (omega (arith, h))
too_few pieces v (o ∷ os) (t ∷ ts) zero h g = absurd (omega (arith, g))
too_few pieces v (o ∷ os) (t ∷ ts) (suc k) h g = too_few pieces v os ts k (omega (arith, h)) (omega (arith, g))

pub too_many : (pieces : List Piece) (v : Verdict) (os : List Operand) (ts : List (Bor (List ℕ))) (k : ℕ) → k ≤ length ts → k ≤ length os → length os ≤ k → length os ≢ length ts
    → from pieces v os ts k ≡ Line
too_many pieces v [] [] k h g l n = absurd (n refl)
too_many pieces v [] (t ∷ ts) zero h g l n = refl
too_many pieces v [] (t ∷ ts) (suc k) h g l n = absurd (omega (arith, g))
too_many pieces v (o ∷ os) [] zero h g l n = absurd (omega (arith, l))
too_many pieces v (o ∷ os) [] (suc k) h g l n = absurd (omega (arith, h))
too_many pieces v (o ∷ os) (t ∷ ts) zero h g l n = absurd (omega (arith, l))
too_many pieces v (o ∷ os) (t ∷ ts) (suc k) h g l n = too_many pieces v os ts k (omega (arith, h)) (omega (arith, g)) (omega (arith, l)) (λ e. n (omega (arith, e)))

pub no_value : (pieces : List Piece) (v : Verdict) (os : List Operand) (ts : List (Bor (List ℕ))) (k : ℕ) (d : Operand) (e : Bor (List ℕ)) → k < length os → k < length ts
    → None ≡ operand_value (get_or os k d) (get_or ts k e).now → from pieces v os ts k ≡ Line
no_value pieces v [] ts k d e h g q = absurd (omega (arith, h))
no_value pieces v (o ∷ os) [] k d e h g q = absurd (omega (arith, g))
no_value pieces v (o ∷ os) (t ∷ ts) zero d e h g q =
    ap (on_value (λ (n : Number). filled pieces (with_bits v (operand_bits pieces o n)) os (map (λ (x : Bor (List ℕ)). x.now) ts))) (sym q)
no_value pieces v (o ∷ os) (t ∷ ts) (suc k) d e h g q = no_value pieces v os ts k d e (omega (arith, h)) (omega (arith, g)) q

pub one_value : (pieces : List Piece) (v : Verdict) (os : List Operand) (ts : List (Bor (List ℕ))) (k : ℕ) (d : Operand) (e : Bor (List ℕ)) (n : Number) → k < length os → k < length ts
    → Some n ≡ operand_value (get_or os k d) (get_or ts k e).now → from pieces v os ts k ≡ from pieces (with_bits v (operand_bits pieces (get_or os k d) n)) os ts (suc k)
one_value pieces v [] ts k d e n h g q = absurd (omega (arith, h))
one_value pieces v (o ∷ os) [] k d e n h g q = absurd (omega (arith, g))
one_value pieces v (o ∷ os) (t ∷ ts) zero d e n h g q =
    ap (on_value (λ (m : Number). filled pieces (with_bits v (operand_bits pieces o m)) os (map (λ (x : Bor (List ℕ)). x.now) ts))) (sym q)
one_value pieces v (o ∷ os) (t ∷ ts) (suc k) d e n h g q = one_value pieces v os ts k d e n (omega (arith, h)) (omega (arith, g)) q
