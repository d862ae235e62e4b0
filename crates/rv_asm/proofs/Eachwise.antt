-- Operands one after another, from one on.
use Rattle.std.proofs.Common.{◌≡◌, ◌∙◌, ap, refl, ℕ, zero, suc, ◌<◌, ◌≤◌, List, [], ◌∷◌, length, drop, map, get_or, Bor, Bool, true, ◌==◌, arith}
use Rattle.std.specs.Prelude.{Ok, Err, if◌then◌else◌}
use Rattle.std.proofs.lemmas.Bool.Decides.{nat_tests}
use Rattle.std.proofs.lemmas.List.{length-map}
use Rattle.rv_asm.specs.declared.reading.OperandKind.{OperandKind}
use Rattle.rv_asm.specs.declared.reading.Operands.{Operands}
use Rattle.rv_asm.specs.declared.reading.Unread.{Unread}
use Rattle.rv_asm.specs.declared.reading.Unread.TheVariants.{Line}
use Rattle.rv_asm.specs.Labels.{Places}
use Rattle.rv_asm.specs.Readings.{Read, behind, read_operand, read_each, read_operands}

-- what the operands from one on come to
abbrev pub from : Places → ℕ → List OperandKind → List (Bor (List ℕ)) → Operands → ℕ → Read
from places at ks ts o k = read_each places at (drop k ks) (drop k (map (λ (x : Bor (List ℕ)). x.now) ts)) o

-- the operand at a place, and those behind it
one_more : (places : Places) (at : ℕ) (ks : List OperandKind) (ts : List (Bor (List ℕ))) (o : Operands) (k : ℕ) (d : OperandKind) (e : Bor (List ℕ)) → k < length ks → k < length ts
    → from places at ks ts o k ≡ behind (read_operand places at (get_or ks k d) (get_or ts k e).now o) (λ p. from places at ks ts p (suc k))
one_more places at [] ts o k d e h g = absurd (omega (arith, h))
one_more places at (x ∷ ks) [] o k d e h g = absurd (omega (arith, g))
one_more places at (x ∷ ks) (t ∷ ts) o zero d e h g = refl
one_more places at (x ∷ ks) (t ∷ ts) o (suc k) d e h g = one_more places at ks ts o k d e (omega (arith, h)) (omega (arith, g))

-- behind the last kind nothing is read
pub none_more : (places : Places) (at : ℕ) (ks : List OperandKind) (us : List (List ℕ)) (o : Operands) (k : ℕ) → length ks ≤ k → read_each places at (drop k ks) us o ≡ Ok o
none_more places at [] us o zero h = refl
none_more places at [] us o (suc k) h = refl
none_more places at (x ∷ ks) us o zero h = absurd (omega (arith, h))
none_more places at (x ∷ ks) us o (suc k) h = none_more places at ks us o k (omega (arith, h))

-- an operand that was read, and those behind it
pub one_read : (places : Places) (at : ℕ) (ks : List OperandKind) (ts : List (Bor (List ℕ))) (o p : Operands) (k : ℕ) (d : OperandKind) (e : Bor (List ℕ)) → k < length ks → k < length ts
    → read_operand places at (get_or ks k d) (get_or ts k e).now o ≡ Ok p → from places at ks ts o k ≡ from places at ks ts p (suc k)
one_read places at ks ts o p k d e h g r = one_more places at ks ts o k d e h g ∙ ap (λ (x : Read). behind x (λ q. from places at ks ts q (suc k))) r

-- an operand that was not read
pub none_read : (places : Places) (at : ℕ) (ks : List OperandKind) (ts : List (Bor (List ℕ))) (o : Operands) (u : Unread) (k : ℕ) (d : OperandKind) (e : Bor (List ℕ)) → k < length ks → k < length ts
    → read_operand places at (get_or ks k d) (get_or ts k e).now o ≡ Err u → from places at ks ts o k ≡ Err u
none_read places at ks ts o u k d e h g r = one_more places at ks ts o k d e h g ∙ ap (λ (x : Read). behind x (λ q. from places at ks ts q (suc k))) r

equal : (n m : ℕ) → n ≡ m → (n == m) ≡ true
equal n m h = grind (arith, nat_tests, h)

-- with as many operands as kinds all are read from the first one on
pub all_read : (places : Places) (at : ℕ) (ks : List OperandKind) (ts : List (Bor (List ℕ))) (o : Operands) → length ts ≡ length ks
    → read_operands places at ks (map (λ (x : Bor (List ℕ)). x.now) ts) o ≡ from places at ks ts o 0
all_read places at ks ts o h =
    ap (λ (b : Bool). if b then from places at ks ts o 0 else Err Line) (equal (length (map (λ (x : Bor (List ℕ)). x.now) ts)) (length ks) (length-map ts (λ (x : Bor (List ℕ)). x.now) ∙ h))
