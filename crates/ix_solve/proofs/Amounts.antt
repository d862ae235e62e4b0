-- The amounts of a flow are numbers of 64 bits.
use Rattle.std.proofs.Common.{ℕ, zero, suc, ◌^◌, ◌==◌, ◌<◌, Bool, true, false, if◌then◌else◌, List, [], ◌∷◌, get_or, take}
use Rattle.std.proofs.lemmas.List.Elements.{All-cons, All-nil}
use Rattle.ix_sheet.specs.declared.problem.Bound.{Bound}
use Rattle.ix_sheet.specs.Bounds.{Flow}
use Rattle.ix_solve.specs.Answers.{used, AreWords}

words_if : (c : Bool) (b : Bound) (x : ℕ) (rest : Flow) → x < 2 ^ 64 → AreWords rest → AreWords (if c then rest else (b, x) ∷ rest)
words_if true b x rest h words = words
words_if false b x rest h words = All-cons (λ c. c.1 < 2 ^ 64) (b, x) rest h words

pub words_taken : (n : ℕ) (bs : List Bound) (xs : List ℕ) → ((k : ℕ) → get_or xs k 0 < 2 ^ 64) → AreWords (used (take n bs) (take n xs))
words_taken zero bs xs each = All-nil (λ c. c.1 < 2 ^ 64)
words_taken (suc n) [] xs each = All-nil (λ c. c.1 < 2 ^ 64)
words_taken (suc n) (b ∷ bs) [] each = All-nil (λ c. c.1 < 2 ^ 64)
words_taken (suc n) (b ∷ bs) (x ∷ xs) each = words_if (x == 0) b x (used (take n bs) (take n xs)) (each 0) (words_taken n bs xs (λ k. each (suc k)))
