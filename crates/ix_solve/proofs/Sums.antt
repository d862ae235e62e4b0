-- Sums of lists, place by place.
use Rattle.std.proofs.Common.{◌≡◌, ℕ, zero, suc, ◌+◌, ◌≤◌, List, length, get_or, take, ◌∙◌, ap, arith}
use Rattle.std.specs.Prelude.{sum}
use Rattle.std.proofs.lemmas.List.{take_all}
use Rattle.std.proofs.lemmas.List.Sums.{sum_by_more}
use Rattle.ix_sheet.specs.Schedules.{sum_below}

-- the sum of a list, place by place
sum_taken : (xs : List ℕ) (i : ℕ) → i ≤ length xs → sum_below (λ k. get_or xs k 0) i ≡ sum (take i xs)
sum_taken xs zero b = omega arith
sum_taken xs (suc i) b =
    let before = sum_taken xs i (omega arith) in
    let more : sum (take (i + 1) xs) ≡ sum (take i xs) + get_or xs i 0 = sum_by_more (λ x. x) xs i 0 (omega arith) in
    let next : suc i ≡ i + 1 = omega arith in
    let same : sum (take (suc i) xs) ≡ sum (take (i + 1) xs) = ap (λ n. sum (take n xs)) next in
    omega arith

pub sum_placed : (xs : List ℕ) (n : ℕ) → n ≡ length xs → sum_below (λ k. get_or xs k 0) n ≡ sum xs
sum_placed xs n e = sum_taken xs n (omega arith) ∙ ap sum (take_all n xs (omega arith))
