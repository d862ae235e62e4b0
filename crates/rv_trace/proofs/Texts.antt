-- Lengths of printed numbers.
use Rattle.std.proofs.Common.{ℕ, ◌^◌, ◌<◌, ◌≤◌, length, arith, lit<}
use Rattle.std.specs.Prelude.{decimal}
use Rattle.std.proofs.lemmas.Fmt.{length-decimal-le}

pub number_short : (n : ℕ) → n < 2 ^ 32 → length (decimal n) ≤ 10
number_short n h = length-decimal-le 10 n (lit< tt) (omega (arith, h)) (omega (arith, h))

pub small_short : (n : ℕ) → n < 2 ^ 8 → length (decimal n) ≤ 3
small_short n h = length-decimal-le 3 n (lit< tt) (omega (arith, h)) (omega (arith, h))
