-- The native windows of a shape lie inside themselves.
use Rattle.std.proofs.Common.{◌≡◌, ℕ, zero, suc, ◌+◌, ◌-◌, ◌<◌, ◌≤◌, arith, lit≤}
use Rattle.std.specs.Prelude.{All, replicate}
use Rattle.std.proofs.lemmas.List.Elements.{All-nil, All-cons}
use Rattle.rv_core.specs.declared.Shape.{Shape}
use Rattle.ix_sheet.specs.Sheets.{IsInside, native_windows_of, window_at}

inside : (a b : ℕ) → a ≤ b → IsInside (a, b) (a, b)
inside a b h = record { first = omega arith; some = h; last = omega arith }

pub native_inside : (shape : Shape) (k : ℕ) → k < 10 → IsInside (window_at (native_windows_of shape) k) (window_at (native_windows_of shape) k)
native_inside shape k h =
    let a = shape.lawful.reads_first in
    let b = shape.lawful.memory_late in
    let c = shape.lawful.memory_inside in
    cases k h (omega (arith, a, b, c)) a (omega (arith, b, c)) (omega arith)
  where
    cases : (k : ℕ) → k < 10 → shape.rd ≤ shape.stages - 1 → shape.rd ≤ shape.ex → shape.ex ≤ shape.stages - 1 → shape.ex ≤ shape.ex → IsInside (window_at (native_windows_of shape) k) (window_at (native_windows_of shape) k)
    cases zero h p q r s = inside _ _ p
    cases (suc zero) h p q r s = inside _ _ q
    cases (suc (suc zero)) h p q r s = inside _ _ q
    cases (suc (suc (suc zero))) h p q r s = inside _ _ p
    cases (suc (suc (suc (suc zero)))) h p q r s = inside _ _ s
    cases (suc (suc (suc (suc (suc zero))))) h p q r s = inside _ _ s
    cases (suc (suc (suc (suc (suc (suc zero)))))) h p q r s = inside _ _ r
    cases (suc (suc (suc (suc (suc (suc (suc zero))))))) h p q r s = inside _ _ r
    cases (suc (suc (suc (suc (suc (suc (suc (suc zero)))))))) h p q r s = inside _ _ r
    cases (suc (suc (suc (suc (suc (suc (suc (suc (suc zero))))))))) h p q r s = inside _ _ s
    cases (suc (suc (suc (suc (suc (suc (suc (suc (suc (suc k)))))))))) h p q r s = absurd (omega (arith, h))

pub zeros_small : (n : ℕ) → All (λ delay. delay ≤ 1000000) (replicate n 0)
zeros_small zero = All-nil (λ delay. delay ≤ 1000000)
zeros_small (suc n) = let least : 0 ≤ 1000000 = lit≤ tt in All-cons (λ delay. delay ≤ 1000000) 0 (replicate n 0) least (zeros_small n)
