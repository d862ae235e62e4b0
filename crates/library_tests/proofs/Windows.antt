-- The native windows of a lawful shape are windows: no one is empty.
use Rattle.std.proofs.Common.{ℕ, zero, suc, ◌<◌, ◌≤◌, arith}
use Rattle.rv_core.specs.declared.Shape.{Shape}
use Rattle.ix_sheet.specs.Sheets.{native_windows_of, window_at, IsInside, write_back}

whole : (first last : ℕ) → first ≤ last → IsInside (first, last) (first, last)
whole first last le = record { first = omega (arith); some = le; last = omega (arith) }

ends : (shape : Shape) → shape.ex ≤ write_back shape
ends shape = omega (arith, shape.lawful.memory_late, shape.lawful.memory_inside)

pub native_inside : (shape : Shape) (k : ℕ) → k < 10 → IsInside (window_at (native_windows_of shape) k) (window_at (native_windows_of shape) k)
native_inside shape zero lt = whole shape.rd (write_back shape) (omega (arith, shape.lawful.reads_first, ends shape))
native_inside shape (suc zero) lt = whole shape.rd shape.ex shape.lawful.reads_first
native_inside shape (suc (suc zero)) lt = whole shape.rd shape.ex shape.lawful.reads_first
native_inside shape (suc (suc (suc zero))) lt = whole shape.rd (write_back shape) (omega (arith, shape.lawful.reads_first, ends shape))
native_inside shape (suc (suc (suc (suc zero)))) lt = whole shape.ex shape.ex (omega (arith))
native_inside shape (suc (suc (suc (suc (suc zero))))) lt = whole shape.ex shape.ex (omega (arith))
native_inside shape (suc (suc (suc (suc (suc (suc zero)))))) lt = whole shape.ex (write_back shape) (ends shape)
native_inside shape (suc (suc (suc (suc (suc (suc (suc zero))))))) lt = whole shape.ex (write_back shape) (ends shape)
native_inside shape (suc (suc (suc (suc (suc (suc (suc (suc zero)))))))) lt = whole shape.ex (write_back shape) (ends shape)
native_inside shape (suc (suc (suc (suc (suc (suc (suc (suc (suc zero))))))))) lt = whole shape.ex shape.ex (omega (arith))
native_inside shape (suc (suc (suc (suc (suc (suc (suc (suc (suc (suc k)))))))))) lt = absurd (omega (arith, lt))
