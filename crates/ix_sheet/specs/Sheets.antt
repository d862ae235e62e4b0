-- Valid datasheets (SCAIE-V, core datasheet; the native windows and the limits are this project's choice).
use Rattle.std.specs.Prelude.{ℕ, ◌-◌, ◌<◌, ◌≤◌, List, [], ◌∷◌, All, slice_index_or}
use Rattle.rv_core.specs.declared.Shape.{Shape}
use Rattle.ix_sheet.specs.declared.sheet.Sheet.{Sheet}

-- the last stage
abbrev pub write_back : Shape → ℕ
write_back shape = shape.stages - 1

-- the first and the last time of each of the ten first kinds on a core of this shape
abbrev pub native_windows_of : Shape → List (ℕ × ℕ)
native_windows_of shape =
    (shape.rd, write_back shape) ∷  -- RdInstr
    (shape.rd, shape.ex) ∷  -- RdRS1
    (shape.rd, shape.ex) ∷  -- RdRS2
    (shape.rd, write_back shape) ∷  -- RdPC
    (shape.ex, shape.ex) ∷  -- RdCustReg
    (shape.ex, shape.ex) ∷  -- RdMem
    (shape.ex, write_back shape) ∷  -- WrRD
    (shape.ex, write_back shape) ∷  -- WrPC
    (shape.ex, write_back shape) ∷  -- WrCustReg
    (shape.ex, shape.ex) ∷  -- WrMem
    []

abbrev pub window_at : List (ℕ × ℕ) → ℕ → ℕ × ℕ
window_at windows k = slice_index_or windows k (0, 0)

-- the window is not empty, and lies inside the other
pub record IsInside (outer window : ℕ × ℕ) : Type 0 where
  pub first : outer.0 ≤ window.0
  pub some : window.0 ≤ window.1
  pub last : window.1 ≤ outer.1

-- the shape of a sheet is lawful by its type
pub record IsValidSheet (sheet : Sheet) : Type 0 where
  pub some_period : 1 ≤ sheet.period
  pub most_period : sheet.period ≤ 1000000
  pub delays : All (λ delay. delay ≤ 1000000) sheet.delay
  pub windows : (k : ℕ) → k < 10 → IsInside (window_at (native_windows_of sheet.shape) k) (window_at sheet.window k)
