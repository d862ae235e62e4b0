-- The text of a run of two harts in turn (this project's choice): the lines of each row up to the one in which the later hart stops, and both states behind the last one.
use Rattle.std.specs.Prelude.{ℕ, zero, suc, List, [], ◌∷◌, ◌++◌, length, Bool, ◌&&◌, if◌then◌else◌, codes}
use Rattle.ix_extension.specs.Extensions.{ExtensionTree, view_extension}
use Rattle.ix_plan.specs.declared.design.Design.{Design}
use Rattle.ix_plan.specs.declared.design.Target.{Target}
use Rattle.rv_seq.specs.declared.arch.Arch.{Arch}
use Rattle.rv_text.specs.RunText.{head_lines, memory_lines}
use Rattle.rv_harts.specs.declared.row.BarrelRow.{BarrelRow}
use Rattle.rv_harts.specs.HartRows.{hart_at}
use Rattle.rv_harts.specs.HartStates.{architecture, outstanding_targets}
use Rattle.rv_harts.specs.BarrelRows.{hart_setting, barrel_row}
use Rattle.rv_barrel_text.specs.BarrelRowText.{hart_text, barrel_rows_text}

-- the state of a hart, with these outstanding writes, in the order in which the instructions retired
unfoldable pub hart_state_text : ℕ → ExtensionTree → List (ℕ × Target) → Arch → List ℕ
hart_state_text h x outstanding s = codes "state " ++ hart_text h ++ codes "\n" ++ head_lines (length x.registers) outstanding s ++ memory_lines s.mem 262144 0

-- the state of hart h before row n
abbrev pub end_text : Design → List ℕ → ℕ → ℕ → List ℕ
end_text d image h n =
    hart_state_text h (view_extension d.extension) (outstanding_targets (hart_setting d image) h n) (architecture (view_extension d.extension) (hart_setting d image) h n)

-- both states before row n, that of the first hart first
abbrev pub ends_text : Design → List ℕ → List ℕ → ℕ → List ℕ
ends_text d a b n = end_text d a 0 n ++ end_text d b 1 n

-- both harts have stopped before row n
abbrev pub are_done : Design → List ℕ → List ℕ → ℕ → Bool
are_done d a b n = (hart_at (hart_setting d a) 0 n).stopped && (hart_at (hart_setting d b) 1 n).stopped

-- the rows from row n on, at most so many, and none behind the one in which the later hart stops
unfoldable pub rows_from : Design → List ℕ → List ℕ → ℕ → ℕ → List BarrelRow
rows_from d a b zero n = []
rows_from d a b (suc left) n = if are_done d a b n then [] else barrel_row d a b n ∷ rows_from d a b left (suc n)

-- all rows of a run of at most so many cycles
abbrev pub barrel_rows : Design → List ℕ → List ℕ → ℕ → List BarrelRow
barrel_rows d a b cycles = rows_from d a b cycles 0

-- the run of two images on a design, for at most so many cycles
unfoldable pub barrel_text : Design → List ℕ → List ℕ → ℕ → List ℕ
barrel_text d a b cycles = barrel_rows_text d.sheet.shape.stages 0 (barrel_rows d a b cycles) ++ ends_text d a b (length (barrel_rows d a b cycles))
