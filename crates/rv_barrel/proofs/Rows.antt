-- A row of both harts.
use Rattle.std.proofs.Common.{◌≡◌, ◌∙◌, refl, ap, subst, ℕ, suc, ◌+◌, List, [], ◌∷◌, length, get_or, Option, None, arith}
use Rattle.std.specs.Prelude.{slice_set}
use Rattle.std.specs.Option.{option_or}
use Rattle.ix_eval.specs.Tables.{table}
use Rattle.ix_extension.specs.Extensions.{ExtensionTree}
use Rattle.ix_plan.specs.declared.design.Design.{Design}
use Rattle.rv_harts.specs.BarrelRows.{hart_setting, barrel_row}
use Rattle.rv_harts.specs.declared.row.BarrelCell.{BarrelCell}
use Rattle.rv_harts.specs.declared.row.BarrelRow.{BarrelRow}
use Rattle.rv_harts.specs.declared.row.HartPart.{HartPart}
use Rattle.rv_harts.specs.HartRows.{hart_row}
use Rattle.rv_lawful.specs.Settings.{Setting}
use Rattle.rv_barrel.specs.declared.side.Side.{Side}
use Rattle.rv_barrel.specs.Sides.{IsKept}

abbrev pub joined_cells : List (Option BarrelCell) → List (Option BarrelCell) → List (Option BarrelCell)
joined_cells a b = table (λ stage. option_or (get_or a stage None) (get_or b stage None)) 5

abbrev row_with : List (Option BarrelCell) → HartPart → HartPart → BarrelRow
row_with cells first second = record { cells = cells; parts = first ∷ second ∷ [] }

pub row_there : (d : Design) (a b : List ℕ) (n : ℕ) {cells one other : List (Option BarrelCell)} {first second : HartPart} → cells ≡ joined_cells one other →
    one ≡ (hart_row (hart_setting d a) 0 n).cells → first ≡ (hart_row (hart_setting d a) 0 n).part → other ≡ (hart_row (hart_setting d b) 1 n).cells → second ≡ (hart_row (hart_setting d b) 1 n).part →
    row_with cells first second ≡ barrel_row d a b n
unfolding barrel_row
row_there d a b n {cells} {one} {other} {first} {second} e o f t s =
    ap (λ (c : List (Option BarrelCell)). row_with c first second) e
    ∙ ap (λ (c : List (Option BarrelCell)). row_with (joined_cells c other) first second) o
    ∙ ap (λ (c : List (Option BarrelCell)). row_with (joined_cells (hart_row (hart_setting d a) 0 n).cells c) first second) t
    ∙ ap (λ (p : HartPart). row_with (joined_cells (hart_row (hart_setting d a) 0 n).cells (hart_row (hart_setting d b) 1 n).cells) p second) f
    ∙ ap (λ (p : HartPart). row_with (joined_cells (hart_row (hart_setting d a) 0 n).cells (hart_row (hart_setting d b) 1 n).cells) (hart_row (hart_setting d a) 0 n).part p) s

-- one row more, counted so
pub kept_more : (x : ExtensionTree) (k : Setting) (h n : ℕ) (side : Side) → IsKept x k h (suc n) side → IsKept x k h (n + 1) side
kept_more x k h n side kept = let up : suc n ≡ n + 1 = omega arith in subst (λ (m : ℕ). IsKept x k h m side) up kept

-- both places of a list of two are put anew
pub both_put : {A : Type 0} (ps : List A) (a b c d : A) → length ps ≡ 2 → slice_set (slice_set (slice_set (slice_set ps 0 a) 1 b) 0 c) 1 d ≡ c ∷ d ∷ []
both_put [] a b c d e = absurd (omega (arith, e))
both_put (p ∷ []) a b c d e = absurd (omega (arith, e))
both_put (p ∷ q ∷ []) a b c d e = refl
both_put (p ∷ q ∷ r ∷ ps) a b c d e = absurd (omega (arith, e))
