-- The text of a run of two harts, row by row.
use Rattle.std.proofs.Common.{◌≡◌, ◌∙◌, refl, ap, ℕ, zero, suc, ◌+◌, List, [], ◌∷◌, ◌++◌, length, true, false, append_assoc, arith}
use Rattle.std.specs.Prelude.{if◌then◌else◌}
use Rattle.ix_plan.specs.declared.design.Design.{Design}
use Rattle.rv_harts.specs.declared.row.BarrelRow.{BarrelRow}
use Rattle.rv_harts.specs.BarrelRows.{barrel_row}
use Rattle.rv_barrel_text.specs.BarrelRowText.{barrel_row_text, barrel_rows_text}
use Rattle.rv_barrel_text.specs.BarrelText.{ends_text, are_done, rows_from, barrel_text}

-- the text of a run from row n on, of at most so many rows, and of both states
abbrev pub text_from : Design → List ℕ → List ℕ → ℕ → ℕ → List ℕ
text_from d a b left n = barrel_rows_text d.sheet.shape.stages n (rows_from d a b left n) ++ ends_text d a b (n + length (rows_from d a b left n))

-- from the first row on it is the whole
pub from_first : (d : Design) (a b : List ℕ) (cycles : ℕ) → text_from d a b cycles 0 ≡ barrel_text d a b cycles
unfolding barrel_text
from_first d a b cycles =
    let z : 0 + length (rows_from d a b cycles 0) ≡ length (rows_from d a b cycles 0) = omega arith in
    ap (λ n. barrel_rows_text d.sheet.shape.stages 0 (rows_from d a b cycles 0) ++ ends_text d a b n) z

no_rows : (stages n : ℕ) → barrel_rows_text stages n [] ≡ []
unfolding barrel_rows_text
no_rows stages n = refl

more_rows : (stages n : ℕ) (row : BarrelRow) (rows : List BarrelRow) → barrel_rows_text stages n (row ∷ rows) ≡ barrel_row_text stages n row ++ barrel_rows_text stages (suc n) rows
unfolding barrel_rows_text
more_rows stages n row rows = refl

nothing_left : (d : Design) (a b : List ℕ) (n : ℕ) → rows_from d a b 0 n ≡ []
unfolding rows_from
nothing_left d a b n = refl

nothing_more : (d : Design) (a b : List ℕ) (left n : ℕ) → are_done d a b n ≡ true → rows_from d a b left n ≡ []
unfolding rows_from
nothing_more d a b zero n e = refl
nothing_more d a b (suc left) n e = ap (λ c. if c then [] else barrel_row d a b n ∷ rows_from d a b left (suc n)) e

one_more : (d : Design) (a b : List ℕ) (left n : ℕ) → are_done d a b n ≡ false → rows_from d a b (suc left) n ≡ barrel_row d a b n ∷ rows_from d a b left (suc n)
unfolding rows_from
one_more d a b left n e = ap (λ c. if c then [] else barrel_row d a b n ∷ rows_from d a b left (suc n)) e

-- where there is no row, both states are left
ended : (d : Design) (a b : List ℕ) (left n : ℕ) → rows_from d a b left n ≡ [] → text_from d a b left n ≡ ends_text d a b n
ended d a b left n e =
    let z : n + 0 ≡ n = omega arith in
    ap (λ (rows : List BarrelRow). barrel_rows_text d.sheet.shape.stages n rows ++ ends_text d a b (n + length rows)) e
    ∙ ap (λ l. l ++ ends_text d a b (n + 0)) (no_rows d.sheet.shape.stages n)
    ∙ ap (λ m. ends_text d a b m) z

pub none_left : (d : Design) (a b : List ℕ) (left n : ℕ) → left ≡ 0 → text_from d a b left n ≡ ends_text d a b n
none_left d a b left n e = ended d a b left n (ap (λ m. rows_from d a b m n) e ∙ nothing_left d a b n)

-- so it is where both harts have stopped
pub all_done : (d : Design) (a b : List ℕ) (left n : ℕ) → are_done d a b n ≡ true → text_from d a b left n ≡ ends_text d a b n
all_done d a b left n e = ended d a b left n (nothing_more d a b left n e)

-- else a row comes first
pub goes_on : (d : Design) (a b : List ℕ) (left n : ℕ) → are_done d a b n ≡ false → text_from d a b (suc left) n ≡ barrel_row_text d.sheet.shape.stages n (barrel_row d a b n) ++ text_from d a b left (suc n)
goes_on d a b left n e =
    let stages = d.sheet.shape.stages in
    let row = barrel_row d a b n in
    let rows = rows_from d a b left (suc n) in
    let z : n + suc (length rows) ≡ suc n + length rows = omega arith in
    ap (λ (all : List BarrelRow). barrel_rows_text stages n all ++ ends_text d a b (n + length all)) (one_more d a b left n e)
    ∙ ap (λ l. l ++ ends_text d a b (n + suc (length rows))) (more_rows stages n row rows)
    ∙ append_assoc (barrel_row_text stages n row) (barrel_rows_text stages (suc n) rows) (ends_text d a b (n + suc (length rows)))
    ∙ ap (λ m. barrel_row_text stages n row ++ (barrel_rows_text stages (suc n) rows ++ ends_text d a b m)) z
