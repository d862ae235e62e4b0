-- A row of two harts shows each of them as it is by itself.
use Rattle.std.proofs.Common.{◌≡◌, ◌∙◌, refl, sym, ap, subst, ℕ, zero, suc, List, [], ◌∷◌, Option, Some, None, Bool, true, false, arith}
use Rattle.std.specs.Prelude.{◌==◌, if◌then◌else◌, map, slice_get}
use Rattle.std.specs.Option.{option_or}
use Rattle.std.proofs.lemmas.Bool.Decides.{nat_tests}
use Rattle.rv_lawful.specs.Settings.{Setting}
use Rattle.rv_harts.specs.declared.row.BarrelCell.{BarrelCell}
use Rattle.rv_harts.specs.HartRows.{event_in, stages_in, hart_at, turn_at, cell_at, hart_row}
use Rattle.rv_harts.specs.BarrelRows.{hart_setting, row_of_two, barrel_row}
use Rattle.rv_harts.specs.BarrelLaws.{own_cell, ShowsHart, TwoLaw, RowsLaw, IsolationLaw}
use Rattle.rv_harts.proofs.Slots.{cell_tells, cell_in_slot, one_slot}

-- a cell of this hart, if one is there
abbrev IsOwn : ℕ → Option BarrelCell → Type 0
IsOwn h o = (c : BarrelCell) → o ≡ Some c → c.hart ≡ h

always_own : (k : Setting) (h n stage : ℕ) → IsOwn h (cell_at k h n (hart_at k h n) stage)
always_own k h n stage c e = (cell_tells h (turn_at stage (event_in k h n (hart_at k h n))) (slice_get (stages_in k h n (hart_at k h n)) stage) c e).own

number_same : (a b : ℕ) → a ≡ b → (a == b) ≡ true
number_same a b e = grind (arith, nat_tests)

kept_own : (h i : ℕ) (c : BarrelCell) → i ≡ h → (if i == h then Some c else None) ≡ Some c
kept_own h i c e = ap (λ (b : Bool). if b then Some c else None) (number_same i h e)

own_none : (h i : ℕ) (c : BarrelCell) → (i == h) ≡ false → (if i == h then Some c else None) ≡ None
own_none h i c e = ap (λ (b : Bool). if b then Some c else None) e

first_shown : (a b : Option BarrelCell) → IsOwn 0 a → IsOwn 1 b → own_cell 0 (option_or a b) ≡ a
first_shown (Some c) b own other = kept_own 0 c.hart c (own c refl)
first_shown None None own other = refl
first_shown None (Some c) own other = own_none 0 c.hart c (ap (λ (i : ℕ). i == 0) (other c refl))

-- the two have no cell both
abbrev IsOnce : Option BarrelCell → Option BarrelCell → Type 0
IsOnce a b = (c d : BarrelCell) → a ≡ Some c → b ≡ Some d → ⊥

second_shown : (a b : Option BarrelCell) → IsOwn 0 a → IsOwn 1 b → IsOnce a b → own_cell 1 (option_or a b) ≡ b
second_shown None None own other once = refl
second_shown None (Some c) own other once = kept_own 1 c.hart c (other c refl)
second_shown (Some c) None own other once = own_none 1 c.hart c (ap (λ (i : ℕ). i == 1) (own c refl))
second_shown (Some c) (Some d) own other once = absurd (once c d refl refl)

-- two lists of five
five_same : {A : Type 0} (a b c d e p q r s t : A) → a ≡ p → b ≡ q → c ≡ r → d ≡ s → e ≡ t →
    ◌≡◌ {A = List A} (a ∷ b ∷ c ∷ d ∷ e ∷ []) (p ∷ q ∷ r ∷ s ∷ t ∷ [])
five_same a b c d e p q r s t f g h i j = cc

abbrev cell_of : Setting → ℕ → ℕ → ℕ → Option BarrelCell
cell_of k h n stage = cell_at k h n (hart_at k h n) stage

first_at : (a b : Setting) (n stage : ℕ) → own_cell 0 (option_or (cell_of a 0 n stage) (cell_of b 1 n stage)) ≡ cell_of a 0 n stage
first_at a b n stage = first_shown (cell_of a 0 n stage) (cell_of b 1 n stage) (always_own a 0 n stage) (always_own b 1 n stage)

never_both : (a b : Setting) (n stage : ℕ) → IsOnce (cell_of a 0 n stage) (cell_of b 1 n stage)
never_both a b n stage c d e f = one_slot n stage (cell_in_slot a 0 n stage c e) (cell_in_slot b 1 n stage d f)

second_at : (a b : Setting) (n stage : ℕ) → own_cell 1 (option_or (cell_of a 0 n stage) (cell_of b 1 n stage)) ≡ cell_of b 1 n stage
second_at a b n stage = second_shown (cell_of a 0 n stage) (cell_of b 1 n stage) (always_own a 0 n stage) (always_own b 1 n stage) (never_both a b n stage)

abbrev both : Setting → Setting → ℕ → ℕ → Option BarrelCell
both a b n stage = option_or (cell_of a 0 n stage) (cell_of b 1 n stage)

first_cells : (a b : Setting) (n : ℕ) → map (own_cell 0) (row_of_two a b n).cells ≡ (hart_row a 0 n).cells
unfolding hart_row
first_cells a b n =
    five_same (own_cell 0 (both a b n 0)) (own_cell 0 (both a b n 1)) (own_cell 0 (both a b n 2)) (own_cell 0 (both a b n 3)) (own_cell 0 (both a b n 4))
    (cell_of a 0 n 0) (cell_of a 0 n 1) (cell_of a 0 n 2) (cell_of a 0 n 3) (cell_of a 0 n 4)
    (first_at a b n 0) (first_at a b n 1) (first_at a b n 2) (first_at a b n 3) (first_at a b n 4)

second_cells : (a b : Setting) (n : ℕ) → map (own_cell 1) (row_of_two a b n).cells ≡ (hart_row b 1 n).cells
unfolding hart_row
second_cells a b n =
    five_same (own_cell 1 (both a b n 0)) (own_cell 1 (both a b n 1)) (own_cell 1 (both a b n 2)) (own_cell 1 (both a b n 3)) (own_cell 1 (both a b n 4))
    (cell_of b 1 n 0) (cell_of b 1 n 1) (cell_of b 1 n 2) (cell_of b 1 n 3) (cell_of b 1 n 4)
    (second_at a b n 0) (second_at a b n 1) (second_at a b n 2) (second_at a b n 3) (second_at a b n 4)

pub two_law : TwoLaw
two_law =
    record {
      first = λ a b n. record { cells = first_cells a b n; part = refl };
      second = λ a b n. record { cells = second_cells a b n; part = refl };
    }

pub rows_law : RowsLaw
unfolding barrel_row
rows_law d a b zero n lt = two_law.first (hart_setting d a) (hart_setting d b) n
rows_law d a b (suc zero) n lt = two_law.second (hart_setting d a) (hart_setting d b) n
rows_law d a b (suc (suc h)) n lt = absurd (omega (arith, lt))

pub isolation_law : IsolationLaw
isolation_law d a b c e h n lt same =
    let one = rows_law d a b h n lt in
    let other = subst (λ (image : List ℕ). ShowsHart (hart_setting d image) h n (barrel_row d c e n)) (sym same) (rows_law d c e h n lt) in
    record { cells = one.cells ∙ sym other.cells; part = one.part ∙ sym other.part }
