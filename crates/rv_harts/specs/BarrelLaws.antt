-- What is promised of two harts in one pipeline (this project's choice).
use Rattle.std.specs.Prelude.{◌≡◌, ℕ, zero, suc, ◌-◌, ◌%◌, ◌<◌, ◌≤◌, List, map, Option, Some, None, slice_get, if◌then◌else◌, ◌==◌}
use Rattle.ix_extension.specs.Extensions.{view_extension}
use Rattle.ix_plan.specs.declared.design.Design.{Design}
use Rattle.rv_lawful.specs.Headline.{IsRecord}
use Rattle.rv_lawful.specs.Settings.{Setting}
use Rattle.rv_seq.specs.declared.commit.Commit.{Commit}
use Rattle.rv_seq.specs.Runs.{run}
use Rattle.rv_harts.specs.declared.row.BarrelCell.{BarrelCell}
use Rattle.rv_harts.specs.declared.row.BarrelRow.{BarrelRow}
use Rattle.rv_harts.specs.HartRows.{hart_row}
use Rattle.rv_harts.specs.BarrelRows.{hart_setting, row_of_two, barrel_row}
use Rattle.rv_harts.specs.HartStates.{part_at, retirements, applied_state}

-- Slots

-- row n has a slot of hart h in this stage: what was fetched in a row of the hart's parity stands there
pub record IsSlot (h n stage : ℕ) : Type 0 where
  pub begun : stage ≤ n
  pub parity : (n - stage) % 2 ≡ h

-- a cell of a hart stands in a slot of its hart
abbrev pub SlotLaw : Type 0
SlotLaw = (k : Setting) (h n stage : ℕ) (c : BarrelCell) → slice_get (hart_row k h n).cells stage ≡ Some (Some c) → IsSlot h n stage

-- so two harts never meet in a stage
abbrev pub ApartLaw : Type 0
ApartLaw = (a b : Setting) (n stage : ℕ) (c d : BarrelCell) → slice_get (hart_row a 0 n).cells stage ≡ Some (Some c) → slice_get (hart_row b 1 n).cells stage ≡ Some (Some d) → ⊥

-- Rows

-- a cell, where it is one of this hart
abbrev pub own_cell : ℕ → Option BarrelCell → Option BarrelCell
own_cell h None = None
own_cell h (Some c) = if c.hart == h then Some c else None

-- the row shows hart h in its row n, as it is by itself: its cells and its part are these
pub record ShowsHart (k : Setting) (h n : ℕ) (row : BarrelRow) : Type 0 where
  pub cells : map (own_cell h) row.cells ≡ (hart_row k h n).cells
  pub part : slice_get row.parts h ≡ Some (hart_row k h n).part

-- a row of two harts shows each of them
pub record TwoLaw : Type 0 where
  pub first : (a b : Setting) (n : ℕ) → ShowsHart a 0 n (row_of_two a b n)
  pub second : (a b : Setting) (n : ℕ) → ShowsHart b 1 n (row_of_two a b n)

-- the image of hart h, of these two
abbrev pub image_of : List ℕ → List ℕ → ℕ → List ℕ
image_of a b zero = a
image_of a b (suc h) = b

-- so does each row of a design with two images: each hart's part of a row is that of its own image
abbrev pub RowsLaw : Type 0
RowsLaw = (d : Design) (a b : List ℕ) (h n : ℕ) → h < 2 → ShowsHart (hart_setting d (image_of a b h)) h n (barrel_row d a b n)

-- two rows have equal cells and parts of hart h
pub record IsSameFor (h : ℕ) (row other : BarrelRow) : Type 0 where
  pub cells : map (own_cell h) row.cells ≡ map (own_cell h) other.cells
  pub part : slice_get row.parts h ≡ slice_get other.parts h

-- the rows of a hart do not depend on the image of the other one
abbrev pub IsolationLaw : Type 0
IsolationLaw =
    (d : Design) (a b c e : List ℕ) (h n : ℕ) → h < 2 → image_of a b h ≡ image_of c e h → IsSameFor h (barrel_row d a b n) (barrel_row d c e n)

-- Runs: what the machine's crate proves of a design that stands, has no Tight behaviour, and whose last stage is at most one behind MEM

-- what a hart retires is the next record of its own run
abbrev pub PrefixLaw : Design → List ℕ → Type 0
PrefixLaw d image =
    (h n s : ℕ) (c : Commit) → h < 2 → (part_at (hart_setting d image) h n).retired ≡ Some (s, c) →
    IsRecord (hart_setting d image) (retirements (hart_setting d image) h n) c

-- its state with the outstanding writes applied is that of its own run
abbrev pub StateLaw : Design → List ℕ → Type 0
StateLaw d image =
    (h n : ℕ) → h < 2 →
    applied_state (view_extension d.extension) (hart_setting d image) h n ≡ run (view_extension d.extension) image (retirements (hart_setting d image) h n)
