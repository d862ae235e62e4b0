-- The rows of two harts that take turns in one pipeline, each on its own image (this project's choice).
use Rattle.std.specs.Prelude.{ℕ, List, [], ◌∷◌, get_or, Option, None, false}
use Rattle.std.specs.Option.{option_or}
use Rattle.ix_eval.specs.Tables.{table}
use Rattle.ix_plan.specs.declared.design.Design.{Design}
use Rattle.rv_core.specs.declared.Shape.{Shape}
use Rattle.rv_lawful.specs.Settings.{Setting, setting}
use Rattle.rv_harts.specs.declared.row.BarrelCell.{BarrelCell}
use Rattle.rv_harts.specs.declared.row.BarrelRow.{BarrelRow}
use Rattle.rv_harts.specs.HartRows.{HartRow, hart_row}

-- of a core the numbers of its stages alone: nothing is forwarded, and nothing is predicted
abbrev pub in_turns : Shape → Shape
in_turns s = record { stages = s.stages; rd = s.rd; ex = s.ex; mem = s.mem; forward = false; predict = false; trap = s.trap; lawful = s.lawful }

-- the same on such a core
abbrev pub turning : Setting → Setting
turning k =
    record {
      image = k.image;
      waits = k.waits;
      lines = k.lines;
      entries = k.entries;
      shape = in_turns k.shape;
      course = k.course;
      asks = k.asks;
      units = k.units;
      initial = k.initial;
      jump = k.jump;
    }

-- what a hart goes by: a design with its own image, over a memory that never waits, without an interrupt line
abbrev pub hart_setting : Design → List ℕ → Setting
hart_setting d image = turning (setting d image [] None [])

-- the cell of one hart or of the other
abbrev pub cell_of_two : HartRow → HartRow → ℕ → Option BarrelCell
cell_of_two first second stage = option_or (get_or first.cells stage None) (get_or second.cells stage None)

-- both in one row
abbrev pub joined : HartRow → HartRow → BarrelRow
joined first second = record { cells = table (cell_of_two first second) 5; parts = first.part ∷ second.part ∷ [] }

-- row n of two harts that go by these
abbrev pub row_of_two : Setting → Setting → ℕ → BarrelRow
row_of_two a b n = joined (hart_row a 0 n) (hart_row b 1 n)

-- row n of a design with these two images
unfoldable pub barrel_row : Design → List ℕ → List ℕ → ℕ → BarrelRow
barrel_row d a b n = row_of_two (hart_setting d a) (hart_setting d b) n
