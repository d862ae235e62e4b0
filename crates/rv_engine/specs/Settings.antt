-- What a pipeline with an extension is run on, and what its machine keeps between rows (this project's choice).
use Rattle.std.specs.Prelude.{ℕ, List, [], replicate, Option, Some, None, Bool, false, ◌&&◌, ◌||◌}
use Rattle.ix_bits.specs.declared.number.Bits.{Bits}
use Rattle.ix_extension.specs.Extensions.{ExtensionTree, view_extension}
use Rattle.ix_plan.specs.declared.design.Design.{Design}
use Rattle.rv_core.specs.declared.Shape.{Shape}
use Rattle.rv_seq.specs.declared.arch.Arch.{Arch}
use Rattle.rv_seq.specs.States.{first, initials}
use Rattle.rv_seq.specs.Interrupts.{with_line, is_enabled}
use Rattle.rv_waits.specs.Lines.{is_raised}
use Rattle.rv_unit.specs.declared.entry.Entry.{Entry}
use Rattle.rv_holds.specs.Tokens.{Slots}
use Rattle.rv_engine.specs.declared.owing.Owed.{Owed}
use Rattle.rv_engine.specs.Owing.{Outstanding, outstanding_of}

-- a design, an image, the waits of the memory, and the rows in which the interrupt line is raised, where there is one; and, for who judges the rows, the places at which the run goes to
-- the handler, at which no machine looks
pub record Setting : Type 0 where
  pub design : Design
  pub image : List ℕ
  pub waits : List ℕ
  pub lines : Option (List ℕ)
  pub places : List ℕ

-- a design over an image, with these waits and this interrupt line
abbrev pub setting : Design → List ℕ → List ℕ → Option (List ℕ) → Setting
setting d image waits lines = record { design = d; image = image; waits = waits; lines = lines; places = [] }

-- the stages of the core
abbrev pub shape_of : Setting → Shape
shape_of k = k.design.sheet.shape

-- the extension
abbrev pub tree_of : Setting → ExtensionTree
tree_of k = view_extension k.design.extension

-- the tokens, stage 0 first; the next fetch address and serial; the accesses of the tokens that have left MEM; for how many rows the token that stays in MEM has
-- stood there; the rows so far, and whether the line was raised before and not taken since; the future file, which tokens read at EX; the architectural state; what stands in units,
-- and what each of these still writes, both the newest first
pub record Machine : Type 0 where
  pub slots : Slots
  pub fetch : ℕ
  pub next : ℕ
  pub accesses : ℕ
  pub stood : ℕ
  pub rows : ℕ
  pub waiting : Bool
  pub future : List Bits
  pub arch : Arch
  pub entries : List Entry
  pub owed : List Owed

-- what is outstanding beside the stages
abbrev pub outstanding_in : Setting → Machine → Outstanding
outstanding_in k m = outstanding_of k.design m.entries m.owed

-- the first state, with an interrupt line or without one
abbrev pub first_state : ExtensionTree → Option (List ℕ) → Arch
first_state x None = first x
first_state x (Some lines) = with_line (first x)

-- is the line raised in this row? Without a line it never is
abbrev pub raised_in : Option (List ℕ) → ℕ → Bool
raised_in None row = false
raised_in (Some lines) row = is_raised lines row

-- is the line pending in the row that comes?
abbrev pub pending_by : Setting → Machine → Bool
pending_by k m = raised_in k.lines m.rows || m.waiting

-- is an interrupt to be taken in it?
abbrev pub interrupted_by : Setting → Machine → Bool
interrupted_by k m = pending_by k m && is_enabled m.arch.trap

-- before the first row
abbrev pub first_machine : Setting → Machine
first_machine k =
    record {
      slots = replicate (shape_of k).stages None;
      fetch = 0;
      next = 0;
      accesses = 0;
      stood = 0;
      rows = 0;
      waiting = false;
      future = initials (tree_of k).registers;
      arch = first_state (tree_of k) k.lines;
      entries = [];
      owed = [];
    }
