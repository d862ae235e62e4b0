-- When what is shown of a row is in form (this project's choice): numbers in the range of their types, registers that there are, and lines that are in form.
use Rattle.std.specs.Prelude.{◌≡◌, ℕ, suc, ◌<◌, ◌≤◌, List, [], ◌∷◌, ◌++◌, length, Option, Some, None, true}
use Rattle.ix_plan.specs.declared.design.Target.{Target}
use Rattle.ix_plan.specs.declared.design.Target.TheVariants.{X, Custom as custom_target}
use Rattle.rv_trace.specs.declared.row.Hold.{Hold}
use Rattle.rv_trace.specs.declared.row.Hold.TheVariants.{Operand, Board, Custom, Late, Trap, Drain, Wait, StoreAhead, Tail, UnitFull, Port, Behind}
use Rattle.rv_shown.specs.declared.shown.ShownCell.{ShownCell}
use Rattle.rv_shown.specs.Shown.{Shown}
use Rattle.rv_reader.specs.Words.{Free}
use Rattle.rv_reader.specs.Writes.{is_retired_line, is_written_line}

-- ---- numbers
-- 32 bits, and 8 bits
abbrev pub IsWord : ℕ → Type 0
IsWord n = n ≤ 4294967295

abbrev pub IsByte : ℕ → Type 0
IsByte n = n ≤ 255

-- one of so many custom registers
abbrev pub IsRegister : ℕ → ℕ → Type 0
IsRegister count k = IsByte k × (k < count)

abbrev pub IsX : ℕ → Type 0
IsX r = IsByte r × (r < 32)

-- ---- cells
abbrev pub IsTarget : ℕ → Target → Type 0
IsTarget count (X r) = IsX r
IsTarget count (custom_target k) = IsRegister count k

-- no hold of an interrupt
abbrev pub IsHold : ℕ → Hold → Type 0
IsHold count (Operand r j) = IsX r × IsWord j
IsHold count (Board t j) = IsTarget count t × IsWord j
IsHold count (Custom k j) = IsRegister count k × IsWord j
IsHold count (Late j) = IsWord j
IsHold count Trap = ⊥
IsHold count (Drain j) = IsWord j
IsHold count (Wait n) = IsByte n
IsHold count (StoreAhead j) = IsWord j
IsHold count (Tail n) = IsByte n
IsHold count (UnitFull n) = IsByte n
IsHold count (Port j) = IsWord j
IsHold count Behind = Unit {0}

abbrev pub IsHeld : ℕ → Option Hold → Type 0
IsHeld count None = Unit {0}
IsHeld count (Some hold) = IsHold count hold

abbrev pub IsCell : ℕ → Option ShownCell → Type 0
IsCell count None = Unit {0}
IsCell count (Some c) = IsWord c.serial × IsWord c.at × IsHeld count c.hold

abbrev pub AreCells : ℕ → List (Option ShownCell) → Type 0
AreCells count [] = Unit {0}
AreCells count (c ∷ cells) = IsCell count c × AreCells count cells

-- ---- marks
abbrev pub IsMark : Option ℕ → Type 0
IsMark None = Unit {0}
IsMark (Some n) = IsWord n

-- serials that ascend, from this one on
abbrev pub Ascend : ℕ → List ℕ → Type 0
Ascend low [] = Unit {0}
Ascend low (serial ∷ rest) = IsWord serial × (low ≤ serial) × Ascend (suc serial) rest

-- ---- lines behind that of a row
-- a line, with a line feed behind it
pub record IsLine (InForm : List ℕ → Type 0) (text : List ℕ) : Type 0 where
  pub line : List ℕ
  pub free : Free 10 line
  pub is : text ≡ line ++ 10 ∷ []
  pub in_form : InForm line

-- a line where there is a serial, and else nothing
abbrev pub IsLineOf : (List ℕ → Type 0) → Option ℕ → List ℕ → Type 0
IsLineOf InForm None text = text ≡ []
IsLineOf InForm (Some serial) text = IsLine InForm text

abbrev pub IsRetiredLine : List ℕ → List ℕ → Type 0
IsRetiredLine widths line = is_retired_line widths line ≡ true

abbrev pub IsWrittenLine : List ℕ → List ℕ → Type 0
IsWrittenLine widths line = is_written_line widths line ≡ true

-- ---- rows
-- what the line of a row shows, on a core with so many stages and custom registers
pub record IsRowLine (count stages : ℕ) (s : Shown) : Type 0 where
  pub stages_are : length s.cells ≡ stages
  pub cells : AreCells count s.cells
  pub retired : IsMark s.retired
  pub written : IsMark s.written
  pub few : length s.flushed ≤ stages
  pub flushed : Ascend 0 s.flushed
  pub redirect : IsMark s.redirect

-- what the lines of a row show; the custom registers have these widths
pub record IsRow (widths : List ℕ) (stages : ℕ) (s : Shown) : Type 0 where
  pub line : IsRowLine (length widths) stages s
  pub retired : IsLineOf (IsRetiredLine widths) s.retired s.retired_line
  pub written : IsLineOf (IsWrittenLine widths) s.written s.written_line
