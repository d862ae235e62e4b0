-- The operands of a line: their kinds for each form, read one after another (this project's choice).
use Rattle.std.specs.Prelude.{ℕ, ◌<◌, List, [], ◌∷◌, length, Option, Some, None, false, Result, Ok, Err, ◌==◌, if◌then◌else◌}
use Rattle.rv_asm_text.specs.Lines.{indexed_of}
use Rattle.rv_asm_text.specs.Names.{register_of}
use Rattle.rv_asm_text.specs.Numbers.{number_of}
use Rattle.rv_asm.specs.declared.form.Form.{Form}
use Rattle.rv_asm.specs.declared.form.Form.TheVariants as F
use Rattle.rv_asm.specs.declared.label.Target.{Target}
use Rattle.rv_asm.specs.declared.label.Target.TheVariants as T
use Rattle.rv_asm.specs.declared.reading.OperandKind.{OperandKind}
use Rattle.rv_asm.specs.declared.reading.OperandKind.TheVariants as K
use Rattle.rv_asm.specs.declared.reading.Operands.{Operands}
use Rattle.rv_asm.specs.declared.reading.Unread.{Unread}
use Rattle.rv_asm.specs.declared.reading.Unread.TheVariants as U
use Rattle.rv_asm.specs.Labels.{Places, target_of}

-- ---- forms
-- rd, n(rs1)
abbrev pub load_kinds : List OperandKind
load_kinds = K.Rd ∷ K.Indexed ∷ []

-- rd, rs1, n
abbrev pub number_kinds : List OperandKind
number_kinds = K.Rd ∷ K.Rs1 ∷ K.Number ∷ []

-- the kinds of the operands of a form, where so many are written: only `jalr` has two ways to be written
unfoldable pub kinds_of : Form → ℕ → List OperandKind
kinds_of F.Registers count = K.Rd ∷ K.Rs1 ∷ K.Rs2 ∷ []
kinds_of F.Number count = number_kinds
kinds_of F.Load count = load_kinds
kinds_of F.Store count = K.Rs2 ∷ K.Indexed ∷ []
kinds_of F.Branch count = K.Rs1 ∷ K.Rs2 ∷ K.Target ∷ []
kinds_of F.Upper count = K.Rd ∷ K.Number ∷ []
kinds_of F.Jump count = K.Rd ∷ K.Target ∷ []
kinds_of F.JumpRegister count = if count == 2 then load_kinds else number_kinds
kinds_of F.Fence count = []
kinds_of F.Bare count = []
kinds_of F.Move count = K.Rd ∷ K.Rs1 ∷ []
kinds_of F.Goto count = K.Target ∷ []
kinds_of F.Return count = []
kinds_of F.Word count = K.Number ∷ []

-- registers x0 and the number 0, but for this register that is read and the size of this number
abbrev pub plain_start : ℕ → ℕ → Operands
plain_start rs1 size = record { rd = 0; rs1 = rs1; rs2 = 0; number = record { is_negative = false; size = size } }

-- what a form says before its operands are read: a fence orders all reads and writes, and `ret` jumps to x1
unfoldable pub start_of : Form → Operands
start_of F.Registers = plain_start 0 0
start_of F.Number = plain_start 0 0
start_of F.Load = plain_start 0 0
start_of F.Store = plain_start 0 0
start_of F.Branch = plain_start 0 0
start_of F.Upper = plain_start 0 0
start_of F.Jump = plain_start 0 0
start_of F.JumpRegister = plain_start 0 0
start_of F.Fence = plain_start 0 255
start_of F.Bare = plain_start 0 0
start_of F.Move = plain_start 0 0
start_of F.Goto = plain_start 0 0
start_of F.Return = plain_start 1 0
start_of F.Word = plain_start 0 0

-- ---- operands
-- the numbers of registers are those of registers
pub record AreRegisters (o : Operands) : Type 0 where
  pub rd : o.rd < 32
  pub rs1 : o.rs1 < 32
  pub rs2 : o.rs2 < 32

-- what operands say, or why they are not read
abbrev pub Read : Type 0
Read = Result Operands Unread

-- goes on with what was read, and is Line where it was not
abbrev pub taken : {X : Type 0} → Option X → (X → Read) → Read
taken None next = Err U.Line
taken (Some x) next = next x

-- goes on behind operands that were read
abbrev pub behind : Read → (Operands → Read) → Read
behind (Ok o) next = next o
behind (Err e) next = Err e

-- what a target says behind other operands
abbrev pub with_target : Target → Operands → Read
with_target T.Bad o = Err U.Line
with_target T.Unknown o = Err U.Label
with_target (T.By n) o = Ok (record { rd = o.rd; rs1 = o.rs1; rs2 = o.rs2; number = n })

-- an operand of a kind behind others, for the word at this place
abbrev pub read_operand : Places → ℕ → OperandKind → List ℕ → Operands → Read
read_operand places at K.Rd text o = taken (register_of text) (λ r. Ok (record { rd = r; rs1 = o.rs1; rs2 = o.rs2; number = o.number }))
read_operand places at K.Rs1 text o = taken (register_of text) (λ r. Ok (record { rd = o.rd; rs1 = r; rs2 = o.rs2; number = o.number }))
read_operand places at K.Rs2 text o = taken (register_of text) (λ r. Ok (record { rd = o.rd; rs1 = o.rs1; rs2 = r; number = o.number }))
read_operand places at K.Number text o = taken (number_of text) (λ n. Ok (record { rd = o.rd; rs1 = o.rs1; rs2 = o.rs2; number = n }))
read_operand places at K.Target text o = with_target (target_of places at text) o
read_operand places at K.Indexed text o =
    taken (indexed_of text) (λ parts. taken (register_of parts.1) (λ r. taken (number_of parts.0) (λ n. Ok (record { rd = o.rd; rs1 = r; rs2 = o.rs2; number = n }))))

-- one after another
abbrev pub read_each : Places → ℕ → List OperandKind → List (List ℕ) → Operands → Read
read_each places at [] texts o = Ok o
read_each places at (k ∷ ks) [] o = Err U.Line
read_each places at (k ∷ ks) (text ∷ texts) o = behind (read_operand places at k text o) (λ p. read_each places at ks texts p)

-- as many as there are kinds, one after another
abbrev pub read_operands : Places → ℕ → List OperandKind → List (List ℕ) → Operands → Read
read_operands places at kinds texts o = if length texts == length kinds then read_each places at kinds texts o else Err U.Line
