-- What the instructions of each row of the base table do, in the order of the table (RISC-V Unprivileged ISA, RV32I Base Integer Instruction Set).
use Rattle.std.specs.Prelude.{ℕ, List, [], ◌∷◌, get_or}
use Rattle.rv_base.specs.declared.operation.Alu.{Alu}
use Rattle.rv_base.specs.declared.operation.Alu.TheVariants.{Add, Sub, ShiftLeft, LessSigned, Less, Xor, ShiftRight, ShiftRightSigned, Or, And}
use Rattle.rv_base.specs.declared.operation.Test.{Test}
use Rattle.rv_base.specs.declared.operation.Test.TheVariants as test
use Rattle.rv_base.specs.declared.operation.Size.{Size}
use Rattle.rv_base.specs.declared.operation.Size.TheVariants as size
use Rattle.rv_base.specs.declared.operation.Operation.{Operation}
use Rattle.rv_base.specs.declared.operation.Operation.TheVariants.{Upper, UpperFromPc, Jump, JumpRegister, Branch, Load, LoadUnsigned, Store, Immediate, Register, Fence, Call, Break}

-- how many bytes are loaded or stored
abbrev pub bytes_in : Size → ℕ
bytes_in size.Byte = 1
bytes_in size.Half = 2
bytes_in size.Word = 4

-- the operations of the 40 rows
abbrev pub operations : List Operation
operations =
    -- LUI, AUIPC, JAL, JALR
    Upper ∷ UpperFromPc ∷ Jump ∷ JumpRegister
    -- BEQ, BNE, BLT, BGE, BLTU, BGEU
    ∷ Branch test.Equal ∷ Branch test.NotEqual ∷ Branch test.LessSigned ∷ Branch test.AtLeastSigned ∷ Branch test.Less ∷ Branch test.AtLeast
    -- LB, LH, LW, LBU, LHU
    ∷ Load size.Byte ∷ Load size.Half ∷ Load size.Word ∷ LoadUnsigned size.Byte ∷ LoadUnsigned size.Half
    -- SB, SH, SW
    ∷ Store size.Byte ∷ Store size.Half ∷ Store size.Word
    -- ADDI, SLTI, SLTIU, XORI, ORI, ANDI, SLLI, SRLI, SRAI
    ∷ Immediate Add ∷ Immediate LessSigned ∷ Immediate Less ∷ Immediate Xor ∷ Immediate Or ∷ Immediate And ∷ Immediate ShiftLeft ∷ Immediate ShiftRight
    ∷ Immediate ShiftRightSigned
    -- ADD, SUB, SLL, SLT, SLTU, XOR, SRL, SRA, OR, AND
    ∷ Register Add ∷ Register Sub ∷ Register ShiftLeft ∷ Register LessSigned ∷ Register Less ∷ Register Xor ∷ Register ShiftRight ∷ Register ShiftRightSigned
    ∷ Register Or ∷ Register And
    -- FENCE, ECALL, EBREAK
    ∷ Fence ∷ Call ∷ Break ∷ []

abbrev pub operation_at : ℕ → Operation
operation_at row = get_or operations row Break
