-- The forms of the mnemonics, a line each, and the words of the base instructions
-- (RISC-V Unprivileged ISA, RV32I Base Integer Instruction Set; the short forms as in its "RISC-V Assembly Programmer's Handbook").
use Rattle.std.specs.Prelude.{ℕ, ◌-◌, ◌*◌, ◌%◌, ◌^◌, ℤ, pos, ◌-ℤ◌, List, [], ◌∷◌, Bool, true, false, ◌==◌, if◌then◌else◌, nat_le, nat_lt, slice_index_or}
use Rattle.rv_isa.specs.Table.{format_of}
use Rattle.rv_isa.specs.Fields.{upper_of}
use Rattle.rv_isa.specs.Encoded.{encoded}
use Rattle.rv_isa.specs.declared.base.Base.{Base}
use Rattle.rv_isa.specs.declared.table.Format.{Format}
use Rattle.rv_isa.specs.declared.table.Format.TheVariants as F
use Rattle.rv_asm_text.specs.declared.number.Number.{Number}
use Rattle.rv_asm_text.specs.declared.verdict.Verdict.{Verdict}
use Rattle.rv_asm_text.specs.declared.verdict.Verdict.TheVariants as V
use Rattle.rv_asm.specs.declared.form.Form.{Form}
use Rattle.rv_asm.specs.declared.form.Form.TheVariants.{Registers, Number as with_number, Load, Store, Branch, Upper, Jump, JumpRegister, Fence, Bare, Move, Goto, Return, Word}

-- how the operands are written, in the order of the mnemonics: the 40 rows of the base table, and five short forms
unfoldable pub forms : List Form
forms =
    Upper ∷  -- lui
    Upper ∷  -- auipc
    Jump ∷  -- jal
    JumpRegister ∷  -- jalr
    Branch ∷  -- beq
    Branch ∷  -- bne
    Branch ∷  -- blt
    Branch ∷  -- bge
    Branch ∷  -- bltu
    Branch ∷  -- bgeu
    Load ∷  -- lb
    Load ∷  -- lh
    Load ∷  -- lw
    Load ∷  -- lbu
    Load ∷  -- lhu
    Store ∷  -- sb
    Store ∷  -- sh
    Store ∷  -- sw
    with_number ∷  -- addi
    with_number ∷  -- slti
    with_number ∷  -- sltiu
    with_number ∷  -- xori
    with_number ∷  -- ori
    with_number ∷  -- andi
    with_number ∷  -- slli
    with_number ∷  -- srli
    with_number ∷  -- srai
    Registers ∷  -- add
    Registers ∷  -- sub
    Registers ∷  -- sll
    Registers ∷  -- slt
    Registers ∷  -- sltu
    Registers ∷  -- xor
    Registers ∷  -- srl
    Registers ∷  -- sra
    Registers ∷  -- or
    Registers ∷  -- and
    Fence ∷  -- fence
    Bare ∷  -- ecall
    Bare ∷  -- ebreak
    Bare ∷  -- nop
    Move ∷  -- mv
    Goto ∷  -- j
    Return ∷  -- ret
    Word ∷  -- .word
    []

unfoldable pub form_of : ℕ → Form
form_of place = slice_index_or forms place Bare

-- the row of the base table: j is made of jal, ret of jalr, and the other short forms of addi
abbrev pub row_of : ℕ → ℕ
row_of place = if nat_lt place 40 then place else if place == 42 then 2 else if place == 43 then 3 else 18

-- ---- ranges
abbrev pub zero_number : Number
zero_number = record { is_negative = false; size = 0 }

-- from -2^k to 2^k - 1
abbrev pub is_signed : ℕ → Number → Bool
is_signed k n = if n.is_negative then nat_le n.size (2 ^ k) else nat_lt n.size (2 ^ k)

-- from 0 to 2^k - 1
abbrev pub is_unsigned : ℕ → Number → Bool
is_unsigned k n = if n.is_negative then false else nat_lt n.size (2 ^ k)

abbrev pub is_even : Number → Bool
is_even n = n.size % 2 == 0

-- the number is one that a line may give to a row of this format: a shift from 0 to 31, 20 bits for LUI and AUIPC, and else what the immediate holds
abbrev pub is_in_reach : Format → Number → Bool
is_in_reach F.Register n = true
is_in_reach F.Immediate n = is_signed 11 n
is_in_reach F.Shift n = is_unsigned 5 n
is_in_reach F.Store n = is_signed 11 n
is_in_reach F.Branch n = if is_even n then is_signed 12 n else false
is_in_reach F.Upper n = is_unsigned 20 n
is_in_reach F.Jump n = if is_even n then is_signed 20 n else false
is_in_reach F.Fixed n = true

-- ---- instructions
abbrev pub whole_of : Number → ℤ
whole_of n = if n.is_negative then pos 0 -ℤ pos n.size else pos n.size

-- the instruction of a row of this format; what the format lacks is 0, and the number of LUI and AUIPC stands in bits 31 to 12
abbrev pub base_of : Format → ℕ → ℕ → ℕ → ℕ → Number → Base
base_of F.Register row rd rs1 rs2 n = record { row = row; rd = rd; rs1 = rs1; rs2 = rs2; imm = pos 0 }
base_of F.Immediate row rd rs1 rs2 n = record { row = row; rd = rd; rs1 = rs1; rs2 = 0; imm = whole_of n }
base_of F.Shift row rd rs1 rs2 n = record { row = row; rd = rd; rs1 = rs1; rs2 = 0; imm = whole_of n }
base_of F.Store row rd rs1 rs2 n = record { row = row; rd = 0; rs1 = rs1; rs2 = rs2; imm = whole_of n }
base_of F.Branch row rd rs1 rs2 n = record { row = row; rd = 0; rs1 = rs1; rs2 = rs2; imm = whole_of n }
base_of F.Upper row rd rs1 rs2 n = record { row = row; rd = rd; rs1 = 0; rs2 = 0; imm = upper_of (n.size * 2 ^ 12) }
base_of F.Jump row rd rs1 rs2 n = record { row = row; rd = rd; rs1 = 0; rs2 = 0; imm = whole_of n }
base_of F.Fixed row rd rs1 rs2 n = record { row = row; rd = 0; rs1 = 0; rs2 = 0; imm = pos 0 }

-- the word of a base instruction, or Reach
unfoldable pub base_verdict : ℕ → ℕ → ℕ → ℕ → Number → Verdict
base_verdict row rd rs1 rs2 n = if is_in_reach (format_of row) n then V.Word (encoded (base_of (format_of row) row rd rs1 rs2 n)) else V.Reach

-- a word from -2^31 to 2^32 - 1, taken modulo 2^32
unfoldable pub word_verdict : Number → Verdict
word_verdict n =
    if n.is_negative then (if nat_le n.size (2 ^ 31) then V.Word ((2 ^ 32 - n.size) % 2 ^ 32) else V.Reach)
    else (if nat_lt n.size (2 ^ 32) then V.Word n.size else V.Reach)
