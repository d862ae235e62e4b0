-- The rows of the base table: pattern, format, and the row that a word matches (RISC-V Unprivileged ISA, RV32I).
use Rattle.std.specs.Prelude.{ℕ, ◌≡◌, List, [], ◌∷◌, Option, position, slice_index_or, bit_and}
use Rattle.ix_bits.specs.BaseTable.{base_patterns, is_match}
use Rattle.rv_isa.specs.declared.table.Format.{Format}
use Rattle.rv_isa.specs.declared.table.Format.TheVariants.{Register, Immediate, Shift, Store, Branch, Upper, Jump, Fixed}

-- the format of each row, in the order of the rows
unfoldable pub base_formats : List Format
base_formats =
    Upper ∷  -- LUI
    Upper ∷  -- AUIPC
    Jump ∷  -- JAL
    Immediate ∷  -- JALR
    Branch ∷  -- BEQ
    Branch ∷  -- BNE
    Branch ∷  -- BLT
    Branch ∷  -- BGE
    Branch ∷  -- BLTU
    Branch ∷  -- BGEU
    Immediate ∷  -- LB
    Immediate ∷  -- LH
    Immediate ∷  -- LW
    Immediate ∷  -- LBU
    Immediate ∷  -- LHU
    Store ∷  -- SB
    Store ∷  -- SH
    Store ∷  -- SW
    Immediate ∷  -- ADDI
    Immediate ∷  -- SLTI
    Immediate ∷  -- SLTIU
    Immediate ∷  -- XORI
    Immediate ∷  -- ORI
    Immediate ∷  -- ANDI
    Shift ∷  -- SLLI
    Shift ∷  -- SRLI
    Shift ∷  -- SRAI
    Register ∷  -- ADD
    Register ∷  -- SUB
    Register ∷  -- SLL
    Register ∷  -- SLT
    Register ∷  -- SLTU
    Register ∷  -- XOR
    Register ∷  -- SRL
    Register ∷  -- SRA
    Register ∷  -- OR
    Register ∷  -- AND
    Immediate ∷  -- FENCE
    Fixed ∷  -- ECALL
    Fixed ∷  -- EBREAK
    []

-- mask and match of a row below 40
unfoldable pub pattern_of : ℕ → ℕ × ℕ
pattern_of row = slice_index_or base_patterns row (0, 0)

-- the format of a row below 40
unfoldable pub format_of : ℕ → Format
format_of row = slice_index_or base_formats row Fixed

-- the word matches the pattern of the row
abbrev pub Matches : ℕ → ℕ → Type 0
Matches word row = bit_and word (pattern_of row).0 ≡ (pattern_of row).1

-- the row whose pattern the word matches; no word matches two
unfoldable pub row_of : ℕ → Option ℕ
row_of word = position (is_match word) base_patterns
