-- The base table: the mask and the match of each instruction of RV32I, from opcode, funct3 and, where it is fixed, funct7
-- (RISC-V Unprivileged ISA, RV32I Base Integer Instruction Set, instruction listings).
use Rattle.std.specs.Prelude.{ℕ, ◌==◌, nat_lt, Bool, List, [], ◌∷◌, bit_and, bit_xor}

-- the word has the bits of the pattern's match under the pattern's mask
abbrev pub is_match : ℕ → ℕ × ℕ → Bool
is_match word pattern = bit_and word pattern.0 == pattern.1

-- two patterns whose matches differ under both masks: no word matches both
abbrev pub are_apart : ℕ × ℕ → ℕ × ℕ → Bool
are_apart p q = nat_lt 0 (bit_and (bit_xor p.1 q.1) (bit_and p.0 q.0))

-- mask and match of each row, in this project's order of the rows
unfoldable pub base_patterns : List (ℕ × ℕ)
base_patterns =
    (0x0000007f, 0x00000037) ∷  -- LUI
    (0x0000007f, 0x00000017) ∷  -- AUIPC
    (0x0000007f, 0x0000006f) ∷  -- JAL
    (0x0000707f, 0x00000067) ∷  -- JALR
    (0x0000707f, 0x00000063) ∷  -- BEQ
    (0x0000707f, 0x00001063) ∷  -- BNE
    (0x0000707f, 0x00004063) ∷  -- BLT
    (0x0000707f, 0x00005063) ∷  -- BGE
    (0x0000707f, 0x00006063) ∷  -- BLTU
    (0x0000707f, 0x00007063) ∷  -- BGEU
    (0x0000707f, 0x00000003) ∷  -- LB
    (0x0000707f, 0x00001003) ∷  -- LH
    (0x0000707f, 0x00002003) ∷  -- LW
    (0x0000707f, 0x00004003) ∷  -- LBU
    (0x0000707f, 0x00005003) ∷  -- LHU
    (0x0000707f, 0x00000023) ∷  -- SB
    (0x0000707f, 0x00001023) ∷  -- SH
    (0x0000707f, 0x00002023) ∷  -- SW
    (0x0000707f, 0x00000013) ∷  -- ADDI
    (0x0000707f, 0x00002013) ∷  -- SLTI
    (0x0000707f, 0x00003013) ∷  -- SLTIU
    (0x0000707f, 0x00004013) ∷  -- XORI
    (0x0000707f, 0x00006013) ∷  -- ORI
    (0x0000707f, 0x00007013) ∷  -- ANDI
    (0xfe00707f, 0x00001013) ∷  -- SLLI
    (0xfe00707f, 0x00005013) ∷  -- SRLI
    (0xfe00707f, 0x40005013) ∷  -- SRAI
    (0xfe00707f, 0x00000033) ∷  -- ADD
    (0xfe00707f, 0x40000033) ∷  -- SUB
    (0xfe00707f, 0x00001033) ∷  -- SLL
    (0xfe00707f, 0x00002033) ∷  -- SLT
    (0xfe00707f, 0x00003033) ∷  -- SLTU
    (0xfe00707f, 0x00004033) ∷  -- XOR
    (0xfe00707f, 0x00005033) ∷  -- SRL
    (0xfe00707f, 0x40005033) ∷  -- SRA
    (0xfe00707f, 0x00006033) ∷  -- OR
    (0xfe00707f, 0x00007033) ∷  -- AND
    (0x0000707f, 0x0000000f) ∷  -- FENCE
    (0xffffffff, 0x00000073) ∷  -- ECALL
    (0xffffffff, 0x00100073) ∷  -- EBREAK
    []
