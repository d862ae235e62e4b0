-- The names of registers (RISC-V Unprivileged ISA, "RISC-V Assembly Programmer's Handbook") and of what a line may say
-- (RV32I Base Integer Instruction Set; the short forms are among the handbook's, and `.word` is the usual directive).
use Rattle.std.specs.Prelude.{◌==◌, ◌%◌, ℕ, List, [], ◌∷◌, codes, Option, option_map, if◌then◌else◌}
use Rattle.std.specs.List.{position}
use Rattle.ix_tree.specs.Lexing.{same_bytes}

-- the registers by number, first as x0 to x31 and then by use; fp is another name of register 8
abbrev pub register_names : List (List ℕ)
register_names =
    codes "x0" ∷ codes "x1" ∷ codes "x2" ∷ codes "x3" ∷ codes "x4" ∷ codes "x5" ∷ codes "x6" ∷ codes "x7" ∷ codes "x8"
    ∷ codes "x9" ∷ codes "x10" ∷ codes "x11" ∷ codes "x12" ∷ codes "x13" ∷ codes "x14" ∷ codes "x15" ∷ codes "x16" ∷ codes "x17"
    ∷ codes "x18" ∷ codes "x19" ∷ codes "x20" ∷ codes "x21" ∷ codes "x22" ∷ codes "x23" ∷ codes "x24" ∷ codes "x25" ∷ codes "x26"
    ∷ codes "x27" ∷ codes "x28" ∷ codes "x29" ∷ codes "x30" ∷ codes "x31" ∷ codes "zero" ∷ codes "ra" ∷ codes "sp" ∷ codes "gp"
    ∷ codes "tp" ∷ codes "t0" ∷ codes "t1" ∷ codes "t2" ∷ codes "s0" ∷ codes "s1" ∷ codes "a0" ∷ codes "a1" ∷ codes "a2"
    ∷ codes "a3" ∷ codes "a4" ∷ codes "a5" ∷ codes "a6" ∷ codes "a7" ∷ codes "s2" ∷ codes "s3" ∷ codes "s4" ∷ codes "s5"
    ∷ codes "s6" ∷ codes "s7" ∷ codes "s8" ∷ codes "s9" ∷ codes "s10" ∷ codes "s11" ∷ codes "t3" ∷ codes "t4" ∷ codes "t5"
    ∷ codes "t6" ∷ codes "fp" ∷ []

-- the number of the register with the name at this place
abbrev pub register_at : ℕ → ℕ
register_at place = if place == 64 then 8 else place % 32

-- the register of a name
unfoldable pub register_of : List ℕ → Option ℕ
register_of word = option_map register_at (position (λ name. same_bytes name word) register_names)

-- the 40 rows of the base table in their order, and five short forms behind them
abbrev pub mnemonics : List (List ℕ)
mnemonics =
    codes "lui" ∷ codes "auipc" ∷ codes "jal" ∷ codes "jalr" ∷ codes "beq" ∷ codes "bne" ∷ codes "blt" ∷ codes "bge"
    ∷ codes "bltu" ∷ codes "bgeu" ∷ codes "lb" ∷ codes "lh" ∷ codes "lw" ∷ codes "lbu" ∷ codes "lhu" ∷ codes "sb" ∷ codes "sh"
    ∷ codes "sw" ∷ codes "addi" ∷ codes "slti" ∷ codes "sltiu" ∷ codes "xori" ∷ codes "ori" ∷ codes "andi" ∷ codes "slli"
    ∷ codes "srli" ∷ codes "srai" ∷ codes "add" ∷ codes "sub" ∷ codes "sll" ∷ codes "slt" ∷ codes "sltu" ∷ codes "xor"
    ∷ codes "srl" ∷ codes "sra" ∷ codes "or" ∷ codes "and" ∷ codes "fence" ∷ codes "ecall" ∷ codes "ebreak" ∷ codes "nop"
    ∷ codes "mv" ∷ codes "j" ∷ codes "ret" ∷ codes ".word" ∷ []

-- the place of a name among them
unfoldable pub mnemonic_of : List ℕ → Option ℕ
mnemonic_of word = position (λ name. same_bytes name word) mnemonics
