-- The program that is drawn from a number (this project's choice; the words of instructions are those of RISC-V Unprivileged ISA, RV32I).
use Rattle.std.specs.Prelude.{ℕ, ◌+◌, ◌*◌, ◌%◌, ◌^◌, List, [], ◌∷◌, ◌++◌, length, map, get_or, bit_or, bit_and, pos}
use Rattle.std.specs.Int.{bit_not, w32}
use Rattle.std.specs.List.{range_with_len}
use Rattle.rv_isa.specs.declared.base.Base.{Base}
use Rattle.rv_isa.specs.declared.rows.TheConstants.{LUI, LW, SW, ADDI, SLLI, ADD, SUB, XOR, EBREAK}
use Rattle.rv_isa.specs.Fields.{signed}
use Rattle.rv_isa.specs.Encoded.{encoded}
use Rattle.ix_extension.specs.Extensions.{InstructionTree, ExtensionTree}
use Rattle.rv_bench.specs.declared.draws.Draws.{Draws}
use Rattle.rv_bench.specs.Drawing.{draws_of}

-- a destination from x1 to x30, so that x31 stays as it is
abbrev pub rd : Draws → ℕ
rd d = d.destination % 30 + 1

abbrev pub rs1 : Draws → ℕ
rs1 d = d.first % 32

abbrev pub rs2 : Draws → ℕ
rs2 d = d.second % 32

-- the offset of one of the first 512 words of the memory
abbrev pub offset : Draws → ℕ
offset d = 4 * (d.value % 512)

-- an instruction of two registers
abbrev pub of_registers : ℕ → Draws → Base
of_registers row d = record { row = row; rd = rd d; rs1 = rs1 d; rs2 = rs2 d; imm = pos 0 }

-- the eight instructions of the base set that a draw chooses from: stores and loads are relative to x31
abbrev pub bases : Draws → List Base
bases d =
    record { row = ADDI; rd = rd d; rs1 = rs1 d; rs2 = 0; imm = signed 12 (d.value % 4096) } ∷
    of_registers ADD d ∷
    of_registers SUB d ∷
    of_registers XOR d ∷
    record { row = LUI; rd = rd d; rs1 = 0; rs2 = 0; imm = signed 32 (d.value % 2 ^ 20 * 2 ^ 12) } ∷
    record { row = SLLI; rd = rd d; rs1 = rs1 d; rs2 = 0; imm = pos (d.value % 32) } ∷
    record { row = SW; rd = 0; rs1 = 31; rs2 = rs2 d; imm = pos (offset d) } ∷
    record { row = LW; rd = rd d; rs1 = 31; rs2 = 0; imm = pos (offset d) } ∷
    []

-- 32 bits for what an encoding leaves open
abbrev pub open_bits : Draws → ℕ
open_bits d = 2 ^ 24 * (d.second % 256) + d.value

-- an instruction of the extension: its fixed bits, and drawn ones in all other places
abbrev pub extension_word : Draws → InstructionTree → ℕ
extension_word d i = bit_or i.matches (bit_and (open_bits d) (bit_not w32 i.mask))

-- the words that a draw chooses from: those of the base set, and one for each instruction of the extension, in their order
abbrev pub candidates : List InstructionTree → Draws → List ℕ
candidates instructions d = map (λ b. encoded b) (bases d) ++ map (extension_word d) instructions

-- the word that the draws choose
abbrev pub drawn_word : List InstructionTree → Draws → ℕ
drawn_word instructions d = get_or (candidates instructions d) (d.choice % (8 + length instructions)) 0

-- so many words, each of its own five draws
abbrev pub drawn_words : ExtensionTree → ℕ → ℕ → List ℕ
drawn_words x number count = map (λ place. drawn_word x.instructions (draws_of number place)) (range_with_len 0 count)

-- x31 is the address of the memory
abbrev pub first_word : ℕ
first_word = encoded (record { row = LUI; rd = 31; rs1 = 0; rs2 = 0; imm = signed 32 (2 ^ 31) })

-- the last word ends the run
abbrev pub last_word : ℕ
last_word = encoded (record { row = EBREAK; rd = 0; rs1 = 0; rs2 = 0; imm = pos 0 })

-- the image of so many words that are drawn from a number, between the first and the last
abbrev pub drawn_image : ExtensionTree → ℕ → ℕ → List ℕ
drawn_image x number count = first_word ∷ (drawn_words x number count ++ last_word ∷ [])
