-- The word of an instruction of RV32I
-- (RISC-V Unprivileged ISA, RV32I, Base Instruction Formats and Immediate Encoding Variants).
use Rattle.std.specs.Prelude.{ℕ, ◌+◌, ◌*◌, ◌^◌}
use Rattle.std.specs.Int.{cast_unsigned, w32}
use Rattle.rv_isa.specs.Table.{format_of, pattern_of}
use Rattle.rv_isa.specs.Fields.{bits_of}
use Rattle.rv_isa.specs.declared.base.Base.{Base}
use Rattle.rv_isa.specs.declared.table.Format.{Format}
use Rattle.rv_isa.specs.declared.table.Format.TheVariants.{Register, Immediate, Shift, Store, Branch, Upper, Jump, Fixed}

-- imm[high:low] of the immediate in two's complement of 32 bits
abbrev pub imm_of : Base → ℕ → ℕ → ℕ
imm_of b high low = bits_of (cast_unsigned w32 b.imm) high low

-- the fields, each in its place in the word
unfoldable pub placed : Format → Base → ℕ
placed Register b = b.rs2 * 2 ^ 20 + b.rs1 * 2 ^ 15 + b.rd * 2 ^ 7
placed Immediate b = imm_of b 11 0 * 2 ^ 20 + b.rs1 * 2 ^ 15 + b.rd * 2 ^ 7
placed Shift b = imm_of b 4 0 * 2 ^ 20 + b.rs1 * 2 ^ 15 + b.rd * 2 ^ 7
placed Store b = imm_of b 11 5 * 2 ^ 25 + b.rs2 * 2 ^ 20 + b.rs1 * 2 ^ 15 + imm_of b 4 0 * 2 ^ 7
placed Branch b =
    imm_of b 12 12 * 2 ^ 31 + imm_of b 10 5 * 2 ^ 25 + b.rs2 * 2 ^ 20 + b.rs1 * 2 ^ 15 + imm_of b 4 1 * 2 ^ 8 + imm_of b 11 11 * 2 ^ 7
placed Upper b = imm_of b 31 12 * 2 ^ 12 + b.rd * 2 ^ 7
placed Jump b =
    imm_of b 20 20 * 2 ^ 31 + imm_of b 10 1 * 2 ^ 21 + imm_of b 11 11 * 2 ^ 20 + imm_of b 19 12 * 2 ^ 12 + b.rd * 2 ^ 7
placed Fixed b = 0

-- the word of an instruction: the match of its row, and its fields in their places
unfoldable pub encoded : Base → ℕ
encoded b = (pattern_of b.row).1 + placed (format_of b.row) b
