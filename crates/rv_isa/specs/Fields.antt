-- Fields and immediates of a word, by format
-- (RISC-V Unprivileged ISA, RV32I, Base Instruction Formats and Immediate Encoding Variants).
use Rattle.std.specs.Prelude.{ℕ, ◌+◌, ◌-◌, ◌*◌, ◌/◌, ◌%◌, ◌^◌, ◌<◌, ◌≡◌, ℤ, pos, ◌≤ℤ◌, ◌<ℤ◌, true, unsigned_abs}
use Rattle.ix_bits.specs.Types.{IsWithin, number_of}
use Rattle.rv_isa.specs.Table.{format_of}
use Rattle.rv_isa.specs.declared.base.Base.{Base}
use Rattle.rv_isa.specs.declared.table.Format.{Format}
use Rattle.rv_isa.specs.declared.table.Format.TheVariants.{Register, Immediate, Shift, Store, Branch, Upper, Jump, Fixed}

-- bits high down to low of a word, as a number
abbrev pub bits_of : ℕ → ℕ → ℕ → ℕ
bits_of word high low = word / 2 ^ low % 2 ^ (high + 1 - low)

abbrev pub rd_of : ℕ → ℕ
rd_of word = bits_of word 11 7

abbrev pub rs1_of : ℕ → ℕ
rs1_of word = bits_of word 19 15

abbrev pub rs2_of : ℕ → ℕ
rs2_of word = bits_of word 24 20

-- the number that the bits stand for in two's complement of that width
abbrev pub signed : ℕ → ℕ → ℤ
signed width bits = number_of true width bits

-- imm[11:0] in bits 31 to 20
abbrev pub immediate_of : ℕ → ℤ
immediate_of word = signed 12 (bits_of word 31 20)

-- imm[11:5] in bits 31 to 25, imm[4:0] in bits 11 to 7
abbrev pub store_offset_of : ℕ → ℤ
store_offset_of word = signed 12 (bits_of word 31 25 * 2 ^ 5 + bits_of word 11 7)

-- imm[12], imm[10:5] in bits 31 to 25, imm[4:1], imm[11] in bits 11 to 7
abbrev pub branch_offset_of : ℕ → ℤ
branch_offset_of word =
    signed 13 (bits_of word 31 31 * 2 ^ 12 + bits_of word 7 7 * 2 ^ 11 + bits_of word 30 25 * 2 ^ 5 + bits_of word 11 8 * 2)

-- imm[31:12] in bits 31 to 12
abbrev pub upper_of : ℕ → ℤ
upper_of word = signed 32 (bits_of word 31 12 * 2 ^ 12)

-- imm[20], imm[10:1], imm[11], imm[19:12] in bits 31 to 12
abbrev pub jump_offset_of : ℕ → ℤ
jump_offset_of word =
    signed 21 (bits_of word 31 31 * 2 ^ 20 + bits_of word 19 12 * 2 ^ 12 + bits_of word 20 20 * 2 ^ 11 + bits_of word 30 21 * 2)

-- the fields of a word of a row with this format; those that the format lacks are 0
unfoldable pub fields_of : Format → ℕ → ℕ → Base
fields_of Register row w = record { row = row; rd = rd_of w; rs1 = rs1_of w; rs2 = rs2_of w; imm = pos 0 }
fields_of Immediate row w = record { row = row; rd = rd_of w; rs1 = rs1_of w; rs2 = 0; imm = immediate_of w }
fields_of Shift row w = record { row = row; rd = rd_of w; rs1 = rs1_of w; rs2 = 0; imm = pos (bits_of w 24 20) }
fields_of Store row w = record { row = row; rd = 0; rs1 = rs1_of w; rs2 = rs2_of w; imm = store_offset_of w }
fields_of Branch row w = record { row = row; rd = 0; rs1 = rs1_of w; rs2 = rs2_of w; imm = branch_offset_of w }
fields_of Upper row w = record { row = row; rd = rd_of w; rs1 = 0; rs2 = 0; imm = upper_of w }
fields_of Jump row w = record { row = row; rd = rd_of w; rs1 = 0; rs2 = 0; imm = jump_offset_of w }
fields_of Fixed row w = record { row = row; rd = 0; rs1 = 0; rs2 = 0; imm = pos 0 }

-- the number is a multiple of the step
abbrev pub IsMultiple : ℕ → ℤ → Type 0
IsMultiple step n = unsigned_abs n % step ≡ 0

-- the immediate is one that the format can hold, and the fields that the format lacks are 0
abbrev pub HasFormat : Format → Base → Type 0
HasFormat Register b = b.imm ≡ pos 0
HasFormat Immediate b = (b.rs2 ≡ 0) × IsWithin true 12 b.imm
HasFormat Shift b = (b.rs2 ≡ 0) × (pos 0 ≤ℤ b.imm) × (b.imm <ℤ pos 32)
HasFormat Store b = (b.rd ≡ 0) × IsWithin true 12 b.imm
HasFormat Branch b = (b.rd ≡ 0) × IsWithin true 13 b.imm × IsMultiple 2 b.imm
HasFormat Upper b = (b.rs1 ≡ 0) × (b.rs2 ≡ 0) × IsWithin true 32 b.imm × IsMultiple 4096 b.imm
HasFormat Jump b = (b.rs1 ≡ 0) × (b.rs2 ≡ 0) × IsWithin true 21 b.imm × IsMultiple 2 b.imm
HasFormat Fixed b = (b.rd ≡ 0) × (b.rs1 ≡ 0) × (b.rs2 ≡ 0) × (b.imm ≡ pos 0)

-- the row exists, and each field is in the range that the row's format gives it
pub record IsInRange (b : Base) : Type 0 where
  pub row : b.row < 40
  pub rd : b.rd < 32
  pub rs1 : b.rs1 < 32
  pub rs2 : b.rs2 < 32
  pub format : HasFormat (format_of b.row) b
