-- The fields of drawn instructions are in range.
use Rattle.std.proofs.Common.{◌≡◌, ℕ, ◌*◌, ◌%◌, ◌^◌, ◌<◌, List, [], drop, pos, refl, arith, true}
use Rattle.std.specs.Prelude.{All}
use Rattle.std.proofs.lemmas.Int.{ints}
use Rattle.std.proofs.lemmas.List.Elements.{All-nil, All-cons}
use Rattle.ix_bits.proofs.Results.{within_value}
use Rattle.rv_isa.proofs.SignLemmas.{page-signed}
use Rattle.rv_isa.specs.Table.{format_of, base_formats}
use Rattle.rv_isa.specs.Fields.{IsInRange, signed}
use Rattle.rv_isa.specs.declared.base.Base.{Base}
use Rattle.rv_isa.specs.declared.rows.TheConstants.{LUI, LW, SW, ADDI, SLLI, ADD, SUB, XOR, EBREAK}
use Rattle.rv_isa.specs.declared.table.Format.TheVariants.{Register}
use Rattle.rv_bench.specs.declared.draws.Draws.{Draws}
use Rattle.rv_bench.specs.DrawnImage.{rd, rs1, rs2, offset, of_registers, bases}

is_register : (row : ℕ) (d : Draws) → row < 40 → format_of row ≡ Register → IsInRange (of_registers row d)
is_register row d h e = record { row = h; rd = omega arith; rs1 = omega arith; rs2 = omega arith; format = rw e refl }

is_upper : (rd : ℕ) (page : ℕ) → rd < 32 → page < 2 ^ 20 → IsInRange (record { row = LUI; rd = rd; rs1 = 0; rs2 = 0; imm = signed 32 (page * 2 ^ 12) })
unfolding format_of base_formats
is_upper rd page d h =
    let within = within_value true 32 (page * 2 ^ 12) (omega arith) (omega (arith, h)) in
    let whole = page-signed (2 ^ 31) (page * 2 ^ 12) refl (omega (arith, h)) (omega (arith, h)) in
    record { row = omega arith; rd = d; rs1 = omega arith; rs2 = omega arith; format = (refl, refl, within, whole) }

is_addition : (d : Draws) → IsInRange (record { row = ADDI; rd = rd d; rs1 = rs1 d; rs2 = 0; imm = signed 12 (d.value % 4096) })
unfolding format_of base_formats
is_addition d =
    record { row = omega arith; rd = omega arith; rs1 = omega arith; rs2 = omega arith; format = (refl, within_value true 12 (d.value % 4096) (omega arith) (omega arith)) }

is_shift : (d : Draws) → IsInRange (record { row = SLLI; rd = rd d; rs1 = rs1 d; rs2 = 0; imm = pos (d.value % 32) })
unfolding format_of base_formats
is_shift d =
    record { row = omega arith; rd = omega arith; rs1 = omega arith; rs2 = omega arith; format = (refl, omega (arith, ints), omega (arith, ints)) }

is_store : (d : Draws) → IsInRange (record { row = SW; rd = 0; rs1 = 31; rs2 = rs2 d; imm = pos (offset d) })
unfolding format_of base_formats
is_store d =
    record { row = omega arith; rd = omega arith; rs1 = omega arith; rs2 = omega arith; format = (refl, record { from_least = omega (arith, ints); below_past = omega (arith, ints) }) }

is_load : (d : Draws) → IsInRange (record { row = LW; rd = rd d; rs1 = 31; rs2 = 0; imm = pos (offset d) })
unfolding format_of base_formats
is_load d =
    record { row = omega arith; rd = omega arith; rs1 = omega arith; rs2 = omega arith; format = (refl, record { from_least = omega (arith, ints); below_past = omega (arith, ints) }) }

registers_are : (d : Draws) → IsInRange (of_registers ADD d) × IsInRange (of_registers SUB d) × IsInRange (of_registers XOR d)
unfolding format_of base_formats
registers_are d = (is_register ADD d (omega arith) refl, is_register SUB d (omega arith) refl, is_register XOR d (omega arith) refl)

-- each instruction that a draw chooses from
pub all_in_range : (d : Draws) → All IsInRange (bases d)
all_in_range d =
    let r = registers_are d in
    let b : ℕ → List Base = λ k. drop k (bases d) in
    let load : All IsInRange (b 7) = All-cons IsInRange (record { row = LW; rd = rd d; rs1 = 31; rs2 = 0; imm = pos (offset d) }) [] (is_load d) (All-nil IsInRange) in
    let store : All IsInRange (b 6) = All-cons IsInRange (record { row = SW; rd = 0; rs1 = 31; rs2 = rs2 d; imm = pos (offset d) }) (b 7) (is_store d) load in
    let shift : All IsInRange (b 5) = All-cons IsInRange (record { row = SLLI; rd = rd d; rs1 = rs1 d; rs2 = 0; imm = pos (d.value % 32) }) (b 6) (is_shift d) store in
    let upper : All IsInRange (b 4) =
    All-cons IsInRange (record { row = LUI; rd = rd d; rs1 = 0; rs2 = 0; imm = signed 32 (d.value % 2 ^ 20 * 2 ^ 12) }) (b 5) (is_upper (rd d) (d.value % 2 ^ 20) (omega arith) (omega arith)) shift in
    let third : All IsInRange (b 3) = All-cons IsInRange (of_registers XOR d) (b 4) r.2 upper in
    let second : All IsInRange (b 2) = All-cons IsInRange (of_registers SUB d) (b 3) r.1 third in
    let first : All IsInRange (b 1) = All-cons IsInRange (of_registers ADD d) (b 2) r.0 second in
    All-cons IsInRange (record { row = ADDI; rd = rd d; rs1 = rs1 d; rs2 = 0; imm = signed 12 (d.value % 4096) }) (b 1) (is_addition d) first

-- the first and the last
pub first_in_range : IsInRange (record { row = LUI; rd = 31; rs1 = 0; rs2 = 0; imm = signed 32 (2 ^ 31) })
first_in_range = is_upper 31 (2 ^ 19) (omega arith) (omega arith)

pub last_in_range : IsInRange (record { row = EBREAK; rd = 0; rs1 = 0; rs2 = 0; imm = pos 0 })
unfolding format_of base_formats
last_in_range = record { row = omega arith; rd = omega arith; rs1 = omega arith; rs2 = omega arith; format = (refl, refl, refl, refl) }
