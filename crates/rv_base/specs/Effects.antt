-- What a base instruction writes, where it goes, and what it reads and stores, from its operands and its address
-- (RISC-V Unprivileged ISA, RV32I: Integer Computational, Control Transfer, Load and Store Instructions). Sums are modulo 2^32.
use Rattle.std.specs.Prelude.{ℕ, true, ◌*◌, ◌-◌, ◌%◌, ◌^◌, Option, Some, None, if◌then◌else◌}
use Rattle.ix_bits.specs.Types.{number_of}
use Rattle.ix_bits.specs.Operators.{pattern_of}
use Rattle.rv_isa.specs.declared.base.Base.{Base}
use Rattle.rv_base.specs.declared.operation.Operation.{Operation}
use Rattle.rv_base.specs.declared.operation.Operation.TheVariants.{Upper, UpperFromPc, Jump, JumpRegister, Branch, Load, LoadUnsigned, Store, Immediate, Register, Fence, Call, Break}
use Rattle.rv_base.specs.declared.operation.Size.{Size}
use Rattle.rv_base.specs.Operations.{operation_at, bytes_in}
use Rattle.rv_base.specs.Computing.{sum, computed, is_taken}

-- the immediate as a word
abbrev pub immediate : Base → ℕ
immediate b = pattern_of 32 b.imm

-- what is written to rd, of an instruction at pc with these values of rs1 and rs2; a load writes what it reads
abbrev pub result_as : Operation → Base → ℕ → ℕ → ℕ → Option ℕ
result_as Upper b pc x y = Some (immediate b)
result_as UpperFromPc b pc x y = Some (sum pc (immediate b))
result_as Jump b pc x y = Some (sum pc 4)
result_as JumpRegister b pc x y = Some (sum pc 4)
result_as (Immediate op) b pc x y = Some (computed op x (immediate b))
result_as (Register op) b pc x y = Some (computed op x y)
result_as _ b pc x y = None

abbrev pub result_at : Base → ℕ → ℕ → ℕ → Option ℕ
result_at b pc x y = result_as (operation_at b.row) b pc x y

-- the address that a jump or a taken branch goes to; that of JALR is even
abbrev pub target_as : Operation → Base → ℕ → ℕ → ℕ → Option ℕ
target_as Jump b pc x y = Some (sum pc (immediate b))
target_as JumpRegister b pc x y = Some (sum x (immediate b) - sum x (immediate b) % 2)
target_as (Branch test) b pc x y = if is_taken test x y then Some (sum pc (immediate b)) else None
target_as _ b pc x y = None

abbrev pub target_at : Base → ℕ → ℕ → ℕ → Option ℕ
target_at b pc x y = target_as (operation_at b.row) b pc x y

-- the address that a load or a store uses
abbrev pub address_at : Base → ℕ → ℕ
address_at b x = sum x (immediate b)

-- how much is loaded
abbrev pub load_as : Operation → Option Size
load_as (Load size) = Some size
load_as (LoadUnsigned size) = Some size
load_as _ = None

abbrev pub load_at : Base → Option Size
load_at b = load_as (operation_at b.row)

-- how much is stored: the low bytes of rs2
abbrev pub store_as : Operation → Option Size
store_as (Store size) = Some size
store_as _ = None

abbrev pub store_at : Base → Option Size
store_at b = store_as (operation_at b.row)

-- the word that a load makes of so many bytes, the lowest first: their sign is extended, or zeros are
abbrev pub loaded_as : Operation → ℕ → ℕ
loaded_as (Load size) raw = pattern_of 32 (number_of true (8 * bytes_in size) (raw % 2 ^ (8 * bytes_in size)))
loaded_as (LoadUnsigned size) raw = raw % 2 ^ (8 * bytes_in size)
loaded_as _ raw = raw

abbrev pub loaded_at : Base → ℕ → ℕ
loaded_at b raw = loaded_as (operation_at b.row) raw
