-- The state of a sequential run: first, and as an instruction sees it (RV32I: x0 to x31 and the pc; what they start with is this project's choice).
use Rattle.std.specs.Prelude.{ℕ, pos, List, replicate, map, get_or, slice_index, None}
use Rattle.ix_bits.specs.declared.number.Bits.{Bits}
use Rattle.ix_tree.specs.declared.extension.Register.{Register}
use Rattle.ix_extension.specs.Extensions.{ExtensionTree, pattern}
use Rattle.ix_mean.specs.declared.evaluate.State.{State}
use Rattle.ix_mean.specs.Core.{u1}
use Rattle.ix_mean.specs.Meaning.{Inputs}
use Rattle.ix_mean.specs.Given.{inputs_of}
use Rattle.ix_eval.specs.Tables.{table}
use Rattle.rv_isa.specs.Fields.{rs1_of, rs2_of}
use Rattle.rv_memory.specs.Room.{size}
use Rattle.rv_seq.specs.Memory.{peeked}
use Rattle.rv_seq.specs.declared.arch.Arch.{Arch}

-- where there is no custom register stands a zero of one bit
abbrev pub zero_bit : Bits
zero_bit = pattern u1 (pos 0)

abbrev pub initial_in : Register → Bits
initial_in r = r.initial

-- the value that a custom register starts with
abbrev pub initial_of : List Register → ℕ → Bits
initial_of rs r = get_or (map initial_in rs) r zero_bit

abbrev pub initials : List Register → List Bits
initials rs = table (initial_of rs) 16

-- the first state: the pc, each x register and each byte of the memory are 0, custom registers have their initial values, and there is no trap state
unfoldable pub first : ExtensionTree → Arch
first x = record { pc = 0; x = replicate 32 0; custom = initials x.registers; mem = replicate size 0; trap = None }

-- what the instruction of a word sees of a state: its word, its operands, the pc, the custom registers and the memory
abbrev pub state_at : ℕ → Arch → State
state_at word s =
    record {
      word = word;
      rs1 = slice_index s.x (rs1_of word);
      rs2 = slice_index s.x (rs2_of word);
      pc = s.pc;
      custom = s.custom;
    }

abbrev pub inputs_at : ℕ → Arch → Inputs
inputs_at word s = inputs_of (state_at word s) (peeked s.mem)
