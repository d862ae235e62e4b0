-- What an instruction writes, as the record of its step, and the state behind it (RV32I; a write of x0 is no write).
use Rattle.std.specs.Prelude.{◌≡◌, ℕ, ◌+◌, ◌%◌, ◌^◌, List, get_or, slice_set, Option, Some, None, unwrap_or, true, if◌then◌else◌, nat_eq}
use Rattle.ix_bits.specs.declared.number.Bits.{Bits}
use Rattle.ix_eval.specs.declared.access.Access.{Access}
use Rattle.ix_eval.specs.declared.effect.Effect.{Effect}
use Rattle.ix_eval.specs.Tables.{table}
use Rattle.rv_isa.specs.Fields.{rd_of}
use Rattle.rv_memory.specs.Room.{is_inside, written}
use Rattle.rv_seq.specs.declared.commit.Slot.{Slot}
use Rattle.rv_seq.specs.declared.commit.Slot.TheVariants.{Absent, Now, Later}
use Rattle.rv_seq.specs.declared.commit.Commit.{Commit}
use Rattle.rv_seq.specs.declared.arch.Arch.{Arch}
use Rattle.rv_seq.specs.States.{zero_bit}

-- the number of the x register that is written, 0 where none is
abbrev pub x_index : ℕ → Option ℕ → ℕ
x_index rd None = 0
x_index rd (Some value) = rd

abbrev pub x_slot : ℕ → Option ℕ → Slot ℕ
x_slot rd None = Absent
x_slot rd (Some value) = if nat_eq rd 0 then Absent else Now value

abbrev pub slot_of : Option Bits → Slot Bits
slot_of None = Absent
slot_of (Some value) = Now value

abbrev pub slots_of : List (Option Bits) → List (Slot Bits)
slots_of values = table (λ r. slot_of (get_or values r None)) 16

-- the record of the instruction of a word at an address, which with the always-blocks has this effect
unfoldable pub commit_of : ℕ → ℕ → Effect → Commit
commit_of at word e =
    record {
      at = at;
      word = word;
      rd_index = x_index (rd_of word) e.rd;
      rd = x_slot (rd_of word) e.rd;
      custom = slots_of e.custom;
      store = e.store;
      next = unwrap_or e.pc ((at + 4) % 2 ^ 32);
    }

-- ---- the state after the writes of a record; what comes later is not yet written, and no write changes the trap state
abbrev pub with_x : List ℕ → ℕ → Slot ℕ → List ℕ
with_x x rd Absent = x
with_x x rd (Now value) = slice_set x rd value
with_x x rd Later = x

abbrev pub with_slot : Bits → Slot Bits → Bits
with_slot old Absent = old
with_slot old (Now value) = value
with_slot old Later = old

abbrev pub with_customs : List Bits → List (Slot Bits) → List Bits
with_customs custom slots = table (λ r. with_slot (get_or custom r zero_bit) (get_or slots r Absent)) 16

-- the low bytes of the value, as many as are stored
abbrev pub with_store : List ℕ → Option (Access × ℕ) → List ℕ
with_store memory None = memory
with_store memory (Some s) = written memory s.0.at s.0.bytes s.1

unfoldable pub applied : Commit → Arch → Arch
applied c s =
    record {
      pc = c.next;
      x = with_x s.x c.rd_index c.rd;
      custom = with_customs s.custom c.custom;
      mem = with_store s.mem c.store;
      trap = s.trap;
    }

-- a store lies in the memory
abbrev pub IsStoredInside : Option (Access × ℕ) → Type 0
IsStoredInside None = Unit {0}
IsStoredInside (Some s) = is_inside s.0.at s.0.bytes ≡ true
