-- The parts of what an instruction and the always-blocks write: what its retirement shows, what is written then, and what its `spawn` body writes when its turn comes
-- (SCAIE-V, decoupled execution; that a block's write to a register which the same instruction spawns is made at retirement is this project's choice).
use Rattle.std.specs.Prelude.{ℕ, List, get_or, Option, Some, None, Bool, false, ◌&&◌, if◌then◌else◌}
use Rattle.ix_bits.specs.declared.number.Bits.{Bits}
use Rattle.ix_eval.specs.Tables.{table}
use Rattle.rv_asks.specs.declared.asks.Asks.{Asks}
use Rattle.rv_seq.specs.declared.arch.Arch.{Arch}
use Rattle.rv_seq.specs.declared.commit.Commit.{Commit}
use Rattle.rv_seq.specs.declared.commit.Slot.{Slot}
use Rattle.rv_seq.specs.declared.commit.Slot.TheVariants.{Absent, Later}
use Rattle.rv_seq.specs.Commits.{slot_of, with_x, with_customs}
use Rattle.rv_tried.specs.declared.parts.Spawned.{Spawned}

-- the number of the x register that a retirement shows
abbrev pub shown_index : Option ℕ → ℕ → ℕ
shown_index None rd = rd
shown_index (Some r) rd = r

-- what it shows there: at a spawn target a write that comes later, whatever its condition
abbrev pub shown_x : Option ℕ → Slot ℕ → Slot ℕ
shown_x None slot = slot
shown_x (Some r) slot = Later

abbrev pub shown_customs : List Bool → List (Slot Bits) → List (Slot Bits)
shown_customs spawned slots = table (λ r. if get_or spawned r false then Later else get_or slots r Absent) 16

-- the record of a step as its retirement shows it
unfoldable pub shown : Asks → Commit → Commit
shown a c =
    record {
      at = c.at;
      word = c.word;
      rd_index = shown_index a.spawned c.rd_index;
      rd = shown_x a.spawned c.rd;
      custom = shown_customs a.spawned_customs c.custom;
      store = c.store;
      next = c.next;
    }

-- the number of the x register that is written at retirement, 0 where none is
abbrev pub native_index : Option ℕ → ℕ → ℕ
native_index None rd = rd
native_index (Some r) rd = 0

abbrev pub native_x : Option ℕ → Slot ℕ → Slot ℕ
native_x None slot = slot
native_x (Some r) slot = Absent

-- at a spawn target the write of the blocks alone
abbrev pub native_customs : List Bool → List (Option Bits) → List (Slot Bits) → List (Slot Bits)
native_customs spawned blocks slots = table (λ r. if get_or spawned r false then slot_of (get_or blocks r None) else get_or slots r Absent) 16

-- what is written at retirement, where the blocks write these custom registers
unfoldable pub native : Asks → List (Option Bits) → Commit → Commit
native a blocks c =
    record {
      at = c.at;
      word = c.word;
      rd_index = native_index a.spawned c.rd_index;
      rd = native_x a.spawned c.rd;
      custom = native_customs a.spawned_customs blocks c.custom;
      store = c.store;
      next = c.next;
    }

abbrev pub spawned_index : Option ℕ → ℕ → ℕ
spawned_index None rd = 0
spawned_index (Some r) rd = rd

abbrev pub spawned_x : Option ℕ → Slot ℕ → Slot ℕ
spawned_x None slot = Absent
spawned_x (Some r) slot = slot

-- at a spawn target the instruction's own write
abbrev pub spawned_customs : List Bool → List Bool → List (Slot Bits) → List (Slot Bits)
spawned_customs spawned own slots = table (λ r. if get_or spawned r false && get_or own r false then get_or slots r Absent else Absent) 16

-- what the `spawn` body writes, where the instruction itself writes these custom registers
unfoldable pub spawned : Asks → List Bool → Commit → Spawned
spawned a own c =
    record {
      rd_index = spawned_index a.spawned c.rd_index;
      rd = spawned_x a.spawned c.rd;
      custom = spawned_customs a.spawned_customs own c.custom;
    }

-- the state after a `spawn` body's writes
unfoldable pub paid : Spawned → Arch → Arch
paid w s =
    record {
      pc = s.pc;
      x = with_x s.x w.rd_index w.rd;
      custom = with_customs s.custom w.custom;
      mem = s.mem;
      trap = s.trap;
    }
