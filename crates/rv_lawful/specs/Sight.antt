-- What a word comes to with what a pipeline sees, beside the step of a state: where both agree on what the instruction asks for, they come to the same, but for what is
-- written late or read from memory (this project's choice).
use Rattle.std.specs.Prelude.{◌≡◌, ◌≢◌, ℕ, ◌≤◌, ◌<◌, ◌^◌, List, get_or, slice_index, None, true, false}
use Rattle.ix_bits.specs.declared.number.Bits.{Bits}
use Rattle.ix_extension.specs.Extensions.{view_extension}
use Rattle.ix_mean.specs.declared.evaluate.State.{State}
use Rattle.ix_plan.specs.declared.design.Design.{Design}
use Rattle.rv_asks.specs.declared.asks.Asks.{Asks}
use Rattle.rv_asks.specs.Asks.{asks_in}
use Rattle.rv_seq.specs.Decoding.{decoded_in}
use Rattle.rv_seq.specs.WordEffects.{AreWide}
use Rattle.rv_isa.specs.Fields.{rs1_of, rs2_of}
use Rattle.rv_seq.specs.declared.arch.Arch.{Arch}
use Rattle.rv_seq.specs.declared.answer.StepAnswer.{StepAnswer}
use Rattle.rv_seq.specs.declared.answer.StepAnswer.TheVariants.{Done, Stopped}
use Rattle.rv_seq.specs.declared.commit.Commit.{Commit}
use Rattle.rv_seq.specs.declared.commit.Slot.TheVariants.{Absent}
use Rattle.rv_seq.specs.Commits.{applied}
use Rattle.rv_seq.specs.States.{zero_bit, state_at}
use Rattle.rv_seq.specs.Interrupts.{return_to}
use Rattle.rv_seq.specs.Steps.{of_decoded}
use Rattle.rv_tried.specs.declared.trial.Trial.{Trial}
use Rattle.rv_tried.specs.Tried.{tried}
use Rattle.rv_lawful.specs.Forwarding.{x_written}
use Rattle.rv_lawful.specs.Settings.{does_access, jump_with, jump_of}
use Rattle.rv_lawful.specs.Outstanding.{is_register}

-- what is asked of the instruction of a word on the core of the design
abbrev pub asked : Design → ℕ → Asks
asked d word = asks_in d word (decoded_in (view_extension d.extension) word)

-- what is seen agrees with a state on the word and the pc, on the operands that are asked for, and on the custom registers that are
pub record IsSeen (a : Asks) (code : ℕ) (s : Arch) (i : State) : Type 0 where
  pub word : i.word ≡ code
  pub pc : i.pc ≡ s.pc
  pub first : rs1_of code ≡ a.first → i.rs1 ≡ slice_index s.x (rs1_of code)
  pub second : rs2_of code ≡ a.second → i.rs2 ≡ slice_index s.x (rs2_of code)
  pub customs : (r : ℕ) → get_or a.customs r false ≡ true → get_or i.custom r zero_bit ≡ get_or s.custom r zero_bit

-- each x register holds a word
abbrev pub HasWords : Arch → Type 0
HasWords s = (r : ℕ) → slice_index s.x r < 2 ^ 32

-- the word, the operands and the pc that are seen are words
pub record AreWords (i : State) : Type 0 where
  pub word : i.word < 2 ^ 32
  pub rs1 : i.rs1 < 2 ^ 32
  pub rs2 : i.rs2 < 2 ^ 32
  pub pc : i.pc < 2 ^ 32

-- two records that differ at most in rd, in what is written late and in what is spawned
pub record IsEarlyCommit (a : Asks) (c d : Commit) : Type 0 where
  pub store : c.store ≡ d.store
  pub next : a.late ≡ false → c.next ≡ d.next
  pub customs : (r : ℕ) → get_or a.late_customs r false ≡ false → get_or a.spawned_customs r false ≡ false → get_or c.custom r Absent ≡ get_or d.custom r Absent

-- the same stop, or two such records
abbrev pub IsEarly : Asks → StepAnswer → StepAnswer → Type 0
IsEarly a (Done c) (Done d) = IsEarlyCommit a c d
IsEarly a (Stopped stop) (Stopped other) = stop ≡ other
IsEarly a (Done c) (Stopped stop) = ⊥
IsEarly a (Stopped stop) (Done c) = ⊥

-- what a word comes to with what the instruction sees of a state
abbrev pub state_tried : Design → ℕ → Arch → Trial
state_tried d word s = tried (view_extension d.extension) (state_at word s) s.mem (return_to word s.trap) (decoded_in (view_extension d.extension) word)

-- a word tried with what agrees with a state comes to the step of that state, whatever the memory holds, but for rd and late and spawned writes; it accesses the memory where that step
-- does, with the same load, and the always-blocks write the same; so does the instruction's own body to its x register, where it has one and the time of that write is below MEM
pub record ComesEarly (d : Design) (word : ℕ) (s : Arch) (i : State) (memory : List ℕ) : Type 0 where
  pub answer : IsEarly (asked d word) (tried (view_extension d.extension) i memory (return_to word s.trap) (decoded_in (view_extension d.extension) word)).answer (of_decoded (view_extension d.extension) s word (decoded_in (view_extension d.extension) word))
  pub accesses : (tried (view_extension d.extension) i memory (return_to word s.trap) (decoded_in (view_extension d.extension) word)).accesses ≡ does_access (view_extension d.extension) s word (decoded_in (view_extension d.extension) word)
  pub load : (tried (view_extension d.extension) i memory (return_to word s.trap) (decoded_in (view_extension d.extension) word)).load ≡ (state_tried d word s).load
  pub blocks : (tried (view_extension d.extension) i memory (return_to word s.trap) (decoded_in (view_extension d.extension) word)).blocks ≡ (state_tried d word s).blocks
  pub x : (asked d word).destination ≢ 0 → (asked d word).x_time < d.sheet.shape.mem →
      x_written (tried (view_extension d.extension) i memory (return_to word s.trap) (decoded_in (view_extension d.extension) word)).answer ≡ x_written (of_decoded (view_extension d.extension) s word (decoded_in (view_extension d.extension) word))

abbrev pub EarlyLaw : Design → Type 0
EarlyLaw d =
    (word : ℕ) (s : Arch) (i : State) (memory : List ℕ) → AreWide (view_extension d.extension) s.custom → AreWide (view_extension d.extension) i.custom →
    HasWords s → AreWords i → IsSeen (asked d word) word s i → ComesEarly d word s i memory

-- it comes to the step of the state, and the instruction itself writes the same custom registers
pub record ComesExact (d : Design) (word : ℕ) (s : Arch) (i : State) (memory : List ℕ) : Type 0 where
  pub answer : (tried (view_extension d.extension) i memory (return_to word s.trap) (decoded_in (view_extension d.extension) word)).answer ≡ of_decoded (view_extension d.extension) s word (decoded_in (view_extension d.extension) word)
  pub own : (tried (view_extension d.extension) i memory (return_to word s.trap) (decoded_in (view_extension d.extension) word)).own ≡ (state_tried d word s).own

-- with the memory of the state, where it loads, it comes to that step
abbrev pub ExactLaw : Design → Type 0
ExactLaw d =
    (word : ℕ) (s : Arch) (i : State) (memory : List ℕ) → AreWide (view_extension d.extension) s.custom → AreWide (view_extension d.extension) i.custom →
    HasWords s → AreWords i → IsSeen (asked d word) word s i → ((asked d word).loads ≡ true → memory ≡ s.mem) →
    ComesExact d word s i memory

-- what a record leaves as it was, where the instruction does not ask to write it, itself or by `spawn`
pub record IsKept (a : Asks) (s : Arch) (code : ℕ) (c : Commit) : Type 0 where
  pub at : c.at ≡ s.pc
  pub word : c.word ≡ code
  pub next : (applied c s).pc ≡ c.next
  pub x : (r : ℕ) → r ≢ a.destination → is_register a.spawned r ≡ false → slice_index (applied c s).x r ≡ slice_index s.x r
  pub zero : slice_index (applied c s).x 0 ≡ slice_index s.x 0
  pub customs : (r : ℕ) → get_or a.customs r false ≡ false → get_or c.custom r Absent ≡ Absent
  pub memory : a.stores ≡ false → (applied c s).mem ≡ s.mem

abbrev pub KeepsLaw : Design → Type 0
KeepsLaw d =
    (word : ℕ) (s : Arch) (c : Commit) → AreWide (view_extension d.extension) s.custom → HasWords s → word < 2 ^ 32 → s.pc < 2 ^ 32 →
    of_decoded (view_extension d.extension) s word (decoded_in (view_extension d.extension) word) ≡ Done c → IsKept (asked d word) s word c

-- an instruction spawns nothing: it has no spawn target and no unit
pub record SpawnsNothing (a : Asks) : Type 0 where
  pub x : a.spawned ≡ None
  pub customs : (r : ℕ) → get_or a.spawned_customs r false ≡ false
  pub unit : a.unit ≡ None

-- no x register is written before EX
abbrev pub TimeLaw : Design → Type 0
TimeLaw d = (word : ℕ) → (asked d word).destination ≢ 0 → d.sheet.shape.ex ≤ (asked d word).x_time

-- the always-blocks jump to the same address whatever the memory holds
abbrev pub JumpLaw : Design → Type 0
JumpLaw d =
    (file : List Bits) (at word : ℕ) (memory : List ℕ) →
    jump_with (view_extension d.extension) file memory at word ≡ jump_of (view_extension d.extension) file at word

-- a module goes on for at most 64 cycles
abbrev pub TailLaw : Design → Type 0
TailLaw d = (word : ℕ) → (asked d word).tail ≤ 64
