-- A run on the core of three stages that takes an interrupt: behind that row the cells are those of the handler, and an always-block that writes in it is seen by the next cell. And inputs
-- that are not those of its rows (this project's choice).
use Rattle.std.specs.Prelude.{◌≡◌, ℕ, List, [], ◌∷◌, replicate, Option, Some, None, if◌then◌else◌, ◌==◌}
use Rattle.ix_plan.specs.declared.design.Plan.{Plan}
use Rattle.rv_seq.specs.declared.answer.StepAnswer.{StepAnswer}
use Rattle.rv_seq.specs.declared.answer.StepAnswer.TheVariants.{Done}
use Rattle.rv_seq.specs.declared.commit.Commit.{Commit}
use Rattle.rv_seq.specs.declared.commit.Slot.TheVariants.{Absent, Now}
use Rattle.rv_seq.specs.declared.commit.Stop.TheVariants.{Ebreak}
use Rattle.ix_bits.specs.declared.number.Bits.{Bits}
use Rattle.rv_trace.specs.declared.row.Cell.{Cell}
use Rattle.rv_trace.specs.declared.row.Row.{Row}
use Rattle.rv_ports.specs.Driven.{inputs_over}
use Rattle.port_laws.specs.Hands.{Hand, three, count, seven_8, sixteen_32, addx, watch, register_0, no_block, block_7, none_own, quiet, writes, AreInputs, diverted, cell, none_flushed, row_with, row_of}

-- an instruction that adds, which has no cell in the rows, and a block that writes where the pc is that of the handler, with these answers and these writes of the block
abbrev pub run_with : List StepAnswer → (ℕ → List (Option Bits)) → Hand
run_with answers blocks =
    record {
      shape = three;
      registers = count ∷ [];
      plans = addx ∷ watch 1 sixteen_32 ∷ [];
      number = λ word. if word == 2130315 then Some 0 else None;
      asks = λ word. quiet register_0;
      answers = answers;
      blocks = blocks;
      own = none_own;
      loads = λ p. None;
    }

-- addi x0, x0, 0 (00000013) at this address
abbrev pub idle_record : ℕ → Commit
idle_record at = writes at 19 0 Absent Absent

-- the same at 16, the handler's address, beside which the block writes
abbrev pub handler_record : Commit
handler_record = writes 16 19 0 Absent (Now seven_8)

-- the run goes on, and the block never writes
abbrev pub going_on : Hand
going_on = run_with (Done (idle_record 0) ∷ Done (idle_record 4) ∷ Done (idle_record 8) ∷ []) (λ p. no_block)

-- it goes to the handler behind its first instruction, where the block writes
abbrev pub going_there : Hand
going_there = run_with (Done (idle_record 0) ∷ Done handler_record ∷ Done (idle_record 20) ∷ []) (λ p. if p == 1 then block_7 else no_block)

-- its cells
abbrev pub idles : ℕ → ℕ → Option Cell
idles serial at = cell serial at 19 None

abbrev pub break : Option Cell
break = cell 5 24 1048691 None

-- the row that takes the interrupt, from the address behind the instruction that it retires
abbrev pub entry_row : Row
entry_row =
    record {
      cells = idles 2 8 ∷ idles 1 4 ∷ idles 0 0 ∷ None ∷ None ∷ [];
      retired = Some (0, idle_record 0);
      written = None;
      flushed = Some 1 ∷ Some 2 ∷ replicate 3 None;
      redirect = Some 16;
      taken = Some 4;
      stop = None;
    }

-- its rows, the newest first
abbrev pub diverting_rows : List Row
diverting_rows =
    row_with (None ∷ break ∷ idles 4 20 ∷ None ∷ None ∷ []) (Some (4, idle_record 20)) none_flushed None (Some Ebreak)
    ∷ row_of break (idles 4 20) (idles 3 16) (Some (3, handler_record))
    ∷ row_of (idles 4 20) (idles 3 16) None None
    ∷ row_of (idles 3 16) None None None
    ∷ entry_row
    ∷ row_of (idles 1 4) (idles 0 0) None None
    ∷ row_of (idles 0 0) None None None
    ∷ []

-- the module is driven so in the cycles of these rows
abbrev pub AreDiverted : ℕ → Plan → List (List ℕ) → Type 0
AreDiverted n p cycles = inputs_over (diverted going_on going_there) n p diverting_rows ≡ cycles

-- the block: custom register 0 and the pc of the cell at EX. What it writes beside the first instruction of the handler is there behind that
abbrev pub watch_inputs : ℕ → ℕ → List (List ℕ)
watch_inputs flushed written =
    (0 ∷ 0 ∷ []) ∷ (0 ∷ 0 ∷ []) ∷ (0 ∷ flushed ∷ []) ∷ (0 ∷ 0 ∷ []) ∷ (0 ∷ 16 ∷ []) ∷ (written ∷ 20 ∷ []) ∷ (written ∷ 24 ∷ []) ∷ []

abbrev pub AreWatching : List (List ℕ) → Type 0
AreWatching cycles = AreDiverted 1 (watch 1 sixteen_32) cycles

abbrev pub AreNotWatching : List (List ℕ) → Type 0
AreNotWatching cycles = AreWatching cycles → ⊥

abbrev pub watched : List (List ℕ)
watched = watch_inputs 4 7

-- the inputs behind the entry are those of the run that goes on
abbrev pub goes_on : List (List ℕ)
goes_on = watch_inputs 4 0

-- so they would be, were all rows judged by that run
abbrev pub IsOfOneRun : List (List ℕ) → Type 0
IsOfOneRun cycles = AreInputs going_on 1 (watch 1 sixteen_32) diverting_rows cycles

-- the cell that the entry flushes is not seen
abbrev pub entry_unseen : List (List ℕ)
entry_unseen = watch_inputs 0 7

-- addx: en1 and both operands, of no cell
abbrev pub enables : ℕ → List (List ℕ)
enables flushed =
    (0 ∷ 0 ∷ 0 ∷ []) ∷ (1 ∷ 0 ∷ 0 ∷ []) ∷ (flushed ∷ 0 ∷ 0 ∷ []) ∷ (0 ∷ 0 ∷ 0 ∷ []) ∷ (1 ∷ 0 ∷ 0 ∷ []) ∷ (1 ∷ 0 ∷ 0 ∷ []) ∷ (0 ∷ 0 ∷ 0 ∷ []) ∷ []

abbrev pub AreIdle : List (List ℕ) → Type 0
AreIdle cycles = AreDiverted 0 addx cycles

abbrev pub AreNotIdle : List (List ℕ) → Type 0
AreNotIdle cycles = AreIdle cycles → ⊥

abbrev pub at_rest : List (List ℕ)
at_rest = enables 0

-- the cell that the entry flushes moves
abbrev pub flushed_moves : List (List ℕ)
flushed_moves = enables 1
