-- The text of a sequential run (this project's choice): a line a step, the stop if there is one, and the state behind the last step. The text of that state is also that behind
-- the rows of a pipeline.
use Rattle.std.specs.Prelude.{ℕ, zero, suc, ◌+◌, ◌*◌, ◌/◌, List, [], ◌∷◌, ◌++◌, length, take, Option, Some, None, Bool, true, false, if◌then◌else◌, ◌==◌, codes, decimal}
use Rattle.std.specs.List.{flat_map}
use Rattle.ix_bits.specs.declared.number.Bits.{Bits}
use Rattle.ix_io.specs.Out.{hex_digits}
use Rattle.ix_extension.specs.Extensions.{ExtensionTree}
use Rattle.ix_plan.specs.declared.design.Target.{Target}
use Rattle.rv_memory.specs.Room.{base, read}
use Rattle.rv_seq.specs.declared.commit.Commit.{Commit}
use Rattle.rv_seq.specs.declared.commit.Stop.{Stop}
use Rattle.rv_seq.specs.declared.arch.Arch.{Arch}
use Rattle.rv_seq.specs.declared.arch.TrapState.{TrapState}
use Rattle.rv_seq.specs.declared.answer.StepAnswer.{StepAnswer}
use Rattle.rv_seq.specs.declared.answer.StepAnswer.TheVariants.{Done, Stopped}
use Rattle.rv_seq.specs.States.{first}
use Rattle.rv_seq.specs.Steps.{step, after}
use Rattle.rv_trace.specs.TraceText.{hex_word_text, stop_text, target_text, retired_text, registers_text}

-- a step is told as a pipeline tells a retirement, with the step's number for the serial
abbrev pub step_line : ℕ → Commit → List ℕ
step_line number c = retired_text (Some (number, c))

abbrev pub stop_line : Stop → List ℕ
stop_line stop = codes "stop " ++ stop_text stop ++ codes "\n"

-- ---- the state
-- a custom register, with as many digits as its width needs
abbrev pub custom_line : ℕ → Bits → List ℕ
custom_line number b = codes "c" ++ decimal number ++ codes " " ++ hex_digits ((b.width + 3) / 4) b.raw ++ codes "\n"

abbrev pub custom_lines : ℕ → List Bits → List ℕ
custom_lines number [] = []
custom_lines number (b ∷ rest) = custom_line number b ++ custom_lines (suc number) rest

-- 1 for true and 0 for false
abbrev pub flag_text : Bool → List ℕ
flag_text true = codes "1"
flag_text false = codes "0"

-- the trap state, where there is one: the address to which the handler returns, and whether an interrupt is taken
abbrev pub trap_text : Option TrapState → List ℕ
trap_text None = []
trap_text (Some t) = codes "epc " ++ hex_word_text t.epc ++ codes "\nenabled " ++ flag_text t.enabled ++ codes "\n"

-- a register with an outstanding write, behind the serial of the instruction that writes it
abbrev pub outstanding_line : ℕ × Target → List ℕ
outstanding_line p = codes "o " ++ decimal p.0 ++ codes " " ++ target_text p.1 ++ codes "\n"

-- the pc, the trap state, each x register that is not 0, so many custom registers, and the registers with outstanding writes
abbrev pub head_lines : ℕ → List (ℕ × Target) → Arch → List ℕ
head_lines registers outstanding s =
    codes "pc "
    ++ hex_word_text s.pc
    ++ codes "\n"
    ++ trap_text s.trap
    ++ registers_text 0 s.x
    ++ custom_lines 0 (take registers s.custom)
    ++ flat_map outstanding_line outstanding

-- the same behind the first line of a state
abbrev pub head_text : ℕ → List (ℕ × Target) → Arch → List ℕ
head_text registers outstanding s = codes "state\n" ++ head_lines registers outstanding s

-- an aligned word of the memory that is not 0
abbrev pub word_line : ℕ → ℕ → List ℕ
word_line at value = if value == 0 then [] else codes "m " ++ hex_word_text at ++ codes " " ++ hex_word_text value ++ codes "\n"

abbrev pub memory_word : List ℕ → ℕ → List ℕ
memory_word memory k = word_line (base + 4 * k) (read memory (base + 4 * k) 4)

-- so many words, from this one on
unfoldable pub memory_lines : List ℕ → ℕ → ℕ → List ℕ
memory_lines memory zero k = []
memory_lines memory (suc n) k = memory_word memory k ++ memory_lines memory n (suc k)

-- a state behind a run, with these outstanding writes, in the order in which the instructions retired
unfoldable pub state_text : ExtensionTree → List (ℕ × Target) → Arch → List ℕ
state_text x outstanding s = head_text (length x.registers) outstanding s ++ memory_lines s.mem 262144 0

-- ---- the run
-- the line of what a step comes to, and what is told behind it; nothing is tried after a stop
abbrev pub lines_after : ExtensionTree → ℕ → Arch → (Arch → List ℕ) → StepAnswer → List ℕ
lines_after x number s rest (Stopped stop) = stop_line stop ++ state_text x [] s
lines_after x number s rest (Done c) = step_line number c ++ rest (after x s (Done c))

-- the lines of at most so many steps from a state on, of which the first has this number, and of the state behind them
unfoldable pub lines_from : ExtensionTree → List ℕ → ℕ → ℕ → Arch → List ℕ
lines_from x image zero number s = state_text x [] s
lines_from x image (suc n) number s = lines_after x number s (λ t. lines_from x image n (suc number) t) (step x image s)

-- the run of an image on a core with this extension, of at most so many steps
unfoldable pub run_text : ExtensionTree → List ℕ → ℕ → List ℕ
run_text x image steps = lines_from x image steps 0 (first x)
