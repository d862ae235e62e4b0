-- A run on the core of three stages: an instruction writes the pc and a custom register late, and the cell behind it is flushed from EX, where an always-block sees it with what the
-- block wrote and without what the instruction writes. And inputs that are not those of its rows (this project's choice).
use Rattle.std.specs.Prelude.{ℕ, List, [], ◌∷◌, replicate, Option, Some, None, true, false, if◌then◌else◌, ◌==◌}
use Rattle.ix_graph.specs.declared.args.Arg.TheVariants as arg
use Rattle.ix_graph.specs.declared.graph.Mode.TheVariants.{InPipeline}
use Rattle.ix_graph.specs.declared.kind.Kind.TheVariants.{RdPC, RdCustReg, WrPC, WrCustReg, Add, Cast}
use Rattle.ix_plan.specs.declared.design.Plan.{Plan}
use Rattle.rv_asks.specs.declared.asks.Asks.{Asks}
use Rattle.rv_seq.specs.declared.answer.StepAnswer.TheVariants.{Done}
use Rattle.rv_seq.specs.declared.commit.Commit.{Commit}
use Rattle.rv_seq.specs.declared.commit.Slot.TheVariants.{Absent, Now}
use Rattle.rv_seq.specs.declared.commit.Stop.TheVariants.{Ebreak}
use Rattle.rv_trace.specs.declared.row.Cell.{Cell}
use Rattle.rv_trace.specs.declared.row.Row.{Row}
use Rattle.port_laws.specs.Hands.{Hand, three, count, u1, u8, u9, u32, one_1, two_8, four_32, eight_32, always, of_op, op, sum, low, plan_of, watch, no_customs, register_0, no_block, block_7, quiet, writes, AreInputs, AreNotInputs, cell, none_flushed, row_with, row_of}

-- adds 2 to custom register 0 and 12 to the pc, each by two sums, of which the second is at time 2
abbrev pub leap : Plan
leap =
    plan_of InPipeline
    (op RdPC [] u32
    ∷ sum (of_op 0) (arg.Const u32 eight_32)
    ∷ low 1
    ∷ sum (of_op 2) (arg.Const u32 four_32)
    ∷ low 3
    ∷ op WrPC (of_op 4 ∷ always ∷ []) u1
    ∷ op (RdCustReg 0) [] u8
    ∷ op Add (of_op 6 ∷ arg.Const u1 one_1 ∷ []) u9
    ∷ op Cast (of_op 7 ∷ []) u8
    ∷ op Add (of_op 8 ∷ arg.Const u1 one_1 ∷ []) u9
    ∷ op Cast (of_op 9 ∷ []) u8
    ∷ op (WrCustReg 0) (of_op 10 ∷ always ∷ []) u1
    ∷ [])
    (replicate 12 false) (1 ∷ 1 ∷ 1 ∷ 2 ∷ 2 ∷ 2 ∷ 1 ∷ 1 ∷ 1 ∷ 2 ∷ 2 ∷ 2 ∷ []) 2

-- what is asked of its word: it writes the pc and custom register 0 late
abbrev pub leap_asks : Asks
leap_asks =
    record {
      first = 0;
      second = 0;
      destination = 0;
      x_time = 0;
      spawned = None;
      loads = false;
      stores = false;
      late = true;
      tail = 0;
      customs = register_0;
      late_customs = register_0;
      spawned_customs = no_customs;
      unit = None;
    }

-- it goes from 4 to 16 and writes 2, over the 7 that the block writes beside it
abbrev pub leap_record : Commit
leap_record = record { at = 4; word = 8203; rd_index = 0; rd = Absent; custom = Now two_8 ∷ replicate 15 Absent; store = None; next = 16 }

-- addi x0, x0, 0 (00000013); the leap (0000200b); addi x0, x0, 0 twice; ebreak (00100073); the block writes where the pc is 4
abbrev pub leaping : Hand
leaping =
    record {
      shape = three;
      registers = count ∷ [];
      plans = leap ∷ watch 1 four_32 ∷ [];
      number = λ word. if word == 8203 then Some 0 else None;
      asks = λ word. if word == 8203 then leap_asks else quiet register_0;
      answers = Done (writes 0 19 0 Absent Absent) ∷ Done leap_record ∷ [];
      blocks = λ p. if p == 1 then block_7 else no_block;
      own = λ p. if p == 1 then register_0 else no_customs;
      loads = λ p. None;
    }

-- its cells
abbrev pub idles : ℕ → ℕ → Option Cell
idles serial at = cell serial at 19 None

abbrev pub leaps : Option Cell
leaps = cell 1 4 8203 None

abbrev pub break : Option Cell
break = cell 4 16 1048691 None

-- its rows, the newest first
abbrev pub leaping_rows : List Row
leaping_rows =
    row_with (None ∷ break ∷ None ∷ None ∷ None ∷ []) None none_flushed None (Some Ebreak)
    ∷ row_of break None None None
    ∷ row_with (idles 3 12 ∷ idles 2 8 ∷ leaps ∷ None ∷ None ∷ []) (Some (1, leap_record)) (Some 2 ∷ Some 3 ∷ replicate 3 None) (Some 16) None
    ∷ row_of (idles 2 8) leaps (idles 0 0) (Some (0, writes 0 19 0 Absent Absent))
    ∷ row_of leaps (idles 0 0) None None
    ∷ row_of (idles 0 0) None None None
    ∷ []

-- the leap: en1, the pc and custom register 0
abbrev pub leaping_inputs : List ℕ → List (List ℕ)
leaping_inputs flushed = (0 ∷ 0 ∷ 0 ∷ []) ∷ (1 ∷ 0 ∷ 0 ∷ []) ∷ (1 ∷ 4 ∷ 0 ∷ []) ∷ flushed ∷ (0 ∷ 0 ∷ 0 ∷ []) ∷ (0 ∷ 0 ∷ 0 ∷ []) ∷ []

abbrev pub AreLeaping : List (List ℕ) → Type 0
AreLeaping cycles = AreInputs leaping 0 leap leaping_rows cycles

abbrev pub AreNotLeaping : List (List ℕ) → Type 0
AreNotLeaping cycles = AreNotInputs leaping 0 leap leaping_rows cycles

abbrev pub right : List (List ℕ)
right = leaping_inputs (0 ∷ 0 ∷ 0 ∷ [])

-- the flushed cell moves
abbrev pub flushed_moves : List (List ℕ)
flushed_moves = leaping_inputs (1 ∷ 0 ∷ 0 ∷ [])

-- the block: custom register 0 and the pc of the cell at EX. Behind the leap there is what the block wrote as that left EX, and behind its retirement what the leap wrote
abbrev pub watch_inputs : List ℕ → List ℕ → List (List ℕ)
watch_inputs flushed after = (0 ∷ 0 ∷ []) ∷ (0 ∷ 0 ∷ []) ∷ (0 ∷ 4 ∷ []) ∷ flushed ∷ (0 ∷ 0 ∷ []) ∷ after ∷ []

abbrev pub AreWatching : List (List ℕ) → Type 0
AreWatching cycles = AreInputs leaping 1 (watch 1 four_32) leaping_rows cycles

abbrev pub AreNotWatching : List (List ℕ) → Type 0
AreNotWatching cycles = AreNotInputs leaping 1 (watch 1 four_32) leaping_rows cycles

abbrev pub watched : List (List ℕ)
watched = watch_inputs (7 ∷ 8 ∷ []) (2 ∷ 16 ∷ [])

-- a flushed cell is not seen
abbrev pub blind_to_flushed : List (List ℕ)
blind_to_flushed = watch_inputs (7 ∷ 0 ∷ []) (2 ∷ 16 ∷ [])

-- the block's write is put off with the late one
abbrev pub block_put_off : List (List ℕ)
block_put_off = watch_inputs (0 ∷ 8 ∷ []) (2 ∷ 16 ∷ [])

-- the late write is there in the row of the retirement
abbrev pub late_too_early : List (List ℕ)
late_too_early = watch_inputs (2 ∷ 8 ∷ []) (2 ∷ 16 ∷ [])

-- the late write is lost
abbrev pub late_lost : List (List ℕ)
late_lost = watch_inputs (7 ∷ 8 ∷ []) (7 ∷ 16 ∷ [])
