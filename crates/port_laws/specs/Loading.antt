-- A run on the core of three stages: an instruction with mode Tight loads, is held by Wait, reads in the row in which it shows Tail first, and goes on in the last stage. And
-- inputs that are not those of its rows (this project's choice).
use Rattle.std.specs.Prelude.{ℕ, List, [], ◌∷◌, replicate, codes, Option, Some, None, false, if◌then◌else◌, ◌==◌}
use Rattle.ix_graph.specs.declared.graph.Mode.TheVariants.{Tight}
use Rattle.ix_graph.specs.declared.kind.Kind.TheVariants.{RdCustReg, RdMem, WrRD}
use Rattle.ix_plan.specs.declared.design.Plan.{Plan}
use Rattle.ix_tree.specs.declared.extension.Register.{Register}
use Rattle.rv_seq.specs.declared.answer.StepAnswer.TheVariants.{Done}
use Rattle.rv_seq.specs.declared.commit.Commit.{Commit}
use Rattle.rv_seq.specs.declared.commit.Slot.TheVariants.{Absent}
use Rattle.rv_seq.specs.declared.commit.Stop.TheVariants.{Ebreak}
use Rattle.rv_trace.specs.declared.row.Cell.{Cell}
use Rattle.rv_trace.specs.declared.row.Hold.{Hold}
use Rattle.rv_trace.specs.declared.row.Hold.TheVariants.{Operand, Drain, Wait, Tail, Behind}
use Rattle.rv_trace.specs.declared.row.Row.{Row}
use Rattle.port_laws.specs.Hands.{Hand, three, u1, u32, base_32, first_word, always, of_op, op, sum, low, plan_of, no_customs, no_block, none_own, quiet, puts, AreInputs, AreNotInputs, cell, none_flushed, row_with, row_of}

-- loads the word at custom register 0 and writes four times this to rd, by three sums, one after another from time 2 on
abbrev pub quadruple : Plan
quadruple =
    plan_of Tight
    (op (RdCustReg 0) [] u32
    ∷ op RdMem (of_op 0 ∷ always ∷ []) u32
    ∷ sum (of_op 1) (of_op 1)
    ∷ low 2
    ∷ sum (of_op 3) (of_op 1)
    ∷ low 4
    ∷ sum (of_op 5) (of_op 1)
    ∷ low 6
    ∷ op WrRD (of_op 7 ∷ always ∷ []) u1
    ∷ [])
    (replicate 9 false) (1 ∷ 1 ∷ 2 ∷ 2 ∷ 3 ∷ 3 ∷ 4 ∷ 4 ∷ 4 ∷ []) 4

-- custom register 0, which starts with the first address of the memory
abbrev pub pointer : Register
pointer = record { name = codes "ADDR"; ty = u32; initial = base_32 }

-- sw x1, 0(x5) at 8, which stores 7
abbrev pub store_record : Commit
store_record = record { at = 8; word = 1220643; rd_index = 0; rd = Absent; custom = replicate 16 Absent; store = Some (first_word, 7); next = 12 }

-- lui x5, 0x80000 (800002b7); addi x1, x0, 7 (00700093); sw x1, 0(x5) (0012a023); the load to x2 (0000110b); ebreak (00100073); the memory makes the second access wait for a row
abbrev pub loading : Hand
loading =
    record {
      shape = three;
      registers = pointer ∷ [];
      plans = quadruple ∷ [];
      number = λ word. if word == 4363 then Some 0 else None;
      asks = λ word. quiet no_customs;
      answers = Done (puts 0 2147484343 5 2147483648) ∷ Done (puts 4 7340179 1 7) ∷ Done store_record ∷ Done (puts 12 4363 2 28) ∷ [];
      blocks = λ p. no_block;
      own = none_own;
      loads = λ p. if p == 3 then Some first_word else None;
    }

-- its cells
abbrev pub points : Option Cell
points = cell 0 0 2147484343 None

abbrev pub puts_seven : Option Cell
puts_seven = cell 1 4 7340179 None

abbrev pub stores : Option Hold → Option Cell
stores hold = cell 2 8 1220643 hold

abbrev pub loads : Option Hold → Option Cell
loads hold = cell 3 12 4363 hold

abbrev pub break : Option Hold → Option Cell
break hold = cell 4 16 1048691 hold

-- a row in which the load is held in the last stage, and what is to stop the run waits for it
abbrev pub held_row : Hold → Row
held_row hold = row_of None (break (Some (Drain 3))) (loads (Some hold)) None

-- its rows, the newest first
abbrev pub loading_rows : List Row
loading_rows =
    row_with (None ∷ break None ∷ loads None ∷ None ∷ None ∷ []) (Some (3, puts 12 4363 2 28)) none_flushed None (Some Ebreak)
    ∷ held_row (Tail 1)
    ∷ held_row (Tail 2)
    ∷ held_row (Wait 1)
    ∷ row_of (break None) (loads None) (stores None) (Some (2, store_record))
    ∷ row_of (loads None) (stores None) None None
    ∷ row_of (loads (Some Behind)) (stores (Some (Operand 1 1))) puts_seven (Some (1, puts 4 7340179 1 7))
    ∷ row_of (stores None) puts_seven points (Some (0, puts 0 2147484343 5 2147483648))
    ∷ row_of puts_seven points None None
    ∷ row_of points None None None
    ∷ []

-- en1, en2 and en3, the pointer and the word that is loaded. What waits for the memory has none; the row of the first Tail has it, and the next one, in which the token stands one time later,
-- has not; en2 and en3 are 1 where the cell is held by Tail
abbrev pub loading_inputs : List ℕ → List ℕ → List ℕ → List ℕ → List (List ℕ)
loading_inputs waiting reading going last =
    (0 ∷ 0 ∷ 0 ∷ 0 ∷ 0 ∷ []) ∷ (1 ∷ 0 ∷ 0 ∷ 0 ∷ 0 ∷ []) ∷ (1 ∷ 0 ∷ 0 ∷ 0 ∷ 0 ∷ []) ∷ (0 ∷ 0 ∷ 0 ∷ 0 ∷ 0 ∷ []) ∷ (1 ∷ 0 ∷ 0 ∷ 0 ∷ 0 ∷ []) ∷ (1 ∷ 0 ∷ 0 ∷ 2147483648 ∷ 0 ∷ [])
    ∷ waiting ∷ reading ∷ going ∷ last ∷ []

abbrev pub AreLoading : List (List ℕ) → Type 0
AreLoading cycles = AreInputs loading 0 quadruple loading_rows cycles

abbrev pub AreNotLoading : List (List ℕ) → Type 0
AreNotLoading cycles = AreNotInputs loading 0 quadruple loading_rows cycles

abbrev pub right : List (List ℕ)
right = loading_inputs (0 ∷ 0 ∷ 0 ∷ 0 ∷ 0 ∷ []) (0 ∷ 1 ∷ 1 ∷ 0 ∷ 7 ∷ []) (0 ∷ 1 ∷ 1 ∷ 0 ∷ 0 ∷ []) (0 ∷ 0 ∷ 0 ∷ 0 ∷ 0 ∷ [])

-- the word is there while the memory makes the load wait
abbrev pub reads_while_waiting : List (List ℕ)
reads_while_waiting = loading_inputs (0 ∷ 0 ∷ 0 ∷ 0 ∷ 7 ∷ []) (0 ∷ 1 ∷ 1 ∷ 0 ∷ 7 ∷ []) (0 ∷ 1 ∷ 1 ∷ 0 ∷ 0 ∷ []) (0 ∷ 0 ∷ 0 ∷ 0 ∷ 0 ∷ [])

-- the token goes on while the memory makes the load wait
abbrev pub goes_while_waiting : List (List ℕ)
goes_while_waiting = loading_inputs (0 ∷ 1 ∷ 0 ∷ 0 ∷ 0 ∷ []) (0 ∷ 1 ∷ 1 ∷ 0 ∷ 7 ∷ []) (0 ∷ 1 ∷ 1 ∷ 0 ∷ 0 ∷ []) (0 ∷ 0 ∷ 0 ∷ 0 ∷ 0 ∷ [])

-- the word is that from before the store
abbrev pub reads_before_store : List (List ℕ)
reads_before_store = loading_inputs (0 ∷ 0 ∷ 0 ∷ 0 ∷ 0 ∷ []) (0 ∷ 1 ∷ 1 ∷ 0 ∷ 0 ∷ []) (0 ∷ 1 ∷ 1 ∷ 0 ∷ 0 ∷ []) (0 ∷ 0 ∷ 0 ∷ 0 ∷ 0 ∷ [])

-- the word is there in the second row of Tail too
abbrev pub reads_twice : List (List ℕ)
reads_twice = loading_inputs (0 ∷ 0 ∷ 0 ∷ 0 ∷ 0 ∷ []) (0 ∷ 1 ∷ 1 ∷ 0 ∷ 7 ∷ []) (0 ∷ 1 ∷ 1 ∷ 0 ∷ 7 ∷ []) (0 ∷ 0 ∷ 0 ∷ 0 ∷ 0 ∷ [])

-- one enable alone is 1 in a row of Tail
abbrev pub one_enable : List (List ℕ)
one_enable = loading_inputs (0 ∷ 0 ∷ 0 ∷ 0 ∷ 0 ∷ []) (0 ∷ 1 ∷ 0 ∷ 0 ∷ 7 ∷ []) (0 ∷ 1 ∷ 1 ∷ 0 ∷ 0 ∷ []) (0 ∷ 0 ∷ 0 ∷ 0 ∷ 0 ∷ [])

-- the token goes on in the row of the retirement
abbrev pub goes_at_retirement : List (List ℕ)
goes_at_retirement = loading_inputs (0 ∷ 0 ∷ 0 ∷ 0 ∷ 0 ∷ []) (0 ∷ 1 ∷ 1 ∷ 0 ∷ 7 ∷ []) (0 ∷ 1 ∷ 1 ∷ 0 ∷ 0 ∷ []) (0 ∷ 0 ∷ 1 ∷ 0 ∷ 0 ∷ [])
