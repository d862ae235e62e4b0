-- A run on the core of three stages: two decoupled instructions finish in one row, so that the lower unit writes and the other one is frozen. And inputs that are not those of its rows
-- (SCAIE-V, decoupled execution; which unit writes is this project's choice).
use Rattle.std.specs.Prelude.{ℕ, List, [], ◌∷◌, ◌++◌, replicate, Option, Some, None, true, false, if◌then◌else◌, ◌==◌}
use Rattle.ix_graph.specs.declared.graph.Mode.TheVariants.{Decoupled}
use Rattle.ix_graph.specs.declared.graph.Op.{Op}
use Rattle.ix_graph.specs.declared.kind.Kind.TheVariants.{RdRS1, WrRD}
use Rattle.ix_plan.specs.declared.design.Plan.{Plan}
use Rattle.rv_asks.specs.declared.asks.Asks.{Asks}
use Rattle.rv_lawful.specs.Outstanding.{Written}
use Rattle.rv_seq.specs.declared.answer.StepAnswer.TheVariants.{Done}
use Rattle.rv_seq.specs.declared.commit.Slot.TheVariants.{Absent, Now, Later}
use Rattle.rv_seq.specs.declared.commit.Stop.{Stop}
use Rattle.rv_seq.specs.declared.commit.Stop.TheVariants.{Ebreak}
use Rattle.rv_trace.specs.declared.row.Cell.{Cell}
use Rattle.rv_trace.specs.declared.row.Hold.{Hold}
use Rattle.rv_trace.specs.declared.row.Hold.TheVariants.{Drain}
use Rattle.rv_trace.specs.declared.row.Row.{Row}
use Rattle.port_laws.specs.Hands.{Hand, three, u1, u32, always, of_op, op, sum, low, plan_of, no_customs, no_block, none_own, writes, puts, AreInputs, AreNotInputs, cell, none_flushed, row_of}

-- four sums of the operand, one after another from time 1 on
abbrev pub four_sums : List Op
four_sums =
    op RdRS1 [] u32
    ∷ sum (of_op 0) (of_op 0)
    ∷ low 1
    ∷ sum (of_op 2) (of_op 0)
    ∷ low 3
    ∷ sum (of_op 4) (of_op 0)
    ∷ low 5
    ∷ sum (of_op 6) (of_op 0)
    ∷ low 7
    ∷ []

-- writes by `spawn` five times the operand at time 4
abbrev pub quick : Plan
quick = plan_of Decoupled (four_sums ++ op WrRD (of_op 8 ∷ always ∷ []) u1 ∷ []) (replicate 9 false ++ true ∷ []) (1 ∷ 1 ∷ 1 ∷ 2 ∷ 2 ∷ 3 ∷ 3 ∷ 4 ∷ 4 ∷ 4 ∷ []) 4

-- writes by `spawn` six times the operand at time 5
abbrev pub slow : Plan
slow =
    plan_of Decoupled
    (four_sums ++ sum (of_op 8) (of_op 0) ∷ low 9 ∷ op WrRD (of_op 10 ∷ always ∷ []) u1 ∷ [])
    (replicate 11 false ++ true ∷ []) (1 ∷ 1 ∷ 1 ∷ 2 ∷ 2 ∷ 3 ∷ 3 ∷ 4 ∷ 4 ∷ 5 ∷ 5 ∷ 5 ∷ []) 5

-- what is asked of a word that writes this x register by `spawn`, in this unit
abbrev pub spawns : Option ℕ → Option ℕ → Asks
spawns rd unit =
    record {
      first = 0;
      second = 0;
      destination = 0;
      x_time = 0;
      spawned = rd;
      loads = false;
      stores = false;
      late = false;
      tail = 0;
      customs = no_customs;
      late_customs = no_customs;
      spawned_customs = no_customs;
      unit = unit;
    }

-- slow x5, x0 (0000028b) in unit 0; quick x6, x0 (0000130b) in unit 1; addi x0, x0, 0 (00000013); ebreak (00100073)
abbrev pub freezing : Hand
freezing =
    record {
      shape = three;
      registers = [];
      plans = slow ∷ quick ∷ [];
      number = λ word. if word == 651 then Some 0 else if word == 4875 then Some 1 else None;
      asks = λ word. if word == 651 then spawns (Some 5) (Some 0) else if word == 4875 then spawns (Some 6) (Some 1) else spawns None None;
      answers = Done (puts 0 651 5 0) ∷ Done (puts 4 4875 6 0) ∷ Done (writes 8 19 0 Absent Absent) ∷ [];
      blocks = λ p. no_block;
      own = none_own;
      loads = λ p. None;
    }

-- its cells
abbrev pub slow_cell : Option Cell
slow_cell = cell 0 0 651 None

abbrev pub quick_cell : Option Cell
quick_cell = cell 1 4 4875 None

abbrev pub idles : Option Cell
idles = cell 2 8 19 None

abbrev pub break : Option Hold → Option Cell
break hold = cell 3 12 1048691 hold

-- a row in which a unit writes this, with the cell that is to stop the run alone
abbrev pub writing_row : Option Hold → Written → Option Stop → Row
writing_row hold written stop =
    record {
      cells = None ∷ break hold ∷ None ∷ None ∷ None ∷ [];
      retired = None;
      written = Some written;
      flushed = none_flushed;
      redirect = None;
      taken = None;
      stop = stop;
    }

-- its rows, the newest first
abbrev pub freezing_rows : List Row
freezing_rows =
    writing_row None (1, 6, Now 0, replicate 16 Absent) (Some Ebreak)
    ∷ writing_row (Some (Drain 1)) (0, 5, Now 0, replicate 16 Absent) None
    ∷ row_of None (break (Some (Drain 0))) idles (Some (2, writes 8 19 0 Absent Absent))
    ∷ row_of (break None) idles quick_cell (Some (1, writes 4 4875 6 Later Absent))
    ∷ row_of idles quick_cell slow_cell (Some (0, writes 0 651 5 Later Absent))
    ∷ row_of quick_cell slow_cell None None
    ∷ row_of slow_cell None None None
    ∷ []

-- the slow one: en1 to en4 and the operand. en3 and en4 are 1 as long as its unit is empty or moves
abbrev pub slow_inputs : List ℕ → List (List ℕ)
slow_inputs finished =
    (0 ∷ 0 ∷ 1 ∷ 1 ∷ 0 ∷ []) ∷ (1 ∷ 0 ∷ 1 ∷ 1 ∷ 0 ∷ []) ∷ (1 ∷ 1 ∷ 1 ∷ 1 ∷ 0 ∷ []) ∷ (1 ∷ 0 ∷ 1 ∷ 1 ∷ 0 ∷ []) ∷ (0 ∷ 0 ∷ 1 ∷ 1 ∷ 0 ∷ []) ∷ finished ∷ (0 ∷ 0 ∷ 1 ∷ 1 ∷ 0 ∷ []) ∷ []

abbrev pub AreSlow : List (List ℕ) → Type 0
AreSlow cycles = AreInputs freezing 0 slow freezing_rows cycles

abbrev pub AreNotSlow : List (List ℕ) → Type 0
AreNotSlow cycles = AreNotInputs freezing 0 slow freezing_rows cycles

-- in the row of its write it is not frozen
abbrev pub slow_right : List (List ℕ)
slow_right = slow_inputs (0 ∷ 0 ∷ 1 ∷ 1 ∷ 0 ∷ [])

abbrev pub slow_frozen : List (List ℕ)
slow_frozen = slow_inputs (0 ∷ 0 ∷ 0 ∷ 1 ∷ 0 ∷ [])

-- the quick one: en1 to en3 and the operand. en2 is 1 where it retires, and en3 where its unit is empty or moves
abbrev pub quick_inputs : List ℕ → List ℕ → List ℕ → List (List ℕ)
quick_inputs empty retires finished =
    empty ∷ (1 ∷ 0 ∷ 1 ∷ 0 ∷ []) ∷ (1 ∷ 0 ∷ 1 ∷ 0 ∷ []) ∷ retires ∷ (0 ∷ 0 ∷ 1 ∷ 0 ∷ []) ∷ finished ∷ (0 ∷ 0 ∷ 1 ∷ 0 ∷ []) ∷ []

abbrev pub AreQuick : List (List ℕ) → Type 0
AreQuick cycles = AreInputs freezing 1 quick freezing_rows cycles

abbrev pub AreNotQuick : List (List ℕ) → Type 0
AreNotQuick cycles = AreNotInputs freezing 1 quick freezing_rows cycles

-- in the row in which the lower unit writes it is frozen
abbrev pub quick_right : List (List ℕ)
quick_right = quick_inputs (0 ∷ 0 ∷ 1 ∷ 0 ∷ []) (1 ∷ 1 ∷ 1 ∷ 0 ∷ []) (0 ∷ 0 ∷ 0 ∷ 0 ∷ [])

-- it moves there
abbrev pub moves_while_frozen : List (List ℕ)
moves_while_frozen = quick_inputs (0 ∷ 0 ∷ 1 ∷ 0 ∷ []) (1 ∷ 1 ∷ 1 ∷ 0 ∷ []) (0 ∷ 0 ∷ 1 ∷ 0 ∷ [])

-- the enable of a unit that is empty is 0
abbrev pub still_while_empty : List (List ℕ)
still_while_empty = quick_inputs (0 ∷ 0 ∷ 0 ∷ 0 ∷ []) (1 ∷ 1 ∷ 1 ∷ 0 ∷ []) (0 ∷ 0 ∷ 0 ∷ 0 ∷ [])

-- the enable of the last stage is 0 where it retires
abbrev pub retires_unseen : List (List ℕ)
retires_unseen = quick_inputs (0 ∷ 0 ∷ 1 ∷ 0 ∷ []) (1 ∷ 0 ∷ 1 ∷ 0 ∷ []) (0 ∷ 0 ∷ 0 ∷ 0 ∷ [])
