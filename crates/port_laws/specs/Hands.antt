-- Rows, runs and behaviours that are made by hand (this project's choice).
use Rattle.std.specs.Prelude.{◌≡◌, ℕ, ◌+◌, List, [], ◌∷◌, replicate, slice_index_or, codes, Option, Some, None, Bool, true, false}
use Rattle.std.proofs.Common.{lit<, lit≤, refl}
use Rattle.ix_bits.specs.declared.number.Bits.{Bits}
use Rattle.ix_bits.specs.declared.number.Ty.{Ty}
use Rattle.ix_eval.specs.declared.access.Access.{Access}
use Rattle.ix_graph.specs.declared.args.Arg.{Arg}
use Rattle.ix_graph.specs.declared.args.Arg.TheVariants as arg
use Rattle.ix_graph.specs.declared.graph.Mode.{Mode}
use Rattle.ix_graph.specs.declared.graph.Op.{Op}
use Rattle.ix_graph.specs.declared.graph.Mode.TheVariants.{InPipeline, Always}
use Rattle.ix_graph.specs.declared.kind.Kind.{Kind}
use Rattle.ix_graph.specs.declared.kind.Kind.TheVariants.{RdRS1, RdRS2, RdPC, RdCustReg, WrRD, WrCustReg, Add, Eq, Land, Cast}
use Rattle.ix_plan.specs.declared.design.Plan.{Plan}
use Rattle.ix_plan.specs.Units.{first_units}
use Rattle.ix_tree.specs.declared.extension.Register.{Register}
use Rattle.rv_asks.specs.declared.asks.Asks.{Asks}
use Rattle.rv_core.specs.declared.Shape.{Shape}
use Rattle.rv_core.specs.Stages.{three_lawful, five_lawful}
use Rattle.rv_seq.specs.declared.answer.StepAnswer.{StepAnswer}
use Rattle.rv_seq.specs.declared.answer.StepAnswer.TheVariants.{Stopped}
use Rattle.rv_seq.specs.declared.commit.Commit.{Commit}
use Rattle.rv_seq.specs.declared.commit.Slot.{Slot}
use Rattle.rv_seq.specs.declared.commit.Slot.TheVariants.{Absent, Now}
use Rattle.rv_seq.specs.declared.commit.Stop.{Stop}
use Rattle.rv_seq.specs.declared.commit.Stop.TheVariants.{Ebreak}
use Rattle.rv_seq.specs.States.{initials}
use Rattle.rv_trace.specs.declared.row.Cell.{Cell}
use Rattle.rv_trace.specs.declared.row.Hold.{Hold}
use Rattle.rv_trace.specs.declared.row.Row.{Row}
use Rattle.rv_ports.specs.Drives.{Drives}
use Rattle.rv_ports.specs.Driven.{inputs_over}

-- Cores

-- three stages: operands and execute in the second, memory in the last one
abbrev pub three : Shape
three = record { stages = 3; rd = 1; ex = 1; mem = 2; forward = false; predict = false; trap = 16; lawful = three_lawful }

-- five stages, each with one thing to do
abbrev pub five : Shape
five = record { stages = 5; rd = 1; ex = 2; mem = 3; forward = false; predict = false; trap = 16; lawful = five_lawful }

-- the same, where it forwards
abbrev pub five_forwarding : Shape
five_forwarding = record { stages = 5; rd = 1; ex = 2; mem = 3; forward = true; predict = false; trap = 16; lawful = five_lawful }

-- Behaviours

-- numbers of 1, 8, 9, 32 and 33 bits
abbrev pub u1 : Ty
u1 = record { signed = false; width = 1; some_width = lit≤ tt; most_width = lit≤ tt }

abbrev pub u8 : Ty
u8 = record { signed = false; width = 8; some_width = lit≤ tt; most_width = lit≤ tt }

abbrev pub u9 : Ty
u9 = record { signed = false; width = 9; some_width = lit≤ tt; most_width = lit≤ tt }

abbrev pub u32 : Ty
u32 = record { signed = false; width = 32; some_width = lit≤ tt; most_width = lit≤ tt }

abbrev pub u33 : Ty
u33 = record { signed = false; width = 33; some_width = lit≤ tt; most_width = lit≤ tt }

-- patterns of these widths
abbrev pub zero_1 : Bits
zero_1 = record { raw = 0; width = 1; some_width = lit≤ tt; most_width = lit≤ tt; in_width = lit< tt }

abbrev pub one_1 : Bits
one_1 = record { raw = 1; width = 1; some_width = lit≤ tt; most_width = lit≤ tt; in_width = lit< tt }

abbrev pub zero_8 : Bits
zero_8 = record { raw = 0; width = 8; some_width = lit≤ tt; most_width = lit≤ tt; in_width = lit< tt }

abbrev pub seven_8 : Bits
seven_8 = record { raw = 7; width = 8; some_width = lit≤ tt; most_width = lit≤ tt; in_width = lit< tt }

abbrev pub two_8 : Bits
two_8 = record { raw = 2; width = 8; some_width = lit≤ tt; most_width = lit≤ tt; in_width = lit< tt }

abbrev pub four_32 : Bits
four_32 = record { raw = 4; width = 32; some_width = lit≤ tt; most_width = lit≤ tt; in_width = lit< tt }

abbrev pub eight_32 : Bits
eight_32 = record { raw = 8; width = 32; some_width = lit≤ tt; most_width = lit≤ tt; in_width = lit< tt }

abbrev pub twelve_32 : Bits
twelve_32 = record { raw = 12; width = 32; some_width = lit≤ tt; most_width = lit≤ tt; in_width = lit< tt }

abbrev pub sixteen_32 : Bits
sixteen_32 = record { raw = 16; width = 32; some_width = lit≤ tt; most_width = lit≤ tt; in_width = lit< tt }

-- the first address of the memory
abbrev pub base_32 : Bits
base_32 = record { raw = 2147483648; width = 32; some_width = lit≤ tt; most_width = lit≤ tt; in_width = lit< tt }

-- the four bytes there
abbrev pub first_word : Access
first_word = record { at = 2147483648; bytes = 4; some = lit< tt; few = lit≤ tt; divides_four = refl }

-- the condition of a write that is always made
abbrev pub always : Arg
always = arg.Const u1 one_1

-- the result of the operation with this number
abbrev pub of_op : ℕ → Arg
of_op k = arg.Op k

-- an operation on these arguments
abbrev pub op : Kind → List Arg → Ty → Op
op kind args ty = record { kind = kind; args = args; ty = ty }

-- the sum of two numbers of 32 bits
abbrev pub sum : Arg → Arg → Op
sum a b = op Add (a ∷ b ∷ []) u33

-- its low 32 bits
abbrev pub low : ℕ → Op
low k = op Cast (of_op k ∷ []) u32

-- a plan of a behaviour with these operations, those of its `spawn` body marked, each with its time
abbrev pub plan_of : Mode → List Op → List Bool → List ℕ → ℕ → Plan
plan_of mode ops spawned times last = record { mode = mode; graph = record { ops = ops; spawned = spawned; tables = [] }; times = times; last = last }

-- addx rd, rs1, rs2: rd is the sum of both operands, which is written at time 2
abbrev pub addx : Plan
addx =
    plan_of InPipeline
    (op RdRS1 [] u32 ∷ op RdRS2 [] u32 ∷ sum (of_op 0) (of_op 1) ∷ low 2 ∷ op WrRD (of_op 3 ∷ always ∷ []) u1 ∷ [])
    (replicate 5 false) (1 ∷ 1 ∷ 1 ∷ 1 ∷ 2 ∷ []) 2

-- an always-block that writes 7 to custom register 0 where this is 0 and the pc is the given one, on a core with EX at this time
abbrev pub watch : ℕ → Bits → Plan
watch ex pc =
    plan_of Always
    (op (RdCustReg 0) [] u8
    ∷ op Eq (of_op 0 ∷ arg.Const u1 zero_1 ∷ []) u1
    ∷ op RdPC [] u32
    ∷ op Eq (of_op 2 ∷ arg.Const u32 pc ∷ []) u1
    ∷ op Land (of_op 1 ∷ of_op 3 ∷ []) u1
    ∷ op (WrCustReg 0) (arg.Const u8 seven_8 ∷ of_op 4 ∷ []) u1
    ∷ [])
    (replicate 6 false) (replicate 6 ex) ex

-- Runs

-- no custom register
abbrev pub no_customs : List Bool
no_customs = replicate 16 false

-- custom register 0
abbrev pub register_0 : List Bool
register_0 = true ∷ replicate 15 false

-- no always-block writes a custom register, or one writes 7 to custom register 0
abbrev pub no_block : List (Option Bits)
no_block = replicate 16 None

abbrev pub block_7 : List (Option Bits)
block_7 = Some seven_8 ∷ replicate 15 None

-- custom register 0, of 8 bits, which starts with 0
abbrev pub count : Register
count = record { name = codes "N"; ty = u8; initial = zero_8 }

-- an instruction of which nothing is asked, where these custom registers are used by blocks
abbrev pub quiet : List Bool → Asks
quiet customs =
    record {
      first = 0;
      second = 0;
      destination = 0;
      x_time = 0;
      spawned = None;
      loads = false;
      stores = false;
      late = false;
      tail = 0;
      customs = customs;
      late_customs = no_customs;
      spawned_customs = no_customs;
      unit = None;
    }

-- an instruction that writes this x register in its own body at this time
abbrev pub puts_to : ℕ → ℕ → Asks
puts_to rd time =
    record {
      first = 0;
      second = 0;
      destination = rd;
      x_time = time;
      spawned = None;
      loads = false;
      stores = false;
      late = false;
      tail = 0;
      customs = no_customs;
      late_customs = no_customs;
      spawned_customs = no_customs;
      unit = None;
    }

-- no step writes a custom register itself
abbrev pub none_own : ℕ → List Bool
none_own p = no_customs

-- the writes of an instruction at an address: an x register, and this of custom register 0
abbrev pub writes : ℕ → ℕ → ℕ → Slot ℕ → Slot Bits → Commit
writes at word rd slot custom = record { at = at; word = word; rd_index = rd; rd = slot; custom = custom ∷ replicate 15 Absent; store = None; next = at + 4 }

-- the writes of one that writes an x register alone
abbrev pub puts : ℕ → ℕ → ℕ → ℕ → Commit
puts at word rd value = writes at word rd (Now value) Absent

-- what is made by hand: a core, the custom registers, the plans, the number of a word's instruction, what is asked of it, and by places of the run what the steps come to, what blocks
-- write in them and what they load
pub record Hand : Type 0 where
  pub shape : Shape
  pub registers : List Register
  pub plans : List Plan
  pub number : ℕ → Option ℕ
  pub asks : ℕ → Asks
  pub answers : List StepAnswer
  pub blocks : ℕ → List (Option Bits)
  pub own : ℕ → List Bool
  pub loads : ℕ → Option Access

-- what drives its modules; the image, the waits, the interrupt line, the accesses of the run and the jumps of always-blocks drive none
abbrev pub by_hand : Hand → Drives
by_hand h =
    record {
      setting =
          record {
            image = [];
            waits = [];
            lines = None;
            entries = None;
            shape = h.shape;
            course = record { answer = λ p. slice_index_or h.answers p (Stopped Ebreak); pc = λ p. 0; enabled = λ p. false; accesses = λ p. false; blocks = h.blocks; own = h.own };
            asks = h.asks;
            units = first_units h.shape.stages h.plans;
            initial = initials h.registers;
            jump = λ file at word. None;
          };
      extension = record { name = []; registers = h.registers; tables = []; instructions = []; blocks = [] };
      plans = h.plans;
      number = h.number;
      loads = h.loads;
    }

-- what drives its modules in the rows of a run that goes to the handler once: up to that row as the first says, and behind it as the second does
abbrev pub diverted : Hand → Hand → List ℕ → Drives
diverted before behind [] = by_hand before
diverted before behind (place ∷ places) = by_hand behind

-- the module of the behaviour with this number and this plan is driven so in the cycles of these rows, the oldest first
abbrev pub AreInputs : Hand → ℕ → Plan → List Row → List (List ℕ) → Type 0
AreInputs h n p rows cycles = inputs_over (λ places. by_hand h) n p rows ≡ cycles

-- it is not driven so
abbrev pub AreNotInputs : Hand → ℕ → Plan → List Row → List (List ℕ) → Type 0
AreNotInputs h n p rows cycles = AreInputs h n p rows cycles → ⊥

-- Rows

-- the cell of this serial, fetched at this address
abbrev pub cell : ℕ → ℕ → ℕ → Option Hold → Option Cell
cell serial at word hold = Some (record { serial = serial; at = at; word = word; hold = hold })

-- no serial
abbrev pub none_flushed : List (Option ℕ)
none_flushed = replicate 5 None

-- a row with these cells, what it retires, its flushed serials, its redirect and its stop
abbrev pub row_with : List (Option Cell) → Option (ℕ × Commit) → List (Option ℕ) → Option ℕ → Option Stop → Row
row_with cells retired flushed redirect stop =
    record {
      cells = cells;
      retired = retired;
      written = None;
      flushed = flushed;
      redirect = redirect;
      taken = None;
      stop = stop;
    }

-- a row of the core of three stages that flushes nothing and goes on
abbrev pub row_of : Option Cell → Option Cell → Option Cell → Option (ℕ × Commit) → Row
row_of a b c retired = row_with (a ∷ b ∷ c ∷ None ∷ None ∷ []) retired none_flushed None None

-- such a row of the core of five stages
abbrev pub long_row : Option Cell → Option Cell → Option Cell → Option Cell → Option Cell → Option (ℕ × Commit) → Row
long_row a b c d e retired = row_with (a ∷ b ∷ c ∷ d ∷ e ∷ []) retired none_flushed None None
