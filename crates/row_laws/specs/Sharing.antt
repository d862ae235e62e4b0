-- A run whose first instruction writes a custom register by `spawn` that an always-block writes too: what the block writes is there from the retirement on, and what the
-- instruction writes comes later, where its condition is true (SCAIE-V, decoupled execution; that the block's write is made at retirement is this project's choice).
use Rattle.std.specs.Prelude.{◌≡◌, ℕ, zero, suc, ◌*◌, List, [], ◌∷◌, get_or, replicate, Option, Some, None, Bool, true, false, if◌then◌else◌, ◌==◌}
use Rattle.std.proofs.Common.{lit<, lit≤}
use Rattle.ix_bits.specs.declared.number.Bits.{Bits}
use Rattle.ix_plan.specs.declared.design.Target.TheVariants.{Custom}
use Rattle.rv_asks.specs.declared.asks.Asks.{Asks}
use Rattle.rv_lawful.specs.Headline.{IsSpawnWrite}
use Rattle.rv_lawful.specs.LawfulTrace.{Lawful}
use Rattle.rv_lawful.specs.Outstanding.{Written, architecture, applied_state}
use Rattle.rv_lawful.specs.Settings.{Setting}
use Rattle.rv_seq.specs.Bare.{bare}
use Rattle.rv_seq.specs.States.{zero_bit}
use Rattle.rv_seq.specs.declared.answer.StepAnswer.{StepAnswer}
use Rattle.rv_seq.specs.declared.answer.StepAnswer.TheVariants.{Done, Stopped}
use Rattle.rv_seq.specs.declared.commit.Commit.{Commit}
use Rattle.rv_seq.specs.declared.commit.Slot.{Slot}
use Rattle.rv_seq.specs.declared.commit.Slot.TheVariants.{Absent, Now, Later}
use Rattle.rv_seq.specs.declared.commit.Stop.TheVariants.{Ebreak}
use Rattle.rv_trace.specs.declared.row.Cell.{Cell}
use Rattle.rv_trace.specs.declared.row.Hold.{Hold}
use Rattle.rv_trace.specs.declared.row.Hold.TheVariants.{Board, Drain}
use Rattle.rv_trace.specs.declared.row.Row.{Row}
use Rattle.row_laws.specs.Hands.{Hand, by_hand, no_values, no_jump, no_customs, cell}
use Rattle.row_laws.specs.Holding.{register_0}
use Rattle.row_laws.specs.Spawning.{full_row}

-- what is asked of two instructions: the first writes custom register 0 by `spawn`, in unit 0 (0000000b), and the other is ebreak (00100073); the block writes the register
-- beside each
abbrev pub sharing_asks : ℕ → Asks
sharing_asks word =
    record {
      first = 0;
      second = 0;
      destination = 0;
      x_time = 0;
      spawned = None;
      loads = false;
      stores = false;
      late = false;
      tail = 0;
      customs = register_0;
      late_customs = no_customs;
      spawned_customs = if word == 11 then register_0 else no_customs;
      unit = if word == 11 then Some 0 else None;
    }

-- what the block writes
abbrev pub of_block : Bits
of_block = record { raw = 5; width = 8; some_width = lit≤ tt; most_width = lit≤ tt; in_width = lit< tt }

-- what the instruction writes, where its condition is true
abbrev pub of_instruction : Bits
of_instruction = record { raw = 7; width = 8; some_width = lit≤ tt; most_width = lit≤ tt; in_width = lit< tt }

-- what the step leaves in the register, by that condition
abbrev pub left_by : Bool → Bits
left_by true = of_instruction
left_by false = of_block

-- this is written to custom register 0 and nothing to the others
abbrev pub in_register_0 : Slot Bits → List (Slot Bits)
in_register_0 slot = slot ∷ replicate 15 Absent

-- the record of the first instruction, with this for custom register 0
abbrev pub sharing_record : Slot Bits → Commit
sharing_record slot = record { at = 0; word = 11; rd_index = 0; rd = Absent; custom = in_register_0 slot; store = None; next = 4 }

-- behind the first one the run stops
abbrev pub sharing_answer : Bool → ℕ → StepAnswer
sharing_answer b zero = Done (sharing_record (Now (left_by b)))
sharing_answer b (suc p) = Stopped Ebreak

-- the run, by the condition, with its words
abbrev pub sharing_hand : Bool → Hand
sharing_hand b =
    record {
      image = 11 ∷ 1048691 ∷ [];
      course = record { answer = sharing_answer b; pc = λ p. 4 * p; enabled = λ p. false; accesses = λ p. false; blocks = λ p. Some of_block ∷ replicate 15 None; own = λ p. b ∷ replicate 15 false };
      asks = sharing_asks;
      units = (None ∷ []) ∷ [];
      initial = no_values;
      jump = no_jump;
    }

-- what its rows are judged against, by the condition
abbrev pub sharing : Bool → Setting
sharing b = by_hand (sharing_hand b)

-- the instruction that writes the register
abbrev pub sharer : Cell
sharer = cell 0 0 11 None

-- the one that stops the run
abbrev pub break : Option Hold → Cell
break hold = cell 1 4 1048691 hold

-- the first one is fetched
abbrev pub row_0 : Row
row_0 = full_row (Some sharer) None None None None None

-- it leaves EX
abbrev pub row_1 : Row
row_1 = full_row (Some (break None)) (Some sharer) None None None None

-- it retires, and the other one shows this hold
abbrev pub shared_row : Hold → Row
shared_row hold = full_row None (Some (break (Some hold))) (Some sharer) (Some (0, sharing_record Later)) None None

-- the other one waits for its write, since the block writes the register beside it too
abbrev pub row_2 : Row
row_2 = shared_row (Board (Custom 0) 0)

-- what the unit writes, by the condition
abbrev pub sharing_write : Bool → Written
sharing_write true = (0, 0, Absent, in_register_0 (Now of_instruction))
sharing_write false = (0, 0, Absent, in_register_0 Absent)

-- it is written
abbrev pub row_3 : Bool → Row
row_3 b = full_row None (Some (break (Some (Board (Custom 0) 0)))) None None (Some (sharing_write b)) None

-- the run stops
abbrev pub row_4 : Row
row_4 = full_row None (Some (break None)) None None None (Some Ebreak)

-- the first rows, the newest first
abbrev pub two_rows : List Row
two_rows = row_1 ∷ row_0 ∷ []

-- the rows up to the retirement
abbrev pub sharing_three : List Row
sharing_three = row_2 ∷ two_rows

-- the rows up to the write
abbrev pub sharing_four : Bool → List Row
sharing_four b = row_3 b ∷ sharing_three

-- all rows, the newest first
abbrev pub sharing_rows : Bool → List Row
sharing_rows b = row_4 ∷ sharing_four b

-- the rows are not lawful
abbrev pub IsUnlawful : Bool → List Row → Type 0
IsUnlawful b rows = Lawful (λ places. sharing b) rows → ⊥

-- the one that stops the run shows that it drains, though the register comes first
abbrev pub drains_first : List Row
drains_first = shared_row (Drain 0) ∷ two_rows

-- in the architectural state behind these rows the register has this value
abbrev pub Holds : Bool → List Row → Bits → Type 0
Holds b rows value = get_or (architecture bare (sharing b) rows).custom 0 zero_bit ≡ value

-- and in the applied state
abbrev pub HoldsApplied : Bool → List Row → Bits → Type 0
HoldsApplied b rows value = get_or (applied_state bare (sharing b) rows).custom 0 zero_bit ≡ value

-- behind the retirement this is no write of the `spawn` body
abbrev pub IsNoWrite : Bool → Written → Type 0
IsNoWrite b w = IsSpawnWrite (sharing b) sharing_three w → ⊥

-- what the block writes, written by the unit
abbrev pub block_by_unit : Written
block_by_unit = (0, 0, Absent, in_register_0 (Now of_block))

-- the register does not have this value behind these rows
abbrev pub HoldsNot : Bool → List Row → Bits → Type 0
HoldsNot b rows value = Holds b rows value → ⊥
