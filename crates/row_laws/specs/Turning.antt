-- A run whose first instruction is Tight and writes the pc behind EX: its rows have the holds Late and Tail, a flush and a redirect. And rows that no pipeline may
-- show (this project's choice).
use Rattle.std.specs.Prelude.{ℕ, zero, suc, List, [], ◌∷◌, replicate, Option, Some, None, true, false, if◌then◌else◌, ◌==◌}
use Rattle.rv_asks.specs.declared.asks.Asks.{Asks}
use Rattle.rv_lawful.specs.LawfulTrace.{Lawful}
use Rattle.rv_lawful.specs.Settings.{Setting}
use Rattle.rv_seq.specs.declared.answer.StepAnswer.{StepAnswer}
use Rattle.rv_seq.specs.declared.answer.StepAnswer.TheVariants.{Done, Stopped}
use Rattle.rv_seq.specs.declared.commit.Stop.TheVariants.{Ebreak}
use Rattle.rv_trace.specs.declared.row.Cell.{Cell}
use Rattle.rv_trace.specs.declared.row.Hold.{Hold}
use Rattle.rv_trace.specs.declared.row.Hold.TheVariants.{Late, Tail, Behind}
use Rattle.rv_trace.specs.declared.row.Row.{Row}
use Rattle.row_laws.specs.Hands.{Hand, by_hand, no_values, no_jump, no_blocks, none_own, quiet, no_customs, going, cell, none_flushed, row_with, row_of}

-- the first instruction writes the pc late, in one more cycle in the last stage
abbrev pub turning_asks : ℕ → Asks
turning_asks word =
    if word == 91 then
    record { first = 0; second = 0; destination = 0; x_time = 0; spawned = None; loads = false; stores = false; late = true; tail = 1; customs = no_customs; late_customs = no_customs; spawned_customs = no_customs; unit = None }
    else quiet

-- it goes on at address 12, past two instructions that do nothing, and there the run stops
abbrev pub turning_answer : ℕ → StepAnswer
turning_answer zero = Done (going 0 91 12)
turning_answer (suc p) = Stopped Ebreak

-- the pc at each place
abbrev pub turning_pc : ℕ → ℕ
turning_pc zero = 0
turning_pc (suc p) = 12

-- nop (00000013); ebreak (00100073)
abbrev pub turning_hand : Hand
turning_hand = record { image = 91 ∷ 19 ∷ 19 ∷ 1048691 ∷ []; course = record { answer = turning_answer; pc = turning_pc; enabled = λ p. false; accesses = λ p. false; blocks = no_blocks; own = none_own }; asks = turning_asks; units = []; initial = no_values; jump = no_jump }

-- what its rows are judged against
abbrev pub turning : Setting
turning = by_hand turning_hand

-- the instruction that writes the pc
abbrev pub jump : Option Hold → Cell
jump hold = cell 0 0 91 hold

-- the one behind it
abbrev pub passed : Option Hold → Cell
passed hold = cell 1 4 19 hold

-- and the one behind that
abbrev pub passed_too : Option Hold → Cell
passed_too hold = cell 2 8 19 hold

-- the one to which the run goes on
abbrev pub target : Cell
target = cell 3 12 1048691 None

-- the jump is fetched
abbrev pub row_0 : Row
row_0 = row_of (Some (jump None)) None None None

-- the jump leaves EX, with these flushed serials and this redirect
abbrev pub at_ex : List (Option ℕ) → Option ℕ → Row
at_ex flushed redirect = row_with (Some (passed None)) (Some (jump None)) None None flushed redirect None

-- it leaves EX, and turns nothing
abbrev pub row_1 : Row
row_1 = at_ex none_flushed None

-- the jump goes on in the last stage, and the instruction behind it waits at EX
abbrev pub row_2 : Row
row_2 = row_of (Some (passed_too (Some Behind))) (Some (passed (Some (Late 0)))) (Some (jump (Some (Tail 1)))) None

-- the jump retires, with these flushed serials and this redirect
abbrev pub turn_row : List (Option ℕ) → Option ℕ → Row
turn_row flushed redirect = row_with (Some (passed_too None)) (Some (passed None)) (Some (jump None)) (Some (0, going 0 91 12)) flushed redirect None

-- both younger cells, the older one first
abbrev pub both : List (Option ℕ)
both = Some 1 ∷ Some 2 ∷ replicate 3 None

-- both younger cells are flushed, and the fetch goes to address 12
abbrev pub row_3 : Row
row_3 = turn_row both (Some 12)

-- the word there is fetched
abbrev pub row_4 : Row
row_4 = row_of (Some target) None None None

-- the run stops
abbrev pub row_5 : Row
row_5 = row_with None (Some target) None None none_flushed None (Some Ebreak)

-- the first rows, the newest first
abbrev pub two_rows : List Row
two_rows = row_1 ∷ row_0 ∷ []

-- and the next one
abbrev pub three_rows : List Row
three_rows = row_2 ∷ two_rows

-- its rows, the newest first
abbrev pub turning_rows : List Row
turning_rows = row_5 ∷ row_4 ∷ row_3 ∷ three_rows

-- the rows are not lawful
abbrev pub IsUnlawful : List Row → Type 0
IsUnlawful rows = Lawful (λ places. turning) rows → ⊥

-- the younger cells are not flushed
abbrev pub unflushed : List Row
unflushed = turn_row none_flushed (Some 12) ∷ three_rows

-- one of them is not flushed
abbrev pub one_unflushed : List Row
one_unflushed = turn_row (Some 1 ∷ replicate 4 None) (Some 12) ∷ three_rows

-- a flushed cell is listed twice
abbrev pub flushed_twice : List Row
flushed_twice = turn_row (Some 1 ∷ Some 1 ∷ Some 2 ∷ replicate 2 None) (Some 12) ∷ three_rows

-- no redirect
abbrev pub no_redirect : List Row
no_redirect = turn_row both None ∷ three_rows

-- the redirect is to another address
abbrev pub other_redirect : List Row
other_redirect = turn_row both (Some 16) ∷ three_rows

-- the turn comes at EX, before the pc is written
abbrev pub early_turn : List Row
early_turn = at_ex (Some 1 ∷ replicate 4 None) (Some 12) ∷ row_0 ∷ []

-- the instruction behind the jump leaves EX before it
abbrev pub late_left_out : List Row
late_left_out = row_of (Some (passed_too None)) (Some (passed None)) (Some (jump (Some (Tail 1)))) None ∷ two_rows

-- a flushed cell moves on and retires
abbrev pub flushed_retires : List Row
flushed_retires =
    row_with None (Some target) (Some (passed None)) (Some (1, going 4 19 8)) none_flushed None None
    ∷ row_of (Some target) (Some (passed_too None)) (Some (passed None)) (Some (1, going 4 19 8))
    ∷ row_3 ∷ three_rows
