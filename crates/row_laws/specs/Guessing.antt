-- Two runs on a core that predicts, in which an always-block jumps: one over an instruction, and one that goes back to the first instruction as long as custom register 0 is not
-- zero, which it counts down. And rows that no such core may show (this project's choice).
use Rattle.std.specs.Prelude.{ℕ, zero, suc, List, [], ◌∷◌, get_or, replicate, Option, Some, None, false, if◌then◌else◌, ◌==◌}
use Rattle.std.proofs.Common.{lit<, lit≤}
use Rattle.ix_bits.specs.declared.number.Bits.{Bits}
use Rattle.rv_asks.specs.declared.asks.Asks.{Asks}
use Rattle.rv_lawful.specs.LawfulTrace.{Lawful}
use Rattle.rv_lawful.specs.Settings.{Setting}
use Rattle.rv_seq.specs.States.{zero_bit}
use Rattle.rv_seq.specs.declared.answer.StepAnswer.{StepAnswer}
use Rattle.rv_seq.specs.declared.answer.StepAnswer.TheVariants.{Done, Stopped}
use Rattle.rv_seq.specs.declared.commit.Commit.{Commit}
use Rattle.rv_seq.specs.declared.commit.Slot.TheVariants.{Absent, Now}
use Rattle.rv_seq.specs.declared.commit.Stop.TheVariants.{Ebreak}
use Rattle.rv_trace.specs.declared.row.Cell.{Cell}
use Rattle.rv_trace.specs.declared.row.Row.{Row}
use Rattle.row_laws.specs.Hands.{Hand, on_core, by_hand, three_predicting, no_values, no_blocks, none_own, no_customs, quiet, going, cell, none_flushed, row_with, row_of}
use Rattle.row_laws.specs.Holding.{register_0}

-- nop (00000013)
abbrev pub nop : ℕ → ℕ → Cell
nop serial at = cell serial at 19 None

-- ebreak (00100073)
abbrev pub break : ℕ → ℕ → Cell
break serial at = cell serial at 1048691 None

-- Over an instruction

-- the block jumps from address 0 to address 8
abbrev pub over : List Bits → ℕ → ℕ → Option ℕ
over file at word = if at == 0 then Some 8 else None

-- beside the first instruction it does, and there the run stops
abbrev pub over_answer : ℕ → StepAnswer
over_answer zero = Done (going 0 19 8)
over_answer (suc p) = Stopped Ebreak

-- the pc at each place
abbrev pub over_pc : ℕ → ℕ
over_pc zero = 0
over_pc (suc p) = 8

-- nop, nop, ebreak
abbrev pub over_hand : Hand
over_hand = record { image = 19 ∷ 19 ∷ 1048691 ∷ []; course = record { answer = over_answer; pc = over_pc; enabled = λ p. false; accesses = λ p. false; blocks = no_blocks; own = none_own }; asks = λ word. quiet; units = []; initial = no_values; jump = over }

-- what its rows are judged against
abbrev pub jumping : Setting
jumping = on_core three_predicting over_hand

-- the first instruction is fetched
abbrev pub over_0 : Row
over_0 = row_of (Some (nop 0 0)) None None None

-- it leaves EX, and behind it stands what was fetched at the address of the jump
abbrev pub over_1 : Row
over_1 = row_of (Some (break 1 8)) (Some (nop 0 0)) None None

-- it retires, and the run stops
abbrev pub over_2 : Row
over_2 = row_with None (Some (break 1 8)) (Some (nop 0 0)) (Some (0, going 0 19 8)) none_flushed None (Some Ebreak)

-- its rows, the newest first
abbrev pub over_rows : List Row
over_rows = over_2 ∷ over_1 ∷ over_0 ∷ []

-- the rows are not lawful
abbrev pub IsUnlawfulOver : List Row → Type 0
IsUnlawfulOver rows = Lawful (λ places. jumping) rows → ⊥

-- the next word is fetched, and flushed, as on a core that never predicts
abbrev pub next_word_fetched : List Row
next_word_fetched = row_with (Some (nop 1 4)) (Some (nop 0 0)) None None (Some 1 ∷ replicate 4 None) (Some 8) None ∷ over_0 ∷ []

-- the rows are lawful on the core that does not predict
abbrev pub IsLawfulPlain : List Row → Type 0
IsLawfulPlain rows = Lawful (λ places. by_hand over_hand) rows

-- nor are they there
abbrev pub IsUnlawfulPlain : List Row → Type 0
IsUnlawfulPlain rows = IsLawfulPlain rows → ⊥

-- the first rows of the jump, which that core does not show
abbrev pub jump_fetched : List Row
jump_fetched = over_1 ∷ over_0 ∷ []

-- Back to the first instruction

-- custom register 0 before the first instruction
abbrev pub one_left : Bits
one_left = record { raw = 1; width = 8; some_width = lit≤ tt; most_width = lit≤ tt; in_width = lit< tt }

-- and behind it
abbrev pub none_left : Bits
none_left = record { raw = 0; width = 8; some_width = lit≤ tt; most_width = lit≤ tt; in_width = lit< tt }

-- the block jumps from address 0 to address 0 where the register is not zero
abbrev pub back : List Bits → ℕ → ℕ → Option ℕ
back file at word = if (get_or file 0 zero_bit).raw == 0 then None else if at == 0 then Some 0 else None

-- each instruction stands beside the block, which reads and writes the register
abbrev pub back_asks : Asks
back_asks =
    record { first = 0; second = 0; destination = 0; x_time = 0; spawned = None; loads = false; stores = false; late = false; tail = 0; customs = register_0; late_customs = no_customs; spawned_customs = no_customs; unit = None }

-- beside the first step the block counts down and jumps
abbrev pub counting : Commit
counting = record { at = 0; word = 19; rd_index = 0; rd = Absent; custom = Now none_left ∷ replicate 15 Absent; store = None; next = 0 }

-- beside the next one it does nothing, and there the run stops
abbrev pub back_answer : ℕ → StepAnswer
back_answer zero = Done counting
back_answer (suc zero) = Done (going 0 19 4)
back_answer (suc (suc p)) = Stopped Ebreak

-- the pc at each place
abbrev pub back_pc : ℕ → ℕ
back_pc zero = 0
back_pc (suc zero) = 0
back_pc (suc (suc p)) = 4

-- what the block writes in each step
abbrev pub back_blocks : ℕ → List (Option Bits)
back_blocks zero = Some none_left ∷ replicate 15 None
back_blocks (suc p) = replicate 16 None

-- nop, ebreak
abbrev pub back_hand : Hand
back_hand =
    record {
      image = 19 ∷ 1048691 ∷ [];
      course = record { answer = back_answer; pc = back_pc; enabled = λ p. false; accesses = λ p. false; blocks = back_blocks; own = none_own };
      asks = λ word. back_asks;
      units = [];
      initial = one_left ∷ replicate 15 zero_bit;
      jump = back;
    }

-- what its rows are judged against
abbrev pub looping : Setting
looping = on_core three_predicting back_hand

-- the first instruction is fetched
abbrev pub back_0 : Row
back_0 = row_of (Some (nop 0 0)) None None None

-- it leaves EX, where the block counts down, and it stands there once more
abbrev pub back_1 : Row
back_1 = row_of (Some (nop 1 0)) (Some (nop 0 0)) None None

-- it retires, and behind the second one stands what was fetched before the block counted down; these are flushed, and this is the redirect
abbrev pub missed_row : List (Option ℕ) → Option ℕ → Row
missed_row flushed redirect = row_with (Some (nop 2 0)) (Some (nop 1 0)) (Some (nop 0 0)) (Some (0, counting)) flushed redirect None

-- it is flushed, since the run goes on at address 4
abbrev pub back_2 : Row
back_2 = missed_row (Some 2 ∷ replicate 4 None) (Some 4)

-- the word there is fetched, and the second one retires
abbrev pub back_3 : Row
back_3 = row_of (Some (break 3 4)) None (Some (nop 1 0)) (Some (1, going 0 19 4))

-- the run stops
abbrev pub back_4 : Row
back_4 = row_with None (Some (break 3 4)) None None none_flushed None (Some Ebreak)

-- the first rows, the newest first
abbrev pub back_two : List Row
back_two = back_1 ∷ back_0 ∷ []

-- its rows, the newest first
abbrev pub back_rows : List Row
back_rows = back_4 ∷ back_3 ∷ back_2 ∷ back_two

-- the rows are not lawful
abbrev pub IsUnlawfulBack : List Row → Type 0
IsUnlawfulBack rows = Lawful (λ places. looping) rows → ⊥

-- the next word is fetched, as on a core that never predicts
abbrev pub never_guessed : List Row
never_guessed = row_with (Some (break 1 4)) (Some (nop 0 0)) None None (Some 1 ∷ replicate 4 None) (Some 0) None ∷ back_0 ∷ []

-- the guess behind the second one knows what the block writes in the row in which that one leaves stage 0
abbrev pub guessed_ahead : List Row
guessed_ahead = row_of (Some (break 2 4)) (Some (nop 1 0)) (Some (nop 0 0)) (Some (0, counting)) ∷ back_two

-- a wrong guess that is not flushed
abbrev pub miss_kept : List Row
miss_kept = missed_row none_flushed None ∷ back_two
