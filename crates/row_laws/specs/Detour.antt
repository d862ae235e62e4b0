-- A run whose first instruction goes on elsewhere in time: its rows have a flush and a redirect from EX. And rows that no pipeline may show (this project's choice).
use Rattle.std.specs.Prelude.{ℕ, zero, suc, List, [], ◌∷◌, replicate, Option, Some, None, false}
use Rattle.rv_lawful.specs.LawfulTrace.{Lawful}
use Rattle.rv_lawful.specs.Settings.{Setting}
use Rattle.rv_seq.specs.declared.answer.StepAnswer.{StepAnswer}
use Rattle.rv_seq.specs.declared.answer.StepAnswer.TheVariants.{Done, Stopped}
use Rattle.rv_seq.specs.declared.commit.Stop.{Stop}
use Rattle.rv_seq.specs.declared.commit.Stop.TheVariants.{Ebreak}
use Rattle.rv_trace.specs.declared.row.Cell.{Cell}
use Rattle.rv_trace.specs.declared.row.Row.{Row}
use Rattle.row_laws.specs.Hands.{Hand, by_hand, no_values, no_jump, no_blocks, none_own, quiet, going, cell, none_flushed, row_with, row_of}

-- the first instruction goes on at address 8, where the run stops
abbrev pub detour_answer : ℕ → StepAnswer
detour_answer zero = Done (going 0 19 8)
detour_answer (suc p) = Stopped Ebreak

-- the pc at each place
abbrev pub detour_pc : ℕ → ℕ
detour_pc zero = 0
detour_pc (suc p) = 8

-- nop (00000013), twice; ebreak (00100073)
abbrev pub detour_hand : Hand
detour_hand = record { image = 19 ∷ 19 ∷ 1048691 ∷ []; course = record { answer = detour_answer; pc = detour_pc; enabled = λ p. false; accesses = λ p. false; blocks = no_blocks; own = none_own }; asks = λ word. quiet; units = []; initial = no_values; jump = no_jump }

-- what its rows are judged against
abbrev pub detour : Setting
detour = by_hand detour_hand

-- the first instruction
abbrev pub leaping : Cell
leaping = cell 0 0 19 None

-- the one behind it
abbrev pub passed : Cell
passed = cell 1 4 19 None

-- the one to which the run goes on
abbrev pub target : Cell
target = cell 2 8 1048691 None

-- the first instruction is fetched
abbrev pub row_0 : Row
row_0 = row_of (Some leaping) None None None

-- the first instruction leaves EX, with these flushed serials and this redirect
abbrev pub turn_row : List (Option ℕ) → Option ℕ → Row
turn_row flushed redirect = row_with (Some passed) (Some leaping) None None flushed redirect None

-- the younger cell is flushed, and the fetch goes to address 8
abbrev pub row_1 : Row
row_1 = turn_row (Some 1 ∷ replicate 4 None) (Some 8)

-- the word there is fetched, and the first instruction retires
abbrev pub row_2 : Row
row_2 = row_of (Some target) None (Some leaping) (Some (0, going 0 19 8))

-- with this stop
abbrev pub last_row : Option Stop → Row
last_row stop = row_with None (Some target) None None none_flushed None stop

-- the run stops
abbrev pub row_3 : Row
row_3 = last_row (Some Ebreak)

-- the first rows, the newest first
abbrev pub two_rows : List Row
two_rows = row_1 ∷ row_0 ∷ []

-- and the next one
abbrev pub three_rows : List Row
three_rows = row_2 ∷ two_rows

-- its rows, the newest first
abbrev pub detour_rows : List Row
detour_rows = row_3 ∷ three_rows

-- the rows are not lawful
abbrev pub IsUnlawful : List Row → Type 0
IsUnlawful rows = Lawful (λ places. detour) rows → ⊥

-- the younger cell is not flushed
abbrev pub unflushed : List Row
unflushed = turn_row none_flushed (Some 8) ∷ row_0 ∷ []

-- the redirect is to another address
abbrev pub other_redirect : List Row
other_redirect = turn_row (Some 1 ∷ replicate 4 None) (Some 12) ∷ row_0 ∷ []

-- no redirect
abbrev pub no_redirect : List Row
no_redirect = turn_row (Some 1 ∷ replicate 4 None) None ∷ row_0 ∷ []

-- the flushed cell is listed twice
abbrev pub flushed_twice : List Row
flushed_twice = turn_row (Some 1 ∷ Some 1 ∷ replicate 3 None) (Some 8) ∷ row_0 ∷ []

-- the flushed cell moves on
abbrev pub flushed_moves : List Row
flushed_moves = row_of (Some target) (Some passed) (Some leaping) (Some (0, going 0 19 8)) ∷ two_rows

-- no stop where the run stops
abbrev pub missing_stop : List Row
missing_stop = last_row None ∷ three_rows

-- a row behind the stop
abbrev pub after_stop : List Row
after_stop = row_of None None (Some target) None ∷ detour_rows
