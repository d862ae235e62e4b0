-- A run in which an interrupt is taken in the row in which an instruction retires that writes the pc late: what is flushed is not what the run goes on with. And rows that no such
-- core may show (this project's choice).
use Rattle.std.specs.Prelude.{ℕ, zero, suc, ◌+◌, ◌*◌, List, [], ◌∷◌, replicate, Option, Some, None, Bool, true, false, if◌then◌else◌, ◌==◌}
use Rattle.rv_asks.specs.declared.asks.Asks.{Asks}
use Rattle.rv_lawful.specs.LawfulTrace.{Judging, Lawful}
use Rattle.rv_lawful.specs.Settings.{entries_at}
use Rattle.rv_seq.specs.declared.answer.StepAnswer.{StepAnswer}
use Rattle.rv_seq.specs.declared.answer.StepAnswer.TheVariants.{Done, Stopped}
use Rattle.rv_seq.specs.declared.commit.Stop.TheVariants.{Ebreak}
use Rattle.rv_trace.specs.declared.row.Cell.{Cell}
use Rattle.rv_trace.specs.declared.row.Row.{Row}
use Rattle.row_laws.specs.Hands.{three, no_values, no_jump, no_blocks, none_own, quiet, no_customs, going, cell, row_with, row_of}
use Rattle.row_laws.specs.Interrupting.{taking_row}

-- the first instruction writes the pc late
abbrev pub late_asks : ℕ → Asks
late_asks word =
    if word == 91 then
    record { first = 0; second = 0; destination = 0; x_time = 0; spawned = None; loads = false; stores = false; late = true; tail = 0; customs = no_customs; late_customs = no_customs; spawned_customs = no_customs; unit = None }
    else quiet

-- it goes on at address 12, where the run stops; where the run goes to the handler behind it, that has instructions that do nothing
abbrev pub late_answer : List ℕ → ℕ → StepAnswer
late_answer places zero = Done (going 0 91 12)
late_answer [] (suc p) = Stopped Ebreak
late_answer (q ∷ places) (suc p) = Done (going (16 + 4 * p) 19 (20 + 4 * p))

-- the pc at each place
abbrev pub late_pc : List ℕ → ℕ → ℕ
late_pc places zero = 0
late_pc [] (suc p) = 12
late_pc (q ∷ places) (suc p) = 16 + 4 * p

-- interrupts are taken before the handler
abbrev pub late_enabled : List ℕ → ℕ → Bool
late_enabled places zero = true
late_enabled [] (suc p) = true
late_enabled (q ∷ places) (suc p) = false

-- the jump, nop, nop, ebreak, and a nop in the handler; the line is raised in the third row
abbrev pub late_entry : Judging
late_entry places =
    record {
      image = 91 ∷ 19 ∷ 19 ∷ 1048691 ∷ 19 ∷ [];
      waits = [];
      lines = Some (2 ∷ []);
      entries = entries_at 16 (Some (2 ∷ [])) places;
      shape = three;
      course = record { answer = late_answer places; pc = late_pc places; enabled = late_enabled places; accesses = λ p. false; blocks = no_blocks; own = none_own };
      asks = late_asks;
      units = [];
      initial = no_values;
      jump = no_jump;
    }

-- the instruction that writes the pc
abbrev pub jump : Cell
jump = cell 0 0 91 None

-- the one behind it
abbrev pub passed : Cell
passed = cell 1 4 19 None

-- and the one behind that
abbrev pub passed_too : Cell
passed_too = cell 2 8 19 None

-- the one of the handler
abbrev pub handling : Cell
handling = cell 3 16 19 None

-- both are flushed
abbrev pub both : List (Option ℕ)
both = Some 1 ∷ Some 2 ∷ replicate 3 None

-- the jump is fetched
abbrev pub row_0 : Row
row_0 = row_of (Some jump) None None None

-- it leaves EX
abbrev pub row_1 : Row
row_1 = row_of (Some passed) (Some jump) None None

-- it retires, and an interrupt is taken at this address, with this redirect
abbrev pub entry_row : Option ℕ → ℕ → Row
entry_row redirect at = taking_row (Some passed_too) (Some passed) (Some jump) (Some (0, going 0 91 12)) both redirect at

-- it is taken where the jump goes on
abbrev pub row_2 : Row
row_2 = entry_row (Some 16) 12

-- the handler is fetched
abbrev pub row_3 : Row
row_3 = row_of (Some handling) None None None

-- the first rows, the newest first
abbrev pub two_rows : List Row
two_rows = row_1 ∷ row_0 ∷ []

-- its rows, the newest first
abbrev pub late_rows : List Row
late_rows = row_3 ∷ row_2 ∷ two_rows

-- the rows are not lawful
abbrev pub IsUnlawful : List Row → Type 0
IsUnlawful rows = Lawful late_entry rows → ⊥

-- the interrupt is taken at the address of the oldest one that is flushed
abbrev pub taken_at_flushed : List Row
taken_at_flushed = entry_row (Some 16) 4 ∷ two_rows

-- the redirect is that of the jump
abbrev pub jump_followed : List Row
jump_followed = entry_row (Some 12) 12 ∷ two_rows

-- the jump turns the run, and no interrupt is taken
abbrev pub jump_alone : List Row
jump_alone = row_with (Some passed_too) (Some passed) (Some jump) (Some (0, going 0 91 12)) both (Some 12) None ∷ two_rows
