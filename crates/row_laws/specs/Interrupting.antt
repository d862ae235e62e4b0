-- The run of the base set in which an interrupt line is raised while a load waits for the memory: its rows, and rows that no such core may show (this project's choice).
use Rattle.std.specs.Prelude.{ℕ, List, [], ◌∷◌, replicate, Option, Some, None}
use Rattle.rv_lawful.specs.Answering.{Answering}
use Rattle.rv_lawful.specs.Headline.{Agreeing}
use Rattle.rv_lawful.specs.LawfulTrace.{Judging, Lawful}
use Rattle.rv_lawful.specs.Settings.{course_of, entries_at}
use Rattle.rv_seq.specs.Bare.{bare}
use Rattle.rv_seq.specs.declared.commit.Commit.{Commit}
use Rattle.rv_seq.specs.declared.commit.Stop.TheVariants.{Ebreak}
use Rattle.rv_trace.specs.declared.row.Cell.{Cell}
use Rattle.rv_trace.specs.declared.row.Hold.{Hold}
use Rattle.rv_trace.specs.declared.row.Hold.TheVariants.{Operand, Trap, Wait, Behind}
use Rattle.rv_trace.specs.declared.row.Row.{Row}
use Rattle.row_laws.specs.Adding.{adding_asks, writes}
use Rattle.row_laws.specs.Hands.{three, no_values, no_jump, going, cell, none_flushed, row_with, row_of}

-- lui x1, 80000 (800000b7); lw x2, 0(x1) (0000a103); addi x3, x0, 7 (00700193); ebreak (00100073); and the handler: addi x4, x4, 1 (00120213); mret (30200073)
abbrev pub interrupting_image : List ℕ
interrupting_image = 2147483831 ∷ 41219 ∷ 7340435 ∷ 1048691 ∷ 1180179 ∷ 807403635 ∷ []

-- what its rows are judged against, where the line is raised in these rows and the run goes to the handler at these places; the load waits for one row
abbrev pub interrupting_in : List ℕ → Judging
interrupting_in lines places =
    record {
      image = interrupting_image;
      waits = 1 ∷ [];
      lines = Some lines;
      entries = entries_at 16 (Some lines) places;
      shape = three;
      course = course_of bare interrupting_image (entries_at 16 (Some lines) places);
      asks = adding_asks;
      units = [];
      initial = no_values;
      jump = no_jump;
    }

-- where it is raised in the fifth row
abbrev pub interrupting : Judging
interrupting = interrupting_in (4 ∷ [])

-- Cells

-- the instruction that writes the address of the memory
abbrev pub address : Cell
address = cell 0 0 2147483831 None

-- the one that loads from there
abbrev pub loading : Option Hold → Cell
loading hold = cell 1 4 41219 hold

-- the one that writes seven
abbrev pub seven : ℕ → Option Hold → Cell
seven serial hold = cell serial 8 7340435 hold

-- the one that stops the run
abbrev pub break : ℕ → Option Hold → Cell
break serial hold = cell serial 12 1048691 hold

-- the first one of the handler
abbrev pub counting : ℕ → Option Hold → Cell
counting serial hold = cell serial 16 1180179 hold

-- the return from it
abbrev pub return : Cell
return = cell 5 20 807403635 None

-- Rows

-- a row that takes an interrupt there, flushes these serials, and has this redirect
abbrev pub taking_row : Option Cell → Option Cell → Option Cell → Option (ℕ × Commit) → List (Option ℕ) → Option ℕ → ℕ → Row
taking_row a b c retired flushed redirect at =
    record {
      cells = a ∷ b ∷ c ∷ None ∷ None ∷ [];
      retired = retired;
      written = None;
      flushed = flushed;
      redirect = redirect;
      taken = Some at;
      stop = None;
    }

-- the first one is fetched
abbrev pub row_0 : Row
row_0 = row_of (Some address) None None None

-- it leaves EX
abbrev pub row_1 : Row
row_1 = row_of (Some (loading None)) (Some address) None None

-- it retires, and the load waits for it
abbrev pub row_2 : Row
row_2 = row_of (Some (seven 2 (Some Behind))) (Some (loading (Some (Operand 1 0)))) (Some address) (Some (0, writes 0 2147483831 1 2147483648))

-- the load leaves EX
abbrev pub row_3 : Row
row_3 = row_of (Some (seven 2 None)) (Some (loading None)) None None

-- the load waits for the memory, and the cell of EX shows this
abbrev pub waiting_row : Option Hold → Row
waiting_row hold = row_of (Some (break 3 (Some Behind))) (Some (seven 2 hold)) (Some (loading (Some (Wait 1)))) None

-- the line is raised: the cell of EX waits for the interrupt to be taken
abbrev pub row_4 : Row
row_4 = waiting_row (Some Trap)

-- what the load writes
abbrev pub loaded : ℕ × Commit
loaded = (1, writes 4 41219 2 0)

-- the two behind the load are flushed
abbrev pub both_flushed : List (Option ℕ)
both_flushed = Some 2 ∷ Some 3 ∷ replicate 3 None

-- the load retires, and an interrupt is taken there, with these serials flushed and this redirect
abbrev pub entry_row : List (Option ℕ) → Option ℕ → ℕ → Row
entry_row flushed redirect at = taking_row (Some (break 3 None)) (Some (seven 2 None)) (Some (loading None)) (Some loaded) flushed redirect at

-- the interrupt is taken behind it
abbrev pub row_5 : Row
row_5 = entry_row both_flushed (Some 16) 8

-- the handler is fetched
abbrev pub row_6 : Row
row_6 = row_of (Some (counting 4 None)) None None None

-- its first instruction leaves EX
abbrev pub row_7 : Row
row_7 = row_of (Some return) (Some (counting 4 None)) None None

-- the return leaves EX, and this retires
abbrev pub return_row : Commit → Row
return_row done = row_with None (Some return) (Some (counting 4 None)) (Some (4, done)) none_flushed (Some 8) None

-- it goes on where the interrupt was taken
abbrev pub row_8 : Row
row_8 = return_row (writes 16 1180179 4 1)

-- the return retires
abbrev pub row_9 : Row
row_9 = row_of (Some (seven 6 None)) None (Some return) (Some (5, going 20 807403635 8))

-- the one that writes seven leaves EX
abbrev pub row_10 : Row
row_10 = row_of (Some (break 7 None)) (Some (seven 6 None)) None None

-- it retires, and the run stops
abbrev pub row_11 : Row
row_11 = row_with (Some (counting 8 (Some Behind))) (Some (break 7 None)) (Some (seven 6 None)) (Some (6, writes 8 7340435 3 7)) none_flushed None (Some Ebreak)

-- the first rows, the newest first
abbrev pub three_rows : List Row
three_rows = row_2 ∷ row_1 ∷ row_0 ∷ []

-- up to the one in which the load leaves EX
abbrev pub four_rows : List Row
four_rows = row_3 ∷ three_rows

-- up to the one in which the line is raised
abbrev pub five_rows : List Row
five_rows = row_4 ∷ four_rows

-- up to the one that takes the interrupt
abbrev pub six_rows : List Row
six_rows = row_5 ∷ five_rows

-- up to the one in which the handler leaves EX
abbrev pub eight_rows : List Row
eight_rows = row_7 ∷ row_6 ∷ six_rows

-- all but the last one
abbrev pub eleven_rows : List Row
eleven_rows = row_10 ∷ row_9 ∷ row_8 ∷ eight_rows

-- its rows, the newest first
abbrev pub interrupted_rows : List Row
interrupted_rows = row_11 ∷ eleven_rows

-- Raised once more

-- the line is raised in the handler too
abbrev pub twice : List ℕ
twice = 4 ∷ 6 ∷ []

-- behind the return the interrupt is taken at the same address
abbrev pub again : Row
again = taking_row (Some (break 7 None)) (Some (seven 6 None)) None None (Some 6 ∷ Some 7 ∷ replicate 3 None) (Some 16) 8

-- up to the one in which the return retires
abbrev pub ten_rows : List Row
ten_rows = row_9 ∷ row_8 ∷ eight_rows

-- rows in which it is taken twice
abbrev pub again_rows : List Row
again_rows = again ∷ ten_rows

-- Lists that are not lawful

-- the rows are not lawful where the line is raised in these rows
abbrev pub IsUnlawfulIn : List ℕ → List Row → Type 0
IsUnlawfulIn lines rows = Lawful (interrupting_in lines) rows → ⊥

-- where it is raised once
abbrev pub IsUnlawful : List Row → Type 0
IsUnlawful rows = IsUnlawfulIn (4 ∷ []) rows

-- what the rows retire is not the run's, nor are their states and stop
abbrev pub IsOther : List Row → Type 0
IsOther rows = Agreeing bare interrupting rows → ⊥

-- the interrupt is never taken: the cell of EX waits once more
abbrev pub never_taken : List Row
never_taken = row_of (Some (break 3 (Some Behind))) (Some (seven 2 (Some Trap))) (Some (loading None)) (Some loaded) ∷ five_rows

-- it is taken before the line is raised
abbrev pub taken_unraised : List Row
taken_unraised = taking_row (Some (seven 2 None)) (Some (loading None)) None None (Some 1 ∷ Some 2 ∷ replicate 3 None) (Some 16) 4 ∷ three_rows

-- the cell of EX shows Trap before the line is raised
abbrev pub trap_unraised : List Row
trap_unraised = row_of (Some (seven 2 (Some Behind))) (Some (loading (Some Trap))) None None ∷ three_rows

-- it is taken while the load stands above EX, behind what is retired
abbrev pub taken_early : List Row
taken_early = taking_row (Some (break 3 None)) (Some (seven 2 None)) (Some (loading (Some (Wait 1)))) None both_flushed (Some 16) 4 ∷ four_rows

-- it is taken at the address of the load, which retires
abbrev pub taken_at_retired : List Row
taken_at_retired = entry_row both_flushed (Some 16) 4 ∷ five_rows

-- it is taken at the address of the youngest one that is flushed
abbrev pub taken_at_youngest : List Row
taken_at_youngest = entry_row both_flushed (Some 16) 12 ∷ five_rows

-- the cell of EX shows no hold while the line is pending
abbrev pub trap_left_out : List Row
trap_left_out = waiting_row None ∷ four_rows

-- it shows that it waits for the load alone
abbrev pub behind_alone : List Row
behind_alone = waiting_row (Some Behind) ∷ four_rows

-- the cell of EX is flushed, and the one below it is not
abbrev pub below_unflushed : List Row
below_unflushed = entry_row (Some 2 ∷ replicate 4 None) (Some 16) 8 ∷ five_rows

-- the one below it is flushed, and the cell of EX is not
abbrev pub ex_unflushed : List Row
ex_unflushed = entry_row (Some 3 ∷ replicate 4 None) (Some 16) 8 ∷ five_rows

-- the load is flushed too
abbrev pub above_flushed : List Row
above_flushed = taking_row (Some (break 3 None)) (Some (seven 2 None)) (Some (loading None)) None (Some 1 ∷ Some 2 ∷ Some 3 ∷ replicate 2 None) (Some 16) 4 ∷ five_rows

-- the row that takes the interrupt has no redirect
abbrev pub no_redirect : List Row
no_redirect = entry_row both_flushed None 8 ∷ five_rows

-- or one behind what it retires
abbrev pub other_redirect : List Row
other_redirect = entry_row both_flushed (Some 8) 8 ∷ five_rows

-- an interrupt is taken in the row behind that one, in the handler
abbrev pub taken_again : List Row
taken_again = taking_row (Some (counting 4 None)) None None None (Some 4 ∷ replicate 4 None) (Some 16) 16 ∷ six_rows

-- the cell of EX shows Trap a second time, in the handler
abbrev pub trap_again : List Row
trap_again = row_of (Some return) (Some (counting 4 (Some Trap))) None None ∷ row_6 ∷ six_rows

-- what the run retires that does not go to the handler
abbrev pub undiverted : List Row
undiverted = return_row (writes 8 7340435 3 7) ∷ eight_rows

-- for how many rows the line may be pending here before the interrupt is taken
abbrev pub AnswersWithin : ℕ → List Row → Type 0
AnswersWithin bound rows = Answering interrupting bound rows

-- it is pending for longer, or the run stops before
abbrev pub AnswersNotWithin : ℕ → List Row → Type 0
AnswersNotWithin bound rows = AnswersWithin bound rows → ⊥

-- the run stops where the interrupt is to be taken
abbrev pub stopped_before : List Row
stopped_before = row_with (Some (break 3 (Some Behind))) (Some (seven 2 (Some Trap))) (Some (loading None)) (Some loaded) none_flushed None (Some Ebreak) ∷ five_rows
