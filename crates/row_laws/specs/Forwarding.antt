-- The run of the base set that adds five and seven, on cores that forward: the sum takes the seven before this is retired, and waits for it no longer than to the stage
-- behind that of its write. And rows that no such core may show (this project's choice).
use Rattle.std.specs.Prelude.{ℕ, List, [], ◌∷◌, Option, Some, None}
use Rattle.rv_asks.specs.declared.asks.Asks.{Asks}
use Rattle.rv_asks.specs.Asks.{asks_with, blank_outline}
use Rattle.rv_core.specs.declared.Shape.{Shape}
use Rattle.rv_seq.specs.Decoding.{decoded_in}
use Rattle.rv_lawful.specs.LawfulTrace.{Lawful}
use Rattle.rv_lawful.specs.Settings.{Setting, course_of}
use Rattle.rv_seq.specs.Bare.{bare}
use Rattle.rv_seq.specs.declared.commit.Stop.TheVariants.{Ebreak}
use Rattle.rv_trace.specs.declared.row.Hold.{Hold}
use Rattle.rv_trace.specs.declared.row.Hold.TheVariants.{Operand, Drain, Behind}
use Rattle.rv_trace.specs.declared.row.Row.{Row}
use Rattle.row_laws.specs.Adding.{adding_image, writes, five, seven, sum, break}
use Rattle.row_laws.specs.Hands.{Hand, on_core, three_forwarding, five_forwarding, no_values, no_jump, none_flushed, row_with, row_of, long_row}

-- what is asked of a word on a core with these numbers, where there is no extension
abbrev pub asks_on : Shape → ℕ → Asks
asks_on shape word = asks_with shape [] (λ n. None) (blank_outline shape []) word (decoded_in bare word)

-- the run of the image on such a core
abbrev pub adding_on : Shape → Hand
adding_on shape = record { image = adding_image; course = course_of bare adding_image None; asks = asks_on shape; units = []; initial = no_values; jump = no_jump }

-- Three stages: what leaves EX is written in the last stage, and forwarded there

-- what the rows of the core of three stages are judged against
abbrev pub short : Setting
short = on_core three_forwarding (adding_on three_forwarding)

-- the first one is fetched
abbrev pub short_0 : Row
short_0 = row_of (Some five) None None None

-- it leaves EX
abbrev pub short_1 : Row
short_1 = row_of (Some seven) (Some five) None None

-- it retires
abbrev pub short_2 : Row
short_2 = row_of (Some (sum None)) (Some seven) (Some five) (Some (0, writes 0 5243027 1 5))

-- the second one retires, and the third leaves EX with what that writes
abbrev pub short_3 : Row
short_3 = row_of (Some (break None)) (Some (sum None)) (Some seven) (Some (1, writes 4 7340307 2 7))

-- the third one retires, and the run stops
abbrev pub short_4 : Row
short_4 = row_with None (Some (break None)) (Some (sum None)) (Some (2, writes 8 2130355 3 12)) none_flushed None (Some Ebreak)

-- the first rows, the newest first
abbrev pub short_two : List Row
short_two = short_1 ∷ short_0 ∷ []

-- and the next one
abbrev pub short_three : List Row
short_three = short_2 ∷ short_two

-- all but the last one
abbrev pub short_four : List Row
short_four = short_3 ∷ short_three

-- its rows, the newest first
abbrev pub short_rows : List Row
short_rows = short_4 ∷ short_four

-- the rows are not lawful
abbrev pub IsUnlawfulShort : List Row → Type 0
IsUnlawfulShort rows = Lawful (λ places. short) rows → ⊥

-- the third one waits for the second to retire, as on a core that never forwards
abbrev pub never_forwarded : List Row
never_forwarded = row_of (Some (break (Some Behind))) (Some (sum (Some (Operand 2 1)))) (Some seven) (Some (1, writes 4 7340307 2 7)) ∷ short_three

-- Five stages: RD is one stage before EX, so that what is at EX is not to be forwarded yet

-- what the rows of the core of five stages are judged against
abbrev pub long : Setting
long = on_core five_forwarding (adding_on five_forwarding)

-- the first one is fetched
abbrev pub long_0 : Row
long_0 = long_row (Some five) None None None None None None

-- it leaves RD
abbrev pub long_1 : Row
long_1 = long_row (Some seven) (Some five) None None None None None

-- it leaves EX
abbrev pub long_2 : Row
long_2 = long_row (Some (sum None)) (Some seven) (Some five) None None None None

-- the row in which the second one is at EX, and the third, which reads it, shows this hold
abbrev pub waiting_row : Option Hold → Option Hold → Row
waiting_row front hold = long_row (Some (break front)) (Some (sum hold)) (Some seven) (Some five) None None None

-- the third one waits for the second, and not for the first
abbrev pub long_3 : Row
long_3 = waiting_row (Some Behind) (Some (Operand 2 1))

-- the row in which the first one retires, and the third shows this hold
abbrev pub taking_row : Option Hold → Option Hold → Row
taking_row front hold = long_row (Some (break front)) (Some (sum hold)) None (Some seven) (Some five) (Some (0, writes 0 5243027 1 5)) None

-- the third one leaves RD with what both write
abbrev pub long_4 : Row
long_4 = taking_row None None

-- the second one retires
abbrev pub long_5 : Row
long_5 = long_row None (Some (break None)) (Some (sum None)) None (Some seven) (Some (1, writes 4 7340307 2 7)) None

-- what is to stop the run waits for the third one
abbrev pub long_6 : Row
long_6 = long_row None None (Some (break (Some (Drain 2)))) (Some (sum None)) None None None

-- that retires, and the run stops
abbrev pub long_7 : Row
long_7 = long_row None None (Some (break None)) None (Some (sum None)) (Some (2, writes 8 2130355 3 12)) (Some Ebreak)

-- the first rows, the newest first
abbrev pub long_three : List Row
long_three = long_2 ∷ long_1 ∷ long_0 ∷ []

-- the rows up to the one in which the third one waits
abbrev pub long_four : List Row
long_four = long_3 ∷ long_three

-- its rows, the newest first
abbrev pub long_rows : List Row
long_rows = long_7 ∷ long_6 ∷ long_5 ∷ long_4 ∷ long_four

-- the rows are not lawful
abbrev pub IsUnlawfulLong : List Row → Type 0
IsUnlawfulLong rows = Lawful (λ places. long) rows → ⊥

-- the third one leaves RD in the row in which the second is at EX, the time of its write
abbrev pub forwarded_early : List Row
forwarded_early = waiting_row None None ∷ long_three

-- it waits for the first one, which has left EX
abbrev pub waits_for_forwarded : List Row
waits_for_forwarded = waiting_row (Some Behind) (Some (Operand 1 0)) ∷ long_three

-- it waits for the second one in the next row too
abbrev pub waits_longer : List Row
waits_longer = taking_row (Some Behind) (Some (Operand 2 1)) ∷ long_four
