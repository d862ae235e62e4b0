-- Where the tokens of a pipeline with an extension stand in the sequential run, and what ties its machine to the rows before (this project's choice).
use Rattle.std.specs.List.{list_any}
use Rattle.std.specs.Prelude.{◌≡◌, ◌≢◌, ℕ, zero, suc, ◌+◌, ◌-◌, ◌%◌, ◌^◌, ◌<◌, ◌≤◌, List, [], ◌∷◌, drop, length, get_or, Option, Some, None, Bool, true, false, ◌&&◌, if◌then◌else◌, ◌==◌, is_some, nat_eq, nat_lt, slice_get, slice_index}
use Rattle.ix_bits.specs.declared.number.Bits.{Bits}
use Rattle.ix_extension.specs.Extensions.{ExtensionTree}
use Rattle.rv_core.specs.declared.Shape.{Shape}
use Rattle.rv_core.specs.Guesses.{guess_of}
use Rattle.rv_isa.specs.Fields.{rs1_of, rs2_of}
use Rattle.rv_seq.specs.Decoding.{decoded_in}
use Rattle.rv_seq.specs.declared.arch.Arch.{Arch}
use Rattle.rv_seq.specs.declared.answer.StepAnswer.{StepAnswer}
use Rattle.rv_seq.specs.declared.answer.StepAnswer.TheVariants.{Done, Stopped}
use Rattle.rv_seq.specs.declared.commit.Slot.{Slot}
use Rattle.rv_seq.specs.declared.commit.Slot.TheVariants.{Absent}
use Rattle.rv_seq.specs.Commits.{with_slot}
use Rattle.rv_seq.specs.States.{zero_bit, state_at}
use Rattle.rv_asks.specs.declared.asks.Asks.{Asks}
use Rattle.rv_seq.specs.Interrupts.{return_to, is_enabled}
use Rattle.rv_seq.specs.Steps.{word_at, step}
use Rattle.rv_seq.specs.Runs as Runs
use Rattle.rv_trace.specs.declared.row.Row.{Row}
use Rattle.rv_trace.specs.Trace.{newest, place, is_flushed, is_retired, retirements, rows_without}
use Rattle.rv_trace.specs.RowParts.{MovesInto, names_of, serial_after}
use Rattle.rv_tried.specs.declared.trial.Trial.{Trial}
use Rattle.rv_tried.specs.Tried.{tried}
use Rattle.rv_tried.specs.Whole.{WholeLaw, WideLaw}
use Rattle.rv_waits.specs.Waits.{greatest}
use Rattle.rv_holds.specs.declared.token.Token.{Token}
use Rattle.rv_holds.specs.Tokens.{Slots, cell_of, cells_of, stop_in}
use Rattle.rv_holds.specs.Holds.{oldest, is_late, writes_late}
use Rattle.rv_engine.specs.Settings.{Setting, Machine, shape_of, tree_of, pending_by}
use Rattle.ix_eval.specs.Tables.{table}
use Rattle.rv_engine.specs.declared.owing.Owed.{Owed}
use Rattle.rv_engine.specs.Rows.{first_slot, owed_by}
use Rattle.rv_lawful.specs.Forwarding.{x_written}
use Rattle.rv_trace.specs.declared.row.Cell.{Cell}
use Rattle.rv_lawful.specs.Entering.{places, is_line_pending}
use Rattle.rv_lawful.specs.Future.{is_pending, leaves_execute, future_file}
use Rattle.rv_lawful.specs.Settings as Lawful
use Rattle.rv_lawful.specs.Settings.{run_trial, jump_with}
use Rattle.rv_machine.specs.Owing.{judged, repaid, paid_owed, Owing, RetiredAs, Distinct, Apart}
use Rattle.rv_lawful.specs.Outstanding.{architecture, outstanding, units_after, is_written}
use Rattle.rv_unit.specs.Numbering.{lasts_of}
use Rattle.rv_unit.specs.Slots.{units_of}
use Rattle.rv_unit.specs.Timed.{IsTimed}
use Rattle.rv_machine.specs.UnitRank.{unit_rank}
use Rattle.rv_sight.specs.InUnits.{AreInUnits}
use Rattle.rv_lawful.specs.LawfulTrace.{fetch_address, next_serial, IsWordOf}
use Rattle.rv_lawful.specs.Sight.{asked, HasWords, AreWords, IsEarly, EarlyLaw, ExactLaw, KeepsLaw, TailLaw, TimeLaw, JumpLaw}
use Rattle.rv_seq.specs.WordEffects.{AreWide}
use Rattle.rv_sight.specs.Written.{WrittenLaw}

-- where the run goes to the handler
abbrev pub entries_of : Setting → Option Runs.Entries
entries_of k = Lawful.entries_at (shape_of k).trap k.lines k.places

-- the state after so many steps of the run
abbrev pub run : Setting → ℕ → Arch
run k p = Runs.run_with (tree_of k) k.image (entries_of k) p

-- the same machine, its rows judged by the run that goes to the handler at these places
abbrev pub at_places : Setting → List ℕ → Setting
at_places k ps = record { design = k.design; image = k.image; waits = k.waits; lines = k.lines; places = ps }

-- does the run go to the handler at this place?
abbrev pub is_entry : Setting → ℕ → Bool
is_entry k p = list_any (λ q. nat_eq q p) k.places

-- it goes there at no place past this one
abbrev pub NonePast : Setting → ℕ → Type 0
NonePast k r = (p : ℕ) → r < p → is_entry k p ≡ false

-- a word that is tried with what its instruction sees of a state answers as the step of that state
abbrev pub AnswerLaw : Type 0
AnswerLaw = (x : ExtensionTree) (image : List ℕ) (s : Arch) (word : ℕ) → word_at image s.pc ≡ Some word → (tried x (state_at word s) s.mem (return_to word s.trap) (decoded_in x word)).answer ≡ step x image s

-- what a core and its extension have to keep: the numbers of the stages, and that words come to what the run's steps come to
pub record IsReady (k : Setting) : Type 0 where
  pub rd_pos : 0 < (shape_of k).rd
  pub rd_ex : (shape_of k).rd ≤ (shape_of k).ex
  pub ex_rd : (shape_of k).ex ≤ (shape_of k).rd + 1
  pub ex_mem : (shape_of k).ex < (shape_of k).mem
  pub mem_last : (shape_of k).mem < (shape_of k).stages
  pub ex_last : (shape_of k).ex + 1 < (shape_of k).stages
  pub most : (shape_of k).stages ≤ 5
  pub handler : (shape_of k).trap < 2 ^ 32
  pub early : EarlyLaw k.design
  pub exact : ExactLaw k.design
  pub keeps : KeepsLaw k.design
  pub tails : TailLaw k.design
  pub times : TimeLaw k.design
  pub jumps : JumpLaw k.design
  pub in_units : AreInUnits k.design
  pub written : WrittenLaw k.design
  pub whole : WholeLaw
  pub blocks_wide : WideLaw
  pub answers : AnswerLaw
  pub wide : (p : ℕ) → AreWide (tree_of k) (run k p).custom
  pub words : (p : ℕ) → HasWords (run k p)
  pub pcs : (p : ℕ) → (run k p).pc < 2 ^ 32
  pub image : (at word : ℕ) → word_at k.image at ≡ Some word → word < 2 ^ 32
  pub guesses : (file : List Bits) (memory : List ℕ) (at word : ℕ) → guess_of (shape_of k).predict (jump_with (tree_of k) file memory at word) at < 2 ^ 32

abbrev pub one_more : Option Token → ℕ → ℕ
one_more None n = n
one_more (Some t) n = suc n

-- how many tokens there are
abbrev pub count : Slots → ℕ
count [] = 0
count (s ∷ rest) = one_more s (count rest)

-- the stage as which a token leaves its successor is settled: EX, or the last one where it writes the pc late
abbrev pub settling_stage : Setting → Token → ℕ
settling_stage k t = if is_late t then (shape_of k).stages - 1 else (shape_of k).ex

-- is the address behind a token of this stage known? It has left the stage that settles it
abbrev pub is_known : Setting → ℕ → Token → Bool
is_known k stage t = nat_lt (settling_stage k t) stage

-- the address that comes after a token of the place p in the stage: the run's where it is known, and its guess before
abbrev pub expected_after : Setting → ℕ → ℕ → Option Token → ℕ → ℕ
expected_after k p stage None address = address
expected_after k p stage (Some t) address = if is_known k stage t then (run k (suc p)).pc else t.guess

-- the address that the next younger token has, or that is fetched next, where these stand from the stage on
abbrev pub expected : Setting → ℕ → ℕ → Slots → ℕ
expected k r stage [] = (run k r).pc
expected k r stage (s ∷ older) = expected_after k (r + count older) stage s (expected k r (suc stage) older)

-- the token was tried, comes to what the step of place p comes to but for rd and late writes, and accesses the memory where that step does, with its load; the always-blocks write the same,
-- and so does it to its x register, where the time of that write is below MEM
pub record IsTried (k : Setting) (p : ℕ) (t : Token) (trial : Trial) : Type 0 where
  pub tried : t.trial ≡ Some trial
  pub early : IsEarly t.asks trial.answer ((judged k).course.answer p)
  pub accesses : trial.accesses ≡ (judged k).course.accesses p
  pub load : trial.load ≡ (run_trial (tree_of k) k.image (entries_of k) p).load
  pub blocks : trial.blocks ≡ (judged k).course.blocks p
  pub x : t.asks.destination ≢ 0 → t.asks.x_time < (shape_of k).mem → x_written trial.answer ≡ x_written ((judged k).course.answer p)

-- a trial is what the step of place p comes to
pub record IsExact (k : Setting) (p : ℕ) (trial : Trial) : Type 0 where
  pub answer : trial.answer ≡ (judged k).course.answer p
  pub own : trial.own ≡ (judged k).course.own p

-- the token of the place p stands in this stage, at this address, with these older ones
pub record IsPlaced (k : Setting) (p address stage : ℕ) (older : Slots) (t : Token) : Type 0 where
  pub at : t.cell.at ≡ address
  pub word : word_at k.image t.cell.at ≡ Some t.cell.word
  pub decoded : t.decoded ≡ decoded_in (tree_of k) t.cell.word
  pub asks : t.asks ≡ asked k.design t.cell.word
  pub input_word : t.inputs.word ≡ t.cell.word
  pub input_pc : t.inputs.pc ≡ t.cell.at
  pub words : AreWords t.inputs
  pub wide : AreWide (tree_of k) t.inputs.custom
  pub guess : t.guess < 2 ^ 32
  pub back : t.back ≡ return_to t.cell.word (run k p).trap
  -- past RD it has the operands of the run
  pub first : (shape_of k).rd < stage → rs1_of t.cell.word ≡ t.asks.first → t.inputs.rs1 ≡ slice_index (run k p).x (rs1_of t.cell.word)
  pub second : (shape_of k).rd < stage → rs2_of t.cell.word ≡ t.asks.second → t.inputs.rs2 ≡ slice_index (run k p).x (rs2_of t.cell.word)
  -- before EX it was not tried; where it was, no older one was late or owed it a custom register
  pub untried : stage < (shape_of k).ex → t.trial ≡ None
  pub tried : (trial : Trial) → t.trial ≡ Some trial → IsTried k p t trial
  pub settled : (trial : Trial) → t.trial ≡ Some trial → oldest is_late older ≡ None
  pub clear : (trial : Trial) → t.trial ≡ Some trial → (r : ℕ) → get_or t.asks.customs r false ≡ true → oldest (writes_late r) older ≡ None
  pub seen : (trial : Trial) → t.trial ≡ Some trial → (r : ℕ) → get_or t.asks.customs r false ≡ true → get_or t.inputs.custom r zero_bit ≡ get_or (run k p).custom r zero_bit
  -- past EX it was tried, and goes on
  pub gone : (shape_of k).ex < stage → (trial : Trial) × (t.trial ≡ Some trial) × (stop_in trial.answer ≡ None)
  -- what it was tried to is the run's, where it loads once it is past MEM
  pub exact : (trial : Trial) → t.trial ≡ Some trial → (t.asks.loads ≡ true → (shape_of k).mem < stage) → IsExact k p trial

abbrev pub IsPlacedSlot : Setting → ℕ → ℕ → ℕ → Slots → Option Token → Type 0
IsPlacedSlot k p address stage older None = Unit {0}
IsPlacedSlot k p address stage older (Some t) = IsPlaced k p address stage older t

-- each token stands in its place, where r are retired
abbrev pub Placed : Setting → ℕ → ℕ → Slots → Type 0
Placed k r stage [] = Unit {0}
Placed k r stage (s ∷ older) = IsPlacedSlot k (r + count older) (expected k r (suc stage) older) stage older s × Placed k r (suc stage) older

-- each token is not flushed, and has as its place the number of tokens beyond it and of those retired
abbrev pub Serials : List Row → ℕ → Slots → Type 0
Serials rows r [] = Unit {0}
Serials rows r (None ∷ older) = Serials rows r older
Serials rows r (Some t ∷ older) = ((place rows t.cell.serial ≡ r + count older) × (is_flushed rows t.cell.serial ≡ false)) × Serials rows r older

-- a token of this serial has this word
abbrev pub HasWord : Slots → ℕ → ℕ → Type 0
HasWord slots s word = (n : ℕ) (u : Token) → slice_get slots n ≡ Some (Some u) → u.cell.serial ≡ s → u.cell.word ≡ word

-- the slots behind stage 0
abbrev pub tail : Slots → Slots
tail [] = []
tail (s ∷ older) = older

-- the slots past EX
abbrev pub past_ex : Setting → Slots → Slots
past_ex k slots = drop (suc (shape_of k).ex) slots

-- what a step with this answer, which itself writes these custom registers, writes to one of them behind EX, late or by `spawn`; a stop writes nothing
abbrev pub pending_in_answer : Asks → List Bool → ℕ → StepAnswer → Slot Bits
pending_in_answer a own reg (Done c) = if is_pending a reg && get_or own reg false then get_or c.custom reg Absent else Absent
pending_in_answer a own reg (Stopped stop) = Absent

-- what the step of a place owes a custom register behind EX
abbrev pub owed_write : Setting → Asks → ℕ → ℕ → Slot Bits
owed_write k a p reg = pending_in_answer a ((judged k).course.own p) reg ((judged k).course.answer p)

-- a custom register with what the tokens past EX still owe it, the oldest first
abbrev pub paid_late : Setting → ℕ → ℕ → Slots → Bits → Bits
paid_late k r reg [] v = v
paid_late k r reg (None ∷ older) v = paid_late k r reg older v
paid_late k r reg (Some t ∷ older) v = with_slot (paid_late k r reg older v) (owed_write k t.asks (r + count older) reg)

-- a future file with what is owed beside the stages
abbrev pub paid_file : List Owed → List Bits → List Bits
paid_file owed file = table (λ reg. paid_owed reg owed (get_or file reg zero_bit)) 16

-- with what is owed by the tokens past EX a future file has each custom register as the run has it behind these
abbrev pub IsFuture : Setting → ℕ → List Bits → Slots → Type 0
IsFuture k r future gone = (reg : ℕ) → reg < 16 → paid_late k r reg gone (get_or future reg zero_bit) ≡ get_or (run k (r + count gone)).custom reg zero_bit

-- the rows for which a token of this stage may still wait for the memory: the most before MEM, so many at MEM, none behind it
abbrev pub may_wait : Shape → ℕ → ℕ → ℕ → ℕ
may_wait k most owed stage = if nat_lt stage k.mem then most else if stage == k.mem then owed else 0

abbrev pub here : Shape → ℕ → ℕ → ℕ → Option Token → ℕ → ℕ
here k most owed stage None n = 0
here k most owed stage (Some t) n = suc (n + may_wait k most owed stage + t.tail)

abbrev pub first_of_two : ℕ → ℕ → ℕ
first_of_two zero b = b
first_of_two (suc a) b = suc a

-- how many rows the oldest token has still to go, to wait and to be held for its module, 0 where there is none
abbrev pub to_go : Shape → ℕ → ℕ → ℕ → Slots → ℕ
to_go k most owed stage [] = 0
to_go k most owed stage (s ∷ older) = first_of_two (to_go k most owed (suc stage) older) (here k most owed stage s (length older))

-- the rows that may still pass without a retirement: with no token, all that one may need, its module's 64 cycles among them
abbrev pub rank : Shape → ℕ → ℕ → Slots → ℕ
rank k most owed slots = first_of_two (to_go k most owed 0 slots) (suc (k.stages + most + 64))

-- how many rows the oldest of these tokens needs to pass EX, where it stands there or below, and the first of them in this stage; 0 with none
abbrev pub to_pass : ℕ → ℕ → Slots → ℕ
to_pass ex stage [] = 0
to_pass ex stage (None ∷ older) = to_pass ex (suc stage) older
to_pass ex stage (Some t ∷ older) = first_of_two (to_pass ex (suc stage) older) (suc ex - stage)

-- the same, with none those that the next one needs
abbrev pub passing : Shape → Slots → ℕ
passing k slots = first_of_two (to_pass k.ex 0 slots) (suc k.ex)

-- the handler is entered as soon as the line is pending: there is one, interrupts are taken, and no token stands above EX
abbrev pub may_enter : Setting → Machine → Bool
may_enter k m = is_some k.lines && (is_enabled m.arch.trap && (count (drop (suc (shape_of k).ex) m.slots) == 0))

-- the rows that may still pass in the stages: as long as the handler may be entered, those up to an entry, or until a token has passed EX, and then all
abbrev pub stage_rank : Setting → ℕ → Machine → ℕ
stage_rank k most m = if may_enter k m then passing (shape_of k) m.slots + suc ((shape_of k).stages + most + 64) else rank (shape_of k) most (owed_by k m) m.slots

-- the same with the rows for which what stands in units may hold the stages back
abbrev pub whole_rank : Setting → ℕ → Machine → ℕ
whole_rank k most m = unit_rank (lasts_of k.design.plans) m.entries + stage_rank k most m

-- units have no more entries than there are registers
abbrev pub most_entries : Setting → ℕ
most_entries k = 32 + length (tree_of k).registers

-- with a line the stages may be filled anew
abbrev pub more_rows : Setting → ℕ
more_rows k = if is_some k.lines then (shape_of k).stages else 0

-- the rank is never greater
abbrev pub greatest_rank : Setting → ℕ
greatest_rank k = (64 - (shape_of k).stages) + most_entries k + ((shape_of k).stages + greatest k.waits + 65) + more_rows k

-- each cell that left EX in these rows has a place below this one
abbrev pub AreExecuted : Setting → List Row → ℕ → Type 0
AreExecuted k [] bound = Unit {0}
AreExecuted k (row ∷ earlier) bound = ((c : Cell) → leaves_execute (judged k) row ≡ Some c → place (row ∷ earlier) c.serial < bound) × AreExecuted k earlier bound

-- what ties the machine to the rows before
pub record Inv (k : Setting) (earlier : List Row) (m : Machine) : Type 0 where
  pub stages : length m.slots ≡ (shape_of k).stages
  -- the run goes to the handler where these rows say so, and the line is pending where they do
  pub entries : k.places ≡ places earlier
  pub past : NonePast k (retirements earlier)
  pub rows : m.rows ≡ length earlier
  pub line : pending_by k m ≡ is_line_pending k.lines earlier
  pub executed : AreExecuted k earlier (retirements earlier + count (drop (suc (shape_of k).ex) m.slots))
  -- with what is owed its state is the run's
  pub arch : repaid m.owed m.arch ≡ run k (retirements earlier)
  -- and each of its x registers has a word
  pub ranged : (reg : ℕ) → slice_index m.arch.x reg < 2 ^ 32
  pub next_place : place earlier m.next ≡ retirements earlier + count m.slots
  pub next_first : serial_after m.next (cell_of (first_slot m.slots)) ≡ m.next
  pub fetch : m.fetch ≡ expected k (retirements earlier) 1 (tail m.slots)
  pub few : m.next ≤ length earlier
  pub few_accesses : m.accesses ≤ length earlier
  pub few_stood : m.stood ≤ length earlier
  pub accesses : m.accesses ≡ Lawful.accesses_before (judged k).course (retirements earlier + count (drop (suc (shape_of k).mem) m.slots))
  pub stood_is : (t : Token) (older : Slots) → drop (shape_of k).mem m.slots ≡ Some t ∷ older → m.stood ≡ Lawful.stood (judged k) earlier t.cell.serial
  pub tail_is : (n : ℕ) (t : Token) (older : Slots) → drop n m.slots ≡ Some t ∷ older → t.tail + Lawful.tailed (judged k) earlier t.cell.serial ≡ t.asks.tail
  pub future : IsFuture k (retirements earlier) (paid_file m.owed m.future) (past_ex k m.slots)
  pub future_wide : AreWide (tree_of k) m.future
  -- it is that of the rows
  pub file : future_file (judged k) earlier ≡ m.future
  pub placed : Placed k (retirements earlier) 0 m.slots
  pub serials : Serials earlier (retirements earlier) m.slots
  pub fetch_is : m.fetch ≡ fetch_address (judged k) earlier
  pub next_is : m.next ≡ next_serial (judged k) earlier
  pub moved : MovesInto (newest earlier) None (Lawful.stages_of (judged k) (newest earlier)) (names_of (cells_of m.slots))
  pub words : (s word : ℕ) → IsWordOf (judged k) earlier s word → HasWord m.slots s word
  pub fresh : (s word : ℕ) → IsWordOf (judged k) earlier s word → s < m.next
  pub retired : (s : ℕ) → is_flushed earlier s ≡ false → is_retired earlier s ≡ nat_lt (place earlier s) (retirements earlier)
  pub unflushed : (s : ℕ) → m.next ≤ s → is_flushed earlier s ≡ false
  -- what is outstanding
  pub owing : Owing k earlier (outstanding (judged k) earlier) m.entries m.owed
  pub worded : (s word : ℕ) → IsWordOf (judged k) earlier s word → is_flushed earlier s ≡ false → is_retired earlier s ≡ true → RetiredAs earlier s word
  pub units : units_after (judged k) earlier ≡ units_of (shape_of k).stages (lasts_of k.design.plans) m.entries
  pub timed : IsTimed (shape_of k).stages (lasts_of k.design.plans) m.entries
  pub distinct : Distinct m.owed
  pub apart : Apart k m.owed 0 m.slots
  -- what is written was retired
  pub paid : (s : ℕ) → is_written earlier s ≡ true → is_retired earlier s ≡ true
  pub few_entries : length m.entries ≤ most_entries k
  pub state : architecture (tree_of k) (judged k) earlier ≡ m.arch
  pub progress : rows_without earlier + whole_rank k (greatest k.waits) m ≤ greatest_rank k
