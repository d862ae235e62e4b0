-- What a trace of a pipeline with an extension is judged against, and what is read from its rows (this project's choice).
use Rattle.std.specs.Prelude.{◌≡◌, ℕ, zero, suc, ◌-◌, List, [], ◌∷◌, take, Option, Some, None, Bool, true, false, ◌&&◌, if◌then◌else◌, ◌==◌, is_some, is_none, slice_get}
use Rattle.ix_bits.specs.declared.number.Bits.{Bits}
use Rattle.ix_extension.specs.Extensions.{ExtensionTree, view_extension}
use Rattle.ix_plan.specs.declared.design.Design.{Design}
use Rattle.ix_plan.specs.Units.{Slots, first_units}
use Rattle.rv_core.specs.declared.Shape.{Shape}
use Rattle.rv_seq.specs.declared.decoded.Decoded.{Decoded}
use Rattle.rv_seq.specs.Decoding.{decoded_in}
use Rattle.rv_seq.specs.declared.arch.Arch.{Arch}
use Rattle.rv_seq.specs.declared.answer.StepAnswer.{StepAnswer}
use Rattle.rv_seq.specs.States.{first, state_at}
use Rattle.rv_seq.specs.Interrupts.{return_to, is_enabled}
use Rattle.rv_seq.specs.Steps.{word_at, own_effect, step}
use Rattle.rv_seq.specs.Stops.{stop_of}
use Rattle.rv_seq.specs.Runs.{Entries, run_with, access_in}
use Rattle.rv_asks.specs.declared.asks.Asks.{Asks}
use Rattle.rv_asks.specs.Asks.{asks_in}
use Rattle.rv_tried.specs.declared.trial.Trial.{Trial}
use Rattle.rv_tried.specs.Tried.{tried, no_trial, blocks_seen}
use Rattle.rv_trace.specs.declared.row.Cell.{Cell}
use Rattle.rv_trace.specs.declared.row.Row.{Row}
use Rattle.rv_trace.specs.declared.row.Hold.{Hold}
use Rattle.rv_trace.specs.declared.row.Hold.TheVariants.{Tail}
use Rattle.rv_trace.specs.Trace.{has_cell}

-- a run as a trace is judged against it: what the step at each place does, the pc there, whether interrupts are taken there, whether the step accesses the memory, what the
-- always-blocks alone write to the custom registers in it, and which of these the instruction itself writes
pub record Course : Type 0 where
  pub answer : ℕ → StepAnswer
  pub pc : ℕ → ℕ
  pub enabled : ℕ → Bool
  pub accesses : ℕ → Bool
  pub blocks : ℕ → List (Option Bits)
  pub own : ℕ → List Bool

-- does an instruction access the memory in this state, its condition true? One that stops does not
abbrev pub does_access : ExtensionTree → Arch → ℕ → Option Decoded → Bool
does_access x s word None = false
does_access x s word (Some d) = is_none (stop_of d (own_effect x s word d)) && is_some (access_in (own_effect x s word d))

-- does the step of a state, with this word at its pc?
abbrev pub word_accesses : ExtensionTree → Arch → Option ℕ → Bool
word_accesses x s None = false
word_accesses x s (Some word) = does_access x s word (decoded_in x word)

-- what the word at the pc of a state comes to
abbrev pub state_trial : ExtensionTree → Arch → Option ℕ → Trial
state_trial x s None = no_trial
state_trial x s (Some word) = tried x (state_at word s) s.mem (return_to word s.trap) (decoded_in x word)

-- what the word at this place comes to, in the run that goes to the handler at these places
abbrev pub run_trial : ExtensionTree → List ℕ → Option Entries → ℕ → Trial
run_trial x image e p = state_trial x (run_with x image e p) (word_at image (run_with x image e p).pc)

-- that run of an image on a core with the extension
abbrev pub course_of : ExtensionTree → List ℕ → Option Entries → Course
course_of x image e =
    record {
      answer = λ p. step x image (run_with x image e p);
      pc = λ p. (run_with x image e p).pc;
      enabled = λ p. is_enabled (run_with x image e p).trap;
      accesses = λ p. word_accesses x (run_with x image e p) (word_at image (run_with x image e p).pc);
      blocks = λ p. (run_trial x image e p).blocks;
      own = λ p. (run_trial x image e p).own;
    }

-- where the always-blocks jump to from this address, with this word there, these custom registers and this memory, if they jump
abbrev pub jump_with : ExtensionTree → List Bits → List ℕ → ℕ → ℕ → Option ℕ
jump_with x file memory at word = (blocks_seen x (record { word = word; rs1 = 0; rs2 = 0; pc = at; custom = file }) memory).pc

-- the same of no memory: they know neither x registers nor memory
abbrev pub jump_of : ExtensionTree → List Bits → ℕ → ℕ → Option ℕ
jump_of x file at word = jump_with x file [] at word

-- what a trace is judged against: the image, the waits of the memory, the rows in which the interrupt line is raised, where there is one, where the run goes to the handler,
-- the shape of the core, the run, what is asked of the instruction of a word, the units and the custom registers before the first row, and where the always-blocks jump to, with
-- these custom registers, from an address with a word
pub record Setting : Type 0 where
  pub image : List ℕ
  pub waits : List ℕ
  pub lines : Option (List ℕ)
  pub entries : Option Entries
  pub shape : Shape
  pub course : Course
  pub asks : ℕ → Asks
  pub units : List Slots
  pub initial : List Bits
  pub jump : List Bits → ℕ → ℕ → Option ℕ

-- a run goes to the handler at these places, on a core with an interrupt line
abbrev pub entries_at : ℕ → Option (List ℕ) → List ℕ → Option Entries
entries_at handler None places = None
entries_at handler (Some lines) places = Some (record { handler = handler; places = places })

-- an image on the core of a design whose memory has these waits, where the interrupt line, if there is one, is raised in these rows, and the run goes to the handler at these
-- places
abbrev pub setting : Design → List ℕ → List ℕ → Option (List ℕ) → List ℕ → Setting
setting d image waits lines places =
    record {
      image = image;
      waits = waits;
      lines = lines;
      entries = entries_at d.sheet.shape.trap lines places;
      shape = d.sheet.shape;
      course = course_of (view_extension d.extension) image (entries_at d.sheet.shape.trap lines places);
      asks = λ word. asks_in d word (decoded_in (view_extension d.extension) word);
      units = first_units d.sheet.shape.stages d.plans;
      initial = (first (view_extension d.extension)).custom;
      jump = jump_of (view_extension d.extension);
    }

-- how many accesses the steps before this place make: the number of the access of the step there, from 0
unfoldable pub accesses_before : Course → ℕ → ℕ
accesses_before run zero = 0
accesses_before run (suc p) = if run.accesses p then suc (accesses_before run p) else accesses_before run p

-- the cells of the core's stages, stage 0 first
abbrev pub stages_of : Setting → Row → List (Option Cell)
stages_of k row = take k.shape.stages row.cells

-- the cell stands in this stage in the row
abbrev pub Stands : Setting → Row → ℕ → Cell → Type 0
Stands k row stage c = slice_get (stages_of k row) stage ≡ Some (Some c)

-- for how many rows in succession, up to the last of these, the cell of this serial stood in MEM
unfoldable pub stood : Setting → List Row → ℕ → ℕ
stood k [] s = 0
stood k (row ∷ earlier) s = if has_cell (slice_get (stages_of k row) k.shape.mem) s then suc (stood k earlier s) else 0

abbrev pub is_tail : Option Hold → Bool
is_tail (Some (Tail left)) = true
is_tail h = false

-- is the cell of this stage one of this serial that shows Tail?
abbrev pub has_tail : Option (Option Cell) → ℕ → Bool
has_tail None s = false
has_tail (Some None) s = false
has_tail (Some (Some c)) s = (c.serial == s) && is_tail c.hold

-- for how many of these rows the cell of this serial was held by Tail
unfoldable pub tailed : Setting → List Row → ℕ → ℕ
tailed k [] s = 0
tailed k (row ∷ earlier) s = if has_tail (slice_get (stages_of k row) (k.shape.stages - 1)) s then suc (tailed k earlier s) else tailed k earlier s
