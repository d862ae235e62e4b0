-- What holds of lawful rows, whatever made them (this project's choice): where cells stand in the run, that older serials which are not gone stand above, that a serial has one word, and
-- that from EX on a cell has the run's address. There is no interrupt line.
use Rattle.std.specs.Prelude.{◌≡◌, ℕ, suc, drop, ◌+◌, ◌<◌, ◌≤◌, List, [], ◌∷◌, Option, Some, None, false, slice_get}
use Rattle.rv_seq.specs.declared.commit.Stop.TheVariants.{Fetch}
use Rattle.rv_seq.specs.declared.answer.StepAnswer.TheVariants.{Stopped}
use Rattle.rv_seq.specs.Steps.{word_at}
use Rattle.rv_trace.specs.declared.row.Cell.{Cell}
use Rattle.rv_trace.specs.declared.row.Row.{Row}
use Rattle.rv_trace.specs.Trace.{has_cell, is_flushed, is_retired, place, retirements, newest}
use Rattle.rv_trace.specs.RowParts.{Name, leaves, names_of, MovesInto}
use Rattle.rv_lawful.specs.Settings.{Setting, stages_of, Stands, tailed}
use Rattle.rv_lawful.specs.LawfulTrace.{Moves, IsWordOf, next_serial, Lawful}

-- the numbers of a core, and what is asked of the run: no interrupt line, a run that begins at address 0, and no stop of kind Fetch where a word stands
pub record IsPlain (k : Setting) : Type 0 where
  pub no_line : k.lines ≡ None
  pub rd_pos : 0 < k.shape.rd
  pub rd_ex : k.shape.rd ≤ k.shape.ex
  pub ex_near : k.shape.ex ≤ k.shape.rd + 1
  pub ex_mem : k.shape.ex < k.shape.mem
  pub mem_last : k.shape.mem < k.shape.stages
  pub most : k.shape.stages ≤ 5
  pub begins : k.course.pc 0 ≡ 0
  pub fetches : (p : ℕ) → k.course.answer p ≡ Stopped Fetch → word_at k.image (k.course.pc p) ≡ None

-- rows that are lawful under one setting, none of which has a stop
pub record AreGoingOn (k : Setting) (rows : List Row) : Type 0 where
  pub lawful : Lawful (λ places. k) rows
  pub going : (newest rows).stop ≡ None

abbrev pub one_more : Option Cell → ℕ → ℕ
one_more None n = n
one_more (Some c) n = suc n

-- how many cells there are
abbrev pub cells_in : List (Option Cell) → ℕ
cells_in [] = 0
cells_in (c ∷ rest) = one_more c (cells_in rest)

-- how many cells stand above a stage
abbrev pub above : Setting → Row → ℕ → ℕ
above k row stage = cells_in (drop (suc stage) (stages_of k row))

-- above stage 0 each cell stands where the row before puts it
abbrev pub MoveAbove : Row → List (Option Cell) → List (Option Name) → Type 0
MoveAbove row [] [] = Unit {0}
MoveAbove row (was ∷ before) (now ∷ later) = MovesInto row (leaves row was) before later
MoveAbove row [] (now ∷ later) = ⊥
MoveAbove row (was ∷ before) [] = ⊥

abbrev pub MovesAbove : Setting → List Row → Row → Type 0
MovesAbove k earlier row = MoveAbove (newest earlier) (stages_of k (newest earlier)) (names_of (stages_of k row))

-- before the row the cell was neither flushed nor retired; its place in the run is the count of retirements and of the cells above it; its word is the image's at its address
pub record IsInPlace (k : Setting) (earlier : List Row) (row : Row) (stage : ℕ) (c : Cell) : Type 0 where
  pub unflushed : is_flushed earlier c.serial ≡ false
  pub unretired : is_retired earlier c.serial ≡ false
  pub placed : place earlier c.serial ≡ retirements earlier + above k row stage
  pub word : word_at k.image c.at ≡ Some c.word

-- above stage 0, whatever stands there
pub record AboveFacts (k : Setting) (earlier : List Row) (row : Row) : Type 0 where
  pub in_place : (stage : ℕ) (c : Cell) → 0 < stage → Stands k row stage c → IsInPlace k earlier row stage c
  pub fetched : (stage : ℕ) (c : Cell) → 0 < stage → Stands k row stage c → c.serial < next_serial k earlier
  -- older cells stand above
  pub ordered : (stage later : ℕ) (c d : Cell) → 0 < stage → stage < later → Stands k row stage c → Stands k row later d → d.serial < c.serial
  -- and a lower serial that is not gone stands above
  pub older : (stage : ℕ) (c : Cell) (j : ℕ) → 0 < stage → Stands k row stage c → j < c.serial → is_flushed earlier j ≡ false → is_retired earlier j ≡ false →
      (later : ℕ) × (d : Cell) × (stage < later) × Stands k row later d × (d.serial ≡ j)
  -- a cell in EX or above, with no late write of the pc above it, has the run's address
  pub address : (stage : ℕ) (c : Cell) → k.shape.ex ≤ stage → Stands k row stage c → ((later : ℕ) (d : Cell) → stage < later → Stands k row later d → (k.asks d.word).late ≡ false) →
      c.at ≡ k.course.pc (place earlier c.serial)
  -- a cell that comes into the last stage was not held there before
  pub untailed : (stage : ℕ) (c : Cell) → suc stage ≡ k.shape.stages → Stands k row stage c → has_cell (slice_get (stages_of k (newest earlier)) stage) c.serial ≡ false → tailed k earlier c.serial ≡ 0
  -- a serial that stands above stage 0 has one word, in this row and before
  pub one_word : (stage : ℕ) (c : Cell) (word : ℕ) → 0 < stage → Stands k row stage c → IsWordOf k earlier c.serial word → word ≡ c.word
  -- a serial that was fetched has one word
  pub same_word : (j word other : ℕ) → IsWordOf k earlier j word → IsWordOf k earlier j other → word ≡ other

-- with what stands in stage 0
pub record FirstFacts (k : Setting) (earlier : List Row) (row : Row) : Type 0 where
  pub in_place : (c : Cell) → Stands k row 0 c → IsInPlace k earlier row 0 c
  pub fetched : (c : Cell) → Stands k row 0 c → suc c.serial ≡ next_serial k (row ∷ earlier)
  pub ordered : (later : ℕ) (c d : Cell) → 0 < later → Stands k row 0 c → Stands k row later d → d.serial < c.serial
  pub older : (c : Cell) (j : ℕ) → Stands k row 0 c → j < c.serial → is_flushed earlier j ≡ false → is_retired earlier j ≡ false →
      (later : ℕ) × (d : Cell) × (0 < later) × Stands k row later d × (d.serial ≡ j)
  pub one_word : (c : Cell) (word : ℕ) → Stands k row 0 c → IsWordOf k earlier c.serial word → word ≡ c.word
  -- no cell of the row before comes back into stage 0
  pub new : (stage : ℕ) (c d : Cell) → Stands k row 0 c → Stands k (newest earlier) stage d → d.serial ≡ c.serial → (stage ≡ 0) × (leaves (newest earlier) (Some d) ≡ None)

-- of rows so far: serials from the next one on were never seen, and the next one has the place behind all that goes on
pub record NextFacts (k : Setting) (earlier : List Row) : Type 0 where
  pub unflushed : (s : ℕ) → next_serial k earlier ≤ s → is_flushed earlier s ≡ false
  pub unretired : (s : ℕ) → next_serial k earlier ≤ s → is_retired earlier s ≡ false
  pub seen : (j word : ℕ) → IsWordOf k earlier j word → j < next_serial k earlier

-- the laws: of rows that go on, and of any row that stands so behind them
pub record RowFacts : Type 0 where
  pub next : (k : Setting) (earlier : List Row) → IsPlain k → AreGoingOn k earlier → NextFacts k earlier
  pub above : (k : Setting) (earlier : List Row) (row : Row) → IsPlain k → AreGoingOn k earlier → MovesAbove k earlier row → AboveFacts k earlier row
  pub first : (k : Setting) (earlier : List Row) (row : Row) → IsPlain k → AreGoingOn k earlier → Moves k earlier row → FirstFacts k earlier row
