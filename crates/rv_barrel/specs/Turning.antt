-- Why an instruction of a hart is turned, register by register, and what it was tried as (this project's choice).
use Rattle.std.specs.Prelude.{◌≡◌, ℕ, suc, ◌+◌, ◌≤◌, List, [], ◌∷◌, Option, Some, None, if◌then◌else◌, ◌==◌, ◌&&◌, not}
use Rattle.rv_core.specs.declared.Shape.{Shape}
use Rattle.rv_harts.specs.declared.event.Event.{Event}
use Rattle.rv_harts.specs.declared.event.Event.TheVariants.{Led, Stopped}
use Rattle.rv_harts.specs.Events.{settles, successor}
use Rattle.rv_harts.specs.Harts.{Fetched}
use Rattle.rv_harts.specs.Turns.{operand_of, board_of, custom_of}
use Rattle.rv_lawful.specs.Settings.{Setting}
use Rattle.rv_seq.specs.declared.answer.StepAnswer.{StepAnswer}
use Rattle.rv_seq.specs.declared.answer.StepAnswer.TheVariants as answers
use Rattle.rv_seq.specs.declared.commit.Stop.{Stop}
use Rattle.rv_past.specs.declared.step.Step.{Step}
use Rattle.rv_barrel.specs.declared.cell.InFlight.{InFlight}
use Rattle.rv_barrel.specs.declared.turning.Wait.{Wait}
use Rattle.rv_barrel.specs.declared.turning.Wait.TheVariants.{Operand, Board, Custom}
use Rattle.rv_barrel.specs.Cells.{Slots, count}

-- how many registers there are for which an instruction waits so
abbrev pub register_bound : Wait → ℕ
register_bound Operand = 32
register_bound Board = 48
register_bound Custom = 16

-- the oldest for which it waits at a register
abbrev pub waited : Wait → Setting → Fetched → List Fetched → List Fetched → ℕ → Option ℕ
waited Operand k c unretired unwritten n = operand_of k c unretired n
waited Board k c unretired unwritten n = board_of k c unwritten n
waited Custom k c unretired unwritten n = custom_of k c unretired n

-- the numbers of the core are these
pub record IsCore (k : Setting) (shape : Shape) : Type 0 where
  pub stages : k.shape.stages ≡ shape.stages
  pub rd : k.shape.rd ≡ shape.rd
  pub ex : k.shape.ex ≡ shape.ex

-- the address behind a step
abbrev pub next_in : ℕ → StepAnswer → ℕ
next_in pc (answers.Done c) = c.next
next_in pc (answers.Stopped stop) = pc

-- it is the step at a place of the run
pub record IsStepAt (k : Setting) (p : ℕ) (s : Step) : Type 0 where
  pub pc : s.pc ≡ k.course.pc p
  pub answer : s.answer ≡ k.course.answer p
  pub blocks : s.blocks ≡ k.course.blocks p
  pub own : s.own ≡ k.course.own p
  pub next : next_in s.pc s.answer ≡ k.course.pc (suc p)

-- it was tried, as the step at this place
pub record IsTriedAt (k : Setting) (p : ℕ) (c : InFlight) : Type 0 where
  pub step : Step
  pub tried : c.step ≡ Some step
  pub placed : IsStepAt k p step

-- each of these from one stage on was tried, as the step at its place; the first of them stands in this stage
abbrev pub AreTried : Setting → ℕ → ℕ → ℕ → Slots → Type 0
AreTried k from q stage [] = Unit
AreTried k from q stage (None ∷ older) = AreTried k from q (suc stage) older
AreTried k from q stage (Some c ∷ older) = (from ≤ stage → IsTriedAt k (q + count older) c) × AreTried k from q (suc stage) older

-- an instruction leads to this address, unless that stands next
abbrev pub led_from : ℕ → ℕ → Option Event
led_from next near = if next == near then None else Some (Led next)

-- where it settles its successor in this stage
abbrev pub led_in : Setting → ℕ → ℕ → Fetched → Option Event
led_in k near stage c = if settles k stage c && not (successor k c == near) then Some (Led (successor k c)) else None

abbrev pub stopped_so : Stop → Event
stopped_so stop = Stopped stop
