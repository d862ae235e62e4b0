-- What comes into the stages of a hart, and how they move (this project's choice).
use Rattle.std.specs.Prelude.{ℕ, zero, suc, List, [], ◌∷◌, length, replicate, Option, Some, None, if◌then◌else◌, nat_lt}
use Rattle.ix_extension.specs.Extensions.{ExtensionTree, view_extension}
use Rattle.ix_plan.specs.declared.design.Design.{Design}
use Rattle.rv_asks.specs.Asks.{asks_in}
use Rattle.rv_seq.specs.Decoding.{decoded_in}
use Rattle.rv_harts.specs.Harts.{Fetched}
use Rattle.rv_lawful.specs.Settings.{state_trial, word_accesses}
use Rattle.rv_seq.specs.declared.arch.Arch.{Arch}
use Rattle.rv_seq.specs.Sound.{IsSound}
use Rattle.rv_seq.specs.Steps.{word_at, step}
use Rattle.rv_past.specs.declared.step.Step.{Step}
use Rattle.rv_past.specs.Steps.{behind}
use Rattle.rv_barrel.specs.declared.cell.InFlight.{InFlight}
use Rattle.rv_barrel.specs.Cells.{Slots, fetched_at}

-- what is fetched with this word
abbrev pub new_one : Design → ℕ → ℕ → ℕ → InFlight
new_one d serial at word = record { serial = serial; at = at; word = word; asks = asks_in d word (decoded_in (view_extension d.extension) word); step = None }

-- where there is one
abbrev pub new_in : Design → ℕ → ℕ → Option ℕ → Option InFlight
new_in d serial at None = None
new_in d serial at (Some word) = Some (new_one d serial at word)

-- what stands in a slot, at this place
abbrev pub fetched_in : ℕ → Option InFlight → Option Fetched
fetched_in q None = None
fetched_in q (Some c) = Some (fetched_at q c)

-- the stages, where this comes into the first of them
abbrev pub put_first : Option InFlight → Slots → Slots
put_first new [] = []
put_first new (s ∷ older) = new ∷ older

-- the step of a state
abbrev pub step_here : ExtensionTree → List ℕ → Arch → Step
step_here x image s =
    record {
      pc = s.pc;
      answer = step x image s;
      accesses = word_accesses x s (word_at image s.pc);
      before = 0;
      blocks = (state_trial x s (word_at image s.pc)).blocks;
      own = (state_trial x s (word_at image s.pc)).own;
    }

-- what stands in a slot, tried on a state
abbrev pub with_step : ExtensionTree → List ℕ → Arch → Option InFlight → Option InFlight
with_step x image s None = None
with_step x image s (Some c) = Some (record { serial = c.serial; at = c.at; word = c.word; asks = c.asks; step = Some (step_here x image s) })

-- the stages, where what stands in the one with this number is tried
abbrev pub tried_at : ExtensionTree → List ℕ → Arch → ℕ → Slots → Slots
tried_at x image s n [] = []
tried_at x image s zero (slot ∷ older) = with_step x image s slot ∷ older
tried_at x image s (suc n) (slot ∷ older) = slot ∷ tried_at x image s n older

-- what goes on from this stage, where so many of the first have nothing that does
abbrev pub going : ℕ → ℕ → Option InFlight → Option InFlight
going gone stage slot = if nat_lt stage gone then None else slot

-- the stages one on, of which the first is this one, where `come` comes into it
abbrev pub advanced : ℕ → ℕ → Option InFlight → Slots → Slots
advanced gone stage come [] = []
advanced gone stage come (slot ∷ older) = come ∷ advanced gone (suc stage) (going gone stage slot) older

-- as many stages, all free
abbrev pub all_free : Slots → Slots
all_free slots = replicate (length slots) None

-- the state behind a step that was tried
abbrev pub ahead_by : Option Step → Arch → Arch
ahead_by None s = s
ahead_by (Some one) s = behind one.answer s

-- the state behind what goes on out of a slot
abbrev pub ahead_of : Option InFlight → Arch → Arch
ahead_of None s = s
ahead_of (Some c) s = ahead_by c.step s

-- a step that was tried is sound
abbrev pub IsSoundStep : ExtensionTree → Option Step → Type 0
IsSoundStep x None = Unit
IsSoundStep x (Some one) = IsSound x one.answer

abbrev pub IsSoundSlot : ExtensionTree → Option InFlight → Type 0
IsSoundSlot x None = Unit
IsSoundSlot x (Some c) = IsSoundStep x c.step
