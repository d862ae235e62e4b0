-- The first steps of the sequential run of an image, as they are kept (this project's choice). There is no interrupt line.
use Rattle.std.specs.Prelude.{◌≡◌, ℕ, zero, suc, List, [], ◌∷◌, ◌++◌, length, None}
use Rattle.ix_extension.specs.Extensions.{ExtensionTree}
use Rattle.rv_seq.specs.WordEffects.{AreWide}
use Rattle.rv_seq.specs.declared.arch.Arch.{Arch}
use Rattle.rv_seq.specs.declared.answer.StepAnswer.{StepAnswer}
use Rattle.rv_seq.specs.declared.answer.StepAnswer.TheVariants.{Done, Stopped}
use Rattle.rv_seq.specs.Commits.{applied}
use Rattle.rv_seq.specs.Runs.{run}
use Rattle.rv_seq.specs.Steps.{word_at, step}
use Rattle.rv_lawful.specs.Settings.{Course, course_of, state_trial, word_accesses, accesses_before}
use Rattle.rv_past.specs.declared.step.Step.{Step}
use Rattle.rv_past.specs.declared.steps.Steps.{Steps}

-- it is the step of a state, before which so many accesses were made
pub record IsStepOf (x : ExtensionTree) (image : List ℕ) (s : Arch) (count : ℕ) (one : Step) : Type 0 where
  pub pc : one.pc ≡ s.pc
  pub answer : one.answer ≡ step x image s
  pub accesses : one.accesses ≡ word_accesses x s (word_at image s.pc)
  pub before : one.before ≡ count
  pub blocks : one.blocks ≡ (state_trial x s (word_at image s.pc)).blocks
  pub own : one.own ≡ (state_trial x s (word_at image s.pc)).own

-- the state behind what a step answers
abbrev pub behind : StepAnswer → Arch → Arch
behind (Done c) s = applied c s
behind (Stopped stop) s = s

-- the step at a place of a run
abbrev pub step_at : Course → ℕ → Step
step_at c p = record { pc = c.pc p; answer = c.answer p; accesses = c.accesses p; before = accesses_before c p; blocks = c.blocks p; own = c.own p }

-- the first so many steps
unfoldable pub first_steps : Course → ℕ → List Step
first_steps c zero = []
first_steps c (suc n) = first_steps c n ++ step_at c n ∷ []

-- these are the first steps of the run, and the state behind them
pub record AreSteps (x : ExtensionTree) (image : List ℕ) (s : Steps) : Type 0 where
  pub steps : s.steps ≡ first_steps (course_of x image None) (length s.steps)
  pub ahead : s.ahead ≡ run x image (length s.steps)
  pub accesses : s.accesses ≡ accesses_before (course_of x image None) (length s.steps)
  pub wide : AreWide x s.ahead.custom
