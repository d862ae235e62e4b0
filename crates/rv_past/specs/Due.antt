-- A step of the run with what is asked of its instruction (this project's choice).
use Rattle.std.specs.Prelude.{◌≡◌, ℕ}
use Rattle.rv_seq.specs.declared.answer.StepAnswer.TheVariants.{Done}
use Rattle.rv_seq.specs.declared.commit.Commit.{Commit}
use Rattle.rv_lawful.specs.Settings.{Setting}
use Rattle.rv_past.specs.Steps.{step_at}
use Rattle.rv_past.specs.declared.due.Due.{Due}

-- it is the step at this place
pub record IsDue (k : Setting) (p : ℕ) (due : Due) : Type 0 where
  pub step : due.step ≡ step_at k.course p
  pub asks : (c : Commit) → due.step.answer ≡ Done c → due.asks ≡ k.asks c.word
