-- Rows that show what the run retires and writes (this project's choice). There is no interrupt line.
use Rattle.std.specs.Prelude.{◌≡◌, ℕ, List, [], ◌∷◌, Some}
use Rattle.rv_seq.specs.declared.answer.StepAnswer.TheVariants.{Done}
use Rattle.rv_seq.specs.declared.commit.Commit.{Commit}
use Rattle.rv_seq.specs.Steps.{word_at}
use Rattle.rv_trace.specs.declared.row.Row.{Row}
use Rattle.rv_trace.specs.Trace.{retirements}
use Rattle.rv_lawful.specs.Settings.{Setting}
use Rattle.rv_lawful.specs.Outstanding.{Written}
use Rattle.rv_lawful.specs.Headline.{IsRecord, IsSpawnWrite}

-- a row retires the next record of the run, and writes what the run writes at the place of the serial
pub record IsRecorded (k : Setting) (earlier : List Row) (row : Row) : Type 0 where
  pub retired : (s : ℕ) (c : Commit) → row.retired ≡ Some (s, c) → IsRecord k (retirements earlier) c
  pub written : (w : Written) → row.written ≡ Some w → IsSpawnWrite k earlier w

-- each row does
abbrev pub AreRecorded : Setting → List Row → Type 0
AreRecorded k [] = Unit {0}
AreRecorded k (row ∷ earlier) = IsRecorded k earlier row × AreRecorded k earlier

-- a step that does not stop is that of the word at its pc
abbrev pub HasWords : Setting → Type 0
HasWords k = (p : ℕ) (d : Commit) → k.course.answer p ≡ Done d → word_at k.image (k.course.pc p) ≡ Some d.word
