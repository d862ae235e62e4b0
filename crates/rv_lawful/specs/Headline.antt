-- What a trace of a pipeline with an extension shows is the sequential run, and it goes on (this project's choice).
use Rattle.std.specs.Prelude.{◌≡◌, ℕ, ◌+◌, List, [], ◌∷◌, length, Option, Some, None, true, false}
use Rattle.ix_extension.specs.Extensions.{ExtensionTree, view_extension}
use Rattle.ix_plan.specs.declared.design.Design.{Design}
use Rattle.rv_seq.specs.declared.commit.Commit.{Commit}
use Rattle.rv_seq.specs.declared.commit.Stop.{Stop}
use Rattle.rv_seq.specs.declared.answer.StepAnswer.TheVariants.{Done, Stopped}
use Rattle.rv_seq.specs.Runs.{run_with}
use Rattle.rv_tried.specs.Parts.{shown, spawned}
use Rattle.rv_trace.specs.declared.row.Row.{Row}
use Rattle.rv_trace.specs.Trace.{place, is_retired, retirements}
use Rattle.rv_trace.specs.Progress.{progress_bound, Progressing}
use Rattle.rv_waits.specs.Waits.{greatest}
use Rattle.rv_lawful.specs.Settings.{Setting, setting}
use Rattle.rv_lawful.specs.Outstanding.{Written, writes_of, is_written, outstanding, applied_state}
use Rattle.rv_lawful.specs.Entering.{places}
use Rattle.rv_lawful.specs.LawfulTrace.{Judging, Lawful}
use Rattle.rv_lawful.specs.Answering.{entry_bound, Answering}

-- the record is that of the step at this place, with what its `spawn` body writes shown as coming later
abbrev pub IsRecord : Setting → ℕ → Commit → Type 0
IsRecord k p c = (d : Commit) × (k.course.answer p ≡ Done d) × (c ≡ shown (k.asks d.word) d)

-- the write is that of the `spawn` body of the step at the serial's place, which is retired and not written before
pub record IsSpawnWrite (k : Setting) (earlier : List Row) (w : Written) : Type 0 where
  pub commit : Commit
  pub step : k.course.answer (place earlier w.0) ≡ Done commit
  pub values : writes_of w ≡ spawned (k.asks commit.word) (k.course.own (place earlier w.0)) commit
  pub retired : is_retired earlier w.0 ≡ true
  pub once : is_written earlier w.0 ≡ false

-- what the row retires is the next record of the run, what a unit writes is what the run writes there, and the state with the outstanding writes applied and the stop are the
-- run's, which goes to the handler where this row says so too (`next`); at a stop nothing is outstanding
pub record AgreesWithRun (x : ExtensionTree) (k next : Setting) (earlier : List Row) (row : Row) : Type 0 where
  pub placed : (s : ℕ) (c : Commit) → row.retired ≡ Some (s, c) → place (row ∷ earlier) s ≡ retirements earlier
  pub recorded : (s : ℕ) (c : Commit) → row.retired ≡ Some (s, c) → IsRecord k (retirements earlier) c
  pub written : (w : Written) → row.written ≡ Some w → IsSpawnWrite k earlier w
  pub state : applied_state x next (row ∷ earlier) ≡ run_with x next.image next.entries (retirements (row ∷ earlier))
  pub stop : (stop : Stop) → row.stop ≡ Some stop → next.course.answer (retirements (row ∷ earlier)) ≡ Stopped stop
  pub settled : (stop : Stop) → row.stop ≡ Some stop → outstanding k (row ∷ earlier) ≡ []

-- each row does
abbrev pub Agreeing : ExtensionTree → Judging → List Row → Type 0
Agreeing x by [] = Unit {0}
Agreeing x by (row ∷ earlier) = AgreesWithRun x (by (places earlier)) (by (places (row ∷ earlier))) earlier row × Agreeing x by earlier

-- the bound on the rows without a retirement of a design's core whose memory has these waits, in rows; where there is an interrupt line, after an entry all stages are filled anew
abbrev pub bound_of : Design → List ℕ → Option (List ℕ) → ℕ
bound_of d waits None = progress_bound d.sheet.shape.stages (length (view_extension d.extension).registers) (greatest waits)
bound_of d waits (Some lines) = progress_bound d.sheet.shape.stages (length (view_extension d.extension).registers) (greatest waits) + d.sheet.shape.stages + 2

-- the headline: the rows of an image on the core of a design whose memory has these waits, and whose interrupt line, where there is one, is raised in these rows, the newest first, are
-- lawful; what they retire is a prefix of the image's run with the extension, which goes to the handler where they say so, with its states, outstanding writes applied, and its stop;
-- they go on; and an interrupt that is to be taken is taken
pub record Headline (d : Design) (image waits : List ℕ) (lines : Option (List ℕ)) (rows : List Row) : Type 0 where
  pub lawful : Lawful (setting d image waits lines) rows
  pub agrees : Agreeing (view_extension d.extension) (setting d image waits lines) rows
  pub progress : Progressing (bound_of d waits lines) rows
  pub answers : Answering (setting d image waits lines) (entry_bound d.sheet.shape (bound_of d waits lines)) rows
