-- What holds of serials that have left the pipeline: they retire in order, are never flushed, and keep their place in the run (this project's choice). `row` stands behind the rows
-- `earlier`.
use Rattle.std.specs.Prelude.{◌≡◌, ℕ, ◌<◌, List, ◌∷◌, Some, true, false}
use Rattle.rv_seq.specs.declared.commit.Commit.{Commit}
use Rattle.rv_trace.specs.declared.row.Cell.{Cell}
use Rattle.rv_trace.specs.declared.row.Row.{Row}
use Rattle.rv_trace.specs.Trace.{is_flushed, is_retired, place, retirements}
use Rattle.rv_lawful.specs.Settings.{Setting, Stands}
use Rattle.rv_lawful.specs.LawfulTrace.{IsWordOf, LawfulRow, Lawful}
use Rattle.rv_lawful.specs.Headline.{IsRecord}
use Rattle.rv_rows.specs.Facts.{IsPlain, AreGoingOn, MovesAbove}
use Rattle.rv_rows.specs.Recorded.{HasWords}

-- of rows
pub record GoneFacts (k : Setting) (rows : List Row) : Type 0 where
  pub unflushed : (j : ℕ) → is_retired rows j ≡ true → is_flushed rows j ≡ false
  pub worded : (j : ℕ) → is_retired rows j ≡ true → (word : ℕ) × IsWordOf k rows j word

-- of a row whose cells stand where the row before puts them: what is retired is older than all of them
abbrev pub AreOlder : Setting → List Row → Row → Type 0
AreOlder k earlier row = (stage j : ℕ) (c : Cell) → 0 < stage → Stands k row stage c → is_retired earlier j ≡ true → j < c.serial

-- of a lawful row
pub record LeavingFacts (k : Setting) (earlier : List Row) (row : Row) : Type 0 where
  -- what retires did not before, and is younger than all that did
  pub once : (s : ℕ) (c : Commit) → row.retired ≡ Some (s, c) → is_retired earlier s ≡ false
  pub later : (s j : ℕ) (c : Commit) → row.retired ≡ Some (s, c) → is_retired earlier j ≡ true → j < s
  -- its place in the run is the count of retirements, and stays what it is
  pub placed : (s : ℕ) (c : Commit) → row.retired ≡ Some (s, c) → place (row ∷ earlier) s ≡ retirements earlier
  pub stays : (j : ℕ) → is_retired earlier j ≡ true → place (row ∷ earlier) j ≡ place earlier j
  -- where the row shows the record of the run, the word of the record is that of the cell
  pub word : (s : ℕ) (c : Commit) → row.retired ≡ Some (s, c) → IsRecord k (retirements earlier) c → IsWordOf k earlier s c.word

pub record GoneLaw : Type 0 where
  pub gone : (k : Setting) (rows : List Row) → IsPlain k → Lawful (λ places. k) rows → GoneFacts k rows
  pub older : (k : Setting) (earlier : List Row) (row : Row) → IsPlain k → AreGoingOn k earlier → MovesAbove k earlier row → AreOlder k earlier row
  pub leaving : (k : Setting) (earlier : List Row) (row : Row) → IsPlain k → HasWords k → AreGoingOn k earlier → LawfulRow k earlier row → LeavingFacts k earlier row
