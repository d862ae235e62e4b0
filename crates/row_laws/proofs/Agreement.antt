-- What a row that is written out owes to be the run's.
use Rattle.std.proofs.Common.{◌≡◌, ℕ, List, [], ◌∷◌, Option, Some, None, subst}
use Rattle.rv_lawful.specs.Headline.{IsRecord, IsSpawnWrite, AgreesWithRun}
use Rattle.rv_lawful.specs.Outstanding.{Written, outstanding, applied_state}
use Rattle.rv_lawful.specs.Settings.{Setting}
use Rattle.rv_seq.specs.Bare.{bare}
use Rattle.rv_seq.specs.Runs.{run_with}
use Rattle.rv_seq.specs.declared.answer.StepAnswer.TheVariants.{Stopped}
use Rattle.rv_seq.specs.declared.commit.Commit.{Commit}
use Rattle.rv_seq.specs.declared.commit.Stop.{Stop}
use Rattle.rv_trace.specs.Trace.{place, retirements}
use Rattle.rv_trace.specs.declared.row.Row.{Row}

-- what is retired is the next record
abbrev pub RetiresNext : Setting → List Row → Row → Option (ℕ × Commit) → Type 0
RetiresNext k earlier row None = Unit {0}
RetiresNext k earlier row (Some (s, c)) = (place (row ∷ earlier) s ≡ retirements earlier) × IsRecord k (retirements earlier) c

-- what is written is what the run writes
abbrev pub WritesThat : Setting → List Row → Option Written → Type 0
WritesThat k earlier None = Unit {0}
WritesThat k earlier (Some w) = IsSpawnWrite k earlier w

-- the stop is that of the run
abbrev pub StopsThere : Setting → Setting → List Row → Option Stop → Type 0
StopsThere k next rows None = Unit {0}
StopsThere k next rows (Some s) = (next.course.answer (retirements rows) ≡ Stopped s) × (outstanding k rows ≡ [])

pub agrees_by : (k next : Setting) (earlier : List Row) (row : Row) → RetiresNext k earlier row row.retired → WritesThat k earlier row.written → StopsThere k next (row ∷ earlier) row.stop
    → applied_state bare next (row ∷ earlier) ≡ run_with bare next.image next.entries (retirements (row ∷ earlier)) → AgreesWithRun bare k next earlier row
agrees_by k next earlier row r w t state = record {
  placed = λ s c e. (retires s c e).0;
  recorded = λ s c e. (retires s c e).1;
  written = λ v e. subst (WritesThat k earlier) e w;
  state = state;
  stop = λ s e. (stops s e).0;
  settled = λ s e. (stops s e).1;
} where
  retires : (s : ℕ) (c : Commit) → row.retired ≡ Some (s, c) → (place (row ∷ earlier) s ≡ retirements earlier) × IsRecord k (retirements earlier) c
  retires s c e = subst (RetiresNext k earlier row) e r

  stops : (s : Stop) → row.stop ≡ Some s → (next.course.answer (retirements (row ∷ earlier)) ≡ Stopped s) × (outstanding k (row ∷ earlier) ≡ [])
  stops s e = subst (StopsThere k next (row ∷ earlier)) e t

-- where the row takes no interrupt
pub agrees : (k : Setting) (earlier : List Row) (row : Row) → RetiresNext k earlier row row.retired → WritesThat k earlier row.written → StopsThere k k (row ∷ earlier) row.stop
    → applied_state bare k (row ∷ earlier) ≡ run_with bare k.image k.entries (retirements (row ∷ earlier)) → AgreesWithRun bare k k earlier row
agrees k earlier row r w t state = agrees_by k k earlier row r w t state
