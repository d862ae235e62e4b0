-- The law of kinds.
use Rattle.rv_rows.specs.Facts.{RowFacts}
use Rattle.rv_lawful.specs.LawfulTrace.{new_cell}
use Rattle.rv_lawful.specs.Settings.{stages_of}
use Rattle.rv_trace.specs.Trace.{newest}
use Rattle.rv_rows.specs.Laws.{KindsLaw}
use Rattle.rv_rows.proofs.Moving.{above_of}
use Rattle.rv_rows.proofs.Together as T
use Rattle.rv_rows.proofs.Making as M

pub kinds_law : RowFacts → KindsLaw
kinds_law facts = record {
  lawful = λ k earlier row plain empty going form none kinds. T.lawful_row k earlier row plain empty going facts form none kinds;
  kinds = λ k earlier row plain empty going lawful. T.kinds k earlier row plain empty going facts lawful;
  made = λ k earlier row plain going lawful recorded spawns.
      M.made k earlier row lawful (T.untaken_of k earlier row plain lawful)
      (facts.above k earlier row plain going (above_of (newest earlier) (new_cell k earlier) (stages_of k (newest earlier)) (stages_of k row) lawful.moves))
      (facts.first k earlier row plain going lawful.moves) recorded spawns;
}
