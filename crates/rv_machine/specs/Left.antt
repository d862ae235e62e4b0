-- What is known of what goes out in a row that a machine makes, so that it can be shown to agree with the run (this project's choice).
use Rattle.std.specs.Prelude.{◌≡◌, ◌+◌, List, ◌∷◌, Some, None, false}
use Rattle.rv_seq.specs.declared.commit.Commit.{Commit}
use Rattle.rv_seq.specs.declared.answer.StepAnswer.TheVariants.{Done}
use Rattle.rv_trace.specs.declared.row.Row.{Row}
use Rattle.rv_trace.specs.Trace.{place, retirements}
use Rattle.rv_holds.specs.declared.token.Token.{Token}
use Rattle.rv_holds.specs.Tokens.{commit_of}
use Rattle.rv_engine.specs.Settings.{Setting, Machine, tree_of}
use Rattle.rv_engine.specs.Rows.{advanced, seen_by, fetch_by, left_by, entered_by, written_by, machine_after}
use Rattle.rv_lawful.specs.Outstanding.{architecture, outstanding}
use Rattle.rv_machine.specs.Owing.{judged, repaid, Owing}
use Rattle.rv_machine.specs.Placed.{run, tail, expected}
use Rattle.rv_machine.specs.Told.{NoStops, out_of}

pub record Left (k : Setting) (earlier : List Row) (m : Machine) (row : Row) : Type 0 where
  pub serial : (t : Token) → left_by k m ≡ Some t → place (row ∷ earlier) t.cell.serial ≡ retirements earlier
  pub recorded : (t : Token) (c : Commit) → left_by k m ≡ Some t → commit_of t ≡ Some c → (judged k).course.answer (retirements earlier) ≡ Done c
  pub now : retirements (row ∷ earlier) ≡ retirements earlier + out_of (seen_by k m)
  -- with what is owed the state is the run's
  pub state : architecture (tree_of k) (judged k) (row ∷ earlier) ≡ (machine_after k m).arch
  pub applied : repaid (machine_after k m).owed (written_by k m) ≡ run k (retirements (row ∷ earlier))
  pub owing : Owing k (row ∷ earlier) (outstanding (judged k) (row ∷ earlier)) (machine_after k m).entries (machine_after k m).owed
  -- where no token stops the run and the handler is not entered, the next fetch is from behind the tokens that are left
  pub fetch : entered_by k m ≡ false → NoStops k 0 (seen_by k m) → fetch_by k m ≡ expected k (retirements (row ∷ earlier)) 1 (tail (advanced None (seen_by k m)))
