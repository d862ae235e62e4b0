-- What has retired, in all rows, by induction; the laws put together.
use Rattle.std.proofs.Common.{◌≡◌, ℕ, List, [], ◌∷◌, true}
use Rattle.rv_trace.specs.declared.row.Row.{Row}
use Rattle.rv_trace.specs.Trace.{is_retired}
use Rattle.rv_lawful.specs.Settings.{Setting}
use Rattle.rv_lawful.specs.LawfulTrace.{LawfulRow, Lawful}
use Rattle.rv_rows.specs.Facts.{IsPlain, AreGoingOn, MovesAbove, RowFacts}
use Rattle.rv_rows.specs.Recorded.{HasWords}
use Rattle.rv_rows.specs.Gone.{GoneFacts, AreOlder, LeavingFacts, GoneLaw}
use Rattle.rv_rows.proofs.Leaving.{IsPast, past_next, older_above, leaving_facts}

none_retired : (j : ℕ) → is_retired [] j ≡ true → ⊥
unfolding is_retired
none_retired j e = cc

past : RowFacts → (k : Setting) (rows : List Row) → IsPlain k → Lawful (λ places. k) rows → IsPast k rows
past facts k [] plain h = record { unflushed = λ j e. absurd (none_retired j e); placed = λ j e. absurd (none_retired j e); worded = λ j e. absurd (none_retired j e) }
past facts k (row ∷ earlier) plain h = past_next facts k earlier row plain (record { lawful = h.2; going = h.1 }) h.0 (past facts k earlier plain h.2)

module _ (facts : RowFacts) where
  gone_of : (k : Setting) (rows : List Row) → IsPlain k → Lawful (λ places. k) rows → GoneFacts k rows
  gone_of k rows plain h = let p = past facts k rows plain h in record { unflushed = p.unflushed; worded = p.worded }

  older_of : (k : Setting) (earlier : List Row) (row : Row) → IsPlain k → AreGoingOn k earlier → MovesAbove k earlier row → AreOlder k earlier row
  older_of k earlier row plain going moves = λ stage j c lt e r. older_above facts k earlier row plain going moves (past facts k earlier plain going.lawful) stage j c lt e r

  leaving_of : (k : Setting) (earlier : List Row) (row : Row) → IsPlain k → HasWords k → AreGoingOn k earlier → LawfulRow k earlier row → LeavingFacts k earlier row
  leaving_of k earlier row plain words going lawful = leaving_facts facts k earlier row plain going lawful (past facts k earlier plain going.lawful) words

  pub gone_law : GoneLaw
  gone_law = record { gone = gone_of; older = older_of; leaving = leaving_of }
