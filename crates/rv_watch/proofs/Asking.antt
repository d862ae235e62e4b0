-- Whether a serial of earlier rows, or of a cell above stage 0, spawns.
use Rattle.std.proofs.Common.{◌≡◌, ◌∙◌, refl, sym, ap, subst, ℕ, ◌<◌, List, ◌∷◌, Option, Some, None, Bool, true, arith, inl, inr}
use Rattle.std.specs.Prelude.{slice_get, is_some}
use Rattle.rv_trace.specs.declared.row.Row.{Row}
use Rattle.rv_lawful.specs.Settings.{Setting}
use Rattle.rv_lawful.specs.LawfulTrace.{IsWordOf, next_serial}
use Rattle.rv_rows.specs.Facts.{IsPlain, AreGoingOn, MovesAbove, AboveFacts, NextFacts, RowFacts}
use Rattle.rv_rows.specs.Kinds.{upper}
use Rattle.rv_rows.proofs.Upper.{stands_down}
use Rattle.rv_watch.specs.declared.seen.Seen.{Seen}
use Rattle.rv_watch.specs.Seen.{AreSeen}
use Rattle.rv_watch.specs.Seeing.{spawns_of}
use Rattle.rv_watch.proofs.Entries.{get_there}

-- a serial that was seen has an entry
pub entry_of : (k : Setting) (rows : List Row) (seen : List Seen) → AreSeen k rows seen → (s : ℕ) → s < next_serial k rows → (entry : Seen) × (slice_get seen s ≡ Some entry)
entry_of k rows seen are s lt = let count = are.count in get_there seen s (omega (arith, lt, count))

module _ (facts : RowFacts) (k : Setting) (earlier : List Row) (row : Row) (plain : IsPlain k) (going : AreGoingOn k earlier) (moves : MovesAbove k earlier row) (seen : List Seen) (are : AreSeen k earlier seen) where
  above : AboveFacts k earlier row
  above = facts.above k earlier row plain going moves

  next : NextFacts k earlier
  next = facts.next k earlier plain going

  -- a word of a cell above stage 0 was seen before
  word_before : (s word : ℕ) → IsWordOf k (upper row ∷ earlier) s word → IsWordOf k earlier s word
  word_before s word (inr y) = y
  word_before s word (inl y) =
      let down = stands_down k row y.0 y.1 y.2 in
      let entry = entry_of k earlier seen are y.1.serial (above.fetched y.0 y.1 down.0 down.1) in
      let w = are.worded y.1.serial entry.0 entry.1 in
      let same : w.0 ≡ word = above.one_word y.0 y.1 w.0 down.0 down.1 w.1 ∙ y.4 in
      subst (λ n. IsWordOf k earlier n word) y.3 (subst (λ v. IsWordOf k earlier y.1.serial v) same w.1)

  so : (s : ℕ) → spawns_of (slice_get seen s) ≡ true → (word : ℕ) × IsWordOf k (upper row ∷ earlier) s word × (is_some (k.asks word).spawned ≡ true)
  so s e = by_entry (slice_get seen s) refl e where
    by_entry : (o : Option Seen) → slice_get seen s ≡ o → spawns_of o ≡ true → (word : ℕ) × IsWordOf k (upper row ∷ earlier) s word × (is_some (k.asks word).spawned ≡ true)
    by_entry None q h = cc
    by_entry (Some entry) q h = let w = are.worded s entry q in (w.0, inr w.1, sym (are.spawns s w.0 entry q w.1) ∙ h)

  back : (s word : ℕ) → IsWordOf k (upper row ∷ earlier) s word → is_some (k.asks word).spawned ≡ true → spawns_of (slice_get seen s) ≡ true
  back s word y h =
      let w = word_before s word y in
      let entry = entry_of k earlier seen are s (next.seen s word w) in
      ap spawns_of entry.1 ∙ are.spawns s word entry.0 entry.1 w ∙ h

  pub asked : (s : ℕ) (result : Bool) → result ≡ spawns_of (slice_get seen s)
      → (result ≡ true → (word : ℕ) × IsWordOf k (upper row ∷ earlier) s word × (is_some (k.asks word).spawned ≡ true))
      × ((word : ℕ) → IsWordOf k (upper row ∷ earlier) s word → is_some (k.asks word).spawned ≡ true → result ≡ true)
  asked s result is = (λ e. so s (sym is ∙ e), λ word y h. is ∙ back s word y h)
