-- The place of a cell behind a row, from what is kept of serials.
use Rattle.std.proofs.Common.{◌≡◌, ◌∙◌, refl, sym, ap, ℕ, suc, ◌+◌, ◌-◌, ◌<◌, List, ◌∷◌, drop, Option, Some, None, arith}
use Rattle.std.specs.Prelude.{slice_get}
use Rattle.rv_trace.specs.declared.row.Cell.{Cell}
use Rattle.rv_trace.specs.declared.row.Row.{Row}
use Rattle.rv_trace.specs.Trace.{is_flushed, place, retirements}
use Rattle.rv_lawful.specs.Settings.{Setting, stages_of, Stands}
use Rattle.rv_lawful.specs.LawfulTrace.{IsInForm}
use Rattle.rv_rows.specs.Facts.{IsPlain, AreGoingOn, MovesAbove, cells_in, NextFacts, RowFacts}
use Rattle.rv_watch.specs.declared.seen.Seen.{Seen}
use Rattle.rv_watch.specs.Seen.{AreSeen}
use Rattle.rv_watch.specs.Places.{flushed_of, was_flushed, lowering, first_place}
use Rattle.rv_watch.proofs.Entries.{get_past, drop_at}
use Rattle.rv_watch.proofs.Lowered.{lowered, lowering_same}

-- what is kept says which serials were flushed
flushed_is : (k : Setting) (earlier : List Row) (seen : List Seen) → NextFacts k earlier → AreSeen k earlier seen → (j : ℕ) → was_flushed seen j ≡ is_flushed earlier j
flushed_is k earlier seen next are j = by_entry (slice_get seen j) refl where
  by_entry : (o : Option Seen) → slice_get seen j ≡ o → flushed_of o ≡ is_flushed earlier j
  by_entry None e = let past = get_past seen j e in let count = are.count in sym (next.unflushed j (omega (arith, past, count)))
  by_entry (Some entry) e = are.flushed j entry e

first_there : (retired : ℕ) (seen : List Seen) (marks : List (Option ℕ)) (cells : List (Option Cell)) (stage : ℕ) (c : Cell) → slice_get cells stage ≡ Some (Some c)
    → first_place retired seen marks (drop stage cells) ≡ (retired + cells_in (drop (suc stage) cells)) - lowering (was_flushed seen) marks c.serial
first_there retired seen marks cells stage c e = ap (λ l. first_place retired seen marks l) (drop_at cells stage (Some c) e)

pub placed : RowFacts → (k : Setting) (earlier : List Row) (row : Row) (retired : ℕ) (seen : List Seen) → IsPlain k → AreGoingOn k earlier → MovesAbove k earlier row → IsInForm k row → retired ≡ retirements earlier
    → AreSeen k earlier seen → (stage : ℕ) (c : Cell) → 0 < stage → Stands k row stage c → first_place retired seen row.flushed (drop stage (stages_of k row)) ≡ place (row ∷ earlier) c.serial
placed facts k earlier row retired seen plain going moves form count are stage c some e =
    let p = ((facts.above k earlier row plain going moves).in_place stage c some e).placed in
    let low = lowered row earlier c.serial form.ascending in
    let same = lowering_same (was_flushed seen) (is_flushed earlier) (flushed_is k earlier seen (facts.next k earlier plain going) are) row.flushed c.serial in
    first_there retired seen row.flushed (stages_of k row) stage c e ∙ omega (arith, p, low, same, count)
