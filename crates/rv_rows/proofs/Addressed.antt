-- In rows that go on the address behind each cell that has settled its successor is the run's, by induction.
use Rattle.std.proofs.Common.{◌≡◌, ℕ, zero, suc, ◌+◌, ◌<◌, ◌≤◌, List, [], ◌∷◌, drop, length, Option, Some, None, Bool, true, false, refl, sym, ap, ◌∙◌, subst, arith, inl, inr, ◌⊎◌}
use Rattle.std.specs.Prelude.{slice_get}
use Rattle.rv_trace.specs.declared.row.Cell.{Cell}
use Rattle.rv_trace.specs.declared.row.Row.{Row}
use Rattle.rv_trace.specs.Trace.{place, retirements, newest}
use Rattle.rv_trace.specs.RowParts.{Name, name_of, names_of, leaves, front, comes, unless}
use Rattle.rv_lawful.specs.Settings.{Setting, stages_of, Stands}
use Rattle.rv_lawful.specs.LawfulTrace.{Moves, LawfulRow, Lawful, fetch_address, guessed, plain_fetch, new_cell}
use Rattle.rv_rows.specs.Facts.{IsPlain, MovesAbove}
use Rattle.rv_rows.proofs.Coming.{some_same, first_held, is_fetched, moves_above, none_stands}
use Rattle.rv_rows.proofs.Ordered.{ordered, ordered_next}
use Rattle.rv_rows.proofs.Placed.{one, is_in, lives, out}
use Rattle.rv_rows.proofs.Flushed.{flushes_from, retired_count}
use Rattle.rv_rows.proofs.KnownRows.{above_in, first_of, some_stages}
use Rattle.rv_rows.proofs.Knowing.{none_live, no_retirements, first_stage, held_or_new, history, row_in, row_long, row_retiring}
use Rattle.rv_rows.proofs.Addresses.{HasSettled, AreRight, AreRightAfter, behind, right_above, right_at}
use Rattle.rv_rows.proofs.Succeeding.{all_right}
use Rattle.rv_rows.proofs.Standing.{rest_get, rest_names, rest_in}
use Rattle.rv_rows.proofs.Tests.{no_some}

-- ---- the first row

none_right : (k : Setting) (r : ℕ) (row : Row) (stage at : ℕ) (l : List (Option Cell)) → ((i : ℕ) (c : Cell) → slice_get l i ≡ Some (Some c) → ⊥) → at ≡ k.course.pc r → AreRightAfter k r row stage at l
none_right k r row stage at [] f e = e
none_right k r row stage at (None ∷ l) f e = none_right k r row (suc stage) at l (λ i c q. f (suc i) c q) e
none_right k r row stage at (Some c ∷ l) f e = absurd (f 0 c refl)

no_address : (k : Setting) → fetch_address k [] ≡ 0
unfolding fetch_address
no_address k = refl

fetch_step : (k : Setting) (row : Row) (earlier : List Row) → fetch_address k (row ∷ earlier) ≡ unless row.redirect (plain_fetch k earlier (fetch_address k earlier) row)
unfolding fetch_address
fetch_step k row earlier = refl

ex_inside : (k : Setting) → IsPlain k → k.shape.ex < k.shape.stages
ex_inside k plain = let a = plain.ex_mem in let b = plain.mem_last in omega (arith, a, b)

-- ---- with what stands in stage 0

first_was : (k : Setting) (earlier : List Row) (row : Row) → IsPlain k → Lawful (λ places. k) earlier → Moves k earlier row
    → ((first_held k earlier ≡ None) × (first_of (names_of (stages_of k row)) ≡ new_cell k earlier)) ⊎ ((x : Name) × (first_held k earlier ≡ Some x) × (first_of (names_of (stages_of k row)) ≡ Some x))
first_was k earlier row plain lawful moves =
    let some = some_stages k plain in
    let long = (history k earlier plain lawful).known.long in
    held_or_new (first_held k earlier) (new_cell k earlier) (first_of (names_of (stages_of k row)))
    (first_stage (newest earlier) (comes (first_held k earlier) (new_cell k earlier)) (stages_of k (newest earlier)) (names_of (stages_of k row)) (omega (arith, some, long)) moves)

not_settled : (k : Setting) (late : Bool) → IsPlain k → HasSettled k late 0 → ⊥
not_settled k false plain h = omega (arith, h)
not_settled k true plain h = let some = some_stages k plain in omega (arith, h, some)

-- the address behind stage 0 is that of its cell, or the next fetch address
with_stage_0 : (k : Setting) (earlier : List Row) (row : Row) (r : ℕ) (cells : List (Option Cell)) → IsPlain k → 0 < length cells
    → ((first_held k earlier ≡ None) × (first_of (names_of cells) ≡ new_cell k earlier)) ⊎ ((x : Name) × (first_held k earlier ≡ Some x) × (first_of (names_of cells) ≡ Some x))
    → AreRight k r 1 (behind (first_held k earlier) (fetch_address k earlier)) (drop 1 (names_of cells)) → AreRight k r 0 (guessed k earlier (fetch_address k earlier) (leaves row (front cells))) (names_of cells)
with_stage_0 k earlier row r [] plain some first h = absurd (omega (arith, some))
with_stage_0 k earlier row r (None ∷ l) plain some first h = subst (λ a. AreRight k r 1 a (names_of l)) (ap (λ o. behind o (fetch_address k earlier)) (none first)) h where
  none : ((first_held k earlier ≡ None) × (None ≡ new_cell k earlier)) ⊎ ((x : Name) × (first_held k earlier ≡ Some x) × (None ≡ Some x)) → first_held k earlier ≡ None
  none (inl y) = y.0
  none (inr y) = absurd (no_some y.0 y.2)
with_stage_0 k earlier row r (Some c ∷ l) plain some first h = (λ x. absurd (not_settled k (k.asks c.word).late plain x), subst (λ a. AreRight k r 1 a (names_of l)) (here_is first) h) where
  here_is : ((first_held k earlier ≡ None) × (name_of (Some c) ≡ new_cell k earlier)) ⊎ ((x : Name) × (first_held k earlier ≡ Some x) × (name_of (Some c) ≡ Some x)) → behind (first_held k earlier) (fetch_address k earlier) ≡ c.at
  here_is (inl y) = ap (λ o. behind o (fetch_address k earlier)) y.0 ∙ sym (is_fetched k earlier (c.serial, c.at, c.word) (sym y.1)).address
  here_is (inr y) = ap (λ o. behind o (fetch_address k earlier)) y.1 ∙ ap (λ (x : Name). x.1) (sym (some_same (c.serial, c.at, c.word) y.0 y.2))

-- ---- rows

abbrev RightAbove : Setting → List Row → Row → Type 0
RightAbove k rows row = AreRight k (retirements rows) 1 (behind (first_held k rows) (fetch_address k rows)) (drop 1 (names_of (stages_of k row)))

right_first_row : (k : Setting) (row : Row) → IsPlain k → MovesAbove k [] row → RightAbove k [] row
right_first_row k row plain moves =
    let long = (history k [] plain tt).known.long in
    let some = some_stages k plain in
    let x = none_live k [] 0 (newest []) (stages_of k (newest [])) (λ i c e. none_stands k.shape.stages i 5 c e) in
    let o = ap one x.2 in
    let q = no_retirements in
    let same : 0 + one (out (newest []) None (stages_of k (newest []))) ≡ retirements [] = omega (arith, o, q) in
    subst (λ a. AreRight k (retirements []) 1 (behind (first_held k []) a) (drop 1 (names_of (stages_of k row)))) (sym (no_address k))
    (subst (λ r. AreRight k r 1 (behind (first_held k []) 0) (drop 1 (names_of (stages_of k row)))) same
    (right_above k 0 (newest []) 0 (stages_of k (newest [])) (names_of (stages_of k row)) (ex_inside k plain) (omega (arith, some, long)) long moves
    (none_right k 0 (newest []) 0 0 (stages_of k (newest [])) (λ i c e. none_stands k.shape.stages i 5 c e) (sym plain.begins))))

right_next_row : (k : Setting) (earlier : List Row) (before row : Row) → IsPlain k → LawfulRow k earlier before → Lawful (λ places. k) earlier → before.stop ≡ None → RightAbove k earlier before → MovesAbove k (before ∷ earlier) row
    → RightAbove k (before ∷ earlier) row
right_next_row k earlier before row plain now lawful going h moves =
    let some = some_stages k plain in
    let ups = moves_above (newest earlier) (comes (first_held k earlier) (new_cell k earlier)) (stages_of k (newest earlier)) (names_of (stages_of k before)) now.moves in
    let long = row_long k earlier before (above_in k earlier before plain (history k earlier plain lawful).known ups) in
    let are = row_in k earlier before plain lawful now.moves in
    let alive = lives k earlier (retirements earlier) before (stages_of k before) (flushes_from k earlier before plain now (retirements earlier) are) are in
    let first = with_stage_0 k earlier before (retirements earlier) (stages_of k before) plain (omega (arith, some, long)) (first_was k earlier before plain lawful now.moves) h in
    let after = all_right k earlier before plain now going (ordered_next k before earlier now.moves (ordered k earlier lawful)) (retirements earlier) long alive first in
    subst (λ a. AreRight k (retirements (before ∷ earlier)) 1 (behind (first_held k (before ∷ earlier)) a) (drop 1 (names_of (stages_of k row)))) (sym (fetch_step k before earlier))
    (subst (λ r. AreRight k r 1 (behind (first_held k (before ∷ earlier)) (unless before.redirect (plain_fetch k earlier (fetch_address k earlier) before))) (drop 1 (names_of (stages_of k row))))
    (sym (retired_count k before earlier (row_retiring k earlier before plain now long)))
    (right_above k (retirements earlier) before (unless before.redirect (plain_fetch k earlier (fetch_address k earlier) before)) (stages_of k before) (names_of (stages_of k row)) (ex_inside k plain) (omega (arith, some, long)) long moves after))

pub right_rows : (k : Setting) (rows : List Row) (row : Row) → IsPlain k → Lawful (λ places. k) rows → (newest rows).stop ≡ None → MovesAbove k rows row → RightAbove k rows row
right_rows k [] row plain lawful going moves = right_first_row k row plain moves
right_rows k (before ∷ earlier) row plain lawful going moves =
    right_next_row k earlier before row plain lawful.0 lawful.2 going
    (right_rows k earlier before plain lawful.2 lawful.1 (moves_above (newest earlier) (comes (first_held k earlier) (new_cell k earlier)) (stages_of k (newest earlier)) (names_of (stages_of k before)) lawful.0.moves)) moves

pub above_address : (k : Setting) (earlier : List Row) (row : Row) → IsPlain k → Lawful (λ places. k) earlier → (newest earlier).stop ≡ None → MovesAbove k earlier row → (stage : ℕ) (c : Cell) → k.shape.ex ≤ stage → Stands k row stage c
    → ((later : ℕ) (d : Cell) → stage < later → Stands k row later d → (k.asks d.word).late ≡ false) → c.at ≡ k.course.pc (place earlier c.serial)
above_address k earlier row plain lawful going moves zero c le e early = let a = plain.rd_pos in let b = plain.rd_ex in absurd (omega (arith, le, a, b))
above_address k earlier row plain lawful going moves (suc n) c le e early =
    let here = sym (rest_get (stages_of k row) n) ∙ e in
    let h = subst (λ l. AreRight k (retirements earlier) 1 (behind (first_held k earlier) (fetch_address k earlier)) l) (rest_names (stages_of k row)) (right_rows k earlier row plain lawful going moves) in
    let p = (is_in k earlier (retirements earlier) (drop 1 (stages_of k row)) n c (rest_in k earlier row plain lawful moves) here).placed in
    right_at k (retirements earlier) 1 (behind (first_held k earlier) (fetch_address k earlier)) n (drop 1 (stages_of k row)) c here (omega (arith, le))
    (λ i d lt q. early (suc i) d (omega (arith, lt)) (rest_get (stages_of k row) i ∙ q)) h
    ∙ ap k.course.pc (sym p)
