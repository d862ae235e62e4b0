-- Where cells above stage 0 stand in the run, and how they move.
use Rattle.std.proofs.Common.{◌≡◌, ◌∙◌, refl, sym, ap, subst, ℕ, zero, suc, ◌+◌, ◌<◌, ◌≤◌, List, [], ◌∷◌, take, drop, length, Option, Some, None, Bool, true, false, arith, inl, inr}
use Rattle.std.specs.Prelude.{slice_get, if◌then◌else◌, ◌||◌}
use Rattle.rv_trace.specs.declared.row.Cell.{Cell}
use Rattle.rv_trace.specs.declared.row.Row.{Row}
use Rattle.rv_trace.specs.Trace.{has_serial, is_flushed, place, retirements, newest}
use Rattle.rv_trace.specs.RowParts.{names_of}
use Rattle.rv_lawful.specs.Settings.{Setting, stages_of, Stands}
use Rattle.rv_lawful.specs.LawfulTrace.{LawfulRow, new_cell}
use Rattle.rv_rows.specs.Facts.{IsPlain, AreGoingOn, cells_in, MoveAbove, MovesAbove, AboveFacts}
use Rattle.rv_rows.specs.Kinds.{is_of_cell, GoesOnAs, MovesRightly}
use Rattle.rv_rows.proofs.Moving.{above_of}

-- ---- moves

-- behind rows that go on a row moves as it stands
pub moves_above : (k : Setting) (earlier : List Row) (row : Row) → AreGoingOn k earlier → MovesRightly k earlier row → MovesAbove k earlier row
moves_above k earlier row going m = subst (λ (like : Row). MoveAbove like (stages_of k like) (names_of (stages_of k row))) (goes_on m.above.0 m.above.1) m.above.2 where
  goes_on : (like : Row) → GoesOnAs k (newest earlier) like → like ≡ newest earlier
  goes_on like (inl x) = x.1
  goes_on like (inr y) = let e = y.0 in let bad : is_of_cell None ≡ true = sym (ap (λ o. is_of_cell o) going.going) ∙ e in cc

-- so does a lawful row
pub lawful_above : (k : Setting) (earlier : List Row) (row : Row) → LawfulRow k earlier row → MovesAbove k earlier row
lawful_above k earlier row lawful = above_of (newest earlier) (new_cell k earlier) (stages_of k (newest earlier)) (stages_of k row) lawful.moves

-- ---- places

flushed_step : (row : Row) (rows : List Row) (s : ℕ) → is_flushed (row ∷ rows) s ≡ (has_serial row.flushed s || is_flushed rows s)
unfolding is_flushed
flushed_step row rows s = refl

one_step : (h f : Bool) (m n : ℕ) → m ≤ n → (if h || f then m else suc m) ≤ (if f then n else suc n)
one_step true true m n le = le
one_step true false m n le = omega (arith, le)
one_step false true m n le = le
one_step false false m n le = omega (arith, le)

-- one row more raises no place
pub place_less : (row : Row) (rows : List Row) (s : ℕ) → place (row ∷ rows) s ≤ place rows s
unfolding place
place_less row rows zero = omega arith
place_less row rows (suc s) =
    subst (λ b. (if b then place (row ∷ rows) s else suc (place (row ∷ rows) s)) ≤ (if is_flushed rows s then place rows s else suc (place rows s))) (sym (flushed_step row rows s))
    (one_step (has_serial row.flushed s) (is_flushed rows s) (place (row ∷ rows) s) (place rows s) (place_less row rows s))

pub few_cells : (l : List (Option Cell)) → cells_in l ≤ length l
few_cells [] = omega arith
few_cells (None ∷ l) = let h = few_cells l in omega (arith, h)
few_cells (Some c ∷ l) = let h = few_cells l in omega (arith, h)

take_few : (n : ℕ) (l : List (Option Cell)) → length (take n l) ≤ n
take_few zero l = omega arith
take_few (suc n) [] = omega arith
take_few (suc n) (a ∷ l) = let h = take_few n l in omega (arith, h)

drop_few : (m n : ℕ) (l : List (Option Cell)) → length l ≤ n + m → length (drop m l) ≤ n
drop_few zero n l h = omega (arith, h)
drop_few (suc m) n [] h = omega arith
drop_few (suc m) n (a ∷ l) h = drop_few m n l (omega (arith, h))

-- a cell above stage 0 stands few places beyond the retirements
pub low_place : (k : Setting) (earlier : List Row) (row : Row) → IsPlain k → AboveFacts k earlier row → (stage : ℕ) (c : Cell) → 0 < stage → Stands k row stage c → place (row ∷ earlier) c.serial ≤ retirements earlier + 3
low_place k earlier row plain above stage c some e =
    let p = (above.in_place stage c some e).placed in
    let less = place_less row earlier c.serial in
    let all = take_few k.shape.stages row.cells in
    let most = plain.most in
    let rest = drop_few (suc stage) 3 (stages_of k row) (omega (arith, all, most, some)) in
    let few = few_cells (drop (suc stage) (stages_of k row)) in
    omega (arith, p, less, rest, few)
