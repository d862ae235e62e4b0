-- Places: the count of lower serials that are not flushed. They tell the order of cells.
use Rattle.std.proofs.Common.{◌≡◌, ℕ, zero, suc, ◌<◌, ◌≤◌, List, ◌∷◌, Bool, true, false, refl, sym, ap, ◌∙◌, subst, arith, inl, inr}
use Rattle.std.specs.Prelude.{if◌then◌else◌, ◌||◌}
use Rattle.std.proofs.lemmas.Bool.{cases_lt}
use Rattle.rv_trace.specs.declared.row.Row.{Row}
use Rattle.rv_trace.specs.Trace.{has_serial, is_flushed, place}
use Rattle.rv_rows.proofs.GoneTests.{false_or}

place_step : (rows : List Row) (s : ℕ) → place rows s ≤ place rows (suc s)
unfolding place
place_step rows s = by_case (is_flushed rows s) where
  by_case : (b : Bool) → place rows s ≤ (if b then place rows s else suc (place rows s))
  by_case true = omega arith
  by_case false = omega arith

place_suc : (rows : List Row) (s : ℕ) → is_flushed rows s ≡ false → place rows (suc s) ≡ suc (place rows s)
unfolding place
place_suc rows s h = rw h

pub place_le : (rows : List Row) (a b : ℕ) → a ≤ b → place rows a ≤ place rows b
place_le rows a zero le = let e : a ≡ 0 = omega (arith, le) in subst (λ n. place rows n ≤ place rows 0) (sym e) (omega arith)
place_le rows a (suc b) le = elim (cases_lt b a) [
  | inl less ↦ let e : a ≡ suc b = omega (arith, le, less) in subst (λ n. place rows n ≤ place rows (suc b)) (sym e) (omega arith)
  | inr more ↦ let ih = place_le rows a b more in let s = place_step rows b in omega (arith, ih, s)
]

-- a serial that is not flushed has a lower place than each higher one
pub place_lt : (rows : List Row) (a b : ℕ) → is_flushed rows a ≡ false → a < b → place rows a < place rows b
place_lt rows a b alive lt =
    let le = place_le rows (suc a) b (omega (arith, lt)) in
    let e = place_suc rows a alive in
    omega (arith, le, e)

-- so places tell the order
pub lower_place : (rows : List Row) (a b : ℕ) → place rows a < place rows b → a < b
lower_place rows a b lt = elim (cases_lt a b) [ inl less ↦ less | inr more ↦ let le = place_le rows b a more in absurd (omega (arith, lt, le)) ]

-- ---- with one more row

flushed_step : (row : Row) (rows : List Row) (s : ℕ) → is_flushed (row ∷ rows) s ≡ (has_serial row.flushed s || is_flushed rows s)
unfolding is_flushed
flushed_step row rows s = refl

pub unflushed_more : (row : Row) (rows : List Row) (s : ℕ) → has_serial row.flushed s ≡ false → is_flushed rows s ≡ false → is_flushed (row ∷ rows) s ≡ false
unflushed_more row rows s x y = flushed_step row rows s ∙ false_or (has_serial row.flushed s) (is_flushed rows s) x y

flushed_same : (row : Row) (rows : List Row) (s : ℕ) → has_serial row.flushed s ≡ false → is_flushed (row ∷ rows) s ≡ is_flushed rows s
flushed_same row rows s h = flushed_step row rows s ∙ ap (λ b. b || is_flushed rows s) h

-- a row that flushes no lower serial leaves the place as it was
pub place_same : (row : Row) (rows : List Row) (s : ℕ) → ((j : ℕ) → j < s → has_serial row.flushed j ≡ false) → place (row ∷ rows) s ≡ place rows s
unfolding place
place_same row rows zero h = refl
place_same row rows (suc s) h = rw (flushed_same row rows s (h s (omega arith)), place_same row rows s (λ j lt. h j (omega (arith, lt))))
