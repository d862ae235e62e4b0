-- Places: the count of lower serials that are not flushed. They tell the order of cells.
use Rattle.std.proofs.Common.{◌≡◌, ℕ, zero, suc, ◌<◌, ◌≤◌, List, ◌∷◌, Bool, true, false, refl, sym, ap, ◌∙◌, subst, arith, inl, inr, ◌⊎◌}
use Rattle.std.specs.Prelude.{if◌then◌else◌, ◌||◌}
use Rattle.std.proofs.lemmas.Bool.{cases_lt}
use Rattle.rv_trace.specs.declared.row.Row.{Row}
use Rattle.rv_trace.specs.Trace.{has_serial, is_flushed, place}
use Rattle.rv_rows.proofs.Tests.{or_true, true_or, or_false, false_or}

-- ---- in the same rows

pub place_suc : (rows : List Row) (s : ℕ) → is_flushed rows s ≡ false → place rows (suc s) ≡ suc (place rows s)
unfolding place
place_suc rows s h = rw h

pub place_over_one : (rows : List Row) (s : ℕ) → is_flushed rows s ≡ true → place rows (suc s) ≡ place rows s
unfolding place
place_over_one rows s h = rw h

place_step : (rows : List Row) (s : ℕ) → place rows s ≤ place rows (suc s)
unfolding place
place_step rows s = by_case (is_flushed rows s) where
  by_case : (b : Bool) → place rows s ≤ (if b then place rows s else suc (place rows s))
  by_case true = omega arith
  by_case false = omega arith

pub place_le : (rows : List Row) (a b : ℕ) → a ≤ b → place rows a ≤ place rows b
place_le rows a zero le = let e : a ≡ 0 = omega (arith, le) in subst (λ n. place rows n ≤ place rows 0) (sym e) (omega arith)
place_le rows a (suc b) le = elim (cases_lt b a) [
  | inl less ↦ let e : a ≡ suc b = omega (arith, le, less) in subst (λ n. place rows n ≤ place rows (suc b)) (sym e) (omega arith)
  | inr more ↦ let ih = place_le rows a b more in let s = place_step rows b in omega (arith, ih, s)
]

-- a serial that is not flushed has a lower place than each higher one
pub place_lt : (rows : List Row) (a b : ℕ) → is_flushed rows a ≡ false → a < b → place rows a < place rows b
place_lt rows a b alive lt =
    let le = place_le rows (suc a) b (omega (arith, lt)) in
    let e = place_suc rows a alive in
    omega (arith, le, e)

-- so places tell the order
pub lower_place : (rows : List Row) (a b : ℕ) → place rows a < place rows b → a < b
lower_place rows a b lt = elim (cases_lt a b) [ inl less ↦ less | inr more ↦ let le = place_le rows b a more in absurd (omega (arith, lt, le)) ]

place_order : (rows : List Row) (a b : ℕ) → is_flushed rows b ≡ false → place rows a ≤ place rows b → a ≤ b
place_order rows a b alive le = elim (cases_lt b a) [ inl less ↦ let lt = place_lt rows b a alive less in absurd (omega (arith, lt, le)) | inr more ↦ more ]

pub one_place : (rows : List Row) (a b : ℕ) → is_flushed rows a ≡ false → is_flushed rows b ≡ false → place rows a ≡ place rows b → a ≡ b
one_place rows a b x y e =
    let p = place_order rows a b y (omega (arith, e)) in
    let q = place_order rows b a x (omega (arith, e)) in
    omega (arith, p, q)

-- where all serials between two are flushed, they have one place
pub place_over : (rows : List Row) (a b : ℕ) → a ≤ b → ((j : ℕ) → a ≤ j → j < b → is_flushed rows j ≡ true) → place rows b ≡ place rows a
place_over rows a zero le f = let z : 0 ≡ a = omega (arith, le) in ap (λ n. place rows n) z
place_over rows a (suc b) le f = elim (cases_lt b a) [
  | inl less ↦ let z : suc b ≡ a = omega (arith, le, less) in ap (λ n. place rows n) z
  | inr more ↦ place_over_one rows b (f b more (omega arith)) ∙ place_over rows a b more (λ j low lt. f j low (omega (arith, lt)))
]

-- ---- with one more row

flushed_step : (row : Row) (rows : List Row) (s : ℕ) → is_flushed (row ∷ rows) s ≡ (has_serial row.flushed s || is_flushed rows s)
unfolding is_flushed
flushed_step row rows s = refl

-- a serial that is flushed is flushed in the row, or was before
pub flushed_either : (row : Row) (rows : List Row) (s : ℕ) → is_flushed (row ∷ rows) s ≡ true → (has_serial row.flushed s ≡ true) ⊎ (is_flushed rows s ≡ true)
flushed_either row rows s e = or_true (has_serial row.flushed s) (is_flushed rows s) (sym (flushed_step row rows s) ∙ e)

pub unflushed_both : (row : Row) (rows : List Row) (s : ℕ) → is_flushed (row ∷ rows) s ≡ false → (has_serial row.flushed s ≡ false) × (is_flushed rows s ≡ false)
unflushed_both row rows s e = or_false (has_serial row.flushed s) (is_flushed rows s) (sym (flushed_step row rows s) ∙ e)

pub unflushed_more : (row : Row) (rows : List Row) (s : ℕ) → has_serial row.flushed s ≡ false → is_flushed rows s ≡ false → is_flushed (row ∷ rows) s ≡ false
unflushed_more row rows s x y = flushed_step row rows s ∙ false_or (has_serial row.flushed s) (is_flushed rows s) x y

pub flushed_now : (row : Row) (rows : List Row) (s : ℕ) → has_serial row.flushed s ≡ true → is_flushed (row ∷ rows) s ≡ true
flushed_now row rows s x = flushed_step row rows s ∙ true_or (has_serial row.flushed s) (is_flushed rows s) (inl x)

pub flushed_before : (row : Row) (rows : List Row) (s : ℕ) → is_flushed rows s ≡ true → is_flushed (row ∷ rows) s ≡ true
flushed_before row rows s y = flushed_step row rows s ∙ true_or (has_serial row.flushed s) (is_flushed rows s) (inr y)

flushed_same : (row : Row) (rows : List Row) (s : ℕ) → has_serial row.flushed s ≡ false → is_flushed (row ∷ rows) s ≡ is_flushed rows s
flushed_same row rows s h = flushed_step row rows s ∙ ap (λ b. b || is_flushed rows s) h

-- a row that flushes no lower serial leaves the place as it was
pub place_same : (row : Row) (rows : List Row) (s : ℕ) → ((j : ℕ) → j < s → has_serial row.flushed j ≡ false) → place (row ∷ rows) s ≡ place rows s
unfolding place
place_same row rows zero h = refl
place_same row rows (suc s) h = rw (flushed_same row rows s (h s (omega arith)), place_same row rows s (λ j lt. h j (omega arith)))

-- what a row flushes was not flushed before, and has a place from this one on
pub record FlushesFrom (rows : List Row) (r : ℕ) (row : Row) : Type 0 where
  pub unflushed : (j : ℕ) → has_serial row.flushed j ≡ true → is_flushed rows j ≡ false
  pub from : (j : ℕ) → has_serial row.flushed j ≡ true → r ≤ place rows j

-- what has no higher place keeps it
below_same : (row : Row) (rows : List Row) (r s : ℕ) → FlushesFrom rows r row → ((j : ℕ) → j < s → has_serial row.flushed j ≡ true → r ≤ place rows j → ⊥) → place (row ∷ rows) s ≡ place rows s
below_same row rows r s h none = place_same row rows s kept where
  kept : (j : ℕ) → j < s → has_serial row.flushed j ≡ false
  kept j lt = by_case (has_serial row.flushed j) refl where
    by_case : (b : Bool) → has_serial row.flushed j ≡ b → has_serial row.flushed j ≡ false
    by_case true e = absurd (none j lt e (h.from j e))
    by_case false e = e

pub place_kept : (row : Row) (rows : List Row) (r s : ℕ) → FlushesFrom rows r row → place rows s ≤ r → place (row ∷ rows) s ≡ place rows s
place_kept row rows r s h le = below_same row rows r s h none where
  none : (j : ℕ) → j < s → has_serial row.flushed j ≡ true → r ≤ place rows j → ⊥
  none j lt e from = let less = place_lt rows j s (h.unflushed j e) lt in omega (arith, less, le, from)

-- and no place falls below it
pub place_floor : (row : Row) (rows : List Row) (r s : ℕ) → FlushesFrom rows r row → r ≤ place rows s → r ≤ place (row ∷ rows) s
unfolding place
place_floor row rows r zero h le = le
place_floor row rows r (suc s) h le = elim (cases_lt (place rows s) r) [
  | inl less ↦
      let e = below_same row rows r (suc s) h (λ j lt f from. let q = place_le rows j s (omega (arith, lt)) in omega (arith, q, from, less)) in
      omega (arith, e, le)
  | inr more ↦ let ih = place_floor row rows r s h more in let step = place_step (row ∷ rows) s in omega (arith, ih, step)
]
