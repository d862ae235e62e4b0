-- Rows that ascend: the last one, one more, and a search among them.
use Rattle.std.proofs.Common.{◌≡◌, refl, sym, ap, subst, ◌∙◌, ℕ, zero, suc, ◌-◌, ◌<◌, ◌≤◌, List, [], ◌∷◌, ◌++◌, length, get_or, Some, Bool, true, false, Result, Ok, Err, nat_eq, nat_cmp, arith}
use Rattle.std.specs.Prelude.{slice_get, OnOk, OnErr, MatchResult}
use Rattle.std.specs.List.Sorted.{IsBinarySearchResult}
use Rattle.std.proofs.lemmas.List.Folds.{list_any_at}
use Rattle.std.proofs.lemmas.List.Sorted.{searched}
use Rattle.std.proofs.Common.{length-append, ◌||◌, inl, inr}
use Rattle.std.proofs.lemmas.Bool.{cases_lt}
use Rattle.std.proofs.lemmas.Bool.Decides.{nat_tests}
use Rattle.rv_waits.specs.Lines.{most_lines, rows_end, Ascending, behind, is_raised}

-- ---- the last row
last_at : (least row last : ℕ) (lines : List ℕ) → slice_get (row ∷ lines) (length lines) ≡ Some last → behind least (row ∷ lines) ≡ suc last
last_at least row last [] e = let same : row ≡ last = cc in ap suc same
last_at least row last (next ∷ lines) e = last_at (suc row) next last lines e

pub behind_last : (last : ℕ) (lines : List ℕ) → slice_get lines (length lines - 1) ≡ Some last → behind 0 lines ≡ suc last
behind_last last [] e = cc
behind_last last (row ∷ lines) e =
    let n : length (row ∷ lines) - 1 ≡ length lines = omega arith in last_at 0 row last lines (ap (λ k. slice_get (row ∷ lines) k) (sym n) ∙ e)

below_end : (least : ℕ) (lines : List ℕ) → least ≤ rows_end → Ascending least lines → behind least lines ≤ rows_end
below_end least [] le h = le
below_end least (row ∷ lines) le h = let lt = h.1 in below_end (suc row) lines (omega (arith, lt)) h.2

pub behind_below : (lines : List ℕ) → Ascending 0 lines → behind 0 lines ≤ rows_end
behind_below lines h = below_end 0 lines (omega arith) h

-- ---- one more row
one_more : (least row : ℕ) (lines : List ℕ) → Ascending least lines → behind least lines ≤ row → row < rows_end → Ascending least (lines ++ row ∷ [])
one_more least row [] h le lt = (le, lt, tt)
one_more least row (first ∷ lines) h le lt = (h.0, h.1, one_more (suc first) row lines h.2 le lt)

pub pushed : {A B : Type 0} (r : Result A B) (old new : List ℕ) (row : ℕ) → OnOk r (new ≡ old ++ row ∷ []) → OnErr r (new ≡ old) → length old < most_lines → behind 0 old ≤ row → row < rows_end
    → (length old ≤ most_lines) × Ascending 0 old → (length new ≤ most_lines) × Ascending 0 new
pushed (Ok a) old new row e f few le lt h =
    let n = ap length e ∙ length-append old (row ∷ []) in (omega (arith, n, few), subst (λ l. Ascending 0 l) (sym e) (one_more 0 row old h.1 le lt))
pushed (Err b) old new row e f few le lt h = subst (λ l. (length l ≤ most_lines) × Ascending 0 l) (sym f) h

-- ---- a search
above_least : (least : ℕ) (lines : List ℕ) (k : ℕ) → Ascending least lines → k < length lines → least ≤ get_or lines k 0
above_least least [] k h lt = absurd (omega (arith, lt))
above_least least (row ∷ lines) zero h lt = h.0
above_least least (row ∷ lines) (suc k) h lt =
    let ih = above_least (suc row) lines k h.2 (omega (arith, lt)) in let le = h.0 in omega (arith, ih, le)

rising : (least : ℕ) (lines : List ℕ) → Ascending least lines → (i j : ℕ) → i ≤ j → j < length lines → get_or lines i 0 ≤ get_or lines j 0
rising least [] h i j le lt = absurd (omega (arith, lt))
rising least (row ∷ lines) h zero zero le lt = omega arith
rising least (row ∷ lines) h zero (suc j) le lt = let above = above_least (suc row) lines j h.2 (omega (arith, lt)) in omega (arith, above)
rising least (row ∷ lines) h (suc i) zero le lt = absurd (omega (arith, le))
rising least (row ∷ lines) h (suc i) (suc j) le lt = rising (suc row) lines h.2 i j (omega (arith, le)) (omega (arith, lt))

-- a search that finds a row, or a place between the lower ones and the higher ones
same_number : (n m : ℕ) → n ≡ m → nat_eq n m ≡ true
same_number n m e = grind (arith, nat_tests)

other_number : (n m : ℕ) → (n ≡ m → ⊥) → nat_eq n m ≡ false
other_number n m e = grind (arith, nat_tests)

not_listed : (row : ℕ) (lines : List ℕ) → ((k : ℕ) → k < length lines → get_or lines k 0 ≡ row → ⊥) → is_raised lines row ≡ false
not_listed row [] h = refl
not_listed row (n ∷ lines) h =
    ap (λ b. b || is_raised lines row) (other_number n row (h 0 (omega arith))) ∙ not_listed row lines (λ k lt. h (suc k) (omega (arith, lt)))

abbrev pub is_found : {A B : Type 0} → Result A B → Bool
is_found (Ok a) = true
is_found (Err b) = false

found : (row : ℕ) (lines : List ℕ) (r : Result ℕ ℕ) →
    MatchResult r (λ i. (i < length lines) × (get_or lines i 0 ≡ row))
    (λ i. (i ≤ length lines) × ((k : ℕ) → k < i → get_or lines k 0 < row) × ((k : ℕ) → i ≤ k → k < length lines → row < get_or lines k 0)) → is_found r ≡ is_raised lines row
found row lines (Ok i) h = sym (list_any_at (λ n. nat_eq n row) lines i 0 h.0 (same_number (get_or lines i 0) row h.1))
found row lines (Err i) h = sym (not_listed row lines (λ k lt e. elim (cases_lt k i) [
  | inl less ↦ let q = h.1 k less in omega (arith, q, e)
  | inr more ↦ let q = h.2 k more lt in omega (arith, q, e)
]))

pub searched_rows : (row : ℕ) (lines : List ℕ) (r : Result ℕ ℕ) → Ascending 0 lines → IsBinarySearchResult (λ y. nat_cmp y row) lines r → is_found r ≡ is_raised lines row
searched_rows row lines r h b = found row lines r (searched lines row r b (rising 0 lines h))
