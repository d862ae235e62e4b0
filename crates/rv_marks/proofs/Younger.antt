-- The cells below a stage, and what tests of them tell.
use Rattle.std.proofs.Common.{◌≡◌, ◌∙◌, refl, sym, subst, ℕ, zero, suc, ◌<◌, List, [], ◌∷◌, take, Option, Some, None, Bool, true, false, arith, inl, inr}
use Rattle.std.specs.Prelude.{Decides, ◌&&◌, not, ◌==◌, slice_get, ◌⊎◌}
use Rattle.std.proofs.lemmas.Bool.{cases_lt}
use Rattle.std.proofs.lemmas.Bool.Decides.{Decides-and, Decides-not, Decides-like, Decides-eqb}
use Rattle.rv_trace.specs.declared.row.Cell.{Cell}
use Rattle.rv_trace.specs.declared.row.Row.{Row}
use Rattle.rv_trace.specs.Trace.{has_serial}
use Rattle.rv_lawful.specs.Settings.{Setting, stages_of}
use Rattle.rv_lawful.specs.LawfulTrace.{IsNextYounger, HasNoYounger}
use Rattle.rv_rows.proofs.Stopping.{same_cell}
use Rattle.rv_marks.specs.Marks.{lacks}
use Rattle.rv_marks.specs.Turns.{nearest_from, all_flushed}
use Rattle.rv_marks.proofs.Cells.{none_some, some_inside, true_false, lacks_tells, is_itself}

pub get_take : (n i : ℕ) (l : List (Option Cell)) → i < n → slice_get (take n l) i ≡ slice_get l i
get_take zero i l lt = absurd (omega (arith, lt))
get_take (suc n) i [] lt = refl
get_take (suc n) zero (x ∷ l) lt = refl
get_take (suc n) (suc i) (x ∷ l) lt = get_take n i l (omega (arith, lt))

pub within : (n i : ℕ) (l : List (Option Cell)) (c : Cell) → slice_get (take n l) i ≡ Some (Some c) → (i < n) × (slice_get l i ≡ Some (Some c))
within zero i [] c e = absurd (none_some (Some c) e)
within zero i (x ∷ l) c e = absurd (none_some (Some c) e)
within (suc n) i [] c e = absurd (none_some (Some c) e)
within (suc n) zero (x ∷ l) c e = (omega arith, e)
within (suc n) (suc i) (x ∷ l) c e = let w = within n i l c e in let lt = w.0 in (omega (arith, lt), w.1)

-- the last of some cells

abbrev NoCell : List (Option Cell) → Type 0
NoCell l = (n : ℕ) (d : Cell) → slice_get l n ≡ Some (Some d) → ⊥

abbrev LastCell : List (Option Cell) → Cell → Type 0
LastCell l d = (n : ℕ) × (slice_get l n ≡ Some (Some d)) × ((m : ℕ) (e : Cell) → n < m → slice_get l m ≡ Some (Some e) → ⊥)

none_more : (l : List (Option Cell)) → NoCell l → NoCell (None ∷ l)
none_more l f zero d e = none_some d (some_inside None (Some d) e)
none_more l f (suc n) d e = f n d e

last_more : (x : Option Cell) (l : List (Option Cell)) (d : Cell) → LastCell l d → LastCell (x ∷ l) d
last_more x l d y = (suc y.0, y.1, behind) where
  behind : (m : ℕ) (e : Cell) → suc y.0 < m → slice_get (x ∷ l) m ≡ Some (Some e) → ⊥
  behind zero e lt q = omega (arith, lt)
  behind (suc m) e lt q = y.2 m e (omega (arith, lt)) q

last_here : (l : List (Option Cell)) (d : Cell) → NoCell l → LastCell (Some d ∷ l) d
last_here l d f = (0, refl, behind) where
  behind : (m : ℕ) (e : Cell) → 0 < m → slice_get (Some d ∷ l) m ≡ Some (Some e) → ⊥
  behind zero e lt q = omega (arith, lt)
  behind (suc m) e lt q = f m e q

nearest_none : (found : Option Cell) (l : List (Option Cell)) → nearest_from found l ≡ None → (found ≡ None) × NoCell l
nearest_none found [] e = (e, λ n d q. none_some (Some d) q)
nearest_none found (None ∷ l) e = let r = nearest_none found l e in (r.0, none_more l r.1)
nearest_none found (Some c ∷ l) e = absurd (none_some c (sym (nearest_none (Some c) l e).0))

nearest_some : (found : Option Cell) (l : List (Option Cell)) (d : Cell) → nearest_from found l ≡ Some d → ((found ≡ Some d) × NoCell l) ⊎ LastCell l d
nearest_some found [] d e = inl (e, λ n c q. none_some (Some c) q)
nearest_some found (None ∷ l) d e = elim (nearest_some found l d e) [ inl x ↦ inl (x.0, none_more l x.1) | inr y ↦ inr (last_more None l d y) ]
nearest_some found (Some c ∷ l) d e = elim (nearest_some (Some c) l d e) [
  | inl x ↦ inr (subst (λ z. LastCell (Some z ∷ l) d) (sym (some_inside c d x.0)) (last_here l d x.1))
  | inr y ↦ inr (last_more (Some c) l d y)
]

-- tests

pub all_tells : (row : Row) (l : List (Option Cell)) → Decides (all_flushed row l) ((n : ℕ) (e : Cell) → slice_get l n ≡ Some (Some e) → has_serial row.flushed e.serial ≡ true)
all_tells row [] = (λ x n e q. absurd (none_some (Some e) q), λ x. refl)
all_tells row (None ∷ rest) = Decides-like (all_flushed row rest) more (λ f n e q. f (suc n) e q) (all_tells row rest) where
  more : ((n : ℕ) (e : Cell) → slice_get rest n ≡ Some (Some e) → has_serial row.flushed e.serial ≡ true) → (n : ℕ) (e : Cell) → slice_get (None ∷ rest) n ≡ Some (Some e) → has_serial row.flushed e.serial ≡ true
  more f zero e q = absurd (none_some e (some_inside None (Some e) q))
  more f (suc n) e q = f n e q
all_tells row (Some c ∷ rest) =
    Decides-like (has_serial row.flushed c.serial && all_flushed row rest) more (λ f. (f 0 c refl, λ n e q. f (suc n) e q))
    (Decides-and (has_serial row.flushed c.serial) (all_flushed row rest) (is_itself (has_serial row.flushed c.serial)) (all_tells row rest)) where
      more : (has_serial row.flushed c.serial ≡ true) × ((n : ℕ) (e : Cell) → slice_get rest n ≡ Some (Some e) → has_serial row.flushed e.serial ≡ true) → (n : ℕ) (e : Cell) → slice_get (Some c ∷ rest) n ≡ Some (Some e) → has_serial row.flushed e.serial ≡ true
      more h zero e q = subst (λ (x : Cell). has_serial row.flushed x.serial ≡ true) (some_inside c e (some_inside (Some c) (Some e) q)) h.0
      more h (suc n) e q = h.1 n e q

abbrev pub HasOne : ℕ → List (Option Cell) → Type 0
HasOne s l = (n : ℕ) × (e : Cell) × (slice_get l n ≡ Some (Some e)) × (e.serial ≡ s)

found : (s : ℕ) (l : List (Option Cell)) → not (lacks s l) ≡ true → HasOne s l
found s [] e = absurd (true_false false e refl)
found s (None ∷ l) e = let r = found s l e in (suc r.0, r.1, r.2, r.3)
found s (Some d ∷ l) e = by_case (found s l) (d.serial == s) refl e where
  by_case : (not (lacks s l) ≡ true → HasOne s l) → (b : Bool) → (d.serial == s) ≡ b → not (not b && lacks s l) ≡ true → HasOne s (Some d ∷ l)
  by_case more true q e = (0, d, refl, (Decides-eqb d.serial s).0 q)
  by_case more false q e = let r = more e in (suc r.0, r.1, r.2, r.3)

pub has_tells : (s : ℕ) (l : List (Option Cell)) → Decides (not (lacks s l)) (HasOne s l)
has_tells s l = (found s l, λ h. (Decides-not (lacks s l) (lacks_tells s l)).1 (λ f. f h.0 h.1 h.2 h.3))

-- younger cells

module _ (k : Setting) (row : Row) where
  abbrev pub younger : ℕ → List (Option Cell)
  younger stage = take stage (stages_of k row)

  pub none_younger : (stage : ℕ) → nearest_from None (younger stage) ≡ None → HasNoYounger k row stage
  none_younger stage e below d lt s = (nearest_none None (younger stage) e).1 below d (get_take stage below (stages_of k row) lt ∙ s)

  pub next_younger : (stage : ℕ) (d : Cell) → nearest_from None (younger stage) ≡ Some d → (below : ℕ) × IsNextYounger k row stage below d
  next_younger stage d e = elim (nearest_some None (younger stage) d e) [ inl x ↦ absurd (none_some d x.0) | inr y ↦ last y ] where
    last : LastCell (younger stage) d → (below : ℕ) × IsNextYounger k row stage below d
    last y =
        let w = within stage y.0 (stages_of k row) d y.1 in
        (y.0, record { lower = w.0; stands = w.1; nearest = λ between e lt higher s. y.2 between e lt (get_take stage between (stages_of k row) higher ∙ s) })

  pub one_younger : (stage below other : ℕ) (d e : Cell) → IsNextYounger k row stage below d → IsNextYounger k row stage other e → d ≡ e
  one_younger stage below other d e i j = elim (cases_lt below other) [
    | inl lt ↦ absurd (i.nearest other e lt j.lower j.stands)
    | inr ge ↦ elim (cases_lt other below) [
      | inl lt ↦ absurd (j.nearest below d lt i.lower i.stands)
      | inr le ↦ same_cell k row below other d e (omega (arith, ge, le)) i.stands j.stands
    ]
  ]
