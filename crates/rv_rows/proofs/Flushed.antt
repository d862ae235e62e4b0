-- What a lawful row flushes and retires.
use Rattle.std.proofs.Common.{◌≡◌, ℕ, zero, suc, ◌+◌, ◌<◌, ◌≤◌, List, [], ◌∷◌, length, Option, Some, None, Bool, true, false, refl, sym, ap, ◌∙◌, subst, arith, inl, inr, ◌⊎◌}
use Rattle.std.specs.Prelude.{if◌then◌else◌, ◌&&◌, is_some, slice_get}
use Rattle.rv_seq.specs.declared.commit.Commit.{Commit}
use Rattle.rv_trace.specs.declared.row.Cell.{Cell}
use Rattle.rv_trace.specs.declared.row.Row.{Row}
use Rattle.rv_trace.specs.Trace.{has_serial, is_flushed, place, retirements}
use Rattle.rv_trace.specs.RowParts.{Name, name_of, names_of, leaves}
use Rattle.rv_lawful.specs.Settings.{Setting, stages_of, Stands}
use Rattle.rv_lawful.specs.Entering.{is_line_pending, is_interrupted}
use Rattle.rv_lawful.specs.LawfulTrace.{LawfulRow, Retires, IsFlushedByMismatch, IsFlushedByEntry}
use Rattle.rv_rows.specs.Facts.{IsPlain}
use Rattle.rv_rows.proofs.Places.{FlushesFrom}
use Rattle.rv_rows.proofs.Coming.{Fate, gone, kept, left, fate, some_same}
use Rattle.rv_rows.proofs.Ordered.{IsOrdered, one_in_row}
use Rattle.rv_rows.proofs.Placed.{one, AreIn, is_in, out}
use Rattle.rv_rows.proofs.Tests.{differ, no_some}

-- no interrupt is taken
pub untaken : (k : Setting) (earlier : List Row) (row : Row) → IsPlain k → LawfulRow k earlier row → row.taken ≡ None
untaken k earlier row plain lawful = by_case row.taken refl where
  none : is_interrupted k earlier ≡ false
  none = ap (λ l. is_line_pending l earlier && k.course.enabled (retirements earlier)) plain.no_line

  by_case : (o : Option ℕ) → row.taken ≡ o → row.taken ≡ None
  by_case None e = e
  by_case (Some at) e = absurd (differ (sym (lawful.takes.taken at e).interrupted ∙ none))

-- ---- flushes

module _ (k : Setting) (earlier : List Row) (row : Row) (plain : IsPlain k) (lawful : LawfulRow k earlier row) where
  pub flushed_by : (s : ℕ) → has_serial row.flushed s ≡ true → IsFlushedByMismatch k earlier row s
  flushed_by s e = by_cause (lawful.successors.flushed_only s e) where
    by_cause : IsFlushedByMismatch k earlier row s ⊎ IsFlushedByEntry k row s → IsFlushedByMismatch k earlier row s
    by_cause (inl x) = x
    by_cause (inr y) = absurd (differ (sym y.0 ∙ ap (λ (o : Option ℕ). is_some o) (untaken k earlier row plain lawful)))

  -- what is flushed stands in the row
  pub flushed_cell : (s : ℕ) → has_serial row.flushed s ≡ true → (stage : ℕ) × (c : Cell) × Stands k row stage c × (c.serial ≡ s)
  flushed_cell s e = let x = flushed_by s e in (x.2, x.3, x.6, x.7)

  -- and what stands above a cell that is not flushed is not flushed
  pub above_stays : IsOrdered k (row ∷ earlier) → (stage later : ℕ) (c d : Cell) → stage < later → Stands k row stage c → Stands k row later d → has_serial row.flushed c.serial ≡ false → has_serial row.flushed d.serial ≡ false
  above_stays order stage later c d lt e f free = by_case (has_serial row.flushed d.serial) refl where
    by_case : (b : Bool) → has_serial row.flushed d.serial ≡ b → has_serial row.flushed d.serial ≡ false
    by_case false g = g
    by_case true g =
        let x = flushed_by d.serial g in
        let same = one_in_row k (row ∷ earlier) order x.2 later x.3 d x.6 f x.7 in
        let below = x.5 in
        let now = lawful.successors.flushes x.0 x.1 x.4 stage c (omega (arith, same, lt, below)) e in
        absurd (differ (sym now ∙ free))

  pub flushes_from : (r : ℕ) → AreIn k earlier r (names_of (stages_of k row)) → FlushesFrom earlier r row
  flushes_from r h = record { unflushed = unflushed; from = from } where
    unflushed : (j : ℕ) → has_serial row.flushed j ≡ true → is_flushed earlier j ≡ false
    unflushed j e =
        let x = flushed_cell j e in
        subst (λ s. is_flushed earlier s ≡ false) x.3 (is_in k earlier r (stages_of k row) x.0 x.1 h x.2).unflushed

    from : (j : ℕ) → has_serial row.flushed j ≡ true → r ≤ place earlier j
    from j e =
        let x = flushed_cell j e in
        let p = (is_in k earlier r (stages_of k row) x.0 x.1 h x.2).placed in
        subst (λ s. r ≤ place earlier s) x.3 (omega (arith, p))

-- ---- retirements

slot_at : (l : List (Option Cell)) (n : ℕ) → n < length l → (o : Option Cell) × (slice_get l n ≡ Some o)
slot_at [] n lt = absurd (omega arith)
slot_at (a ∷ l) zero lt = (a, refl)
slot_at (a ∷ l) (suc n) lt = slot_at l n (omega (arith, lt))

-- what leaves the last stage
out_last : (row : Row) (came : Option Name) (l : List (Option Cell)) (n : ℕ) (o : Option Cell) → slice_get l n ≡ Some o → suc n ≡ length l → out row came l ≡ leaves row o
out_last row came [] n o e len = cc
out_last row came (a ∷ []) zero o e len = ap (leaves row) (some_same a o e)
out_last row came (a ∷ b ∷ l) zero o e len = absurd (omega (arith, len))
out_last row came (a ∷ l) (suc n) o e len = out_last row (leaves row a) l n o e (omega (arith, len))

-- nothing retires, or what leaves the last stage does
pub data Retiring (k : Setting) (row : Row) : Type 0 where
  nothing : row.retired ≡ None → out row None (stages_of k row) ≡ None → Retiring k row
  leaver : (stage : ℕ) (c : Cell) (commit : Commit) → suc stage ≡ k.shape.stages → Stands k row stage c → row.retired ≡ Some (c.serial, commit) → has_serial row.flushed c.serial ≡ false
      → out row None (stages_of k row) ≡ name_of (Some c) → Retiring k row

pub retiring : (k : Setting) (row : Row) (stage : ℕ) → suc stage ≡ k.shape.stages → length (stages_of k row) ≡ k.shape.stages → Retires k row stage → Retiring k row
retiring k row stage last long h = by_slot (slot_at (stages_of k row) stage (omega (arith, last, long))) where
  out_is : (o : Option Cell) → slice_get (stages_of k row) stage ≡ Some o → out row None (stages_of k row) ≡ leaves row o
  out_is o e = out_last row None (stages_of k row) stage o e (omega (arith, last, long))

  none_in : (o : Option Cell) → slice_get (stages_of k row) stage ≡ Some o → leaves row o ≡ None → (p : Option (ℕ × Commit)) → row.retired ≡ p → row.retired ≡ None
  none_in o e l None q = q
  none_in o e l (Some (s, commit)) q = absurd (unlike (h.leaver s commit q)) where
    unlike : (c : Cell) × Stands k row stage c × (leaves row (Some c) ≡ name_of (Some c)) × (c.serial ≡ s) → ⊥
    unlike y = no_some (y.0.serial, y.0.at, y.0.word) (sym l ∙ ap (leaves row) (some_same o (Some y.0) (sym e ∙ y.1)) ∙ y.2)

  by_slot : (o : Option Cell) × (slice_get (stages_of k row) stage ≡ Some o) → Retiring k row
  by_slot (None, e) = nothing (none_in None e refl row.retired refl) (out_is None e)
  by_slot (Some c, e) = by_fate (fate row c) where
    by_fate : Fate row c → Retiring k row
    by_fate (gone g s l) = nothing (none_in (Some c) e l row.retired refl) (out_is (Some c) e ∙ l)
    by_fate (kept g f s l) = nothing (none_in (Some c) e l row.retired refl) (out_is (Some c) e ∙ l)
    by_fate (left g f s l) = let y = h.retired c e l in leaver stage c y.0 last e y.1 g (out_is (Some c) e ∙ l)

retirements_step : (row : Row) (earlier : List Row) → retirements (row ∷ earlier) ≡ (if is_some row.retired then suc (retirements earlier) else retirements earlier)
unfolding retirements
retirements_step row earlier = refl

pub retirements_none : (row : Row) (earlier : List Row) → row.retired ≡ None → retirements (row ∷ earlier) ≡ retirements earlier
retirements_none row earlier e = retirements_step row earlier ∙ ap (λ (o : Option (ℕ × Commit)). if is_some o then suc (retirements earlier) else retirements earlier) e

pub retirements_one : (row : Row) (earlier : List Row) (x : ℕ × Commit) → row.retired ≡ Some x → retirements (row ∷ earlier) ≡ suc (retirements earlier)
retirements_one row earlier x e = retirements_step row earlier ∙ ap (λ (o : Option (ℕ × Commit)). if is_some o then suc (retirements earlier) else retirements earlier) e

pub retired_count : (k : Setting) (row : Row) (earlier : List Row) → Retiring k row → retirements (row ∷ earlier) ≡ retirements earlier + one (out row None (stages_of k row))
retired_count k row earlier (nothing e o) = retirements_none row earlier e ∙ more (out row None (stages_of k row)) o where
  more : (x : Option Name) → x ≡ None → retirements earlier ≡ retirements earlier + one x
  more None q = omega arith
  more (Some n) q = cc
retired_count k row earlier (leaver stage c commit last stands e g o) = retirements_one row earlier (c.serial, commit) e ∙ more (out row None (stages_of k row)) o where
  more : (x : Option Name) → x ≡ name_of (Some c) → suc (retirements earlier) ≡ retirements earlier + one x
  more None q = cc
  more (Some n) q = omega arith
