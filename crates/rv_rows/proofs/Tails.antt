-- A cell was not held for its module before it came into the last stage.
use Rattle.std.proofs.Common.{◌≡◌, ℕ, suc, ◌-◌, ◌<◌, ◌≤◌, List, [], ◌∷◌, Option, Some, None, Bool, true, false, refl, sym, ap, ◌∙◌, arith, inl, inr}
use Rattle.std.specs.Prelude.{◌&&◌, if◌then◌else◌, ◌==◌, slice_get}
use Rattle.rv_trace.specs.declared.row.Cell.{Cell}
use Rattle.rv_trace.specs.declared.row.Row.{Row}
use Rattle.rv_trace.specs.Trace.{has_cell, newest}
use Rattle.rv_lawful.specs.Settings.{Setting, Stands, stages_of, is_tail, has_tail, tailed}
use Rattle.rv_lawful.specs.LawfulTrace.{Lawful, next_serial, IsWordOf}
use Rattle.rv_rows.proofs.Coming.{Before, held, moved, new, is_fetched, stood, same_serial, none_before}
use Rattle.rv_rows.proofs.Ordered.{ordered, known_below}
use Rattle.rv_rows.proofs.Tests.{differ, same_number, number_same}

tail_step : (k : Setting) (row : Row) (earlier : List Row) (s : ℕ) (b : Bool) → has_tail (slice_get (stages_of k row) (k.shape.stages - 1)) s ≡ b → tailed k (row ∷ earlier) s ≡ (if b then suc (tailed k earlier s) else tailed k earlier s)
unfolding tailed
tail_step k row earlier s b e = ap (λ (x : Bool). if x then suc (tailed k earlier s) else tailed k earlier s) e

first_tailed : (k : Setting) (s : ℕ) → tailed k [] s ≡ 0
unfolding tailed
first_tailed k s = refl

-- what counts is a cell of the last stage
record IsTailing (k : Setting) (row : Row) (s : ℕ) : Type 0 where
  cell : Cell
  stands : Stands k row (k.shape.stages - 1) cell
  serial : cell.serial ≡ s

tailing : (k : Setting) (row : Row) (s : ℕ) → has_tail (slice_get (stages_of k row) (k.shape.stages - 1)) s ≡ true → IsTailing k row s
tailing k row s e = by_slot (slice_get (stages_of k row) (k.shape.stages - 1)) refl e where
  by_slot : (o : Option (Option Cell)) → slice_get (stages_of k row) (k.shape.stages - 1) ≡ o → has_tail o s ≡ true → IsTailing k row s
  by_slot None q h = cc
  by_slot (Some None) q h = cc
  by_slot (Some (Some c)) q h = by_test (c.serial == s) refl h where
    by_test : (b : Bool) → (c.serial == s) ≡ b → (b && is_tail c.hold) ≡ true → IsTailing k row s
    by_test true f g = record { cell = c; stands = q; serial = same_number c.serial s f }
    by_test false f g = cc

-- a serial that was not seen was never held so
tailed_new : (k : Setting) (rows : List Row) → Lawful (λ places. k) rows → (s : ℕ) → ((word : ℕ) → IsWordOf k rows s word → ⊥) → tailed k rows s ≡ 0
tailed_new k [] h s none = first_tailed k s
tailed_new k (row ∷ earlier) h s none = by_test (has_tail (slice_get (stages_of k row) (k.shape.stages - 1)) s) refl (tailed_new k earlier h.2 s (λ word y. none word (inr y))) where
  by_test : (b : Bool) → has_tail (slice_get (stages_of k row) (k.shape.stages - 1)) s ≡ b → tailed k earlier s ≡ 0 → tailed k (row ∷ earlier) s ≡ 0
  by_test false e rest = tail_step k row earlier s false e ∙ rest
  by_test true e rest = let t = tailing k row s e in absurd (none t.cell.word (inl (k.shape.stages - 1, t.cell, t.stands, t.serial, refl)))

tailed_next : (k : Setting) (rows : List Row) → Lawful (λ places. k) rows → (s : ℕ) → next_serial k rows ≤ s → tailed k rows s ≡ 0
tailed_next k rows h s le = tailed_new k rows h s (λ word y. let l = known_below k rows h s word y in absurd (omega (arith, l, le)))

low_next : (k : Setting) (row : Row) (earlier : List Row) → Lawful (λ places. k) (row ∷ earlier) → (n : ℕ) (c : Cell) → Stands k row n c → suc n < k.shape.stages
    → ((i : ℕ) (b : Cell) → Stands k (newest earlier) i b → suc i < k.shape.stages → tailed k earlier b.serial ≡ 0) → tailed k (row ∷ earlier) c.serial ≡ 0
low_next k row earlier h n c e lt rest = by_test (has_tail (slice_get (stages_of k row) (k.shape.stages - 1)) c.serial) refl where
  before : Before k earlier n c → tailed k earlier c.serial ≡ 0
  before (held b f s g) = sym (ap (tailed k earlier) (same_serial b c s)) ∙ rest n b f lt
  before (moved i z b f s l) = sym (ap (tailed k earlier) (same_serial b c s)) ∙ rest i b f (omega (arith, z, lt))
  before (new z g q) = let s = (is_fetched k earlier (c.serial, c.at, c.word) q).serial in tailed_next k earlier h.2 c.serial (omega (arith, s))

  by_test : (b : Bool) → has_tail (slice_get (stages_of k row) (k.shape.stages - 1)) c.serial ≡ b → tailed k (row ∷ earlier) c.serial ≡ 0
  by_test false q = tail_step k row earlier c.serial false q ∙ before (stood k earlier row h.0.moves n c e)
  by_test true q =
      let t = tailing k row c.serial q in
      let l = (ordered k (row ∷ earlier) h).falls n (k.shape.stages - 1) c t.cell (omega (arith, lt)) e t.stands in
      let s = t.serial in
      absurd (omega (arith, l, s))

-- nor one that stands below the last stage
pub tailed_low : (k : Setting) (rows : List Row) → Lawful (λ places. k) rows → (n : ℕ) (c : Cell) → Stands k (newest rows) n c → suc n < k.shape.stages → tailed k rows c.serial ≡ 0
tailed_low k [] h n c e lt = absurd (none_before k n c e)
tailed_low k (row ∷ earlier) h n c e lt = low_next k row earlier h n c e lt (λ i b f l. tailed_low k earlier h.2 i b f l)

-- nor one that comes into it
pub untailed : (k : Setting) (earlier : List Row) → Lawful (λ places. k) earlier → (stage : ℕ) (c : Cell) → suc stage ≡ k.shape.stages → Before k earlier stage c
    → has_cell (slice_get (stages_of k (newest earlier)) stage) c.serial ≡ false → tailed k earlier c.serial ≡ 0
untailed k earlier h stage c last (held b g s q) free = absurd (differ (sym here ∙ free)) where
  here : has_cell (slice_get (stages_of k (newest earlier)) stage) c.serial ≡ true
  here = ap (λ o. has_cell o c.serial) g ∙ number_same b.serial c.serial (same_serial b c s)
untailed k earlier h stage c last (moved i z b g s l) free = sym (ap (tailed k earlier) (same_serial b c s)) ∙ tailed_low k earlier h i b g (omega (arith, z, last))
untailed k earlier h stage c last (new z g q) free = let s = (is_fetched k earlier (c.serial, c.at, c.word) q).serial in tailed_next k earlier h c.serial (omega (arith, s))
