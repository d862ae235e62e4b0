-- For how many rows a cell was held by Tail, and so the time at which it stands.
use Rattle.std.proofs.Common.{◌≡◌, ℕ, zero, suc, ◌+◌, ◌-◌, ◌<◌, ◌≤◌, List, [], ◌∷◌, take, Option, Some, None, Bool, true, false, refl, sym, ap, ◌∙◌, arith, inl, inr}
use Rattle.std.specs.Prelude.{◌&&◌, if◌then◌else◌, ◌==◌, slice_get}
use Rattle.rv_trace.specs.declared.row.Cell.{Cell}
use Rattle.rv_trace.specs.declared.row.Hold.{Hold}
use Rattle.rv_trace.specs.declared.row.Hold.TheVariants as H
use Rattle.rv_trace.specs.declared.row.Row.{Row}
use Rattle.rv_trace.specs.Trace.{newest}
use Rattle.rv_lawful.specs.Settings.{Setting, Stands, stages_of, is_tail, has_tail, tailed}
use Rattle.rv_lawful.specs.LawfulTrace.{WaitsForModule, IsWordOf, next_serial}
use Rattle.rv_ports.specs.Seats.{time_of}
use Rattle.rv_machine.proofs.LivesFrame.{IsFramed, Framed}
use Rattle.rv_machine.proofs.LivesRows.{Before, held, went, new, stood, ordered, none_before, known_below}
use Rattle.rv_machine.proofs.LivesShown.{equal_true, equal_false_up, equal_of}

-- ---- one row

pub tail_step : (k : Setting) (row : Row) (earlier : List Row) (s : ℕ) (b : Bool) → has_tail (slice_get (stages_of k row) (k.shape.stages - 1)) s ≡ b → tailed k (row ∷ earlier) s ≡ (if b then suc (tailed k earlier s) else tailed k earlier s)
unfolding tailed
tail_step k row earlier s b e = ap (λ (x : Bool). if x then suc (tailed k earlier s) else tailed k earlier s) e

-- the cell of the last stage counts where it shows Tail
pub tail_here : (k : Setting) (row : Row) (earlier : List Row) (n : ℕ) (c : Cell) (s : ℕ) → Stands k row n c → suc n ≡ k.shape.stages → c.serial ≡ s → tailed k (row ∷ earlier) s ≡ (if is_tail c.hold then suc (tailed k earlier s) else tailed k earlier s)
tail_here k row earlier n c s e last q =
    let at : k.shape.stages - 1 ≡ n = omega (arith, last) in
    tail_step k row earlier s (is_tail c.hold)
    (ap (λ i. has_tail (slice_get (stages_of k row) i) s) at ∙ ap (λ o. has_tail o s) e ∙ ap (λ (b : Bool). b && is_tail c.hold) (equal_true c.serial s q))

-- what counts is a cell of the last stage
record Tailing (k : Setting) (row : Row) (s : ℕ) : Type 0 where
  cell : Cell
  stands : Stands k row (k.shape.stages - 1) cell
  serial : cell.serial ≡ s
  tails : is_tail cell.hold ≡ true

tailing : (k : Setting) (row : Row) (s : ℕ) → has_tail (slice_get (stages_of k row) (k.shape.stages - 1)) s ≡ true → Tailing k row s
tailing k row s e = by_slot (slice_get (stages_of k row) (k.shape.stages - 1)) refl e where
  by_slot : (o : Option (Option Cell)) → slice_get (stages_of k row) (k.shape.stages - 1) ≡ o → has_tail o s ≡ true → Tailing k row s
  by_slot None q h = cc
  by_slot (Some None) q h = cc
  by_slot (Some (Some c)) q h = by_test (c.serial == s) refl h where
    by_test : (b : Bool) → (c.serial == s) ≡ b → (b && is_tail c.hold) ≡ true → Tailing k row s
    by_test true f g = record { cell = c; stands = q; serial = equal_of c.serial s f; tails = g }
    by_test false f g = cc

-- Tail is shown only where a module goes on
tails_on : (k : Setting) (earlier : List Row) (row : Row) (n : ℕ) (c : Cell) → IsFramed k earlier row → Stands k row n c → is_tail c.hold ≡ true → (k.asks c.word).tail ≡ 0 → ⊥
tails_on k earlier row n c h e tails none = by_hold c.hold refl tails where
  no_tail : (left : ℕ) → WaitsForModule k earlier row n c left → ⊥
  no_tail left w = (let a = w.still in let b = w.some in omega (arith, a, b, none))

  by_hold : (o : Option Hold) → c.hold ≡ o → is_tail o ≡ true → ⊥
  by_hold None q t = cc
  by_hold (Some (H.Tail left)) q t = no_tail left (h.tails n c left e q)
  by_hold (Some (H.Operand r j)) q t = cc
  by_hold (Some (H.Board r j)) q t = cc
  by_hold (Some (H.Custom r j)) q t = cc
  by_hold (Some (H.Late j)) q t = cc
  by_hold (Some H.Trap) q t = cc
  by_hold (Some (H.Drain j)) q t = cc
  by_hold (Some (H.Wait left)) q t = cc
  by_hold (Some (H.StoreAhead j)) q t = cc
  by_hold (Some (H.UnitFull u)) q t = cc
  by_hold (Some (H.Port j)) q t = cc
  by_hold (Some H.Behind) q t = cc

-- ---- rows

-- a serial whose words have no tail was never held for one
pub tailed_none : (k : Setting) (rows : List Row) → Framed k rows → (s : ℕ) → ((word : ℕ) → IsWordOf k rows s word → (k.asks word).tail ≡ 0) → tailed k rows s ≡ 0
unfolding tailed
tailed_none k [] h s none = refl
tailed_none k (row ∷ earlier) h s none = by_test (has_tail (slice_get (stages_of k row) (k.shape.stages - 1)) s) refl (tailed_none k earlier h.2 s (λ word y. none word (inr y))) where
  by_test : (b : Bool) → has_tail (slice_get (stages_of k row) (k.shape.stages - 1)) s ≡ b → tailed k earlier s ≡ 0 → tailed k (row ∷ earlier) s ≡ 0
  by_test false e rest = tail_step k row earlier s false e ∙ rest
  by_test true e rest =
      let t = tailing k row s e in
      absurd (tails_on k earlier row (k.shape.stages - 1) t.cell h.0 t.stands t.tails (none t.cell.word (inl (k.shape.stages - 1, t.cell, t.stands, t.serial, refl))))

-- nor one that is not known
pub tailed_new : (k : Setting) (rows : List Row) → Framed k rows → (s : ℕ) → next_serial k rows ≤ s → tailed k rows s ≡ 0
tailed_new k rows h s le = tailed_none k rows h s (λ word y. let l = known_below k rows h s word y in absurd (omega (arith, l, le)))

low_next : (k : Setting) (row : Row) (earlier : List Row) → Framed k (row ∷ earlier) → (n : ℕ) (c : Cell) → Stands k row n c → suc n < k.shape.stages
    → ((i : ℕ) (b : Cell) → Stands k (newest earlier) i b → suc i < k.shape.stages → tailed k earlier b.serial ≡ 0) → tailed k (row ∷ earlier) c.serial ≡ 0
low_next k row earlier h n c e lt rest = by_test (has_tail (slice_get (stages_of k row) (k.shape.stages - 1)) c.serial) refl where
  before : Before k earlier n c → tailed k earlier c.serial ≡ 0
  before (held b f s w g alone) = sym (ap (tailed k earlier) s) ∙ rest n b f lt
  before (went i z b f s w g l) = sym (ap (tailed k earlier) s) ∙ rest i b f (omega (arith, z, lt))
  before (new z s o) = tailed_new k earlier h.2 c.serial (omega (arith, s))

  by_test : (b : Bool) → has_tail (slice_get (stages_of k row) (k.shape.stages - 1)) c.serial ≡ b → tailed k (row ∷ earlier) c.serial ≡ 0
  by_test false q = tail_step k row earlier c.serial false q ∙ before (stood k earlier row h.0 n c e)
  by_test true q =
      let t = tailing k row c.serial q in
      let l = (ordered k (row ∷ earlier) h).falls n (k.shape.stages - 1) c t.cell (omega (arith, lt)) e t.stands in
      let s = t.serial in
      absurd (omega (arith, l, s))

-- nor one that stands below the last stage
pub tailed_low : (k : Setting) (rows : List Row) → Framed k rows → (n : ℕ) (c : Cell) → Stands k (newest rows) n c → suc n < k.shape.stages → tailed k rows c.serial ≡ 0
tailed_low k [] h n c e lt = absurd (none_before k n c e)
tailed_low k (row ∷ earlier) h n c e lt = low_next k row earlier h n c e lt (λ i b f l. tailed_low k earlier h.2 i b f l)

-- ---- times

pub time_low : (k : Setting) (earlier : List Row) (n : ℕ) (c : Cell) → suc n < k.shape.stages → time_of k earlier n c ≡ n
time_low k earlier n c lt = ap (λ (b : Bool). if b then n + tailed k earlier c.serial else n) (equal_false_up (suc n) k.shape.stages lt)

pub time_last : (k : Setting) (earlier : List Row) (n : ℕ) (c : Cell) → suc n ≡ k.shape.stages → time_of k earlier n c ≡ n + tailed k earlier c.serial
time_last k earlier n c e = ap (λ (b : Bool). if b then n + tailed k earlier c.serial else n) (equal_true (suc n) k.shape.stages e)

-- a cell stands in a stage of the core
within_taken : (n : ℕ) (l : List (Option Cell)) (i : ℕ) (o : Option Cell) → slice_get (take n l) i ≡ Some o → i < n
within_taken zero l i o e = cc
within_taken (suc n) [] i o e = cc
within_taken (suc n) (a ∷ l) zero o e = omega arith
within_taken (suc n) (a ∷ l) (suc i) o e = (let h = within_taken n l i o e in omega (arith, h))

pub stands_within : (k : Setting) (row : Row) (n : ℕ) (c : Cell) → Stands k row n c → n < k.shape.stages
stands_within k row n c e = within_taken k.shape.stages row.cells n (Some c) e
