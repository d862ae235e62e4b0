-- What is next in stage 0: the serial behind all that were fetched, or the last one.
use Rattle.std.proofs.Common.{◌≡◌, ◌∙◌, refl, sym, ap, ℕ, zero, suc, List, [], ◌∷◌, take, replicate, Option, Some, None, Bool, true, false, inl, inr, ◌⊎◌}
use Rattle.std.specs.Prelude.{slice_get, if◌then◌else◌, ◌&&◌, not, is_some}
use Rattle.rv_seq.specs.Steps.{word_at}
use Rattle.rv_trace.specs.declared.row.Cell.{Cell}
use Rattle.rv_trace.specs.declared.row.Row.{Row}
use Rattle.rv_trace.specs.Trace.{has_serial, newest}
use Rattle.rv_trace.specs.RowParts.{Name, name_of, names_of, stays, front, fetched, comes, serial_after, InStage, MovesInto}
use Rattle.rv_lawful.specs.Settings.{Setting, stages_of, Stands}
use Rattle.rv_lawful.specs.LawfulTrace.{Moves, next_serial, fetch_address, new_cell}
use Rattle.rv_watch.proofs.Entries.{some_same}

front_none : (l : List (Option Cell)) → ((c : Cell) → slice_get l 0 ≡ Some (Some c) → ⊥) → front l ≡ None
front_none [] none = refl
front_none (None ∷ l) none = refl
front_none (Some c ∷ l) none = absurd (none c refl)

front_some : (l : List (Option Cell)) (c : Cell) → slice_get l 0 ≡ Some (Some c) → front l ≡ Some c
front_some [] c e = cc
front_some (a ∷ l) c e = some_same a (Some c) e

-- the next serial behind a row
pub next_none : (k : Setting) (row : Row) (earlier : List Row) → ((c : Cell) → Stands k row 0 c → ⊥) → next_serial k (row ∷ earlier) ≡ next_serial k earlier
unfolding next_serial
next_none k row earlier none = ap (λ o. serial_after (next_serial k earlier) o) (front_none (stages_of k row) none)

pub next_some : (k : Setting) (row : Row) (earlier : List Row) (c : Cell) → Stands k row 0 c → next_serial k (row ∷ earlier) ≡ suc c.serial
unfolding next_serial
next_some k row earlier c e = ap (λ o. serial_after (next_serial k earlier) o) (front_some (stages_of k row) c e)

-- what is in stage 0 stayed there, or is what is fetched
data First (k : Setting) (earlier : List Row) (x : Name) : Type 0 where
  stayed : (c : Cell) → front (stages_of k (newest earlier)) ≡ Some c → c.serial ≡ x.0 → First k earlier x
  came : new_cell k earlier ≡ Some x → First k earlier x

serial_in : Option Name → ℕ
serial_in None = 0
serial_in (Some x) = x.0

same_serial : (c : Cell) (x : Name) → name_of (Some c) ≡ Some x → c.serial ≡ x.0
unfolding serial_in
same_serial c x e = ap serial_in e

stays_name : (row : Row) (c : Cell) (x : Name) → stays row (Some c) ≡ Some x → name_of (Some c) ≡ Some x
stays_name row c x e = by_test (is_some c.hold && not (has_serial row.flushed c.serial)) e where
  by_test : (b : Bool) → (if b then name_of (Some c) else None) ≡ Some x → name_of (Some c) ≡ Some x
  by_test true q = q
  by_test false q = cc

from_stays : (k : Setting) (earlier : List Row) (x : Name) (o : Option Cell) → front (stages_of k (newest earlier)) ≡ o → stays (newest earlier) o ≡ Some x → First k earlier x
from_stays k earlier x None q e = cc
from_stays k earlier x (Some c) q e = stayed c q (same_serial c x (stays_name (newest earlier) c x e))

in_first : (k : Setting) (earlier : List Row) (x : Name) (s : Option Name) (now : Option Name) → stays (newest earlier) (front (stages_of k (newest earlier))) ≡ s → InStage s (comes s (new_cell k earlier)) now → now ≡ Some x → First k earlier x
in_first k earlier x None now q h e = came (sym h ∙ e)
in_first k earlier x (Some y) now q h e = from_stays k earlier x (front (stages_of k (newest earlier))) refl (q ∙ sym h ∙ e)

first_stage : (k : Setting) (earlier : List Row) (x : Name) (was now : List (Option Cell)) → stages_of k (newest earlier) ≡ was
    → MovesInto (newest earlier) (comes (stays (newest earlier) (front was)) (new_cell k earlier)) was (names_of now) → (c : Cell) → slice_get now 0 ≡ Some (Some c) → name_of (Some c) ≡ Some x → First k earlier x
first_stage k earlier x [] [] q h c e f = cc
first_stage k earlier x [] (n ∷ now) q h c e f = absurd h
first_stage k earlier x (w ∷ was) [] q h c e f = absurd h
first_stage k earlier x (w ∷ was) (n ∷ now) q h c e f =
    in_first k earlier x (stays (newest earlier) w) (name_of n) (ap (λ l. stays (newest earlier) (front l)) q) h.0 (ap name_of (some_same n (Some c) e) ∙ f)

new_serial : (serial at : ℕ) (o : Option ℕ) (x : Name) → fetched serial at o ≡ Some x → x.0 ≡ serial
new_serial serial at None x e = cc
new_serial serial at (Some word) x e = sym (ap (λ (y : Name). y.0) (some_same (serial, at, word) x e))

abbrev no_cell : Option Cell
no_cell = None

none_first : (n m : ℕ) (c : Cell) → front (take n (replicate m no_cell)) ≡ Some c → ⊥
none_first zero m c e = cc
none_first (suc n) zero c e = cc
none_first (suc n) (suc m) c e = cc

last_serial : (k : Setting) (earlier : List Row) (c : Cell) → front (stages_of k (newest earlier)) ≡ Some c → next_serial k earlier ≡ suc c.serial
unfolding next_serial
last_serial k [] c e = absurd (none_first k.shape.stages 5 c e)
last_serial k (row ∷ earlier) c e = ap (λ o. serial_after (next_serial k earlier) o) e

pub first_serial : (k : Setting) (earlier : List Row) (row : Row) → Moves k earlier row → (c : Cell) → Stands k row 0 c → (next_serial k earlier ≡ suc c.serial) ⊎ (next_serial k earlier ≡ c.serial)
first_serial k earlier row moves c e = by_first (first_stage k earlier (c.serial, c.at, c.word) (stages_of k (newest earlier)) (stages_of k row) refl moves c e refl) where
  by_first : First k earlier (c.serial, c.at, c.word) → (next_serial k earlier ≡ suc c.serial) ⊎ (next_serial k earlier ≡ c.serial)
  by_first (stayed d q s) = inl (last_serial k earlier d q ∙ ap suc s)
  by_first (came q) = inr (sym (new_serial (next_serial k earlier) (fetch_address k earlier) (word_at k.image (fetch_address k earlier)) (c.serial, c.at, c.word) q))
