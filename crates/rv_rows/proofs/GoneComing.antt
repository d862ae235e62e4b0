-- What stands above stage 0 stood in the row before.
use Rattle.std.proofs.Common.{◌≡◌, ℕ, zero, suc, ◌<◌, List, [], ◌∷◌, take, replicate, Option, Some, None, Bool, true, false, refl, sym, ap, ◌∙◌, subst, arith, inl, inr, ◌⊎◌}
use Rattle.std.specs.Prelude.{◌&&◌, ◌||◌, not, if◌then◌else◌, is_some, slice_get}
use Rattle.std.proofs.lemmas.Option.{same_Some}
use Rattle.rv_trace.specs.declared.row.Cell.{Cell}
use Rattle.rv_trace.specs.declared.row.Row.{Row}
use Rattle.rv_trace.specs.Trace.{has_serial, newest}
use Rattle.rv_trace.specs.RowParts.{Name, name_of, names_of, stays, leaves, InStage, MovesInto}
use Rattle.rv_lawful.specs.Settings.{Setting, stages_of, Stands}
use Rattle.rv_lawful.specs.LawfulTrace.{IsWordOf}
use Rattle.rv_rows.specs.Facts.{MoveAbove, MovesAbove}

-- ---- names

some_same : {A : Type 0} (x y : A) → ◌≡◌ {A = Option A} (Some x) (Some y) → x ≡ y
some_same x y e = same_Some x y e

serial_in : Option Name → ℕ
serial_in None = 0
serial_in (Some x) = x.0

word_in : Option Name → ℕ
word_in None = 0
word_in (Some x) = x.2

same_serial : (b : Cell) (x : Name) → name_of (Some b) ≡ Some x → b.serial ≡ x.0
unfolding serial_in
same_serial b x e = ap serial_in e

same_word : (b : Cell) (x : Name) → name_of (Some b) ≡ Some x → b.word ≡ x.2
unfolding word_in
same_word b x e = ap word_in e

named_at : (l : List (Option Cell)) (n : ℕ) (o : Option Cell) → slice_get l n ≡ Some o → slice_get (names_of l) n ≡ Some (name_of o)
named_at [] n o e = cc
named_at (a ∷ l) zero o e = ap (λ z. Some (name_of z)) (some_same a o e)
named_at (a ∷ l) (suc n) o e = named_at l n o e

-- ---- what becomes of a cell

stays_name : (row : Row) (c : Cell) (x : Name) → stays row (Some c) ≡ Some x → name_of (Some c) ≡ Some x
stays_name row c x e = by_test (is_some c.hold && not (has_serial row.flushed c.serial)) e where
  by_test : (b : Bool) → (if b then name_of (Some c) else None) ≡ Some x → name_of (Some c) ≡ Some x
  by_test true q = q
  by_test false q = cc

leaves_name : (row : Row) (c : Cell) (x : Name) → leaves row (Some c) ≡ Some x → name_of (Some c) ≡ Some x
leaves_name row c x e = by_test (is_some c.hold || has_serial row.flushed c.serial) e where
  by_test : (b : Bool) → (if b then None else name_of (Some c)) ≡ Some x → name_of (Some c) ≡ Some x
  by_test true q = cc
  by_test false q = q

-- what leaves is not flushed
pub leaves_kept : (row : Row) (c : Cell) → leaves row (Some c) ≡ name_of (Some c) → has_serial row.flushed c.serial ≡ false
leaves_kept row c e = by_test (is_some c.hold) (has_serial row.flushed c.serial) e where
  by_test : (a b : Bool) → (if a || b then None else name_of (Some c)) ≡ name_of (Some c) → b ≡ false
  by_test true b q = cc
  by_test false true q = cc
  by_test false false q = refl

-- ---- from one list of cells to the next

-- a cell of this name stood there
record StoodIn (was : List (Option Cell)) (x : Name) : Type 0 where
  stage : ℕ
  cell : Cell
  stands : slice_get was stage ≡ Some (Some cell)
  named : name_of (Some cell) ≡ Some x

further : (a : Option Cell) (was : List (Option Cell)) (x : Name) → StoodIn was x → StoodIn (a ∷ was) x
further a was x s = record { stage = suc s.stage; cell = s.cell; stands = s.stands; named = s.named }

from_first : (row : Row) (a : Option Cell) (was : List (Option Cell)) (x : Name) → (leaves row a ≡ Some x) ⊎ StoodIn was x → StoodIn (a ∷ was) x
from_first row None was x (inl e) = cc
from_first row (Some c) was x (inl e) = record { stage = 0; cell = c; stands = refl; named = leaves_name row c x e }
from_first row a was x (inr s) = further a was x s

in_first : (row : Row) (came now : Option Name) (a : Option Cell) (was : List (Option Cell)) (x : Name) → InStage (stays row a) came now → now ≡ Some x → (came ≡ Some x) ⊎ StoodIn (a ∷ was) x
in_first row came now None was x h e = inl (sym h ∙ e)
in_first row came now (Some c) was x h e = by_stay (stays row (Some c)) refl came h where
  by_stay : (s : Option Name) → stays row (Some c) ≡ s → (come : Option Name) → InStage s come now → (come ≡ Some x) ⊎ StoodIn (Some c ∷ was) x
  by_stay None q come f = inl (sym f ∙ e)
  by_stay (Some y) q None f = inr (record { stage = 0; cell = c; stands = refl; named = stays_name row c x (q ∙ sym f ∙ e) })
  by_stay (Some y) q (Some m) f = absurd f

stood_in : (row : Row) (came : Option Name) (was : List (Option Cell)) (now : List (Option Name)) → MovesInto row came was now → (n : ℕ) (x : Name) → slice_get now n ≡ Some (Some x) → (came ≡ Some x) ⊎ StoodIn was x
stood_in row came [] [] h n x e = cc
stood_in row came [] (b ∷ now) h n x e = absurd h
stood_in row came (a ∷ was) [] h n x e = absurd h
stood_in row came (a ∷ was) (b ∷ now) h zero x e = in_first row came b a was x h.0 (some_same b (Some x) e)
stood_in row came (a ∷ was) (b ∷ now) h (suc n) x e = inr (from_first row a was x (stood_in row (leaves row a) was now h.1 n x e))

stood_above : (row : Row) (was : List (Option Cell)) (now : List (Option Name)) → MoveAbove row was now → (n : ℕ) (x : Name) → 0 < n → slice_get now n ≡ Some (Some x) → StoodIn was x
stood_above row [] [] h n x lt e = cc
stood_above row [] (b ∷ now) h n x lt e = absurd h
stood_above row (a ∷ was) [] h n x lt e = absurd h
stood_above row (a ∷ was) (b ∷ now) h zero x lt e = absurd (omega (arith, lt))
stood_above row (a ∷ was) (b ∷ now) h (suc n) x lt e = from_first row a was x (stood_in row (leaves row a) was now h n x e)

-- what moves so moves so above stage 0
pub moves_above : (row : Row) (came : Option Name) (was : List (Option Cell)) (now : List (Option Name)) → MovesInto row came was now → MoveAbove row was now
moves_above row came [] [] h = tt
moves_above row came [] (b ∷ now) h = absurd h
moves_above row came (a ∷ was) [] h = absurd h
moves_above row came (a ∷ was) (b ∷ now) h = h.1

-- ---- rows

-- nothing stands in the row before the first one
abbrev no_cell : Option Cell
no_cell = None

none_stands : (n i m : ℕ) (c : Cell) → slice_get (take n (replicate m no_cell)) i ≡ Some (Some c) → ⊥
none_stands zero i m c e = cc
none_stands (suc n) i zero c e = cc
none_stands (suc n) zero (suc m) c e = cc
none_stands (suc n) (suc i) (suc m) c e = none_stands n i m c e

-- a cell of the newest row has its word in these rows
word_newest : (k : Setting) (rows : List Row) (n : ℕ) (c : Cell) → Stands k (newest rows) n c → IsWordOf k rows c.serial c.word
word_newest k [] n c e = absurd (none_stands k.shape.stages n 5 c e)
word_newest k (row ∷ earlier) n c e = inl (n, c, e, refl, refl)

-- so the word of a cell above stage 0 was seen before
pub word_before : (k : Setting) (earlier : List Row) (row : Row) → MovesAbove k earlier row → (n : ℕ) (c : Cell) → 0 < n → Stands k row n c → IsWordOf k earlier c.serial c.word
word_before k earlier row moves n c lt e =
    let s = stood_above (newest earlier) (stages_of k (newest earlier)) (names_of (stages_of k row)) moves n (c.serial, c.at, c.word) lt (named_at (stages_of k row) n (Some c) e) in
    let w = word_newest k earlier s.stage s.cell s.stands in
    subst (λ j. IsWordOf k earlier j c.word) (same_serial s.cell (c.serial, c.at, c.word) s.named)
    (subst (λ v. IsWordOf k earlier s.cell.serial v) (same_word s.cell (c.serial, c.at, c.word) s.named) w)

-- ---- the last stage

pub stands_below : (k : Setting) (row : Row) (n : ℕ) (c : Cell) → Stands k row n c → n < k.shape.stages
stands_below k row n c e = below k.shape.stages n row.cells e where
  below : (m i : ℕ) (cells : List (Option Cell)) → slice_get (take m cells) i ≡ Some (Some c) → i < m
  below zero i cells q = cc
  below (suc m) i [] q = cc
  below (suc m) zero (d ∷ rest) q = omega arith
  below (suc m) (suc i) (d ∷ rest) q = let l = below m i rest q in omega (arith, l)

pub last_stage : (n : ℕ) → 0 < n → (m : ℕ) × (suc m ≡ n)
last_stage zero lt = absurd (omega (arith, lt))
last_stage (suc m) lt = (m, refl)
