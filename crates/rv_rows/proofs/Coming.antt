-- Where a cell of a row stood in the row before, by the laws of moves.
use Rattle.std.proofs.Common.{◌≡◌, ℕ, zero, suc, ◌<◌, List, [], ◌∷◌, take, replicate, Option, Some, None, Bool, true, false, refl, sym, ap, ◌∙◌, arith}
use Rattle.std.specs.Prelude.{◌&&◌, ◌||◌, not, if◌then◌else◌, is_some, slice_get}
use Rattle.std.proofs.lemmas.Option.{same_Some}
use Rattle.rv_seq.specs.Steps.{word_at}
use Rattle.rv_trace.specs.declared.row.Cell.{Cell}
use Rattle.rv_trace.specs.declared.row.Row.{Row}
use Rattle.rv_trace.specs.Trace.{has_serial, newest}
use Rattle.rv_trace.specs.RowParts.{Name, name_of, names_of, stays, leaves, front, fetched, comes, InStage, MovesInto}
use Rattle.rv_lawful.specs.Settings.{Setting, stages_of, Stands}
use Rattle.rv_lawful.specs.LawfulTrace.{Moves, next_serial, fetch_address, new_cell}
use Rattle.rv_rows.specs.Facts.{MoveAbove, MovesAbove}
use Rattle.rv_rows.proofs.Tests.{no_some}

-- ---- names

pub some_same : {A : Type 0} (x y : A) → ◌≡◌ {A = Option A} (Some x) (Some y) → x ≡ y
some_same x y e = same_Some x y e

serial_in : Option Name → ℕ
serial_in None = 0
serial_in (Some x) = x.0

word_in : Option Name → ℕ
word_in None = 0
word_in (Some x) = x.2

pub same_serial : (b c : Cell) → name_of (Some b) ≡ name_of (Some c) → b.serial ≡ c.serial
unfolding serial_in
same_serial b c e = ap serial_in e

pub same_word : (b c : Cell) → name_of (Some b) ≡ name_of (Some c) → b.word ≡ c.word
unfolding word_in
same_word b c e = ap word_in e

pub named_at : (l : List (Option Cell)) (n : ℕ) (o : Option Cell) → slice_get l n ≡ Some o → slice_get (names_of l) n ≡ Some (name_of o)
named_at [] n o e = cc
named_at (a ∷ l) zero o e = ap (λ z. Some (name_of z)) (some_same a o e)
named_at (a ∷ l) (suc n) o e = named_at l n o e

pub front_is : (l : List (Option Cell)) (o : Option Cell) → slice_get l 0 ≡ Some o → front l ≡ o
front_is [] o e = cc
front_is (a ∷ l) o e = some_same a o e

pub front_there : (l : List (Option Cell)) (f : Cell) → front l ≡ Some f → slice_get l 0 ≡ Some (Some f)
front_there [] f q = cc
front_there (a ∷ l) f q = ap (λ o. Some o) q

-- ---- what becomes of a cell

-- a cell is flushed, or held, or leaves
pub data Fate (row : Row) (c : Cell) : Type 0 where
  gone : has_serial row.flushed c.serial ≡ true → stays row (Some c) ≡ None → leaves row (Some c) ≡ None → Fate row c
  kept : has_serial row.flushed c.serial ≡ false → is_some c.hold ≡ true → stays row (Some c) ≡ name_of (Some c) → leaves row (Some c) ≡ None → Fate row c
  left : has_serial row.flushed c.serial ≡ false → is_some c.hold ≡ false → stays row (Some c) ≡ None → leaves row (Some c) ≡ name_of (Some c) → Fate row c

stays_test : (row : Row) (c : Cell) (a b : Bool) → is_some c.hold ≡ a → has_serial row.flushed c.serial ≡ b → stays row (Some c) ≡ (if a && not b then name_of (Some c) else None)
stays_test row c a b f g = ap (λ (x : Bool). if x && not (has_serial row.flushed c.serial) then name_of (Some c) else None) f ∙ ap (λ (y : Bool). if a && not y then name_of (Some c) else None) g

leaves_test : (row : Row) (c : Cell) (a b : Bool) → is_some c.hold ≡ a → has_serial row.flushed c.serial ≡ b → leaves row (Some c) ≡ (if a || b then None else name_of (Some c))
leaves_test row c a b f g = ap (λ (x : Bool). if x || has_serial row.flushed c.serial then None else name_of (Some c)) f ∙ ap (λ (y : Bool). if a || y then None else name_of (Some c)) g

pub fate : (row : Row) (c : Cell) → Fate row c
fate row c = by_test (is_some c.hold) (has_serial row.flushed c.serial) refl refl where
  by_test : (a b : Bool) → is_some c.hold ≡ a → has_serial row.flushed c.serial ≡ b → Fate row c
  by_test true true f g = gone g (stays_test row c true true f g) (leaves_test row c true true f g)
  by_test false true f g = gone g (stays_test row c false true f g) (leaves_test row c false true f g)
  by_test true false f g = kept g f (stays_test row c true false f g) (leaves_test row c true false f g)
  by_test false false f g = left g f (stays_test row c false false f g) (leaves_test row c false false f g)

-- what is held is not flushed, and keeps its name
pub record IsHeld (row : Row) (c : Cell) : Type 0 where
  pub held : is_some c.hold ≡ true
  pub kept : has_serial row.flushed c.serial ≡ false
  pub still : leaves row (Some c) ≡ None

pub stays_held : (row : Row) (c : Cell) (x : Name) → stays row (Some c) ≡ Some x → IsHeld row c × (name_of (Some c) ≡ Some x)
stays_held row c x e = by_fate (fate row c) where
  by_fate : Fate row c → IsHeld row c × (name_of (Some c) ≡ Some x)
  by_fate (gone g s l) = absurd (no_some x (sym s ∙ e))
  by_fate (kept g f s l) = (record { held = f; kept = g; still = l }, sym s ∙ e)
  by_fate (left g f s l) = absurd (no_some x (sym s ∙ e))

pub leaves_free : (row : Row) (c : Cell) (x : Name) → leaves row (Some c) ≡ Some x → (is_some c.hold ≡ false) × (has_serial row.flushed c.serial ≡ false) × (name_of (Some c) ≡ Some x)
leaves_free row c x e = by_fate (fate row c) where
  by_fate : Fate row c → (is_some c.hold ≡ false) × (has_serial row.flushed c.serial ≡ false) × (name_of (Some c) ≡ Some x)
  by_fate (gone g s l) = absurd (no_some x (sym l ∙ e))
  by_fate (kept g f s l) = absurd (no_some x (sym l ∙ e))
  by_fate (left g f s l) = (f, g, sym l ∙ e)

-- ---- from one list of cells to the next

-- a name in a stage: its cell was held there, or it came from the stage below, or into the first of these stages
pub data Came (row : Row) (came : Option Name) (was : List (Option Cell)) (n : ℕ) (x : Name) : Type 0 where
  stayed : (c : Cell) → slice_get was n ≡ Some (Some c) → stays row (Some c) ≡ Some x → Came row came was n x
  went : (i : ℕ) → suc i ≡ n → (c : Cell) → slice_get was i ≡ Some (Some c) → leaves row (Some c) ≡ Some x → Came row came was n x
  fresh : n ≡ 0 → came ≡ Some x → Came row came was n x

one_further : (row : Row) (came : Option Name) (a : Option Cell) (was : List (Option Cell)) (n : ℕ) (x : Name) → Came row (leaves row a) was n x → Came row came (a ∷ was) (suc n) x
one_further row came a was n x (stayed c g s) = stayed c g s
one_further row came a was n x (went i z c g l) = went (suc i) (ap suc z) c g l
one_further row came a was n x (fresh z f) = from_first a f where
  from_first : (o : Option Cell) → leaves row o ≡ Some x → Came row came (o ∷ was) (suc n) x
  from_first None q = cc
  from_first (Some c) q = went 0 (ap suc (sym z)) c refl q

came_at : (row : Row) (came : Option Name) (was : List (Option Cell)) (now : List (Option Name)) → MovesInto row came was now → (n : ℕ) (x : Name) → slice_get now n ≡ Some (Some x) → Came row came was n x
came_at row came [] [] h n x e = cc
came_at row came [] (b ∷ now) h n x e = absurd h
came_at row came (a ∷ was) [] h n x e = absurd h
came_at row came (a ∷ was) (b ∷ now) h zero x e = by_cell a h.0 where
  here : b ≡ Some x
  here = some_same b (Some x) e

  by_cell : (a : Option Cell) → InStage (stays row a) came b → Came row came (a ∷ was) 0 x
  by_cell None q = fresh refl (sym q ∙ here)
  by_cell (Some c) q = by_stay (stays row (Some c)) refl came refl q where
    by_stay : (s : Option Name) → stays row (Some c) ≡ s → (come : Option Name) → came ≡ come → InStage s come b → Came row came (Some c ∷ was) 0 x
    by_stay None g come f r = fresh refl (f ∙ sym r ∙ here)
    by_stay (Some y) g None f r = stayed c refl (g ∙ sym r ∙ here)
    by_stay (Some y) g (Some m) f r = absurd r
came_at row came (a ∷ was) (b ∷ now) h (suc n) x e = one_further row came a was n x (came_at row (leaves row a) was now h.1 n x e)

came_above : (row : Row) (came : Option Name) (was : List (Option Cell)) (now : List (Option Name)) → MoveAbove row was now → (n : ℕ) (x : Name) → 0 < n → slice_get now n ≡ Some (Some x) → Came row came was n x
came_above row came [] [] h n x lt e = cc
came_above row came [] (b ∷ now) h n x lt e = absurd h
came_above row came (a ∷ was) [] h n x lt e = absurd h
came_above row came (a ∷ was) (b ∷ now) h zero x lt e = absurd (omega (arith, lt))
came_above row came (a ∷ was) (b ∷ now) h (suc n) x lt e = one_further row came a was n x (came_at row (leaves row a) was now h n x e)

-- what moves so moves so above stage 0
pub moves_above : (row : Row) (came : Option Name) (was : List (Option Cell)) (now : List (Option Name)) → MovesInto row came was now → MoveAbove row was now
moves_above row came [] [] h = tt
moves_above row came [] (b ∷ now) h = absurd h
moves_above row came (a ∷ was) [] h = absurd h
moves_above row came (a ∷ was) (b ∷ now) h = h.1

-- ---- rows

-- nothing stands in the row before the first one
abbrev pub no_cell : Option Cell
no_cell = None

pub none_stands : (n i m : ℕ) (c : Cell) → slice_get (take n (replicate m no_cell)) i ≡ Some (Some c) → ⊥
none_stands zero i m c e = cc
none_stands (suc n) i zero c e = cc
none_stands (suc n) zero (suc m) c e = cc
none_stands (suc n) (suc i) (suc m) c e = none_stands n i m c e

pub none_before : (k : Setting) (i : ℕ) (c : Cell) → Stands k (newest []) i c → ⊥
none_before k i c e = none_stands k.shape.stages i 5 c e

-- in one stage there is one cell
pub one_cell : (k : Setting) (row : Row) (a b : ℕ) (c d : Cell) → a ≡ b → Stands k row a c → Stands k row b d → c ≡ d
one_cell k row a b c d z e f = some_same c d (some_same (Some c) (Some d) (sym e ∙ ap (λ i. slice_get (stages_of k row) i) z ∙ f))

-- what is held in stage 0 of the newest row
abbrev pub first_held : Setting → List Row → Option Name
first_held k earlier = stays (newest earlier) (front (stages_of k (newest earlier)))

-- a cell of a row: it was held in its stage in the row before, or it came from the stage below, or it is fetched
pub data Before (k : Setting) (earlier : List Row) (n : ℕ) (c : Cell) : Type 0 where
  held : (b : Cell) → Stands k (newest earlier) n b → name_of (Some b) ≡ name_of (Some c) → IsHeld (newest earlier) b → Before k earlier n c
  moved : (i : ℕ) → suc i ≡ n → (b : Cell) → Stands k (newest earlier) i b → name_of (Some b) ≡ name_of (Some c) → leaves (newest earlier) (Some b) ≡ name_of (Some b) → Before k earlier n c
  new : n ≡ 0 → first_held k earlier ≡ None → new_cell k earlier ≡ name_of (Some c) → Before k earlier n c

comes_parts : (o n : Option Name) (x : Name) → comes o n ≡ Some x → (o ≡ None) × (n ≡ Some x)
comes_parts None n x e = (refl, e)
comes_parts (Some y) n x e = cc

before_of : (k : Setting) (earlier : List Row) (n : ℕ) (c : Cell) → Came (newest earlier) (comes (first_held k earlier) (new_cell k earlier)) (stages_of k (newest earlier)) n (c.serial, c.at, c.word) → Before k earlier n c
before_of k earlier n c (stayed b g s) = let x = stays_held (newest earlier) b (c.serial, c.at, c.word) s in held b g x.1 x.0
before_of k earlier n c (went i z b g l) = let x = leaves_free (newest earlier) b (c.serial, c.at, c.word) l in moved i z b g x.2 (l ∙ sym x.2)
before_of k earlier n c (fresh z f) = let x = comes_parts (first_held k earlier) (new_cell k earlier) (c.serial, c.at, c.word) f in new z x.0 x.1

pub stood : (k : Setting) (earlier : List Row) (row : Row) → Moves k earlier row → (n : ℕ) (c : Cell) → Stands k row n c → Before k earlier n c
stood k earlier row moves n c e =
    before_of k earlier n c
    (came_at (newest earlier) (comes (first_held k earlier) (new_cell k earlier)) (stages_of k (newest earlier)) (names_of (stages_of k row)) moves n (c.serial, c.at, c.word)
    (named_at (stages_of k row) n (Some c) e))

pub stood_above : (k : Setting) (earlier : List Row) (row : Row) → MovesAbove k earlier row → (n : ℕ) (c : Cell) → 0 < n → Stands k row n c → Before k earlier n c
stood_above k earlier row moves n c lt e =
    before_of k earlier n c
    (came_above (newest earlier) (comes (first_held k earlier) (new_cell k earlier)) (stages_of k (newest earlier)) (names_of (stages_of k row)) moves n (c.serial, c.at, c.word) lt
    (named_at (stages_of k row) n (Some c) e))

-- ---- what is fetched

pub record IsFetched (k : Setting) (earlier : List Row) (x : Name) : Type 0 where
  pub serial : x.0 ≡ next_serial k earlier
  pub address : x.1 ≡ fetch_address k earlier
  pub word : word_at k.image x.1 ≡ Some x.2

fetched_parts : (k : Setting) (serial at : ℕ) (o : Option ℕ) (x : Name) → word_at k.image at ≡ o → fetched serial at o ≡ Some x → (x.0 ≡ serial) × (x.1 ≡ at) × (word_at k.image x.1 ≡ Some x.2)
fetched_parts k serial at None x f e = cc
fetched_parts k serial at (Some word) x f e =
    let same = some_same (serial, at, word) x e in
    let address = ap (λ (y : Name). y.1) (sym same) in
    (ap (λ (y : Name). y.0) (sym same), address, ap (word_at k.image) address ∙ f ∙ ap (λ (y : Name). Some y.2) same)

pub is_fetched : (k : Setting) (earlier : List Row) (x : Name) → new_cell k earlier ≡ Some x → IsFetched k earlier x
is_fetched k earlier x e =
    let p = fetched_parts k (next_serial k earlier) (fetch_address k earlier) (word_at k.image (fetch_address k earlier)) x refl e in
    record { serial = p.0; address = p.1; word = p.2 }
