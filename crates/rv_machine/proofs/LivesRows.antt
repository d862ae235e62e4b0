-- Where a cell of a row stood in the row before, by the laws of rows.
use Rattle.std.proofs.Common.{◌≡◌, ℕ, zero, suc, ◌<◌, ◌≤◌, ◌^◌, List, [], ◌∷◌, take, replicate, Option, Some, None, Bool, true, false, refl, sym, ap, ◌∙◌, subst, arith, inl, inr, ◌⊎◌}
use Rattle.std.specs.Prelude.{◌&&◌, ◌||◌, not, if◌then◌else◌, is_some, slice_get}
use Rattle.std.proofs.lemmas.Bool.{cases_lt}
use Rattle.std.proofs.lemmas.Option.{same_Some}
use Rattle.rv_trace.specs.declared.row.Cell.{Cell}
use Rattle.rv_trace.specs.declared.row.Row.{Row}
use Rattle.rv_trace.specs.Trace.{has_serial, newest}
use Rattle.rv_trace.specs.RowParts.{Name, name_of, names_of, stays, leaves, front, fetched, comes, serial_after, InStage, MovesInto}
use Rattle.rv_lawful.specs.Settings.{Setting, stages_of, Stands}
use Rattle.rv_lawful.specs.LawfulTrace.{IsWordOf, next_serial}
use Rattle.rv_machine.proofs.LivesFrame.{IsFramed, Framed}
use Rattle.rv_seq.specs.Steps.{word_at}

-- ---- from one list of cells to the next

-- a name in a stage: its cell was held there, and then nothing came from the stage below, or it came from the stage below, or into the first of these stages
pub data Came (row : Row) (came : Option Name) (was : List (Option Cell)) (n : ℕ) (x : Name) : Type 0 where
  stayed : (c : Cell) → slice_get was n ≡ Some (Some c) → stays row (Some c) ≡ Some x → ((i : ℕ) (o : Option Cell) → suc i ≡ n → slice_get was i ≡ Some o → leaves row o ≡ None) → (n ≡ 0 → came ≡ None) → Came row came was n x
  went : (i : ℕ) → suc i ≡ n → (c : Cell) → slice_get was i ≡ Some (Some c) → leaves row (Some c) ≡ Some x → Came row came was n x
  fresh : n ≡ 0 → came ≡ Some x → Came row came was n x

some_same : {A : Type 0} (x y : A) → ◌≡◌ {A = Option A} (Some x) (Some y) → x ≡ y
some_same x y e = same_Some x y e

no_zero : (n : ℕ) → suc n ≡ 0 → ⊥
no_zero n e = omega (arith, e)

came_at : (row : Row) (came : Option Name) (was : List (Option Cell)) (now : List (Option Name)) → MovesInto row came was now → (n : ℕ) (x : Name) → slice_get now n ≡ Some (Some x) → Came row came was n x
came_at row came [] [] h n x e = cc
came_at row came [] (b ∷ now) h n x e = absurd h
came_at row came (a ∷ was) [] h n x e = absurd h
came_at row came (a ∷ was) (b ∷ now) h zero x e = by_cell a h.0 where
  here : b ≡ Some x
  here = some_same b (Some x) e

  by_cell : (a : Option Cell) → InStage (stays row a) came b → Came row came (a ∷ was) 0 x
  by_cell None q = fresh refl (sym q ∙ here)
  by_cell (Some c) q = by_stay (stays row (Some c)) refl came refl q where
    by_stay : (s : Option Name) → stays row (Some c) ≡ s → (come : Option Name) → came ≡ come → InStage s come b → Came row came (Some c ∷ was) 0 x
    by_stay None g come f r = fresh refl (f ∙ sym r ∙ here)
    by_stay (Some y) g None f r = stayed c refl (g ∙ sym r ∙ here) (λ i o z t. absurd (no_zero i z)) (λ z. f)
    by_stay (Some y) g (Some m) f r = absurd r
came_at row came (a ∷ was) (b ∷ now) h (suc n) x e = one_further (came_at row (leaves row a) was now h.1 n x e) where
  one_further : Came row (leaves row a) was n x → Came row came (a ∷ was) (suc n) x
  one_further (stayed c g s alone none) = stayed c g s further (λ z. absurd (no_zero n z)) where
    further : (i : ℕ) (o : Option Cell) → suc i ≡ suc n → slice_get (a ∷ was) i ≡ Some o → leaves row o ≡ None
    further zero o z t = ap (leaves row) (sym (some_same a o t)) ∙ none (omega (arith, z))
    further (suc i) o z t = alone i o (omega (arith, z)) t
  one_further (went i z c g l) = went (suc i) (ap suc z) c g l
  one_further (fresh z f) = from_first a f where
    from_first : (o : Option Cell) → leaves row o ≡ Some x → Came row came (o ∷ was) (suc n) x
    from_first None q = cc
    from_first (Some c) q = went 0 (ap suc (sym z)) c refl q

-- ---- names

-- what is held is not flushed, and keeps its name
pub record IsHeld (row : Row) (c : Cell) : Type 0 where
  pub held : is_some c.hold ≡ true
  pub kept : has_serial row.flushed c.serial ≡ false

stays_held : (row : Row) (c : Cell) (x : Name) → stays row (Some c) ≡ Some x → IsHeld row c × (name_of (Some c) ≡ Some x)
stays_held row c x e = by_test (is_some c.hold) (has_serial row.flushed c.serial) refl refl e where
  by_test : (a b : Bool) → is_some c.hold ≡ a → has_serial row.flushed c.serial ≡ b → (if a && not b then name_of (Some c) else None) ≡ Some x → IsHeld row c × (name_of (Some c) ≡ Some x)
  by_test true false f g q = (record { held = f; kept = g }, q)
  by_test true true f g q = cc
  by_test false b f g q = cc

leaves_free : (row : Row) (c : Cell) (x : Name) → leaves row (Some c) ≡ Some x → (is_some c.hold ≡ false) × (name_of (Some c) ≡ Some x)
leaves_free row c x e = by_test (is_some c.hold) (has_serial row.flushed c.serial) refl e where
  by_test : (a b : Bool) → is_some c.hold ≡ a → (if a || b then None else name_of (Some c)) ≡ Some x → (is_some c.hold ≡ false) × (name_of (Some c) ≡ Some x)
  by_test false false f q = (f, q)
  by_test false true f q = cc
  by_test true b f q = cc

-- what is held does not leave
pub held_stays : (row : Row) (c : Cell) → is_some c.hold ≡ true → leaves row (Some c) ≡ None
held_stays row c e = ap (λ (a : Bool). if a || has_serial row.flushed c.serial then None else name_of (Some c)) e

serial_in : Option Name → ℕ
serial_in None = 0
serial_in (Some x) = x.0

word_in : Option Name → ℕ
word_in None = 0
word_in (Some x) = x.2

same_serial : (b c : Cell) → name_of (Some b) ≡ name_of (Some c) → b.serial ≡ c.serial
unfolding serial_in
same_serial b c e = ap serial_in e

same_word : (b c : Cell) → name_of (Some b) ≡ name_of (Some c) → b.word ≡ c.word
unfolding word_in
same_word b c e = ap word_in e

named_at : (l : List (Option Cell)) (n : ℕ) (o : Option Cell) → slice_get l n ≡ Some o → slice_get (names_of l) n ≡ Some (name_of o)
named_at [] n o e = cc
named_at (a ∷ l) zero o e = ap (λ z. Some (name_of z)) (some_same a o e)
named_at (a ∷ l) (suc n) o e = named_at l n o e

-- ---- rows

-- nothing stands in the row before the first one
abbrev no_cell : Option Cell
no_cell = None

none_stands : (n i m : ℕ) (c : Cell) → slice_get (take n (replicate m no_cell)) i ≡ Some (Some c) → ⊥
none_stands zero i m c e = cc
none_stands (suc n) i zero c e = cc
none_stands (suc n) zero (suc m) c e = cc
none_stands (suc n) (suc i) (suc m) c e = none_stands n i m c e

pub none_before : (k : Setting) (i : ℕ) (c : Cell) → Stands k (newest []) i c → ⊥
none_before k i c e = none_stands k.shape.stages i 5 c e

-- a cell of a row: it was held in its stage in the row before, and then nothing came behind it, or it came from the stage below, or it is fetched
pub data Before (k : Setting) (earlier : List Row) (n : ℕ) (c : Cell) : Type 0 where
  held : (b : Cell) → Stands k (newest earlier) n b → b.serial ≡ c.serial → b.word ≡ c.word → IsHeld (newest earlier) b
      → ((i : ℕ) (o : Option Cell) → suc i ≡ n → slice_get (stages_of k (newest earlier)) i ≡ Some o → leaves (newest earlier) o ≡ None) → Before k earlier n c
  went : (i : ℕ) → suc i ≡ n → (b : Cell) → Stands k (newest earlier) i b → b.serial ≡ c.serial → b.word ≡ c.word → is_some b.hold ≡ false → leaves (newest earlier) (Some b) ≡ name_of (Some c) → Before k earlier n c
  new : n ≡ 0 → c.serial ≡ next_serial k earlier → (a : ℕ) × (word_at k.image a ≡ Some c.word) → Before k earlier n c

new_serial : (o n : Option Name) (x : Name) → comes o n ≡ Some x → n ≡ Some x
new_serial None n x e = e
new_serial (Some y) n x e = cc

fetched_serial : (serial at : ℕ) (o : Option ℕ) (x : Name) → fetched serial at o ≡ Some x → x.0 ≡ serial
fetched_serial serial at None x e = cc
fetched_serial serial at (Some word) x e = ap (λ (y : Name). y.0) (sym (some_same (serial, at, word) x e))

fetched_word : (serial at : ℕ) (o : Option ℕ) (x : Name) → fetched serial at o ≡ Some x → o ≡ Some x.2
fetched_word serial at None x e = cc
fetched_word serial at (Some word) x e = ap (λ (y : Name). Some y.2) (some_same (serial, at, word) x e)

pub stood : (k : Setting) (earlier : List Row) (row : Row) → IsFramed k earlier row → (n : ℕ) (c : Cell) → Stands k row n c → Before k earlier n c
stood k earlier row h n c e = by_case (came_at (newest earlier) (comes (stays (newest earlier) (front (stages_of k (newest earlier)))) (fetched (next_serial k earlier) h.address (word_at k.image h.address))) (stages_of k (newest earlier)) (names_of (stages_of k row)) h.moves n (c.serial, c.at, c.word) (named_at (stages_of k row) n (Some c) e)) where
  by_case : Came (newest earlier) (comes (stays (newest earlier) (front (stages_of k (newest earlier)))) (fetched (next_serial k earlier) h.address (word_at k.image h.address))) (stages_of k (newest earlier)) n (c.serial, c.at, c.word) → Before k earlier n c
  by_case (stayed b g s alone none) =
      let x = stays_held (newest earlier) b (c.serial, c.at, c.word) s in
      held b g (same_serial b c x.1) (same_word b c x.1) x.0 alone
  by_case (went i z b g l) =
      let x = leaves_free (newest earlier) b (c.serial, c.at, c.word) l in
      went i z b g (same_serial b c x.1) (same_word b c x.1) x.0 l
  by_case (fresh z f) =
      let x : Name = (c.serial, c.at, c.word) in
      let f2 : fetched (next_serial k earlier) h.address (word_at k.image h.address) ≡ Some x = new_serial (stays (newest earlier) (front (stages_of k (newest earlier)))) (fetched (next_serial k earlier) h.address (word_at k.image h.address)) x f in
      new z (fetched_serial (next_serial k earlier) h.address (word_at k.image h.address) x f2) (h.address, fetched_word (next_serial k earlier) h.address (word_at k.image h.address) x f2)

-- ---- serials fall from stage to stage

pub record IsOrdered (k : Setting) (rows : List Row) : Type 0 where
  pub below : (n : ℕ) (c : Cell) → Stands k (newest rows) n c → c.serial < next_serial k rows
  pub falls : (a b : ℕ) (c d : Cell) → a < b → Stands k (newest rows) a c → Stands k (newest rows) b d → d.serial < c.serial
  pub first : (c : Cell) → Stands k (newest rows) 0 c → next_serial k rows ≡ suc c.serial

-- in one stage there is one cell
pub one_cell : (k : Setting) (row : Row) (a b : ℕ) (c d : Cell) → a ≡ b → Stands k row a c → Stands k row b d → c ≡ d
one_cell k row a b c d z e f = some_same c d (some_same (Some c) (Some d) (sym e ∙ ap (λ i. slice_get (stages_of k row) i) z ∙ f))

is_held_free : (c d : Cell) → c ≡ d → is_some c.hold ≡ true → is_some d.hold ≡ false → ⊥
is_held_free c d e h f = different (sym h ∙ ap (λ (x : Cell). is_some x.hold) e ∙ f) where
  different : true ≡ false → ⊥
  different q = cc

front_is : (l : List (Option Cell)) (o : Option Cell) → slice_get l 0 ≡ Some o → front l ≡ o
front_is [] o e = cc
front_is (a ∷ l) o e = some_same a o e

front_there : (l : List (Option Cell)) (f : Cell) → front l ≡ Some f → slice_get l 0 ≡ Some (Some f)
front_there [] f q = cc
front_there (a ∷ l) f q = ap (λ o. Some o) q

module _ (k : Setting) (row : Row) (earlier : List Row) (moves : IsFramed k earlier row) (before : IsOrdered k earlier) where
  -- the serial is that of a fetch before this one, where it is not new
  was_below : (n : ℕ) (c : Cell) → Before k earlier n c → (c.serial < next_serial k earlier) ⊎ ((n ≡ 0) × (c.serial ≡ next_serial k earlier))
  was_below n c (held b g s w h alone) = (let l = before.below n b g in inl (omega (arith, l, s)))
  was_below n c (went i z b g s w h l) = (let q = before.below i b g in inl (omega (arith, q, s)))
  was_below n c (new z s o) = inr (z, s)

  -- of two that are not new
  old_falls : (a b : ℕ) (c d : Cell) → a < b → Before k earlier a c → Before k earlier b d → d.serial < c.serial
  old_falls a b c d lt (new z s o) y = elim (was_below b d y) [ inl l ↦ omega (arith, l, s) | inr q ↦ (let q0 = q.0 in absurd (omega (arith, q0, lt))) ]
  old_falls a b c d lt x (new z s o) = absurd (omega (arith, z, lt))
  old_falls a b c d lt (held e g s w h alone) (held f g2 s2 w2 h2 alone2) = (let l = before.falls a b e f lt g g2 in omega (arith, l, s, s2))
  old_falls a b c d lt (went i z e g s w h l) (held f g2 s2 w2 h2 alone2) = (let q = before.falls i b e f (omega (arith, z, lt)) g g2 in omega (arith, q, s, s2))
  old_falls a b c d lt (went i z e g s w h l) (went j z2 f g2 s2 w2 h2 l2) = (let q = before.falls i j e f (omega (arith, z, z2, lt)) g g2 in omega (arith, q, s, s2))
  old_falls a b c d lt (held e g s w h alone) (went j z f g2 s2 w2 h2 l2) = elim (cases_lt a j) [
    | inl less ↦ (let l = before.falls a j e f less g g2 in omega (arith, l, s, s2))
    | inr le ↦ absurd (is_held_free e f (one_cell k (newest earlier) a j e f (omega (arith, z, lt, le)) g g2) h.held h2)
  ]

  falls_now : (a b : ℕ) (c d : Cell) → a < b → Stands k row a c → Stands k row b d → d.serial < c.serial
  falls_now a b c d lt e f = old_falls a b c d lt (stood k earlier row moves a c e) (stood k earlier row moves b d f)

  -- the next serial is that behind the cell of stage 0, where one is there
  first_now : (c : Cell) → Stands k row 0 c → next_serial k (row ∷ earlier) ≡ suc c.serial
  unfolding next_serial
  first_now c e = ap (λ o. serial_after (next_serial k earlier) o) (front_is (stages_of k row) (Some c) e)

  none_now : front (stages_of k row) ≡ None → next_serial k (row ∷ earlier) ≡ next_serial k earlier
  unfolding next_serial
  none_now q = ap (λ o. serial_after (next_serial k earlier) o) q

  -- it is above that of each cell
  below_now : (n : ℕ) (c : Cell) → Stands k row n c → c.serial < next_serial k (row ∷ earlier)
  below_now zero c e = (let f = first_now c e in omega (arith, f))
  below_now (suc n) c e = by_first (front (stages_of k row)) refl where
    by_first : (o : Option Cell) → front (stages_of k row) ≡ o → c.serial < next_serial k (row ∷ earlier)
    by_first None q = (let f = none_now q in elim (was_below (suc n) c (stood k earlier row moves (suc n) c e)) [ inl l ↦ omega (arith, l, f) | inr y ↦ absurd (no_zero n (y.0)) ])
    by_first (Some b) q =
        let there = front_there (stages_of k row) b q in
        let f = first_now b there in
        let l = falls_now 0 (suc n) b c (omega arith) there e in
        omega (arith, f, l)

  -- and not below the one before
  pub next_above : next_serial k earlier ≤ next_serial k (row ∷ earlier)
  next_above = by_first (front (stages_of k row)) refl where
    by_before : (b : Cell) → Before k earlier 0 b → next_serial k earlier ≤ suc b.serial
    by_before b (held c g s w h alone) = (let f = before.first c g in omega (arith, f, s))
    by_before b (went i z c g s w h l) = absurd (no_zero i z)
    by_before b (new z s o) = omega (arith, s)

    by_first : (o : Option Cell) → front (stages_of k row) ≡ o → next_serial k earlier ≤ next_serial k (row ∷ earlier)
    by_first None q = (let f = none_now q in omega (arith, f))
    by_first (Some b) q =
        let there = front_there (stages_of k row) b q in
        let f = first_now b there in
        let l = by_before b (stood k earlier row moves 0 b there) in
        omega (arith, f, l)

  pub ordered_next : IsOrdered k (row ∷ earlier)
  ordered_next = record { below = below_now; falls = falls_now; first = first_now }

  -- a row has a serial either from before or for the first time
  pub serial_before : (n : ℕ) (c : Cell) → Stands k row n c → next_serial k earlier ≤ c.serial → n ≡ 0
  serial_before n c e le = elim (was_below n c (stood k earlier row moves n c e)) [ inl l ↦ absurd (omega (arith, l, le)) | inr y ↦ y.0 ]

pub ordered : (k : Setting) (rows : List Row) → Framed k rows → IsOrdered k rows
ordered k [] h = record { below = λ n c e. absurd (none_before k n c e); falls = λ a b c d lt e f. absurd (none_before k a c e); first = λ c e. absurd (none_before k 0 c e) }
ordered k (row ∷ earlier) h = ordered_next k row earlier h.0 (ordered k earlier h.2)

-- ---- a serial has one word

-- what was named is below the next serial
pub known_below : (k : Setting) (rows : List Row) → Framed k rows → (s word : ℕ) → IsWordOf k rows s word → s < next_serial k rows
known_below k [] h s word y = absurd y
known_below k (row ∷ earlier) h s word (inl y) = (let l = (ordered k (row ∷ earlier) h).below y.0 y.1 y.2 in let q = y.3 in omega (arith, l, q))
known_below k (row ∷ earlier) h s word (inr y) = (let l = known_below k earlier h.2 s word y in let q = next_above k row earlier h.0 (ordered k earlier h.2) in omega (arith, l, q))

-- a cell of the newest row has its word in these rows
pub known_newest : (k : Setting) (rows : List Row) (n : ℕ) (c : Cell) (s word : ℕ) → Stands k (newest rows) n c → c.serial ≡ s → c.word ≡ word → IsWordOf k rows s word
known_newest k [] n c s word e f g = absurd (none_before k n c e)
known_newest k (row ∷ earlier) n c s word e f g = inl (n, c, e, f, g)

one_in_row : (k : Setting) (rows : List Row) → IsOrdered k rows → (a b : ℕ) (c d : Cell) → Stands k (newest rows) a c → Stands k (newest rows) b d → c.serial ≡ d.serial → a ≡ b
one_in_row k rows h a b c d e f s = elim (cases_lt a b) [
  | inl lt ↦ (let l = h.falls a b c d lt e f in absurd (omega (arith, l, s)))
  | inr le ↦ elim (cases_lt b a) [
    | inl lt ↦ (let l = h.falls b a d c lt f e in absurd (omega (arith, l, s)))
    | inr ge ↦ omega (arith, le, ge)
  ]
]

-- a cell of a row whose serial was there before had its word before
carried_word : (k : Setting) (row : Row) (earlier : List Row) → Framed k (row ∷ earlier) → (s v : ℕ) → ((n : ℕ) × (c : Cell) × Stands k row n c × (c.serial ≡ s) × (c.word ≡ v)) → (w : ℕ) → IsWordOf k earlier s w → IsWordOf k earlier s v
carried_word k row earlier h s v y w z = by_before (stood k earlier row h.0 y.0 y.1 y.2) where
  by_before : Before k earlier y.0 y.1 → IsWordOf k earlier s v
  by_before (held b g e f q alone) = known_newest k earlier y.0 b s v g (e ∙ y.3) (f ∙ y.4)
  by_before (went i q b g e f t l) = known_newest k earlier i b s v g (e ∙ y.3) (f ∙ y.4)
  by_before (new q e o) = (let l = known_below k earlier h.2 s w z in let t = y.3 in absurd (omega (arith, l, e, t)))

pub one_word : (k : Setting) (rows : List Row) → Framed k rows → (s v w : ℕ) → IsWordOf k rows s v → IsWordOf k rows s w → v ≡ w
one_word k [] h s v w y z = absurd y
one_word k (row ∷ earlier) h s v w (inr y) (inr z) = one_word k earlier h.2 s v w y z
one_word k (row ∷ earlier) h s v w (inl y) (inl z) =
    let a = one_in_row k (row ∷ earlier) (ordered k (row ∷ earlier) h) y.0 z.0 y.1 z.1 y.2 z.2 (y.3 ∙ sym z.3) in
    let same = one_cell k row y.0 z.0 y.1 z.1 a y.2 z.2 in
    sym y.4 ∙ ap (λ (x : Cell). x.word) same ∙ z.4
one_word k (row ∷ earlier) h s v w (inl y) (inr z) = one_word k earlier h.2 s v w (carried_word k row earlier h s v y w z) z
one_word k (row ∷ earlier) h s v w (inr y) (inl z) = one_word k earlier h.2 s v w y (carried_word k row earlier h s w z v y)

-- ---- words are words of the image

cell_below : (k : Setting) (rows : List Row) → ((at word : ℕ) → word_at k.image at ≡ Some word → word < 2 ^ 32) → Framed k rows → (n : ℕ) (c : Cell) → Stands k (newest rows) n c → c.word < 2 ^ 32
cell_below k [] image h n c e = absurd (none_before k n c e)
cell_below k (row ∷ earlier) image h n c e = by_before (stood k earlier row h.0 n c e) (λ i b f. cell_below k earlier image h.2 i b f) where
  by_before : Before k earlier n c → ((i : ℕ) (b : Cell) → Stands k (newest earlier) i b → b.word < 2 ^ 32) → c.word < 2 ^ 32
  by_before (held b f s w g alone) rest = subst (λ z. z < 2 ^ 32) w (rest n b f)
  by_before (went i z b f s w g l) rest = subst (λ z. z < 2 ^ 32) w (rest i b f)
  by_before (new z s o) rest = image o.0 c.word o.1

pub word_below : (k : Setting) (rows : List Row) → ((at word : ℕ) → word_at k.image at ≡ Some word → word < 2 ^ 32) → Framed k rows → (s word : ℕ) → IsWordOf k rows s word → word < 2 ^ 32
word_below k [] image h s word y = absurd y
word_below k (row ∷ earlier) image h s word (inl y) = subst (λ z. z < 2 ^ 32) y.4 (cell_below k (row ∷ earlier) image h y.0 y.1 y.2)
word_below k (row ∷ earlier) image h s word (inr y) = word_below k earlier image h.2 s word y
