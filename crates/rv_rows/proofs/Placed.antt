-- Names in their places: the place of each is the count of names above it, from that of the oldest on.
use Rattle.std.proofs.Common.{◌≡◌, ℕ, zero, suc, ◌+◌, ◌<◌, ◌≤◌, List, [], ◌∷◌, drop, Option, Some, None, Bool, true, false, refl, sym, ap, ◌∙◌, subst, arith, inl, inr}
use Rattle.std.specs.Prelude.{if◌then◌else◌, slice_get}
use Rattle.std.proofs.lemmas.Bool.{cases_lt}
use Rattle.rv_seq.specs.Steps.{word_at}
use Rattle.rv_trace.specs.declared.row.Cell.{Cell}
use Rattle.rv_trace.specs.declared.row.Row.{Row}
use Rattle.rv_trace.specs.Trace.{has_serial, is_flushed, place}
use Rattle.rv_trace.specs.RowParts.{Name, name_of, names_of, stays, leaves, InStage, MovesInto}
use Rattle.rv_lawful.specs.Settings.{Setting}
use Rattle.rv_rows.specs.Facts.{cells_in}
use Rattle.rv_rows.proofs.Places.{FlushesFrom, place_suc, place_over_one, place_over, place_le, place_lt, lower_place, one_place, place_kept, unflushed_more, flushed_now, flushed_before}
use Rattle.rv_rows.proofs.Coming.{Fate, gone, kept, left, fate, some_same}

-- how many names there are
abbrev pub count : List (Option Name) → ℕ
count [] = 0
count (None ∷ older) = count older
count (Some n ∷ older) = suc (count older)

abbrev pub one : Option Name → ℕ
one None = 0
one (Some n) = 1

pub counted : (cells : List (Option Cell)) → count (names_of cells) ≡ cells_in cells
counted [] = refl
counted (None ∷ older) = counted older
counted (Some c ∷ older) = ap suc (counted older)

-- a name in this place, with the word at its address
pub record IsIn (k : Setting) (rows : List Row) (p : ℕ) (n : Name) : Type 0 where
  pub placed : place rows n.0 ≡ p
  pub unflushed : is_flushed rows n.0 ≡ false
  pub word : word_at k.image n.1 ≡ Some n.2

-- each name is in its place, where the oldest has this one
abbrev pub AreIn : Setting → List Row → ℕ → List (Option Name) → Type 0
AreIn k rows r [] = Unit {0}
AreIn k rows r (None ∷ older) = AreIn k rows r older
AreIn k rows r (Some n ∷ older) = IsIn k rows (r + count older) n × AreIn k rows r older

-- a name, where there is one, is in this place
abbrev pub MayBeIn : Setting → List Row → ℕ → Option Name → Type 0
MayBeIn k rows p None = Unit {0}
MayBeIn k rows p (Some n) = IsIn k rows p n

pub is_in : (k : Setting) (rows : List Row) (r : ℕ) (cells : List (Option Cell)) (stage : ℕ) (c : Cell) → AreIn k rows r (names_of cells) → slice_get cells stage ≡ Some (Some c)
    → IsIn k rows (r + count (names_of (drop (suc stage) cells))) (c.serial, c.at, c.word)
is_in k rows r [] stage c h e = cc
is_in k rows r (None ∷ older) zero c h e = cc
is_in k rows r (Some d ∷ older) zero c h e =
    let same : d ≡ c = some_same d c (some_same (Some d) (Some c) e) in
    subst (λ (x : Cell). IsIn k rows (r + count (names_of older)) (x.serial, x.at, x.word)) same h.0
is_in k rows r (None ∷ older) (suc stage) c h e = is_in k rows r older stage c h e
is_in k rows r (Some d ∷ older) (suc stage) c h e = is_in k rows r older stage c h.1 e

-- the cell of a place
pub cell_of : (k : Setting) (rows : List Row) (r j : ℕ) (cells : List (Option Cell)) → AreIn k rows r (names_of cells) → is_flushed rows j ≡ false → r ≤ place rows j → place rows j < r + count (names_of cells)
    → (stage : ℕ) × (c : Cell) × (slice_get cells stage ≡ Some (Some c)) × (c.serial ≡ j)
cell_of k rows r j [] h alive le lt = absurd (omega (arith, le, lt))
cell_of k rows r j (None ∷ older) h alive le lt = let t = cell_of k rows r j older h alive le lt in (suc t.0, t.1, t.2, t.3)
cell_of k rows r j (Some c ∷ older) h alive le lt =
    elim (cases_lt (place rows j) (r + count (names_of older))) [
      | inl less ↦ let u = cell_of k rows r j older h.1 alive le less in (suc u.0, u.1, u.2, u.3)
      | inr more ↦ let p = h.0.placed in (0, c, refl, one_place rows c.serial j h.0.unflushed alive (omega (arith, p, lt, more)))
    ]

-- ---- what a row leaves of its cells

-- how many cells the row does not flush
abbrev pub live : Row → List (Option Cell) → ℕ
live row [] = 0
live row (None ∷ older) = live row older
live row (Some c ∷ older) = if has_serial row.flushed c.serial then live row older else suc (live row older)

pub live_gone : (row : Row) (c : Cell) (older : List (Option Cell)) → has_serial row.flushed c.serial ≡ true → live row (Some c ∷ older) ≡ live row older
live_gone row c older e = ap (λ (b : Bool). if b then live row older else suc (live row older)) e

pub live_more : (row : Row) (c : Cell) (older : List (Option Cell)) → has_serial row.flushed c.serial ≡ false → live row (Some c ∷ older) ≡ suc (live row older)
live_more row c older e = ap (λ (b : Bool). if b then live row older else suc (live row older)) e

-- one cell more
place_one : (k : Setting) (rows : List Row) (r : ℕ) (row : Row) (c : Cell) (older : List (Option Cell)) (s : ℕ) → IsIn k rows (r + count (names_of older)) (c.serial, c.at, c.word) → place (row ∷ rows) c.serial ≡ r + live row older
    → place rows s ≡ r + suc (count (names_of older)) → place (row ∷ rows) s ≡ r + live row (Some c ∷ older)
place_one k rows r row c older s h q e = place_over (row ∷ rows) (suc c.serial) s (lower_place rows c.serial s (omega (arith, e, p))) between ∙ by_test (has_serial row.flushed c.serial) refl where
  p : place rows c.serial ≡ r + count (names_of older)
  p = h.placed

  between : (j : ℕ) → suc c.serial ≤ j → j < s → is_flushed (row ∷ rows) j ≡ true
  between j low lt = by_case (is_flushed rows j) refl where
    by_case : (b : Bool) → is_flushed rows j ≡ b → is_flushed (row ∷ rows) j ≡ true
    by_case true g = flushed_before row rows j g
    by_case false g =
        let a = place_lt rows j s g lt in
        let b = place_le rows (suc c.serial) j low in
        let d = place_suc rows c.serial h.unflushed in
        absurd (omega (arith, a, b, d, p, e))

  by_test : (b : Bool) → has_serial row.flushed c.serial ≡ b → place (row ∷ rows) (suc c.serial) ≡ r + live row (Some c ∷ older)
  by_test true g = place_over_one (row ∷ rows) c.serial (flushed_now row rows c.serial g) ∙ q ∙ ap (λ n. r + n) (sym (live_gone row c older g))
  by_test false g =
      let z : suc (r + live row older) ≡ r + suc (live row older) = omega arith in
      place_suc (row ∷ rows) c.serial (unflushed_more row rows c.serial g h.unflushed) ∙ ap suc q ∙ z ∙ ap (λ n. r + n) (sym (live_more row c older g))

-- what stands behind cells in their places has as place, after the row, the count of those that are not flushed
pub place_now : (k : Setting) (rows : List Row) (r : ℕ) (row : Row) (cells : List (Option Cell)) (s : ℕ) → FlushesFrom rows r row → AreIn k rows r (names_of cells) → place rows s ≡ r + count (names_of cells)
    → place (row ∷ rows) s ≡ r + live row cells
place_now k rows r row [] s f h e = place_kept row rows r s f (omega (arith, e)) ∙ e
place_now k rows r row (None ∷ older) s f h e = place_now k rows r row older s f h e
place_now k rows r row (Some c ∷ older) s f h e = place_one k rows r row c older s h.0 (place_now k rows r row older c.serial f h.1 h.0.placed) e

-- each cell that is not flushed is in its place after the row
abbrev pub Lives : Setting → List Row → ℕ → Row → List (Option Cell) → Type 0
Lives k rows r row [] = Unit {0}
Lives k rows r row (None ∷ older) = Lives k rows r row older
Lives k rows r row (Some c ∷ older) = (has_serial row.flushed c.serial ≡ false → IsIn k rows (r + live row older) (c.serial, c.at, c.word)) × Lives k rows r row older

pub lives : (k : Setting) (rows : List Row) (r : ℕ) (row : Row) (cells : List (Option Cell)) → FlushesFrom rows r row → AreIn k rows r (names_of cells) → Lives k (row ∷ rows) r row cells
lives k rows r row [] f h = tt
lives k rows r row (None ∷ older) f h = lives k rows r row older f h
lives k rows r row (Some c ∷ older) f h = (alive, lives k rows r row older f h.1) where
  alive : has_serial row.flushed c.serial ≡ false → IsIn k (row ∷ rows) (r + live row older) (c.serial, c.at, c.word)
  alive g = record { placed = place_now k rows r row older c.serial f h.1 h.0.placed; unflushed = unflushed_more row rows c.serial g h.0.unflushed; word = h.0.word }

-- ---- moves

-- what leaves the last of these stages
abbrev pub out : Row → Option Name → List (Option Cell) → Option Name
out row came [] = came
out row came (was ∷ before) = out row (leaves row was) before

counts : (came now : Option Name) (later : List (Option Name)) → now ≡ came → count (now ∷ later) ≡ one came + count later
counts None now later e = ap (λ o. count (o ∷ later)) e ∙ omega arith
counts (Some n) now later e = ap (λ o. count (o ∷ later)) e ∙ omega arith

held_counts : (n : Name) (came now : Option Name) (later : List (Option Name)) → InStage (Some n) came now → (one came ≡ 0) × (count (now ∷ later) ≡ suc (count later))
held_counts n None now later e = (refl, ap (λ o. count (o ∷ later)) e)
held_counts n (Some m) now later e = absurd e

count_one : (row : Row) (came now : Option Name) (c : Cell) (before : List (Option Cell)) (later : List (Option Name)) → InStage (stays row (Some c)) came now
    → count later + one (out row (leaves row (Some c)) before) ≡ one (leaves row (Some c)) + live row before → count (now ∷ later) + one (out row (leaves row (Some c)) before) ≡ one came + live row (Some c ∷ before)
count_one row came now c before later h rest = by_fate (fate row c) where
  by_fate : Fate row c → count (now ∷ later) + one (out row (leaves row (Some c)) before) ≡ one came + live row (Some c ∷ before)
  by_fate (gone g s l) =
      let a = ap one l in
      let b = counts came now later (subst (λ o. InStage o came now) s h) in
      let d = live_gone row c before g in
      omega (arith, a, b, d, rest)
  by_fate (left g f s l) =
      let a = ap one l in
      let b = counts came now later (subst (λ o. InStage o came now) s h) in
      let d = live_more row c before g in
      omega (arith, a, b, d, rest)
  by_fate (kept g f s l) =
      let a = ap one l in
      let b = held_counts (c.serial, c.at, c.word) came now later (subst (λ o. InStage o came now) s h) in
      let b0 = b.0 in
      let b1 = b.1 in
      let d = live_more row c before g in
      omega (arith, a, b0, b1, d, rest)

-- what comes in and what is there is what is there then, and what goes out
pub moved_count : (row : Row) (came : Option Name) (cells : List (Option Cell)) (names : List (Option Name)) → MovesInto row came cells names → count names + one (out row came cells) ≡ one came + live row cells
moved_count row came [] [] h = omega arith
moved_count row came [] (now ∷ later) h = absurd h
moved_count row came (was ∷ before) [] h = absurd h
moved_count row came (None ∷ before) (now ∷ later) h = let m = moved_count row None before later h.1 in let c = counts came now later h.0 in omega (arith, m, c)
moved_count row came (Some c ∷ before) (now ∷ later) h = count_one row came now c before later h.0 (moved_count row (leaves row (Some c)) before later h.1)

-- one more stage
one_more_in : (k : Setting) (rows : List Row) (r p : ℕ) (came now : Option Name) (later : List (Option Name)) → now ≡ came → MayBeIn k rows p came → p ≡ r + count later → AreIn k rows r later → AreIn k rows r (now ∷ later)
one_more_in k rows r p came now later e m q h = subst (λ o. AreIn k rows r (o ∷ later)) (sym e) (by_case came m) where
  by_case : (came : Option Name) → MayBeIn k rows p came → AreIn k rows r (came ∷ later)
  by_case None m = h
  by_case (Some n) m = (subst (λ z. IsIn k rows z n) q m, h)

stage_in : (k : Setting) (rows : List Row) (r : ℕ) (row : Row) (came now : Option Name) (c : Cell) (before : List (Option Cell)) (later : List (Option Name)) → Lives k rows r row (Some c ∷ before)
    → MayBeIn k rows (r + live row (Some c ∷ before)) came → InStage (stays row (Some c)) came now → count later + one (out row (leaves row (Some c)) before) ≡ one (leaves row (Some c)) + live row before
    → (MayBeIn k rows (r + live row before) (leaves row (Some c)) → AreIn k rows (r + one (out row (leaves row (Some c)) before)) later) → AreIn k rows (r + one (out row (leaves row (Some c)) before)) (now ∷ later)
stage_in k rows r row came now c before later a m h count_is rest = by_fate (fate row c) where
  from : (l : Option Name) → leaves row (Some c) ≡ l → MayBeIn k rows (r + live row before) l → AreIn k rows (r + one (out row (leaves row (Some c)) before)) later
  from l e i = rest (subst (λ o. MayBeIn k rows (r + live row before) o) (sym e) i)

  held_in : (came : Option Name) → InStage (name_of (Some c)) came now → now ≡ name_of (Some c)
  held_in None e = e
  held_in (Some m) e = absurd e

  by_fate : Fate row c → AreIn k rows (r + one (out row (leaves row (Some c)) before)) (now ∷ later)
  by_fate (gone g s l) =
      let d = live_gone row c before g in
      let x = ap one l in
      one_more_in k rows (r + one (out row (leaves row (Some c)) before)) (r + live row (Some c ∷ before)) came now later (subst (λ o. InStage o came now) s h) m (omega (arith, d, x, count_is)) (from None l tt)
  by_fate (left g f s l) =
      let d = live_more row c before g in
      let x = ap one l in
      one_more_in k rows (r + one (out row (leaves row (Some c)) before)) (r + live row (Some c ∷ before)) came now later (subst (λ o. InStage o came now) s h) m (omega (arith, d, x, count_is))
      (from (Some (c.serial, c.at, c.word)) l (a.0 g))
  by_fate (kept g f s l) =
      let x = ap one l in
      one_more_in k rows (r + one (out row (leaves row (Some c)) before)) (r + live row before) (name_of (Some c)) now later (held_in came (subst (λ o. InStage o came now) s h)) (a.0 g) (omega (arith, x, count_is)) (from None l tt)

-- what is in its place before the moves is in its place after them
pub moved_in : (k : Setting) (rows : List Row) (r : ℕ) (row : Row) (came : Option Name) (cells : List (Option Cell)) (names : List (Option Name)) → Lives k rows r row cells → MayBeIn k rows (r + live row cells) came
    → MovesInto row came cells names → AreIn k rows (r + one (out row came cells)) names
moved_in k rows r row came [] [] a m h = tt
moved_in k rows r row came [] (now ∷ later) a m h = absurd h
moved_in k rows r row came (was ∷ before) [] a m h = absurd h
moved_in k rows r row came (None ∷ before) (now ∷ later) a m h =
    let c = moved_count row None before later h.1 in
    one_more_in k rows (r + one (out row None before)) (r + live row before) came now later h.0 m (omega (arith, c)) (moved_in k rows r row None before later a tt h.1)
moved_in k rows r row came (Some c ∷ before) (now ∷ later) a m h =
    stage_in k rows r row came now c before later a m h.0 (moved_count row (leaves row (Some c)) before later h.1) (λ i. moved_in k rows r row (leaves row (Some c)) before later a.1 i h.1)
