-- What is known of all rows that go on, by induction, and what it says of the cells of the next row.
use Rattle.std.proofs.Common.{◌≡◌, ℕ, zero, suc, ◌+◌, ◌<◌, ◌≤◌, List, [], ◌∷◌, drop, take, replicate, length, Option, Some, None, true, false, refl, sym, ap, ◌∙◌, subst, arith, inl, inr, ◌⊎◌}
use Rattle.std.specs.Prelude.{slice_get}
use Rattle.rv_trace.specs.declared.row.Cell.{Cell}
use Rattle.rv_trace.specs.declared.row.Row.{Row}
use Rattle.rv_trace.specs.Trace.{is_flushed, retires, is_retired, place, retirements, newest}
use Rattle.rv_trace.specs.RowParts.{Name, name_of, names_of, stays, front, comes, InStage, MovesInto}
use Rattle.rv_lawful.specs.Settings.{Setting, stages_of, Stands}
use Rattle.rv_lawful.specs.LawfulTrace.{Moves, LawfulRow, Lawful, next_serial, new_cell}
use Rattle.rv_rows.specs.Facts.{IsPlain, AreGoingOn, NextFacts}
use Rattle.rv_rows.proofs.Places.{place_suc, flushed_either}
use Rattle.rv_rows.proofs.Coming.{no_cell, first_held, is_fetched, moves_above, front_there, none_stands}
use Rattle.rv_rows.proofs.Ordered.{IsOrdered, ordered, ordered_next, first_now, none_now, next_above, known_below}
use Rattle.rv_rows.proofs.Placed.{count, one, AreIn, MayBeIn, is_in, live, Lives, lives, place_now, out}
use Rattle.rv_rows.proofs.Flushed.{flushed_cell, flushes_from, Retiring, nothing, leaver, retiring, retired_count}
use Rattle.rv_rows.proofs.KnownRows.{first_past, past_next, retired_step, IsKnown, AboveIn, above_in, first_of, some_stages}
use Rattle.rv_rows.proofs.Tests.{differ, no_some, not_true, same_number, or_true}

-- ---- what was flushed or has retired was seen

retired_here : (k : Setting) (row : Row) (j : ℕ) → Retiring k row → retires row.retired j ≡ true → (stage : ℕ) × (c : Cell) × Stands k row stage c × (c.serial ≡ j)
retired_here k row j (nothing none o) e = absurd (differ (sym (sym (ap (λ x. retires x j) none) ∙ e)))
retired_here k row j (leaver stage c commit last stands is free o) e = (stage, c, stands, same_number c.serial j (sym (ap (λ x. retires x j) is) ∙ e))

first_unflushed : (s : ℕ) → is_flushed [] s ≡ true → ⊥
unfolding is_flushed
first_unflushed s e = cc

first_unretired : (s : ℕ) → is_retired [] s ≡ true → ⊥
unfolding is_retired
first_unretired s e = cc

-- ---- the first row

pub none_live : (k : Setting) (rows : List Row) (r : ℕ) (row : Row) (l : List (Option Cell)) → ((i : ℕ) (c : Cell) → slice_get l i ≡ Some (Some c) → ⊥) → Lives k rows r row l × (live row l ≡ 0) × (out row None l ≡ None)
none_live k rows r row [] f = (tt, refl, refl)
none_live k rows r row (None ∷ l) f = none_live k rows r row l (λ i c e. f (suc i) c e)
none_live k rows r row (Some c ∷ l) f = absurd (f 0 c refl)

taken_length : (n m : ℕ) → n ≤ m → length (take n (replicate m no_cell)) ≡ n
taken_length zero m le = refl
taken_length (suc n) zero le = absurd (omega (arith, le))
taken_length (suc n) (suc m) le = let l = taken_length n m (omega (arith, le)) in omega (arith, l)

pub no_retirements : retirements [] ≡ 0
unfolding retirements
no_retirements = refl

no_serial : (k : Setting) → next_serial k [] ≡ 0
unfolding next_serial
no_serial k = refl

no_place : place [] 0 ≡ 0
unfolding place
no_place = refl

known_first : (k : Setting) → IsPlain k → IsKnown k []
known_first k plain =
    let x = none_live k [] 0 (newest []) (stages_of k (newest [])) (λ i c e. none_stands k.shape.stages i 5 c e) in
    let l = x.1 in
    let o = ap one x.2 in
    let q = no_retirements in
    let p : place [] (next_serial k []) ≡ 0 = ap (place []) (no_serial k) ∙ no_place in
    record {
      base = 0;
      long = taken_length k.shape.stages 5 plain.most;
      lives = x.0;
      next = omega (arith, p, l);
      counts = omega (arith, q, o);
      past = first_past;
    }

-- ---- the next row

-- with what stands in stage 0
pub first_stage : (row : Row) (came : Option Name) (cells : List (Option Cell)) (names : List (Option Name)) → 0 < length cells → MovesInto row came cells names → InStage (stays row (front cells)) came (first_of names)
first_stage row came [] names some h = absurd (omega (arith, some))
first_stage row came (was ∷ before) [] some h = absurd h
first_stage row came (was ∷ before) (now ∷ later) some h = h.0

pub held_or_new : (held new now : Option Name) → InStage held (comes held new) now → ((held ≡ None) × (now ≡ new)) ⊎ ((x : Name) × (held ≡ Some x) × (now ≡ Some x))
held_or_new None new now e = inl (refl, e)
held_or_new (Some x) new now e = inr (x, refl, e)

with_first : (k : Setting) (rows : List Row) (r : ℕ) (names : List (Option Name)) → MayBeIn k rows (r + count (drop 1 names)) (first_of names) → AreIn k rows r (drop 1 names) → AreIn k rows r names
with_first k rows r [] m h = tt
with_first k rows r (None ∷ later) m h = h
with_first k rows r (Some n ∷ later) m h = (m, h)

with_count : (names : List (Option Name)) → count names ≡ count (drop 1 names) + one (first_of names)
with_count [] = refl
with_count (None ∷ later) = omega arith
with_count (Some n ∷ later) = omega arith

front_named : (l : List (Option Cell)) → first_of (names_of l) ≡ name_of (front l)
front_named [] = refl
front_named (a ∷ l) = refl

module _ (k : Setting) (earlier : List Row) (row : Row) (plain : IsPlain k) (lawful : Lawful (λ places. k) earlier) (known : IsKnown k earlier)
    (unseen : (s : ℕ) → next_serial k earlier ≤ s → is_flushed earlier s ≡ false) (moves : Moves k earlier row) where
  abbrev names : List (Option Name)
  names = names_of (stages_of k row)

  ups : AboveIn k earlier names
  ups = above_in k earlier row plain known (moves_above (newest earlier) (comes (first_held k earlier) (new_cell k earlier)) (stages_of k (newest earlier)) names moves)

  stage_0 : InStage (first_held k earlier) (comes (first_held k earlier) (new_cell k earlier)) (first_of names)
  stage_0 =
      let some = some_stages k plain in
      let long = known.long in
      first_stage (newest earlier) (comes (first_held k earlier) (new_cell k earlier)) (stages_of k (newest earlier)) names (omega (arith, some, long)) moves

  abbrev p : ℕ
  p = retirements earlier + count (drop 1 names)

  -- what is fetched is in its place
  new_in : (o : Option Name) → first_held k earlier ≡ None → new_cell k earlier ≡ o → MayBeIn k earlier p o
  new_in None h e = tt
  new_in (Some x) h e =
      let f = is_fetched k earlier x e in
      let n = ups.next in
      let z = ap one h in
      let q : place earlier (next_serial k earlier) ≡ p = omega (arith, n, z) in
      let s = f.serial in
      record { placed = ap (place earlier) s ∙ q; unflushed = unseen x.0 (omega (arith, s)); word = f.word }

  by_first : ((first_held k earlier ≡ None) × (first_of names ≡ new_cell k earlier)) ⊎ ((x : Name) × (first_held k earlier ≡ Some x) × (first_of names ≡ Some x)) → MayBeIn k earlier p (first_of names)
  by_first (inl y) = subst (λ o. MayBeIn k earlier p o) (sym y.1) (new_in (new_cell k earlier) y.0 refl)
  by_first (inr y) = subst (λ o. MayBeIn k earlier p o) (y.1 ∙ sym y.2) ups.held

  pub are_in : AreIn k earlier (retirements earlier) names
  are_in = with_first k earlier (retirements earlier) names (by_first (held_or_new (first_held k earlier) (new_cell k earlier) (first_of names) stage_0)) ups.are_in

  pub next_place : place earlier (next_serial k (row ∷ earlier)) ≡ retirements earlier + count names
  next_place = by_front (front (stages_of k row)) refl where
    order : IsOrdered k earlier
    order = ordered k earlier lawful

    by_front : (o : Option Cell) → front (stages_of k row) ≡ o → place earlier (next_serial k (row ∷ earlier)) ≡ retirements earlier + count names
    by_front None e =
        let held_none = no_held (held_or_new (first_held k earlier) (new_cell k earlier) (first_of names) stage_0) in
        let z = ap one held_none in
        let c = with_count names in
        let f = ap one (front_named (stages_of k row) ∙ ap name_of e) in
        let n = ups.next in
        let s = ap (place earlier) (none_now k row earlier moves order e) in
        omega (arith, s, n, z, c, f) where
          no_held : ((first_held k earlier ≡ None) × (first_of names ≡ new_cell k earlier)) ⊎ ((x : Name) × (first_held k earlier ≡ Some x) × (first_of names ≡ Some x)) → first_held k earlier ≡ None
          no_held (inl y) = y.0
          no_held (inr y) = absurd (no_some y.0 (sym (front_named (stages_of k row) ∙ ap name_of e) ∙ y.2))
    by_front (Some c) e =
        let stands = front_there (stages_of k row) c e in
        let i = is_in k earlier (retirements earlier) (stages_of k row) 0 c are_in stands in
        let s = ap (place earlier) (first_now k row earlier moves order c stands) in
        let n = place_suc earlier c.serial i.unflushed in
        let at = i.placed in
        let f = ap one (front_named (stages_of k row) ∙ ap name_of e) in
        let w = with_count names in
        let d = ap count (dropped (stages_of k row)) in
        omega (arith, s, n, at, f, w, d) where
          dropped : (l : List (Option Cell)) → names_of (drop 1 l) ≡ drop 1 (names_of l)
          dropped [] = refl
          dropped (a ∷ l) = refl

names_length : (l : List (Option Cell)) → length (names_of l) ≡ length l
names_length [] = refl
names_length (a ∷ l) = let e = names_length l in omega (arith, e)

last_stage : (n : ℕ) → 0 < n → (m : ℕ) × (suc m ≡ n)
last_stage zero lt = absurd (omega (arith, lt))
last_stage (suc m) lt = (m, refl)

pub row_long : (k : Setting) (earlier : List Row) (row : Row) → AboveIn k earlier (names_of (stages_of k row)) → length (stages_of k row) ≡ k.shape.stages
row_long k earlier row a = sym (names_length (stages_of k row)) ∙ a.long

pub row_retiring : (k : Setting) (earlier : List Row) (row : Row) → IsPlain k → LawfulRow k earlier row → length (stages_of k row) ≡ k.shape.stages → Retiring k row
row_retiring k earlier row plain lawful long = let m = last_stage k.shape.stages (some_stages k plain) in retiring k row m.0 m.1 long (lawful.retires m.0 m.1)

-- what was flushed was seen, and so was what has retired
pub record AreSeen (k : Setting) (rows : List Row) : Type 0 where
  pub flushed : (s : ℕ) → is_flushed rows s ≡ true → s < next_serial k rows
  pub retired : (s : ℕ) → is_retired rows s ≡ true → s < next_serial k rows

pub record IsHistory (k : Setting) (rows : List Row) : Type 0 where
  pub known : IsKnown k rows
  pub seen : AreSeen k rows

unseen_of : (k : Setting) (rows : List Row) → AreSeen k rows → (s : ℕ) → next_serial k rows ≤ s → is_flushed rows s ≡ false
unseen_of k rows seen s le = not_true (is_flushed rows s) (λ e. let lt = seen.flushed s e in absurd (omega (arith, lt, le)))

module _ (k : Setting) (earlier : List Row) (row : Row) (plain : IsPlain k) (row_lawful : LawfulRow k earlier row) (lawful : Lawful (λ places. k) earlier) (before : IsHistory k earlier) where
  order : IsOrdered k earlier
  order = ordered k earlier lawful

  ups_now : AboveIn k earlier (names_of (stages_of k row))
  ups_now = above_in k earlier row plain before.known (moves_above (newest earlier) (comes (first_held k earlier) (new_cell k earlier)) (stages_of k (newest earlier)) (names_of (stages_of k row)) row_lawful.moves)

  long_now : length (stages_of k row) ≡ k.shape.stages
  long_now = row_long k earlier row ups_now

  are_now : AreIn k earlier (retirements earlier) (names_of (stages_of k row))
  are_now = are_in k earlier row plain lawful before.known (unseen_of k earlier before.seen) row_lawful.moves

  out_now : Retiring k row
  out_now = row_retiring k earlier row plain row_lawful long_now

  known_next : IsKnown k (row ∷ earlier)
  known_next =
      let flushes = flushes_from k earlier row plain row_lawful (retirements earlier) are_now in
      record {
        base = retirements earlier;
        long = long_now;
        lives = lives k earlier (retirements earlier) row (stages_of k row) flushes are_now;
        next = place_now k earlier (retirements earlier) row (stages_of k row) (next_serial k (row ∷ earlier)) flushes are_now (next_place k earlier row plain lawful before.known (unseen_of k earlier before.seen) row_lawful.moves);
        counts = retired_count k row earlier out_now;
        past = past_next k earlier row long_now are_now flushes before.known.past out_now;
      }

  below_next : (stage : ℕ) (c : Cell) → Stands k row stage c → c.serial < next_serial k (row ∷ earlier)
  below_next stage c e = (ordered_next k row earlier row_lawful.moves order).below stage c e

  before_next : (s : ℕ) → s < next_serial k earlier → s < next_serial k (row ∷ earlier)
  before_next s lt = let le = next_above k row earlier row_lawful.moves order in omega (arith, lt, le)

  seen_next : AreSeen k (row ∷ earlier)
  seen_next = record { flushed = flushed; retired = retired } where
    flushed : (s : ℕ) → is_flushed (row ∷ earlier) s ≡ true → s < next_serial k (row ∷ earlier)
    flushed s e = elim (flushed_either row earlier s e) [
      | inl x ↦ let y = flushed_cell k earlier row plain row_lawful s x in subst (λ z. z < next_serial k (row ∷ earlier)) y.3 (below_next y.0 y.1 y.2)
      | inr x ↦ before_next s (before.seen.flushed s x)
    ]

    retired : (s : ℕ) → is_retired (row ∷ earlier) s ≡ true → s < next_serial k (row ∷ earlier)
    retired s e = elim (or_true (retires row.retired s) (is_retired earlier s) (sym (retired_step row earlier s) ∙ e)) [
      | inl x ↦ let y = retired_here k row s out_now x in subst (λ z. z < next_serial k (row ∷ earlier)) y.3 (below_next y.0 y.1 y.2)
      | inr x ↦ before_next s (before.seen.retired s x)
    ]

  history_next : IsHistory k (row ∷ earlier)
  history_next = record { known = known_next; seen = seen_next }

pub history : (k : Setting) (rows : List Row) → IsPlain k → Lawful (λ places. k) rows → IsHistory k rows
history k [] plain h = record { known = known_first k plain; seen = record { flushed = λ s e. absurd (first_unflushed s e); retired = λ s e. absurd (first_unretired s e) } }
history k (row ∷ earlier) plain h = history_next k earlier row plain h.0 h.2 (history k earlier plain h.2)

pub next_facts : (k : Setting) (rows : List Row) → IsPlain k → AreGoingOn k rows → NextFacts k rows
next_facts k rows plain going =
    let h = history k rows plain going.lawful in
    record {
      unflushed = unseen_of k rows h.seen;
      unretired = λ s le. not_true (is_retired rows s) (λ e. let lt = h.seen.retired s e in absurd (omega (arith, lt, le)));
      seen = λ j word y. known_below k rows going.lawful j word y;
    }

-- the cells of a row that moves so stand in their places
pub row_in : (k : Setting) (earlier : List Row) (row : Row) → IsPlain k → Lawful (λ places. k) earlier → Moves k earlier row → AreIn k earlier (retirements earlier) (names_of (stages_of k row))
row_in k earlier row plain lawful moves = let h = history k earlier plain lawful in are_in k earlier row plain lawful h.known (unseen_of k earlier h.seen) moves
