-- What is known of rows that go on: where their cells stand, what has retired, and where the cells of the next row stand.
use Rattle.std.proofs.Common.{◌≡◌, ℕ, zero, suc, ◌+◌, ◌<◌, ◌≤◌, List, [], ◌∷◌, drop, length, Option, Some, None, true, false, refl, sym, ap, ◌∙◌, subst, arith, inl, inr, ◌⊎◌}
use Rattle.std.specs.Prelude.{◌||◌}
use Rattle.std.proofs.lemmas.Bool.{cases_lt}
use Rattle.rv_trace.specs.declared.row.Cell.{Cell}
use Rattle.rv_trace.specs.declared.row.Row.{Row}
use Rattle.rv_trace.specs.Trace.{has_serial, is_flushed, retires, is_retired, place, retirements, newest}
use Rattle.rv_trace.specs.RowParts.{Name, names_of, stays, leaves, front, MovesInto}
use Rattle.rv_lawful.specs.Settings.{Setting, stages_of, Stands}
use Rattle.rv_lawful.specs.LawfulTrace.{next_serial}
use Rattle.rv_rows.specs.Facts.{IsPlain, MoveAbove, MovesAbove}
use Rattle.rv_rows.proofs.Places.{FlushesFrom, place_kept, place_floor, one_place, unflushed_both, unflushed_more}
use Rattle.rv_rows.proofs.Coming.{Fate, gone, kept, left, fate, first_held}
use Rattle.rv_rows.proofs.Placed.{count, one, IsIn, AreIn, MayBeIn, is_in, live, live_gone, live_more, Lives, out, moved_count, moved_in}
use Rattle.rv_rows.proofs.Flushed.{Retiring, nothing, leaver, retired_count, retirements_none, retirements_one}
use Rattle.rv_rows.proofs.Tests.{differ, not_true, same_number, number_same, or_true, true_or}

-- ---- what has retired

-- what is not flushed has retired exactly where its place is below the count of retirements
pub record IsPast (rows : List Row) : Type 0 where
  pub retired : (j : ℕ) → is_retired rows j ≡ true → (is_flushed rows j ≡ false) × (place rows j < retirements rows)
  pub gone : (j : ℕ) → is_flushed rows j ≡ false → place rows j < retirements rows → is_retired rows j ≡ true

pub retired_step : (row : Row) (rows : List Row) (j : ℕ) → is_retired (row ∷ rows) j ≡ (retires row.retired j || is_retired rows j)
unfolding is_retired
retired_step row rows j = refl

pub first_past : IsPast []
unfolding is_retired retirements
first_past = record { retired = λ j e. absurd (differ (sym e)); gone = λ j e lt. absurd (omega (arith, lt)) }

none_over : (l : List (Option Cell)) (n : ℕ) → n ≡ length l → drop n l ≡ []
none_over [] zero e = refl
none_over [] (suc n) e = absurd (omega (arith, e))
none_over (a ∷ l) zero e = absurd (omega (arith, e))
none_over (a ∷ l) (suc n) e = none_over l n (omega (arith, e))

module _ (k : Setting) (earlier : List Row) (row : Row) (long : length (stages_of k row) ≡ k.shape.stages) (are : AreIn k earlier (retirements earlier) (names_of (stages_of k row)))
    (flushes : FlushesFrom earlier (retirements earlier) row) (past : IsPast earlier) (out_of : Retiring k row) where
  abbrev r : ℕ
  r = retirements earlier

  grown : retirements (row ∷ earlier) ≡ r + one (out row None (stages_of k row))
  grown = retired_count k row earlier out_of

  -- what retires has the place of the retirements so far
  last_place : (stage : ℕ) (c : Cell) → suc stage ≡ k.shape.stages → Stands k row stage c → (place earlier c.serial ≡ r) × (is_flushed earlier c.serial ≡ false)
  last_place stage c last e =
      let i = is_in k earlier r (stages_of k row) stage c are e in
      let z = ap (λ l. count (names_of l)) (none_over (stages_of k row) (suc stage) (last ∙ sym long)) in
      let p = i.placed in
      (omega (arith, p, z), i.unflushed)

  was_retired : (j : ℕ) → is_retired earlier j ≡ true → (is_flushed (row ∷ earlier) j ≡ false) × (place (row ∷ earlier) j < retirements (row ∷ earlier))
  was_retired j e =
      let x = past.retired j e in
      let low = x.1 in
      let kept = place_kept row earlier r j flushes (omega (arith, low)) in
      (unflushed_more row earlier j (not_true (has_serial row.flushed j) (λ f. let from = flushes.from j f in absurd (omega (arith, from, low)))) x.0, omega (arith, kept, low, grown))

  retires_now : (j : ℕ) → retires row.retired j ≡ true → Retiring k row → (is_flushed (row ∷ earlier) j ≡ false) × (place (row ∷ earlier) j < retirements (row ∷ earlier))
  retires_now j e (nothing none o) = absurd (differ (sym (sym (ap (λ x. retires x j) none) ∙ e)))
  retires_now j e (leaver stage c commit last stands is free o) =
      let same = same_number c.serial j (sym (ap (λ x. retires x j) is) ∙ e) in
      let x = last_place stage c last stands in
      let p = x.0 in
      let kept = place_kept row earlier r c.serial flushes (omega (arith, p)) in
      let one_more = retirements_one row earlier (c.serial, commit) is in
      let lt : place (row ∷ earlier) c.serial < retirements (row ∷ earlier) = omega (arith, kept, p, one_more) in
      (subst (λ s. is_flushed (row ∷ earlier) s ≡ false) same (unflushed_more row earlier c.serial free x.1), subst (λ s. place (row ∷ earlier) s < retirements (row ∷ earlier)) same lt)

  retired_next : (j : ℕ) → is_retired (row ∷ earlier) j ≡ true → (is_flushed (row ∷ earlier) j ≡ false) × (place (row ∷ earlier) j < retirements (row ∷ earlier))
  retired_next j e = by_case (or_true (retires row.retired j) (is_retired earlier j) (sym (retired_step row earlier j) ∙ e)) where
    by_case : (retires row.retired j ≡ true) ⊎ (is_retired earlier j ≡ true) → (is_flushed (row ∷ earlier) j ≡ false) × (place (row ∷ earlier) j < retirements (row ∷ earlier))
    by_case (inl x) = retires_now j x out_of
    by_case (inr y) = was_retired j y

  gone_now : (j : ℕ) → is_flushed (row ∷ earlier) j ≡ false → place (row ∷ earlier) j < retirements (row ∷ earlier) → r ≤ place (row ∷ earlier) j → Retiring k row → retires row.retired j ≡ true
  gone_now j alive lt low (nothing none o) = let e = retirements_none row earlier none in absurd (omega (arith, e, lt, low))
  gone_now j alive lt low (leaver stage c commit last stands is free o) =
      let x = last_place stage c last stands in
      let p = x.0 in
      let kept = place_kept row earlier r c.serial flushes (omega (arith, p)) in
      let one_more = retirements_one row earlier (c.serial, commit) is in
      let same = one_place (row ∷ earlier) c.serial j (unflushed_more row earlier c.serial free x.1) alive (omega (arith, kept, p, one_more, lt, low)) in
      ap (λ x. retires x j) is ∙ number_same c.serial j same

  gone_next : (j : ℕ) → is_flushed (row ∷ earlier) j ≡ false → place (row ∷ earlier) j < retirements (row ∷ earlier) → is_retired (row ∷ earlier) j ≡ true
  gone_next j alive lt = retired_step row earlier j ∙ true_or (retires row.retired j) (is_retired earlier j) (elim (cases_lt (place earlier j) r) [
    | inl less ↦ inr (past.gone j (unflushed_both row earlier j alive).1 less)
    | inr more ↦ inl (gone_now j alive lt (place_floor row earlier r j flushes more) out_of)
  ])

  pub past_next : IsPast (row ∷ earlier)
  past_next = record { retired = retired_next; gone = gone_next }

-- ---- what is known of rows

pub record IsKnown (k : Setting) (rows : List Row) : Type 0 where
  pub base : ℕ
  pub long : length (stages_of k (newest rows)) ≡ k.shape.stages
  pub lives : Lives k rows base (newest rows) (stages_of k (newest rows))
  pub next : place rows (next_serial k rows) ≡ base + live (newest rows) (stages_of k (newest rows))
  pub counts : retirements rows ≡ base + one (out (newest rows) None (stages_of k (newest rows)))
  pub past : IsPast rows

-- ---- the next row

-- the first of names
abbrev pub first_of : List (Option Name) → Option Name
first_of [] = None
first_of (n ∷ rest) = n

pub record AboveIn (k : Setting) (earlier : List Row) (names : List (Option Name)) : Type 0 where
  pub long : length names ≡ k.shape.stages
  pub are_in : AreIn k earlier (retirements earlier) (drop 1 names)
  pub held : MayBeIn k earlier (retirements earlier + count (drop 1 names)) (first_held k earlier)
  pub next : place earlier (next_serial k earlier) ≡ (retirements earlier + count (drop 1 names)) + one (first_held k earlier)

moved_length : (row : Row) (came : Option Name) (cells : List (Option Cell)) (names : List (Option Name)) → MovesInto row came cells names → length names ≡ length cells
moved_length row came [] [] h = refl
moved_length row came [] (now ∷ later) h = absurd h
moved_length row came (was ∷ before) [] h = absurd h
moved_length row came (was ∷ before) (now ∷ later) h = let l = moved_length row (leaves row was) before later h.1 in omega (arith, l)

pub above_length : (row : Row) (cells : List (Option Cell)) (names : List (Option Name)) → MoveAbove row cells names → length names ≡ length cells
above_length row [] [] h = refl
above_length row [] (now ∷ later) h = absurd h
above_length row (was ∷ before) [] h = absurd h
above_length row (was ∷ before) (now ∷ later) h = let l = moved_length row (leaves row was) before later h in omega (arith, l)

record Parts (k : Setting) (rows : List Row) (base r : ℕ) (row : Row) (cells : List (Option Cell)) (names : List (Option Name)) : Type 0 where
  are_in : AreIn k rows r (drop 1 names)
  held : MayBeIn k rows (r + count (drop 1 names)) (stays row (front cells))
  counts : base + live row cells ≡ (r + count (drop 1 names)) + one (stays row (front cells))

parts : (k : Setting) (rows : List Row) (base r : ℕ) (row : Row) (cells : List (Option Cell)) (names : List (Option Name)) → 0 < length cells → Lives k rows base row cells → r ≡ base + one (out row None cells)
    → MoveAbove row cells names → Parts k rows base r row cells names
parts k rows base r row [] names some a q h = absurd (omega (arith, some))
parts k rows base r row (was ∷ before) [] some a q h = absurd h
parts k rows base r row (None ∷ before) (now ∷ later) some a q h =
    let c = moved_count row None before later h in
    record { are_in = subst (λ z. AreIn k rows z later) (sym q) (moved_in k rows base row None before later a tt h); held = tt; counts = omega (arith, c, q) }
parts k rows base r row (Some d ∷ before) (now ∷ later) some a q h = by_fate (fate row d) where
  into : (l : Option Name) → leaves row (Some d) ≡ l → MayBeIn k rows (base + live row before) l → AreIn k rows r later
  into l e i =
      subst (λ z. AreIn k rows z later) (sym q)
      (moved_in k rows base row (leaves row (Some d)) before later a.1 (subst (λ o. MayBeIn k rows (base + live row before) o) (sym e) i) h)

  after : (l : Option Name) → leaves row (Some d) ≡ l → count later + one (out row (leaves row (Some d)) before) ≡ one l + live row before
  after l e = moved_count row (leaves row (Some d)) before later h ∙ ap (λ o. one o + live row before) e

  by_fate : Fate row d → Parts k rows base r row (Some d ∷ before) (now ∷ later)
  by_fate (gone g s l) =
      let c = after None l in
      let n = live_gone row d before g in
      let z = ap one s in
      record { are_in = into None l tt; held = subst (λ o. MayBeIn k rows (r + count later) o) (sym s) tt; counts = omega (arith, c, n, q, z) }
  by_fate (left g f s l) =
      let c = after (Some (d.serial, d.at, d.word)) l in
      let n = live_more row d before g in
      let z = ap one s in
      record { are_in = into (Some (d.serial, d.at, d.word)) l (a.0 g); held = subst (λ o. MayBeIn k rows (r + count later) o) (sym s) tt; counts = omega (arith, c, n, q, z) }
  by_fate (kept g f s l) =
      let c = after None l in
      let n = live_more row d before g in
      let z = ap one s in
      let same : base + live row before ≡ r + count later = omega (arith, c, q) in
      record {
        are_in = into None l tt;
        held = subst (λ o. MayBeIn k rows (r + count later) o) (sym s) (subst (λ p. IsIn k rows p (d.serial, d.at, d.word)) same (a.0 g));
        counts = omega (arith, c, n, q, z);
      }

pub some_stages : (k : Setting) → IsPlain k → 0 < k.shape.stages
some_stages k plain = let a = plain.rd_pos in let b = plain.rd_ex in let c = plain.ex_mem in let d = plain.mem_last in omega (arith, a, b, c, d)

pub above_in : (k : Setting) (earlier : List Row) (row : Row) → IsPlain k → IsKnown k earlier → MovesAbove k earlier row → AboveIn k earlier (names_of (stages_of k row))
above_in k earlier row plain known moves =
    let some = some_stages k plain in
    let long = known.long in
    let p = parts k earlier known.base (retirements earlier) (newest earlier) (stages_of k (newest earlier)) (names_of (stages_of k row)) (omega (arith, some, long)) known.lives known.counts moves in
    record {
      long = above_length (newest earlier) (stages_of k (newest earlier)) (names_of (stages_of k row)) moves ∙ long;
      are_in = p.are_in;
      held = p.held;
      next = known.next ∙ p.counts;
    }
