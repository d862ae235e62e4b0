-- What is kept of one row more.
use Rattle.std.proofs.Common.{◌≡◌, ◌∙◌, refl, sym, ap, subst, ℕ, zero, suc, ◌+◌, ◌-◌, ◌<◌, ◌≤◌, List, [], ◌∷◌, take, Option, Some, None, Bool, true, false, arith}
use Rattle.std.specs.Prelude.{slice_get, ◌==◌, ◌&&◌, if◌then◌else◌, is_some}
use Rattle.std.proofs.lemmas.Bool.Decides.{nat_tests}
use Rattle.rv_trace.specs.declared.row.Cell.{Cell}
use Rattle.rv_trace.specs.declared.row.Row.{Row}
use Rattle.rv_trace.specs.Trace.{has_cell, newest, retirements}
use Rattle.rv_trace.specs.RowParts.{unless, serial_after, front}
use Rattle.rv_lawful.specs.Settings.{Setting, stages_of, Stands, is_tail, has_tail, stood, tailed}
use Rattle.rv_lawful.specs.LawfulTrace.{LawfulRow, plain_fetch, fetch_address, next_serial, new_cell}
use Rattle.rv_rows.specs.Facts.{IsPlain, AreGoingOn, RowFacts, AboveFacts}
use Rattle.rv_rows.proofs.Moving.{above_of}
use Rattle.rv_watch.specs.declared.kept.Kept.{Kept}
use Rattle.rv_watch.specs.Kept.{counted, was_here, stood_then, tailed_then, IsKept}

-- the cell of a stage among the first ones

get_first : (n i : ℕ) (cells : List (Option Cell)) → i < n → slice_get (take n cells) i ≡ slice_get cells i
get_first zero i cells lt = absurd (omega (arith, lt))
get_first (suc n) i [] lt = refl
get_first (suc n) zero (c ∷ rest) lt = refl
get_first (suc n) (suc i) (c ∷ rest) lt = get_first n i rest (omega (arith, lt))

front_is : (n : ℕ) (cells : List (Option Cell)) (c : Option Cell) → 0 < n → slice_get cells 0 ≡ Some c → front (take n cells) ≡ c
front_is zero cells c lt e = absurd (omega (arith, lt))
front_is (suc n) [] c lt e = cc
front_is (suc n) (d ∷ rest) c lt e = cc

some_cell : (o : Option Cell) (c : Cell) → ◌≡◌ {A = Option (Option Cell)} (Some o) (Some (Some c)) → o ≡ Some c
some_cell o c e = cc

-- did a cell of this serial stand here?
here_is : (o : Option Cell) (s : ℕ) → has_cell (Some o) s ≡ was_here o s
here_is None s = refl
here_is (Some c) s = refl

equal_test : (a b : ℕ) → (a == b) ≡ true → a ≡ b
equal_test a b e = grind (arith, nat_tests)

same_test : (a : ℕ) → (a == a) ≡ true
same_test a = grind (arith, nat_tests)

stood_none : (k : Setting) (rows : List Row) (s : ℕ) → has_cell (slice_get (stages_of k (newest rows)) k.shape.mem) s ≡ false → stood k rows s ≡ 0
unfolding stood
stood_none k [] s q = refl
stood_none k (row ∷ earlier) s q = ap (λ b. if b then suc (stood k earlier s) else 0) q

-- a count that is begun anew where another cell stands
module _ (k : Setting) (earlier : List Row) (before row : Row) (kept : Kept) (plain : IsPlain k) (newest_is : newest earlier ≡ before) (is : IsKept k earlier kept) where
  -- with what stood in the stage before

  was_standing : (stage : ℕ) (o : Option Cell) → stage < k.shape.stages → slice_get before.cells stage ≡ Some o → slice_get (stages_of k (newest earlier)) stage ≡ Some o
  was_standing stage o lt e = ap (λ (r : Row). slice_get (stages_of k r) stage) newest_is ∙ get_first k.shape.stages stage before.cells lt ∙ e

  pub stood_before : (o : Option Cell) (c : Cell) → slice_get before.cells k.shape.mem ≡ Some o → stood k earlier c.serial ≡ (if was_here o c.serial then kept.stood else 0)
  stood_before o c e = by_case (was_here o c.serial) refl where
    mem_in : k.shape.mem < k.shape.stages
    mem_in = plain.mem_last

    there : slice_get (stages_of k (newest earlier)) k.shape.mem ≡ Some o
    there = was_standing k.shape.mem o mem_in e

    found : (p : Option Cell) → o ≡ p → was_here p c.serial ≡ true → stood k earlier c.serial ≡ kept.stood
    found None q h = cc
    found (Some d) q h =
        let same : d.serial ≡ c.serial = equal_test d.serial c.serial h in
        ap (λ s. stood k earlier s) (sym same) ∙ sym (is.stood d (there ∙ ap (λ p. Some p) q))

    by_case : (b : Bool) → was_here o c.serial ≡ b → stood k earlier c.serial ≡ (if b then kept.stood else 0)
    by_case true h = found o refl h
    by_case false h = stood_none k earlier c.serial (ap (λ p. has_cell p c.serial) there ∙ here_is o c.serial ∙ h)

  pub tailed_before : (facts : AboveFacts k earlier row) (last : ℕ) (o : Option Cell) (c : Cell) → suc last ≡ k.shape.stages → slice_get before.cells last ≡ Some o → Stands k row last c
      → tailed k earlier c.serial ≡ (if was_here o c.serial then kept.tailed else 0)
  tailed_before facts last o c end e s = by_case (was_here o c.serial) refl where
    last_in : last < k.shape.stages
    last_in = omega (arith, end)

    there : slice_get (stages_of k (newest earlier)) last ≡ Some o
    there = was_standing last o last_in e

    found : (p : Option Cell) → o ≡ p → was_here p c.serial ≡ true → tailed k earlier c.serial ≡ kept.tailed
    found None q h = cc
    found (Some d) q h =
        let same : d.serial ≡ c.serial = equal_test d.serial c.serial h in
        ap (λ t. tailed k earlier t) (sym same) ∙ sym (is.tailed last d end (there ∙ ap (λ p. Some p) q))

    by_case : (b : Bool) → was_here o c.serial ≡ b → tailed k earlier c.serial ≡ (if b then kept.tailed else 0)
    by_case true h = found o refl h
    by_case false h = facts.untailed last c end s (ap (λ p. has_cell p c.serial) there ∙ here_is o c.serial ∙ h)

-- one row more, of one cell

stood_more : (k : Setting) (earlier : List Row) (row : Row) (c : Cell) → Stands k row k.shape.mem c → stood k (row ∷ earlier) c.serial ≡ suc (stood k earlier c.serial)
unfolding stood
stood_more k earlier row c s = ap (λ o. if has_cell o c.serial then suc (stood k earlier c.serial) else 0) s ∙ ap (λ b. if b then suc (stood k earlier c.serial) else 0) (same_test c.serial)

tailed_more : (k : Setting) (earlier : List Row) (row : Row) (last : ℕ) (c : Cell) → suc last ≡ k.shape.stages → Stands k row last c → tailed k (row ∷ earlier) c.serial ≡ (if is_tail c.hold then suc (tailed k earlier c.serial) else tailed k earlier c.serial)
unfolding tailed
tailed_more k earlier row last c end s =
    let at : k.shape.stages - 1 ≡ last = omega (arith, end) in
    ap (λ n. if has_tail (slice_get (stages_of k row) n) c.serial then suc (tailed k earlier c.serial) else tailed k earlier c.serial) at
    ∙ ap (λ o. if has_tail o c.serial then suc (tailed k earlier c.serial) else tailed k earlier c.serial) s
    ∙ ap (λ b. if b && is_tail c.hold then suc (tailed k earlier c.serial) else tailed k earlier c.serial) (same_test c.serial)

-- no count rises by more than one

pub stood_most : (number : ℕ) (before now : Option Cell) → stood_then number before now ≤ number + 1
stood_most number before None = omega arith
stood_most number before (Some c) = by_case (was_here before c.serial) where
  by_case : (b : Bool) → (if b then number + 1 else 1) ≤ number + 1
  by_case true = omega arith
  by_case false = omega arith

pub tailed_most : (number : ℕ) (before now : Option Cell) → tailed_then number before now ≤ number + 1
tailed_most number before None = omega arith
tailed_most number before (Some c) = by_case (was_here before c.serial) (is_tail c.hold) where
  by_case : (b more : Bool) → counted (if b then number else 0) more ≤ number + 1
  by_case true true = omega arith
  by_case true false = omega arith
  by_case false true = omega arith
  by_case false false = omega arith

pub kept_more : RowFacts → (k : Setting) (earlier : List Row) (before row : Row) (kept new : Kept) (plain_at last : ℕ) (first was_memory memory was_last at_last : Option Cell) → IsPlain k → AreGoingOn k earlier
    → newest earlier ≡ before → LawfulRow k earlier row → plain_at ≡ plain_fetch k earlier (fetch_address k earlier) row → IsKept k earlier kept → suc last ≡ k.shape.stages
    → slice_get row.cells 0 ≡ Some first → slice_get before.cells k.shape.mem ≡ Some was_memory → slice_get row.cells k.shape.mem ≡ Some memory
    → slice_get before.cells last ≡ Some was_last → slice_get row.cells last ≡ Some at_last
    → new.fetch ≡ unless row.redirect plain_at → new.next ≡ serial_after kept.next first → new.retired ≡ counted kept.retired (is_some row.retired)
    → new.stood ≡ stood_then kept.stood was_memory memory → new.tailed ≡ tailed_then kept.tailed was_last at_last → IsKept k (row ∷ earlier) new
unfolding fetch_address next_serial retirements
kept_more facts k earlier before row kept new plain_at last first was_memory memory was_last at_last plain going newest_is lawful plain_is is end first_is was_memory_is memory_is was_last_is at_last_is fetch next retired stands tails = record {
  fetch = fetch ∙ ap (λ a. unless row.redirect a) plain_is;
  next = next ∙ ap (λ n. serial_after n first) is.next ∙ ap (λ o. serial_after (next_serial k earlier) o) (sym (front_is k.shape.stages row.cells first (omega (arith, end)) first_is));
  retired = retired ∙ ap (λ n. counted n (is_some row.retired)) is.retired ∙ one (is_some row.retired) (retirements earlier);
  stood = stood_is;
  tailed = tailed_is;
} where
  above : AboveFacts k earlier row
  above = facts.above k earlier row plain going (above_of (newest earlier) (new_cell k earlier) (stages_of k (newest earlier)) (stages_of k row) lawful.moves)

  one : (b : Bool) (n : ℕ) → (if b then n + 1 else n) ≡ (if b then suc n else n)
  one true n = omega arith
  one false n = refl

  up : (b : Bool) (n : ℕ) → (if b then n + 1 else 1) ≡ suc (if b then n else 0)
  up true n = omega arith
  up false n = refl

  stood_is : (c : Cell) → Stands k row k.shape.mem c → new.stood ≡ stood k (row ∷ earlier) c.serial
  stood_is c s =
      let here : memory ≡ Some c = some_cell memory c (sym memory_is ∙ sym (get_first k.shape.stages k.shape.mem row.cells plain.mem_last) ∙ s) in
      stands
      ∙ ap (λ o. stood_then kept.stood was_memory o) here
      ∙ up (was_here was_memory c.serial) kept.stood
      ∙ ap suc (sym (stood_before k earlier before row kept plain newest_is is was_memory c was_memory_is))
      ∙ sym (stood_more k earlier row c s)

  tailed_is : (stage : ℕ) (c : Cell) → suc stage ≡ k.shape.stages → Stands k row stage c → new.tailed ≡ tailed k (row ∷ earlier) c.serial
  tailed_is stage c e s =
      let same : stage ≡ last = omega (arith, e, end) in
      let t : Stands k row last c = subst (λ n. Stands k row n c) same s in
      let here : at_last ≡ Some c = some_cell at_last c (sym at_last_is ∙ sym (get_first k.shape.stages last row.cells (omega (arith, end))) ∙ t) in
      tails
      ∙ ap (λ o. tailed_then kept.tailed was_last o) here
      ∙ ap (λ n. counted n (is_tail c.hold)) (sym (tailed_before k earlier before row kept plain newest_is is above last was_last c end was_last_is t))
      ∙ one (is_tail c.hold) (tailed k earlier c.serial)
      ∙ sym (tailed_more k earlier row last c end t)
