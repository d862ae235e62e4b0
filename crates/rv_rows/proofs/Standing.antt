-- The laws of where cells stand, of older cells and of words.
use Rattle.std.proofs.Common.{◌≡◌, ℕ, zero, suc, ◌+◌, ◌<◌, ◌≤◌, List, [], ◌∷◌, drop, Option, Some, None, true, false, refl, sym, ap, ◌∙◌, subst, arith, inl, inr}
use Rattle.std.specs.Prelude.{slice_get}
use Rattle.std.proofs.lemmas.Bool.{cases_lt}
use Rattle.rv_trace.specs.declared.row.Cell.{Cell}
use Rattle.rv_trace.specs.declared.row.Row.{Row}
use Rattle.rv_trace.specs.Trace.{is_flushed, is_retired, place, retirements, newest}
use Rattle.rv_trace.specs.RowParts.{names_of, leaves}
use Rattle.rv_lawful.specs.Settings.{Setting, stages_of, Stands}
use Rattle.rv_lawful.specs.LawfulTrace.{Moves, Lawful, IsWordOf, next_serial}
use Rattle.rv_rows.specs.Facts.{IsPlain, cells_in, MovesAbove, IsInPlace}
use Rattle.rv_rows.proofs.Places.{place_lt}
use Rattle.rv_rows.proofs.Coming.{Before, held, moved, new, is_fetched, stood, stood_above, same_serial, one_cell}
use Rattle.rv_rows.proofs.Ordered.{IsOrdered, ordered, ordered_next, first_now, below_above, old_falls, one_in_row, cell_word}
use Rattle.rv_rows.proofs.Placed.{counted, AreIn, is_in, cell_of}
use Rattle.rv_rows.proofs.KnownRows.{IsPast, above_in}
use Rattle.rv_rows.proofs.Knowing.{history, row_in}
use Rattle.rv_rows.proofs.Tests.{differ, no_zero, not_true}

-- ---- lists

pub rest_get : (l : List (Option Cell)) (n : ℕ) → slice_get l (suc n) ≡ slice_get (drop 1 l) n
rest_get [] n = refl
rest_get (a ∷ l) n = refl

pub rest_drop : (l : List (Option Cell)) (n : ℕ) → drop (suc n) l ≡ drop n (drop 1 l)
rest_drop [] zero = refl
rest_drop [] (suc n) = refl
rest_drop (a ∷ l) n = refl

pub rest_names : (l : List (Option Cell)) → drop 1 (names_of l) ≡ names_of (drop 1 l)
rest_names [] = refl
rest_names (a ∷ l) = refl

get_drop : (l : List (Option Cell)) (n m : ℕ) → slice_get (drop n l) m ≡ slice_get l (n + m)
get_drop l zero m = let z : m ≡ 0 + m = omega arith in ap (slice_get l) z
get_drop [] (suc n) m = refl
get_drop (a ∷ l) (suc n) m = let z : suc (n + m) ≡ suc n + m = omega arith in get_drop l n m ∙ ap (slice_get (a ∷ l)) z

drop_in : (k : Setting) (rows : List Row) (r : ℕ) (l : List (Option Cell)) (n : ℕ) → AreIn k rows r (names_of l) → AreIn k rows r (names_of (drop n l))
drop_in k rows r l zero h = h
drop_in k rows r [] (suc n) h = tt
drop_in k rows r (None ∷ l) (suc n) h = drop_in k rows r l n h
drop_in k rows r (Some c ∷ l) (suc n) h = drop_in k rows r l n h.1

-- ---- cells in their places

module _ (k : Setting) (earlier : List Row) (past : IsPast earlier) (l : List (Option Cell)) (are : AreIn k earlier (retirements earlier) (names_of l)) where
  unretired_in : (n : ℕ) (c : Cell) → slice_get l n ≡ Some (Some c) → is_retired earlier c.serial ≡ false
  unretired_in n c e = not_true (is_retired earlier c.serial) gone where
    gone : is_retired earlier c.serial ≡ true → ⊥
    gone g = let p = (is_in k earlier (retirements earlier) l n c are e).placed in let x = (past.retired c.serial g).1 in absurd (omega (arith, p, x))

  placed_in : (n : ℕ) (c : Cell) → slice_get l n ≡ Some (Some c) → place earlier c.serial ≡ retirements earlier + cells_in (drop (suc n) l)
  placed_in n c e = (is_in k earlier (retirements earlier) l n c are e).placed ∙ ap (λ x. retirements earlier + x) (counted (drop (suc n) l))

  older_in : (n : ℕ) (c : Cell) (j : ℕ) → slice_get l n ≡ Some (Some c) → j < c.serial → is_flushed earlier j ≡ false → is_retired earlier j ≡ false
      → (later : ℕ) × (d : Cell) × (n < later) × (slice_get l later ≡ Some (Some d)) × (d.serial ≡ j)
  older_in n c j e lt alive left =
      let p = (is_in k earlier (retirements earlier) l n c are e).placed in
      let low = place_lt earlier j c.serial alive lt in
      let x = cell_of k earlier (retirements earlier) j (drop (suc n) l) (drop_in k earlier (retirements earlier) l (suc n) are) alive from (omega (arith, p, low)) in
      (suc n + x.0, x.1, omega arith, sym (get_drop l (suc n) x.0) ∙ x.2, x.3) where
        from : retirements earlier ≤ place earlier j
        from = elim (cases_lt (place earlier j) (retirements earlier)) [ inl less ↦ absurd (differ (sym (past.gone j alive less) ∙ left)) | inr more ↦ more ]

-- ---- above stage 0

module _ (k : Setting) (earlier : List Row) (row : Row) (plain : IsPlain k) (lawful : Lawful (λ places. k) earlier) (moves : MovesAbove k earlier row) where
  past_here : IsPast earlier
  past_here = (history k earlier plain lawful).known.past

  pub rest_in : AreIn k earlier (retirements earlier) (names_of (drop 1 (stages_of k row)))
  rest_in = subst (λ l. AreIn k earlier (retirements earlier) l) (rest_names (stages_of k row)) (above_in k earlier row plain (history k earlier plain lawful).known moves).are_in

  pub above_order : IsOrdered k earlier
  above_order = ordered k earlier lawful

  pub above_before : (stage : ℕ) (c : Cell) → 0 < stage → Stands k row stage c → Before k earlier stage c
  above_before stage c lt e = stood_above k earlier row moves stage c lt e

  pub above_in_place : (stage : ℕ) (c : Cell) → 0 < stage → Stands k row stage c → IsInPlace k earlier row stage c
  above_in_place zero c lt e = absurd (omega (arith, lt))
  above_in_place (suc n) c lt e =
      let here = sym (rest_get (stages_of k row) n) ∙ e in
      let i = is_in k earlier (retirements earlier) (drop 1 (stages_of k row)) n c rest_in here in
      record {
        unflushed = i.unflushed;
        unretired = unretired_in k earlier past_here (drop 1 (stages_of k row)) rest_in n c here;
        placed = placed_in k earlier past_here (drop 1 (stages_of k row)) rest_in n c here ∙ ap (λ l. retirements earlier + cells_in l) (sym (rest_drop (stages_of k row) (suc n)));
        word = i.word;
      }

  pub above_fetched : (stage : ℕ) (c : Cell) → 0 < stage → Stands k row stage c → c.serial < next_serial k earlier
  above_fetched stage c lt e = below_above k earlier above_order stage c lt (above_before stage c lt e)

  pub above_ordered : (stage later : ℕ) (c d : Cell) → 0 < stage → stage < later → Stands k row stage c → Stands k row later d → d.serial < c.serial
  above_ordered stage later c d some lt e f = old_falls k earlier above_order stage later c d lt (above_before stage c some e) (above_before later d (omega (arith, some, lt)) f)

  pub above_older : (stage : ℕ) (c : Cell) (j : ℕ) → 0 < stage → Stands k row stage c → j < c.serial → is_flushed earlier j ≡ false → is_retired earlier j ≡ false
      → (later : ℕ) × (d : Cell) × (stage < later) × Stands k row later d × (d.serial ≡ j)
  above_older zero c j some e lt alive left = absurd (omega (arith, some))
  above_older (suc n) c j some e lt alive left =
      let x = older_in k earlier past_here (drop 1 (stages_of k row)) rest_in n c j (sym (rest_get (stages_of k row) n) ∙ e) lt alive left in
      let higher = x.2 in
      (suc x.0, x.1, omega (arith, higher), rest_get (stages_of k row) x.0 ∙ x.3, x.4)

  pub above_word : (stage : ℕ) (c : Cell) (word : ℕ) → 0 < stage → Stands k row stage c → IsWordOf k earlier c.serial word → word ≡ c.word
  above_word stage c word lt e y = cell_word k earlier lawful stage c word (above_before stage c lt e) y

-- ---- with stage 0

module _ (k : Setting) (earlier : List Row) (row : Row) (plain : IsPlain k) (lawful : Lawful (λ places. k) earlier) (moves : Moves k earlier row) where
  past_first : IsPast earlier
  past_first = (history k earlier plain lawful).known.past

  cells_are : AreIn k earlier (retirements earlier) (names_of (stages_of k row))
  cells_are = row_in k earlier row plain lawful moves

  order_now : IsOrdered k (row ∷ earlier)
  order_now = ordered_next k row earlier moves (ordered k earlier lawful)

  pub first_in_place : (c : Cell) → Stands k row 0 c → IsInPlace k earlier row 0 c
  first_in_place c e =
      let i = is_in k earlier (retirements earlier) (stages_of k row) 0 c cells_are e in
      record {
        unflushed = i.unflushed;
        unretired = unretired_in k earlier past_first (stages_of k row) cells_are 0 c e;
        placed = placed_in k earlier past_first (stages_of k row) cells_are 0 c e;
        word = i.word;
      }

  pub first_fetched : (c : Cell) → Stands k row 0 c → suc c.serial ≡ next_serial k (row ∷ earlier)
  first_fetched c e = sym (first_now k row earlier moves (ordered k earlier lawful) c e)

  pub first_ordered : (later : ℕ) (c d : Cell) → 0 < later → Stands k row 0 c → Stands k row later d → d.serial < c.serial
  first_ordered later c d lt e f = order_now.falls 0 later c d lt e f

  pub first_older : (c : Cell) (j : ℕ) → Stands k row 0 c → j < c.serial → is_flushed earlier j ≡ false → is_retired earlier j ≡ false → (later : ℕ) × (d : Cell) × (0 < later) × Stands k row later d × (d.serial ≡ j)
  first_older c j e lt alive left = older_in k earlier past_first (stages_of k row) cells_are 0 c j e lt alive left

  pub first_word : (c : Cell) (word : ℕ) → Stands k row 0 c → IsWordOf k earlier c.serial word → word ≡ c.word
  first_word c word e y = cell_word k earlier lawful 0 c word (stood k earlier row moves 0 c e) y

  pub first_new : (stage : ℕ) (c d : Cell) → Stands k row 0 c → Stands k (newest earlier) stage d → d.serial ≡ c.serial → (stage ≡ 0) × (leaves (newest earlier) (Some d) ≡ None)
  first_new stage c d e f same = by_before (stood k earlier row moves 0 c e) where
    order : IsOrdered k earlier
    order = ordered k earlier lawful

    by_before : Before k earlier 0 c → (stage ≡ 0) × (leaves (newest earlier) (Some d) ≡ None)
    by_before (held b g s h) =
        let at = one_in_row k earlier order stage 0 d b f g (same ∙ sym (same_serial b c s)) in
        (at, ap (λ (x : Cell). leaves (newest earlier) (Some x)) (one_cell k (newest earlier) stage 0 d b at f g) ∙ h.still)
    by_before (moved i z b g s l) = absurd (no_zero i z)
    by_before (new z h q) =
        let l = order.below stage d f in
        let s = (is_fetched k earlier (c.serial, c.at, c.word) q).serial in
        absurd (omega (arith, l, s, same))
