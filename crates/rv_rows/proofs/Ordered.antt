-- Serials: they fall from stage to stage, the next one is above all that were seen, and each has one word.
use Rattle.std.proofs.Common.{◌≡◌, ℕ, zero, suc, ◌<◌, ◌≤◌, List, [], ◌∷◌, Option, Some, None, true, refl, sym, ap, ◌∙◌, subst, arith, inl, inr, ◌⊎◌}
use Rattle.std.specs.Prelude.{is_some}
use Rattle.std.proofs.lemmas.Bool.{cases_lt}
use Rattle.rv_trace.specs.declared.row.Cell.{Cell}
use Rattle.rv_trace.specs.declared.row.Row.{Row}
use Rattle.rv_trace.specs.Trace.{newest}
use Rattle.rv_trace.specs.RowParts.{front, name_of, leaves, serial_after}
use Rattle.rv_lawful.specs.Settings.{Setting, stages_of, Stands}
use Rattle.rv_lawful.specs.LawfulTrace.{Moves, Lawful, IsWordOf, next_serial}
use Rattle.rv_rows.proofs.Coming.{Before, held, moved, new, is_fetched, stood, same_serial, same_word, leaves_free, none_before, one_cell, front_is, front_there}
use Rattle.rv_rows.proofs.Tests.{differ, no_zero}

-- ---- serials fall from stage to stage

pub record IsOrdered (k : Setting) (rows : List Row) : Type 0 where
  pub below : (n : ℕ) (c : Cell) → Stands k (newest rows) n c → c.serial < next_serial k rows
  pub falls : (a b : ℕ) (c d : Cell) → a < b → Stands k (newest rows) a c → Stands k (newest rows) b d → d.serial < c.serial
  pub first : (c : Cell) → Stands k (newest rows) 0 c → next_serial k rows ≡ suc c.serial

-- what is held does not leave
held_leaves : (k : Setting) (row : Row) (a b : ℕ) (c d : Cell) → a ≡ b → Stands k row a c → Stands k row b d → is_some c.hold ≡ true → leaves row (Some d) ≡ name_of (Some d) → ⊥
held_leaves k row a b c d z e f h l =
    differ (sym h ∙ ap (λ (x : Cell). is_some x.hold) (one_cell k row a b c d z e f) ∙ (leaves_free row d (d.serial, d.at, d.word) l).0)

module _ (k : Setting) (earlier : List Row) (before : IsOrdered k earlier) where
  -- the serial is that of a fetch before this one, where it is not new
  pub was_below : (n : ℕ) (c : Cell) → Before k earlier n c → (c.serial < next_serial k earlier) ⊎ ((n ≡ 0) × (c.serial ≡ next_serial k earlier))
  was_below n c (held b g s h) = let l = before.below n b g in let q = same_serial b c s in inl (omega (arith, l, q))
  was_below n c (moved i z b g s l) = let p = before.below i b g in let q = same_serial b c s in inl (omega (arith, p, q))
  was_below n c (new z h e) = inr (z, (is_fetched k earlier (c.serial, c.at, c.word) e).serial)

  pub below_above : (n : ℕ) (c : Cell) → 0 < n → Before k earlier n c → c.serial < next_serial k earlier
  below_above n c lt b = elim (was_below n c b) [ inl l ↦ l | inr y ↦ let z = y.0 in absurd (omega (arith, z, lt)) ]

  pub old_falls : (a b : ℕ) (c d : Cell) → a < b → Before k earlier a c → Before k earlier b d → d.serial < c.serial
  old_falls a b c d lt (new z h e) y =
      let s = (is_fetched k earlier (c.serial, c.at, c.word) e).serial in
      let l = below_above b d (omega (arith, lt)) y in
      omega (arith, l, s)
  old_falls a b c d lt x (new z h e) = absurd (omega (arith, z, lt))
  old_falls a b c d lt (held e g s h) (held f g2 s2 h2) =
      let l = before.falls a b e f lt g g2 in
      let p = same_serial e c s in
      let q = same_serial f d s2 in
      omega (arith, l, p, q)
  old_falls a b c d lt (moved i z e g s l) (held f g2 s2 h2) =
      let l = before.falls i b e f (omega (arith, z, lt)) g g2 in
      let p = same_serial e c s in
      let q = same_serial f d s2 in
      omega (arith, l, p, q)
  old_falls a b c d lt (moved i z e g s l) (moved j z2 f g2 s2 l2) =
      let l = before.falls i j e f (omega (arith, z, z2, lt)) g g2 in
      let p = same_serial e c s in
      let q = same_serial f d s2 in
      omega (arith, l, p, q)
  old_falls a b c d lt (held e g s h) (moved j z f g2 s2 l2) = elim (cases_lt a j) [
    | inl less ↦ let l = before.falls a j e f less g g2 in let p = same_serial e c s in let q = same_serial f d s2 in omega (arith, l, p, q)
    | inr le ↦ absurd (held_leaves k (newest earlier) a j e f (omega (arith, z, lt, le)) g g2 h.held l2)
  ]

module _ (k : Setting) (row : Row) (earlier : List Row) (moves : Moves k earlier row) (before : IsOrdered k earlier) where
  falls_now : (a b : ℕ) (c d : Cell) → a < b → Stands k row a c → Stands k row b d → d.serial < c.serial
  falls_now a b c d lt e f = old_falls k earlier before a b c d lt (stood k earlier row moves a c e) (stood k earlier row moves b d f)

  -- the next serial is that behind the cell of stage 0, where one is there
  pub first_now : (c : Cell) → Stands k row 0 c → next_serial k (row ∷ earlier) ≡ suc c.serial
  unfolding next_serial
  first_now c e = ap (λ o. serial_after (next_serial k earlier) o) (front_is (stages_of k row) (Some c) e)

  pub none_now : front (stages_of k row) ≡ None → next_serial k (row ∷ earlier) ≡ next_serial k earlier
  unfolding next_serial
  none_now q = ap (λ o. serial_after (next_serial k earlier) o) q

  -- it is above that of each cell
  below_now : (n : ℕ) (c : Cell) → Stands k row n c → c.serial < next_serial k (row ∷ earlier)
  below_now zero c e = let f = first_now c e in omega (arith, f)
  below_now (suc n) c e = by_first (front (stages_of k row)) refl where
    by_first : (o : Option Cell) → front (stages_of k row) ≡ o → c.serial < next_serial k (row ∷ earlier)
    by_first None q =
        let f = none_now q in
        let l = below_above k earlier before (suc n) c (omega arith) (stood k earlier row moves (suc n) c e) in
        omega (arith, l, f)
    by_first (Some b) q =
        let there = front_there (stages_of k row) b q in
        let f = first_now b there in
        let l = falls_now 0 (suc n) b c (omega arith) there e in
        omega (arith, f, l)

  -- and not below the one before
  pub next_above : next_serial k earlier ≤ next_serial k (row ∷ earlier)
  next_above = by_first (front (stages_of k row)) refl where
    by_before : (b : Cell) → Before k earlier 0 b → next_serial k earlier ≤ suc b.serial
    by_before b (held c g s h) = let f = before.first c g in let q = same_serial c b s in omega (arith, f, q)
    by_before b (moved i z c g s l) = absurd (no_zero i z)
    by_before b (new z h e) = let s = (is_fetched k earlier (b.serial, b.at, b.word) e).serial in omega (arith, s)

    by_first : (o : Option Cell) → front (stages_of k row) ≡ o → next_serial k earlier ≤ next_serial k (row ∷ earlier)
    by_first None q = let f = none_now q in omega (arith, f)
    by_first (Some b) q =
        let there = front_there (stages_of k row) b q in
        let f = first_now b there in
        let l = by_before b (stood k earlier row moves 0 b there) in
        omega (arith, f, l)

  pub ordered_next : IsOrdered k (row ∷ earlier)
  ordered_next = record { below = below_now; falls = falls_now; first = first_now }

pub ordered : (k : Setting) (rows : List Row) → Lawful (λ places. k) rows → IsOrdered k rows
ordered k [] h = record { below = λ n c e. absurd (none_before k n c e); falls = λ a b c d lt e f. absurd (none_before k a c e); first = λ c e. absurd (none_before k 0 c e) }
ordered k (row ∷ earlier) h = ordered_next k row earlier h.0.moves (ordered k earlier h.2)

-- in one row a serial stands in one stage
pub one_in_row : (k : Setting) (rows : List Row) → IsOrdered k rows → (a b : ℕ) (c d : Cell) → Stands k (newest rows) a c → Stands k (newest rows) b d → c.serial ≡ d.serial → a ≡ b
one_in_row k rows h a b c d e f s = elim (cases_lt a b) [
  | inl lt ↦ let l = h.falls a b c d lt e f in absurd (omega (arith, l, s))
  | inr le ↦ elim (cases_lt b a) [
    | inl lt ↦ let l = h.falls b a d c lt f e in absurd (omega (arith, l, s))
    | inr ge ↦ omega (arith, le, ge)
  ]
]

-- ---- a serial has one word

-- what was seen is below the next serial
pub known_below : (k : Setting) (rows : List Row) → Lawful (λ places. k) rows → (s word : ℕ) → IsWordOf k rows s word → s < next_serial k rows
known_below k [] h s word y = absurd y
known_below k (row ∷ earlier) h s word (inl y) = let l = (ordered k (row ∷ earlier) h).below y.0 y.1 y.2 in let q = y.3 in omega (arith, l, q)
known_below k (row ∷ earlier) h s word (inr y) =
    let l = known_below k earlier h.2 s word y in
    let q = next_above k row earlier h.0.moves (ordered k earlier h.2) in
    omega (arith, l, q)

-- a cell of the newest row has its word in these rows
pub known_newest : (k : Setting) (rows : List Row) (n : ℕ) (c : Cell) (s word : ℕ) → Stands k (newest rows) n c → c.serial ≡ s → c.word ≡ word → IsWordOf k rows s word
known_newest k [] n c s word e f g = absurd (none_before k n c e)
known_newest k (row ∷ earlier) n c s word e f g = inl (n, c, e, f, g)

-- a cell of a row whose serial was there before had its word before
carried : (k : Setting) (earlier : List Row) → Lawful (λ places. k) earlier → (n : ℕ) (c : Cell) → Before k earlier n c → (w : ℕ) → IsWordOf k earlier c.serial w → IsWordOf k earlier c.serial c.word
carried k earlier h n c (held b g s q) w z = known_newest k earlier n b c.serial c.word g (same_serial b c s) (same_word b c s)
carried k earlier h n c (moved i q b g s l) w z = known_newest k earlier i b c.serial c.word g (same_serial b c s) (same_word b c s)
carried k earlier h n c (new q g e) w z =
    let l = known_below k earlier h c.serial w z in
    let s = (is_fetched k earlier (c.serial, c.at, c.word) e).serial in
    absurd (omega (arith, l, s))

carried_word : (k : Setting) (row : Row) (earlier : List Row) → Lawful (λ places. k) (row ∷ earlier) → (s v : ℕ) → ((n : ℕ) × (c : Cell) × Stands k row n c × (c.serial ≡ s) × (c.word ≡ v)) → (w : ℕ) → IsWordOf k earlier s w → IsWordOf k earlier s v
carried_word k row earlier h s v y w z =
    ap_words (carried k earlier h.2 y.0 y.1 (stood k earlier row h.0.moves y.0 y.1 y.2) w (back w z)) where
      back : (w : ℕ) → IsWordOf k earlier s w → IsWordOf k earlier y.1.serial w
      back w z = subst (λ j. IsWordOf k earlier j w) (sym y.3) z

      ap_words : IsWordOf k earlier y.1.serial y.1.word → IsWordOf k earlier s v
      ap_words x = subst (λ j. IsWordOf k earlier j v) y.3 (subst (λ w. IsWordOf k earlier y.1.serial w) y.4 x)

pub one_word : (k : Setting) (rows : List Row) → Lawful (λ places. k) rows → (s v w : ℕ) → IsWordOf k rows s v → IsWordOf k rows s w → v ≡ w
one_word k [] h s v w y z = absurd y
one_word k (row ∷ earlier) h s v w (inr y) (inr z) = one_word k earlier h.2 s v w y z
one_word k (row ∷ earlier) h s v w (inl y) (inl z) =
    let a = one_in_row k (row ∷ earlier) (ordered k (row ∷ earlier) h) y.0 z.0 y.1 z.1 y.2 z.2 (y.3 ∙ sym z.3) in
    let same = one_cell k row y.0 z.0 y.1 z.1 a y.2 z.2 in
    sym y.4 ∙ ap (λ (x : Cell). x.word) same ∙ z.4
one_word k (row ∷ earlier) h s v w (inl y) (inr z) = one_word k earlier h.2 s v w (carried_word k row earlier h s v y w z) z
one_word k (row ∷ earlier) h s v w (inr y) (inl z) = one_word k earlier h.2 s v w y (carried_word k row earlier h s w z v y)

-- so a cell that came from these rows has the word that was seen there
pub cell_word : (k : Setting) (earlier : List Row) → Lawful (λ places. k) earlier → (n : ℕ) (c : Cell) (w : ℕ) → Before k earlier n c → IsWordOf k earlier c.serial w → w ≡ c.word
cell_word k earlier h n c w b z = one_word k earlier h c.serial w c.word z (carried k earlier h n c b w z)
