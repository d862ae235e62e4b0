-- What a lawful row flushes and retires, beside what has retired before it.
use Rattle.std.proofs.Common.{◌≡◌, ℕ, zero, suc, ◌<◌, ◌≤◌, List, [], ◌∷◌, drop, take, Option, Some, None, Bool, true, false, refl, sym, ap, ◌∙◌, subst, arith, inl, inr, ◌⊎◌}
use Rattle.std.specs.Prelude.{if◌then◌else◌, ◌||◌, is_some}
use Rattle.std.proofs.lemmas.Option.{same_Some}
use Rattle.rv_seq.specs.declared.commit.Commit.{Commit}
use Rattle.rv_seq.specs.Steps.{word_at}
use Rattle.rv_asks.specs.declared.asks.Asks.{Asks}
use Rattle.rv_tried.specs.Parts.{shown}
use Rattle.rv_trace.specs.declared.row.Cell.{Cell}
use Rattle.rv_trace.specs.declared.row.Row.{Row}
use Rattle.rv_trace.specs.Trace.{has_serial, is_flushed, retires, is_retired, place, retirements, newest}
use Rattle.rv_trace.specs.RowParts.{names_of, front, stays, comes}
use Rattle.rv_lawful.specs.Settings.{Setting, stages_of, Stands}
use Rattle.rv_lawful.specs.LawfulTrace.{IsWordOf, LawfulRow, IsFlushedByMismatch, IsFlushedByEntry, new_cell}
use Rattle.rv_lawful.specs.Headline.{IsRecord}
use Rattle.rv_rows.specs.Facts.{IsPlain, AreGoingOn, cells_in, MovesAbove, IsInPlace, AboveFacts, RowFacts}
use Rattle.rv_rows.specs.Recorded.{HasWords}
use Rattle.rv_rows.specs.Gone.{LeavingFacts}
use Rattle.rv_rows.proofs.GoneTests.{not_true, same_number, or_true}
use Rattle.rv_rows.proofs.GonePlaces.{place_lt, lower_place, unflushed_more, place_same}
use Rattle.rv_rows.proofs.GoneComing.{leaves_kept, moves_above, word_before, stands_below, last_stage}

-- what has retired is not flushed, has a place below the count of retirements, and a word
pub record IsPast (k : Setting) (rows : List Row) : Type 0 where
  pub unflushed : (j : ℕ) → is_retired rows j ≡ true → is_flushed rows j ≡ false
  pub placed : (j : ℕ) → is_retired rows j ≡ true → place rows j < retirements rows
  pub worded : (j : ℕ) → is_retired rows j ≡ true → (word : ℕ) × IsWordOf k rows j word

-- ---- counts

retired_step : (row : Row) (rows : List Row) (j : ℕ) → is_retired (row ∷ rows) j ≡ (retires row.retired j || is_retired rows j)
unfolding is_retired
retired_step row rows j = refl

retirements_step : (row : Row) (earlier : List Row) → retirements (row ∷ earlier) ≡ (if is_some row.retired then suc (retirements earlier) else retirements earlier)
unfolding retirements
retirements_step row earlier = refl

retirements_more : (row : Row) (earlier : List Row) → retirements earlier ≤ retirements (row ∷ earlier)
retirements_more row earlier = let e = retirements_step row earlier in let l = by_case (is_some row.retired) in omega (arith, e, l) where
  by_case : (b : Bool) → retirements earlier ≤ (if b then suc (retirements earlier) else retirements earlier)
  by_case true = omega arith
  by_case false = omega arith

retirements_one : (row : Row) (earlier : List Row) (x : ℕ × Commit) → row.retired ≡ Some x → retirements (row ∷ earlier) ≡ suc (retirements earlier)
retirements_one row earlier x e = retirements_step row earlier ∙ ap (λ (o : Option (ℕ × Commit)). if is_some o then suc (retirements earlier) else retirements earlier) e

retires_is : (o : Option (ℕ × Commit)) (j : ℕ) → retires o j ≡ true → (c : Commit) × (o ≡ Some (j, c))
retires_is None j e = cc
retires_is (Some (t, c)) j e = (c, ap (λ (n : ℕ). Some (n, c)) (same_number t j e))

-- nothing stands above the last stage
none_over : (n : ℕ) (cells : List (Option Cell)) → cells_in (drop n (take n cells)) ≡ 0
none_over zero cells = refl
none_over (suc n) [] = refl
none_over (suc n) (c ∷ rest) = none_over n rest

shown_word : (a : Asks) (c : Commit) → (shown a c).word ≡ c.word
unfolding shown
shown_word a c = refl

-- what retires stands in the last stage, and is not flushed
record IsLast (k : Setting) (row : Row) (s : ℕ) : Type 0 where
  stage : ℕ
  cell : Cell
  last : suc stage ≡ k.shape.stages
  some : 0 < stage
  stands : Stands k row stage cell
  kept : has_serial row.flushed cell.serial ≡ false
  serial : cell.serial ≡ s

-- ---- above stage 0

pub older_above : RowFacts → (k : Setting) (earlier : List Row) (row : Row) → IsPlain k → AreGoingOn k earlier → MovesAbove k earlier row → IsPast k earlier
    → (stage j : ℕ) (c : Cell) → 0 < stage → Stands k row stage c → is_retired earlier j ≡ true → j < c.serial
older_above facts k earlier row plain going moves past stage j c lt e r =
    let p = ((facts.above k earlier row plain going moves).in_place stage c lt e).placed in
    let low = past.placed j r in
    lower_place earlier j c.serial (omega (arith, p, low))

-- ---- a lawful row

module _ (facts : RowFacts) (k : Setting) (earlier : List Row) (row : Row) (plain : IsPlain k) (going : AreGoingOn k earlier) (lawful : LawfulRow k earlier row) (past : IsPast k earlier) where
  moves : MovesAbove k earlier row
  moves = moves_above (newest earlier) (comes (stays (newest earlier) (front (stages_of k (newest earlier)))) (new_cell k earlier)) (stages_of k (newest earlier)) (names_of (stages_of k row)) lawful.moves

  above : AboveFacts k earlier row
  above = facts.above k earlier row plain going moves

  in_place : (stage : ℕ) (c : Cell) → Stands k row stage c → IsInPlace k earlier row stage c
  in_place zero c e = (facts.first k earlier row plain going lawful.moves).in_place c e
  in_place (suc n) c e = above.in_place (suc n) c (omega arith) e

  -- what is flushed stands in the row
  flushed_cell : (s : ℕ) → has_serial row.flushed s ≡ true → (stage : ℕ) × (c : Cell) × Stands k row stage c × (c.serial ≡ s)
  flushed_cell s e = by_cause (lawful.successors.flushed_only s e) where
    by_cause : IsFlushedByMismatch k earlier row s ⊎ IsFlushedByEntry k row s → (stage : ℕ) × (c : Cell) × Stands k row stage c × (c.serial ≡ s)
    by_cause (inl x) = (x.2, x.3, x.6, x.7)
    by_cause (inr y) = (y.1, y.2, y.4, y.5)

  -- so no serial is flushed up to one that has retired
  old_kept : (i j : ℕ) → i ≤ j → is_retired earlier j ≡ true → has_serial row.flushed i ≡ false
  old_kept i j le r = not_true (has_serial row.flushed i) flushed where
    flushed : has_serial row.flushed i ≡ true → ⊥
    flushed f =
        let x = flushed_cell i f in
        let p = (in_place x.0 x.1 x.2).placed in
        let low = past.placed j r in
        let higher = lower_place earlier j x.1.serial (omega (arith, p, low)) in
        let same = x.3 in
        omega (arith, higher, same, le)

  old_place : (j : ℕ) → is_retired earlier j ≡ true → place (row ∷ earlier) j ≡ place earlier j
  old_place j r = place_same row earlier j (λ i lt. old_kept i j (omega (arith, lt)) r)

  -- what retires

  last_of : (s : ℕ) (c : Commit) → row.retired ≡ Some (s, c) → IsLast k row s
  last_of s c e =
      let a = plain.rd_pos in
      let b = plain.rd_ex in
      let x = plain.ex_mem in
      let d = plain.mem_last in
      let m = last_stage k.shape.stages (omega (arith, a, b, x, d)) in
      let end = m.1 in
      let y = (lawful.retires m.0 m.1).leaver s c e in
      record { stage = m.0; cell = y.0; last = m.1; some = omega (arith, a, b, x, d, end); stands = y.1; kept = leaves_kept row y.0 y.2; serial = y.3 }

  last_place : (s : ℕ) (l : IsLast k row s) → place earlier l.cell.serial ≡ retirements earlier
  last_place s l =
      let p = (in_place l.stage l.cell l.stands).placed in
      let z : cells_in (drop (suc l.stage) (stages_of k row)) ≡ 0 = ap (λ n. cells_in (drop n (stages_of k row))) l.last ∙ none_over k.shape.stages row.cells in
      omega (arith, p, z)

  -- nothing older is flushed
  last_kept : (s : ℕ) (l : IsLast k row s) (i : ℕ) → i < l.cell.serial → has_serial row.flushed i ≡ false
  last_kept s l i lt = not_true (has_serial row.flushed i) flushed where
    flushed : has_serial row.flushed i ≡ true → ⊥
    flushed f =
        let x = flushed_cell i f in
        let h = in_place x.0 x.1 x.2 in
        let p = h.placed in
        let same = x.3 in
        let q = last_place s l in
        let lower = place_lt earlier x.1.serial l.cell.serial h.unflushed (omega (arith, lt, same)) in
        omega (arith, p, q, lower)

  last_now : (s : ℕ) (l : IsLast k row s) → place (row ∷ earlier) l.cell.serial ≡ retirements earlier
  last_now s l = place_same row earlier l.cell.serial (last_kept s l) ∙ last_place s l

  -- ---- behind the row

  abbrev IsGone : ℕ → Type 0
  IsGone j = (is_flushed (row ∷ earlier) j ≡ false) × (place (row ∷ earlier) j < retirements (row ∷ earlier)) × ((word : ℕ) × IsWordOf k (row ∷ earlier) j word)

  gone_now : (j : ℕ) (c : Commit) → row.retired ≡ Some (j, c) → IsGone j
  gone_now j c e =
      let l = last_of j c e in
      let p = last_now j l in
      let one = retirements_one row earlier (j, c) e in
      subst (λ n. IsGone n) l.serial (
        unflushed_more row earlier l.cell.serial l.kept (in_place l.stage l.cell l.stands).unflushed,
        omega (arith, p, one),
        (l.cell.word, inl (l.stage, l.cell, l.stands, refl, refl)),
      )

  gone_before : (j : ℕ) → is_retired earlier j ≡ true → IsGone j
  gone_before j r =
      let p = old_place j r in
      let low = past.placed j r in
      let more = retirements_more row earlier in
      let w = past.worded j r in
      (unflushed_more row earlier j (old_kept j j (omega arith) r) (past.unflushed j r), omega (arith, p, low, more), (w.0, inr w.1))

  gone : (j : ℕ) → is_retired (row ∷ earlier) j ≡ true → IsGone j
  gone j e = elim (or_true (retires row.retired j) (is_retired earlier j) (sym (retired_step row earlier j) ∙ e)) [
    | inl x ↦ let y = retires_is row.retired j x in gone_now j y.0 y.1
    | inr y ↦ gone_before j y
  ]

  pub past_next : IsPast k (row ∷ earlier)
  past_next = record { unflushed = λ j e. (gone j e).0; placed = λ j e. (gone j e).1; worded = λ j e. (gone j e).2 }

  -- ---- the word of the record

  last_address : (s : ℕ) (l : IsLast k row s) → l.cell.at ≡ k.course.pc (retirements earlier)
  last_address s l =
      let a = plain.ex_mem in
      let b = plain.mem_last in
      let end = l.last in
      above.address l.stage l.cell (omega (arith, a, b, end)) l.stands none_above ∙ ap k.course.pc (last_place s l) where
        none_above : (later : ℕ) (d : Cell) → l.stage < later → Stands k row later d → (k.asks d.word).late ≡ false
        none_above later d lt e = let in_row = stands_below k row later d e in let end = l.last in absurd (omega (arith, in_row, end, lt))

  recorded : HasWords k → (s : ℕ) (c : Commit) → row.retired ≡ Some (s, c) → IsRecord k (retirements earlier) c → IsWordOf k earlier s c.word
  recorded words s c e r =
      let l = last_of s c e in
      let image : word_at k.image (k.course.pc (retirements earlier)) ≡ Some l.cell.word = sym (ap (word_at k.image) (last_address s l)) ∙ (in_place l.stage l.cell l.stands).word in
      let same : l.cell.word ≡ r.0.word = same_Some l.cell.word r.0.word (sym image ∙ words (retirements earlier) r.0 r.1) in
      let is : l.cell.word ≡ c.word = same ∙ sym (shown_word (k.asks r.0.word) r.0) ∙ ap (λ (x : Commit). x.word) (sym r.2) in
      subst (λ n. IsWordOf k earlier n c.word) l.serial
      (subst (λ w. IsWordOf k earlier l.cell.serial w) is (word_before k earlier row moves l.stage l.cell l.some l.stands))

  pub leaving_facts : HasWords k → LeavingFacts k earlier row
  leaving_facts words =
      record {
        once = λ s c e. let l = last_of s c e in subst (λ n. is_retired earlier n ≡ false) l.serial (in_place l.stage l.cell l.stands).unretired;
        later = λ s j c e r. let l = last_of s c e in subst (λ n. j < n) l.serial (older_above facts k earlier row plain going moves past l.stage j l.cell l.some l.stands r);
        placed = λ s c e. let l = last_of s c e in subst (λ n. place (row ∷ earlier) n ≡ retirements earlier) l.serial (last_now s l);
        stays = old_place;
        word = recorded words;
      }
