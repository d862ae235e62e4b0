-- Behind a stop no successor is settled: a row is right in its successors exactly where it flushes nothing and names no address.
use Rattle.std.proofs.Common.{◌≡◌, ◌∙◌, refl, sym, ap, subst, ℕ, ◌<◌, List, [], ◌∷◌, Option, Some, None, Bool, true, false, arith, inl, inr, ◌⊎◌}
use Rattle.std.specs.Prelude.{Decides, ◌||◌, ◌==◌, is_some, is_none}
use Rattle.std.proofs.lemmas.Bool.{cases_lt}
use Rattle.std.proofs.lemmas.Bool.Decides.{Decides-and, Decides-like}
use Rattle.rv_trace.specs.declared.row.Cell.{Cell}
use Rattle.rv_trace.specs.declared.row.Row.{Row}
use Rattle.rv_trace.specs.Trace.{has_serial, newest, place}
use Rattle.rv_lawful.specs.Settings.{Setting, Stands}
use Rattle.rv_lawful.specs.LawfulTrace.{IsSettlingStage, Lawful}
use Rattle.rv_rows.specs.Facts.{IsPlain, RowFacts}
use Rattle.rv_rows.proofs.Coming.{same_serial}
use Rattle.rv_rows.proofs.Tests.{not_true, number_same}
use Rattle.rv_rows.proofs.Places.{place_same}
use Rattle.rv_rows.specs.Kinds.{MovesRightly, FetchesRightly, SettlesMarked, SucceedsRightly}
use Rattle.rv_rows.proofs.Behind.{IsBehindCell, IsBehindFetch, IsBehind, behind}
use Rattle.rv_marks.specs.Marks.{no_marks, is_still}
use Rattle.rv_marks.proofs.Cells.{none_some, true_false}

-- nothing is marked

abbrev Unmarked : List (Option ℕ) → Type 0
Unmarked marks = (s : ℕ) → has_serial marks s ≡ false

or_left : (a b : Bool) → (a || b) ≡ false → a ≡ false
or_left true b e = cc
or_left false b e = refl

itself : (s : ℕ) → (s == s) ≡ true
itself s = number_same s s refl

marks_tell : (marks : List (Option ℕ)) → Decides (no_marks marks) (Unmarked marks)
marks_tell [] = (λ e s. refl, λ f. refl)
marks_tell (None ∷ rest) = marks_tell rest
marks_tell (Some t ∷ rest) = (λ e. cc, λ f. absurd (true_false (t == t) (itself t) (or_left (t == t) (has_serial rest t) (f t))))

none_tells : (o : Option ℕ) → Decides (is_none o) (o ≡ None)
none_tells None = (λ e. refl, λ e. refl)
none_tells (Some a) = (λ e. cc, λ e. absurd (none_some a (sym e)))

module _ (k : Setting) (earlier : List Row) (row : Row) (plain : IsPlain k) where
  settling_least : (late : Bool) (stage : ℕ) → IsSettlingStage k late stage → k.shape.ex ≡ stage ⊎ k.shape.ex < stage
  settling_least true stage h = let a = plain.mem_last in let b = plain.ex_mem in inr (omega (arith, h, a, b))
  settling_least false stage h = inl (sym h)

  -- where none settles

  abbrev NoneSettles : Type 0
  NoneSettles = (stage : ℕ) (c : Cell) → Stands k row stage c → SettlesMarked k earlier row stage c → ⊥

  still_of : (Unmarked row.flushed → NoneSettles) → Unmarked row.flushed × (row.redirect ≡ None) → SucceedsRightly k earlier row
  still_of none h = record {
    flushes = λ stage c m. absurd (none h.0 stage c m.stands m.settles);
    named = λ stage c m. absurd (none h.0 stage c m.stands m.settles);
    alone = λ stage c s t. absurd (none h.0 stage c s t);
    flushed_only = λ s e. absurd (true_false (has_serial row.flushed s) e (h.0 s));
    named_only = λ a e. absurd (none_some a (sym h.1 ∙ e));
  }

  of_still : (Unmarked row.flushed → NoneSettles) → (SucceedsRightly k earlier row → Unmarked row.flushed) → SucceedsRightly k earlier row → Unmarked row.flushed × (row.redirect ≡ None)
  of_still none unmarked h = (unmarked h, by_case row.redirect refl) where
    by_case : (o : Option ℕ) → row.redirect ≡ o → row.redirect ≡ None
    by_case None e = e
    by_case (Some a) e = let x = h.named_only a e in absurd (none (unmarked h) x.0 x.1 x.2 x.3)

  -- behind a cell that stopped
  module _ (fetches : FetchesRightly k earlier row) (c : Cell) (is : IsBehindCell k earlier row c) where
    -- what settles stands in EX
    settles_there : (stage : ℕ) (d : Cell) → Stands k row stage d → SettlesMarked k earlier row stage d → k.shape.ex ≡ stage
    settles_there stage d s t = elim (settling_least (k.asks d.word).late stage t.settling) [ inl e ↦ e | inr lt ↦ absurd (is.none_above stage d lt s) ]

    ex_pos : 0 < k.shape.ex
    ex_pos = let a = plain.rd_pos in let b = plain.rd_ex in omega (arith, a, b)

    -- what stands below EX is younger
    below : (n : ℕ) (d : Cell) → n < k.shape.ex → Stands k row n d → c.serial < d.serial
    below n d lt s = elim (cases_lt 0 n) [
      | inl pos ↦ is.younger n d pos lt s
      | inr low ↦ let e : n ≡ 0 = omega (arith, low) in is.first_younger fetches d (subst (λ m. Stands k row m d) e s)
    ]

    -- where nothing older is flushed it is due to stop, so it settles nothing
    none_settles : ((j : ℕ) → j < c.serial → has_serial row.flushed j ≡ false) → NoneSettles
    none_settles low stage d s t =
        let e = settles_there stage d s t in
        let same = same_serial d c (is.at_ex d (subst (λ n. Stands k row n d) (sym e) s)) in
        t.runs (sym e) is.due.0 (ap k.course.answer (ap (place (row ∷ earlier)) same ∙ place_same row earlier c.serial low) ∙ is.due.1)

    flushed_above : SucceedsRightly k earlier row → (j : ℕ) → has_serial row.flushed j ≡ true → c.serial < j
    flushed_above h j e =
        let x = h.flushed_only j e in
        let at = settles_there x.0 x.1 x.4.stands x.4.settles in
        let lt = x.5 in
        let f = below x.2 x.3 (omega (arith, lt, at)) x.6 in
        let q = x.7 in
        omega (arith, f, q)

    unmarked : SucceedsRightly k earlier row → Unmarked row.flushed
    unmarked h s = not_true (has_serial row.flushed s) (λ e.
        let x = h.flushed_only s e in
        none_settles (λ j lt. not_true (has_serial row.flushed j) (λ f. let up = flushed_above h j f in omega (arith, lt, up))) x.0 x.1 x.4.stands x.4.settles)

    cell_tells : Decides (is_still row) (SucceedsRightly k earlier row)
    cell_tells =
        Decides-like (is_still row) (still_of (λ u. none_settles (λ j lt. u j))) (of_still (λ u. none_settles (λ j lt. u j)) unmarked)
        (Decides-and (no_marks row.flushed) (is_none row.redirect) (marks_tell row.flushed) (none_tells row.redirect))

  -- behind a fetch without a word nothing stands
  module _ (fetches : FetchesRightly k earlier row) (is : IsBehindFetch k earlier row) where
    nothing : NoneSettles
    nothing stage d s t = elim (cases_lt 0 stage) [
      | inl pos ↦ is.none_above stage d pos s
      | inr low ↦ let e : stage ≡ 0 = omega (arith, low) in is.none_first fetches d (subst (λ m. Stands k row m d) e s)
    ]

    fetch_tells : Decides (is_still row) (SucceedsRightly k earlier row)
    fetch_tells =
        Decides-like (is_still row) (still_of (λ u. nothing)) (of_still (λ u. nothing) (λ h s. not_true (has_serial row.flushed s) (λ e. let x = h.flushed_only s e in nothing x.0 x.1 x.4.stands x.4.settles)))
        (Decides-and (no_marks row.flushed) (is_none row.redirect) (marks_tell row.flushed) (none_tells row.redirect))

pub still_tells : (k : Setting) (earlier : List Row) (row : Row) → RowFacts → IsPlain k → Lawful (λ places. k) earlier → is_some (newest earlier).stop ≡ true → MovesRightly k earlier row → FetchesRightly k earlier row
    → Decides (is_still row) (SucceedsRightly k earlier row)
still_tells k earlier row facts plain lawful stop moves fetches = by_case (behind facts k earlier row plain lawful stop moves) where
  by_case : IsBehind k earlier row → Decides (is_still row) (SucceedsRightly k earlier row)
  by_case (inl x) = cell_tells k earlier row plain fetches x.0 x.2
  by_case (inr y) = fetch_tells k earlier row plain fetches y.1
