-- After a lawful row the address behind each cell that has settled its successor is the run's: a cell with another address is flushed, and the fetch is turned.
use Rattle.std.proofs.Common.{◌≡◌, ℕ, suc, ◌+◌, ◌-◌, ◌<◌, ◌≤◌, List, [], ◌∷◌, length, Option, Some, None, Bool, true, false, refl, sym, ap, ◌∙◌, subst, arith, inl, inr, ◌⊎◌}
use Rattle.std.specs.Prelude.{if◌then◌else◌, ◌==◌, slice_get}
use Rattle.std.proofs.lemmas.Bool.{cases_lt}
use Rattle.rv_seq.specs.declared.commit.Stop.{Stop}
use Rattle.rv_trace.specs.declared.row.Cell.{Cell}
use Rattle.rv_trace.specs.declared.row.Row.{Row}
use Rattle.rv_trace.specs.Trace.{has_serial}
use Rattle.rv_trace.specs.RowParts.{name_of, names_of, leaves, unless}
use Rattle.rv_lawful.specs.Settings.{Setting, stages_of, Stands}
use Rattle.rv_lawful.specs.LawfulTrace.{LawfulRow, plain_fetch, fetch_address, Settles, successor, IsSettlingStage, HasNoYounger, IsMismatch, IsFlushedByMismatch, StopsRun}
use Rattle.rv_rows.specs.Facts.{IsPlain}
use Rattle.rv_rows.proofs.Coming.{Fate, gone, kept, left, fate, one_cell}
use Rattle.rv_rows.proofs.Ordered.{IsOrdered, one_in_row}
use Rattle.rv_rows.proofs.Placed.{count, live, live_more, Lives}
use Rattle.rv_rows.proofs.Flushed.{untaken, flushed_by, above_stays}
use Rattle.rv_rows.proofs.Addresses.{HasSettled, settled_or_settles, AreRight, AreRightAfter, next_stage}
use Rattle.rv_rows.proofs.Tests.{differ, no_some, same_number, number_differs}

-- the named address, or the plain one where they are the same
unless_same : (a b : ℕ) → unless (if a == b then None else Some a) b ≡ a
unless_same a b = by_case (a == b) refl where
  by_case : (x : Bool) → (a == b) ≡ x → unless (if x then None else Some a) b ≡ a
  by_case true e = sym (same_number a b e)
  by_case false e = refl

all_live : (row : Row) (l : List (Option Cell)) → ((i : ℕ) (d : Cell) → slice_get l i ≡ Some (Some d) → has_serial row.flushed d.serial ≡ false) → live row l ≡ count (names_of l)
all_live row [] f = refl
all_live row (None ∷ l) f = all_live row l (λ i d e. f (suc i) d e)
all_live row (Some c ∷ l) f = live_more row c l (f 0 c refl) ∙ ap suc (all_live row l (λ i d e. f (suc i) d e))

-- these are the stages from one on
IsRest : List (Option Cell) → ℕ → List (Option Cell) → Type 0
IsRest all n l = (i : ℕ) → slice_get l i ≡ slice_get all (n + i)

is_whole : (l : List (Option Cell)) → IsRest l 0 l
unfolding IsRest
is_whole l i = let z : i ≡ 0 + i = omega arith in ap (slice_get l) z

module _ (k : Setting) (earlier : List Row) (row : Row) (plain : IsPlain k) (lawful : LawfulRow k earlier row) (going : row.stop ≡ None) (order : IsOrdered k (row ∷ earlier)) (r : ℕ) where
  -- the address behind all, without the row's own and with it
  abbrev a0 : ℕ
  a0 = plain_fetch k earlier (fetch_address k earlier) row

  abbrev a1 : ℕ
  a1 = unless row.redirect a0

  not_taken : row.taken ≡ None
  not_taken = untaken k earlier row plain lawful

  -- ---- what stands below a stage

  data Below (n was now : ℕ) : Type 0 where
    nobody : ((b : ℕ) (d : Cell) → b < n → Stands k row b d → ⊥) → was ≡ a0 → now ≡ a1 → Below n was now
    someone : (b : ℕ) (d : Cell) → b < n → Stands k row b d → ((between : ℕ) (e : Cell) → b < between → between < n → Stands k row between e → ⊥) → has_serial row.flushed d.serial ≡ false
        → was ≡ d.at → now ≡ d.at → Below n was now
    lost : (b : ℕ) (d : Cell) → b < n → Stands k row b d → ((between : ℕ) (e : Cell) → b < between → between < n → Stands k row between e → ⊥) → has_serial row.flushed d.serial ≡ true
        → now ≡ a1 → Below n was now

  one_more : (n : ℕ) (P : ℕ → Cell → Type 0) → ((e : Cell) → Stands k row n e → ⊥) → ((between : ℕ) (e : Cell) → between < n → P between e → Stands k row between e → ⊥)
      → (between : ℕ) (e : Cell) → between < suc n → P between e → Stands k row between e → ⊥
  one_more n P none f between e lt p s = elim (cases_lt between n) [
    | inl less ↦ f between e less p s
    | inr more ↦ let same : between ≡ n = omega (arith, lt, more) in none e (subst (λ j. Stands k row j e) same s)
  ]

  -- with no cell in this stage
  below_none : (n was now : ℕ) → ((e : Cell) → Stands k row n e → ⊥) → Below n was now → Below (suc n) was now
  below_none n was now none (nobody f p q) = nobody (λ b d lt s. one_more n (λ j e. Unit {0}) none (λ j e less t z. f j e less z) b d lt tt s) p q
  below_none n was now none (someone b d lt s f g p q) =
      someone b d (omega (arith, lt)) s (λ between e low high z. one_more n (λ j e. b < j) none (λ j e less t y. f j e t less y) between e high low z) g p q
  below_none n was now none (lost b d lt s f g q) =
      lost b d (omega (arith, lt)) s (λ between e low high z. one_more n (λ j e. b < j) none (λ j e less t y. f j e t less y) between e high low z) g q

  nearest_here : (n : ℕ) (between : ℕ) (e : Cell) → n < between → between < suc n → Stands k row between e → ⊥
  nearest_here n between e low high s = omega (arith, low, high)

  -- ---- mismatches

  no_run_stops : (n : ℕ) (c : Cell) → Stands k row n c → (stop : Stop) → StopsRun k earlier row n c stop → ⊥
  no_run_stops n c e stop s = no_some stop (sym going ∙ lawful.stops.of_cell n c stop e s)

  settles : (n : ℕ) (c : Cell) → Stands k row n c → IsSettlingStage k (k.asks c.word).late n → leaves row (Some c) ≡ name_of (Some c) → Settles k earlier row n c
  settles n c e at l = record { settling = at; leaves = l; runs = no_run_stops n c e }

  -- where the next younger cell is flushed, this one is the mismatch
  struck : (b n : ℕ) (d c : Cell) → b < n → Stands k row b d → ((between : ℕ) (e : Cell) → b < between → between < n → Stands k row between e → ⊥) → has_serial row.flushed d.serial ≡ true → Stands k row n c → has_serial row.flushed c.serial ≡ false
      → IsMismatch k earlier row n c
  struck b n d c lt s f g e free = by_mismatch (flushed_by k earlier row plain lawful d.serial g) where
    by_mismatch : IsFlushedByMismatch k earlier row d.serial → IsMismatch k earlier row n c
    by_mismatch x =
        let same : x.2 ≡ b = one_in_row k (row ∷ earlier) order x.2 b x.3 d x.6 s x.7 in
        let low = x.5 in
        let at : x.0 ≡ n = elim (cases_lt x.0 n) [
          | inl less ↦ absurd (f x.0 x.1 (omega (arith, same, low)) less x.4.stands)
          | inr more ↦ elim (cases_lt n x.0) [
            | inl higher ↦ absurd (differ (sym (lawful.successors.flushes x.0 x.1 x.4 n c higher e) ∙ free))
            | inr le ↦ omega (arith, more, le)
          ]
        ] in
        let cell : x.1 ≡ c = one_cell k row x.0 n x.1 c at x.4.stands e in
        subst (λ (d : Cell). IsMismatch k earlier row n d) cell (subst (λ j. IsMismatch k earlier row j x.1) at x.4)

  turned : (n : ℕ) (c : Cell) → IsMismatch k earlier row n c → a1 ≡ successor k (row ∷ earlier) c
  turned n c m = ap (λ o. unless o a0) (lawful.successors.named not_taken n c m)

  -- a younger cell that is not flushed has the successor as its address
  followed : (b n : ℕ) (d c : Cell) → b < n → Stands k row b d → ((between : ℕ) (e : Cell) → b < between → between < n → Stands k row between e → ⊥) → has_serial row.flushed d.serial ≡ false → Stands k row n c → Settles k earlier row n c
      → d.at ≡ successor k (row ∷ earlier) c
  followed b n d c lt s f free e at = by_test (d.at == successor k (row ∷ earlier) c) refl where
    by_test : (x : Bool) → (d.at == successor k (row ∷ earlier) c) ≡ x → d.at ≡ successor k (row ∷ earlier) c
    by_test true q = same_number d.at (successor k (row ∷ earlier) c) q
    by_test false q =
        let m : IsMismatch k earlier row n c = record {
          stands = e;
          settles = at;
          differs = (b, d, record { lower = lt; stands = s; nearest = f }, number_differs d.at (successor k (row ∷ earlier) c) q);
        } in
        absurd (differ (sym (lawful.successors.flushes n c m b d lt s) ∙ free))

  -- ---- with nothing below

  module _ (n : ℕ) (c : Cell) (here_is : Stands k row n c) (free : has_serial row.flushed c.serial ≡ false) (none : (b : ℕ) (d : Cell) → b < n → Stands k row b d → ⊥) where
    alone_settles : Settles k earlier row n c → a1 ≡ successor k (row ∷ earlier) c
    alone_settles s = ap (λ o. unless o a0) (lawful.successors.alone not_taken n c here_is s none) ∙ unless_same (successor k (row ∷ earlier) c) a0

    -- what is named is its successor
    named_here : (a : ℕ) → row.redirect ≡ Some a → a ≡ successor k (row ∷ earlier) c
    named_here a e = by_name (lawful.successors.named_only a not_taken e) where
      by_name : (stage : ℕ) × (d : Cell) × Stands k row stage d × Settles k earlier row stage d × (successor k (row ∷ earlier) d ≡ a) × (IsMismatch k earlier row stage d ⊎ HasNoYounger k row stage) → a ≡ successor k (row ∷ earlier) c
      by_name y = elim y.5 [ inl m ↦ by_mismatch m | inr f ↦ by_lone f ] where
        low : y.0 < n → ⊥
        low less = none y.0 y.1 less y.2

        by_same : y.0 ≡ n → a ≡ successor k (row ∷ earlier) c
        by_same at = sym y.4 ∙ ap (successor k (row ∷ earlier)) (one_cell k row y.0 n y.1 c at y.2 here_is)

        by_lone : HasNoYounger k row y.0 → a ≡ successor k (row ∷ earlier) c
        by_lone f = elim (cases_lt y.0 n) [
          | inl less ↦ absurd (low less)
          | inr more ↦ elim (cases_lt n y.0) [ inl higher ↦ absurd (f n c higher here_is) | inr le ↦ by_same (omega (arith, more, le)) ]
        ]

        by_mismatch : IsMismatch k earlier row y.0 y.1 → a ≡ successor k (row ∷ earlier) c
        by_mismatch m = elim (cases_lt n y.0) [
          | inl higher ↦ absurd (differ (sym (lawful.successors.flushes y.0 y.1 m n c higher here_is) ∙ free))
          | inr le ↦ elim (cases_lt y.0 n) [ inl less ↦ absurd (low less) | inr more ↦ by_same (omega (arith, more, le)) ]
        ]

    alone_settled : a0 ≡ successor k (row ∷ earlier) c → a1 ≡ successor k (row ∷ earlier) c
    alone_settled e = by_case row.redirect refl where
      by_case : (o : Option ℕ) → row.redirect ≡ o → unless row.redirect a0 ≡ successor k (row ∷ earlier) c
      by_case None q = ap (λ o. unless o a0) q ∙ e
      by_case (Some a) q = ap (λ o. unless o a0) q ∙ named_here a q

  -- ---- one cell

  settled : (n was now : ℕ) (c : Cell) (l : List (Option Cell)) → Stands k row n c → n < k.shape.stages → has_serial row.flushed c.serial ≡ false → successor k (row ∷ earlier) c ≡ k.course.pc (suc (r + live row l))
      → live row l ≡ count (names_of l) → (HasSettled k (k.asks c.word).late n → was ≡ k.course.pc (suc (r + count (names_of l)))) → Below n was now → HasSettled k (k.asks c.word).late (next_stage n (leaves row (Some c)))
      → now ≡ successor k (row ∷ earlier) c
  settled n was now c l e lt free is counts right below h = by_below below (by_fate (fate row c) h) where
    same : k.course.pc (suc (r + count (names_of l))) ≡ successor k (row ∷ earlier) c
    same = ap (λ z. k.course.pc (suc (r + z))) (sym counts) ∙ sym is

    by_fate : Fate row c → HasSettled k (k.asks c.word).late (next_stage n (leaves row (Some c))) → HasSettled k (k.asks c.word).late n ⊎ Settles k earlier row n c
    by_fate (gone g t q) x = absurd (differ (sym g ∙ free))
    by_fate (kept g f t q) x = inl (subst (λ o. HasSettled k (k.asks c.word).late (next_stage n o)) q x)
    by_fate (left g f t q) x = elim (settled_or_settles k (k.asks c.word).late n lt (subst (λ o. HasSettled k (k.asks c.word).late (next_stage n o)) q x)) [ inl y ↦ inl y | inr y ↦ inr (settles n c e y q) ]

    by_below : Below n was now → HasSettled k (k.asks c.word).late n ⊎ Settles k earlier row n c → now ≡ successor k (row ∷ earlier) c
    by_below (lost b d less s f g q) x = q ∙ turned n c (struck b n d c less s f g e free)
    by_below (someone b d less s f g p q) (inl x) = q ∙ sym p ∙ right x ∙ same
    by_below (someone b d less s f g p q) (inr x) = q ∙ followed b n d c less s f g e x
    by_below (nobody f p q) (inl x) = q ∙ alone_settled n c e free f (sym p ∙ right x ∙ same)
    by_below (nobody f p q) (inr x) = q ∙ alone_settles n c e free f x

  -- ---- the end

  at_end : (n was now : ℕ) → ((i : ℕ) (c : Cell) → n ≤ i → Stands k row i c → ⊥) → Below n was now → was ≡ k.course.pc r → now ≡ k.course.pc r
  at_end n was now none (someone b d less s f g p q) e = q ∙ sym p ∙ e
  at_end n was now none (lost b d less s f g q) e = absurd (by_mismatch (flushed_by k earlier row plain lawful d.serial g)) where
    by_mismatch : IsFlushedByMismatch k earlier row d.serial → ⊥
    by_mismatch x =
        let same : x.2 ≡ b = one_in_row k (row ∷ earlier) order x.2 b x.3 d x.6 s x.7 in
        let low = x.5 in
        elim (cases_lt x.0 n) [ inl under ↦ f x.0 x.1 (omega (arith, same, low)) under x.4.stands | inr over ↦ none x.0 x.1 over x.4.stands ]
  at_end n was now none (nobody f p q) e = q ∙ by_case row.redirect refl where
    by_case : (o : Option ℕ) → row.redirect ≡ o → unless row.redirect a0 ≡ k.course.pc r
    by_case None z = ap (λ o. unless o a0) z ∙ sym p ∙ e
    by_case (Some a) z = absurd (by_name (lawful.successors.named_only a not_taken z)) where
      by_name : (stage : ℕ) × (d : Cell) × Stands k row stage d × Settles k earlier row stage d × (successor k (row ∷ earlier) d ≡ a) × (IsMismatch k earlier row stage d ⊎ HasNoYounger k row stage) → ⊥
      by_name y = elim (cases_lt y.0 n) [ inl under ↦ f y.0 y.1 under y.2 | inr over ↦ none y.0 y.1 over y.2 ]

  -- ---- all

  below_lost : (n was now : ℕ) (c : Cell) → Stands k row n c → has_serial row.flushed c.serial ≡ true → Below n was now → Below (suc n) c.at now
  below_lost n was now c e g (nobody f p q) = lost n c (omega arith) e (nearest_here n) g q
  below_lost n was now c e g (lost b d lt s f h q) = lost n c (omega arith) e (nearest_here n) g q
  below_lost n was now c e g (someone b d lt s f h p q) = absurd (differ (sym g ∙ above_stays k earlier row plain lawful order b n d c lt s e h))

  stands_rest : (n : ℕ) (l : List (Option Cell)) → IsRest (stages_of k row) n l → (i : ℕ) (c : Cell) → slice_get l i ≡ Some (Some c) → Stands k row (n + i) c
  unfolding IsRest
  stands_rest n l rest i c e = sym (rest i) ∙ e

  stands_here : (n : ℕ) (o : Option Cell) (l : List (Option Cell)) → IsRest (stages_of k row) n (o ∷ l) → slice_get (stages_of k row) n ≡ Some o
  unfolding IsRest
  stands_here n o l rest = let z : n ≡ n + 0 = omega arith in ap (slice_get (stages_of k row)) z ∙ sym (rest 0)

  rest_more : (n : ℕ) (o : Option Cell) (l : List (Option Cell)) → IsRest (stages_of k row) n (o ∷ l) → IsRest (stages_of k row) (suc n) l
  unfolding IsRest
  rest_more n o l rest i = let z : n + suc i ≡ suc n + i = omega arith in rest (suc i) ∙ ap (slice_get (stages_of k row)) z

  none_rest : (n : ℕ) → IsRest (stages_of k row) n [] → (i : ℕ) (c : Cell) → n ≤ i → Stands k row i c → ⊥
  unfolding IsRest
  none_rest n rest i c le s = let z : n + (i - n) ≡ i = omega (arith, le) in no_some (Some c) (rest (i - n) ∙ ap (slice_get (stages_of k row)) z ∙ s)

  right_after : (n was now : ℕ) (l : List (Option Cell)) → IsRest (stages_of k row) n l → n + length l ≡ k.shape.stages → Lives k (row ∷ earlier) r row l → Below n was now → AreRight k r n was (names_of l) → AreRightAfter k r row n now l
  right_after n was now [] rest long a below h = at_end n was now (none_rest n rest) below h
  right_after n was now (None ∷ l) rest long a below h =
      right_after (suc n) was now l (rest_more n None l rest) (omega (arith, long)) a (below_none n was now (λ e s. unlike e (sym (stands_here n None l rest) ∙ s)) below) h where
        unlike : (e : Cell) → ◌≡◌ {A = Option (Option Cell)} (Some None) (Some (Some e)) → ⊥
        unlike e q = cc
  right_after n was now (Some c ∷ l) rest long a below h =
      let here_is = stands_here n (Some c) l rest in
      let more = rest_more n (Some c) l rest in (
        λ g. right_after (suc n) c.at now l more (omega (arith, long)) a.1 (below_lost n was now c here_is g below) h.1,
        λ g. (
          λ x.
              let is = ap (λ z. k.course.pc (suc z)) (a.0 g).placed in
              settled n was now c l here_is (omega (arith, long)) g is (live_is g) h.0 below x ∙ is,
          right_after (suc n) c.at c.at l more (omega (arith, long)) a.1 (someone n c (omega arith) here_is (nearest_here n) g refl refl) h.1,
        ),
      ) where
        live_is : has_serial row.flushed c.serial ≡ false → live row l ≡ count (names_of l)
        live_is g =
            all_live row l
            (λ i d e. above_stays k earlier row plain lawful order n (suc n + i) c d (omega arith) (stands_here n (Some c) l rest) (stands_rest (suc n) l (rest_more n (Some c) l rest) i d e) g)

  pub all_right : length (stages_of k row) ≡ k.shape.stages → Lives k (row ∷ earlier) r row (stages_of k row) → AreRight k r 0 (plain_fetch k earlier (fetch_address k earlier) row) (names_of (stages_of k row))
      → AreRightAfter k r row 0 (unless row.redirect (plain_fetch k earlier (fetch_address k earlier) row)) (stages_of k row)
  all_right long a h = right_after 0 a0 a1 (stages_of k row) whole (omega (arith, long)) a (nobody (λ b d lt s. omega (arith, lt)) refl refl) h where
    whole : IsRest (stages_of k row) 0 (stages_of k row)
    whole = is_whole (stages_of k row)
