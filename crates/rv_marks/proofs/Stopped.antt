-- What the tests of a stop tell.
use Rattle.std.proofs.Common.{◌≡◌, ◌∙◌, refl, sym, ap, subst, ℕ, suc, ◌-◌, ◌<◌, List, [], ◌∷◌, take, Option, Some, None, Bool, true, false, arith, inl, inr}
use Rattle.std.specs.Prelude.{Decides, ◌&&◌, ◌||◌, is_none, slice_get, ◌⊎◌}
use Rattle.std.proofs.lemmas.Bool.{cases_lt}
use Rattle.std.proofs.lemmas.Bool.Decides.{Decides-and, Decides-or, Decides-like}
use Rattle.rv_seq.specs.declared.answer.StepAnswer.{StepAnswer}
use Rattle.rv_seq.specs.declared.answer.StepAnswer.TheVariants.{Done, Stopped}
use Rattle.rv_seq.specs.declared.commit.Stop.{Stop}
use Rattle.rv_seq.specs.declared.commit.Stop.TheVariants.{Fetch}
use Rattle.rv_seq.specs.Steps.{word_at}
use Rattle.rv_trace.specs.declared.row.Cell.{Cell}
use Rattle.rv_trace.specs.declared.row.Row.{Row}
use Rattle.rv_trace.specs.Trace.{has_serial, newest, place}
use Rattle.rv_trace.specs.RowParts.{names_of, unless}
use Rattle.rv_lawful.specs.Settings.{Setting, stages_of, Stands}
use Rattle.rv_lawful.specs.Entering.{IsGone}
use Rattle.rv_lawful.specs.Outstanding.{outstanding}
use Rattle.rv_lawful.specs.LawfulTrace.{Moves, new_cell, fetch_address, OwnHold, StopsRun, IsEmptyAfter, StopsRightly, WritesUnit, Lawful}
use Rattle.rv_rows.specs.Facts.{IsPlain, AreGoingOn, AboveFacts, FirstFacts, RowFacts, MoveAbove, MovesAbove}
use Rattle.rv_rows.specs.Kinds.{is_of_cell, GoesOnAs, MovesRightly, FetchesRightly, SucceedsRightly, StopsInPlace}
use Rattle.rv_rows.specs.Laws.{AreEmptyUnits}
use Rattle.rv_rows.proofs.Moving.{moves_of}
use Rattle.rv_rows.proofs.Own.{own_up, own_down}
use Rattle.rv_rows.proofs.Fetching.{Flusher, none_flushed}
use Rattle.rv_rows.specs.declared.known.Known.{Known}
use Rattle.rv_rows.specs.Known.{stop_in, IsKnown, IsHeld}
use Rattle.rv_marks.specs.Marks.{cell_of, cell_at}
use Rattle.rv_marks.specs.Turns.{all_flushed}
use Rattle.rv_marks.specs.Stops.{own_stop, last_gone, empty_after, fetch_stops, due_of, due_stop}
use Rattle.rv_marks.proofs.Cells.{none_some, some_inside, true_false, at_stage, is_itself}
use Rattle.rv_marks.proofs.Younger.{get_take, within, all_tells}

is_none_tells : {A : Type 0} (o : Option A) → Decides (is_none o) (o ≡ None)
is_none_tells None = (λ x. refl, λ x. refl)
is_none_tells (Some x) = (λ e. absurd (true_false false e refl), λ e. absurd (none_some x (sym e)))

-- nothing is left

abbrev Gone : Row → Cell → Type 0
Gone row c = (has_serial row.flushed c.serial ≡ true) ⊎ (c.hold ≡ None)

gone_tells : (row : Row) (o : Option Cell) → Decides (last_gone row o) ((c : Cell) → o ≡ Some c → Gone row c)
gone_tells row None = (λ x c e. absurd (none_some c e), λ x. refl)
gone_tells row (Some c) =
    Decides-like (has_serial row.flushed c.serial || is_none c.hold) (λ g d e. subst (Gone row) (some_inside c d e) g) (λ f. f c refl)
    (Decides-or (has_serial row.flushed c.serial) (is_none c.hold) (is_itself (has_serial row.flushed c.serial)) (is_none_tells c.hold))

module _ (k : Setting) (row : Row) (plain : IsPlain k) where
  abbrev last : ℕ
  last = k.shape.stages - 1

  last_is : suc last ≡ k.shape.stages
  last_is = let a = plain.mem_last in omega (arith, a)

  abbrev Lower : Type 0
  Lower = (n : ℕ) (e : Cell) → slice_get (take last (stages_of k row)) n ≡ Some (Some e) → has_serial row.flushed e.serial ≡ true

  abbrev Last : Type 0
  Last = (c : Cell) → cell_at k.shape row last ≡ Some c → Gone row c

  to_empty : Lower × Last → IsEmptyAfter k row
  to_empty h stage c s = elim (cases_lt stage last) [
    | inl lt ↦ inl (h.0 stage c (get_take last stage (stages_of k row) lt ∙ s))
    | inr ge ↦ gone (let lt = (within k.shape.stages stage row.cells c s).0 in let a = last_is in omega (arith, lt, a, ge))
  ] where
    gone : stage ≡ last → IsGone k row stage c
    gone e = elim (h.1 c (ap cell_of (subst (λ n. Stands k row n c) e s))) [ inl f ↦ inl f | inr q ↦ inr (ap suc e ∙ last_is, q) ]

  of_empty : IsEmptyAfter k row → Lower × Last
  of_empty f = (lower, top) where
    lower : Lower
    lower n e s =
        let w = within last n (stages_of k row) e s in
        elim (f n e w.1) [ inl x ↦ x | inr y ↦ absurd (let lt = w.0 in let q = y.0 in let a = last_is in omega (arith, lt, q, a)) ]

    top : Last
    top c e = elim (f last c (at_stage (slice_get (stages_of k row) last) c e)) [ inl x ↦ inl x | inr y ↦ inr y.1 ]

  empty_tells : Decides (empty_after k.shape row) (IsEmptyAfter k row)
  empty_tells =
      Decides-like (empty_after k.shape row) to_empty of_empty
      (Decides-and (all_flushed row (take last (stages_of k row))) (last_gone row (cell_at k.shape row last)) (all_tells row (take last (stages_of k row))) (gone_tells row (cell_at k.shape row last)))

fetch_next : (k : Setting) (earlier : List Row) (row : Row) (known : Known) → IsKnown k earlier row known → unless row.redirect known.plain ≡ fetch_address k (row ∷ earlier)
unfolding fetch_address
fetch_next k earlier row known is = ap (λ n. unless row.redirect n) is.plain

due_is : (a : StepAnswer) (stop : Stop) → stop_in a ≡ Some stop → a ≡ Stopped stop
due_is (Done commit) stop e = absurd (none_some stop e)
due_is (Stopped other) stop e = ap (λ t. Stopped t) (some_inside other stop e)

module _ (k : Setting) (earlier : List Row) (row : Row) (known : Known) (held : Bool) (plain : IsPlain k) (empty : AreEmptyUnits k.units) (lawful : Lawful (λ places. k) earlier)
    (facts : RowFacts) (is : IsKnown k earlier row known) (moves : MovesRightly k earlier row) (fetches : FetchesRightly k earlier row) (units : WritesUnit k earlier row)
    (going : (newest earlier).stop ≡ None) (succeeds : SucceedsRightly k earlier row) (held_is : IsHeld k earlier row held) where
  abbrev ex : ℕ
  ex = k.shape.ex

  ex_pos : 0 < ex
  ex_pos = let a = plain.rd_pos in let b = plain.rd_ex in omega (arith, a, b)

  goes_on : (like : Row) → GoesOnAs k (newest earlier) like → like ≡ newest earlier
  goes_on like (inl x) = x.1
  goes_on like (inr y) = absurd (true_false (is_of_cell (newest earlier).stop) y.0 (ap (λ o. is_of_cell o) going))

  going_on : AreGoingOn k earlier
  going_on = record { lawful = lawful; going = going }

  moves_above : MovesAbove k earlier row
  moves_above = let m = moves.above in subst (λ (like : Row). MoveAbove like (stages_of k like) (names_of (stages_of k row))) (goes_on m.0 m.1) m.2

  all_moves : Moves k earlier row
  all_moves = moves_of (newest earlier) (new_cell k earlier) (stages_of k (newest earlier)) (stages_of k row) moves_above moves.kept fetches

  first : FirstFacts k earlier row
  first = facts.first k earlier row plain going_on all_moves

  above : AboveFacts k earlier row
  above = facts.above k earlier row plain going_on moves_above

  flushers : (s : ℕ) → has_serial row.flushed s ≡ true → Flusher k earlier row
  flushers s h =
      let x = succeeds.flushed_only s h in
      record { stage = x.0; cell = x.1; stands = x.4.stands; settling = x.4.settles.settling; leaving = x.4.settles.leaves; runs = λ e stop r. x.4.settles.runs e stop r.due }

  -- a cell that stops the run is left
  left_there : (stage : ℕ) (c : Cell) (stop : Stop) → Stands k row stage c → StopsRun k earlier row stage c stop → IsEmptyAfter k row → ⊥
  left_there stage c stop s r f = elim (f stage c s) [
    | inl flushed ↦ true_false (has_serial row.flushed c.serial) flushed (none_flushed k earlier row plain above flushers stage c stop s r c.serial)
    | inr y ↦ (let q = y.0 in let e = r.executing in let a = plain.ex_mem in let b = plain.mem_last in omega (arith, q, e, a, b))
  ]

  abbrev own : Option Stop
  own = own_stop (cell_at k.shape row ex) held known.stop

  runs_of : (stop : Stop) → own ≡ Some stop → (c : Cell) × Stands k row ex c × StopsRun k earlier row ex c stop
  runs_of stop e = by_case (cell_at k.shape row ex) held refl refl e where
    run : (c : Cell) → cell_at k.shape row ex ≡ Some c → held ≡ false → known.stop ≡ Some stop → (c : Cell) × Stands k row ex c × StopsRun k earlier row ex c stop
    run c q b t =
        let s = at_stage (slice_get (stages_of k row) ex) c q in (
          c,
          s,
          record {
            executing = refl;
            due = due_is (k.course.answer (place (row ∷ earlier) c.serial)) stop (sym (is.stop c s) ∙ t);
            free = λ h o. true_false held (held_is.known c h s (own_up k earlier row plain empty first units ex c h ex_pos s o)) b;
          },
        )

    by_case : (o : Option Cell) (b : Bool) → cell_at k.shape row ex ≡ o → held ≡ b → own_stop o b known.stop ≡ Some stop → (c : Cell) × Stands k row ex c × StopsRun k earlier row ex c stop
    by_case None b q r t = absurd (none_some stop t)
    by_case (Some c) true q r t = absurd (none_some stop t)
    by_case (Some c) false q r t = run c q r t

  of_runs : (stage : ℕ) (c : Cell) (stop : Stop) → Stands k row stage c → StopsRun k earlier row stage c stop → own ≡ Some stop
  of_runs stage c stop s r =
      ap (λ o. own_stop o held known.stop) (ap cell_of there) ∙ ap (λ b. own_stop (Some c) b known.stop) (unheld held refl) ∙ is.stop c there ∙ ap stop_in r.due where
        there : Stands k row ex c
        there = subst (λ n. Stands k row n c) r.executing s

        unheld : (b : Bool) → held ≡ b → held ≡ false
        unheld false q = q
        unheld true q =
            let h = held_is.shown c there q in
            absurd (r.free h.0 (subst (λ n. OwnHold k earlier row n c h.0) (sym r.executing) (own_down k earlier row plain empty first units ex c h.0 h.1)))

  -- Fetch

  abbrev Fetches : Type 0
  Fetches = (IsEmptyAfter k row × (outstanding k (row ∷ earlier) ≡ [])) × (word_at k.image (fetch_address k (row ∷ earlier)) ≡ None)

  abbrev fetch : Bool
  fetch = fetch_stops k.shape known k.image row

  fetch_tells : Decides fetch Fetches
  fetch_tells =
      Decides-and (empty_after k.shape row && known.settled) (is_none (word_at k.image (unless row.redirect known.plain)))
      (Decides-and (empty_after k.shape row) known.settled (empty_tells k row plain) (is.settled.0, is.settled.1))
      (subst (λ a. Decides (is_none (word_at k.image (unless row.redirect known.plain))) (word_at k.image a ≡ None)) (fetch_next k earlier row known is) (is_none_tells (word_at k.image (unless row.redirect known.plain))))

  -- the stop that is due

  no_own : own ≡ None → (stage : ℕ) (c : Cell) (stop : Stop) → Stands k row stage c → StopsRun k earlier row stage c stop → ⊥
  no_own q stage c stop s r = none_some stop (sym q ∙ of_runs stage c stop s r)

  to_stops : row.stop ≡ due_of own fetch → StopsRightly k earlier row
  to_stops e = by_case own fetch refl refl e where
    by_case : (o : Option Stop) (b : Bool) → own ≡ o → fetch ≡ b → row.stop ≡ due_of o b → StopsRightly k earlier row
    by_case (Some stop) b q r e = record {
      cause = λ t h. (let x = runs_of stop q in inl (ex, x.0, x.1, subst (λ z. StopsRun k earlier row ex x.0 z) (some_inside stop t (sym e ∙ h)) x.2));
      of_cell = λ stage c t s run. e ∙ sym q ∙ of_runs stage c t s run;
      of_fetch = λ f settled word. (let x = runs_of stop q in absurd (left_there ex x.0 stop x.1 x.2 f));
    }
    by_case None true q r e = let f = fetch_tells.0 r in let two = f.0 in record {
      cause = λ t h. inr (some_inside t Fetch (sym h ∙ e), two.0, two.1, f.1);
      of_cell = λ stage c t s run. absurd (no_own q stage c t s run);
      of_fetch = λ f settled word. e;
    }
    by_case None false q r e = record {
      cause = λ t h. absurd (none_some t (sym e ∙ h));
      of_cell = λ stage c t s run. absurd (no_own q stage c t s run);
      of_fetch = λ f settled word. absurd (true_false fetch (fetch_tells.1 ((f, settled), word)) r);
    }

  of_stops : StopsRightly k earlier row → row.stop ≡ due_of own fetch
  of_stops stops = by_case own fetch refl refl where
    none : own ≡ None → fetch ≡ false → (o : Option Stop) → row.stop ≡ o → row.stop ≡ None
    none q r None e = e
    none q r (Some stop) e = absurd (elim (stops.cause stop e) [ inl x ↦ no_own q x.0 x.1 stop x.2 x.3 | inr y ↦ true_false fetch (fetch_tells.1 ((y.1, y.2), y.3)) r ])

    by_case : (o : Option Stop) (b : Bool) → own ≡ o → fetch ≡ b → row.stop ≡ due_of o b
    by_case (Some stop) b q r = let x = runs_of stop q in stops.of_cell ex x.0 stop x.1 x.2
    by_case None true q r = let f = fetch_tells.0 r in let two = f.0 in stops.of_fetch two.0 two.1 f.1
    by_case None false q r = none q r row.stop refl

pub stops_tell : (k : Setting) (earlier : List Row) (row : Row) (known : Known) (held result : Bool) → IsPlain k → AreEmptyUnits k.units → Lawful (λ places. k) earlier → RowFacts
    → IsKnown k earlier row known → MovesRightly k earlier row → FetchesRightly k earlier row → ((newest earlier).stop ≡ None → SucceedsRightly k earlier row) → WritesUnit k earlier row
    → ((newest earlier).stop ≡ None → IsHeld k earlier row held) → (result ≡ true → ((newest earlier).stop ≡ None) × (row.stop ≡ due_stop k.shape known held k.image row))
    → ((newest earlier).stop ≡ None → row.stop ≡ due_stop k.shape known held k.image row → result ≡ true) → Decides result (StopsInPlace k earlier row)
stops_tell k earlier row known held result plain empty lawful facts is moves fetches succeeds units held_is only all = (
  λ e. (
      let x = only e in
      record { stops = to_stops k earlier row known held plain empty lawful facts is moves fetches units x.0 (succeeds x.0) (held_is x.0) x.1; going = x.0 }
      ),
  λ h. all h.going (of_stops k earlier row known held plain empty lawful facts is moves fetches units h.going (succeeds h.going) (held_is h.going) h.stops),
)
