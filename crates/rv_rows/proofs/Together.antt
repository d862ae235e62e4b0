-- All kinds together are the lawful row behind rows that go on.
use Rattle.std.proofs.Common.{◌≡◌, ◌∙◌, refl, sym, ap, subst, ℕ, zero, suc, ◌<◌, ◌≤◌, List, [], ◌∷◌, take, length, Option, Some, None, Bool, true, false, arith, inl, inr}
use Rattle.std.specs.Prelude.{◌||◌, ◌&&◌, not, if◌then◌else◌, is_some, replicate}
use Rattle.rv_seq.specs.declared.commit.Stop.{Stop}
use Rattle.rv_seq.specs.declared.commit.Stop.TheVariants.{Fetch}
use Rattle.rv_trace.specs.declared.row.Cell.{Cell}
use Rattle.rv_trace.specs.declared.row.Row.{Row}
use Rattle.rv_trace.specs.declared.row.Hold.{Hold}
use Rattle.rv_trace.specs.Trace.{has_serial, is_flushed, newest, retirements}
use Rattle.rv_trace.specs.RowParts.{Name, name_of, names_of, stays, leaves, MovesInto}
use Rattle.rv_lawful.specs.Settings.{Setting, stages_of, Stands}
use Rattle.rv_lawful.specs.Entering.{is_interrupted, is_line_pending, TakesRightly}
use Rattle.rv_lawful.specs.LawfulTrace.{Moves, new_cell, StopsRun, IsDueToStop, Settles, IsMismatch, IsFlushedByMismatch, LawfulRow, Lawful, IsInForm, ShowsHold}
use Rattle.rv_rows.specs.Facts.{IsPlain, AreGoingOn, AboveFacts, FirstFacts, RowFacts, MovesAbove, MoveAbove}
use Rattle.rv_rows.specs.Kinds.{is_of_cell, IsStopped, GoesOnAs, DoesOne, MovesRightly, SettlesMarked, IsMarkedMismatch, SucceedsRightly, RowKinds}
use Rattle.rv_rows.specs.Laws.{AreEmptyUnits}
use Rattle.rv_rows.proofs.Stopping as S
use Rattle.rv_rows.proofs.Fetching.{Flusher, left_unflushed}
use Rattle.rv_rows.proofs.Fetching as F
use Rattle.rv_rows.proofs.Holding as H
use Rattle.rv_rows.proofs.Moving.{above_of, kept_of, fetched_of, moves_of}

-- there are as many stages in each row

long_into : (before : Row) (came : Option Name) (was : List (Option Cell)) (now : List (Option Name)) → MovesInto before came was now → length now ≡ length was
long_into before came [] [] m = refl
long_into before came [] (n ∷ now) m = absurd m
long_into before came (w ∷ was) [] m = absurd m
long_into before came (w ∷ was) (n ∷ now) m = ap suc (long_into before (leaves before w) was now m.1)

long_names : (cells : List (Option Cell)) → length (names_of cells) ≡ length cells
long_names [] = refl
long_names (c ∷ cells) = ap suc (long_names cells)

abbrev nones : ℕ → List (Option Cell)
nones m = replicate m None

take_none : (n m : ℕ) → n ≤ m → length (take n (nones m)) ≡ n
take_none zero m le = refl
take_none (suc n) zero le = absurd (omega (arith, le))
take_none (suc n) (suc m) le = ap suc (take_none n m (omega (arith, le)))

pub stages_long : (k : Setting) (rows : List Row) → IsPlain k → Lawful (λ places. k) rows → length (stages_of k (newest rows)) ≡ k.shape.stages
stages_long k [] plain l = take_none k.shape.stages 5 plain.most
stages_long k (row ∷ earlier) plain l =
    sym (long_names (stages_of k row)) ∙ long_into (newest earlier) _ (stages_of k (newest earlier)) (names_of (stages_of k row)) l.0.moves ∙ stages_long k earlier plain l.2

-- what stays in a stage is held there
kept_is : (row : Row) (d : Cell) → leaves row (Some d) ≡ None → has_serial row.flushed d.serial ≡ false → is_some (stays row (Some d)) ≡ true
kept_is row d e u = by_case (is_some d.hold) (has_serial row.flushed d.serial) u e where
  by_case : (a b : Bool) → b ≡ false → (if a || b then None else name_of (Some d)) ≡ None → is_some (if a && not b then name_of (Some d) else None) ≡ true
  by_case true false u e = refl
  by_case false false u e = cc
  by_case a true u e = cc

newest_unflushed : (rows : List Row) (s : ℕ) → is_flushed rows s ≡ false → has_serial (newest rows).flushed s ≡ false
unfolding is_flushed
newest_unflushed [] s e = refl
newest_unflushed (row ∷ earlier) s e = either (has_serial row.flushed s) (is_flushed earlier s) e where
  either : (a b : Bool) → (a || b) ≡ false → a ≡ false
  either false b e = refl
  either true b e = cc

no_entry : (b : Bool) → b ≡ true → b ≡ false → ⊥
no_entry b t f = cc

some_none : (o : Option ℕ) → o ≡ None → is_some o ≡ true → ⊥
some_none None e h = cc
some_none (Some a) e h = cc

-- without a line no interrupt is to be taken
uninterrupted : (k : Setting) (earlier : List Row) → IsPlain k → is_interrupted k earlier ≡ false
uninterrupted k earlier plain = ap (λ l. is_line_pending l earlier && k.course.enabled (retirements earlier)) plain.no_line

pub untaken_of : (k : Setting) (earlier : List Row) (row : Row) → IsPlain k → LawfulRow k earlier row → row.taken ≡ None
untaken_of k earlier row plain lawful = by_case row.taken refl where
  by_case : (o : Option ℕ) → row.taken ≡ o → row.taken ≡ None
  by_case None q = q
  by_case (Some a) q = absurd (no_entry (is_interrupted k earlier) (lawful.takes.taken a q).interrupted (uninterrupted k earlier plain))

module _ (k : Setting) (earlier : List Row) (row : Row) (plain : IsPlain k) (empty : AreEmptyUnits k.units) (going : AreGoingOn k earlier) (facts : RowFacts) where
  takes_none : row.taken ≡ None → TakesRightly k earlier row
  takes_none e = record { taken = λ a q. absurd (clash a row.taken q e); due = λ i c. absurd (no_entry (is_interrupted k earlier) i (uninterrupted k earlier plain)) } where
    clash : (a : ℕ) (o : Option ℕ) → o ≡ Some a → o ≡ None → ⊥
    clash a o q e = cc

  long_before : 0 < length (stages_of k (newest earlier))
  long_before = let e = stages_long k earlier plain going.lawful in let a = plain.mem_last in omega (arith, e, a)

  -- From the lawful row to the kinds

  module _ (lawful : LawfulRow k earlier row) where
    untaken : row.taken ≡ None
    untaken = untaken_of k earlier row plain lawful

    first : FirstFacts k earlier row
    first = facts.first k earlier row plain going lawful.moves

    moves_above : MovesAbove k earlier row
    moves_above = above_of (newest earlier) (new_cell k earlier) (stages_of k (newest earlier)) (stages_of k row) lawful.moves

    above : AboveFacts k earlier row
    above = facts.above k earlier row plain going moves_above

    by_mismatch : (s : ℕ) → has_serial row.flushed s ≡ true → IsFlushedByMismatch k earlier row s
    by_mismatch s h = elim (lawful.successors.flushed_only s h) [ inl x ↦ x | inr y ↦ absurd (some_none row.taken untaken y.0) ]

    flushers : (s : ℕ) → has_serial row.flushed s ≡ true → Flusher k earlier row
    flushers s h = let x = by_mismatch s h in record { stage = x.0; cell = x.1; stands = x.4.stands; settling = x.4.settles.settling; leaving = x.4.settles.leaves; runs = λ e stop r. x.4.settles.runs stop r }

    not_fetch : (stage : ℕ) (c : Cell) (stop : Stop) → Stands k row stage c → StopsRun k earlier row stage c stop → stop ≡ Fetch → ⊥
    not_fetch = F.not_fetch k earlier row plain above flushers

    marked : (stage : ℕ) (c : Cell) (stop : Stop) → Stands k row stage c → StopsRun k earlier row stage c stop → IsStopped k row stage
    marked = S.marked k earlier row lawful.stops not_fetch

    stopped : (stage : ℕ) (c : Cell) → Stands k row stage c → IsStopped k row stage → (stop : Stop) × StopsRun k earlier row stage c stop
    stopped = S.stopped k earlier row lawful.stops not_fetch

    does_one : (stage : ℕ) (c : Cell) → Stands k row stage c → DoesOne k row stage c
    does_one stage c s = record {
      flushed = (lawful.holds stage c s).flushed;
      stopped = λ m. let r = stopped stage c s m in (lawful.holds stage c s).stopping r.0 r.1;
      apart = λ f m. let r = stopped stage c s m in no_entry (has_serial row.flushed c.serial) f (F.none_flushed k earlier row plain above flushers stage c r.0 s r.1 c.serial);
    }

    due_stops : (stage : ℕ) (c : Cell) → Stands k row stage c → Settles k earlier row stage c → stage ≡ k.shape.ex → (stop : Stop) → IsDueToStop k (row ∷ earlier) c stop → ⊥
    due_stops stage c s settles e stop due =
        settles.runs stop (record { executing = e; due = due; free = λ h o. (lawful.holds stage c s).free (unheld row c settles.leaves) (left_unflushed row c settles.leaves) settles.runs h (inl o) }) where
          unheld : (row : Row) (c : Cell) → leaves row (Some c) ≡ name_of (Some c) → c.hold ≡ None
          unheld row c e = by_case c.hold (has_serial row.flushed c.serial) e where
            by_case : (o : Option Hold) (b : Bool) → (if is_some o || b then None else name_of (Some c)) ≡ name_of (Some c) → o ≡ None
            by_case None b q = refl
            by_case (Some h) b q = cc

    settles_up : (stage : ℕ) (c : Cell) → Stands k row stage c → Settles k earlier row stage c → SettlesMarked k earlier row stage c
    settles_up stage c s settles = record {
      settling = settles.settling;
      leaves = settles.leaves;
      unstopped = λ m. let r = stopped stage c s m in settles.runs r.0 r.1;
      runs = due_stops stage c s settles;
    }

    settles_down : (stage : ℕ) (c : Cell) → Stands k row stage c → SettlesMarked k earlier row stage c → Settles k earlier row stage c
    settles_down stage c s settles = record { settling = settles.settling; leaves = settles.leaves; runs = λ stop r. settles.unstopped (marked stage c stop s r) }

    mismatch_up : (stage : ℕ) (c : Cell) → IsMismatch k earlier row stage c → IsMarkedMismatch k earlier row stage c
    mismatch_up stage c m = record { stands = m.stands; settles = settles_up stage c m.stands m.settles; differs = m.differs }

    mismatch_down : (stage : ℕ) (c : Cell) → IsMarkedMismatch k earlier row stage c → IsMismatch k earlier row stage c
    mismatch_down stage c m = record { stands = m.stands; settles = settles_down stage c m.stands m.settles; differs = m.differs }

    succeeds : SucceedsRightly k earlier row
    succeeds = record {
      flushes = λ stage c m. lawful.successors.flushes stage c (mismatch_down stage c m);
      named = λ stage c m. lawful.successors.named untaken stage c (mismatch_down stage c m);
      alone = λ stage c s t. lawful.successors.alone untaken stage c s (settles_down stage c s t);
      flushed_only = λ s h. let x = by_mismatch s h in (x.0, x.1, x.2, x.3, mismatch_up x.0 x.1 x.4, x.5, x.6, x.7);
      named_only = λ a e.
          let x = lawful.successors.named_only a untaken e in
          (x.0, x.1, x.2, settles_up x.0 x.1 x.2 x.3, x.4, elim x.5 [ inl m ↦ inl (mismatch_up x.0 x.1 m) | inr n ↦ inr n ]);
    }

    moves : MovesRightly k earlier row
    moves = record {
      above = (newest earlier, inl (ap (λ o. is_of_cell o) going.going, refl), moves_above);
      kept = kept_of (newest earlier) (new_cell k earlier) (stages_of k (newest earlier)) (stages_of k row) lawful.moves;
      new = new_is;
      one = does_one;
      retires = lawful.retires;
    } where
      new_is : (stage : ℕ) (c d : Cell) → Stands k row 0 c → Stands k (newest earlier) stage d → d.serial ≡ c.serial → (stage ≡ 0) × (is_some (stays (newest earlier) (Some d)) ≡ true)
      new_is stage c d s t e =
          let x = first.new stage c d s t e in
          let unflushed = newest_unflushed earlier c.serial (first.in_place c s).unflushed in
          (x.0, kept_is (newest earlier) d x.1 (subst (λ n. has_serial (newest earlier).flushed n ≡ false) (sym e) unflushed))

    pub kinds : RowKinds k earlier row
    kinds = record {
      moves = moves;
      holds = H.holds_up k earlier row plain empty first lawful.units marked stopped lawful.holds;
      fetches = λ e. fetched_of (newest earlier) (new_cell k earlier) (stages_of k (newest earlier)) (stages_of k row) lawful.moves long_before e;
      succeeds = succeeds;
      units = lawful.units;
      stops = record { stops = lawful.stops; going = going.going };
    }

  -- And back

  module _ (form : IsInForm k row) (none : row.taken ≡ None) (kinds : RowKinds k earlier row) where
    goes_on : (like : Row) → GoesOnAs k (newest earlier) like → like ≡ newest earlier
    goes_on like (inl x) = x.1
    goes_on like (inr y) = let e = y.0 in let bad : is_of_cell None ≡ true = sym (ap (λ o. is_of_cell o) going.going) ∙ e in cc

    moves_above' : MovesAbove k earlier row
    moves_above' = let m = kinds.moves.above in subst (λ (like : Row). MoveAbove like (stages_of k like) (names_of (stages_of k row))) (goes_on m.0 m.1) m.2

    moves' : Moves k earlier row
    moves' = moves_of (newest earlier) (new_cell k earlier) (stages_of k (newest earlier)) (stages_of k row) moves_above' kinds.moves.kept kinds.fetches

    first' : FirstFacts k earlier row
    first' = facts.first k earlier row plain going moves'

    above' : AboveFacts k earlier row
    above' = facts.above k earlier row plain going moves_above'

    flushers' : (s : ℕ) → has_serial row.flushed s ≡ true → Flusher k earlier row
    flushers' s h =
        let x = kinds.succeeds.flushed_only s h in
        record { stage = x.0; cell = x.1; stands = x.4.stands; settling = x.4.settles.settling; leaving = x.4.settles.leaves; runs = λ e stop r. x.4.settles.runs e stop r.due }

    not_fetch' : (stage : ℕ) (c : Cell) (stop : Stop) → Stands k row stage c → StopsRun k earlier row stage c stop → stop ≡ Fetch → ⊥
    not_fetch' = F.not_fetch k earlier row plain above' flushers'

    marked' : (stage : ℕ) (c : Cell) (stop : Stop) → Stands k row stage c → StopsRun k earlier row stage c stop → IsStopped k row stage
    marked' = S.marked k earlier row kinds.stops.stops not_fetch'

    stopped' : (stage : ℕ) (c : Cell) → Stands k row stage c → IsStopped k row stage → (stop : Stop) × StopsRun k earlier row stage c stop
    stopped' = S.stopped k earlier row kinds.stops.stops not_fetch'

    holds' : (stage : ℕ) (c : Cell) → Stands k row stage c → ShowsHold k earlier row stage c
    holds' = H.holds_down k earlier row plain empty first' kinds.units marked' stopped' kinds.moves.one kinds.holds

    settles_down' : (stage : ℕ) (c : Cell) → Stands k row stage c → SettlesMarked k earlier row stage c → Settles k earlier row stage c
    settles_down' stage c s settles = record { settling = settles.settling; leaves = settles.leaves; runs = λ stop r. settles.unstopped (marked' stage c stop s r) }

    settles_up' : (stage : ℕ) (c : Cell) → Stands k row stage c → Settles k earlier row stage c → SettlesMarked k earlier row stage c
    settles_up' stage c s settles = record {
      settling = settles.settling;
      leaves = settles.leaves;
      unstopped = λ m. let r = stopped' stage c s m in settles.runs r.0 r.1;
      runs = due;
    } where
      unheld : (row : Row) (c : Cell) → leaves row (Some c) ≡ name_of (Some c) → c.hold ≡ None
      unheld row c e = by_case c.hold (has_serial row.flushed c.serial) e where
        by_case : (o : Option Hold) (b : Bool) → (if is_some o || b then None else name_of (Some c)) ≡ name_of (Some c) → o ≡ None
        by_case None b q = refl
        by_case (Some h) b q = cc

      due : stage ≡ k.shape.ex → (stop : Stop) → IsDueToStop k (row ∷ earlier) c stop → ⊥
      due e stop d = settles.runs stop (record { executing = e; due = d; free = λ h o. (holds' stage c s).free (unheld row c settles.leaves) (left_unflushed row c settles.leaves) settles.runs h (inl o) })

    mismatch_down' : (stage : ℕ) (c : Cell) → IsMarkedMismatch k earlier row stage c → IsMismatch k earlier row stage c
    mismatch_down' stage c m = record { stands = m.stands; settles = settles_down' stage c m.stands m.settles; differs = m.differs }

    mismatch_up' : (stage : ℕ) (c : Cell) → IsMismatch k earlier row stage c → IsMarkedMismatch k earlier row stage c
    mismatch_up' stage c m = record { stands = m.stands; settles = settles_up' stage c m.stands m.settles; differs = m.differs }

    pub lawful_row : LawfulRow k earlier row
    lawful_row = record {
      form = form;
      moves = moves';
      retires = kinds.moves.retires;
      holds = holds';
      successors = record {
        flushes = λ stage c m. kinds.succeeds.flushes stage c (mismatch_up' stage c m);
        named = λ e stage c m. kinds.succeeds.named stage c (mismatch_up' stage c m);
        alone = λ e stage c s t. kinds.succeeds.alone stage c s (settles_up' stage c s t);
        flushed_only = λ s h. let x = kinds.succeeds.flushed_only s h in inl (x.0, x.1, x.2, x.3, mismatch_down' x.0 x.1 x.4, x.5, x.6, x.7);
        named_only = λ a e q.
            let x = kinds.succeeds.named_only a q in
            (x.0, x.1, x.2, settles_down' x.0 x.1 x.2 x.3, x.4, elim x.5 [ inl m ↦ inl (mismatch_down' x.0 x.1 m) | inr n ↦ inr n ]);
      };
      units = kinds.units;
      takes = takes_none none;
      stops = kinds.stops.stops;
    }
