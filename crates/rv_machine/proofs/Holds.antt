-- The holds that are decided are the first true ones.
use Rattle.std.proofs.Common.{◌≡◌, ℕ, suc, ◌+◌, ◌<◌, ◌≤◌, List, [], ◌∷◌, drop, Option, Some, None, Bool, true, false, refl, sym, ap, ◌∙◌, subst, arith, ◌⊎◌, inl, inr}
use Rattle.std.specs.Prelude.{◌||◌, if◌then◌else◌, is_some, slice_get}
use Rattle.std.proofs.lemmas.Bool.{cases_lt}
use Rattle.rv_trace.specs.declared.row.Cell.{Cell}
use Rattle.rv_trace.specs.declared.row.Hold.{Hold}
use Rattle.rv_trace.specs.declared.row.Hold.TheVariants.{Behind}
use Rattle.rv_trace.specs.declared.row.Row.{Row}
use Rattle.rv_trace.specs.Trace.{has_serial, is_flushed, retirements}
use Rattle.rv_trace.specs.RowParts.{ComesFirst}
use Rattle.rv_seq.specs.declared.commit.Stop.{Stop}
use Rattle.rv_holds.specs.declared.token.Token.{Token}
use Rattle.rv_holds.specs.Tokens.{Slots, or_else, cells_of}
use Rattle.rv_holds.specs.Holds.{own_hold, stops_now, is_blocked, shown}
use Rattle.rv_engine.specs.Settings.{Setting, shape_of}
use Rattle.rv_lawful.specs.Settings.{stages_of, Stands}
use Rattle.rv_lawful.specs.LawfulTrace.{OwnHold, StopsRun, WaitsBehind, TrueHold, ShowsHold}
use Rattle.rv_machine.specs.Owing.{judged}
use Rattle.rv_machine.specs.Placed.{IsReady, Placed}
use Rattle.rv_machine.specs.Told.{Told}
use Rattle.rv_machine.proofs.Standing.{slice_get-drop, drop_more, cells_drop, here_of, at_stage}
use Rattle.rv_machine.proofs.Ordering.{own_kind}
use Rattle.rv_machine.proofs.OwnHolds.{ordered, own_free, own_nothing, stops_then, then_stops}

-- whether the next stage blocks
module _ (k : Setting) (ready : IsReady k) (earlier : List Row) (row : Row) (seen : Slots) (told : Told k earlier row seen) (stage : ℕ) (le : told.flushed ≤ stage) where
  behind_stage : (older : Slots) → drop stage seen ≡ older → Placed k (retirements earlier) stage older
      → (((d : Cell) × Stands (judged k) row stage d × ((is_some d.hold ≡ true) ⊎ ((stop : Stop) × StopsRun (judged k) earlier row stage d stop))) → is_blocked (shape_of k) stage older ≡ true)
      × (is_blocked (shape_of k) stage older ≡ true → (d : Cell) × Stands (judged k) row stage d × ((is_some d.hold ≡ true) ⊎ ((stop : Stop) × StopsRun (judged k) earlier row stage d stop)))
  behind_stage older rest placed = by_slot older rest placed where
    stands_here : slice_get (stages_of (judged k) row) stage ≡ slice_get (cells_of (drop stage seen)) 0
    stands_here =
        let z : stage + 0 ≡ stage = omega arith in
        told.cells stage le ∙ sym (slice_get-drop (cells_of seen) stage 0 ∙ ap (λ n. slice_get (cells_of seen) n) z) ∙ ap (λ l. slice_get l 0) (cells_drop stage seen)

    by_slot : (l : Slots) → drop stage seen ≡ l → Placed k (retirements earlier) stage l
        → (((d : Cell) × Stands (judged k) row stage d × ((is_some d.hold ≡ true) ⊎ ((stop : Stop) × StopsRun (judged k) earlier row stage d stop))) → is_blocked (shape_of k) stage l ≡ true)
        × (is_blocked (shape_of k) stage l ≡ true → (d : Cell) × Stands (judged k) row stage d × ((is_some d.hold ≡ true) ⊎ ((stop : Stop) × StopsRun (judged k) earlier row stage d stop)))
    by_slot [] e h =
        let at : slice_get (stages_of (judged k) row) stage ≡ None = stands_here ∙ ap (λ l. slice_get (cells_of l) 0) e in
        ((λ w. cc (sym at ∙ w.1)), λ b. cc)
    by_slot (None ∷ l) e h =
        let at : slice_get (stages_of (judged k) row) stage ≡ Some None = stands_here ∙ ap (λ l. slice_get (cells_of l) 0) e in
        ((λ w. cc (sym at ∙ w.1)), λ b. cc)
    by_slot (Some u ∷ l) e h =
        let at : slice_get (stages_of (judged k) row) stage ≡ Some (Some u.cell) = stands_here ∙ ap (λ l. slice_get (cells_of l) 0) e in (
          (λ w. let same : u.cell ≡ w.0 = cc (sym at ∙ w.1) in blocks (sym same) w.2),
          λ b. (u.cell, at, why (is_some u.cell.hold) refl b),
        ) where
          blocks : {d : Cell} → d ≡ u.cell → (is_some d.hold ≡ true) ⊎ ((stop : Stop) × StopsRun (judged k) earlier row stage d stop) → (is_some u.cell.hold || stops_now (shape_of k) stage u l) ≡ true
          blocks same (inl held) = let held' = subst (λ (d : Cell). is_some d.hold ≡ true) same held in rw held'
          blocks same (inr s) =
              let s' = subst (λ (d : Cell). StopsRun (judged k) earlier row stage d s.0) same s.1 in
              let n = stops_then k ready earlier row seen told stage u l e h s.0 s' in
              either (is_some u.cell.hold) _ n where
                either : (a b : Bool) → b ≡ true → (a || b) ≡ true
                either true b q = refl
                either false b q = q

          why : (b : Bool) → is_some u.cell.hold ≡ b → (b || stops_now (shape_of k) stage u l) ≡ true → (is_some u.cell.hold ≡ true) ⊎ ((stop : Stop) × StopsRun (judged k) earlier row stage u.cell stop)
          why true held q = inl held
          why false held q = let s = then_stops k ready earlier row seen told stage u l e h q in inr (s.0, s.2)

or_first : (a b : Bool) → (a || b) ≡ false → a ≡ false
or_first true b q = cc
or_first false b q = refl

pub not_flushed : (row : Row) (earlier : List Row) (s : ℕ) → is_flushed (row ∷ earlier) s ≡ false → has_serial row.flushed s ≡ false
unfolding is_flushed
not_flushed row earlier s h = or_first (has_serial row.flushed s) (is_flushed earlier s) h

-- the first of a cell's own holds, or that there is none
abbrev pub Chosen : Setting → List Row → Row → ℕ → Cell → Option Hold → Type 0
Chosen k earlier row stage c None = (h : Hold) → OwnHold (judged k) earlier row stage c h → ⊥
Chosen k earlier row stage c (Some h) = OwnHold (judged k) earlier row stage c h × ((g : Hold) → OwnHold (judged k) earlier row stage c g → ComesFirst h g)

-- the holds of a row
module _ (k : Setting) (ready : IsReady k) (earlier : List Row) (row : Row) (seen : Slots) (told : Told k earlier row seen) where
  shows_token : (stage : ℕ) (t : Token) (older : Slots) → drop stage seen ≡ Some t ∷ older → Placed k (retirements earlier) stage (Some t ∷ older) → t.cell.hold ≡ shown (shape_of k) stage t older → ShowsHold (judged k) earlier row stage t.cell
  shows_token stage t older rest placed is =
      record {
        flushed = λ f. cc (f, unflushed_cell);
        stopping = λ stop s. is ∙ (let n = stops_then k ready earlier row seen told stage t older rest placed stop s in rw n);
        shown = λ h e. shown_true h (sym is ∙ e);
        shown_first = λ h g e o. first_true h g (sym is ∙ e) o;
        free = λ e u n h o. free_true (sym is ∙ e) n h o;
      } where
        unflushed_cell : has_serial row.flushed t.cell.serial ≡ false
        unflushed_cell = not_flushed row earlier t.cell.serial (ordered k ready earlier row seen told stage t older rest placed).0.1

        later : told.flushed ≤ suc stage
        later = let le = told.left stage t (here_of seen older t stage rest) in omega (arith, le)

        blocked : (WaitsBehind (judged k) earlier row stage → is_blocked (shape_of k) (suc stage) older ≡ true) × (is_blocked (shape_of k) (suc stage) older ≡ true → WaitsBehind (judged k) earlier row stage)
        blocked = behind_stage k ready earlier row seen told (suc stage) later older (drop_more seen older (Some t) stage rest) placed.1

        own : (o : Option Hold) → own_hold (shape_of k) stage t older ≡ o → Chosen k earlier row stage t.cell o
        own None e = own_nothing k ready earlier row seen told stage t older rest placed e
        own (Some h) e = own_free k ready earlier row seen told stage t older rest placed h e

        -- what is shown, by whether the cell stops the run
        parts : (h : Hold) → shown (shape_of k) stage t older ≡ Some h → (stops_now (shape_of k) stage t older ≡ false) × (or_else (own_hold (shape_of k) stage t older) (if is_blocked (shape_of k) (suc stage) older then Some Behind else None) ≡ Some h)
        parts h e = by_case (stops_now (shape_of k) stage t older) refl e where
          by_case : (b : Bool) → stops_now (shape_of k) stage t older ≡ b → (if b then None else or_else (own_hold (shape_of k) stage t older) (if is_blocked (shape_of k) (suc stage) older then Some Behind else None)) ≡ Some h → (stops_now (shape_of k) stage t older ≡ false) × (or_else (own_hold (shape_of k) stage t older) (if is_blocked (shape_of k) (suc stage) older then Some Behind else None) ≡ Some h)
          by_case true q x = cc
          by_case false q x = (q, x)

        shown_true : (h : Hold) → shown (shape_of k) stage t older ≡ Some h → TrueHold (judged k) earlier row stage t.cell h
        shown_true h e = by_case (own_hold (shape_of k) stage t older) refl (is_blocked (shape_of k) (suc stage) older) refl (parts h e).1 where
          by_case : (o : Option Hold) → own_hold (shape_of k) stage t older ≡ o → (b : Bool) → is_blocked (shape_of k) (suc stage) older ≡ b → or_else o (if b then Some Behind else None) ≡ Some h → TrueHold (judged k) earlier row stage t.cell h
          by_case (Some g) q b w x = let same : g ≡ h = cc in inl (subst (λ y. OwnHold (judged k) earlier row stage t.cell y) same (own (Some g) q).0)
          by_case None q true w x = inr (cc, blocked.1 w)
          by_case None q false w x = cc

        last_kind : (h : Hold) → OwnHold (judged k) earlier row stage t.cell h → ComesFirst h Behind
        last_kind h o = let lt = own_kind (judged k) earlier row stage t.cell h o in inl (omega (arith, lt))

        first_true : (h g : Hold) → shown (shape_of k) stage t older ≡ Some h → TrueHold (judged k) earlier row stage t.cell g → ComesFirst h g
        first_true h g e o = by_case (own_hold (shape_of k) stage t older) refl (is_blocked (shape_of k) (suc stage) older) refl (parts h e).1 o where
          by_case : (p : Option Hold) → own_hold (shape_of k) stage t older ≡ p → (b : Bool) → is_blocked (shape_of k) (suc stage) older ≡ b → or_else p (if b then Some Behind else None) ≡ Some h → TrueHold (judged k) earlier row stage t.cell g → ComesFirst h g
          by_case (Some f) q b w x (inl y) = let same : f ≡ h = cc in subst (λ z. ComesFirst z g) same ((own (Some f) q).1 g y)
          by_case (Some f) q b w x (inr y) = let same : f ≡ h = cc in subst (λ z. ComesFirst h z) (sym y.0) (last_kind h (subst (λ z. OwnHold (judged k) earlier row stage t.cell z) same (own (Some f) q).0))
          by_case None q true w x (inl y) = absurd (own None q g y)
          by_case None q true w x (inr y) = let same : h ≡ g = cc in subst (λ z. ComesFirst h z) same (inr (refl, inr (refl, omega arith)))
          by_case None q false w x y = cc

        free_true : shown (shape_of k) stage t older ≡ None → ((stop : Stop) → StopsRun (judged k) earlier row stage t.cell stop → ⊥) → (h : Hold) → TrueHold (judged k) earlier row stage t.cell h → ⊥
        free_true e n h o = by_case (stops_now (shape_of k) stage t older) refl (own_hold (shape_of k) stage t older) refl (is_blocked (shape_of k) (suc stage) older) refl e o where
          by_case : (s : Bool) → stops_now (shape_of k) stage t older ≡ s → (p : Option Hold) → own_hold (shape_of k) stage t older ≡ p → (b : Bool) → is_blocked (shape_of k) (suc stage) older ≡ b → (if s then None else or_else p (if b then Some Behind else None)) ≡ None → TrueHold (judged k) earlier row stage t.cell h → ⊥
          by_case true z p q b w x o = let s = then_stops k ready earlier row seen told stage t older rest placed z in n s.0 s.2
          by_case false z None q true w x o = cc
          by_case false z None q false w x (inl y) = own None q h y
          by_case false z None q false w x (inr y) = cc (blocked.0 y.1, w)
          by_case false z (Some f) q b w x o = cc

  -- a flushed cell shows no hold
  shows_flushed : (stage : ℕ) (c : Cell) → stage < told.flushed → Stands (judged k) row stage c → ShowsHold (judged k) earlier row stage c
  shows_flushed stage c lt stands =
      let x = told.gone stage c lt stands in
      record {
        flushed = λ f. x.0;
        stopping = λ stop s. x.0;
        shown = λ h e. cc (x.0, e);
        shown_first = λ h g e o. cc (x.0, e);
        free = λ e u n h o. cc (x.1, u);
      }

  pub shows : (stage : ℕ) (c : Cell) → Stands (judged k) row stage c → ShowsHold (judged k) earlier row stage c
  shows stage c stands = elim (cases_lt stage told.flushed) [
    | inl lt ↦ shows_flushed stage c lt stands
    | inr le ↦
        let at = at_stage k (retirements earlier) stage c seen told.placed told.decided (sym (told.cells stage le) ∙ stands) in
        subst (λ d. ShowsHold (judged k) earlier row stage d) at.is (shows_token stage at.token at.older at.rest at.placed at.decided.0)
  ]
