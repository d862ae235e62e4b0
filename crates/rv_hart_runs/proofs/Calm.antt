-- After an event: what stands without the cells that it ends is known by the address that it names, and does nothing more.
use Rattle.std.proofs.Common.{◌≡◌, ◌∙◌, refl, ap, subst, ℕ, zero, suc, ◌+◌, ◌<◌, ◌≤◌, List, [], ◌∷◌, ◌++◌, length, Option, Some, None, Bool, true, false, arith}
use Rattle.std.specs.Prelude.{reverse, option_map, if◌then◌else◌, ◌==◌, ◌&&◌, not}
use Rattle.std.specs.Option.{option_or}
use Rattle.rv_lawful.specs.Settings.{Setting}
use Rattle.rv_seq.specs.declared.commit.Stop.{Stop}
use Rattle.rv_harts.specs.declared.event.Event.{Event}
use Rattle.rv_harts.specs.declared.event.Event.TheVariants.{Turned, Stopped, Led}
use Rattle.rv_harts.specs.declared.event.EventAt.{EventAt}
use Rattle.rv_harts.specs.declared.row.Turn.{Turn}
use Rattle.rv_harts.specs.Harts.{Fetched}
use Rattle.rv_harts.specs.Turns.{stop_due, reading_turn, executing_turn}
use Rattle.rv_harts.specs.Events.{standing, undone, settles, successor, event_of, event_here, event_from}
use Rattle.rv_harts.specs.HartRows.{lost, cleared, address_after, last_in, stop_of}
use Rattle.rv_hart_runs.proofs.Known.{IsCell, AreCells}
use Rattle.rv_hart_runs.proofs.Passing.{test_same, same_number, turn_here, stop_here, leads_here, event_by, quiet_then}

-- ---- clearing

pub cleared_length : (n : ℕ) (stages : List (Option Fetched)) → length (cleared n stages) ≡ length stages
cleared_length zero stages = refl
cleared_length (suc n) [] = refl
cleared_length (suc n) (s ∷ stages) = ap suc (cleared_length n stages)

pub cleared_last : (n : ℕ) (stages : List (Option Fetched)) → n < length stages → last_in (cleared n stages) ≡ last_in stages
cleared_last zero stages lt = refl
cleared_last (suc n) [] lt = absurd (omega (arith, lt))
cleared_last (suc n) (s ∷ []) lt = absurd (omega (arith, lt))
cleared_last (suc zero) (s ∷ t ∷ stages) lt = refl
cleared_last (suc (suc n)) (s ∷ t ∷ stages) lt = cleared_last (suc n) (t ∷ stages) (omega (arith, lt))

-- ---- a cell is turned at RD or EX

turned_where : (a b : Bool) (x y : Option Turn) (turn : Turn) → option_or (if a then x else None) (if b then y else None) ≡ Some turn → (a ≡ false) → (b ≡ false) → ⊥
turned_where true b x y turn e p q = cc
turned_where false true x y turn e p q = cc
turned_where false false x y turn e p q = cc

turned_early : (k : Setting) (stage : ℕ) (x y : Option Turn) (turn : Turn) → option_or (if stage == k.shape.rd then x else None) (if stage == k.shape.ex then y else None) ≡ Some turn → stage ≤ k.shape.ex
turned_early k stage x y turn e = by_tests (stage == k.shape.rd) (stage == k.shape.ex) refl refl where
  by_tests : (a b : Bool) → (stage == k.shape.rd) ≡ a → (stage == k.shape.ex) ≡ b → stage ≤ k.shape.ex
  by_tests true b p q = let same = same_number stage k.shape.rd p in let first = k.shape.lawful.reads_first in omega (arith, same, first)
  by_tests false true p q = let same = same_number stage k.shape.ex q in omega (arith, same)
  by_tests false false p q = absurd (turned_where (stage == k.shape.rd) (stage == k.shape.ex) x y turn e p q)

-- ---- an event

-- from this stage on so many stages lose their cells, and what is left is known by this address, and does nothing
pub record Calms (k : Setting) (owed kept : List Fetched) (retired stage : ℕ) (stages : List (Option Fetched)) (e : EventAt) : Type 0 where
  pub count : ℕ
  pub near : ℕ
  pub ends : stage + count ≡ lost (Some e)
  pub inside : count < length stages
  pub names : (before : ℕ) (new : Option Fetched) → address_after before new (Some e.event) ≡ near
  pub cells : AreCells k owed retired near stage (cleared count stages)
  pub quiet : event_from k owed kept near stage (cleared count stages) ≡ None

same_events : (x y : EventAt) → ◌≡◌ {A = Option EventAt} (Some x) (Some y) → x ≡ y
same_events x y e = cc

stops_only : (b : Bool) (o : Option Stop) (event : Event) → (if b then option_map (λ (stop : Stop). Stopped stop) o else None) ≡ Some event → stop_of (Some event) ≡ None → ⊥
stops_only true (Some stop) event e h = cc
stops_only true None event e h = cc
stops_only false o event e h = cc

module _ (k : Setting) (owed kept : List Fetched) (retired near stage : ℕ) (c : Fetched) (older : List (Option Fetched)) (long : stage + suc (length older) ≡ k.shape.stages)
    (cell : IsCell k owed retired near stage c (standing older)) (cells : AreCells k owed retired c.at (suc stage) older)
    (calm : event_from k owed kept c.at (suc stage) older ≡ None) where
  turned_calm : (turn : Turn) → turn_here k owed kept stage c older ≡ Some turn → Calms k owed kept retired stage (Some c ∷ older) (event_here stage (Turned turn c.at))
  turned_calm turn e =
      let early = turned_early k stage (reading_turn k c (reverse (standing older)) (owed ++ reverse (standing older)))
      (executing_turn k c (reverse (standing older)) (owed ++ reverse (standing older)) (kept ++ reverse (undone k (suc stage) older))) turn e in
      let late = k.shape.lawful.memory_late in
      let last = k.shape.lawful.memory_inside in
      record { count = 1; near = c.at; ends = omega arith; inside = omega (arith, early, late, last, long); names = λ before new. refl; cells = cells; quiet = calm }

  straight : (settled : Bool) → (settled && not (successor k c == successor k c)) ≡ false
  straight false = refl
  straight true = ap not (test_same (successor k c) (successor k c) refl)

  led_calm : turn_here k owed kept stage c older ≡ None → stop_here k stage c ≡ None → Calms k owed kept retired stage (Some c ∷ older) (event_here stage (Led (successor k c)))
  led_calm a b =
      let here : IsCell k owed retired (successor k c) stage c (standing older) = record { placed = cell.placed; worded = cell.worded; past = cell.past; leads = λ lt late. refl } in
      let quiet = quiet_then k owed kept (successor k c) stage c older a b (straight (settles k stage c)) in
      record {
        count = 0;
        near = successor k c;
        ends = omega arith;
        inside = omega arith;
        names = λ before new. refl;
        cells = (here, cells);
        quiet =
            ap (λ (o : Option EventAt). option_or o (option_map (event_here stage) (event_of k owed kept (successor k c) stage c older))) calm
            ∙ ap (λ (o : Option Event). option_map (event_here stage) o) quiet;
      }

  by_parts : (turn : Option Turn) (stop : Option Event) (leads : Bool) (e : EventAt) → turn_here k owed kept stage c older ≡ turn → stop_here k stage c ≡ stop → leads_here k near stage c ≡ leads →
      option_map (event_here stage) (event_by k c turn stop leads) ≡ Some e → stop_of (Some e.event) ≡ None → Calms k owed kept retired stage (Some c ∷ older) e
  by_parts (Some turn) stop leads e a b d is goes = subst (λ (x : EventAt). Calms k owed kept retired stage (Some c ∷ older) x) (same_events (event_here stage (Turned turn c.at)) e is) (turned_calm turn a)
  by_parts None (Some event) leads e a b d is goes =
      let same = same_events (event_here stage event) e is in
      absurd (stops_only (stage == k.shape.ex) (stop_due k c) event b (ap (λ (x : EventAt). stop_of (Some x.event)) same ∙ goes))
  by_parts None None true e a b d is goes = subst (λ (x : EventAt). Calms k owed kept retired stage (Some c ∷ older) x) (same_events (event_here stage (Led (successor k c))) e is) (led_calm a b)
  by_parts None None false e a b d is goes = cc

  pub own_calm : (e : EventAt) → option_map (event_here stage) (event_of k owed kept near stage c older) ≡ Some e → stop_of (Some e.event) ≡ None → Calms k owed kept retired stage (Some c ∷ older) e
  own_calm e is goes = by_parts (turn_here k owed kept stage c older) (stop_here k stage c) (leads_here k near stage c) e refl refl refl is goes

-- with one more stage before
further : (k : Setting) (owed kept : List Fetched) (retired stage : ℕ) (s : Option Fetched) (stages : List (Option Fetched)) (e : EventAt) → Calms k owed kept retired (suc stage) stages e → Calms k owed kept retired stage (s ∷ stages) e
further k owed kept retired stage s stages e h =
    let ends = h.ends in
    let inside = h.inside in
    record { count = suc h.count; near = h.near; ends = omega (arith, ends); inside = omega (arith, inside); names = h.names; cells = h.cells; quiet = h.quiet }

pub calmed : (k : Setting) (owed kept : List Fetched) (retired near stage : ℕ) (stages : List (Option Fetched)) (e : EventAt) → stage + length stages ≡ k.shape.stages →
    AreCells k owed retired near stage stages → event_from k owed kept near stage stages ≡ Some e → stop_of (Some e.event) ≡ None → Calms k owed kept retired stage stages e
calmed k owed kept retired near stage [] e long cells is goes = cc
calmed k owed kept retired near stage (None ∷ older) e long cells is goes =
    further k owed kept retired stage None older e (calmed k owed kept retired near (suc stage) older e (omega (arith, long)) cells is goes)
calmed k owed kept retired near stage (Some c ∷ older) e long cells is goes =
    by_older (event_from k owed kept c.at (suc stage) older) refl is (λ is. calmed k owed kept retired c.at (suc stage) older e (omega (arith, long)) cells.1 is goes) where
      by_older : (o : Option EventAt) → event_from k owed kept c.at (suc stage) older ≡ o → option_or o (option_map (event_here stage) (event_of k owed kept near stage c older)) ≡ Some e →
          (event_from k owed kept c.at (suc stage) older ≡ Some e → Calms k owed kept retired (suc stage) older e) → Calms k owed kept retired stage (Some c ∷ older) e
      by_older None calm is rest = own_calm k owed kept retired near stage c older long cells.0 cells.1 calm e is goes
      by_older (Some found) there is rest = further k owed kept retired stage (Some c) older e (rest (there ∙ is))
