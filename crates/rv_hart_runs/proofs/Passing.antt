-- A cell that is not turned at EX and does not stop there is on the path of the run, and alone in its unit.
use Rattle.std.proofs.Common.{◌≡◌, ◌∙◌, refl, sym, ap, subst, ℕ, suc, ◌+◌, ◌<◌, List, [], ◌∷◌, ◌++◌, length, Option, Some, None, Bool, true, false, arith}
use Rattle.std.specs.Prelude.{reverse, option_map, if◌then◌else◌, ◌==◌, ◌&&◌, not}
use Rattle.std.specs.Option.{option_or}
use Rattle.std.proofs.lemmas.Bool.Decides.{nat_tests}
use Rattle.rv_holds.specs.Tokens.{stop_in}
use Rattle.rv_lawful.specs.Settings.{Setting}
use Rattle.rv_seq.specs.declared.answer.StepAnswer.{StepAnswer}
use Rattle.rv_seq.specs.declared.answer.StepAnswer.TheVariants.{Done, Stopped as Stops}
use Rattle.rv_seq.specs.declared.commit.Commit.{Commit}
use Rattle.rv_seq.specs.declared.commit.Stop.{Stop}
use Rattle.rv_seq.specs.Steps.{word_at}
use Rattle.rv_harts.specs.declared.event.Event.{Event}
use Rattle.rv_harts.specs.declared.event.Event.TheVariants.{Turned, Stopped, Led}
use Rattle.rv_harts.specs.declared.row.Turn.{Turn}
use Rattle.rv_harts.specs.declared.row.Turn.TheVariants.{Late, Unit as InUnit}
use Rattle.rv_harts.specs.Harts.{Fetched}
use Rattle.rv_harts.specs.Turns.{asked, eldest, custom_turn, late_turn, unit_of, unit_turn, drain_turn, stop_due, reading_turn, executing_turn, turn_of}
use Rattle.rv_harts.specs.Events.{standing, undone, settles, successor, event_of}
use Rattle.rv_hart_runs.specs.HartRuns.{IsGoingOn}
use Rattle.rv_hart_runs.proofs.Free.{or_left, or_right, unmapped, where_true, same_some, Free, free_from, free_left, free_right, unreversed}
use Rattle.rv_hart_runs.proofs.Known.{IsSound, is_late, has_unit, IsPast, IsCell, AreCells}

pub test_same : (a b : ℕ) → a ≡ b → (a == b) ≡ true
test_same a b e = grind (arith, nat_tests)

pub test_apart : (a b : ℕ) → (a ≡ b → ⊥) → (a == b) ≡ false
test_apart a b e = grind (arith, nat_tests)

pub same_number : (a b : ℕ) → (a == b) ≡ true → a ≡ b
same_number a b e = grind (arith, nat_tests)

-- ---- what a cell does, by why it is turned, how it stops, and whether it leads elsewhere

abbrev pub turn_here : Setting → List Fetched → List Fetched → ℕ → Fetched → List (Option Fetched) → Option Turn
turn_here k owed kept stage c older = turn_of k stage c (reverse (standing older)) (owed ++ reverse (standing older)) (kept ++ reverse (undone k (suc stage) older))

abbrev pub stop_here : Setting → ℕ → Fetched → Option Event
stop_here k stage c = if stage == k.shape.ex then option_map (λ (stop : Stop). Stopped stop) (stop_due k c) else None

abbrev pub leads_here : Setting → ℕ → ℕ → Fetched → Bool
leads_here k near stage c = settles k stage c && not (successor k c == near)

abbrev pub event_by : Setting → Fetched → Option Turn → Option Event → Bool → Option Event
event_by k c turn stop leads = option_or (option_map (λ (t : Turn). Turned t c.at) turn) (option_or stop (if leads then Some (Led (successor k c)) else None))

-- it does nothing
pub record IsQuiet (turn : Option Turn) (stop : Option Event) (leads : Bool) : Type 0 where
  pub unturned : turn ≡ None
  pub runs : stop ≡ None
  pub straight : leads ≡ false

quiet_by : (k : Setting) (c : Fetched) (turn : Option Turn) (stop : Option Event) (leads : Bool) → event_by k c turn stop leads ≡ None → IsQuiet turn stop leads
quiet_by k c None None false e = record { unturned = refl; runs = refl; straight = refl }
quiet_by k c None None true e = cc
quiet_by k c None (Some event) leads e = cc
quiet_by k c (Some turn) stop leads e = cc

pub quiet_from : (k : Setting) (owed kept : List Fetched) (near stage : ℕ) (c : Fetched) (older : List (Option Fetched)) → event_of k owed kept near stage c older ≡ None →
    IsQuiet (turn_here k owed kept stage c older) (stop_here k stage c) (leads_here k near stage c)
quiet_from k owed kept near stage c older e = quiet_by k c (turn_here k owed kept stage c older) (stop_here k stage c) (leads_here k near stage c) e

pub quiet_then : (k : Setting) (owed kept : List Fetched) (near stage : ℕ) (c : Fetched) (older : List (Option Fetched)) →
    turn_here k owed kept stage c older ≡ None → stop_here k stage c ≡ None → leads_here k near stage c ≡ false → event_of k owed kept near stage c older ≡ None
quiet_then k owed kept near stage c older a b e =
    ap (λ (o : Option Turn). event_by k c o (stop_here k stage c) (leads_here k near stage c)) a
    ∙ ap (λ (o : Option Event). event_by k c None o (leads_here k near stage c)) b
    ∙ ap (λ (b : Bool). event_by k c None None b) e

-- ---- the path

-- where all of these are past EX and none writes the pc late, the next younger one has the address of the run
pub path_at : (k : Setting) (owed : List Fetched) (retired near stage : ℕ) (older : List (Option Fetched)) → AreCells k owed retired near stage older →
    k.shape.ex < stage → Free (is_late k) (standing older) → near ≡ k.course.pc (retired + length (standing older))
path_at k owed retired near stage [] h lt free = let z : retired ≡ retired + 0 = omega arith in h ∙ ap (λ p. k.course.pc p) z
path_at k owed retired near stage (None ∷ older) h lt free = path_at k owed retired near (suc stage) older h (omega (arith, lt)) free
path_at k owed retired near stage (Some c ∷ older) h lt free =
    let placed = h.0.placed in
    let z : suc c.place ≡ retired + suc (length (standing older)) = omega (arith, placed) in
    h.0.leads lt free.0 ∙ ap (λ p. k.course.pc p) z

done_of : (a : StepAnswer) → stop_in a ≡ None → (c : Commit) × (a ≡ Done c)
done_of (Done c) h = (c, refl)
done_of (Stops stop) h = cc

-- ---- a cell at EX

module _ (k : Setting) (sound : IsSound k) (owed kept : List Fetched) (retired near stage : ℕ) (c : Fetched) (older : List (Option Fetched))
    (at_ex : stage ≡ k.shape.ex) (cell : IsCell k owed retired near stage c (standing older)) (cells : AreCells k owed retired c.at (suc stage) older)
    (unturned : turn_here k owed kept stage c older ≡ None) (runs : stop_here k stage c ≡ None) where
  abbrev before : List Fetched
  before = reverse (standing older)

  abbrev left : List Fetched
  left = kept ++ reverse (undone k (suc stage) older)

  executes : option_or (custom_turn k c before) (option_or (late_turn k before) (option_or (unit_turn k c (owed ++ before)) (drain_turn k c left))) ≡ None
  executes =
      where_true (stage == k.shape.ex) (executing_turn k c before (owed ++ before) left) (test_same stage k.shape.ex at_ex)
      (or_right (if stage == k.shape.rd then reading_turn k c before (owed ++ before) else None) (if stage == k.shape.ex then executing_turn k c before (owed ++ before) left else None) unturned)

  behind_custom : option_or (late_turn k before) (option_or (unit_turn k c (owed ++ before)) (drain_turn k c left)) ≡ None
  behind_custom = or_right (custom_turn k c before) (option_or (late_turn k before) (option_or (unit_turn k c (owed ++ before)) (drain_turn k c left))) executes

  none_late : Free (is_late k) (standing older)
  none_late =
      unreversed (is_late k) (standing older)
      (free_from (is_late k) before
      (unmapped (λ (j : ℕ). Late j) (eldest (is_late k) before) (or_left (late_turn k before) (option_or (unit_turn k c (owed ++ before)) (drain_turn k c left)) behind_custom)))

  unit_none : unit_of k (asked k c).unit (owed ++ before) ≡ None
  unit_none =
      or_left (unit_turn k c (owed ++ before)) (drain_turn k c left)
      (or_right (late_turn k before) (option_or (unit_turn k c (owed ++ before)) (drain_turn k c left)) behind_custom)

  none_in_unit : (u : ℕ) → (asked k c).unit ≡ Some u → Free (has_unit k u) (owed ++ before)
  none_in_unit u e =
      free_from (has_unit k u) (owed ++ before)
      (unmapped (λ (j : ℕ). InUnit u j) (eldest (has_unit k u) (owed ++ before)) (subst (λ (o : Option ℕ). unit_of k o (owed ++ before) ≡ None) e unit_none))

  on_path : c.at ≡ k.course.pc c.place
  on_path =
      path_at k owed retired c.at (suc stage) older cells (omega (arith, at_ex)) none_late ∙ ap (λ p. k.course.pc p) (sym cell.placed)

  goes_on : IsGoingOn k c
  goes_on =
      let due = unmapped (λ (stop : Stop). Stopped stop) (stop_due k c) (where_true (stage == k.shape.ex) (option_map (λ (stop : Stop). Stopped stop) (stop_due k c)) (test_same stage k.shape.ex at_ex) runs) in
      let done = done_of (k.course.answer c.place) due in
      let word = sym (sound.words c.place done.0 done.1) ∙ ap (λ a. word_at k.image a) (sym on_path) ∙ cell.worded in
      (done.0, done.1, same_some done.0.word c.word word)

  pub passes : IsPast k owed c (standing older)
  passes =
      record {
        early = none_late;
        going = goes_on;
        unowed = λ u e. free_left (has_unit k u) owed before (none_in_unit u e);
        alone = λ u e. unreversed (has_unit k u) (standing older) (free_right (has_unit k u) owed before (none_in_unit u e));
      }
