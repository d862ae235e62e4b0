-- A token that goes on stands in its place in the next stage.
use Rattle.std.proofs.Common.{◌≡◌, ℕ, suc, ◌+◌, ◌<◌, ◌≤◌, [], ◌∷◌, Option, Some, None, Bool, true, false, refl, sym, ap, ◌∙◌, subst, arith, inl, inr}
use Rattle.std.specs.Prelude.{◌||◌, if◌then◌else◌, ◌==◌, is_some, slice_index}
use Rattle.std.proofs.lemmas.Bool.{cases_lt}
use Rattle.rv_core.specs.declared.Shape.{Shape}
use Rattle.rv_isa.specs.Fields.{rs1_of, rs2_of}
use Rattle.rv_trace.specs.declared.row.Hold.{Hold}
use Rattle.rv_trace.specs.declared.row.Hold.TheVariants.{Behind}
use Rattle.rv_tried.specs.declared.trial.Trial.{Trial}
use Rattle.rv_holds.specs.declared.token.Token.{Token}
use Rattle.rv_holds.specs.Tokens.{Slots, or_else, stop_in, tried_stop}
use Rattle.rv_holds.specs.Holds.{oldest, is_late, waiting_hold, own_hold, stops_now, is_blocked, shown, register_count, spawner, least_from}
use Rattle.rv_engine.specs.Settings.{Setting, shape_of}
use Rattle.rv_engine.specs.Rows.{going, first_slot}
use Rattle.rv_machine.specs.Placed.{run, count, expected, IsPlaced, IsPlacedSlot, Placed, IsReady, IsExact}
use Rattle.rv_machine.specs.Told.{Decided, NoStops}
use Rattle.rv_machine.proofs.Deciding.{or_else_none_b, is_none_of, if_none, test_eq, test_past, own_none, not_due, no_waiting, waits_operand, waits_board, waits_late, decided_tail, no_stops_tail}
use Rattle.rv_machine.proofs.Reading.{HasOperands, Read}
use Rattle.rv_machine.proofs.Operands.{OnPath, on_path}
use Rattle.rv_machine.proofs.Unboarded.{board_parts}
use Rattle.rv_machine.proofs.Trying.{late_clear}
use Rattle.rv_machine.proofs.Loading.{Loaded}
use Rattle.rv_machine.proofs.Ripe.{Ripe}

-- what is known of slots before they move
pub record AreSeen (k : Setting) (r stage : ℕ) (seen : Slots) : Type 0 where
  pub placed : Placed k r stage seen
  pub read : Read k r stage seen
  pub decided : Decided k stage seen
  pub stops : NoStops k stage seen
  pub loaded : Loaded k r stage seen
  pub ripe : Ripe k stage seen

pub seen_tail : (k : Setting) (r stage : ℕ) (s : Option Token) (older : Slots) → AreSeen k r stage (s ∷ older) → AreSeen k r (suc stage) older
seen_tail k r stage s older h =
    record {
      placed = h.placed.1;
      read = h.read.1;
      decided = decided_tail k stage s older h.decided;
      stops = no_stops_tail k stage s older h.stops;
      loaded = h.loaded.1;
      ripe = h.ripe.1;
    }

-- what is not held has no older token that blocks it
pub not_blocked : (k : Shape) (stage : ℕ) (t : Token) (older : Slots) → t.cell.hold ≡ shown k stage t older → is_some t.cell.hold ≡ false → stops_now k stage t older ≡ false → is_blocked k (suc stage) older ≡ false
not_blocked k stage t older d h n =
    let shown_none : shown k stage t older ≡ None = sym d ∙ is_none_of t.cell.hold h in
    let rest : or_else (own_hold k stage t older) (if is_blocked k (suc stage) older then Some Behind else None) ≡ None = sym (ap (λ (s : Bool). if s then None else or_else (own_hold k stage t older) (if is_blocked k (suc stage) older then Some Behind else None)) n) ∙ shown_none in
    if_none (is_blocked k (suc stage) older) Behind (or_else_none_b (own_hold k stage t older) _ rest)

free_parts : (a b : Bool) → (a || b) ≡ false → (a ≡ false) × (b ≡ false)
free_parts true b h = cc
free_parts false b h = (refl, h)

-- then these are all on the path of the run
pub path_ahead : (k : Setting) (r stage : ℕ) (older : Slots) → (shape_of k).ex ≤ stage → Placed k r stage older → Decided k stage older → is_blocked (shape_of k) stage older ≡ false → OnPath k older
path_ahead k r stage [] le h d free = tt
path_ahead k r stage (None ∷ older) le h d free = on_path k r (suc stage) older (omega (arith, le)) h.1
path_ahead k r stage (Some t ∷ older) le h d free = (late_free, on_path k r (suc stage) older (omega (arith, le)) h.1) where
  parts : (is_some t.cell.hold ≡ false) × (stops_now (shape_of k) stage t older ≡ false)
  parts = free_parts (is_some t.cell.hold) (stops_now (shape_of k) stage t older) free

  own : own_hold (shape_of k) stage t older ≡ None
  own = own_none (shape_of k) stage t older t.cell.hold d.0 parts.0 parts.1

  late_free : oldest is_late older ≡ None
  late_free = elim (cases_lt (shape_of k).ex stage) [
    | inl past ↦ let g = h.0.gone past in h.0.settled g.0 g.1
    | inr at ↦ late_clear older (waits_late (shape_of k) stage t older (no_waiting (shape_of k) stage t older own) (omega (arith, le, at)))
  ]

module _ (k : Setting) (ready : IsReady k) (r stage : ℕ) (t : Token) (older : Slots) (h : AreSeen k r stage (Some t ∷ older)) (free : is_some t.cell.hold ≡ false) where
  here : IsPlaced k (r + count older) (expected k r (suc stage) older) stage older t
  here = h.placed.0

  stops : stops_now (shape_of k) stage t older ≡ false
  stops = h.stops.0

  own : own_hold (shape_of k) stage t older ≡ None
  own = own_none (shape_of k) stage t older t.cell.hold h.decided.0 free stops

  waiting : waiting_hold (shape_of k) stage t older ≡ None
  waiting = no_waiting (shape_of k) stage t older own

  -- nothing outstanding owes it a register, and no older token spawns one
  unboarded : stage ≡ (shape_of k).rd → (t.beside.board ≡ None) × (least_from (spawner older t.asks) 0 register_count ≡ None)
  unboarded e = board_parts t older (waits_board (shape_of k) stage t older waiting e)

  -- so where this is RD it has read the run's operands
  has_read : stage ≡ (shape_of k).rd → HasOperands (run k (r + count older)).x t.asks t.inputs
  has_read e =
      let near = ready.ex_rd in
      let b = unboarded e in
      h.read.0 e b.0 (path_ahead k r (suc stage) older (omega (arith, near, e)) h.placed.1 h.decided.1 (not_blocked (shape_of k) stage t older h.decided.0 free stops)) (waits_operand (shape_of k) stage t older waiting e) b.1

  first_case : (b : Bool) → (stage == (shape_of k).rd) ≡ b → (shape_of k).rd < suc stage → rs1_of t.cell.word ≡ t.asks.first → t.inputs.rs1 ≡ slice_index (run k (r + count older)).x (rs1_of t.cell.word)
  first_case false e lt q = here.first (test_past (shape_of k).rd stage e lt) q
  first_case true e lt q = (has_read (test_eq stage (shape_of k).rd e)).0 (ap rs1_of here.input_word ∙ q) ∙ ap (λ w. slice_index (run k (r + count older)).x (rs1_of w)) here.input_word

  second_case : (b : Bool) → (stage == (shape_of k).rd) ≡ b → (shape_of k).rd < suc stage → rs2_of t.cell.word ≡ t.asks.second → t.inputs.rs2 ≡ slice_index (run k (r + count older)).x (rs2_of t.cell.word)
  second_case false e lt q = here.second (test_past (shape_of k).rd stage e lt) q
  second_case true e lt q = (has_read (test_eq stage (shape_of k).rd e)).1 (ap rs2_of here.input_word ∙ q) ∙ ap (λ w. slice_index (run k (r + count older)).x (rs2_of w)) here.input_word

  one_tried : (o : Option Trial) → is_some o ≡ true → tried_stop o ≡ None → (trial : Trial) × (o ≡ Some trial) × (stop_in trial.answer ≡ None)
  one_tried None e s = cc
  one_tried (Some trial) e s = (trial, refl, s)

  gone_case : (b : Bool) → (stage == (shape_of k).ex) ≡ b → (shape_of k).ex < suc stage → (trial : Trial) × (t.trial ≡ Some trial) × (stop_in trial.answer ≡ None)
  gone_case false e lt = here.gone (test_past (shape_of k).ex stage e lt)
  gone_case true e lt =
      let at = test_eq stage (shape_of k).ex e in
      one_tried t.trial (h.ripe.0 at waiting) (not_due (shape_of k) stage t older own stops at)

  exact_case : (b : Bool) → (stage == (shape_of k).mem) ≡ b → (trial : Trial) → t.trial ≡ Some trial → (t.asks.loads ≡ true → (shape_of k).mem < suc stage) → IsExact k (r + count older) trial
  exact_case false e trial q past = here.exact trial q (λ l. test_past (shape_of k).mem stage e (past l))
  exact_case true e trial q past = h.loaded.0 (test_eq stage (shape_of k).mem e) free trial q

  pub going_one : IsPlaced k (r + count older) (expected k r (suc stage) older) (suc stage) older t
  going_one =
      record {
        at = here.at;
        word = here.word;
        decoded = here.decoded;
        asks = here.asks;
        input_word = here.input_word;
        input_pc = here.input_pc;
        words = here.words;
        wide = here.wide;
        guess = here.guess;
        back = here.back;
        first = first_case (stage == (shape_of k).rd) refl;
        second = second_case (stage == (shape_of k).rd) refl;
        untried = λ lt. here.untried (omega (arith, lt));
        tried = here.tried;
        settled = here.settled;
        clear = here.clear;
        seen = here.seen;
        gone = gone_case (stage == (shape_of k).ex) refl;
        exact = exact_case (stage == (shape_of k).mem) refl;
      }

pub going_placed : (k : Setting) (ready : IsReady k) (r stage : ℕ) (s : Option Token) (older : Slots) → AreSeen k r stage (s ∷ older) → IsPlacedSlot k (r + count older) (expected k r (suc stage) older) (suc stage) older (going s)
going_placed k ready r stage None older h = tt
going_placed k ready r stage (Some t) older h = by_case (is_some t.cell.hold) refl where
  by_case : (b : Bool) → is_some t.cell.hold ≡ b → IsPlacedSlot k (r + count older) (expected k r (suc stage) older) (suc stage) older (if b then None else Some t)
  by_case true e = tt
  by_case false e = going_one k ready r stage t older h e

-- ---- what comes finds the slot free

abbrev pub is_held : Option Token → Bool
is_held None = false
is_held (Some t) = is_some t.cell.hold

abbrev pub Free : Option Token → Option Token → Type 0
Free come s = is_held s ≡ true → come ≡ None

or_behind : (o : Option Hold) → is_some (or_else o (Some Behind)) ≡ true
or_behind None = refl
or_behind (Some h) = refl

blocked_hold : (k : Shape) (stage : ℕ) (t : Token) (older : Slots) → t.cell.hold ≡ shown k stage t older → stops_now k stage t older ≡ false → is_blocked k (suc stage) older ≡ true → is_some t.cell.hold ≡ true
blocked_hold k stage t older d n b = ap (λ o. is_some o) (d ∙ rw (n, b) refl) ∙ or_behind (own_hold k stage t older)

held_ahead : (k : Shape) (stage : ℕ) (older : Slots) → is_held (first_slot older) ≡ true → is_blocked k stage older ≡ true
held_ahead k stage [] h = cc
held_ahead k stage (None ∷ older) h = cc
held_ahead k stage (Some t ∷ older) h = rw h

pub free_ahead : (k : Setting) (r stage : ℕ) (s : Option Token) (older : Slots) → Decided k stage (s ∷ older) → NoStops k stage (s ∷ older) → Free (going s) (first_slot older)
free_ahead k r stage None older d n = λ h. refl
free_ahead k r stage (Some t) older d n = λ h. rw (blocked_hold (shape_of k) stage t older d.0 n.0 (held_ahead (shape_of k) (suc stage) older h))
