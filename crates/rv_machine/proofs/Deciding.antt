-- Holds as they are decided: what they leave as it is, and what has none.
use Rattle.std.proofs.Common.{◌≡◌, ◌≢◌, ℕ, zero, suc, ◌+◌, ◌-◌, ◌%◌, ◌^◌, ◌<◌, ◌≤◌, List, [], ◌∷◌, drop, length, Option, Some, None, Bool, true, false, refl, sym, ap, ◌∙◌, arith, add-zero, add-suc}
use Rattle.std.specs.Prelude.{◌&&◌, if◌then◌else◌, ◌==◌, is_some, is_none, nat_lt}
use Rattle.std.proofs.lemmas.Bool.Decides.{nat_tests}
use Rattle.rv_core.specs.declared.Shape.{Shape}
use Rattle.rv_seq.specs.Steps.{word_at}
use Rattle.rv_trace.specs.declared.row.Hold.{Hold}
use Rattle.rv_trace.specs.declared.row.Row.{Row}
use Rattle.rv_trace.specs.RowParts.{name_of, names_of}
use Rattle.rv_tried.specs.declared.trial.Trial.{Trial}
use Rattle.rv_holds.specs.declared.token.Token.{Token}
use Rattle.rv_holds.specs.Tokens.{Slots, or_else, stop_of, cells_of}
use Rattle.rv_holds.specs.Holds.{oldest, is_late, writes_late, operand_hold, custom_hold, late_hold, waiting_hold, leaving_hold, memory_hold, store_hold, tail_hold, own_hold, stops_now, shown, held, decided, reading_hold, board_hold, ending_hold}
use Rattle.rv_engine.specs.Settings.{Setting, shape_of}
use Rattle.rv_machine.specs.Placed.{run, count, expected, IsTried, IsPlaced, Placed, Serials}
use Rattle.rv_machine.specs.Told.{Decided, NoStops}

-- Tests

pub or_else_none : {A : Type 0} (a b : Option A) → or_else a b ≡ None → a ≡ None
or_else_none None b h = refl
or_else_none (Some x) b h = cc

pub or_else_none_b : {A : Type 0} (a b : Option A) → or_else a b ≡ None → b ≡ None
or_else_none_b None b h = h
or_else_none_b (Some x) b h = cc

pub is_none_of : {A : Type 0} (o : Option A) → is_some o ≡ false → o ≡ None
is_none_of None h = refl
is_none_of (Some x) h = cc

pub same_test : (m n : ℕ) → m ≡ n → (m == n) ≡ true
same_test m n e = grind (arith, nat_tests)

pub test_eq : (m n : ℕ) → (m == n) ≡ true → m ≡ n
test_eq m n h = grind (arith, nat_tests)

pub test_ne : (m n : ℕ) → (m == n) ≡ false → m ≢ n
test_ne m n h = λ e. cc (same_test m n e, h)

pub test_past : (m n : ℕ) → (n == m) ≡ false → m < suc n → m < n
test_past m n h lt = grind (arith, nat_tests)

pub if_none : {A : Type 0} (b : Bool) (a : A) → (if b then Some a else None) ≡ None → b ≡ false
if_none true a h = cc
if_none false a h = refl

pub if_then : (b : Bool) (o : Option Hold) → b ≡ true → (if b then o else None) ≡ None → o ≡ None
if_then true o p q = q
if_then false o p q = cc

pub lt_true : (a b : ℕ) → a < b → nat_lt a b ≡ true
lt_true a b h = grind (arith, nat_tests)

-- The oldest token of which something is true

pub late_here : (older : Slots) (f : Token → Bool) (t : Token) → oldest f (Some t ∷ older) ≡ None → f t ≡ false
late_here older f t h = if_none (f t) t.cell.serial (or_else_none_b (oldest f older) _ h)

pub late_behind : (older : Slots) (f : Token → Bool) (t : Token) → oldest f (Some t ∷ older) ≡ None → oldest f older ≡ None
late_behind older f t h = or_else_none (oldest f older) _ h

-- what does not ask for the hold is true of the same
pub decided_oldest : (k : Shape) (f : Token → Bool) (stage : ℕ) (slots : Slots) → ((h : Option Hold) (t : Token) → f (held h t) ≡ f t) → oldest f (decided k stage slots) ≡ oldest f slots
decided_oldest k f stage [] same = refl
decided_oldest k f stage (None ∷ older) same = decided_oldest k f (suc stage) older same
decided_oldest k f stage (Some t ∷ older) same =
    ap (λ o. or_else o (if f (held (shown k stage t (decided k (suc stage) older)) t) then Some t.cell.serial else None)) (decided_oldest k f (suc stage) older same)
    ∙ ap (λ (b : Bool). or_else (oldest f older) (if b then Some t.cell.serial else None)) (same (shown k stage t (decided k (suc stage) older)) t)

-- Holds that are decided

pub decided_is : (k : Setting) (stage : ℕ) (slots : Slots) → Decided k stage (decided (shape_of k) stage slots)
decided_is k stage [] = tt
decided_is k stage (None ∷ older) = decided_is k (suc stage) older
decided_is k stage (Some t ∷ older) = (refl, decided_is k (suc stage) older)

pub decided_count : (k : Shape) (stage : ℕ) (slots : Slots) → count (decided k stage slots) ≡ count slots
decided_count k stage [] = refl
decided_count k stage (None ∷ older) = decided_count k (suc stage) older
decided_count k stage (Some t ∷ older) = ap suc (decided_count k (suc stage) older)

pub decided_length : (k : Shape) (stage : ℕ) (slots : Slots) → length (decided k stage slots) ≡ length slots
decided_length k stage [] = refl
decided_length k stage (s ∷ older) = ap suc (decided_length k (suc stage) older)

pub decided_names : (k : Shape) (stage : ℕ) (slots : Slots) → names_of (cells_of (decided k stage slots)) ≡ names_of (cells_of slots)
decided_names k stage [] = refl
decided_names k stage (None ∷ older) = ap (λ l. None ∷ l) (decided_names k (suc stage) older)
decided_names k stage (Some t ∷ older) = ap (λ l. name_of (Some t.cell) ∷ l) (decided_names k (suc stage) older)

pub decided_expected : (k : Setting) (r stage : ℕ) (slots : Slots) → expected k r stage (decided (shape_of k) stage slots) ≡ expected k r stage slots
decided_expected k r stage [] = refl
decided_expected k r stage (None ∷ older) = decided_expected k r (suc stage) older
decided_expected k r stage (Some t ∷ older) = rw (decided_count (shape_of k) (suc stage) older)

held_tried : (k : Setting) (p : ℕ) (h : Option Hold) (t : Token) (trial : Trial) → IsTried k p t trial → IsTried k p (held h t) trial
held_tried k p h t trial i = record { tried = i.tried; early = i.early; accesses = i.accesses; load = i.load; blocks = i.blocks; x = i.x }

-- a token with a hold stands where it stood, before older ones of which the same write late
pub held_placed : (k : Setting) (p address stage : ℕ) (older later : Slots) (h : Option Hold) (t : Token) → oldest is_late later ≡ oldest is_late older → ((r : ℕ) → oldest (writes_late r) later ≡ oldest (writes_late r) older) → IsPlaced k p address stage older t → IsPlaced k p address stage later (held h t)
held_placed k p address stage older later h t same each i =
    record {
      at = i.at;
      word = i.word;
      decoded = i.decoded;
      asks = i.asks;
      input_word = i.input_word;
      input_pc = i.input_pc;
      words = i.words;
      wide = i.wide;
      guess = i.guess;
      back = i.back;
      first = i.first;
      second = i.second;
      untried = i.untried;
      tried = λ trial e. held_tried k p h t trial (i.tried trial e);
      settled = λ trial e. same ∙ i.settled trial e;
      clear = λ trial e r asks. each r ∙ i.clear trial e r asks;
      seen = i.seen;
      gone = i.gone;
      exact = i.exact;
    }

pub decided_placed : (k : Setting) (r stage : ℕ) (slots : Slots) → Placed k r stage slots → Placed k r stage (decided (shape_of k) stage slots)
decided_placed k r stage [] h = tt
decided_placed k r stage (None ∷ older) h = (tt, decided_placed k r (suc stage) older h.1)
decided_placed k r stage (Some t ∷ older) h =
    let later = decided (shape_of k) (suc stage) older in (
      rw (decided_count (shape_of k) (suc stage) older, decided_expected k r (suc stage) older)
          (held_placed k (r + count older) (expected k r (suc stage) older) stage older later (shown (shape_of k) stage t later) t
          (decided_oldest (shape_of k) is_late (suc stage) older (λ g u. refl)) (λ reg. decided_oldest (shape_of k) (writes_late reg) (suc stage) older (λ g u. refl)) h.0),
      decided_placed k r (suc stage) older h.1,
    )

pub serials_decided : (k : Shape) (rows : List Row) (r stage : ℕ) (slots : Slots) → Serials rows r slots → Serials rows r (decided k stage slots)
serials_decided k rows r stage [] h = tt
serials_decided k rows r stage (None ∷ older) h = serials_decided k rows r (suc stage) older h
serials_decided k rows r stage (Some t ∷ older) h = ((h.0.0 ∙ ap (λ n. r + n) (sym (decided_count k (suc stage) older)), h.0.1), serials_decided k rows r (suc stage) older h.1)

pub drop_decided : (k : Shape) (base n : ℕ) (l : Slots) → drop n (decided k base l) ≡ decided k (base + n) (drop n l)
drop_decided k base zero l = ap (λ b. decided k b l) (sym (add-zero base))
drop_decided k base (suc n) [] = refl
drop_decided k base (suc n) (s ∷ l) = let e : suc base + n ≡ base + suc n = omega arith in drop_decided k (suc base) n l ∙ ap (λ b. decided k b (drop n l)) e

-- Addresses

known_past : (ex last stage : ℕ) (late : Bool) (a g : ℕ) → ex < stage → late ≡ false → (if nat_lt (if late then last else ex) stage then a else g) ≡ a
known_past ex last stage true a g lt e = cc
known_past ex last stage false a g lt e = rw (lt_true ex stage lt)

-- past EX the address is the run's, where no token writes the pc late
pub expected_run : (k : Setting) (r stage : ℕ) (slots : Slots) → (shape_of k).ex < stage → oldest is_late slots ≡ None → expected k r stage slots ≡ (run k (r + count slots)).pc
expected_run k r stage [] h late = rw add-zero
expected_run k r stage (None ∷ older) h late = let h' : (shape_of k).ex < suc stage = omega arith in expected_run k r (suc stage) older h' late
expected_run k r stage (Some t ∷ older) h late =
    known_past (shape_of k).ex ((shape_of k).stages - 1) stage (is_late t) (run k (suc (r + count older))).pc t.guess h (late_here older is_late t late)
    ∙ ap (λ n. (run k n).pc) (sym (add-suc r (count older)))

-- from EX on a token stands at the run's pc, and its word is there
pub address_of_run : (k : Setting) (r stage : ℕ) (t : Token) (older : Slots) → (shape_of k).ex ≤ stage → oldest is_late older ≡ None → IsPlaced k (r + count older) (expected k r (suc stage) older) stage older t → t.cell.at ≡ (run k (r + count older)).pc
address_of_run k r stage t older le late h = h.at ∙ expected_run k r (suc stage) older (omega (arith, le)) late

pub word_of_run : (k : Setting) (r stage : ℕ) (t : Token) (older : Slots) → (shape_of k).ex ≤ stage → oldest is_late older ≡ None → IsPlaced k (r + count older) (expected k r (suc stage) older) stage older t → word_at k.image (run k (r + count older)).pc ≡ Some t.cell.word
word_of_run k r stage t older le late h = ap (λ a. word_at k.image a) (sym (address_of_run k r stage t older le late h)) ∙ h.word

-- past EX it has been tried, and no older one writes the pc late
pub settled_past : (k : Setting) (p address stage : ℕ) (older : Slots) (t : Token) → (shape_of k).ex < stage → IsPlaced k p address stage older t → oldest is_late older ≡ None
settled_past k p address stage older t lt h = let g = h.gone lt in h.settled g.0 g.1

-- What is not held

pub decided_tail : (k : Setting) (stage : ℕ) (s : Option Token) (older : Slots) → Decided k stage (s ∷ older) → Decided k (suc stage) older
decided_tail k stage None older d = d
decided_tail k stage (Some t) older d = d.1

pub no_stops_tail : (k : Setting) (stage : ℕ) (s : Option Token) (older : Slots) → NoStops k stage (s ∷ older) → NoStops k (suc stage) older
no_stops_tail k stage None older d = d
no_stops_tail k stage (Some t) older d = d.1

-- what neither is held nor stops the run has no hold of its own
pub own_none : (k : Shape) (stage : ℕ) (t : Token) (older : Slots) (hold : Option Hold) → hold ≡ shown k stage t older → is_some hold ≡ false → stops_now k stage t older ≡ false → own_hold k stage t older ≡ None
own_none k stage t older hold e h n =
    let shown_none : shown k stage t older ≡ None = sym e ∙ is_none_of hold h in
    or_else_none (own_hold k stage t older) _ (rw n at shown_none)

-- without a hold of its own it makes no stop at EX, where it does not stop the run
pub not_due : (k : Shape) (stage : ℕ) (t : Token) (older : Slots) → own_hold k stage t older ≡ None → stops_now k stage t older ≡ false → stage ≡ k.ex → stop_of t ≡ None
not_due k stage t older h n e = by_case (stage == k.ex) (is_some (stop_of t)) (is_none (own_hold k stage t older)) refl refl (ap (λ o. is_none o) h) n where
  by_case : (a b c : Bool) → (stage == k.ex) ≡ a → is_some (stop_of t) ≡ b → c ≡ true → (a && b && c) ≡ false → stop_of t ≡ None
  by_case a false c ea eb ec q = is_none_of (stop_of t) eb
  by_case true true true ea eb ec q = cc
  by_case true true false ea eb ec q = cc
  by_case false true c ea eb ec q = cc (same_test stage k.ex e, ea)

-- and waits for nothing
pub no_waiting : (k : Shape) (stage : ℕ) (t : Token) (older : Slots) → own_hold k stage t older ≡ None → waiting_hold k stage t older ≡ None
no_waiting k stage t older h = or_else_none (waiting_hold k stage t older) _ h

waits_reading : (k : Shape) (stage : ℕ) (t : Token) (older : Slots) → waiting_hold k stage t older ≡ None → stage ≡ k.rd → reading_hold k stage t older ≡ None
waits_reading k stage t older h e = if_then (stage == k.rd) (reading_hold k stage t older) (same_test stage k.rd e) (or_else_none (if stage == k.rd then reading_hold k stage t older else None) _ h)

pub waits_operand : (k : Shape) (stage : ℕ) (t : Token) (older : Slots) → waiting_hold k stage t older ≡ None → stage ≡ k.rd → operand_hold k (suc stage) older t.asks ≡ None
waits_operand k stage t older h e = or_else_none (operand_hold k (suc stage) older t.asks) (board_hold t older) (waits_reading k stage t older h e)

pub waits_board : (k : Shape) (stage : ℕ) (t : Token) (older : Slots) → waiting_hold k stage t older ≡ None → stage ≡ k.rd → board_hold t older ≡ None
waits_board k stage t older h e = or_else_none_b (operand_hold k (suc stage) older t.asks) (board_hold t older) (waits_reading k stage t older h e)

pub waits_ex : (k : Shape) (stage : ℕ) (t : Token) (older : Slots) → waiting_hold k stage t older ≡ None → stage ≡ k.ex → or_else (custom_hold older t.asks) (late_hold older) ≡ None
waits_ex k stage t older h e =
    if_then (stage == k.ex) (or_else (custom_hold older t.asks) (late_hold older)) (same_test stage k.ex e)
    (or_else_none_b (if stage == k.rd then reading_hold k stage t older else None) (if stage == k.ex then or_else (custom_hold older t.asks) (late_hold older) else None) h)

pub waits_custom : (k : Shape) (stage : ℕ) (t : Token) (older : Slots) → waiting_hold k stage t older ≡ None → stage ≡ k.ex → custom_hold older t.asks ≡ None
waits_custom k stage t older h e = or_else_none (custom_hold older t.asks) (late_hold older) (waits_ex k stage t older h e)

pub waits_late : (k : Shape) (stage : ℕ) (t : Token) (older : Slots) → waiting_hold k stage t older ≡ None → stage ≡ k.ex → late_hold older ≡ None
waits_late k stage t older h e = or_else_none_b (custom_hold older t.asks) (late_hold older) (waits_ex k stage t older h e)

-- the rest of a token's own holds
own_rest : (k : Shape) (stage : ℕ) (t : Token) (older : Slots) → own_hold k stage t older ≡ None → or_else (if stage == k.mem then or_else (memory_hold t) (store_hold older t.asks) else None) (if suc stage == k.stages then ending_hold t else None) ≡ None
own_rest k stage t older h =
    or_else_none_b (if stage == k.ex then leaving_hold t older else None) _ (or_else_none_b (waiting_hold k stage t older) _ h)

pub no_store : (k : Shape) (stage : ℕ) (t : Token) (older : Slots) → own_hold k stage t older ≡ None → stage ≡ k.mem → store_hold older t.asks ≡ None
no_store k stage t older h e =
    or_else_none_b (memory_hold t) (store_hold older t.asks)
    (if_then (stage == k.mem) (or_else (memory_hold t) (store_hold older t.asks)) (same_test stage k.mem e)
    (or_else_none (if stage == k.mem then or_else (memory_hold t) (store_hold older t.asks) else None) (if suc stage == k.stages then ending_hold t else None) (own_rest k stage t older h)))

ends : (k : Shape) (stage : ℕ) (t : Token) (older : Slots) → own_hold k stage t older ≡ None → suc stage ≡ k.stages → ending_hold t ≡ None
ends k stage t older h e =
    if_then (suc stage == k.stages) (ending_hold t) (same_test (suc stage) k.stages e)
    (or_else_none_b (if stage == k.mem then or_else (memory_hold t) (store_hold older t.asks) else None) (if suc stage == k.stages then ending_hold t else None) (own_rest k stage t older h))

pub no_tail : (k : Shape) (stage : ℕ) (t : Token) (older : Slots) → own_hold k stage t older ≡ None → suc stage ≡ k.stages → tail_hold t ≡ None
no_tail k stage t older h e = or_else_none (tail_hold t) t.beside.port (ends k stage t older h e)

pub no_port : (k : Shape) (stage : ℕ) (t : Token) (older : Slots) → own_hold k stage t older ≡ None → suc stage ≡ k.stages → t.beside.port ≡ None
no_port k stage t older h e = or_else_none_b (tail_hold t) t.beside.port (ends k stage t older h e)
