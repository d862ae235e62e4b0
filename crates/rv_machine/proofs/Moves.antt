-- After a row the tokens stand in their places again.
use Rattle.std.proofs.Common.{◌≡◌, ℕ, suc, ◌+◌, ◌-◌, ◌%◌, ◌^◌, ◌<◌, List, [], ◌∷◌, drop, length, get_or, Option, Some, None, Bool, true, false, refl, sym, ap, ◌∙◌, subst, arith, add-zero}
use Rattle.std.specs.Prelude.{◌&&◌, if◌then◌else◌, ◌==◌, is_some, is_none, nat_lt}
use Rattle.std.proofs.lemmas.Bool.Decides.{nat_tests}
use Rattle.rv_trace.specs.declared.row.Row.{Row}
use Rattle.rv_trace.specs.Trace.{place, is_flushed}
use Rattle.rv_asks.specs.declared.asks.Asks.{Asks}
use Rattle.rv_holds.specs.declared.token.Token.{Token}
use Rattle.rv_holds.specs.Tokens.{Slots, or_else, stop_of}
use Rattle.rv_holds.specs.Holds.{oldest, own_hold}
use Rattle.rv_engine.specs.Settings.{Setting, shape_of}
use Rattle.rv_engine.specs.Rows.{waited, going, kept, advanced, leaving, first_slot}
use Rattle.rv_machine.specs.Placed.{run, one_more, count, Serials, settling_stage, expected_after, expected, IsPlaced, IsPlacedSlot, Placed, IsReady}
use Rattle.rv_machine.specs.Told.{Decided, NoStops}
use Rattle.rv_machine.proofs.Deciding.{or_else_none, or_else_none_b, if_none, decided_tail, no_stops_tail}
use Rattle.rv_machine.proofs.Reading.{same_trial}
use Rattle.rv_machine.proofs.Going.{AreSeen, seen_tail, going_placed, Free, free_ahead}

-- ---- what no token asks for, none asks for after the moves

abbrev pub SilentSlot : (Asks → Bool) → Option Token → Type 0
SilentSlot g None = Unit {0}
SilentSlot g (Some t) = g t.asks ≡ false

pub silent_parts : (g : Asks → Bool) (s : Option Token) (older : Slots) → oldest (λ t. g t.asks) (s ∷ older) ≡ None → SilentSlot g s × (oldest (λ t. g t.asks) older ≡ None)
silent_parts g None older h = (tt, h)
silent_parts g (Some t) older h = (if_none (g t.asks) t.cell.serial (or_else_none_b (oldest (λ u. g u.asks) older) _ h), or_else_none (oldest (λ u. g u.asks) older) _ h)

silent_join : (g : Asks → Bool) (s : Option Token) (older : Slots) → SilentSlot g s → oldest (λ t. g t.asks) older ≡ None → oldest (λ t. g t.asks) (s ∷ older) ≡ None
silent_join g None older q h = h
silent_join g (Some t) older q h =
    ap (λ o. or_else o (if g t.asks then Some t.cell.serial else None)) h ∙ ap (λ (b : Bool). if b then Some t.cell.serial else None) q

silent_kept : (g : Asks → Bool) (come s : Option Token) → SilentSlot g come → SilentSlot g s → SilentSlot g (kept come s)
silent_kept g come None c h = c
silent_kept g come (Some t) c h = by_case (is_some t.cell.hold) where
  by_case : (b : Bool) → SilentSlot g (if b then Some (waited t) else come)
  by_case true = h
  by_case false = c

pub silent_going : (g : Asks → Bool) (s : Option Token) → SilentSlot g s → SilentSlot g (going s)
silent_going g None h = tt
silent_going g (Some t) h = by_case (is_some t.cell.hold) where
  by_case : (b : Bool) → SilentSlot g (if b then None else Some t)
  by_case true = tt
  by_case false = h

pub silent_advanced : (g : Asks → Bool) (come : Option Token) (seen : Slots) → SilentSlot g come → oldest (λ t. g t.asks) seen ≡ None → oldest (λ t. g t.asks) (advanced come seen) ≡ None
silent_advanced g come [] c h = refl
silent_advanced g come (s ∷ older) c h =
    let x = silent_parts g s older h in
    silent_join g (kept come s) (advanced (going s) older) (silent_kept g come s c x.0) (silent_advanced g (going s) older (silent_going g s x.0) x.1)

-- behind the slot of one that goes on
pub silent_behind : (g : Asks → Bool) (s : Option Token) (older : Slots) → oldest (λ t. g t.asks) (s ∷ older) ≡ None → oldest (λ t. g t.asks) (advanced (going s) older) ≡ None
silent_behind g s older h = let x = silent_parts g s older h in silent_advanced g (going s) older (silent_going g s x.0) x.1

-- a token stands where it stood before these, where they ask for no more
placed_before : (k : Setting) (p address stage : ℕ) (older later : Slots) (t : Token) → ((g : Asks → Bool) → oldest (λ u. g u.asks) older ≡ None → oldest (λ u. g u.asks) later ≡ None) → IsPlaced k p address stage older t → IsPlaced k p address stage later t
placed_before k p address stage older later t h i =
    record {
      at = i.at;
      word = i.word;
      decoded = i.decoded;
      asks = i.asks;
      input_word = i.input_word;
      input_pc = i.input_pc;
      words = i.words;
      wide = i.wide;
      guess = i.guess;
      back = i.back;
      first = i.first;
      second = i.second;
      untried = i.untried;
      tried = i.tried;
      settled = λ trial e. h (λ a. a.late) (i.settled trial e);
      clear = λ trial e reg u. h (λ a. get_or a.late_customs reg false) (i.clear trial e reg u);
      seen = i.seen;
      gone = i.gone;
      exact = i.exact;
    }

waited_placed : (k : Setting) (p address stage : ℕ) (older : Slots) (t : Token) → IsPlaced k p address stage older t → IsPlaced k p address stage older (waited t)
waited_placed k p address stage older t i =
    record {
      at = i.at;
      word = i.word;
      decoded = i.decoded;
      asks = i.asks;
      input_word = i.input_word;
      input_pc = i.input_pc;
      words = i.words;
      wide = i.wide;
      guess = i.guess;
      back = i.back;
      first = i.first;
      second = i.second;
      untried = i.untried;
      tried = λ trial q. same_trial k p t (waited t) trial refl refl (i.tried trial q);
      settled = i.settled;
      clear = i.clear;
      seen = i.seen;
      gone = i.gone;
      exact = i.exact;
    }

-- ---- counts

-- as many tokens as before, but for the one that leaves
slot_count : (n : ℕ) (come s : Option Token) → Free come s → one_more come (one_more s n) ≡ one_more (kept come s) (one_more (going s) n)
slot_count n come None f = refl
slot_count n come (Some t) f = case_count (is_some t.cell.hold) come f where
  case_count : (b : Bool) (come : Option Token) → (b ≡ true → come ≡ None) → one_more come (suc n) ≡ one_more (if b then Some (waited t) else come) (one_more (if b then None else Some t) n)
  case_count true None f = refl
  case_count true (Some v) f = cc (f refl)
  case_count false come f = refl

one_more_plus : (s : Option Token) (m n : ℕ) → one_more s (m + n) ≡ one_more s m + n
one_more_plus None m n = refl
one_more_plus (Some t) m n = omega arith

pub count_advanced : (k : Setting) (stage : ℕ) (come : Option Token) (seen : Slots) → Decided k stage seen → NoStops k stage seen → Free come (first_slot seen) → one_more come (count seen) ≡ count (advanced come seen) + one_more (leaving come seen) 0
count_advanced k stage come [] d n f = omega arith
count_advanced k stage come (s ∷ older) d n f =
    slot_count (count older) come s f
    ∙ ap (λ m. one_more (kept come s) m) (count_advanced k (suc stage) (going s) older (decided_tail k stage s older d) (no_stops_tail k stage s older n) (free_ahead k 0 stage s older d n))
    ∙ one_more_plus (kept come s) _ _

one_more_left : (s : Option Token) (r n : ℕ) → r + one_more s n ≡ one_more s (r + n)
one_more_left None r n = refl
one_more_left (Some t) r n = omega arith

place_advanced : (k : Setting) (r stage : ℕ) (come s : Option Token) (older : Slots) → Decided k stage (s ∷ older) → NoStops k stage (s ∷ older) → r + one_more (leaving come (s ∷ older)) 0 + count (advanced (going s) older) ≡ one_more (going s) (r + count older)
place_advanced k r stage come s older d n =
    let c = count_advanced k (suc stage) (going s) older (decided_tail k stage s older d) (no_stops_tail k stage s older n) (free_ahead k 0 stage s older d n) in
    let l = one_more_left (going s) r (count older) in
    omega (arith, c, l)

-- ---- serials

abbrev pub IsSerial : List Row → ℕ → Option Token → Type 0
IsSerial rows p None = Unit {0}
IsSerial rows p (Some t) = (place rows t.cell.serial ≡ p) × (is_flushed rows t.cell.serial ≡ false)

serials_parts : (rows : List Row) (r : ℕ) (s : Option Token) (older : Slots) → Serials rows r (s ∷ older) → IsSerial rows (r + count older) s × Serials rows r older
serials_parts rows r None older h = (tt, h)
serials_parts rows r (Some t) older h = (h.0, h.1)

serials_join : (rows : List Row) (r : ℕ) (s : Option Token) (older : Slots) → IsSerial rows (r + count older) s → Serials rows r older → Serials rows r (s ∷ older)
serials_join rows r None older p h = h
serials_join rows r (Some t) older p h = (p, h)

-- ---- addresses

settling_last : (k : Setting) (ready : IsReady k) (t : Token) → settling_stage k t < (shape_of k).stages
settling_last k ready t = by_case t.asks.late where
  by_case : (b : Bool) → (if b then (shape_of k).stages - 1 else (shape_of k).ex) < (shape_of k).stages
  by_case true = let a = ready.ex_last in omega (arith, a)
  by_case false = let a = ready.ex_last in omega (arith, a)

guess_or_known : (ex stage a g : ℕ) → (stage ≡ ex → a ≡ g) → (if nat_lt ex (suc stage) then a else g) ≡ (if nat_lt ex stage then a else g)
guess_or_known ex stage a g h = grind (arith, nat_tests)

-- the address after a token stays the same where it goes on
after_going : (k : Setting) (p stage address : ℕ) (t : Token) → (stage ≡ settling_stage k t → (run k (suc p)).pc ≡ t.guess) → expected_after k p (suc stage) (Some t) address ≡ expected_after k p stage (Some t) address
after_going k p stage address t h = guess_or_known (settling_stage k t) stage (run k (suc p)).pc t.guess h

-- what goes on from the stage that settles its successor has that 4 further
abbrev pub Guesses : Setting → ℕ → ℕ → Option Token → Type 0
Guesses k p stage None = Unit {0}
Guesses k p stage (Some t) = is_some t.cell.hold ≡ false → stage ≡ settling_stage k t → (run k (suc p)).pc ≡ t.guess

-- what is expected of the slot's younger
slot_expected : (k : Setting) (p stage address : ℕ) (come s : Option Token) → Free come s → Guesses k p stage s → expected_after k (one_more (going s) p) stage (kept come s) (expected_after k p (suc stage) (going s) address) ≡ expected_after k (one_more s p) stage come (expected_after k p stage s address)
slot_expected k p stage address come None f h = refl
slot_expected k p stage address come (Some t) f h = by_case (is_some t.cell.hold) refl come f where
  by_case : (b : Bool) → is_some t.cell.hold ≡ b → (come : Option Token) → (b ≡ true → come ≡ None) → expected_after k (one_more (if b then None else Some t) p) stage (if b then Some (waited t) else come) (expected_after k p (suc stage) (if b then None else Some t) address) ≡ expected_after k (suc p) stage come (expected_after k p stage (Some t) address)
  by_case true e None f = refl
  by_case true e (Some u) f = cc (f refl)
  by_case false e come f = ap (λ a. expected_after k (suc p) stage come a) (after_going k p stage address t (h e))

abbrev pub Guessed : Setting → ℕ → ℕ → Slots → Type 0
Guessed k r stage [] = Unit {0}
Guessed k r stage (s ∷ older) = Guesses k (r + count older) stage s × Guessed k r (suc stage) older

-- each guess is right where those that are settled now are
pub guessed : (k : Setting) (r stage : ℕ) (seen : Slots) → ((n : ℕ) (t : Token) (older : Slots) → stage + n ≡ settling_stage k t → drop n seen ≡ Some t ∷ older → is_some t.cell.hold ≡ false → (run k (suc (r + count older))).pc ≡ t.guess) → Guessed k r stage seen
guessed k r stage [] f = tt
guessed k r stage (None ∷ older) f = (tt, guessed k r (suc stage) older (λ n t o e d h. f (suc n) t o (omega (arith, e)) d h))
guessed k r stage (Some t ∷ older) f = (
  λ e at. f 0 t older (omega (arith, at)) refl e,
  guessed k r (suc stage) older (λ n u o q d h. f (suc n) u o (omega (arith, q)) d h),
)

known_last : (settle stage a g : ℕ) → settle < stage → a ≡ (if nat_lt settle stage then a else g)
known_last settle stage a g lt = grind (arith, nat_tests)

pub expected_advanced : (k : Setting) (ready : IsReady k) (r stage : ℕ) (come : Option Token) (seen : Slots) → stage + length seen ≡ (shape_of k).stages → Decided k stage seen → NoStops k stage seen → Free come (first_slot seen) → Guessed k r stage seen → expected k (r + one_more (leaving come seen) 0) stage (advanced come seen) ≡ expected_after k (r + count seen) stage come (expected k r stage seen)
expected_advanced k ready r stage None [] len d n f g = rw add-zero
expected_advanced k ready r stage (Some t) [] len d n f g =
    let last = settling_last k ready t in
    let e : r + 1 ≡ suc (r + 0) = omega arith in
    ap (λ m. (run k m).pc) e ∙ known_last (settling_stage k t) stage (run k (suc (r + 0))).pc t.guess (omega (arith, last, len))
expected_advanced k ready r stage come (s ∷ older) len d n f g =
    let go = going s in
    let len' : suc stage + length older ≡ (shape_of k).stages = omega (arith, len) in
    let ih = expected_advanced k ready r (suc stage) go older len' (decided_tail k stage s older d) (no_stops_tail k stage s older n) (free_ahead k r stage s older d n) g.1 in
    ap (λ p. expected_after k p stage (kept come s) (expected k (r + one_more (leaving come (s ∷ older)) 0) (suc stage) (advanced go older))) (place_advanced k r stage come s older d n)
    ∙ ap (λ a. expected_after k (one_more go (r + count older)) stage (kept come s) a) ih
    ∙ slot_expected k (r + count older) stage (expected k r (suc stage) older) come s f g.0
    ∙ ap (λ p. expected_after k p stage come (expected_after k (r + count older) stage s (expected k r (suc stage) older))) (sym (one_more_left s r (count older)))

-- ---- places

slot_placed : (k : Setting) (p stage address : ℕ) (older : Slots) (come s : Option Token) → Free come s → IsPlacedSlot k p address stage older s → Guesses k p stage s → IsPlacedSlot k (one_more s p) (expected_after k p stage s address) stage (s ∷ older) come
    → IsPlacedSlot k (one_more (going s) p) (expected_after k p (suc stage) (going s) address) stage (advanced (going s) older) (kept come s)
slot_placed k p stage address older None None f h g c = tt
slot_placed k p stage address older (Some u) None f h g c = placed_before k p address stage (None ∷ older) (advanced None older) u (λ q e. silent_behind q None older e) c
slot_placed k p stage address older come (Some t) f h g c = by_case (is_some t.cell.hold) refl come f c where
  before : Slots → Slots
  before later = Some t ∷ later

  by_case : (b : Bool) → is_some t.cell.hold ≡ b → (come : Option Token) → (b ≡ true → come ≡ None) → IsPlacedSlot k (suc p) (expected_after k p stage (Some t) address) stage (Some t ∷ older) come
      → IsPlacedSlot k (one_more (if b then None else Some t) p) (expected_after k p (suc stage) (if b then None else Some t) address) stage (advanced (if b then None else Some t) older) (if b then Some (waited t) else come)
  by_case true e come f c = placed_before k p address stage older (advanced None older) (waited t) (λ q w. silent_advanced q None older tt w) (waited_placed k p address stage older t h)
  by_case false e None f c = tt
  by_case false e (Some u) f c =
      subst (λ a. IsPlaced k (suc p) a stage (advanced (Some t) older) u) (sym (after_going k p stage address t (λ at. g e at)))
      (placed_before k (suc p) (expected_after k p stage (Some t) address) stage (Some t ∷ older) (advanced (Some t) older) u
      (λ q w. let x = silent_parts q (Some t) older w in silent_advanced q (Some t) older x.0 x.1) c)

pub placed_advanced : (k : Setting) (ready : IsReady k) (r stage : ℕ) (come : Option Token) (seen : Slots) → stage + length seen ≡ (shape_of k).stages → AreSeen k r stage seen → Free come (first_slot seen) → IsPlacedSlot k (r + count seen) (expected k r stage seen) stage seen come → Guessed k r stage seen
    → Placed k (r + one_more (leaving come seen) 0) stage (advanced come seen)
placed_advanced k ready r stage come [] len h f c g = tt
placed_advanced k ready r stage come (s ∷ older) len h f c g =
    let go = going s in
    let len' : suc stage + length older ≡ (shape_of k).stages = omega (arith, len) in
    let rest = seen_tail k r stage s older h in
    let d = h.decided in
    let n = h.stops in
    let f' = free_ahead k r stage s older d n in
    let left = leaving come (s ∷ older) in
    let here : IsPlacedSlot k (one_more s (r + count older)) (expected_after k (r + count older) stage s (expected k r (suc stage) older)) stage (s ∷ older) come =
    subst (λ m. IsPlacedSlot k m (expected_after k (r + count older) stage s (expected k r (suc stage) older)) stage (s ∷ older) come) (one_more_left s r (count older)) c in
    let slot = slot_placed k (r + count older) stage (expected k r (suc stage) older) older come s f h.placed.0 g.0 here in (
      subst (λ m. IsPlacedSlot k m (expected k (r + one_more left 0) (suc stage) (advanced go older)) stage (advanced go older) (kept come s)) (sym (place_advanced k r stage come s older d n))
          (subst (λ a. IsPlacedSlot k (one_more go (r + count older)) a stage (advanced go older) (kept come s)) (sym (expected_advanced k ready r (suc stage) go older len' rest.decided rest.stops f' g.1)) slot),
      placed_advanced k ready r (suc stage) go older len' rest f' (going_placed k ready r stage s older h) g.1,
    )

-- each token has its serial after the moves too
slot_serials : (rows : List Row) (p : ℕ) (come s : Option Token) → IsSerial rows p s → IsSerial rows (one_more s p) come → IsSerial rows (one_more (going s) p) (kept come s)
slot_serials rows p come None h c = c
slot_serials rows p come (Some t) h c = by_case (is_some t.cell.hold) where
  by_case : (b : Bool) → IsSerial rows (one_more (if b then None else Some t) p) (if b then Some (waited t) else come)
  by_case true = h
  by_case false = c

going_serial : (rows : List Row) (p : ℕ) (s : Option Token) → IsSerial rows p s → IsSerial rows p (going s)
going_serial rows p None h = tt
going_serial rows p (Some t) h = by_case (is_some t.cell.hold) where
  by_case : (b : Bool) → IsSerial rows p (if b then None else Some t)
  by_case true = tt
  by_case false = h

pub serials_advanced : (k : Setting) (rows : List Row) (r stage : ℕ) (come : Option Token) (seen : Slots) → Serials rows r seen → Decided k stage seen → NoStops k stage seen → Free come (first_slot seen) → IsSerial rows (r + count seen) come → Serials rows (r + one_more (leaving come seen) 0) (advanced come seen)
serials_advanced k rows r stage come [] h d n f c = tt
serials_advanced k rows r stage come (s ∷ older) h d n f c =
    let go = going s in
    let parts = serials_parts rows r s older h in
    let here : IsSerial rows (one_more s (r + count older)) come = rw one_more_left at c in
    serials_join rows (r + one_more (leaving come (s ∷ older)) 0) (kept come s) (advanced go older)
    (rw (place_advanced k r stage come s older d n) (slot_serials rows (r + count older) come s parts.0 here))
    (serials_advanced k rows r (suc stage) go older parts.1 (decided_tail k stage s older d) (no_stops_tail k stage s older n) (free_ahead k r stage s older d n) (going_serial rows (r + count older) s parts.0))

-- ---- the token that leaves has the place r

pub leaving_placed : (k : Setting) (ready : IsReady k) (r stage : ℕ) (come : Option Token) (seen : Slots) → AreSeen k r stage seen → IsPlacedSlot k (r + count seen) (expected k r stage seen) stage seen come → IsPlacedSlot k r (run k r).pc (stage + length seen) [] (leaving come seen)
leaving_placed k ready r stage come [] h c =
    subst (λ n. IsPlacedSlot k r (run k r).pc n [] come) (sym (add-zero stage)) (subst (λ n. IsPlacedSlot k n (run k r).pc stage [] come) (add-zero r) c)
leaving_placed k ready r stage come (s ∷ older) h c =
    let e : suc stage + length older ≡ stage + length (s ∷ older) = omega arith in
    subst (λ m. IsPlacedSlot k r (run k r).pc m [] (leaving come (s ∷ older))) e
    (leaving_placed k ready r (suc stage) (going s) older (seen_tail k r stage s older h) (going_placed k ready r stage s older h))

-- at a stage past EX no token stops the run
pub past_ex : (k : Setting) (stage : ℕ) (seen : Slots) → (shape_of k).ex < stage → NoStops k stage seen
past_ex k stage [] lt = tt
past_ex k stage (None ∷ older) lt = past_ex k (suc stage) older (omega (arith, lt))
past_ex k stage (Some t ∷ older) lt = (never (is_some (stop_of t)) (is_none (own_hold (shape_of k) stage t older)), past_ex k (suc stage) older (omega (arith, lt))) where
  never : (b c : Bool) → ((stage == (shape_of k).ex) && b && c) ≡ false
  never b c = grind (arith, nat_tests)

pub advanced_length : (come : Option Token) (seen : Slots) → length (advanced come seen) ≡ length seen
advanced_length come [] = refl
advanced_length come (s ∷ older) = ap suc (advanced_length (going s) older)
