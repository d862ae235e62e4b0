-- The slots before a row is made: with their operands, trials, holds and loads, and what goes out of them.
use Rattle.rv_machine.proofs.Turns.{plain_turn, entry_turn}
use Rattle.std.proofs.Common.{◌≡◌, ℕ, zero, suc, ◌+◌, ◌%◌, ◌^◌, ◌<◌, ◌≤◌, List, [], ◌∷◌, drop, take, length, get_or, Option, Some, None, Bool, true, false, refl, sym, ap, ◌∙◌, subst, arith, add-zero}
use Rattle.std.specs.Prelude.{if◌then◌else◌, ◌==◌, slice_index, nat_lt}
use Rattle.rv_seq.specs.declared.arch.Arch.{Arch}
use Rattle.ix_bits.specs.declared.number.Bits.{Bits}
use Rattle.rv_asks.specs.declared.asks.Asks.{Asks}
use Rattle.rv_seq.specs.Commits.{with_slot}
use Rattle.rv_seq.specs.States.{zero_bit}
use Rattle.rv_seq.specs.Steps.{word_at}
use Rattle.rv_trace.specs.declared.row.Row.{Row}
use Rattle.rv_trace.specs.Trace.{retirements}
use Rattle.rv_holds.specs.declared.token.Token.{Token}
use Rattle.rv_holds.specs.declared.flushing.Turn.{Turn}
use Rattle.rv_holds.specs.Tokens.{Slots}
use Rattle.rv_holds.specs.Flushing.{next_of, settles, settled, nearest, mismatch, turn_of, struck, cleared}
use Rattle.rv_engine.specs.Settings.{Setting, Machine, shape_of, tree_of, outstanding_in, interrupted_by}
use Rattle.rv_engine.specs.Rows.{fill_first, guess_first, filled_by, trying, loading, owed_by, new_by, read_by, held_by, loaded_by, turn_by, seen_by, entered_by}
use Rattle.rv_machine.specs.Placed.{run, count, tail, settling_stage, expected_after, expected, owed_write, paid_late, IsFuture, IsPlacedSlot, Placed, IsReady, Inv, paid_file}
use Rattle.rv_machine.specs.Told.{Decided, NoStops}
use Rattle.rv_machine.proofs.Deciding.{decided_is}
use Rattle.rv_machine.proofs.Moving.{fill_length}
use Rattle.rv_machine.proofs.Filling.{fill_placed, guess_placed, FirstGuess}
use Rattle.rv_machine.proofs.Alike.{AlikeSlot, Alike, IsAlike, alike_length, alike_count, same_first, guesses, guesses_drop, guess_alike, reading_alike, reading_guesses, trying_alike, trying_guesses, decided_alike, decided_guesses, loading_alike, loading_guesses}
use Rattle.rv_machine.proofs.Reading.{Read, AreUnowed, reading_placed, reading_read, trying_read, decided_read, loading_read, cleared_read, all_decided}
use Rattle.rv_machine.proofs.Trying.{at_ex, trying_placed, Boards}
use Rattle.rv_machine.proofs.Loading.{Loaded, loading_decided, loading_placed, loading_loaded}
use Rattle.rv_machine.proofs.Ripe.{Ripe, trying_ripe, decided_ripe, loading_ripe, cleared_ripe}
use Rattle.rv_machine.proofs.Clearing.{cleared_drop, cleared_length, cleared_placed, cleared_decided, cleared_loaded}
use Rattle.rv_machine.proofs.Going.{AreSeen}
use Rattle.rv_machine.proofs.Unboarded.{operand_unowed}
use Rattle.rv_core.specs.Guesses.{guess_of}
use Rattle.rv_lawful.specs.LawfulTrace.{guess_after}
use Rattle.rv_lawful.specs.Outstanding.{outstanding}
use Rattle.rv_lawful.specs.Settings.{jump_of}
use Rattle.ix_plan.specs.declared.design.Design.{Design}
use Rattle.rv_machine.specs.Owing.{judged, Apart}
use Rattle.rv_seq.specs.Interrupts.{return_to}
use Rattle.rv_machine.proofs.Runs.{run_return}
use Rattle.rv_machine.proofs.Repaid.{repaid_memory, repaid_trap}
use Rattle.rv_engine.specs.Owing.{Outstanding}
use Rattle.rv_machine.proofs.Meeting.{Meets, reading_meets}
use Rattle.rv_machine.proofs.Apart.{alike_apart, filled_apart}
use Rattle.rv_machine.proofs.PaidFile.{unowed_file}

-- what tokens meet of what is owed
boards_of : (k : Setting) (now : Bool) (o : Outstanding) (stage : ℕ) (slots : Slots) → Meets (shape_of k) now o stage slots → Boards k o.owed stage slots
boards_of k now o stage [] h = tt
boards_of k now o stage (None ∷ older) h = (tt, boards_of k now o (suc stage) older h.1)
boards_of k now o stage (Some t ∷ older) h = (ap (λ b. b.board) h.0, boards_of k now o (suc stage) older h.1)

-- ---- slots that are alike

alike_one : (t u v : Token) → IsAlike t u → IsAlike u v → IsAlike t v
alike_one t u v g h = record { serial = h.serial ∙ g.serial; at = h.at ∙ g.at; word = h.word ∙ g.word; asks = h.asks ∙ g.asks; tail = h.tail ∙ g.tail }

pub alike_trans : (a b c : Slots) → Alike a b → Alike b c → Alike a c
alike_trans [] [] [] g h = tt
alike_trans [] [] (w ∷ c) g h = absurd h
alike_trans [] (u ∷ b) c g h = absurd g
alike_trans (s ∷ a) [] c g h = absurd g
alike_trans (s ∷ a) (u ∷ b) [] g h = absurd h
alike_trans (s ∷ a) (u ∷ b) (w ∷ c) g h = (by_slot s u w g.0 h.0, alike_trans a b c g.1 h.1) where
  by_slot : (s u w : Option Token) → AlikeSlot s u → AlikeSlot u w → AlikeSlot s w
  by_slot None None None g h = tt
  by_slot None None (Some w) g h = absurd h
  by_slot None (Some u) w g h = absurd g
  by_slot (Some s) None w g h = absurd g
  by_slot (Some s) (Some u) None g h = absurd h
  by_slot (Some s) (Some u) (Some w) g h = alike_one s u w g h

pub alike_drop : (n : ℕ) (a b : Slots) → Alike a b → Alike (drop n a) (drop n b)
alike_drop zero a b h = h
alike_drop (suc n) [] [] h = tt
alike_drop (suc n) [] (u ∷ b) h = absurd h
alike_drop (suc n) (s ∷ a) [] h = absurd h
alike_drop (suc n) (s ∷ a) (u ∷ b) h = alike_drop n a b h.1

-- they owe the same
alike_paid : (k : Setting) (r reg : ℕ) (a b : Slots) (v : Bits) → Alike a b → paid_late k r reg b v ≡ paid_late k r reg a v
alike_paid k r reg [] [] v h = refl
alike_paid k r reg [] (u ∷ b) v h = absurd h
alike_paid k r reg (s ∷ a) [] v h = absurd h
alike_paid k r reg (s ∷ a) (u ∷ b) v h = by_slot s u h.0 (alike_paid k r reg a b v h.1) where
  by_slot : (s u : Option Token) → AlikeSlot s u → paid_late k r reg b v ≡ paid_late k r reg a v → paid_late k r reg (u ∷ b) v ≡ paid_late k r reg (s ∷ a) v
  by_slot None None e i = i
  by_slot None (Some u) e i = absurd e
  by_slot (Some t) None e i = absurd e
  by_slot (Some t) (Some u) e i =
      ap (λ w. with_slot w (owed_write k u.asks (r + count b) reg)) i
      ∙ ap (λ (x : Asks). with_slot (paid_late k r reg a v) (owed_write k x (r + count b) reg)) e.asks
      ∙ ap (λ n. with_slot (paid_late k r reg a v) (owed_write k t.asks (r + n) reg)) (alike_count a b h.1)

pub alike_future : (k : Setting) (r : ℕ) (future : List Bits) (a b : Slots) → Alike a b → IsFuture k r future a → IsFuture k r future b
alike_future k r future a b h file reg lt =
    alike_paid k r reg a b (get_or future reg zero_bit) h ∙ file reg lt ∙ ap (λ n. get_or (run k (r + n)).custom reg zero_bit) (sym (alike_count a b h))

drop_guessed : (d : Design) (future : List Bits) (memory : List ℕ) (n : ℕ) (l : Slots) → drop (suc n) (guess_first d future memory l) ≡ drop (suc n) l
drop_guessed d future memory n [] = refl
drop_guessed d future memory n (s ∷ l) = refl

pub alike_back : (a b : Slots) → Alike a b → Alike b a
alike_back [] [] h = tt
alike_back [] (u ∷ b) h = absurd h
alike_back (s ∷ a) [] h = absurd h
alike_back (None ∷ a) (None ∷ b) h = (tt, alike_back a b h.1)
alike_back (None ∷ a) (Some u ∷ b) h = absurd h.0
alike_back (Some t ∷ a) (None ∷ b) h = absurd h.0
alike_back (Some t ∷ a) (Some u ∷ b) h = (record { serial = sym h.0.serial; at = sym h.0.at; word = sym h.0.word; asks = sym h.0.asks; tail = sym h.0.tail }, alike_back a b h.1)

-- the guess of the first, in slots that are alike
guess_over : (k : Setting) (earlier : List Row) (a b : Slots) → Alike a b → guesses b ≡ guesses a → FirstGuess k earlier a → FirstGuess k earlier b
guess_over k earlier [] [] h g e = tt
guess_over k earlier [] (u ∷ b) h g e = absurd h
guess_over k earlier (s ∷ a) [] h g e = absurd h
guess_over k earlier (None ∷ a) (None ∷ b) h g e = tt
guess_over k earlier (None ∷ a) (Some u ∷ b) h g e = absurd h.0
guess_over k earlier (Some t ∷ a) (None ∷ b) h g e = absurd h.0
guess_over k earlier (Some t ∷ a) (Some u ∷ b) h g e =
    same_first u.guess t.guess (guesses b) (guesses a) g
    ∙ e
    ∙ sym (ap (λ at. guess_after (judged k) earlier (u.cell.serial, at, u.cell.word)) h.0.at ∙ ap (λ word. guess_after (judged k) earlier (u.cell.serial, t.cell.at, word)) h.0.word)

-- and where some are flushed
cleared_guess : (k : Setting) (earlier : List Row) (n : ℕ) (l : Slots) → FirstGuess k earlier l → FirstGuess k earlier (cleared n l)
cleared_guess k earlier zero l h = h
cleared_guess k earlier (suc n) l h = tt

drop_filled : (n : ℕ) (new : Option Token) (l : Slots) → drop (suc n) (fill_first new l) ≡ drop (suc n) l
drop_filled n new [] = refl
drop_filled n new (s ∷ l) = refl

-- ---- addresses are words

pub expected_word : (k : Setting) (ready : IsReady k) (r stage : ℕ) (slots : Slots) → Placed k r stage slots → expected k r stage slots < 2 ^ 32
expected_word k ready r stage [] h = ready.pcs r
expected_word k ready r stage (s ∷ older) h = by_slot s h.0 (expected_word k ready r (suc stage) older h.1) where
  by_test : (b : Bool) (m n : ℕ) → m < 2 ^ 32 → n < 2 ^ 32 → (if b then m else n) < 2 ^ 32
  by_test true m n g h = g
  by_test false m n g h = h

  by_slot : (s : Option Token) → IsPlacedSlot k (r + count older) (expected k r (suc stage) older) stage older s → expected k r (suc stage) older < 2 ^ 32 → expected_after k (r + count older) stage s (expected k r (suc stage) older) < 2 ^ 32
  by_slot None g h = h
  by_slot (Some t) g h = by_test (nat_lt (settling_stage k t) stage) (run k (suc (r + count older))).pc t.guess (ready.pcs (suc (r + count older))) g.guess

-- ---- the token that settles its successor

pub record Settler (k : Setting) (base : ℕ) (slots : Slots) (turn : Turn) : Type 0 where
  pub index : ℕ
  pub token : Token
  pub older : Slots
  pub rest : drop index slots ≡ Some token ∷ older
  pub settles_it : settles (shape_of k) (base + index) token older ≡ true
  pub stage : turn.stage ≡ base + index
  pub address : turn.address ≡ next_of token

one_further : (k : Setting) (base : ℕ) (s : Option Token) (older : Slots) (turn : Turn) → Settler k (suc base) older turn → Settler k base (s ∷ older) turn
one_further k base s older turn x =
    let e : suc base + x.index ≡ base + suc x.index = omega arith in
    record {
      index = suc x.index;
      token = x.token;
      older = x.older;
      rest = x.rest;
      settles_it = ap (λ n. settles (shape_of k) n x.token x.older) (sym e) ∙ x.settles_it;
      stage = x.stage ∙ e;
      address = x.address;
    }

pub settler : (k : Setting) (base : ℕ) (slots : Slots) (turn : Turn) → settled (shape_of k) base slots ≡ Some turn → Settler k base slots turn
settler k base [] turn h = cc
settler k base (None ∷ older) turn h = one_further k base None older turn (settler k (suc base) older turn h)
settler k base (Some t ∷ older) turn h = by_case (settles (shape_of k) base t older) refl h (settler k (suc base) older turn) where
  same_turn : (a b : Turn) → ◌≡◌ {A = Option Turn} (Some a) (Some b) → a ≡ b
  same_turn a b e = cc

  by_case : (b : Bool) → settles (shape_of k) base t older ≡ b → (if b then Some (record { stage = base; address = next_of t }) else settled (shape_of k) (suc base) older) ≡ Some turn → (settled (shape_of k) (suc base) older ≡ Some turn → Settler k (suc base) older turn) → Settler k base (Some t ∷ older) turn
  by_case true e q rest =
      let same = same_turn (record { stage = base; address = next_of t }) turn q in
      record {
        index = 0;
        token = t;
        older = older;
        rest = refl;
        settles_it = ap (λ n. settles (shape_of k) n t older) (add-zero base) ∙ e;
        stage = sym (ap (λ (x : Turn). x.stage) same) ∙ sym (add-zero base);
        address = sym (ap (λ (x : Turn). x.address) same);
      }
  by_case false e q rest = one_further k base (Some t) older turn (rest q)

-- it stands in a stage
inside : (n : ℕ) (slots older : Slots) (t : Token) → drop n slots ≡ Some t ∷ older → n < length slots
inside zero [] older t e = cc
inside zero (s ∷ l) older t e = omega arith
inside (suc n) [] older t e = cc
inside (suc n) (s ∷ l) older t e = let x = inside n l older t e in omega (arith, x)

-- where the fetch is turned, a token settles another address than stands next
pub record Turning (k : Setting) (fetch : ℕ) (slots : Slots) (turn : Turn) : Type 0 where
  pub by : Settler k 0 slots turn
  pub differs : (turn.address == nearest fetch (take turn.stage slots)) ≡ false

pub turning : (k : Setting) (fetch : ℕ) (slots : Slots) (turn : Turn) → turn_of (shape_of k) fetch slots ≡ Some turn → Turning k fetch slots turn
turning k fetch slots turn h = by_settled (settled (shape_of k) 0 slots) refl h where
  same_turn : (a b : Turn) → ◌≡◌ {A = Option Turn} (Some a) (Some b) → a ≡ b
  same_turn a b e = cc

  by_test : (a : Turn) (b : Bool) → (a.address == nearest fetch (take a.stage slots)) ≡ b → (if b then None else Some a) ≡ Some turn → (a ≡ turn) × ((a.address == nearest fetch (take a.stage slots)) ≡ false)
  by_test a true e q = cc
  by_test a false e q = (same_turn a turn q, e)

  by_settled : (o : Option Turn) → settled (shape_of k) 0 slots ≡ o → mismatch fetch slots o ≡ Some turn → Turning k fetch slots turn
  by_settled None e q = cc
  by_settled (Some a) e q =
      let x = by_test a (a.address == nearest fetch (take a.stage slots)) refl q in
      record {
        by = settler k 0 slots turn (e ∙ ap Some x.0);
        differs = subst (λ (z : Turn). (z.address == nearest fetch (take z.stage slots)) ≡ false) x.0 x.1;
      }

-- so many stages are flushed
pub struck_in : (k : Setting) (fetch : ℕ) (slots : Slots) (o : Option Turn) → turn_of (shape_of k) fetch slots ≡ o → struck o ≤ length slots
struck_in k fetch slots None h = omega arith
struck_in k fetch slots (Some turn) h =
    let x = (turning k fetch slots turn h).by in
    let s = x.stage in
    let lt = inside x.index slots x.older x.token x.rest in
    omega (arith, s, lt)

module _ (k : Setting) (ready : IsReady k) (earlier : List Row) (m : Machine) (inv : Inv k earlier m) where
  abbrev r : ℕ
  r = retirements earlier

  -- the slots after the fetch
  abbrev filled : Slots
  filled = fill_first (new_by k m) m.slots

  abbrev tried_slots : Slots
  tried_slots = trying (tree_of k) (shape_of k) m.future m.arch.mem 0 (read_by k m)

  placed_tail : (l : Slots) → Placed k r 0 l → Placed k r 1 (tail l)
  placed_tail [] h = tt
  placed_tail (s ∷ l) h = h.1

  fetch_word : m.fetch < 2 ^ 32
  fetch_word = subst (λ n. n < 2 ^ 32) (sym inv.fetch) (expected_word k ready r 1 (tail m.slots) (placed_tail m.slots inv.placed))

  -- a return goes on where the run's does, from each place
  back_is : (n word : ℕ) → return_to word m.arch.trap ≡ return_to word (run k (r + n)).trap
  back_is n word =
      ap (return_to word) (sym (repaid_trap m.owed m.arch) ∙ ap (λ (s : Arch). s.trap) inv.arch)
      ∙ sym (run_return k r n word inv.past)

  pub filled_placed : Placed k r 0 (filled_by k m)
  filled_placed =
      guess_placed k ready r m.future m.arch.mem filled
      (fill_placed k ready r m.next m.fetch m.future m.arch.trap m.slots (word_at k.image m.fetch) back_is inv.placed inv.fetch fetch_word refl inv.future_wide)

  -- the guess behind the first is another one
  filled_alike : Alike filled (filled_by k m)
  filled_alike = guess_alike k.design m.future m.arch.mem filled

  mem_is : m.arch.mem ≡ (run k r).mem
  mem_is = sym (repaid_memory m.owed m.arch) ∙ ap (λ (s : Arch). s.mem) inv.arch

  read_placed : Placed k r 0 (read_by k m)
  read_placed = reading_placed k ready m.arch.x (owed_by k m) (interrupted_by k m) (outstanding_in k m) r 0 (filled_by k m) inv.ranged filled_placed

  -- what nothing that is outstanding owes is the run's
  are_unowed : AreUnowed m.arch.x (run k r).x (outstanding_in k m)
  are_unowed a reg lt none is =
      operand_unowed k earlier ready.handler (outstanding (judged k) earlier) m.entries m.owed m.arch a reg inv.owing lt none is ∙ ap (λ (s : Arch). slice_index s.x reg) inv.arch

  read_read : Read k r 0 (read_by k m)
  read_read = reading_read k ready m.arch.x (owed_by k m) (interrupted_by k m) (outstanding_in k m) r 0 (filled_by k m) filled_placed are_unowed

  read_alike : Alike filled (read_by k m)
  read_alike = alike_trans filled (filled_by k m) (read_by k m) filled_alike (reading_alike (shape_of k) m.arch.x (owed_by k m) (interrupted_by k m) (outstanding_in k m) 0 (filled_by k m))

  -- past stage 0 the slots are those from before the row
  read_from : (n : ℕ) → Alike (drop (suc n) m.slots) (drop (suc n) (read_by k m))
  read_from n = subst (λ l. Alike l (drop (suc n) (read_by k m))) (drop_filled n (new_by k m) m.slots) (alike_drop (suc n) filled (read_by k m) read_alike)

  future_there : IsFuture k r (paid_file m.owed m.future) (drop (suc (shape_of k).ex) (read_by k m))
  future_there = alike_future k r (paid_file m.owed m.future) (drop (suc (shape_of k).ex) m.slots) (drop (suc (shape_of k).ex) (read_by k m)) (read_from (shape_of k).ex) inv.future

  read_apart : Apart k m.owed 0 (read_by k m)
  read_apart =
      alike_apart k m.owed 0 filled (read_by k m) read_alike
      (filled_apart k m.owed (new_by k m) m.slots ready.rd_pos inv.apart)

  tried_placed : Placed k r 0 tried_slots
  tried_placed =
      trying_placed k ready r 0 (read_by k m) m.arch.mem m.future (paid_file m.owed m.future) m.owed
      (unowed_file k earlier (outstanding (judged k) earlier) m.entries m.owed m.future inv.owing) inv.future_wide read_placed read_read
      (at_ex k r (paid_file m.owed m.future) 0 (shape_of k).ex (read_by k m) (omega arith) future_there)
      read_apart (boards_of k (interrupted_by k m) (outstanding_in k m) 0 (read_by k m) (reading_meets (shape_of k) m.arch.x (owed_by k m) (interrupted_by k m) (outstanding_in k m) 0 (filled_by k m)))

  pub held_placed : Placed k r 0 (held_by k m)
  held_placed = all_decided k r 0 tried_slots tried_placed

  pub held_decided : Decided k 0 (held_by k m)
  held_decided = decided_is k 0 tried_slots

  loaded_same : (P : Slots → Type 0) → P (loading (tree_of k) (shape_of k) (run k r).mem 0 (held_by k m)) → P (loaded_by k m)
  loaded_same P h = subst (λ memory. P (loading (tree_of k) (shape_of k) memory 0 (held_by k m))) (sym mem_is) h

  pub loaded_placed : Placed k r 0 (loaded_by k m)
  loaded_placed = loaded_same (λ l. Placed k r 0 l) (loading_placed k ready r 0 (held_by k m) held_placed held_decided)

  pub loaded_loaded : Loaded k r 0 (loaded_by k m)
  loaded_loaded = loaded_same (λ l. Loaded k r 0 l) (loading_loaded k ready r 0 (held_by k m) held_placed held_decided)

  pub loaded_decided : Decided k 0 (loaded_by k m)
  loaded_decided = loading_decided k ready (tree_of k) m.arch.mem 0 (held_by k m) held_decided

  pub loaded_read : Read k r 0 (loaded_by k m)
  loaded_read =
      loading_read k (tree_of k) m.arch.mem r 0 (held_by k m)
      (decided_read k r 0 tried_slots (trying_read k (tree_of k) m.arch.mem m.future r 0 (read_by k m) read_read))

  pub loaded_ripe : Ripe k 0 (loaded_by k m)
  loaded_ripe = loading_ripe k (tree_of k) m.arch.mem 0 (held_by k m) (decided_ripe k 0 tried_slots (trying_ripe k (tree_of k) m.future m.arch.mem 0 (read_by k m)))

  -- the slots are alike from the fetch to the loads
  pub loaded_alike : Alike filled (loaded_by k m)
  loaded_alike =
      alike_trans filled (read_by k m) (loaded_by k m) read_alike
      (alike_trans (read_by k m) tried_slots (loaded_by k m) (trying_alike (tree_of k) (shape_of k) m.future m.arch.mem 0 (read_by k m))
      (alike_trans tried_slots (held_by k m) (loaded_by k m) (decided_alike (shape_of k) 0 tried_slots) (loading_alike (tree_of k) (shape_of k) m.arch.mem 0 (held_by k m))))

  -- with the guesses from there
  loaded_guesses : guesses (loaded_by k m) ≡ guesses (filled_by k m)
  loaded_guesses =
      loading_guesses (tree_of k) (shape_of k) m.arch.mem 0 (held_by k m)
      ∙ decided_guesses (shape_of k) 0 tried_slots
      ∙ trying_guesses (tree_of k) (shape_of k) m.future m.arch.mem 0 (read_by k m)
      ∙ reading_guesses (shape_of k) m.arch.x (owed_by k m) (interrupted_by k m) (outstanding_in k m) 0 (filled_by k m)

  -- past stage 0 they are those from before the row
  pub guesses_from : (n : ℕ) → guesses (drop (suc n) (loaded_by k m)) ≡ guesses (drop (suc n) m.slots)
  guesses_from n =
      guesses_drop (suc n) (loaded_by k m) (filled_by k m) loaded_guesses
      ∙ ap guesses (drop_guessed k.design m.future m.arch.mem n filled ∙ drop_filled n (new_by k m) m.slots)

  -- the first has the guess that the rows tell
  pub loaded_first : FirstGuess k earlier (loaded_by k m)
  loaded_first = guess_over k earlier (filled_by k m) (loaded_by k m) (alike_trans (filled_by k m) filled (loaded_by k m) (alike_back filled (filled_by k m) filled_alike) loaded_alike) loaded_guesses (filled_first filled filled_placed) where
    filled_first : (l : Slots) → Placed k r 0 (guess_first k.design m.future m.arch.mem l) → FirstGuess k earlier (guess_first k.design m.future m.arch.mem l)
    filled_first [] h = tt
    filled_first (None ∷ older) h = tt
    filled_first (Some t ∷ older) h =
        ap (λ o. guess_of (shape_of k).predict o t.cell.at)
        (ready.jumps m.future t.cell.at t.cell.word m.arch.mem
        ∙ ap (λ f. jump_of (tree_of k) f t.cell.at t.cell.word) (sym inv.file))

  pub loaded_from : (n : ℕ) → Alike (drop (suc n) m.slots) (drop (suc n) (loaded_by k m))
  loaded_from n =
      subst (λ l. Alike l (drop (suc n) (loaded_by k m))) (drop_filled n (new_by k m) m.slots) (alike_drop (suc n) filled (loaded_by k m) loaded_alike)

  pub loaded_length : length (loaded_by k m) ≡ (shape_of k).stages
  loaded_length = alike_length filled (loaded_by k m) loaded_alike ∙ fill_length (new_by k m) m.slots ∙ inv.stages

  pub struck_inside : struck (turn_by k m) ≤ length (loaded_by k m)
  struck_inside = by_entry (entered_by k m) refl where
    by_entry : (b : Bool) → entered_by k m ≡ b → struck (turn_by k m) ≤ length (loaded_by k m)
    by_entry false e = subst (λ o. struck o ≤ length (loaded_by k m)) (sym (plain_turn k m e)) (struck_in k m.fetch (loaded_by k m) (turn_of (shape_of k) m.fetch (loaded_by k m)) refl)
    by_entry true e = let s = ap (λ o. struck o) (entry_turn k m e) in let a = ready.ex_last in omega (arith, s, a, loaded_length)

  pub seen_placed : Placed k r 0 (seen_by k m)
  seen_placed = cleared_placed k r 0 (struck (turn_by k m)) (loaded_by k m) struck_inside loaded_placed

  pub seen_decided : Decided k 0 (seen_by k m)
  seen_decided = cleared_decided k 0 (struck (turn_by k m)) (loaded_by k m) struck_inside loaded_decided

  pub seen_read : Read k r 0 (seen_by k m)
  seen_read = cleared_read k r 0 (struck (turn_by k m)) (loaded_by k m) struck_inside loaded_read

  pub seen_loaded : Loaded k r 0 (seen_by k m)
  seen_loaded = cleared_loaded k r 0 (struck (turn_by k m)) (loaded_by k m) struck_inside loaded_loaded

  pub seen_ripe : Ripe k 0 (seen_by k m)
  seen_ripe = cleared_ripe k 0 (struck (turn_by k m)) (loaded_by k m) struck_inside loaded_ripe

  pub seen_length : length (seen_by k m) ≡ (shape_of k).stages
  seen_length = cleared_length (struck (turn_by k m)) (loaded_by k m) struck_inside ∙ loaded_length

  pub seen_first : FirstGuess k earlier (seen_by k m)
  seen_first = cleared_guess k earlier (struck (turn_by k m)) (loaded_by k m) loaded_first

  -- what is known of the slots, where none stops the run
  pub seen_all : NoStops k 0 (seen_by k m) → AreSeen k r 0 (seen_by k m)
  seen_all n =
      record {
        placed = seen_placed;
        read = cleared_read k r 0 (struck (turn_by k m)) (loaded_by k m) struck_inside loaded_read;
        decided = seen_decided;
        stops = n;
        loaded = cleared_loaded k r 0 (struck (turn_by k m)) (loaded_by k m) struck_inside loaded_loaded;
        ripe = cleared_ripe k 0 (struck (turn_by k m)) (loaded_by k m) struck_inside loaded_ripe;
      }

  -- past the flushed stages, and past stage 0, the slots are alike to those from before the row
  pub seen_from : (n : ℕ) → struck (turn_by k m) ≤ suc n → Alike (drop (suc n) m.slots) (drop (suc n) (seen_by k m))
  seen_from n le =
      subst (λ l. Alike (drop (suc n) m.slots) l) (sym (cleared_drop (struck (turn_by k m)) (suc n) (loaded_by k m) le struck_inside))
      (loaded_from n)
