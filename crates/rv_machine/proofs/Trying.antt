-- The token of EX is tried when it waits for no register and no pc: it comes to what the run comes to at its place.
use Rattle.std.proofs.Common.{◌≡◌, ℕ, zero, suc, ◌+◌, ◌<◌, ◌≤◌, List, [], ◌∷◌, drop, get_or, Option, Some, None, Bool, true, false, refl, sym, ap, ◌∙◌, subst, arith, add-zero}
use Rattle.std.specs.Prelude.{if◌then◌else◌, ◌==◌, ◌&&◌, is_none, slice_index}
use Rattle.std.proofs.lemmas.Bool.Decides.{nat_tests}
use Rattle.ix_bits.specs.declared.number.Bits.{Bits}
use Rattle.ix_mean.specs.declared.evaluate.State.{State}
use Rattle.rv_core.specs.declared.Shape.{Shape}
use Rattle.rv_isa.specs.Fields.{rs1_of, rs2_of}
use Rattle.rv_seq.specs.Decoding.{decoded_in}
use Rattle.rv_seq.specs.WordEffects.{AreWide}
use Rattle.rv_trace.specs.declared.row.Hold.{Hold}
use Rattle.rv_seq.specs.Steps.{word_at}
use Rattle.rv_seq.specs.States.{zero_bit}
use Rattle.rv_seq.specs.declared.answer.StepAnswer.{StepAnswer}
use Rattle.rv_seq.specs.declared.answer.StepAnswer.TheVariants.{Done, Stopped}
use Rattle.rv_seq.specs.declared.commit.Slot.TheVariants.{Absent}
use Rattle.rv_seq.specs.Commits.{with_slot}
use Rattle.rv_asks.specs.declared.asks.Asks.{Asks}
use Rattle.rv_tried.specs.declared.trial.Trial.{Trial}
use Rattle.rv_tried.specs.Tried.{tried}
use Rattle.rv_holds.specs.declared.token.Token.{Token}
use Rattle.rv_holds.specs.Tokens.{Slots, or_else}
use Rattle.rv_holds.specs.Holds.{oldest, is_late, writes_late, custom, waits_for_custom, first_from, custom_hold, late, late_hold, waiting_hold, register_count, spawner, least_from, register_at}
use Rattle.rv_seq.specs.declared.decoded.Decoded.{Decoded}
use Rattle.rv_seq.specs.Interrupts.{return_to}
use Rattle.rv_engine.specs.Settings.{Setting, shape_of, tree_of}
use Rattle.rv_engine.specs.Rows.{tried_with, seeing, is_ripe, trying}
use Rattle.rv_lawful.specs.Future.{is_pending}
use Rattle.rv_lawful.specs.Sight.{asked, IsSeen, IsEarly, AreWords}
use Rattle.rv_machine.specs.Owing.{judged, IsApart, Apart}
use Rattle.rv_machine.specs.Placed.{run, count, expected, pending_in_answer, paid_late, IsFuture, IsTried, IsExact, IsPlaced, IsPlacedSlot, Placed, IsReady}
use Rattle.rv_machine.proofs.Deciding.{or_else_none, or_else_none_b, test_eq, waits_operand, waits_board, waits_custom, waits_late, address_of_run}
use Rattle.rv_machine.proofs.Asking.{used_few}
use Rattle.rv_machine.proofs.Runs.{answer, step_word, access_word, trial_word}
use Rattle.rv_lawful.specs.Forwarding.{x_written}
use Rattle.rv_machine.proofs.Alike.{trying_alike, trying_guesses}
use Rattle.rv_machine.proofs.Reading.{HasOperands, ReadSlot, Read, placed_alike}
use Rattle.rv_machine.proofs.Operands.{on_path}
use Rattle.rv_machine.proofs.Unboarded.{board_parts}
use Rattle.rv_engine.specs.declared.owing.Owed.{Owed}
use Rattle.rv_engine.specs.Owing.{holder, board_of}
use Rattle.rv_lawful.specs.Outstanding.{touches, has_target}
use Rattle.rv_machine.proofs.Apart.{reads_apart, at_stage}
use Rattle.rv_machine.proofs.Numbers.{custom_at}

-- ---- what a word is tried to with what agrees with the run

pub early_trial : (k : Setting) (ready : IsReady k) (p : ℕ) (t : Token) (i : State) (memory : List ℕ) → t.decoded ≡ decoded_in (tree_of k) t.cell.word → t.back ≡ return_to t.cell.word (run k p).trap → t.asks ≡ asked k.design t.cell.word → word_at k.image (run k p).pc ≡ Some t.cell.word
    → AreWide (tree_of k) i.custom → AreWords i → IsSeen (asked k.design t.cell.word) t.cell.word (run k p) i → IsTried k p (tried_with (tree_of k) memory i t) (tried (tree_of k) i memory t.back t.decoded)
early_trial k ready p t i memory same back asks w wide words seen =
    let x = tree_of k in
    let word = t.cell.word in
    let c = ready.early word (run k p) i memory (ready.wide p) wide (ready.words p) words seen in
    record {
      tried = refl;
      early =
          subst (λ a. IsEarly a (tried x i memory t.back t.decoded).answer (answer k p)) (sym asks)
          (subst (λ (o : Option Decoded). IsEarly (asked k.design word) (tried x i memory t.back o).answer (answer k p)) (sym same)
          (subst (λ (b : Option ℕ). IsEarly (asked k.design word) (tried x i memory b (decoded_in x word)).answer (answer k p)) (sym back)
          (subst (λ a. IsEarly (asked k.design word) (tried x i memory (return_to word (run k p).trap) (decoded_in x word)).answer a) (sym (step_word k p word w)) c.answer)));
      accesses = ap (λ (o : Option Decoded). (tried x i memory t.back o).accesses) same ∙ ap (λ (b : Option ℕ). (tried x i memory b (decoded_in x word)).accesses) back ∙ c.accesses ∙ sym (access_word k p word w);
      load = ap (λ (o : Option Decoded). (tried x i memory t.back o).load) same ∙ ap (λ (b : Option ℕ). (tried x i memory b (decoded_in x word)).load) back ∙ c.load ∙ sym (ap (λ (o : Trial). o.load) (trial_word k p word w));
      blocks = ap (λ (o : Option Decoded). (tried x i memory t.back o).blocks) same ∙ ap (λ (b : Option ℕ). (tried x i memory b (decoded_in x word)).blocks) back ∙ c.blocks ∙ sym (ap (λ (o : Trial). o.blocks) (trial_word k p word w));
      x = λ ne lt.
          ap (λ (o : Option Decoded). x_written (tried x i memory t.back o).answer) same
          ∙ ap (λ (b : Option ℕ). x_written (tried x i memory b (decoded_in x word)).answer) back
          ∙ c.x (λ z. ne (ap (λ (a : Asks). a.destination) asks ∙ z)) (subst (λ (a : Asks). a.x_time < (shape_of k).mem) asks lt)
          ∙ ap x_written (sym (step_word k p word w));
    }

pub exact_trial : (k : Setting) (ready : IsReady k) (p : ℕ) (t : Token) (i : State) (memory : List ℕ) → t.decoded ≡ decoded_in (tree_of k) t.cell.word → t.back ≡ return_to t.cell.word (run k p).trap → t.asks ≡ asked k.design t.cell.word → word_at k.image (run k p).pc ≡ Some t.cell.word
    → AreWide (tree_of k) i.custom → AreWords i → IsSeen (asked k.design t.cell.word) t.cell.word (run k p) i → (t.asks.loads ≡ true → memory ≡ (run k p).mem) → IsExact k p (tried (tree_of k) i memory t.back t.decoded)
exact_trial k ready p t i memory same back asks w wide words seen read =
    let x = tree_of k in
    let word = t.cell.word in
    let c = ready.exact word (run k p) i memory (ready.wide p) wide (ready.words p) words seen (λ l. read (ap (λ (a : Asks). a.loads) asks ∙ l)) in
    record {
      answer = ap (λ (o : Option Decoded). (tried x i memory t.back o).answer) same ∙ ap (λ (b : Option ℕ). (tried x i memory b (decoded_in x word)).answer) back ∙ c.answer ∙ sym (step_word k p word w);
      own = ap (λ (o : Option Decoded). (tried x i memory t.back o).own) same ∙ ap (λ (b : Option ℕ). (tried x i memory b (decoded_in x word)).own) back ∙ c.own ∙ sym (ap (λ (o : Trial). o.own) (trial_word k p word w));
    }

-- ---- the holds until which a token can't be tried

first_none : (f : ℕ → Option Hold) (r n i : ℕ) → first_from f r n ≡ None → i < n → f (r + i) ≡ None
first_none f r zero i h lt = absurd (omega (arith, lt))
first_none f r (suc n) zero h lt = ap f (add-zero r) ∙ or_else_none (f r) (first_from f (suc r) n) h
first_none f r (suc n) (suc i) h lt =
    let e : r + suc i ≡ suc r + i = omega arith in
    ap f e ∙ first_none f (suc r) n i (or_else_none_b (f r) (first_from f (suc r) n) h) (omega (arith, lt))

custom_none : (r : ℕ) (o : Option ℕ) → custom r o ≡ None → o ≡ None
custom_none r None h = refl
custom_none r (Some j) h = cc

late_none : (o : Option ℕ) → late o ≡ None → o ≡ None
late_none None h = refl
late_none (Some j) h = cc

-- a custom register that is not waited for
pub custom_clear : (older : Slots) (a : Asks) (r : ℕ) → r < 16 → custom_hold older a ≡ None → get_or a.customs r false ≡ true → oldest (writes_late r) older ≡ None
custom_clear older a r lt h u = by_case (get_or a.customs r false) u (sym (ap (waits_for_custom older a) (no_more r)) ∙ first_none (waits_for_custom older a) 0 16 r h lt) where
  no_more : (n : ℕ) → 0 + n ≡ n
  no_more n = omega arith

  by_case : (b : Bool) → b ≡ true → (if b then custom r (oldest (writes_late r) older) else None) ≡ None → oldest (writes_late r) older ≡ None
  by_case true e q = custom_none r (oldest (writes_late r) older) q
  by_case false e q = cc

pub late_clear : (older : Slots) → late_hold older ≡ None → oldest is_late older ≡ None
late_clear older h = late_none (oldest is_late older) h

last_none : (o : Option ℕ) (b : Bool) (n : ℕ) → or_else o (if b then Some n else None) ≡ None → (o ≡ None) × (b ≡ false)
last_none None true n h = cc
last_none None false n h = (refl, refl)
last_none (Some m) b n h = cc

-- who writes a register neither late nor by `spawn` owes it nothing
pub not_pending : (a : Asks) (own : List Bool) (reg : ℕ) (y : StepAnswer) → is_pending a reg ≡ false → pending_in_answer a own reg y ≡ Absent
not_pending a own reg (Done c) h = ap (λ (b : Bool). if b && get_or own reg false then get_or c.custom reg Absent else Absent) h
not_pending a own reg (Stopped stop) h = refl

-- it writes the register behind EX
abbrev pub pends : ℕ → Token → Bool
pends reg t = is_pending t.asks reg

-- it writes it by `spawn`
abbrev pub spawns_custom : ℕ → Token → Bool
spawns_custom reg t = get_or t.asks.spawned_customs reg false

-- where none writes it late, and none by `spawn`, none does behind EX
pub none_pends : (reg : ℕ) (older : Slots) → oldest (writes_late reg) older ≡ None → oldest (spawns_custom reg) older ≡ None → oldest (pends reg) older ≡ None
none_pends reg [] a b = refl
none_pends reg (None ∷ older) a b = none_pends reg older a b
none_pends reg (Some t ∷ older) a b =
    let x = last_none (oldest (writes_late reg) older) (writes_late reg t) t.cell.serial a in
    let y = last_none (oldest (spawns_custom reg) older) (spawns_custom reg t) t.cell.serial b in
    rw (none_pends reg older x.0 y.0, x.1, y.1) refl

-- where none does, nothing is owed to it
pub none_owes : (k : Setting) (r reg : ℕ) (gone : Slots) (v : Bits) → oldest (pends reg) gone ≡ None → paid_late k r reg gone v ≡ v
none_owes k r reg [] v h = refl
none_owes k r reg (None ∷ older) v h = none_owes k r reg older v h
none_owes k r reg (Some t ∷ older) v h =
    let e = last_none (oldest (pends reg) older) (pends reg t) t.cell.serial h in
    ap (λ s. with_slot (paid_late k r reg older v) s) (not_pending t.asks ((judged k).course.own (r + count older)) reg ((judged k).course.answer (r + count older)) e.1)
    ∙ none_owes k r reg older v e.0

past_rd : (stage rd ex : ℕ) → (stage == rd) ≡ false → rd ≤ ex → stage ≡ ex → rd < stage
past_rd stage rd ex h le e = grind (arith, nat_tests)

-- where nothing owes a register, both files have it
abbrev pub UnowedFile : List Owed → List Bits → List Bits → Type 0
UnowedFile owed paid future = (reg : ℕ) → reg < 16 → holder (32 + reg) owed ≡ None → get_or paid reg zero_bit ≡ get_or future reg zero_bit

-- at RD a token meets what is owed
abbrev pub BoardAt : Setting → List Owed → ℕ → Token → Type 0
BoardAt k owed stage t = t.beside.board ≡ (if stage == (shape_of k).rd then board_of owed t.asks else None)

abbrev pub BoardSlot : Setting → List Owed → ℕ → Option Token → Type 0
BoardSlot k owed stage None = Unit {0}
BoardSlot k owed stage (Some t) = BoardAt k owed stage t

abbrev pub Boards : Setting → List Owed → ℕ → Slots → Type 0
Boards k owed stage [] = Unit {0}
Boards k owed stage (s ∷ older) = BoardSlot k owed stage s × Boards k owed (suc stage) older

-- ---- the token of EX, tried

module _ (k : Setting) (ready : IsReady k) (r stage : ℕ) (older : Slots) (t : Token) (memory : List ℕ) (future : List Bits)
    (here : IsPlaced k (r + count older) (expected k r (suc stage) older) stage older t) (behind : Placed k r (suc stage) older) (read : ReadSlot k r stage (Some t) older) (at_ex : stage ≡ (shape_of k).ex)
    (free : waiting_hold (shape_of k) stage t older ≡ None) (paid : List Bits) (file : IsFuture k r paid older) (wide : AreWide (tree_of k) future) (owed : List Owed) (same : UnowedFile owed paid future) (apart : (shape_of k).rd < stage → IsApart owed older t) (board : BoardAt k owed stage t) where
  no_late : oldest is_late older ≡ None
  no_late = late_clear older (waits_late (shape_of k) stage t older free at_ex)

  no_custom : (reg : ℕ) → get_or t.asks.customs reg false ≡ true → oldest (writes_late reg) older ≡ None
  no_custom reg u = custom_clear older t.asks reg (used_few k.design t.cell.word reg (sym (ap (λ (a : Asks). get_or a.customs reg false) here.asks) ∙ u)) (waits_custom (shape_of k) stage t older free at_ex) u

  address : t.cell.at ≡ (run k (r + count older)).pc
  address = address_of_run k r stage t older (omega (arith, at_ex)) no_late here

  word_there : word_at k.image (run k (r + count older)).pc ≡ Some t.cell.word
  word_there = ap (λ a. word_at k.image a) (sym address) ∙ here.word

  -- nothing outstanding owes it a register, and no older token spawns one
  unboarded : stage ≡ (shape_of k).rd → (t.beside.board ≡ None) × (least_from (spawner older t.asks) 0 register_count ≡ None)
  unboarded e = board_parts t older (waits_board (shape_of k) stage t older free e)

  -- so where this is RD it has read the run's operands
  has_read : stage ≡ (shape_of k).rd → HasOperands (run k (r + count older)).x t.asks t.inputs
  has_read e =
      let b = unboarded e in
      read e b.0 (on_path k r (suc stage) older (omega (arith, at_ex)) behind) (waits_operand (shape_of k) stage t older free e) b.1

  first_is : rs1_of t.cell.word ≡ t.asks.first → t.inputs.rs1 ≡ slice_index (run k (r + count older)).x (rs1_of t.cell.word)
  first_is e = by_case (stage == (shape_of k).rd) refl where
    by_case : (b : Bool) → (stage == (shape_of k).rd) ≡ b → t.inputs.rs1 ≡ slice_index (run k (r + count older)).x (rs1_of t.cell.word)
    by_case false q = here.first (past_rd stage (shape_of k).rd (shape_of k).ex q ready.rd_ex at_ex) e
    by_case true q =
        (has_read (test_eq stage (shape_of k).rd q)).0 (ap rs1_of here.input_word ∙ e) ∙ ap (λ w. slice_index (run k (r + count older)).x (rs1_of w)) here.input_word

  second_is : rs2_of t.cell.word ≡ t.asks.second → t.inputs.rs2 ≡ slice_index (run k (r + count older)).x (rs2_of t.cell.word)
  second_is e = by_case (stage == (shape_of k).rd) refl where
    by_case : (b : Bool) → (stage == (shape_of k).rd) ≡ b → t.inputs.rs2 ≡ slice_index (run k (r + count older)).x (rs2_of t.cell.word)
    by_case false q = here.second (past_rd stage (shape_of k).rd (shape_of k).ex q ready.rd_ex at_ex) e
    by_case true q =
        (has_read (test_eq stage (shape_of k).rd q)).1 (ap rs2_of here.input_word ∙ e) ∙ ap (λ w. slice_index (run k (r + count older)).x (rs2_of w)) here.input_word

  -- it touches nothing that is owed
  is_apart : IsApart owed older t
  is_apart = by_case (stage == (shape_of k).rd) refl where
    by_case : (b : Bool) → (stage == (shape_of k).rd) ≡ b → IsApart owed older t
    by_case false q = apart (past_rd stage (shape_of k).rd (shape_of k).ex q ready.rd_ex at_ex)
    by_case true q = let e = test_eq stage (shape_of k).rd q in reads_apart owed older t (board ∙ at_stage stage (shape_of k).rd (board_of owed t.asks) None e) (waits_board (shape_of k) stage t older free e)

  customs_are : (reg : ℕ) → get_or t.asks.customs reg false ≡ true → get_or future reg zero_bit ≡ get_or (run k (r + count older)).custom reg zero_bit
  customs_are reg u =
      let lt = used_few k.design t.cell.word reg (sym (ap (λ (a : Asks). get_or a.customs reg false) here.asks) ∙ u) in
      let away = is_apart in
      let at = custom_at reg in
      let touched : touches t.asks (register_at (32 + reg)) ≡ true = ap (λ g. touches t.asks g) (sym at) ∙ u in
      let unspawned : oldest (spawns_custom reg) older ≡ None = ap (λ g. oldest (λ (v : Token). has_target v.asks g) older) at ∙ away.tokens (32 + reg) (omega (arith, lt)) touched in
      sym (same reg lt (away.entries (32 + reg) (omega (arith, lt)) touched))
      ∙ sym (none_owes k r reg older (get_or paid reg zero_bit) (none_pends reg older (no_custom reg u) unspawned))
      ∙ file reg lt

  words_are : AreWords (seeing future t.inputs)
  words_are = let w = here.words in record { word = w.word; rs1 = w.rs1; rs2 = w.rs2; pc = w.pc }

  agrees : IsSeen (asked k.design t.cell.word) t.cell.word (run k (r + count older)) (seeing future t.inputs)
  agrees =
      subst (λ a. IsSeen a t.cell.word (run k (r + count older)) (seeing future t.inputs)) here.asks
      (record { word = here.input_word; pc = here.input_pc ∙ address; first = first_is; second = second_is; customs = customs_are })

  same_some : (a b : Trial) → ◌≡◌ {A = Option Trial} (Some a) (Some b) → a ≡ b
  same_some a b e = cc

  early : IsTried k (r + count older) (tried_with (tree_of k) memory (seeing future t.inputs) t) (tried (tree_of k) (seeing future t.inputs) memory t.back t.decoded)
  early = early_trial k ready (r + count older) t (seeing future t.inputs) memory here.decoded here.back here.asks word_there wide words_are agrees

  pub try_one : IsPlaced k (r + count older) (expected k r (suc stage) older) stage older (tried_with (tree_of k) memory (seeing future t.inputs) t)
  try_one =
      let after_ex = ready.ex_mem in
      let result = tried (tree_of k) (seeing future t.inputs) memory t.back t.decoded in
      record {
        at = here.at;
        word = here.word;
        decoded = here.decoded;
        asks = here.asks;
        input_word = here.input_word;
        input_pc = here.input_pc;
        words = words_are;
        wide = wide;
        guess = here.guess;
        back = here.back;
        first = here.first;
        second = here.second;
        untried = λ lt. absurd (omega (arith, lt, at_ex));
        tried = λ trial e. subst (λ u. IsTried k (r + count older) (tried_with (tree_of k) memory (seeing future t.inputs) t) u) (same_some result trial e) early;
        settled = λ trial e. no_late;
        clear = λ trial e. no_custom;
        seen = λ trial e. customs_are;
        gone = λ lt. absurd (omega (arith, lt, at_ex));
        exact = λ trial e past.
            subst (λ u. IsExact k (r + count older) u) (same_some result trial e)
            (exact_trial k ready (r + count older) t (seeing future t.inputs) memory here.decoded here.back here.asks word_there wide words_are agrees
            (λ l. let lt = past l in absurd (omega (arith, lt, at_ex, after_ex))));
      }

-- ---- the pass

-- where a token stands at EX, the future file is that behind it
abbrev pub AtEx : Setting → ℕ → List Bits → ℕ → Slots → Type 0
AtEx k r future stage [] = Unit {0}
AtEx k r future stage (s ∷ older) = (stage ≡ (shape_of k).ex → IsFuture k r future older) × AtEx k r future (suc stage) older

at_past : (k : Setting) (r : ℕ) (future : List Bits) (stage : ℕ) (slots : Slots) → (shape_of k).ex < stage → AtEx k r future stage slots
at_past k r future stage [] lt = tt
at_past k r future stage (s ∷ older) lt = (λ e. absurd (omega (arith, lt, e)), at_past k r future (suc stage) older (omega (arith, lt)))

pub at_ex : (k : Setting) (r : ℕ) (future : List Bits) (stage n : ℕ) (slots : Slots) → stage + n ≡ (shape_of k).ex → IsFuture k r future (drop (suc n) slots) → AtEx k r future stage slots
at_ex k r future stage n [] e f = tt
at_ex k r future stage zero (s ∷ older) e f = (λ q. f, at_past k r future (suc stage) older (omega (arith, e)))
at_ex k r future stage (suc n) (s ∷ older) e f = (λ q. absurd (omega (arith, e, q)), at_ex k r future (suc stage) n older (omega (arith, e)) f)

ripe_parts : (k : Shape) (stage : ℕ) (t : Token) (older : Slots) → is_ripe k stage t older ≡ true → (stage ≡ k.ex) × (waiting_hold k stage t older ≡ None)
ripe_parts k stage t older h = by_case (stage == k.ex) (is_none t.trial) (waiting_hold k stage t older) refl refl h where
  by_case : (a b : Bool) (o : Option Hold) → (stage == k.ex) ≡ a → waiting_hold k stage t older ≡ o → (a && (b && is_none o)) ≡ true → (stage ≡ k.ex) × (waiting_hold k stage t older ≡ None)
  by_case true true None e w q = (test_eq stage k.ex e, w)
  by_case true true (Some x) e w q = cc
  by_case true false o e w q = cc
  by_case false b o e w q = cc

pub trying_placed : (k : Setting) (ready : IsReady k) (r stage : ℕ) (slots : Slots) (memory : List ℕ) (future paid : List Bits) (owed : List Owed) → UnowedFile owed paid future → AreWide (tree_of k) future → Placed k r stage slots → Read k r stage slots → AtEx k r paid stage slots
    → Apart k owed stage slots → Boards k owed stage slots
    → Placed k r stage (trying (tree_of k) (shape_of k) future memory stage slots)
trying_placed k ready r stage [] memory future paid owed same wide h read f away boards = tt
trying_placed k ready r stage (None ∷ older) memory future paid owed same wide h read f away boards = (tt, trying_placed k ready r (suc stage) older memory future paid owed same wide h.1 read.1 f.1 away boards.1)
trying_placed k ready r stage (Some t ∷ older) memory future paid owed same wide h read f away boards = (by_case (is_ripe (shape_of k) stage t older) refl, trying_placed k ready r (suc stage) older memory future paid owed same wide h.1 read.1 f.1 away.1 boards.1) where
  later : Slots
  later = trying (tree_of k) (shape_of k) future memory (suc stage) older

  over : (u : Token) → IsPlaced k (r + count older) (expected k r (suc stage) older) stage older u → IsPlaced k (r + count later) (expected k r (suc stage) later) stage later u
  over u i = placed_alike k r stage older later u (trying_alike (tree_of k) (shape_of k) future memory (suc stage) older) (trying_guesses (tree_of k) (shape_of k) future memory (suc stage) older) i

  by_case : (b : Bool) → is_ripe (shape_of k) stage t older ≡ b → IsPlacedSlot k (r + count later) (expected k r (suc stage) later) stage later (if b then Some (tried_with (tree_of k) memory (seeing future t.inputs) t) else Some t)
  by_case true e =
      let x = ripe_parts (shape_of k) stage t older e in
      over (tried_with (tree_of k) memory (seeing future t.inputs) t) (try_one k ready r stage older t memory future h.0 h.1 read.0 x.0 x.1 paid (f.0 x.0) wide owed same away.0 boards.0)
  by_case false e = over t h.0
