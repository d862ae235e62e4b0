-- As it leaves MEM a load reads the memory of the run: what it does to the holds, and where its token stands.
use Rattle.std.proofs.Common.{◌≡◌, ℕ, zero, suc, ◌+◌, ◌<◌, List, [], ◌∷◌, get_or, Option, Some, None, Bool, true, false, refl, sym, ap, ◌∙◌, subst, arith}
use Rattle.std.specs.Prelude.{if◌then◌else◌, ◌==◌, ◌&&◌, ◌||◌, is_some, is_none, min, max}
use Rattle.std.proofs.lemmas.Bool.Decides.{nat_tests}
use Rattle.ix_extension.specs.Extensions.{ExtensionTree}
use Rattle.ix_mean.specs.declared.evaluate.State.{State}
use Rattle.rv_core.specs.declared.Shape.{Shape}
use Rattle.rv_seq.specs.declared.answer.StepAnswer.{StepAnswer}
use Rattle.rv_seq.specs.declared.answer.StepAnswer.TheVariants.{Done, Stopped}
use Rattle.rv_seq.specs.Steps.{word_at}
use Rattle.rv_trace.specs.declared.row.Hold.{Hold}
use Rattle.rv_trace.specs.declared.row.Hold.TheVariants.{Behind}
use Rattle.rv_asks.specs.declared.asks.Asks.{Asks}
use Rattle.rv_tried.specs.declared.trial.Trial.{Trial}
use Rattle.rv_tried.specs.Tried.{tried}
use Rattle.rv_holds.specs.declared.token.Token.{Token}
use Rattle.rv_holds.specs.Tokens.{Slots, or_else, stop_in, stop_of}
use Rattle.rv_holds.specs.Holds.{oldest, is_late, does_store, operand, waits_for, operand_hold, custom, waits_for_custom, first_from, custom_hold, late, late_hold, waiting_hold, staying, drain, drain_hold, store_ahead, store_hold, memory_hold, own_hold, stops_now, is_blocked, shown, least_from, board_hold, reading_hold, ending_hold, left_behind, entering, numbered, board, lower_of, spawner, register_count, register_at, trap_hold, leaving_hold}
use Rattle.rv_engine.specs.Settings.{Setting, shape_of, tree_of}
use Rattle.rv_engine.specs.Rows.{tried_with, is_loading, loading}
use Rattle.rv_lawful.specs.Sight.{asked, IsSeen, IsEarly}
use Rattle.rv_machine.specs.Placed.{run, count, expected, IsTried, IsExact, IsPlaced, IsPlacedSlot, Placed, IsReady}
use Rattle.rv_machine.specs.Told.{Decided}
use Rattle.rv_machine.proofs.Deciding.{test_eq, same_test, own_none, no_store, address_of_run}
use Rattle.rv_machine.proofs.Runs.{answer}
use Rattle.rv_machine.proofs.Alike.{Alike, alike_count, alike_oldest, loading_alike, loading_guesses}
use Rattle.rv_machine.proofs.Over.{waiting_over}
use Rattle.rv_machine.proofs.Reading.{placed_alike}
use Rattle.rv_machine.proofs.Operands.{on_path, memory_ready}
use Rattle.rv_machine.proofs.Trying.{early_trial, exact_trial}
use Rattle.rv_lawful.specs.Outstanding.{has_target, touches}

-- a token's own hold, by what it asks of the older ones
abbrev own_by : Shape → ℕ → Token → Option Hold → Option ℕ → Option ℕ → Option Hold
own_by k stage t waiting stays stores =
    or_else waiting
    (or_else (if stage == k.ex then or_else (trap_hold t) (if is_some (stop_of t) then drain stays else None) else None)
    (or_else (if stage == k.mem then or_else (memory_hold t) (if t.asks.loads then store_ahead stores else None) else None)
    (if suc stage == k.stages then ending_hold t else None)))

own_over : (k : Shape) (stage : ℕ) (t : Token) (a b : Slots) → Alike a b → left_behind t b ≡ left_behind t a → own_hold k stage t b ≡ own_hold k stage t a
own_over k stage t a b h s =
    ap (λ o. own_by k stage t o (left_behind t b) (oldest does_store b)) (waiting_over k stage t a b h)
    ∙ ap (λ o. own_by k stage t (waiting_hold k stage t a) o (oldest does_store b)) s
    ∙ ap (λ o. own_by k stage t (waiting_hold k stage t a) (left_behind t a) o) (alike_oldest (λ x. x.stores) a b h)

-- but at EX it asks for no trial
own_tried : (k : Shape) (stage : ℕ) (x : ExtensionTree) (memory : List ℕ) (i : State) (t : Token) (older : Slots) → (stage == k.ex) ≡ false → own_hold k stage (tried_with x memory i t) older ≡ own_hold k stage t older
own_tried k stage x memory i t older e =
    ap (λ (b : Bool). by_test (tried_with x memory i t) b) e ∙ sym (ap (λ (b : Bool). by_test t b) e) where
      by_test : Token → Bool → Option Hold
      by_test u b =
          or_else (waiting_hold k stage u older)
          (or_else (if b then leaving_hold u older else None)
          (or_else (if stage == k.mem then or_else (memory_hold u) (store_hold older u.asks) else None) (if suc stage == k.stages then ending_hold u else None)))

-- ---- holds after the loads

loading_staying : (x : ExtensionTree) (k : Shape) (memory : List ℕ) (stage : ℕ) (slots : Slots) → staying (loading x k memory stage slots) ≡ staying slots
loading_staying x k memory stage [] = refl
loading_staying x k memory stage (None ∷ older) = loading_staying x k memory (suc stage) older
loading_staying x k memory stage (Some t ∷ []) = by_case (is_loading k stage t) where
  by_case : (b : Bool) → staying ((if b then Some (tried_with x memory t.inputs t) else Some t) ∷ []) ≡ (if is_some t.cell.hold then Some t.cell.serial else None)
  by_case true = refl
  by_case false = refl
loading_staying x k memory stage (Some t ∷ u ∷ older) = by_case (is_loading k stage t) ∙ ap (λ o. or_else o (Some t.cell.serial)) (loading_staying x k memory (suc stage) (u ∷ older)) where
  by_case : (b : Bool) → staying ((if b then Some (tried_with x memory t.inputs t) else Some t) ∷ loading x k memory (suc stage) (u ∷ older)) ≡ or_else (staying (loading x k memory (suc stage) (u ∷ older))) (Some t.cell.serial)
  by_case true = refl
  by_case false = refl

loading_entering : (x : ExtensionTree) (k : Shape) (memory : List ℕ) (stage : ℕ) (slots : Slots) → entering (loading x k memory stage slots) ≡ entering slots
loading_entering x k memory stage [] = refl
loading_entering x k memory stage (None ∷ []) = refl
loading_entering x k memory stage (Some t ∷ []) = by_case (is_loading k stage t) where
  by_case : (b : Bool) → entering ((if b then Some (tried_with x memory t.inputs t) else Some t) ∷ []) ≡ (if is_some t.asks.unit && is_none t.cell.hold then Some t.cell.serial else None)
  by_case true = refl
  by_case false = refl
loading_entering x k memory stage (None ∷ u ∷ older) = loading_entering x k memory (suc stage) (u ∷ older)
loading_entering x k memory stage (Some t ∷ u ∷ older) = loading_entering x k memory (suc stage) (u ∷ older)

-- what is left of these
loading_left : (x : ExtensionTree) (k : Shape) (memory : List ℕ) (stage : ℕ) (t : Token) (slots : Slots) → left_behind t (loading x k memory stage slots) ≡ left_behind t slots
loading_left x k memory stage t slots =
    ap (λ o. or_else t.beside.left (or_else o (staying (loading x k memory stage slots)))) (loading_entering x k memory stage slots)
    ∙ ap (λ o. or_else t.beside.left (or_else (entering slots) o)) (loading_staying x k memory stage slots)

loading_mem : (k : Shape) (stage : ℕ) (t : Token) → is_loading k stage t ≡ true → (stage ≡ k.mem) × (is_some t.cell.hold ≡ false) × (t.asks.loads ≡ true)
loading_mem k stage t h = by_case (stage == k.mem) t.cell.hold t.asks.loads refl refl refl h where
  by_case : (a : Bool) (o : Option Hold) (c : Bool) → (stage == k.mem) ≡ a → t.cell.hold ≡ o → t.asks.loads ≡ c → (a && (is_none o && c)) ≡ true → (stage ≡ k.mem) × (is_some t.cell.hold ≡ false) × (t.asks.loads ≡ true)
  by_case true None true ea eo ec q = (test_eq stage k.mem ea, ap (λ o. is_some o) eo, ec)
  by_case true None false ea eo ec q = cc
  by_case true (Some x) c ea eo ec q = cc
  by_case false o c ea eo ec q = cc

not_ex : (stage ex mem : ℕ) → stage ≡ mem → ex < mem → (stage == ex) ≡ false
not_ex stage ex mem e lt = grind (arith, nat_tests)

never_stops : (a b c : Bool) → a ≡ false → (a && b && c) ≡ false
never_stops false b c h = refl
never_stops true b c h = cc

-- what a slot of these shows and does is as it was
module _ (k : Shape) (x : ExtensionTree) (memory : List ℕ) (lt : k.ex < k.mem) where
  stops_loaded : (stage : ℕ) (t : Token) (older : Slots) (b : Bool) → is_loading k stage t ≡ b → stops_now k stage (if b then tried_with x memory t.inputs t else t) (loading x k memory (suc stage) older) ≡ stops_now k stage t older
  stops_loaded stage t older false e =
      ap (λ o. (stage == k.ex) && is_some (stop_of t) && is_none o) (own_over k stage t older (loading x k memory (suc stage) older) (loading_alike x k memory (suc stage) older) (loading_left x k memory (suc stage) t older))
  stops_loaded stage t older true e =
      let n = not_ex stage k.ex k.mem (loading_mem k stage t e).0 lt in
      never_stops (stage == k.ex) (is_some (stop_of (tried_with x memory t.inputs t))) (is_none (own_hold k stage (tried_with x memory t.inputs t) (loading x k memory (suc stage) older))) n
      ∙ sym (never_stops (stage == k.ex) (is_some (stop_of t)) (is_none (own_hold k stage t older)) n)

  own_loaded : (stage : ℕ) (t : Token) (older : Slots) (b : Bool) → is_loading k stage t ≡ b → own_hold k stage (if b then tried_with x memory t.inputs t else t) (loading x k memory (suc stage) older) ≡ own_hold k stage t older
  own_loaded stage t older b e =
      trial_none b e
      ∙ own_over k stage t older (loading x k memory (suc stage) older) (loading_alike x k memory (suc stage) older) (loading_left x k memory (suc stage) t older) where
        trial_none : (b : Bool) → is_loading k stage t ≡ b → own_hold k stage (if b then tried_with x memory t.inputs t else t) (loading x k memory (suc stage) older) ≡ own_hold k stage t (loading x k memory (suc stage) older)
        trial_none false q = refl
        trial_none true q = own_tried k stage x memory t.inputs t (loading x k memory (suc stage) older) (not_ex stage k.ex k.mem (loading_mem k stage t q).0 lt)

  blocked_loaded : (stage : ℕ) (slots : Slots) → is_blocked k stage (loading x k memory stage slots) ≡ is_blocked k stage slots
  blocked_loaded stage [] = refl
  blocked_loaded stage (None ∷ older) = refl
  blocked_loaded stage (Some t ∷ older) = by_case (is_loading k stage t) (stops_loaded stage t older (is_loading k stage t) refl) where
    by_case : (b : Bool) → stops_now k stage (if b then tried_with x memory t.inputs t else t) (loading x k memory (suc stage) older) ≡ stops_now k stage t older
        → is_blocked k stage ((if b then Some (tried_with x memory t.inputs t) else Some t) ∷ loading x k memory (suc stage) older) ≡ (is_some t.cell.hold || stops_now k stage t older)
    by_case true q = ap (λ s. is_some t.cell.hold || s) q
    by_case false q = ap (λ s. is_some t.cell.hold || s) q

  shown_loaded : (stage : ℕ) (t : Token) (older : Slots) → shown k stage (if is_loading k stage t then tried_with x memory t.inputs t else t) (loading x k memory (suc stage) older) ≡ shown k stage t older
  shown_loaded stage t older =
      let later = loading x k memory (suc stage) older in
      let u = if is_loading k stage t then tried_with x memory t.inputs t else t in
      ap (λ s. if s then None else or_else (own_hold k stage u later) (if is_blocked k (suc stage) later then Some Behind else None)) (stops_loaded stage t older (is_loading k stage t) refl)
      ∙ ap (λ o. if stops_now k stage t older then None else or_else o (if is_blocked k (suc stage) later then Some Behind else None)) (own_loaded stage t older (is_loading k stage t) refl)
      ∙ ap (λ s. if stops_now k stage t older then None else or_else (own_hold k stage t older) (if s then Some Behind else None)) (blocked_loaded (suc stage) older)

pub loading_decided : (k : Setting) (ready : IsReady k) (x : ExtensionTree) (memory : List ℕ) (stage : ℕ) (slots : Slots) → Decided k stage slots → Decided k stage (loading x (shape_of k) memory stage slots)
loading_decided k ready x memory stage [] d = tt
loading_decided k ready x memory stage (None ∷ older) d = loading_decided k ready x memory (suc stage) older d
loading_decided k ready x memory stage (Some t ∷ older) d =
    by_case (is_loading (shape_of k) stage t) (d.0 ∙ sym (shown_loaded (shape_of k) x memory ready.ex_mem stage t older)) (loading_decided k ready x memory (suc stage) older d.1) where
      by_case : (b : Bool) → t.cell.hold ≡ shown (shape_of k) stage (if b then tried_with x memory t.inputs t else t) (loading x (shape_of k) memory (suc stage) older) → Decided k (suc stage) (loading x (shape_of k) memory (suc stage) older)
          → Decided k stage ((if b then Some (tried_with x memory t.inputs t) else Some t) ∷ loading x (shape_of k) memory (suc stage) older)
      by_case true e rest = (e, rest)
      by_case false e rest = (e, rest)

-- ---- what the token of MEM reads

-- the same record or stop, but for what is early
pub early_stop : (a : Asks) (x y : StepAnswer) → IsEarly a x y → stop_in x ≡ stop_in y
early_stop a (Done c) (Done d) h = refl
early_stop a (Done c) (Stopped stop) h = absurd h
early_stop a (Stopped stop) (Done d) h = absurd h
early_stop a (Stopped stop) (Stopped other) h = ap Some h

module _ (k : Setting) (ready : IsReady k) (r stage : ℕ) (older : Slots) (t : Token)
    (here : IsPlaced k (r + count older) (expected k r (suc stage) older) stage older t) (behind : Placed k r (suc stage) older) (at_mem : stage ≡ (shape_of k).mem) where
  past : (shape_of k).ex < stage
  past = let a = ready.ex_mem in omega (arith, a, at_mem)

  past_rd : (shape_of k).rd < stage
  past_rd = let a = ready.rd_ex in omega (arith, a, past)

  gone : (trial : Trial) × (t.trial ≡ Some trial) × (stop_in trial.answer ≡ None)
  gone = here.gone past

  no_late : oldest is_late older ≡ None
  no_late = here.settled gone.0 gone.1

  address : t.cell.at ≡ (run k (r + count older)).pc
  address = address_of_run k r stage t older (omega (arith, past)) no_late here

  word_there : word_at k.image (run k (r + count older)).pc ≡ Some t.cell.word
  word_there = ap (λ a. word_at k.image a) (sym address) ∙ here.word

  agrees : IsSeen (asked k.design t.cell.word) t.cell.word (run k (r + count older)) t.inputs
  agrees =
      subst (λ a. IsSeen a t.cell.word (run k (r + count older)) t.inputs) here.asks
      (record { word = here.input_word; pc = here.input_pc ∙ address; first = here.first past_rd; second = here.second past_rd; customs = here.seen gone.0 gone.1 })

  abbrev result : Trial
  result = tried (tree_of k) t.inputs (run k r).mem t.back t.decoded

  early : IsTried k (r + count older) (tried_with (tree_of k) (run k r).mem t.inputs t) result
  early = early_trial k ready (r + count older) t t.inputs (run k r).mem here.decoded here.back here.asks word_there here.wide here.words agrees

  same_some : (a b : Trial) → ◌≡◌ {A = Option Trial} (Some a) (Some b) → a ≡ b
  same_some a b e = cc

  goes : stop_in result.answer ≡ None
  goes =
      early_stop t.asks result.answer (answer k (r + count older)) early.early
      ∙ sym (early_stop t.asks gone.0.answer (answer k (r + count older)) (here.tried gone.0 gone.1).early)
      ∙ gone.2

  load_one : t.asks.loads ≡ true → IsPlaced k (r + count older) (expected k r (suc stage) older) stage older (tried_with (tree_of k) (run k r).mem t.inputs t)
  load_one loads =
      record {
        at = here.at;
        word = here.word;
        decoded = here.decoded;
        asks = here.asks;
        input_word = here.input_word;
        input_pc = here.input_pc;
        words = here.words;
        wide = here.wide;
        guess = here.guess;
        back = here.back;
        first = here.first;
        second = here.second;
        untried = λ lt. absurd (omega (arith, lt, past));
        tried = λ trial e. subst (λ u. IsTried k (r + count older) (tried_with (tree_of k) (run k r).mem t.inputs t) u) (same_some result trial e) early;
        settled = λ trial e. no_late;
        clear = λ trial e. here.clear gone.0 gone.1;
        seen = λ trial e. here.seen gone.0 gone.1;
        gone = λ lt. (result, refl, goes);
        exact = λ trial e later. let lt = later loads in absurd (omega (arith, lt, at_mem));
      }

  -- what it reads is what the run reads
  reads : store_hold older t.asks ≡ None → IsExact k (r + count older) result
  reads none =
      exact_trial k ready (r + count older) t t.inputs (run k r).mem here.decoded here.back here.asks word_there here.wide here.words agrees
      (λ l. memory_ready k ready r (suc stage) older t.asks (omega (arith, past)) behind (on_path k r (suc stage) older (omega (arith, past)) behind) none l)

-- a token that leaves MEM comes to what the run comes to
abbrev pub LoadedSlot : Setting → ℕ → ℕ → Option Token → Type 0
LoadedSlot k p stage None = Unit {0}
LoadedSlot k p stage (Some t) = stage ≡ (shape_of k).mem → is_some t.cell.hold ≡ false → (trial : Trial) → t.trial ≡ Some trial → IsExact k p trial

abbrev pub Loaded : Setting → ℕ → ℕ → Slots → Type 0
Loaded k r stage [] = Unit {0}
Loaded k r stage (s ∷ older) = LoadedSlot k (r + count older) stage s × Loaded k r (suc stage) older

free_store : (k : Setting) (ready : IsReady k) (stage : ℕ) (t : Token) (older : Slots) → stage ≡ (shape_of k).mem → is_some t.cell.hold ≡ false → t.cell.hold ≡ shown (shape_of k) stage t older → store_hold older t.asks ≡ None
free_store k ready stage t older e free d =
    let n = never_stops (stage == (shape_of k).ex) (is_some (stop_of t)) (is_none (own_hold (shape_of k) stage t older)) (not_ex stage (shape_of k).ex (shape_of k).mem e ready.ex_mem) in
    no_store (shape_of k) stage t older (own_none (shape_of k) stage t older t.cell.hold d free n) e

is_no_load : (k : Shape) (stage : ℕ) (t : Token) → is_loading k stage t ≡ false → stage ≡ k.mem → is_some t.cell.hold ≡ false → t.asks.loads ≡ false
is_no_load k stage t h e free = by_case (stage == k.mem) t.cell.hold t.asks.loads (same_test stage k.mem e) free h where
  by_case : (a : Bool) (o : Option Hold) (c : Bool) → a ≡ true → is_some o ≡ false → (a && (is_none o && c)) ≡ false → c ≡ false
  by_case true None c ea eo q = q
  by_case true (Some x) c ea eo q = cc
  by_case false o c ea eo q = cc

pub loading_placed : (k : Setting) (ready : IsReady k) (r stage : ℕ) (slots : Slots) → Placed k r stage slots → Decided k stage slots → Placed k r stage (loading (tree_of k) (shape_of k) (run k r).mem stage slots)
loading_placed k ready r stage [] h d = tt
loading_placed k ready r stage (None ∷ older) h d = (tt, loading_placed k ready r (suc stage) older h.1 d)
loading_placed k ready r stage (Some t ∷ older) h d = (by_case (is_loading (shape_of k) stage t) refl, loading_placed k ready r (suc stage) older h.1 d.1) where
  later : Slots
  later = loading (tree_of k) (shape_of k) (run k r).mem (suc stage) older

  over : (u : Token) → IsPlaced k (r + count older) (expected k r (suc stage) older) stage older u → IsPlaced k (r + count later) (expected k r (suc stage) later) stage later u
  over u i = placed_alike k r stage older later u (loading_alike (tree_of k) (shape_of k) (run k r).mem (suc stage) older) (loading_guesses (tree_of k) (shape_of k) (run k r).mem (suc stage) older) i

  by_case : (b : Bool) → is_loading (shape_of k) stage t ≡ b → IsPlacedSlot k (r + count later) (expected k r (suc stage) later) stage later (if b then Some (tried_with (tree_of k) (run k r).mem t.inputs t) else Some t)
  by_case true e =
      let x = loading_mem (shape_of k) stage t e in
      over (tried_with (tree_of k) (run k r).mem t.inputs t) (load_one k ready r stage older t h.0 h.1 x.0 x.2)
  by_case false e = over t h.0

pub loading_loaded : (k : Setting) (ready : IsReady k) (r stage : ℕ) (slots : Slots) → Placed k r stage slots → Decided k stage slots → Loaded k r stage (loading (tree_of k) (shape_of k) (run k r).mem stage slots)
loading_loaded k ready r stage [] h d = tt
loading_loaded k ready r stage (None ∷ older) h d = (tt, loading_loaded k ready r (suc stage) older h.1 d)
loading_loaded k ready r stage (Some t ∷ older) h d = (by_case (is_loading (shape_of k) stage t) refl, loading_loaded k ready r (suc stage) older h.1 d.1) where
  later : Slots
  later = loading (tree_of k) (shape_of k) (run k r).mem (suc stage) older

  same_place : (trial : Trial) → IsExact k (r + count older) trial → IsExact k (r + count later) trial
  same_place trial h = subst (λ n. IsExact k (r + n) trial) (sym (alike_count older later (loading_alike (tree_of k) (shape_of k) (run k r).mem (suc stage) older))) h

  same_some : (a b : Trial) → ◌≡◌ {A = Option Trial} (Some a) (Some b) → a ≡ b
  same_some a b e = cc

  by_case : (b : Bool) → is_loading (shape_of k) stage t ≡ b → LoadedSlot k (r + count later) stage (if b then Some (tried_with (tree_of k) (run k r).mem t.inputs t) else Some t)
  by_case true e = λ at free trial q.
      same_place trial
      (subst (λ u. IsExact k (r + count older) u) (same_some (tried (tree_of k) t.inputs (run k r).mem t.back t.decoded) trial q)
      (reads k ready r stage older t h.0 h.1 at (free_store k ready stage t older at free d.0)))
  by_case false e = λ at free trial q. same_place trial (h.0.exact trial q (λ l. absurd (cc (is_no_load (shape_of k) stage t e at free, l))))
