-- Where a token stands after the passes over the slots, and what the token of RD has when it has read.
use Rattle.std.proofs.Common.{◌≡◌, ◌≢◌, ℕ, zero, suc, ◌+◌, ◌^◌, ◌<◌, ◌≤◌, List, [], ◌∷◌, length, get_or, Option, Some, None, Bool, true, false, refl, sym, ap, ◌∙◌, subst, arith, ◌⊎◌, inl, inr}
use Rattle.std.specs.Prelude.{if◌then◌else◌, ◌==◌, ◌&&◌, slice_index, min, max}
use Rattle.ix_bits.specs.declared.number.Bits.{Bits}
use Rattle.ix_extension.specs.Extensions.{ExtensionTree}
use Rattle.ix_mean.specs.declared.evaluate.State.{State}
use Rattle.rv_core.specs.declared.Shape.{Shape}
use Rattle.rv_isa.specs.Fields.{rs1_of, rs2_of}
use Rattle.rv_trace.specs.declared.row.Hold.{Hold}
use Rattle.rv_asks.specs.declared.asks.Asks.{Asks}
use Rattle.rv_tried.specs.declared.trial.Trial.{Trial}
use Rattle.rv_holds.specs.declared.token.Token.{Token}
use Rattle.rv_holds.specs.Tokens.{Slots, or_else, makes_access, cells_of}
use Rattle.rv_holds.specs.Forwarding.{operand_in}
use Rattle.rv_holds.specs.Holds.{oldest, is_late, waits_for, operand_hold, register_count, spawner, least_from, shown, held, decided}
use Rattle.rv_holds.specs.Flushing.{cleared}
use Rattle.rv_holds.specs.declared.token.Beside.{Beside}
use Rattle.rv_engine.specs.declared.reading.Operands.{Operands}
use Rattle.rv_engine.specs.Owing.{Outstanding, board_of, beside_of}
use Rattle.rv_engine.specs.Settings.{Setting, shape_of}
use Rattle.rv_engine.specs.Rows.{with_inputs, operand_pair, slot_operands, with_pair, read_with, reading, tried_with, seeing, is_ripe, trying, is_loading, loading}
use Rattle.rv_machine.specs.Owing.{judged}
use Rattle.rv_machine.specs.Placed.{run, count, expected, IsTried, IsPlaced, Placed, IsReady}
use Rattle.rv_lawful.specs.Sight.{IsEarly}
use Rattle.rv_lawful.specs.Forwarding.{x_written}
use Rattle.rv_machine.proofs.Alike.{AlikeSlot, Alike, alike_count, alike_oldest, alike_expected, guesses, reading_alike, reading_guesses, trying_alike, loading_alike, decided_alike, decided_guesses}
use Rattle.rv_machine.proofs.Deciding.{or_else_none, or_else_none_b, test_eq, same_test}
use Rattle.rv_machine.proofs.Forwarding.{operand_is, operand_below, placed_passes}
use Rattle.rv_machine.proofs.Operands.{OnPath}
use Rattle.rv_machine.proofs.Over.{operand_over, spawner_over}
use Rattle.rv_machine.proofs.Unboarded.{none_spawns}

-- what a load reads changes no cell
pub loading_cells : (x : ExtensionTree) (k : Shape) (memory : List ℕ) (stage : ℕ) (slots : Slots) → cells_of (loading x k memory stage slots) ≡ cells_of slots
loading_cells x k memory stage [] = refl
loading_cells x k memory stage (None ∷ older) = ap (λ l. None ∷ l) (loading_cells x k memory (suc stage) older)
loading_cells x k memory stage (Some t ∷ older) = by_case (is_loading k stage t) ∙ ap (λ l. Some t.cell ∷ l) (loading_cells x k memory (suc stage) older) where
  by_case : (b : Bool) → cells_of ((if b then Some (tried_with x memory t.inputs t) else Some t) ∷ loading x k memory (suc stage) older) ≡ Some t.cell ∷ cells_of (loading x k memory (suc stage) older)
  by_case true = refl
  by_case false = refl

-- ---- a token stands where it stood before older ones that are alike

pub same_trial : (k : Setting) (p : ℕ) (t u : Token) (trial : Trial) → u.trial ≡ t.trial → u.asks ≡ t.asks → IsTried k p t trial → IsTried k p u trial
same_trial k p t u trial e a i =
    record {
      tried = e ∙ i.tried;
      early = subst (λ x. IsEarly x trial.answer ((judged k).course.answer p)) (sym a) i.early;
      accesses = i.accesses;
      load = i.load;
      blocks = i.blocks;
      x = subst (λ (z : Asks). z.destination ≢ 0 → z.x_time < (shape_of k).mem → x_written trial.answer ≡ x_written ((judged k).course.answer p)) (sym a) i.x;
    }

pub placed_over : (k : Setting) (p address stage : ℕ) (older later : Slots) (t : Token) → Alike older later → IsPlaced k p address stage older t → IsPlaced k p address stage later t
placed_over k p address stage older later t h i =
    record {
      at = i.at;
      word = i.word;
      decoded = i.decoded;
      asks = i.asks;
      input_word = i.input_word;
      input_pc = i.input_pc;
      words = i.words;
      wide = i.wide;
      guess = i.guess;
      back = i.back;
      first = i.first;
      second = i.second;
      untried = i.untried;
      tried = i.tried;
      settled = λ trial e. alike_oldest (λ a. a.late) older later h ∙ i.settled trial e;
      clear = λ trial e reg u. alike_oldest (λ a. get_or a.late_customs reg false) older later h ∙ i.clear trial e reg u;
      seen = i.seen;
      gone = i.gone;
      exact = i.exact;
    }

-- where they come to the same count and address
pub placed_alike : (k : Setting) (r stage : ℕ) (older later : Slots) (t : Token) → Alike older later → guesses later ≡ guesses older → IsPlaced k (r + count older) (expected k r (suc stage) older) stage older t → IsPlaced k (r + count later) (expected k r (suc stage) later) stage later t
placed_alike k r stage older later t h g i =
    subst (λ n. IsPlaced k (r + n) (expected k r (suc stage) later) stage later t) (sym (alike_count older later h))
    (subst (λ a. IsPlaced k (r + count older) a stage later t) (sym (alike_expected k r (suc stage) older later h g))
    (placed_over k (r + count older) (expected k r (suc stage) older) stage older later t h i))

-- ---- reading

-- operands are words
abbrev AreBelow : Option Operands → Type 0
AreBelow None = Unit {0}
AreBelow (Some o) = (o.first < 2 ^ 32) × (o.second < 2 ^ 32)

abbrev AtReading : Setting → ℕ → Option Operands → Type 0
AtReading k stage None = Unit {0}
AtReading k stage (Some o) = stage ≡ (shape_of k).rd

-- past RD nothing is read
read_one : (k : Setting) (ready : IsReady k) (o : Option Operands) (wait : ℕ) (beside : Beside) (p address stage : ℕ) (older : Slots) (t : Token) → AreBelow o → AtReading k stage o → IsPlaced k p address stage older t
    → IsPlaced k p address stage older (with_inputs (with_pair o t.inputs) wait beside t)
read_one k ready None wait beside p address stage older t below at i =
    record {
      at = i.at;
      word = i.word;
      decoded = i.decoded;
      asks = i.asks;
      input_word = i.input_word;
      input_pc = i.input_pc;
      words = i.words;
      wide = i.wide;
      guess = i.guess;
      back = i.back;
      first = i.first;
      second = i.second;
      untried = i.untried;
      tried = λ trial q. same_trial k p t (with_inputs t.inputs wait beside t) trial refl refl (i.tried trial q);
      settled = i.settled;
      clear = i.clear;
      seen = i.seen;
      gone = i.gone;
      exact = i.exact;
    }
read_one k ready (Some o) wait beside p address stage older t below at i =
    let w = i.words in
    record {
      at = i.at;
      word = i.word;
      decoded = i.decoded;
      asks = i.asks;
      input_word = i.input_word;
      input_pc = i.input_pc;
      words = record { word = w.word; rs1 = below.0; rs2 = below.1; pc = w.pc };
      wide = i.wide;
      guess = i.guess;
      back = i.back;
      first = λ lt. absurd (omega (arith, at, lt));
      second = λ lt. absurd (omega (arith, at, lt));
      untried = i.untried;
      tried = λ trial q. same_trial k p t (with_inputs (with_pair (Some o) t.inputs) wait beside t) trial refl refl (i.tried trial q);
      settled = i.settled;
      clear = i.clear;
      seen = i.seen;
      gone = i.gone;
      exact = i.exact;
    }

pub first_few : (word : ℕ) → rs1_of word < 32
first_few word = omega arith

pub second_few : (word : ℕ) → rs2_of word < 32
second_few word = omega arith

pub reading_placed : (k : Setting) (ready : IsReady k) (x : List ℕ) (owed : ℕ) (now : Bool) (o : Outstanding) (r stage : ℕ) (slots : Slots) → ((reg : ℕ) → slice_index x reg < 2 ^ 32) → Placed k r stage slots → Placed k r stage (reading (shape_of k) x owed now o stage slots)
reading_placed k ready x owed now o r stage [] ranged h = tt
reading_placed k ready x owed now o r stage (None ∷ older) ranged h = (tt, reading_placed k ready x owed now o r (suc stage) older ranged h.1)
reading_placed k ready x owed now o r stage (Some t ∷ older) ranged h = (
  placed_alike k r stage older later (read_with (shape_of k) (slot_operands (shape_of k) stage (Some t) older x) owed now o stage t) (reading_alike (shape_of k) x owed now o (suc stage) older)
      (reading_guesses (shape_of k) x owed now o (suc stage) older)
      (read_one k ready (slot_operands (shape_of k) stage (Some t) older x) (if (stage == (shape_of k).mem) && makes_access t then owed else 0) (beside_of (shape_of k) now o stage t.asks) (r + count older) (expected k r (suc stage) older) stage older t
      (below (stage == (shape_of k).rd)) (at (stage == (shape_of k).rd) refl) h.0),
  reading_placed k ready x owed now o r (suc stage) older ranged h.1,
) where
  later : Slots
  later = reading (shape_of k) x owed now o (suc stage) older

  pair : Operands
  pair = operand_pair (shape_of k) (suc stage) older x t.inputs.word

  below : (b : Bool) → AreBelow (if b then Some pair else None)
  below true = (
    operand_below k ready r (rs1_of t.inputs.word) (suc stage) older x (first_few t.inputs.word) h.1 (ranged (rs1_of t.inputs.word)),
    operand_below k ready r (rs2_of t.inputs.word) (suc stage) older x (second_few t.inputs.word) h.1 (ranged (rs2_of t.inputs.word)),
  )
  below false = tt

  at : (b : Bool) → (stage == (shape_of k).rd) ≡ b → AtReading k stage (if b then Some pair else None)
  at true e = test_eq stage (shape_of k).rd e
  at false e = tt

-- the operands that are asked for are those of this file
abbrev pub HasOperands : List ℕ → Asks → State → Type 0
HasOperands x a i = (rs1_of i.word ≡ a.first → i.rs1 ≡ slice_index x (rs1_of i.word)) × (rs2_of i.word ≡ a.second → i.rs2 ≡ slice_index x (rs2_of i.word))

-- the token of RD has those of the run, where its older ones are on the path of the run, nothing outstanding owes it a register, and none of them withholds or spawns one
abbrev pub ReadSlot : Setting → ℕ → ℕ → Option Token → Slots → Type 0
ReadSlot k r stage None older = Unit {0}
ReadSlot k r stage (Some t) older =
    stage ≡ (shape_of k).rd → t.beside.board ≡ None → OnPath k older → operand_hold (shape_of k) (suc stage) older t.asks ≡ None → least_from (spawner older t.asks) 0 register_count ≡ None
    → HasOperands (run k (r + count older)).x t.asks t.inputs

abbrev pub Read : Setting → ℕ → ℕ → Slots → Type 0
Read k r stage [] = Unit {0}
Read k r stage (s ∷ older) = ReadSlot k r stage s older × Read k r (suc stage) older

-- two files with the same operands, where nothing of these owes a register
abbrev pub AreUnowed : List ℕ → List ℕ → Outstanding → Type 0
AreUnowed x y o = (a : Asks) (reg : ℕ) → reg < 32 → board_of o.owed a ≡ None → (reg ≡ a.first) ⊎ (reg ≡ a.second) → slice_index x reg ≡ slice_index y reg

-- what is on the path of the run is so before older ones that are alike
pub alike_path : (k : Setting) (a b : Slots) → Alike a b → OnPath k b → OnPath k a
alike_path k [] [] h p = tt
alike_path k [] (u ∷ b) h p = absurd h
alike_path k (s ∷ a) [] h p = absurd h
alike_path k (None ∷ a) (None ∷ b) h p = alike_path k a b h.1 p
alike_path k (None ∷ a) (Some u ∷ b) h p = absurd h.0
alike_path k (Some t ∷ a) (None ∷ b) h p = absurd h.0
alike_path k (Some t ∷ a) (Some u ∷ b) h p = (sym (alike_oldest (λ x. x.late) a b h.1) ∙ p.0, alike_path k a b h.1 p.1)

-- what is so at the lesser and at the greater is so at both
min_max_first : (f : ℕ → Option Hold) (a b : ℕ) → f (min a b) ≡ None → f (max a b) ≡ None → f a ≡ None
min_max_first f a b h e = grind arith

min_max_second : (f : ℕ → Option Hold) (a b : ℕ) → f (min a b) ≡ None → f (max a b) ≡ None → f b ≡ None
min_max_second f a b h e = grind arith

-- where no operand is waited for, neither of the two is
pub operand_parts : (k : Shape) (stage : ℕ) (older : Slots) (a : Asks) (reg : ℕ) → operand_hold k stage older a ≡ None → (reg ≡ a.first) ⊎ (reg ≡ a.second) → waits_for k reg stage older ≡ None
operand_parts k stage older a reg h which =
    let low = or_else_none (waits_for k (min a.first a.second) stage older) _ h in
    let high = or_else_none_b (waits_for k (min a.first a.second) stage older) _ h in
    elim which [
      | inl e ↦ ap (λ i. waits_for k i stage older) e ∙ min_max_first (λ i. waits_for k i stage older) a.first a.second low high
      | inr e ↦ ap (λ i. waits_for k i stage older) e ∙ min_max_second (λ i. waits_for k i stage older) a.first a.second low high
    ]

read_slot : (k : Setting) (ready : IsReady k) (x : List ℕ) (owed : ℕ) (now : Bool) (o : Outstanding) (r stage : ℕ) (t : Token) (older : Slots) → Placed k r (suc stage) older → AreUnowed x (run k r).x o
    → ReadSlot k r stage (Some (read_with (shape_of k) (slot_operands (shape_of k) stage (Some t) older x) owed now o stage t)) (reading (shape_of k) x owed now o (suc stage) older)
read_slot k ready x owed now o r stage t older placed same = λ at free path none spawns. by_case (stage == (shape_of k).rd) (same_test stage (shape_of k).rd at) at free path none spawns where
  later : Slots
  later = reading (shape_of k) x owed now o (suc stage) older

  alike : Alike older later
  alike = reading_alike (shape_of k) x owed now o (suc stage) older

  pair : Operands
  pair = operand_pair (shape_of k) (suc stage) older x t.inputs.word

  is_run : stage ≡ (shape_of k).rd → board_of o.owed t.asks ≡ None → OnPath k later → operand_hold (shape_of k) (suc stage) later t.asks ≡ None → least_from (spawner later t.asks) 0 register_count ≡ None → (reg : ℕ) → reg < 32 → (reg ≡ t.asks.first) ⊎ (reg ≡ t.asks.second)
      → operand_in (shape_of k) false (suc stage) older x reg ≡ slice_index (run k (r + count later)).x reg
  is_run at free path none spawns reg few which =
      let near = ready.ex_rd in
      operand_is k ready false r (suc stage) reg older x (omega (arith, near, at)) few placed (alike_path k older later alike path) (placed_passes k ready r (suc stage) older placed)
      (operand_parts (shape_of k) (suc stage) older t.asks reg (sym (operand_over (shape_of k) (suc stage) t.asks older later alike) ∙ none) which)
      (none_spawns older t.asks reg (sym (spawner_over t.asks older later alike) ∙ spawns) few which) (same t.asks reg few free which)
      ∙ ap (λ n. slice_index (run k (r + n)).x reg) (sym (alike_count older later alike))

  by_case : (b : Bool) → b ≡ true → stage ≡ (shape_of k).rd → (if b then board_of o.owed t.asks else None) ≡ None → OnPath k later → operand_hold (shape_of k) (suc stage) later t.asks ≡ None → least_from (spawner later t.asks) 0 register_count ≡ None
      → HasOperands (run k (r + count later)).x t.asks (with_pair (if b then Some pair else None) t.inputs)
  by_case true h at free path none spawns = (
    λ q. is_run at free path none spawns (rs1_of t.inputs.word) (first_few t.inputs.word) (inl q),
    λ q. is_run at free path none spawns (rs2_of t.inputs.word) (second_few t.inputs.word) (inr q),
  )
  by_case false h at free path none spawns = cc

pub reading_read : (k : Setting) (ready : IsReady k) (x : List ℕ) (owed : ℕ) (now : Bool) (o : Outstanding) (r stage : ℕ) (slots : Slots) → Placed k r stage slots → AreUnowed x (run k r).x o → Read k r stage (reading (shape_of k) x owed now o stage slots)
reading_read k ready x owed now o r stage [] h same = tt
reading_read k ready x owed now o r stage (None ∷ older) h same = (tt, reading_read k ready x owed now o r (suc stage) older h.1 same)
reading_read k ready x owed now o r stage (Some t ∷ older) h same = (read_slot k ready x owed now o r stage t older h.1 same, reading_read k ready x owed now o r (suc stage) older h.1 same)

-- it has them before older ones that are alike, whatever it was tried to
read_over : (k : Setting) (r stage : ℕ) (older later : Slots) (t u : Token) → Alike older later → u.beside ≡ t.beside → u.asks ≡ t.asks → ((y : List ℕ) → HasOperands y t.asks t.inputs → HasOperands y u.asks u.inputs) → ReadSlot k r stage (Some t) older → ReadSlot k r stage (Some u) later
read_over k r stage older later t u alike b a same h = λ at free path none spawns.
    let x = h at (ap (λ (z : Beside). z.board) (sym b) ∙ free) (alike_path k older later alike path)
    (sym (operand_over (shape_of k) (suc stage) t.asks older later alike) ∙ ap (λ (z : Asks). operand_hold (shape_of k) (suc stage) later z) (sym a) ∙ none)
    (sym (spawner_over t.asks older later alike) ∙ ap (λ (z : Asks). least_from (spawner later z) 0 register_count) (sym a) ∙ spawns) in
    same (run k (r + count later)).x (subst (λ n. HasOperands (run k (r + n)).x t.asks t.inputs) (sym (alike_count older later alike)) x)

trial_read : (k : Setting) (tree : ExtensionTree) (memory : List ℕ) (future : List Bits) (r stage : ℕ) (t : Token) (older later : Slots) (b : Bool) → Alike older later → ReadSlot k r stage (Some t) older → ReadSlot k r stage (if b then Some (tried_with tree memory (seeing future t.inputs) t) else Some t) later
trial_read k tree memory future r stage t older later true alike h = read_over k r stage older later t (tried_with tree memory (seeing future t.inputs) t) alike refl refl (λ y q. q) h
trial_read k tree memory future r stage t older later false alike h = read_over k r stage older later t t alike refl refl (λ y q. q) h

pub trying_read : (k : Setting) (tree : ExtensionTree) (memory : List ℕ) (future : List Bits) (r stage : ℕ) (slots : Slots) → Read k r stage slots → Read k r stage (trying tree (shape_of k) future memory stage slots)
trying_read k tree memory future r stage [] h = tt
trying_read k tree memory future r stage (None ∷ older) h = (tt, trying_read k tree memory future r (suc stage) older h.1)
trying_read k tree memory future r stage (Some t ∷ older) h = (
  trial_read k tree memory future r stage t older (trying tree (shape_of k) future memory (suc stage) older) (is_ripe (shape_of k) stage t older) (trying_alike tree (shape_of k) future memory (suc stage) older) h.0,
  trying_read k tree memory future r (suc stage) older h.1,
)

load_read : (k : Setting) (tree : ExtensionTree) (memory : List ℕ) (r stage : ℕ) (t : Token) (older later : Slots) (b : Bool) → Alike older later → ReadSlot k r stage (Some t) older → ReadSlot k r stage (if b then Some (tried_with tree memory t.inputs t) else Some t) later
load_read k tree memory r stage t older later true alike h = read_over k r stage older later t (tried_with tree memory t.inputs t) alike refl refl (λ y q. q) h
load_read k tree memory r stage t older later false alike h = read_over k r stage older later t t alike refl refl (λ y q. q) h

pub loading_read : (k : Setting) (tree : ExtensionTree) (memory : List ℕ) (r stage : ℕ) (slots : Slots) → Read k r stage slots → Read k r stage (loading tree (shape_of k) memory stage slots)
loading_read k tree memory r stage [] h = tt
loading_read k tree memory r stage (None ∷ older) h = (tt, loading_read k tree memory r (suc stage) older h.1)
loading_read k tree memory r stage (Some t ∷ older) h = (
  load_read k tree memory r stage t older (loading tree (shape_of k) memory (suc stage) older) (is_loading (shape_of k) stage t) (loading_alike tree (shape_of k) memory (suc stage) older) h.0,
  loading_read k tree memory r (suc stage) older h.1,
)

pub decided_read : (k : Setting) (r stage : ℕ) (slots : Slots) → Read k r stage slots → Read k r stage (decided (shape_of k) stage slots)
decided_read k r stage [] h = tt
decided_read k r stage (None ∷ older) h = (tt, decided_read k r (suc stage) older h.1)
decided_read k r stage (Some t ∷ older) h =
    let later = decided (shape_of k) (suc stage) older in (
      read_over k r stage older later t (held (shown (shape_of k) stage t later) t) (decided_alike (shape_of k) (suc stage) older) refl refl (λ y q. q) h.0,
      decided_read k r (suc stage) older h.1,
    )

pub cleared_read : (k : Setting) (r stage n : ℕ) (slots : Slots) → n ≤ length slots → Read k r stage slots → Read k r stage (cleared n slots)
cleared_read k r stage zero slots le h = h
cleared_read k r stage (suc n) [] le h = absurd (omega arith)
cleared_read k r stage (suc n) (s ∷ older) le h = (tt, cleared_read k r (suc stage) n older (omega (arith, le)) h.1)

-- ---- deciding

held_placed : (k : Setting) (p address stage : ℕ) (older : Slots) (h : Option Hold) (t : Token) → IsPlaced k p address stage older t → IsPlaced k p address stage older (held h t)
held_placed k p address stage older h t i =
    record {
      at = i.at;
      word = i.word;
      decoded = i.decoded;
      asks = i.asks;
      input_word = i.input_word;
      input_pc = i.input_pc;
      words = i.words;
      wide = i.wide;
      guess = i.guess;
      back = i.back;
      first = i.first;
      second = i.second;
      untried = i.untried;
      tried = λ trial q. same_trial k p t (held h t) trial refl refl (i.tried trial q);
      settled = i.settled;
      clear = i.clear;
      seen = i.seen;
      gone = i.gone;
      exact = i.exact;
    }

pub all_decided : (k : Setting) (r stage : ℕ) (slots : Slots) → Placed k r stage slots → Placed k r stage (decided (shape_of k) stage slots)
all_decided k r stage [] h = tt
all_decided k r stage (None ∷ older) h = (tt, all_decided k r (suc stage) older h.1)
all_decided k r stage (Some t ∷ older) h =
    let later = decided (shape_of k) (suc stage) older in
    let hold = shown (shape_of k) stage t later in (
      placed_alike k r stage older later (held hold t) (decided_alike (shape_of k) (suc stage) older) (decided_guesses (shape_of k) (suc stage) older)
          (held_placed k (r + count older) (expected k r (suc stage) older) stage older hold t h.0),
      all_decided k r (suc stage) older h.1,
    )
