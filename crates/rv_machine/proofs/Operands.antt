-- What no older token changes is the run's: custom registers and the memory.
use Rattle.std.proofs.Common.{◌≡◌, ◌≢◌, ℕ, zero, suc, ◌+◌, ◌<◌, ◌≤◌, [], ◌∷◌, get_or, Option, Some, None, Bool, true, false, refl, sym, ap, ◌∙◌, arith, add-zero, add-suc, inl, inr}
use Rattle.std.specs.Prelude.{if◌then◌else◌, ◌==◌, slice_index, min, max}
use Rattle.std.proofs.lemmas.Bool.Decides.{nat_tests}
use Rattle.rv_seq.specs.Steps.{word_at}
use Rattle.rv_seq.specs.States.{zero_bit}
use Rattle.rv_asks.specs.declared.asks.Asks.{Asks}
use Rattle.rv_holds.specs.declared.token.Token.{Token}
use Rattle.rv_holds.specs.Tokens.{Slots}
use Rattle.rv_holds.specs.Holds.{oldest, does_store, is_late, store_ahead, store_hold}
use Rattle.rv_trace.specs.declared.row.Hold.{Hold}
use Rattle.rv_lawful.specs.Outstanding.{is_register}
use Rattle.rv_engine.specs.Settings.{Setting, shape_of}
use Rattle.rv_machine.specs.Placed.{run, count, expected, Placed, IsReady}
use Rattle.rv_machine.proofs.Deciding.{or_else_none, or_else_none_b, if_none, test_ne, word_of_run, settled_past}
use Rattle.rv_machine.proofs.Unowed.{x_target}
use Rattle.rv_machine.proofs.Unboarded.{none_spawns}
use Rattle.rv_machine.proofs.Runs.{run_other, run_memory, run_custom, run_zero}

-- ---- on the path of the run

-- no token has an older one that is late
abbrev pub OnPath : Setting → Slots → Type 0
OnPath k [] = Unit {0}
OnPath k (None ∷ older) = OnPath k older
OnPath k (Some t ∷ older) = (oldest is_late older ≡ None) × OnPath k older

-- past EX it is so
pub on_path : (k : Setting) (r stage : ℕ) (slots : Slots) → (shape_of k).ex < stage → Placed k r stage slots → OnPath k slots
on_path k r stage [] lt h = tt
on_path k r stage (None ∷ older) lt h = on_path k r (suc stage) older (omega (arith, lt)) h.1
on_path k r stage (Some t ∷ older) lt h = (settled_past k (r + count older) (expected k r (suc stage) older) stage older t lt h.0, on_path k r (suc stage) older (omega (arith, lt)) h.1)

-- the word of the first of these is that of the run's place
pub path_word : (k : Setting) (r stage : ℕ) (t : Token) (older : Slots) → (shape_of k).ex ≤ stage → Placed k r stage (Some t ∷ older) → OnPath k (Some t ∷ older) → word_at k.image (run k (r + count older)).pc ≡ Some t.cell.word
path_word k r stage t older le h path = word_of_run k r stage t older le path.0 h.0

-- ---- custom registers

-- one that none of these uses
pub unused : (k : Setting) (ready : IsReady k) (r stage reg : ℕ) (older : Slots) → (shape_of k).ex ≤ stage → Placed k r stage older → OnPath k older → oldest (λ t. get_or t.asks.customs reg false) older ≡ None
    → get_or (run k (r + count older)).custom reg zero_bit ≡ get_or (run k r).custom reg zero_bit
unused k ready r stage reg [] le h path w = rw add-zero
unused k ready r stage reg (None ∷ older) le h path w = unused k ready r (suc stage) reg older (omega (arith, le)) h.1 path w
unused k ready r stage reg (Some t ∷ older) le h path w =
    let w1 = or_else_none (oldest (λ u. get_or u.asks.customs reg false) older) _ w in
    let n = if_none (get_or t.asks.customs reg false) t.cell.serial (or_else_none_b (oldest (λ u. get_or u.asks.customs reg false) older) _ w) in
    rw (add-suc r (count older))
    (run_custom k ready (r + count older) t.cell.word reg (path_word k r stage t older le h path) (sym (ap (λ (a : Asks). get_or a.customs reg false) h.0.asks) ∙ n)
    ∙ unused k ready r (suc stage) reg older (omega (arith, le)) h.1 path.1 w1)

-- ---- the memory

no_storer : (older : Slots) (t : Token) → oldest does_store (Some t ∷ older) ≡ None → t.asks.stores ≡ false
no_storer older t h = if_none t.asks.stores t.cell.serial (or_else_none_b (oldest does_store older) _ h)

-- memory that no older token stores to
pub unstored : (k : Setting) (ready : IsReady k) (r stage : ℕ) (older : Slots) → (shape_of k).ex ≤ stage → Placed k r stage older → OnPath k older → oldest does_store older ≡ None → (run k (r + count older)).mem ≡ (run k r).mem
unstored k ready r stage [] le h path w = rw add-zero
unstored k ready r stage (None ∷ older) le h path w = unstored k ready r (suc stage) older (omega (arith, le)) h.1 path w
unstored k ready r stage (Some t ∷ older) le h path w =
    let w1 = or_else_none (oldest does_store older) _ w in
    rw (add-suc r (count older))
    (run_memory k ready (r + count older) t.cell.word (path_word k r stage t older le h path) (sym (ap (λ (a : Asks). a.stores) h.0.asks) ∙ no_storer older t w)
    ∙ unstored k ready r (suc stage) older (omega (arith, le)) h.1 path.1 w1)

ahead_none : (o : Option ℕ) → store_ahead o ≡ None → o ≡ None
ahead_none None h = refl
ahead_none (Some j) h = cc

-- what a load may read is the run's
pub memory_ready : (k : Setting) (ready : IsReady k) (r stage : ℕ) (older : Slots) (a : Asks) → (shape_of k).ex ≤ stage → Placed k r stage older → OnPath k older → store_hold older a ≡ None → a.loads ≡ true → (run k r).mem ≡ (run k (r + count older)).mem
memory_ready k ready r stage older a le h path none loads = by_case a.loads loads none where
  by_case : (b : Bool) → b ≡ true → (if b then store_ahead (oldest does_store older) else None) ≡ None → (run k r).mem ≡ (run k (r + count older)).mem
  by_case true e q = sym (unstored k ready r stage older le h path (ahead_none (oldest does_store older) q))
  by_case false e q = cc
