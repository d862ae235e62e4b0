-- What is told of a row that the machine makes: what it waits for, what retires, and which serials are retired.
use Rattle.std.proofs.Common.{◌≡◌, ℕ, zero, suc, ◌+◌, ◌-◌, ◌<◌, ◌≤◌, List, [], ◌∷◌, drop, Option, Some, None, Bool, true, false, refl, sym, ap, ◌∙◌, subst, arith, add-zero, inl, inr}
use Rattle.std.specs.Prelude.{◌&&◌, if◌then◌else◌, ◌==◌, is_some, slice_get}
use Rattle.ix_bits.specs.declared.number.Bits.{Bits}
use Rattle.ix_extension.specs.Extensions.{ExtensionTree}
use Rattle.rv_trace.specs.declared.row.Cell.{Cell}
use Rattle.rv_trace.specs.declared.row.Row.{Row}
use Rattle.rv_trace.specs.Trace.{retirements}
use Rattle.rv_waits.specs.Waits.{wait_at}
use Rattle.rv_asks.specs.declared.asks.Asks.{Asks}
use Rattle.rv_seq.specs.Steps.{word_at}
use Rattle.rv_tried.specs.declared.trial.Trial.{Trial}
use Rattle.rv_holds.specs.declared.token.Token.{Token}
use Rattle.rv_holds.specs.Tokens.{Slots, makes_access, tried_access}
use Rattle.rv_holds.specs.Holds.{decided, waiting_hold}
use Rattle.rv_holds.specs.Flushing.{struck}
use Rattle.rv_engine.specs.Owing.{Outstanding}
use Rattle.rv_engine.specs.Settings.{Setting, Machine, shape_of, tree_of, outstanding_in, interrupted_by}
use Rattle.rv_engine.specs.Rows.{tried_with, seeing, is_ripe, slot_operands, read_with, reading, trying, is_loading, loading, fetched, fill_first, filled_by, owed_by, new_by, read_by, held_by, loaded_by, turn_by, seen_by, IsRowOf}
use Rattle.rv_lawful.specs.Settings as Lawful
use Rattle.rv_lawful.specs.LawfulTrace.{IsWordOf}
use Rattle.rv_machine.specs.Owing.{judged}
use Rattle.rv_machine.specs.Placed.{count, expected, IsTried, IsPlaced, Placed, IsReady, Inv}
use Rattle.rv_machine.proofs.Deciding.{test_eq, same_test}
use Rattle.rv_machine.proofs.Standing.{here_of, drop_more}
use Rattle.rv_machine.proofs.Moving.{filled_from}
use Rattle.rv_machine.proofs.Alike.{Alike, alike_count, reading_alike, trying_alike, decided_alike, loading_alike}
use Rattle.rv_machine.proofs.Ripe.{Ripe}
use Rattle.rv_machine.proofs.Clearing.{cleared_drop}
use Rattle.rv_machine.proofs.Before as B
use Rattle.rv_machine.proofs.Flushing.{alike_get, new_serial, fetched_serial}
use Rattle.rv_machine.proofs.Flushing as F

-- ---- for how many rows the token of MEM waits

abbrev accesses : Setting → ℕ → Bool
accesses k p = (judged k).course.accesses p

abbrev pub WaitSlot : Setting → ℕ → ℕ → ℕ → Option Token → Type 0
WaitSlot k p owed stage None = Unit {0}
WaitSlot k p owed stage (Some t) = stage ≡ (shape_of k).mem → t.wait ≡ (if accesses k p then owed else 0)

abbrev pub AreWaiting : Setting → ℕ → ℕ → ℕ → Slots → Type 0
AreWaiting k r owed stage [] = Unit {0}
AreWaiting k r owed stage (s ∷ older) = WaitSlot k (r + count older) owed stage s × AreWaiting k r owed (suc stage) older

-- a token past EX accesses the memory where the run does
pub makes_of : (k : Setting) (p address stage : ℕ) (older : Slots) (t : Token) → (shape_of k).ex < stage → IsPlaced k p address stage older t → makes_access t ≡ accesses k p
makes_of k p address stage older t lt i = let g = i.gone lt in ap (λ o. tried_access o) g.1 ∙ (i.tried g.0 g.1).accesses

over_count : (k : Setting) (r owed stage : ℕ) (a b : Slots) (s : Option Token) → Alike a b → WaitSlot k (r + count a) owed stage s → WaitSlot k (r + count b) owed stage s
over_count k r owed stage a b s h w = subst (λ n. WaitSlot k (r + n) owed stage s) (sym (alike_count a b h)) w

reading_waits : (k : Setting) (ready : IsReady k) (x : List ℕ) (owed : ℕ) (now : Bool) (o : Outstanding) (r stage : ℕ) (slots : Slots) → Placed k r stage slots → AreWaiting k r owed stage (reading (shape_of k) x owed now o stage slots)
reading_waits k ready x owed now o r stage [] h = tt
reading_waits k ready x owed now o r stage (None ∷ older) h = (tt, reading_waits k ready x owed now o r (suc stage) older h.1)
reading_waits k ready x owed now o r stage (Some t ∷ older) h = (
  over_count k r owed stage older (reading (shape_of k) x owed now o (suc stage) older) (Some (read_with (shape_of k) (slot_operands (shape_of k) stage (Some t) older x) owed now o stage t)) (reading_alike (shape_of k) x owed now o (suc stage) older) here,
  reading_waits k ready x owed now o r (suc stage) older h.1,
) where
  here : stage ≡ (shape_of k).mem → (if (stage == (shape_of k).mem) && makes_access t then owed else 0) ≡ (if accesses k (r + count older) then owed else 0)
  here at =
      let a = ready.ex_mem in
      ap (λ (b : Bool). if b && makes_access t then owed else 0) (same_test stage (shape_of k).mem at)
      ∙ ap (λ (b : Bool). if b then owed else 0) (makes_of k (r + count older) (expected k r (suc stage) older) stage older t (omega (arith, at, a)) h.0)

trying_waits : (k : Setting) (x : ExtensionTree) (future : List Bits) (memory : List ℕ) (owed r stage : ℕ) (slots : Slots) → AreWaiting k r owed stage slots → AreWaiting k r owed stage (trying x (shape_of k) future memory stage slots)
trying_waits k x future memory owed r stage [] h = tt
trying_waits k x future memory owed r stage (None ∷ older) h = (tt, trying_waits k x future memory owed r (suc stage) older h.1)
trying_waits k x future memory owed r stage (Some t ∷ older) h = (by_case (is_ripe (shape_of k) stage t older), trying_waits k x future memory owed r (suc stage) older h.1) where
  later : Slots
  later = trying x (shape_of k) future memory (suc stage) older

  by_case : (b : Bool) → WaitSlot k (r + count later) owed stage (if b then Some (tried_with x memory (seeing future t.inputs) t) else Some t)
  by_case true = over_count k r owed stage older later (Some (tried_with x memory (seeing future t.inputs) t)) (trying_alike x (shape_of k) future memory (suc stage) older) h.0
  by_case false = over_count k r owed stage older later (Some t) (trying_alike x (shape_of k) future memory (suc stage) older) h.0

decided_waits : (k : Setting) (owed r stage : ℕ) (slots : Slots) → AreWaiting k r owed stage slots → AreWaiting k r owed stage (decided (shape_of k) stage slots)
decided_waits k owed r stage [] h = tt
decided_waits k owed r stage (None ∷ older) h = (tt, decided_waits k owed r (suc stage) older h.1)
decided_waits k owed r stage (Some t ∷ older) h = (
  over_count k r owed stage older (decided (shape_of k) (suc stage) older) (Some t) (decided_alike (shape_of k) (suc stage) older) h.0,
  decided_waits k owed r (suc stage) older h.1,
)

loading_waits : (k : Setting) (x : ExtensionTree) (memory : List ℕ) (owed r stage : ℕ) (slots : Slots) → AreWaiting k r owed stage slots → AreWaiting k r owed stage (loading x (shape_of k) memory stage slots)
loading_waits k x memory owed r stage [] h = tt
loading_waits k x memory owed r stage (None ∷ older) h = (tt, loading_waits k x memory owed r (suc stage) older h.1)
loading_waits k x memory owed r stage (Some t ∷ older) h = (by_case (is_loading (shape_of k) stage t), loading_waits k x memory owed r (suc stage) older h.1) where
  later : Slots
  later = loading x (shape_of k) memory (suc stage) older

  by_case : (b : Bool) → WaitSlot k (r + count later) owed stage (if b then Some (tried_with x memory t.inputs t) else Some t)
  by_case true = over_count k r owed stage older later (Some (tried_with x memory t.inputs t)) (loading_alike x (shape_of k) memory (suc stage) older) h.0
  by_case false = over_count k r owed stage older later (Some t) (loading_alike x (shape_of k) memory (suc stage) older) h.0

-- from a stage on
waits_rest : (k : Setting) (owed r base n : ℕ) (slots rest : Slots) → AreWaiting k r owed base slots → drop n slots ≡ rest → AreWaiting k r owed (base + n) rest
waits_rest k owed r base zero slots rest h e = subst (λ b. AreWaiting k r owed b rest) (sym (add-zero base)) (subst (λ l. AreWaiting k r owed base l) e h)
waits_rest k owed r base (suc n) [] rest h e = subst (λ l. AreWaiting k r owed (base + suc n) l) e tt
waits_rest k owed r base (suc n) (s ∷ l) rest h e =
    let z : suc base + n ≡ base + suc n = omega arith in
    subst (λ b. AreWaiting k r owed b rest) z (waits_rest k owed r (suc base) n l rest h.1 e)

pub placed_rest : (k : Setting) (r base n : ℕ) (slots rest : Slots) → Placed k r base slots → drop n slots ≡ rest → Placed k r (base + n) rest
placed_rest k r base zero slots rest h e = subst (λ b. Placed k r b rest) (sym (add-zero base)) (subst (λ l. Placed k r base l) e h)
placed_rest k r base (suc n) [] rest h e = subst (λ l. Placed k r (base + suc n) l) e tt
placed_rest k r base (suc n) (s ∷ l) rest h e =
    let z : suc base + n ≡ base + suc n = omega arith in
    subst (λ b. Placed k r b rest) z (placed_rest k r (suc base) n l rest h.1 e)

ripe_rest : (k : Setting) (base n : ℕ) (slots rest : Slots) → Ripe k base slots → drop n slots ≡ rest → Ripe k (base + n) rest
ripe_rest k base zero slots rest h e = subst (λ b. Ripe k b rest) (sym (add-zero base)) (subst (λ l. Ripe k base l) e h)
ripe_rest k base (suc n) [] rest h e = subst (λ l. Ripe k (base + suc n) l) e tt
ripe_rest k base (suc n) (s ∷ l) rest h e =
    let z : suc base + n ≡ base + suc n = omega arith in
    subst (λ b. Ripe k b rest) z (ripe_rest k (suc base) n l rest h.1 e)

-- ---- for how many rows a module goes on

pub rest_of : (l : Slots) (n : ℕ) (t : Token) → slice_get l n ≡ Some (Some t) → (older : Slots) × (drop n l ≡ Some t ∷ older)
rest_of [] n t e = cc
rest_of (None ∷ l) zero t e = cc
rest_of (Some u ∷ l) zero t e = (l, ap (λ (v : Token). Some v ∷ l) (same_here u t e)) where
  same_here : (v w : Token) → ◌≡◌ {A = Option (Option Token)} (Some (Some v)) (Some (Some w)) → v ≡ w
  same_here v w e = cc
rest_of (s ∷ l) (suc n) t e = rest_of l n t e

-- a cell that has not stood before has not gone on
none_tailed : (k : Lawful.Setting) (rows : List Row) (s : ℕ) → ((word : ℕ) → IsWordOf k rows s word → ⊥) → Lawful.tailed k rows s ≡ 0
unfolding Lawful.tailed
none_tailed k [] s none = refl
none_tailed k (row ∷ rows) s none = by_slot (slice_get (Lawful.stages_of k row) (k.shape.stages - 1)) refl (none_tailed k rows s (λ word w. none word (inr w))) where
  by_slot : (o : Option (Option Cell)) → slice_get (Lawful.stages_of k row) (k.shape.stages - 1) ≡ o → Lawful.tailed k rows s ≡ 0 → (if Lawful.has_tail o s then suc (Lawful.tailed k rows s) else Lawful.tailed k rows s) ≡ 0
  by_slot None e z = z
  by_slot (Some None) e z = z
  by_slot (Some (Some c)) e z = by_test (c.serial == s) refl where
    by_test : (b : Bool) → (c.serial == s) ≡ b → (if b && Lawful.is_tail c.hold then suc (Lawful.tailed k rows s) else Lawful.tailed k rows s) ≡ 0
    by_test true q = absurd (none c.word (inl (k.shape.stages - 1, c, e, test_eq c.serial s q, refl)))
    by_test false q = z

module _ (k : Setting) (ready : IsReady k) (earlier : List Row) (m : Machine) (row : Row) (inv : Inv k earlier m) (is : IsRowOf k m row) where
  seen_left : (i : ℕ) (t : Token) → slice_get (seen_by k m) i ≡ Some (Some t) → (struck (turn_by k m) ≤ i) × (slice_get (loaded_by k m) i ≡ Some (Some t))
  seen_left = F.left_from k ready earlier m row inv is

  pub at_rest : (n : ℕ) (t : Token) (older : Slots) → drop n (seen_by k m) ≡ Some t ∷ older → Placed k (retirements earlier) n (Some t ∷ older)
  at_rest n t older e =
      let z : 0 + n ≡ n = omega arith in
      subst (λ b. Placed k (retirements earlier) b (Some t ∷ older)) z (placed_rest k (retirements earlier) 0 n (seen_by k m) (Some t ∷ older) (B.seen_placed k ready earlier m inv) e)

  -- the token of EX was tried where it waits for no register and no pc
  pub tried_told : (t : Token) (older : Slots) → drop (shape_of k).ex (seen_by k m) ≡ Some t ∷ older → waiting_hold (shape_of k) (shape_of k).ex t older ≡ None → (trial : Trial) × IsTried k (retirements earlier + count older) t trial
  tried_told t older e w =
      let z : 0 + (shape_of k).ex ≡ (shape_of k).ex = omega arith in
      let ripe = subst (λ b. Ripe k b (Some t ∷ older)) z (ripe_rest k 0 (shape_of k).ex (seen_by k m) (Some t ∷ older) (B.seen_ripe k ready earlier m inv) e) in
      by_trial t.trial refl (ripe.0 refl w) where
        by_trial : (o : Option Trial) → t.trial ≡ o → is_some o ≡ true → (trial : Trial) × IsTried k (retirements earlier + count older) t trial
        by_trial None q s = cc
        by_trial (Some trial) q s = (trial, (at_rest (shape_of k).ex t older e).0.tried trial q)

  -- for how many rows the token of MEM still waits
  loaded_waits : AreWaiting k (retirements earlier) (owed_by k m) 0 (loaded_by k m)
  loaded_waits =
      let r = retirements earlier in
      let owed = owed_by k m in
      let tried_slots = trying (tree_of k) (shape_of k) m.future m.arch.mem 0 (read_by k m) in
      loading_waits k (tree_of k) m.arch.mem owed r 0 (held_by k m)
      (decided_waits k owed r 0 tried_slots
      (trying_waits k (tree_of k) m.future m.arch.mem owed r 0 (read_by k m)
      (reading_waits k ready m.arch.x owed (interrupted_by k m) (outstanding_in k m) r 0 (filled_by k m) (B.filled_placed k ready earlier m inv))))

  mem_loaded : (t : Token) (older : Slots) → drop (shape_of k).mem (seen_by k m) ≡ Some t ∷ older → (struck (turn_by k m) ≤ (shape_of k).mem) × (drop (shape_of k).mem (loaded_by k m) ≡ Some t ∷ older)
  mem_loaded t older e =
      let x = seen_left (shape_of k).mem t (here_of (seen_by k m) older t (shape_of k).mem e) in
      (x.0, sym (cleared_drop (struck (turn_by k m)) (shape_of k).mem (loaded_by k m) x.0 (B.struck_inside k ready earlier m inv)) ∙ e)

  pub awaits_told : (t : Token) (older : Slots) → drop (shape_of k).mem (seen_by k m) ≡ Some t ∷ older → t.wait ≡ (if makes_access t then owed_by k m else 0)
  awaits_told t older e =
      let z : 0 + (shape_of k).mem ≡ (shape_of k).mem = omega arith in
      let w = waits_rest k (owed_by k m) (retirements earlier) 0 (shape_of k).mem (loaded_by k m) (Some t ∷ older) loaded_waits (mem_loaded t older e).1 in
      let makes = makes_of k (retirements earlier + count older) (expected k (retirements earlier) (suc (shape_of k).mem) older) (shape_of k).mem older t ready.ex_mem (at_rest (shape_of k).mem t older e).0 in
      w.0 z ∙ ap (λ (b : Bool). if b then owed_by k m else 0) (sym makes)

  -- MEM lies past stage 0
  below_mem : (n : ℕ) × (suc n ≡ (shape_of k).mem)
  below_mem = let a = ready.ex_mem in ((shape_of k).mem - 1, omega (arith, a))

  pub mem_alike : (t : Token) (older : Slots) → drop (shape_of k).mem (seen_by k m) ≡ Some t ∷ older → Alike (drop (shape_of k).mem m.slots) (Some t ∷ older)
  mem_alike t older e =
      subst (λ l. Alike (drop (shape_of k).mem m.slots) l) (mem_loaded t older e).1
      (subst (λ n. Alike (drop n m.slots) (drop n (loaded_by k m))) below_mem.1 (B.loaded_from k ready earlier m inv below_mem.0))

  stood_told : (t : Token) (older l : Slots) → drop (shape_of k).mem m.slots ≡ l → Alike l (Some t ∷ older) → m.stood ≡ Lawful.stood (judged k) earlier t.cell.serial
  stood_told t older [] e h = absurd h
  stood_told t older (None ∷ l) e h = absurd h.0
  stood_told t older (Some u ∷ l) e h = inv.stood_is u l e ∙ ap (λ n. Lawful.stood (judged k) earlier n) (sym h.0.serial)

  pub stood_of : (t : Token) (older : Slots) → drop (shape_of k).mem (seen_by k m) ≡ Some t ∷ older → m.stood ≡ Lawful.stood (judged k) earlier t.cell.serial
  stood_of t older e = stood_told t older (drop (shape_of k).mem m.slots) refl (mem_alike t older e)

  counted : (t : Token) (older l : Slots) → drop (shape_of k).mem m.slots ≡ l → Alike l (Some t ∷ older) → count (drop (suc (shape_of k).mem) m.slots) ≡ count older
  counted t older [] e h = absurd h
  counted t older (s ∷ l) e h = ap count (drop_more m.slots l s (shape_of k).mem e) ∙ sym (alike_count l older h.1)

  pub memory_told : (t : Token) (older : Slots) → drop (shape_of k).mem (seen_by k m) ≡ Some t ∷ older
      → owed_by k m ≡ wait_at k.waits (Lawful.accesses_before (judged k).course (retirements earlier + count older)) - Lawful.stood (judged k) earlier t.cell.serial
  memory_told t older e =
      let h = mem_alike t older e in
      ap (λ n. wait_at k.waits n - m.stood) (inv.accesses ∙ ap (λ n. Lawful.accesses_before (judged k).course (retirements earlier + n)) (counted t older (drop (shape_of k).mem m.slots) refl h))
      ∙ ap (λ n. wait_at k.waits (Lawful.accesses_before (judged k).course (retirements earlier + count older)) - n) (stood_told t older (drop (shape_of k).mem m.slots) refl h)

  -- and for how many a module still goes on
  pub new_tail : (o : Option ℕ) (u : Token) → fetched k.design m.future m.arch.trap m.next m.fetch o ≡ Some u → u.tail ≡ u.asks.tail
  new_tail None u e = cc
  new_tail (Some word) u e = subst (λ (v : Token). v.tail ≡ v.asks.tail) (same_token _ u e) refl where
    same_token : (v w : Token) → ◌≡◌ {A = Option Token} (Some v) (Some w) → v ≡ w
    same_token v w e = cc

  -- a token that is fetched has not stood before
  pub new_untailed : (u : Token) → new_by k m ≡ Some u → Lawful.tailed (judged k) earlier u.cell.serial ≡ 0
  new_untailed u new =
      let serial = fetched_serial m.next (new_by k m) u (new_serial k.design m.future m.arch.trap m.next m.fetch (word_at k.image m.fetch)) new in
      none_tailed (judged k) earlier u.cell.serial (λ word w. let lt = inv.fresh u.cell.serial word w in absurd (omega (arith, lt, serial)))

  tail_before : (n : ℕ) (u : Token) → slice_get (fill_first (new_by k m) m.slots) n ≡ Some (Some u) → u.tail + Lawful.tailed (judged k) earlier u.cell.serial ≡ u.asks.tail
  tail_before n u e = elim (filled_from (new_by k m) n m.slots u e) [
    | inl old ↦ let x = rest_of m.slots n u old in inv.tail_is n u x.0 x.1
    | inr new ↦
        let serial = fetched_serial m.next (new_by k m) u (new_serial k.design m.future m.arch.trap m.next m.fetch (word_at k.image m.fetch)) new in
        let none = none_tailed (judged k) earlier u.cell.serial (λ word w. let lt = inv.fresh u.cell.serial word w in absurd (omega (arith, lt, serial))) in
        ap (λ i. u.tail + i) none ∙ add-zero u.tail ∙ new_tail (word_at k.image m.fetch) u new
  ]

  pub loaded_tails : (n : ℕ) (t : Token) → slice_get (loaded_by k m) n ≡ Some (Some t) → t.tail + Lawful.tailed (judged k) earlier t.cell.serial ≡ t.asks.tail
  loaded_tails n t e =
      let v = alike_get (fill_first (new_by k m) m.slots) (loaded_by k m) n t (B.loaded_alike k ready earlier m inv) e in
      ap (λ i. i + Lawful.tailed (judged k) earlier t.cell.serial) v.2.tail
      ∙ ap (λ i. v.0.tail + Lawful.tailed (judged k) earlier i) v.2.serial
      ∙ tail_before n v.0 v.1
      ∙ sym (ap (λ (a : Asks). a.tail) v.2.asks)

  pub modules_told : (n : ℕ) (t : Token) (older : Slots) → drop n (seen_by k m) ≡ Some t ∷ older → t.tail + Lawful.tailed (judged k) earlier t.cell.serial ≡ t.asks.tail
  modules_told n t older e = loaded_tails n t (seen_left n t (here_of (seen_by k m) older t n e)).1
