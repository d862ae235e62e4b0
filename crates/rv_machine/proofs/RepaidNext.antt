-- The state behind a row, with what is owed then, is the run's.
use Rattle.std.proofs.Common.{◌≡◌, ◌≢◌, ◌∙◌, refl, sym, ap, subst, ℕ, zero, suc, ◌+◌, ◌-◌, ◌<◌, List, [], ◌∷◌, ◌++◌, length, get_or, Option, Some, None, Bool, true, false, inl, inr, arith}
use Rattle.std.specs.Prelude.{◌==◌, ◌||◌, not, is_some, slice_get}
use Rattle.std.proofs.lemmas.Bool.{false≢true}
use Rattle.std.proofs.lemmas.Bool.Decides.{nat_tests}
use Rattle.ix_plan.specs.declared.design.Target.TheVariants.{X, Custom}
use Rattle.rv_asks.specs.declared.asks.Asks.{Asks}
use Rattle.rv_seq.specs.declared.arch.Arch.{Arch}
use Rattle.rv_seq.specs.declared.answer.StepAnswer.TheVariants.{Done}
use Rattle.rv_seq.specs.declared.commit.Commit.{Commit}
use Rattle.rv_seq.specs.Commits.{applied}
use Rattle.rv_seq.specs.Interrupts.{is_return, resumed}
use Rattle.rv_seq.specs.Steps.{word_at, after}
use Rattle.rv_tried.specs.Parts.{native, spawned, paid}
use Rattle.rv_trace.specs.declared.row.Row.{Row}
use Rattle.rv_trace.specs.Trace.{place, retirements}
use Rattle.rv_unit.specs.declared.entry.Entry.{Entry}
use Rattle.rv_unit.specs.Numbering.{lasts_of}
use Rattle.rv_holds.specs.declared.token.Token.{Token}
use Rattle.rv_holds.specs.Tokens.{Slots}
use Rattle.rv_holds.specs.Holds.{register_at}
use Rattle.rv_engine.specs.declared.owing.Owed.{Owed}
use Rattle.rv_engine.specs.Owing.{holder, unpaid_among, owed_by_entering}
use Rattle.rv_engine.specs.Settings.{Setting, Machine, shape_of, tree_of}
use Rattle.rv_engine.specs.Rows.{fill_first, new_by, loaded_by, left_by, native_of, arch_retired, arch_paid, paid_by, into_unit, entering_of, machine_after, IsRowOf, seen_by, written_by}
use Rattle.rv_lawful.specs.Outstanding.{Decoupled, is_register, has_target, touches, outstanding}
use Rattle.rv_lawful.specs.Sight.{asked, SpawnsNothing}
use Rattle.rv_sight.specs.Written.{IsAskedFor}
use Rattle.rv_machine.specs.Owing.{judged, repaid, IsOwing, Owing, Distinct, Apart}
use Rattle.rv_machine.specs.Placed.{run, IsReady, Inv}
use Rattle.rv_machine.specs.Told.{out_of}
use Rattle.rv_machine.proofs.Recorded.{native_word}
use Rattle.rv_machine.proofs.Repaid.{paid_resumed, repaid_resumed}
use Rattle.rv_machine.proofs.Runs.{answer, run_suc, step_at, step_word, kept_word, whole_word}
use Rattle.rv_machine.proofs.Unspawned.{native_same, record_long}
use Rattle.rv_machine.proofs.Numbers.{x_at, custom_at}
use Rattle.rv_machine.proofs.BoardHolds.{spawned_few}
use Rattle.rv_machine.proofs.Apart.{holder_parts}
use Rattle.rv_machine.proofs.Swaps.{FreeOf, RecordFree, repaid_applied, AllApart}
use Rattle.rv_machine.proofs.Repaying.{repaid_early, whole_applied, IsSparse, sparse, IsOwnWrite, own_write, sparse_apart, own_apart}
use Rattle.rv_machine.proofs.Before as B
use Rattle.rv_machine.proofs.Flushing as F
use Rattle.rv_machine.proofs.Retiring as R
use Rattle.rv_machine.proofs.Worded as W

-- ---- records of the run

pub done_word : (k : Setting) (ready : IsReady k) (p : ℕ) (c : Commit) → answer k p ≡ Done c → word_at k.image (run k p).pc ≡ Some c.word
done_word k ready p c done = by_word (word_at k.image (run k p).pc) refl where
  by_word : (o : Option ℕ) → word_at k.image (run k p).pc ≡ o → o ≡ Some c.word
  by_word None w = cc (step_at (tree_of k) k.image (run k p) None w, done)
  by_word (Some word) w = ap (λ n. Some n) (sym (kept_word k ready p word c w done).word)

-- what it writes is asked for
pub asked_for : (k : Setting) (ready : IsReady k) (p : ℕ) (c : Commit) → answer k p ≡ Done c → IsAskedFor (asked k.design c.word) c
asked_for k ready p c done =
    let w = done_word k ready p c done in
    ready.written c.word (run k p) c (ready.wide p) (ready.words p) (ready.image (run k p).pc c.word w) (ready.pcs p) (sym (step_word k p c.word w) ∙ done)

-- ---- targets

same_number : (n : ℕ) → (n == n) ≡ true
same_number n = grind (arith, nat_tests)

-- no register is a target of both
abbrev pub NoShared : Asks → Asks → Type 0
NoShared a b = (n : ℕ) → n < 48 → has_target a (register_at n) ≡ true → has_target b (register_at n) ≡ false

shared_x : (k : Setting) (word : ℕ) (a b : Asks) → a ≡ asked k.design word → NoShared a b → (r : ℕ) → a.spawned ≡ Some r → b.spawned ≡ Some r → ⊥
shared_x k word a b is h r e f =
    let here : is_register (asked k.design word).spawned r ≡ true = ap (λ (z : Asks). is_register z.spawned r) (sym is) ∙ ap (λ o. is_register o r) e ∙ same_number r in
    let few = spawned_few k.design word r here in
    let at = x_at r few in
    let first = ap (λ t. has_target a t) (sym at) ∙ ap (λ o. is_register o r) e ∙ same_number r in
    let second = ap (λ o. is_register o r) f ∙ same_number r in
    false≢true (sym (h r (omega (arith, few)) first) ∙ ap (λ t. has_target b t) (sym at) ∙ second)

shared_custom : (a b : Asks) → NoShared a b → (r : ℕ) → r < 16 → get_or a.spawned_customs r false ≡ true → get_or b.spawned_customs r false ≡ true → ⊥
shared_custom a b h r few e f =
    let at = custom_at r in
    false≢true (sym (h (32 + r) (omega (arith, few)) (ap (λ t. has_target a t) (sym at) ∙ e)) ∙ ap (λ t. has_target b t) (sym at) ∙ f)

-- the instruction touches no target of the other
abbrev pub NoTouched : Asks → Asks → Type 0
NoTouched a b = (n : ℕ) → n < 48 → touches a (register_at n) ≡ true → has_target b (register_at n) ≡ false

touched_x : (k : Setting) (word : ℕ) (a b : Asks) → b ≡ asked k.design word → NoTouched a b → (r : ℕ) → r ≢ 0 → a.destination ≡ r → b.spawned ≡ Some r → ⊥
touched_x k word a b is h r some e f =
    let here : is_register (asked k.design word).spawned r ≡ true = ap (λ (z : Asks). is_register z.spawned r) (sym is) ∙ ap (λ o. is_register o r) f ∙ same_number r in
    let few = spawned_few k.design word r here in
    let at = x_at r few in
    false≢true (sym (h r (omega (arith, few)) (ap (λ t. touches a t) (sym at) ∙ touches_it)) ∙ ap (λ t. has_target b t) (sym at) ∙ ap (λ o. is_register o r) f ∙ same_number r) where
      not_zero : (n : ℕ) → n ≢ 0 → not (n == 0) ≡ true
      not_zero n ne = by_flag (n == 0) refl where
        zero_is : (n : ℕ) → (n == 0) ≡ true → n ≡ 0
        zero_is n q = grind (arith, nat_tests)

        by_flag : (b : Bool) → (n == 0) ≡ b → not (n == 0) ≡ true
        by_flag true q = absurd (ne (zero_is n q))
        by_flag false q = ap (λ b. not b) q

      either : (b c d s : Bool) → ((b || (c || true)) || d) ≡ true
      either true c d s = refl
      either false true d s = refl
      either false false d s = refl

      touches_it : touches a (X r) ≡ true
      touches_it = rw (not_zero r some, e, same_number r) (either (r == a.first) (r == a.second) (is_register a.spawned r) false)

touched_custom : (a b : Asks) → NoTouched a b → (r : ℕ) → r < 16 → get_or a.customs r false ≡ true → get_or b.spawned_customs r false ≡ true → ⊥
touched_custom a b h r few e f =
    let at = custom_at r in
    false≢true (sym (h (32 + r) (omega (arith, few)) (ap (λ t. touches a t) (sym at) ∙ e)) ∙ ap (λ t. has_target b t) (sym at) ∙ f)

-- ---- what is owed

module _ (k : Setting) (ready : IsReady k) where
  owed_sparse : (rows : List Row) (o : Decoupled) (e : Entry) (w : Owed) → IsOwing k rows o e w → IsSparse w.asks w.writes
  owed_sparse rows o e w h =
      subst (λ z. IsSparse w.asks z) (sym h.writes)
      (sparse w.asks ((judged k).course.own (place rows o.0)) h.commit
      (subst (λ a. IsAskedFor a h.commit) (ap (λ n. asked k.design n) h.word ∙ sym h.asks) (asked_for k ready (place rows o.0) h.commit h.step)))

  free_of : (rows : List Row) (word : ℕ) (w : Owed) → w.asks ≡ asked k.design word → IsSparse w.asks w.writes → (outs : List Decoupled) (entries : List Entry) (owed : List Owed) → Owing k rows outs entries owed
      → ((n : ℕ) → n < 48 → has_target w.asks (register_at n) ≡ true → holder n owed ≡ None) → FreeOf w.writes owed
  free_of rows word w is sw [] [] [] h none = tt
  free_of rows word w is sw [] [] (v ∷ owed) h none = absurd h
  free_of rows word w is sw [] (e ∷ entries) owed h none = absurd h
  free_of rows word w is sw (o ∷ outs) [] owed h none = absurd h
  free_of rows word w is sw (o ∷ outs) (e ∷ entries) [] h none = absurd h
  free_of rows word w is sw (o ∷ outs) (e ∷ entries) (v ∷ owed) h none =
      let other : NoShared w.asks v.asks = λ n few target. (holder_parts n v owed (none n few target)).0 in (
        sparse_apart w.asks v.asks w.writes v.writes sw (owed_sparse rows o e v h.0) (shared_x k word w.asks v.asks is other) (shared_custom w.asks v.asks other),
        free_of rows word w is sw outs entries owed h.2 (λ n few target. (holder_parts n v owed (none n few target)).1),
      )

  pub all_apart : (rows : List Row) (outs : List Decoupled) (entries : List Entry) (owed : List Owed) → Owing k rows outs entries owed → Distinct owed → AllApart owed
  all_apart rows [] [] [] h d = tt
  all_apart rows [] [] (v ∷ owed) h d = absurd h
  all_apart rows [] (e ∷ entries) owed h d = absurd h
  all_apart rows (o ∷ outs) [] owed h d = absurd h
  all_apart rows (o ∷ outs) (e ∷ entries) [] h d = absurd h
  all_apart rows (o ∷ outs) (e ∷ entries) (v ∷ owed) h d =
      (free_of rows o.1 v h.0.asks (owed_sparse rows o e v h.0) outs entries owed h.2 d.0, all_apart rows outs entries owed h.2 d.1)

  -- a record of an instruction that touches nothing that is owed
  record_free : (rows : List Row) (a : Asks) (c : Commit) → IsOwnWrite a c → (outs : List Decoupled) (entries : List Entry) (owed : List Owed) → Owing k rows outs entries owed
      → ((n : ℕ) → n < 48 → touches a (register_at n) ≡ true → holder n owed ≡ None) → RecordFree c owed
  record_free rows a c own [] [] [] h none = tt
  record_free rows a c own [] [] (v ∷ owed) h none = absurd h
  record_free rows a c own [] (e ∷ entries) owed h none = absurd h
  record_free rows a c own (o ∷ outs) [] owed h none = absurd h
  record_free rows a c own (o ∷ outs) (e ∷ entries) [] h none = absurd h
  record_free rows a c own (o ∷ outs) (e ∷ entries) (v ∷ owed) h none =
      let other : NoTouched a v.asks = λ n few touched. (holder_parts n v owed (none n few touched)).0 in (
        own_apart a v.asks c v.writes own (owed_sparse rows o e v h.0) (touched_x k o.1 a v.asks h.0.asks other) (touched_custom a v.asks other),
        record_free rows a c own outs entries owed h.2 (λ n few touched. (holder_parts n v owed (none n few touched)).1),
      )

  -- what an instruction spawns it touches
  unspawned : (word r : ℕ) → get_or (asked k.design word).customs r false ≡ false → get_or (asked k.design word).spawned_customs r false ≡ false
  unspawned word r none = by_case (get_or (asked k.design word).spawned_customs r false) refl where
    by_case : (b : Bool) → get_or (asked k.design word).spawned_customs r false ≡ b → get_or (asked k.design word).spawned_customs r false ≡ false
    by_case false e = e
    by_case true e = absurd (false≢true (sym none ∙ ready.in_units.touching word (Custom r) e))

  -- one without a unit spawns nothing
  pub no_unit : (word : ℕ) → (asked k.design word).unit ≡ None → SpawnsNothing (asked k.design word)
  no_unit word none = record {
    x = by_x (asked k.design word).spawned refl;
    customs = λ r. by_custom r (get_or (asked k.design word).spawned_customs r false) refl;
    unit = none;
  } where
    no_target : (b : Bool) → (b ≡ true → is_some (asked k.design word).unit ≡ true) → b ≡ true → ⊥
    no_target b h e = false≢true (sym (ap (λ (o : Option ℕ). is_some o) none) ∙ h e)

    by_x : (o : Option ℕ) → (asked k.design word).spawned ≡ o → o ≡ None
    by_x None e = refl
    by_x (Some r) e = absurd (no_target true (λ q. ready.in_units.spawning word (X r) (ap (λ o. is_register o r) e ∙ same_number r)) refl)

    by_custom : (r : ℕ) (b : Bool) → get_or (asked k.design word).spawned_customs r false ≡ b → get_or (asked k.design word).spawned_customs r false ≡ false
    by_custom r false e = e
    by_custom r true e = absurd (no_target true (λ q. ready.in_units.spawning word (Custom r) e) refl)

pub length_owed : (k : Setting) (rows : List Row) (outs : List Decoupled) (entries : List Entry) (owed : List Owed) → Owing k rows outs entries owed → length owed ≡ length entries
length_owed k rows [] [] [] h = refl
length_owed k rows [] [] (v ∷ owed) h = absurd h
length_owed k rows [] (e ∷ entries) owed h = absurd h
length_owed k rows (o ∷ outs) [] owed h = absurd h
length_owed k rows (o ∷ outs) (e ∷ entries) [] h = absurd h
length_owed k rows (o ∷ outs) (e ∷ entries) (v ∷ owed) h = ap (λ n. suc n) (length_owed k rows outs entries owed h.2)

-- what a token past RD does not touch
apart_at : (k : Setting) (owed : List Owed) (stage n : ℕ) (slots : Slots) (t : Token) → Apart k owed stage slots → slice_get slots n ≡ Some (Some t) → (shape_of k).rd < stage + n → (r : ℕ) → r < 48 → touches t.asks (register_at r) ≡ true → holder r owed ≡ None
apart_at k owed stage n [] t h e lt r few touched = cc
apart_at k owed stage zero (None ∷ older) t h e lt r few touched = cc
apart_at k owed stage zero (Some u ∷ older) t h e lt r few touched =
    let same : t ≡ u = cc in
    (h.0 (omega (arith, lt))).entries r few (ap (λ (v : Token). touches v.asks (register_at r)) (sym same) ∙ touched)
apart_at k owed stage (suc n) (None ∷ older) t h e lt r few touched = apart_at k owed (suc stage) n older t h e (omega (arith, lt)) r few touched
apart_at k owed stage (suc n) (Some u ∷ older) t h e lt r few touched = apart_at k owed (suc stage) n older t h.1 e (omega (arith, lt)) r few touched

past_first : (new : Option Token) (slots : Slots) (n : ℕ) → slice_get (fill_first new slots) (suc n) ≡ slice_get slots (suc n)
past_first new [] n = refl
past_first new (s ∷ older) n = refl

-- ---- a row

module _ (k : Setting) (ready : IsReady k) (earlier : List Row) (m : Machine) (row : Row) (inv : Inv k earlier m) (is : IsRowOf k m row) where
  abbrev r : ℕ
  r = retirements earlier

  -- what goes out touches nothing that is owed
  pub left_apart : (t : Token) → left_by k m ≡ Some t → (n : ℕ) → n < 48 → touches t.asks (register_at n) ≡ true → holder n m.owed ≡ None
  left_apart t e n few touched =
      let a = ready.ex_last in
      let b = ready.rd_ex in
      let i : (shape_of k).stages - 1 ≡ suc ((shape_of k).stages - 2) = omega (arith, a) in
      let here = ap (λ j. slice_get (loaded_by k m) j) (sym i) ∙ (F.left_from k ready earlier m row inv is ((shape_of k).stages - 1) t (W.left_here k ready earlier m row inv is t e)).1 in
      let u = F.alike_get (fill_first (new_by k m) m.slots) (loaded_by k m) (suc ((shape_of k).stages - 2)) t (B.loaded_alike k ready earlier m inv) here in
      let there = sym (past_first (new_by k m) m.slots ((shape_of k).stages - 2)) ∙ u.1 in
      apart_at k m.owed 0 (suc ((shape_of k).stages - 2)) m.slots u.0 inv.apart there (omega (arith, a, b)) n few (ap (λ (x : Asks). touches x (register_at n)) (sym u.2.asks) ∙ touched)

  -- what was owed, with what is paid early
  early : (s : Arch) → repaid (unpaid_among (lasts_of k.design.plans) m.entries m.entries m.owed) (arch_paid (paid_by k m) s) ≡ repaid m.owed s
  early s =
      repaid_early (shape_of k).stages (lasts_of k.design.plans) m.entries m.entries m.owed s (length_owed k earlier (outstanding (judged k) earlier) m.entries m.owed inv.owing) inv.timed
      (all_apart k ready earlier (outstanding (judged k) earlier) m.entries m.owed inv.owing inv.distinct)

  -- where this enters, and this is written at retirement
  abbrev Behind : Option Commit → List Owed → Type 0
  Behind c new = repaid (new ++ unpaid_among (lasts_of k.design.plans) m.entries m.entries m.owed) (arch_paid (paid_by k m) (arch_retired (tree_of k) c m.arch)) ≡ run k (retirements (row ∷ earlier))

  module _ (y : R.Retirement k ready earlier m row inv is (left_by k m) row.retired) (goes : out_of (seen_by k m) ≡ 1) where
    now : run k (retirements (row ∷ earlier)) ≡ resumed (is_return (tree_of k) y.commit.word) (applied y.commit (run k (retirements earlier)))
    now =
        let z : retirements earlier + 1 ≡ suc (retirements earlier) = omega arith in
        ap (λ j. run k j) (R.retired_now k ready earlier m row inv is ∙ ap (λ o. retirements earlier + o) goes ∙ z)
        ∙ run_suc k (retirements earlier) (inv.past (suc (retirements earlier)) (omega arith))
        ∙ ap (λ a. after (tree_of k) (run k (retirements earlier)) a) y.recorded

    abbrev native_part : Commit
    native_part = native (asked k.design y.token.cell.word) ((judged k).course.blocks (retirements earlier)) y.commit

    there : word_at k.image (run k (retirements earlier)).pc ≡ Some y.token.cell.word
    there = done_word k ready (retirements earlier) y.commit y.recorded ∙ ap (λ n. Some n) y.word

    own : IsOwnWrite (asked k.design y.token.cell.word) native_part
    own =
        own_write (asked k.design y.token.cell.word) ((judged k).course.blocks (retirements earlier)) y.commit
        (subst (λ n. IsAskedFor (asked k.design n) y.commit) y.word (asked_for k ready (retirements earlier) y.commit y.recorded))
        (unspawned k ready y.token.cell.word) (kept_word k ready (retirements earlier) y.token.cell.word y.commit there y.recorded).customs

    free : RecordFree native_part m.owed
    free =
        record_free k ready earlier (asked k.design y.token.cell.word) native_part own (outstanding (judged k) earlier) m.entries m.owed inv.owing
        (λ n few touched. left_apart y.token y.is_left n few (ap (λ (a : Asks). touches a (register_at n)) y.asks ∙ touched))

    -- behind what is written at retirement
    behind_native : repaid (unpaid_among (lasts_of k.design.plans) m.entries m.entries m.owed) (arch_paid (paid_by k m) (arch_retired (tree_of k) (native_of (left_by k m)) m.arch)) ≡ resumed (is_return (tree_of k) native_part.word) (applied native_part (run k (retirements earlier)))
    behind_native =
        early (arch_retired (tree_of k) (native_of (left_by k m)) m.arch)
        ∙ ap (λ o. repaid m.owed (arch_retired (tree_of k) o m.arch)) y.writes
        ∙ repaid_resumed (is_return (tree_of k) native_part.word) m.owed (applied native_part m.arch)
        ∙ ap (λ s. resumed (is_return (tree_of k) native_part.word) s) (repaid_applied native_part m.owed m.arch free ∙ ap (λ s. applied native_part s) inv.arch)

    retiring : (o : Option ℕ) → (asked k.design y.token.cell.word).unit ≡ o → Behind (native_of (left_by k m)) (owed_by_entering (into_unit o (Some (R.owed_at k ready earlier m row inv is y.token.cell.serial y.token.cell.word y.commit))))
    retiring None e =
        behind_native
        ∙ ap (λ (c : Commit). resumed (is_return (tree_of k) c.word) (applied c (run k (retirements earlier)))) (native_same (asked k.design y.token.cell.word) (no_unit k ready y.token.cell.word e) y.commit (record_long (tree_of k) k.image (run k (retirements earlier)) y.commit y.recorded) ((judged k).course.blocks (retirements earlier)))
        ∙ sym now
    retiring (Some u) e =
        ap (λ s. paid (spawned (asked k.design y.token.cell.word) ((judged k).course.own (retirements earlier)) y.commit) s) behind_native
        ∙ paid_resumed (is_return (tree_of k) native_part.word) (spawned (asked k.design y.token.cell.word) ((judged k).course.own (retirements earlier)) y.commit) (applied native_part (run k (retirements earlier)))
        ∙ ap (λ s. resumed (is_return (tree_of k) native_part.word) s)
        (whole_applied (asked k.design y.token.cell.word) ((judged k).course.own (retirements earlier)) ((judged k).course.blocks (retirements earlier)) y.commit (run k (retirements earlier))
        (λ n few. whole_word k ready (retirements earlier) y.token.cell.word y.commit n there y.recorded few))
        ∙ ap (λ w. resumed (is_return (tree_of k) w) (applied y.commit (run k (retirements earlier)))) (native_word (asked k.design y.token.cell.word) ((judged k).course.blocks (retirements earlier)) y.commit)
        ∙ sym now

  pub repaid_next : repaid (machine_after k m).owed (written_by k m) ≡ run k (retirements (row ∷ earlier))
  repaid_next = elim (R.goes_out k ready earlier m row inv is) [
    | inl n ↦
        let z : retirements earlier + 0 ≡ retirements earlier = omega arith in
        let e = R.retired_now k ready earlier m row inv is ∙ ap (λ o. retirements earlier + o) n.2 ∙ z in
        ap (λ t. repaid (owed_by_entering (entering_of t) ++ unpaid_among (lasts_of k.design.plans) m.entries m.entries m.owed) (arch_paid (paid_by k m) (arch_retired (tree_of k) (native_of t) m.arch))) n.0
        ∙ early m.arch ∙ inv.arch ∙ ap (λ j. run k j) (sym e)
    | inr y ↦
        ap (λ enter. repaid (owed_by_entering enter ++ unpaid_among (lasts_of k.design.plans) m.entries m.entries m.owed) (arch_paid (paid_by k m) (arch_retired (tree_of k) (native_of (left_by k m)) m.arch))) y.0.enters
        ∙ retiring y.0 y.1 (asked k.design y.0.token.cell.word).unit refl
  ]
