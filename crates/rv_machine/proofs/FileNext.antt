-- What a row does to the future file with what is owed beside the stages.
use Rattle.std.proofs.Common.{◌≡◌, ◌∙◌, refl, sym, ap, subst, ℕ, suc, ◌+◌, ◌<◌, List, [], ◌∷◌, ◌++◌, length, get_or, Option, Some, None, Bool, true, false, arith, inl, inr}
use Rattle.std.specs.Prelude.{if◌then◌else◌, ◌&&◌, ◌||◌}
use Rattle.ix_bits.specs.declared.number.Bits.{Bits}
use Rattle.ix_eval.specs.Evaluated.{type_of_custom}
use Rattle.ix_eval.proofs.Tables.{table_length, table_at}
use Rattle.rv_asks.specs.declared.asks.Asks.{Asks}
use Rattle.rv_seq.specs.WordEffects.{AreWide}
use Rattle.rv_seq.specs.declared.commit.Slot.{Slot}
use Rattle.rv_seq.specs.declared.commit.Slot.TheVariants.{Absent, Now, Later}
use Rattle.rv_seq.specs.Commits.{with_slot}
use Rattle.rv_seq.specs.Sound.{IsNowWide}
use Rattle.rv_seq.specs.States.{zero_bit}
use Rattle.rv_seq.specs.Steps.{word_at}
use Rattle.rv_tried.specs.declared.parts.Spawned.{Spawned}
use Rattle.rv_trace.specs.declared.row.Row.{Row}
use Rattle.rv_trace.specs.Trace.{place, retirements}
use Rattle.rv_unit.specs.declared.entry.Entry.{Entry}
use Rattle.rv_unit.specs.Entries.{does_write, stepped}
use Rattle.rv_unit.specs.Numbering.{lasts_of}
use Rattle.rv_unit.specs.Timed.{IsTimed}
use Rattle.rv_unit.proofs.Moving.{alone_law}
use Rattle.rv_holds.specs.declared.token.Token.{Token}
use Rattle.rv_holds.specs.Tokens.{Slots}
use Rattle.rv_engine.specs.declared.owing.Owed.{Owed}
use Rattle.rv_engine.specs.Owing.{holder, paying_among, unpaid_among, owed_by_entering}
use Rattle.rv_engine.specs.Settings.{Setting, Machine, shape_of, tree_of}
use Rattle.rv_engine.specs.Rows.{left_by, paid_by, entering_of, into_unit, file_early, file_late, file_paid, machine_after, IsRowOf}
use Rattle.rv_lawful.specs.Future.{with_writes, is_pending}
use Rattle.rv_lawful.specs.Outstanding.{Decoupled, touches, outstanding}
use Rattle.rv_lawful.specs.Sight.{asked}
use Rattle.rv_machine.specs.Owing.{judged, paid_owed, Owing}
use Rattle.rv_machine.specs.Placed.{run, paid_file, pending_in_answer, owed_write, IsPlaced, IsReady, Inv}
use Rattle.rv_machine.proofs.Runs.{answer}
use Rattle.rv_machine.proofs.Numbers.{custom_at}
use Rattle.rv_machine.proofs.Swaps.{FreeOf, AllApart, slot_swap}
use Rattle.rv_machine.proofs.RepaidNext.{all_apart, no_unit, left_apart, length_owed}
use Rattle.rv_machine.proofs.Repaying.{unpaid_same}
use Rattle.rv_machine.proofs.ApartNext.{unpaid_holder}
use Rattle.rv_machine.proofs.PaidFile.{spawned_at, unowed_custom, paid_at}
use Rattle.rv_machine.proofs.Future.{late_in_answer, late_of, early_in_answer, retire_late, leave_early, early_none, late_none, Retires, Executes, step_wide}
use Rattle.rv_machine.proofs.WideFuture.{wide_at, wide_of, slot_wide}
use Rattle.rv_machine.proofs.Retiring as R
use Rattle.rv_machine.proofs.OwingNext as O

-- ---- a unit writes before its turn

-- a register after what a unit writes
abbrev put_paid : ℕ → Option Owed → Bits → Bits
put_paid reg None v = v
put_paid reg (Some o) v = with_slot v (get_or o.writes.custom reg Absent)

later_paid : (w : Spawned) (owed : List Owed) (reg : ℕ) (v : Bits) → reg < 16 → FreeOf w owed → paid_owed reg owed (with_slot v (get_or w.custom reg Absent)) ≡ with_slot (paid_owed reg owed v) (get_or w.custom reg Absent)
later_paid w [] reg v few h = refl
later_paid w (o ∷ older) reg v few h =
    ap (λ b. with_slot b (get_or o.writes.custom reg Absent)) (later_paid w older reg v few h.1)
    ∙ slot_swap (paid_owed reg older v) (get_or w.custom reg Absent) (get_or o.writes.custom reg Absent) (h.0.customs reg few)

paid_early : (stages : ℕ) (lasts : List ℕ) (all entries : List Entry) (owed : List Owed) (reg : ℕ) (v : Bits) → reg < 16 → length owed ≡ length entries → IsTimed stages lasts entries → AllApart owed →
    paid_owed reg (unpaid_among lasts all entries owed) (put_paid reg (paying_among lasts all entries owed) v) ≡ paid_owed reg owed v
paid_early stages lasts all [] [] reg v few same timed apart = refl
paid_early stages lasts all [] (w ∷ owed) reg v few same timed apart = cc
paid_early stages lasts all (e ∷ entries) [] reg v few same timed apart = cc
paid_early stages lasts all (e ∷ entries) (w ∷ owed) reg v few same timed apart = by_case (does_write lasts all e) refl (paid_early stages lasts all entries owed reg v few (omega (arith, same)) timed.2 apart.1) where
  by_case : (b : Bool) → does_write lasts all e ≡ b → paid_owed reg (unpaid_among lasts all entries owed) (put_paid reg (paying_among lasts all entries owed) v) ≡ paid_owed reg owed v
      → paid_owed reg (if b then unpaid_among lasts all entries owed else w ∷ unpaid_among lasts all entries owed) (put_paid reg (if b then Some w else paying_among lasts all entries owed) v) ≡ with_slot (paid_owed reg owed v) (get_or w.writes.custom reg Absent)
  by_case true q rest =
      ap (λ l. paid_owed reg l (with_slot v (get_or w.writes.custom reg Absent))) (unpaid_same lasts all entries owed (omega (arith, same)) (alone_law stages lasts all e entries timed q))
      ∙ later_paid w.writes owed reg v few apart.0
  by_case false q rest = ap (λ b. with_slot b (get_or w.writes.custom reg Absent)) rest

-- the file after it
paid_get : (o : Option Owed) (file : List Bits) (reg : ℕ) → reg < 16 → get_or (file_paid o file) reg zero_bit ≡ put_paid reg o (get_or file reg zero_bit)
paid_get None file reg few = refl
paid_get (Some o) file reg few = table_at (λ r. with_slot (get_or file r zero_bit) (get_or o.writes.custom r Absent)) 16 reg zero_bit few

-- ---- what goes out

-- a late write, and then the spawned one
twice : (v : Bits) (s : Slot Bits) → with_slot (with_slot v s) s ≡ with_slot v s
twice v Absent = refl
twice v (Now b) = refl
twice v Later = refl

retire_parts : (v : Bits) (l sp own : Bool) (s : Slot Bits) → with_slot (with_slot v (if l && own then s else Absent)) (if sp && own then s else Absent) ≡ with_slot v (if (l || sp) && own then s else Absent)
retire_parts v true true true s = twice v s
retire_parts v true false true s = refl
retire_parts v false true true s = refl
retire_parts v false false true s = refl
retire_parts v true true false s = refl
retire_parts v true false false s = refl
retire_parts v false true false s = refl
retire_parts v false false false s = refl

module _ (k : Setting) (ready : IsReady k) (earlier : List Row) (m : Machine) (row : Row) (inv : Inv k earlier m) (is : IsRowOf k m row) (reg : ℕ) (few : reg < 16) where
  abbrev rest : List Owed
  rest = unpaid_among (lasts_of k.design.plans) m.entries m.entries m.owed

  abbrev first : Bits
  first = get_or (file_paid (paid_by k m) m.future) reg zero_bit

  -- the unpaid ones, with what is paid
  rest_first : paid_owed reg (unpaid_among (lasts_of k.design.plans) m.entries m.entries m.owed) (get_or (file_paid (paid_by k m) m.future) reg zero_bit) ≡ get_or (paid_file m.owed m.future) reg zero_bit
  rest_first =
      ap (λ v. paid_owed reg (unpaid_among (lasts_of k.design.plans) m.entries m.entries m.owed) v) (paid_get (paid_by k m) m.future reg few)
      ∙ paid_early (shape_of k).stages (lasts_of k.design.plans) m.entries m.entries m.owed reg (get_or m.future reg zero_bit) few (length_owed k earlier (outstanding (judged k) earlier) m.entries m.owed inv.owing) inv.timed
      (all_apart k ready earlier (outstanding (judged k) earlier) m.entries m.owed inv.owing inv.distinct)
      ∙ sym (paid_at m.owed m.future reg few)

  -- a register that nothing owes before the row
  rest_unowed : (v : Bits) → holder (32 + reg) m.owed ≡ None → paid_owed reg (unpaid_among (lasts_of k.design.plans) m.entries m.entries m.owed) v ≡ v
  rest_unowed v none =
      unowed_custom k (row ∷ earlier) _ (stepped (lasts_of k.design.plans) m.entries m.entries) (unpaid_among (lasts_of k.design.plans) m.entries m.entries m.owed) reg v few (O.older_next k ready earlier m row inv is)
      (unpaid_holder (32 + reg) (lasts_of k.design.plans) m.entries m.entries m.owed none)

  module _ (y : R.Retirement k ready earlier m row inv is (left_by k m) row.retired) where
    abbrev asks : Asks
    asks = asked k.design y.token.cell.word

    abbrev own : List Bool
    own = (judged k).course.own (retirements earlier)

    abbrev late : Slot Bits
    late = if get_or (asked k.design y.token.cell.word).late_customs reg false && get_or ((judged k).course.own (retirements earlier)) reg false then get_or y.commit.custom reg Absent else Absent

    abbrev pend : Slot Bits
    pend = if is_pending (asked k.design y.token.cell.word) reg && get_or ((judged k).course.own (retirements earlier)) reg false then get_or y.commit.custom reg Absent else Absent

    -- with what enters
    with_new : (o : Option ℕ) → (asked k.design y.token.cell.word).unit ≡ o → (v : Bits)
        → paid_owed reg (owed_by_entering (into_unit o (Some (R.owed_at k ready earlier m row inv is y.token.cell.serial y.token.cell.word y.commit))) ++ unpaid_among (lasts_of k.design.plans) m.entries m.entries m.owed) v
        ≡ with_slot (paid_owed reg (unpaid_among (lasts_of k.design.plans) m.entries m.entries m.owed) v)
        (if get_or (asked k.design y.token.cell.word).spawned_customs reg false && get_or ((judged k).course.own (retirements earlier)) reg false then get_or y.commit.custom reg Absent else Absent)
    with_new None e v =
        let none = (no_unit k ready y.token.cell.word e).customs reg in
        ap (λ (b : Bool). with_slot (paid_owed reg (unpaid_among (lasts_of k.design.plans) m.entries m.entries m.owed) v) (if b && get_or ((judged k).course.own (retirements earlier)) reg false then get_or y.commit.custom reg Absent else Absent)) (sym none)
    with_new (Some u) e v =
        ap (λ s. with_slot (paid_owed reg (unpaid_among (lasts_of k.design.plans) m.entries m.entries m.owed) v) s)
        (spawned_at (asked k.design y.token.cell.word) ((judged k).course.own (retirements earlier)) y.commit reg few)

    -- a late write to a register that is owed: there is none
    pay_late : (b : Bool) → get_or y.token.asks.customs reg false ≡ b → (v : Bits)
        → paid_owed reg (unpaid_among (lasts_of k.design.plans) m.entries m.entries m.owed) (with_slot v (late_of k y.token.asks (retirements earlier) reg)) ≡ with_slot (paid_owed reg (unpaid_among (lasts_of k.design.plans) m.entries m.entries m.owed) v) (late_of k y.token.asks (retirements earlier) reg)
    pay_late true e v =
        let none = left_apart k ready earlier m row inv is y.token y.is_left (32 + reg) (omega (arith, few)) (ap (λ g. touches y.token.asks g) (sym (custom_at reg)) ∙ e) in
        rest_unowed (with_slot v (late_of k y.token.asks (retirements earlier) reg)) none ∙ ap (λ b. with_slot b (late_of k y.token.asks (retirements earlier) reg)) (sym (rest_unowed v none))
    pay_late false e v =
        let none : late_of k y.token.asks (retirements earlier) reg ≡ Absent = late_none k ready (retirements earlier) reg y.token.asks y.token.cell.word y.asks e in
        ap (λ s. paid_owed reg (unpaid_among (lasts_of k.design.plans) m.entries m.entries m.owed) (with_slot v s)) none
        ∙ ap (λ s. with_slot (paid_owed reg (unpaid_among (lasts_of k.design.plans) m.entries m.entries m.owed) v) s) (sym none)

    goes_out : (w : Bits) → w ≡ with_slot (get_or (file_paid (paid_by k m) m.future) reg zero_bit) (late_of k y.token.asks (retirements earlier) reg) →
        paid_owed reg (owed_by_entering (entering_of (left_by k m)) ++ unpaid_among (lasts_of k.design.plans) m.entries m.entries m.owed) w ≡ with_slot (get_or (paid_file m.owed m.future) reg zero_bit) (owed_write k y.token.asks (retirements earlier) reg)
    goes_out w e =
        let a = asked k.design y.token.cell.word in
        let done = y.recorded in
        ap (λ v. paid_owed reg (owed_by_entering (entering_of (left_by k m)) ++ unpaid_among (lasts_of k.design.plans) m.entries m.entries m.owed) v) e
        ∙ ap (λ enter. paid_owed reg (owed_by_entering enter ++ unpaid_among (lasts_of k.design.plans) m.entries m.entries m.owed) (with_slot (get_or (file_paid (paid_by k m) m.future) reg zero_bit) (late_of k y.token.asks (retirements earlier) reg))) y.enters
        ∙ with_new (asked k.design y.token.cell.word).unit refl (with_slot (get_or (file_paid (paid_by k m) m.future) reg zero_bit) (late_of k y.token.asks (retirements earlier) reg))
        ∙ ap (λ b. with_slot b (if get_or (asked k.design y.token.cell.word).spawned_customs reg false && get_or ((judged k).course.own (retirements earlier)) reg false then get_or y.commit.custom reg Absent else Absent))
        (pay_late (get_or y.token.asks.customs reg false) refl (get_or (file_paid (paid_by k m) m.future) reg zero_bit)
        ∙ ap (λ b. with_slot b (late_of k y.token.asks (retirements earlier) reg)) rest_first
        ∙ ap (λ z. with_slot (get_or (paid_file m.owed m.future) reg zero_bit) (late_of k z (retirements earlier) reg)) y.asks
        ∙ ap (λ z. with_slot (get_or (paid_file m.owed m.future) reg zero_bit) (late_in_answer (asked k.design y.token.cell.word) ((judged k).course.own (retirements earlier)) reg z)) y.recorded)
        ∙ retire_parts (get_or (paid_file m.owed m.future) reg zero_bit) (get_or (asked k.design y.token.cell.word).late_customs reg false) (get_or (asked k.design y.token.cell.word).spawned_customs reg false) (get_or ((judged k).course.own (retirements earlier)) reg false) (get_or y.commit.custom reg Absent)
        ∙ ap (λ z. with_slot (get_or (paid_file m.owed m.future) reg zero_bit) (pending_in_answer (asked k.design y.token.cell.word) ((judged k).course.own (retirements earlier)) reg z)) (sym y.recorded)
        ∙ ap (λ z. with_slot (get_or (paid_file m.owed m.future) reg zero_bit) (owed_write k z (retirements earlier) reg)) (sym y.asks)

  pub retires : Retires k (retirements earlier) reg (left_by k m) (get_or (paid_file m.owed m.future) reg zero_bit)
      (get_or (paid_file (machine_after k m).owed (file_late (left_by k m) (file_paid (paid_by k m) m.future))) reg zero_bit)
  retires = elim (R.goes_out k ready earlier m row inv is) [
    | inl n ↦
        subst (λ s. Retires k (retirements earlier) reg s (get_or (paid_file m.owed m.future) reg zero_bit) (get_or (paid_file (owed_by_entering (entering_of s) ++ unpaid_among (lasts_of k.design.plans) m.entries m.entries m.owed) (file_late s (file_paid (paid_by k m) m.future))) reg zero_bit)) (sym n.0)
        (paid_at (unpaid_among (lasts_of k.design.plans) m.entries m.entries m.owed) (file_paid (paid_by k m) m.future) reg few ∙ rest_first)
    | inr y ↦ by_token y.0 (left_by k m) refl
  ] where
    same_token : (t u : Token) → ◌≡◌ {A = Option Token} (Some t) (Some u) → t ≡ u
    same_token t u e = cc

    by_token : (y : R.Retirement k ready earlier m row inv is (left_by k m) row.retired) (s : Option Token) → left_by k m ≡ s
        → Retires k (retirements earlier) reg s (get_or (paid_file m.owed m.future) reg zero_bit) (get_or (paid_file (machine_after k m).owed (file_late s (file_paid (paid_by k m) m.future))) reg zero_bit)
    by_token y None e = cc (y.is_left, e)
    by_token y (Some t) e =
        let same = same_token y.token t (sym y.is_left ∙ e) in
        paid_at (machine_after k m).owed (file_late (Some t) (file_paid (paid_by k m) m.future)) reg few
        ∙ goes_out y (get_or (file_late (Some t) (file_paid (paid_by k m) m.future)) reg zero_bit)
        (retire_late k ready (retirements earlier) reg few t (run k (retirements earlier)).pc (file_paid (paid_by k m) m.future) (R.left_is k ready earlier m row inv is t e)
        ∙ ap (λ (v : Token). with_slot (get_or (file_paid (paid_by k m) m.future) reg zero_bit) (late_of k v.asks (retirements earlier) reg)) (sym same))
        ∙ ap (λ (v : Token). with_slot (get_or (paid_file m.owed m.future) reg zero_bit) (owed_write k v.asks (retirements earlier) reg)) same

  -- what leaves EX writes no register that is owed
  pub executes : (p address : ℕ) (older : Slots) (t : Token) (file : List Bits) → IsPlaced k p address (suc (shape_of k).ex) older t → word_at k.image (run k p).pc ≡ Some t.cell.word
      → (get_or t.asks.customs reg false ≡ true → holder (32 + reg) (machine_after k m).owed ≡ None)
      → Executes k p reg (Some t) (get_or (paid_file (machine_after k m).owed file) reg zero_bit) (get_or (paid_file (machine_after k m).owed (file_early (Some t) file)) reg zero_bit)
  executes p address older t file here there unowed =
      paid_at (machine_after k m).owed (file_early (Some t) file) reg few
      ∙ ap (λ v. paid_owed reg (machine_after k m).owed v) (leave_early k ready (retirements earlier) reg few t p address older file here)
      ∙ by_use (get_or t.asks.customs reg false) refl
      ∙ ap (λ v. with_slot v (early_in_answer t.asks ((judged k).course.blocks p) reg (answer k p))) (sym (paid_at (machine_after k m).owed file reg few)) where
        after_unowed : (v : Bits) → holder (32 + reg) (machine_after k m).owed ≡ None → paid_owed reg (machine_after k m).owed v ≡ v
        after_unowed v none = unowed_custom k (row ∷ earlier) (outstanding (judged k) (row ∷ earlier)) (machine_after k m).entries (machine_after k m).owed reg v few (O.owing_next k ready earlier m row inv is) none

        by_use : (b : Bool) → get_or t.asks.customs reg false ≡ b
            → paid_owed reg (machine_after k m).owed (with_slot (get_or file reg zero_bit) (early_in_answer t.asks ((judged k).course.blocks p) reg (answer k p)))
            ≡ with_slot (paid_owed reg (machine_after k m).owed (get_or file reg zero_bit)) (early_in_answer t.asks ((judged k).course.blocks p) reg (answer k p))
        by_use true e =
            let none = unowed e in
            after_unowed (with_slot (get_or file reg zero_bit) (early_in_answer t.asks ((judged k).course.blocks p) reg (answer k p))) none
            ∙ ap (λ v. with_slot v (early_in_answer t.asks ((judged k).course.blocks p) reg (answer k p))) (sym (after_unowed (get_or file reg zero_bit) none))
        by_use false e =
            let none : early_in_answer t.asks ((judged k).course.blocks p) reg (answer k p) ≡ Absent = early_none k ready p reg t here.asks there e in
            ap (λ s. paid_owed reg (machine_after k m).owed (with_slot (get_or file reg zero_bit) s)) none
            ∙ ap (λ s. with_slot (paid_owed reg (machine_after k m).owed (get_or file reg zero_bit)) s) (sym none)

-- ---- widths

paying_wide : (k : Setting) (ready : IsReady k) (rows : List Row) (lasts : List ℕ) (all : List Entry) (outs : List Decoupled) (entries : List Entry) (owed : List Owed) (future : List Bits) → AreWide (tree_of k) future → Owing k rows outs entries owed
    → AreWide (tree_of k) (file_paid (paying_among lasts all entries owed) future)
paying_wide k ready rows lasts all [] [] [] future wide h = wide
paying_wide k ready rows lasts all [] [] (w ∷ owed) future wide h = absurd h
paying_wide k ready rows lasts all [] (e ∷ entries) owed future wide h = absurd h
paying_wide k ready rows lasts all (o ∷ outs) [] owed future wide h = absurd h
paying_wide k ready rows lasts all (o ∷ outs) (e ∷ entries) [] future wide h = absurd h
paying_wide k ready rows lasts all (o ∷ outs) (e ∷ entries) (w ∷ owed) future wide h = by_case (does_write lasts all e) (paying_wide k ready rows lasts all outs entries owed future wide h.2) where
  slot : (reg : ℕ) → reg < 16 → IsNowWide (type_of_custom (tree_of k) reg).width (get_or w.writes.custom reg Absent)
  slot reg few =
      subst (λ s. IsNowWide (type_of_custom (tree_of k) reg).width s) (sym (ap (λ (z : Spawned). get_or z.custom reg Absent) h.0.writes ∙ spawned_at w.asks ((judged k).course.own (place rows o.0)) h.0.commit reg few))
      (by_flag (get_or w.asks.spawned_customs reg false && get_or ((judged k).course.own (place rows o.0)) reg false)) where
        by_flag : (b : Bool) → IsNowWide (type_of_custom (tree_of k) reg).width (if b then get_or h.0.commit.custom reg Absent else Absent)
        by_flag true = step_wide k ready (place rows o.0) reg few h.0.commit h.0.step
        by_flag false = tt

  by_case : (b : Bool) → AreWide (tree_of k) (file_paid (paying_among lasts all entries owed) future) → AreWide (tree_of k) (file_paid (if b then Some w else paying_among lasts all entries owed) future)
  by_case true tail =
      wide_of (tree_of k) (with_writes (λ r. get_or w.writes.custom r Absent) future) (table_length (λ r. with_slot (get_or future r zero_bit) (get_or w.writes.custom r Absent)) 16)
      (λ reg few.
      ap (λ (b : Bits). b.width) (table_at (λ r. with_slot (get_or future r zero_bit) (get_or w.writes.custom r Absent)) 16 reg zero_bit few)
      ∙ slot_wide (get_or future reg zero_bit) (get_or w.writes.custom reg Absent) (type_of_custom (tree_of k) reg).width (wide_at (tree_of k) future reg wide few) (slot reg few))
  by_case false tail = tail

pub paid_wide : (k : Setting) (ready : IsReady k) (earlier : List Row) (m : Machine) → Inv k earlier m → AreWide (tree_of k) (file_paid (paid_by k m) m.future)
paid_wide k ready earlier m inv = paying_wide k ready earlier (lasts_of k.design.plans) m.entries (outstanding (judged k) earlier) m.entries m.owed m.future inv.future_wide inv.owing
