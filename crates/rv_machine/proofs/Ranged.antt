-- The x registers of the machine have words after a row.
use Rattle.rv_seq.specs.Interrupts.{diverted}
use Rattle.std.proofs.Common.{◌≡◌, ℕ, ◌<◌, ◌^◌, List, Option, Some, None, Bool, refl, sym, subst, inl, inr}
use Rattle.std.specs.Prelude.{slice_index}
use Rattle.ix_bits.specs.declared.number.Bits.{Bits}
use Rattle.rv_asks.specs.declared.asks.Asks.{Asks}
use Rattle.rv_seq.specs.declared.arch.Arch.{Arch}
use Rattle.rv_seq.specs.declared.commit.Commit.{Commit}
use Rattle.rv_seq.specs.declared.commit.Slot.{Slot}
use Rattle.rv_seq.specs.declared.commit.Slot.TheVariants.{Absent, Now, Later}
use Rattle.rv_seq.specs.declared.answer.StepAnswer.TheVariants.{Done}
use Rattle.rv_seq.specs.Commits.{with_x, applied}
use Rattle.rv_tried.specs.Parts.{native_index, native_x, native, spawned_index, spawned_x, spawned, paid}
use Rattle.rv_trace.specs.declared.row.Row.{Row}
use Rattle.rv_trace.specs.Trace.{place, retirements}
use Rattle.rv_lawful.specs.Outstanding.{outstanding, after_entry}
use Rattle.rv_lawful.specs.Sight.{asked}
use Rattle.rv_unit.specs.Numbering.{lasts_of}
use Rattle.rv_engine.specs.declared.owing.Owed.{Owed}
use Rattle.rv_engine.specs.Settings.{Setting, Machine, shape_of, tree_of}
use Rattle.rv_engine.specs.Rows.{left_by, native_of, arch_retired, arch_paid, paid_by, machine_after, IsRowOf, taken_by, written_by}
use Rattle.rv_machine.specs.Owing.{judged}
use Rattle.rv_machine.specs.Placed.{run, IsReady, Inv, entries_of}
use Rattle.rv_machine.proofs.RunWords.{set_below, run_words, handled}
use Rattle.rv_machine.proofs.WrittenWords.{IsXWrite, step_write}
use Rattle.rv_machine.proofs.Runs.{answer}
use Rattle.rv_machine.proofs.Owes.{paid_is}
use Rattle.rv_machine.proofs.Retiring as R

-- each of these registers has a word
abbrev pub AreRanged : List ℕ → Type 0
AreRanged x = (reg : ℕ) → slice_index x reg < 2 ^ 32

-- a slot has a word, if anything
abbrev IsWord : Slot ℕ → Type 0
IsWord Absent = Unit {0}
IsWord (Now v) = v < 2 ^ 32
IsWord Later = Unit {0}

word_write : (word i : ℕ) (slot : Slot ℕ) → IsXWrite word i slot → IsWord slot
word_write word i Absent h = tt
word_write word i (Now v) h = h.2
word_write word i Later h = tt

with_word : (x : List ℕ) (rd : ℕ) (slot : Slot ℕ) → IsWord slot → AreRanged x → AreRanged (with_x x rd slot)
with_word x rd Absent w h = h
with_word x rd (Now v) w h = λ reg. set_below x rd v reg h w
with_word x rd Later w h = h

native_word : (o : Option ℕ) (slot : Slot ℕ) → IsWord slot → IsWord (native_x o slot)
native_word None slot h = h
native_word (Some r) slot h = tt

spawned_word : (o : Option ℕ) (slot : Slot ℕ) → IsWord slot → IsWord (spawned_x o slot)
spawned_word None slot h = tt
spawned_word (Some r) slot h = h

after_native : (a : Asks) (blocks : List (Option Bits)) (c : Commit) (s : Arch) → IsWord c.rd → AreRanged s.x → AreRanged (applied (native a blocks c) s).x
unfolding native applied
after_native a blocks c s w h = with_word s.x (native_index a.spawned c.rd_index) (native_x a.spawned c.rd) (native_word a.spawned c.rd w) h

after_spawned : (a : Asks) (own : List Bool) (c : Commit) (s : Arch) → IsWord c.rd → AreRanged s.x → AreRanged (paid (spawned a own c) s).x
unfolding spawned paid
after_spawned a own c s w h = with_word s.x (spawned_index a.spawned c.rd_index) (spawned_x a.spawned c.rd) (spawned_word a.spawned c.rd w) h

-- the entry of the handler keeps the x registers
entered_ranged : (handler : ℕ) (o : Option ℕ) (s : Arch) → AreRanged s.x → AreRanged (after_entry handler o s).x
unfolding diverted
entered_ranged handler None s h = h
entered_ranged handler (Some at) s h = h

-- what the step of a place writes
done_word : (k : Setting) (ready : IsReady k) (p : ℕ) (c : Commit) → answer k p ≡ Done c → IsWord c.rd
done_word k ready p c e = word_write c.word c.rd_index c.rd (step_write (tree_of k) k.image (run k p) c (run_words (tree_of k) k.image (entries_of k) (handled (shape_of k).trap k.lines k.places ready.handler) p) e)

module _ (k : Setting) (ready : IsReady k) (earlier : List Row) (m : Machine) (row : Row) (inv : Inv k earlier m) (is : IsRowOf k m row) where
  after_retired : AreRanged (arch_retired (tree_of k) (native_of (left_by k m)) m.arch).x
  after_retired = elim (R.goes_out k ready earlier m row inv is) [
    | inl n ↦ subst (λ t. AreRanged (arch_retired (tree_of k) (native_of t) m.arch).x) (sym n.0) inv.ranged
    | inr y ↦
        subst (λ w. AreRanged (arch_retired (tree_of k) w m.arch).x) (sym y.0.writes)
        (after_native (asked k.design y.0.token.cell.word) ((judged k).course.blocks (retirements earlier)) y.0.commit m.arch (done_word k ready (retirements earlier) y.0.commit y.0.recorded) inv.ranged)
  ]

  after_paid : (w : Option Owed) (s : Arch) → paid_by k m ≡ w → AreRanged s.x → AreRanged (arch_paid w s).x
  after_paid None s e h = h
  after_paid (Some w) s e h =
      let is_owing = (paid_is k earlier (shape_of k).stages (lasts_of k.design.plans) m.entries (outstanding (judged k) earlier) m.entries m.owed w inv.owing e).2 in
      subst (λ x. AreRanged (paid x s).x) (sym is_owing.writes)
      (after_spawned w.asks ((judged k).course.own (place earlier (paid_is k earlier (shape_of k).stages (lasts_of k.design.plans) m.entries (outstanding (judged k) earlier) m.entries m.owed w inv.owing e).0.0)) is_owing.commit s
      (done_word k ready (place earlier (paid_is k earlier (shape_of k).stages (lasts_of k.design.plans) m.entries (outstanding (judged k) earlier) m.entries m.owed w inv.owing e).0.0) is_owing.commit is_owing.step) h)

  pub ranged_next : (reg : ℕ) → slice_index (machine_after k m).arch.x reg < 2 ^ 32
  ranged_next = entered_ranged (shape_of k).trap (taken_by k m) (written_by k m) (after_paid (paid_by k m) (arch_retired (tree_of k) (native_of (left_by k m)) m.arch) refl after_retired)
