-- A register that nothing outstanding has as its target is as it was.
use Rattle.std.proofs.Common.{◌≡◌, ◌≢◌, ℕ, ◌-◌, ◌<◌, List, [], ◌∷◌, Option, Some, None, Bool, true, false, if◌then◌else◌, nat_eq, refl, sym, ap, ◌∙◌, arith, ◌^◌}
use Rattle.std.specs.Prelude.{slice_index, nat_lt, slice_index_or}
use Rattle.std.proofs.lemmas.Bool.Decides.{nat_tests}
use Rattle.std.proofs.lemmas.List.{get_or-set_other}
use Rattle.ix_plan.specs.declared.design.Design.{Design}
use Rattle.ix_plan.specs.declared.design.Target.TheVariants.{X}
use Rattle.ix_plan.specs.declared.design.Target.TheVariants as target
use Rattle.ix_extension.specs.Extensions.{view_extension}
use Rattle.rv_isa.specs.Fields.{rd_of}
use Rattle.rv_seq.specs.declared.decoded.Decoded.{Decoded}
use Rattle.rv_seq.specs.declared.decoded.Decoded.TheVariants as D
use Rattle.rv_seq.specs.Decoding.{decoded_in}
use Rattle.rv_asks.specs.declared.asks.Asks.{Asks}
use Rattle.rv_asks.specs.Asks.{some_so, blank_in, outlines_in, asks_in}
use Rattle.rv_seq.specs.declared.arch.Arch.{Arch}
use Rattle.rv_seq.specs.declared.commit.Commit.{Commit}
use Rattle.rv_seq.specs.declared.commit.Slot.{Slot}
use Rattle.rv_seq.specs.declared.commit.Slot.TheVariants.{Absent, Now, Later}
use Rattle.rv_seq.specs.Commits.{with_x}
use Rattle.rv_tried.specs.Parts.{spawned_index, spawned_x, spawned, paid}
use Rattle.rv_trace.specs.declared.row.Row.{Row}
use Rattle.rv_trace.specs.Trace.{place}
use Rattle.rv_unit.specs.declared.entry.Entry.{Entry}
use Rattle.rv_holds.specs.Holds.{register_at}
use Rattle.rv_engine.specs.declared.owing.Owed.{Owed}
use Rattle.rv_engine.specs.Owing.{holder}
use Rattle.rv_engine.specs.Settings.{Setting, tree_of, shape_of}
use Rattle.rv_lawful.specs.Outstanding.{Decoupled, is_register, has_target}
use Rattle.rv_lawful.specs.Sight.{asked}
use Rattle.rv_machine.specs.Owing.{judged, repaid, IsOwing, Owing}
use Rattle.rv_machine.specs.Placed.{run, entries_of}
use Rattle.rv_machine.proofs.Deciding.{or_else_none, or_else_none_b, if_none, test_ne}
use Rattle.rv_machine.proofs.RunWords.{run_words, handled}
use Rattle.rv_machine.proofs.WrittenWords.{IsXWrite, step_write}

-- the x register that a word spawns is that of its field
some_rd : (b : Bool) (word n : ℕ) → some_so b (rd_of word) ≡ Some n → n ≡ rd_of word
some_rd true word n e = cc
some_rd false word n e = cc

spawned_rd_in : (d : Design) (word n : ℕ) (o : Option Decoded) → (asks_in d word o).spawned ≡ Some n → n ≡ rd_of word
unfolding asks_in
spawned_rd_in d word n None e = some_rd (blank_in d).spawned word n e
spawned_rd_in d word n (Some (D.Base b)) e = cc
spawned_rd_in d word n (Some (D.Own i)) e = some_rd (slice_index_or (outlines_in d) i (blank_in d)).spawned word n e

pub spawned_rd : (d : Design) (word n : ℕ) → (asked d word).spawned ≡ Some n → n ≡ rd_of word
spawned_rd d word n e = spawned_rd_in d word n (decoded_in (view_extension d.extension) word) e

-- a register of the base by its number
pub x_target : (a : Asks) (n : ℕ) → n < 32 → has_target a (register_at n) ≡ is_register a.spawned n
x_target a n lt = ap (λ (b : Bool). has_target a (if b then X n else target.Custom (n - 32))) (low n lt) where
  low : (n : ℕ) → n < 32 → nat_lt n 32 ≡ true
  low n lt = grind (arith, nat_tests)

-- a write of another register
other_write : (word i reg : ℕ) (slot : Slot ℕ) (x : List ℕ) → IsXWrite word i slot → (nat_eq (rd_of word) 0 ≡ false → reg ≢ rd_of word) → slice_index (with_x x i slot) reg ≡ slice_index x reg
other_write word i reg Absent x h ne = refl
other_write word i reg (Now v) x h ne = let e = h.0 in let other = ne h.1 in get_or-set_other x i reg v 0 (λ same. other (same ∙ e))
other_write word i reg Later x h ne = refl

-- what one that owes writes, where it has the register not as its target
owed_write : (a : Asks) (own : List Bool) (c : Commit) (s : Arch) (reg : ℕ) → IsXWrite c.word c.rd_index c.rd → ((n : ℕ) → a.spawned ≡ Some n → n ≡ rd_of c.word) → ((nat_eq (rd_of c.word) 0 ≡ false) → is_register a.spawned reg ≡ false)
    → slice_index (paid (spawned a own c) s).x reg ≡ slice_index s.x reg
unfolding spawned paid
owed_write a own c s reg h rd none = by_target a.spawned rd none where
  by_target : (o : Option ℕ) → ((n : ℕ) → o ≡ Some n → n ≡ rd_of c.word) → ((nat_eq (rd_of c.word) 0 ≡ false) → is_register o reg ≡ false) → slice_index (with_x s.x (spawned_index o c.rd_index) (spawned_x o c.rd)) reg ≡ slice_index s.x reg
  by_target None rd none = refl
  by_target (Some n) rd none = other_write c.word c.rd_index reg c.rd s.x h (λ q e. test_ne n reg (none q) (rd n refl ∙ sym e))

no_target_is : (n : ℕ) (w : Owed) (older : List Owed) → holder n (w ∷ older) ≡ None → (has_target w.asks (register_at n) ≡ false) × (holder n older ≡ None)
no_target_is n w older h = (
  if_none (has_target w.asks (register_at n)) w.serial (or_else_none_b (holder n older) _ h),
  or_else_none (holder n older) _ h,
)

module _ (k : Setting) (rows : List Row) (handler : (shape_of k).trap < 2 ^ 32) where
  one_unowed : (reg : ℕ) (o : Decoupled) (e : Entry) (w : Owed) (s : Arch) → IsOwing k rows o e w → ((nat_eq (rd_of o.1) 0 ≡ false) → is_register w.asks.spawned reg ≡ false) → slice_index (paid w.writes s).x reg ≡ slice_index s.x reg
  one_unowed reg o e w s h none =
      let p = place rows o.0 in
      let c = h.commit in
      ap (λ v. slice_index (paid v s).x reg) h.writes
      ∙ owed_write w.asks ((judged k).course.own p) c s reg (step_write (tree_of k) k.image (run k p) c (run_words (tree_of k) k.image (entries_of k) (handled (shape_of k).trap k.lines k.places handler) p) h.step)
      (λ n q. spawned_rd k.design o.1 n (ap (λ (a : Asks). a.spawned) (sym h.asks) ∙ q) ∙ ap rd_of (sym h.word))
      (λ q. none (ap (λ v. nat_eq (rd_of v) 0) (sym h.word) ∙ q))

  -- one that nothing owes
  pub unowed : (reg : ℕ) (outs : List Decoupled) (entries : List Entry) (owed : List Owed) (s : Arch) → reg < 32 → Owing k rows outs entries owed → holder reg owed ≡ None → slice_index (repaid owed s).x reg ≡ slice_index s.x reg
  unowed reg [] [] [] s lt h none = refl
  unowed reg (o ∷ outs) (e ∷ entries) (w ∷ owed) s lt h none =
      let n = no_target_is reg w owed none in
      one_unowed reg o e w (repaid owed s) h.0 (λ q. sym (x_target w.asks reg lt) ∙ n.0)
      ∙ unowed reg outs entries owed s lt h.2 n.1
  unowed reg [] [] (w ∷ owed) s lt h none = absurd h
  unowed reg [] (e ∷ entries) owed s lt h none = absurd h
  unowed reg (o ∷ outs) [] owed s lt h none = absurd h
  unowed reg (o ∷ outs) (e ∷ entries) [] s lt h none = absurd h

  -- x0, which is never written
  pub unowed_zero : (outs : List Decoupled) (entries : List Entry) (owed : List Owed) (s : Arch) → Owing k rows outs entries owed → slice_index (repaid owed s).x 0 ≡ slice_index s.x 0
  unowed_zero [] [] [] s h = refl
  unowed_zero (o ∷ outs) (e ∷ entries) (w ∷ owed) s h =
      one_unowed 0 o e w (repaid owed s) h.0 (λ q. by_spawned w.asks.spawned q (λ n p. spawned_rd k.design o.1 n (ap (λ (a : Asks). a.spawned) (sym h.0.asks) ∙ p)))
      ∙ unowed_zero outs entries owed s h.2 where
        not_zero : (n rd : ℕ) → n ≡ rd → nat_eq rd 0 ≡ false → nat_eq n 0 ≡ false
        not_zero n rd e q = ap (λ m. nat_eq m 0) e ∙ q

        by_spawned : (a : Option ℕ) → nat_eq (rd_of o.1) 0 ≡ false → ((n : ℕ) → a ≡ Some n → n ≡ rd_of o.1) → is_register a 0 ≡ false
        by_spawned None q rd = refl
        by_spawned (Some n) q rd = not_zero n (rd_of o.1) (rd n refl) q
  unowed_zero [] [] (w ∷ owed) s h = absurd h
  unowed_zero [] (e ∷ entries) owed s h = absurd h
  unowed_zero (o ∷ outs) [] owed s h = absurd h
  unowed_zero (o ∷ outs) (e ∷ entries) [] s h = absurd h
