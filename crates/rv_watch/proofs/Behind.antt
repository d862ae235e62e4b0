-- The state behind lawful rows, and what is outstanding there, are printed in form.
use Rattle.std.proofs.Common.{◌≡◌, ℕ, zero, suc, ◌+◌, ◌<◌, ◌≤◌, ◌^◌, List, [], ◌∷◌, ◌++◌, length, map, reverse, take, get_or, refl, sym, ap, ◌∙◌, subst, arith, Option, Some, None, Bool, true, false, length-set}
use Rattle.std.specs.Prelude.{slice_get, slice_index_or, IfSome, if◌then◌else◌, is_some}
use Rattle.std.specs.List.{flat_map}
use Rattle.std.proofs.lemmas.List.{length-replicate, reverse-append}
use Rattle.ix_bits.specs.declared.number.Bits.{Bits}
use Rattle.ix_tree.specs.TypedTrees.{TypedTextTree}
use Rattle.ix_extension.specs.Extensions.{ExtensionTree}
use Rattle.ix_extension.specs.WellFormed.{IsOf}
use Rattle.ix_eval.specs.Evaluated.{type_of_custom}
use Rattle.ix_plan.specs.declared.design.Target.{Target}
use Rattle.ix_plan.specs.declared.design.Target.TheVariants.{Custom as custom_target}
use Rattle.rv_asks.specs.declared.asks.Asks.{Asks}
use Rattle.rv_seq.specs.WordEffects.{AreWide}
use Rattle.rv_seq.specs.declared.arch.Arch.{Arch}
use Rattle.rv_seq.specs.declared.arch.TrapState.{TrapState}
use Rattle.rv_seq.specs.declared.commit.Commit.{Commit}
use Rattle.rv_seq.specs.declared.commit.Slot.{Slot}
use Rattle.rv_seq.specs.declared.commit.Slot.TheVariants.{Absent, Now, Later}
use Rattle.rv_seq.specs.Commits.{applied, with_x, slot_of}
use Rattle.rv_seq.specs.Interrupts.{enabled_again, is_return, resumed}
use Rattle.rv_seq.specs.Sound.{IsNowWide}
use Rattle.rv_seq.specs.States.{first}
use Rattle.rv_seq.proofs.Wide.{wide_first, wide_after}
use Rattle.rv_tried.specs.declared.parts.Spawned.{Spawned}
use Rattle.rv_tried.specs.Parts.{native_index, native_x, native_customs, native, paid}
use Rattle.rv_trace.specs.declared.row.Row.{Row}
use Rattle.rv_lawful.specs.Settings.{Setting}
use Rattle.rv_lawful.specs.Outstanding.{has_target, x_target, custom_targets, targets_of, Decoupled, decoupled_in, decoupled, without, is_written, outstanding, owed_targets, outstanding_targets}
use Rattle.rv_reader.specs.Forms.{IsWord, IsTarget}
use Rattle.rv_watch.specs.Printed.{widths_of}
use Rattle.rv_watch.proofs.CountingText.{IsOwn, AreOwn, table_or}
use Rattle.rv_watch.proofs.States.{ArePatterns, AreOwed, IsPrintedState}
use Rattle.rv_watch.proofs.Recorded.{IsCustomSome, width_within, widths_count}
use Rattle.rv_watch.proofs.Asked.{AsksFew}

-- ---- states
-- no trap state, 32 x registers, and patterns of their widths
pub record IsKept (x : ExtensionTree) (s : Arch) : Type 0 where
  pub trap : s.trap ≡ None
  pub long : length s.x ≤ 32
  pub wide : AreWide x s.custom

pub first_kept : (t : TypedTextTree) (x : ExtensionTree) → IsOf t x → IsKept x (first x)
unfolding first
first_kept t x h = record { trap = refl; long = (let l = length-replicate {A = ℕ} 32 0 in omega (arith, l)); wide = wide_first t x h }

with_long : (x : List ℕ) (rd : ℕ) (slot : Slot ℕ) → length x ≤ 32 → length (with_x x rd slot) ≤ 32
with_long x rd Absent h = h
with_long x rd (Now v) h = let l = length-set x rd v in omega (arith, l, h)
with_long x rd Later h = h

no_trap : (returns : Bool) (t : Option TrapState) → t ≡ None → (if returns then enabled_again t else t) ≡ None
no_trap true t e = ap enabled_again e
no_trap false t e = e

some_wide : (x : ExtensionTree) (late : Bool) (r : ℕ) (slot : Slot Bits) → IsCustomSome x late r slot → IsNowWide (type_of_custom x r).width slot
some_wide x late r Absent h = tt
some_wide x late r (Now b) h = h.0
some_wide x late r Later h = tt

own_wide : (x : ExtensionTree) (r : ℕ) (o : Option Bits) → IsOwn x r o → IsNowWide (type_of_custom x r).width (slot_of o)
own_wide x r None h = tt
own_wide x r (Some b) h = h.0

either_wide : (width : ℕ) (b : Bool) (s t : Slot Bits) → IsNowWide width s → IsNowWide width t → IsNowWide width (if b then s else t)
either_wide width true s t h g = h
either_wide width false s t h g = g

native_wide : (x : ExtensionTree) (spawned : List Bool) (blocks : List (Option Bits)) (slots : List (Slot Bits)) → AreOwn x blocks → ((r : ℕ) → IsCustomSome x true r (get_or slots r Absent)) → (r : ℕ) → IsNowWide (type_of_custom x r).width (get_or (native_customs spawned blocks slots) r Absent)
native_wide x spawned blocks slots h g =
    table_or (λ r slot. IsNowWide (type_of_custom x r).width slot) (λ r. if get_or spawned r false then slot_of (get_or blocks r None) else get_or slots r Absent) 16 Absent
    (λ r. either_wide (type_of_custom x r).width (get_or spawned r false) (slot_of (get_or blocks r None)) (get_or slots r Absent) (own_wide x r (get_or blocks r None) (h r)) (some_wide x true r (get_or slots r Absent) (g r))) (λ r. tt)

-- behind what retires
pub retired_kept : (x : ExtensionTree) (a : Asks) (blocks : List (Option Bits)) (c : Commit) (s : Arch) → AreOwn x blocks → ((r : ℕ) → IsCustomSome x true r (get_or c.custom r Absent)) → IsKept x s → IsKept x (resumed (is_return x c.word) (applied (native a blocks c) s))
unfolding applied native
retired_kept x a blocks c s own some h = record {
  trap = no_trap (is_return x c.word) s.trap h.trap;
  long = with_long s.x (native_index a.spawned c.rd_index) (native_x a.spawned c.rd) h.long;
  wide = wide_after x s.custom (native_customs a.spawned_customs blocks c.custom) h.wide (native_wide x a.spawned_customs blocks c.custom own some);
}

-- behind what a unit writes
pub paid_kept : (x : ExtensionTree) (w : Spawned) (s : Arch) → ((r : ℕ) → IsCustomSome x false r (get_or w.custom r Absent)) → IsKept x s → IsKept x (paid w s)
unfolding paid
paid_kept x w s some h = record { trap = h.trap; long = with_long s.x w.rd_index w.rd h.long; wide = wide_after x s.custom w.custom h.wide (λ r. some_wide x false r (get_or w.custom r Absent) (some r)) }

patterns : (widths : List ℕ) (k n : ℕ) (bs : List Bits) → k + n ≤ length widths → length widths ≤ 16 → ((r : ℕ) → r < n → IfSome (slice_get bs r) (λ b. b.width ≡ slice_index_or widths (k + r) 0)) → ArePatterns widths k (take n bs)
patterns widths k zero bs l m h = tt
patterns widths k (suc n) [] l m h = tt
patterns widths k (suc n) (b ∷ bs) l m h =
    let same : k + 0 ≡ k = omega arith in (
      omega (arith, l, m),
      omega (arith, l),
      subst (λ j. b.width ≡ slice_index_or widths j 0) same (h 0 (omega arith)),
      patterns widths (suc k) n bs (omega (arith, l)) m (λ r i. let next : k + suc r ≡ suc k + r = omega arith in subst (λ j. IfSome (slice_get bs r) (λ b. b.width ≡ slice_index_or widths j 0)) next (h (suc r) (omega (arith, i)))),
    )

width_same : (o : Option Bits) (m n : ℕ) → m ≡ n → IfSome o (λ b. b.width ≡ n) → IfSome o (λ b. b.width ≡ m)
width_same None m n e h = tt
width_same (Some b) m n e h = h ∙ sym e

pub kept_printed : (x : ExtensionTree) (s : Arch) → length x.registers ≤ 16 → IsKept x s → IsPrintedState (widths_of x) (length x.registers) s
kept_printed x s few h =
    let count = widths_count x.registers in
    record {
      trap = h.trap;
      x = h.long;
      custom =
          patterns (widths_of x) 0 (length x.registers) s.custom (omega (arith, count)) (omega (arith, count, few))
          (λ r l. let same : 0 + r ≡ r = omega arith in
          width_same (slice_get s.custom r) (slice_index_or (widths_of x) (0 + r) 0) (type_of_custom x r).width (ap (λ n. slice_index_or (widths_of x) n 0) same ∙ width_within x.registers r l) (h.wide.widths r));
    }

-- ---- what is outstanding
abbrev AreSerials : ℕ → List Decoupled → Type 0
AreSerials n [] = Unit {0}
AreSerials n (o ∷ os) = (o.0 < n) × AreSerials n os

serials_more : (n m : ℕ) (os : List Decoupled) → n ≤ m → AreSerials n os → AreSerials m os
serials_more n m [] l h = tt
serials_more n m (o ∷ os) l h = let p = h.0 in (omega (arith, l, p), serials_more n m os l h.1)

serials_join : (n : ℕ) (os ps : List Decoupled) → AreSerials n os → AreSerials n ps → AreSerials n (os ++ ps)
serials_join n [] ps h g = g
serials_join n (o ∷ os) ps h g = (h.0, serials_join n os ps h.1 g)

serials_reverse : (n : ℕ) (os : List Decoupled) → AreSerials n os → AreSerials n (reverse os)
serials_reverse n [] h = tt
serials_reverse n (o ∷ os) h = subst (AreSerials n) (sym (reverse-append (o ∷ []) os)) (serials_join n (reverse os) (o ∷ []) (serials_reverse n os h.1) (h.0, tt))

serials_without : (n : ℕ) (f : ℕ → Bool) (os : List Decoupled) → AreSerials n os → AreSerials n (without f os)
serials_without n f [] h = tt
serials_without n f (o ∷ os) h = by (f o.0) (serials_without n f os h.1) where
  by : (b : Bool) → AreSerials n (without f os) → AreSerials n (if b then without f os else o ∷ without f os)
  by true rest = rest
  by false rest = (h.0, rest)

module _ (k : Setting) where
  -- each row retires a serial that is below the count of the rows up to it
  abbrev pub AreCounted : List Row → Type 0
  AreCounted [] = Unit {0}
  AreCounted (row ∷ earlier) = ((s : ℕ) (c : Commit) → row.retired ≡ Some (s, c) → s < suc (length earlier)) × AreCounted earlier

  retired_serials : (n : ℕ) (o : Option (ℕ × Commit)) → ((s : ℕ) (c : Commit) → o ≡ Some (s, c) → s < n) → AreSerials n (decoupled_in k o)
  retired_serials n None h = tt
  retired_serials n (Some (s, c)) h = by (is_some (k.asks c.word).unit) where
    by : (b : Bool) → AreSerials n (if b then (s, c.word) ∷ [] else [])
    by true = (h s c refl, tt)
    by false = tt

  decoupled_serials : (rows : List Row) → AreCounted rows → AreSerials (length rows) (decoupled k rows)
  unfolding decoupled
  decoupled_serials [] h = tt
  decoupled_serials (row ∷ earlier) h =
      serials_join (suc (length earlier)) (decoupled_in k row.retired) (decoupled k earlier) (retired_serials (suc (length earlier)) row.retired h.0) (serials_more (length earlier) (suc (length earlier)) (decoupled k earlier) (omega arith) (decoupled_serials earlier h.1))

  module _ (count : ℕ) (few : count ≤ 16) (asks : (word : ℕ) → AsksFew (k.asks word)) (targets : (word c : ℕ) → has_target (k.asks word) (custom_target c) ≡ true → c < count) where
    abbrev AreTargets : List Target → Type 0
    AreTargets [] = Unit {0}
    AreTargets (t ∷ ts) = IsTarget count t × AreTargets ts

    targets_join : (ts us : List Target) → AreTargets ts → AreTargets us → AreTargets (ts ++ us)
    targets_join [] us h g = g
    targets_join (t ∷ ts) us h g = (h.0, targets_join ts us h.1 g)

    x_targets : (o : Option ℕ) → ((r : ℕ) → o ≡ Some r → r < 32) → AreTargets (x_target o)
    x_targets None h = tt
    x_targets (Some r) h = let l = h r refl in ((omega (arith, l), l), tt)

    flag_targets : (c : ℕ) (flags : List Bool) → ((r : ℕ) → get_or flags r false ≡ true → c + r < count) → AreTargets (custom_targets c flags)
    flag_targets c [] h = tt
    flag_targets c (true ∷ flags) h = let l = h 0 refl in ((omega (arith, l, few), omega (arith, l)), flag_targets (suc c) flags (λ r e. let m = h (suc r) e in omega (arith, m)))
    flag_targets c (false ∷ flags) h = flag_targets (suc c) flags (λ r e. let m = h (suc r) e in omega (arith, m))

    asked_targets : (word : ℕ) → AreTargets (targets_of (k.asks word))
    asked_targets word =
        targets_join (x_target (k.asks word).spawned) (custom_targets 0 (k.asks word).spawned_customs) (x_targets (k.asks word).spawned (asks word).spawned)
        (flag_targets 0 (k.asks word).spawned_customs (λ r e. let l = targets word r e in omega (arith, l)))

    owed_one : (s : ℕ) (ts : List Target) → IsWord s → AreTargets ts → AreOwed count (map (λ t. (s, t)) ts)
    owed_one s [] w h = tt
    owed_one s (t ∷ ts) w h = (w, h.0, owed_one s ts w h.1)

    owed_join : (os ps : List (ℕ × Target)) → AreOwed count os → AreOwed count ps → AreOwed count (os ++ ps)
    owed_join [] ps h g = g
    owed_join (o ∷ os) ps h g = (h.0, h.1, owed_join os ps h.2 g)

    owed_all : (n : ℕ) (os : List Decoupled) → n < 2 ^ 31 → AreSerials n os → AreOwed count (flat_map (owed_targets k) os)
    owed_all n [] f h = tt
    owed_all n (o ∷ os) f h =
        let e : 2 ^ 31 ≡ 2147483648 = refl in
        let l = h.0 in
        owed_join (owed_targets k o) (flat_map (owed_targets k) os) (owed_one o.0 (targets_of (k.asks o.1)) (omega (arith, e, f, l)) (asked_targets o.1)) (owed_all n os f h.1)

    pub outstanding_good : (rows : List Row) → length rows < 2 ^ 31 → AreCounted rows → AreOwed count (outstanding_targets k rows)
    outstanding_good rows f h = owed_all (length rows) (reverse (outstanding k rows)) f (serials_reverse (length rows) (outstanding k rows) (serials_without (length rows) (is_written rows) (decoupled k rows) (decoupled_serials rows h)))
