-- The records of a run without an interrupt line, and its pc, are in range.
use Rattle.std.proofs.Common.{◌≡◌, ℕ, ℤ, zero, suc, ◌+◌, ◌%◌, ◌^◌, ◌<◌, ◌≤◌, inl, inr, List, length, get_or, Option, Some, None, Bool, true, false, refl, ap, subst, arith, lit<}
use Rattle.std.specs.Prelude.{IfSome, unwrap_or, option_map, if◌then◌else◌, nat_eq, nat_le}
use Rattle.std.specs.Option.{option_or as the_or}
use Rattle.std.proofs.lemmas.Bool.{and_parts}
use Rattle.std.proofs.lemmas.Bool.Decides.{nat_tests}
use Rattle.ix_bits.specs.declared.number.Bits.{Bits}
use Rattle.ix_bits.specs.Operators.{pattern_of}
use Rattle.ix_bits.proofs.Remainders.{rem_below_lem}
use Rattle.ix_extension.specs.Extensions.{ExtensionTree}
use Rattle.ix_mean.specs.Meaning.{Inputs}
use Rattle.ix_mean.specs.Core.{u32}
use Rattle.ix_behaviour.specs.declared.which.Which.{Which}
use Rattle.ix_behaviour.specs.declared.which.Which.TheVariants as W
use Rattle.ix_eval.specs.Evaluated.{effect_at, pattern_written, type_of_custom}
use Rattle.ix_eval.specs.declared.access.Access.{Access}
use Rattle.ix_eval.specs.declared.effect.Effect.{Effect}
use Rattle.rv_isa.specs.declared.base.Base.{Base}
use Rattle.rv_isa.specs.Fields.{rd_of}
use Rattle.rv_base.specs.declared.operation.Operation.{Operation}
use Rattle.rv_base.specs.declared.operation.Operation.TheVariants as O
use Rattle.rv_base.specs.Operations.{operation_at}
use Rattle.rv_base.specs.Computing.{sum, is_taken}
use Rattle.rv_base.specs.Effects.{immediate, target_as}
use Rattle.rv_core.specs.Guesses.{guess_of}
use Rattle.rv_seq.specs.declared.decoded.Decoded.{Decoded}
use Rattle.rv_seq.specs.declared.decoded.Decoded.TheVariants as D
use Rattle.rv_seq.specs.Decoding.{decoded_in}
use Rattle.rv_seq.specs.WordEffects.{effect_of, over, blocks_effect}
use Rattle.rv_memory.specs.Room.{base, size, is_inside}
use Rattle.rv_seq.specs.declared.arch.Arch.{Arch}
use Rattle.rv_seq.specs.declared.arch.TrapState.{TrapState}
use Rattle.rv_seq.specs.declared.answer.StepAnswer.{StepAnswer}
use Rattle.rv_seq.specs.declared.answer.StepAnswer.TheVariants.{Done, Stopped}
use Rattle.rv_seq.specs.declared.commit.Commit.{Commit}
use Rattle.rv_seq.specs.declared.commit.Slot.{Slot}
use Rattle.rv_seq.specs.declared.commit.Slot.TheVariants.{Absent, Now, Later}
use Rattle.rv_seq.specs.declared.commit.Stop.{Stop}
use Rattle.rv_seq.specs.declared.commit.Stop.TheVariants.{Misaligned, DataRange}
use Rattle.rv_seq.specs.States.{first, inputs_at}
use Rattle.rv_seq.specs.Commits.{commit_of, applied, x_index, x_slot, slot_of}
use Rattle.rv_seq.specs.Interrupts.{return_to, is_return, enabled_again, resumed}
use Rattle.rv_seq.specs.Steps.{word_at, of_return, attempted, of_decoded, of_word, step, after, unless_stopped, whole_effect, own_effect}
use Rattle.rv_seq.specs.Stops.{stop_of, load_stop, store_stop, call_stop, target_stop}
use Rattle.rv_seq.specs.Runs.{run_with}
use Rattle.rv_reader.proofs.WriteLaws.{IsSize, IsStore}
use Rattle.rv_watch.proofs.CountingText.{IsOwn, AreOwn, table_or, whole_own}

-- ---- the pc
abbrev pub Below : ℕ → Type 0
Below n = n < 2 ^ 32

below_mod : (n : ℕ) → Below (n % 2 ^ 32)
below_mod n = omega arith

below_pattern : (z : ℤ) → Below (pattern_of 32 z)
below_pattern z = rem_below_lem (2 ^ 32) z (lit< tt)

below_less : (a b : ℕ) → a ≤ b → Below b → Below a
below_less a b l h = omega (arith, l, h)

abbrev pub IsBelow : Option ℕ → Type 0
IsBelow o = IfSome o (λ v. Below v)

branch_below : (t : Bool) (a : ℕ) → Below a → IsBelow (if t then Some a else None)
branch_below true a p = p
branch_below false a p = tt

target_below : (op : Operation) (b : Base) (pc x y : ℕ) → IsBelow (target_as op b pc x y)
target_below O.Upper b pc x y = tt
target_below O.UpperFromPc b pc x y = tt
target_below O.Jump b pc x y = below_mod _
target_below O.JumpRegister b pc x y = below_less _ (sum x (immediate b)) (omega arith) (below_mod _)
target_below (O.Immediate op) b pc x y = tt
target_below (O.Register op) b pc x y = tt
target_below (O.Branch test) b pc x y = branch_below (is_taken test x y) (sum pc (immediate b)) (below_mod _)
target_below (O.Load z) b pc x y = tt
target_below (O.LoadUnsigned z) b pc x y = tt
target_below (O.Store z) b pc x y = tt
target_below O.Fence b pc x y = tt
target_below O.Call b pc x y = tt
target_below O.Break b pc x y = tt

mapped_below : {A : Type 0} (f : A → ℕ) (o : Option A) → ((a : A) → Below (f a)) → IsBelow (option_map f o)
mapped_below f None h = tt
mapped_below f (Some a) h = h a

effect_jump : (x : ExtensionTree) (w : Which) (i : Inputs) → IsBelow (effect_at x w i).pc
unfolding effect_at
effect_jump x w i = mapped_below (pattern_written u32) _ (λ a. below_pattern _)

own_jump : (x : ExtensionTree) (d : Decoded) (i : Inputs) → IsBelow (effect_of x d i).pc
unfolding effect_of
own_jump x (D.Base b) i = target_below (operation_at b.row) b i.pc i.rs1 i.rs2
own_jump x (D.Own n) i = effect_jump x (W.Instruction n) i

or_below : (a b : Option ℕ) → IsBelow a → IsBelow b → IsBelow (the_or a b)
or_below None b p q = q
or_below (Some a) b p q = p

over_jump : (e f : Effect) → IsBelow e.pc → IsBelow f.pc → IsBelow (over e f).pc
unfolding over
over_jump e f p q = or_below e.pc f.pc p q

pub blocks_jump : (x : ExtensionTree) (i : Inputs) (n : ℕ) → IsBelow (blocks_effect x i n).pc
unfolding blocks_effect
blocks_jump x i zero = tt
blocks_jump x i (suc n) = over_jump (effect_at x (W.Block n) i) (blocks_effect x i n) (effect_jump x (W.Block n) i) (blocks_jump x i n)

pub guess_below : (predict : Bool) (jump : Option ℕ) (at : ℕ) → IsBelow jump → guess_of predict jump at < 2 ^ 32
guess_below true (Some target) at h = h
guess_below true None at h = below_mod (at + 4)
guess_below false jump at h = below_mod (at + 4)

-- ---- stores
or_left : (o p : Option Stop) → the_or o p ≡ None → o ≡ None
or_left None p e = refl
or_left (Some v) p e = e

or_right : (o p : Option Stop) → the_or o p ≡ None → p ≡ None
or_right None p e = e
or_right (Some v) p e = absurd cc

inside_test : (p q : Bool) → (if p then (if q then None else Some DataRange) else Some Misaligned) ≡ None → q ≡ true
inside_test true true e = refl
inside_test true false e = absurd cc
inside_test false q e = absurd cc

at_most : (n most : ℕ) → nat_le n most ≡ true → n ≤ most
at_most n most e = grind (arith, nat_tests)

inside_word : (at bytes : ℕ) → is_inside at bytes ≡ true → at ≤ 4294967295
inside_word at bytes e =
    let p = and_parts (nat_le base at) (nat_le (at + bytes) (base + size)) e in
    let l = at_most (at + bytes) (base + size) p.1 in
    let b : base + size ≡ 2148532224 = refl in
    omega (arith, l, b)

size_of : (bytes : ℕ) → 0 < bytes → bytes ≤ 4 → 4 % bytes ≡ 0 → IsSize bytes
size_of zero a b c = absurd (omega (arith, a))
size_of (suc zero) a b c = inl refl
size_of (suc (suc zero)) a b c = inr (inl refl)
size_of (suc (suc (suc zero))) a b c = absurd (let e : 4 % 3 ≡ 1 = refl in omega (arith, c, e))
size_of (suc (suc (suc (suc zero)))) a b c = inr (inr refl)
size_of (suc (suc (suc (suc (suc n))))) a b c = absurd (omega (arith, b))

store_good : (s : Option (Access × ℕ)) → store_stop s ≡ None → IsStore s
store_good None e = tt
store_good (Some s) e = (inside_word s.0.at s.0.bytes (inside_test (nat_eq (s.0.at % s.0.bytes) 0) (is_inside s.0.at s.0.bytes) e), size_of s.0.bytes s.0.some s.0.few s.0.divides_four)

stored_good : (d : Decoded) (e : Effect) → stop_of d e ≡ None → IsStore e.store
stored_good d e h =
    let a = call_stop d in
    let b = load_stop e.load in
    let s = store_stop e.store in
    store_good e.store (or_right (the_or a b) s (or_left (the_or (the_or a b) s) (target_stop d e.pc) h))

-- ---- records
-- a write of an x register with a number below 32, or none
abbrev pub IsXNow : ℕ → Slot ℕ → Type 0
IsXNow rd Absent = Unit {0}
IsXNow rd (Now v) = rd < 32
IsXNow rd Later = ⊥

-- a write of a custom register that there is, by its width, or none
abbrev pub IsCustomNow : ExtensionTree → ℕ → Slot Bits → Type 0
IsCustomNow x r Absent = Unit {0}
IsCustomNow x r (Now b) = (b.width ≡ (type_of_custom x r).width) × (r < length x.registers)
IsCustomNow x r Later = ⊥

pub record IsRanged (x : ExtensionTree) (image : List ℕ) (s : Arch) (c : Commit) : Type 0 where
  pub at : c.at ≡ s.pc
  pub word : word_at image s.pc ≡ Some c.word
  pub rd : IsXNow c.rd_index c.rd
  pub customs : (r : ℕ) → IsCustomNow x r (get_or c.custom r Absent)
  pub store : IsStore c.store
  pub next : Below c.next

-- an effect that is in range
record IsRangedEffect (x : ExtensionTree) (e : Effect) : Type 0 where
  jump : IsBelow e.pc
  customs : AreOwn x e.custom
  store : IsStore e.store

slot_now : (word : ℕ) (o : Option ℕ) → IsXNow (x_index (rd_of word) o) (x_slot (rd_of word) o)
slot_now word None = tt
slot_now word (Some v) = by_case (nat_eq (rd_of word) 0) where
  by_case : (b : Bool) → IsXNow (rd_of word) (if b then Absent else Now v)
  by_case true = tt
  by_case false = omega arith

custom_now : (x : ExtensionTree) (r : ℕ) (o : Option Bits) → IsOwn x r o → IsCustomNow x r (slot_of o)
custom_now x r None h = tt
custom_now x r (Some b) h = h

next_below : (o : Option ℕ) (at : ℕ) → IsBelow o → Below (unwrap_or o ((at + 4) % 2 ^ 32))
next_below None at p = below_mod _
next_below (Some a) at p = p

of_effect : (x : ExtensionTree) (image : List ℕ) (s : Arch) (word : ℕ) (e : Effect) → word_at image s.pc ≡ Some word → IsRangedEffect x e → IsRanged x image s (commit_of s.pc word e)
unfolding commit_of
of_effect x image s word e w h = record {
  at = refl;
  word = w;
  rd = slot_now word e.rd;
  customs = table_or (λ r slot. IsCustomNow x r slot) (λ r. slot_of (get_or e.custom r None)) 16 Absent (λ r. custom_now x r (get_or e.custom r None) (h.customs r)) (λ r. tt);
  store = h.store;
  next = next_below e.pc s.pc h.jump;
}

same_done : (a b : Commit) → ◌≡◌ {A = StepAnswer} (Done a) (Done b) → a ≡ b
same_done a b e = cc

attempted_ranged : (x : ExtensionTree) (image : List ℕ) (s : Arch) (word : ℕ) (e : Effect) (stop : Option Stop) (c : Commit) → word_at image s.pc ≡ Some word → (stop ≡ None → IsRangedEffect x e) → unless_stopped stop (Done (commit_of s.pc word e)) ≡ Done c → IsRanged x image s c
attempted_ranged x image s word e None c w h q = subst (λ (d : Commit). IsRanged x image s d) (same_done (commit_of s.pc word e) c q) (of_effect x image s word e w (h refl))
attempted_ranged x image s word e (Some stop) c w h q = cc

over_store : (e f : Effect) → IsStore e.store → IsStore (over e f).store
unfolding over
over_store e f h = h

return_ranged : (x : ExtensionTree) (image : List ℕ) (s : Arch) (word : ℕ) (back : Option ℕ) (c : Commit) → word_at image s.pc ≡ Some word → back ≡ None → of_return x s word back ≡ Done c → IsRanged x image s c
unfolding of_return
return_ranged x image s word None c w b e = cc
return_ranged x image s word (Some at) c w b e = absurd (no_back at b) where
  no_back : (n : ℕ) → Some n ≡ None → ⊥
  no_back n e = cc

decoded_ranged : (x : ExtensionTree) (image : List ℕ) (s : Arch) (word : ℕ) (o : Option Decoded) (c : Commit) → word_at image s.pc ≡ Some word → s.trap ≡ None → of_decoded x s word o ≡ Done c → IsRanged x image s c
unfolding attempted
decoded_ranged x image s word None c w t e = return_ranged x image s word (return_to word s.trap) c w (ap (return_to word) t) e
decoded_ranged x image s word (Some d) c w t e =
    let i = inputs_at word s in
    let n = length x.blocks in
    attempted_ranged x image s word (whole_effect x s word d) (stop_of d (own_effect x s word d)) c w
    (λ free. record {
      jump = over_jump (effect_of x d i) (blocks_effect x i n) (own_jump x d i) (blocks_jump x i n);
      customs = whole_own x d i n;
      store = over_store (effect_of x d i) (blocks_effect x i n) (stored_good d (effect_of x d i) free);
    }) e

-- the record of a step
pub step_ranged : (x : ExtensionTree) (image : List ℕ) (s : Arch) (c : Commit) → s.trap ≡ None → step x image s ≡ Done c → IsRanged x image s c
unfolding step
step_ranged x image s c t e = by_word (word_at image s.pc) refl e where
  by_word : (o : Option ℕ) → word_at image s.pc ≡ o → of_word x s o ≡ Done c → IsRanged x image s c
  by_word None w q = cc
  by_word (Some word) w q = decoded_ranged x image s word (decoded_in x word) c w t q

-- ---- the run
-- there is no trap state, and the pc is a word
pub record IsCalm (s : Arch) : Type 0 where
  pub trap : s.trap ≡ None
  pub pc : Below s.pc

resumed_calm : (returns : Bool) (t : Option TrapState) → t ≡ None → (if returns then enabled_again t else t) ≡ None
resumed_calm true t e = ap enabled_again e
resumed_calm false t e = e

applied_calm : (x : ExtensionTree) (image : List ℕ) (s : Arch) (c : Commit) → IsCalm s → IsRanged x image s c → IsCalm (resumed (is_return x c.word) (applied c s))
unfolding applied
applied_calm x image s c h r = record { trap = resumed_calm (is_return x c.word) s.trap h.trap; pc = r.next }

after_calm : (x : ExtensionTree) (image : List ℕ) (s : Arch) (a : StepAnswer) → IsCalm s → step x image s ≡ a → IsCalm (after x s a)
after_calm x image s (Done c) h e = applied_calm x image s c h (step_ranged x image s c h.trap e)
after_calm x image s (Stopped stop) h e = h

pub run_calm : (x : ExtensionTree) (image : List ℕ) (p : ℕ) → IsCalm (run_with x image None p)
unfolding run_with first
run_calm x image zero = record { trap = refl; pc = lit< tt }
run_calm x image (suc p) = after_calm x image (run_with x image None p) (step x image (run_with x image None p)) (run_calm x image p) refl
