-- The states of a run hold words in the x registers and the pc, and patterns of their widths in the custom registers; without an interrupt line there is no trap state.
use Rattle.std.proofs.Common.{◌≡◌, ℕ, ℤ, zero, suc, ◌+◌, ◌-◌, ◌*◌, ◌/◌, ◌%◌, ◌^◌, ◌<◌, ◌≤◌, List, [], ◌∷◌, length, get_or, Option, Some, None, Bool, true, false, if◌then◌else◌, nat_eq, refl, sym, ap, subst, arith, bit_and, lit<}
use Rattle.std.specs.Prelude.{slice_set, replicate, IfSome, unwrap_or, option_map}
use Rattle.std.specs.Option.{option_or as the_or}
use Rattle.std.proofs.Math.Nat.{div-le_self}
use Rattle.std.proofs.lemmas.Nat.{xor_of_32, or_of_32, and_le_l}
use Rattle.ix_bits.specs.Operators.{pattern_of}
use Rattle.ix_bits.proofs.Remainders.{rem_below_lem}
use Rattle.ix_tree.specs.TypedTrees.{TypedTextTree}
use Rattle.ix_extension.specs.Extensions.{ExtensionTree}
use Rattle.ix_extension.specs.WellFormed.{IsOf}
use Rattle.ix_mean.specs.Meaning.{Inputs}
use Rattle.ix_mean.specs.Core.{u32}
use Rattle.ix_behaviour.specs.declared.which.Which.{Which}
use Rattle.ix_behaviour.specs.declared.which.Which.TheVariants as W
use Rattle.ix_eval.specs.Evaluated.{effect_at, pattern_written}
use Rattle.ix_eval.specs.declared.effect.Effect.{Effect}
use Rattle.rv_isa.specs.declared.base.Base.{Base}
use Rattle.rv_isa.specs.Fields.{rd_of, rs1_of, rs2_of}
use Rattle.rv_base.specs.declared.operation.Operation.{Operation}
use Rattle.rv_base.specs.declared.operation.Operation.TheVariants as O
use Rattle.rv_base.specs.declared.operation.Alu.{Alu}
use Rattle.rv_base.specs.declared.operation.Alu.TheVariants as A
use Rattle.rv_base.specs.declared.operation.Size.{Size}
use Rattle.rv_base.specs.declared.operation.Size.TheVariants as S
use Rattle.rv_base.specs.Operations.{bytes_in, operation_at}
use Rattle.rv_base.specs.Computing.{computed, sum, bit_of, is_taken}
use Rattle.rv_base.specs.Effects.{immediate, result_as, target_as, load_as, loaded_as}
use Rattle.rv_seq.specs.BaseEffects.{base_rd}
use Rattle.rv_seq.specs.declared.decoded.Decoded.{Decoded}
use Rattle.rv_seq.specs.declared.decoded.Decoded.TheVariants as D
use Rattle.rv_seq.specs.Decoding.{decoded_in}
use Rattle.rv_seq.specs.WordEffects.{effect_of, over, blocks_effect, AreWide}
use Rattle.rv_seq.specs.declared.arch.Arch.{Arch}
use Rattle.rv_seq.specs.declared.arch.TrapState.{TrapState}
use Rattle.rv_seq.specs.declared.answer.StepAnswer.TheVariants.{Done}
use Rattle.rv_seq.specs.declared.commit.Slot.TheVariants.{Absent, Now}
use Rattle.rv_seq.specs.declared.commit.Stop.{Stop}
use Rattle.rv_seq.specs.States.{first, inputs_at}
use Rattle.rv_seq.specs.Commits.{commit_of, applied, with_x, x_index, x_slot, slots_of}
use Rattle.rv_seq.specs.Interrupts.{return_to, is_return, enabled_again, resumed}
use Rattle.rv_seq.specs.Steps.{word_at, of_return, attempted, of_decoded, of_word, step, after, unless_stopped, whole_effect, own_effect}
use Rattle.rv_seq.specs.Stops.{stop_of}
use Rattle.rv_seq.specs.Runs.{run}
use Rattle.rv_seq.specs.Runs.{run_with}
use Rattle.rv_seq.proofs.Wide.{AreFit, wide_first, whole_fit, slots_wide, wide_after}
use Rattle.rv_lawful.specs.Sight.{HasWords}

-- ---- numbers below 2^32

abbrev Below : ℕ → Type 0
Below n = n < 2 ^ 32

below_mod : (n : ℕ) → Below (n % 2 ^ 32)
below_mod n = omega arith

below_pattern : (z : ℤ) → Below (pattern_of 32 z)
below_pattern z = rem_below_lem (2 ^ 32) z (lit< tt)

below_bit : (b : Bool) → Below (bit_of b)
below_bit true = lit< tt
below_bit false = lit< tt

below_less : (a b : ℕ) → a ≤ b → Below b → Below a
below_less a b l h = omega (arith, l, h)

-- what is computed of words is a word
computed_below : (op : Alu) (a b : ℕ) → Below a → Below b → Below (computed op a b)
computed_below A.Add a b p q = below_mod (a + b)
computed_below A.Sub a b p q = below_mod (a + (2 ^ 32 - b))
computed_below A.ShiftLeft a b p q = below_mod (a * 2 ^ (b % 32))
computed_below A.LessSigned a b p q = below_bit _
computed_below A.Less a b p q = below_bit _
computed_below A.Xor a b p q = xor_of_32 a b p q
computed_below A.ShiftRight a b p q = below_less (a / 2 ^ (b % 32)) a (div-le_self a (2 ^ (b % 32))) p
computed_below A.ShiftRightSigned a b p q = below_pattern _
computed_below A.Or a b p q = or_of_32 a b p q
computed_below A.And a b p q = below_less (bit_and a b) a (and_le_l a b) p

abbrev IsBelow : Option ℕ → Type 0
IsBelow o = IfSome o (λ v. Below v)

result_below : (op : Operation) (b : Base) (pc x y : ℕ) → Below x → Below y → IsBelow (result_as op b pc x y)
result_below O.Upper b pc x y p q = below_pattern _
result_below O.UpperFromPc b pc x y p q = below_mod _
result_below O.Jump b pc x y p q = below_mod _
result_below O.JumpRegister b pc x y p q = below_mod _
result_below (O.Immediate op) b pc x y p q = computed_below op x (immediate b) p (below_pattern _)
result_below (O.Register op) b pc x y p q = computed_below op x y p q
result_below (O.Branch test) b pc x y p q = tt
result_below (O.Load size) b pc x y p q = tt
result_below (O.LoadUnsigned size) b pc x y p q = tt
result_below (O.Store size) b pc x y p q = tt
result_below O.Fence b pc x y p q = tt
result_below O.Call b pc x y p q = tt
result_below O.Break b pc x y p q = tt

branch_below : (t : Bool) (a : ℕ) → Below a → IsBelow (if t then Some a else None)
branch_below true a p = p
branch_below false a p = tt

target_below : (op : Operation) (b : Base) (pc x y : ℕ) → IsBelow (target_as op b pc x y)
target_below O.Upper b pc x y = tt
target_below O.UpperFromPc b pc x y = tt
target_below O.Jump b pc x y = below_mod _
target_below O.JumpRegister b pc x y = below_less _ (sum x (immediate b)) (omega arith) (below_mod _)
target_below (O.Immediate op) b pc x y = tt
target_below (O.Register op) b pc x y = tt
target_below (O.Branch test) b pc x y = branch_below (is_taken test x y) (sum pc (immediate b)) (below_mod _)
target_below (O.Load size) b pc x y = tt
target_below (O.LoadUnsigned size) b pc x y = tt
target_below (O.Store size) b pc x y = tt
target_below O.Fence b pc x y = tt
target_below O.Call b pc x y = tt
target_below O.Break b pc x y = tt

cut_below : (size : Size) (raw : ℕ) → Below (raw % 2 ^ (8 * bytes_in size))
cut_below S.Byte raw = omega arith
cut_below S.Half raw = omega arith
cut_below S.Word raw = omega arith

loaded_below : (op : Operation) (raw : ℕ) (size : Size) → load_as op ≡ Some size → Below (loaded_as op raw)
loaded_below (O.Load s) raw size e = below_pattern _
loaded_below (O.LoadUnsigned s) raw size e = cut_below s raw
loaded_below O.Upper raw size e = absurd (cc)
loaded_below O.UpperFromPc raw size e = absurd (cc)
loaded_below O.Jump raw size e = absurd (cc)
loaded_below O.JumpRegister raw size e = absurd (cc)
loaded_below (O.Immediate op) raw size e = absurd (cc)
loaded_below (O.Register op) raw size e = absurd (cc)
loaded_below (O.Branch test) raw size e = absurd (cc)
loaded_below (O.Store s) raw size e = absurd (cc)
loaded_below O.Fence raw size e = absurd (cc)
loaded_below O.Call raw size e = absurd (cc)
loaded_below O.Break raw size e = absurd (cc)

-- ---- effects

base_rd_below : (b : Base) (i : Inputs) (o : Option Size) → load_as (operation_at b.row) ≡ o → Below i.rs1 → Below i.rs2 → IsBelow (base_rd b i o)
base_rd_below b i None e p q = result_below (operation_at b.row) b i.pc i.rs1 i.rs2 p q
base_rd_below b i (Some size) e p q = loaded_below (operation_at b.row) _ size e

mapped_below : {A : Type 0} (f : A → ℕ) (o : Option A) → ((a : A) → Below (f a)) → IsBelow (option_map f o)
mapped_below f None h = tt
mapped_below f (Some a) h = h a

-- an effect that writes words to rd and to the pc
record Writes (e : Effect) : Type 0 where
  pub rd : IsBelow e.rd
  pub pc : IsBelow e.pc

effect_at_below : (x : ExtensionTree) (w : Which) (i : Inputs) → Writes (effect_at x w i)
unfolding effect_at
effect_at_below x w i = record { rd = mapped_below (pattern_written u32) _ (λ a. below_pattern _); pc = mapped_below (pattern_written u32) _ (λ a. below_pattern _) }

own_below : (x : ExtensionTree) (d : Decoded) (i : Inputs) → Below i.rs1 → Below i.rs2 → Writes (effect_of x d i)
unfolding effect_of
own_below x (D.Base b) i p q = record { rd = base_rd_below b i (load_as (operation_at b.row)) refl p q; pc = target_below (operation_at b.row) b i.pc i.rs1 i.rs2 }
own_below x (D.Own n) i p q = effect_at_below x (W.Instruction n) i

or_below : (a b : Option ℕ) → IsBelow a → IsBelow b → IsBelow (the_or a b)
or_below None b p q = q
or_below (Some a) b p q = p

over_below : (e f : Effect) → Writes e → Writes f → Writes (over e f)
unfolding over
over_below e f p q = record { rd = p.rd; pc = or_below e.pc f.pc p.pc q.pc }

blocks_below : (x : ExtensionTree) (i : Inputs) (n : ℕ) → Writes (blocks_effect x i n)
unfolding blocks_effect
blocks_below x i zero = record { rd = tt; pc = tt }
blocks_below x i (suc n) = over_below (effect_at x (W.Block n) i) (blocks_effect x i n) (effect_at_below x (W.Block n) i) (blocks_below x i n)

-- ---- states

-- the registers and the pc hold words, the custom ones patterns of their widths, and there is no trap state
pub record IsSoundState (x : ExtensionTree) (s : Arch) : Type 0 where
  pub registers : HasWords s
  pub pc : s.pc < 2 ^ 32
  pub wide : AreWide x s.custom
  pub quiet : s.trap ≡ None

set_below : (xs : List ℕ) (i v r : ℕ) → ((n : ℕ) → Below (get_or xs n 0)) → Below v → Below (get_or (slice_set xs i v) r 0)
set_below [] i v r h p = h r
set_below (x ∷ xs) zero v zero h p = p
set_below (x ∷ xs) zero v (suc r) h p = h (suc r)
set_below (x ∷ xs) (suc i) v zero h p = h zero
set_below (x ∷ xs) (suc i) v (suc r) h p = set_below xs i v r (λ n. h (suc n)) p

slot_below : (x : List ℕ) (rd value r : ℕ) (t : Bool) → ((n : ℕ) → Below (get_or x n 0)) → Below value → nat_eq rd 0 ≡ t → Below (get_or (with_x x rd (x_slot rd (Some value))) r 0)
slot_below x rd value r true h p e = subst (λ (s : Bool). Below (get_or (with_x x rd (if s then Absent else Now value)) r 0)) (sym e) (h r)
slot_below x rd value r false h p e = subst (λ (s : Bool). Below (get_or (with_x x rd (if s then Absent else Now value)) r 0)) (sym e) (set_below x rd value r h p)

with_x_below : (x : List ℕ) (rd r : ℕ) (o : Option ℕ) → ((n : ℕ) → Below (get_or x n 0)) → IsBelow o → Below (get_or (with_x x (x_index rd o) (x_slot rd o)) r 0)
with_x_below x rd r None h p = h r
with_x_below x rd r (Some value) h p = slot_below x rd value r (nat_eq rd 0) h p refl

next_below : (o : Option ℕ) (at : ℕ) → IsBelow o → Below (unwrap_or o ((at + 4) % 2 ^ 32))
next_below None at p = below_mod _
next_below (Some a) at p = p

written_sound : (x : ExtensionTree) (s : Arch) (word : ℕ) (e : Effect) → IsSoundState x s → Writes e → AreFit x e.custom → IsSoundState x (applied (commit_of s.pc word e) s)
unfolding applied commit_of
written_sound x s word e h w f = record {
  registers = λ r. with_x_below s.x (rd_of word) r e.rd h.registers w.rd;
  pc = next_below e.pc s.pc w.pc;
  wide = wide_after x s.custom (slots_of e.custom) h.wide (slots_wide x e.custom f);
  quiet = h.quiet;
}

again_none : (returns : Bool) (t : Option TrapState) → t ≡ None → (if returns then enabled_again t else t) ≡ None
again_none true t e = ap (λ o. enabled_again o) e
again_none false t e = e

resumed_sound : (x : ExtensionTree) (returns : Bool) (s : Arch) → IsSoundState x s → IsSoundState x (resumed returns s)
resumed_sound x returns s h = record { registers = h.registers; pc = h.pc; wide = h.wide; quiet = again_none returns s.trap h.quiet }

attempted_sound : (x : ExtensionTree) (s : Arch) (word : ℕ) (e : Effect) (stop : Option Stop) → IsSoundState x s → Writes e → AreFit x e.custom → IsSoundState x (after x s (unless_stopped stop (Done (commit_of s.pc word e))))
attempted_sound x s word e None h w f = resumed_sound x (is_return x (commit_of s.pc word e).word) (applied (commit_of s.pc word e) s) (written_sound x s word e h w f)
attempted_sound x s word e (Some stop) h w f = h

-- without a trap state no word returns
unknown_sound : (x : ExtensionTree) (s : Arch) (word : ℕ) → IsSoundState x s → IsSoundState x (after x s (of_return x s word (return_to word s.trap)))
unfolding of_return
unknown_sound x s word h = subst (λ (t : Option TrapState). IsSoundState x (after x s (of_return x s word (return_to word t)))) (sym h.quiet) h

decoded_sound : (x : ExtensionTree) (s : Arch) (word : ℕ) (o : Option Decoded) → IsSoundState x s → IsSoundState x (after x s (of_decoded x s word o))
unfolding attempted
decoded_sound x s word None h = unknown_sound x s word h
decoded_sound x s word (Some d) h =
    let blocks = blocks_effect x (inputs_at word s) (length x.blocks) in
    attempted_sound x s word (whole_effect x s word d) (stop_of d (own_effect x s word d)) h
    (over_below (own_effect x s word d) blocks (own_below x d (inputs_at word s) (h.registers (rs1_of word)) (h.registers (rs2_of word))) (blocks_below x (inputs_at word s) (length x.blocks)))
    (whole_fit x d (inputs_at word s) (length x.blocks))

fetched_sound : (x : ExtensionTree) (s : Arch) (o : Option ℕ) → IsSoundState x s → IsSoundState x (after x s (of_word x s o))
fetched_sound x s None h = h
fetched_sound x s (Some word) h = decoded_sound x s word (decoded_in x word) h

step_sound : (x : ExtensionTree) (image : List ℕ) (s : Arch) → IsSoundState x s → IsSoundState x (after x s (step x image s))
unfolding step
step_sound x image s h = fetched_sound x s (word_at image s.pc) h

zeros_below : (n r : ℕ) → Below (get_or (replicate n 0) r 0)
zeros_below zero r = lit< tt
zeros_below (suc n) zero = lit< tt
zeros_below (suc n) (suc r) = zeros_below n r

first_sound : (t : TypedTextTree) (x : ExtensionTree) → IsOf t x → IsSoundState x (first x)
unfolding first
first_sound t x is = record { registers = λ r. zeros_below 32 r; pc = lit< tt; wide = wide_first t x is; quiet = refl }

-- so is each state of a run
pub run_sound : (t : TypedTextTree) (x : ExtensionTree) (image : List ℕ) (p : ℕ) → IsOf t x → IsSoundState x (run x image p)
unfolding run_with
run_sound t x image zero is = first_sound t x is
run_sound t x image (suc p) is = step_sound x image (run x image p) (run_sound t x image p is)
