-- Widths of custom registers, in the first state and behind a step.
use Rattle.std.proofs.Common.{◌≡◌, ◌∙◌, sym, ap, subst, refl, ℕ, zero, suc, ◌+◌, ◌<◌, List, [], ◌∷◌, get_or, map, length, replicate, Option, Some, None, arith}
use Rattle.std.specs.Prelude.{slice_get, IfSome, option_map}
use Rattle.std.specs.Option.{option_or}
use Rattle.ix_bits.specs.declared.number.Ty.{Ty}
use Rattle.ix_bits.specs.declared.number.Bits.{Bits}
use Rattle.ix_tree.specs.declared.extension.Register.{Register}
use Rattle.ix_tree.specs.LoopHeads.{Valued, head_value}
use Rattle.ix_tree.specs.TypedTrees.{TypedExprTree, erased, TypedStateTree, TypedStateKindTree, tk_register, tk_table, TypedTextTree}
use Rattle.ix_typing.specs.Texts.{nearest}
use Rattle.ix_extension.specs.Extensions.{ExtensionTree, pattern, constant_in, entry, initial, with_register, registers_of, all_states, extension_of}
use Rattle.ix_extension.specs.WellFormed.{IsOf}
use Rattle.ix_mean.specs.Core.{u1}
use Rattle.ix_mean.specs.Meaning.{Inputs, Write}
use Rattle.ix_behaviour.specs.declared.which.Which.{Which}
use Rattle.ix_behaviour.specs.declared.which.Which.TheVariants as W
use Rattle.ix_behaviour.specs.Behaviours.{type_of_register, effect_by_name}
use Rattle.ix_eval.specs.Tables.{table}
use Rattle.ix_eval.specs.Evaluated.{bits_written, type_of_custom, written, custom_written, effect_at}
use Rattle.ix_eval.specs.declared.effect.Effect.{Effect}
use Rattle.ix_eval.proofs.Tables.{table_length, table_at}
use Rattle.rv_seq.specs.declared.decoded.Decoded.{Decoded}
use Rattle.rv_seq.specs.declared.decoded.Decoded.TheVariants as D
use Rattle.rv_seq.specs.WordEffects.{effect_of, customs_over, over, blocks_effect, AreWide}
use Rattle.rv_seq.specs.declared.commit.Slot.{Slot}
use Rattle.rv_seq.specs.declared.commit.Slot.TheVariants.{Absent, Now, Later}
use Rattle.rv_seq.specs.States.{zero_bit, initial_in, initial_of, initials}
use Rattle.rv_seq.specs.Commits.{slot_of, slots_of, with_slot, with_customs, applied}
use Rattle.rv_seq.specs.declared.arch.Arch.{Arch}
use Rattle.rv_seq.specs.declared.commit.Commit.{Commit}
use Rattle.rv_seq.specs.Steps.{return_effect}
use Rattle.rv_seq.specs.Sound.{IsNowWide}

-- ---- tables, element by element
table_get : {A : Type 0} (P : ℕ → A → Type 0) (f : ℕ → A) (n : ℕ) → ((r : ℕ) → r < n → P r (f r)) → (r : ℕ) → IfSome (slice_get (table f n) r) (P r)
table_get P f zero h r = tt
table_get P f (suc n) h zero = h 0 (omega arith)
table_get P f (suc n) h (suc r) = table_get (λ k. P (suc k)) (λ k. f (suc k)) n (λ k lt. h (suc k) (omega (arith, lt))) r

-- with what stands past the end
table_or : {A : Type 0} (P : ℕ → A → Type 0) (f : ℕ → A) (n : ℕ) (d : A) → ((r : ℕ) → P r (f r)) → ((r : ℕ) → P r d) → (r : ℕ) → P r (get_or (table f n) r d)
table_or P f zero d h g r = g r
table_or P f (suc n) d h g zero = h 0
table_or P f (suc n) d h g (suc r) = table_or (λ k. P (suc k)) (λ k. f (suc k)) n d (λ k. h (suc k)) (λ k. g (suc k)) r

-- ---- the first state
constant_width : (ty : Ty) (v : Option Valued) → (constant_in ty v).width ≡ ty.width
constant_width ty None = refl
constant_width ty (Some v) = refl

initial_width : (ty : Ty) (e : Option TypedExprTree) → (initial ty e).width ≡ ty.width
initial_width ty None = refl
initial_width ty (Some e) = constant_width ty (head_value (erased e) [])

-- each of these registers starts with a pattern of its type
abbrev AreWideAtFirst : List Register → Type 0
AreWideAtFirst rs = (r : ℕ) → (get_or (map initial_in rs) r zero_bit).width ≡ (get_or (map type_of_register rs) r u1).width

one_more : (x : TypedStateTree) (k : TypedStateKindTree) (rest : List Register) → AreWideAtFirst rest → AreWideAtFirst (with_register x k rest)
one_more x (tk_register e) rest h zero = initial_width (nearest x.ty.kind) e
one_more x (tk_register e) rest h (suc r) = h r
one_more x (tk_table n es) rest h r = h r

registers_wide : (xs : List TypedStateTree) → AreWideAtFirst (registers_of xs)
registers_wide [] = λ r. refl
registers_wide (x ∷ xs) = one_more x x.kind (registers_of xs) (registers_wide xs)

pub wide_first : (t : TypedTextTree) (x : ExtensionTree) → IsOf t x → AreWide x (initials x.registers)
wide_first t x h =
    let P : ExtensionTree → Type 0 = λ z. (r : ℕ) → (initial_of z.registers r).width ≡ (type_of_custom z r).width in
    let each : (r : ℕ) → (initial_of x.registers r).width ≡ (type_of_custom x r).width = subst P (sym h.parts) (registers_wide (all_states t.sections)) in
    record {
      count = table_length (initial_of x.registers) 16;
      widths = table_get (λ r b. b.width ≡ (type_of_custom x r).width) (initial_of x.registers) 16 (λ r lt. each r);
    }

-- ---- writes
abbrev IsFit : ExtensionTree → ℕ → Option Bits → Type 0
IsFit x r o = IfSome o (λ b. b.width ≡ (type_of_custom x r).width)

abbrev pub AreFit : ExtensionTree → List (Option Bits) → Type 0
AreFit x customs = (r : ℕ) → IsFit x r (get_or customs r None)

none_fit : (x : ExtensionTree) (r n k : ℕ) → IsFit x r (get_or (replicate n None) k None)
none_fit x r zero k = tt
none_fit x r (suc n) zero = tt
none_fit x r (suc n) (suc k) = none_fit x r n k

written_fit : (x : ExtensionTree) (r : ℕ) (o : Option Write) → IsFit x r (option_map (bits_written (type_of_custom x r)) o)
written_fit x r None = tt
written_fit x r (Some w) = refl

effect_fit : (x : ExtensionTree) (w : Which) (i : Inputs) → AreFit x (effect_at x w i).custom
unfolding effect_at
effect_fit x w i =
    table_or (IsFit x) (custom_written x (effect_by_name x w i)) 16 None (λ r. written_fit x r (written (effect_by_name x w i) (3 + r))) (λ r. tt)

own_fit : (x : ExtensionTree) (d : Decoded) (i : Inputs) → AreFit x (effect_of x d i).custom
unfolding effect_of
own_fit x (D.Base b) i = λ r. none_fit x r 16 r
own_fit x (D.Own n) i = effect_fit x (W.Instruction n) i

or_fit : (x : ExtensionTree) (r : ℕ) (o p : Option Bits) → IsFit x r o → IsFit x r p → IsFit x r (option_or o p)
or_fit x r None p h g = g
or_fit x r (Some b) p h g = h

over_fit : (x : ExtensionTree) (later earlier : Effect) → AreFit x later.custom → AreFit x earlier.custom → AreFit x (over later earlier).custom
unfolding over
over_fit x later earlier h g =
    table_or (IsFit x) (λ r. option_or (get_or later.custom r None) (get_or earlier.custom r None)) 16 None
    (λ r. or_fit x r (get_or later.custom r None) (get_or earlier.custom r None) (h r) (g r)) (λ r. tt)

blocks_fit : (x : ExtensionTree) (i : Inputs) (n : ℕ) → AreFit x (blocks_effect x i n).custom
unfolding blocks_effect
blocks_fit x i zero = λ r. none_fit x r 16 r
blocks_fit x i (suc n) = over_fit x (effect_at x (W.Block n) i) (blocks_effect x i n) (effect_fit x (W.Block n) i) (blocks_fit x i n)

pub whole_fit : (x : ExtensionTree) (d : Decoded) (i : Inputs) (n : ℕ) → AreFit x (over (effect_of x d i) (blocks_effect x i n)).custom
whole_fit x d i n = over_fit x (effect_of x d i) (blocks_effect x i n) (own_fit x d i) (blocks_fit x i n)

pub return_fit : (x : ExtensionTree) (at : ℕ) (i : Inputs) (n : ℕ) → AreFit x (over (return_effect at) (blocks_effect x i n)).custom
return_fit x at i n = over_fit x (return_effect at) (blocks_effect x i n) (λ r. none_fit x r 16 r) (blocks_fit x i n)

slot_wide : (x : ExtensionTree) (r : ℕ) (o : Option Bits) → IsFit x r o → IsNowWide (type_of_custom x r).width (slot_of o)
slot_wide x r None h = tt
slot_wide x r (Some b) h = h

pub slots_wide : (x : ExtensionTree) (customs : List (Option Bits)) → AreFit x customs → (r : ℕ) → IsNowWide (type_of_custom x r).width (get_or (slots_of customs) r Absent)
slots_wide x customs h =
    table_or (λ r s. IsNowWide (type_of_custom x r).width s) (λ r. slot_of (get_or customs r None)) 16 Absent (λ r. slot_wide x r (get_or customs r None) (h r)) (λ r. tt)

-- ---- behind a step
with_wide : (width : ℕ) (old : Bits) (s : Slot Bits) → old.width ≡ width → IsNowWide width s → (with_slot old s).width ≡ width
with_wide width old Absent e h = e
with_wide width old (Now b) e h = h
with_wide width old Later e h = e

-- an element within the list
get_wide : {A : Type 0} (P : A → Type 0) (xs : List A) (r : ℕ) (d : A) → r < length xs → IfSome (slice_get xs r) P → P (get_or xs r d)
get_wide P [] r d lt h = absurd (omega (arith, lt))
get_wide P (x ∷ xs) zero d lt h = h
get_wide P (x ∷ xs) (suc r) d lt h = get_wide P xs r d (omega (arith, lt)) h

pub wide_after : (x : ExtensionTree) (custom : List Bits) (slots : List (Slot Bits)) → AreWide x custom → ((r : ℕ) → IsNowWide (type_of_custom x r).width (get_or slots r Absent))
    → AreWide x (with_customs custom slots)
wide_after x custom slots h g =
    let f : ℕ → Bits = λ r. with_slot (get_or custom r zero_bit) (get_or slots r Absent) in
    record {
      count = table_length f 16;
      widths =
          table_get (λ r b. b.width ≡ (type_of_custom x r).width) f 16
          (λ r lt.
          with_wide (type_of_custom x r).width (get_or custom r zero_bit) (get_or slots r Absent)
          (get_wide (λ b. b.width ≡ (type_of_custom x r).width) custom r zero_bit (omega (arith, lt, h.count)) (h.widths r)) (g r));
    }

-- so a record keeps the widths of the custom registers
pub wide_applied : (x : ExtensionTree) (c : Commit) (s : Arch) → AreWide x s.custom → ((r : ℕ) → IsNowWide (type_of_custom x r).width (get_or c.custom r Absent))
    → AreWide x (applied c s).custom
unfolding applied
wide_applied x c s h g = wide_after x s.custom c.custom h g
