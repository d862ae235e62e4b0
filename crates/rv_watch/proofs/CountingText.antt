-- A behaviour writes no custom register past those of its extension, and each by its width.
use Rattle.std.proofs.Common.{◌≡◌, ℕ, ℤ, zero, suc, ◌+◌, ◌<◌, List, [], ◌∷◌, length, get_or, replicate, refl, ◌∙◌, arith, Option, Some, None, Bool, true, false, length-set}
use Rattle.std.specs.Prelude.{IfSome, option_map, if◌then◌else◌}
use Rattle.std.specs.Option.{option_or}
use Rattle.std.proofs.lemmas.List.{length-map}
use Rattle.ix_bits.specs.declared.number.Ty.{Ty}
use Rattle.ix_bits.specs.declared.number.Bits.{Bits}
use Rattle.ix_bits.specs.declared.operator.BinOp.{BinOp}
use Rattle.ix_bits.specs.Operators.{is_true}
use Rattle.ix_tree.specs.TypedTrees.{TypedLvalueTree, tl_name, tl_pc, tl_x, tl_mem, TypedDeclTree, TypedStmtTree, ts_block, ts_empty, ts_locals, ts_assign, ts_if, ts_if_else, ts_spawn, TypedRow, typed_end, typed_more, type_of}
use Rattle.ix_extension.specs.Extensions.{ExtensionTree}
use Rattle.ix_mean.specs.Meaning.{Inputs, Write}
use Rattle.ix_mean.specs.ByName.{Names, Local, local_in, Numbered, register_in, number_by_name}
use Rattle.ix_mean.specs.Effects.{no_write}
use Rattle.ix_mean.specs.EffectByName.{Doing, does, does_row, leaves, all_declared, assigns, assigns_name, assigns_register, type_of_text}
use Rattle.ix_behaviour.specs.declared.which.Which.{Which}
use Rattle.ix_behaviour.specs.declared.which.Which.TheVariants as W
use Rattle.ix_behaviour.specs.Behaviours.{names_at, body_at, does_all, at_start, effect_by_name, targets_at, type_of_register}
use Rattle.ix_eval.specs.Tables.{table}
use Rattle.ix_eval.specs.Evaluated.{bits_written, type_of_custom, written, custom_written, effect_at}
use Rattle.ix_eval.specs.declared.effect.Effect.{Effect}
use Rattle.rv_seq.specs.declared.decoded.Decoded.{Decoded}
use Rattle.rv_seq.specs.declared.decoded.Decoded.TheVariants as D
use Rattle.rv_seq.specs.WordEffects.{effect_of, over, blocks_effect}
use Rattle.rv_seq.specs.Steps.{return_effect}

-- ---- a statement keeps the count of targets
declared_count : (ns : Names) (i : Inputs) (ty : Ty) (ds : List TypedDeclTree) (d : Doing) → length (all_declared ns i ty ds d).targets ≡ length d.targets
declared_count ns i ty [] d = refl
declared_count ns i ty (x ∷ ds) d = declared_count ns i ty ds _

register_count : (i : Inputs) (op : Option BinOp) (a : Ty) (z : ℤ) (r : Option Numbered) (d : Doing) → length (assigns_register i op a z r d).targets ≡ length d.targets
register_count i op a z None d = refl
register_count i op a z (Some r) d = length-set d.targets (3 + r.number) _

name_count : (ns : Names) (i : Inputs) (op : Option BinOp) (n : List ℕ) (a : Ty) (z : ℤ) (l : Option Local) (d : Doing) → length (assigns_name ns i op n a z l d).targets ≡ length d.targets
name_count ns i op n a z (Some l) d = refl
name_count ns i op n a z None d = register_count i op a z (register_in 0 ns.registers n) d

assigned_count : (ns : Names) (i : Inputs) (op : Option BinOp) (t : TypedLvalueTree) (a : Ty) (z : ℤ) (d : Doing) → length (assigns ns i op t a z d).targets ≡ length d.targets
assigned_count ns i op (tl_name n) a z d = name_count ns i op n a z (local_in d.locals n) d
assigned_count ns i op tl_pc a z d = length-set d.targets 2 _
assigned_count ns i op (tl_x f) a z d = length-set d.targets 1 _
assigned_count ns i op (tl_mem e None) a z d = length-set d.targets 0 _
assigned_count ns i op (tl_mem e (Some f)) a z d = length-set d.targets 0 _

either_count : (b : Bool) (d e f : Doing) → length e.targets ≡ length d.targets → length f.targets ≡ length d.targets → length (if b then e else f).targets ≡ length d.targets
either_count true d e f h g = h
either_count false d e f h g = g

mutual
  does_count : (ns : Names) (i : Inputs) (x : TypedStmtTree) (d : Doing) → length (does ns i x d).targets ≡ length d.targets
  does_count ns i (ts_block s all) d = row_count ns i all d
  does_count ns i (ts_empty s) d = refl
  does_count ns i (ts_locals s ty ds) d = declared_count ns i (type_of_text ty) ds d
  does_count ns i (ts_assign s a) d = assigned_count ns i a.op a.target.tree (type_of a.value) (number_by_name ns i d.locals a.value) d
  does_count ns i (ts_if s c x) d = either_count (is_true (number_by_name ns i d.locals c)) d (leaves d (does ns i x d)) d (does_count ns i x d) refl
  does_count ns i (ts_if_else s c x y) d = either_count (is_true (number_by_name ns i d.locals c)) d (leaves d (does ns i x d)) (leaves d (does ns i y d)) (does_count ns i x d) (does_count ns i y d)
  does_count ns i (ts_spawn s x) d = does_count ns i x d

  row_count : (ns : Names) (i : Inputs) (xs : TypedRow) (d : Doing) → length (does_row ns i xs d).targets ≡ length d.targets
  row_count ns i typed_end d = refl
  row_count ns i (typed_more x rest) d = row_count ns i rest (does ns i x d) ∙ does_count ns i x d

all_count : (ns : Names) (i : Inputs) (xs : List TypedStmtTree) (d : Doing) → length (does_all ns i xs d).targets ≡ length d.targets
all_count ns i [] d = refl
all_count ns i (x ∷ xs) d = all_count ns i xs (does ns i x d) ∙ does_count ns i x d

effect_count : (x : ExtensionTree) (w : Which) (i : Inputs) → length (effect_by_name x w i) ≡ 3 + length x.registers
effect_count x w i =
    let all = all_count (names_at x w) i (body_at x w) (at_start x w) in
    let start = length-map (targets_at x w) no_write in
    let registers = length-map x.registers type_of_register in
    omega (arith, all, start, registers)

-- ---- what is written is of a register that there is, and has its width
abbrev pub IsOwn : ExtensionTree → ℕ → Option Bits → Type 0
IsOwn x r o = IfSome o (λ b. (b.width ≡ (type_of_custom x r).width) × (r < length x.registers))

abbrev pub AreOwn : ExtensionTree → List (Option Bits) → Type 0
AreOwn x customs = (r : ℕ) → IsOwn x r (get_or customs r None)

-- element by element, with what stands past the end
pub table_or : {A : Type 0} (P : ℕ → A → Type 0) (f : ℕ → A) (n : ℕ) (d : A) → ((r : ℕ) → P r (f r)) → ((r : ℕ) → P r d) → (r : ℕ) → P r (get_or (table f n) r d)
table_or P f zero d h g r = g r
table_or P f (suc n) d h g zero = h 0
table_or P f (suc n) d h g (suc r) = table_or (λ k. P (suc k)) (λ k. f (suc k)) n d (λ k. h (suc k)) (λ k. g (suc k)) r

none_own : (x : ExtensionTree) (r n k : ℕ) → IsOwn x r (get_or (replicate n None) k None)
none_own x r zero k = tt
none_own x r (suc n) zero = tt
none_own x r (suc n) (suc k) = none_own x r n k

some_within : {A : Type 0} (xs : List (Option A)) (n : ℕ) (a : A) → get_or xs n None ≡ Some a → n < length xs
some_within [] n a e = cc
some_within (x ∷ xs) zero a e = omega arith
some_within (x ∷ xs) (suc n) a e = let l = some_within xs n a e in omega (arith, l)

written_own : (x : ExtensionTree) (ws : List (Option Write)) (r : ℕ) (o : Option Write) → written ws (3 + r) ≡ o → length ws ≡ 3 + length x.registers → IsOwn x r (option_map (bits_written (type_of_custom x r)) o)
written_own x ws r None e l = tt
written_own x ws r (Some w) e l = (refl, (let within = some_within ws (3 + r) w e in omega (arith, within, l)))

effect_own : (x : ExtensionTree) (w : Which) (i : Inputs) → AreOwn x (effect_at x w i).custom
unfolding effect_at
effect_own x w i = table_or (IsOwn x) (custom_written x (effect_by_name x w i)) 16 None (λ r. written_own x (effect_by_name x w i) r (written (effect_by_name x w i) (3 + r)) refl (effect_count x w i)) (λ r. tt)

own_own : (x : ExtensionTree) (d : Decoded) (i : Inputs) → AreOwn x (effect_of x d i).custom
unfolding effect_of
own_own x (D.Base b) i = λ r. none_own x r 16 r
own_own x (D.Own n) i = effect_own x (W.Instruction n) i

or_own : (x : ExtensionTree) (r : ℕ) (o p : Option Bits) → IsOwn x r o → IsOwn x r p → IsOwn x r (option_or o p)
or_own x r None p h g = g
or_own x r (Some b) p h g = h

over_own : (x : ExtensionTree) (later earlier : Effect) → AreOwn x later.custom → AreOwn x earlier.custom → AreOwn x (over later earlier).custom
unfolding over
over_own x later earlier h g =
    table_or (IsOwn x) (λ r. option_or (get_or later.custom r None) (get_or earlier.custom r None)) 16 None
    (λ r. or_own x r (get_or later.custom r None) (get_or earlier.custom r None) (h r) (g r)) (λ r. tt)

pub blocks_own : (x : ExtensionTree) (i : Inputs) (n : ℕ) → AreOwn x (blocks_effect x i n).custom
unfolding blocks_effect
blocks_own x i zero = λ r. none_own x r 16 r
blocks_own x i (suc n) = over_own x (effect_at x (W.Block n) i) (blocks_effect x i n) (effect_own x (W.Block n) i) (blocks_own x i n)

pub whole_own : (x : ExtensionTree) (d : Decoded) (i : Inputs) (n : ℕ) → AreOwn x (over (effect_of x d i) (blocks_effect x i n)).custom
whole_own x d i n = over_own x (effect_of x d i) (blocks_effect x i n) (own_own x d i) (blocks_own x i n)

pub return_own : (x : ExtensionTree) (at : ℕ) (i : Inputs) (n : ℕ) → AreOwn x (over (return_effect at) (blocks_effect x i n)).custom
return_own x at i n = over_own x (return_effect at) (blocks_effect x i n) (λ r. none_own x r 16 r) (blocks_own x i n)

pub none_at_all : (x : ExtensionTree) → AreOwn x (replicate 16 None)
none_at_all x = λ r. none_own x r 16 r
