-- Parts of effects: where the values that are written agree, the effects do.
use Rattle.std.proofs.Common.{◌≡◌, refl, sym, ap, subst, ◌∙◌, ℕ, zero, suc, ◌+◌, ◌<◌, ◌^◌, arith, ℤ, List, [], ◌∷◌, map, get_or, Option, Some, None}
use Rattle.std.specs.Prelude.{option_map, slice_get, IfSome}
use Rattle.std.proofs.lemmas.Nat.{pow_pos}
use Rattle.ix_bits.specs.declared.number.Ty.{Ty}
use Rattle.ix_bits.specs.declared.number.Bits.{Bits}
use Rattle.ix_bits.specs.Operators.{pattern_of}
use Rattle.ix_graph.specs.declared.kind.Kind.TheVariants as k
use Rattle.ix_graph.specs.declared.graph.Op.{Op}
use Rattle.ix_extension.specs.Extensions.{ExtensionTree, pattern}
use Rattle.ix_mean.specs.declared.evaluate.State.{State}
use Rattle.ix_mean.specs.Core.{u1, u32}
use Rattle.ix_mean.specs.Given.{inputs_of, raw_seen, HasWidths}
use Rattle.ix_mean.specs.Meaning as M
use Rattle.ix_mean.specs.Meaning.{Inputs, Write}
use Rattle.ix_mean.specs.Typing.{AreInputs}
use Rattle.ix_behaviour.specs.declared.which.Which.{Which}
use Rattle.ix_behaviour.specs.Behaviours.{targets_at, type_of_register, statement_at, frame_at, stored_type, effect_by_name}
use Rattle.ix_mean.specs.Effects.{effect_reads}
use Rattle.ix_eval.specs.Readings.{first_of}
use Rattle.ix_eval.specs.Tables.{table}
use Rattle.ix_eval.specs.Evaluated.{pattern_written, bits_written, store_of, read_of, type_of_custom, custom_written, effect_at}
use Rattle.ix_eval.specs.declared.access.Access.{Access}
use Rattle.ix_eval.specs.declared.effect.Effect.{Effect}
use Rattle.ix_depends.specs.Depends.{AreLowWrites, value_of_write, value_written}
use Rattle.rv_seq.specs.WordEffects.{AreWide}
use Rattle.rv_seq.specs.States.{zero_bit}

-- ---- tables
pub table_same : {A : Type 0} (f g : ℕ → A) (n : ℕ) → ((r : ℕ) → r < n → f r ≡ g r) → table f n ≡ table g n
table_same f g zero h = refl
table_same {A = A} f g (suc n) h =
    ap (λ (z : A). z ∷ table (λ r. f (suc r)) n) (h 0 (omega arith))
    ∙ ap (λ (z : List A). g 0 ∷ z) (table_same (λ r. f (suc r)) (λ r. g (suc r)) n (λ r l. h (suc r) (omega (arith, l))))

pub table_get : {A : Type 0} (f g : ℕ → A) (n r : ℕ) (d : A) → (r < n → f r ≡ g r) → get_or (table f n) r d ≡ get_or (table g n) r d
table_get f g zero r d h = refl
table_get f g (suc n) zero d h = h (omega arith)
table_get f g (suc n) (suc r) d h = table_get (λ m. f (suc m)) (λ m. g (suc m)) n r d (λ l. h (omega (arith, l)))

pub table_none : {A : Type 0} (f : ℕ → A) (n r : ℕ) (d : A) → (r < n → f r ≡ d) → get_or (table f n) r d ≡ d
table_none f zero r d h = refl
table_none f (suc n) zero d h = h (omega arith)
table_none f (suc n) (suc r) d h = table_none (λ m. f (suc m)) n r d (λ l. h (omega (arith, l)))

-- ---- what is written, by its value alone
pattern_value : (ty : Ty) (o : Option Write) → option_map (pattern_written ty) o ≡ option_map (λ (z : ℤ). pattern_of ty.width z) (option_map value_of_write o)
pattern_value ty None = refl
pattern_value ty (Some w) = refl

bits_value : (ty : Ty) (o : Option Write) → option_map (bits_written ty) o ≡ option_map (λ (z : ℤ). pattern ty z) (option_map value_of_write o)
bits_value ty None = refl
bits_value ty (Some w) = refl

pattern_same : (ty : Ty) (o p : Option Write) → option_map value_of_write o ≡ option_map value_of_write p → option_map (pattern_written ty) o ≡ option_map (pattern_written ty) p
pattern_same ty o p e = pattern_value ty o ∙ ap (λ (v : Option ℤ). option_map (λ (z : ℤ). pattern_of ty.width z) v) e ∙ sym (pattern_value ty p)

bits_same : (ty : Ty) (o p : Option Write) → option_map value_of_write o ≡ option_map value_of_write p → option_map (bits_written ty) o ≡ option_map (bits_written ty) p
bits_same ty o p e = bits_value ty o ∙ ap (λ (v : Option ℤ). option_map (λ (z : ℤ). pattern ty z) v) e ∙ sym (bits_value ty p)

-- ---- the parts of an effect
abbrev parts : Option ℕ → Option ℕ → List (Option Bits) → Option Access → Option (Access × ℕ) → Effect
parts rd pc custom load store = record { rd = rd; pc = pc; custom = custom; load = load; store = store }

pub effect_from : (e f : Effect) → e.rd ≡ f.rd → e.pc ≡ f.pc → e.custom ≡ f.custom → e.load ≡ f.load → e.store ≡ f.store → e ≡ f
effect_from e f a b c l s =
    ap (λ (z : Option ℕ). parts z e.pc e.custom e.load e.store) a ∙ ap (λ (z : Option ℕ). parts f.rd z e.custom e.load e.store) b
    ∙ ap (λ (z : List (Option Bits)). parts f.rd f.pc z e.load e.store) c ∙ ap (λ (z : Option Access). parts f.rd f.pc f.custom z e.store) l
    ∙ ap (λ (z : Option (Access × ℕ)). parts f.rd f.pc f.custom f.load z) s

module _ (x : ExtensionTree) (w : Which) (ops : List Op) (i j : Inputs) (Low : ℕ → Type 0)
    (values : (n : ℕ) → AreLowWrites ops Low n → value_written (effect_by_name x w i) n ≡ value_written (effect_by_name x w j) n) where
  pub rd_same : AreLowWrites ops Low 1 → (effect_at x w i).rd ≡ (effect_at x w j).rd
  unfolding effect_at
  rd_same l = pattern_same u32 (get_or (effect_by_name x w i) 1 None) (get_or (effect_by_name x w j) 1 None) (values 1 l)

  pub pc_same : AreLowWrites ops Low 2 → (effect_at x w i).pc ≡ (effect_at x w j).pc
  unfolding effect_at
  pc_same l = pattern_same u32 (get_or (effect_by_name x w i) 2 None) (get_or (effect_by_name x w j) 2 None) (values 2 l)

  written_same : (r : ℕ) → AreLowWrites ops Low (3 + r) → custom_written x (effect_by_name x w i) r ≡ custom_written x (effect_by_name x w j) r
  written_same r l = bits_same (type_of_custom x r) (get_or (effect_by_name x w i) (3 + r) None) (get_or (effect_by_name x w j) (3 + r) None) (values (3 + r) l)

  pub custom_same : (r : ℕ) → (r < 16 → AreLowWrites ops Low (3 + r)) → get_or (effect_at x w i).custom r None ≡ get_or (effect_at x w j).custom r None
  unfolding effect_at
  custom_same r l = table_get (custom_written x (effect_by_name x w i)) (custom_written x (effect_by_name x w j)) 16 r None (λ b. written_same r (l b))

  pub customs_same : ((r : ℕ) → AreLowWrites ops Low (3 + r)) → (effect_at x w i).custom ≡ (effect_at x w j).custom
  unfolding effect_at
  customs_same l = table_same (custom_written x (effect_by_name x w i)) (custom_written x (effect_by_name x w j)) 16 (λ r b. written_same r (l r))

pub load_same : (x : ExtensionTree) (w : Which) (i j : Inputs) → effect_reads (frame_at x w) (statement_at x w) i ≡ effect_reads (frame_at x w) (statement_at x w) j → (effect_at x w i).load ≡ (effect_at x w j).load
unfolding effect_at
load_same x w i j e = ap (λ (z : List M.Access). option_map read_of (first_of z)) e

pub store_same : (x : ExtensionTree) (w : Which) (i j : Inputs) → get_or (effect_by_name x w i) 0 None ≡ get_or (effect_by_name x w j) 0 None → (effect_at x w i).store ≡ (effect_at x w j).store
unfolding effect_at
store_same x w i j e = ap (λ (z : Option Write). option_map (store_of (stored_type (statement_at x w))) z) e

-- ---- what is not written
pub rd_none : (x : ExtensionTree) (w : Which) (i : Inputs) → get_or (effect_by_name x w i) 1 None ≡ None → (effect_at x w i).rd ≡ None
unfolding effect_at
rd_none x w i e = ap (option_map (pattern_written u32)) e

pub store_none : (x : ExtensionTree) (w : Which) (i : Inputs) → get_or (effect_by_name x w i) 0 None ≡ None → (effect_at x w i).store ≡ None
unfolding effect_at
store_none x w i e = ap (λ (z : Option Write). option_map (store_of (stored_type (statement_at x w))) z) e

pub custom_none : (x : ExtensionTree) (w : Which) (i : Inputs) (r : ℕ) → get_or (effect_by_name x w i) (3 + r) None ≡ None → get_or (effect_at x w i).custom r None ≡ None
unfolding effect_at
custom_none x w i r e = table_none (custom_written x (effect_by_name x w i)) 16 r None (λ l. ap (option_map (bits_written (type_of_custom x r))) e)

-- ---- what is seen is in range
pattern_below : (xs : List Bits) (r w : ℕ) → IfSome (slice_get xs r) (λ b. b.width ≡ w) → get_or (map raw_seen xs) r 0 < 2 ^ w
pattern_below [] r w h = pow_pos w
pattern_below (x ∷ xs) zero w h = subst (λ (n : ℕ). x.raw < 2 ^ n) h x.in_width
pattern_below (x ∷ xs) (suc r) w h = pattern_below xs r w h

word_below : (word : ℕ) (ty : Ty) → word < 2 ^ 32 → ty.width ≡ 32 → word < 2 ^ ty.width
word_below word ty h e = rw e h

fits : (s : State) (types : List Ty) (m : ℕ → ℕ → ℕ) → s.word < 2 ^ 32 → s.rs1 < 2 ^ 32 → s.rs2 < 2 ^ 32 → s.pc < 2 ^ 32 → HasWidths types s.custom → AreInputs types (inputs_of s m)
fits s types m a b c d h k.RdInstr ty t = word_below s.word ty a (ap (λ (u : Ty). u.width) t)
fits s types m a b c d h k.RdRS1 ty t = word_below s.rs1 ty b (ap (λ (u : Ty). u.width) t)
fits s types m a b c d h k.RdRS2 ty t = word_below s.rs2 ty c (ap (λ (u : Ty). u.width) t)
fits s types m a b c d h k.RdPC ty t = word_below s.pc ty d (ap (λ (u : Ty). u.width) t)
fits s types m a b c d h (k.RdCustReg r) ty t = rw t.1 (pattern_below s.custom r (get_or types (3 + r) u1).width (h.widths r))
fits s types m a b c d h _ ty t = absurd t

behind_three : (a b c : Ty) (ts : List Ty) (r : ℕ) → get_or ts r u1 ≡ get_or (a ∷ b ∷ c ∷ ts) (3 + r) u1
behind_three a b c ts r = let e : suc (suc (suc r)) ≡ 3 + r = omega arith in ap (λ (n : ℕ). get_or (a ∷ b ∷ c ∷ ts) n u1) e

wide_targets : (x : ExtensionTree) (w : Which) (custom : List Bits) → AreWide x custom → HasWidths (targets_at x w) custom
wide_targets x w custom h =
    record {
      widths = λ r.
          subst (λ (ty : Ty). IfSome (slice_get custom r) (λ b. b.width ≡ ty.width))
          (behind_three (stored_type (statement_at x w)) u32 u32 (map type_of_register x.registers) r) (h.widths r);
    }

pub are_inputs : (x : ExtensionTree) (w : Which) (s : State) (m : ℕ → ℕ → ℕ) → AreWide x s.custom → s.word < 2 ^ 32 → s.rs1 < 2 ^ 32 → s.rs2 < 2 ^ 32 → s.pc < 2 ^ 32 → AreInputs (targets_at x w) (inputs_of s m)
are_inputs x w s m wide a b c d = fits s (targets_at x w) m a b c d (wide_targets x w s.custom wide)

-- a custom register as it is read
pub raw_of_custom : (xs : List Bits) (r : ℕ) → get_or (map raw_seen xs) r 0 ≡ raw_seen (get_or xs r zero_bit)
raw_of_custom [] r = refl
raw_of_custom (x ∷ xs) zero = refl
raw_of_custom (x ∷ xs) (suc r) = raw_of_custom xs r
