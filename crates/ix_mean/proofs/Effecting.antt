-- The laws from the start of a behaviour.
use Rattle.std.proofs.Common.{◌≡◌, ℕ, zero, suc, ◌-◌, ◌^◌, refl, ap, subst, ◌∙◌, Bool, true, false, Option, Some, None, ℤ, pos, List, [], ◌∷◌, map, get_or, lit<}
use Rattle.std.specs.Prelude.{nat_lt}
use Rattle.std.proofs.lemmas.Nat.{pow_pos}
use Rattle.std.proofs.lemmas.Bool.{cond_both, cond-true, lt-ltb}
use Rattle.ix_bits.specs.declared.number.Ty.{Ty}
use Rattle.ix_bits.specs.Types.{HoldsNumber, number_of}
use Rattle.ix_bits.specs.Operators.{value_of, is_true}
use Rattle.ix_mean.specs.Core.{u1, u32, Expression, x_const, x_slot, x_read, x_load, x_one, x_cast, x_entry, x_two, x_choose, type_of_expression, Statement}
use Rattle.ix_mean.specs.Meaning.{Inputs, read, number, Write, Numbers, run, reads}
use Rattle.ix_mean.specs.Terms.{value, one_term, entry_value, denoted}
use Rattle.ix_mean.specs.Typing.{Frame, IsTypedExpression, IsTypedStatement, IsOf, AreOf, AreEntries, IsState, AreInputs}
use Rattle.ix_mean.specs.Effects.{no_write, nothing, started, zero_of_type, no_entry, start, effect_terms, AreNumbers, KeepsEffect}
use Rattle.ix_mean.proofs.InRange.{pattern_holds, fit_holds, loaded_holds, entry_holds, one_holds, operator_holds, unsigned_holds}
use Rattle.ix_mean.proofs.Making.{zero_of, one_of}
use Rattle.ix_mean.proofs.Running.{run_of, run_value, reads_value}

-- ---- numbers lie in their types
number_at : (tys : List Ty) (ns : List ℤ) (k : ℕ) → AreNumbers tys ns → HoldsNumber (get_or tys k u1) (get_or ns k (pos 0))
number_at [] [] k h = unsigned_holds u1 0 refl (lit< tt)
number_at [] (n ∷ ns) k h = absurd h
number_at (ty ∷ tys) [] k h = absurd h
number_at (ty ∷ tys) (n ∷ ns) zero h = h.0
number_at (ty ∷ tys) (n ∷ ns) (suc k) h = number_at tys ns k h.1

pub number_holds : (f : Frame) (i : Inputs) (s : List ℤ) (e : Expression) → AreInputs f.targets i → AreNumbers f.slots s → IsTypedExpression f e → HoldsNumber (type_of_expression e) (number i s e)
number_holds f i s (x_const ty raw) g n h = pattern_holds ty raw h
number_holds f i s (x_slot k ty) g n h = subst (λ (z : Ty). HoldsNumber z (get_or s k (pos 0))) h.1 (number_at f.slots s k n)
number_holds f i s (x_read kind ty) g n h = pattern_holds ty (read i kind) (g kind ty h)
number_holds f i s (x_load ty a) g n h = loaded_holds i.memory ty (number i s a)
number_holds f i s (x_one kind ty a) g n h = one_holds kind (type_of_expression a) ty (number i s a) h.1 (number_holds f i s a g n h.0)
number_holds f i s (x_cast ty a) g n h = fit_holds ty (number i s a)
number_holds f i s (x_entry m es ty a) g n h = entry_holds es ty (number i s a) h.1
number_holds f i s (x_two op ty a b) g n h = operator_holds (Some op) (type_of_expression a) (type_of_expression b) ty (number i s a) (number i s b) h.2 (number_holds f i s a g n h.0) (number_holds f i s b g n h.1)
number_holds f i s (x_choose ty c a b) g n h =
    cond_both (is_true (number i s c)) (number i s a) (number i s b) (HoldsNumber ty)
    (λ e. h.3.first (number i s a) (number_holds f i s a g n h.1)) (λ e. h.3.second (number i s b) (number_holds f i s b g n h.2))

-- ---- the start
pub zero_is : (ty : Ty) → value_of ty 0 ≡ pos 0
zero_is ty = by ty.signed ty.width
  where
    by : (s : Bool) (w : ℕ) → number_of s w 0 ≡ pos 0
    by false w = refl
    by true w = cond-true (nat_lt 0 (2 ^ (w - 1))) _ _ (lt-ltb 0 (2 ^ (w - 1)) (pow_pos (w - 1)))

zero_typed : (ts : List Ty) (ty : Ty) → IsOf ts ty (zero_of_type ty)
zero_typed ts ty = record { typed = pow_pos ty.width; ty_is = refl }

slots_start : (ts tys : List Ty) → AreOf ts tys (map zero_of_type tys)
slots_start ts [] = tt
slots_start ts (ty ∷ tys) = (zero_typed ts ty, slots_start ts tys)

targets_start : (ts tys : List Ty) → AreEntries ts tys (map no_entry tys)
targets_start ts [] = tt
targets_start ts (ty ∷ tys) = (record { condition = zero_of ts; value = zero_typed ts ty; address = zero_typed ts u32 }, targets_start ts tys)

pub start_of : (f : Frame) → IsState f (start f)
start_of f = record { slots = slots_start f.targets f.slots; targets = targets_start f.targets f.targets }

slots_zero : (i : Inputs) (tys : List Ty) → map (value i) (map zero_of_type tys) ≡ map nothing tys
slots_zero i [] = refl
slots_zero i (ty ∷ tys) = ap (λ (n : ℤ). n ∷ map (value i) (map zero_of_type tys)) (zero_is ty) ∙ ap (λ (ns : List ℤ). pos 0 ∷ ns) (slots_zero i tys)

targets_none : (i : Inputs) (tys : List Ty) → map (entry_value i) (map no_entry tys) ≡ map no_write tys
targets_none i [] = refl
targets_none i (ty ∷ tys) = ap (λ (ws : List (Option Write)). None ∷ ws) (targets_none i tys)

start_denoted : (f : Frame) (i : Inputs) → denoted i (start f) ≡ started f
start_denoted f i =
    ap (λ (z : List ℤ). let m : Numbers = record { slots = z; targets = map (entry_value i) (map no_entry f.targets) } in m) (slots_zero i f.slots)
    ∙ ap (λ (z : List (Option Write)). let m : Numbers = record { slots = map nothing f.slots; targets = z } in m) (targets_none i f.targets)

pub effect_kept : (f : Frame) (x : Statement) (i : Inputs) → IsTypedStatement f x → AreInputs f.targets i → KeepsEffect f x i
effect_kept f x i h g =
    let o = one_of f.targets in
    record {
      writes = run_value f i g one_term o refl x h (start f) (start_of f) ∙ ap (run i x) (start_denoted f i);
      reads_are = reads_value f i g x h (start f) (start_of f) one_term o refl ∙ ap (reads i x) (start_denoted f i);
    }

pub effect_typed : (f : Frame) (x : Statement) → IsTypedStatement f x → IsState f (effect_terms f x)
effect_typed f x h = run_of f one_term (one_of f.targets) x h (start f) (start_of f)
