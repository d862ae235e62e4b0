-- The number of a term lies in its type.
use Rattle.std.proofs.Common.{◌≡◌, ℕ, ◌-◌, ◌+◌, ◌/◌, ◌%◌, ◌^◌, ◌<◌, ◌≤◌, sym, subst, ⊎_elim, get_or, length, Bool, false, cond, Option, Some, None, ℤ, pos, List}
use Rattle.std.specs.Prelude.{unsigned_abs}
use Rattle.std.proofs.lemmas.Nat.{pow_pos, mod_below}
use Rattle.std.proofs.lemmas.Bool.{cond_both, cases_lt}
use Rattle.std.proofs.lemmas.List.{get_or_past}
use Rattle.ix_bits.specs.declared.number.Ty.{Ty}
use Rattle.ix_bits.specs.declared.operator.BinOp.{BinOp}
use Rattle.ix_bits.specs.declared.operator.UnOp.TheVariants as unary
use Rattle.ix_bits.specs.Types.{HoldsNumber, number_of}
use Rattle.ix_bits.specs.Types.{IsWithin}
use Rattle.ix_bits.specs.Operators.{pattern_of, value_of, fit, is_true, bits_between}
use Rattle.ix_bits.proofs.Patterns.{number_of_pattern}
use Rattle.ix_bits.proofs.Embeddings.{within, held}
use Rattle.ix_bits.proofs.InRange.{binary_holds, unary_holds}
use Rattle.ix_bits.proofs.Unique.{fit_is_the_one, patterns_are_numbers}
use Rattle.ix_graph.specs.declared.kind.Kind.{Kind}
use Rattle.ix_graph.specs.declared.kind.Kind.TheVariants as k
use Rattle.ix_mean.specs.Meaning.{Inputs, read, loaded, one_number, entry_number}
use Rattle.ix_mean.specs.Terms.{Term, t_const, t_read, t_one, t_entry, t_two, t_three, type_of, value, two_number, operator_number, binary_of}
use Rattle.ix_mean.specs.Typing.{IsOne, IsTwo, IsThree, IsOperator, AreEntriesOf, IsTerm, AreInputs}

holds_as : (ty : Ty) (s : Bool) (w : ℕ) (n : ℤ) → ty.signed ≡ s → ty.width ≡ w → IsWithin s w n → HoldsNumber ty n
holds_as ty s w n e f h = held ty n (rw (e, f) h)

pub pattern_holds : (ty : Ty) (raw : ℕ) → raw < 2 ^ ty.width → HoldsNumber ty (value_of ty raw)
pattern_holds ty raw h = ((patterns_are_numbers ty).number raw h).0

pub fit_holds : (ty : Ty) (n : ℤ) → HoldsNumber ty (fit ty n)
fit_holds ty n = (fit_is_the_one ty n).fits.holds

pub fit_is : (ty : Ty) (n : ℤ) → HoldsNumber ty n → fit ty n ≡ n
fit_is ty n h = number_of_pattern ty.signed ty.width n ty.some_width h.from_least h.below_past

pub unsigned_holds : (ty : Ty) (m : ℕ) → ty.signed ≡ false → m < 2 ^ ty.width → HoldsNumber ty (pos m)
unsigned_holds ty m e h = subst (λ (s : Bool). HoldsNumber ty (number_of s ty.width m)) e (pattern_holds ty m h)

pub loaded_holds : (m : ℕ → ℕ → ℕ) (ty : Ty) (at : ℤ) → HoldsNumber ty (loaded m ty at)
loaded_holds m ty at = pattern_holds ty _ (mod_below (m (unsigned_abs at) (ty.width / 8)) (2 ^ ty.width) (pow_pos ty.width))

pub entry_below : (es : List ℕ) (ty : Ty) (k : ℕ) → AreEntriesOf ty es → get_or es k 0 < 2 ^ ty.width
entry_below es ty k h =
    ⊎_elim (λ (l : k < length es). h k 0 l)
    (λ (m : length es ≤ k). let P : ℕ → Type 0 = λ e. e < 2 ^ ty.width in subst P (sym (get_or_past es k 0 m)) (pow_pos ty.width))
    (cases_lt k (length es))

pub entry_holds : (es : List ℕ) (ty : Ty) (n : ℤ) → AreEntriesOf ty es → HoldsNumber ty (entry_number es ty n)
entry_holds es ty n h = pattern_holds ty (get_or es (unsigned_abs n) 0) (entry_below es ty (unsigned_abs n) h)

pub one_holds : (kind : Kind) (a ty : Ty) (n : ℤ) → IsOne kind a ty → HoldsNumber a n → HoldsNumber ty (one_number kind a ty n)
one_holds k.Neg a ty n t p = holds_as ty _ _ _ t.signed t.width (unary_holds unary.Neg a n (within a n p))
one_holds k.Not a ty n t p = holds_as ty _ _ _ t.signed t.width (unary_holds unary.Not a n (within a n p))
one_holds k.Lnot a ty n t p = holds_as ty _ _ _ t.signed t.width (unary_holds unary.Lnot a n (within a n p))
one_holds k.Cast a ty n t p = fit_holds ty n
one_holds (k.Range hi lo) a ty n t p =
    let below : pattern_of a.width n / 2 ^ lo % 2 ^ (hi - lo + 1) < 2 ^ (hi - lo + 1) = mod_below (pattern_of a.width n / 2 ^ lo) (2 ^ (hi - lo + 1)) (pow_pos (hi - lo + 1)) in
    unsigned_holds ty (bits_between (pattern_of a.width n) hi lo) t.unsigned (rw t.width below)
one_holds _ a ty n t p = absurd t

pub operator_holds : (o : Option BinOp) (a b ty : Ty) (x y : ℤ) → IsOperator o a b ty → HoldsNumber a x → HoldsNumber b y → HoldsNumber ty (operator_number o a x b y)
operator_holds None a b ty x y t p q = absurd t
operator_holds (Some op) a b ty x y t p q = holds_as ty _ _ _ t.signed t.width (binary_holds op a b x y (within a x p) (within b y q))

pub two_holds : (i : Inputs) (kind : Kind) (ty a b : Ty) (x y : ℤ) → IsTwo kind a b ty → HoldsNumber a x → HoldsNumber b y → HoldsNumber ty (two_number i kind ty a x b y)
two_holds i k.RdMem ty a b x y t p q =
    cond_both (is_true y) (loaded i.memory ty x) (pos 0) (HoldsNumber ty) (λ e. loaded_holds i.memory ty x) (λ e. unsigned_holds ty 0 t.unsigned (pow_pos ty.width))
two_holds i kind ty a b x y t p q = operator_holds (binary_of kind) a b ty x y t p q

pub value_holds : (ts : List Ty) (i : Inputs) → AreInputs ts i → (t : Term) → IsTerm ts t → HoldsNumber (type_of t) (value i t)
value_holds ts i g (t_const ty raw) h = pattern_holds ty raw h
value_holds ts i g (t_read kind ty) h = pattern_holds ty (read i kind) (g kind ty h)
value_holds ts i g (t_one kind ty a) h = one_holds kind (type_of a) ty (value i a) h.1 (value_holds ts i g a h.0)
value_holds ts i g (t_entry n es ty a) h = entry_holds es ty (value i a) h.1
value_holds ts i g (t_two kind ty a b) h =
    two_holds i kind ty (type_of a) (type_of b) (value i a) (value i b) h.2 (value_holds ts i g a h.0) (value_holds ts i g b h.1)
value_holds ts i g (t_three kind ty c a b) h =
    three kind ty (type_of c) (type_of a) (type_of b) (is_true (value i c)) (value i a) (value i b) h.3 (value_holds ts i g a h.1) (value_holds ts i g b h.2)
  where
    three : (kind : Kind) (ty c a b : Ty) (d : Bool) (x y : ℤ) → IsThree kind c a b ty → HoldsNumber a x → HoldsNumber b y → HoldsNumber ty (cond d x y)
    three k.Mux ty c a b d x y t p q = cond_both d x y (HoldsNumber ty) (λ e. t.common.first x p) (λ e. t.common.second y q)
    three _ ty c a b d x y t p q = absurd t
