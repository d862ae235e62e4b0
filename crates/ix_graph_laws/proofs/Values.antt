-- The pattern that an operation makes of its arguments is that of its term's number.
use Rattle.std.proofs.Common.{◌≡◌, refl, sym, ap, ◌∙◌, ℕ, ◌/◌, ◌%◌, ◌^◌, ℤ, pos, Bool, true, false, cond, List, [], ◌∷◌, map, get_or, Option, Some}
use Rattle.std.specs.Prelude.{slice_get, unsigned_abs}
use Rattle.ix_bits.specs.declared.number.Ty.{Ty}
use Rattle.ix_bits.specs.declared.number.Bits.{Bits}
use Rattle.ix_bits.specs.Types.{HoldsNumber, number_of}
use Rattle.ix_bits.specs.Operators.{pattern_of, value_of, is_true}
use Rattle.ix_graph.specs.declared.kind.Kind.{Kind}
use Rattle.ix_graph.specs.declared.kind.Kind.TheVariants as k
use Rattle.ix_mean.specs.Meaning.{Inputs, loaded, one_number, entry_number}
use Rattle.ix_mean.specs.Terms.{Term, type_of, value, two_number, operator_number, binary_of}
use Rattle.ix_mean.specs.Typing.{IsOne, IsOperator}
use Rattle.ix_mean.specs.View.{raw_of}
use Rattle.ix_mean.specs.GraphValues.{by_two, kind_value}
use Rattle.ix_mean.proofs.InRange.{fit_is}
use Rattle.ix_mean.proofs.Effecting.{zero_is}
use Rattle.ix_graph_laws.specs.GraphEffects.{memory_raw}

module _ (i : Inputs) where
  -- patterns of terms' numbers
  abbrev pub AreRaws : List Term → List ℕ → Type 0
  AreRaws [] [] = Unit {0}
  AreRaws (u ∷ us) (x ∷ xs) = (value_of (type_of u) x ≡ value i u) × AreRaws us xs
  AreRaws _ _ = ⊥

  pub one_value : (tables : List (List Bits)) (kind : Kind) (u : Term) (ty : Ty) (raws : List ℕ) → AreRaws (u ∷ []) raws → IsOne kind (type_of u) ty → HoldsNumber ty (one_number kind (type_of u) ty (value i u))
      → value_of ty (kind_value tables kind (Some (type_of u) ∷ []) raws ty) ≡ one_number kind (type_of u) ty (value i u)
  unfolding kind_value
  one_value tables kind u ty [] h o n = absurd h
  one_value tables kind u ty (x ∷ y ∷ raws) h o n = absurd h.1
  one_value tables k.Neg u ty (x ∷ []) h o n = ap (λ (z : ℤ). value_of ty (pattern_of ty.width (one_number k.Neg (type_of u) ty z))) h.0 ∙ fit_is ty _ n
  one_value tables k.Not u ty (x ∷ []) h o n = ap (λ (z : ℤ). value_of ty (pattern_of ty.width (one_number k.Not (type_of u) ty z))) h.0 ∙ fit_is ty _ n
  one_value tables k.Lnot u ty (x ∷ []) h o n = ap (λ (z : ℤ). value_of ty (pattern_of ty.width (one_number k.Lnot (type_of u) ty z))) h.0 ∙ fit_is ty _ n
  one_value tables k.Cast u ty (x ∷ []) h o n = ap (λ (z : ℤ). value_of ty (pattern_of ty.width (one_number k.Cast (type_of u) ty z))) h.0 ∙ fit_is ty _ n
  one_value tables (k.Range hi lo) u ty (x ∷ []) h o n = ap (λ (z : ℤ). value_of ty (pattern_of ty.width (one_number (k.Range hi lo) (type_of u) ty z))) h.0 ∙ fit_is ty _ n
  one_value tables _ u ty (x ∷ []) h o n = absurd o

  -- an operator on two numbers
  operator_value : (kind : Kind) (u v : Term) (ty : Ty) (x y : ℕ) → value_of (type_of u) x ≡ value i u → value_of (type_of v) y ≡ value i v
      → HoldsNumber ty (operator_number (binary_of kind) (type_of u) (value i u) (type_of v) (value i v))
      → value_of ty (by_two kind (Some (type_of u) ∷ Some (type_of v) ∷ []) (x ∷ y ∷ []) ty) ≡ operator_number (binary_of kind) (type_of u) (value i u) (type_of v) (value i v)
  operator_value kind u v ty x y e f n =
      ap (λ (z : ℤ). value_of ty (pattern_of ty.width (operator_number (binary_of kind) (type_of u) z (type_of v) (value_of (type_of v) y)))) e
      ∙ ap (λ (z : ℤ). value_of ty (pattern_of ty.width (operator_number (binary_of kind) (type_of u) (value i u) (type_of v) z))) f ∙ fit_is ty _ n

  abbrev GivesTwo : List (List Bits) → Kind → Term → Term → Ty → ℕ → ℕ → Type 0
  GivesTwo tables kind u v ty x y = value_of ty (kind_value tables kind (Some (type_of u) ∷ Some (type_of v) ∷ []) (x ∷ y ∷ []) ty) ≡ two_number i kind ty (type_of u) (value i u) (type_of v) (value i v)

  pub two_value : (tables : List (List Bits)) (kind : Kind) (u v : Term) (ty : Ty) (x y : ℕ) → value_of (type_of u) x ≡ value i u → value_of (type_of v) y ≡ value i v → IsOperator (binary_of kind) (type_of u) (type_of v) ty
      → HoldsNumber ty (two_number i kind ty (type_of u) (value i u) (type_of v) (value i v)) → GivesTwo tables kind u v ty x y
  unfolding kind_value
  two_value tables k.Add u v ty x y e f o n = operator_value k.Add u v ty x y e f n
  two_value tables k.Sub u v ty x y e f o n = operator_value k.Sub u v ty x y e f n
  two_value tables k.Mul u v ty x y e f o n = operator_value k.Mul u v ty x y e f n
  two_value tables k.And u v ty x y e f o n = operator_value k.And u v ty x y e f n
  two_value tables k.Or u v ty x y e f o n = operator_value k.Or u v ty x y e f n
  two_value tables k.Xor u v ty x y e f o n = operator_value k.Xor u v ty x y e f n
  two_value tables k.Shl u v ty x y e f o n = operator_value k.Shl u v ty x y e f n
  two_value tables k.Shr u v ty x y e f o n = operator_value k.Shr u v ty x y e f n
  two_value tables k.Eq u v ty x y e f o n = operator_value k.Eq u v ty x y e f n
  two_value tables k.Ne u v ty x y e f o n = operator_value k.Ne u v ty x y e f n
  two_value tables k.Lt u v ty x y e f o n = operator_value k.Lt u v ty x y e f n
  two_value tables k.Le u v ty x y e f o n = operator_value k.Le u v ty x y e f n
  two_value tables k.Gt u v ty x y e f o n = operator_value k.Gt u v ty x y e f n
  two_value tables k.Ge u v ty x y e f o n = operator_value k.Ge u v ty x y e f n
  two_value tables k.Land u v ty x y e f o n = operator_value k.Land u v ty x y e f n
  two_value tables k.Lor u v ty x y e f o n = operator_value k.Lor u v ty x y e f n
  two_value tables k.Concat u v ty x y e f o n = operator_value k.Concat u v ty x y e f n
  two_value tables _ u v ty x y e f o n = absurd o

  -- a choice
  pub three_value : (tables : List (List Bits)) (c u v : Term) (ty : Ty) (w x y : ℕ) → value_of (type_of c) w ≡ value i c → value_of (type_of u) x ≡ value i u → value_of (type_of v) y ≡ value i v
      → HoldsNumber ty (cond (is_true (value i c)) (value i u) (value i v))
      → value_of ty (kind_value tables k.Mux (Some (type_of c) ∷ Some (type_of u) ∷ Some (type_of v) ∷ []) (w ∷ x ∷ y ∷ []) ty) ≡ cond (is_true (value i c)) (value i u) (value i v)
  unfolding kind_value
  three_value tables c u v ty w x y d e f n =
      ap (λ (z : ℤ). value_of ty (pattern_of ty.width (cond (is_true z) (value_of (type_of u) x) (value_of (type_of v) y)))) d
      ∙ ap (λ (z : ℤ). value_of ty (pattern_of ty.width (cond (is_true (value i c)) z (value_of (type_of v) y)))) e
      ∙ ap (λ (z : ℤ). value_of ty (pattern_of ty.width (cond (is_true (value i c)) (value i u) z))) f ∙ fit_is ty _ n

  unsigned_value : (a : Ty) (x : ℕ) → a.signed ≡ false → value_of a x ≡ pos x
  unsigned_value a x e = ap (λ (s : Bool). number_of s a.width x) e

  -- an entry of a table
  pub entry_value : (tables : List (List Bits)) (m : ℕ) (entries : List Bits) (es : List ℕ) (u : Term) (ty : Ty) (types : List (Option Ty)) (x : ℕ) → slice_get tables m ≡ Some entries → es ≡ map raw_of entries
      → (type_of u).signed ≡ false → value_of (type_of u) x ≡ value i u → value_of ty (kind_value tables (k.Rom m) types (x ∷ []) ty) ≡ entry_number es ty (value i u)
  unfolding kind_value
  entry_value tables m entries es u ty types x there patterns s e =
      let place : unsigned_abs (value i u) ≡ x = ap unsigned_abs (sym e ∙ unsigned_value (type_of u) x s) in
      ap (λ (o : Option (List Bits)). value_of ty (Rattle.ix_mean.specs.GraphValues.by_entry o (x ∷ []))) there
      ∙ ap (λ (z : List ℕ). value_of ty (get_or z x 0)) (sym patterns)
      ∙ ap (λ (z : ℕ). value_of ty (get_or es z 0)) (sym place)

  -- what is loaded
  pub memory_value : (ty : Ty) (at c : ℤ) → value_of ty (memory_raw i ty (at ∷ c ∷ [])) ≡ cond (is_true c) (loaded i.memory ty at) (pos 0)
  memory_value ty at c = by (is_true c)
    where
      by : (b : Bool) → value_of ty (cond b (i.memory (unsigned_abs at) (ty.width / 8) % 2 ^ ty.width) 0) ≡ cond b (loaded i.memory ty at) (pos 0)
      by true = refl
      by false = zero_is ty
