-- Entries of tables by their places.
use Rattle.std.proofs.Common.{◌≡◌, ℕ, ◌-◌, ◌^◌, ◌<◌, ◌≤◌, ◌⊎◌, ⊎_elim, sym, ap, ◌∙◌, arith, Bool, true, false, ℤ, pos, List, map, get_or, length}
use Rattle.std.proofs.lemmas.Int.{ints}
use Rattle.std.proofs.lemmas.Bool.{cases_lt}
use Rattle.std.proofs.lemmas.List.{get_or-map, get_or_past, length-map}
use Rattle.ix_bits.specs.declared.number.Ty.{Ty}
use Rattle.ix_bits.specs.declared.number.Bits.{Bits}
use Rattle.ix_bits.specs.declared.number.Value.{Value}
use Rattle.ix_bits.specs.Types.{number_of}
use Rattle.ix_bits.specs.Operators.{value_of}
use Rattle.ix_bits.proofs.Patterns.{number_below, number_above}
use Rattle.ix_mean.specs.Core.{Expression, type_of_expression}
use Rattle.ix_mean.specs.Meaning.{Inputs, number, entry_number}
use Rattle.ix_mean.specs.Typing.{IsIndexOf, IsConstantIndex}
use Rattle.ix_mean.specs.View.{raw_of, seen}
use Rattle.ix_mean.proofs.Evaluating.{raw_below}

-- what is read of a list is what is read of its patterns
pub raw_read : (bs : List Bits) (k : ℕ) (d : Bits) → k < length bs → (get_or bs k d).raw ≡ get_or (map raw_of bs) k 0
raw_read bs k d l = sym (get_or-map raw_of bs k d 0 l)

pub raw_none : (bs : List Bits) (k : ℕ) → length bs ≤ k → 0 ≡ get_or (map raw_of bs) k 0
raw_none bs k l = sym (get_or_past (map raw_of bs) k 0 (let e = length-map bs raw_of in omega arith))

-- a number that is not negative is its pattern
place_at : (s : Bool) (w raw n : ℕ) → raw < 2 ^ w → number_of s w raw ≡ pos n → raw ≡ n
place_at false w raw n h e = omega (arith, ints)
place_at true w raw n h e =
    ⊎_elim (λ (b : raw < 2 ^ (w - 1)). (let f = rw (number_below w raw b) at e in omega (arith, ints)))
    (λ (a : 2 ^ (w - 1) ≤ raw). (let f = rw (number_above w raw a) at e in absurd (omega (arith, ints))))
    (cases_lt raw (2 ^ (w - 1)))

pub place_is : (v : Value) (n : ℕ) → seen v ≡ pos n → v.bits.raw ≡ n
place_is v n e = place_at v.ty.signed v.ty.width v.bits.raw n (raw_below v) e

pub entry_is : (es : List ℕ) (ty : Ty) (v : Value) (raw n : ℕ) → seen v ≡ pos n → raw ≡ get_or es v.bits.raw 0 → value_of ty raw ≡ entry_number es ty (seen v)
entry_is es ty v raw n e f =
    ap (value_of ty) (f ∙ ap (λ (k : ℕ). get_or es k 0) (place_is v n e)) ∙ ap (entry_number es ty) (sym e)

-- an index of a table is not negative
pub index_shown : (es : List ℕ) (v : Value) (a : Expression) (i : Inputs) (s : List ℤ) → v.ty ≡ type_of_expression a → (IsIndexOf es (type_of_expression a) ⊎ IsConstantIndex es a)
    → seen v ≡ number i s a → (n : ℕ) × (seen v ≡ pos n)
index_shown es v a i s e o f =
    ⊎_elim
    (λ (x : IsIndexOf es (type_of_expression a)).
    (v.bits.raw, ap (λ (b : Bool). number_of b v.ty.width v.bits.raw) (ap (λ (t : Ty). t.signed) e ∙ x.unsigned)))
    (λ (c : IsConstantIndex es a). (c.place, f ∙ c.is i s))
    o
