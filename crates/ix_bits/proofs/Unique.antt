-- A number that fits is the one that `fit` gives.
use Rattle.std.proofs.Common.{◌≡◌, ℕ, ◌+◌, ◌^◌, ◌<◌, ap, ◌∙◌, sym, arith, ℤ, pos, negsuc, ◌+ℤ◌, ◌*ℤ◌}
use Rattle.std.proofs.lemmas.Int.{ints}
use Rattle.std.proofs.lemmas.Nat.{pow_pos}
use Rattle.ix_bits.specs.declared.number.Ty.{Ty}
use Rattle.ix_bits.specs.Operators.{pattern_of, value_of}
use Rattle.ix_bits.specs.Laws.{FitIsTheOne, PatternsAreNumbers}
use Rattle.ix_bits.proofs.Remainders.{rem_of, rem_is, rem_splits, rem_below_lem}
use Rattle.ix_bits.proofs.Patterns.{number_of_pattern, pattern_of_number, number_from_least, number_below_past, pattern_narrows}
use Rattle.ix_bits.proofs.Results.{fits}

-- numbers that differ by a multiple have one remainder
same_rem : (m : ℕ) (a n k : ℤ) → 0 < m → a ≡ n +ℤ (k *ℤ pos m) → rem_of m a ≡ rem_of m n
same_rem m a n (pos k) h e =
    let s = rem_splits m n h in
    rem_is m a (rem_of m n) s.0 (s.1 + k) (rem_below_lem m n h) (omega (arith, ints, s.2, e))
same_rem m a n (negsuc k) h e =
    let s = rem_splits m n h in
    rem_is m a (rem_of m n) (s.0 + (k + 1)) s.1 (rem_below_lem m n h) (omega (arith, ints, s.2, e))

pub fit_is_the_one : (ty : Ty) (n : ℤ) → FitIsTheOne ty n
fit_is_the_one ty n =
    let f = fits ty.signed ty.width n (pattern_of ty.width n) ty.some_width ty.most_width (pattern_narrows ty.width 128 n ty.most_width) in
    record {
      fits = record { holds = record { from_least = f.0.from_least; below_past = f.0.below_past }; congruent = f.1 };
      only = λ m g.
          sym (number_of_pattern ty.signed ty.width m ty.some_width g.holds.from_least g.holds.below_past)
          ∙ ap (value_of ty) (same_rem (2 ^ ty.width) m n g.congruent.0 (pow_pos ty.width) g.congruent.1);
    }

pub patterns_are_numbers : (ty : Ty) → PatternsAreNumbers ty
patterns_are_numbers ty = record {
  number = λ raw h. (
    record { from_least = number_from_least ty.signed ty.width raw ty.some_width h; below_past = number_below_past ty.signed ty.width raw ty.some_width h },
    pattern_of_number ty.signed ty.width raw ty.some_width h,
  );
  pattern = λ n h. (
    rem_below_lem (2 ^ ty.width) n (pow_pos ty.width),
    number_of_pattern ty.signed ty.width n ty.some_width h.from_least h.below_past,
  );
}
