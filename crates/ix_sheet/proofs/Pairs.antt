-- Arrays of two whole numbers.
use Rattle.std.proofs.Common.{◌≡◌, ◌<◌, List, [], ◌∷◌, length, None, refl, arith}
use Rattle.toml.specs.declared.value.Value.{Value}
use Rattle.toml.specs.View.{items_view}
use Rattle.ix_sheet.specs.Datasheets.{two_numbers}

pub two_numbers-short : (xs : List Value) → length xs < 2 → two_numbers (items_view xs) ≡ None
two_numbers-short [] h = refl
two_numbers-short (x ∷ []) h = refl
two_numbers-short (x ∷ y ∷ rest) h = absurd (omega arith)

pub two_numbers-long : (xs : List Value) → 2 < length xs → two_numbers (items_view xs) ≡ None
two_numbers-long [] h = refl
two_numbers-long (x ∷ []) h = refl
two_numbers-long (x ∷ y ∷ []) h = absurd (omega arith)
two_numbers-long (x ∷ y ∷ z ∷ rest) h = refl
