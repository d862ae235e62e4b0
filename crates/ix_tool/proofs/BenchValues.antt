-- What the values of a drawn run are, one behind another.
use Rattle.std.proofs.Common.{◌≡◌, ℕ, ◌<◌, List, [], ◌∷◌, length, map, refl, arith}
use Rattle.ix_extension.specs.Extensions.{ExtensionTree}
use Rattle.ix_sheet.specs.declared.sheet.Sheet.{Sheet}
use Rattle.ix_words.specs.declared.value.Value.{Value}
use Rattle.ix_words.specs.declared.value.Value.TheVariants as value
use Rattle.ix_words.specs.Readings.{extension_read, sheet_read, reading_of}
use Rattle.ix_tool.specs.CommandOutput.{TakesBench}

-- behind an extension and a datasheet two numbers
pub two_numbers : (x : ExtensionTree) (s : Sheet) (vs : List Value) → TakesBench (extension_read x ∷ sheet_read s ∷ map reading_of vs) → (n : ℕ) × (c : ℕ) × (vs ≡ value.Number n ∷ value.Number c ∷ [])
two_numbers x s [] h = absurd h
two_numbers x s (value.Image a ∷ vs) h = absurd h
two_numbers x s (value.Report ∷ vs) h = absurd h
two_numbers x s (value.Extension a ∷ vs) h = absurd h
two_numbers x s (value.Sheet a ∷ vs) h = absurd h
two_numbers x s (value.Source a ∷ vs) h = absurd h
two_numbers x s (value.Waits a ∷ vs) h = absurd h
two_numbers x s (value.Lines a ∷ vs) h = absurd h
two_numbers x s (value.Trace a ∷ vs) h = absurd h
two_numbers x s (value.Number n ∷ []) h = absurd h
two_numbers x s (value.Number n ∷ value.Image a ∷ vs) h = absurd h
two_numbers x s (value.Number n ∷ value.Report ∷ vs) h = absurd h
two_numbers x s (value.Number n ∷ value.Extension a ∷ vs) h = absurd h
two_numbers x s (value.Number n ∷ value.Sheet a ∷ vs) h = absurd h
two_numbers x s (value.Number n ∷ value.Source a ∷ vs) h = absurd h
two_numbers x s (value.Number n ∷ value.Waits a ∷ vs) h = absurd h
two_numbers x s (value.Number n ∷ value.Lines a ∷ vs) h = absurd h
two_numbers x s (value.Number n ∷ value.Trace a ∷ vs) h = absurd h
two_numbers x s (value.Number n ∷ value.Number c ∷ v ∷ vs) h = absurd h
two_numbers x s (value.Number n ∷ value.Number c ∷ []) h = (n, c, refl)

-- there is a value
pub some_values : (vs : List Value) → TakesBench (map reading_of vs) → 0 < length vs
some_values [] h = absurd h
some_values (v ∷ vs) h = omega arith

pub some_behind : (x : ExtensionTree) (vs : List Value) → TakesBench (extension_read x ∷ map reading_of vs) → 0 < length vs
some_behind x [] h = absurd h
some_behind x (v ∷ vs) h = omega arith
