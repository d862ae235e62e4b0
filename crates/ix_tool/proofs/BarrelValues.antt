-- What the values of a run of two harts are, one behind another.
use Rattle.std.proofs.Common.{◌≡◌, ℕ, ◌<◌, List, [], ◌∷◌, length, map, refl, arith}
use Rattle.ix_extension.specs.Extensions.{ExtensionTree}
use Rattle.ix_sheet.specs.declared.sheet.Sheet.{Sheet}
use Rattle.ix_words.specs.declared.value.Value.{Value}
use Rattle.ix_words.specs.declared.value.Value.TheVariants as value
use Rattle.ix_words.specs.Readings.{extension_read, sheet_read, reading_of}
use Rattle.ix_tool.specs.CommandOutput.{TakesBarrel}

-- behind an extension and a datasheet two images and a number
pub two_images : (x : ExtensionTree) (s : Sheet) (vs : List Value) → TakesBarrel (extension_read x ∷ sheet_read s ∷ map reading_of vs) → (i : List ℕ) × (j : List ℕ) × (n : ℕ) × (vs ≡ value.Image i ∷ value.Image j ∷ value.Number n ∷ [])
two_images x s [] h = absurd h
two_images x s (value.Number a ∷ vs) h = absurd h
two_images x s (value.Report ∷ vs) h = absurd h
two_images x s (value.Extension a ∷ vs) h = absurd h
two_images x s (value.Sheet a ∷ vs) h = absurd h
two_images x s (value.Source a ∷ vs) h = absurd h
two_images x s (value.Waits a ∷ vs) h = absurd h
two_images x s (value.Lines a ∷ vs) h = absurd h
two_images x s (value.Trace a ∷ vs) h = absurd h
two_images x s (value.Image i ∷ []) h = absurd h
two_images x s (value.Image i ∷ value.Number a ∷ vs) h = absurd h
two_images x s (value.Image i ∷ value.Report ∷ vs) h = absurd h
two_images x s (value.Image i ∷ value.Extension a ∷ vs) h = absurd h
two_images x s (value.Image i ∷ value.Sheet a ∷ vs) h = absurd h
two_images x s (value.Image i ∷ value.Source a ∷ vs) h = absurd h
two_images x s (value.Image i ∷ value.Waits a ∷ vs) h = absurd h
two_images x s (value.Image i ∷ value.Lines a ∷ vs) h = absurd h
two_images x s (value.Image i ∷ value.Trace a ∷ vs) h = absurd h
two_images x s (value.Image i ∷ value.Image j ∷ []) h = absurd h
two_images x s (value.Image i ∷ value.Image j ∷ value.Image a ∷ vs) h = absurd h
two_images x s (value.Image i ∷ value.Image j ∷ value.Report ∷ vs) h = absurd h
two_images x s (value.Image i ∷ value.Image j ∷ value.Extension a ∷ vs) h = absurd h
two_images x s (value.Image i ∷ value.Image j ∷ value.Sheet a ∷ vs) h = absurd h
two_images x s (value.Image i ∷ value.Image j ∷ value.Source a ∷ vs) h = absurd h
two_images x s (value.Image i ∷ value.Image j ∷ value.Waits a ∷ vs) h = absurd h
two_images x s (value.Image i ∷ value.Image j ∷ value.Lines a ∷ vs) h = absurd h
two_images x s (value.Image i ∷ value.Image j ∷ value.Trace a ∷ vs) h = absurd h
two_images x s (value.Image i ∷ value.Image j ∷ value.Number n ∷ v ∷ vs) h = absurd h
two_images x s (value.Image i ∷ value.Image j ∷ value.Number n ∷ []) h = (i, j, n, refl)

-- there is a value
pub some_values : (vs : List Value) → TakesBarrel (map reading_of vs) → 0 < length vs
some_values [] h = absurd h
some_values (v ∷ vs) h = omega arith

pub some_behind : (x : ExtensionTree) (vs : List Value) → TakesBarrel (extension_read x ∷ map reading_of vs) → 0 < length vs
some_behind x [] h = absurd h
some_behind x (v ∷ vs) h = omega arith
