-- What the values of an audit are, one behind another.
use Rattle.std.proofs.Common.{◌≡◌, ℕ, ◌<◌, List, [], ◌∷◌, length, map, refl, arith}
use Rattle.ix_extension.specs.Extensions.{ExtensionTree}
use Rattle.ix_sheet.specs.declared.sheet.Sheet.{Sheet}
use Rattle.ix_words.specs.declared.value.Value.{Value}
use Rattle.ix_words.specs.declared.value.Value.TheVariants as value
use Rattle.ix_words.specs.Readings.{extension_read, sheet_read, reading_of}
use Rattle.ix_tool.specs.CommandOutput.{TakesAudit}

-- behind an extension and a datasheet an image, the waits and the bytes of a trace
pub trace_values : (x : ExtensionTree) (s : Sheet) (vs : List Value) → TakesAudit (extension_read x ∷ sheet_read s ∷ map reading_of vs) → (i : List ℕ) × (w : List ℕ) × (t : List ℕ) × (vs ≡ value.Image i ∷ value.Waits w ∷ value.Trace t ∷ [])
trace_values x s [] h = absurd h
trace_values x s (value.Number a ∷ vs) h = absurd h
trace_values x s (value.Report ∷ vs) h = absurd h
trace_values x s (value.Extension a ∷ vs) h = absurd h
trace_values x s (value.Sheet a ∷ vs) h = absurd h
trace_values x s (value.Source a ∷ vs) h = absurd h
trace_values x s (value.Waits a ∷ vs) h = absurd h
trace_values x s (value.Lines a ∷ vs) h = absurd h
trace_values x s (value.Trace a ∷ vs) h = absurd h
trace_values x s (value.Image i ∷ []) h = absurd h
trace_values x s (value.Image i ∷ value.Number a ∷ vs) h = absurd h
trace_values x s (value.Image i ∷ value.Image a ∷ vs) h = absurd h
trace_values x s (value.Image i ∷ value.Report ∷ vs) h = absurd h
trace_values x s (value.Image i ∷ value.Extension a ∷ vs) h = absurd h
trace_values x s (value.Image i ∷ value.Sheet a ∷ vs) h = absurd h
trace_values x s (value.Image i ∷ value.Source a ∷ vs) h = absurd h
trace_values x s (value.Image i ∷ value.Lines a ∷ vs) h = absurd h
trace_values x s (value.Image i ∷ value.Trace a ∷ vs) h = absurd h
trace_values x s (value.Image i ∷ value.Waits w ∷ []) h = absurd h
trace_values x s (value.Image i ∷ value.Waits w ∷ value.Number a ∷ vs) h = absurd h
trace_values x s (value.Image i ∷ value.Waits w ∷ value.Image a ∷ vs) h = absurd h
trace_values x s (value.Image i ∷ value.Waits w ∷ value.Report ∷ vs) h = absurd h
trace_values x s (value.Image i ∷ value.Waits w ∷ value.Extension a ∷ vs) h = absurd h
trace_values x s (value.Image i ∷ value.Waits w ∷ value.Sheet a ∷ vs) h = absurd h
trace_values x s (value.Image i ∷ value.Waits w ∷ value.Source a ∷ vs) h = absurd h
trace_values x s (value.Image i ∷ value.Waits w ∷ value.Waits a ∷ vs) h = absurd h
trace_values x s (value.Image i ∷ value.Waits w ∷ value.Lines a ∷ vs) h = absurd h
trace_values x s (value.Image i ∷ value.Waits w ∷ value.Trace t ∷ v ∷ vs) h = absurd h
trace_values x s (value.Image i ∷ value.Waits w ∷ value.Trace t ∷ []) h = (i, w, t, refl)

-- there is a value
pub some_values : (vs : List Value) → TakesAudit (map reading_of vs) → 0 < length vs
some_values [] h = absurd h
some_values (v ∷ vs) h = omega arith

pub some_behind : (x : ExtensionTree) (vs : List Value) → TakesAudit (extension_read x ∷ map reading_of vs) → 0 < length vs
some_behind x [] h = absurd h
some_behind x (v ∷ vs) h = omega arith
