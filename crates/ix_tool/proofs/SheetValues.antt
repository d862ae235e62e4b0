-- What a scheduling, a building and a sequential run take.
use Rattle.std.proofs.Common.{◌≡◌, ℕ, refl, List, [], ◌∷◌, map}
use Rattle.ix_tree.specs.declared.extension.Extension.{Extension}
use Rattle.ix_sheet.specs.declared.sheet.Sheet.{Sheet}
use Rattle.ix_words.specs.declared.command.Command.TheVariants.{Seq}
use Rattle.ix_words.specs.declared.value.Value.{Value}
use Rattle.ix_words.specs.declared.value.Value.TheVariants as value
use Rattle.ix_words.specs.Readings.{reading_of}
use Rattle.ix_tool.specs.CommandOutput.{TakesSheet, Takes}

-- an extension and a datasheet
pub sheet_values : (vs : List Value) → TakesSheet (map reading_of vs) → (x : Extension) × (s : Sheet) × (vs ≡ value.Extension x ∷ value.Sheet s ∷ [])
sheet_values [] h = absurd h
sheet_values (value.Number n ∷ vs) h = absurd h
sheet_values (value.Image i ∷ vs) h = absurd h
sheet_values (value.Report ∷ vs) h = absurd h
sheet_values (value.Source s ∷ vs) h = absurd h
sheet_values (value.Sheet s ∷ vs) h = absurd h
sheet_values (value.Waits w ∷ vs) h = absurd h
sheet_values (value.Lines w ∷ vs) h = absurd h
sheet_values (value.Trace w ∷ vs) h = absurd h
sheet_values (value.Extension x ∷ []) h = absurd h
sheet_values (value.Extension x ∷ value.Number n ∷ vs) h = absurd h
sheet_values (value.Extension x ∷ value.Image i ∷ vs) h = absurd h
sheet_values (value.Extension x ∷ value.Report ∷ vs) h = absurd h
sheet_values (value.Extension x ∷ value.Extension y ∷ vs) h = absurd h
sheet_values (value.Extension x ∷ value.Source s ∷ vs) h = absurd h
sheet_values (value.Extension x ∷ value.Waits w ∷ vs) h = absurd h
sheet_values (value.Extension x ∷ value.Lines w ∷ vs) h = absurd h
sheet_values (value.Extension x ∷ value.Trace w ∷ vs) h = absurd h
sheet_values (value.Extension x ∷ value.Sheet s ∷ []) h = (x, s, refl)
sheet_values (value.Extension x ∷ value.Sheet s ∷ w ∷ vs) h = absurd h

-- an extension, an image and a number
pub seq_values : (vs : List Value) → Takes Seq (map reading_of vs) → (x : Extension) × (i : List ℕ) × (n : ℕ) × (vs ≡ value.Extension x ∷ value.Image i ∷ value.Number n ∷ [])
seq_values [] h = absurd h
seq_values (value.Number a ∷ vs) h = absurd h
seq_values (value.Image a ∷ vs) h = absurd h
seq_values (value.Report ∷ vs) h = absurd h
seq_values (value.Sheet a ∷ vs) h = absurd h
seq_values (value.Source a ∷ vs) h = absurd h
seq_values (value.Waits a ∷ vs) h = absurd h
seq_values (value.Lines a ∷ vs) h = absurd h
seq_values (value.Trace a ∷ vs) h = absurd h
seq_values (value.Extension x ∷ []) h = absurd h
seq_values (value.Extension x ∷ value.Number a ∷ vs) h = absurd h
seq_values (value.Extension x ∷ value.Report ∷ vs) h = absurd h
seq_values (value.Extension x ∷ value.Extension a ∷ vs) h = absurd h
seq_values (value.Extension x ∷ value.Sheet a ∷ vs) h = absurd h
seq_values (value.Extension x ∷ value.Source a ∷ vs) h = absurd h
seq_values (value.Extension x ∷ value.Waits a ∷ vs) h = absurd h
seq_values (value.Extension x ∷ value.Lines a ∷ vs) h = absurd h
seq_values (value.Extension x ∷ value.Trace a ∷ vs) h = absurd h
seq_values (value.Extension x ∷ value.Image i ∷ []) h = absurd h
seq_values (value.Extension x ∷ value.Image i ∷ value.Image a ∷ vs) h = absurd h
seq_values (value.Extension x ∷ value.Image i ∷ value.Report ∷ vs) h = absurd h
seq_values (value.Extension x ∷ value.Image i ∷ value.Extension a ∷ vs) h = absurd h
seq_values (value.Extension x ∷ value.Image i ∷ value.Sheet a ∷ vs) h = absurd h
seq_values (value.Extension x ∷ value.Image i ∷ value.Source a ∷ vs) h = absurd h
seq_values (value.Extension x ∷ value.Image i ∷ value.Waits a ∷ vs) h = absurd h
seq_values (value.Extension x ∷ value.Image i ∷ value.Lines a ∷ vs) h = absurd h
seq_values (value.Extension x ∷ value.Image i ∷ value.Trace a ∷ vs) h = absurd h
seq_values (value.Extension x ∷ value.Image i ∷ value.Number n ∷ v ∷ vs) h = absurd h
seq_values (value.Extension x ∷ value.Image i ∷ value.Number n ∷ []) h = (x, i, n, refl)
