-- What the values of a run with an extension are, one behind another.
use Rattle.std.proofs.Common.{◌≡◌, ℕ, ◌<◌, ◌≤◌, List, [], ◌∷◌, length, drop, get_or, map, refl, sym, ap, ◌∙◌, arith, ◌⊎◌, inl, inr}
use Rattle.ix_extension.specs.Extensions.{ExtensionTree}
use Rattle.ix_sheet.specs.declared.sheet.Sheet.{Sheet}
use Rattle.ix_words.specs.declared.value.Value.{Value}
use Rattle.ix_words.specs.declared.value.Value.TheVariants as value
use Rattle.ix_words.specs.Readings.{extension_read, sheet_read, reading_of}
use Rattle.ix_words.specs.declared.command.RunForm.{RunForm}
use Rattle.ix_words.specs.declared.command.RunForm.TheVariants.{Rows, Interrupted, Ports}
use Rattle.ix_tool.specs.CommandOutput.{TakesPipeline, TakesInterrupted, TakesRun}

-- behind an extension and a datasheet the values of a run are three or four
abbrev pub AreThree : List Value → Type 0
AreThree vs = (i : List ℕ) × (w : List ℕ) × (n : ℕ) × (vs ≡ value.Image i ∷ value.Waits w ∷ value.Number n ∷ [])

abbrev pub AreFour : List Value → Type 0
AreFour vs = (i : List ℕ) × (w : List ℕ) × (l : List ℕ) × (n : ℕ) × (vs ≡ value.Image i ∷ value.Waits w ∷ value.Lines l ∷ value.Number n ∷ [])

-- behind an extension and a datasheet an image, the waits and a number
three_values : (x : ExtensionTree) (s : Sheet) (vs : List Value) → TakesPipeline (extension_read x ∷ sheet_read s ∷ map reading_of vs) → AreThree vs
three_values x s [] h = absurd h
three_values x s (value.Number a ∷ vs) h = absurd h
three_values x s (value.Report ∷ vs) h = absurd h
three_values x s (value.Extension a ∷ vs) h = absurd h
three_values x s (value.Sheet a ∷ vs) h = absurd h
three_values x s (value.Source a ∷ vs) h = absurd h
three_values x s (value.Lines a ∷ vs) h = absurd h
three_values x s (value.Trace a ∷ vs) h = absurd h
three_values x s (value.Waits a ∷ vs) h = absurd h
three_values x s (value.Image i ∷ []) h = absurd h
three_values x s (value.Image i ∷ value.Number a ∷ vs) h = absurd h
three_values x s (value.Image i ∷ value.Image a ∷ vs) h = absurd h
three_values x s (value.Image i ∷ value.Report ∷ vs) h = absurd h
three_values x s (value.Image i ∷ value.Extension a ∷ vs) h = absurd h
three_values x s (value.Image i ∷ value.Sheet a ∷ vs) h = absurd h
three_values x s (value.Image i ∷ value.Source a ∷ vs) h = absurd h
three_values x s (value.Image i ∷ value.Lines a ∷ vs) h = absurd h
three_values x s (value.Image i ∷ value.Trace a ∷ vs) h = absurd h
three_values x s (value.Image i ∷ value.Waits w ∷ []) h = absurd h
three_values x s (value.Image i ∷ value.Waits w ∷ value.Image a ∷ vs) h = absurd h
three_values x s (value.Image i ∷ value.Waits w ∷ value.Report ∷ vs) h = absurd h
three_values x s (value.Image i ∷ value.Waits w ∷ value.Extension a ∷ vs) h = absurd h
three_values x s (value.Image i ∷ value.Waits w ∷ value.Sheet a ∷ vs) h = absurd h
three_values x s (value.Image i ∷ value.Waits w ∷ value.Source a ∷ vs) h = absurd h
three_values x s (value.Image i ∷ value.Waits w ∷ value.Lines a ∷ vs) h = absurd h
three_values x s (value.Image i ∷ value.Waits w ∷ value.Trace a ∷ vs) h = absurd h
three_values x s (value.Image i ∷ value.Waits w ∷ value.Waits a ∷ vs) h = absurd h
three_values x s (value.Image i ∷ value.Waits w ∷ value.Number n ∷ v ∷ vs) h = absurd h
three_values x s (value.Image i ∷ value.Waits w ∷ value.Number n ∷ []) h = (i, w, n, refl)

-- or an image, the waits, the rows in which the interrupt line is raised, and a number
four_values : (x : ExtensionTree) (s : Sheet) (vs : List Value) → TakesInterrupted (extension_read x ∷ sheet_read s ∷ map reading_of vs) → AreFour vs
four_values x s [] h = absurd h
four_values x s (value.Number a ∷ vs) h = absurd h
four_values x s (value.Report ∷ vs) h = absurd h
four_values x s (value.Extension a ∷ vs) h = absurd h
four_values x s (value.Sheet a ∷ vs) h = absurd h
four_values x s (value.Source a ∷ vs) h = absurd h
four_values x s (value.Waits a ∷ vs) h = absurd h
four_values x s (value.Lines a ∷ vs) h = absurd h
four_values x s (value.Trace a ∷ vs) h = absurd h
four_values x s (value.Image i ∷ []) h = absurd h
four_values x s (value.Image i ∷ value.Number a ∷ vs) h = absurd h
four_values x s (value.Image i ∷ value.Image a ∷ vs) h = absurd h
four_values x s (value.Image i ∷ value.Report ∷ vs) h = absurd h
four_values x s (value.Image i ∷ value.Extension a ∷ vs) h = absurd h
four_values x s (value.Image i ∷ value.Sheet a ∷ vs) h = absurd h
four_values x s (value.Image i ∷ value.Source a ∷ vs) h = absurd h
four_values x s (value.Image i ∷ value.Lines a ∷ vs) h = absurd h
four_values x s (value.Image i ∷ value.Trace a ∷ vs) h = absurd h
four_values x s (value.Image i ∷ value.Waits w ∷ []) h = absurd h
four_values x s (value.Image i ∷ value.Waits w ∷ value.Number a ∷ vs) h = absurd h
four_values x s (value.Image i ∷ value.Waits w ∷ value.Image a ∷ vs) h = absurd h
four_values x s (value.Image i ∷ value.Waits w ∷ value.Report ∷ vs) h = absurd h
four_values x s (value.Image i ∷ value.Waits w ∷ value.Extension a ∷ vs) h = absurd h
four_values x s (value.Image i ∷ value.Waits w ∷ value.Sheet a ∷ vs) h = absurd h
four_values x s (value.Image i ∷ value.Waits w ∷ value.Source a ∷ vs) h = absurd h
four_values x s (value.Image i ∷ value.Waits w ∷ value.Waits a ∷ vs) h = absurd h
four_values x s (value.Image i ∷ value.Waits w ∷ value.Trace a ∷ vs) h = absurd h
four_values x s (value.Image i ∷ value.Waits w ∷ value.Lines l ∷ []) h = absurd h
four_values x s (value.Image i ∷ value.Waits w ∷ value.Lines l ∷ value.Image a ∷ vs) h = absurd h
four_values x s (value.Image i ∷ value.Waits w ∷ value.Lines l ∷ value.Report ∷ vs) h = absurd h
four_values x s (value.Image i ∷ value.Waits w ∷ value.Lines l ∷ value.Extension a ∷ vs) h = absurd h
four_values x s (value.Image i ∷ value.Waits w ∷ value.Lines l ∷ value.Sheet a ∷ vs) h = absurd h
four_values x s (value.Image i ∷ value.Waits w ∷ value.Lines l ∷ value.Source a ∷ vs) h = absurd h
four_values x s (value.Image i ∷ value.Waits w ∷ value.Lines l ∷ value.Waits a ∷ vs) h = absurd h
four_values x s (value.Image i ∷ value.Waits w ∷ value.Lines l ∷ value.Lines a ∷ vs) h = absurd h
four_values x s (value.Image i ∷ value.Waits w ∷ value.Lines l ∷ value.Trace a ∷ vs) h = absurd h
four_values x s (value.Image i ∷ value.Waits w ∷ value.Lines l ∷ value.Number n ∷ v ∷ vs) h = absurd h
four_values x s (value.Image i ∷ value.Waits w ∷ value.Lines l ∷ value.Number n ∷ []) h = (i, w, l, n, refl)

pub three_or_four : (form : RunForm) (x : ExtensionTree) (s : Sheet) (vs : List Value) → TakesRun form (extension_read x ∷ sheet_read s ∷ map reading_of vs) → AreThree vs ⊎ AreFour vs
three_or_four Rows x s vs h = inl (three_values x s vs h)
three_or_four Ports x s vs h = inl (three_values x s vs h)
three_or_four Interrupted x s vs h = inr (four_values x s vs h)

-- as many as there are
pub are_three : (form : RunForm) (x : ExtensionTree) (s : Sheet) (vs : List Value) → TakesRun form (extension_read x ∷ sheet_read s ∷ map reading_of vs) → length vs < 4 → AreThree vs
are_three form x s vs h few = elim (three_or_four form x s vs h) [
  | inl three ↦ three
  | inr four ↦ let n = ap length four.4 in absurd (omega (arith, n, few))
]

pub are_four : (form : RunForm) (x : ExtensionTree) (s : Sheet) (vs : List Value) → TakesRun form (extension_read x ∷ sheet_read s ∷ map reading_of vs) → 4 ≤ length vs → AreFour vs
are_four form x s vs h many = elim (three_or_four form x s vs h) [
  | inl three ↦ let n = ap length three.3 in absurd (omega (arith, n, many))
  | inr four ↦ four
]

-- there is a value
pub some_values : (form : RunForm) (vs : List Value) → TakesRun form (map reading_of vs) → 0 < length vs
some_values Rows [] h = absurd h
some_values Interrupted [] h = absurd h
some_values Ports [] h = absurd h
some_values form (v ∷ vs) h = omega arith

pub some_behind : (form : RunForm) (x : ExtensionTree) (vs : List Value) → TakesRun form (extension_read x ∷ map reading_of vs) → 0 < length vs
some_behind Rows x [] h = absurd h
some_behind Interrupted x [] h = absurd h
some_behind Ports x [] h = absurd h
some_behind form x (v ∷ vs) h = omega arith

-- the first value is taken out, and the others are left
pub first_and_rest : (vs rest left : List Value) (v : Value) → 0 < length vs → v ≡ get_or vs 0 v → left ≡ drop 1 vs → rest ≡ left → vs ≡ v ∷ rest
first_and_rest [] rest left v some e l r = absurd (omega (arith, some))
first_and_rest (u ∷ us) rest left v some e l r = ap (λ w. w ∷ us) (sym e) ∙ ap (λ ws. v ∷ ws) (sym (r ∙ l))
