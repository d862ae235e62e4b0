-- The place that a refusal tells.
use Rattle.std.specs.Prelude.{◌≡◌, ◌≢◌, ◌<◌, ◌≤◌, ℕ, List, Option, Some, length, codes, decimal, slice_index, IsSomeAnd}
use Rattle.ix_diagnose.specs.Lines.{StartsLine, line_number}
use Rattle.ix_diagnose.specs.Refusals.{IsWord, IsTold, before, line_count}
use Rattle.ix_diagnose.specs.declared.place.Place.{Place}
use Rattle.ix_diagnose.specs.declared.words.Status.{Status}
use Rattle.ix_diagnose.specs.declared.words.Status.TheVariants.{Extension, Image, Certificate, Source, Trace}

-- the words whose lines tell a place by numbers
pub record IsStatus (word : List ℕ) (status : Status) : Type 0 where
  pub extension : word ≡ codes "Extension" → status ≡ Extension
  pub image : word ≡ codes "Image" → status ≡ Image
  pub certificate : word ≡ codes "Certificate" → status ≡ Certificate
  pub source : word ≡ codes "Source" → status ≡ Source
  pub trace : word ≡ codes "Trace" → status ≡ Trace

-- a byte in the line of that number
pub record StandsIn (bytes : List ℕ) (number at : ℕ) : Type 0 where
  pub start : ℕ
  pub starts : StartsLine bytes start
  pub behind : start ≤ at
  pub inside : (k : ℕ) → start ≤ k → k < at → slice_index bytes k ≢ 10
  pub within : at ≤ length bytes
  pub number_is : line_number bytes start ≡ number

-- a number of a line of the file
abbrev pub IsLineOf : List ℕ → ℕ → Type 0
IsLineOf bytes number = (1 ≤ number) × (number ≤ line_count bytes) × IsTold number

-- the place is that of the two numbers of an extension, or stands in the line of the number
pub record FindsPlace (status : Status) (rest bytes : List ℕ) (found : Option Place) : Type 0 where
  pub extension : (kind : List ℕ) (from to : ℕ) → IsWord kind → IsTold from → IsTold to → status ≡ Extension
      → rest ≡ before kind (before (decimal from) (decimal to)) → found ≡ Some (record { from = from; to = to })
  pub image : (number : ℕ) → IsLineOf bytes number → status ≡ Image
      → rest ≡ decimal number → IsSomeAnd found (λ p. StandsIn bytes number p.from)
  pub certificate : (kind : List ℕ) (number : ℕ) → IsLineOf bytes number → status ≡ Certificate
      → rest ≡ before (decimal number) kind → IsSomeAnd found (λ p. StandsIn bytes number p.from)
  pub source : (kind : List ℕ) (number : ℕ) → IsWord kind → IsLineOf bytes number → status ≡ Source
      → rest ≡ before kind (decimal number) → IsSomeAnd found (λ p. StandsIn bytes number p.from)
  pub trace : (kind : List ℕ) (number : ℕ) → IsLineOf bytes number → status ≡ Trace
      → rest ≡ before (decimal number) kind → IsSomeAnd found (λ p. StandsIn bytes number p.from)
