-- Laws of the table of kinds.
use Rattle.std.specs.Prelude.{◌≡◌, ◌<◌, ℕ, List, [], Some, slice_get, slice_index_or}
use Rattle.ix_graph.specs.declared.kind.Kind.{Kind}
use Rattle.ix_graph.specs.Kinds.{kind_words, place_of, word_of, number_of}

-- the name of a kind has that kind's place as number
abbrev pub NumberLaw : Type 0
NumberLaw = (kind : Kind) → number_of (word_of kind) ≡ Some (place_of kind)

-- a text that has a number is the name at that place
abbrev pub WordLaw : Type 0
WordLaw = (text : List ℕ) (number : ℕ) → number_of text ≡ Some number → slice_get kind_words number ≡ Some text

-- the name at a place has that place as number
abbrev pub PlaceLaw : Type 0
PlaceLaw = (number : ℕ) → number < 34 → number_of (slice_index_or kind_words number []) ≡ Some number
