-- The words of drawn images (this project's choice).
use Rattle.std.specs.Prelude.{ℕ, ◌^◌, ◌<◌, All}
use Rattle.ix_tree.specs.TypedTrees.{TypedTextTree}
use Rattle.ix_extension.specs.Extensions.{ExtensionTree}
use Rattle.ix_extension.specs.WellFormed.{IsOf}
use Rattle.rv_bench.specs.DrawnImage.{drawn_image}

-- a number of 32 bits
abbrev pub IsWord : ℕ → Type 0
IsWord w = w < 2 ^ 32

-- each word of an image that is drawn for an extension which breaks no rule has 32 bits
abbrev pub WordsLaw : Type 0
WordsLaw = (t : TypedTextTree) (x : ExtensionTree) (number count : ℕ) → IsOf t x → All IsWord (drawn_image x number count)
