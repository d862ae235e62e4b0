-- What a word is: an instruction of the base set, or one of an extension (RISC-V Unprivileged ISA, RV32I; that no word is two is a rule on extensions).
use Rattle.std.specs.Prelude.{ℕ, suc, ◌<◌, List, [], ◌∷◌, length, Option, Some, None, Bool, if◌then◌else◌, ◌==◌, bit_and}
use Rattle.rv_isa.specs.declared.base.Base.{Base}
use Rattle.rv_isa.specs.Decoded.{decoded}
use Rattle.ix_extension.specs.Extensions.{InstructionTree, ExtensionTree}
use Rattle.rv_seq.specs.declared.decoded.Decoded.{Decoded}
use Rattle.rv_seq.specs.declared.decoded.Decoded.TheVariants as D

-- the word has the bits of the instruction's match under its mask
abbrev pub is_word_of : InstructionTree → ℕ → Bool
is_word_of i word = bit_and word i.mask == i.matches

-- the number of the instruction that the word is, where the first of these has the number n
abbrev pub own_from : ℕ → List InstructionTree → ℕ → Option ℕ
own_from n [] word = None
own_from n (i ∷ rest) word = if is_word_of i word then Some n else own_from (suc n) rest word

abbrev pub base_or_own : Option Base → Option ℕ → Option Decoded
base_or_own (Some b) o = Some (D.Base b)
base_or_own None (Some n) = Some (D.Own n)
base_or_own None None = None

-- the instruction of a word on a core with this extension
unfoldable pub decoded_in : ExtensionTree → ℕ → Option Decoded
decoded_in x word = base_or_own (decoded word) (own_from 0 x.instructions word)

-- its row stands in the base table, or its number in the extension
abbrev pub IsIn : ExtensionTree → Decoded → Type 0
IsIn x (D.Base b) = b.row < 40
IsIn x (D.Own n) = n < length x.instructions
