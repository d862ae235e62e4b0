-- Laws of extensions.
use Rattle.std.specs.Prelude.{◌≡◌, ℕ, true, All, List}
use Rattle.std.specs.List.{AllPairs}
use Rattle.ix_bits.specs.BaseTable.{is_match, base_patterns}
use Rattle.ix_tree.specs.TypedTrees.{TypedTextTree, TypedInstrTree}
use Rattle.ix_typing.specs.Laws.{IsTyped}
use Rattle.ix_extension.specs.Encodings.{AreInWord}
use Rattle.ix_extension.specs.Extensions.{all_instrs, InstructionTree, ExtensionTree}
use Rattle.ix_extension.specs.Faults.{pattern_of}
use Rattle.ix_extension.specs.WellFormed.{IsOf}

-- the pieces of an instruction whose bits all lie in the word
abbrev pub HasWord : TypedInstrTree → Type 0
HasWord x = AreInWord x.pieces

-- in a typed text no piece has a bit past the word
abbrev pub WordLaw : Type 0
WordLaw = (t : TypedTextTree) → IsTyped t → All HasWord (all_instrs t.sections)

-- no word has both patterns
abbrev pub ShareNone : ℕ × ℕ → ℕ × ℕ → Type 0
ShareNone p q = (word : ℕ) → is_match word p ≡ true → is_match word q ≡ true → ⊥

-- no word is the instruction and a base row
abbrev pub IsNoBase : InstructionTree → Type 0
IsNoBase x = All (λ q. ShareNone (pattern_of x) q) base_patterns

-- no word is two instructions of an extension that breaks no rule, or one of them and a base row
abbrev pub OneInstructionLaw : Type 0
OneInstructionLaw = (t : TypedTextTree) (x : ExtensionTree) → IsOf t x
    → AllPairs (λ a b. ShareNone (pattern_of a) (pattern_of b)) x.instructions × All IsNoBase x.instructions
