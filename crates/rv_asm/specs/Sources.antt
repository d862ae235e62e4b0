-- The words of an assembly source, or the first line that fails (this project's choice).
use Rattle.std.specs.Prelude.{◌≡◌, ℕ, ◌+◌, List, [], ◌∷◌, ◌++◌, if◌then◌else◌, nat_lt, Result, Ok, Err}
use Rattle.rv_isa.specs.Images.{most_words}
use Rattle.ix_extension.specs.Extensions.{ExtensionTree, InstructionTree}
use Rattle.rv_asm_text.specs.Lines.{lines_of}
use Rattle.rv_asm_text.specs.declared.verdict.Verdict.{Verdict}
use Rattle.rv_asm_text.specs.declared.verdict.Verdict.TheVariants as V
use Rattle.rv_asm.specs.Labels.{Places, place_of}
use Rattle.rv_asm.specs.Verdicts.{line_verdict}
use Rattle.rv_asm.specs.declared.source.AsmErr.{AsmErr}
use Rattle.rv_asm.specs.declared.source.AsmErr.TheVariants as E

-- the words of a text, or why the first line fails that does
abbrev pub Assembly : Type 0
Assembly = Result (List ℕ) AsmErr

abbrev pub with_word : ℕ → Assembly → Assembly
with_word word (Ok words) = Ok (word ∷ words)
with_word word (Err e) = Err e

-- words in front of others
abbrev pub prepended : List ℕ → Assembly → Assembly
prepended front (Ok words) = Ok (front ++ words)
prepended front (Err e) = Err e

-- what a line adds to the rest; `number` is its number from 0, and `at` counts the words before it
abbrev pub after : Verdict → ℕ → ℕ → (ℕ → Assembly) → Assembly
after V.Empty number at rest = rest at
after (V.Word word) number at rest = if nat_lt at most_words then with_word word (rest (at + 1)) else Err (E.Size (number + 1))
after V.Line number at rest = Err (E.Line (number + 1))
after V.Label number at rest = Err (E.Label (number + 1))
after V.Reach number at rest = Err (E.Reach (number + 1))

-- the lines from one on, with the labels known
abbrev pub assembled_from : List InstructionTree → Places → ℕ → ℕ → List (List ℕ) → Assembly
assembled_from own places number at [] = Ok []
assembled_from own places number at (line ∷ lines) = after (line_verdict own places number at line) number at (λ k. assembled_from own places (number + 1) k lines)

-- a source with the instructions of an extension
abbrev pub assembled : ExtensionTree → List ℕ → Assembly
assembled x bytes = assembled_from x.instructions (place_of (lines_of bytes)) 0 0 (lines_of bytes)

-- each line has a word or none, and these are the words
abbrev pub Assembles : ExtensionTree → List ℕ → List ℕ → Type 0
Assembles x bytes words = assembled x bytes ≡ Ok words

-- the first line that fails, and why; nothing is said of memory
abbrev pub IsErrOf : Assembly → AsmErr → Type 0
IsErrOf a (E.Line at) = a ≡ Err (E.Line at)
IsErrOf a (E.Label at) = a ≡ Err (E.Label at)
IsErrOf a (E.Reach at) = a ≡ Err (E.Reach at)
IsErrOf a (E.Size at) = a ≡ Err (E.Size at)
IsErrOf a E.Memory = Unit {0}

abbrev pub IsRefusedAs : ExtensionTree → List ℕ → AsmErr → Type 0
IsRefusedAs x bytes e = IsErrOf (assembled x bytes) e
