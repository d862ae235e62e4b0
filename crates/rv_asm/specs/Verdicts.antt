-- What is said of a line, with the labels known: its word, or the first of Line, Label and Reach (this project's choice).
use Rattle.std.specs.Prelude.{ℕ, List, [], ◌∷◌, length, Option, Some, None, Ok, Err, Bool, true, false}
use Rattle.ix_extension.specs.Extensions.{InstructionTree}
use Rattle.rv_asm_text.specs.Lines.{instruction_of, name_of, operands_of}
use Rattle.rv_asm_text.specs.Names.{mnemonic_of}
use Rattle.rv_asm_text.specs.declared.verdict.Verdict.{Verdict}
use Rattle.rv_asm_text.specs.declared.verdict.Verdict.TheVariants as V
use Rattle.rv_asm_text.specs.Filling.{named_instruction, found_verdict}
use Rattle.rv_asm.specs.declared.form.Form.{Form}
use Rattle.rv_asm.specs.declared.form.Form.TheVariants as F
use Rattle.rv_asm.specs.declared.reading.Operands.{Operands}
use Rattle.rv_asm.specs.declared.reading.Unread.TheVariants as U
use Rattle.rv_asm.specs.Forms.{form_of, row_of, base_verdict, word_verdict}
use Rattle.rv_asm.specs.Labels.{Places, is_doubled}
use Rattle.rv_asm.specs.Readings.{Read, kinds_of, start_of, read_operands}

-- the word of a form with these operands, or Reach
unfoldable pub word_of : Form → ℕ → Operands → Verdict
word_of F.Registers row o = base_verdict row o.rd o.rs1 o.rs2 o.number
word_of F.Number row o = base_verdict row o.rd o.rs1 o.rs2 o.number
word_of F.Load row o = base_verdict row o.rd o.rs1 o.rs2 o.number
word_of F.Store row o = base_verdict row o.rd o.rs1 o.rs2 o.number
word_of F.Branch row o = base_verdict row o.rd o.rs1 o.rs2 o.number
word_of F.Upper row o = base_verdict row o.rd o.rs1 o.rs2 o.number
word_of F.Jump row o = base_verdict row o.rd o.rs1 o.rs2 o.number
word_of F.JumpRegister row o = base_verdict row o.rd o.rs1 o.rs2 o.number
word_of F.Fence row o = base_verdict row o.rd o.rs1 o.rs2 o.number
word_of F.Bare row o = base_verdict row o.rd o.rs1 o.rs2 o.number
word_of F.Move row o = base_verdict row o.rd o.rs1 o.rs2 o.number
word_of F.Goto row o = base_verdict row o.rd o.rs1 o.rs2 o.number
word_of F.Return row o = base_verdict row o.rd o.rs1 o.rs2 o.number
word_of F.Word row o = word_verdict o.number

-- goes on with what was read, and says why it was not
abbrev pub said_of : (Operands → Verdict) → Read → Verdict
said_of next (Ok o) = next o
said_of next (Err U.Line) = V.Line
said_of next (Err U.Label) = V.Label

-- what a mnemonic says with its operands, as the word at this place
unfoldable pub form_verdict : Places → ℕ → Form → ℕ → List (List ℕ) → Verdict
form_verdict places at f row texts = said_of (word_of f row) (read_operands places at (kinds_of f (length texts)) texts (start_of f))

-- a base name and a short form win over an extension's
abbrev pub mnemonic_verdict : List InstructionTree → Places → ℕ → List ℕ → Option ℕ → Verdict
mnemonic_verdict own places at text (Some place) = form_verdict places at (form_of place) (row_of place) (operands_of text)
mnemonic_verdict own places at text None = found_verdict (operands_of text) (named_instruction (name_of text) own)

abbrev pub instruction_verdict : List InstructionTree → Places → ℕ → List ℕ → Verdict
instruction_verdict own places at [] = V.Empty
instruction_verdict own places at (b ∷ rest) = mnemonic_verdict own places at (b ∷ rest) (mnemonic_of (name_of (b ∷ rest)))

-- Line comes before a doubled label, and that before Reach
abbrev pub with_label : Bool → Verdict → Verdict
with_label false v = v
with_label true V.Empty = V.Label
with_label true (V.Word word) = V.Label
with_label true V.Line = V.Line
with_label true V.Label = V.Label
with_label true V.Reach = V.Label

-- what is said of the line of this number, before which there are so many words
unfoldable pub line_verdict : List InstructionTree → Places → ℕ → ℕ → List ℕ → Verdict
line_verdict own places number at line = with_label (is_doubled places number line) (instruction_verdict own places at (instruction_of line))
