-- What the words of base lines decode to, and that sizes which count as 2^40 are as far out of reach as the whole numbers that they stand for.
use Rattle.std.specs.Prelude.{◌≡◌, ◌≢◌, ℕ, ◌+◌, ◌*◌, ◌<◌, ◌≤◌, List, [], ◌∷◌, Option, Some, None, option_map, Bool, min}
use Rattle.std.specs.Option.{option_and_then}
use Rattle.rv_isa.specs.Table.{format_of}
use Rattle.rv_isa.specs.Decoded.{decoded}
use Rattle.ix_extension.specs.Extensions.{InstructionTree}
use Rattle.rv_asm_text.specs.declared.number.Number.{Number}
use Rattle.rv_asm_text.specs.Lines.{instruction_of, name_of}
use Rattle.rv_asm_text.specs.Names.{mnemonic_of}
use Rattle.rv_asm_text.specs.Numbers.{most_size, digit_of, size_of}
use Rattle.rv_isa.specs.declared.table.Format.{Format}
use Rattle.rv_asm_text.specs.Filling.{pattern_in}
use Rattle.rv_asm_text.specs.declared.verdict.Verdict.TheVariants as V
use Rattle.rv_asm.specs.declared.form.Form.TheVariants as F
use Rattle.rv_asm.specs.Forms.{form_of, row_of, base_of, base_verdict, is_in_reach, word_verdict}
use Rattle.rv_asm.specs.Labels.{Places}
use Rattle.rv_asm.specs.Verdicts.{line_verdict}

-- the word is that of an instruction of this row with some registers and a number in its range, and decodes to it
pub record IsInstructionOf (row word : ℕ) : Type 0 where
  pub rd : ℕ
  pub rs1 : ℕ
  pub rs2 : ℕ
  pub number : Number
  pub word_is : base_verdict row rd rs1 rs2 number ≡ V.Word word
  pub decodes : decoded word ≡ Some (base_of (format_of row) row rd rs1 rs2 number)

-- the word of a row with these registers and this number decodes to the instruction with these fields
abbrev pub FieldsLaw : Type 0
FieldsLaw = (row rd rs1 rs2 word : ℕ) (n : Number) → row < 40 → rd < 32 → rs1 < 32 → rs2 < 32 → base_verdict row rd rs1 rs2 n ≡ V.Word word
    → decoded word ≡ Some (base_of (format_of row) row rd rs1 rs2 n)

-- the word of a line with a base name or a short form other than `.word` decodes to an instruction of the row that its name is made of
abbrev pub LineLaw : Type 0
LineLaw = (own : List InstructionTree) (places : Places) (number at word place : ℕ) (line : List ℕ) → mnemonic_of (name_of (instruction_of line)) ≡ Some place → form_of place ≢ F.Word
    → line_verdict own places number at line ≡ V.Word word → IsInstructionOf (row_of place) word

-- ---- whole numbers
-- the whole number that digits write behind those of `front`, however many they are
abbrev pub digits_whole : ℕ → ℕ → List ℕ → Option ℕ
digits_whole base front [] = Some front
digits_whole base front (b ∷ rest) = option_and_then (λ digit. digits_whole base (base * front + digit) rest) (digit_of base b)

abbrev pub whole_size : ℕ → List ℕ → Option ℕ
whole_size base [] = None
whole_size base (b ∷ rest) = digits_whole base 0 (b ∷ rest)

abbrev pub capped : ℕ → ℕ
capped size = min size most_size

abbrev pub sized : Bool → ℕ → Number
sized is_negative size = record { is_negative = is_negative; size = size }

-- the size that is read is the whole one, or 2^40 for a greater one
abbrev pub SizeLaw : Type 0
SizeLaw = (base : ℕ) (word : List ℕ) → 1 ≤ base → size_of base word ≡ option_map capped (whole_size base word)

-- a number of a base line, of `.word` and of a field of at most 32 bits is in its range where the whole number is
pub record ReachLaw : Type 0 where
  pub base : (format : Format) (is_negative : Bool) (size : ℕ) → is_in_reach format (sized is_negative (capped size)) ≡ is_in_reach format (sized is_negative size)
  pub word : (is_negative : Bool) (size : ℕ) → word_verdict (sized is_negative (capped size)) ≡ word_verdict (sized is_negative size)
  pub field : (width : ℕ) (is_negative : Bool) (size : ℕ) → width ≤ 32 → pattern_in width (sized is_negative (capped size)) ≡ pattern_in width (sized is_negative size)
