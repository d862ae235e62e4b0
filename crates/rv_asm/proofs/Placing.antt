-- Places that answer alike give the same words.
use Rattle.std.proofs.Common.{◌≡◌, ◌∙◌, sym, ap, refl, ℕ, ◌+◌, ◌≤◌, List, [], ◌∷◌, length, map, Bor, Bool, Option, Some, None, ◌==◌, arith}
use Rattle.std.specs.Prelude.{Ok, Err, nat_lt, if◌then◌else◌}
use Rattle.std.specs.List.{count_by}
use Rattle.std.proofs.lemmas.List.{length-map}
use Rattle.std.proofs.lemmas.List.Sums.{count_by-le-length}
use Rattle.std.proofs.lemmas.List.Splits.{length-slice_split}
use Rattle.ix_extension.specs.Extensions.{InstructionTree}
use Rattle.rv_isa.specs.Images.{most_words}
use Rattle.rv_asm_text.specs.Lines.{is_name, label_of, instruction_of, name_of, operands_of, lines_of}
use Rattle.rv_asm_text.specs.Names.{mnemonic_of}
use Rattle.rv_asm_text.specs.Numbers.{number_of}
use Rattle.rv_asm_text.specs.declared.verdict.Verdict.{Verdict}
use Rattle.rv_asm_text.specs.declared.verdict.Verdict.TheVariants as V
use Rattle.rv_asm.specs.declared.form.Form.{Form}
use Rattle.rv_asm.specs.declared.label.Place.{Place}
use Rattle.rv_asm.specs.declared.label.Target.{Target}
use Rattle.rv_asm.specs.declared.reading.OperandKind.{OperandKind}
use Rattle.rv_asm.specs.declared.reading.OperandKind.TheVariants as K
use Rattle.rv_asm.specs.declared.reading.Operands.{Operands}
use Rattle.rv_asm.specs.declared.reading.Unread.TheVariants as U
use Rattle.rv_asm.specs.Forms.{form_of, row_of}
use Rattle.rv_asm.specs.Labels.{Places, target_of, to_place, by_number, is_doubled, is_label_doubled, is_elsewhere}
use Rattle.rv_asm.specs.Readings.{Read, behind, with_target, kinds_of, start_of, read_operand, read_each}
use Rattle.rv_asm.specs.Verdicts.{word_of, said_of, form_verdict, mnemonic_verdict, instruction_verdict, with_label, line_verdict}
use Rattle.rv_asm.specs.declared.source.AsmErr.{AsmErr}
use Rattle.rv_asm.specs.declared.source.AsmErr.TheVariants as E
use Rattle.rv_asm.specs.Sources.{Assembly, with_word, after, assembled_from, IsErrOf}

-- what comes of a line depends on what comes after it
after_same : (v : Verdict) (number at : ℕ) (f g : ℕ → Assembly) → ((k : ℕ) → f k ≡ g k) → after v number at f ≡ after v number at g
after_same V.Empty number at f g h = h at
after_same (V.Word word) number at f g h = ap (λ (a : Assembly). if nat_lt at most_words then with_word word a else Err (E.Size (number + 1))) (h (at + 1))
after_same V.Line number at f g h = refl
after_same V.Label number at f g h = refl
after_same V.Reach number at f g h = refl

module _ (own : List InstructionTree) (p q : Places) (h : (n : List ℕ) → p n ≡ q n) where
  target_same : (at : ℕ) (text : List ℕ) → target_of p at text ≡ target_of q at text
  unfolding target_of
  target_same at text = ap (λ (o : Option Place). if is_name text then to_place at o else by_number (number_of text)) (h text)

  operand_same : (at : ℕ) (kind : OperandKind) (text : List ℕ) (o : Operands) → read_operand p at kind text o ≡ read_operand q at kind text o
  operand_same at K.Rd text o = refl
  operand_same at K.Rs1 text o = refl
  operand_same at K.Rs2 text o = refl
  operand_same at K.Number text o = refl
  operand_same at K.Target text o = ap (λ (t : Target). with_target t o) (target_same at text)
  operand_same at K.Indexed text o = refl

  behind_same : (r : Read) (f g : Operands → Read) → ((o : Operands) → f o ≡ g o) → behind r f ≡ behind r g
  behind_same (Ok o) f g s = s o
  behind_same (Err e) f g s = refl

  each_same : (at : ℕ) (kinds : List OperandKind) (texts : List (List ℕ)) (o : Operands) → read_each p at kinds texts o ≡ read_each q at kinds texts o
  each_same at [] texts o = refl
  each_same at (k ∷ ks) [] o = refl
  each_same at (k ∷ ks) (text ∷ texts) o =
      ap (λ (r : Read). behind r (λ (s : Operands). read_each p at ks texts s)) (operand_same at k text o)
      ∙ behind_same (read_operand q at k text o) (λ (s : Operands). read_each p at ks texts s) (λ (s : Operands). read_each q at ks texts s) (λ s. each_same at ks texts s)

  form_same : (f : Form) (at row : ℕ) (texts : List (List ℕ)) → form_verdict p at f row texts ≡ form_verdict q at f row texts
  unfolding form_verdict
  form_same f at row texts =
      ap (λ (r : Read). said_of (word_of f row) (if length texts == length (kinds_of f (length texts)) then r else Err U.Line)) (each_same at (kinds_of f (length texts)) texts (start_of f))

  mnemonic_same : (at : ℕ) (text : List ℕ) (o : Option ℕ) → mnemonic_verdict own p at text o ≡ mnemonic_verdict own q at text o
  mnemonic_same at text None = refl
  mnemonic_same at text (Some place) = form_same (form_of place) at (row_of place) (operands_of text)

  instruction_same : (at : ℕ) (text : List ℕ) → instruction_verdict own p at text ≡ instruction_verdict own q at text
  instruction_same at [] = refl
  instruction_same at (b ∷ rest) = mnemonic_same at (b ∷ rest) (mnemonic_of (name_of (b ∷ rest)))

  label_same : (number : ℕ) (o : Option (List ℕ)) → is_label_doubled p number o ≡ is_label_doubled q number o
  label_same number None = refl
  label_same number (Some name) = ap (is_elsewhere number) (h name)

  doubled_same : (number : ℕ) (line : List ℕ) → is_doubled p number line ≡ is_doubled q number line
  unfolding is_doubled
  doubled_same number line = label_same number (label_of line)

  line_same : (number at : ℕ) (line : List ℕ) → line_verdict own p number at line ≡ line_verdict own q number at line
  unfolding line_verdict
  line_same number at line =
      ap (λ (b : Bool). with_label b (instruction_verdict own p at (instruction_of line))) (doubled_same number line)
      ∙ ap (with_label (is_doubled q number line)) (instruction_same at (instruction_of line))

  pub assembled_same : (number at : ℕ) (lines : List (List ℕ)) → assembled_from own p number at lines ≡ assembled_from own q number at lines
  assembled_same number at [] = refl
  assembled_same number at (line ∷ lines) =
      ap (λ (v : Verdict). after v number at (λ k. assembled_from own p (number + 1) k lines)) (line_same number at line)
      ∙ after_same (line_verdict own q number at line) number at (λ k. assembled_from own p (number + 1) k lines) (λ k. assembled_from own q (number + 1) k lines) (λ k. assembled_same (number + 1) k lines)

-- a refusal is carried to the same assembly
pub same_refusal : (a b : Assembly) (e : AsmErr) → a ≡ b → IsErrOf a e → IsErrOf b e
same_refusal a b (E.Line at) s h = sym s ∙ h
same_refusal a b (E.Label at) s h = sym s ∙ h
same_refusal a b (E.Reach at) s h = sym s ∙ h
same_refusal a b (E.Size at) s h = sym s ∙ h
same_refusal a b E.Memory s h = tt

-- what has words is refused for want of memory alone
pub only_memory : (a : Assembly) (e : AsmErr) (words : List ℕ) → IsErrOf a e → a ≡ Ok words → e ≡ E.Memory
only_memory a (E.Line at) words h s = cc
only_memory a (E.Label at) words h s = cc
only_memory a (E.Reach at) words h s = cc
only_memory a (E.Size at) words h s = cc
only_memory a E.Memory words h s = refl

-- there is at most one line more than bytes
pub lines_few : (bytes : List ℕ) (ts : List (Bor (List ℕ))) → map (λ (x : Bor (List ℕ)). x.now) ts ≡ lines_of bytes → length ts ≤ length bytes + 1
lines_few bytes ts e =
    let n : length (map (λ (x : Bor (List ℕ)). x.now) ts) ≡ count_by (λ b. b == 10) bytes + 1 = ap length e ∙ length-slice_split (λ b. b == 10) bytes in
    let c = count_by-le-length (λ b. b == 10) bytes in
    omega (arith, n, c, length-map ts (λ (x : Bor (List ℕ)). x.now))
