-- The words of base lines decode to their instructions.
use Rattle.std.proofs.Common.{◌≡◌, ◌≢◌, ◌∙◌, sym, ap, refl, subst, ℕ, zero, suc, ◌*◌, ◌^◌, ◌%◌, ◌<◌, List, [], ◌∷◌, length, Bool, true, false, Some, ◌==◌, pos, ◌-ℤ◌, ◌≤ℤ◌, ◌<ℤ◌, arith}
use Rattle.std.specs.Prelude.{nat_le, nat_lt, unsigned_abs, if◌then◌else◌, Ok, Err}
use Rattle.std.proofs.lemmas.Bool.{leb-true, ltb-true, eqb-true}
use Rattle.std.proofs.lemmas.Int.{ints}
use Rattle.ix_bits.specs.Types.{IsWithin}
use Rattle.ix_extension.specs.Extensions.{InstructionTree}
use Rattle.rv_isa.specs.Table.{format_of}
use Rattle.rv_isa.specs.Fields.{IsInRange, IsMultiple, HasFormat, fields_of}
use Rattle.rv_isa.specs.Decoded.{decoded}
use Rattle.rv_isa.specs.Encoded.{encoded}
use Rattle.rv_isa.specs.declared.base.Base.{Base}
use Rattle.rv_isa.specs.declared.table.Format.{Format}
use Rattle.rv_isa.specs.declared.table.Format.TheVariants as T
use Rattle.rv_isa.proofs.RoundLemmas.{decoded-encoded}
use Rattle.rv_isa.proofs.RowLemmas.{IsInRange-fields_of}
use Rattle.rv_asm_text.specs.Lines.{instruction_of, name_of, operands_of}
use Rattle.rv_asm_text.specs.Names.{mnemonic_of}
use Rattle.rv_asm_text.specs.declared.verdict.Verdict.{Verdict}
use Rattle.rv_asm_text.specs.declared.verdict.Verdict.TheVariants as V
use Rattle.rv_asm.specs.declared.form.Form.{Form}
use Rattle.rv_asm.specs.declared.form.Form.TheVariants as F
use Rattle.rv_asm.specs.declared.reading.Operands.{Operands}
use Rattle.rv_asm.specs.declared.reading.Unread.TheVariants as U
use Rattle.rv_asm.specs.Forms.{form_of, row_of, is_in_reach, base_of, base_verdict}
use Rattle.rv_asm.specs.Labels.{Places, is_doubled}
use Rattle.rv_asm.specs.Readings.{AreRegisters, Read, kinds_of, start_of, read_operands}
use Rattle.rv_asm.specs.Verdicts.{word_of, said_of, form_verdict, mnemonic_verdict, instruction_verdict, with_label, line_verdict}
use Rattle.rv_asm.proofs.Small.{read_small}
use Rattle.rv_asm.specs.Laws.{IsInstructionOf, FieldsLaw, LineLaw}

-- ---- numbers in reach
within_12 : (b : Bool) (s : ℕ) → (if b then nat_le s 2048 else nat_lt s 2048) ≡ true → IsWithin true 12 (if b then pos 0 -ℤ pos s else pos s)
within_12 true s h = let l = leb-true s 2048 h in record { from_least = omega (arith, ints, l); below_past = omega (arith, ints, l) }
within_12 false s h = let l = ltb-true s 2048 h in record { from_least = omega (arith, ints, l); below_past = omega (arith, ints, l) }

within_13 : (b : Bool) (s : ℕ) → (if b then nat_le s 4096 else nat_lt s 4096) ≡ true → IsWithin true 13 (if b then pos 0 -ℤ pos s else pos s)
within_13 true s h = let l = leb-true s 4096 h in record { from_least = omega (arith, ints, l); below_past = omega (arith, ints, l) }
within_13 false s h = let l = ltb-true s 4096 h in record { from_least = omega (arith, ints, l); below_past = omega (arith, ints, l) }

within_21 : (b : Bool) (s : ℕ) → (if b then nat_le s 1048576 else nat_lt s 1048576) ≡ true → IsWithin true 21 (if b then pos 0 -ℤ pos s else pos s)
within_21 true s h = let l = leb-true s 1048576 h in record { from_least = omega (arith, ints, l); below_past = omega (arith, ints, l) }
within_21 false s h = let l = ltb-true s 1048576 h in record { from_least = omega (arith, ints, l); below_past = omega (arith, ints, l) }

size_is : (b : Bool) (s : ℕ) → unsigned_abs (if b then pos 0 -ℤ pos s else pos s) ≡ s
size_is true zero = refl
size_is true (suc s) = grind (arith, ints)
size_is false s = refl

even_is : (b : Bool) (s : ℕ) → (s % 2 == 0) ≡ true → IsMultiple 2 (if b then pos 0 -ℤ pos s else pos s)
even_is b s h = ap (λ (k : ℕ). k % 2) (size_is b s) ∙ eqb-true (s % 2) 0 h

both_of : (p q : Bool) → (if p then q else false) ≡ true → (p ≡ true) × (q ≡ true)
both_of true q h = (refl, h)
both_of false q h = absurd cc

unsigned_of : (b : Bool) (s k : ℕ) → (if b then false else nat_lt s k) ≡ true → (b ≡ false) × (s < k)
unsigned_of true s k h = absurd cc
unsigned_of false s k h = (refl, ltb-true s k h)

shift_of : (b : Bool) (s : ℕ) → (b ≡ false) × (s < 32) → (pos 0 ≤ℤ (if b then pos 0 -ℤ pos s else pos s)) × ((if b then pos 0 -ℤ pos s else pos s) <ℤ pos 32)
shift_of true s h = absurd (let e = h.0 in cc)
shift_of false s h = let l = h.1 in (omega (arith, ints), omega (arith, ints, l))

upper_in_range : (row rd s : ℕ) → row < 40 → rd < 32 → format_of row ≡ T.Upper → s < 1048576 → HasFormat T.Upper (base_of T.Upper row rd 0 0 (record { is_negative = false; size = s }))
unfolding fields_of
upper_in_range row rd s h k e l = subst (λ (f : Format). HasFormat f (fields_of T.Upper row (s * 2 ^ 12))) e (IsInRange-fields_of T.Upper row (s * 2 ^ 12) e h).format

-- an instruction whose number is in reach is in range
in_range : (f : Format) (row rd rs1 rs2 : ℕ) (b : Bool) (s : ℕ) → format_of row ≡ f → row < 40 → rd < 32 → rs1 < 32 → rs2 < 32 → is_in_reach f (record { is_negative = b; size = s }) ≡ true
    → IsInRange (base_of f row rd rs1 rs2 (record { is_negative = b; size = s }))
in_range T.Register row rd rs1 rs2 b s e h d p q r = record { row = h; rd = d; rs1 = p; rs2 = q; format = rw e refl }
in_range T.Immediate row rd rs1 rs2 b s e h d p q r = record { row = h; rd = d; rs1 = p; rs2 = omega arith; format = rw e (refl, within_12 b s r) }
in_range T.Shift row rd rs1 rs2 b s e h d p q r =
    let a = shift_of b s (unsigned_of b s 32 r) in
    record { row = h; rd = d; rs1 = p; rs2 = omega arith; format = rw e (refl, a.0, a.1) }
in_range T.Store row rd rs1 rs2 b s e h d p q r = record { row = h; rd = omega arith; rs1 = p; rs2 = q; format = rw e (refl, within_12 b s r) }
in_range T.Branch row rd rs1 rs2 b s e h d p q r =
    let a = both_of (s % 2 == 0) (if b then nat_le s 4096 else nat_lt s 4096) r in
    record { row = h; rd = omega arith; rs1 = p; rs2 = q; format = rw e (refl, within_13 b s a.1, even_is b s a.0) }
in_range T.Upper row rd rs1 rs2 b s e h d p q r =
    let u = unsigned_of b s 1048576 r in
    record { row = h; rd = d; rs1 = omega arith; rs2 = omega arith; format = rw e (upper_in_range row rd s h d e u.1) }
in_range T.Jump row rd rs1 rs2 b s e h d p q r =
    let a = both_of (s % 2 == 0) (if b then nat_le s 1048576 else nat_lt s 1048576) r in
    record { row = h; rd = d; rs1 = omega arith; rs2 = omega arith; format = rw e (refl, refl, within_21 b s a.1, even_is b s a.0) }
in_range T.Fixed row rd rs1 rs2 b s e h d p q r = record { row = h; rd = omega arith; rs1 = omega arith; rs2 = omega arith; format = rw e (refl, refl, refl, refl) }

in_reach_word : (reach : Bool) (code word : ℕ) → (if reach then V.Word code else V.Reach) ≡ V.Word word → (reach ≡ true) × (code ≡ word)
in_reach_word true code word h = (refl, cc)
in_reach_word false code word h = absurd cc

pub fields_law : FieldsLaw
unfolding base_verdict
fields_law row rd rs1 rs2 word n h d p q e =
    let b : Base = base_of (format_of row) row rd rs1 rs2 n in
    let w = in_reach_word (is_in_reach (format_of row) n) (encoded b) word e in
    ap decoded (sym w.1) ∙ decoded-encoded b (in_range (format_of row) row rd rs1 rs2 n.is_negative n.size refl h d p q w.0)

-- ---- forms
-- the word of a row with registers
made : (row word : ℕ) (o : Operands) → row < 40 → AreRegisters o → base_verdict row o.rd o.rs1 o.rs2 o.number ≡ V.Word word → IsInstructionOf row word
made row word o h s e = record { rd = o.rd; rs1 = o.rs1; rs2 = o.rs2; number = o.number; word_is = e; decodes = fields_law row o.rd o.rs1 o.rs2 word o.number h s.rd s.rs1 s.rs2 e }

operands_word : (f : Form) (row word : ℕ) (o : Operands) → row < 40 → f ≢ F.Word → AreRegisters o → word_of f row o ≡ V.Word word → IsInstructionOf row word
unfolding word_of
operands_word F.Registers row word o h u s e = made row word o h s e
operands_word F.Number row word o h u s e = made row word o h s e
operands_word F.Load row word o h u s e = made row word o h s e
operands_word F.Store row word o h u s e = made row word o h s e
operands_word F.Branch row word o h u s e = made row word o h s e
operands_word F.Upper row word o h u s e = made row word o h s e
operands_word F.Jump row word o h u s e = made row word o h s e
operands_word F.JumpRegister row word o h u s e = made row word o h s e
operands_word F.Fence row word o h u s e = made row word o h s e
operands_word F.Bare row word o h u s e = made row word o h s e
operands_word F.Move row word o h u s e = made row word o h s e
operands_word F.Goto row word o h u s e = made row word o h s e
operands_word F.Return row word o h u s e = made row word o h s e
operands_word F.Word row word o h u s e = absurd (u refl)

-- where there is a word, operands were read
read_word : (r : Read) (next : Operands → Verdict) (word : ℕ) → said_of next r ≡ V.Word word → (o : Operands) × (r ≡ Ok o) × (next o ≡ V.Word word)
read_word (Ok o) next word h = (o, refl, h)
read_word (Err U.Line) next word h = absurd cc
read_word (Err U.Label) next word h = absurd cc

form_word : (places : Places) (at : ℕ) (f : Form) (row : ℕ) (texts : List (List ℕ)) (word : ℕ) → row < 40 → f ≢ F.Word → form_verdict places at f row texts ≡ V.Word word → IsInstructionOf row word
unfolding form_verdict
form_word places at f row texts word h u e =
    let a = read_word (read_operands places at (kinds_of f (length texts)) texts (start_of f)) (word_of f row) word e in
    operands_word f row word a.0 h u (read_small places at f (kinds_of f (length texts)) texts (start_of f) a.0 refl a.1) a.2

-- ---- lines
row_below : (place : ℕ) → row_of place < 40
row_below place = by_test (nat_lt place 40) refl (place == 42) (place == 43) where
  by_test : (a : Bool) → nat_lt place 40 ≡ a → (b c : Bool) → (if a then place else if b then 2 else if c then 3 else 18) < 40
  by_test true e b c = ltb-true place 40 e
  by_test false e true c = omega arith
  by_test false e false true = omega arith
  by_test false e false false = omega arith

label_word : (b : Bool) (v : Verdict) (word : ℕ) → with_label b v ≡ V.Word word → v ≡ V.Word word
label_word false v word h = h
label_word true V.Empty word h = absurd cc
label_word true (V.Word other) word h = absurd cc
label_word true V.Line word h = absurd cc
label_word true V.Label word h = absurd cc
label_word true V.Reach word h = absurd cc

instruction_word : (own : List InstructionTree) (places : Places) (at : ℕ) (text : List ℕ) (place word : ℕ) → mnemonic_of (name_of text) ≡ Some place → form_of place ≢ F.Word → instruction_verdict own places at text ≡ V.Word word → IsInstructionOf (row_of place) word
instruction_word own places at [] place word m u h = absurd cc
instruction_word own places at (b ∷ rest) place word m u h =
    form_word places at (form_of place) (row_of place) (operands_of (b ∷ rest)) word (row_below place) u (ap (mnemonic_verdict own places at (b ∷ rest)) (sym m) ∙ h)

pub line_law : LineLaw
unfolding line_verdict
line_law own places number at word place line m u h =
    instruction_word own places at (instruction_of line) place word m u (label_word (is_doubled places number line) (instruction_verdict own places at (instruction_of line)) word h)
