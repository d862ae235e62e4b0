-- Between a word and its instruction, and back.
use Rattle.std.proofs.Common.{ℕ, ◌+◌, ◌*◌, ◌/◌, ◌%◌, ◌^◌, ◌<◌, ◌≡◌, bit_and, refl, sym, true, ◌∙◌, ap, arith, w32, pos, lit≤, Option, Some, None}
use Rattle.std.specs.Int.{cast_unsigned}
use Rattle.std.proofs.lemmas.Option.{none-some, same_Some}
use Rattle.rv_isa.specs.Table.{pattern_of, format_of, row_of, Matches}
use Rattle.rv_isa.specs.Fields.{fields_of, bits_of, signed, IsInRange}
use Rattle.rv_isa.specs.Encoded.{encoded, placed}
use Rattle.rv_isa.specs.declared.base.Base.{Base}
use Rattle.rv_isa.specs.declared.table.Format.{Format}
use Rattle.rv_isa.specs.declared.table.Format.TheVariants.{Register, Immediate, Shift, Store, Branch, Upper, Jump, Fixed}
use Rattle.rv_isa.proofs.FieldLemmas.{is_base}
use Rattle.rv_isa.proofs.TableLemmas.{mask_of, mask_is, match_under_mask}
use Rattle.rv_isa.proofs.MaskLemmas.{and_opcode, and_function, and_functions, and_whole}
use Rattle.rv_isa.proofs.SignLemmas.{low_signed_12, low_signed_13, low_signed_21, low_signed_32, signed_low_12, signed_low_13, signed_low_21, signed_low_32, amount_low, even-cast_unsigned, page-cast_unsigned, cast_unsigned-lt}
use Rattle.ix_bits.proofs.Ranges.{holds_wider}
use Rattle.rv_isa.proofs.RowLemmas.{row_of-from_Matches, decoded_from_row, decoded_from_None, row_of-Some, IsInRange-fields_of}
use Rattle.rv_isa.specs.Decoded.{decoded}

-- the match of a row, from a word of the row
match_is : (format : Format) (row word : ℕ) → format_of row ≡ format → row < 40 → Matches word row →
    (pattern_of row).1 ≡ bit_and word (mask_of format)
match_is format row word e h m = sym (rw (mask_is row h, e) at m)

-- the word of the fields of a word is that word
pub encoded-fields_of : (format : Format) (row word : ℕ) → format_of row ≡ format → row < 40 → word < 2 ^ 32 → Matches word row →
    encoded (fields_of format row word) ≡ word
unfolding fields_of encoded placed mask_of
encoded-fields_of Register row word e h fits m =
    let match : (pattern_of row).1 ≡ bit_and word 0xfe00707f = match_is Register row word e h m in
    rw e (omega (arith, match, and_functions word))
encoded-fields_of Immediate row word e h fits m =
    let match : (pattern_of row).1 ≡ bit_and word 0x707f = match_is Immediate row word e h m in
    let imm = low_signed_12 (bits_of word 31 20) (omega arith) in
    rw e (omega (arith, match, and_function word, imm))
encoded-fields_of Shift row word e h fits m =
    let match : (pattern_of row).1 ≡ bit_and word 0xfe00707f = match_is Shift row word e h m in
    rw e (omega (arith, match, and_functions word))
encoded-fields_of Store row word e h fits m =
    let match : (pattern_of row).1 ≡ bit_and word 0x707f = match_is Store row word e h m in
    let imm = low_signed_12 (bits_of word 31 25 * 2 ^ 5 + bits_of word 11 7) (omega arith) in
    rw e (omega (arith, match, and_function word, imm))
encoded-fields_of Branch row word e h fits m =
    let match : (pattern_of row).1 ≡ bit_and word 0x707f = match_is Branch row word e h m in
    let imm = low_signed_13
    (bits_of word 31 31 * 2 ^ 12 + bits_of word 7 7 * 2 ^ 11 + bits_of word 30 25 * 2 ^ 5 + bits_of word 11 8 * 2) (omega arith)
    in
    rw e (omega (arith, match, and_function word, imm))
encoded-fields_of Upper row word e h fits m =
    let match : (pattern_of row).1 ≡ bit_and word 0x7f = match_is Upper row word e h m in
    let imm = low_signed_32 (bits_of word 31 12 * 2 ^ 12) (omega arith) in
    rw e (omega (arith, match, and_opcode word, imm))
encoded-fields_of Jump row word e h fits m =
    let match : (pattern_of row).1 ≡ bit_and word 0x7f = match_is Jump row word e h m in
    let imm = low_signed_21
    (bits_of word 31 31 * 2 ^ 20 + bits_of word 19 12 * 2 ^ 12 + bits_of word 20 20 * 2 ^ 11 + bits_of word 30 21 * 2) (omega arith)
    in
    rw e (omega (arith, match, and_opcode word, imm))
encoded-fields_of Fixed row word e h fits m =
    let match : (pattern_of row).1 ≡ bit_and word 0xffffffff = match_is Fixed row word e h m in
    rw e (omega (arith, match, and_whole word))

-- the match of a row is the row's part of any word that it is put into
match_of : (format : Format) (row : ℕ) → format_of row ≡ format → row < 40 →
    (pattern_of row).1 ≡ bit_and (pattern_of row).1 (mask_of format)
match_of format row e h = match_is format row (pattern_of row).1 e h (match_under_mask row h)

-- a word whose row's part is the match of the row is of the row
matches_from : (format : Format) (row word : ℕ) → format_of row ≡ format → row < 40 →
    bit_and word (mask_of format) ≡ (pattern_of row).1 → Matches word row
matches_from format row word e h m = rw (mask_is row h, e) m

-- the word of an instruction is of the instruction's row, and has its fields
pub record IsRound (format : Format) (b : Base) : Type 0 where
  pub fits : (pattern_of b.row).1 + placed format b < 2 ^ 32
  pub row : Matches ((pattern_of b.row).1 + placed format b) b.row
  pub fields : fields_of format b.row ((pattern_of b.row).1 + placed format b) ≡ b

round_Register : (b : Base) → IsInRange b → format_of b.row ≡ Register → IsRound Register b
unfolding fields_of placed mask_of
round_Register b h e =
    let p : ℕ = (pattern_of b.row).1 in
    let own : p ≡ p / 33554432 % 128 * 33554432 + p / 4096 % 8 * 4096 + p % 128 = match_of Register b.row e h.row ∙ and_functions p in
    let word : ℕ = p + (b.rs2 * 2 ^ 20 + b.rs1 * 2 ^ 15 + b.rd * 2 ^ 7) in
    let format = rw e at h.format in
    let rd = h.rd in
    let rs1 = h.rs1 in
    let rs2 = h.rs2 in
    record {
      fits = omega arith;
      row = matches_from Register b.row word e h.row (and_functions word ∙ omega arith);
      fields = is_base b (omega arith) (omega arith) (omega arith) (sym format);
    }

round_Immediate : (b : Base) → IsInRange b → format_of b.row ≡ Immediate → IsRound Immediate b
unfolding fields_of placed mask_of
round_Immediate b h e =
    let p : ℕ = (pattern_of b.row).1 in
    let y : ℕ = cast_unsigned w32 b.imm in
    let own : p ≡ p / 4096 % 8 * 4096 + p % 128 = match_of Immediate b.row e h.row ∙ and_function p in
    let word : ℕ = p + (y / 2 ^ 0 % 2 ^ 12 * 2 ^ 20 + b.rs1 * 2 ^ 15 + b.rd * 2 ^ 7) in
    let format = rw e at h.format in
    let rd = h.rd in
    let rs1 = h.rs1 in
    let rs2 = h.rs2 in
    let imm : bits_of word 31 20 ≡ y % 4096 = omega arith in
    record {
      fits = omega arith;
      row = matches_from Immediate b.row word e h.row (and_function word ∙ omega arith);
      fields = is_base b (omega arith) (omega arith) (sym format.0) (ap (signed 12) imm ∙ signed_low_12 b.imm format.1);
    }

round_Shift : (b : Base) → IsInRange b → format_of b.row ≡ Shift → IsRound Shift b
unfolding fields_of placed mask_of
round_Shift b h e =
    let p : ℕ = (pattern_of b.row).1 in
    let y : ℕ = cast_unsigned w32 b.imm in
    let own : p ≡ p / 33554432 % 128 * 33554432 + p / 4096 % 8 * 4096 + p % 128 = match_of Shift b.row e h.row ∙ and_functions p in
    let word : ℕ = p + (y / 2 ^ 0 % 2 ^ 5 * 2 ^ 20 + b.rs1 * 2 ^ 15 + b.rd * 2 ^ 7) in
    let format = rw e at h.format in
    let rd = h.rd in
    let rs1 = h.rs1 in
    let rs2 = h.rs2 in
    let imm : bits_of word 24 20 ≡ y % 32 = omega arith in
    record {
      fits = omega arith;
      row = matches_from Shift b.row word e h.row (and_functions word ∙ omega arith);
      fields = is_base b (omega arith) (omega arith) (sym format.0) (ap pos imm ∙ amount_low b.imm format.1 format.2);
    }

round_Store : (b : Base) → IsInRange b → format_of b.row ≡ Store → IsRound Store b
unfolding fields_of placed mask_of
round_Store b h e =
    let p : ℕ = (pattern_of b.row).1 in
    let y : ℕ = cast_unsigned w32 b.imm in
    let own : p ≡ p / 4096 % 8 * 4096 + p % 128 = match_of Store b.row e h.row ∙ and_function p in
    let word : ℕ = p + (y / 2 ^ 5 % 2 ^ 7 * 2 ^ 25 + b.rs2 * 2 ^ 20 + b.rs1 * 2 ^ 15 + y / 2 ^ 0 % 2 ^ 5 * 2 ^ 7) in
    let format = rw e at h.format in
    let rd = h.rd in
    let rs1 = h.rs1 in
    let rs2 = h.rs2 in
    let imm : bits_of word 31 25 * 2 ^ 5 + bits_of word 11 7 ≡ y % 4096 = omega arith in
    record {
      fits = omega arith;
      row = matches_from Store b.row word e h.row (and_function word ∙ omega arith);
      fields = is_base b (sym format.0) (omega arith) (omega arith) (ap (signed 12) imm ∙ signed_low_12 b.imm format.1);
    }

round_Branch : (b : Base) → IsInRange b → format_of b.row ≡ Branch → IsRound Branch b
unfolding fields_of placed mask_of
round_Branch b h e =
    let p : ℕ = (pattern_of b.row).1 in
    let y : ℕ = cast_unsigned w32 b.imm in
    let own : p ≡ p / 4096 % 8 * 4096 + p % 128 = match_of Branch b.row e h.row ∙ and_function p in
    let word : ℕ = p + (y / 2 ^ 12 % 2 ^ 1 * 2 ^ 31 + y / 2 ^ 5 % 2 ^ 6 * 2 ^ 25 + b.rs2 * 2 ^ 20 + b.rs1 * 2 ^ 15 + y / 2 ^ 1 % 2 ^ 4 * 2 ^ 8 + y / 2 ^ 11 % 2 ^ 1 * 2 ^ 7) in
    let format = rw e at h.format in
    let rd = h.rd in
    let rs1 = h.rs1 in
    let rs2 = h.rs2 in
    let even : y % 2 ≡ 0 = even-cast_unsigned b.imm (holds_wider true 13 32 b.imm (lit≤ tt) (lit≤ tt) format.1) format.2 in
    let imm : bits_of word 31 31 * 2 ^ 12 + bits_of word 7 7 * 2 ^ 11 + bits_of word 30 25 * 2 ^ 5 + bits_of word 11 8 * 2 ≡ y % 8192 = omega arith in
    record {
      fits = omega arith;
      row = matches_from Branch b.row word e h.row (and_function word ∙ omega arith);
      fields = is_base b (sym format.0) (omega arith) (omega arith) (ap (signed 13) imm ∙ signed_low_13 b.imm format.1);
    }

round_Upper : (b : Base) → IsInRange b → format_of b.row ≡ Upper → IsRound Upper b
unfolding fields_of placed mask_of
round_Upper b h e =
    let p : ℕ = (pattern_of b.row).1 in
    let y : ℕ = cast_unsigned w32 b.imm in
    let own : p ≡ p % 128 = match_of Upper b.row e h.row ∙ and_opcode p in
    let word : ℕ = p + (y / 2 ^ 12 % 2 ^ 20 * 2 ^ 12 + b.rd * 2 ^ 7) in
    let format = rw e at h.format in
    let rd = h.rd in
    let rs1 = h.rs1 in
    let rs2 = h.rs2 in
    let page : y % 4096 ≡ 0 = page-cast_unsigned b.imm format.2 format.3 in
    let fits : y < 2 ^ 32 = cast_unsigned-lt b.imm format.2 in
    let imm : bits_of word 31 12 * 2 ^ 12 ≡ y = omega arith in
    record {
      fits = omega arith;
      row = matches_from Upper b.row word e h.row (and_opcode word ∙ omega arith);
      fields = is_base b (omega arith) (sym format.0) (sym format.1) (ap (signed 32) imm ∙ signed_low_32 b.imm format.2);
    }

round_Jump : (b : Base) → IsInRange b → format_of b.row ≡ Jump → IsRound Jump b
unfolding fields_of placed mask_of
round_Jump b h e =
    let p : ℕ = (pattern_of b.row).1 in
    let y : ℕ = cast_unsigned w32 b.imm in
    let own : p ≡ p % 128 = match_of Jump b.row e h.row ∙ and_opcode p in
    let word : ℕ = p + (y / 2 ^ 20 % 2 ^ 1 * 2 ^ 31 + y / 2 ^ 1 % 2 ^ 10 * 2 ^ 21 + y / 2 ^ 11 % 2 ^ 1 * 2 ^ 20 + y / 2 ^ 12 % 2 ^ 8 * 2 ^ 12 + b.rd * 2 ^ 7) in
    let format = rw e at h.format in
    let rd = h.rd in
    let rs1 = h.rs1 in
    let rs2 = h.rs2 in
    let even : y % 2 ≡ 0 = even-cast_unsigned b.imm (holds_wider true 21 32 b.imm (lit≤ tt) (lit≤ tt) format.2) format.3 in
    let imm : bits_of word 31 31 * 2 ^ 20 + bits_of word 19 12 * 2 ^ 12 + bits_of word 20 20 * 2 ^ 11 + bits_of word 30 21 * 2 ≡ y % 2097152 = omega arith in
    record {
      fits = omega arith;
      row = matches_from Jump b.row word e h.row (and_opcode word ∙ omega arith);
      fields = is_base b (omega arith) (sym format.0) (sym format.1) (ap (signed 21) imm ∙ signed_low_21 b.imm format.2);
    }

round_Fixed : (b : Base) → IsInRange b → format_of b.row ≡ Fixed → IsRound Fixed b
unfolding fields_of placed mask_of
round_Fixed b h e =
    let p : ℕ = (pattern_of b.row).1 in
    let own : p ≡ p % 2 ^ 32 = match_of Fixed b.row e h.row ∙ and_whole p in
    let word : ℕ = p + (0) in
    let format = rw e at h.format in
    record {
      fits = omega arith;
      row = matches_from Fixed b.row word e h.row (and_whole word ∙ omega arith);
      fields = is_base b (sym format.0) (sym format.1) (sym format.2) (sym format.3);
    }

-- each format
pub round : (format : Format) (b : Base) → IsInRange b → format_of b.row ≡ format → IsRound format b
round Register b h e = round_Register b h e
round Immediate b h e = round_Immediate b h e
round Shift b h e = round_Shift b h e
round Store b h e = round_Store b h e
round Branch b h e = round_Branch b h e
round Upper b h e = round_Upper b h e
round Jump b h e = round_Jump b h e
round Fixed b h e = round_Fixed b h e

-- an instruction in range is what its word decodes to
pub decoded-encoded : (b : Base) → IsInRange b → decoded (encoded b) ≡ Some b
unfolding encoded
decoded-encoded b h =
    let there = round (format_of b.row) b h refl in
    let word : ℕ = (pattern_of b.row).1 + placed (format_of b.row) b in
    decoded_from_row word b.row (row_of-from_Matches word b.row h.row there.row) ∙ ap Some there.fields

-- the word of an instruction in range has 32 bits
pub encoded-lt : (b : Base) → IsInRange b → encoded b < 2 ^ 32
unfolding encoded
encoded-lt b h = (round (format_of b.row) b h refl).fits

-- the word of an instruction in range is of the instruction's row
pub Matches-encoded : (b : Base) → IsInRange b → Matches (encoded b) b.row
unfolding encoded
Matches-encoded b h = (round (format_of b.row) b h refl).row

from_row : (word : ℕ) (b : Base) (found : Option ℕ) → row_of word ≡ found → word < 2 ^ 32 → decoded word ≡ Some b → encoded b ≡ word
from_row word b None r fits e = absurd (none-some b (sym (decoded_from_None word r) ∙ e))
from_row word b (Some row) r fits e =
    let found = row_of-Some word row r in
    let same : fields_of (format_of row) row word ≡ b = same_Some _ _ (sym (decoded_from_row word row r) ∙ e) in
    rw (← same) (encoded-fields_of (format_of row) row word refl found.0 fits found.1)

-- a word that decodes is the word of what it decodes to
pub encoded-decoded : (word : ℕ) (b : Base) → word < 2 ^ 32 → decoded word ≡ Some b → encoded b ≡ word
encoded-decoded word b fits e = from_row word b (row_of word) refl fits e

in_range_from : (word : ℕ) (b : Base) (found : Option ℕ) → row_of word ≡ found → decoded word ≡ Some b → IsInRange b
in_range_from word b None r e = absurd (none-some b (sym (decoded_from_None word r) ∙ e))
in_range_from word b (Some row) r e =
    let same : fields_of (format_of row) row word ≡ b = same_Some _ _ (sym (decoded_from_row word row r) ∙ e) in
    rw (← same) (IsInRange-fields_of (format_of row) row word refl (row_of-Some word row r).0)

-- what a word decodes to is in range
pub IsInRange-decoded : (word : ℕ) (b : Base) → decoded word ≡ Some b → IsInRange b
IsInRange-decoded word b e = in_range_from word b (row_of word) refl e
