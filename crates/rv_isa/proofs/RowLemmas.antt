-- The row that a word matches, and what its fields are.
use Rattle.std.proofs.Common.{ℕ, ◌+◌, ◌*◌, ◌^◌, ◌<◌, ◌≡◌, length, Some, None, refl, arith, false, get_or, true}
use Rattle.std.proofs.lemmas.Int.{ints}
use Rattle.std.proofs.lemmas.List.Quantifiers.{position-Some}
use Rattle.std.proofs.lemmas.Bool.{eqb-true, eq-eqb, ne_eqb, both_ways, cond-true, lt-ltb}
use Rattle.std.proofs.lemmas.List.Sums.{position_or_len_is}
use Rattle.ix_bits.specs.BaseTable.{base_patterns, is_match}
use Rattle.rv_isa.specs.Table.{row_of, pattern_of, format_of, Matches}
use Rattle.rv_isa.specs.Fields.{fields_of, IsInRange, bits_of}
use Rattle.rv_isa.specs.Decoded.{decoded}
use Rattle.rv_isa.specs.declared.table.Format.{Format}
use Rattle.rv_isa.specs.declared.table.Format.TheVariants.{Register, Immediate, Shift, Store, Branch, Upper, Jump, Fixed}
use Rattle.rv_isa.proofs.TableLemmas.{not_both}
use Rattle.rv_isa.proofs.Positions.{fails_from_length, length_from_None}
use Rattle.ix_bits.proofs.Results.{within_value}
use Rattle.rv_isa.proofs.SignLemmas.{even-signed, page-signed}

length-patterns : length base_patterns ≡ 40
unfolding base_patterns
length-patterns = refl

-- the row that is found is matched
pub row_of-Some : (word row : ℕ) → row_of word ≡ Some row → (row < 40) × Matches word row
unfolding row_of pattern_of
row_of-Some word row e =
    let found = position-Some (is_match word) base_patterns row (0, 0) e in
    (rw length-patterns at found.0, eqb-true _ _ found.1)

-- where no row is found, none is matched
pub row_of-None : (word : ℕ) → row_of word ≡ None → (row : ℕ) → row < 40 → ¬ Matches word row
unfolding row_of pattern_of
row_of-None word e row h m =
    let within : row < length base_patterns = rw length-patterns h in
    let fails = fails_from_length (is_match word) base_patterns row (0, 0) (length_from_None (is_match word) base_patterns e) within in
    both_ways _ fails (eq-eqb _ _ m)

-- fields of a word are in the range of its row's format
pub IsInRange-fields_of : (format : Format) (row word : ℕ) → format_of row ≡ format → row < 40 → IsInRange (fields_of format row word)
unfolding fields_of
IsInRange-fields_of Register row word e h =
    record { row = h; rd = omega arith; rs1 = omega arith; rs2 = omega arith; format = rw e refl }
IsInRange-fields_of Immediate row word e h =
    let within = within_value true 12 (bits_of word 31 20) (omega arith) (omega arith) in
    record { row = h; rd = omega arith; rs1 = omega arith; rs2 = omega arith; format = rw e (refl, within) }
IsInRange-fields_of Shift row word e h =
    let amount : bits_of word 24 20 < 32 = omega arith in
    record { row = h; rd = omega arith; rs1 = omega arith; rs2 = omega arith; format = rw e (refl, omega (arith, ints), omega (arith, ints)) }
IsInRange-fields_of Store row word e h =
    let within = within_value true 12 (bits_of word 31 25 * 2 ^ 5 + bits_of word 11 7) (omega arith) (omega arith) in
    record { row = h; rd = omega arith; rs1 = omega arith; rs2 = omega arith; format = rw e (refl, within) }
IsInRange-fields_of Branch row word e h =
    let bits : ℕ = bits_of word 31 31 * 2 ^ 12 + bits_of word 7 7 * 2 ^ 11 + bits_of word 30 25 * 2 ^ 5 + bits_of word 11 8 * 2 in
    let within = within_value true 13 bits (omega arith) (omega arith) in
    let even = even-signed 4096 bits refl (omega arith) (omega arith) in
    record { row = h; rd = omega arith; rs1 = omega arith; rs2 = omega arith; format = rw e (refl, within, even) }
IsInRange-fields_of Upper row word e h =
    let bits : ℕ = bits_of word 31 12 * 2 ^ 12 in
    let within = within_value true 32 bits (omega arith) (omega arith) in
    let page = page-signed (2 ^ 31) bits refl (omega arith) (omega arith) in
    record { row = h; rd = omega arith; rs1 = omega arith; rs2 = omega arith; format = rw e (refl, refl, within, page) }
IsInRange-fields_of Jump row word e h =
    let bits : ℕ = bits_of word 31 31 * 2 ^ 20 + bits_of word 19 12 * 2 ^ 12 + bits_of word 20 20 * 2 ^ 11 + bits_of word 30 21 * 2 in
    let within = within_value true 21 bits (omega arith) (omega arith) in
    let even = even-signed (2 ^ 20) bits refl (omega arith) (omega arith) in
    record { row = h; rd = omega arith; rs1 = omega arith; rs2 = omega arith; format = rw e (refl, refl, within, even) }
IsInRange-fields_of Fixed row word e h =
    record { row = h; rd = omega arith; rs1 = omega arith; rs2 = omega arith; format = rw e (refl, refl, refl, refl) }

-- an instruction has the row that its fields were read for
pub row-fields_of : (format : Format) (row word : ℕ) → (fields_of format row word).row ≡ row
unfolding fields_of
row-fields_of Register row word = refl
row-fields_of Immediate row word = refl
row-fields_of Shift row word = refl
row-fields_of Store row word = refl
row-fields_of Branch row word = refl
row-fields_of Upper row word = refl
row-fields_of Jump row word = refl
row-fields_of Fixed row word = refl

-- what a word with this row decodes to
pub decoded_from_row : (word row : ℕ) → row_of word ≡ Some row → decoded word ≡ Some (fields_of (format_of row) row word)
unfolding decoded
decoded_from_row word row e = rw e refl

-- what a word with no row decodes to
pub decoded_from_None : (word : ℕ) → row_of word ≡ None → decoded word ≡ None
unfolding decoded
decoded_from_None word e = rw e refl

-- the row that a word matches is the row that is found
pub row_of-from_Matches : (word row : ℕ) → row < 40 → Matches word row → row_of word ≡ Some row
unfolding row_of pattern_of
row_of-from_Matches word row h m =
    let within : row < length base_patterns = rw length-patterns h in
    let here : is_match word (get_or base_patterns row (0, 0)) ≡ true = eq-eqb _ _ m in
    let before : (k : ℕ) → k < row → is_match word (get_or base_patterns k (0, 0)) ≡ false =
    λ k less. ne_eqb _ _ (λ n. not_both word k row less h n m)
    in
    let first = position_or_len_is (is_match word) base_patterns row (0, 0) (omega arith) before (λ _. here) in
    rw first (cond-true _ _ _ (lt-ltb _ _ within))
