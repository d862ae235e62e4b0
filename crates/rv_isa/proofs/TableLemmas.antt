-- Facts of the base table, each by one test that computes over its rows.
use Rattle.std.proofs.Common.{ℕ, ◌<◌, ◌≡◌, Bool, true, ◌==◌, ◌&&◌, ◌||◌, nat_le, bit_and, bit_xor, refl, inl, inr, arith}
use Rattle.std.proofs.lemmas.Bool.{agree_below, agree_below_at, eqb-true, and_parts, or_cases, leb-true, ltb-true, cases_order}
use Rattle.ix_bits.specs.BaseTable.{base_patterns, are_apart}
use Rattle.rv_isa.specs.Table.{pattern_of, format_of, base_formats, Matches}
use Rattle.rv_isa.proofs.MaskLemmas.{xor_under_both}
use Rattle.rv_isa.specs.declared.table.Format.{Format}
use Rattle.rv_isa.specs.declared.table.Format.TheVariants.{Register, Immediate, Shift, Store, Branch, Upper, Jump, Fixed}

-- the mask of each format
unfoldable pub mask_of : Format → ℕ
mask_of Register = 0xfe00707f
mask_of Immediate = 0x707f
mask_of Shift = 0xfe00707f
mask_of Store = 0x707f
mask_of Branch = 0x707f
mask_of Upper = 0x7f
mask_of Jump = 0x7f
mask_of Fixed = 0xffffffff

-- the row's mask is that of its format, and its match lies under it
abbrev is_sound : ℕ → Bool
is_sound row = ((pattern_of row).0 == mask_of (format_of row)) && (bit_and (pattern_of row).1 (pattern_of row).0 == (pattern_of row).1)

all_sound : agree_below is_sound (λ _. true) 40 ≡ true
unfolding pattern_of format_of base_patterns base_formats mask_of
all_sound = refl

-- the mask of a row is that of its format
pub mask_is : (row : ℕ) → row < 40 → (pattern_of row).0 ≡ mask_of (format_of row)
mask_is row h = eqb-true _ _ (and_parts _ _ (agree_below_at is_sound (λ _. true) 40 row all_sound h)).0

-- the match of a row lies under its mask
pub match_under_mask : (row : ℕ) → row < 40 → Matches (pattern_of row).1 row
match_under_mask row h = eqb-true _ _ (and_parts _ _ (agree_below_at is_sound (λ _. true) 40 row all_sound h)).1

-- the row's pattern is apart from that of each later row
abbrev is_apart_from : ℕ → ℕ → Bool
is_apart_from row other = nat_le other row || are_apart (pattern_of row) (pattern_of other)

abbrev is_apart_from_later : ℕ → Bool
is_apart_from_later row = agree_below (is_apart_from row) (λ _. true) 40

all_apart : agree_below is_apart_from_later (λ _. true) 40 ≡ true
unfolding pattern_of base_patterns
all_apart = refl

-- the patterns of two rows are apart
pub apart : (row other : ℕ) → row < other → other < 40 → are_apart (pattern_of row) (pattern_of other) ≡ true
apart row other less h =
    let later = agree_below_at is_apart_from_later (λ _. true) 40 row all_apart (omega arith) in
    let both = agree_below_at (is_apart_from row) (λ _. true) 40 other later h in
    elim (or_cases (nat_le other row) (are_apart (pattern_of row) (pattern_of other)) both) [
      | inl e ↦ absurd (omega (arith, leb-true other row e))
      | inr e ↦ e
    ]

-- a word matches no two rows
pub not_both : (word row other : ℕ) → row < other → other < 40 → Matches word row → Matches word other → ⊥
not_both word row other less h m n =
    let e = xor_under_both word (pattern_of row).0 (pattern_of other).0 in
    let f = ltb-true 0 _ (apart row other less h) in
    let g : bit_and (bit_xor (pattern_of row).1 (pattern_of other).1) (bit_and (pattern_of row).0 (pattern_of other).0) ≡ 0 = rw (m, n) at e in
    omega (arith, f, g)

-- the rows that a word matches are one
pub same_row : (word row other : ℕ) → row < 40 → other < 40 → Matches word row → Matches word other → row ≡ other
same_row word row other h k m n =
    elim (cases_order row other) [
      | inl e ↦ e
      | inr (inl less) ↦ absurd (not_both word row other less k m n)
      | inr (inr more) ↦ absurd (not_both word other row more h n m)
    ]
