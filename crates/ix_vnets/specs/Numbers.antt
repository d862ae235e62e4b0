-- Numbers and their digits (IEEE 1364-2005, 3.5.1).
use Rattle.std.specs.Prelude.{◌≡◌, ℕ, ◌<◌, ◌^◌, suc, ◌++◌, codes, decimal}
use Rattle.ix_bits.specs.declared.number.Bits.{Bits}
use Rattle.ix_verilog.specs.Words.{Word}
use Rattle.ix_verilog.specs.Lines.{hex, hex_upto}

-- the digits are those of the number, however many it may have
abbrev pub HasDigits : ℕ → Word → Type 0
HasDigits x digits = (n : ℕ) → x < 16 ^ suc n → hex_upto (suc n) x ≡ digits

-- they are those of the number, which may have so many
abbrev pub IsHexOf : ℕ → Word → Type 0
IsHexOf x digits = (n : ℕ) × (x < 16 ^ suc n) × (hex_upto (suc n) x ≡ digits)

-- a number of a width as a word, as `8'h2a`
abbrev pub literal_word : Bits → Word
literal_word d = decimal d.width ++ (codes "'h" ++ hex d.raw)
