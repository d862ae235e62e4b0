-- Digits behind the base (IEEE 1364-2005, 3.5.1).
use Rattle.std.specs.Prelude.{◌≡◌, ◌++◌, codes}
use Rattle.ix_verilog.specs.Words.{Word}
use Rattle.ix_verilog.specs.Lines.{AreDigits, is_hex_digit}

-- `'h` and digits
pub record IsBased (word : Word) : Type 0 where
  pub digits : Word
  pub is : word ≡ codes "'h" ++ digits
  pub are : AreDigits is_hex_digit digits
