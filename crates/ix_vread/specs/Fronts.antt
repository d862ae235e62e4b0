-- What the functions find at the front of bytes.
use Rattle.std.specs.Prelude.{ℕ, ◌≤◌, List, [], ◌∷◌, length, Bool, true, false, take, drop}
use Rattle.ix_verilog.specs.declared.token.Token.{Token}
use Rattle.ix_verilog.specs.Words.{is_name_byte, is_number_byte, is_line_byte, Form, token, IsPart}
use Rattle.ix_vread.specs.declared.scan.Class.{Class}
use Rattle.ix_vread.specs.declared.scan.Class.TheVariants.{Name, Number, Line}

-- the test of the class
abbrev pub belongs_to : Class → ℕ → Bool
belongs_to Name = is_name_byte
belongs_to Number = is_number_byte
belongs_to Line = is_line_byte

-- the token of a word, and none of anything else
abbrev pub tokens_if : Bool → ℕ → List ℕ → List Token
tokens_if true at x = token at x ∷ []
tokens_if false at x = []

-- the byte b and so many behind it are a part of that form, wherever they stand
pub record IsFront (form : Form) (b : ℕ) (bs : List ℕ) (n : ℕ) (is_word : Bool) : Type 0 where
  pub within : n ≤ length bs
  pub part : (at : ℕ) → IsPart form at (b ∷ take n bs) (drop n bs) (tokens_if is_word at (b ∷ take n bs))
