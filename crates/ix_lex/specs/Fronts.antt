-- What the functions of the lexer find at the front of the bytes.
use Rattle.std.specs.Prelude.{◌≡◌, ℕ, ◌≤◌, List, [], ◌∷◌, ◌++◌, length, Bool, Option, Some, None, take, drop}
use Rattle.ix_tree.specs.declared.token.Token.{Token}
use Rattle.ix_tree.specs.declared.token.TokenKind.{TokenKind}
use Rattle.ix_tree.specs.Lexing.{is_name_byte, is_number_byte, is_line_byte, is_text_byte, IsComment, Form, token, IsPart}
use Rattle.ix_lex.specs.declared.scan.Class.{Class}
use Rattle.ix_lex.specs.declared.scan.Class.TheVariants.{Name, Number, Line, Text}

-- the test of the class
abbrev pub belongs_to : Class → ℕ → Bool
belongs_to Name = is_name_byte
belongs_to Number = is_number_byte
belongs_to Line = is_line_byte
belongs_to Text = is_text_byte

-- no front is what follows `/*`
abbrev pub NoComment : List ℕ → Type 0
NoComment bytes = (x y : List ℕ) → IsComment x → x ++ y ≡ bytes → ⊥

-- the tokens of a part
abbrev pub tokens_of : ℕ → List ℕ → Option TokenKind → List Token
tokens_of at x None = []
tokens_of at x (Some kind) = token at x kind ∷ []

-- the front of this length is a part of that form and kind, wherever it stands
pub record IsFront (form : Form) (bytes : List ℕ) (n : ℕ) (kind : Option TokenKind) : Type 0 where
  pub some : 1 ≤ n
  pub within : n ≤ length bytes
  pub part : (at : ℕ) → IsPart form at (take n bytes) (drop n bytes) (tokens_of at (take n bytes) kind)

-- the token of this kind from one place to another
abbrev pub kept : ℕ → ℕ → Option TokenKind → List Token
kept a b None = []
kept a b (Some k) = record { kind = k; span = record { from = a; to = b } } ∷ []
