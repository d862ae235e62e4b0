-- Why bytes have no tokens (this project's profile of CoreDSL 2).
use Rattle.std.specs.Prelude.{◌≡◌, ℕ, ◌+◌, ◌≤◌, List, ◌++◌, length, Option, Some}
use Rattle.ix_tree.specs.declared.token.Token.{Token}
use Rattle.ix_tree.specs.Lexing.{Form, comment, text, number, form_of, IsPart, Reads}
use Rattle.ix_lex.specs.declared.error.LexErr.{LexErr}
use Rattle.ix_lex.specs.declared.error.LexErr.TheVariants.{BadByte, Unclosed, BadNumber, Memory}

-- no token, white space or comment begins the bytes
abbrev pub NoPart : List ℕ → Type 0
NoPart bytes = (form : Form) (at : ℕ) (x y : List ℕ) (us : List Token) → IsPart form at x y us → x ++ y ≡ bytes → ⊥

-- the refusal of what stands there: a comment or string without end, a literal that is none, else a byte
abbrev pub refusal_of : ℕ → Option Form → LexErr
refusal_of at (Some comment) = Unclosed at
refusal_of at (Some text) = Unclosed at
refusal_of at (Some number) = BadNumber at
refusal_of at _ = BadByte at

-- the text's own tokens lead to a place in it where none begins
pub record IsRefusal (bytes : List ℕ) (e : LexErr) : Type 0 where
  pub at : ℕ
  pub tokens : List Token
  pub rest : List ℕ
  pub reads : Reads 0 bytes tokens rest
  pub place : at + length rest ≡ length bytes
  pub some : 1 ≤ length rest
  pub none : NoPart rest
  pub cause : e ≡ refusal_of at (form_of rest)

-- a fact of each error but want of memory
abbrev pub UnlessMemory : LexErr → Type 0 → Type 0
UnlessMemory Memory P = Unit {0}
UnlessMemory _ P = P
