-- The tokens of a text, a case for each form of token (this project's profile of CoreDSL 2).
use Rattle.std.specs.Prelude.{◌≡◌, ℕ, ◌+◌, ◌-◌, ◌*◌, ◌^◌, ◌<◌, ◌≤◌, List, [], ◌∷◌, ◌++◌, length, Bool, true, false, not, ◌&&◌, ◌||◌, if◌then◌else◌, nat_eq, nat_le, nat_lt, Option, Some, None, slice_get}
use Rattle.std.specs.List.{list_all, position}
use Rattle.ix_bits.specs.declared.number.Ty.{Ty}
use Rattle.ix_bits.specs.declared.number.Bits.{Bits}
use Rattle.ix_tree.specs.declared.token.Token.{Token}
use Rattle.ix_tree.specs.declared.token.TokenKind.{TokenKind}
use Rattle.ix_tree.specs.declared.token.TokenKind.TheVariants.{Name, Text, Unsized, Sized, Word, Symbol}
use Rattle.ix_tree.specs.Tokens.{words, symbols}

-- ---- bytes
abbrev pub is_in : ℕ → ℕ → ℕ → Bool
is_in low high b = nat_le low b && nat_le b high

-- space, tab, carriage return, line feed
abbrev pub is_space : ℕ → Bool
is_space b = nat_eq b 32 || nat_eq b 9 || nat_eq b 13 || nat_eq b 10

abbrev pub is_digit : ℕ → Bool
is_digit b = is_in 48 57 b

-- an ASCII letter or `_`
abbrev pub is_letter : ℕ → Bool
is_letter b = is_in 65 90 b || is_in 97 122 b || nat_eq b 95

abbrev pub is_name_byte : ℕ → Bool
is_name_byte b = is_letter b || is_digit b

-- a byte of a number literal: those of names and `'`
abbrev pub is_number_byte : ℕ → Bool
is_number_byte b = is_name_byte b || nat_eq b 39

-- a byte of a line, and of a string: neither ends at a line feed, and a string ends at `"`
abbrev pub is_line_byte : ℕ → Bool
is_line_byte b = not (nat_eq b 10)

abbrev pub is_text_byte : ℕ → Bool
is_text_byte b = not (nat_eq b 10 || nat_eq b 34)

-- the bytes do not begin with one that passes the test
abbrev pub Stops : (ℕ → Bool) → List ℕ → Type 0
Stops p [] = Unit {0}
Stops p (b ∷ bs) = p b ≡ false

-- ---- what follows `/*`: the bytes to the first `*/`
abbrev pub ends_comment : List ℕ → Bool
ends_comment (b ∷ c ∷ bs) = nat_eq b 42 && nat_eq c 47
ends_comment _ = false

pub data IsComment : List ℕ → Type 0 where
  comment_end : IsComment (42 ∷ 47 ∷ [])
  comment_byte : {bs : List ℕ} (b : ℕ) → ends_comment (b ∷ bs) ≡ false → IsComment bs → IsComment (b ∷ bs)

-- ---- digits
abbrev pub below : ℕ → ℕ → Option ℕ
below base x = if nat_lt x base then Some x else None

abbrev pub digit_value : ℕ → ℕ → Option ℕ
digit_value base c =
    if is_in 48 57 c then below base (c - 48) else if is_in 97 102 c then below base (c - 87) else if is_in 65 70 c then below base (c - 55) else None

-- the digits go on from the value a to the value v, with at most one `_` before each
pub data IsRun (base : ℕ) : ℕ → List ℕ → ℕ → Type 0 where
  run_end : {a : ℕ} → IsRun base a [] a
  run_digit : {a v : ℕ} {cs : List ℕ} (c x : ℕ) → digit_value base c ≡ Some x → IsRun base (a * base + x) cs v → IsRun base a (c ∷ cs) v
  run_gap : {a v : ℕ} {cs : List ℕ} (c x : ℕ) → digit_value base c ≡ Some x → IsRun base (a * base + x) cs v → IsRun base a (95 ∷ c ∷ cs) v

-- the digits have the value v
pub data IsDigits (base : ℕ) : List ℕ → ℕ → Type 0 where
  digits : {v : ℕ} {cs : List ℕ} (c x : ℕ) → digit_value base c ≡ Some x → IsRun base x cs v → IsDigits base (c ∷ cs) v

-- ---- number literals
-- the value in the unsigned type of least width that holds it
pub record IsUnsized (v : ℕ) (ty : Ty) (b : Bits) : Type 0 where
  pub plain : ty.signed ≡ false
  pub width : b.width ≡ ty.width
  pub value : b.raw ≡ v
  pub least : (w : ℕ) → 1 ≤ w → v < 2 ^ w → ty.width ≤ w

-- the value in the unsigned type of that width
pub record IsSized (w v : ℕ) (ty : Ty) (b : Bits) : Type 0 where
  pub plain : ty.signed ≡ false
  pub type_width : ty.width ≡ w
  pub width : b.width ≡ w
  pub value : b.raw ≡ v

-- `b`, `d` and `h` behind the `'`
abbrev pub base_of : ℕ → Option ℕ
base_of c = if nat_eq c 98 then Some 2 else if nat_eq c 100 then Some 10 else if nat_eq c 104 then Some 16 else None

pub data IsNumber : List ℕ → TokenKind → Type 0 where
  -- `0`, or digits that do not begin with 0
  decimal : {cs : List ℕ} {v : ℕ} (c : ℕ) (ty : Ty) (b : Bits) → IsDigits 10 (c ∷ cs) v → (c ≡ 48 → cs ≡ []) → IsUnsized v ty b
      → IsNumber (c ∷ cs) (Unsized ty b)
  hexadecimal : {cs : List ℕ} {v : ℕ} (ty : Ty) (b : Bits) → IsDigits 16 cs v → IsUnsized v ty b → IsNumber (48 ∷ 120 ∷ cs) (Unsized ty b)
  binary : {cs : List ℕ} {v : ℕ} (ty : Ty) (b : Bits) → IsDigits 2 cs v → IsUnsized v ty b → IsNumber (48 ∷ 98 ∷ cs) (Unsized ty b)
  -- a width that does not begin with 0, `'`, a base and digits
  sized : {cs ds : List ℕ} {w v base : ℕ} (c l : ℕ) (ty : Ty) (b : Bits) → IsDigits 10 (c ∷ cs) w → (c ≡ 48 → ⊥) → base_of l ≡ Some base → IsDigits base ds v
      → IsSized w v ty b
      → IsNumber ((c ∷ cs) ++ 39 ∷ l ∷ ds) (Sized ty b)

-- ---- names and symbols
abbrev pub same_bytes : List ℕ → List ℕ → Bool
same_bytes [] [] = true
same_bytes (a ∷ as') (b ∷ bs) = nat_eq a b && same_bytes as' bs
same_bytes _ _ = false

-- a word is reserved where it stands in the table, and else a name
abbrev pub word_or_name : List ℕ → Option ℕ → TokenKind
word_or_name bs None = Name bs
word_or_name bs (Some n) = Word n

abbrev pub word_kind : List ℕ → TokenKind
word_kind bs = word_or_name bs (position (λ w. same_bytes w bs) words)

-- the bytes begin with s
abbrev pub BeginsWith : List ℕ → List ℕ → Type 0
BeginsWith s bs = (more : List ℕ) × (bs ≡ s ++ more)

-- ---- The front x of the bytes x ++ y, which stands at a place of the text, is one token, white space or a comment.
pub data Form : Type 0 where
  space : Form
  line_comment : Form
  comment : Form
  word : Form
  text : Form
  number : Form
  symbol : Form

-- ---- the form that the first bytes show
abbrev pub slash : List ℕ → Option Form
slash [] = None
slash (c ∷ cs) = if nat_eq c 47 then Some line_comment else if nat_eq c 42 then Some comment else None

-- the form of what can begin at these bytes
abbrev pub form_of : List ℕ → Option Form
form_of [] = None
form_of (b ∷ bs) =
    if is_space b then Some space
    else if is_letter b then Some word
    else if is_digit b then Some number
    else if nat_eq b 34 then Some text
    else if nat_eq b 47 then slash bs
    else Some symbol

abbrev pub token : ℕ → List ℕ → TokenKind → Token
token at x kind = record { kind = kind; span = record { from = at; to = at + length x } }

pub data IsPart : Form → ℕ → List ℕ → List ℕ → List Token → Type 0 where
  is_space_part : {at : ℕ} {y : List ℕ} (b : ℕ) → is_space b ≡ true → IsPart space at (b ∷ []) y []
  -- `//` to the line's end
  is_line_part : {at : ℕ} {x y : List ℕ} → list_all is_line_byte x ≡ true → Stops is_line_byte y → IsPart line_comment at (47 ∷ 47 ∷ x) y []
  -- `/*` to `*/`
  is_comment_part : {at : ℕ} {x y : List ℕ} → IsComment x → IsPart comment at (47 ∷ 42 ∷ x) y []
  -- the longest run of letters, digits and `_` that begins with no digit, of at most 64 bytes
  is_word_part : {at : ℕ} {x y : List ℕ} (b : ℕ) → is_letter b ≡ true → list_all is_name_byte x ≡ true → Stops is_name_byte y → length (b ∷ x) ≤ 64
      → IsPart word at (b ∷ x) y (token at (b ∷ x) (word_kind (b ∷ x)) ∷ [])
  -- `"` to `"` on one line
  is_text_part : {at : ℕ} {y : List ℕ} (x : List ℕ) → list_all is_text_byte x ≡ true → IsPart text at (34 ∷ (x ++ 34 ∷ [])) y (token at (34 ∷ (x ++ 34 ∷ [])) Text ∷ [])
  -- from a digit the longest run of letters, digits, `_` and `'`
  is_number_part : {at : ℕ} {x y : List ℕ} (b : ℕ) (kind : TokenKind) → is_digit b ≡ true → list_all is_number_byte x ≡ true → Stops is_number_byte y
      → IsNumber (b ∷ x) kind
      → IsPart number at (b ∷ x) y (token at (b ∷ x) kind ∷ [])
  -- the longest symbol that fits
  is_symbol_part : {at : ℕ} {x y : List ℕ} (n : ℕ) → slice_get symbols n ≡ Some x
      → ((m : ℕ) (s : List ℕ) → slice_get symbols m ≡ Some s → BeginsWith s (x ++ y) → length s ≤ length x)
      → IsPart symbol at x y (token at x (Symbol n) ∷ [])

-- The bytes from a place of the text begin with these tokens, and then the rest follows.
pub data Reads : ℕ → List ℕ → List Token → List ℕ → Type 0 where
  reads_none : {at : ℕ} {y : List ℕ} → Reads at y [] y
  reads_more : {at : ℕ} {x y rest : List ℕ} {us ts : List Token} (form : Form) → IsPart form at x y us → Reads (at + length x) y ts rest
      → Reads at (x ++ y) (us ++ ts) rest

-- the tokens are the text's
pub record Lexes (bytes : List ℕ) (tokens : List Token) : Type 0 where
  pub reads : Reads 0 bytes tokens []
