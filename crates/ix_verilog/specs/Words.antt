-- The words of a Verilog text (IEEE 1364-2005, 3, lexical conventions). A word is its bytes.
use Rattle.std.specs.Prelude.{◌≡◌, ℕ, ◌+◌, List, [], ◌∷◌, ◌++◌, length, map, Bool, true, false, not, ◌&&◌, ◌||◌, if◌then◌else◌, nat_eq, nat_le}
use Rattle.std.specs.List.{list_all}
use Rattle.ix_verilog.specs.declared.token.Token.{Token}

abbrev pub Word : Type 0
Word = List ℕ

-- ---- bytes
abbrev pub is_in : ℕ → ℕ → ℕ → Bool
is_in low high b = nat_le low b && nat_le b high

-- space, tab, carriage return, line feed
abbrev pub is_space : ℕ → Bool
is_space b = nat_eq b 32 || nat_eq b 9 || nat_eq b 13 || nat_eq b 10

abbrev pub is_digit : ℕ → Bool
is_digit b = is_in 48 57 b

-- a letter, `_` or `$`, with which a name begins
abbrev pub is_opening : ℕ → Bool
is_opening b = is_in 65 90 b || is_in 97 122 b || nat_eq b 95 || nat_eq b 36

-- a byte of a name
abbrev pub is_name_byte : ℕ → Bool
is_name_byte b = is_opening b || is_digit b

-- a byte of a number: those of names and `'`
abbrev pub is_number_byte : ℕ → Bool
is_number_byte b = is_name_byte b || nat_eq b 39

-- a byte of a line
abbrev pub is_line_byte : ℕ → Bool
is_line_byte b = not (nat_eq b 10)

-- the bytes do not begin with one that passes the test
abbrev pub Stops : (ℕ → Bool) → List ℕ → Type 0
Stops p [] = Unit {0}
Stops p (b ∷ bs) = p b ≡ false

-- ---- what follows `/*`: the bytes to the first `*/`
abbrev pub ends_comment : List ℕ → Bool
ends_comment (b ∷ c ∷ bs) = nat_eq b 42 && nat_eq c 47
ends_comment _ = false

pub data IsComment : List ℕ → Type 0 where
  comment_end : IsComment (42 ∷ 47 ∷ [])
  comment_byte : {bs : List ℕ} (b : ℕ) → ends_comment (b ∷ bs) ≡ false → IsComment bs → IsComment (b ∷ bs)

-- no front of the bytes is a comment's rest
abbrev pub NoComment : List ℕ → Type 0
NoComment bs = (x y : List ℕ) → IsComment x → x ++ y ≡ bs → ⊥

-- ---- parts of a text
pub data Form : Type 0 where
  space : Form
  line_comment : Form
  comment : Form
  name : Form
  number : Form
  pair : Form
  single : Form

abbrev pub begins : ℕ → List ℕ → Bool
begins c [] = false
begins c (b ∷ bs) = nat_eq b c

-- the form of a part that begins with a sign: `//`, `/*`, `==`, `<=`, or the byte alone
abbrev pub slash_form : List ℕ → Form
slash_form bs = if begins 47 bs then line_comment else if begins 42 bs then comment else single

abbrev pub sign_form : ℕ → List ℕ → Form
sign_form b bs = if nat_eq b 47 then slash_form bs else if (nat_eq b 61 || nat_eq b 60) && begins 61 bs then pair else single

-- the form of the part with which the bytes b ∷ bs begin
abbrev pub form_of : ℕ → List ℕ → Form
form_of b bs = if is_space b then space else if is_opening b then name else if is_digit b then number else sign_form b bs

abbrev pub token : ℕ → Word → Token
token place word = record { place = place; word = word }

-- The bytes x, which stand at a place of the text before the bytes y, are one part of it, with these tokens: white space and comments have none, every other part is a word.
pub data IsPart : Form → ℕ → List ℕ → List ℕ → List Token → Type 0 where
  is_space_part : {at b : ℕ} {y : List ℕ} → IsPart space at (b ∷ []) y []
  -- `//` to the line's end
  is_line_part : {at : ℕ} {x y : List ℕ} → list_all is_line_byte x ≡ true → Stops is_line_byte y → IsPart line_comment at (47 ∷ 47 ∷ x) y []
  -- `/*` to `*/`
  is_comment_part : {at : ℕ} {x y : List ℕ} → IsComment x → IsPart comment at (47 ∷ 42 ∷ x) y []
  -- a comment without end is a word that no line has
  is_open_part : {at : ℕ} {x : List ℕ} → NoComment x → IsPart comment at (47 ∷ 42 ∷ x) [] (token at (47 ∷ 42 ∷ x) ∷ [])
  -- the longest run of letters, digits, `_` and `$` that begins with no digit
  is_name_part : {at b : ℕ} {x y : List ℕ} → list_all is_name_byte x ≡ true → Stops is_name_byte y → IsPart name at (b ∷ x) y (token at (b ∷ x) ∷ [])
  -- from a digit the longest run of letters, digits, `_`, `$` and `'`
  is_number_part : {at b : ℕ} {x y : List ℕ} → list_all is_number_byte x ≡ true → Stops is_number_byte y → IsPart number at (b ∷ x) y (token at (b ∷ x) ∷ [])
  is_pair_part : {at b c : ℕ} {y : List ℕ} → IsPart pair at (b ∷ c ∷ []) y (token at (b ∷ c ∷ []) ∷ [])
  is_single_part : {at b : ℕ} {y : List ℕ} → IsPart single at (b ∷ []) y (token at (b ∷ []) ∷ [])

-- the bytes from a place of the text on have these tokens
pub data Spells : ℕ → List ℕ → List Token → Type 0 where
  spells_none : {at : ℕ} → Spells at [] []
  spells_more : {at b : ℕ} {x y : List ℕ} {us ts : List Token} → IsPart (form_of b (x ++ y)) at (b ∷ x) y us → Spells (at + length (b ∷ x)) y ts
      → Spells at (b ∷ (x ++ y)) (us ++ ts)

abbrev pub words_of : List Token → List Word
words_of tokens = map (λ (t : Token). t.word) tokens
