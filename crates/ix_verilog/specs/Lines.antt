-- The lines of a module, each with its words (IEEE 1364-2005, 12, modules; 4.2, nets and registers; 6.1, continuous assignments;
-- 9.2.2, assignments at the edge of a clock). That a text has no other lines is this project's choice.
use Rattle.std.specs.Prelude.{◌≡◌, ℕ, ◌-◌, ◌+◌, ◌/◌, ◌%◌, zero, suc, List, [], ◌∷◌, ◌++◌, Bool, true, nat_lt, ◌||◌, if◌then◌else◌, codes, decimal, Contains}
use Rattle.std.specs.List.{list_all}
use Rattle.ix_net.specs.declared.netlist.Port.{Port}
use Rattle.ix_net.specs.declared.netlist.Form.{Form}
use Rattle.ix_net.specs.declared.netlist.Form.TheVariants.{Hex, Copy, Add, Sub, Mul, And, Or, Xor, Not, Eq, Lt, LtSigned, Join, Range, Choose}
use Rattle.ix_verilog.specs.declared.right.Sign.{Sign}
use Rattle.ix_verilog.specs.declared.right.Sign.TheVariants as sign
use Rattle.ix_verilog.specs.declared.right.Sign.TheVariants.{Plus, Minus, Times, Equal, Less}
use Rattle.ix_verilog.specs.declared.right.RightSide.{RightSide}
use Rattle.ix_verilog.specs.declared.right.RightSide.TheVariants as side
use Rattle.ix_verilog.specs.declared.source.Assign.{Assign}
use Rattle.ix_verilog.specs.declared.source.Update.{Update}
use Rattle.ix_verilog.specs.Words.{Word, is_in, is_digit}

-- the word that a sign is
abbrev pub sign_word : Sign → Word
sign_word Plus = codes "+"
sign_word Minus = codes "-"
sign_word Times = codes "*"
sign_word sign.And = codes "&"
sign_word sign.Or = codes "|"
sign_word sign.Xor = codes "^"
sign_word Equal = codes "=="
sign_word Less = codes "<"

-- the words of a right side
abbrev pub right_words : RightSide → List Word
right_words (side.Literal w) = w ∷ []
right_words (side.Copy a) = a ∷ []
right_words (side.Both s a b) = a ∷ sign_word s ∷ b ∷ []
right_words (side.Turned a) = codes "~" ∷ a ∷ []
right_words (side.Signed a b) = codes "$signed" ∷ codes "(" ∷ a ∷ codes ")" ∷ codes "<" ∷ codes "$signed" ∷ codes "(" ∷ b ∷ codes ")" ∷ []
right_words (side.Joined a b) = codes "{" ∷ a ∷ codes "," ∷ b ∷ codes "}" ∷ []
right_words (side.Range a h l) = a ∷ codes "[" ∷ h ∷ codes ":" ∷ l ∷ codes "]" ∷ []
right_words (side.Choice c a b) = c ∷ codes "?" ∷ a ∷ codes ":" ∷ b ∷ []

pub data Line : Type 0 where
  -- `module name(clk`, `, port`, `); input clk;`
  head : Word → Line
  port : Word → Line
  heading : Line
  input : Port → Line
  output : Port → Line
  wire : Port → Line
  register : Port → Line
  assign : Assign → Line
  -- `always @(posedge clk) begin`, its lines and its `end`
  always : Line
  update : Update → Line
  done : Line
  -- `endmodule`
  finish : Line

-- `[w-1:0] name;` behind the word
abbrev pub port_words : Word → Port → List Word
port_words word p = word ∷ codes "[" ∷ decimal (p.width - 1) ∷ codes ":" ∷ codes "0" ∷ codes "]" ∷ p.name ∷ codes ";" ∷ []

abbrev pub line_words : Line → List Word
line_words (head n) = codes "module" ∷ n ∷ codes "(" ∷ codes "clk" ∷ []
line_words (port n) = codes "," ∷ n ∷ []
line_words heading = codes ")" ∷ codes ";" ∷ codes "input" ∷ codes "clk" ∷ codes ";" ∷ []
line_words (input p) = port_words (codes "input") p
line_words (output p) = port_words (codes "output") p
line_words (wire p) = port_words (codes "wire") p
line_words (register p) = port_words (codes "reg") p
line_words (assign a) = codes "assign" ∷ a.target ∷ codes "=" ∷ (right_words a.right ++ codes ";" ∷ [])
line_words always = codes "always" ∷ codes "@" ∷ codes "(" ∷ codes "posedge" ∷ codes "clk" ∷ codes ")" ∷ codes "begin" ∷ []
line_words (update u) = codes "if" ∷ codes "(" ∷ u.enable ∷ codes ")" ∷ u.target ∷ codes "<=" ∷ u.source ∷ codes ";" ∷ []
line_words done = codes "end" ∷ []
line_words finish = codes "endmodule" ∷ []

-- ---- numbers in hexadecimal digits (IEEE 1364-2005, 3.5.1)
abbrev pub hex_digit : ℕ → ℕ
hex_digit x = if nat_lt x 10 then 48 + x else 87 + x

-- the digits of a number that has at most so many, without leading zeros
unfoldable pub hex_upto : ℕ → ℕ → Word
hex_upto zero x = []
hex_upto (suc n) x = if nat_lt x 16 then hex_digit x ∷ [] else hex_upto n (x / 16) ++ hex_digit (x % 16) ∷ []

-- of a number below 2^128
abbrev pub hex : ℕ → Word
hex x = hex_upto 32 x

-- ---- right sides
-- the right side that is written for an operation
abbrev pub right_of : Form → RightSide
right_of (Hex d) = side.Literal (decimal d.width ++ (codes "'h" ++ hex d.raw))
right_of (Copy a) = side.Copy a
right_of (Add a b) = side.Both Plus a b
right_of (Sub a b) = side.Both Minus a b
right_of (Mul a b) = side.Both Times a b
right_of (And a b) = side.Both sign.And a b
right_of (Or a b) = side.Both sign.Or a b
right_of (Xor a b) = side.Both sign.Xor a b
right_of (Not a) = side.Turned a
right_of (Eq a b) = side.Both Equal a b
right_of (Lt a b) = side.Both Less a b
right_of (LtSigned a b) = side.Signed a b
right_of (Join a b) = side.Joined a b
right_of (Range a hi lo) = side.Range a (decimal hi) (decimal lo)
right_of (Choose c a b) = side.Choice c a b

-- its words
abbrev pub form_words : Form → List Word
form_words form = right_words (right_of form)

-- a hexadecimal digit in lower case
abbrev pub is_hex_digit : ℕ → Bool
is_hex_digit b = is_in 48 57 b || is_in 97 102 b

-- `0`, or digits that do not begin with 0
abbrev pub AreDigits : (ℕ → Bool) → Word → Type 0
AreDigits p [] = ⊥
AreDigits p (b ∷ bs) = (p b ≡ true) × (list_all p bs ≡ true) × (b ≡ 48 → bs ≡ [])

-- decimal digits
abbrev pub IsNumber : Word → Type 0
IsNumber word = AreDigits is_digit word

-- a width, `'h` and digits
pub record IsLiteral (word : Word) : Type 0 where
  pub width : Word
  pub digits : Word
  pub wide : IsNumber width
  pub are : AreDigits is_hex_digit digits
  pub is : word ≡ width ++ (codes "'h" ++ digits)

abbrev pub operators : List Word
operators = codes "+" ∷ codes "-" ∷ codes "*" ∷ codes "&" ∷ codes "|" ∷ codes "^" ∷ codes "==" ∷ codes "<" ∷ []

-- the right side is over such names, whatever its numbers are
abbrev pub IsRight : (Word → Type 0) → RightSide → Type 0
IsRight N (side.Literal w) = IsLiteral w
IsRight N (side.Copy a) = N a
IsRight N (side.Both s a b) = N a × N b
IsRight N (side.Turned a) = N a
IsRight N (side.Signed a b) = N a × N b
IsRight N (side.Joined a b) = N a × N b
IsRight N (side.Range a h l) = N a × IsNumber h × IsNumber l
IsRight N (side.Choice c a b) = N c × N a × N b
