-- Right sides of assignments (IEEE 1364-2005, 5.1, expressions). A pattern is its bits as an unsigned number.
use Rattle.std.specs.Prelude.{ℕ, ◌≡◌, ◌+◌, ◌-◌, ◌*◌, ◌/◌, ◌%◌, ◌^◌, ◌≤◌, ◌<◌, List, [], ◌∷◌, Option, Some, Bool, true, ◌==◌, nat_lt, if◌then◌else◌, bit_and, bit_or, bit_xor, int_lt}
use Rattle.ix_bits.specs.Types.{number_of}
use Rattle.ix_net.specs.declared.netlist.Form.{Form}
use Rattle.ix_net.specs.declared.netlist.Form.TheVariants.{Hex, Copy, Add, Sub, Mul, And, Or, Xor, Not, Eq, Lt, LtSigned, Join, Range, Choose}

-- the names on a right side, from left to right
abbrev pub operands : Form → List (List ℕ)
operands (Hex d) = []
operands (Copy a) = a ∷ []
operands (Add a b) = a ∷ b ∷ []
operands (Sub a b) = a ∷ b ∷ []
operands (Mul a b) = a ∷ b ∷ []
operands (And a b) = a ∷ b ∷ []
operands (Or a b) = a ∷ b ∷ []
operands (Xor a b) = a ∷ b ∷ []
operands (Not a) = a ∷ []
operands (Eq a b) = a ∷ b ∷ []
operands (Lt a b) = a ∷ b ∷ []
operands (LtSigned a b) = a ∷ b ∷ []
operands (Join a b) = a ∷ b ∷ []
operands (Range a hi lo) = a ∷ []
operands (Choose c a b) = c ∷ a ∷ b ∷ []

-- both have one width
abbrev pub ShareWidth : Option ℕ → Option ℕ → Type 0
ShareWidth a b = (v : ℕ) × (a ≡ Some v) × (b ≡ Some v)

-- the widths of the operands agree with the width of the target
abbrev pub Fits : (List ℕ → Option ℕ) → ℕ → Form → Type 0
Fits width w (Hex d) = d.width ≡ w
Fits width w (Copy a) = width a ≡ Some w
Fits width w (Add a b) = (width a ≡ Some w) × (width b ≡ Some w)
Fits width w (Sub a b) = (width a ≡ Some w) × (width b ≡ Some w)
Fits width w (Mul a b) = (width a ≡ Some w) × (width b ≡ Some w)
Fits width w (And a b) = (width a ≡ Some w) × (width b ≡ Some w)
Fits width w (Or a b) = (width a ≡ Some w) × (width b ≡ Some w)
Fits width w (Xor a b) = (width a ≡ Some w) × (width b ≡ Some w)
Fits width w (Not a) = width a ≡ Some w
Fits width w (Eq a b) = (w ≡ 1) × ShareWidth (width a) (width b)
Fits width w (Lt a b) = (w ≡ 1) × ShareWidth (width a) (width b)
Fits width w (LtSigned a b) = (w ≡ 1) × ShareWidth (width a) (width b)
Fits width w (Join a b) = (u v : ℕ) × (width a ≡ Some u) × (width b ≡ Some v) × (w ≡ u + v)
Fits width w (Range a hi lo) = (v : ℕ) × (width a ≡ Some v) × (lo ≤ hi) × (hi < v) × (w ≡ hi - lo + 1)
Fits width w (Choose c a b) = (width c ≡ Some 1) × (width a ≡ Some w) × (width b ≡ Some w)

-- 1 for true, 0 for false
abbrev pub bit_of : Bool → ℕ
bit_of b = if b then 1 else 0

-- whether a is below b, both read as two's complement numbers of a width
abbrev pub signed_lt : ℕ → ℕ → ℕ → Bool
signed_lt w a b = int_lt (number_of true w a) (number_of true w b)

-- the value of a right side with a target of width w, from the values and the widths of its operands
abbrev pub result_of : (value width : List ℕ → ℕ) → ℕ → Form → ℕ
result_of value width w (Hex d) = d.raw
result_of value width w (Copy a) = value a
result_of value width w (Add a b) = (value a + value b) % 2 ^ w
result_of value width w (Sub a b) = (value a + (2 ^ w - value b)) % 2 ^ w
result_of value width w (Mul a b) = (value a * value b) % 2 ^ w
result_of value width w (And a b) = bit_and (value a) (value b)
result_of value width w (Or a b) = bit_or (value a) (value b)
result_of value width w (Xor a b) = bit_xor (value a) (value b)
result_of value width w (Not a) = 2 ^ w - 1 - value a
result_of value width w (Eq a b) = bit_of (value a == value b)
result_of value width w (Lt a b) = bit_of (nat_lt (value a) (value b))
result_of value width w (LtSigned a b) = bit_of (signed_lt (width a) (value a) (value b))
result_of value width w (Join a b) = value a * 2 ^ width b + value b
result_of value width w (Range a hi lo) = value a / 2 ^ lo % 2 ^ (hi - lo + 1)
result_of value width w (Choose c a b) = if value c == 0 then value b else value a
