-- Right sides whose operands are numbers of signals: inputs, then cells, then banks.
use Rattle.std.specs.Prelude.{ℕ, ◌+◌, ◌-◌, ◌*◌, ◌/◌, ◌%◌, ◌^◌, List, [], ◌∷◌, ◌==◌, nat_lt, if◌then◌else◌, bit_and, bit_or, bit_xor}
use Rattle.ix_net.specs.declared.netlist.Form.{Form}
use Rattle.ix_net.specs.declared.gates.Gate.{Gate}
use Rattle.ix_net.specs.declared.netlist.Form.TheVariants as form
use Rattle.ix_net.specs.declared.gates.Gate.TheVariants.{Hex, Copy, Add, Sub, Mul, And, Or, Xor, Not, Eq, Lt, LtSigned, Join, Range, Choose}
use Rattle.ix_net.specs.Forms.{bit_of, signed_lt}

-- a right side with numbers for names
abbrev pub gate_of : (place width : List ℕ → ℕ) → Form → Gate
gate_of place width (form.Hex d) = Hex d.raw
gate_of place width (form.Copy a) = Copy (place a)
gate_of place width (form.Add a b) = Add (place a) (place b)
gate_of place width (form.Sub a b) = Sub (place a) (place b)
gate_of place width (form.Mul a b) = Mul (place a) (place b)
gate_of place width (form.And a b) = And (place a) (place b)
gate_of place width (form.Or a b) = Or (place a) (place b)
gate_of place width (form.Xor a b) = Xor (place a) (place b)
gate_of place width (form.Not a) = Not (place a)
gate_of place width (form.Eq a b) = Eq (place a) (place b)
gate_of place width (form.Lt a b) = Lt (place a) (place b)
gate_of place width (form.LtSigned a b) = LtSigned (place a) (place b) (width a)
gate_of place width (form.Join a b) = Join (place a) (place b) (width b)
gate_of place width (form.Range a hi lo) = Range (place a) hi lo
gate_of place width (form.Choose c a b) = Choose (place c) (place a) (place b)

-- the numbers of the operands, from left to right
abbrev pub reads_of : Gate → List ℕ
reads_of (Hex d) = []
reads_of (Copy a) = a ∷ []
reads_of (Add a b) = a ∷ b ∷ []
reads_of (Sub a b) = a ∷ b ∷ []
reads_of (Mul a b) = a ∷ b ∷ []
reads_of (And a b) = a ∷ b ∷ []
reads_of (Or a b) = a ∷ b ∷ []
reads_of (Xor a b) = a ∷ b ∷ []
reads_of (Not a) = a ∷ []
reads_of (Eq a b) = a ∷ b ∷ []
reads_of (Lt a b) = a ∷ b ∷ []
reads_of (LtSigned a b v) = a ∷ b ∷ []
reads_of (Join a b v) = a ∷ b ∷ []
reads_of (Range a hi lo) = a ∷ []
reads_of (Choose c a b) = c ∷ a ∷ b ∷ []

-- the value of a right side with a target of width w, from the values of the signals
abbrev pub gate_result : (ℕ → ℕ) → ℕ → Gate → ℕ
gate_result value w (Hex d) = d
gate_result value w (Copy a) = value a
gate_result value w (Add a b) = (value a + value b) % 2 ^ w
gate_result value w (Sub a b) = (value a + (2 ^ w - value b)) % 2 ^ w
gate_result value w (Mul a b) = (value a * value b) % 2 ^ w
gate_result value w (And a b) = bit_and (value a) (value b)
gate_result value w (Or a b) = bit_or (value a) (value b)
gate_result value w (Xor a b) = bit_xor (value a) (value b)
gate_result value w (Not a) = 2 ^ w - 1 - value a
gate_result value w (Eq a b) = bit_of (value a == value b)
gate_result value w (Lt a b) = bit_of (nat_lt (value a) (value b))
gate_result value w (LtSigned a b v) = bit_of (signed_lt v (value a) (value b))
gate_result value w (Join a b v) = value a * 2 ^ v + value b
gate_result value w (Range a hi lo) = value a / 2 ^ lo % 2 ^ (hi - lo + 1)
gate_result value w (Choose c a b) = if value c == 0 then value b else value a
