-- Each kind of line as the words that may stand at its places, one behind the other.
use Rattle.std.specs.Prelude.{◌≡◌, ◌≢◌, ℕ, ◌-◌, List, [], ◌∷◌, ◌⊎◌, codes, decimal, Contains, Option, Some, None}
use Rattle.ix_net.specs.Valid.{IsWidth}
use Rattle.ix_verilog.specs.declared.source.Source.{Source}
use Rattle.ix_verilog.specs.declared.source.Stage.TheVariants.{Ports, Lines, Clocked, Ended}
use Rattle.ix_verilog.specs.Words.{Word}
use Rattle.ix_verilog.specs.Lines.{IsNumber, IsLiteral, operators}
use Rattle.ix_verilog.specs.Subset.{IsNext, HasPorts, IsShortName, IsTarget, IsOperand, IsRegister, IsDriven}
use Rattle.ix_vline.specs.declared.kind.Kind.{Kind}
use Rattle.ix_vline.specs.declared.kind.Kind.TheVariants.{Head, Port, Heading, Input, Output, Wire, Register, Assign, Always, Update, Done, Finish}
use Rattle.ix_vline.specs.declared.kind.Right.{Right}
use Rattle.ix_vline.specs.declared.kind.Right.TheVariants as right
use Rattle.ix_vline.specs.declared.kind.Slot.{Slot}
use Rattle.ix_vline.specs.declared.kind.Slot.TheVariants as slot

-- ---- where a line may begin
abbrev pub HasNext : Source → Type 0
HasNext s = (n : Word) × IsNext s n

abbrev pub HasTarget : Source → Type 0
HasTarget s = (n : Word) × IsTarget s n

abbrev pub HasRegister : Source → Type 0
HasRegister s = (n : Word) × IsRegister s n

abbrev pub first_word : Kind → Word
first_word Head = codes "module"
first_word Port = codes ","
first_word Heading = codes ")"
first_word Input = codes "input"
first_word Output = codes "output"
first_word Wire = codes "wire"
first_word Register = codes "reg"
first_word (Assign r) = codes "assign"
first_word Always = codes "always"
first_word Update = codes "if"
first_word Done = codes "end"
first_word Finish = codes "endmodule"

-- some line of the kind may stand behind those that made the module what it is
abbrev pub MayStartIn : Source → Kind → Type 0
MayStartIn s Head = ⊥
MayStartIn s Port = s.stage ≡ Ports
MayStartIn s Heading = s.stage ≡ Ports
MayStartIn s Input = (s.stage ≡ Lines) × HasNext s × (s.outputs ≡ [])
MayStartIn s Output = (s.stage ≡ Lines) × HasNext s
MayStartIn s Wire = (s.stage ≡ Lines) × HasPorts s × (s.registers ≡ []) × (s.assigns ≡ [])
MayStartIn s Register = (s.stage ≡ Lines) × HasPorts s × (s.assigns ≡ [])
MayStartIn s (Assign r) = (s.stage ≡ Lines) × HasPorts s × HasTarget s
MayStartIn s Always = (s.stage ≡ Lines) × HasPorts s × (s.registers ≢ [])
MayStartIn s Update = (s.stage ≡ Clocked) × HasRegister s
MayStartIn s Done = s.stage ≡ Clocked
MayStartIn s Finish = ((s.stage ≡ Lines) × HasPorts s × IsDriven s) ⊎ ((s.stage ≡ Ended) × IsDriven s)

-- between modules there is no source
abbrev pub MayStart : Option Source → Kind → Type 0
MayStart None Head = Unit {0}
MayStart None k = ⊥
MayStart (Some s) k = MayStartIn s k

-- ---- words
-- it holds of the module that is open
abbrev pub Inside : Option Source → (Source → Type 0) → Type 0
Inside None P = ⊥
Inside (Some s) P = P s

-- the word is the number of the highest bit of a width
abbrev pub IsHighest : Word → Type 0
IsHighest w = (width : ℕ) × IsWidth width × (w ≡ decimal (width - 1))

abbrev pub Takes : Option Source → Slot → Word → Type 0
Takes o (slot.First k) w = (w ≡ first_word k) × MayStart o k
Takes o (slot.Byte b) w = w ≡ b ∷ []
Takes o slot.Clk w = w ≡ codes "clk"
Takes o slot.Input w = w ≡ codes "input"
Takes o slot.Posedge w = w ≡ codes "posedge"
Takes o slot.Begin w = w ≡ codes "begin"
Takes o slot.Arrow w = w ≡ codes "<="
Takes o slot.Signed w = w ≡ codes "$signed"
Takes o slot.Fresh w = IsShortName w
Takes o slot.Next w = Inside o (λ s. IsNext s w)
Takes o slot.Target w = Inside o (λ s. IsTarget s w)
Takes o slot.Operand w = Inside o (λ s. IsOperand s w)
Takes o slot.Register w = Inside o (λ s. IsRegister s w)
Takes o slot.Highest w = IsHighest w
Takes o slot.Literal w = IsLiteral w
Takes o slot.Number w = IsNumber w
Takes o slot.Operator w = Contains operators w

-- ---- lines

-- `[w-1:0] name;` behind a word
abbrev pub declaring : Kind → Slot → List Slot
declaring k name = slot.First k ∷ slot.Byte 91 ∷ slot.Highest ∷ slot.Byte 58 ∷ slot.Byte 48 ∷ slot.Byte 93 ∷ name ∷ slot.Byte 59 ∷ []

-- a right side and the end of the line
abbrev pub right_slots : Right → List Slot
right_slots right.Literal = slot.Literal ∷ slot.Byte 59 ∷ []
right_slots right.Copy = slot.Operand ∷ slot.Byte 59 ∷ []
right_slots right.Both = slot.Operand ∷ slot.Operator ∷ slot.Operand ∷ slot.Byte 59 ∷ []
right_slots right.Turned = slot.Byte 126 ∷ slot.Operand ∷ slot.Byte 59 ∷ []
right_slots right.Signed =
    slot.Signed ∷ slot.Byte 40 ∷ slot.Operand ∷ slot.Byte 41 ∷ slot.Byte 60 ∷ slot.Signed ∷ slot.Byte 40 ∷ slot.Operand ∷ slot.Byte 41 ∷ slot.Byte 59 ∷ []
right_slots right.Joined = slot.Byte 123 ∷ slot.Operand ∷ slot.Byte 44 ∷ slot.Operand ∷ slot.Byte 125 ∷ slot.Byte 59 ∷ []
right_slots right.Range = slot.Operand ∷ slot.Byte 91 ∷ slot.Number ∷ slot.Byte 58 ∷ slot.Number ∷ slot.Byte 93 ∷ slot.Byte 59 ∷ []
right_slots right.Choice = slot.Operand ∷ slot.Byte 63 ∷ slot.Operand ∷ slot.Byte 58 ∷ slot.Operand ∷ slot.Byte 59 ∷ []

abbrev pub slots : Kind → List Slot
slots Head = slot.First Head ∷ slot.Fresh ∷ slot.Byte 40 ∷ slot.Clk ∷ []
slots Port = slot.First Port ∷ slot.Fresh ∷ []
slots Heading = slot.First Heading ∷ slot.Byte 59 ∷ slot.Input ∷ slot.Clk ∷ slot.Byte 59 ∷ []
slots Input = declaring Input slot.Next
slots Output = declaring Output slot.Next
slots Wire = declaring Wire slot.Fresh
slots Register = declaring Register slot.Fresh
slots (Assign r) = slot.First (Assign r) ∷ slot.Target ∷ slot.Byte 61 ∷ right_slots r
slots Always = slot.First Always ∷ slot.Byte 64 ∷ slot.Byte 40 ∷ slot.Posedge ∷ slot.Clk ∷ slot.Byte 41 ∷ slot.Begin ∷ []
slots Update = slot.First Update ∷ slot.Byte 40 ∷ slot.Operand ∷ slot.Byte 41 ∷ slot.Register ∷ slot.Arrow ∷ slot.Operand ∷ slot.Byte 59 ∷ []
slots Done = slot.First Done ∷ []
slots Finish = slot.First Finish ∷ []
