-- What the operands of an operation's cells show (CoreDSL 2, expressions). A signal shows a pattern.
use Rattle.std.specs.Prelude.{ℕ, ℤ, if◌then◌else◌}
use Rattle.ix_bits.specs.declared.operator.BinOp.{BinOp}
use Rattle.ix_bits.specs.declared.number.Ty.{Ty}
use Rattle.ix_bits.specs.Operators.{pattern_of, value_of, binary_number, is_true}
use Rattle.ix_graph.specs.declared.kind.Kind.{Kind}
use Rattle.ix_mean.specs.Meaning.{one_number}
use Rattle.ix_cells.specs.declared.signal.Signal.{Signal}
use Rattle.ix_cells.specs.declared.signal.Wire.{Wire}
use Rattle.ix_cells.specs.declared.operand.Operand.{Operand}

-- an operand's signal with the width of its type
abbrev pub wire_of : Operand → Wire
wire_of o = record { signal = o.signal; width = o.ty.width }

-- the number that an operand's signal shows
abbrev pub shown : Operand → (Signal → ℕ) → ℤ
shown o see = value_of o.ty (see o.signal)

-- the pattern of `a op b` in a width
abbrev pub two_shown : BinOp → Operand → Operand → ℕ → (Signal → ℕ) → ℕ
two_shown op a b width see = pattern_of width (binary_number op a.ty (shown a see) b.ty (shown b see))

-- the pattern of an operator on one number, of a cast or of a range of bits, in the result's type
abbrev pub one_shown : Kind → Operand → Ty → (Signal → ℕ) → ℕ
one_shown kind a ty see = pattern_of ty.width (one_number kind a.ty ty (shown a see))

-- the pattern of the one number where the condition is not 0, else of the other
abbrev pub choice_shown : Operand → Operand → Operand → ℕ → (Signal → ℕ) → ℕ
choice_shown c a b width see = pattern_of width (if is_true (shown c see) then shown a see else shown b see)
