-- Behaviours with their names resolved: each local has a slot of its own, and each target a number.
use Rattle.std.specs.Prelude.{ℕ, false, List}
use Rattle.ix_bits.specs.declared.number.Ty.{Ty}
use Rattle.ix_bits.specs.declared.operator.BinOp.{BinOp}
use Rattle.ix_graph.specs.declared.kind.Kind.{Kind}
use Rattle.ix_bits.specs.NearTypes.{type_near}

abbrev pub u1 : Ty
u1 = type_near false 1

abbrev pub u32 : Ty
u32 = type_near false 32

-- Each expression has its type. `x_read` reads the core's state, `x_one` is an operator on one number or a range of bits, `x_entry` is an entry of a
-- table by the table's number and the patterns of its entries.
pub data Expression : Type 0 where
  x_const : Ty → ℕ → Expression
  x_slot : ℕ → Ty → Expression
  x_read : Kind → Ty → Expression
  x_load : Ty → Expression → Expression
  x_one : Kind → Ty → Expression → Expression
  x_cast : Ty → Expression → Expression
  x_entry : ℕ → List ℕ → Ty → Expression → Expression
  x_two : BinOp → Ty → Expression → Expression → Expression
  x_choose : Ty → Expression → Expression → Expression → Expression

abbrev pub type_of_expression : Expression → Ty
type_of_expression (x_const ty raw) = ty
type_of_expression (x_slot k ty) = ty
type_of_expression (x_read k ty) = ty
type_of_expression (x_load ty a) = ty
type_of_expression (x_one k ty a) = ty
type_of_expression (x_cast ty a) = ty
type_of_expression (x_entry n es ty a) = ty
type_of_expression (x_two op ty a b) = ty
type_of_expression (x_choose ty c a b) = ty

-- Targets are numbered: memory 0, rd 1, PC 2, custom register r 3 + r. A write has a value and an address, which only memory uses.
pub data Statement : Type 0 where
  st_skip : Statement
  st_then : Statement → Statement → Statement
  st_set : ℕ → Ty → Expression → Statement
  st_write : ℕ → Ty → Expression → Expression → Statement
  st_if : Expression → Statement → Statement → Statement
