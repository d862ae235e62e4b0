-- What an index of each sort makes.
use Rattle.std.specs.Prelude.{List}
use Rattle.ix_bits.specs.declared.number.Ty.{Ty}
use Rattle.ix_bits.specs.declared.number.Bits.{Bits}
use Rattle.ix_tree.specs.TypedTrees.{TypedExprTree}
use Rattle.ix_mean.specs.Core.{u32, Expression, x_read, x_load, x_entry}
use Rattle.ix_mean.specs.View.{patterns_of}
use Rattle.ix_slots.specs.declared.expression.Element.{Element}
use Rattle.ix_slots.specs.declared.expression.Element.TheVariants as E
use Rattle.ix_slots.specs.Made.{made_bits}

abbrev pub made_element : List (List Bits) → Element → Ty → Expression → TypedExprTree → Expression → Expression
made_element ts (E.Operand kind) ty base y at = x_read kind u32
made_element ts E.Loaded ty base y at = x_load ty at
made_element ts (E.Entry n) ty base y at = x_entry n (patterns_of ts n) ty at
made_element ts E.Bit ty base y at = made_bits ty base y y
