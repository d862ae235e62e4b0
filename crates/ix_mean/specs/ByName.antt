-- What an expression comes to, by the names in it (CoreDSL 2, expressions; fields by the instruction's encoding; that each expression has its type is this project's choice).
use Rattle.std.specs.Prelude.{ℕ, suc, ◌+◌, ◌-◌, ◌*◌, ◌%◌, ◌^◌, ℤ, pos, unsigned_abs, List, [], ◌∷◌, Option, Some, None, Bool, nat_eq, if◌then◌else◌}
use Rattle.ix_bits.specs.declared.number.Ty.{Ty}
use Rattle.ix_bits.specs.Operators.{pattern_of, value_of, fit, is_true, binary_number, unary_number, bits_between}
use Rattle.ix_tree.specs.declared.extension.Piece.{Piece}
use Rattle.ix_tree.specs.declared.extension.Register.{Register}
use Rattle.ix_tree.specs.declared.extension.Table.{Table}
use Rattle.ix_tree.specs.Lexing.{same_bytes}
use Rattle.ix_tree.specs.TypedTrees.{TypedExprTree, t_literal, t_name, t_pc, t_x, t_mem, t_index, t_range, t_unary, t_cast, t_binary, t_choose, type_of}
use Rattle.ix_mean.specs.Meaning.{Inputs, loaded, entry_number}
use Rattle.ix_mean.specs.View.{raw_of}
use Rattle.std.specs.Prelude.{map}

-- ---- names
-- what the names of a behaviour stand for besides its locals: the pieces of its instruction's fields, the custom registers, the tables
pub record Names : Type 0 where
  pub pieces : List Piece
  pub registers : List Register
  pub tables : List Table

-- a local with its type and its number
pub record Local : Type 0 where
  pub name : List ℕ
  pub ty : Ty
  pub number : ℤ

-- the visible locals, the newest first: the first of the name counts
abbrev pub local_in : List Local → List ℕ → Option Local
local_in [] n = None
local_in (l ∷ ls) n = if same_bytes l.name n then Some l else local_in ls n

-- a custom register by its number
pub record Numbered : Type 0 where
  pub number : ℕ
  pub ty : Ty

-- the custom register with a name, where the first has the number r
abbrev pub register_in : ℕ → List Register → List ℕ → Option Numbered
register_in r [] n = None
register_in r (x ∷ xs) n = if same_bytes x.name n then Some (record { number = r; ty = x.ty }) else register_in (suc r) xs n

-- the patterns of the table with a name, and its number, where the first has the number t
pub record Entries : Type 0 where
  pub number : ℕ
  pub patterns : List ℕ

abbrev pub table_in : ℕ → List Table → List ℕ → Option Entries
table_in t [] n = None
table_in t (x ∷ xs) n = if same_bytes x.name n then Some (record { number = t; patterns = map raw_of x.entries }) else table_in (suc t) xs n

-- ---- fields: each piece gives the bits hi down to lo from the word, other bits are 0
abbrev pub piece_number : ℕ → Piece → ℕ
piece_number word p = bits_between word (p.at + (p.hi - p.lo)) p.at * 2 ^ p.lo

abbrev pub field_number : ℕ → List Piece → List ℕ → ℕ
field_number word [] n = 0
field_number word (p ∷ ps) n = if same_bytes p.field n then piece_number word p + field_number word ps n else field_number word ps n

-- a piece of the field stands with its bit 0 at place 15 of the word
abbrev pub stands_at_15 : List Piece → List ℕ → Bool
stands_at_15 [] n = nat_eq 0 1
stands_at_15 (p ∷ ps) n = if same_bytes p.field n then nat_eq p.at (15 + p.lo) else stands_at_15 ps n

-- `X[f]`: a field in bits 19 to 15 names the first operand, one in bits 24 to 20 the second
abbrev pub operand : Inputs → List Piece → List ℕ → ℕ
operand i ps n = if stands_at_15 ps n then i.rs1 else i.rs2

-- ---- expressions
-- a register's number is that of its pattern in its type
abbrev pub register_number : Inputs → Numbered → ℤ
register_number i r = value_of r.ty (i.custom r.number)

abbrev pub register_or_field : Names → Inputs → List ℕ → Option Numbered → ℤ
register_or_field ns i n (Some r) = register_number i r
register_or_field ns i n None = pos (field_number i.word ns.pieces n)

abbrev pub name_number : Names → Inputs → List ℕ → Option Local → ℤ
name_number ns i n (Some l) = l.number
name_number ns i n None = register_or_field ns i n (register_in 0 ns.registers n)

-- bits h down to l of the pattern of a number of type a
abbrev pub bits_number : Ty → ℤ → ℤ → ℤ → ℤ
bits_number a z h l = pos (bits_between (pattern_of a.width z) (unsigned_abs h) (unsigned_abs l))

-- an entry of a table, or a bit of what else has the name
abbrev pub entry_or_bit : Option Entries → Ty → Ty → ℤ → ℤ → ℤ
entry_or_bit (Some t) ty a base at = entry_number t.patterns ty at
entry_or_bit None ty a base at = bits_number a base at at

abbrev pub index_number : Names → Inputs → Ty → TypedExprTree → ℤ → TypedExprTree → ℤ → ℤ
index_number ns i ty (t_x s u) base (t_name s' u' f) at = pos (operand i ns.pieces f)
index_number ns i ty (t_mem s u) base index at = loaded i.memory ty at
index_number ns i ty (t_name s u n) base index at = entry_or_bit (table_in 0 ns.tables n) ty u base at
index_number ns i ty x base index at = bits_number (type_of x) base at at

-- `MEM[a+n:a]` is read from a on
abbrev pub range_number : Inputs → Ty → TypedExprTree → ℤ → ℤ → ℤ → ℤ
range_number i ty (t_mem s u) base h l = loaded i.memory ty l
range_number i ty x base h l = bits_number (type_of x) base h l

-- the number of an expression, where the locals have these numbers; a literal's is that of its pattern in its type
abbrev pub number_by_name : Names → Inputs → List Local → TypedExprTree → ℤ
number_by_name ns i ls (t_literal s ty lt b) = value_of ty (b.raw % 2 ^ ty.width)
number_by_name ns i ls (t_name s ty n) = name_number ns i n (local_in ls n)
number_by_name ns i ls (t_pc s ty) = pos i.pc
number_by_name ns i ls (t_x s ty) = pos 0
number_by_name ns i ls (t_mem s ty) = pos 0
number_by_name ns i ls (t_index s ty x y) = index_number ns i ty x (number_by_name ns i ls x) y (number_by_name ns i ls y)
number_by_name ns i ls (t_range s ty x y z) = range_number i ty x (number_by_name ns i ls x) (number_by_name ns i ls y) (number_by_name ns i ls z)
number_by_name ns i ls (t_unary s ty op x) = unary_number op (type_of x) (number_by_name ns i ls x)
number_by_name ns i ls (t_cast s ty to x) = fit ty (number_by_name ns i ls x)
number_by_name ns i ls (t_binary s ty op x y) = binary_number op (type_of x) (number_by_name ns i ls x) (type_of y) (number_by_name ns i ls y)
number_by_name ns i ls (t_choose s ty c x y) = if is_true (number_by_name ns i ls c) then number_by_name ns i ls x else number_by_name ns i ls y
