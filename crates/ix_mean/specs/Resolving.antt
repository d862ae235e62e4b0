-- Expressions with their names resolved: a local is its slot, a register its number, a field the concatenation of its pieces (this project's choice of the order of pieces).
use Rattle.std.specs.Prelude.{◌≡◌, ◌≢◌, ℕ, zero, suc, ◌+◌, ◌-◌, ◌^◌, ◌≤◌, ◌<◌, ◌%◌, ℤ, pos, int_le, get_or, unsigned_abs, List, [], ◌∷◌, map, Option, Some, None, true, false, if◌then◌else◌, nat_lt}
use Rattle.ix_bits.specs.declared.number.Ty.{Ty}
use Rattle.ix_bits.specs.declared.operator.BinOp.TheVariants.{Concat}
use Rattle.ix_bits.specs.declared.operator.UnOp.{UnOp}
use Rattle.ix_bits.specs.declared.operator.UnOp.TheVariants as U
use Rattle.ix_bits.specs.NearTypes.{type_near}
use Rattle.ix_bits.specs.ResultTypes.{binary_signed, binary_width}
use Rattle.ix_graph.specs.declared.kind.Kind.{Kind}
use Rattle.ix_graph.specs.declared.kind.Kind.TheVariants as k
use Rattle.ix_tree.specs.declared.extension.Piece.{Piece}
use Rattle.ix_tree.specs.Lexing.{same_bytes}
use Rattle.ix_tree.specs.LoopHeads.{Valued, head_value}
use Rattle.ix_tree.specs.TypedTrees.{TypedExprTree, t_literal, t_name, t_pc, t_x, t_mem, t_index, t_range, t_unary, t_cast, t_binary, t_choose, erased}
use Rattle.ix_mean.specs.Core.{u1, u32, Expression, x_const, x_slot, x_read, x_load, x_one, x_cast, x_entry, x_two, x_choose, type_of_expression}
use Rattle.ix_mean.specs.Meaning.{Inputs, number}
use Rattle.ix_mean.specs.Typing.{is_constant}
use Rattle.ix_mean.specs.ByName.{Names, Local, Numbered, register_in, Entries, table_in, stands_at_15, number_by_name}

-- a visible local with its type and its slot
pub record Slot : Type 0 where
  pub name : List ℕ
  pub ty : Ty
  pub slot : ℕ

abbrev pub slot_in : List Slot → List ℕ → Option Slot
slot_in [] n = None
slot_in (l ∷ ls) n = if same_bytes l.name n then Some l else slot_in ls n

-- ---- fields: from the highest bit down, the bits that the pieces give, and zeros for bits that none gives
abbrev pub word_part : Piece → Expression
word_part p = x_one (k.Range (p.at + (p.hi - p.lo)) p.at) (type_near false (p.hi - p.lo + 1)) (x_read k.RdInstr u32)

-- an expression in front of another, if there is one in front
abbrev pub behind : Option Expression → Expression → Option Expression
behind None e = Some e
behind (Some d) e = Some (x_two Concat (type_near (binary_signed Concat (type_of_expression d) (type_of_expression e)) (binary_width Concat (type_of_expression d) (type_of_expression e))) d e)

-- zeros for n bits
abbrev pub with_zeros : Option Expression → ℕ → Option Expression
with_zeros d zero = d
with_zeros d (suc n) = behind d (x_const (type_near false (suc n)) 0)

-- the pieces are those of one field, the highest first; bits below `below` are left
abbrev pub field_from : Option Expression → ℕ → List Piece → Option Expression
field_from d below [] = with_zeros d below
field_from d below (p ∷ ps) = field_from (behind (with_zeros d (below - (p.hi + 1))) (word_part p)) p.lo ps

abbrev pub pieces_of : List Piece → List ℕ → List Piece
pieces_of [] n = []
pieces_of (p ∷ ps) n = if same_bytes p.field n then p ∷ pieces_of ps n else pieces_of ps n

-- a piece put among pieces that are ordered from the highest down
abbrev pub insert : Piece → List Piece → List Piece
insert p [] = p ∷ []
insert p (q ∷ qs) = if nat_lt q.hi p.hi then p ∷ q ∷ qs else q ∷ insert p qs

abbrev pub ordered : List Piece → List Piece
ordered [] = []
ordered (p ∷ ps) = insert p (ordered ps)

-- one more than the highest bit
abbrev pub top_of : List Piece → ℕ
top_of [] = 0
top_of (p ∷ ps) = p.hi + 1

abbrev pub some_or : Option Expression → Expression → Expression
some_or None e = e
some_or (Some d) e = d

abbrev pub field_expression : List Piece → List ℕ → Expression
field_expression ps n = let qs = ordered (pieces_of ps n) in some_or (field_from None (top_of qs) qs) (x_const u1 0)

-- ---- names
abbrev pub operand_expression : List Piece → List ℕ → Expression
operand_expression ps n = if stands_at_15 ps n then x_read k.RdRS1 u32 else x_read k.RdRS2 u32

abbrev pub register_read : Numbered → Expression
register_read r = x_read (k.RdCustReg r.number) r.ty

abbrev pub resolved_other : Names → List ℕ → Option Numbered → Expression
resolved_other ns n (Some r) = register_read r
resolved_other ns n None = field_expression ns.pieces n

abbrev pub resolved_name : Names → List ℕ → Option Slot → Expression
resolved_name ns n (Some l) = x_slot l.slot l.ty
resolved_name ns n None = resolved_other ns n (register_in 0 ns.registers n)

-- ---- expressions
abbrev pub unary_kind : UnOp → Kind
unary_kind U.Neg = k.Neg
unary_kind U.Not = k.Not
unary_kind U.Lnot = k.Lnot

abbrev pub no_inputs : Inputs
no_inputs = record { word = 0; rs1 = 0; rs2 = 0; pc = 0; custom = λ r. 0; memory = λ a n. 0 }

-- the number of an expression of literals
abbrev pub constant : Expression → ℕ
constant e = unsigned_abs (number no_inputs [] e)

abbrev pub bits : Ty → Expression → Expression → Expression → Expression
bits ty base h l = x_one (k.Range (constant h) (constant l)) ty base

abbrev pub resolved_entry : Option Entries → Ty → Expression → Expression → Expression
resolved_entry (Some t) ty base at = x_entry t.number t.patterns ty at
resolved_entry None ty base at = bits ty base at at

abbrev pub resolved_index : Names → Ty → TypedExprTree → Expression → TypedExprTree → Expression → Expression
resolved_index ns ty (t_x s u) base (t_name s' u' f) at = operand_expression ns.pieces f
resolved_index ns ty (t_mem s u) base index at = x_load ty at
resolved_index ns ty (t_name s u n) base index at = resolved_entry (table_in 0 ns.tables n) ty base at
resolved_index ns ty x base index at = bits ty base at at

abbrev pub resolved_range : Ty → TypedExprTree → Expression → Expression → Expression → Expression
resolved_range ty (t_mem s u) base h l = x_load ty l
resolved_range ty x base h l = bits ty base h l

-- a literal is the number that its pattern has in its type
abbrev pub resolved : Names → List Slot → TypedExprTree → Expression
resolved ns ls (t_literal s ty lt b) = x_const ty (b.raw % 2 ^ ty.width)
resolved ns ls (t_name s ty n) = resolved_name ns n (slot_in ls n)
resolved ns ls (t_pc s ty) = x_read k.RdPC u32
resolved ns ls (t_x s ty) = x_const ty 0
resolved ns ls (t_mem s ty) = x_const ty 0
resolved ns ls (t_index s ty x y) = resolved_index ns ty x (resolved ns ls x) y (resolved ns ls y)
resolved ns ls (t_range s ty x y z) = resolved_range ty x (resolved ns ls x) (resolved ns ls y) (resolved ns ls z)
resolved ns ls (t_unary s ty op x) = x_one (unary_kind op) ty (resolved ns ls x)
resolved ns ls (t_cast s ty to x) = x_cast ty (resolved ns ls x)
resolved ns ls (t_binary s ty op x y) = x_two op ty (resolved ns ls x) (resolved ns ls y)
resolved ns ls (t_choose s ty c x y) = x_choose ty (resolved ns ls c) (resolved ns ls x) (resolved ns ls y)

-- ---- which trees have their names resolved so
-- the pieces from the highest down: each below the one before, and in the word
abbrev pub AreOrdered : ℕ → List Piece → Type 0
AreOrdered below [] = Unit {0}
AreOrdered below (p ∷ ps) = (p.hi < below) × (p.lo ≤ p.hi) × AreOrdered p.lo ps

-- a field has a piece, no bit of it is given twice, and it has at most 32 bits
pub record IsField (ps : List Piece) (n : List ℕ) : Type 0 where
  pub some : pieces_of ps n ≢ []
  pub once : AreOrdered (top_of (ordered (pieces_of ps n))) (ordered (pieces_of ps n))
  pub most : top_of (ordered (pieces_of ps n)) ≤ 32

-- a field has the type of its highest bit
pub record IsFieldOf (ps : List Piece) (n : List ℕ) (ty : Ty) : Type 0 where
  pub field : IsField ps n
  pub typed : ty ≡ type_near false (top_of (ordered (pieces_of ps n)))

abbrev pub IsOther : Names → Ty → List ℕ → Option Numbered → Type 0
IsOther ns ty n (Some r) = ty ≡ r.ty
IsOther ns ty n None = IsFieldOf ns.pieces n ty

-- a name has the type with which it is declared
abbrev pub IsName : Names → Ty → List ℕ → Option Slot → Type 0
IsName ns ty n (Some l) = ty ≡ l.ty
IsName ns ty n None = IsOther ns ty n (register_in 0 ns.registers n)

-- a place of bits is of literals alone: its number is the value of its tree, and not below 0
pub record IsPlace (y : TypedExprTree) (at : Expression) : Type 0 where
  pub constant : is_constant at ≡ true
  pub value : Valued
  pub is : head_value (erased y) [] ≡ Some value
  pub same : number no_inputs [] at ≡ value.number
  pub least : int_le (pos 0) value.number ≡ true

abbrev pub IsEntryOrBit : Option Entries → Type 0 → TypedExprTree → Expression → Type 0
IsEntryOrBit (Some t) P y at = Unit {0}
IsEntryOrBit None P y at = P × IsPlace y at

-- what stands below an index, with its own names, and the index of bits, which is of literals alone
abbrev pub IsIndex : Names → Ty → TypedExprTree → Type 0 → TypedExprTree → Type 0 → Expression → Type 0
IsIndex ns ty (t_x s u) P (t_name s' u' f) Q at = ty ≡ u32
IsIndex ns ty (t_mem s u) P index Q at = Q
IsIndex ns ty (t_name s u n) P index Q at = Q × IsEntryOrBit (table_in 0 ns.tables n) P index at
IsIndex ns ty x P index Q at = P × Q × IsPlace index at

abbrev pub IsRange : TypedExprTree → Type 0 → TypedExprTree → Type 0 → TypedExprTree → Type 0 → Expression → Expression → Type 0
IsRange (t_mem s u) P y H z L h l = L
IsRange x P y H z L h l = P × H × L × IsPlace y h × IsPlace z l

abbrev pub IsResolved : Names → List Slot → TypedExprTree → Type 0
IsResolved ns ls (t_literal s ty lt b) = Unit {0}
IsResolved ns ls (t_name s ty n) = IsName ns ty n (slot_in ls n)
IsResolved ns ls (t_pc s ty) = ty ≡ u32
IsResolved ns ls (t_x s ty) = Unit {0}
IsResolved ns ls (t_mem s ty) = Unit {0}
IsResolved ns ls (t_index s ty x y) = IsIndex ns ty x (IsResolved ns ls x) y (IsResolved ns ls y) (resolved ns ls y)
IsResolved ns ls (t_range s ty x y z) = IsRange x (IsResolved ns ls x) y (IsResolved ns ls y) z (IsResolved ns ls z) (resolved ns ls y) (resolved ns ls z)
IsResolved ns ls (t_unary s ty op x) = IsResolved ns ls x
IsResolved ns ls (t_cast s ty to x) = IsResolved ns ls x
IsResolved ns ls (t_binary s ty op x y) = IsResolved ns ls x × IsResolved ns ls y
IsResolved ns ls (t_choose s ty c x y) = IsResolved ns ls c × IsResolved ns ls x × IsResolved ns ls y

-- the numbers of the visible locals, by their slots
abbrev pub local_at : List ℤ → Slot → Local
local_at s l = record { name = l.name; ty = l.ty; number = get_or s l.slot (pos 0) }

-- resolving the names of an expression keeps its number
abbrev pub ResolvingLaw : Type 0
ResolvingLaw = (ns : Names) (ls : List Slot) (i : Inputs) (s : List ℤ) (e : TypedExprTree) → i.word < 2 ^ 32 → IsResolved ns ls e
    → number i s (resolved ns ls e) ≡ number_by_name ns i (map (local_at s) ls) e
