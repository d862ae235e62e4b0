-- What a behaviour does: the number of each expression, and at most one write of each target (CoreDSL 2; all reads see the state before).
use Rattle.std.specs.Prelude.{ℕ, ◌/◌, ◌%◌, ◌^◌, ℤ, pos, unsigned_abs, List, [], ◌∷◌, ◌++◌, get_or, set, Option, Some, if◌then◌else◌}
use Rattle.ix_bits.specs.declared.number.Ty.{Ty}
use Rattle.ix_bits.specs.declared.operator.UnOp.TheVariants as unary
use Rattle.ix_bits.specs.Operators.{pattern_of, value_of, fit, is_true, binary_number, unary_number, bits_between}
use Rattle.ix_graph.specs.declared.kind.Kind.{Kind}
use Rattle.ix_graph.specs.declared.kind.Kind.TheVariants as k
use Rattle.ix_mean.specs.Core.{Expression, x_const, x_slot, x_read, x_load, x_one, x_cast, x_entry, x_two, x_choose, type_of_expression, Statement, st_skip, st_then, st_set, st_write, st_if}

-- The state before, as patterns. `memory` gives what lies at an address, of so many bytes.
pub record Inputs : Type 0 where
  pub word : ℕ
  pub rs1 : ℕ
  pub rs2 : ℕ
  pub pc : ℕ
  pub custom : ℕ → ℕ
  pub memory : ℕ → ℕ → ℕ

abbrev pub read : Inputs → Kind → ℕ
read i k.RdInstr = i.word
read i k.RdRS1 = i.rs1
read i k.RdRS2 = i.rs2
read i k.RdPC = i.pc
read i (k.RdCustReg r) = i.custom r
read i _ = 0

-- what is loaded of a type from an address
abbrev pub loaded : (ℕ → ℕ → ℕ) → Ty → ℤ → ℤ
loaded memory ty at = value_of ty (memory (unsigned_abs at) (ty.width / 8) % 2 ^ ty.width)

-- an operator on one number, a cast, or a range of bits, of a number n of type a, with a result of type ty
abbrev pub one_number : Kind → Ty → Ty → ℤ → ℤ
one_number k.Neg a ty n = unary_number unary.Neg a n
one_number k.Not a ty n = unary_number unary.Not a n
one_number k.Lnot a ty n = unary_number unary.Lnot a n
one_number k.Cast a ty n = fit ty n
one_number (k.Range hi lo) a ty n = pos (bits_between (pattern_of a.width n) hi lo)
one_number _ a ty n = pos 0

-- an entry of a table of patterns, of type ty
abbrev pub entry_number : List ℕ → Ty → ℤ → ℤ
entry_number es ty n = value_of ty (get_or es (unsigned_abs n) 0)

-- ---- numbers
abbrev pub number : Inputs → List ℤ → Expression → ℤ
number i s (x_const ty raw) = value_of ty raw
number i s (x_slot k ty) = get_or s k (pos 0)
number i s (x_read k ty) = value_of ty (read i k)
number i s (x_load ty a) = loaded i.memory ty (number i s a)
number i s (x_one k ty a) = one_number k (type_of_expression a) ty (number i s a)
number i s (x_cast ty a) = fit ty (number i s a)
number i s (x_entry n es ty a) = entry_number es ty (number i s a)
number i s (x_two op ty a b) = binary_number op (type_of_expression a) (number i s a) (type_of_expression b) (number i s b)
number i s (x_choose ty c a b) = if is_true (number i s c) then number i s a else number i s b

-- ---- effects
pub record Write : Type 0 where
  pub value : ℤ
  pub address : ℤ

-- the numbers of the slots, and what was written so far
pub record Numbers : Type 0 where
  pub slots : List ℤ
  pub targets : List (Option Write)

abbrev pub run : Inputs → Statement → Numbers → Numbers
run i st_skip s = s
run i (st_then x y) s = run i y (run i x s)
run i (st_set k ty e) s = record { slots = set s.slots k (number i s.slots e); targets = s.targets }
run i (st_write k ty e a) s =
    record { slots = s.slots; targets = set s.targets k (Some (record { value = number i s.slots e; address = number i s.slots a })) }
run i (st_if c x y) s = if is_true (number i s.slots c) then run i x s else run i y s

-- ---- memory reads
pub record Access : Type 0 where
  pub ty : Ty
  pub at : ℤ

abbrev pub accesses : Inputs → List ℤ → Expression → List Access
accesses i s (x_const ty raw) = []
accesses i s (x_slot k ty) = []
accesses i s (x_read k ty) = []
accesses i s (x_load ty a) = accesses i s a ++ record { ty = ty; at = number i s a } ∷ []
accesses i s (x_one k ty a) = accesses i s a
accesses i s (x_cast ty a) = accesses i s a
accesses i s (x_entry n es ty a) = accesses i s a
accesses i s (x_two op ty a b) = accesses i s a ++ accesses i s b
accesses i s (x_choose ty c a b) = accesses i s c ++ accesses i s a ++ accesses i s b

-- the reads of a statement, in order
abbrev pub reads : Inputs → Statement → Numbers → List Access
reads i st_skip s = []
reads i (st_then x y) s = reads i x s ++ reads i y (run i x s)
reads i (st_set k ty e) s = accesses i s.slots e
reads i (st_write k ty e a) s = accesses i s.slots a ++ accesses i s.slots e
reads i (st_if c x y) s = accesses i s.slots c ++ (if is_true (number i s.slots c) then reads i x s else reads i y s)
