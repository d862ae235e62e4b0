-- What an operation is in a graph, and when two kinds are one (SCAIE-V, operations on the core; the split is this project's choice).
use Rattle.std.specs.Prelude.{◌≡◌, ◌↔◌, ℕ, Bool, true, ◌&&◌, nat_eq}
use Rattle.ix_graph.specs.declared.kind.Kind.{Kind}
use Rattle.ix_graph.specs.declared.kind.Kind.TheVariants.{RdInstr, RdRS1, RdRS2, RdPC, RdCustReg, RdMem, WrRD, WrPC, WrCustReg, WrMem, Add, Sub, Mul, And, Or, Xor, Not, Neg, Shl, Shr, Eq, Ne, Lt, Le, Gt, Ge, Land, Lor, Lnot, Concat, Range, Cast, Mux, Rom}
use Rattle.ix_graph.specs.declared.role.Role.{Role}
use Rattle.ix_graph.specs.declared.role.Role.TheVariants.{Read, Compute, Write}
use Rattle.ix_graph.specs.Kinds.{place_of}

-- an operation that reads the core's state has its result from outside, one that writes it has none, and every other makes it of its arguments
abbrev pub role_of : Kind → Role
role_of RdInstr = Read
role_of RdRS1 = Read
role_of RdRS2 = Read
role_of RdPC = Read
role_of (RdCustReg register) = Read
role_of RdMem = Read
role_of WrRD = Write
role_of WrPC = Write
role_of (WrCustReg register) = Write
role_of WrMem = Write
role_of Add = Compute
role_of Sub = Compute
role_of Mul = Compute
role_of And = Compute
role_of Or = Compute
role_of Xor = Compute
role_of Not = Compute
role_of Neg = Compute
role_of Shl = Compute
role_of Shr = Compute
role_of Eq = Compute
role_of Ne = Compute
role_of Lt = Compute
role_of Le = Compute
role_of Gt = Compute
role_of Ge = Compute
role_of Land = Compute
role_of Lor = Compute
role_of Lnot = Compute
role_of Concat = Compute
role_of (Range hi lo) = Compute
role_of Cast = Compute
role_of Mux = Compute
role_of (Rom table) = Compute

-- the numbers that a kind has, 0 where it has none
abbrev pub first_number : Kind → ℕ
first_number (RdCustReg register) = register
first_number (WrCustReg register) = register
first_number (Range hi lo) = hi
first_number (Rom table) = table
first_number kind = 0

abbrev pub second_number : Kind → ℕ
second_number (Range hi lo) = lo
second_number kind = 0

-- whether two kinds are one: their places in the order of the kinds and their numbers are the same
abbrev pub same_kind : Kind → Kind → Bool
same_kind a b = nat_eq (place_of a) (place_of b) && nat_eq (first_number a) (first_number b) && nat_eq (second_number a) (second_number b)

-- the test tells which kinds are one
abbrev pub SameKindLaw : Type 0
SameKindLaw = (a b : Kind) → (same_kind a b ≡ true) ↔ (a ≡ b)
