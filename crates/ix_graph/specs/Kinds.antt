-- The kinds of operations, their names and their order (this project's choice; the ten first are SCAIE-V's operations on a core).
use Rattle.std.specs.Prelude.{codes, ℕ, List, [], ◌∷◌, ◌++◌, Option, Some, None, position, slice_index_or}
use Rattle.std.specs.Fmt.{decimal}
use Rattle.std.specs.Str.{bytes_eq}
use Rattle.ix_graph.specs.declared.kind.Kind.{Kind}
use Rattle.ix_graph.specs.declared.kind.Kind.TheVariants.{RdInstr, RdRS1, RdRS2, RdPC, RdCustReg, RdMem, WrRD, WrPC, WrCustReg, WrMem, Add, Sub, Mul, And, Or, Xor, Not, Neg, Shl, Shr, Eq, Ne, Lt, Le, Gt, Ge, Land, Lor, Lnot, Concat, Range, Cast, Mux, Rom}

-- the names, in the order of the kinds
unfoldable pub kind_words : List (List ℕ)
kind_words =
    codes "RdInstr" ∷
    codes "RdRS1" ∷
    codes "RdRS2" ∷
    codes "RdPC" ∷
    codes "RdCustReg" ∷
    codes "RdMem" ∷
    codes "WrRD" ∷
    codes "WrPC" ∷
    codes "WrCustReg" ∷
    codes "WrMem" ∷
    codes "add" ∷
    codes "sub" ∷
    codes "mul" ∷
    codes "and" ∷
    codes "or" ∷
    codes "xor" ∷
    codes "not" ∷
    codes "neg" ∷
    codes "shl" ∷
    codes "shr" ∷
    codes "eq" ∷
    codes "ne" ∷
    codes "lt" ∷
    codes "le" ∷
    codes "gt" ∷
    codes "ge" ∷
    codes "land" ∷
    codes "lor" ∷
    codes "lnot" ∷
    codes "concat" ∷
    codes "range" ∷
    codes "cast" ∷
    codes "mux" ∷
    codes "rom" ∷
    []

-- the place of a kind in that order, from 0
abbrev pub place_of : Kind → ℕ
place_of RdInstr = 0
place_of RdRS1 = 1
place_of RdRS2 = 2
place_of RdPC = 3
place_of (RdCustReg register) = 4
place_of RdMem = 5
place_of WrRD = 6
place_of WrPC = 7
place_of (WrCustReg register) = 8
place_of WrMem = 9
place_of Add = 10
place_of Sub = 11
place_of Mul = 12
place_of And = 13
place_of Or = 14
place_of Xor = 15
place_of Not = 16
place_of Neg = 17
place_of Shl = 18
place_of Shr = 19
place_of Eq = 20
place_of Ne = 21
place_of Lt = 22
place_of Le = 23
place_of Gt = 24
place_of Ge = 25
place_of Land = 26
place_of Lor = 27
place_of Lnot = 28
place_of Concat = 29
place_of (Range hi lo) = 30
place_of Cast = 31
place_of Mux = 32
place_of (Rom table) = 33

-- the name without a register's number
abbrev pub word_of : Kind → List ℕ
word_of kind = slice_index_or kind_words (place_of kind) []

-- the register's number that a kind has, if it has one
abbrev pub register_of : Kind → Option ℕ
register_of (RdCustReg register) = Some register
register_of (WrCustReg register) = Some register
register_of kind = None

-- a name, and where there is a register's number a point and that number
abbrev pub with_register : List ℕ → Option ℕ → List ℕ
with_register word None = word
with_register word (Some register) = word ++ (codes "." ++ decimal register)

-- the name as it is printed: a custom register's with the register's number behind
abbrev pub printed_name : Kind → List ℕ
printed_name kind = with_register (word_of kind) (register_of kind)

-- the place of the kind that a text names without a register's number, if it names one
unfoldable pub number_of : List ℕ → Option ℕ
number_of text = position (λ word. bytes_eq word text) kind_words
