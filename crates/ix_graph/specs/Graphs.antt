-- Valid operation graphs (this project's choice; the types are CoreDSL 2's, with the result types of this project).
use Rattle.std.specs.Prelude.{◌≡◌, ℕ, ◌+◌, ◌-◌, ◌^◌, ◌<◌, ◌≤◌, ◌⊎◌, Bool, true, false, List, [], ◌∷◌, length, map, All, Option, Some, IfSome, option_map, slice_get}
use Rattle.ix_bits.specs.declared.number.Ty.{Ty}
use Rattle.ix_bits.specs.declared.number.Bits.{Bits}
use Rattle.ix_bits.specs.declared.operator.BinOp.{BinOp}
use Rattle.ix_bits.specs.declared.operator.BinOp.TheVariants as binary
use Rattle.ix_bits.specs.declared.operator.UnOp.{UnOp}
use Rattle.ix_bits.specs.declared.operator.UnOp.TheVariants as unary
use Rattle.ix_bits.specs.ResultTypes.{IsBinary, binary_signed, binary_width, unary_signed, unary_width, common_signed, common_width}
use Rattle.ix_graph.specs.declared.kind.Kind.{Kind}
use Rattle.ix_graph.specs.declared.kind.Kind.TheVariants.{RdInstr, RdRS1, RdRS2, RdPC, RdCustReg, RdMem, WrRD, WrPC, WrCustReg, WrMem, Add, Sub, Mul, And, Or, Xor, Not, Neg, Shl, Shr, Eq, Ne, Lt, Le, Gt, Ge, Land, Lor, Lnot, Concat, Range, Cast, Mux, Rom}
use Rattle.ix_graph.specs.declared.args.Arg.{Arg}
use Rattle.ix_graph.specs.declared.args.Arg.TheVariants as arg
use Rattle.ix_graph.specs.declared.graph.Op.{Op}
use Rattle.ix_graph.specs.declared.graph.Graph.{Graph}

-- the kinds that write the core's state
abbrev pub IsWrite : Kind → Type 0
IsWrite WrRD = Unit {0}
IsWrite WrPC = Unit {0}
IsWrite (WrCustReg register) = Unit {0}
IsWrite WrMem = Unit {0}
IsWrite kind = ⊥

-- the type unsigned<width>
pub record IsUnsigned (width : ℕ) (ty : Ty) : Type 0 where
  pub unsigned : ty.signed ≡ false
  pub wide : ty.width ≡ width

-- the types of a byte, a half word and a word of memory
abbrev pub IsLoadable : Ty → Type 0
IsLoadable ty = IsUnsigned 8 ty ⊎ (IsUnsigned 16 ty ⊎ IsUnsigned 32 ty)

-- the type of `a op b`
pub record IsBinaryResult (op : BinOp) (a b ty : Ty) : Type 0 where
  pub exists : IsBinary op a b
  pub signed : ty.signed ≡ binary_signed op a b
  pub width : ty.width ≡ binary_width op a b

-- the type of `op a`
pub record IsUnaryResult (op : UnOp) (a ty : Ty) : Type 0 where
  pub signed : ty.signed ≡ unary_signed op a
  pub width : ty.width ≡ unary_width op a

-- the smallest type that holds the numbers of both
pub record IsCommonResult (a b ty : Ty) : Type 0 where
  pub signed : ty.signed ≡ common_signed a b
  pub width : ty.width ≡ common_width a b

-- the type of bits hi down to lo of a value of type a
pub record IsRangeResult (hi lo : ℕ) (a ty : Ty) : Type 0 where
  pub order : lo ≤ hi
  pub within : hi < a.width
  pub bits : IsUnsigned (hi - lo + 1) ty

-- a table whose entries have the width of the result, one for each value of an unsigned index
pub record IsRomResult (table : List Bits) (index ty : Ty) : Type 0 where
  pub unsigned : index.signed ≡ false
  pub enough : 2 ^ index.width ≤ length table
  pub entries : All (λ entry. entry.width ≡ ty.width) table

-- the type of an argument, if the operation that it names exists
abbrev pub arg_type : List Op → Arg → Option Ty
arg_type ops (arg.Op number) = option_map (λ op. op.ty) (slice_get ops number)
arg_type ops (arg.Const ty bits) = Some ty

-- the arguments are none, or so many, of types for which this holds
abbrev pub TakesNone : List Arg → Type 0
TakesNone args = args ≡ []

abbrev pub TakesOne : List Op → List Arg → (Ty → Type 0) → Type 0
TakesOne ops args P = (a : Ty) × (map (arg_type ops) args ≡ Some a ∷ []) × P a

abbrev pub TakesTwo : List Op → List Arg → (Ty → Ty → Type 0) → Type 0
TakesTwo ops args P = (a : Ty) × (b : Ty) × (map (arg_type ops) args ≡ Some a ∷ Some b ∷ []) × P a b

abbrev pub TakesThree : List Op → List Arg → (Ty → Ty → Ty → Type 0) → Type 0
TakesThree ops args P = (a : Ty) × (b : Ty) × (c : Ty) × (map (arg_type ops) args ≡ Some a ∷ Some b ∷ Some c ∷ []) × P a b c

-- arguments of the types of a write: a value for which this holds, and a condition
abbrev pub TakesValue : List Op → List Arg → (Ty → Type 0) → Type 0
TakesValue ops args P = TakesTwo ops args (λ value condition. P value × IsUnsigned 1 condition)

-- the operation has the arguments of its kind, and arguments and result have the types of its kind
abbrev pub IsTyped : Graph → Kind → List Arg → Ty → Type 0
IsTyped g RdInstr args ty = TakesNone args × IsUnsigned 32 ty
IsTyped g RdRS1 args ty = TakesNone args × IsUnsigned 32 ty
IsTyped g RdRS2 args ty = TakesNone args × IsUnsigned 32 ty
IsTyped g RdPC args ty = TakesNone args × IsUnsigned 32 ty
IsTyped g (RdCustReg register) args ty = TakesNone args × (register < 16)
IsTyped g RdMem args ty = TakesValue g.ops args (λ address. IsUnsigned 32 address) × IsLoadable ty
IsTyped g WrRD args ty = TakesValue g.ops args (λ value. IsUnsigned 32 value) × IsUnsigned 1 ty
IsTyped g WrPC args ty = TakesValue g.ops args (λ value. IsUnsigned 32 value) × IsUnsigned 1 ty
IsTyped g (WrCustReg register) args ty = TakesValue g.ops args (λ _. Unit {0}) × IsUnsigned 1 ty × (register < 16)
IsTyped g WrMem args ty =
    TakesThree g.ops args (λ address value condition. IsUnsigned 32 address × IsLoadable value × IsUnsigned 1 condition) × IsUnsigned 1 ty
IsTyped g Add args ty = TakesTwo g.ops args (λ a b. IsBinaryResult binary.Add a b ty)
IsTyped g Sub args ty = TakesTwo g.ops args (λ a b. IsBinaryResult binary.Sub a b ty)
IsTyped g Mul args ty = TakesTwo g.ops args (λ a b. IsBinaryResult binary.Mul a b ty)
IsTyped g And args ty = TakesTwo g.ops args (λ a b. IsBinaryResult binary.And a b ty)
IsTyped g Or args ty = TakesTwo g.ops args (λ a b. IsBinaryResult binary.Or a b ty)
IsTyped g Xor args ty = TakesTwo g.ops args (λ a b. IsBinaryResult binary.Xor a b ty)
IsTyped g Not args ty = TakesOne g.ops args (λ a. IsUnaryResult unary.Not a ty)
IsTyped g Neg args ty = TakesOne g.ops args (λ a. IsUnaryResult unary.Neg a ty)
IsTyped g Shl args ty = TakesTwo g.ops args (λ a b. IsBinaryResult binary.Shl a b ty)
IsTyped g Shr args ty = TakesTwo g.ops args (λ a b. IsBinaryResult binary.Shr a b ty)
IsTyped g Eq args ty = TakesTwo g.ops args (λ a b. IsBinaryResult binary.Eq a b ty)
IsTyped g Ne args ty = TakesTwo g.ops args (λ a b. IsBinaryResult binary.Ne a b ty)
IsTyped g Lt args ty = TakesTwo g.ops args (λ a b. IsBinaryResult binary.Lt a b ty)
IsTyped g Le args ty = TakesTwo g.ops args (λ a b. IsBinaryResult binary.Le a b ty)
IsTyped g Gt args ty = TakesTwo g.ops args (λ a b. IsBinaryResult binary.Gt a b ty)
IsTyped g Ge args ty = TakesTwo g.ops args (λ a b. IsBinaryResult binary.Ge a b ty)
IsTyped g Land args ty = TakesTwo g.ops args (λ a b. IsBinaryResult binary.Land a b ty)
IsTyped g Lor args ty = TakesTwo g.ops args (λ a b. IsBinaryResult binary.Lor a b ty)
IsTyped g Lnot args ty = TakesOne g.ops args (λ a. IsUnaryResult unary.Lnot a ty)
IsTyped g Concat args ty = TakesTwo g.ops args (λ a b. IsBinaryResult binary.Concat a b ty)
IsTyped g (Range hi lo) args ty = TakesOne g.ops args (λ a. IsRangeResult hi lo a ty)
IsTyped g Cast args ty = TakesOne g.ops args (λ a. Unit {0})
IsTyped g Mux args ty = TakesThree g.ops args (λ c a b. IsUnsigned 1 c × IsCommonResult a b ty)
IsTyped g (Rom table) args ty =
    TakesOne g.ops args (λ index. (entries : List Bits) × (slice_get g.tables table ≡ Some entries) × IsRomResult entries index ty)

-- an argument of the operation k: an earlier operation that is no write, or a constant of its type's width
abbrev pub IsArgument : List Op → ℕ → Arg → Type 0
IsArgument ops k (arg.Op number) = (number < k) × IfSome (slice_get ops number) (λ op. IsWrite op.kind → ⊥)
IsArgument ops k (arg.Const ty bits) = bits.width ≡ ty.width

-- the operation k of a graph
pub record IsValidOp (g : Graph) (k : ℕ) (op : Op) : Type 0 where
  pub arguments : All (IsArgument g.ops k) op.args
  pub typed : IsTyped g op.kind op.args op.ty

-- the entries of a table have one width
abbrev pub HasOneWidth : List Bits → Type 0
HasOneWidth table = (width : ℕ) × All (λ entry. entry.width ≡ width) table

-- only writes are spawned
abbrev pub IsFlagOf : Op → Bool → Type 0
IsFlagOf op flag = flag ≡ true → IsWrite op.kind

pub record IsValidGraph (g : Graph) : Type 0 where
  pub few : length g.ops ≤ 256
  pub flags : length g.spawned ≡ length g.ops
  pub ops : (k : ℕ) (op : Op) → slice_get g.ops k ≡ Some op → IsValidOp g k op
  pub spawned : (k : ℕ) (op : Op) → slice_get g.ops k ≡ Some op → IfSome (slice_get g.spawned k) (IsFlagOf op)
  pub tables : All HasOneWidth g.tables
