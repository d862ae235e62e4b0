-- Behaviours and terms whose types go together.
use Rattle.std.specs.Prelude.{◌≡◌, ℕ, ◌+◌, ◌-◌, ◌^◌, ◌<◌, ◌≤◌, false, List, [], ◌∷◌, get_or, length, Option, Some, None, All, ◌⊎◌, Bool, true, ◌&&◌, ℤ, pos}
use Rattle.ix_bits.specs.declared.number.Ty.{Ty}
use Rattle.ix_bits.specs.declared.operator.BinOp.{BinOp}
use Rattle.ix_bits.specs.declared.operator.UnOp.TheVariants as unary
use Rattle.ix_bits.specs.ResultTypes.{Embeds}
use Rattle.ix_graph.specs.declared.kind.Kind.{Kind}
use Rattle.ix_graph.specs.declared.kind.Kind.TheVariants as k
use Rattle.ix_types.specs.Results.{IsBinaryType, IsUnaryType, IsCommon}
use Rattle.ix_mean.specs.Core.{u1, u32, Expression, x_const, x_slot, x_read, x_load, x_one, x_cast, x_entry, x_two, x_choose, type_of_expression, Statement, st_skip, st_then, st_set, st_write, st_if}
use Rattle.ix_mean.specs.Meaning.{Inputs, read, number}
use Rattle.ix_mean.specs.Terms.{Term, t_const, t_read, t_one, t_entry, t_two, t_three, type_of, binary_of, Entry, Terms}

-- The types of a behaviour's slots and of its targets: memory, rd, PC and the custom registers.
pub record Frame : Type 0 where
  pub slots : List Ty
  pub targets : List Ty

-- ---- operations
abbrev pub IsRead : List Ty → Kind → Ty → Type 0
IsRead ts k.RdInstr ty = ty ≡ u32
IsRead ts k.RdRS1 ty = ty ≡ u32
IsRead ts k.RdRS2 ty = ty ≡ u32
IsRead ts k.RdPC ty = ty ≡ u32
IsRead ts (k.RdCustReg r) ty = (r < 16) × (ty ≡ get_or ts (3 + r) u1)
IsRead ts _ ty = ⊥

pub record IsPart (hi lo : ℕ) (a ty : Ty) : Type 0 where
  pub order : lo ≤ hi
  pub within : hi < a.width
  pub unsigned : ty.signed ≡ false
  pub width : ty.width ≡ hi - lo + 1

abbrev pub IsOne : Kind → Ty → Ty → Type 0
IsOne k.Neg a ty = IsUnaryType unary.Neg a ty
IsOne k.Not a ty = IsUnaryType unary.Not a ty
IsOne k.Lnot a ty = IsUnaryType unary.Lnot a ty
IsOne k.Cast a ty = Unit {0}
IsOne (k.Range hi lo) a ty = IsPart hi lo a ty
IsOne _ a ty = ⊥

abbrev pub IsOperator : Option BinOp → Ty → Ty → Ty → Type 0
IsOperator None a b ty = ⊥
IsOperator (Some op) a b ty = IsBinaryType op a b ty

-- a load's address and condition
pub record IsLoad (ty a b : Ty) : Type 0 where
  pub unsigned : ty.signed ≡ false
  pub address : a ≡ u32
  pub condition : b ≡ u1

abbrev pub IsTwo : Kind → Ty → Ty → Ty → Type 0
IsTwo k.RdMem a b ty = IsLoad ty a b
IsTwo kind a b ty = IsOperator (binary_of kind) a b ty

pub record IsChoice (c a b ty : Ty) : Type 0 where
  pub condition : c ≡ u1
  pub common : IsCommon a b ty

abbrev pub IsThree : Kind → Ty → Ty → Ty → Ty → Type 0
IsThree k.Mux c a b ty = IsChoice c a b ty
IsThree _ c a b ty = ⊥

-- ---- tables
-- the entries are patterns of the type
abbrev pub AreEntriesOf : Ty → List ℕ → Type 0
AreEntriesOf ty es = All (λ e. e < 2 ^ ty.width) es

-- there is an entry for each value of an unsigned index of this type
pub record IsIndexOf (es : List ℕ) (ty : Ty) : Type 0 where
  pub unsigned : ty.signed ≡ false
  pub enough : 2 ^ ty.width ≤ length es

-- an expression of literals alone
abbrev pub is_constant : Expression → Bool
is_constant (x_const ty raw) = true
is_constant (x_slot k ty) = false
is_constant (x_read k ty) = false
is_constant (x_load ty a) = false
is_constant (x_one k ty a) = is_constant a
is_constant (x_cast ty a) = is_constant a
is_constant (x_entry n es ty a) = false
is_constant (x_two op ty a b) = is_constant a && is_constant b
is_constant (x_choose ty c a b) = is_constant c && is_constant a && is_constant b

-- a constant that is the place of an entry
pub record IsConstantIndex (es : List ℕ) (a : Expression) : Type 0 where
  pub constant : is_constant a ≡ true
  pub place : ℕ
  pub within : place < length es
  pub is : (i : Inputs) (s : List ℤ) → number i s a ≡ pos place

-- ---- behaviours
abbrev pub IsTypedExpression : Frame → Expression → Type 0
IsTypedExpression f (x_const ty raw) = raw < 2 ^ ty.width
IsTypedExpression f (x_slot n ty) = (n < length f.slots) × (get_or f.slots n u1 ≡ ty)
IsTypedExpression f (x_read k ty) = IsRead f.targets k ty
IsTypedExpression f (x_load ty a) = IsTypedExpression f a × (ty.signed ≡ false) × Embeds (type_of_expression a) u32 × (ty.width ≤ 32)
IsTypedExpression f (x_one k ty a) = IsTypedExpression f a × IsOne k (type_of_expression a) ty
IsTypedExpression f (x_cast ty a) = IsTypedExpression f a
IsTypedExpression f (x_entry n es ty a) = IsTypedExpression f a × AreEntriesOf ty es × (IsIndexOf es (type_of_expression a) ⊎ IsConstantIndex es a)
IsTypedExpression f (x_two op ty a b) = IsTypedExpression f a × IsTypedExpression f b × IsBinaryType op (type_of_expression a) (type_of_expression b) ty
IsTypedExpression f (x_choose ty c a b) = IsTypedExpression f c × IsTypedExpression f a × IsTypedExpression f b × IsCommon (type_of_expression a) (type_of_expression b) ty

abbrev pub IsTypedStatement : Frame → Statement → Type 0
IsTypedStatement f st_skip = Unit {0}
IsTypedStatement f (st_then x y) = IsTypedStatement f x × IsTypedStatement f y
IsTypedStatement f (st_set n ty e) = IsTypedExpression f e × (n < length f.slots) × (get_or f.slots n u1 ≡ ty) × Embeds (type_of_expression e) ty
IsTypedStatement f (st_write n ty e a) =
    IsTypedExpression f e × IsTypedExpression f a × (n < length f.targets) × (get_or f.targets n u1 ≡ ty) × Embeds (type_of_expression e) ty × Embeds (type_of_expression a) u32
IsTypedStatement f (st_if c x y) = IsTypedExpression f c × IsTypedStatement f x × IsTypedStatement f y

-- ---- terms
abbrev pub IsTerm : List Ty → Term → Type 0
IsTerm ts (t_const ty raw) = raw < 2 ^ ty.width
IsTerm ts (t_read k ty) = IsRead ts k ty
IsTerm ts (t_one k ty a) = IsTerm ts a × IsOne k (type_of a) ty
IsTerm ts (t_entry n es ty a) = IsTerm ts a × AreEntriesOf ty es × IsIndexOf es (type_of a)
IsTerm ts (t_two k ty a b) = IsTerm ts a × IsTerm ts b × IsTwo k (type_of a) (type_of b) ty
IsTerm ts (t_three k ty c a b) = IsTerm ts c × IsTerm ts a × IsTerm ts b × IsThree k (type_of c) (type_of a) (type_of b) ty

-- a term of a type
pub record IsOf (ts : List Ty) (ty : Ty) (t : Term) : Type 0 where
  pub typed : IsTerm ts t
  pub ty_is : type_of t ≡ ty

pub record IsEntry (ts : List Ty) (ty : Ty) (e : Entry) : Type 0 where
  pub condition : IsOf ts u1 e.condition
  pub value : IsOf ts ty e.value
  pub address : IsOf ts u32 e.address

abbrev pub AreOf : List Ty → List Ty → List Term → Type 0
AreOf ts [] [] = Unit {0}
AreOf ts (ty ∷ tys) (t ∷ xs) = IsOf ts ty t × AreOf ts tys xs
AreOf ts _ _ = ⊥

abbrev pub AreEntries : List Ty → List Ty → List Entry → Type 0
AreEntries ts [] [] = Unit {0}
AreEntries ts (ty ∷ tys) (e ∷ es) = IsEntry ts ty e × AreEntries ts tys es
AreEntries ts _ _ = ⊥

pub record IsState (f : Frame) (s : Terms) : Type 0 where
  pub slots : AreOf f.targets f.slots s.slots
  pub targets : AreEntries f.targets f.targets s.targets

-- ---- inputs: what is read is a pattern of its type
abbrev pub AreInputs : List Ty → Inputs → Type 0
AreInputs ts i = (k : Kind) (ty : Ty) → IsRead ts k ty → read i k < 2 ^ ty.width
