-- A behaviour run on terms (this project's choice of terms, conditions and folding).
use Rattle.std.specs.Prelude.{ℕ, ℤ, pos, List, [], ◌∷◌, ◌++◌, get_or, set, map, Option, Some, None, Bool, true, false, not, ◌&&◌, if◌then◌else◌, nat_eq, unsigned_abs}
use Rattle.std.specs.Str.{bytes_eq}
use Rattle.ix_bits.specs.declared.number.Ty.{Ty}
use Rattle.ix_bits.specs.declared.operator.BinOp.{BinOp}
use Rattle.ix_bits.specs.declared.operator.BinOp.TheVariants as b
use Rattle.ix_bits.specs.Operators.{pattern_of, value_of, is_true, binary_number}
use Rattle.ix_graph.specs.declared.kind.Kind.{Kind}
use Rattle.ix_graph.specs.declared.kind.Kind.TheVariants as k
use Rattle.ix_graph.specs.Roles.{same_kind}
use Rattle.ix_mean.specs.Core.{u1, u32, Expression, x_const, x_slot, x_read, x_load, x_one, x_cast, x_entry, x_two, x_choose, Statement, st_skip, st_then, st_set, st_write, st_if}
use Rattle.ix_mean.specs.Meaning.{Inputs, read, loaded, one_number, entry_number, Write, Numbers, Access}

-- ---- terms: a constant with its pattern, or an operation with its kind, its type and its arguments
pub data Term : Type 0 where
  t_const : Ty → ℕ → Term
  t_read : Kind → Ty → Term
  t_one : Kind → Ty → Term → Term
  t_entry : ℕ → List ℕ → Ty → Term → Term
  t_two : Kind → Ty → Term → Term → Term
  t_three : Kind → Ty → Term → Term → Term → Term

abbrev pub type_of : Term → Ty
type_of (t_const ty raw) = ty
type_of (t_read k ty) = ty
type_of (t_one k ty a) = ty
type_of (t_entry n es ty a) = ty
type_of (t_two k ty a b) = ty
type_of (t_three k ty a b c) = ty

abbrev pub kind_of : BinOp → Kind
kind_of b.Add = k.Add
kind_of b.Sub = k.Sub
kind_of b.Mul = k.Mul
kind_of b.And = k.And
kind_of b.Or = k.Or
kind_of b.Xor = k.Xor
kind_of b.Shl = k.Shl
kind_of b.Shr = k.Shr
kind_of b.Eq = k.Eq
kind_of b.Ne = k.Ne
kind_of b.Lt = k.Lt
kind_of b.Le = k.Le
kind_of b.Gt = k.Gt
kind_of b.Ge = k.Ge
kind_of b.Land = k.Land
kind_of b.Lor = k.Lor
kind_of b.Concat = k.Concat

abbrev pub binary_of : Kind → Option BinOp
binary_of k.Add = Some b.Add
binary_of k.Sub = Some b.Sub
binary_of k.Mul = Some b.Mul
binary_of k.And = Some b.And
binary_of k.Or = Some b.Or
binary_of k.Xor = Some b.Xor
binary_of k.Shl = Some b.Shl
binary_of k.Shr = Some b.Shr
binary_of k.Eq = Some b.Eq
binary_of k.Ne = Some b.Ne
binary_of k.Lt = Some b.Lt
binary_of k.Le = Some b.Le
binary_of k.Gt = Some b.Gt
binary_of k.Ge = Some b.Ge
binary_of k.Land = Some b.Land
binary_of k.Lor = Some b.Lor
binary_of k.Concat = Some b.Concat
binary_of _ = None

-- the number of an operator on two numbers
abbrev pub operator_number : Option BinOp → Ty → ℤ → Ty → ℤ → ℤ
operator_number None a x b y = pos 0
operator_number (Some op) a x b y = binary_number op a x b y

-- the number of an operation on two numbers: a load whose condition is 0 gives 0
abbrev pub two_number : Inputs → Kind → Ty → Ty → ℤ → Ty → ℤ → ℤ
two_number i k.RdMem ty a x b y = if is_true y then loaded i.memory ty x else pos 0
two_number i kind ty a x b y = operator_number (binary_of kind) a x b y

-- ---- the number of a term under inputs
abbrev pub value : Inputs → Term → ℤ
value i (t_const ty raw) = value_of ty raw
value i (t_read k ty) = value_of ty (read i k)
value i (t_one k ty a) = one_number k (type_of a) ty (value i a)
value i (t_entry n es ty a) = entry_number es ty (value i a)
value i (t_two k ty a b) = two_number i k ty (type_of a) (value i a) (type_of b) (value i b)
value i (t_three k ty c a b) = if is_true (value i c) then value i a else value i b

-- ---- equal terms
abbrev pub same_bool : Bool → Bool → Bool
same_bool true c = c
same_bool false c = not c

abbrev pub same_ty : Ty → Ty → Bool
same_ty a b = same_bool a.signed b.signed && nat_eq a.width b.width

abbrev pub same_term : Term → Term → Bool
same_term (t_const ty raw) (t_const ty' raw') = same_ty ty ty' && nat_eq raw raw'
same_term (t_read k ty) (t_read k' ty') = same_kind k k' && same_ty ty ty'
same_term (t_one k ty a) (t_one k' ty' a') = same_kind k k' && same_ty ty ty' && same_term a a'
same_term (t_entry n es ty a) (t_entry n' es' ty' a') = nat_eq n n' && bytes_eq es es' && same_ty ty ty' && same_term a a'
same_term (t_two k ty a b) (t_two k' ty' a' b') = same_kind k k' && same_ty ty ty' && same_term a a' && same_term b b'
same_term (t_three k ty a b c) (t_three k' ty' a' b' c') = same_kind k k' && same_ty ty ty' && same_term a a' && same_term b b' && same_term c c'
same_term _ _ = false

-- ---- operations are folded where all their arguments are constants
abbrev pub make_one : Kind → Ty → Term → Term
make_one k ty (t_const a raw) = t_const ty (pattern_of ty.width (one_number k a ty (value_of a raw)))
make_one k ty t = t_one k ty t

-- an entry of a table, given by its number and its patterns
abbrev pub make_entry : ℕ → List ℕ → Ty → Term → Term
make_entry n es ty (t_const a raw) = t_const ty (get_or es (unsigned_abs (value_of a raw)) 0)
make_entry n es ty t = t_entry n es ty t

abbrev pub make_two : Kind → Ty → Term → Term → Term
make_two k ty (t_const a x) (t_const b y) = t_const ty (pattern_of ty.width (operator_number (binary_of k) a (value_of a x) b (value_of b y)))
make_two k ty s t = t_two k ty s t

-- a value that goes to another type passes a cast
abbrev pub cast_to : Ty → Term → Term
cast_to ty t = if same_ty (type_of t) ty then t else make_one k.Cast ty t

-- the arm of a constant condition, cast; the arm of two equal ones; else an operation
abbrev pub make_mux : Ty → Term → Term → Term → Term
make_mux ty (t_const a raw) x y = cast_to ty (if is_true (value_of a raw) then x else y)
make_mux ty c x y = if same_term x y then x else t_three k.Mux ty c x y

abbrev pub zero_term : Term
zero_term = t_const u1 0

abbrev pub one_term : Term
one_term = t_const u1 1

-- a condition that is not of type u 1 is `ne(e, 0)`
abbrev pub condition : Term → Term
condition t = if same_ty (type_of t) u1 then t else make_two k.Ne u1 t zero_term

-- ---- expressions, under a path condition
abbrev pub term : List Term → Term → Expression → Term
term s p (x_const ty raw) = t_const ty raw
term s p (x_slot k ty) = get_or s k zero_term
term s p (x_read k ty) = t_read k ty
term s p (x_load ty a) = t_two k.RdMem ty (cast_to u32 (term s p a)) p
term s p (x_one k ty a) = make_one k ty (term s p a)
term s p (x_cast ty a) = cast_to ty (term s p a)
term s p (x_entry n es ty a) = make_entry n es ty (term s p a)
term s p (x_two op ty a b) = make_two (kind_of op) ty (term s p a) (term s p b)
term s p (x_choose ty c a b) = make_mux ty (condition (term s p c)) (term s p a) (term s p b)

-- ---- states
-- a target: under which condition it is written, and with what
pub record Entry : Type 0 where
  pub condition : Term
  pub value : Term
  pub address : Term

pub record Terms : Type 0 where
  pub slots : List Term
  pub targets : List Entry

-- ---- the two ends of an `if` are merged by its condition
abbrev pub merge : Term → Term → Term → Term
merge c x y = if same_term x y then x else make_mux (type_of x) c x y

abbrev pub merge_condition : Term → Term → Term → Term
merge_condition c x y =
    if same_term x y then x
    else if same_term x one_term && same_term y zero_term then c
    else if same_term x zero_term && same_term y one_term then make_one k.Lnot u1 c
    else if same_term y zero_term then make_two k.Land u1 c x
    else if same_term x zero_term then make_two k.Land u1 (make_one k.Lnot u1 c) y
    else make_mux u1 c x y

abbrev pub merge_entry : Term → Entry → Entry → Entry
merge_entry c x y =
    record {
      condition = merge_condition c x.condition y.condition;
      value = if same_term x.condition zero_term then y.value else if same_term y.condition zero_term then x.value else merge c x.value y.value;
      address = if same_term x.condition zero_term then y.address else if same_term y.condition zero_term then x.address else merge c x.address y.address;
    }

abbrev pub merge_slots : Term → List Term → List Term → List Term
merge_slots c (x ∷ xs) (y ∷ ys) = merge c x y ∷ merge_slots c xs ys
merge_slots c _ _ = []

abbrev pub merge_targets : Term → List Entry → List Entry → List Entry
merge_targets c (x ∷ xs) (y ∷ ys) = merge_entry c x y ∷ merge_targets c xs ys
merge_targets c _ _ = []

abbrev pub merge_terms : Term → Terms → Terms → Terms
merge_terms c x y = record { slots = merge_slots c x.slots y.slots; targets = merge_targets c x.targets y.targets }

-- the path condition p of a branch d
abbrev pub along : Term → Term → Term
along p d = if same_term p one_term then d else make_two k.Land u1 p d

-- ---- statements
-- a constant condition runs its branch alone, on the path that led there
abbrev pub branch_path : Term → Term → Term → Term
branch_path p (t_const a raw) d = p
branch_path p c d = along p d

abbrev pub branch : Term → Terms → Terms → Terms
branch (t_const a raw) x y = if is_true (value_of a raw) then x else y
branch c x y = merge_terms c x y

abbrev pub when : Term → Term → Term
when p c = branch_path p c c

abbrev pub unless : Term → Term → Term
unless p c = branch_path p c (make_one k.Lnot u1 c)

abbrev pub test_term : List Term → Term → Expression → Term
test_term s p c = condition (term s p c)

abbrev pub run_terms : Term → Statement → Terms → Terms
run_terms p st_skip s = s
run_terms p (st_then x y) s = run_terms p y (run_terms p x s)
run_terms p (st_set k ty e) s = record { slots = set s.slots k (cast_to ty (term s.slots p e)); targets = s.targets }
run_terms p (st_write k ty e a) s =
    record {
      slots = s.slots;
      targets = set s.targets k (record { condition = one_term; value = cast_to ty (term s.slots p e); address = cast_to u32 (term s.slots p a) });
    }
run_terms p (st_if c x y) s =
    branch (test_term s.slots p c) (run_terms (when p (test_term s.slots p c)) x s) (run_terms (unless p (test_term s.slots p c)) y s)

-- ---- loads
pub record Load : Type 0 where
  pub ty : Ty
  pub address : Term
  pub condition : Term

abbrev pub expression_loads : List Term → Term → Expression → List Load
expression_loads s p (x_const ty raw) = []
expression_loads s p (x_slot k ty) = []
expression_loads s p (x_read k ty) = []
expression_loads s p (x_load ty a) = expression_loads s p a ++ record { ty = ty; address = cast_to u32 (term s p a); condition = p } ∷ []
expression_loads s p (x_one k ty a) = expression_loads s p a
expression_loads s p (x_cast ty a) = expression_loads s p a
expression_loads s p (x_entry n es ty a) = expression_loads s p a
expression_loads s p (x_two op ty a b) = expression_loads s p a ++ expression_loads s p b
expression_loads s p (x_choose ty c a b) = expression_loads s p c ++ expression_loads s p a ++ expression_loads s p b

-- the loads of both branches, or of the one that a constant condition runs
abbrev pub branch_loads : Term → List Load → List Load → List Load
branch_loads (t_const a raw) x y = if is_true (value_of a raw) then x else y
branch_loads c x y = x ++ y

abbrev pub loads : Term → Statement → Terms → List Load
loads p st_skip s = []
loads p (st_then x y) s = loads p x s ++ loads p y (run_terms p x s)
loads p (st_set k ty e) s = expression_loads s.slots p e
loads p (st_write k ty e a) s = expression_loads s.slots p a ++ expression_loads s.slots p e
loads p (st_if c x y) s =
    expression_loads s.slots p c
    ++ branch_loads (test_term s.slots p c) (loads (when p (test_term s.slots p c)) x s) (loads (unless p (test_term s.slots p c)) y s)

-- ---- what terms stand for under inputs
abbrev pub entry_value : Inputs → Entry → Option Write
entry_value i e = if is_true (value i e.condition) then Some (record { value = value i e.value; address = value i e.address }) else None

-- the numbers that a state of terms stands for
abbrev pub denoted : Inputs → Terms → Numbers
denoted i s = record { slots = map (value i) s.slots; targets = map (entry_value i) s.targets }

-- the loads whose condition is not 0, with their addresses
abbrev pub active : Inputs → List Load → List Access
active i [] = []
active i (l ∷ ls) = if is_true (value i l.condition) then record { ty = l.ty; at = value i l.address } ∷ active i ls else active i ls
