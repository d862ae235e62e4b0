-- What a statement does, by the names in it (CoreDSL 2, statements and scopes; writes are kept apart from the state that is read, and that a spawned body acts in its place is this project's choice).
use Rattle.std.specs.Prelude.{ℕ, ◌+◌, ◌-◌, ℤ, pos, List, [], ◌∷◌, drop, length, set, Option, Some, None, if◌then◌else◌}
use Rattle.ix_bits.specs.declared.number.Ty.{Ty}
use Rattle.ix_bits.specs.declared.operator.BinOp.{BinOp}
use Rattle.ix_bits.specs.Operators.{fit, is_true, binary_number}
use Rattle.ix_tree.specs.declared.expr.TypeText.{TypeText}
use Rattle.ix_tree.specs.Lexing.{same_bytes}
use Rattle.ix_tree.specs.LoopHeads.{written_type}
use Rattle.ix_tree.specs.TypedTrees.{TypedExprTree, TypedLvalueTree, tl_name, tl_pc, tl_x, tl_mem, TypedDeclTree, TypedStmtTree, ts_block, ts_empty, ts_locals, ts_assign, ts_if, ts_if_else, ts_spawn, TypedRow, typed_end, typed_more, type_of}
use Rattle.ix_mean.specs.Core.{u1, u32}
use Rattle.ix_mean.specs.Meaning.{Inputs, Write}
use Rattle.ix_mean.specs.ByName.{Names, Local, local_in, Numbered, register_in, register_number, number_by_name}

-- the visible locals, the newest first, and what is written so far: memory 0, rd 1, the program counter 2, custom register r 3 + r
pub record Doing : Type 0 where
  pub locals : List Local
  pub targets : List (Option Write)

-- ---- scopes
-- behind a block, branch or spawned body its own locals are gone; those around it have the numbers that they were given there
abbrev pub leaves : Doing → Doing → Doing
leaves outer inner = record { locals = drop (length inner.locals - length outer.locals) inner.locals; targets = inner.targets }

abbrev pub or_u1 : Option Ty → Ty
or_u1 None = u1
or_u1 (Some ty) = ty

abbrev pub type_of_text : TypeText → Ty
type_of_text t = or_u1 (written_type t.kind)

-- a local without a value starts at 0
abbrev pub first_number : Names → Inputs → List Local → Option TypedExprTree → ℤ
first_number ns i ls None = pos 0
first_number ns i ls (Some e) = number_by_name ns i ls e

abbrev pub all_declared : Names → Inputs → Ty → List TypedDeclTree → Doing → Doing
all_declared ns i ty [] d = d
all_declared ns i ty (x ∷ xs) d =
    all_declared ns i ty xs (record { locals = record { name = x.name; ty = ty; number = first_number ns i d.locals x.value } ∷ d.locals; targets = d.targets })

-- ---- assignments
-- the local with a name has another number
abbrev pub set_local : List Local → List ℕ → ℤ → List Local
set_local [] n z = []
set_local (l ∷ ls) n z = if same_bytes l.name n then record { name = l.name; ty = l.ty; number = z } ∷ ls else l ∷ set_local ls n z

-- `a = e`, and `a op= e`, which is `a = (T)(a op e)` with T the type of a
abbrev pub assigned_number : Option BinOp → Ty → ℤ → Ty → ℤ → ℤ
assigned_number None ty old a z = z
assigned_number (Some op) ty old a z = fit ty (binary_number op ty old a z)

abbrev pub writes : ℕ → ℤ → ℤ → Doing → Doing
writes target value address d = record { locals = d.locals; targets = set d.targets target (Some (record { value = value; address = address })) }

abbrev pub assigns_register : Inputs → Option BinOp → Ty → ℤ → Option Numbered → Doing → Doing
assigns_register i op a z (Some r) d = writes (3 + r.number) (assigned_number op r.ty (register_number i r) a z) (pos 0) d
assigns_register i op a z None d = d

abbrev pub assigns_name : Names → Inputs → Option BinOp → List ℕ → Ty → ℤ → Option Local → Doing → Doing
assigns_name ns i op n a z (Some l) d = record { locals = set_local d.locals n (assigned_number op l.ty l.number a z); targets = d.targets }
assigns_name ns i op n a z None d = assigns_register i op a z (register_in 0 ns.registers n) d

-- `MEM[a+n:a]` is written from a on
abbrev pub assigns : Names → Inputs → Option BinOp → TypedLvalueTree → Ty → ℤ → Doing → Doing
assigns ns i op (tl_name n) a z d = assigns_name ns i op n a z (local_in d.locals n) d
assigns ns i op tl_pc a z d = writes 2 (assigned_number op u32 (pos i.pc) a z) (pos 0) d
assigns ns i op (tl_x f) a z d = writes 1 z (pos 0) d
assigns ns i op (tl_mem e None) a z d = writes 0 z (number_by_name ns i d.locals e) d
assigns ns i op (tl_mem e (Some f)) a z d = writes 0 z (number_by_name ns i d.locals f) d

-- ---- statements
abbrev mutual
  pub does : Names → Inputs → TypedStmtTree → Doing → Doing
  does ns i (ts_block s all) d = leaves d (does_row ns i all d)
  does ns i (ts_empty s) d = d
  does ns i (ts_locals s ty ds) d = all_declared ns i (type_of_text ty) ds d
  does ns i (ts_assign s a) d = assigns ns i a.op a.target.tree (type_of a.value) (number_by_name ns i d.locals a.value) d
  does ns i (ts_if s c x) d = if is_true (number_by_name ns i d.locals c) then leaves d (does ns i x d) else d
  does ns i (ts_if_else s c x y) d = if is_true (number_by_name ns i d.locals c) then leaves d (does ns i x d) else leaves d (does ns i y d)
  does ns i (ts_spawn s x) d = leaves d (does ns i x d)

  pub does_row : Names → Inputs → TypedRow → Doing → Doing
  does_row ns i typed_end d = d
  does_row ns i (typed_more x rest) d = does_row ns i rest (does ns i x d)
