-- Statements with their names resolved: each declaration has a slot of its own (this project's choice).
use Rattle.std.specs.Prelude.{◌≡◌, ℕ, ◌+◌, ◌*◌, ◌^◌, ◌<◌, ◌≤◌, List, [], ◌∷◌, ◌++◌, map, length, Option, Some, None, false}
use Rattle.ix_bits.specs.declared.number.Ty.{Ty}
use Rattle.ix_bits.specs.declared.operator.BinOp.{BinOp}
use Rattle.ix_bits.specs.NearTypes.{type_near}
use Rattle.ix_bits.specs.ResultTypes.{binary_signed, binary_width}
use Rattle.ix_graph.specs.declared.kind.Kind.TheVariants as k
use Rattle.ix_tree.specs.TypedTrees.{TypedExprTree, t_literal, t_binary, TypedLvalueTree, tl_name, tl_pc, tl_x, tl_mem, TypedDeclTree, TypedStmtTree, ts_block, ts_empty, ts_locals, ts_assign, ts_if, ts_if_else, ts_spawn, TypedRow, typed_end, typed_more}
use Rattle.ix_mean.specs.Core.{u32, Expression, x_const, x_slot, x_read, x_cast, x_two, type_of_expression, Statement, st_skip, st_then, st_set, st_write, st_if}
use Rattle.ix_mean.specs.Meaning.{Inputs, Numbers, run, reads}
use Rattle.ix_mean.specs.ByName.{Names, Numbered, register_in}
use Rattle.ix_mean.specs.EffectByName.{type_of_text, Doing, does}
use Rattle.ix_mean.specs.ReadsByName.{read_by}
use Rattle.ix_mean.specs.Resolving.{Slot, slot_in, register_read, resolved, IsResolved, local_at}

-- the visible locals, the newest first, and the types of all slots so far
pub record Scope : Type 0 where
  pub locals : List Slot
  pub slots : List Ty

-- what a statement is resolved to, and the scope behind it
pub record Step : Type 0 where
  pub body : Statement
  pub scope : Scope

abbrev pub declared : Scope → List ℕ → Ty → Expression → Step
declared sc n ty e =
    record {
      body = st_set (length sc.slots) ty e;
      scope = record { locals = record { name = n; ty = ty; slot = length sc.slots } ∷ sc.locals; slots = sc.slots ++ ty ∷ [] };
    }

abbrev pub initial : Names → Scope → Ty → Option TypedExprTree → Expression
initial ns sc ty None = x_const ty 0
initial ns sc ty (Some e) = resolved ns sc.locals e

abbrev pub after : Step → (Scope → Step) → Step
after x rest = record { body = st_then x.body (rest x.scope).body; scope = (rest x.scope).scope }

abbrev pub declarations : Names → Ty → List TypedDeclTree → Scope → Step
declarations ns ty [] sc = record { body = st_skip; scope = sc }
declarations ns ty (d ∷ ds) sc = after (declared sc d.name ty (initial ns sc ty d.value)) (declarations ns ty ds)

-- `a op= b` is `a = (T)(a op b)`
abbrev pub operated : Option BinOp → Ty → Expression → Expression → Expression
operated None ty old e = e
operated (Some op) ty old e =
    x_cast ty (x_two op (type_near (binary_signed op (type_of_expression old) (type_of_expression e)) (binary_width op (type_of_expression old) (type_of_expression e))) old e)

abbrev pub no_address : Expression
no_address = x_const u32 0

abbrev pub register_written : Option BinOp → Expression → Option Numbered → Statement
register_written op e (Some r) = st_write (3 + r.number) r.ty (operated op r.ty (register_read r) e) no_address
register_written op e None = st_skip

abbrev pub name_written : Names → Option BinOp → List ℕ → Expression → Option Slot → Statement
name_written ns op n e (Some l) = st_set l.slot l.ty (operated op l.ty (x_slot l.slot l.ty) e)
name_written ns op n e None = register_written op e (register_in 0 ns.registers n)

-- what is stored is a byte, or as wide as the range `MEM[a+n:a]` says
abbrev pub store_type : TypedExprTree → Ty
store_type (t_binary s ty op x (t_literal s' u lt b)) = type_near false (8 * (b.raw + 1))
store_type _ = type_near false 8

abbrev pub written : Names → Scope → Option BinOp → TypedLvalueTree → Expression → Statement
written ns sc op (tl_name n) e = name_written ns op n e (slot_in sc.locals n)
written ns sc op tl_pc e = st_write 2 u32 (operated op u32 (x_read k.RdPC u32) e) no_address
written ns sc op (tl_x f) e = st_write 1 u32 e no_address
written ns sc op (tl_mem a None) e = st_write 0 (type_near false 8) e (resolved ns sc.locals a)
written ns sc op (tl_mem a (Some b)) e = st_write 0 (store_type a) e (resolved ns sc.locals b)

-- behind a block or a branch its locals are gone, and its slots stay taken
abbrev pub left : Scope → Scope → Scope
left outer inner = record { locals = outer.locals; slots = inner.slots }

abbrev pub scoped : Scope → Step → Step
scoped outer x = record { body = x.body; scope = left outer x.scope }

abbrev pub tested : Expression → Step → Step
tested c x = record { body = st_if c x.body st_skip; scope = x.scope }

abbrev pub chosen : Expression → Step → Step → Step
chosen c x y = record { body = st_if c x.body y.body; scope = y.scope }

abbrev mutual
  pub step : Names → TypedStmtTree → Scope → Step
  step ns (ts_block s all) sc = scoped sc (step_row ns all sc)
  step ns (ts_empty s) sc = record { body = st_skip; scope = sc }
  step ns (ts_locals s ty ds) sc = declarations ns (type_of_text ty) ds sc
  step ns (ts_assign s a) sc = record { body = written ns sc a.op a.target.tree (resolved ns sc.locals a.value); scope = sc }
  step ns (ts_if s c x) sc = tested (resolved ns sc.locals c) (scoped sc (step ns x sc))
  step ns (ts_if_else s c x y) sc = chosen (resolved ns sc.locals c) (scoped sc (step ns x sc)) (scoped sc (step ns y (left sc (step ns x sc).scope)))
  step ns (ts_spawn s x) sc = scoped sc (step ns x sc)

  pub step_row : Names → TypedRow → Scope → Step
  step_row ns typed_end sc = record { body = st_skip; scope = sc }
  step_row ns (typed_more x rest) sc = after (step ns x sc) (step_row ns rest)

-- ---- which statements have their names resolved so
abbrev pub IsInitial : Names → Scope → Option TypedExprTree → Type 0
IsInitial ns sc None = Unit {0}
IsInitial ns sc (Some e) = IsResolved ns sc.locals e

abbrev pub AreDeclared : Names → Ty → List TypedDeclTree → Scope → Type 0
AreDeclared ns ty [] sc = Unit {0}
AreDeclared ns ty (d ∷ ds) sc = IsInitial ns sc d.value × AreDeclared ns ty ds (declared sc d.name ty (initial ns sc ty d.value)).scope

abbrev pub IsTarget : Names → Scope → TypedLvalueTree → Type 0
IsTarget ns sc (tl_name n) = Unit {0}
IsTarget ns sc tl_pc = Unit {0}
IsTarget ns sc (tl_x f) = Unit {0}
IsTarget ns sc (tl_mem a None) = IsResolved ns sc.locals a
IsTarget ns sc (tl_mem a (Some b)) = IsResolved ns sc.locals b

abbrev mutual
  pub IsResolvedStatement : Names → TypedStmtTree → Scope → Type 0
  IsResolvedStatement ns (ts_block s all) sc = IsResolvedRow ns all sc
  IsResolvedStatement ns (ts_empty s) sc = Unit {0}
  IsResolvedStatement ns (ts_locals s ty ds) sc = AreDeclared ns (type_of_text ty) ds sc
  IsResolvedStatement ns (ts_assign s a) sc = IsResolved ns sc.locals a.value × IsTarget ns sc a.target.tree
  IsResolvedStatement ns (ts_if s c x) sc = IsResolved ns sc.locals c × IsResolvedStatement ns x sc
  IsResolvedStatement ns (ts_if_else s c x y) sc = IsResolved ns sc.locals c × IsResolvedStatement ns x sc × IsResolvedStatement ns y (left sc (step ns x sc).scope)
  IsResolvedStatement ns (ts_spawn s x) sc = IsResolvedStatement ns x sc

  pub IsResolvedRow : Names → TypedRow → Scope → Type 0
  IsResolvedRow ns typed_end sc = Unit {0}
  IsResolvedRow ns (typed_more x rest) sc = IsResolvedStatement ns x sc × IsResolvedRow ns rest (step ns x sc).scope

-- ---- the laws
-- the visible locals with the numbers of their slots, and what is written
abbrev pub doing : Scope → Numbers → Doing
doing sc s = record { locals = map (local_at s.slots) sc.locals; targets = s.targets }

-- no slot is taken yet
abbrev pub outside : Scope
outside = record { locals = []; slots = [] }

-- resolving the names of a statement keeps what it does
abbrev pub StepLaw : Type 0
StepLaw = (ns : Names) (i : Inputs) (x : TypedStmtTree) (s : Numbers) → i.word < 2 ^ 32 → IsResolvedStatement ns x outside → length (step ns x outside).scope.slots ≤ length s.slots
    → doing (step ns x outside).scope (run i (step ns x outside).body s) ≡ does ns i x (doing outside s)

-- and what it reads of memory
abbrev pub ReadsLaw : Type 0
ReadsLaw = (ns : Names) (i : Inputs) (x : TypedStmtTree) (s : Numbers) → i.word < 2 ^ 32 → IsResolvedStatement ns x outside → length (step ns x outside).scope.slots ≤ length s.slots
    → reads i (step ns x outside).body s ≡ read_by ns i x (doing outside s)
