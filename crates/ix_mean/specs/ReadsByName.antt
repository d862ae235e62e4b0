-- What a statement reads of memory, by the names in it: address and type of each read, in order (CoreDSL 2; that both sides of `?:` are read is this project's choice).
use Rattle.std.specs.Prelude.{ℕ, ℤ, List, [], ◌∷◌, ◌++◌, Option, Some, None, if◌then◌else◌}
use Rattle.ix_bits.specs.declared.number.Ty.{Ty}
use Rattle.ix_bits.specs.Operators.{is_true}
use Rattle.ix_tree.specs.TypedTrees.{TypedExprTree, t_literal, t_name, t_pc, t_x, t_mem, t_index, t_range, t_unary, t_cast, t_binary, t_choose, TypedLvalueTree, tl_name, tl_pc, tl_x, tl_mem, TypedDeclTree, TypedStmtTree, ts_block, ts_empty, ts_locals, ts_assign, ts_if, ts_if_else, ts_spawn, TypedRow, typed_end, typed_more}
use Rattle.ix_mean.specs.Meaning.{Inputs, Access}
use Rattle.ix_mean.specs.ByName.{Names, Local, local_in, Numbered, register_in, number_by_name}
use Rattle.ix_mean.specs.EffectByName.{Doing, type_of_text, first_number, does}

-- ---- expressions
-- `MEM[a]` and `MEM[a+n:a]` are read from a on, behind what a reads
abbrev pub place_accesses : Ty → TypedExprTree → List Access → List Access → ℤ → List Access
place_accesses ty (t_mem s u) base place at = place ++ record { ty = ty; at = at } ∷ []
place_accesses ty x base place at = base ++ place

-- the reads of an expression, where the locals have these numbers; the upper end of a range has no reads of its own
abbrev pub accesses_by_name : Names → Inputs → List Local → TypedExprTree → List Access
accesses_by_name ns i ls (t_literal s ty lt b) = []
accesses_by_name ns i ls (t_name s ty n) = []
accesses_by_name ns i ls (t_pc s ty) = []
accesses_by_name ns i ls (t_x s ty) = []
accesses_by_name ns i ls (t_mem s ty) = []
accesses_by_name ns i ls (t_index s ty x y) = place_accesses ty x (accesses_by_name ns i ls x) (accesses_by_name ns i ls y) (number_by_name ns i ls y)
accesses_by_name ns i ls (t_range s ty x y z) = place_accesses ty x (accesses_by_name ns i ls x) (accesses_by_name ns i ls z) (number_by_name ns i ls z)
accesses_by_name ns i ls (t_unary s ty op x) = accesses_by_name ns i ls x
accesses_by_name ns i ls (t_cast s ty to x) = accesses_by_name ns i ls x
accesses_by_name ns i ls (t_binary s ty op x y) = accesses_by_name ns i ls x ++ accesses_by_name ns i ls y
accesses_by_name ns i ls (t_choose s ty c x y) = accesses_by_name ns i ls c ++ accesses_by_name ns i ls x ++ accesses_by_name ns i ls y

-- ---- declarations and assignments
abbrev pub first_accesses : Names → Inputs → List Local → Option TypedExprTree → List Access
first_accesses ns i ls None = []
first_accesses ns i ls (Some e) = accesses_by_name ns i ls e

abbrev pub declared_reads : Names → Inputs → Ty → List TypedDeclTree → Doing → List Access
declared_reads ns i ty [] d = []
declared_reads ns i ty (x ∷ xs) d =
    first_accesses ns i d.locals x.value
    ++ declared_reads ns i ty xs (record { locals = record { name = x.name; ty = ty; number = first_number ns i d.locals x.value } ∷ d.locals; targets = d.targets })

-- what is assigned to a name that stands for nothing is not read either
abbrev pub register_reads : Option Numbered → List Access → List Access
register_reads None value = []
register_reads (Some r) value = value

abbrev pub name_reads : Names → List ℕ → Option Local → List Access → List Access
name_reads ns n (Some l) value = value
name_reads ns n None value = register_reads (register_in 0 ns.registers n) value

-- the reads of a store's address stand before those of what is stored
abbrev pub assigned_reads : Names → Inputs → List Local → TypedLvalueTree → List Access → List Access
assigned_reads ns i ls (tl_name n) value = name_reads ns n (local_in ls n) value
assigned_reads ns i ls tl_pc value = value
assigned_reads ns i ls (tl_x f) value = value
assigned_reads ns i ls (tl_mem e None) value = accesses_by_name ns i ls e ++ value
assigned_reads ns i ls (tl_mem e (Some f)) value = accesses_by_name ns i ls f ++ value

-- ---- statements: of an `if` its condition and the branch that is taken
abbrev mutual
  pub read_by : Names → Inputs → TypedStmtTree → Doing → List Access
  read_by ns i (ts_block s all) d = read_by_row ns i all d
  read_by ns i (ts_empty s) d = []
  read_by ns i (ts_locals s ty ds) d = declared_reads ns i (type_of_text ty) ds d
  read_by ns i (ts_assign s a) d = assigned_reads ns i d.locals a.target.tree (accesses_by_name ns i d.locals a.value)
  read_by ns i (ts_if s c x) d = accesses_by_name ns i d.locals c ++ (if is_true (number_by_name ns i d.locals c) then read_by ns i x d else [])
  read_by ns i (ts_if_else s c x y) d = accesses_by_name ns i d.locals c ++ (if is_true (number_by_name ns i d.locals c) then read_by ns i x d else read_by ns i y d)
  read_by ns i (ts_spawn s x) d = read_by ns i x d

  pub read_by_row : Names → Inputs → TypedRow → Doing → List Access
  read_by_row ns i typed_end d = []
  read_by_row ns i (typed_more x rest) d = read_by ns i x d ++ read_by_row ns i rest (does ns i x d)
