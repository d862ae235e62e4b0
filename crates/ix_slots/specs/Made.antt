-- Expressions and statements as the code resolves them. The places of bits are those that constants have as in the heads of loops, and at most 255
-- whatever the tree; in a typed tree they are below 128 (this project's choice).
use Rattle.std.specs.Prelude.{ℕ, ◌+◌, ◌-◌, ◌%◌, ◌^◌, min, nat_lt, int_lt, unsigned_abs, pos, List, [], ◌∷◌, Option, Some, None, false, if◌then◌else◌}
use Rattle.ix_bits.specs.declared.number.Ty.{Ty}
use Rattle.ix_bits.specs.declared.operator.BinOp.{BinOp}
use Rattle.ix_bits.specs.declared.operator.BinOp.TheVariants.{Concat}
use Rattle.ix_bits.specs.NearTypes.{type_near}
use Rattle.ix_bits.specs.ResultTypes.{binary_signed, binary_width}
use Rattle.ix_graph.specs.declared.kind.Kind.TheVariants as k
use Rattle.ix_tree.specs.declared.extension.Piece.{Piece}
use Rattle.ix_tree.specs.Lexing.{same_bytes}
use Rattle.ix_tree.specs.LoopHeads.{Valued, head_value}
use Rattle.ix_tree.specs.TypedTrees.{TypedExprTree, t_literal, t_name, t_pc, t_x, t_mem, t_index, t_range, t_unary, t_cast, t_binary, t_choose, erased, TypedLvalueTree, tl_name, tl_pc, tl_x, tl_mem, TypedAssignTree, TypedDeclTree, TypedStmtTree, ts_block, ts_empty, ts_locals, ts_assign, ts_if, ts_if_else, ts_spawn, TypedRow, typed_end, typed_more}
use Rattle.ix_mean.specs.Core.{u1, u32, Expression, x_const, x_slot, x_read, x_load, x_one, x_cast, x_entry, x_two, x_choose, type_of_expression, Statement, st_skip, st_write}
use Rattle.ix_mean.specs.ByName.{Names, Numbered, register_in, Entries, table_in}
use Rattle.ix_mean.specs.EffectByName.{type_of_text}
use Rattle.ix_mean.specs.Resolving.{Slot, slot_in, with_zeros, some_or, operand_expression, register_read, unary_kind}
use Rattle.ix_mean.specs.ResolvingStatements.{Scope, Step, declared, after, operated, no_address, name_written, store_type, left, scoped, tested, chosen}
use Rattle.ix_slots.specs.declared.field.Part.{Part}

-- ---- constants
abbrev pub place_in : Option Valued → ℕ
place_in None = 0
place_in (Some v) = if int_lt v.number (pos 0) then 0 else min (unsigned_abs v.number) 255

-- the place of a bit that a constant names
abbrev pub place_of : TypedExprTree → ℕ
place_of e = place_in (head_value (erased e) [])

-- ---- fields
abbrev pub part_of : Piece → Part
part_of p = record { hi = p.hi; lo = p.lo; at = p.at }

-- a part put among parts that are ordered from the highest down
abbrev pub put_part : Part → List Part → List Part
put_part p [] = p ∷ []
put_part p (q ∷ qs) = if nat_lt q.hi p.hi then p ∷ q ∷ qs else q ∷ put_part p qs

-- the parts of a field, from the highest down
abbrev pub parts_of : List Piece → List ℕ → List Part
parts_of [] n = []
parts_of (p ∷ ps) n = if same_bytes p.field n then put_part (part_of p) (parts_of ps n) else parts_of ps n

abbrev pub top_of_parts : List Part → ℕ
top_of_parts [] = 0
top_of_parts (p ∷ ps) = p.hi + 1

abbrev pub made_part : Part → Expression
made_part p = x_one (k.Range (min (p.at + (p.hi - p.lo)) 255) p.at) (type_near false (p.hi - p.lo + 1)) (x_read k.RdInstr u32)

-- an expression in front of another, if there is one in front
abbrev pub put_behind : Option Expression → Expression → Expression
put_behind None e = e
put_behind (Some d) e = x_two Concat (type_near (binary_signed Concat (type_of_expression d) (type_of_expression e)) (binary_width Concat (type_of_expression d) (type_of_expression e))) d e

abbrev pub with_part : Option Expression → ℕ → Part → Expression
with_part d below p = put_behind (with_zeros d (below - (p.hi + 1))) (made_part p)

abbrev pub made_from : Option Expression → ℕ → List Part → Option Expression
made_from d below [] = with_zeros d below
made_from d below (p ∷ ps) = made_from (Some (with_part d below p)) p.lo ps

abbrev pub made_field : List Piece → List ℕ → Expression
made_field ps n = some_or (made_from None (top_of_parts (parts_of ps n)) (parts_of ps n)) (x_const u1 0)

-- ---- expressions
abbrev pub made_other : Names → List ℕ → Option Numbered → Expression
made_other ns n (Some r) = register_read r
made_other ns n None = made_field ns.pieces n

abbrev pub made_name : Names → List ℕ → Option Slot → Expression
made_name ns n (Some l) = x_slot l.slot l.ty
made_name ns n None = made_other ns n (register_in 0 ns.registers n)

abbrev pub made_bits : Ty → Expression → TypedExprTree → TypedExprTree → Expression
made_bits ty base h l = x_one (k.Range (place_of h) (place_of l)) ty base

abbrev pub made_entry : Option Entries → Ty → Expression → TypedExprTree → Expression → Expression
made_entry (Some t) ty base y at = x_entry t.number t.patterns ty at
made_entry None ty base y at = made_bits ty base y y

abbrev pub made_index : Names → Ty → TypedExprTree → Expression → TypedExprTree → Expression → Expression
made_index ns ty (t_x s u) base (t_name s' u' f) at = operand_expression ns.pieces f
made_index ns ty (t_mem s u) base y at = x_load ty at
made_index ns ty (t_name s u n) base y at = made_entry (table_in 0 ns.tables n) ty base y at
made_index ns ty x base y at = made_bits ty base y y

abbrev pub made_range : Ty → TypedExprTree → Expression → TypedExprTree → TypedExprTree → Expression → Expression
made_range ty (t_mem s u) base h l at = x_load ty at
made_range ty x base h l at = made_bits ty base h l

abbrev pub made : Names → List Slot → TypedExprTree → Expression
made ns ls (t_literal s ty lt b) = x_const ty (b.raw % 2 ^ ty.width)
made ns ls (t_name s ty n) = made_name ns n (slot_in ls n)
made ns ls (t_pc s ty) = x_read k.RdPC u32
made ns ls (t_x s ty) = x_const ty 0
made ns ls (t_mem s ty) = x_const ty 0
made ns ls (t_index s ty x y) = made_index ns ty x (made ns ls x) y (made ns ls y)
made ns ls (t_range s ty x y z) = made_range ty x (made ns ls x) y z (made ns ls z)
made ns ls (t_unary s ty op x) = x_one (unary_kind op) ty (made ns ls x)
made ns ls (t_cast s ty to x) = x_cast ty (made ns ls x)
made ns ls (t_binary s ty op x y) = x_two op ty (made ns ls x) (made ns ls y)
made ns ls (t_choose s ty c x y) = x_choose ty (made ns ls c) (made ns ls x) (made ns ls y)

-- ---- statements
abbrev pub made_initial : Names → Scope → Ty → Option TypedExprTree → Expression
made_initial ns sc ty None = x_const ty 0
made_initial ns sc ty (Some e) = made ns sc.locals e

abbrev pub made_declared : Names → Ty → TypedDeclTree → Scope → Step
made_declared ns ty d sc = declared sc d.name ty (made_initial ns sc ty d.value)

abbrev pub made_declarations : Names → Ty → List TypedDeclTree → Scope → Step
made_declarations ns ty [] sc = record { body = st_skip; scope = sc }
made_declarations ns ty (d ∷ ds) sc = after (made_declared ns ty d sc) (made_declarations ns ty ds)

abbrev pub made_written : Names → Scope → Option BinOp → TypedLvalueTree → Expression → Statement
made_written ns sc op (tl_name n) e = name_written ns op n e (slot_in sc.locals n)
made_written ns sc op tl_pc e = st_write 2 u32 (operated op u32 (x_read k.RdPC u32) e) no_address
made_written ns sc op (tl_x f) e = st_write 1 u32 e no_address
made_written ns sc op (tl_mem a None) e = st_write 0 (type_near false 8) e (made ns sc.locals a)
made_written ns sc op (tl_mem a (Some b)) e = st_write 0 (store_type a) e (made ns sc.locals b)

abbrev pub made_assigned : Names → Scope → TypedAssignTree → Statement
made_assigned ns sc a = made_written ns sc a.op a.target.tree (made ns sc.locals a.value)

abbrev mutual
  pub made_step : Names → TypedStmtTree → Scope → Step
  made_step ns (ts_block s all) sc = scoped sc (made_row ns all sc)
  made_step ns (ts_empty s) sc = record { body = st_skip; scope = sc }
  made_step ns (ts_locals s ty ds) sc = made_declarations ns (type_of_text ty) ds sc
  made_step ns (ts_assign s a) sc = record { body = made_assigned ns sc a; scope = sc }
  made_step ns (ts_if s c x) sc = tested (made ns sc.locals c) (scoped sc (made_step ns x sc))
  made_step ns (ts_if_else s c x y) sc = chosen (made ns sc.locals c) (scoped sc (made_step ns x sc)) (scoped sc (made_step ns y (left sc (made_step ns x sc).scope)))
  made_step ns (ts_spawn s x) sc = scoped sc (made_step ns x sc)

  pub made_row : Names → TypedRow → Scope → Step
  made_row ns typed_end sc = record { body = st_skip; scope = sc }
  made_row ns (typed_more x rest) sc = after (made_step ns x sc) (made_row ns rest)
