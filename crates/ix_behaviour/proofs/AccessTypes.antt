-- What a typed statement reads from memory and stores has the type of a byte, a half word or a word.
use Rattle.std.proofs.Common.{◌≡◌, sym, subst, refl, ℕ, zero, suc, ◌+◌, ◌-◌, arith, List, [], ◌∷◌, Option, Some, None, Bool, true, false, cond, inl, inr}
use Rattle.std.specs.Prelude.{nat_eq}
use Rattle.std.proofs.lemmas.Bool.{cond_both, eqb-true}
use Rattle.ix_bits.specs.declared.number.Ty.{Ty}
use Rattle.ix_bits.specs.declared.operator.BinOp.{BinOp}
use Rattle.ix_bits.specs.declared.operator.BinOp.TheVariants as Op
use Rattle.ix_bits.specs.NearTypes.{type_near}
use Rattle.ix_graph.specs.declared.kind.Kind.TheVariants as k
use Rattle.ix_tree.specs.declared.extension.Piece.{Piece}
use Rattle.ix_tree.specs.declared.token.Span.{Span}
use Rattle.ix_tree.specs.Trees.{ExprTree, e_literal, e_name, e_pc, e_x, e_mem, e_index, e_range, e_unary, e_cast, e_binary, e_choose}
use Rattle.ix_tree.specs.TypedTrees.{TypedExprTree, t_literal, t_name, t_pc, t_x, t_mem, t_index, t_range, t_unary, t_cast, t_binary, t_choose, TypedDeclTree, TypedLvalueTree, tl_name, tl_pc, tl_x, tl_mem, TypedStmtTree, ts_block, ts_empty, ts_locals, ts_assign, ts_if, ts_if_else, ts_spawn, TypedRow, typed_end, typed_more, type_of, erased}
use Rattle.ix_typing.specs.declared.state.Setting.{Setting}
use Rattle.ix_typing.specs.declared.state.State.{State}
use Rattle.ix_typing.specs.declared.targets.Target.{Target}
use Rattle.ix_typing.specs.Expressions.{width_by, width_of_sum, width_loaded}
use Rattle.ix_typing.specs.Statements.{with_accessed, with_spawn, scope_end, other_path, below_if, below_spawn}
use Rattle.ix_typing.specs.Assignments.{is_update}
use Rattle.ix_typed.specs.Expressions.{IsLoaded, IsBase, IsWord, IsElement, IsRange, IsExpr}
use Rattle.ix_typed.specs.Assignments.{IsPlace}
use Rattle.ix_typed.specs.Statements.{IsInitial, AreDecls, IsStmt, IsRow}
use Rattle.ix_mean.specs.Core.{u1, u32, Expression, x_const, x_slot, x_read, Statement, st_skip, st_then, st_set, st_write, st_if}
use Rattle.ix_mean.specs.EffectByName.{type_of_text}
use Rattle.ix_mean.specs.ByName.{Names, Numbered, register_in, Entries, table_in, stands_at_15}
use Rattle.ix_mean.specs.Resolving.{Slot, slot_in, word_part, behind, with_zeros, field_from, pieces_of, ordered, top_of, some_or, field_expression, operand_expression, register_read, resolved_other, resolved_name, resolved_entry, resolved_index, resolved_range, resolved}
use Rattle.ix_mean.specs.ResolvingStatements.{Scope, declared, initial, declarations, operated, register_written, name_written, store_type, written, step, step_row, left}
use Rattle.ix_behaviour.specs.Behaviours.{first_of, stored_in, or_byte, stored_type}
use Rattle.ix_behaviour.specs.Accesses.{IsAccessType, LoadsAreTyped, AccessesAreTyped}
use Rattle.ix_behaviour.proofs.Assigned.{range_type}

-- ---- types
byte_type : IsAccessType (type_near false 8)
byte_type = inl (record { unsigned = refl; wide = refl })

half_type : IsAccessType (type_near false 16)
half_type = inr (inl (record { unsigned = refl; wide = refl }))

word_type : IsAccessType (type_near false 32)
word_type = inr (inr (record { unsigned = refl; wide = refl }))

by_type : (x : ExprTree) (w : ℕ) → width_by x ≡ Some w → IsAccessType (type_near false w)
by_type (e_literal s ty b) w e = by (nat_eq b.raw 1) (nat_eq b.raw 3) e
  where
    P : ℕ → Type 0
    P n = IsAccessType (type_near false n)

    by : (c d : Bool) → cond c (Some 16) (cond d (Some 32) None) ≡ Some w → IsAccessType (type_near false w)
    by true d f = let same : 16 ≡ w = cc in subst P same half_type
    by false true f = let same : 32 ≡ w = cc in subst P same word_type
    by false false f = cc
by_type (e_name s n) w e = cc
by_type (e_pc s) w e = cc
by_type (e_x s) w e = cc
by_type (e_mem s) w e = cc
by_type (e_index s x i) w e = cc
by_type (e_range s x h l) w e = cc
by_type (e_unary s op x) w e = cc
by_type (e_cast s to x) w e = cc
by_type (e_binary s op x y) w e = cc
by_type (e_choose s c x y) w e = cc

some_width : (b : Bool) (o : Option ℕ) (w : ℕ) → cond b o None ≡ Some w → o ≡ Some w
some_width true o w e = e
some_width false o w e = cc

sum_type : (op : BinOp) (a by l : ExprTree) (w : ℕ) → width_of_sum op a by l ≡ Some w → IsAccessType (type_near false w)
sum_type Op.Add a by l w e = by_type by w (some_width _ (width_by by) w e)
sum_type Op.Sub a by l w e = cc
sum_type Op.Mul a by l w e = cc
sum_type Op.And a by l w e = cc
sum_type Op.Or a by l w e = cc
sum_type Op.Xor a by l w e = cc
sum_type Op.Shl a by l w e = cc
sum_type Op.Shr a by l w e = cc
sum_type Op.Eq a by l w e = cc
sum_type Op.Ne a by l w e = cc
sum_type Op.Lt a by l w e = cc
sum_type Op.Le a by l w e = cc
sum_type Op.Gt a by l w e = cc
sum_type Op.Ge a by l w e = cc
sum_type Op.Land a by l w e = cc
sum_type Op.Lor a by l w e = cc
sum_type Op.Concat a by l w e = cc

width_type : (h l : ExprTree) (w : ℕ) → width_loaded h l ≡ Some w → IsAccessType (type_near false w)
width_type (e_binary s op a by) l w e = sum_type op a by l w e
width_type (e_literal s ty b) l w e = cc
width_type (e_name s n) l w e = cc
width_type (e_pc s) l w e = cc
width_type (e_x s) l w e = cc
width_type (e_mem s) l w e = cc
width_type (e_index s x i) l w e = cc
width_type (e_range s x h j) l w e = cc
width_type (e_unary s op x) l w e = cc
width_type (e_cast s to x) l w e = cc
width_type (e_choose s c x y) l w e = cc

-- what is loaded of a width that has such a type
loaded_type : (o : Option ℕ) (at ty : Ty) → ((w : ℕ) → o ≡ Some w → IsAccessType (type_near false w)) → IsLoaded o at ty → IsAccessType ty
loaded_type None at ty f h = absurd h
loaded_type (Some w) at ty f h = subst IsAccessType (sym h.1) (f w refl)

-- what is stored there has the same type
stored_there : (o : Option ℕ) (at ty stored : Ty) → ((w : ℕ) → o ≡ Some w → IsAccessType (type_near false w)) → ((w : ℕ) → o ≡ Some w → stored ≡ type_near false w) → IsLoaded o at ty → IsAccessType stored
stored_there None at ty stored f g h = absurd h
stored_there (Some w) at ty stored f g h = subst IsAccessType (sym (g w refl)) (f w refl)

eight : (w : ℕ) → Some 8 ≡ Some w → IsAccessType (type_near false w)
eight w e = let P : ℕ → Type 0 = λ n. IsAccessType (type_near false n) in let same : 8 ≡ w = cc in subst P same byte_type

-- ---- names stand for no read of memory
-- an expression, if there is one
abbrev MayLoad : Option Expression → Type 0
MayLoad None = Unit {0}
MayLoad (Some e) = LoadsAreTyped e

behind_typed : (d : Option Expression) (e : Expression) → MayLoad d → LoadsAreTyped e → MayLoad (behind d e)
behind_typed None e h g = g
behind_typed (Some d) e h g = (h, g)

zeros_typed : (d : Option Expression) (n : ℕ) → MayLoad d → MayLoad (with_zeros d n)
zeros_typed d zero h = h
zeros_typed d (suc n) h = behind_typed d (x_const (type_near false (suc n)) 0) h tt

from_typed : (d : Option Expression) (below : ℕ) (ps : List Piece) → MayLoad d → MayLoad (field_from d below ps)
from_typed d below [] h = zeros_typed d below h
from_typed d below (p ∷ ps) h = from_typed (behind (with_zeros d (below - (p.hi + 1))) (word_part p)) p.lo ps (behind_typed (with_zeros d (below - (p.hi + 1))) (word_part p) (zeros_typed d (below - (p.hi + 1)) h) tt)

some_typed : (d : Option Expression) → MayLoad d → LoadsAreTyped (some_or d (x_const u1 0))
some_typed None h = tt
some_typed (Some e) h = h

field_typed : (ps : List Piece) (n : List ℕ) → LoadsAreTyped (field_expression ps n)
field_typed ps n = let qs = ordered (pieces_of ps n) in some_typed (field_from None (top_of qs) qs) (from_typed None (top_of qs) qs tt)

other_typed : (ns : Names) (n : List ℕ) (o : Option Numbered) → LoadsAreTyped (resolved_other ns n o)
other_typed ns n None = field_typed ns.pieces n
other_typed ns n (Some r) = tt

name_typed : (ns : Names) (n : List ℕ) (o : Option Slot) → LoadsAreTyped (resolved_name ns n o)
name_typed ns n None = other_typed ns n (register_in 0 ns.registers n)
name_typed ns n (Some l) = tt

operand_typed : (ps : List Piece) (n : List ℕ) → LoadsAreTyped (operand_expression ps n)
operand_typed ps n = cond_both (stands_at_15 ps n) (x_read k.RdRS1 u32) (x_read k.RdRS2 u32) LoadsAreTyped (λ e. tt) (λ e. tt)

entry_typed : (o : Option Entries) (ty : Ty) (base at : Expression) → LoadsAreTyped base → LoadsAreTyped at → LoadsAreTyped (resolved_entry o ty base at)
entry_typed None ty base at h g = h
entry_typed (Some t) ty base at h g = g

-- ---- expressions
module _ (ns : Names) (g : Setting) (st : State) (ls : List Slot) where
  abbrev Loads : TypedExprTree → Type 0
  Loads e = (a c : Bool) → IsExpr g st a e c → LoadsAreTyped (resolved ns ls e)

  x_typed : (i : TypedExprTree) (r : Span) (u ty : Ty) → LoadsAreTyped (resolved_index ns ty (t_x r u) (resolved ns ls (t_x r u)) i (resolved ns ls i))
  x_typed (t_name s v f) r u ty = operand_typed ns.pieces f
  x_typed (t_literal s v w o) r u ty = tt
  x_typed (t_pc s v) r u ty = tt
  x_typed (t_x s v) r u ty = tt
  x_typed (t_mem s v) r u ty = tt
  x_typed (t_index s v x j) r u ty = tt
  x_typed (t_range s v x y z) r u ty = tt
  x_typed (t_unary s v op x) r u ty = tt
  x_typed (t_cast s v to x) r u ty = tt
  x_typed (t_binary s v op x y) r u ty = tt
  x_typed (t_choose s v d x y) r u ty = tt

  index_typed : (x i : TypedExprTree) (ty : Ty) (a b c : Bool) → Loads x → Loads i → IsBase g st a x b (IsExpr g st a x b) → IsExpr g st b i c → IsElement g st x i ty
      → LoadsAreTyped (resolved_index ns ty x (resolved ns ls x) i (resolved ns ls i))
  index_typed (t_x r u) i ty a b c p q h m w = x_typed i r u ty
  index_typed (t_mem r u) i ty a b c p q h m w = (loaded_type (Some 8) (type_of i) ty eight w, q b c m)
  index_typed (t_name r u n) i ty a b c p q h m w = entry_typed (table_in 0 ns.tables n) ty (resolved ns ls (t_name r u n)) (resolved ns ls i) (name_typed ns n (slot_in ls n)) (q b c m)
  index_typed (t_literal r u v o) i ty a b c p q h m w = p a b h
  index_typed (t_pc r u) i ty a b c p q h m w = p a b h
  index_typed (t_index r u x j) i ty a b c p q h m w = p a b h
  index_typed (t_range r u x y z) i ty a b c p q h m w = p a b h
  index_typed (t_unary r u op x) i ty a b c p q h m w = p a b h
  index_typed (t_cast r u to x) i ty a b c p q h m w = p a b h
  index_typed (t_binary r u op x y) i ty a b c p q h m w = p a b h
  index_typed (t_choose r u d x y) i ty a b c p q h m w = p a b h

  range_typed : (x y z : TypedExprTree) (ty : Ty) (a b d c : Bool) → Loads x → Loads z → IsWord g st a x b (IsExpr g st a x b) → IsExpr g st d z c → IsRange x y z ty
      → LoadsAreTyped (resolved_range ty x (resolved ns ls x) (resolved ns ls y) (resolved ns ls z))
  range_typed (t_x r u) y z ty a b d c p q h m w = absurd w
  range_typed (t_mem r u) y z ty a b d c p q h m w = (loaded_type (width_loaded (erased y) (erased z)) (type_of z) ty (width_type (erased y) (erased z)) w, q d c m)
  range_typed (t_name r u n) y z ty a b d c p q h m w = p a b h
  range_typed (t_literal r u v o) y z ty a b d c p q h m w = p a b h
  range_typed (t_pc r u) y z ty a b d c p q h m w = p a b h
  range_typed (t_index r u x j) y z ty a b d c p q h m w = p a b h
  range_typed (t_range r u x v o) y z ty a b d c p q h m w = p a b h
  range_typed (t_unary r u op x) y z ty a b d c p q h m w = p a b h
  range_typed (t_cast r u to x) y z ty a b d c p q h m w = p a b h
  range_typed (t_binary r u op x v) y z ty a b d c p q h m w = p a b h
  range_typed (t_choose r u e x v) y z ty a b d c p q h m w = p a b h

  loads_typed : (e : TypedExprTree) → Loads e
  loads_typed (t_literal s ty u b) a c h = tt
  loads_typed (t_name s ty n) a c h = name_typed ns n (slot_in ls n)
  loads_typed (t_pc s ty) a c h = tt
  loads_typed (t_x s ty) a c h = absurd h
  loads_typed (t_mem s ty) a c h = absurd h
  loads_typed (t_index s ty x i) a c h = index_typed x i ty a h.0 c (loads_typed x) (loads_typed i) h.1 h.2 h.3
  loads_typed (t_range s ty x y z) a c h = range_typed x y z ty a h.0 h.1 c (loads_typed x) (loads_typed z) h.2 h.4 h.5
  loads_typed (t_unary s ty op x) a c h = loads_typed x a c h.0
  loads_typed (t_cast s ty to x) a c h = loads_typed x a c h.0
  loads_typed (t_binary s ty op x y) a c h = (loads_typed x a h.0 h.1, loads_typed y h.0 c h.2)
  loads_typed (t_choose s ty d x y) a c h = (loads_typed d a h.0 h.2, loads_typed x h.0 h.1 h.3, loads_typed y h.1 c h.4)

-- ---- statements
module _ (ns : Names) where
  operated_typed : (op : Option BinOp) (ty : Ty) (old e : Expression) → LoadsAreTyped old → LoadsAreTyped e → LoadsAreTyped (operated op ty old e)
  operated_typed None ty old e h g = g
  operated_typed (Some op) ty old e h g = (h, g)

  register_typed : (op : Option BinOp) (e : Expression) (o : Option Numbered) → LoadsAreTyped e → AccessesAreTyped (register_written op e o)
  register_typed op e None h = tt
  register_typed op e (Some r) h = ((λ z. absurd (omega (arith, z))), operated_typed op r.ty (register_read r) e tt h, tt)

  target_typed : (op : Option BinOp) (n : List ℕ) (e : Expression) (o : Option Slot) → LoadsAreTyped e → AccessesAreTyped (name_written ns op n e o)
  target_typed op n e None h = register_typed op e (register_in 0 ns.registers n) h
  target_typed op n e (Some l) h = operated_typed op l.ty (x_slot l.slot l.ty) e tt h

  place_typed : (g : Setting) (st : State) (sc : Scope) (op : Option BinOp) (x : TypedLvalueTree) (ty : Ty) (w : Option Target) (c : Bool) (e : Expression) → IsPlace g st (is_update op) x ty w c → LoadsAreTyped e
      → AccessesAreTyped (written ns sc op x e)
  place_typed g st sc op (tl_name n) ty w c e h v = target_typed op n e (slot_in sc.locals n) v
  place_typed g st sc op tl_pc ty w c e h v = ((λ z. absurd (omega (arith, z))), operated_typed op u32 (x_read k.RdPC u32) e tt v, tt)
  place_typed g st sc op (tl_x f) ty w c e h v = ((λ z. absurd (omega (arith, z))), v, tt)
  place_typed g st sc op (tl_mem a None) ty w c e h v = ((λ z. byte_type), v, loads_typed ns g st sc.locals a st.accessed h.0 h.1)
  place_typed g st sc op (tl_mem x (Some a)) ty w c e h v =
      let there = stored_there (width_loaded (erased x) (erased a)) (type_of a) ty (store_type x) (width_type (erased x) (erased a)) (range_type x a) h.4 in
      ((λ z. there), v, loads_typed ns g st sc.locals a h.0 h.1 h.3)

  first_typed : (g : Setting) (st mid : State) (sc : Scope) (ty : Ty) (o : Option TypedExprTree) → IsInitial g ty st o mid → LoadsAreTyped (initial ns sc ty o)
  first_typed g st mid sc ty None h = tt
  first_typed g st mid sc ty (Some e) h = loads_typed ns g st sc.locals e st.accessed h.0 h.1

  decls_typed : (g : Setting) (st after : State) (sc : Scope) (ty goal : Ty) (ds : List TypedDeclTree) → AreDecls g ty st ds after → AccessesAreTyped (declarations ns goal ds sc).body
  decls_typed g st after sc ty goal [] h = tt
  decls_typed g st after sc ty goal (d ∷ ds) h =
      (declared_typed d.value h.1.1.1, decls_typed g h.0 after (declared sc d.name goal (initial ns sc goal d.value)).scope ty goal ds h.2)
    where
      declared_typed : (o : Option TypedExprTree) → IsInitial g ty st o h.1.1.0 → LoadsAreTyped (initial ns sc goal o)
      declared_typed None i = tt
      declared_typed (Some e) i = loads_typed ns g st sc.locals e st.accessed i.0 i.1

  mutual
    pub stmt_typed : (g : Setting) (st after : State) (sc : Scope) (x : TypedStmtTree) → IsStmt g st x after → AccessesAreTyped (step ns x sc).body
    stmt_typed g st after sc (ts_block s all) h = row_typed g st h.0 sc all h.1
    stmt_typed g st after sc (ts_empty s) h = tt
    stmt_typed g st after sc (ts_locals s text ds) h = decls_typed g st after sc h.0 (type_of_text text) ds h.2
    stmt_typed g st after sc (ts_assign s a) h = place_typed g st sc a.op a.target.tree h.0 h.1 h.2 (resolved ns sc.locals a.value) h.4 (loads_typed ns g st sc.locals a.value h.2 h.3 h.5)
    stmt_typed g st after sc (ts_if s c x) h = (loads_typed ns g st sc.locals c st.accessed h.0 h.2, stmt_typed (below_if g) (with_accessed st h.0) h.1 sc x h.3, tt)
    stmt_typed g st after sc (ts_if_else s c x y) h = (
      loads_typed ns g st sc.locals c st.accessed h.0 h.3,
      stmt_typed (below_if g) (with_accessed st h.0) h.1 sc x h.4,
      stmt_typed (below_if g) (other_path (with_accessed st h.0) (scope_end (with_accessed st h.0) h.1)) h.2 (left sc (step ns x sc).scope) y h.5,
    )
    stmt_typed g st after sc (ts_spawn s x) h = stmt_typed (below_spawn g) (with_spawn st) h.1.0 sc x h.1.1

    row_typed : (g : Setting) (st after : State) (sc : Scope) (all : TypedRow) → IsRow g st all after → AccessesAreTyped (step_row ns all sc).body
    row_typed g st after sc typed_end h = tt
    row_typed g st after sc (typed_more x rest) h = (stmt_typed g st h.0 sc x h.1, row_typed g h.0 after (step ns x sc).scope rest h.2)

-- ---- what is stored
abbrev MayStore : Option Ty → Type 0
MayStore None = Unit {0}
MayStore (Some ty) = IsAccessType ty

first_stored : (o p : Option Ty) → MayStore o → MayStore p → MayStore (first_of o p)
first_stored None p h g = g
first_stored (Some ty) p h g = h

stored_typed : (x : Statement) → AccessesAreTyped x → MayStore (stored_in x)
stored_typed st_skip h = tt
stored_typed (st_then x y) h = first_stored (stored_in x) (stored_in y) (stored_typed x h.0) (stored_typed y h.1)
stored_typed (st_set n ty e) h = tt
stored_typed (st_write n ty e a) h = by (nat_eq n 0) refl
  where
    by : (b : Bool) → nat_eq n 0 ≡ b → MayStore (cond b (Some ty) None)
    by true f = h.0 (eqb-true n 0 f)
    by false f = tt
stored_typed (st_if c x y) h = first_stored (stored_in x) (stored_in y) (stored_typed x h.1) (stored_typed y h.2)

byte_or : (o : Option Ty) → MayStore o → IsAccessType (or_byte o)
byte_or None h = byte_type
byte_or (Some ty) h = h

pub stored_is : (x : Statement) → AccessesAreTyped x → IsAccessType (stored_type x)
stored_is x h = byte_or (stored_in x) (stored_typed x h)
