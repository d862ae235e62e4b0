-- Statements: what the code makes is what the names resolve to, and behind a statement the locals around it stand as before.
use Rattle.std.proofs.Common.{◌≡◌, ◌∙◌, sym, ap, refl, ℕ, ◌-◌, List, [], ◌∷◌, ◌++◌, append_assoc, length, length-append, drop, Option, Some, None, arith}
use Rattle.std.proofs.Math.Seq.{drop-append_seam}
use Rattle.ix_bits.specs.declared.number.Ty.{Ty}
use Rattle.ix_bits.specs.declared.operator.BinOp.{BinOp}
use Rattle.std.specs.Prelude.{false}
use Rattle.ix_bits.specs.NearTypes.{type_near}
use Rattle.ix_tree.specs.TypedTrees.{TypedExprTree, TypedLvalueTree, tl_name, tl_pc, tl_x, tl_mem, TypedDeclTree, TypedStmtTree, ts_block, ts_empty, ts_locals, ts_assign, ts_if, ts_if_else, ts_spawn, TypedRow, typed_end, typed_more}
use Rattle.ix_graph.specs.declared.kind.Kind.TheVariants as k
use Rattle.ix_mean.specs.Core.{u32, Expression, x_slot, x_read, Statement, st_then, st_write}
use Rattle.ix_mean.specs.Typing.{Frame, IsTypedExpression, IsTypedStatement}
use Rattle.ix_mean.specs.ByName.{Names, Numbered, register_in}
use Rattle.ix_mean.specs.EffectByName.{type_of_text}
use Rattle.ix_mean.specs.Resolving.{Slot, slot_in, resolved, register_read}
use Rattle.ix_mean.specs.ResolvingStatements.{Scope, Step, declared, initial, after, declarations, operated, no_address, register_written, name_written, written, store_type, left, scoped, tested, chosen, step, step_row, IsInitial, AreDeclared, IsTarget, IsResolvedStatement, IsResolvedRow}
use Rattle.ix_slots.specs.Made.{made, made_initial, made_declared, made_declarations, made_written, made_step, made_row}
use Rattle.ix_slots.proofs.Makes.{made_is}

-- ---- declarations
initial_is : (f : Frame) (ns : Names) (sc : Scope) (ty : Ty) (o : Option TypedExprTree) → IsTypedExpression f (initial ns sc ty o) → IsInitial ns sc o
    → made_initial ns sc ty o ≡ initial ns sc ty o
initial_is f ns sc ty None h r = refl
initial_is f ns sc ty (Some e) h r = made_is f ns sc.locals e h r

declarations_are : (f : Frame) (ns : Names) (ty : Ty) (ds : List TypedDeclTree) (sc : Scope) → IsTypedStatement f (declarations ns ty ds sc).body → AreDeclared ns ty ds sc
    → made_declarations ns ty ds sc ≡ declarations ns ty ds sc
declarations_are f ns ty [] sc h r = refl
declarations_are f ns ty (d ∷ ds) sc h r =
    let one = initial_is f ns sc ty d.value h.0.0 r.0 in
    ap (λ (e : Expression). after (declared sc d.name ty e) (made_declarations ns ty ds)) one
    ∙ ap (λ (x : Step). let y : Step = record { body = st_then (declared sc d.name ty (initial ns sc ty d.value)).body x.body; scope = x.scope } in y)
    (declarations_are f ns ty ds (declared sc d.name ty (initial ns sc ty d.value)).scope h.1 r.1)

-- ---- assignments
value_typed : (f : Frame) (op : Option BinOp) (ty : Ty) (old e : Expression) → IsTypedExpression f (operated op ty old e) → IsTypedExpression f e
value_typed f None ty old e h = h
value_typed f (Some op) ty old e h = h.1

register_is : (f : Frame) (op : Option BinOp) (e g : Expression) (o : Option Numbered) → (IsTypedExpression f g → e ≡ g) → IsTypedStatement f (register_written op g o)
    → register_written op e o ≡ register_written op g o
register_is f op e g (Some r) p h = ap (λ (z : Expression). register_written op z (Some r)) (p (value_typed f op r.ty (register_read r) g h.0))
register_is f op e g None p h = refl

name_is : (f : Frame) (ns : Names) (op : Option BinOp) (n : List ℕ) (e g : Expression) (o : Option Slot) → (IsTypedExpression f g → e ≡ g) → IsTypedStatement f (name_written ns op n g o)
    → name_written ns op n e o ≡ name_written ns op n g o
name_is f ns op n e g (Some l) p h = ap (λ (z : Expression). name_written ns op n z (Some l)) (p (value_typed f op l.ty (x_slot l.slot l.ty) g h.0))
name_is f ns op n e g None p h = register_is f op e g (register_in 0 ns.registers n) p h

written_is : (f : Frame) (ns : Names) (sc : Scope) (op : Option BinOp) (t : TypedLvalueTree) (e g : Expression) → (IsTypedExpression f g → e ≡ g)
    → IsTypedStatement f (written ns sc op t g) → IsTarget ns sc t → made_written ns sc op t e ≡ written ns sc op t g
written_is f ns sc op (tl_name n) e g p h r = name_is f ns op n e g (slot_in sc.locals n) p h
written_is f ns sc op tl_pc e g p h r =
    ap (λ (z : Expression). st_write 2 u32 (operated op u32 (x_read k.RdPC u32) z) no_address) (p (value_typed f op u32 (x_read k.RdPC u32) g h.0))
written_is f ns sc op (tl_x x) e g p h r = ap (λ (z : Expression). st_write 1 u32 z no_address) (p h.0)
written_is f ns sc op (tl_mem a None) e g p h r =
    ap (λ (z : Expression). st_write 0 (type_near false 8) z (made ns sc.locals a)) (p h.0) ∙ ap (st_write 0 (type_near false 8) g) (made_is f ns sc.locals a h.1 r)
written_is f ns sc op (tl_mem a (Some b)) e g p h r =
    ap (λ (z : Expression). st_write 0 (store_type a) z (made ns sc.locals b)) (p h.0) ∙ ap (st_write 0 (store_type a) g) (made_is f ns sc.locals b h.1 r)

-- ---- statements
mutual
  pub made_step_is : (f : Frame) (ns : Names) (x : TypedStmtTree) (sc : Scope) → IsTypedStatement f (step ns x sc).body → IsResolvedStatement ns x sc → made_step ns x sc ≡ step ns x sc
  made_step_is f ns (ts_block s all) sc h r = ap (scoped sc) (made_row_is f ns all sc h r)
  made_step_is f ns (ts_empty s) sc h r = refl
  made_step_is f ns (ts_locals s ty ds) sc h r = declarations_are f ns (type_of_text ty) ds sc h r
  made_step_is f ns (ts_assign s a) sc h r =
      ap (λ (z : Statement). let y : Step = record { body = z; scope = sc } in y)
      (written_is f ns sc a.op a.target.tree (made ns sc.locals a.value) (resolved ns sc.locals a.value) (λ t. made_is f ns sc.locals a.value t r.0) h r.1)
  made_step_is f ns (ts_if s c x) sc h r =
      ap (λ (z : Expression). tested z (scoped sc (made_step ns x sc))) (made_is f ns sc.locals c h.0 r.0)
      ∙ ap (λ (z : Step). tested (resolved ns sc.locals c) (scoped sc z)) (made_step_is f ns x sc h.1 r.1)
  made_step_is f ns (ts_if_else s c x y) sc h r =
      ap (λ (z : Expression). chosen z (scoped sc (made_step ns x sc)) (scoped sc (made_step ns y (left sc (made_step ns x sc).scope)))) (made_is f ns sc.locals c h.0 r.0)
      ∙ ap (λ (z : Step). chosen (resolved ns sc.locals c) (scoped sc z) (scoped sc (made_step ns y (left sc z.scope)))) (made_step_is f ns x sc h.1 r.1)
      ∙ ap (λ (z : Step). chosen (resolved ns sc.locals c) (scoped sc (step ns x sc)) (scoped sc z)) (made_step_is f ns y (left sc (step ns x sc).scope) h.2 r.2)
  made_step_is f ns (ts_spawn s x) sc h r = ap (scoped sc) (made_step_is f ns x sc h r)

  pub made_row_is : (f : Frame) (ns : Names) (xs : TypedRow) (sc : Scope) → IsTypedStatement f (step_row ns xs sc).body → IsResolvedRow ns xs sc → made_row ns xs sc ≡ step_row ns xs sc
  made_row_is f ns typed_end sc h r = refl
  made_row_is f ns (typed_more x rest) sc h r =
      ap (λ (z : Step). after z (made_row ns rest)) (made_step_is f ns x sc h.0 r.0)
      ∙ ap (λ (z : Step). let y : Step = record { body = st_then (step ns x sc).body z.body; scope = z.scope } in y) (made_row_is f ns rest (step ns x sc).scope h.1 r.1)

-- ---- scopes
-- the locals of a scope stand in another behind newer ones
pub record Extends (old new : Scope) : Type 0 where
  pub newer : List Slot
  pub is : new.locals ≡ newer ++ old.locals

extends_self : (sc : Scope) (slots : List Ty) → let new : Scope = record { locals = sc.locals; slots = slots } in Extends sc new
extends_self sc slots = record { newer = []; is = refl }

extends_on : (a b c : Scope) → Extends a b → Extends b c → Extends a c
extends_on a b c p q = record { newer = q.newer ++ p.newer; is = q.is ∙ ap (λ (z : List Slot). q.newer ++ z) p.is ∙ sym (append_assoc q.newer p.newer a.locals) }

declarations_extend : (ns : Names) (ty : Ty) (ds : List TypedDeclTree) (sc : Scope) → Extends sc (made_declarations ns ty ds sc).scope
declarations_extend ns ty [] sc = extends_self sc sc.slots
declarations_extend ns ty (d ∷ ds) sc =
    let next = (made_declared ns ty d sc).scope in
    let one : Extends sc next = record { newer = record { name = d.name; ty = ty; slot = length sc.slots } ∷ []; is = refl } in
    extends_on sc next (made_declarations ns ty ds next).scope one (declarations_extend ns ty ds next)

mutual
  pub step_extends : (ns : Names) (x : TypedStmtTree) (sc : Scope) → Extends sc (made_step ns x sc).scope
  step_extends ns (ts_block s all) sc = extends_self sc (made_row ns all sc).scope.slots
  step_extends ns (ts_empty s) sc = extends_self sc sc.slots
  step_extends ns (ts_locals s ty ds) sc = declarations_extend ns (type_of_text ty) ds sc
  step_extends ns (ts_assign s a) sc = extends_self sc sc.slots
  step_extends ns (ts_if s c x) sc = extends_self sc (made_step ns x sc).scope.slots
  step_extends ns (ts_if_else s c x y) sc = extends_self sc (made_step ns y (left sc (made_step ns x sc).scope)).scope.slots
  step_extends ns (ts_spawn s x) sc = extends_self sc (made_step ns x sc).scope.slots

  pub row_extends : (ns : Names) (xs : TypedRow) (sc : Scope) → Extends sc (made_row ns xs sc).scope
  row_extends ns typed_end sc = extends_self sc sc.slots
  row_extends ns (typed_more x rest) sc =
      extends_on sc (made_step ns x sc).scope (made_row ns rest (made_step ns x sc).scope).scope (step_extends ns x sc) (row_extends ns rest (made_step ns x sc).scope)

-- the newer locals are taken away
pub extends_left : (old mid new : Scope) → Extends old mid → new.locals ≡ drop (length mid.locals - length old.locals) mid.locals → new.slots ≡ mid.slots → new ≡ left old mid
extends_left old mid new h e f =
    let count : length mid.locals - length old.locals ≡ length h.newer = ap (λ (z : List Slot). length z - length old.locals) h.is ∙ omega (arith, length-append h.newer old.locals) in
    let rest : new.locals ≡ old.locals =
    e ∙ ap (λ (k : ℕ). drop k mid.locals) count ∙ ap (drop (length h.newer)) h.is ∙ drop-append_seam h.newer old.locals in
    ap (λ (z : List Slot). let s : Scope = record { locals = z; slots = new.slots } in s) rest ∙ ap (λ (z : List Ty). let s : Scope = record { locals = old.locals; slots = z } in s) f

-- the newer locals are taken away behind what was made
pub kept : (old mid new st : Scope) (n : ℕ) → n ≡ length old.locals → mid ≡ st → Extends old st → new.locals ≡ drop (length mid.locals - n) mid.locals → new.slots ≡ mid.slots → new ≡ left old st
kept old mid new st n p q h e f =
    extends_left old st new h
    (e ∙ ap (λ (k : ℕ). drop (length mid.locals - k) mid.locals) p ∙ ap (λ (s : Scope). drop (length s.locals - length old.locals) s.locals) q)
    (f ∙ ap (λ (s : Scope). s.slots) q)
