-- What a typed statement reads of tables are entries of tables with their types.
use Rattle.std.proofs.Common.{◌≡◌, ◌∙◌, sym, ap, subst, ℕ, zero, suc, ◌+◌, ◌-◌, ◌≤◌, List, [], ◌∷◌, ◌++◌, length, Option, Some, None, Bool, false, cond}
use Rattle.std.proofs.lemmas.Bool.{cond_both}
use Rattle.ix_bits.specs.declared.number.Ty.{Ty}
use Rattle.ix_bits.specs.declared.operator.BinOp.{BinOp}
use Rattle.ix_bits.specs.NearTypes.{type_near}
use Rattle.ix_graph.specs.declared.kind.Kind.TheVariants as k
use Rattle.ix_tree.specs.declared.extension.Piece.{Piece}
use Rattle.ix_tree.specs.declared.extension.Table.{Table}
use Rattle.ix_tree.specs.declared.token.Span.{Span}
use Rattle.ix_tree.specs.declared.expr.TypeText.{TypeText}
use Rattle.ix_tree.specs.TypedTrees.{TypedExprTree, t_literal, t_name, t_pc, t_x, t_mem, t_index, t_range, t_unary, t_cast, t_binary, t_choose, TypedDeclTree, TypedLvalueTree, tl_name, tl_pc, tl_x, tl_mem, TypedStmtTree, ts_block, ts_empty, ts_locals, ts_assign, ts_if, ts_if_else, ts_spawn, TypedRow, typed_end, typed_more}
use Rattle.ix_typing.specs.declared.role.Role.{Role}
use Rattle.ix_typing.specs.declared.role.Role.TheVariants as R
use Rattle.ix_typing.specs.declared.role.Named.{Named}
use Rattle.ix_typing.specs.declared.role.Shape.{Shape}
use Rattle.ix_typing.specs.declared.state.Setting.{Setting}
use Rattle.ix_typing.specs.declared.state.State.{State}
use Rattle.ix_typing.specs.declared.targets.Target.{Target}
use Rattle.ix_typing.specs.Names.{role_of}
use Rattle.ix_typing.specs.Expressions.{is_constant as is_constant_body, as_table, table}
use Rattle.ix_typing.specs.Statements.{with_accessed, with_local, with_spawn, scope_end, other_path, below_if, below_spawn}
use Rattle.ix_typing.specs.Assignments.{is_update}
use Rattle.ix_typing.proofs.Scopes.{front_is}
use Rattle.ix_typed.specs.Expressions.{IsWritten, IsBase, IsWord, IsEntryOrBit as IsElementOf, IsElement, IsRange, IsExpr}
use Rattle.ix_typed.specs.Assignments.{IsPlace}
use Rattle.ix_typed.specs.Statements.{IsInitial, AreDecls, IsStmt, IsRow}
use Rattle.ix_mean.specs.Core.{u1, u32, Expression, x_const, x_slot, x_read}
use Rattle.ix_mean.specs.EffectByName.{type_of_text}
use Rattle.ix_mean.specs.ByName.{Names, Numbered, register_in, Entries, table_in, stands_at_15}
use Rattle.ix_mean.specs.Resolving.{Slot, slot_in, word_part, behind, with_zeros, field_from, pieces_of, ordered, top_of, some_or, field_expression, operand_expression, register_read, resolved_other, resolved_name, resolved_entry, resolved_index, resolved_range, resolved}
use Rattle.ix_mean.specs.ResolvingStatements.{Scope, declared, initial, declarations, operated, register_written, name_written, written, step, step_row, left}
use Rattle.ix_behaviour.specs.Tables.{IsTableRead, EntriesAreRead, TablesAreRead}
use Rattle.ix_behaviour.proofs.Types.{text_is}
use Rattle.ix_behaviour.proofs.FieldTypes.{ArePlaced}
use Rattle.ix_behaviour.proofs.Seeing.{Stands, Sees}
use Rattle.ix_behaviour.proofs.Scopes.{Begins, begins_on, begins_declarations, begins, begins_row, has_slot, sees_local}
use Rattle.ix_behaviour.proofs.Statements.{initial_sound, stmt_sound}

-- ---- names that are no table's stand for no entry
module _ (ts : List Table) where
  -- an expression, if there is one
  abbrev MayRead : Option Expression → Type 0
  MayRead None = Unit {0}
  MayRead (Some e) = EntriesAreRead ts e

  behind_read : (d : Option Expression) (e : Expression) → MayRead d → EntriesAreRead ts e → MayRead (behind d e)
  behind_read None e h g = g
  behind_read (Some d) e h g = (h, g)

  zeros_read : (d : Option Expression) (n : ℕ) → MayRead d → MayRead (with_zeros d n)
  zeros_read d zero h = h
  zeros_read d (suc n) h = behind_read d (x_const (type_near false (suc n)) 0) h tt

  from_read : (d : Option Expression) (below : ℕ) (ps : List Piece) → MayRead d → MayRead (field_from d below ps)
  from_read d below [] h = zeros_read d below h
  from_read d below (p ∷ ps) h =
      let gap = below - (p.hi + 1) in
      from_read (behind (with_zeros d gap) (word_part p)) p.lo ps (behind_read (with_zeros d gap) (word_part p) (zeros_read d gap h) tt)

  some_read : (d : Option Expression) → MayRead d → EntriesAreRead ts (some_or d (x_const u1 0))
  some_read None h = tt
  some_read (Some e) h = h

  field_reads : (ps : List Piece) (n : List ℕ) → EntriesAreRead ts (field_expression ps n)
  field_reads ps n = let qs = ordered (pieces_of ps n) in some_read (field_from None (top_of qs) qs) (from_read None (top_of qs) qs tt)

  other_reads : (ns : Names) (n : List ℕ) (o : Option Numbered) → EntriesAreRead ts (resolved_other ns n o)
  other_reads ns n None = field_reads ns.pieces n
  other_reads ns n (Some r) = tt

  name_reads : (ns : Names) (n : List ℕ) (o : Option Slot) → EntriesAreRead ts (resolved_name ns n o)
  name_reads ns n None = other_reads ns n (register_in 0 ns.registers n)
  name_reads ns n (Some l) = tt

  operand_reads : (ps : List Piece) (n : List ℕ) → EntriesAreRead ts (operand_expression ps n)
  operand_reads ps n = cond_both (stands_at_15 ps n) (x_read k.RdRS1 u32) (x_read k.RdRS2 u32) (EntriesAreRead ts) (λ e. tt) (λ e. tt)

-- ---- expressions
module _ (ns : Names) (slots : List Ty) (g : Setting) (st : State) (ls : List Slot) (behaves : is_constant_body g.body ≡ false) (sees : Sees ns slots st.names ls) where
  abbrev Reads : TypedExprTree → Type 0
  Reads e = (a c : Bool) → IsExpr g st a e c → EntriesAreRead ns.tables (resolved ns ls e)

  entry_read : (n : List ℕ) (ty u : Ty) (i : TypedExprTree) (base : Expression) (o : Option Role) → Stands ns slots (slot_in ls n) n o → IsElementOf (as_table o) u i ty → EntriesAreRead ns.tables base
      → EntriesAreRead ns.tables (resolved ns ls i) → EntriesAreRead ns.tables (resolved_entry (table_in 0 ns.tables n) ty base (resolved ns ls i))
  entry_read n ty u i base None h w b e = let P : Option Entries → Type 0 = λ z. EntriesAreRead ns.tables (resolved_entry z ty base (resolved ns ls i)) in subst P (sym h.2) b
  entry_read n ty u i base (Some (R.Field f)) h w b e = let P : Option Entries → Type 0 = λ z. EntriesAreRead ns.tables (resolved_entry z ty base (resolved ns ls i)) in subst P (sym h.2) b
  entry_read n ty u i base (Some (R.Local l)) h w b e = let P : Option Entries → Type 0 = λ z. EntriesAreRead ns.tables (resolved_entry z ty base (resolved ns ls i)) in subst P (sym h.0) b
  entry_read n ty u i base (Some (R.Register j l)) h w b e = let P : Option Entries → Type 0 = λ z. EntriesAreRead ns.tables (resolved_entry z ty base (resolved ns ls i)) in subst P (sym h.1) b
  entry_read n ty u i base (Some (R.Table j shape)) h w b e =
      let P : Option Entries → Type 0 = λ z. EntriesAreRead ns.tables (resolved_entry z ty base (resolved ns ls i)) in
      let T : Ty → Type 0 = λ z. IsTableRead ns.tables h.2.0.number h.2.0.patterns z in
      let read : IsTableRead ns.tables h.2.0.number h.2.0.patterns ty = subst T (sym w.1) h.2.4 in
      subst P (sym h.2.1) (read, e)

  x_reads : (i : TypedExprTree) (r : Span) (u ty : Ty) → EntriesAreRead ns.tables (resolved_index ns ty (t_x r u) (resolved ns ls (t_x r u)) i (resolved ns ls i))
  x_reads (t_name s v f) r u ty = operand_reads ns.tables ns.pieces f
  x_reads (t_literal s v w o) r u ty = tt
  x_reads (t_pc s v) r u ty = tt
  x_reads (t_x s v) r u ty = tt
  x_reads (t_mem s v) r u ty = tt
  x_reads (t_index s v x j) r u ty = tt
  x_reads (t_range s v x y z) r u ty = tt
  x_reads (t_unary s v op x) r u ty = tt
  x_reads (t_cast s v to x) r u ty = tt
  x_reads (t_binary s v op x y) r u ty = tt
  x_reads (t_choose s v d x y) r u ty = tt

  index_reads : (x i : TypedExprTree) (ty : Ty) (a b c : Bool) → Reads x → Reads i → IsBase g st a x b (IsExpr g st a x b) → IsExpr g st b i c → IsElement g st x i ty
      → EntriesAreRead ns.tables (resolved_index ns ty x (resolved ns ls x) i (resolved ns ls i))
  index_reads (t_x r u) i ty a b c p q h m w = x_reads i r u ty
  index_reads (t_mem r u) i ty a b c p q h m w = q b c m
  index_reads (t_name r u n) i ty a b c p q h m w =
      let is : table g st n ≡ as_table (role_of st.names n) = ap (λ (z : Bool). cond z None (as_table (role_of st.names n))) behaves in
      let E : Option Shape → Type 0 = λ z. IsElementOf z u i ty in
      entry_read n ty u i (resolved ns ls (t_name r u n)) (role_of st.names n) (sees n) (subst E is w) (name_reads ns.tables ns n (slot_in ls n)) (q b c m)
  index_reads (t_literal r u v o) i ty a b c p q h m w = p a b h
  index_reads (t_pc r u) i ty a b c p q h m w = p a b h
  index_reads (t_index r u x j) i ty a b c p q h m w = p a b h
  index_reads (t_range r u x y z) i ty a b c p q h m w = p a b h
  index_reads (t_unary r u op x) i ty a b c p q h m w = p a b h
  index_reads (t_cast r u to x) i ty a b c p q h m w = p a b h
  index_reads (t_binary r u op x y) i ty a b c p q h m w = p a b h
  index_reads (t_choose r u d x y) i ty a b c p q h m w = p a b h

  range_reads : (x y z : TypedExprTree) (ty : Ty) (a b d c : Bool) → Reads x → Reads z → IsWord g st a x b (IsExpr g st a x b) → IsExpr g st d z c → IsRange x y z ty
      → EntriesAreRead ns.tables (resolved_range ty x (resolved ns ls x) (resolved ns ls y) (resolved ns ls z))
  range_reads (t_x r u) y z ty a b d c p q h m w = absurd w
  range_reads (t_mem r u) y z ty a b d c p q h m w = q d c m
  range_reads (t_name r u n) y z ty a b d c p q h m w = p a b h
  range_reads (t_literal r u v o) y z ty a b d c p q h m w = p a b h
  range_reads (t_pc r u) y z ty a b d c p q h m w = p a b h
  range_reads (t_index r u x j) y z ty a b d c p q h m w = p a b h
  range_reads (t_range r u x v o) y z ty a b d c p q h m w = p a b h
  range_reads (t_unary r u op x) y z ty a b d c p q h m w = p a b h
  range_reads (t_cast r u to x) y z ty a b d c p q h m w = p a b h
  range_reads (t_binary r u op x v) y z ty a b d c p q h m w = p a b h
  range_reads (t_choose r u e x v) y z ty a b d c p q h m w = p a b h

  reads_of : (e : TypedExprTree) → Reads e
  reads_of (t_literal s ty u b) a c h = tt
  reads_of (t_name s ty n) a c h = name_reads ns.tables ns n (slot_in ls n)
  reads_of (t_pc s ty) a c h = tt
  reads_of (t_x s ty) a c h = absurd h
  reads_of (t_mem s ty) a c h = absurd h
  reads_of (t_index s ty x i) a c h = index_reads x i ty a h.0 c (reads_of x) (reads_of i) h.1 h.2 h.3
  reads_of (t_range s ty x y z) a c h = range_reads x y z ty a h.0 h.1 c (reads_of x) (reads_of z) h.2 h.4 h.5
  reads_of (t_unary s ty op x) a c h = reads_of x a c h.0
  reads_of (t_cast s ty to x) a c h = reads_of x a c h.0
  reads_of (t_binary s ty op x y) a c h = (reads_of x a h.0 h.1, reads_of y h.0 c h.2)
  reads_of (t_choose s ty d x y) a c h = (reads_of d a h.0 h.2, reads_of x h.0 h.1 h.3, reads_of y h.1 c h.4)

-- ---- statements
module _ (ns : Names) (slots : List Ty) (m : Ty) (few : length ns.registers ≤ 16) (placed : ArePlaced ns.pieces) where
  operated_reads : (op : Option BinOp) (ty : Ty) (old e : Expression) → EntriesAreRead ns.tables old → EntriesAreRead ns.tables e → EntriesAreRead ns.tables (operated op ty old e)
  operated_reads None ty old e h g = g
  operated_reads (Some op) ty old e h g = (h, g)

  register_reads : (op : Option BinOp) (e : Expression) (o : Option Numbered) → EntriesAreRead ns.tables e → TablesAreRead ns.tables (register_written op e o)
  register_reads op e None h = tt
  register_reads op e (Some r) h = (operated_reads op r.ty (register_read r) e tt h, tt)

  target_reads : (op : Option BinOp) (n : List ℕ) (e : Expression) (o : Option Slot) → EntriesAreRead ns.tables e → TablesAreRead ns.tables (name_written ns op n e o)
  target_reads op n e None h = register_reads op e (register_in 0 ns.registers n) h
  target_reads op n e (Some l) h = operated_reads op l.ty (x_slot l.slot l.ty) e tt h

  place_reads : (g : Setting) (st : State) (sc : Scope) (op : Option BinOp) (x : TypedLvalueTree) (ty : Ty) (w : Option Target) (c : Bool) (e : Expression) → is_constant_body g.body ≡ false
      → Sees ns slots st.names sc.locals → IsPlace g st (is_update op) x ty w c → EntriesAreRead ns.tables e → TablesAreRead ns.tables (written ns sc op x e)
  place_reads g st sc op (tl_name n) ty w c e b sees h v = target_reads op n e (slot_in sc.locals n) v
  place_reads g st sc op tl_pc ty w c e b sees h v = (operated_reads op u32 (x_read k.RdPC u32) e tt v, tt)
  place_reads g st sc op (tl_x f) ty w c e b sees h v = (v, tt)
  place_reads g st sc op (tl_mem a None) ty w c e b sees h v = (v, reads_of ns slots g st sc.locals b sees a st.accessed h.0 h.1)
  place_reads g st sc op (tl_mem x (Some a)) ty w c e b sees h v = (v, reads_of ns slots g st sc.locals b sees a h.0 h.1 h.3)

  first_reads : (g : Setting) (st mid : State) (sc : Scope) (ty : Ty) (o : Option TypedExprTree) → is_constant_body g.body ≡ false → Sees ns slots st.names sc.locals → IsInitial g ty st o mid
      → EntriesAreRead ns.tables (initial ns sc ty o)
  first_reads g st mid sc ty None b sees h = tt
  first_reads g st mid sc ty (Some e) b sees h = reads_of ns slots g st sc.locals b sees e st.accessed h.0 h.1

  decls_read : (g : Setting) (st after : State) (sc : Scope) (ty : Ty) (ds : List TypedDeclTree) → is_constant_body g.body ≡ false → Sees ns slots st.names sc.locals
      → Begins (declarations ns ty ds sc).scope.slots slots → AreDecls g ty st ds after → TablesAreRead ns.tables (declarations ns ty ds sc).body
  decls_read g st after sc ty [] b sees w h = tt
  decls_read g st after sc ty (d ∷ ds) b sees w h =
      let next = h.0 in
      let i = initial_sound ns slots m few placed g st h.1.1.0 sc ty d.value b sees h.1.1.1 in
      let here = (declared sc d.name ty (initial ns sc ty d.value)).scope in
      let has = has_slot sc.slots slots ty (begins_on here.slots (declarations ns ty ds here).scope.slots slots (begins_declarations ns ty ds here) w) in
      let local = sees_local ns slots st.names sc d.name ty (initial ns sc ty d.value) sees h.1.0 has in
      let names : next.names ≡ (with_local st d.name ty).names = ap (λ (z : State). z.names) h.1.1.2 ∙ ap (λ (z : List Named). z ++ _) i.kept in
      let S : List Named → Type 0 = λ z. Sees ns slots z here.locals in
      (first_reads g st h.1.1.0 sc ty d.value b sees h.1.1.1, decls_read g next after here ty ds b (subst S (sym names) local) w h.2)

  locals_read : (g : Setting) (st after : State) (sc : Scope) (text : TypeText) (ty : Ty) (ds : List TypedDeclTree) → IsWritten text.kind ty → is_constant_body g.body ≡ false
      → Sees ns slots st.names sc.locals → Begins (declarations ns (type_of_text text) ds sc).scope.slots slots → AreDecls g ty st ds after → TablesAreRead ns.tables (declarations ns (type_of_text text) ds sc).body
  locals_read g st after sc text ty ds v b sees w h =
      let A : Ty → Type 0 = λ z. AreDecls g z st ds after in
      decls_read g st after sc (type_of_text text) ds b sees w (subst A (sym (text_is text ty v)) h)

  mutual
    pub stmt_reads : (g : Setting) (st after : State) (sc : Scope) (x : TypedStmtTree) → is_constant_body g.body ≡ false → Sees ns slots st.names sc.locals → Begins (step ns x sc).scope.slots slots
        → IsStmt g st x after → TablesAreRead ns.tables (step ns x sc).body
    stmt_reads g st after sc (ts_block s all) b sees w h = row_reads g st h.0 sc all b sees w h.1
    stmt_reads g st after sc (ts_empty s) b sees w h = tt
    stmt_reads g st after sc (ts_locals s text ds) b sees w h = locals_read g st after sc text h.0 ds h.1 b sees w h.2
    stmt_reads g st after sc (ts_assign s a) b sees w h =
        place_reads g st sc a.op a.target.tree h.0 h.1 h.2 (resolved ns sc.locals a.value) b sees h.4 (reads_of ns slots g st sc.locals b sees a.value h.2 h.3 h.5)
    stmt_reads g st after sc (ts_if s c x) b sees w h =
        (reads_of ns slots g st sc.locals b sees c st.accessed h.0 h.2, stmt_reads (below_if g) (with_accessed st h.0) h.1 sc x b sees w h.3, tt)
    stmt_reads g st after sc (ts_if_else s c x y) b sees w h =
        let before = with_accessed st h.0 in
        let first = h.1 in
        let other = other_path before (scope_end before first) in
        let here = left sc (step ns x sc).scope in
        let on = begins_on here.slots (step ns y here).scope.slots slots (begins ns y here) w in
        let r = stmt_sound ns slots m few placed (below_if g) before first sc x b sees on h.4 in
        let same : other.names ≡ st.names = front_is st.names first.names r.grows in
        let S : List Named → Type 0 = λ z. Sees ns slots z sc.locals in (
          reads_of ns slots g st sc.locals b sees c st.accessed h.0 h.3,
          stmt_reads (below_if g) before first sc x b sees on h.4,
          stmt_reads (below_if g) other h.2 here y b (subst S (sym same) sees) w h.5,
        )
    stmt_reads g st after sc (ts_spawn s x) b sees w h = stmt_reads (below_spawn g) (with_spawn st) h.1.0 sc x b sees w h.1.1

    row_reads : (g : Setting) (st after : State) (sc : Scope) (all : TypedRow) → is_constant_body g.body ≡ false → Sees ns slots st.names sc.locals → Begins (step_row ns all sc).scope.slots slots
        → IsRow g st all after → TablesAreRead ns.tables (step_row ns all sc).body
    row_reads g st after sc typed_end b sees w h = tt
    row_reads g st after sc (typed_more x rest) b sees w h =
        let here = (step ns x sc).scope in
        let on = begins_on here.slots (step_row ns rest here).scope.slots slots (begins_row ns rest here) w in
        let r = stmt_sound ns slots m few placed g st h.0 sc x b sees on h.1 in
        (stmt_reads g st h.0 sc x b sees on h.1, row_reads g h.0 after here rest b r.sees w h.2)
