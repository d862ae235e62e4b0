-- A typed statement has its names resolved, and what it is resolved to is typed.
use Rattle.std.proofs.Common.{◌≡◌, ◌∙◌, sym, ap, subst, ℕ, ◌+◌, ◌≤◌, arith, List, [], ◌∷◌, ◌++◌, length, Option, Some, None, Bool, true, false, append_assoc}
use Rattle.std.proofs.lemmas.Nat.{pow_pos}
use Rattle.std.proofs.lemmas.List.{append-nil}
use Rattle.ix_bits.specs.declared.number.Ty.{Ty}
use Rattle.ix_bits.specs.ResultTypes.{Embeds}
use Rattle.ix_tree.specs.declared.expr.TypeText.{TypeText}
use Rattle.ix_tree.specs.TypedTrees.{TypedExprTree, TypedDeclTree, TypedStmtTree, ts_block, ts_empty, ts_locals, ts_assign, ts_if, ts_if_else, ts_spawn, TypedRow, typed_end, typed_more, type_of}
use Rattle.ix_typing.specs.declared.role.Named.{Named}
use Rattle.ix_typing.specs.declared.state.Setting.{Setting}
use Rattle.ix_typing.specs.declared.state.State.{State}
use Rattle.ix_typing.specs.Expressions.{is_constant as is_constant_body}
use Rattle.ix_typing.specs.Statements.{with_accessed, with_local, with_spawn, scope_end, other_path, below_if, below_spawn}
use Rattle.ix_typing.proofs.Embedded.{embeds_true}
use Rattle.ix_typing.proofs.Scopes.{Grows, front_is}
use Rattle.ix_typed.specs.Expressions.{IsWritten}
use Rattle.ix_typed.specs.Statements.{IsInitial as IsInitialOf, AreDecls, IsStmt, IsRow}
use Rattle.ix_mean.specs.Core.{type_of_expression}
use Rattle.ix_mean.specs.EffectByName.{type_of_text}
use Rattle.ix_mean.specs.Typing.{Frame, IsTypedExpression, IsTypedStatement}
use Rattle.ix_mean.specs.ByName.{Names}
use Rattle.ix_mean.specs.Resolving.{Slot, resolved}
use Rattle.ix_mean.specs.ResolvingStatements.{Scope, declared, initial, declarations, step, step_row, left, IsInitial, AreDeclared, IsResolvedStatement, IsResolvedRow}
use Rattle.ix_behaviour.specs.Behaviours.{loads_in, accesses_in}
use Rattle.ix_behaviour.proofs.Types.{text_is}
use Rattle.ix_behaviour.proofs.FieldTypes.{ArePlaced}
use Rattle.ix_behaviour.proofs.Seeing.{Sees}
use Rattle.ix_behaviour.proofs.Expressions.{bit, frame_with, type_is, sound}
use Rattle.ix_behaviour.proofs.Stores.{Stores}
use Rattle.ix_behaviour.proofs.Scopes.{Begins, begins_on, begins_declarations, begins, begins_row, has_slot, sees_local}
use Rattle.ix_behaviour.proofs.Assigned.{assign_sound}

-- ---- names that grow
grows_same : (a : List Named) → Grows a a
grows_same a = record { more = []; is = sym (append-nil a) }

grows_on : (a b c : List Named) → Grows a b → Grows b c → Grows a c
grows_on a b c g h = record { more = g.more ++ h.more; is = h.is ∙ ap (λ (z : List Named). z ++ h.more) g.is ∙ append_assoc a g.more h.more }

grows_equal : (a b : List Named) → b ≡ a → Grows a b
grows_equal a b e = let P : List Named → Type 0 = λ z. Grows a z in subst P (sym e) (grows_same a)

module _ (ns : Names) (slots : List Ty) (m : Ty) (few : length ns.registers ≤ 16) (placed : ArePlaced ns.pieces) where
  abbrev frame : Frame
  frame = frame_with ns slots m

  -- ---- declarations
  pub record InitialSound (st mid : State) (sc : Scope) (ty : Ty) (o : Option TypedExprTree) : Type 0 where
    names : IsInitial ns sc o
    typed : IsTypedExpression frame (initial ns sc ty o)
    goes : Embeds (type_of_expression (initial ns sc ty o)) ty
    once : bit st.accessed + loads_in (initial ns sc ty o) ≤ bit mid.accessed
    pub kept : mid.names ≡ st.names

  pub initial_sound : (g : Setting) (st mid : State) (sc : Scope) (ty : Ty) (o : Option TypedExprTree) → is_constant_body g.body ≡ false → Sees ns slots st.names sc.locals → IsInitialOf g ty st o mid
      → InitialSound st mid sc ty o
  initial_sound g st mid sc ty None b sees h = record {
    names = tt;
    typed = pow_pos ty.width;
    goes = λ n w. w;
    once = (let P : State → Type 0 = λ z. bit st.accessed + 0 ≤ bit z.accessed in subst P (sym h) (omega arith));
    kept = ap (λ (z : State). z.names) h;
  }
  initial_sound g st mid sc ty (Some e) b sees h =
      let s = sound ns slots m few placed sc.locals g st b sees e st.accessed h.0 h.1 in
      let A : Ty → Type 0 = λ z. Embeds z ty in
      let B : Bool → Type 0 = λ z. bit st.accessed + loads_in (resolved ns sc.locals e) ≤ bit z in
      record {
        names = s.names;
        typed = s.typed;
        goes = subst A (sym (type_is ns slots m few placed sc.locals e s.names)) (embeds_true (type_of e) ty h.2);
        once = subst B (sym (ap (λ (z : State). z.accessed) h.3)) s.once;
        kept = ap (λ (z : State). z.names) h.3;
      }

  record DeclsSound (st after : State) (sc : Scope) (ty : Ty) (ds : List TypedDeclTree) : Type 0 where
    names : AreDeclared ns ty ds sc
    typed : IsTypedStatement frame (declarations ns ty ds sc).body
    once : bit st.accessed + accesses_in (declarations ns ty ds sc).body ≤ bit after.accessed
    grows : Grows st.names after.names
    sees : Sees ns slots after.names (declarations ns ty ds sc).scope.locals

  decls_sound : (g : Setting) (st after : State) (sc : Scope) (ty : Ty) (ds : List TypedDeclTree) → is_constant_body g.body ≡ false → Sees ns slots st.names sc.locals
      → Begins (declarations ns ty ds sc).scope.slots slots → AreDecls g ty st ds after → DeclsSound st after sc ty ds
  decls_sound g st after sc ty [] b sees w h =
      let A : State → Type 0 = λ z. DeclsSound st z sc ty [] in
      subst A (sym h) (record { names = tt; typed = tt; once = omega arith; grows = grows_same st.names; sees = sees })
  decls_sound g st after sc ty (d ∷ ds) b sees w h =
      let next = h.0 in
      let mid = h.1.1.0 in
      let i = initial_sound g st mid sc ty d.value b sees h.1.1.1 in
      let here = (declared sc d.name ty (initial ns sc ty d.value)).scope in
      let has = has_slot sc.slots slots ty (begins_on here.slots (declarations ns ty ds here).scope.slots slots (begins_declarations ns ty ds here) w) in
      let local = sees_local ns slots st.names sc d.name ty (initial ns sc ty d.value) sees h.1.0 has in
      let names : next.names ≡ (with_local st d.name ty).names =
      ap (λ (z : State). z.names) h.1.1.2 ∙ ap (λ (z : List Named). z ++ _) i.kept in
      let S : List Named → Type 0 = λ z. Sees ns slots z here.locals in
      let acc : next.accessed ≡ mid.accessed = ap (λ (z : State). z.accessed) h.1.1.2 in
      let B : Bool → Type 0 = λ z. bit st.accessed + loads_in (initial ns sc ty d.value) ≤ bit z in
      let first = subst B (sym acc) i.once in
      let rest = decls_sound g next after here ty ds b (subst S (sym names) local) w h.2 in
      let more : Grows st.names next.names = record { more = _; is = names } in
      record {
        names = (i.names, rest.names);
        typed = ((i.typed, has.within, has.is, i.goes), rest.typed);
        once = omega (arith, first, rest.once);
        grows = grows_on st.names next.names after.names more rest.grows;
        sees = rest.sees;
      }

  -- ---- statements
  pub record StmtSound (st after : State) (sc : Scope) (x : TypedStmtTree) : Type 0 where
    names : IsResolvedStatement ns x sc
    typed : Stores m (step ns x sc).body → IsTypedStatement frame (step ns x sc).body
    once : bit st.accessed + accesses_in (step ns x sc).body ≤ bit after.accessed
    pub grows : Grows st.names after.names
    pub sees : Sees ns slots after.names (step ns x sc).scope.locals

  record RowSound (st after : State) (sc : Scope) (all : TypedRow) : Type 0 where
    names : IsResolvedRow ns all sc
    typed : Stores m (step_row ns all sc).body → IsTypedStatement frame (step_row ns all sc).body
    once : bit st.accessed + accesses_in (step_row ns all sc).body ≤ bit after.accessed
    grows : Grows st.names after.names
    sees : Sees ns slots after.names (step_row ns all sc).scope.locals

  -- behind a scope, the names of before
  sees_again : (a b : State) (ls : List Slot) → Grows a.names b.names → Sees ns slots a.names ls → Sees ns slots (scope_end a b).names ls
  sees_again a b ls g s = let S : List Named → Type 0 = λ z. Sees ns slots z ls in subst S (sym (front_is a.names b.names g)) s

  locals_sound : (g : Setting) (st after : State) (sc : Scope) (text : TypeText) (ty : Ty) (ds : List TypedDeclTree) → IsWritten text.kind ty → is_constant_body g.body ≡ false
      → Sees ns slots st.names sc.locals → Begins (declarations ns (type_of_text text) ds sc).scope.slots slots → AreDecls g ty st ds after → DeclsSound st after sc (type_of_text text) ds
  locals_sound g st after sc text ty ds v b sees w h =
      let A : Ty → Type 0 = λ z. AreDecls g z st ds after in
      decls_sound g st after sc (type_of_text text) ds b sees w (subst A (sym (text_is text ty v)) h)

  mutual
    pub stmt_sound : (g : Setting) (st after : State) (sc : Scope) (x : TypedStmtTree) → is_constant_body g.body ≡ false → Sees ns slots st.names sc.locals → Begins (step ns x sc).scope.slots slots
        → IsStmt g st x after → StmtSound st after sc x
    stmt_sound g st after sc (ts_block s all) b sees w h =
        let r = row_sound g st h.0 sc all b sees w h.1 in
        let A : State → Type 0 = λ z. StmtSound st z sc (ts_block s all) in
        subst A (sym h.2) (record {
          names = r.names;
          typed = r.typed;
          once = r.once;
          grows = grows_equal st.names (scope_end st h.0).names (front_is st.names h.0.names r.grows);
          sees = sees_again st h.0 sc.locals r.grows sees;
        })
    stmt_sound g st after sc (ts_empty s) b sees w h =
        let A : State → Type 0 = λ z. StmtSound st z sc (ts_empty s) in
        subst A (sym h) (record { names = tt; typed = λ z. tt; once = omega arith; grows = grows_same st.names; sees = sees })
    stmt_sound g st after sc (ts_locals s text ds) b sees w h =
        let r = locals_sound g st after sc text h.0 ds h.1 b sees w h.2 in
        record { names = r.names; typed = λ z. r.typed; once = r.once; grows = r.grows; sees = r.sees }
    stmt_sound g st after sc (ts_assign s a) b sees w h =
        let r = assign_sound ns slots m few placed g st sc b sees a after h in
        let same : after.names ≡ st.names = ap (λ (z : State). z.names) h.7 in
        let S : List Named → Type 0 = λ z. Sees ns slots z sc.locals in
        record { names = (r.value, r.target); typed = r.typed; once = r.once; grows = grows_equal st.names after.names same; sees = subst S (sym same) sees }
    stmt_sound g st after sc (ts_if s c x) b sees w h =
        let before = with_accessed st h.0 in
        let t = sound ns slots m few placed sc.locals g st b sees c st.accessed h.0 h.2 in
        let r = stmt_sound (below_if g) before h.1 sc x b sees w h.3 in
        let A : State → Type 0 = λ z. StmtSound st z sc (ts_if s c x) in
        subst A (sym h.4) (record {
          names = (t.names, r.names);
          typed = λ z. (t.typed, r.typed z.0, tt);
          once = omega (arith, t.once, r.once);
          grows = grows_equal st.names (scope_end before h.1).names (front_is st.names h.1.names r.grows);
          sees = sees_again before h.1 sc.locals r.grows sees;
        })
    stmt_sound g st after sc (ts_if_else s c x y) b sees w h =
        let before = with_accessed st h.0 in
        let first = h.1 in
        let last = h.2 in
        let other = other_path before (scope_end before first) in
        let here = left sc (step ns x sc).scope in
        let t = sound ns slots m few placed sc.locals g st b sees c st.accessed h.0 h.3 in
        let r = stmt_sound (below_if g) before first sc x b sees (begins_on here.slots (step ns y here).scope.slots slots (begins ns y here) w) h.4 in
        let same : other.names ≡ st.names = front_is st.names first.names r.grows in
        let S : List Named → Type 0 = λ z. Sees ns slots z sc.locals in
        let q = stmt_sound (below_if g) other last here y b (subst S (sym same) sees) w h.5 in
        let end : (scope_end other last).names ≡ st.names = front_is other.names last.names q.grows ∙ same in
        let A : State → Type 0 = λ z. StmtSound st z sc (ts_if_else s c x y) in
        subst A (sym h.6) (record {
          names = (t.names, r.names, q.names);
          typed = λ z. (t.typed, r.typed z.0, q.typed z.1);
          once = omega (arith, t.once, r.once, q.once);
          grows = grows_equal st.names (scope_end other last).names end;
          sees = subst S (sym end) sees;
        })
    stmt_sound g st after sc (ts_spawn s x) b sees w h =
        let r = stmt_sound (below_spawn g) (with_spawn st) h.1.0 sc x b sees w h.1.1 in
        let A : State → Type 0 = λ z. StmtSound st z sc (ts_spawn s x) in
        subst A (sym h.1.2) (record {
          names = r.names;
          typed = r.typed;
          once = r.once;
          grows = grows_equal st.names (scope_end (with_spawn st) h.1.0).names (front_is st.names h.1.0.names r.grows);
          sees = sees_again (with_spawn st) h.1.0 sc.locals r.grows sees;
        })

    row_sound : (g : Setting) (st after : State) (sc : Scope) (all : TypedRow) → is_constant_body g.body ≡ false → Sees ns slots st.names sc.locals → Begins (step_row ns all sc).scope.slots slots
        → IsRow g st all after → RowSound st after sc all
    row_sound g st after sc typed_end b sees w h =
        let A : State → Type 0 = λ z. RowSound st z sc typed_end in
        subst A (sym h) (record { names = tt; typed = λ z. tt; once = omega arith; grows = grows_same st.names; sees = sees })
    row_sound g st after sc (typed_more x rest) b sees w h =
        let mid = h.0 in
        let here = (step ns x sc).scope in
        let r = stmt_sound g st mid sc x b sees (begins_on here.slots (step_row ns rest here).scope.slots slots (begins_row ns rest here) w) h.1 in
        let q = row_sound g mid after here rest b r.sees w h.2 in
        record {
          names = (r.names, q.names);
          typed = λ z. (r.typed z.0, q.typed z.1);
          once = omega (arith, r.once, q.once);
          grows = grows_on st.names mid.names after.names r.grows q.grows;
          sees = q.sees;
        }

  -- what a behaviour is resolved to
  pub record BehaviourSound (sc : Scope) (x : TypedStmtTree) : Type 0 where
    pub names : IsResolvedStatement ns x sc
    pub typed : Stores m (step ns x sc).body → IsTypedStatement frame (step ns x sc).body
    pub once : accesses_in (step ns x sc).body ≤ 1

  at_most_one : (n : ℕ) (a : Bool) → n ≤ bit a → n ≤ 1
  at_most_one n true h = h
  at_most_one n false h = omega (arith, h)

  pub behaviour_sound : (g : Setting) (st after : State) (sc : Scope) (x : TypedStmtTree) → is_constant_body g.body ≡ false → Sees ns slots st.names sc.locals → Begins (step ns x sc).scope.slots slots
      → IsStmt g st x after → BehaviourSound sc x
  behaviour_sound g st after sc x b sees w h =
      let r = stmt_sound g st after sc x b sees w h in
      record { names = r.names; typed = r.typed; once = at_most_one (accesses_in (step ns x sc).body) after.accessed (omega (arith, r.once)) }
