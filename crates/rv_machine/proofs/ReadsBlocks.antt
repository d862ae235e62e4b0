-- An always-block, with its names resolved, reads the word, the pc and custom registers alone.
use Rattle.std.proofs.Common.{◌≡◌, refl, sym, subst, ◌∙◌, ℕ, zero, suc, ◌+◌, ◌-◌, ◌<◌, arith, Bool, false, List, [], ◌∷◌, ◌++◌, length, map, Option, Some, None}
use Rattle.std.specs.Prelude.{slice_get}
use Rattle.std.proofs.lemmas.Bool.{true≢false}
use Rattle.ix_bits.specs.declared.number.Ty.{Ty}
use Rattle.ix_bits.specs.declared.operator.BinOp.{BinOp}
use Rattle.ix_bits.specs.declared.operator.UnOp.{UnOp}
use Rattle.ix_bits.specs.declared.operator.UnOp.TheVariants as U
use Rattle.ix_graph.specs.declared.role.Role.TheVariants.{Compute}
use Rattle.ix_graph.specs.Roles.{role_of}
use Rattle.ix_tree.specs.declared.extension.Piece.{Piece}
use Rattle.ix_tree.specs.TypedTrees.{TypedExprTree, t_literal, t_name, t_pc, t_x, t_mem, t_index, t_range, t_unary, t_cast, t_binary, t_choose, TypedDeclTree, TypedLvalueTree, tl_name, tl_pc, tl_x, tl_mem, TypedStmtTree, ts_block, ts_empty, ts_locals, ts_assign, ts_if, ts_if_else, ts_spawn, TypedRow, typed_end, typed_more, TypedBlockTree, TypedSectionTree, TypedSectionKindTree, tk_states, tk_instructions, tk_always, TypedTextTree, erased_section, erased_text}
use Rattle.ix_typing.specs.declared.role.Named.{Named}
use Rattle.ix_typing.specs.declared.state.Body.TheVariants as B
use Rattle.ix_typing.specs.declared.state.Setting.{Setting}
use Rattle.ix_typing.specs.declared.state.State.{State}
use Rattle.ix_typing.specs.declared.state.Front.{Front}
use Rattle.ix_typing.specs.declared.targets.Target.{Target}
use Rattle.ix_typing.specs.Expressions.{is_instruction}
use Rattle.ix_typing.specs.Statements.{with_accessed, with_spawn, scope_end, other_path, below_if, below_spawn}
use Rattle.ix_typing.specs.Assignments.{is_update}
use Rattle.ix_typing.specs.Texts.{globals, global_state, no_front}
use Rattle.ix_typed.specs.Laws.{TextLaw}
use Rattle.ix_typed.specs.Expressions.{IsBase, IsWord, IsExpr}
use Rattle.ix_typed.specs.Assignments.{IsPlace}
use Rattle.ix_typed.specs.Statements.{IsInitial, AreDecls, IsStmt, IsRow}
use Rattle.ix_typed.specs.Texts.{IsBlock, AreBlocks, IsKind, AreSections, IsText}
use Rattle.ix_extension.specs.Extensions.{blocks_in, all_blocks, BehaviourTree, ExtensionTree, block_of, extension_of}
use Rattle.ix_extension.specs.WellFormed.{IsOf}
use Rattle.ix_mean.specs.Core.{Expression, x_slot, Statement}
use Rattle.ix_mean.specs.ByName.{Names, Numbered, register_in, Entries, table_in}
use Rattle.ix_mean.specs.EffectByName.{type_of_text}
use Rattle.ix_mean.specs.Resolving.{Slot, slot_in, word_part, behind, with_zeros, field_from, ordered, pieces_of, top_of, some_or, register_read, resolved_other, resolved_name, unary_kind, resolved_entry, resolved_index, resolved_range, resolved}
use Rattle.ix_mean.specs.ResolvingStatements.{Scope, declared, initial, declarations, operated, register_written, name_written, written, left, step, step_row, outside}
use Rattle.ix_behaviour.specs.declared.which.Which.TheVariants as W
use Rattle.ix_behaviour.specs.Behaviours.{HasBehaviour, body_in, steps, statement_at}
use Rattle.rv_machine.proofs.ReadsAsked.{ReadsCustoms}
use Rattle.rv_machine.proofs.ReadsTerms.{Kept, AllKept}

abbrev K : Expression → Type 0
K e = Kept ReadsCustoms ⊥ e

abbrev KeptSome : Option Expression → Type 0
KeptSome None = Unit {0}
KeptSome (Some e) = K e

-- ---- fields

behind_kept : (o : Option Expression) (e : Expression) → KeptSome o → K e → KeptSome (behind o e)
behind_kept None e h g = g
behind_kept (Some x) e h g = (h, g)

zeros_kept : (o : Option Expression) (n : ℕ) → KeptSome o → KeptSome (with_zeros o n)
zeros_kept o zero h = h
zeros_kept o (suc n) h = behind_kept o _ h tt

field_kept : (o : Option Expression) (below : ℕ) (ps : List Piece) → KeptSome o → KeptSome (field_from o below ps)
field_kept o below [] h = zeros_kept o below h
field_kept o below (p ∷ ps) h = field_kept (behind (with_zeros o (below - (p.hi + 1))) (word_part p)) p.lo ps (behind_kept (with_zeros o (below - (p.hi + 1))) (word_part p) (zeros_kept o (below - (p.hi + 1)) h) (refl, tt))

or_kept : (o : Option Expression) (e : Expression) → KeptSome o → K e → K (some_or o e)
or_kept None e h g = g
or_kept (Some x) e h g = h

other_kept : (ns : Names) (n : List ℕ) (o : Option Numbered) → K (resolved_other ns n o)
other_kept ns n (Some r) = tt
other_kept ns n None = or_kept (field_from None (top_of (ordered (pieces_of ns.pieces n))) (ordered (pieces_of ns.pieces n))) _ (field_kept None (top_of (ordered (pieces_of ns.pieces n))) (ordered (pieces_of ns.pieces n)) tt) tt

name_kept : (ns : Names) (n : List ℕ) (o : Option Slot) → K (resolved_name ns n o)
name_kept ns n (Some l) = tt
name_kept ns n None = other_kept ns n (register_in 0 ns.registers n)

entry_kept : (o : Option Entries) (ty : Ty) (base at : Expression) → K base → K at → K (resolved_entry o ty base at)
entry_kept (Some t) ty base at h g = g
entry_kept None ty base at h g = (refl, h)

unary_kept : (op : UnOp) → role_of (unary_kind op) ≡ Compute
unary_kept U.Neg = refl
unary_kept U.Not = refl
unary_kept U.Lnot = refl

-- ---- expressions
module _ (ns : Names) (g : Setting) (block : is_instruction g.body ≡ false) (st : State) (ls : List Slot) where
  abbrev IsKept : TypedExprTree → Type 0
  IsKept e = K (resolved ns ls e)

  abbrev Keeps : TypedExprTree → Type 0
  Keeps e = (a c : Bool) → IsExpr g st a e c → IsKept e

  index_kept : (x y : TypedExprTree) (ty : Ty) (a b : Bool) → Keeps x → IsKept y → IsBase g st a x b (IsExpr g st a x b) → K (resolved_index ns ty x (resolved ns ls x) y (resolved ns ls y))
  index_kept (t_x r u) y ty a b p q h = absurd (true≢false (sym h.0 ∙ block))
  index_kept (t_mem r u) y ty a b p q h = absurd (true≢false (sym h.0 ∙ block))
  index_kept (t_name r u n) y ty a b p q h = entry_kept (table_in 0 ns.tables n) ty (resolved_name ns n (slot_in ls n)) (resolved ns ls y) (name_kept ns n (slot_in ls n)) q
  index_kept (t_literal r u v o) y ty a b p q h = (refl, p a b h)
  index_kept (t_pc r u) y ty a b p q h = (refl, p a b h)
  index_kept (t_index r u x z) y ty a b p q h = (refl, p a b h)
  index_kept (t_range r u x z w) y ty a b p q h = (refl, p a b h)
  index_kept (t_unary r u op x) y ty a b p q h = (refl, p a b h)
  index_kept (t_cast r u to x) y ty a b p q h = (refl, p a b h)
  index_kept (t_binary r u op x z) y ty a b p q h = (refl, p a b h)
  index_kept (t_choose r u d x z) y ty a b p q h = (refl, p a b h)

  range_kept : (x y z : TypedExprTree) (ty : Ty) (a b : Bool) → Keeps x → IsWord g st a x b (IsExpr g st a x b) → K (resolved_range ty x (resolved ns ls x) (resolved ns ls y) (resolved ns ls z))
  range_kept (t_x r u) y z ty a b p h = absurd (true≢false (sym h.0 ∙ block))
  range_kept (t_mem r u) y z ty a b p h = absurd (true≢false (sym h.0 ∙ block))
  range_kept (t_name r u n) y z ty a b p h = (refl, p a b h)
  range_kept (t_literal r u v l) y z ty a b p h = (refl, p a b h)
  range_kept (t_pc r u) y z ty a b p h = (refl, p a b h)
  range_kept (t_index r u x v) y z ty a b p h = (refl, p a b h)
  range_kept (t_range r u x v w) y z ty a b p h = (refl, p a b h)
  range_kept (t_unary r u op x) y z ty a b p h = (refl, p a b h)
  range_kept (t_cast r u to x) y z ty a b p h = (refl, p a b h)
  range_kept (t_binary r u op x v) y z ty a b p h = (refl, p a b h)
  range_kept (t_choose r u d x v) y z ty a b p h = (refl, p a b h)

  kept_of : (e : TypedExprTree) → Keeps e
  kept_of (t_literal s ty u b) a c h = tt
  kept_of (t_name s ty n) a c h = name_kept ns n (slot_in ls n)
  kept_of (t_pc s ty) a c h = tt
  kept_of (t_x s ty) a c h = tt
  kept_of (t_mem s ty) a c h = tt
  kept_of (t_index s ty x y) a c h = index_kept x y ty a h.0 (kept_of x) (kept_of y h.0 c h.2) h.1
  kept_of (t_range s ty x y z) a c h = range_kept x y z ty a h.0 (kept_of x) h.2
  kept_of (t_unary s ty op x) a c h = (unary_kept op, kept_of x a c h.0)
  kept_of (t_cast s ty to x) a c h = kept_of x a c h.0
  kept_of (t_binary s ty op x y) a c h = (kept_of x a h.0 h.1, kept_of y h.0 c h.2)
  kept_of (t_choose s ty d x y) a c h = (kept_of d a h.0 h.2, kept_of x h.0 h.1 h.3, kept_of y h.1 c h.4)

-- ---- statements
abbrev KS : Statement → Type 0
KS x = AllKept ReadsCustoms ⊥ x

operated_kept : (op : Option BinOp) (ty : Ty) (old e : Expression) → K old → K e → K (operated op ty old e)
operated_kept None ty old e h g = g
operated_kept (Some op) ty old e h g = (h, g)

register_kept : (op : Option BinOp) (e : Expression) (o : Option Numbered) → K e → KS (register_written op e o)
register_kept op e (Some r) h = (operated_kept op r.ty (register_read r) e tt h, tt)
register_kept op e None h = tt

written_name : (ns : Names) (op : Option BinOp) (n : List ℕ) (e : Expression) (o : Option Slot) → K e → KS (name_written ns op n e o)
written_name ns op n e (Some l) h = operated_kept op l.ty (x_slot l.slot l.ty) e tt h
written_name ns op n e None h = register_kept op e (register_in 0 ns.registers n) h

module _ (ns : Names) where
  place_kept : (g : Setting) (block : is_instruction g.body ≡ false) (st : State) (sc : Scope) (op : Option BinOp) (x : TypedLvalueTree) (ty : Ty) (w : Option Target) (c : Bool) (e : Expression)
      → IsPlace g st (is_update op) x ty w c → K e → KS (written ns sc op x e)
  place_kept g block st sc op (tl_name n) ty w c e h q = written_name ns op n e (slot_in sc.locals n) q
  place_kept g block st sc op tl_pc ty w c e h q = (operated_kept op _ _ e tt q, tt)
  place_kept g block st sc op (tl_x f) ty w c e h q = (q, tt)
  place_kept g block st sc op (tl_mem x None) ty w c e h q = absurd (true≢false (sym h.3.0 ∙ block))
  place_kept g block st sc op (tl_mem x (Some y)) ty w c e h q = absurd (true≢false (sym h.5.0 ∙ block))

  first_kept : (g : Setting) (block : is_instruction g.body ≡ false) (st mid : State) (ty goal : Ty) (sc : Scope) (o : Option TypedExprTree) → IsInitial g ty st o mid → K (initial ns sc goal o)
  first_kept g block st mid ty goal sc None h = tt
  first_kept g block st mid ty goal sc (Some e) h = kept_of ns g block st sc.locals e st.accessed h.0 h.1

  decls_kept : (g : Setting) (block : is_instruction g.body ≡ false) (st after : State) (ty goal : Ty) (ds : List TypedDeclTree) (sc : Scope) → AreDecls g ty st ds after → KS (declarations ns goal ds sc).body
  decls_kept g block st after ty goal [] sc h = tt
  decls_kept g block st after ty goal (x ∷ xs) sc h = (
    first_kept g block st h.1.1.0 ty goal sc x.value h.1.1.1,
    decls_kept g block h.0 after ty goal xs (declared sc x.name goal (initial ns sc goal x.value)).scope h.2,
  )

  mutual
    stmt_kept : (g : Setting) (block : is_instruction g.body ≡ false) (st after : State) (x : TypedStmtTree) (sc : Scope) → IsStmt g st x after → KS (step ns x sc).body
    stmt_kept g block st after (ts_block s all) sc h = row_kept g block st h.0 all sc h.1
    stmt_kept g block st after (ts_empty s) sc h = tt
    stmt_kept g block st after (ts_locals s text ds) sc h = decls_kept g block st after h.0 (type_of_text text) ds sc h.2
    stmt_kept g block st after (ts_assign s a) sc h = place_kept g block st sc a.op a.target.tree h.0 h.1 h.2 (resolved ns sc.locals a.value) h.4 (kept_of ns g block st sc.locals a.value h.2 h.3 h.5)
    stmt_kept g block st after (ts_if s c x) sc h = (
      kept_of ns g block st sc.locals c st.accessed h.0 h.2,
      stmt_kept (below_if g) block (with_accessed st h.0) h.1 x sc h.3,
      tt,
    )
    stmt_kept g block st after (ts_if_else s c x y) sc h = (
      kept_of ns g block st sc.locals c st.accessed h.0 h.3,
      stmt_kept (below_if g) block (with_accessed st h.0) h.1 x sc h.4,
      stmt_kept (below_if g) block (other_path (with_accessed st h.0) (scope_end (with_accessed st h.0) h.1)) h.2 y (left sc (step ns x sc).scope) h.5,
    )
    stmt_kept g block st after (ts_spawn s x) sc h = stmt_kept (below_spawn g) block (with_spawn st) h.1.0 x sc h.1.1

    row_kept : (g : Setting) (block : is_instruction g.body ≡ false) (st after : State) (all : TypedRow) (sc : Scope) → IsRow g st all after → KS (step_row ns all sc).body
    row_kept g block st after typed_end sc h = tt
    row_kept g block st after (typed_more x rest) sc h = (stmt_kept g block st h.0 x sc h.1, row_kept g block h.0 after rest (step ns x sc).scope h.2)

-- ---- the always-blocks of a text
abbrev Each : {A : Type 0} → (A → Type 0) → List A → Type 0
Each P [] = Unit {0}
Each P (x ∷ xs) = P x × Each P xs

each_behind : {A : Type 0} (P : A → Type 0) (xs ys : List A) → Each P xs → Each P ys → Each P (xs ++ ys)
each_behind P [] ys h g = g
each_behind P (x ∷ xs) ys h g = (h.0, each_behind P xs ys h.1 g)

record IsAt {A B : Type 0} (P : A → Type 0) (f : A → B) (xs : List A) (n : ℕ) : Type 0 where
  item : A
  is : slice_get (map f xs) n ≡ Some (f item)
  has : P item

each_at : {A B : Type 0} (P : A → Type 0) (f : A → B) (xs : List A) (n : ℕ) → Each P xs → n < length (map f xs) → IsAt P f xs n
each_at P f [] n h l = absurd (omega (arith, l))
each_at P f (x ∷ xs) zero h l = record { item = x; is = refl; has = h.0 }
each_at P f (x ∷ xs) (suc n) h l = let r = each_at P f xs n h.1 (omega (arith, l)) in record { item = r.item; is = r.is; has = r.has }

abbrev Judges : List Named → TypedBlockTree → Type 0
Judges names x = (seen : List (List ℕ)) × IsBlock names x seen

blocks : (names : List Named) (xs : List TypedBlockTree) (seen after : List (List ℕ)) → AreBlocks names xs seen after → Each (Judges names) xs
blocks names [] seen after h = tt
blocks names (x ∷ xs) seen after h = ((seen, h.0), blocks names xs (seen ++ x.name ∷ []) after h.1)

kind_blocks : (st : State) (k : TypedSectionKindTree) (f mid : Front) → IsKind st k f mid → Each (Judges st.names) (blocks_in k)
kind_blocks st (tk_states xs) f mid h = tt
kind_blocks st (tk_instructions xs) f mid h = tt
kind_blocks st (tk_always xs) f mid h = blocks st.names xs f.behaviours h.1.0 h.1.1

section_blocks : (st : State) (xs : List TypedSectionTree) (f : Front) → AreSections st xs f → Each (Judges st.names) (all_blocks xs)
section_blocks st [] f h = tt
section_blocks st (x ∷ xs) f h = each_behind (Judges st.names) (blocks_in x.kind) (all_blocks xs) (kind_blocks st x.kind f h.0 h.1) (section_blocks st xs h.0 h.2)

block_statement : (t : TypedTextTree) → IsText t → (n : ℕ) → HasBehaviour (extension_of t) (W.Block n) → KS (statement_at (extension_of t) (W.Block n))
block_statement t text n h =
    let x : ExtensionTree = extension_of t in
    let st : State = global_state (globals [] (map erased_section t.sections)) in
    let at = each_at (Judges st.names) block_of (all_blocks t.sections) n (section_blocks st t.sections no_front text) h in
    let ns : Names = record { pieces = []; registers = x.registers; tables = x.tables } in
    let judged = at.has.1.1 in
    let P : Option BehaviourTree → Type 0 = λ o. KS (steps ns (body_in o) outside).body in
    subst P (sym at.is) (stmt_kept ns (record { body = B.Always; in_spawn = false; below_if = false }) refl (global_state st.names) judged.0 at.item.body outside judged.1, tt)

pub block_kept : TextLaw → (t : TypedTextTree) (x : ExtensionTree) (n : ℕ) → IsOf t x → HasBehaviour x (W.Block n) → AllKept ReadsCustoms ⊥ (statement_at x (W.Block n))
block_kept law t x n h b =
    let P : ExtensionTree → Type 0 = λ z. HasBehaviour z (W.Block n) → KS (statement_at z (W.Block n)) in
    subst P (sym h.parts) (block_statement t ((law (erased_text t) t).0 h.typed).typed n) b
