-- An always-block reads no operand and no memory.
use Rattle.std.proofs.Common.{◌≡◌, refl, sym, ap, subst, ◌∙◌, ℕ, zero, suc, ◌<◌, arith, ℤ, Bool, false, cond, List, [], ◌∷◌, ◌++◌, length, map, Option, Some, None}
use Rattle.std.specs.Prelude.{slice_get}
use Rattle.std.proofs.lemmas.Bool.{true≢false}
use Rattle.ix_bits.specs.declared.number.Ty.{Ty}
use Rattle.ix_bits.specs.declared.operator.BinOp.{BinOp}
use Rattle.ix_bits.specs.Operators.{fit, is_true, binary_number, unary_number}
use Rattle.ix_tree.specs.TypedTrees.{TypedExprTree, t_literal, t_name, t_pc, t_x, t_mem, t_index, t_range, t_unary, t_cast, t_binary, t_choose, TypedDeclTree, TypedLvalueTree, tl_name, tl_pc, tl_x, tl_mem, TypedStmtTree, ts_block, ts_empty, ts_locals, ts_assign, ts_if, ts_if_else, ts_spawn, TypedRow, typed_end, typed_more, type_of, TypedBlockTree, TypedSectionTree, TypedSectionKindTree, tk_states, tk_instructions, tk_always, TypedTextTree, erased_section, erased_text}
use Rattle.ix_typing.specs.declared.role.Named.{Named}
use Rattle.ix_typing.specs.declared.state.Body.TheVariants as B
use Rattle.ix_typing.specs.declared.state.Setting.{Setting}
use Rattle.ix_typing.specs.declared.state.State.{State}
use Rattle.ix_typing.specs.declared.state.Front.{Front}
use Rattle.ix_typing.specs.declared.targets.Target.{Target}
use Rattle.ix_typing.specs.Expressions.{is_instruction}
use Rattle.ix_typing.specs.Statements.{with_accessed, with_spawn, scope_end, other_path, below_if, below_spawn}
use Rattle.ix_typing.specs.Assignments.{is_update}
use Rattle.ix_typing.specs.Texts.{globals, global_state, no_front}
use Rattle.ix_typed.specs.Laws.{TextLaw}
use Rattle.ix_typed.specs.Expressions.{IsBase, IsWord, IsExpr}
use Rattle.ix_typed.specs.Assignments.{IsPlace}
use Rattle.ix_typed.specs.Statements.{IsInitial, AreDecls, IsStmt, IsRow}
use Rattle.ix_typed.specs.Texts.{IsBlock, AreBlocks, IsKind, AreSections, IsText}
use Rattle.ix_extension.specs.Extensions.{blocks_in, all_blocks, BehaviourTree, ExtensionTree, block_of, extension_of}
use Rattle.ix_extension.specs.WellFormed.{IsOf}
use Rattle.ix_mean.specs.Meaning.{Inputs}
use Rattle.ix_mean.specs.ByName.{Names, Local, local_in, Numbered, register_in, Entries, table_in, register_or_field, name_number, bits_number, entry_or_bit, index_number, range_number, number_by_name}
use Rattle.ix_mean.specs.EffectByName.{Doing, leaves, type_of_text, first_number, all_declared, assigns_register, assigns_name, assigns, does, does_row}
use Rattle.ix_depends.specs.Laws.{seeing, BlindLaw}
use Rattle.ix_behaviour.specs.declared.which.Which.TheVariants as W
use Rattle.ix_behaviour.specs.Behaviours.{HasBehaviour, body_in, does_all, at_start, effect_by_name}

module _ (ns : Names) (i : Inputs) (first second : ℕ) (memory : ℕ → ℕ → ℕ) where
  abbrev j : Inputs
  j = seeing i first second memory

  other_same : (n : List ℕ) (o : Option Numbered) → register_or_field ns i n o ≡ register_or_field ns j n o
  other_same n None = refl
  other_same n (Some r) = refl

  name_same : (n : List ℕ) (o : Option Local) → name_number ns i n o ≡ name_number ns j n o
  name_same n None = other_same n (register_in 0 ns.registers n)
  name_same n (Some l) = refl

  bits_same : (u : Ty) (x y z x' y' z' : ℤ) → x ≡ x' → y ≡ y' → z ≡ z' → bits_number u x y z ≡ bits_number u x' y' z'
  bits_same u x y z x' y' z' e f g = ap (λ (v : ℤ). bits_number u v y z) e ∙ ap (λ (v : ℤ). bits_number u x' v z) f ∙ ap (bits_number u x' y') g

  entry_same : (o : Option Entries) (ty u : Ty) (x y x' y' : ℤ) → x ≡ x' → y ≡ y' → entry_or_bit o ty u x y ≡ entry_or_bit o ty u x' y'
  entry_same o ty u x y x' y' e f = ap (λ (v : ℤ). entry_or_bit o ty u v y) e ∙ ap (entry_or_bit o ty u x') f

  -- ---- expressions
  module _ (g : Setting) (block : is_instruction g.body ≡ false) (st : State) (ls : List Local) where
    abbrev IsSame : TypedExprTree → Type 0
    IsSame e = number_by_name ns i ls e ≡ number_by_name ns j ls e

    abbrev Same : TypedExprTree → Type 0
    Same e = (a c : Bool) → IsExpr g st a e c → IsSame e

    index_same : (x y : TypedExprTree) (ty : Ty) (a b : Bool) → Same x → IsSame y → IsBase g st a x b (IsExpr g st a x b)
        → index_number ns i ty x (number_by_name ns i ls x) y (number_by_name ns i ls y) ≡ index_number ns j ty x (number_by_name ns j ls x) y (number_by_name ns j ls y)
    index_same (t_x r u) y ty a b p q h = absurd (true≢false (sym h.0 ∙ block))
    index_same (t_mem r u) y ty a b p q h = absurd (true≢false (sym h.0 ∙ block))
    index_same (t_name r u n) y ty a b p q h = entry_same (table_in 0 ns.tables n) ty u _ _ _ _ (name_same n (local_in ls n)) q
    index_same (t_literal r u v o) y ty a b p q h = bits_same u _ _ _ _ _ _ (p a b h) q q
    index_same (t_pc r u) y ty a b p q h = bits_same u _ _ _ _ _ _ (p a b h) q q
    index_same (t_index r u x z) y ty a b p q h = bits_same u _ _ _ _ _ _ (p a b h) q q
    index_same (t_range r u x z w) y ty a b p q h = bits_same u _ _ _ _ _ _ (p a b h) q q
    index_same (t_unary r u op x) y ty a b p q h = bits_same u _ _ _ _ _ _ (p a b h) q q
    index_same (t_cast r u to x) y ty a b p q h = bits_same u _ _ _ _ _ _ (p a b h) q q
    index_same (t_binary r u op x z) y ty a b p q h = bits_same u _ _ _ _ _ _ (p a b h) q q
    index_same (t_choose r u d x z) y ty a b p q h = bits_same u _ _ _ _ _ _ (p a b h) q q

    range_same : (x y z : TypedExprTree) (ty : Ty) (a b : Bool) → Same x → IsSame y → IsSame z → IsWord g st a x b (IsExpr g st a x b)
        → range_number i ty x (number_by_name ns i ls x) (number_by_name ns i ls y) (number_by_name ns i ls z) ≡ range_number j ty x (number_by_name ns j ls x) (number_by_name ns j ls y) (number_by_name ns j ls z)
    range_same (t_x r u) y z ty a b p q o h = absurd (true≢false (sym h.0 ∙ block))
    range_same (t_mem r u) y z ty a b p q o h = absurd (true≢false (sym h.0 ∙ block))
    range_same (t_name r u n) y z ty a b p q o h = bits_same u _ _ _ _ _ _ (p a b h) q o
    range_same (t_literal r u v l) y z ty a b p q o h = bits_same u _ _ _ _ _ _ (p a b h) q o
    range_same (t_pc r u) y z ty a b p q o h = bits_same u _ _ _ _ _ _ (p a b h) q o
    range_same (t_index r u x v) y z ty a b p q o h = bits_same u _ _ _ _ _ _ (p a b h) q o
    range_same (t_range r u x v w) y z ty a b p q o h = bits_same u _ _ _ _ _ _ (p a b h) q o
    range_same (t_unary r u op x) y z ty a b p q o h = bits_same u _ _ _ _ _ _ (p a b h) q o
    range_same (t_cast r u to x) y z ty a b p q o h = bits_same u _ _ _ _ _ _ (p a b h) q o
    range_same (t_binary r u op x v) y z ty a b p q o h = bits_same u _ _ _ _ _ _ (p a b h) q o
    range_same (t_choose r u d x v) y z ty a b p q o h = bits_same u _ _ _ _ _ _ (p a b h) q o

    same_of : (e : TypedExprTree) → Same e
    same_of (t_literal s ty u b) a c h = refl
    same_of (t_name s ty n) a c h = name_same n (local_in ls n)
    same_of (t_pc s ty) a c h = refl
    same_of (t_x s ty) a c h = refl
    same_of (t_mem s ty) a c h = refl
    same_of (t_index s ty x y) a c h = index_same x y ty a h.0 (same_of x) (same_of y h.0 c h.2) h.1
    same_of (t_range s ty x y z) a c h = range_same x y z ty a h.0 (same_of x) (same_of y h.0 h.1 h.3) (same_of z h.1 c h.4) h.2
    same_of (t_unary s ty op x) a c h = ap (unary_number op (type_of x)) (same_of x a c h.0)
    same_of (t_cast s ty to x) a c h = ap (fit ty) (same_of x a c h.0)
    same_of (t_binary s ty op x y) a c h =
        ap (λ (z : ℤ). binary_number op (type_of x) z (type_of y) (number_by_name ns i ls y)) (same_of x a h.0 h.1)
        ∙ ap (λ (z : ℤ). binary_number op (type_of x) (number_by_name ns j ls x) (type_of y) z) (same_of y h.0 c h.2)
    same_of (t_choose s ty d x y) a c h =
        ap (λ (z : ℤ). cond (is_true z) (number_by_name ns i ls x) (number_by_name ns i ls y)) (same_of d a h.0 h.2)
        ∙ ap (λ (z : ℤ). cond (is_true (number_by_name ns j ls d)) z (number_by_name ns i ls y)) (same_of x h.0 h.1 h.3)
        ∙ ap (λ (z : ℤ). cond (is_true (number_by_name ns j ls d)) (number_by_name ns j ls x) z) (same_of y h.1 c h.4)

  -- ---- statements
  register_assigned : (op : Option BinOp) (u : Ty) (z : ℤ) (o : Option Numbered) (d : Doing) → assigns_register i op u z o d ≡ assigns_register j op u z o d
  register_assigned op u z None d = refl
  register_assigned op u z (Some r) d = refl

  name_assigned : (op : Option BinOp) (n : List ℕ) (u : Ty) (z : ℤ) (o : Option Local) (d : Doing) → assigns_name ns i op n u z o d ≡ assigns_name ns j op n u z o d
  name_assigned op n u z None d = register_assigned op u z (register_in 0 ns.registers n) d
  name_assigned op n u z (Some l) d = refl

  place_assigned : (g : Setting) (block : is_instruction g.body ≡ false) (st : State) (op : Option BinOp) (x : TypedLvalueTree) (ty : Ty) (w : Option Target) (c : Bool) (u : Ty) (z : ℤ) (d : Doing)
      → IsPlace g st (is_update op) x ty w c → assigns ns i op x u z d ≡ assigns ns j op x u z d
  place_assigned g block st op (tl_name n) ty w c u z d h = name_assigned op n u z (local_in d.locals n) d
  place_assigned g block st op tl_pc ty w c u z d h = refl
  place_assigned g block st op (tl_x f) ty w c u z d h = refl
  place_assigned g block st op (tl_mem x None) ty w c u z d h = absurd (true≢false (sym h.3.0 ∙ block))
  place_assigned g block st op (tl_mem x (Some y)) ty w c u z d h = absurd (true≢false (sym h.5.0 ∙ block))

  first_same : (g : Setting) (block : is_instruction g.body ≡ false) (st mid : State) (ty : Ty) (ls : List Local) (o : Option TypedExprTree) → IsInitial g ty st o mid → first_number ns i ls o ≡ first_number ns j ls o
  first_same g block st mid ty ls None h = refl
  first_same g block st mid ty ls (Some e) h = same_of g block st ls e st.accessed h.0 h.1

  decls_same : (g : Setting) (block : is_instruction g.body ≡ false) (st after : State) (ty goal : Ty) (ds : List TypedDeclTree) (d : Doing) → AreDecls g ty st ds after → all_declared ns i goal ds d ≡ all_declared ns j goal ds d
  decls_same g block st after ty goal [] d h = refl
  decls_same g block st after ty goal (x ∷ xs) d h =
      ap (λ (z : ℤ). all_declared ns i goal xs (record { locals = record { name = x.name; ty = goal; number = z } ∷ d.locals; targets = d.targets })) (first_same g block st h.1.1.0 ty d.locals x.value h.1.1.1)
      ∙ decls_same g block h.0 after ty goal xs (record { locals = record { name = x.name; ty = goal; number = first_number ns j d.locals x.value } ∷ d.locals; targets = d.targets }) h.2

  mutual
    stmt_same : (g : Setting) (block : is_instruction g.body ≡ false) (st after : State) (x : TypedStmtTree) (d : Doing) → IsStmt g st x after → does ns i x d ≡ does ns j x d
    stmt_same g block st after (ts_block s all) d h = ap (leaves d) (row_same g block st h.0 all d h.1)
    stmt_same g block st after (ts_empty s) d h = refl
    stmt_same g block st after (ts_locals s text ds) d h = decls_same g block st after h.0 (type_of_text text) ds d h.2
    stmt_same g block st after (ts_assign s a) d h =
        ap (λ (z : ℤ). assigns ns i a.op a.target.tree (type_of a.value) z d) (same_of g block st d.locals a.value h.2 h.3 h.5)
        ∙ place_assigned g block st a.op a.target.tree h.0 h.1 h.2 (type_of a.value) (number_by_name ns j d.locals a.value) d h.4
    stmt_same g block st after (ts_if s c x) d h =
        ap (λ (z : ℤ). cond (is_true z) (leaves d (does ns i x d)) d) (same_of g block st d.locals c st.accessed h.0 h.2)
        ∙ ap (λ (z : Doing). cond (is_true (number_by_name ns j d.locals c)) (leaves d z) d) (stmt_same (below_if g) block (with_accessed st h.0) h.1 x d h.3)
    stmt_same g block st after (ts_if_else s c x y) d h =
        ap (λ (z : ℤ). cond (is_true z) (leaves d (does ns i x d)) (leaves d (does ns i y d))) (same_of g block st d.locals c st.accessed h.0 h.3)
        ∙ ap (λ (z : Doing). cond (is_true (number_by_name ns j d.locals c)) (leaves d z) (leaves d (does ns i y d))) (stmt_same (below_if g) block (with_accessed st h.0) h.1 x d h.4)
        ∙ ap (λ (z : Doing). cond (is_true (number_by_name ns j d.locals c)) (leaves d (does ns j x d)) (leaves d z))
        (stmt_same (below_if g) block (other_path (with_accessed st h.0) (scope_end (with_accessed st h.0) h.1)) h.2 y d h.5)
    stmt_same g block st after (ts_spawn s x) d h = ap (leaves d) (stmt_same (below_spawn g) block (with_spawn st) h.1.0 x d h.1.1)

    row_same : (g : Setting) (block : is_instruction g.body ≡ false) (st after : State) (all : TypedRow) (d : Doing) → IsRow g st all after → does_row ns i all d ≡ does_row ns j all d
    row_same g block st after typed_end d h = refl
    row_same g block st after (typed_more x rest) d h =
        ap (does_row ns i rest) (stmt_same g block st h.0 x d h.1) ∙ row_same g block h.0 after rest (does ns j x d) h.2

-- ---- the always-blocks of a text
abbrev Each : {A : Type 0} → (A → Type 0) → List A → Type 0
Each P [] = Unit {0}
Each P (x ∷ xs) = P x × Each P xs

each_behind : {A : Type 0} (P : A → Type 0) (xs ys : List A) → Each P xs → Each P ys → Each P (xs ++ ys)
each_behind P [] ys h g = g
each_behind P (x ∷ xs) ys h g = (h.0, each_behind P xs ys h.1 g)

record IsAt {A B : Type 0} (P : A → Type 0) (f : A → B) (xs : List A) (n : ℕ) : Type 0 where
  item : A
  is : slice_get (map f xs) n ≡ Some (f item)
  has : P item

each_at : {A B : Type 0} (P : A → Type 0) (f : A → B) (xs : List A) (n : ℕ) → Each P xs → n < length (map f xs) → IsAt P f xs n
each_at P f [] n h l = absurd (omega (arith, l))
each_at P f (x ∷ xs) zero h l = record { item = x; is = refl; has = h.0 }
each_at P f (x ∷ xs) (suc n) h l = let r = each_at P f xs n h.1 (omega (arith, l)) in record { item = r.item; is = r.is; has = r.has }

abbrev Judges : List Named → TypedBlockTree → Type 0
Judges names x = (seen : List (List ℕ)) × IsBlock names x seen

blocks : (names : List Named) (xs : List TypedBlockTree) (seen after : List (List ℕ)) → AreBlocks names xs seen after → Each (Judges names) xs
blocks names [] seen after h = tt
blocks names (x ∷ xs) seen after h = ((seen, h.0), blocks names xs (seen ++ x.name ∷ []) after h.1)

kind_blocks : (st : State) (k : TypedSectionKindTree) (f mid : Front) → IsKind st k f mid → Each (Judges st.names) (blocks_in k)
kind_blocks st (tk_states xs) f mid h = tt
kind_blocks st (tk_instructions xs) f mid h = tt
kind_blocks st (tk_always xs) f mid h = blocks st.names xs f.behaviours h.1.0 h.1.1

section_blocks : (st : State) (xs : List TypedSectionTree) (f : Front) → AreSections st xs f → Each (Judges st.names) (all_blocks xs)
section_blocks st [] f h = tt
section_blocks st (x ∷ xs) f h = each_behind (Judges st.names) (blocks_in x.kind) (all_blocks xs) (kind_blocks st x.kind f h.0 h.1) (section_blocks st xs h.0 h.2)

module _ (i : Inputs) (first second : ℕ) (memory : ℕ → ℕ → ℕ) where
  -- what the block with this number does, whatever operands and memory there are
  abbrev IsBlind : ExtensionTree → ℕ → Type 0
  IsBlind x n = effect_by_name x (W.Block n) i ≡ effect_by_name x (W.Block n) (seeing i first second memory)

  blind : (t : TypedTextTree) → IsText t → (n : ℕ) → HasBehaviour (extension_of t) (W.Block n) → IsBlind (extension_of t) n
  blind t text n h =
      let x : ExtensionTree = extension_of t in
      let st : State = global_state (globals [] (map erased_section t.sections)) in
      let at = each_at (Judges st.names) block_of (all_blocks t.sections) n (section_blocks st t.sections no_front text) h in
      let ns : Names = record { pieces = []; registers = x.registers; tables = x.tables } in
      let start : Doing = at_start x (W.Block n) in
      let judged = at.has.1.1 in
      let P : Option BehaviourTree → Type 0 = λ o. (does_all ns i (body_in o) start).targets ≡ (does_all ns (seeing i first second memory) (body_in o) start).targets in
      subst P (sym at.is)
      (ap (λ (d : Doing). d.targets)
      (stmt_same ns i first second memory (record { body = B.Always; in_spawn = false; below_if = false }) refl (global_state st.names) judged.0 at.item.body start judged.1))

  pub block_blind : TextLaw → (t : TypedTextTree) (x : ExtensionTree) (n : ℕ) → IsOf t x → HasBehaviour x (W.Block n) → IsBlind x n
  block_blind law t x n h b =
      let P : ExtensionTree → Type 0 = λ z. HasBehaviour z (W.Block n) → IsBlind z n in
      subst P (sym h.parts) (blind t ((law (erased_text t) t).0 h.typed).typed n) b

pub blind_law : TextLaw → BlindLaw
blind_law law t x n i first second memory of has = block_blind i first second memory law t x n of has
