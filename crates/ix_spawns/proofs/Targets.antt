-- A `spawn` body writes registers alone, statement by statement, and so in each behaviour of a text that breaks no rule.
use Rattle.std.proofs.Common.{◌≡◌, sym, subst, refl, ℕ, zero, suc, ◌<◌, arith, List, [], ◌∷◌, ◌++◌, length, map, Option, Some, None, Bool, true, false}
use Rattle.std.specs.Prelude.{slice_get, option_map}
use Rattle.ix_bits.specs.declared.number.Ty.{Ty}
use Rattle.ix_bits.specs.declared.operator.BinOp.{BinOp}
use Rattle.ix_tree.specs.TypedTrees.{TypedLvalueTree, tl_name, tl_pc, tl_x, tl_mem, TypedDeclTree, TypedStmtTree, ts_block, ts_empty, ts_locals, ts_assign, ts_if, ts_if_else, ts_spawn, TypedRow, typed_end, typed_more, TypedInstrTree, TypedBlockTree, TypedSectionTree, TypedSectionKindTree, tk_states, tk_instructions, tk_always, TypedTextTree, erased_section, erased_text}
use Rattle.ix_typing.specs.declared.role.Named.{Named}
use Rattle.ix_typing.specs.declared.state.Setting.{Setting}
use Rattle.ix_typing.specs.declared.state.State.{State}
use Rattle.ix_typing.specs.declared.state.Front.{Front}
use Rattle.ix_typing.specs.declared.targets.Target.{Target}
use Rattle.ix_typing.specs.Assignments.{is_update}
use Rattle.ix_typing.specs.Statements.{with_accessed, with_spawn, scope_end, other_path, below_if, below_spawn}
use Rattle.ix_typing.specs.Texts.{globals, fields, global_state, no_front}
use Rattle.ix_typed.specs.Laws.{TextLaw}
use Rattle.ix_typed.specs.Assignments.{IsPlace}
use Rattle.ix_typed.specs.Statements.{IsStmt, IsRow}
use Rattle.ix_typed.specs.Texts.{IsInstr, AreInstrs, IsBlock, AreBlocks, IsKind, AreSections, IsText}
use Rattle.ix_extension.specs.Encodings.{pieces_of as pieces_in}
use Rattle.ix_extension.specs.Extensions.{instrs_in, blocks_in, all_instrs, all_blocks, BehaviourTree, InstructionTree, ExtensionTree, instruction_of, block_of, extension_of}
use Rattle.ix_mean.specs.Core.{Expression}
use Rattle.ix_mean.specs.ByName.{Names, Numbered, register_in}
use Rattle.ix_mean.specs.EffectByName.{type_of_text}
use Rattle.ix_mean.specs.Resolving.{Slot, slot_in, resolved}
use Rattle.ix_mean.specs.ResolvingStatements.{Scope, step, step_row, outside, left, written, name_written, register_written, declared, declarations, initial}
use Rattle.ix_behaviour.specs.declared.which.Which.{Which}
use Rattle.ix_behaviour.specs.declared.which.Which.TheVariants as W
use Rattle.ix_behaviour.specs.Behaviours.{HasBehaviour, behaviour_of, body_in, pieces_in as pieces_with, body_at, names_at, targets_in, spawned, spawned_row, all_spawned, spawned_at}
use Rattle.ix_spawns.specs.Targets.{AreRegisters, RegistersLaw}

joined : (xs ys : List ℕ) → AreRegisters xs → AreRegisters ys → AreRegisters (xs ++ ys)
joined [] ys h g = g
joined (x ∷ xs) ys h g = (h.0, joined xs ys h.1 g)

register_is : (op : Option BinOp) (e : Expression) (o : Option Numbered) → AreRegisters (targets_in (register_written op e o))
register_is op e None = tt
register_is op e (Some r) = ((λ z. absurd (omega (arith, z)), λ z. absurd (omega (arith, z))), tt)

not_both : (b : Bool) → b ≡ true → b ≡ false → ⊥
not_both true e h = cc
not_both false e h = cc

module _ (ns : Names) where
  name_is : (op : Option BinOp) (n : List ℕ) (e : Expression) (o : Option Slot) → AreRegisters (targets_in (name_written ns op n e o))
  name_is op n e (Some l) = tt
  name_is op n e None = register_is op e (register_in 0 ns.registers n)

  place_is : (g : Setting) (st : State) (sc : Scope) (op : Option BinOp) (x : TypedLvalueTree) (ty : Ty) (w : Option Target) (c : Bool) (e : Expression) → g.in_spawn ≡ true → IsPlace g st (is_update op) x ty w c
      → AreRegisters (targets_in (written ns sc op x e))
  place_is g st sc op (tl_name n) ty w c e inside h = name_is op n e (slot_in sc.locals n)
  place_is g st sc op tl_pc ty w c e inside h = absurd (not_both g.in_spawn inside h.1)
  place_is g st sc op (tl_x f) ty w c e inside h = ((λ z. absurd (omega (arith, z)), λ z. absurd (omega (arith, z))), tt)
  place_is g st sc op (tl_mem a None) ty w c e inside h = absurd (not_both g.in_spawn inside h.3.4)
  place_is g st sc op (tl_mem x (Some a)) ty w c e inside h = absurd (not_both g.in_spawn inside h.5.4)

  none_declared : (ty : Ty) (ds : List TypedDeclTree) (sc : Scope) → AreRegisters (targets_in (declarations ns ty ds sc).body)
  none_declared ty [] sc = tt
  none_declared ty (d ∷ ds) sc = none_declared ty ds (declared sc d.name ty (initial ns sc ty d.value)).scope

  mutual
    body_is : (g : Setting) (st after : State) (sc : Scope) (x : TypedStmtTree) → g.in_spawn ≡ true → IsStmt g st x after → AreRegisters (targets_in (step ns x sc).body)
    body_is g st after sc (ts_block s all) inside h = row_is g st h.0 sc all inside h.1
    body_is g st after sc (ts_empty s) inside h = tt
    body_is g st after sc (ts_locals s text ds) inside h = none_declared (type_of_text text) ds sc
    body_is g st after sc (ts_assign s a) inside h = place_is g st sc a.op a.target.tree h.0 h.1 h.2 (resolved ns sc.locals a.value) inside h.4
    body_is g st after sc (ts_if s c x) inside h =
        joined (targets_in (step ns x sc).body) [] (body_is (below_if g) (with_accessed st h.0) h.1 sc x inside h.3) tt
    body_is g st after sc (ts_if_else s c x y) inside h =
        joined (targets_in (step ns x sc).body) (targets_in (step ns y (left sc (step ns x sc).scope)).body)
        (body_is (below_if g) (with_accessed st h.0) h.1 sc x inside h.4)
        (body_is (below_if g) (other_path (with_accessed st h.0) (scope_end (with_accessed st h.0) h.1)) h.2 (left sc (step ns x sc).scope) y inside h.5)
    body_is g st after sc (ts_spawn s x) inside h = body_is (below_spawn g) (with_spawn st) h.1.0 sc x refl h.1.1

    row_is : (g : Setting) (st after : State) (sc : Scope) (all : TypedRow) → g.in_spawn ≡ true → IsRow g st all after → AreRegisters (targets_in (step_row ns all sc).body)
    row_is g st after sc typed_end inside h = tt
    row_is g st after sc (typed_more x rest) inside h =
        joined (targets_in (step ns x sc).body) (targets_in (step_row ns rest (step ns x sc).scope).body)
        (body_is g st h.0 sc x inside h.1) (row_is g h.0 after (step ns x sc).scope rest inside h.2)

  mutual
    spawned_is : (g : Setting) (st after : State) (sc : Scope) (x : TypedStmtTree) → IsStmt g st x after → AreRegisters (spawned ns x sc)
    spawned_is g st after sc (ts_block s all) h = spawned_rest g st h.0 sc all h.1
    spawned_is g st after sc (ts_empty s) h = tt
    spawned_is g st after sc (ts_locals s text ds) h = tt
    spawned_is g st after sc (ts_assign s a) h = tt
    spawned_is g st after sc (ts_if s c x) h = spawned_is (below_if g) (with_accessed st h.0) h.1 sc x h.3
    spawned_is g st after sc (ts_if_else s c x y) h =
        joined (spawned ns x sc) (spawned ns y (left sc (step ns x sc).scope))
        (spawned_is (below_if g) (with_accessed st h.0) h.1 sc x h.4)
        (spawned_is (below_if g) (other_path (with_accessed st h.0) (scope_end (with_accessed st h.0) h.1)) h.2 (left sc (step ns x sc).scope) y h.5)
    spawned_is g st after sc (ts_spawn s x) h = body_is (below_spawn g) (with_spawn st) h.1.0 sc x refl h.1.1

    spawned_rest : (g : Setting) (st after : State) (sc : Scope) (all : TypedRow) → IsRow g st all after → AreRegisters (spawned_row ns all sc)
    spawned_rest g st after sc typed_end h = tt
    spawned_rest g st after sc (typed_more x rest) h =
        joined (spawned ns x sc) (spawned_row ns rest (step ns x sc).scope) (spawned_is g st h.0 sc x h.1) (spawned_rest g h.0 after (step ns x sc).scope rest h.2)

  one_is : (g : Setting) (st after : State) (x : TypedStmtTree) → IsStmt g st x after → AreRegisters (all_spawned ns (x ∷ []) outside)
  one_is g st after x h = joined (spawned ns x outside) [] (spawned_is g st after outside x h) tt

-- ---- what each element of a list has
abbrev Each : {A : Type 0} → (A → Type 0) → List A → Type 0
Each P [] = Unit {0}
Each P (x ∷ xs) = P x × Each P xs

each_behind : {A : Type 0} (P : A → Type 0) (xs ys : List A) → Each P xs → Each P ys → Each P (xs ++ ys)
each_behind P [] ys h g = g
each_behind P (x ∷ xs) ys h g = (h.0, each_behind P xs ys h.1 g)

record IsAt {A B : Type 0} (P : A → Type 0) (f : A → B) (xs : List A) (n : ℕ) : Type 0 where
  item : A
  is : slice_get (map f xs) n ≡ Some (f item)
  has : P item

each_at : {A B : Type 0} (P : A → Type 0) (f : A → B) (xs : List A) (n : ℕ) → Each P xs → n < length (map f xs) → IsAt P f xs n
each_at P f [] n h l = absurd (omega (arith, l))
each_at P f (x ∷ xs) zero h l = record { item = x; is = refl; has = h.0 }
each_at P f (x ∷ xs) (suc n) h l = let r = each_at P f xs n h.1 (omega (arith, l)) in record { item = r.item; is = r.is; has = r.has }

-- ---- instructions and always-blocks
abbrev Judges : List Named → TypedInstrTree → Type 0
Judges names x = (seen : List (List ℕ)) × IsInstr names x seen

abbrev JudgesBlock : List Named → TypedBlockTree → Type 0
JudgesBlock names x = (seen : List (List ℕ)) × IsBlock names x seen

instrs : (names : List Named) (xs : List TypedInstrTree) (seen after : List (List ℕ)) → AreInstrs names xs seen after → Each (Judges names) xs
instrs names [] seen after h = tt
instrs names (x ∷ xs) seen after h = ((seen, h.0), instrs names xs (seen ++ x.name ∷ []) after h.1)

blocks : (names : List Named) (xs : List TypedBlockTree) (seen after : List (List ℕ)) → AreBlocks names xs seen after → Each (JudgesBlock names) xs
blocks names [] seen after h = tt
blocks names (x ∷ xs) seen after h = ((seen, h.0), blocks names xs (seen ++ x.name ∷ []) after h.1)

kind_instrs : (st : State) (k : TypedSectionKindTree) (f mid : Front) → IsKind st k f mid → Each (Judges st.names) (instrs_in k)
kind_instrs st (tk_states xs) f mid h = tt
kind_instrs st (tk_instructions xs) f mid h = instrs st.names xs f.behaviours h.1.0 h.1.1
kind_instrs st (tk_always xs) f mid h = tt

kind_blocks : (st : State) (k : TypedSectionKindTree) (f mid : Front) → IsKind st k f mid → Each (JudgesBlock st.names) (blocks_in k)
kind_blocks st (tk_states xs) f mid h = tt
kind_blocks st (tk_instructions xs) f mid h = tt
kind_blocks st (tk_always xs) f mid h = blocks st.names xs f.behaviours h.1.0 h.1.1

section_instrs : (st : State) (xs : List TypedSectionTree) (f : Front) → AreSections st xs f → Each (Judges st.names) (all_instrs xs)
section_instrs st [] f h = tt
section_instrs st (x ∷ xs) f h = each_behind (Judges st.names) (instrs_in x.kind) (all_instrs xs) (kind_instrs st x.kind f h.0 h.1) (section_instrs st xs h.0 h.2)

section_blocks : (st : State) (xs : List TypedSectionTree) (f : Front) → AreSections st xs f → Each (JudgesBlock st.names) (all_blocks xs)
section_blocks st [] f h = tt
section_blocks st (x ∷ xs) f h = each_behind (JudgesBlock st.names) (blocks_in x.kind) (all_blocks xs) (kind_blocks st x.kind f h.0 h.1) (section_blocks st xs h.0 h.2)

-- ---- the behaviours of a text that breaks no rule
module _ (t : TypedTextTree) (text : IsText t) where
  abbrev x : ExtensionTree
  x = extension_of t

  abbrev st : State
  st = global_state (globals [] (map erased_section t.sections))

  all_are : (w : Which) → HasBehaviour x w → AreRegisters (all_spawned (names_at x w) (body_at x w) outside)
  all_are (W.Instruction n) h =
      let at = each_at (Judges st.names) instruction_of (all_instrs t.sections) n (section_instrs st t.sections no_front text) h in
      let P : Option InstructionTree → Type 0 = λ o. AreRegisters (all_spawned (record { pieces = pieces_with o; registers = x.registers; tables = x.tables }) (body_in (option_map behaviour_of o)) outside) in
      let y = at.item in
      let ns : Names = record { pieces = pieces_in y.pieces; registers = x.registers; tables = x.tables } in
      subst P (sym at.is) (one_is ns _ (global_state (fields st.names y.pieces).names) at.has.1.2.0 y.body at.has.1.2.1)
  all_are (W.Block n) h =
      let at = each_at (JudgesBlock st.names) block_of (all_blocks t.sections) n (section_blocks st t.sections no_front text) h in
      let P : Option BehaviourTree → Type 0 = λ o. AreRegisters (all_spawned (record { pieces = []; registers = x.registers; tables = x.tables }) (body_in o) outside) in
      let y = at.item in
      let ns : Names = record { pieces = []; registers = x.registers; tables = x.tables } in
      subst P (sym at.is) (one_is ns _ (global_state st.names) at.has.1.1.0 y.body at.has.1.1.1)

pub registers_law : TextLaw → RegistersLaw
registers_law law t x w h has =
    let P : ExtensionTree → Type 0 = λ z. HasBehaviour z w → AreRegisters (spawned_at z w) in
    subst P (sym h.parts) (all_are t ((law (erased_text t) t).0 h.typed).typed w) has
