-- The behaviours of an extension that breaks no rule.
use Rattle.std.proofs.Common.{◌≡◌, sym, ap, subst, refl, ℕ, zero, suc, ◌^◌, ◌<◌, ◌≤◌, arith, List, [], ◌∷◌, ◌++◌, length, map, Option, Some, None, Bool, true, false, cond, ◌||◌, nat_eq}
use Rattle.std.specs.Prelude.{All, slice_get, option_map, nat_lt}
use Rattle.std.proofs.lemmas.Bool.{eqb-true, ltb-false}
use Rattle.std.proofs.lemmas.List.{length-map}
use Rattle.ix_bits.specs.declared.number.Ty.{Ty}
use Rattle.ix_tree.specs.declared.extension.Piece.{Piece}
use Rattle.ix_tree.specs.TypedTrees.{TypedStmtTree, TypedInstrTree, TypedBlockTree, TypedSectionTree, TypedSectionKindTree, tk_states, tk_instructions, tk_always, TypedTextTree, erased_section, erased_text}
use Rattle.ix_typing.specs.declared.role.Role.{Role}
use Rattle.ix_typing.specs.declared.role.Role.TheVariants as R
use Rattle.ix_typing.specs.declared.role.Named.{Named}
use Rattle.ix_typing.specs.declared.state.Body.TheVariants as B
use Rattle.ix_typing.specs.declared.state.Setting.{Setting}
use Rattle.ix_typing.specs.declared.state.State.{State}
use Rattle.ix_typing.specs.declared.state.Front.{Front}
use Rattle.ix_typing.specs.Names.{role_of}
use Rattle.ix_typing.specs.Expressions.{is_constant as is_constant_body}
use Rattle.ix_typing.specs.Texts.{globals, fields, pieces_fault, global_state, no_front}
use Rattle.ix_typed.specs.Laws.{TextLaw}
use Rattle.ix_typed.specs.Statements.{IsStmt}
use Rattle.ix_typed.specs.Texts.{IsInstr, AreInstrs, IsBlock, AreBlocks, IsKind, AreSections, IsText}
use Rattle.ix_extension.specs.Encodings.{bits_of, has_field_twice, pieces_of as pieces_in}
use Rattle.ix_extension.specs.Extensions.{instrs_in, blocks_in, all_states, all_instrs, all_blocks, BehaviourTree, InstructionTree, ExtensionTree, instruction_of, block_of, extension_of}
use Rattle.ix_extension.specs.Faults.{Fault, encoding_width, field_twice, too_many, or_fault, fault_where, is_too_large, width_fault, twice_fault, extension_fault, first_fault}
use Rattle.ix_extension.specs.WellFormed.{IsOf}
use Rattle.ix_mean.specs.Core.{u32}
use Rattle.ix_mean.specs.Meaning.{Inputs, run, Access, reads}
use Rattle.ix_mean.specs.Effects.{no_write, nothing, started}
use Rattle.ix_mean.specs.Typing.{IsTypedStatement}
use Rattle.ix_mean.specs.ByName.{Names}
use Rattle.ix_mean.specs.EffectByName.{Doing}
use Rattle.ix_mean.specs.Resolving.{pieces_of, IsFieldOf}
use Rattle.ix_mean.specs.ResolvingStatements.{step, outside}
use Rattle.ix_mean.proofs.Steps.{step_law}
use Rattle.ix_mean.proofs.NamedReads.{reads_law}
use Rattle.ix_behaviour.specs.declared.which.Which.{Which}
use Rattle.ix_behaviour.specs.declared.which.Which.TheVariants as W
use Rattle.ix_behaviour.specs.Behaviours.{HasBehaviour, behaviour_of, body_in, pieces_in as pieces_with, body_at, names_at, steps, statement_at, stored_type, type_of_register, frame_at, accesses_in, does_all, reads_all}
use Rattle.ix_behaviour.specs.Laws.{AreResolved, ResolvedLaw, TypedBehaviourLaw, BehaviourEffectLaw, BehaviourReadsLaw, OneAccessLaw, IsFew, FewLaw}
use Rattle.ix_behaviour.proofs.FieldTypes.{ArePlaced}
use Rattle.ix_behaviour.proofs.Seeing.{Stands}
use Rattle.ix_behaviour.proofs.Stores.{one_type}
use Rattle.ix_behaviour.proofs.Scopes.{begins_same}
use Rattle.ix_behaviour.specs.Accesses.{AccessesAreTyped, AccessesLaw, StoredTypeLaw}
use Rattle.ix_behaviour.specs.Tables.{HaveWidthOf, TablesAreRead, TablesLaw, WidthsLaw}
use Rattle.ix_behaviour.proofs.AccessTypes.{stmt_typed, stored_is}
use Rattle.ix_behaviour.proofs.TablesRead.{stmt_reads}
use Rattle.ix_behaviour.proofs.Statements.{behaviour_sound}
use Rattle.ix_behaviour.proofs.Globals.{Global, global_is, tables_wide}
use Rattle.ix_behaviour.proofs.Encodings.{FieldIs, field_roles, pieces_placed, field_is}
use Rattle.ix_behaviour.proofs.Accesses.{all_done, none_at_first}

-- ---- what each element of a list has
abbrev Each : {A : Type 0} → (A → Type 0) → List A → Type 0
Each P [] = Unit {0}
Each P (x ∷ xs) = P x × Each P xs

each_behind : {A : Type 0} (P : A → Type 0) (xs ys : List A) → Each P xs → Each P ys → Each P (xs ++ ys)
each_behind P [] ys h g = g
each_behind P (x ∷ xs) ys h g = (h.0, each_behind P xs ys h.1 g)

record IsAt {A B : Type 0} (P : A → Type 0) (f : A → B) (xs : List A) (n : ℕ) : Type 0 where
  item : A
  is : slice_get (map f xs) n ≡ Some (f item)
  has : P item

each_at : {A B : Type 0} (P : A → Type 0) (f : A → B) (xs : List A) (n : ℕ) → Each P xs → n < length (map f xs) → IsAt P f xs n
each_at P f [] n h l = absurd (omega (arith, l))
each_at P f (x ∷ xs) zero h l = record { item = x; is = refl; has = h.0 }
each_at P f (x ∷ xs) (suc n) h l = let r = each_at P f xs n h.1 (omega (arith, l)) in record { item = r.item; is = r.is; has = r.has }

-- ---- faults
none_both : (o p : Option Fault) → or_fault o p ≡ None → (o ≡ None) × (p ≡ None)
none_both None p e = (refl, e)
none_both (Some f) p e = cc

none_where : (b : Bool) (f : Fault) → fault_where b f ≡ None → b ≡ false
none_where true f e = cc
none_where false f e = refl

either_false : (a b : Bool) → (a || b) ≡ false → (a ≡ false) × (b ≡ false)
either_false false false e = (refl, refl)
either_false false true e = cc
either_false true b e = cc

few_where : (x : ExtensionTree) → is_too_large x ≡ false → IsFew x
few_where x e =
    let a = either_false (nat_lt 64 (length x.instructions)) _ e in
    let b = either_false (nat_lt 16 (length x.registers)) _ a.1 in
    let c = either_false (nat_lt 8 (length x.blocks)) _ b.1 in
    record { registers = ltb-false 16 (length x.registers) b.0; instructions = ltb-false 64 (length x.instructions) a.0; blocks = ltb-false 8 (length x.blocks) c.0 }

abbrev HasWidth : TypedInstrTree → Type 0
HasWidth x = bits_of x.pieces ≡ 32

abbrev HasOnce : TypedInstrTree → Type 0
HasOnce x = has_field_twice x.pieces ≡ false

widths : (xs : List TypedInstrTree) → width_fault xs ≡ None → Each HasWidth xs
widths [] e = tt
widths (x ∷ xs) e = by (nat_eq (bits_of x.pieces) 32) refl e (λ f. widths xs f)
  where
    by : (b : Bool) → nat_eq (bits_of x.pieces) 32 ≡ b → cond b (width_fault xs) (Some (encoding_width x.name)) ≡ None → (width_fault xs ≡ None → Each HasWidth xs) → Each HasWidth (x ∷ xs)
    by true f e g = (eqb-true (bits_of x.pieces) 32 f, g e)
    by false f e g = cc

once : (xs : List TypedInstrTree) → twice_fault xs ≡ None → Each HasOnce xs
once [] e = tt
once (x ∷ xs) e = by (has_field_twice x.pieces) refl e (λ f. once xs f)
  where
    by : (b : Bool) → has_field_twice x.pieces ≡ b → cond b (Some (field_twice x.name)) (twice_fault xs) ≡ None → (twice_fault xs ≡ None → Each HasOnce xs) → Each HasOnce (x ∷ xs)
    by true f e g = cc
    by false f e g = (f, g e)

-- ---- instructions and always-blocks
abbrev Judges : List Named → TypedInstrTree → Type 0
Judges names x = (seen : List (List ℕ)) × IsInstr names x seen

abbrev JudgesBlock : List Named → TypedBlockTree → Type 0
JudgesBlock names x = (seen : List (List ℕ)) × IsBlock names x seen

instrs : (names : List Named) (xs : List TypedInstrTree) (seen after : List (List ℕ)) → AreInstrs names xs seen after → Each (Judges names) xs
instrs names [] seen after h = tt
instrs names (x ∷ xs) seen after h = ((seen, h.0), instrs names xs (seen ++ x.name ∷ []) after h.1)

blocks : (names : List Named) (xs : List TypedBlockTree) (seen after : List (List ℕ)) → AreBlocks names xs seen after → Each (JudgesBlock names) xs
blocks names [] seen after h = tt
blocks names (x ∷ xs) seen after h = ((seen, h.0), blocks names xs (seen ++ x.name ∷ []) after h.1)

kind_instrs : (st : State) (k : TypedSectionKindTree) (f mid : Front) → IsKind st k f mid → Each (Judges st.names) (instrs_in k)
kind_instrs st (tk_states xs) f mid h = tt
kind_instrs st (tk_instructions xs) f mid h = instrs st.names xs f.behaviours h.1.0 h.1.1
kind_instrs st (tk_always xs) f mid h = tt

kind_blocks : (st : State) (k : TypedSectionKindTree) (f mid : Front) → IsKind st k f mid → Each (JudgesBlock st.names) (blocks_in k)
kind_blocks st (tk_states xs) f mid h = tt
kind_blocks st (tk_instructions xs) f mid h = tt
kind_blocks st (tk_always xs) f mid h = blocks st.names xs f.behaviours h.1.0 h.1.1

section_instrs : (st : State) (xs : List TypedSectionTree) (f : Front) → AreSections st xs f → Each (Judges st.names) (all_instrs xs)
section_instrs st [] f h = tt
section_instrs st (x ∷ xs) f h = each_behind (Judges st.names) (instrs_in x.kind) (all_instrs xs) (kind_instrs st x.kind f h.0 h.1) (section_instrs st xs h.0 h.2)

section_blocks : (st : State) (xs : List TypedSectionTree) (f : Front) → AreSections st xs f → Each (JudgesBlock st.names) (all_blocks xs)
section_blocks st [] f h = tt
section_blocks st (x ∷ xs) f h = each_behind (JudgesBlock st.names) (blocks_in x.kind) (all_blocks xs) (kind_blocks st x.kind f h.0 h.1) (section_blocks st xs h.0 h.2)

abbrev IsGood : List Named → TypedInstrTree → Type 0
IsGood names x = Judges names x × HasWidth x × HasOnce x

all_good : (names : List Named) (xs : List TypedInstrTree) → Each (Judges names) xs → Each HasWidth xs → Each HasOnce xs → Each (IsGood names) xs
all_good names [] h g k = tt
all_good names (x ∷ xs) h g k = ((h.0, g.0, k.0), all_good names xs h.1 g.1 k.1)

-- ---- what names stand for at the start of a behaviour
global_stands : (ns : Names) (slots : List Ty) (n : List ℕ) (o : Option Role) → Global ns.registers ns.tables n o → Stands ns slots None n o
global_stands ns slots n None h = (refl, h.0, h.1)
global_stands ns slots n (Some (R.Local ty)) h = absurd h
global_stands ns slots n (Some (R.Field f)) h = absurd h
global_stands ns slots n (Some (R.Register k ty)) h = (refl, h.0, h.1)
global_stands ns slots n (Some (R.Table k shape)) h = (refl, h.0, h.1)

field_stands : (ns : Names) (slots : List Ty) (names : List Named) (x : TypedInstrTree) (n : List ℕ) (o : Option Role) (qs : List Piece) → ns.pieces ≡ pieces_in x.pieces → pieces_fault names x.pieces ≡ None
    → HasOnce x → Global ns.registers ns.tables n (role_of names n) → pieces_of (pieces_in x.pieces) n ≡ qs → FieldIs names n qs o → Stands ns slots None n o
field_stands ns slots names x n o [] p e u h s f =
    let P : Option Role → Type 0 = λ z. Stands ns slots None n z in
    subst P (sym f) (global_stands ns slots n (role_of names n) h)
field_stands ns slots names x n o (q ∷ qs) p e u h s f =
    let P : Option Role → Type 0 = λ z. Stands ns slots None n z in
    let Q : Option Role → Type 0 = λ z. Global ns.registers ns.tables n z in
    let none = subst Q f.5 h in
    let F : List Piece → Type 0 = λ z. IsFieldOf z n f.0.ty in
    let field = subst F (sym p) (field_is names x.pieces n f.0.ty q qs e u s f.2 f.3 f.4) in
    subst P (sym f.1) (refl, none.0, none.1, field)

-- ---- one statement
-- what holds of a behaviour, by its names and its statements
record IsLawful (ns : Names) (body : List TypedStmtTree) : Type 0 where
  resolved : AreResolved ns body outside
  typed : IsTypedStatement (record { slots = (steps ns body outside).scope.slots; targets = stored_type (steps ns body outside).body ∷ u32 ∷ u32 ∷ map type_of_register ns.registers }) (steps ns body outside).body
  stands : accesses_in (steps ns body outside).body ≤ 1
  accesses : AccessesAreTyped (steps ns body outside).body
  tables : TablesAreRead ns.tables (steps ns body outside).body
  same : (i : Inputs) (ts : List Ty) → i.word < 2 ^ 32
      → (run i (steps ns body outside).body (started (record { slots = (steps ns body outside).scope.slots; targets = ts }))).targets
      ≡ (does_all ns i body (record { locals = []; targets = map no_write ts })).targets
  same_reads : (i : Inputs) (ts : List Ty) → i.word < 2 ^ 32
      → reads i (steps ns body outside).body (started (record { slots = (steps ns body outside).scope.slots; targets = ts }))
      ≡ reads_all ns i body (record { locals = []; targets = map no_write ts })

lawful : (ns : Names) (few : length ns.registers ≤ 16) (placed : ArePlaced ns.pieces) (g : Setting) (names : List Named) (after : State) (x : TypedStmtTree)
    → is_constant_body g.body ≡ false → ((slots : List Ty) (n : List ℕ) → Stands ns slots None n (role_of names n)) → IsStmt g (global_state names) x after → IsLawful ns (x ∷ [])
lawful ns few placed g names after x b sees h =
    let slots = (step ns x outside).scope.slots in
    let whole = (steps ns (x ∷ []) outside).body in
    let s = behaviour_sound ns slots (stored_type whole) few placed g (global_state names) after outside x b (sees slots) (begins_same slots) h in
    let one : accesses_in whole ≤ 1 = (let l = s.once in omega (arith, l)) in
    record {
      resolved = (s.names, tt);
      typed = (s.typed (one_type whole one).0, tt);
      stands = one;
      accesses = (stmt_typed ns g (global_state names) after outside x h, tt);
      tables = (stmt_reads ns slots (stored_type whole) few placed g (global_state names) after outside x b (sees slots) (begins_same slots) h, tt);
      same = λ i ts w.
          let start = started (record { slots = slots; targets = ts }) in
          let long : length slots ≤ length start.slots = (let e = length-map slots nothing in omega (arith, e)) in
          ap (λ (d : Doing). d.targets) (step_law ns i x start w s.names long);
      same_reads = λ i ts w.
          let start = started (record { slots = slots; targets = ts }) in
          let long : length slots ≤ length start.slots = (let e = length-map slots nothing in omega (arith, e)) in
          ap (λ (l : List Access). l ++ []) (reads_law ns i x start w s.names long);
    }

-- ---- the behaviours of a text that breaks no rule
module _ (t : TypedTextTree) (text : IsText t) (sound : first_fault t ≡ None) where
  abbrev x : ExtensionTree
  x = extension_of t

  abbrev st : State
  st = global_state (globals [] (map erased_section t.sections))

  extension_sound : (width_fault (all_instrs t.sections) ≡ None) × (twice_fault (all_instrs t.sections) ≡ None) × (extension_fault x ≡ None)
  extension_sound =
      let a = none_both (width_fault (all_instrs t.sections)) (or_fault (twice_fault (all_instrs t.sections)) (extension_fault x)) sound in
      let b = none_both (twice_fault (all_instrs t.sections)) (extension_fault x) a.1 in
      (a.0, b.0, b.1)

  few_are : IsFew x
  few_are = few_where x (none_where (is_too_large x) too_many (none_both (fault_where (is_too_large x) too_many) _ extension_sound.2).0)

  global : (n : List ℕ) → Global x.registers x.tables n (role_of st.names n)
  global n = global_is st t.sections no_front text refl refl n

  instr_lawful : (y : TypedInstrTree) → IsGood st.names y → IsLawful (record { pieces = pieces_in y.pieces; registers = x.registers; tables = x.tables }) (y.body ∷ [])
  instr_lawful y h =
      let ns : Names = record { pieces = pieces_in y.pieces; registers = x.registers; tables = x.tables } in
      let fault = h.0.1.1 in
      let wide : bits_of y.pieces ≤ 32 = (let e = h.1 in omega (arith, e)) in
      lawful ns few_are.registers (pieces_placed st.names y.pieces fault wide) (record { body = B.Instruction; in_spawn = false; below_if = false }) (fields st.names y.pieces).names h.0.1.2.0 y.body refl
      (λ slots n. field_stands ns slots st.names y n (role_of (fields st.names y.pieces).names n) (pieces_of (pieces_in y.pieces) n) refl fault h.2 (global n) refl (field_roles st.names y.pieces n fault))
      h.0.1.2.1

  block_lawful : (y : TypedBlockTree) → JudgesBlock st.names y → IsLawful (record { pieces = []; registers = x.registers; tables = x.tables }) (y.body ∷ [])
  block_lawful y h =
      let ns : Names = record { pieces = []; registers = x.registers; tables = x.tables } in
      lawful ns few_are.registers tt (record { body = B.Always; in_spawn = false; below_if = false }) st.names h.1.1.0 y.body refl (λ slots n. global_stands ns slots n (role_of st.names n) (global n)) h.1.1.1

  all_lawful : (w : Which) → HasBehaviour x w → IsLawful (names_at x w) (body_at x w)
  all_lawful (W.Instruction n) h =
      let good = all_good st.names (all_instrs t.sections) (section_instrs st t.sections no_front text) (widths (all_instrs t.sections) extension_sound.0) (once (all_instrs t.sections) extension_sound.1) in
      let at = each_at (IsGood st.names) instruction_of (all_instrs t.sections) n good h in
      let P : Option InstructionTree → Type 0 = λ o. IsLawful (record { pieces = pieces_with o; registers = x.registers; tables = x.tables }) (body_in (option_map behaviour_of o)) in
      subst P (sym at.is) (instr_lawful at.item at.has)
  all_lawful (W.Block n) h =
      let at = each_at (JudgesBlock st.names) block_of (all_blocks t.sections) n (section_blocks st t.sections no_front text) h in
      let P : Option BehaviourTree → Type 0 = λ o. IsLawful (record { pieces = []; registers = x.registers; tables = x.tables }) (body_in o) in
      subst P (sym at.is) (block_lawful at.item at.has)

-- ---- the laws
text_of : TextLaw → (t : TypedTextTree) (x : ExtensionTree) → IsOf t x → IsText t
text_of law t x h = ((law (erased_text t) t).0 h.typed).typed

lawful_of : TextLaw → (t : TypedTextTree) (x : ExtensionTree) (w : Which) → IsOf t x → HasBehaviour x w → IsLawful (names_at x w) (body_at x w)
lawful_of law t x w h =
    let P : ExtensionTree → Type 0 = λ z. HasBehaviour z w → IsLawful (names_at z w) (body_at z w) in
    subst P (sym h.parts) (all_lawful t (text_of law t x h) h.sound w)

pub resolved_law : TextLaw → ResolvedLaw
resolved_law law t x w h b = (lawful_of law t x w h b).resolved

pub typed_law : TextLaw → TypedBehaviourLaw
typed_law law t x w h b = (lawful_of law t x w h b).typed

pub effect_law : TextLaw → BehaviourEffectLaw
effect_law law t x w i h b word = (lawful_of law t x w h b).same i (frame_at x w).targets word

pub reads_named_law : TextLaw → BehaviourReadsLaw
reads_named_law law t x w i h b word = (lawful_of law t x w h b).same_reads i (frame_at x w).targets word

pub one_access_law : TextLaw → OneAccessLaw
one_access_law law t x w h b =
    let l = (lawful_of law t x w h b).stands in
    record {
      stands = l;
      is_done = λ i.
          let start = started (frame_at x w) in
          let none = none_at_first (frame_at x w).targets in
          let done = all_done i (statement_at x w) start in
          omega (arith, l, none, done);
    }

pub few_law : TextLaw → FewLaw
few_law law t x h = let P : ExtensionTree → Type 0 = λ z. IsFew z in subst P (sym h.parts) (few_are t (text_of law t x h) h.sound)

pub accesses_law : TextLaw → AccessesLaw
accesses_law law t x w h b = (lawful_of law t x w h b).accesses

pub stored_type_law : TextLaw → StoredTypeLaw
stored_type_law law t x w h b = stored_is (statement_at x w) (lawful_of law t x w h b).accesses

pub tables_law : TextLaw → TablesLaw
tables_law law t x w h b = (lawful_of law t x w h b).tables

pub widths_law : WidthsLaw
widths_law t x h = let P : ExtensionTree → Type 0 = λ z. All (λ table. HaveWidthOf table.ty table.entries) z.tables in subst P (sym h.parts) (tables_wide (all_states t.sections))
