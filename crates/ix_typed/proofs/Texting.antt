-- A typed text by its cases, and what is judged of its tree.
use Rattle.std.proofs.Common.{◌≡◌, ◌∙◌, sym, ap, subst, refl, ℕ, suc, ◌+◌, List, [], ◌∷◌, ◌++◌, length, map, Option, Some, None, true, false, Result, Ok}
use Rattle.std.specs.Prelude.{nat_eq}
use Rattle.std.proofs.lemmas.Bool.{eq-eqb, eqb-true}
use Rattle.ix_bits.specs.declared.number.Ty.{Ty}
use Rattle.ix_tree.specs.declared.token.Span.{Span}
use Rattle.ix_tree.specs.Trees.{ExprTree, StmtTree, StateTree, StateKindTree, k_register, k_table, InstrTree, BlockTree, SectionTree, SectionKindTree, k_states, k_instructions, k_always, TextTree}
use Rattle.ix_tree.specs.TypedTrees.{TypedExprTree, TypedStmtTree, TypedStateTree, TypedStateKindTree, tk_register, tk_table, TypedInstrTree, TypedBlockTree, TypedSectionTree, TypedSectionKindTree, tk_states, tk_instructions, tk_always, TypedTextTree, type_of, erased, erased_stmt, erased_state_kind, erased_state, erased_instr, erased_block, erased_section_kind, erased_section, erased_text}
use Rattle.ix_typing.specs.declared.role.Named.{Named}
use Rattle.ix_typing.specs.declared.state.Body.{Body}
use Rattle.ix_typing.specs.declared.state.Body.TheVariants as B
use Rattle.ix_typing.specs.declared.state.Setting.{Setting}
use Rattle.ix_typing.specs.declared.state.Front.{Front}
use Rattle.ix_typing.specs.declared.state.State.{State}
use Rattle.ix_typing.specs.Names.{role_of, is_listed}
use Rattle.ix_typing.specs.Refusals.{Refusal, Step, each}
use Rattle.ix_typing.specs.Expressions.{judged, embeds, written}
use Rattle.ix_typing.specs.Assignments.{span_of, fits_into}
use Rattle.ix_typing.specs.Statements.{judged_stmt}
use Rattle.ix_typing.specs.Texts.{globals, is_numbered, constant_setting, constant, state_kind, judged_state, fields, pieces_fault, behaviour, unless, judged_instr, judged_block, judged_kind, judged_section, no_front, global_state, judged_text}
use Rattle.ix_typing.proofs.Erasing.{on_answer}
use Rattle.ix_typing.proofs.ErasingTexts.{text_erased}
use Rattle.ix_typed.specs.Texts.{IsConstant, AreConstants, IsStateKind, IsState, AreStates, IsBehaviour, IsInstr, AreInstrs, IsBlock, AreBlocks, IsKind, AreSections, IsText}
use Rattle.ix_typed.proofs.Parts.{go, past, on_test, on_hold, got}
use Rattle.ix_typed.proofs.Types.{written_is, is_written}
use Rattle.ix_typed.proofs.ExprJudged.{made, expr_judged}
use Rattle.ix_typed.proofs.ExprCases.{expr_formed}
use Rattle.ix_typed.proofs.Stating.{stmt_judged, stmt_formed}

abbrev step : {S A : Type 0} → A → S → Step S A
step x after = record { item = x; after = after }

-- ---- constants, registers and tables
constant_judged : (st : State) (ty : Ty) (e : TypedExprTree) → IsConstant st ty e → constant ty (erased e) st ≡ Ok (step e st)
constant_judged st ty e h =
    go (judged constant_setting st (erased e) false) (made e h.0) _ _ (expr_judged constant_setting st false e h.0 h.1)
    (go (fits_into (span_of (erased e)) ty (type_of e)) ty _ _ (rw h.2 refl) refl)

constants_judged : (st : State) (ty : Ty) (es : List TypedExprTree) → AreConstants st ty es → each (constant ty) (map erased es) st ≡ Ok (step es st)
constants_judged st ty [] h = refl
constants_judged st ty (e ∷ es) h =
    go (constant ty (erased e) st) (step e st) _ _ (constant_judged st ty e h.0)
    (go (each (constant ty) (map erased es) st) (step es st) _ _ (constants_judged st ty es h.1) refl)

-- as many trees as typed ones
as_many : (es : List TypedExprTree) → length (map erased es) ≡ length es
as_many [] = refl
as_many (e ∷ es) = ap suc (as_many es)

kind_judged : (st : State) (s : Span) (ty : Ty) (x : TypedStateKindTree) → IsStateKind st ty x → state_kind st s ty (erased_state_kind x) ≡ Ok x
kind_judged st s ty (tk_register None) h = refl
kind_judged st s ty (tk_register (Some e)) h = go (constant ty (erased e) st) (step e st) _ _ (constant_judged st ty e h) refl
kind_judged st s ty (tk_table len es) h =
    go (each (constant ty) (map erased es) st) (step es st) _ _ (constants_judged st ty es h.0)
    (let t : nat_eq (length (map erased es)) len ≡ true = eq-eqb (length (map erased es)) len (as_many es ∙ h.1) in rw t refl)

state_judged : (st : State) (x : TypedStateTree) (k : ℕ) → IsState st x k → judged_state st (erased_state x) k ≡ Ok (step x (k + 1))
state_judged st x k h =
    go (written x.ty.span x.ty.kind) h.1.0 _ _ (written_is x.ty.span x.ty.kind h.1.0 h.1.1)
    (let t : is_numbered (role_of st.names x.name) k ≡ true = h.0 in rw t (go (state_kind st x.span h.1.0 (erased_state_kind x.kind)) x.kind _ _ (kind_judged st x.span h.1.0 x.kind h.1.2) refl))

-- what stands behind registers and tables does not matter
states_judged : (st : State) (xs : List TypedStateTree) (k : ℕ) → AreStates st xs k → (n : ℕ) × (each (judged_state st) (map erased_state xs) k ≡ Ok (step xs n))
states_judged st [] k h = (k, refl)
states_judged st (x ∷ xs) k h =
    let rest = states_judged st xs (k + 1) h.1 in
    (rest.0, go (judged_state st (erased_state x) k) (step x (k + 1)) _ _ (state_judged st x k h.0) (go (each (judged_state st) (map erased_state xs) (k + 1)) (step xs rest.0) _ _ rest.1 refl))

-- ---- behaviours
abbrev setting : Body → Setting
setting b = record { body = b; in_spawn = false; below_if = false }

behaviour_judged : (b : Body) (names : List Named) (x : TypedStmtTree) → IsBehaviour b names x → behaviour b names (erased_stmt x) ≡ Ok x
behaviour_judged b names x h = go (judged_stmt (erased_stmt x) (setting b) (global_state names)) (step x h.0) _ _ (stmt_judged x (setting b) (global_state names) h.0 h.1) refl

no_fault : {A : Type 0} (o : Option Refusal) (r y : Result A Refusal) → o ≡ None → r ≡ y → unless o r ≡ y
no_fault o r y h k = ap (λ (z : Option Refusal). unless z r) h ∙ k

instr_judged : (names : List Named) (x : TypedInstrTree) (seen : List (List ℕ)) → IsInstr names x seen → judged_instr names (erased_instr x) seen ≡ Ok (step x (seen ++ x.name ∷ []))
instr_judged names x seen h =
    past (is_listed seen x.name) _ _ _ h.0 (no_fault (pieces_fault names x.pieces) _ _ h.1
    (go (behaviour B.Instruction (fields names x.pieces).names (erased_stmt x.body)) x.body _ _ (behaviour_judged B.Instruction (fields names x.pieces).names x.body h.2) refl))

instrs_judged : (names : List Named) (xs : List TypedInstrTree) (seen after : List (List ℕ)) → AreInstrs names xs seen after → each (judged_instr names) (map erased_instr xs) seen ≡ Ok (step xs after)
instrs_judged names [] seen after h = rw h refl
instrs_judged names (x ∷ xs) seen after h =
    let mid = seen ++ x.name ∷ [] in
    go (judged_instr names (erased_instr x) seen) (step x mid) _ _ (instr_judged names x seen h.0)
    (go (each (judged_instr names) (map erased_instr xs) mid) (step xs after) _ _ (instrs_judged names xs mid after h.1) refl)

block_judged : (names : List Named) (x : TypedBlockTree) (seen : List (List ℕ)) → IsBlock names x seen → judged_block names (erased_block x) seen ≡ Ok (step x (seen ++ x.name ∷ []))
block_judged names x seen h =
    past (is_listed seen x.name) _ _ _ h.0 (go (behaviour B.Always names (erased_stmt x.body)) x.body _ _ (behaviour_judged B.Always names x.body h.1) refl)

blocks_judged : (names : List Named) (xs : List TypedBlockTree) (seen after : List (List ℕ)) → AreBlocks names xs seen after → each (judged_block names) (map erased_block xs) seen ≡ Ok (step xs after)
blocks_judged names [] seen after h = rw h refl
blocks_judged names (x ∷ xs) seen after h =
    let mid = seen ++ x.name ∷ [] in
    go (judged_block names (erased_block x) seen) (step x mid) _ _ (block_judged names x seen h.0)
    (go (each (judged_block names) (map erased_block xs) mid) (step xs after) _ _ (blocks_judged names xs mid after h.1) refl)

-- ---- sections and texts, by cases and then judged
section_kind_judged : (st : State) (s : Span) (x : TypedSectionKindTree) (f after : Front) → IsKind st x f after → judged_kind st s (erased_section_kind x) f ≡ Ok (step x after)
section_kind_judged st s (tk_states xs) f after h =
    let all = states_judged st xs 0 h.1 in
    past f.states _ _ _ h.0 (go (each (judged_state st) (map erased_state xs) 0) (step xs all.0) _ _ all.1 (rw h.2 refl))
section_kind_judged st s (tk_instructions xs) f after h =
    past f.instructions _ _ _ h.0 (go (each (judged_instr st.names) (map erased_instr xs) f.behaviours) (step xs h.1.0) _ _ (instrs_judged st.names xs f.behaviours h.1.0 h.1.1) (rw h.1.2 refl))
section_kind_judged st s (tk_always xs) f after h =
    past f.always _ _ _ h.0 (go (each (judged_block st.names) (map erased_block xs) f.behaviours) (step xs h.1.0) _ _ (blocks_judged st.names xs f.behaviours h.1.0 h.1.1) (rw h.1.2 refl))

sections_judged : (st : State) (xs : List TypedSectionTree) (f : Front) → AreSections st xs f → (last : Front) × (each (judged_section st) (map erased_section xs) f ≡ Ok (step xs last))
sections_judged st [] f h = (f, refl)
sections_judged st (x ∷ xs) f h =
    let rest = sections_judged st xs h.0 h.2 in (
      rest.0,
      go (judged_section st (erased_section x) f) (step x h.0) _ _ (go (judged_kind st x.span (erased_section_kind x.kind) f) (step x.kind h.0) _ _ (section_kind_judged st x.span x.kind f h.0 h.1) refl)
          (go (each (judged_section st) (map erased_section xs) h.0) (step xs rest.0) _ _ rest.1 refl),
    )

pub text_judged : (u : TypedTextTree) → IsText u → judged_text (erased_text u) ≡ Ok u
text_judged u h =
    let st = global_state (globals [] (map erased_section u.sections)) in
    let all = sections_judged st u.sections no_front h in
    go (each (judged_section st) (map erased_section u.sections) no_front) (step u.sections all.0) _ _ all.1 refl

-- ---- judged, and then by cases
constant_formed : (st : State) (ty : Ty) (e : ExprTree) (k : Step State TypedExprTree) → constant ty e st ≡ Ok k → (k.after ≡ st) × IsConstant st ty k.item
constant_formed st ty e k h =
    on_answer (judged constant_setting st e false) _ k _ (λ v p q.
    on_answer (fits_into (span_of e) ty v.ty) _ k _ (λ t u w.
    let value = expr_formed constant_setting st e false v p in
    let fits : embeds v.ty ty ≡ true = on_hold (embeds v.ty ty) _ _ t _ (λ h f. h) u in
    got (λ (k : Step State TypedExprTree). (k.after ≡ st) × IsConstant st ty k.item) _ k w (refl, (v.accessed, value.typed, ap (λ (z : Ty). embeds z ty) (sym value.ty) ∙ fits))) q) h

constants_formed : (st : State) (ty : Ty) (es : List ExprTree) (k : Step State (List TypedExprTree)) → each (constant ty) es st ≡ Ok k → AreConstants st ty k.item × (length es ≡ length k.item)
constants_formed st ty [] k h = got (λ (k : Step State (List TypedExprTree)). AreConstants st ty k.item × (0 ≡ length k.item)) _ k h (tt, refl)
constants_formed st ty (e ∷ es) k h =
    on_answer (constant ty e st) _ k _ (λ j p q.
    let one = constant_formed st ty e j p in
    on_answer (each (constant ty) es j.after) _ k _ (λ m u v.
    let rest = constants_formed st ty es m (ap (λ (z : State). each (constant ty) es z) (sym one.0) ∙ u) in
    got (λ (k : Step State (List TypedExprTree)). AreConstants st ty k.item × (length (e ∷ es) ≡ length k.item)) _ k v ((one.1, rest.0), ap suc rest.1)) q) h

kind_formed : (st : State) (s : Span) (ty : Ty) (x : StateKindTree) (t : TypedStateKindTree) → state_kind st s ty x ≡ Ok t → IsStateKind st ty t
kind_formed st s ty (k_register None) t h = got (IsStateKind st ty) _ t h tt
kind_formed st s ty (k_register (Some e)) t h = on_answer (constant ty e st) _ t _ (λ k p q. got (IsStateKind st ty) _ t q (constant_formed st ty e k p).1) h
kind_formed st s ty (k_table len es) t h =
    on_answer (each (constant ty) es st) _ t _ (λ k p q.
    let all = constants_formed st ty es k p in
    on_hold (nat_eq (length es) len) _ _ t _ (λ e f. got (IsStateKind st ty) _ t f (all.0, sym all.1 ∙ eqb-true (length es) len e)) q) h

state_formed : (st : State) (x : StateTree) (n : ℕ) (k : Step ℕ TypedStateTree) → judged_state st x n ≡ Ok k → IsState st k.item n × (k.after ≡ n + 1)
state_formed st x n k h =
    on_answer (written x.ty.span x.ty.kind) _ k _ (λ ty p q.
    on_hold (is_numbered (role_of st.names x.name) n) _ _ k _ (λ t f.
    on_answer (state_kind st x.span ty x.kind) _ k _ (λ kind u v.
    got (λ (k : Step ℕ TypedStateTree). IsState st k.item n × (k.after ≡ n + 1)) _ k v ((t, (ty, is_written x.ty.span x.ty.kind ty p, kind_formed st x.span ty x.kind kind u)), refl)) f) q) h

states_formed : (st : State) (xs : List StateTree) (n : ℕ) (k : Step ℕ (List TypedStateTree)) → each (judged_state st) xs n ≡ Ok k → AreStates st k.item n
states_formed st [] n k h = got (λ (k : Step ℕ (List TypedStateTree)). AreStates st k.item n) _ k h tt
states_formed st (x ∷ xs) n k h =
    on_answer (judged_state st x n) _ k _ (λ j p q.
    let one = state_formed st x n j p in
    on_answer (each (judged_state st) xs j.after) _ k _ (λ m u v.
    got (λ (k : Step ℕ (List TypedStateTree)). AreStates st k.item n) _ k v (one.0, states_formed st xs (n + 1) m (ap (λ (z : ℕ). each (judged_state st) xs z) (sym one.1) ∙ u))) q) h

behaviour_formed : (b : Body) (names : List Named) (x : StmtTree) (t : TypedStmtTree) → behaviour b names x ≡ Ok t → IsBehaviour b names t
behaviour_formed b names x t h =
    on_answer (judged_stmt x (setting b) (global_state names)) _ t _ (λ k p q. got (IsBehaviour b names) _ t q (k.after, stmt_formed x (setting b) (global_state names) k p)) h

on_no_fault : {A : Type 0} (o : Option Refusal) (r : Result A Refusal) (t : A) (G : Type 0) → (o ≡ None → r ≡ Ok t → G) → unless o r ≡ Ok t → G
on_no_fault None r t G f e = f refl e
on_no_fault (Some x) r t G f e = cc

instr_formed : (names : List Named) (x : InstrTree) (seen : List (List ℕ)) (k : Step (List (List ℕ)) TypedInstrTree) → judged_instr names x seen ≡ Ok k → IsInstr names k.item seen × (k.after ≡ seen ++ k.item.name ∷ [])
instr_formed names x seen k e =
    on_test (is_listed seen x.name) _ _ k _ (λ h f.
    on_no_fault (pieces_fault names x.pieces) _ k _ (λ m g.
    on_answer (behaviour B.Instruction (fields names x.pieces).names x.body) _ k _ (λ t p q.
    got (λ (k : Step (List (List ℕ)) TypedInstrTree). IsInstr names k.item seen × (k.after ≡ seen ++ k.item.name ∷ [])) _ k q
    ((h, m, behaviour_formed B.Instruction (fields names x.pieces).names x.body t p), refl)) g) f) e

instrs_formed : (names : List Named) (xs : List InstrTree) (seen : List (List ℕ)) (k : Step (List (List ℕ)) (List TypedInstrTree)) → each (judged_instr names) xs seen ≡ Ok k → AreInstrs names k.item seen k.after
instrs_formed names [] seen k e = got (λ (k : Step (List (List ℕ)) (List TypedInstrTree)). AreInstrs names k.item seen k.after) _ k e refl
instrs_formed names (x ∷ xs) seen k e =
    on_answer (judged_instr names x seen) _ k _ (λ j p q.
    let one = instr_formed names x seen j p in
    on_answer (each (judged_instr names) xs j.after) _ k _ (λ m u v.
    let P : List (List ℕ) → Type 0 = λ z. AreInstrs names m.item z m.after in
    got (λ (k : Step (List (List ℕ)) (List TypedInstrTree)). AreInstrs names k.item seen k.after) _ k v (one.0, subst P one.1 (instrs_formed names xs j.after m u))) q) e

block_formed : (names : List Named) (x : BlockTree) (seen : List (List ℕ)) (k : Step (List (List ℕ)) TypedBlockTree) → judged_block names x seen ≡ Ok k → IsBlock names k.item seen × (k.after ≡ seen ++ k.item.name ∷ [])
block_formed names x seen k e =
    on_test (is_listed seen x.name) _ _ k _ (λ h f.
    on_answer (behaviour B.Always names x.body) _ k _ (λ t p q.
    got (λ (k : Step (List (List ℕ)) TypedBlockTree). IsBlock names k.item seen × (k.after ≡ seen ++ k.item.name ∷ [])) _ k q ((h, behaviour_formed B.Always names x.body t p), refl)) f) e

blocks_formed : (names : List Named) (xs : List BlockTree) (seen : List (List ℕ)) (k : Step (List (List ℕ)) (List TypedBlockTree)) → each (judged_block names) xs seen ≡ Ok k → AreBlocks names k.item seen k.after
blocks_formed names [] seen k e = got (λ (k : Step (List (List ℕ)) (List TypedBlockTree)). AreBlocks names k.item seen k.after) _ k e refl
blocks_formed names (x ∷ xs) seen k e =
    on_answer (judged_block names x seen) _ k _ (λ j p q.
    let one = block_formed names x seen j p in
    on_answer (each (judged_block names) xs j.after) _ k _ (λ m u v.
    let P : List (List ℕ) → Type 0 = λ z. AreBlocks names m.item z m.after in
    got (λ (k : Step (List (List ℕ)) (List TypedBlockTree)). AreBlocks names k.item seen k.after) _ k v (one.0, subst P one.1 (blocks_formed names xs j.after m u))) q) e

section_kind_formed : (st : State) (s : Span) (x : SectionKindTree) (f : Front) (k : Step Front TypedSectionKindTree) → judged_kind st s x f ≡ Ok k → IsKind st k.item f k.after
section_kind_formed st s (k_states xs) f k e =
    on_test f.states _ _ k _ (λ h p. on_answer (each (judged_state st) xs 0) _ k _ (λ m u v.
    got (λ (k : Step Front TypedSectionKindTree). IsKind st k.item f k.after) _ k v (h, states_formed st xs 0 m u, refl)) p) e
section_kind_formed st s (k_instructions xs) f k e =
    on_test f.instructions _ _ k _ (λ h p. on_answer (each (judged_instr st.names) xs f.behaviours) _ k _ (λ m u v.
    got (λ (k : Step Front TypedSectionKindTree). IsKind st k.item f k.after) _ k v (h, (m.after, instrs_formed st.names xs f.behaviours m u, refl))) p) e
section_kind_formed st s (k_always xs) f k e =
    on_test f.always _ _ k _ (λ h p. on_answer (each (judged_block st.names) xs f.behaviours) _ k _ (λ m u v.
    got (λ (k : Step Front TypedSectionKindTree). IsKind st k.item f k.after) _ k v (h, (m.after, blocks_formed st.names xs f.behaviours m u, refl))) p) e

sections_formed : (st : State) (xs : List SectionTree) (f : Front) (k : Step Front (List TypedSectionTree)) → each (judged_section st) xs f ≡ Ok k → AreSections st k.item f
sections_formed st [] f k e = got (λ (k : Step Front (List TypedSectionTree)). AreSections st k.item f) _ k e tt
sections_formed st (x ∷ xs) f k e =
    on_answer (judged_section st x f) _ k _ (λ j p q.
    on_answer (each (judged_section st) xs j.after) _ k _ (λ m u v.
    let one : IsKind st j.item.kind f j.after =
    on_answer (judged_kind st x.span x.kind f) _ j _ (λ i h n. got (λ (j : Step Front TypedSectionTree). IsKind st j.item.kind f j.after) _ j n (section_kind_formed st x.span x.kind f i h)) p in
    got (λ (k : Step Front (List TypedSectionTree)). AreSections st k.item f) _ k v (j.after, one, sections_formed st xs j.after m u)) q) e

-- what is judged of a text is typed by its cases
pub text_formed : (t : TextTree) (u : TypedTextTree) → judged_text t ≡ Ok u → IsText u
text_formed t u e =
    let st = global_state (globals [] t.sections) in
    let tree = text_erased t u e in
    let P : TextTree → Type 0 = λ z. AreSections (global_state (globals [] z.sections)) u.sections no_front in
    let all : AreSections st u.sections no_front =
    on_answer (each (judged_section st) t.sections no_front) _ u _ (λ k p q.
    got (λ (u : TypedTextTree). AreSections st u.sections no_front) _ u q (sections_formed st t.sections no_front k p)) e in
    subst P (sym tree) all
