-- Behaviours and their names, against what is judged.
use Rattle.std.proofs.Common.{◌≡◌, ◌∙◌, sym, ap, subst, refl, ℕ, List, [], ◌∷◌, ◌++◌, length, take, Option, Some, None, Bool, true, false, cond, Result, Ok, Err, OnOk, append_assoc}
use Rattle.std.proofs.lemmas.List.{append-nil}
use Rattle.ix_tree.specs.declared.token.Span.{Span}
use Rattle.ix_tree.specs.declared.section.PieceText.{PieceText}
use Rattle.ix_tree.specs.declared.section.PieceKind.{PieceKind}
use Rattle.ix_tree.specs.declared.section.PieceKind.TheVariants as P
use Rattle.ix_tree.specs.declared.typed.TypedStmt.{TypedStmt}
use Rattle.ix_tree.specs.Trees.{StmtTree, InstrTree, BlockTree}
use Rattle.ix_tree.specs.TypedTrees.{TypedStmtTree, TypedInstrTree, TypedBlockTree}
use Rattle.ix_tree.specs.TypedView.{typed_whole}
use Rattle.ix_typing.specs.declared.role.Named.{Named}
use Rattle.ix_typing.specs.declared.state.Body.{Body}
use Rattle.ix_typing.specs.declared.state.Body.TheVariants as B
use Rattle.ix_typing.specs.declared.state.Setting.{Setting}
use Rattle.ix_typing.specs.declared.state.State.{State}
use Rattle.ix_typing.specs.Refusals.{Refusal, twice, refuse, and_then, Step}
use Rattle.ix_typing.specs.Statements.{judged_stmt}
use Rattle.ix_typing.specs.Texts.{Fields, with_piece, fields, pieces_fault, behaviour, unless, judged_instr, judged_block, global_state}
use Rattle.ix_typing.specs.Names.{is_listed}
use Rattle.ix_typing.proofs.Scopes.{Grows, front_is, stmt_grows}
use Rattle.ix_check_parts.specs.declared.error.CheckErr.{CheckErr}
use Rattle.ix_check_parts.specs.Telling.{IsFault, IsRefused, Refuses, refusal_of, TellsStmt}
use Rattle.ix_check_parts.proofs.Passing.{passes_on, goes_on}
use Rattle.ix_check.specs.Telling.{TellsBody, TellsInstrBody, TellsBlockBody, name_fault}

-- ---- statements as behaviours
abbrev pub setting_of : Body → Setting
setting_of b = record { body = b; in_spawn = false; below_if = false }

pub body_told : (R : Result TypedStmt CheckErr) (after : State) (b : Body) (names : List Named) (x : StmtTree)
    → TellsStmt R after (judged_stmt x (setting_of b) (global_state names)) → TellsBody R (behaviour b names x)
body_told (Ok t) after b names x h =
    let k : Step State TypedStmtTree = record { item = typed_whole t; after = after } in
    goes_on (judged_stmt x (setting_of b) (global_state names)) k (λ (m : Step State TypedStmtTree). Ok m.item) h
body_told (Err e) after b names x h = passes_on e (judged_stmt x (setting_of b) (global_state names)) (λ (m : Step State TypedStmtTree). Ok m.item) h

-- behind a behaviour the names of before it are visible
pub body_kept : (R : Result TypedStmt CheckErr) (after : State) (b : Body) (names now : List Named) (x : StmtTree) (n : ℕ)
    → n ≡ length names → now ≡ take n after.names → TellsStmt R after (judged_stmt x (setting_of b) (global_state names)) → OnOk R (now ≡ names)
body_kept (Ok t) after b names now x n e f h =
    f ∙ ap (λ (m : ℕ). take m after.names) e ∙ front_is names after.names (stmt_grows x (setting_of b) (global_state names) _ h)
body_kept (Err e) after b names now x n f g h = tt

-- ---- fields
grows_on : (a b c : List Named) → Grows a b → Grows b c → Grows a c
grows_on a b c g h = record { more = g.more ++ h.more; is = h.is ∙ ap (λ (z : List Named). z ++ h.more) g.is ∙ append_assoc a g.more h.more }

piece_grows : (k : PieceKind) (f : Fields) → Grows f.names (with_piece k f).names
piece_grows (P.Fixed b) f = record { more = []; is = sym (append-nil f.names) }
piece_grows (P.Field n hi lo) f = record { more = _; is = refl }

fields_grow : (names : List Named) (ps : List PieceText) → Grows names (fields names ps).names
fields_grow names [] = record { more = []; is = sym (append-nil names) }
fields_grow names (p ∷ ps) = grows_on names (fields names ps).names (fields names (p ∷ ps)).names (fields_grow names ps) (piece_grows p.kind (fields names ps))

-- behind the behaviour of an instruction its fields are visible no more
pub fields_kept : (R : Result TypedStmt CheckErr) (names mid now end : List Named) (ps : List PieceText) (n : ℕ)
    → n ≡ length names → mid ≡ (fields names ps).names → OnOk R (now ≡ mid) → end ≡ take n now → OnOk R (end ≡ names)
fields_kept (Ok t) names mid now end ps n e f g h =
    h ∙ ap (λ (z : List Named). take n z) (g ∙ f) ∙ ap (λ (m : ℕ). take m (fields names ps).names) e ∙ front_is names (fields names ps).names (fields_grow names ps)
fields_kept (Err e) names mid now end ps n f g h i = tt

-- ---- names and faults
faulted : {A : Type 0} (q o : Option Refusal) (r : Result A Refusal) → IsFault q o → IsRefused q (unless o r)
faulted None o r h = tt
faulted {A = A} (Some f) o r h =
    let P : Option Refusal → Type 0 = λ z. unless z r ≡ Err f in
    subst P (sym h) refl

no_fault : {A : Type 0} (o : Option Refusal) (r : Result A Refusal) → o ≡ None → unless o r ≡ r
no_fault o r h = ap (λ (z : Option Refusal). unless z r) h

named : {A : Type 0} (b : Bool) (s : Span) (r : Result A Refusal)
    → cond b (refuse twice s) r ≡ unless (cond b (Some (record { rule = twice; at = s })) None) r
named true s r = refl
named false s r = refl

abbrev instr_made : InstrTree → List (List ℕ) → TypedStmtTree → Result (Step (List (List ℕ)) TypedInstrTree) Refusal
instr_made x after t = Ok (record { item = record { span = x.span; name = x.name; pieces = x.pieces; body = t }; after = after })

abbrev instr_rest : List Named → InstrTree → List (List ℕ) → Result (Step (List (List ℕ)) TypedInstrTree) Refusal
instr_rest names x seen = and_then (behaviour B.Instruction (fields names x.pieces).names x.body) (instr_made x (seen ++ x.name ∷ []))

pub instr_named : (e : CheckErr) (names : List Named) (x : InstrTree) (seen : List (List ℕ))
    → IsFault (refusal_of e) (name_fault seen x.span x.name) → Refuses e (judged_instr names x seen)
instr_named e names x seen h =
    let r = unless (pieces_fault names x.pieces) (instr_rest names x seen) in
    let P : Result (Step (List (List ℕ)) TypedInstrTree) Refusal → Type 0 = λ z. Refuses e z in
    subst P (sym (named (is_listed seen x.name) x.span r)) (faulted (refusal_of e) (name_fault seen x.span x.name) r h)

passed_name : (names : List Named) (x : InstrTree) (seen : List (List ℕ)) → name_fault seen x.span x.name ≡ None
    → judged_instr names x seen ≡ unless (pieces_fault names x.pieces) (instr_rest names x seen)
passed_name names x seen h =
    let r = unless (pieces_fault names x.pieces) (instr_rest names x seen) in
    named (is_listed seen x.name) x.span r ∙ no_fault (name_fault seen x.span x.name) r h

pub instr_pieces : (e : CheckErr) (names : List Named) (x : InstrTree) (seen : List (List ℕ))
    → name_fault seen x.span x.name ≡ None → IsFault (refusal_of e) (pieces_fault names x.pieces) → Refuses e (judged_instr names x seen)
instr_pieces e names x seen h f =
    let P : Result (Step (List (List ℕ)) TypedInstrTree) Refusal → Type 0 = λ z. Refuses e z in
    subst P (sym (passed_name names x seen h)) (faulted (refusal_of e) (pieces_fault names x.pieces) (instr_rest names x seen) f)

pub instr_told : (R : Result TypedStmt CheckErr) (names : List Named) (x : InstrTree) (seen after : List (List ℕ))
    → name_fault seen x.span x.name ≡ None → pieces_fault names x.pieces ≡ None → after ≡ seen ++ x.name ∷ []
    → TellsBody R (behaviour B.Instruction (fields names x.pieces).names x.body) → TellsInstrBody R x after (judged_instr names x seen)
instr_told (Ok t) names x seen after h f g told =
    passed_name names x seen h ∙ no_fault (pieces_fault names x.pieces) (instr_rest names x seen) f
    ∙ goes_on (behaviour B.Instruction (fields names x.pieces).names x.body) (typed_whole t) (instr_made x (seen ++ x.name ∷ [])) told
    ∙ ap (λ (z : List (List ℕ)). instr_made x z (typed_whole t)) (sym g)
instr_told (Err e) names x seen after h f g told =
    let P : Result (Step (List (List ℕ)) TypedInstrTree) Refusal → Type 0 = λ z. Refuses e z in
    subst P (sym (passed_name names x seen h ∙ no_fault (pieces_fault names x.pieces) (instr_rest names x seen) f))
    (passes_on e (behaviour B.Instruction (fields names x.pieces).names x.body) (instr_made x (seen ++ x.name ∷ [])) told)

abbrev block_made : BlockTree → List (List ℕ) → TypedStmtTree → Result (Step (List (List ℕ)) TypedBlockTree) Refusal
block_made x after t = Ok (record { item = record { span = x.span; name = x.name; body = t }; after = after })

abbrev block_rest : List Named → BlockTree → List (List ℕ) → Result (Step (List (List ℕ)) TypedBlockTree) Refusal
block_rest names x seen = and_then (behaviour B.Always names x.body) (block_made x (seen ++ x.name ∷ []))

pub block_named : (e : CheckErr) (names : List Named) (x : BlockTree) (seen : List (List ℕ))
    → IsFault (refusal_of e) (name_fault seen x.span x.name) → Refuses e (judged_block names x seen)
block_named e names x seen h =
    let r = block_rest names x seen in
    let P : Result (Step (List (List ℕ)) TypedBlockTree) Refusal → Type 0 = λ z. Refuses e z in
    subst P (sym (named (is_listed seen x.name) x.span r)) (faulted (refusal_of e) (name_fault seen x.span x.name) r h)

passed_block : (names : List Named) (x : BlockTree) (seen : List (List ℕ)) → name_fault seen x.span x.name ≡ None
    → judged_block names x seen ≡ block_rest names x seen
passed_block names x seen h =
    named (is_listed seen x.name) x.span (block_rest names x seen) ∙ no_fault (name_fault seen x.span x.name) (block_rest names x seen) h

pub block_told : (R : Result TypedStmt CheckErr) (names : List Named) (x : BlockTree) (seen after : List (List ℕ))
    → name_fault seen x.span x.name ≡ None → after ≡ seen ++ x.name ∷ []
    → TellsBody R (behaviour B.Always names x.body) → TellsBlockBody R x after (judged_block names x seen)
block_told (Ok t) names x seen after h g told =
    passed_block names x seen h
    ∙ goes_on (behaviour B.Always names x.body) (typed_whole t) (block_made x (seen ++ x.name ∷ [])) told
    ∙ ap (λ (z : List (List ℕ)). block_made x z (typed_whole t)) (sym g)
block_told (Err e) names x seen after h g told =
    let P : Result (Step (List (List ℕ)) TypedBlockTree) Refusal → Type 0 = λ z. Refuses e z in
    subst P (sym (passed_block names x seen h)) (passes_on e (behaviour B.Always names x.body) (block_made x (seen ++ x.name ∷ [])) told)
