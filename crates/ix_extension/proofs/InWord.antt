-- In a typed text no piece of an encoding has a bit past the word.
use Rattle.std.proofs.Common.{◌≡◌, ◌≤◌, sym, ◌∙◌, subst, refl, ℕ, List, [], ◌∷◌, Option, Some, None, Bool, true, false, ◌||◌, cond, Result, Ok}
use Rattle.std.specs.Prelude.{nat_lt, All}
use Rattle.std.proofs.lemmas.Bool.{ltb-false}
use Rattle.std.proofs.lemmas.List.Elements.{All-nil, All-cons, All-head, All-tail, All-append}
use Rattle.ix_tree.specs.declared.token.Span.{Span}
use Rattle.ix_tree.specs.declared.section.PieceText.{PieceText}
use Rattle.ix_tree.specs.declared.section.PieceKind.{PieceKind}
use Rattle.ix_tree.specs.declared.section.PieceKind.TheVariants as P
use Rattle.ix_tree.specs.Trees.{InstrTree, SectionTree, SectionKindTree, k_states, k_instructions, k_always}
use Rattle.ix_tree.specs.TypedTrees.{TypedInstrTree, TypedSectionTree, TypedSectionKindTree, TypedTextTree, erased_text}
use Rattle.ix_typing.specs.declared.role.Role.{Role}
use Rattle.ix_typing.specs.declared.role.Named.{Named}
use Rattle.ix_typing.specs.declared.state.Body.TheVariants as B
use Rattle.ix_typing.specs.declared.state.State.{State}
use Rattle.ix_typing.specs.declared.state.Front.{Front}
use Rattle.ix_typing.specs.Names.{role_of, is_listed}
use Rattle.ix_typing.specs.Refusals.{Refusal, range, Step, each}
use Rattle.ix_typing.specs.Texts.{field_fault, piece_fault, pieces_fault, or_fault, fields, behaviour, unless, judged_state, judged_instr, judged_block, judged_kind, judged_section, judged_text, global_state, globals, no_front}
use Rattle.ix_typing.proofs.Erasing.{on_answer, on_pass}
use Rattle.ix_extension.specs.Encodings.{IsInWord, AreInWord}
use Rattle.ix_extension.specs.Extensions.{instrs_in, all_instrs}
use Rattle.ix_extension.specs.Laws.{HasWord}

-- what holds of an answer holds of each value that it has
given : {A : Type 0} (P : A → Type 0) (i k : A) (r : Result A Refusal) → r ≡ Ok i → r ≡ Ok k → P i → P k
given P i k r p q h = let e = sym p ∙ q in let d : i ≡ k = cc in subst P d h

each_has : {S A B : Type 0} (f : A → S → Result (Step S B) Refusal) (P : B → Type 0) → ((x : A) (s : S) (k : Step S B) → f x s ≡ Ok k → P k.item)
    → (xs : List A) (s : S) (k : Step S (List B)) → each f xs s ≡ Ok k → All P k.item
each_has {S = S} {B = B} f P h [] s k e = given (λ (k : Step S (List B)). All P k.item) _ k _ refl e (All-nil P)
each_has {S = S} {B = B} f P h (x ∷ xs) s k e =
    on_answer (f x s) _ k _ (λ j p q.
    on_answer (each f xs j.after) _ k _ (λ m u w.
    given (λ (k : Step S (List B)). All P k.item) _ k _ refl w (All-cons P j.item m.item (h x s j p) (each_has f P h xs j.after m u))) q) e

-- ---- pieces
no_fault : (o p : Option Refusal) (G : Type 0) → (o ≡ None → p ≡ None → G) → or_fault o p ≡ None → G
no_fault None p G h e = h refl e
no_fault (Some r) p G h e = cc

below : (a b : Bool) (r : Refusal) → cond (a || b) (Some r) None ≡ None → (a ≡ false) × (b ≡ false)
below false false r e = (refl, refl)
below false true r e = cc
below true b r e = cc

field_in_word : (s : Span) (o : Option Role) (hi lo : ℕ) → field_fault s o hi lo ≡ None → (lo ≤ hi) × (hi ≤ 31)
field_in_word s None hi lo e = let h = below (nat_lt 31 hi) (nat_lt hi lo) (record { rule = range; at = s }) e in (ltb-false hi lo h.1, ltb-false 31 hi h.0)
field_in_word s (Some r) hi lo e = cc

piece_in_word : (names : List Named) (s : Span) (k : PieceKind) → piece_fault names s k ≡ None → IsInWord k
piece_in_word names s (P.Fixed b) e = tt
piece_in_word names s (P.Field n hi lo) e = field_in_word s (role_of names n) hi lo e

pieces_in_word : (names : List Named) (ps : List PieceText) → pieces_fault names ps ≡ None → AreInWord ps
pieces_in_word names [] e = All-nil (λ (p : PieceText). IsInWord p.kind)
pieces_in_word names (p ∷ ps) e =
    no_fault (piece_fault names p.span p.kind) (pieces_fault names ps) _ (λ a b.
    All-cons (λ (p : PieceText). IsInWord p.kind) p ps (piece_in_word names p.span p.kind a) (pieces_in_word names ps b)) e

-- ---- instructions
unless_none : {A : Type 0} (o : Option Refusal) (r : Result A Refusal) (t : A) (G : Type 0) → (o ≡ None → r ≡ Ok t → G) → unless o r ≡ Ok t → G
unless_none None r t G h e = h refl e
unless_none (Some x) r t G h e = cc

instr_in_word : (names : List Named) (x : InstrTree) (seen : List (List ℕ)) (k : Step (List (List ℕ)) TypedInstrTree) → judged_instr names x seen ≡ Ok k → HasWord k.item
instr_in_word names x seen k e =
    on_pass (is_listed seen x.name) _ _ k _ (λ h.
    unless_none (pieces_fault names x.pieces) _ k _ (λ n w.
    on_answer (behaviour B.Instruction (fields names x.pieces).names x.body) _ k _ (λ t p u.
    given (λ (k : Step (List (List ℕ)) TypedInstrTree). HasWord k.item) _ k _ refl u (pieces_in_word names x.pieces n)) w) h) e

-- ---- sections and texts
abbrev KindHasWord : TypedSectionKindTree → Type 0
KindHasWord k = All HasWord (instrs_in k)

kind_in_word : (st : State) (s : Span) (x : SectionKindTree) (f : Front) (k : Step Front TypedSectionKindTree) → judged_kind st s x f ≡ Ok k → KindHasWord k.item
kind_in_word st s (k_states xs) f k e =
    on_pass f.states _ _ k _ (λ h.
    on_answer (each (judged_state st) xs 0) _ k _ (λ m p u. given (λ (k : Step Front TypedSectionKindTree). KindHasWord k.item) _ k _ refl u (All-nil HasWord)) h) e
kind_in_word st s (k_instructions xs) f k e =
    on_pass f.instructions _ _ k _ (λ h.
    on_answer (each (judged_instr st.names) xs f.behaviours) _ k _ (λ m p u.
    given (λ (k : Step Front TypedSectionKindTree). KindHasWord k.item) _ k _ refl u (each_has (judged_instr st.names) HasWord (instr_in_word st.names) xs f.behaviours m p)) h) e
kind_in_word st s (k_always xs) f k e =
    on_pass f.always _ _ k _ (λ h.
    on_answer (each (judged_block st.names) xs f.behaviours) _ k _ (λ m p u. given (λ (k : Step Front TypedSectionKindTree). KindHasWord k.item) _ k _ refl u (All-nil HasWord)) h) e

abbrev SectionHasWord : TypedSectionTree → Type 0
SectionHasWord x = KindHasWord x.kind

section_in_word : (st : State) (x : SectionTree) (f : Front) (k : Step Front TypedSectionTree) → judged_section st x f ≡ Ok k → SectionHasWord k.item
section_in_word st x f k e =
    on_answer (judged_kind st x.span x.kind f) _ k _ (λ m p u. given (λ (k : Step Front TypedSectionTree). SectionHasWord k.item) _ k _ refl u (kind_in_word st x.span x.kind f m p)) e

all_in_word : (xs : List TypedSectionTree) → All SectionHasWord xs → All HasWord (all_instrs xs)
all_in_word [] h = All-nil HasWord
all_in_word (x ∷ xs) h = All-append HasWord (instrs_in x.kind) (all_instrs xs) (All-head SectionHasWord x xs h) (all_in_word xs (All-tail SectionHasWord x xs h))

abbrev TextHasWord : TypedTextTree → Type 0
TextHasWord t = All HasWord (all_instrs t.sections)

pub text_in_word : (t : TypedTextTree) → judged_text (erased_text t) ≡ Ok t → TextHasWord t
text_in_word t e =
    let u = erased_text t in
    let st = global_state (globals [] u.sections) in
    on_answer (each (judged_section st) u.sections no_front) _ t _ (λ k p h.
    given TextHasWord _ t _ refl h (all_in_word k.item (each_has (judged_section st) SectionHasWord (section_in_word st) u.sections no_front k p))) e
