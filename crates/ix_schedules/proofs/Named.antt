-- The behaviours of the extension of a text have names of the language.
use Rattle.std.proofs.Common.{◌≡◌, sym, subst, refl, ℕ, ◌≤◌, List, [], ◌∷◌, ◌++◌, length, map, Option, Some, None, true, arith}
use Rattle.std.specs.Prelude.{All}
use Rattle.std.specs.List.{list_all, position}
use Rattle.std.proofs.lemmas.Bool.{and_parts}
use Rattle.std.proofs.lemmas.Bool.Decides.{nat_tests}
use Rattle.std.proofs.lemmas.List.Elements.{All-nil, All-cons}
use Rattle.ix_tree.specs.declared.token.Token.{Token}
use Rattle.ix_tree.specs.declared.token.TokenKind.{TokenKind}
use Rattle.ix_tree.specs.declared.token.TokenKind.TheVariants.{Name}
use Rattle.ix_tree.specs.Lexing as lexing
use Rattle.ix_tree.specs.Lexing.{Form, word_or_name, IsNumber, decimal, hexadecimal, binary, sized, IsPart, is_space_part, is_line_part, is_comment_part, is_word_part, is_text_part, is_number_part, is_symbol_part, Reads, reads_none, reads_more}
use Rattle.ix_tree.specs.Tokens.{words}
use Rattle.ix_tree.specs.Trees.{InstrTree, BlockTree, SectionTree, SectionKindTree, k_states, k_instructions, k_always, TextTree}
use Rattle.ix_tree.specs.Grammar.{IsInstr, is_instr, IsAlways, is_always, AreMany, no_more, one_more, IsSection, is_states, is_instructions, is_always_section, IsText, is_text}
use Rattle.ix_tree.specs.Unrolling.{alone_instr, alone_block, alone_kind, alone_section, unrolled, outcome_of, without_loops, Refusal, first_refusal, met_sections}
use Rattle.ix_tree.specs.TypedTrees.{TypedInstrTree, TypedBlockTree, TypedSectionTree, TypedSectionKindTree, tk_states, tk_instructions, tk_always, TypedTextTree, erased_instr, erased_block, erased_section, erased_section_kind}
use Rattle.ix_typing.proofs.ErasingTexts.{text_erased}
use Rattle.ix_extension.specs.Extensions.{BehaviourTree, InstructionTree, instrs_in, blocks_in, all_instrs, all_blocks, instruction_of, block_of, extension_of}
use Rattle.ix_cert.specs.Layout.{IsName, is_letter, is_name_byte}
use Rattle.ix_schedules.specs.Scheduling.{AreNamed}
use Rattle.ix_schedules.specs.Laws.{NameLaw}

-- something is so of each element
abbrev Each : {A : Type 0} → (A → Type 0) → List A → Type 0
Each P [] = Unit {0}
Each P (x ∷ xs) = P x × Each P xs

each_join : {A : Type 0} (P : A → Type 0) (xs ys : List A) → Each P xs → Each P ys → Each P (xs ++ ys)
each_join P [] ys a b = b
each_join P (x ∷ xs) ys a b = (a.0, each_join P xs ys a.1 b)

each_front : {A : Type 0} (P : A → Type 0) (xs ys : List A) → Each P (xs ++ ys) → Each P xs
each_front P [] ys a = tt
each_front P (x ∷ xs) ys a = (a.0, each_front P xs ys a.1)

each_rest : {A : Type 0} (P : A → Type 0) (xs ys : List A) → Each P (xs ++ ys) → Each P ys
each_rest P [] ys a = a
each_rest P (x ∷ xs) ys a = each_rest P xs ys a.1

each_map : {A B : Type 0} (P : B → Type 0) (f : A → B) (xs : List A) → Each (λ x. P (f x)) xs → Each P (map f xs)
each_map P f [] a = tt
each_map P f (x ∷ xs) a = (a.0, each_map P f xs a.1)

each_unmap : {A B : Type 0} (P : B → Type 0) (f : A → B) (xs : List A) → Each P (map f xs) → Each (λ x. P (f x)) xs
each_unmap P f [] a = tt
each_unmap P f (x ∷ xs) a = (a.0, each_unmap P f xs a.1)

each_all : {A : Type 0} (P : A → Type 0) (xs : List A) → Each P xs → All P xs
each_all P [] a = All-nil P
each_all P (x ∷ xs) a = All-cons P x xs a.0 (each_all P xs a.1)

-- ---- tokens
letter_is : (b : ℕ) → lexing.is_letter b ≡ true → is_letter b ≡ true
letter_is b e = grind (arith, nat_tests)

name_byte_is : (b : ℕ) → lexing.is_name_byte b ≡ true → is_name_byte b ≡ true
name_byte_is b e = grind (arith, nat_tests)

name_bytes_are : (bs : List ℕ) → list_all lexing.is_name_byte bs ≡ true → list_all is_name_byte bs ≡ true
name_bytes_are [] e = refl
name_bytes_are (b ∷ bs) e =
    let p = and_parts (lexing.is_name_byte b) (list_all lexing.is_name_byte bs) e in
    rw (name_byte_is b p.0, name_bytes_are bs p.1) refl

abbrev Named : TokenKind → Type 0
Named (Name n) = IsName n
Named kind = Unit {0}

abbrev HasName : Token → Type 0
HasName t = Named t.kind

word_named : (bs : List ℕ) (o : Option ℕ) → IsName bs → Named (word_or_name bs o)
word_named bs None n = n
word_named bs (Some k) n = tt

number_named : {bs : List ℕ} {kind : TokenKind} → IsNumber bs kind → Named kind
number_named (decimal c ty b d z u) = tt
number_named (hexadecimal ty b d u) = tt
number_named (binary ty b d u) = tt
number_named (sized c l ty b d z e f g) = tt

word_is_name : (b : ℕ) (x : List ℕ) → lexing.is_letter b ≡ true → list_all lexing.is_name_byte x ≡ true → length (b ∷ x) ≤ 64 → IsName (b ∷ x)
word_is_name b x l r s = (letter_is b l, name_bytes_are x r, omega (arith, s))

part_named : {form : Form} {at : ℕ} {x y : List ℕ} {us : List Token} → IsPart form at x y us → Each HasName us
part_named (is_space_part b e) = tt
part_named (is_line_part e s) = tt
part_named (is_comment_part c) = tt
part_named (is_word_part {x = x} b l r s few) = (word_named (b ∷ x) (position (λ w. lexing.same_bytes w (b ∷ x)) words) (word_is_name b x l r few), tt)
part_named (is_text_part x e) = (tt, tt)
part_named (is_number_part b kind d e s n) = (number_named n, tt)
part_named (is_symbol_part n e m) = (tt, tt)

reads_named : {at : ℕ} {bs rest : List ℕ} {ts : List Token} → Reads at bs ts rest → Each HasName ts
reads_named reads_none = tt
reads_named (reads_more {us = us} {ts = ts} form part more) = each_join HasName us ts (part_named part) (reads_named more)

-- ---- the tree that they derive
named_by : (t : Token) (n : List ℕ) → t.kind ≡ Name n → HasName t → IsName n
named_by t n e h = subst Named e h

abbrev InstrNamed : InstrTree → Type 0
InstrNamed i = IsName i.name

abbrev BlockNamed : BlockTree → Type 0
BlockNamed b = IsName b.name

abbrev KindNamed : SectionKindTree → Type 0
KindNamed (k_states xs) = Unit {0}
KindNamed (k_instructions xs) = Each InstrNamed xs
KindNamed (k_always xs) = Each BlockNamed xs

abbrev SectionNamed : SectionTree → Type 0
SectionNamed s = KindNamed s.kind

many_named : {X : Type 0} (Is : List Token → List ℕ → X → Type 0) (P : X → Type 0) → ((ts : List Token) (ms : List ℕ) (x : X) → Is ts ms x → Each HasName ts → P x)
    → (ts : List Token) (ms : List ℕ) (xs : List X) → AreMany Is ts ms xs → Each HasName ts → Each P xs
many_named Is P one _ _ _ no_more h = tt
many_named Is P one _ _ _ (one_more {ts = ts} {us = us} {ms = ms} {ns = ns} {x = x} {xs = xs} i more) h =
    (one ts ms x i (each_front HasName ts us h), many_named Is P one us ns xs more (each_rest HasName ts us h))

instr_named : (ts : List Token) (ms : List ℕ) (x : InstrTree) → IsInstr ts ms x → Each HasName ts → InstrNamed x
instr_named _ _ _ (is_instr t o e r q b h c n is io ie ir iq ib ih ic ps as' s) named = named_by t n is named.0

always_named : (ts : List Token) (ms : List ℕ) (x : BlockTree) → IsAlways ts ms x → Each HasName ts → BlockNamed x
always_named _ _ _ (is_always t o c n is io ic s) named = named_by t n is named.0

section_named : (ts : List Token) (ms : List ℕ) (x : SectionTree) → IsSection ts ms x → Each HasName ts → SectionNamed x
section_named _ _ _ (is_states w o c a b d many) named = tt
section_named _ _ _ (is_instructions {ts = ts} {ms = ms} {xs = xs} w o c a b d many) named =
    many_named IsInstr InstrNamed instr_named ts ms xs many (each_front HasName ts (c ∷ []) named.1.1)
section_named _ _ _ (is_always_section {ts = ts} {ms = ms} {xs = xs} w o c a b d many) named =
    many_named IsAlways BlockNamed always_named ts ms xs many (each_front HasName ts (c ∷ []) named.1.1)

text_named : (ts : List Token) (ms : List ℕ) (x : TextTree) → IsText ts ms x → Each HasName ts → Each SectionNamed x.sections
text_named _ _ _ (is_text {ts = ts} {ms = ms} {xs = xs} t i e r o c n a b d f g h many) named =
    many_named IsSection SectionNamed section_named ts ms xs many (each_front HasName ts (c ∷ []) named.1.1.1.1.1)

-- ---- without loops
kind_alone : (k : SectionKindTree) → KindNamed k → KindNamed (alone_kind k)
kind_alone (k_states xs) h = tt
kind_alone (k_instructions xs) h = each_map InstrNamed alone_instr xs h
kind_alone (k_always xs) h = each_map BlockNamed alone_block xs h

sections_alone : (ss : List SectionTree) → Each SectionNamed ss → Each SectionNamed (map alone_section ss)
sections_alone [] h = tt
sections_alone (s ∷ ss) h = (kind_alone s.kind h.0, sections_alone ss h.1)

unrolled_is : (looped flat : TextTree) (o : Option Refusal) → outcome_of looped o ≡ without_loops flat → unrolled looped ≡ flat
unrolled_is looped flat None e = cc
unrolled_is looped flat (Some r) e = cc

-- ---- with types
abbrev TypedKindNamed : TypedSectionKindTree → Type 0
TypedKindNamed k = KindNamed (erased_section_kind k)

instrs_named : (k : TypedSectionKindTree) → TypedKindNamed k → Each (λ (i : TypedInstrTree). IsName i.name) (instrs_in k)
instrs_named (tk_states xs) h = tt
instrs_named (tk_instructions xs) h = each_unmap InstrNamed erased_instr xs h
instrs_named (tk_always xs) h = tt

blocks_named : (k : TypedSectionKindTree) → TypedKindNamed k → Each (λ (b : TypedBlockTree). IsName b.name) (blocks_in k)
blocks_named (tk_states xs) h = tt
blocks_named (tk_instructions xs) h = tt
blocks_named (tk_always xs) h = each_unmap BlockNamed erased_block xs h

all_instrs_named : (ss : List TypedSectionTree) → Each (λ (s : TypedSectionTree). TypedKindNamed s.kind) ss → Each (λ (i : TypedInstrTree). IsName i.name) (all_instrs ss)
all_instrs_named [] h = tt
all_instrs_named (s ∷ ss) h = each_join (λ (i : TypedInstrTree). IsName i.name) (instrs_in s.kind) (all_instrs ss) (instrs_named s.kind h.0) (all_instrs_named ss h.1)

all_blocks_named : (ss : List TypedSectionTree) → Each (λ (s : TypedSectionTree). TypedKindNamed s.kind) ss → Each (λ (b : TypedBlockTree). IsName b.name) (all_blocks ss)
all_blocks_named [] h = tt
all_blocks_named (s ∷ ss) h = each_join (λ (b : TypedBlockTree). IsName b.name) (blocks_in s.kind) (all_blocks ss) (blocks_named s.kind h.0) (all_blocks_named ss h.1)

extension_named : (t : TypedTextTree) → Each SectionNamed (map erased_section t.sections) → AreNamed (extension_of t)
extension_named t h =
    let sections = each_unmap SectionNamed erased_section t.sections h in
    record {
      instructions = each_all (λ (i : InstructionTree). IsName i.behaviour.name) (map instruction_of (all_instrs t.sections)) (each_map (λ (i : InstructionTree). IsName i.behaviour.name) instruction_of (all_instrs t.sections) (all_instrs_named t.sections sections));
      blocks = each_all (λ (b : BehaviourTree). IsName b.name) (map block_of (all_blocks t.sections)) (each_map (λ (b : BehaviourTree). IsName b.name) block_of (all_blocks t.sections) (all_blocks_named t.sections sections));
    }

pub names_are : NameLaw
names_are bytes x p =
    let tree = p.typed.tree.tree in
    let looped = p.typed.tree.looped in
    let named : Each SectionNamed looped.sections = text_named tree.tokens tree.derived.nestings looped tree.derived.is (reads_named tree.lexed.reads) in
    let flat : unrolled looped ≡ p.typed.flat = unrolled_is looped p.typed.flat (first_refusal 0 (met_sections looped.sections)) p.typed.tree.unrolled in
    let there : Each SectionNamed p.typed.flat.sections = subst (λ (z : TextTree). Each SectionNamed z.sections) flat (sections_alone looped.sections named) in
    let back : Each SectionNamed (map erased_section p.text.sections) = subst (λ (z : TextTree). Each SectionNamed z.sections) (sym (text_erased p.typed.flat p.text p.typed.judged)) there in
    subst AreNamed (sym p.parts) (extension_named p.text back)
