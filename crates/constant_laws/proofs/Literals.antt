-- The literals of texts that are read are as wide as their types.
use Rattle.std.proofs.Common.{◌≡◌, ◌∙◌, sym, refl, ℕ, List, [], ◌∷◌, ◌++◌, Option, Some, None}
use Rattle.std.specs.Prelude.{position}
use Rattle.ix_tree.specs.Tokens.{words}
use Rattle.ix_tree.specs.declared.token.Token.{Token}
use Rattle.ix_tree.specs.declared.token.TokenKind.{TokenKind}
use Rattle.ix_tree.specs.declared.token.TokenKind.TheVariants.{Unsized, Sized}
use Rattle.ix_tree.specs.Lexing.{same_bytes, IsNumber, decimal, hexadecimal, binary, sized, word_or_name, Form, IsPart, is_space_part, is_line_part, is_comment_part, is_word_part, is_text_part, is_number_part, is_symbol_part, Reads, reads_none, reads_more}
use Rattle.ix_tree.specs.Trees.{ExprTree, e_literal, e_name, e_pc, e_x, e_mem, e_index, e_range, e_unary, e_cast, e_binary, e_choose, Part, StateTree, StateKindTree, k_register, k_table, SectionTree, SectionKindTree, k_states, k_instructions, k_always, TextTree}
use Rattle.ix_tree.specs.Grammar.{IsPrimary, primary_unsized, primary_sized, primary_true, primary_false, primary_name, primary_pc, primary_x, primary_mem, IsExpr, is_primary, is_unary, is_cast, is_cast_signed, is_cast_unsigned, is_binary, is_round, is_index, is_range, is_choose, no_value, some_value, IsEntries, last_entry, more_entries, IsState, is_register, is_table, is_register_table, AreMany, no_more, one_more, IsSection, is_states, is_instructions, is_always_section, IsText, is_text}

-- ---- tokens
-- the pattern of a literal is as wide as its type
abbrev IsWide : TokenKind → Type 0
IsWide (Unsized ty b) = b.width ≡ ty.width
IsWide (Sized ty b) = b.width ≡ ty.width
IsWide _ = Unit {0}

abbrev pub AreWide : List Token → Type 0
AreWide [] = Unit {0}
AreWide (t ∷ ts) = IsWide t.kind × AreWide ts

apart : (xs ys : List Token) → AreWide (xs ++ ys) → AreWide xs × AreWide ys
apart [] ys h = (tt, h)
apart (x ∷ xs) ys h = let r = apart xs ys h.1 in ((h.0, r.0), r.1)

together : (xs ys : List Token) → AreWide xs → AreWide ys → AreWide (xs ++ ys)
together [] ys h g = g
together (x ∷ xs) ys h g = (h.0, together xs ys h.1 g)

word_wide : (bs : List ℕ) (o : Option ℕ) → IsWide (word_or_name bs o)
word_wide bs None = tt
word_wide bs (Some n) = tt

number_wide : {x : List ℕ} {kind : TokenKind} → IsNumber x kind → IsWide kind
number_wide (decimal c ty b d z u) = u.width
number_wide (hexadecimal ty b d u) = u.width
number_wide (binary ty b d u) = u.width
number_wide (sized c l ty b d z f e u) = u.width ∙ sym u.type_width

part_wide : {form : Form} {at : ℕ} {x y : List ℕ} {ts : List Token} → IsPart form at x y ts → AreWide ts
part_wide (is_space_part b h) = tt
part_wide (is_line_part h s) = tt
part_wide (is_comment_part h) = tt
part_wide (is_word_part {x = x} b h a s l) = (word_wide (b ∷ x) (position (λ w. same_bytes w (b ∷ x)) words), tt)
part_wide (is_text_part x h) = (tt, tt)
part_wide (is_number_part b kind h a s n) = (number_wide n, tt)
part_wide (is_symbol_part n h l) = (tt, tt)

pub reads_wide : {at : ℕ} {bytes rest : List ℕ} {ts : List Token} → Reads at bytes ts rest → AreWide ts
reads_wide reads_none = tt
reads_wide (reads_more {us = us} {ts = ts} form p r) = together us ts (part_wide p) (reads_wide r)

-- ---- trees
-- each literal of an expression has a pattern as wide as its type
abbrev pub HasWide : ExprTree → Type 0
HasWide (e_literal s ty b) = b.width ≡ ty.width
HasWide (e_name s n) = Unit {0}
HasWide (e_pc s) = Unit {0}
HasWide (e_x s) = Unit {0}
HasWide (e_mem s) = Unit {0}
HasWide (e_index s e l) = HasWide e × HasWide l
HasWide (e_range s e h l) = HasWide e × HasWide h × HasWide l
HasWide (e_unary s op e) = HasWide e
HasWide (e_cast s to e) = HasWide e
HasWide (e_binary s op e f) = HasWide e × HasWide f
HasWide (e_choose s c e f) = HasWide c × HasWide e × HasWide f

kept : (k : TokenKind) (l : TokenKind) → k ≡ l → IsWide k → IsWide l
kept k l e h = rw e at h

primary_wide : {t : Token} {v : ExprTree} → IsPrimary t v → IsWide t.kind → HasWide v
primary_wide (primary_unsized t ty b e) h = kept t.kind (Unsized ty b) e h
primary_wide (primary_sized t ty b e) h = kept t.kind (Sized ty b) e h
primary_wide (primary_true t e) h = refl
primary_wide (primary_false t e) h = refl
primary_wide (primary_name t n e) h = tt
primary_wide (primary_pc t e) h = tt
primary_wide (primary_x t e) h = tt
primary_wide (primary_mem t e) h = tt

expr_wide : {n d : ℕ} {ts : List Token} {ms : List ℕ} {v : Part} → IsExpr n d ts ms v → AreWide ts → HasWide v.tree
expr_wide (is_primary t p) h = primary_wide p h.0
expr_wide (is_unary t l u e) h = expr_wide e h.1
expr_wide (is_cast {us = us} {ts = ts} o c l a b y e) h = expr_wide e (apart us (c ∷ ts) h.1).1.1
expr_wide (is_cast_signed o s c l a b f e) h = expr_wide e h.1.1.1
expr_wide (is_cast_unsigned o s c l a b f e) h = expr_wide e h.1.1.1
expr_wide (is_binary {xs = xs} {ys = ys} t l o a b) h = let p = apart xs (t ∷ ys) h in (expr_wide a p.0, expr_wide b p.1.1)
expr_wide (is_round {ts = ts} o c a b e) h = expr_wide e (apart ts (c ∷ []) h.1).0
expr_wide (is_index {xs = xs} {ys = ys} o c l a b e f) h =
    let p = apart xs (o ∷ (ys ++ c ∷ [])) h in
    let q = apart ys (c ∷ []) p.1.1 in
    (expr_wide e p.0, expr_wide f q.0)
expr_wide (is_range {xs = xs} {ys = ys} {zs = zs} o r c l a b k e f g) h =
    let p = apart xs (o ∷ (ys ++ r ∷ (zs ++ c ∷ []))) h in
    let q = apart ys (r ∷ (zs ++ c ∷ [])) p.1.1 in
    let u = apart zs (c ∷ []) q.1.1 in
    (expr_wide e p.0, expr_wide f q.0, expr_wide g u.0)
expr_wide (is_choose {cs = cs} {xs = xs} {ys = ys} q r l a b e f g) h =
    let p = apart cs (q ∷ (xs ++ r ∷ ys)) h in
    let u = apart xs (r ∷ ys) p.1.1 in
    (expr_wide e p.0, expr_wide f u.0, expr_wide g u.1.1)

-- ---- registers and tables
abbrev pub AllHaveWide : List ExprTree → Type 0
AllHaveWide [] = Unit {0}
AllHaveWide (e ∷ es) = HasWide e × AllHaveWide es

abbrev pub KindHasWide : StateKindTree → Type 0
KindHasWide (k_register None) = Unit {0}
KindHasWide (k_register (Some e)) = HasWide e
KindHasWide (k_table n es) = AllHaveWide es

abbrev pub StatesHaveWide : List StateTree → Type 0
StatesHaveWide [] = Unit {0}
StatesHaveWide (x ∷ xs) = KindHasWide x.kind × StatesHaveWide xs

abbrev pub SectionHasWide : SectionKindTree → Type 0
SectionHasWide (k_states xs) = StatesHaveWide xs
SectionHasWide (k_instructions xs) = Unit {0}
SectionHasWide (k_always xs) = Unit {0}

abbrev pub SectionsHaveWide : List SectionTree → Type 0
SectionsHaveWide [] = Unit {0}
SectionsHaveWide (x ∷ xs) = SectionHasWide x.kind × SectionsHaveWide xs

entries_wide : {ts : List Token} {ms : List ℕ} {es : List ExprTree} → IsEntries ts ms es → AreWide ts → AllHaveWide es
entries_wide (last_entry e) h = (expr_wide e h, tt)
entries_wide (more_entries {ts = ts} {us = us} c k e r) h = let p = apart ts (c ∷ us) h in (expr_wide e p.0, entries_wide r p.1.1)

state_wide : {ts : List Token} {ms : List ℕ} {x : StateTree} → IsState ts ms x → AreWide ts → KindHasWide x.kind
state_wide (is_register {ys = ys} r t c n a b e y no_value) h = tt
state_wide (is_register {ys = ys} r t c n a b e y (some_value {ts = ts} q k x)) h =
    let p = apart ys (t ∷ ((q ∷ ts) ++ c ∷ [])) h.1 in
    expr_wide x (apart ts (c ∷ []) p.1.1.1).0
state_wide (is_table {ys = ys} {vs = vs} r t o l q e b z c n ty w a1 a2 a3 a4 a5 a6 a7 a8 a9 y x) h =
    let p = apart ys (t ∷ o ∷ l ∷ q ∷ e ∷ b ∷ (vs ++ z ∷ c ∷ [])) h.1 in
    entries_wide x (apart vs (z ∷ c ∷ []) p.1.1.1.1.1.1.1).0
state_wide (is_register_table {ys = ys} {vs = vs} r k t o l q e b z c n ty w a1 a2 a3 a4 a5 a6 a7 a8 a9 a10 y x) h =
    let p = apart ys (t ∷ o ∷ l ∷ q ∷ e ∷ b ∷ (vs ++ z ∷ c ∷ [])) h.1.1 in
    entries_wide x (apart vs (z ∷ c ∷ []) p.1.1.1.1.1.1.1).0

states_wide : {ts : List Token} {ms : List ℕ} {xs : List StateTree} → AreMany IsState ts ms xs → AreWide ts → StatesHaveWide xs
states_wide no_more h = tt
states_wide (one_more {ts = ts} {us = us} x r) h = let p = apart ts us h in (state_wide x p.0, states_wide r p.1)

section_wide : {ts : List Token} {ms : List ℕ} {x : SectionTree} → IsSection ts ms x → AreWide ts → SectionHasWide x.kind
section_wide (is_states {ts = ts} w o c a b e r) h = states_wide r (apart ts (c ∷ []) h.1.1).0
section_wide (is_instructions w o c a b e r) h = tt
section_wide (is_always_section w o c a b e r) h = tt

sections_wide : {ts : List Token} {ms : List ℕ} {xs : List SectionTree} → AreMany IsSection ts ms xs → AreWide ts → SectionsHaveWide xs
sections_wide no_more h = tt
sections_wide (one_more {ts = ts} {us = us} x r) h = let p = apart ts us h in (section_wide x p.0, sections_wide r p.1)

pub text_wide : {ts : List Token} {ms : List ℕ} {t : TextTree} → IsText ts ms t → AreWide ts → SectionsHaveWide t.sections
text_wide (is_text {ts = ts} t i e r o c n a b f g k l s) h = sections_wide s (apart ts (c ∷ []) h.1.1.1.1.1).0
