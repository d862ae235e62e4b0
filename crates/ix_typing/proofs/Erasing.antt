-- What is judged of a tree is that tree with types.
use Rattle.std.proofs.Common.{◌≡◌, ◌∙◌, sym, ap, refl, ℕ, List, Option, Some, None, Bool, true, false, cond, Result, Ok, Err}
use Rattle.ix_tree.specs.declared.token.Span.{Span}
use Rattle.ix_tree.specs.declared.expr.CastTo.{CastTo}
use Rattle.ix_tree.specs.declared.expr.CastTo.TheVariants as C
use Rattle.ix_tree.specs.Trees.{ExprTree, e_literal, e_name, e_pc, e_x, e_mem, e_index, e_range, e_unary, e_cast, e_binary, e_choose}
use Rattle.ix_tree.specs.TypedTrees.{erased}
use Rattle.ix_typing.specs.declared.role.Shape.{Shape}
use Rattle.ix_typing.specs.declared.state.Setting.{Setting}
use Rattle.ix_typing.specs.declared.state.State.{State}
use Rattle.ix_typing.specs.declared.targets.Target.TheVariants as T
use Rattle.ix_typing.specs.Names.{is_among}
use Rattle.ix_typing.specs.Refusals.{Refusal, and_then}
use Rattle.ix_typing.specs.Expressions.{Judged, Pair, judged, type_of_name, table, table_word, based, word, is_constant, element_type, range_type, unary_type, binary_type, common_type, written, cast, x_word, mem_word, paired}

-- a goal that follows from what was judged
pub on_answer : {A B : Type 0} (r : Result A Refusal) (f : A → Result B Refusal) (b : B) (G : Type 0)
    → ((a : A) → r ≡ Ok a → f a ≡ Ok b → G) → and_then r f ≡ Ok b → G
on_answer (Ok a) f b G h e = h a refl e
on_answer (Err x) f b G h e = cc

-- a goal that follows where a test did not refuse
pub on_pass : {B : Type 0} (t : Bool) (x : Refusal) (r : Result B Refusal) (b : B) (G : Type 0) → (r ≡ Ok b → G) → cond t (Err x) r ≡ Ok b → G
on_pass true x r b G h e = cc
on_pass false x r b G h e = h e

unfoldable tree_of : Result Judged Refusal → ExprTree → ExprTree
tree_of (Ok j) d = erased j.tree
tree_of (Err x) d = d

-- the tree of an answer
made : (i j : Judged) (e : ExprTree) (r : Result Judged Refusal) → r ≡ Ok i → r ≡ Ok j → erased i.tree ≡ e → erased j.tree ≡ e
unfolding tree_of
made i j e r p q h = sym (ap (λ (z : Result Judged Refusal). tree_of z e) (sym p ∙ q)) ∙ h

x_erased : (g : Setting) (st : State) (a : Bool) (s : Span) (j : Judged) → x_word g st a s ≡ Ok j → erased j.tree ≡ e_x s
x_erased g st a s j e =
    on_pass _ _ _ j _ (λ h. on_pass (is_among st.written T.Rd) _ _ j _ (λ k. made _ j _ _ refl k refl) h) e

mem_erased : (g : Setting) (a : Bool) (s : Span) (j : Judged) → mem_word g a s ≡ Ok j → erased j.tree ≡ e_mem s
mem_erased g a s j e =
    on_pass _ _ _ j _ (λ h. on_pass a _ _ j _ (λ k. on_pass g.in_spawn _ _ j _ (λ l. made _ j _ _ refl l refl) k) h) e

-- a word is itself, and anything else was judged
word_erased : (g : Setting) (st : State) (a : Bool) (x : ExprTree) (r : Result Judged Refusal) (j : Judged)
    → (r ≡ Ok j → erased j.tree ≡ x) → word g st a x r ≡ Ok j → erased j.tree ≡ x
word_erased g st a (e_x s) r j h e = x_erased g st a s j e
word_erased g st a (e_mem s) r j h e = mem_erased g a s j e
word_erased g st a (e_literal s ty b) r j h e = h e
word_erased g st a (e_name s n) r j h e = h e
word_erased g st a (e_pc s) r j h e = h e
word_erased g st a (e_index s x i) r j h e = h e
word_erased g st a (e_range s x y z) r j h e = h e
word_erased g st a (e_unary s op x) r j h e = h e
word_erased g st a (e_cast s to x) r j h e = h e
word_erased g st a (e_binary s op x y) r j h e = h e
word_erased g st a (e_choose s c x y) r j h e = h e

table_erased : (a : Bool) (s : Span) (n : List ℕ) (o : Option Shape) (r : Result Judged Refusal) (j : Judged)
    → (r ≡ Ok j → erased j.tree ≡ e_name s n) → table_word a s n o r ≡ Ok j → erased j.tree ≡ e_name s n
table_erased a s n None r j h e = h e
table_erased a s n (Some shape) r j h e = made _ j _ _ refl e refl

based_erased : (g : Setting) (st : State) (a : Bool) (x : ExprTree) (r : Result Judged Refusal) (j : Judged)
    → (r ≡ Ok j → erased j.tree ≡ x) → based g st a x r ≡ Ok j → erased j.tree ≡ x
based_erased g st a (e_x s) r j h e = x_erased g st a s j e
based_erased g st a (e_mem s) r j h e = mem_erased g a s j e
based_erased g st a (e_literal s ty b) r j h e = h e
based_erased g st a (e_name s n) r j h e = table_erased a s n (table g st n) r j h e
based_erased g st a (e_pc s) r j h e = h e
based_erased g st a (e_index s x i) r j h e = h e
based_erased g st a (e_range s x y z) r j h e = h e
based_erased g st a (e_unary s op x) r j h e = h e
based_erased g st a (e_cast s to x) r j h e = h e
based_erased g st a (e_binary s op x y) r j h e = h e
based_erased g st a (e_choose s c x y) r j h e = h e

cast_erased : (s : Span) (to : CastTo) (x : ExprTree) (r : Result Judged Refusal) (j : Judged)
    → ((i : Judged) → r ≡ Ok i → erased i.tree ≡ x) → cast s to r ≡ Ok j → erased j.tree ≡ e_cast s to x
cast_erased s (C.Written t) x r j h e = on_answer (written t.span t.kind) _ j _ (λ ty p q. on_answer r _ j _ (λ i u v. made _ j _ _ refl v (ap (e_cast s (C.Written t)) (h i u))) q) e
cast_erased s C.Signed x r j h e = on_answer r _ j _ (λ i u v. made _ j _ _ refl v (ap (e_cast s C.Signed) (h i u))) e
cast_erased s C.Unsigned x r j h e = on_answer r _ j _ (λ i u v. made _ j _ _ refl v (ap (e_cast s C.Unsigned) (h i u))) e

abbrev first_of : Result Pair Refusal → ExprTree → ExprTree
first_of (Ok p) d = erased p.first.tree
first_of (Err x) d = d

abbrev second_of : Result Pair Refusal → ExprTree → ExprTree
second_of (Ok p) d = erased p.second.tree
second_of (Err x) d = d

pair_erased : (b : Judged) (r : Result Judged Refusal) (m : Pair) (x h : ExprTree) → erased b.tree ≡ x → ((j : Judged) → r ≡ Ok j → erased j.tree ≡ h) → paired b r ≡ Ok m
    → (erased m.first.tree ≡ x) × (erased m.second.tree ≡ h)
pair_erased b (Err e) m x h p f q = cc
pair_erased b (Ok y) m x h p f q =
    (sym (ap (λ (z : Result Pair Refusal). first_of z x) q) ∙ p, sym (ap (λ (z : Result Pair Refusal). second_of z h) q) ∙ f y refl)

pub judged_erased : (g : Setting) (st : State) (x : ExprTree) (a : Bool) (j : Judged) → judged g st x a ≡ Ok j → erased j.tree ≡ x
judged_erased g st (e_literal s ty b) a j e = made _ j _ _ refl e refl
judged_erased g st (e_name s n) a j e = on_answer (type_of_name g st s n) _ j _ (λ ty p q. made _ j _ _ refl q refl) e
judged_erased g st (e_pc s) a j e =
    on_pass (is_constant g.body) _ _ j _ (λ h. on_pass (is_among st.written T.Pc) _ _ j _ (λ k. on_pass g.in_spawn _ _ j _ (λ l. made _ j _ _ refl l refl) k) h) e
judged_erased g st (e_x s) a j e = cc
judged_erased g st (e_mem s) a j e = cc
judged_erased g st (e_index s x i) a j e =
    on_answer (based g st a x (judged g st x a)) _ j _ (λ b p q.
    on_answer (judged g st i b.accessed) _ j _ (λ k u v.
    on_answer (element_type g st s x i b.ty k.ty) _ j _ (λ ty w z.
    made _ j _ _ refl z (ap (λ (l : ExprTree). e_index s l (erased k.tree)) (based_erased g st a x (judged g st x a) b (judged_erased g st x a b) p) ∙ ap (e_index s x) (judged_erased g st i b.accessed k u))) v) q) e
judged_erased g st (e_range s x h l) a j e =
    on_answer (word g st a x (judged g st x a)) _ j _ (λ b p q.
    on_answer (paired b (judged g st h b.accessed)) _ j _ (λ m u v.
    on_answer (judged g st l m.second.accessed) _ j _ (λ k w z.
    on_answer (range_type s x h l m.first.ty k.ty) _ j _ (λ ty c d.
    let base = word_erased g st a x (judged g st x a) b (judged_erased g st x a b) p in
    let both : (erased m.first.tree ≡ x) × (erased m.second.tree ≡ h) = pair_erased b (judged g st h b.accessed) m x h base (judged_erased g st h b.accessed) u in
    made _ j _ _ refl d
    (ap (λ (o : ExprTree). e_range s o (erased m.second.tree) (erased k.tree)) both.0 ∙ ap (λ (o : ExprTree). e_range s x o (erased k.tree)) both.1 ∙ ap (e_range s x h) (judged_erased g st l m.second.accessed k w))) z) v) q) e
judged_erased g st (e_unary s op x) a j e =
    on_answer (judged g st x a) _ j _ (λ i p q. on_answer (unary_type s op i.ty) _ j _ (λ ty u v. made _ j _ _ refl v (ap (e_unary s op) (judged_erased g st x a i p))) q) e
judged_erased g st (e_cast s to x) a j e = cast_erased s to x (judged g st x a) j (judged_erased g st x a) e
judged_erased g st (e_binary s op x y) a j e =
    on_answer (judged g st x a) _ j _ (λ b p q.
    on_answer (judged g st y b.accessed) _ j _ (λ k u v.
    on_answer (binary_type s op b.ty k.ty) _ j _ (λ ty w z.
    made _ j _ _ refl z (ap (λ (l : ExprTree). e_binary s op l (erased k.tree)) (judged_erased g st x a b p) ∙ ap (e_binary s op x) (judged_erased g st y b.accessed k u))) v) q) e
judged_erased g st (e_choose s c x y) a j e =
    on_answer (judged g st c a) _ j _ (λ b p q.
    on_answer (paired b (judged g st x b.accessed)) _ j _ (λ m u v.
    on_answer (judged g st y m.second.accessed) _ j _ (λ k w z.
    on_answer (common_type s m.second.ty k.ty) _ j _ (λ ty d f.
    let both : (erased m.first.tree ≡ c) × (erased m.second.tree ≡ x) = pair_erased b (judged g st x b.accessed) m c x (judged_erased g st c a b p) (judged_erased g st x b.accessed) u in
    made _ j _ _ refl f
    (ap (λ (o : ExprTree). e_choose s o (erased m.second.tree) (erased k.tree)) both.0 ∙ ap (λ (o : ExprTree). e_choose s c o (erased k.tree)) both.1 ∙ ap (e_choose s c x) (judged_erased g st y m.second.accessed k w))) z) v) q) e
