-- Statements one behind the other, in front of those to come.
use Rattle.std.proofs.Common.{◌≡◌, ◌∙◌, sym, ap, refl, ℕ, ◌+◌, ◌<◌, ◌≤◌, List, [], ◌∷◌, ◌++◌, drop, drop-cons, add-one, length, get_or, map}
use Rattle.std.proofs.lemmas.List.{drop_all}
use Rattle.ix_bits.specs.declared.number.Ty.{Ty}
use Rattle.ix_bits.specs.declared.number.Bits.{Bits}
use Rattle.ix_tree.specs.declared.typed.TypedDecl.{TypedDecl}
use Rattle.ix_tree.specs.declared.typed.TypedStmt.{TypedStmt}
use Rattle.ix_tree.specs.TypedView.{typed_decl, typed_whole, typed_items}
use Rattle.ix_mean.specs.declared.resolved.ResolvedStmt.{ResolvedStmt}
use Rattle.ix_mean.specs.Core.{Statement, st_skip, st_then}
use Rattle.ix_mean.specs.View.{view_statement, view_statements}
use Rattle.ix_mean.specs.ByName.{Names}
use Rattle.ix_mean.specs.ResolvingStatements.{Scope, Step, after}
use Rattle.ix_slots.specs.Made.{made_declared, made_declarations, made_step, made_row}

abbrev pub chained : List (List Bits) → List ResolvedStmt → Statement → Statement
chained ts [] s = s
chained ts (x ∷ xs) s = st_then (view_statement ts x) (chained ts xs s)

-- statements in front of a step
abbrev pub prefixed : List (List Bits) → List ResolvedStmt → Step → Step
prefixed ts xs st = record { body = chained ts xs st.body; scope = st.scope }

chained_push : (ts : List (List Bits)) (xs : List ResolvedStmt) (x : ResolvedStmt) (s : Statement) → chained ts (xs ++ x ∷ []) s ≡ chained ts xs (st_then (view_statement ts x) s)
chained_push ts [] x s = refl
chained_push ts (y ∷ ys) x s = ap (st_then (view_statement ts y)) (chained_push ts ys x s)

chained_end : (ts : List (List Bits)) (xs : List ResolvedStmt) → chained ts xs st_skip ≡ view_statements ts xs
chained_end ts [] = refl
chained_end ts (x ∷ xs) = ap (st_then (view_statement ts x)) (chained_end ts xs)

-- one more statement
one_more : (ts : List (List Bits)) (out : List ResolvedStmt) (y : ResolvedStmt) (st : Step) (rest : Scope → Step) (mid : Scope) → view_statement ts y ≡ st.body → mid ≡ st.scope
    → prefixed ts (out ++ y ∷ []) (rest mid) ≡ prefixed ts out (after st rest)
one_more ts out y st rest mid e f =
    ap (λ (z : Statement). let s : Step = record { body = z; scope = (rest mid).scope } in s) (chained_push ts out y (rest mid).body)
    ∙ ap (λ (z : Statement). let s : Step = record { body = chained ts out (st_then z (rest mid).body); scope = (rest mid).scope } in s) e
    ∙ ap (λ (z : Scope). let s : Step = record { body = chained ts out (st_then st.body (rest z).body); scope = (rest z).scope } in s) f

pub row_more : (ts : List (List Bits)) (ns : Names) (xs : List TypedStmt) (k : ℕ) (x : TypedStmt) (out : List ResolvedStmt) (y : ResolvedStmt) (sc mid : Scope) → k < length xs → x ≡ get_or xs k x
    → view_statement ts y ≡ (made_step ns (typed_whole x) sc).body → mid ≡ (made_step ns (typed_whole x) sc).scope
    → prefixed ts (out ++ y ∷ []) (made_row ns (typed_items (drop (k + 1) xs)) mid) ≡ prefixed ts out (made_row ns (typed_items (drop k xs)) sc)
row_more ts ns xs k x out y sc mid h i e f =
    let front : drop k xs ≡ x ∷ drop (k + 1) xs = rw (add-one, drop-cons xs k x, ← i) refl in
    one_more ts out y (made_step ns (typed_whole x) sc) (made_row ns (typed_items (drop (k + 1) xs))) mid e f
    ∙ ap (λ (zs : List TypedStmt). prefixed ts out (made_row ns (typed_items zs) sc)) (sym front)

pub declarations_more : (ts : List (List Bits)) (ns : Names) (ty : Ty) (xs : List TypedDecl) (k : ℕ) (x : TypedDecl) (out : List ResolvedStmt) (y : ResolvedStmt) (sc mid : Scope) → k < length xs → x ≡ get_or xs k x
    → view_statement ts y ≡ (made_declared ns ty (typed_decl x) sc).body → mid ≡ (made_declared ns ty (typed_decl x) sc).scope
    → prefixed ts (out ++ y ∷ []) (made_declarations ns ty (map typed_decl (drop (k + 1) xs)) mid) ≡ prefixed ts out (made_declarations ns ty (map typed_decl (drop k xs)) sc)
declarations_more ts ns ty xs k x out y sc mid h i e f =
    let front : drop k xs ≡ x ∷ drop (k + 1) xs = rw (add-one, drop-cons xs k x, ← i) refl in
    one_more ts out y (made_declared ns ty (typed_decl x) sc) (made_declarations ns ty (map typed_decl (drop (k + 1) xs))) mid e f
    ∙ ap (λ (zs : List TypedDecl). prefixed ts out (made_declarations ns ty (map typed_decl zs) sc)) (sym front)

-- nothing is left
abbrev pub ended : Scope → Step
ended sc = record { body = st_skip; scope = sc }

pub row_ended : (ts : List (List Bits)) (ns : Names) (xs : List TypedStmt) (k : ℕ) (out : List ResolvedStmt) (sc : Scope) (all : Step) → length xs ≤ k
    → prefixed ts out (made_row ns (typed_items (drop k xs)) sc) ≡ all → (view_statements ts out ≡ all.body) × (sc ≡ all.scope)
row_ended ts ns xs k out sc all h e =
    let none = drop_all k xs h in
    let last : prefixed ts out (ended sc) ≡ all = ap (λ (zs : List TypedStmt). prefixed ts out (made_row ns (typed_items zs) sc)) (sym none) ∙ e in
    (sym (chained_end ts out) ∙ ap (λ (s : Step). s.body) last, ap (λ (s : Step). s.scope) last)

pub declarations_ended : (ts : List (List Bits)) (ns : Names) (ty : Ty) (xs : List TypedDecl) (k : ℕ) (out : List ResolvedStmt) (sc : Scope) (all : Step) → length xs ≤ k
    → prefixed ts out (made_declarations ns ty (map typed_decl (drop k xs)) sc) ≡ all → (view_statements ts out ≡ all.body) × (sc ≡ all.scope)
declarations_ended ts ns ty xs k out sc all h e =
    let none = drop_all k xs h in
    let last : prefixed ts out (ended sc) ≡ all = ap (λ (zs : List TypedDecl). prefixed ts out (made_declarations ns ty (map typed_decl zs) sc)) (sym none) ∙ e in
    (sym (chained_end ts out) ∙ ap (λ (s : Step). s.body) last, ap (λ (s : Step). s.scope) last)
