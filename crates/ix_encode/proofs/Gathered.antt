-- The parts of a text, gathered section by section, and its registers and tables, one by one.
use Rattle.std.proofs.Common.{◌≡◌, ◌∙◌, sym, ap, refl, List, [], ◌∷◌, ◌++◌, map}
use Rattle.std.specs.List.{flat_map}
use Rattle.std.proofs.lemmas.List.{append-nil, map-append}
use Rattle.std.proofs.lemmas.List.Concat.{flat_map-cons}
use Rattle.std.proofs.lemmas.Grind.{flat_map-append}
use Rattle.ix_tree.specs.declared.typed.TypedSection.{TypedSection}
use Rattle.ix_tree.specs.TypedTrees.{TypedSectionTree, TypedStateTree, TypedStateKindTree, tk_register, tk_table}
use Rattle.ix_tree.specs.TypedView.{typed_section}
use Rattle.ix_tree.specs.declared.extension.Register.{Register}
use Rattle.ix_tree.specs.declared.extension.Table.{Table}
use Rattle.ix_extension.specs.Extensions.{registers_of, with_register, tables_of, with_table}

-- one element more
flat_one : {A B : Type 0} (f : A → List B) (xs : List A) (x : A) → flat_map f xs ++ f x ≡ flat_map f (xs ++ x ∷ [])
flat_one f xs x = sym (flat_map-append f xs (x ∷ []) ∙ ap (λ z. flat_map f xs ++ z) (flat_map-cons f x [] ∙ append-nil (f x)))

-- one section more
pub section_push : {A B : Type 0} (v : A → B) (f : TypedSectionTree → List B) (ys : List TypedSection) (x : TypedSection) (xs xs' : List A) (more : List B)
    → map v xs ≡ flat_map f (map typed_section ys) → map v xs' ≡ map v xs ++ more → more ≡ f (typed_section x)
    → map v xs' ≡ flat_map f (map typed_section (ys ++ x ∷ []))
section_push v f ys x xs xs' more h g m =
    g ∙ ap (λ z. z ++ more) h ∙ ap (λ z. flat_map f (map typed_section ys) ++ z) m ∙ flat_one f (map typed_section ys) (typed_section x)
    ∙ sym (ap (flat_map f) (map-append typed_section ys (x ∷ [])))

-- ---- one register or table more
registers_tail : (x : TypedStateTree) (k : TypedStateKindTree) (xs ys : List Register) → with_register x k (xs ++ ys) ≡ with_register x k xs ++ ys
registers_tail x (tk_register e) xs ys = refl
registers_tail x (tk_table n es) xs ys = refl

pub registers_push : (xs ys : List TypedStateTree) → registers_of (xs ++ ys) ≡ registers_of xs ++ registers_of ys
registers_push [] ys = refl
registers_push (x ∷ xs) ys = ap (with_register x x.kind) (registers_push xs ys) ∙ registers_tail x x.kind (registers_of xs) (registers_of ys)

tables_tail : (x : TypedStateTree) (k : TypedStateKindTree) (xs ys : List Table) → with_table x k (xs ++ ys) ≡ with_table x k xs ++ ys
tables_tail x (tk_register e) xs ys = refl
tables_tail x (tk_table n es) xs ys = refl

pub tables_push : (xs ys : List TypedStateTree) → tables_of (xs ++ ys) ≡ tables_of xs ++ tables_of ys
tables_push [] ys = refl
tables_push (x ∷ xs) ys = ap (with_table x x.kind) (tables_push xs ys) ∙ tables_tail x x.kind (tables_of xs) (tables_of ys)
