-- A text has one extension, which is well formed, or is refused.
use Rattle.std.proofs.Common.{◌≡◌, ◌∙◌, sym, ap, subst, ℕ, List, Ok}
use Rattle.ix_tree.specs.declared.token.Token.{Token}
use Rattle.ix_tree.specs.Lexing.{Lexes}
use Rattle.ix_tree.specs.Grammar.{Derives}
use Rattle.ix_tree.specs.Parsing.{is_tree}
use Rattle.ix_tree.specs.Trees.{TextTree}
use Rattle.ix_tree.specs.TypedTrees.{TypedTextTree}
use Rattle.ix_tree.specs.Unrolling.{outcome}
use Rattle.ix_tree.proofs.Parts.{lexes_unique}
use Rattle.ix_tree.proofs.Verdicts.{one_verdict}
use Rattle.ix_typing.specs.Laws.{IsTyped}
use Rattle.ix_typing.specs.Texts.{judged_text}
use Rattle.ix_typing.proofs.ErasingTexts.{text_erased}
use Rattle.ix_extension.specs.Extensions.{ExtensionTree, extension_of}
use Rattle.ix_extension.specs.WellFormed.{IsOf}
use Rattle.ix_elab.specs.declared.error.FrontErr.{FrontErr}
use Rattle.ix_elab.specs.Elaborating.{IsTree, IsUnrolled, HasTypes, Elaborates}
use Rattle.ix_elab.specs.Refusing.{IsRefused}
use Rattle.ix_elab.proofs.Unique.{stage_of, extension_or_stage}

same_tokens : (bytes : List ℕ) (xs ys : List Token) → Lexes bytes xs → Lexes bytes ys → xs ≡ ys
same_tokens bytes xs ys x y = lexes_unique x.reads y.reads

same_tree : (bytes : List ℕ) (x y : TextTree) → IsTree bytes x → IsTree bytes y → x ≡ y
same_tree bytes x y p q =
    let k = same_tokens bytes p.tokens q.tokens p.lexed q.lexed in
    let e = one_verdict q.tokens (is_tree x) (is_tree y) (subst (λ (z : List Token). Derives z x) k p.derived) q.derived in cc

same_unrolled : (bytes : List ℕ) (x y : TextTree) → IsUnrolled bytes x → IsUnrolled bytes y → x ≡ y
same_unrolled bytes x y p q = let e = sym p.unrolled ∙ ap outcome (same_tree bytes p.looped q.looped p.tree q.tree) ∙ q.unrolled in cc

same_types : (bytes : List ℕ) (x y : TypedTextTree) → HasTypes bytes x → HasTypes bytes y → x ≡ y
same_types bytes x y p q = let e = sym p.judged ∙ ap judged_text (same_unrolled bytes p.flat q.flat p.tree q.tree) ∙ q.judged in cc

pub same_extension : (bytes : List ℕ) (x y : ExtensionTree) → Elaborates bytes x → Elaborates bytes y → x ≡ y
same_extension bytes x y p q = p.parts ∙ ap extension_of (same_types bytes p.text q.text p.typed q.typed) ∙ sym q.parts

pub extension_not_refused : (bytes : List ℕ) (x : ExtensionTree) (e : FrontErr) → Elaborates bytes x → IsRefused bytes e → ⊥
extension_not_refused bytes x e p q = extension_or_stage bytes x e p (stage_of bytes e q.some q.cause)

typed_is : (flat : TextTree) (t : TypedTextTree) → judged_text flat ≡ Ok t → IsTyped t
typed_is flat t e =
    let P : TextTree → Type 0 = λ z. judged_text z ≡ Ok t in
    subst P (sym (text_erased flat t e)) e

pub is_well_formed : (bytes : List ℕ) (x : ExtensionTree) → Elaborates bytes x → (t : TypedTextTree) × IsOf t x
is_well_formed bytes x p = (p.text, record { typed = typed_is p.typed.flat p.text p.typed.judged; sound = p.sound; parts = p.parts })
